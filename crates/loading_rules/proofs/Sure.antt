-- Legality over keepers of a type, entry by entry.
use Rattle.std.proofs.Common.{inl, inr, List, [], ◌∷◌, ◌++◌, Bool, sym, ◌∙◌}
use Rattle.std.proofs.lemmas.Bool.{or_parts}
use Rattle.std.proofs.lemmas.List.Folds.{list_any-append}
use Rattle.journal_entries.specs.declared.act.Entry.{Entry}
use Rattle.journal_rules.specs.Legal.{IsLegal}
use Rattle.journal_rules.proofs.Legality as rules
use Rattle.loading_rules.specs.Sure.{IsAllowedOver, IsLegalOver, IsSure, has_loaded, is_loaded}
use Rattle.loading_rules.proofs.Legality.{legal_push}
use Rattle.loading_rules.proofs.Weakening.{legal_but}

-- what a journal began with is sure where it is
pub sure_front : (tells : Bool) (j more : List Entry) → IsSure tells (j ++ more) → IsSure tells j
sure_front tells j more (inl told) = inl told
sure_front tells j more (inr none) = inr (or_parts (has_loaded j) (has_loaded more) (sym (list_any-append (λ (e : Entry). is_loaded e.act) j more) ∙ none)).0

pub over_push : (tells : Bool) (j : List Entry) (e : Entry) → IsLegalOver tells j → IsAllowedOver tells j e → IsLegalOver tells (j ++ e ∷ [])
over_push tells j e legal may = record {
  but = legal_push j e legal.but may.but;
  whole = λ sure. rules.legal_push j e (legal.whole (sure_front tells j (e ∷ []) sure)) (may.whole sure);
}

pub over_legal : (tells : Bool) (j : List Entry) → IsLegal j → IsLegalOver tells j
over_legal tells j legal = record { but = legal_but j legal; whole = λ sure. legal }
