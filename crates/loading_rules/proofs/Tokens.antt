-- Tokens differ, and the next one was neither released nor used.
use Rattle.std.proofs.Common.{◌≡◌, ◌⊎◌, inl, inr, ℕ, suc, ◌≤◌, ◌<◌, List, [], ◌∷◌, ◌++◌, length, Bool, true, false, ◌||◌, refl, sym, ap, ◌∙◌, subst, arith, eqb, ne_eqb, All}
use Rattle.std.specs.Prelude.{Some, None, if◌then◌else◌}
use Rattle.std.specs.List.{list_any}
use Rattle.std.proofs.lemmas.Bool.{eqb-true}
use Rattle.std.proofs.lemmas.List.Elements.{All-append}
use Rattle.journal_entries.specs.declared.act.Act.{Act}
use Rattle.journal_entries.specs.declared.act.Act.TheVariants.{Acquired, Released}
use Rattle.journal_entries.specs.declared.act.Entry.{Entry}
use Rattle.journal_rules.specs.Documents.{is_in}
use Rattle.journal_rules.specs.Locks.{Acquiring, acquirings, acquired_by, last_acquiring, token_in, next_token, released_by, released}
use Rattle.journal_rules.proofs.Pushing.{last_acquiring-push, last_acquiring-none, released-push, released-none}
use Rattle.journal_rules.proofs.Lists.{some_same}
use Rattle.journal_rules.proofs.Fencing.{acquirings_more}
use Rattle.loading_rules.proofs.Fencing.{token_bound}
use Rattle.journal_rules.proofs.Waits.{all_map, all_none, all_one}
use Rattle.loading_rules.specs.LegalBut.{IsLegalBut, IsAllowedBut}
use Rattle.loading_rules.proofs.Legality.{Keeps, by_last}

-- a token that was released was given before
pub released_low : (j : List Entry) → IsLegalBut j → All (λ t. t ≤ length (acquirings j)) (released j)
released_low = by_last (λ j. All (λ t. t ≤ length (acquirings j)) (released j)) none more
  where
    none : All (λ t. t ≤ length (acquirings [])) (released [])
    none = subst (λ (l : List ℕ). All (λ t. t ≤ length (acquirings [])) l) (sym released-none) (all_none (λ t. t ≤ length (acquirings [])))

    one : (h : List Entry) (seat : ℕ) (a : Act) → IsLegalBut h → IsAllowedBut h seat a → All (λ t. t ≤ length (acquirings h)) (released_by a)
    one h seat (Released doc token) legal may = all_one (λ t. t ≤ length (acquirings h)) token
        (let b = token_bound doc h legal in let l = ap token_in may.held.last in let t = may.token_is in omega (arith, b, l, t))
    one h seat _ legal may = all_none (λ t. t ≤ length (acquirings h))

    more : Keeps (λ j. All (λ t. t ≤ length (acquirings j)) (released j))
    more h e legal may all =
        let P : ℕ → Type 0 = λ t. t ≤ length (acquirings (h ++ e ∷ [])) in
        let on : (t : ℕ) → t ≤ length (acquirings h) → P t = λ t le. let a = acquirings_more h e in omega (arith, a, le) in
        subst (λ (l : List ℕ). All P l) (sym (released-push h e))
        (All-append P (released h) (released_by e.act) (all_map (λ t. t ≤ length (acquirings h)) P (released h) on all) (all_map (λ t. t ≤ length (acquirings h)) P (released_by e.act) on (one h e.seat e.act legal may)))

pub not_in : (n : ℕ) (ts : List ℕ) → All (λ t. t < n) ts → is_in n ts ≡ false
not_in n [] all = refl
not_in n (t ∷ ts) all =
    let low : t < n = all 0 0 (omega arith) in
    ap (λ b. b || list_any (λ c. eqb c n) ts) (ne_eqb t n (λ is. let z = is in absurd (omega (arith, z, low)))) ∙ not_in n ts (λ k d lt. all (suc k) d (omega (arith, lt)))

-- so the next token wasn't released
pub next_unreleased : (j : List Entry) → IsLegalBut j → is_in (next_token j) (released j) ≡ false
next_unreleased j legal = not_in (next_token j) (released j) (all_map (λ t. t ≤ length (acquirings j)) (λ t. t < next_token j) (released j) (λ t le. omega (arith, le)) (released_low j legal))

-- what the last acquiring of a document is behind an entry: as it was, or that of the entry
pub record IsFresh (d : ℕ) (h : List Entry) (seat : ℕ) (act : Act) (a : Acquiring) : Type 0 where
  pub token : ℕ
  pub until : ℕ
  pub act_is : act ≡ Acquired d token until
  pub acquiring_is : a ≡ record { seat = seat; doc = d; token = token; until = until }
  pub token_is : a.token ≡ token

pub last_or_new : (d : ℕ) (h : List Entry) (seat : ℕ) (act : Act) (a : Acquiring) → acquired_by d seat act (last_acquiring d h) ≡ Some a → (last_acquiring d h ≡ Some a) ⊎ IsFresh d h seat act a
last_or_new d h seat (Acquired doc token until) a is = by (eqb doc d) refl is
  where
    by : (b : Bool) → eqb doc d ≡ b → (if b then Some (record { seat = seat; doc = doc; token = token; until = until }) else last_acquiring d h) ≡ Some a → (last_acquiring d h ≡ Some a) ⊎ IsFresh d h seat (Acquired doc token until) a
    by true same is =
        let x : Acquiring = record { seat = seat; doc = doc; token = token; until = until } in
        inr (record {
          token = token;
          until = until;
          act_is = ap (λ n. Acquired n token until) (eqb-true doc d same);
          acquiring_is = sym (some_same x a is) ∙ ap (λ n. record { seat = seat; doc = n; token = token; until = until }) (eqb-true doc d same);
          token_is = ap (λ (y : Acquiring). y.token) (sym (some_same x a is));
        })
    by false same is = inl is
last_or_new d h seat _ a is = inl is

-- two documents have two tokens
abbrev Differ : List Entry → Type 0
Differ j = (d k : ℕ) (a b : Acquiring) → last_acquiring d j ≡ Some a → last_acquiring k j ≡ Some b → a.token ≡ b.token → d ≡ k

pub tokens_differ : (j : List Entry) → IsLegalBut j → Differ j
tokens_differ = by_last Differ none more
  where
    none : Differ []
    none d k a b a_is b_is same = let f : None ≡ Some a = sym (last_acquiring-none d) ∙ a_is in absurd (cc)

    low : (h : List Entry) → IsLegalBut h → (d : ℕ) (a : Acquiring) → last_acquiring d h ≡ Some a → a.token ≤ length (acquirings h)
    low h legal d a is = let b = token_bound d h legal in let t = ap token_in is in omega (arith, b, t)

    given : (h : List Entry) (seat : ℕ) (d token until : ℕ) (act : Act) → act ≡ Acquired d token until → IsAllowedBut h seat act → token ≡ next_token h
    given h seat d token until act is may = (subst (λ (x : Act). IsAllowedBut h seat x) is may).token_is

    docs : (d k t u t' u' : ℕ) (act : Act) → act ≡ Acquired d t u → act ≡ Acquired k t' u' → d ≡ k
    docs d k t u t' u' act is is' = doc_of (sym is ∙ is')
      where
        doc_in : Act → ℕ
        doc_in (Acquired doc token until) = doc
        doc_in _ = 0

        doc_of : Acquired d t u ≡ Acquired k t' u' → d ≡ k
        doc_of e = ap doc_in e

    by : (h : List Entry) (e : Entry) → IsLegalBut h → IsAllowedBut h e.seat e.act → Differ h → (d k : ℕ) (a b : Acquiring) → a.token ≡ b.token
        → (last_acquiring d h ≡ Some a) ⊎ IsFresh d h e.seat e.act a → (last_acquiring k h ≡ Some b) ⊎ IsFresh k h e.seat e.act b → d ≡ k
    by h e legal may was d k a b same (inl x) (inl y) = was d k a b x y same
    by h e legal may was d k a b same (inl x) (inr y) =
        let l = low h legal d a x in let g = given h e.seat k y.token y.until e.act y.act_is may in let t = y.token_is in absurd (omega (arith, l, g, t, same))
    by h e legal may was d k a b same (inr x) (inl y) =
        let l = low h legal k b y in let g = given h e.seat d x.token x.until e.act x.act_is may in let t = x.token_is in absurd (omega (arith, l, g, t, same))
    by h e legal may was d k a b same (inr x) (inr y) = docs d k x.token x.until y.token y.until e.act x.act_is y.act_is

    more : Keeps Differ
    more h e legal may was d k a b a_is b_is same =
        by h e legal may was d k a b same (last_or_new d h e.seat e.act a (sym (last_acquiring-push d h e) ∙ a_is)) (last_or_new k h e.seat e.act b (sym (last_acquiring-push k h e) ∙ b_is))
