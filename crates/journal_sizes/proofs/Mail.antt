-- The first message of a client's mail is sized.
use Rattle.std.proofs.Common.{◌≡◌, inl, inr, ℕ, ◌-◌, ◌^◌, ◌<◌, ◌≤◌, List, [], ◌∷◌, length, true, false, refl, sym, ap, ◌∙◌, subst, arith}
use Rattle.std.specs.List.{drop-map}
use Rattle.journal_entries.specs.declared.limits.TheConstants.{MAX_ENTRIES}
use Rattle.journal_entries.specs.declared.message.Msg.{Msg}
use Rattle.journal_entries.specs.declared.message.Msg.TheVariants.{Op, Ack, Error}
use Rattle.journal_entries.specs.declared.act.Entry.{Entry}
use Rattle.journal_rules.specs.declared.state.ClientState.{ClientState}
use Rattle.journal_rules.specs.declared.state.ClientState.TheVariants.{Away, Joined, Left, Stale}
use Rattle.journal_rules.specs.Documents.{Item, applied_list, base, operations}
use Rattle.journal_rules.specs.Mail.{mail, mail_in}
use Rattle.journal_rules.specs.Client.{client, is_alive}
use Rattle.journal_rules.specs.Legal.{IsLegal}
use Rattle.journal_rules.proofs.Lists.{AllIn}
use Rattle.journal_rules.proofs.Replaying.{ops}
use Rattle.journal_laws.specs.ClientLaw.{Delivers, items_from, Shows}
use Rattle.journal_laws.proofs.Everything.{world}
use Rattle.journal_laws.proofs.Laws.{shows}
use Rattle.journal_sizes.specs.Sizes.{IsSized, IsSizedMsg}
use Rattle.journal_sizes.proofs.Updates.{items_sized, all_in_drop}
use Rattle.journal_sizes.proofs.Counts.{version_within}

head_sized : (x : Item) (rest xs : List Item) → xs ≡ x ∷ rest → AllIn IsSized (ops xs) → IsSized x.op
head_sized x rest xs is all = (subst (λ (l : List Item). AllIn IsSized (ops l)) is all).0

delivered_sized : (source n : ℕ) (items : List Item) (m : Msg) (rest : List Msg) → n < 2 ^ 64 - 1 → AllIn IsSized (ops items) → Delivers source n items (m ∷ rest) → IsSizedMsg m
delivered_sized source n items (Op v op from) rest low all d = let same = d.3 in (subst IsSized (sym d.4) (head_sized d.0 d.1 items d.2 all), omega (arith, same, low))
delivered_sized source n items (Ack v number) rest low all (inl now) = let same = now.3 in omega (arith, same, low)
delivered_sized source n items (Ack v number) rest low all (inr earlier) = let less = earlier.0 in omega (arith, less, low)
delivered_sized source n items (Error number cause) rest low all d = tt

pub ahead_sized : (d n : ℕ) (j : List Entry) → IsLegal j → AllIn IsSized (ops (items_from d n j))
ahead_sized d n j legal = subst (AllIn IsSized) (drop-map (λ (x : Item). x.op) (n - base d j) (applied_list d j)) (all_in_drop IsSized (n - base d j) (operations d j) (items_sized d j legal))

pub mail_sized : (c : ℕ) (j : List Entry) (m : Msg) (rest : List Msg) → IsLegal j → length j ≤ MAX_ENTRIES → is_alive (client c j).state ≡ true → mail c j ≡ m ∷ rest → IsSizedMsg m
mail_sized c j m rest legal few lives is = by (client c j).state refl
  where
    by : (st : ClientState) → (client c j).state ≡ st → IsSizedMsg m
    by Joined at =
        let sh : Shows c j (client c j) = shows c j legal lives in
        let low = version_within c j legal lives in
        delivered_sized (client c j).source (client c j).version (items_from (client c j).doc (client c j).version j) m rest (omega (arith, low, few)) (ahead_sized (client c j).doc (client c j).version j legal)
        (subst (λ (ms : List Msg). Delivers (client c j).source (client c j).version (items_from (client c j).doc (client c j).version j) ms) is (sh.mail_is at))
    by Left at =
        let none : mail c j ≡ [] = ap mail_in (((world j legal).clients c lives).gone at) in
        let no : [] ≡ m ∷ rest = sym none ∙ is in absurd (cc)
    by Away at = let no : true ≡ false = sym lives ∙ ap is_alive at in absurd (cc)
    by Stale at = let no : true ≡ false = sym lives ∙ ap is_alive at in absurd (cc)
