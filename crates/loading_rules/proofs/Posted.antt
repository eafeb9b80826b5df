-- What is posted to a client is of versions below its document's, and passable.
use Rattle.std.proofs.Common.{◌≡◌, ◌⊎◌, inl, inr, ℕ, zero, suc, ◌+◌, ◌^◌, ◌-◌, ◌<◌, ◌≤◌, List, [], ◌∷◌, ◌++◌, length, Bool, true, false, refl, sym, ap, ◌∙◌, subst, arith, eqb, eq-eqb}
use Rattle.std.specs.Prelude.{Option, Some, None, if◌then◌else◌, slice_get, option_map}
use Rattle.std.proofs.lemmas.Bool.{cases_lt, eqb-true}
use Rattle.ot_op.specs.declared.comp.Comp.{Comp}
use Rattle.journal_entries.specs.declared.limits.TheConstants.{MAX_ENTRIES}
use Rattle.journal_entries.specs.declared.update.Update.{Update}
use Rattle.journal_entries.specs.declared.update.Outcome.{Outcome}
use Rattle.journal_entries.specs.declared.update.Outcome.TheVariants.{Applied, Dup, Refused}
use Rattle.journal_entries.specs.declared.message.Msg.{Msg}
use Rattle.journal_entries.specs.declared.message.Msg.TheVariants.{Op, Ack, Error}
use Rattle.journal_entries.specs.declared.act.Act.{Act}
use Rattle.journal_entries.specs.declared.act.Act.TheVariants.{Joined as JoinedAct, Committed, Got, Left as LeftAct}
use Rattle.journal_entries.specs.declared.act.Entry.{Entry}
use Rattle.journal_rules.specs.Documents.{IsMade, Making, makings, base_in, item_of, items_by, version, update_at}
use Rattle.journal_rules.specs.Mail.{told_of, Outbox, posted_to, one_got, outbox_by, outbox, mail_in, mail}
use Rattle.journal_rules.proofs.Pushing.{outbox-push, outbox-none}
use Rattle.journal_rules.proofs.Growing.{version-push}
use Rattle.journal_rules.proofs.Lists.{AllIn, all_in-append, all_in_map}
use Rattle.journal_sizes.specs.Sizes.{IsSizedMsg}
use Rattle.journal_sizes.proofs.Updates.{all_in_drop}
use Rattle.loading_rules.specs.Passable.{IsPassable}
use Rattle.loading_rules.specs.LegalBut.{IsLegalBut, IsAllowedBut}
use Rattle.loading_rules.proofs.Legality.{Keeps, by_last}
use Rattle.loading_rules.proofs.Unmade.{unmade_applied, version_low}
use Rattle.loading_rules.proofs.Fencing.{acquired_made}
use Rattle.loading_rules.proofs.Items.{SaysOf, outcome_says, dup_below, passable_sized}

-- ---- a document's version never falls
unmade_making : (ms : List Making) (d : ℕ) → length ms ≤ d → base_in (slice_get ms d) ≡ 0
unmade_making [] d high = refl
unmade_making (m ∷ ms) zero high = absurd (omega (arith, high))
unmade_making (m ∷ ms) (suc d) high = unmade_making ms d (omega (arith, high))

pub version_grows : (d : ℕ) (h : List Entry) (e : Entry) → IsLegalBut h → version d h ≤ version d (h ++ e ∷ [])
version_grows d h e legal = by (cases_lt d (length (makings h)))
  where
    by : (d < length (makings h)) ⊎ (length (makings h) ≤ d) → version d h ≤ version d (h ++ e ∷ [])
    by (inl made) = let p = version-push d h e made in omega (arith, p)
    by (inr high) = let b = unmade_making (makings h) d high in let l = ap length (unmade_applied d h legal high) in omega (arith, b, l)

-- ---- messages
-- a message of a version below this one, whose operation is passable
abbrev pub FitsBelow : ℕ → Msg → Type 0
FitsBelow n (Op v op source) = (v < n) × IsPassable op
FitsBelow n (Ack v number) = v < n
FitsBelow n (Error number cause) = Unit {0}

fits_higher : (m n : ℕ) → m ≤ n → (msg : Msg) → FitsBelow m msg → FitsBelow n msg
fits_higher m n le (Op v op source) fits = let l = fits.0 in (omega (arith, l, le), fits.1)
fits_higher m n le (Ack v number) fits = omega (arith, fits, le)
fits_higher m n le (Error number cause) fits = tt

module _ (h : List Entry) (e : Entry) (doc token ticket : ℕ) (legal : IsLegalBut h) (made : IsMade doc h) where
  one_more : (v : ℕ) (op : List Comp) (u : Update) → e.act ≡ Committed doc token ticket (Applied v op) → update_at h ticket ≡ Some u → version doc (h ++ e ∷ []) ≡ version doc h + 1
  one_more v op u is known =
      let p = version-push doc h e made in
      let n : length (items_by doc h e.act) ≡ 1 = ap (λ a. length (items_by doc h a)) is ∙ ap (λ b. length (if b then item_of ticket (update_at h ticket) (Applied v op) else [])) (eq-eqb doc doc refl) ∙ ap (λ o. length (item_of ticket o (Applied v op))) known in
      omega (arith, p, n)

  told_one : (b : Bool) (x y : Msg) (n : ℕ) → FitsBelow n x → FitsBelow n y → AllIn (FitsBelow n) (if b then x ∷ [] else y ∷ [])
  told_one true x y n p q = (p, tt)
  told_one false x y n p q = (q, tt)

  told_own : (b : Bool) (x : Msg) (n : ℕ) → FitsBelow n x → AllIn (FitsBelow n) (if b then x ∷ [] else [])
  told_own true x n p = (p, tt)
  told_own false x n p = tt

  told_fits : (source : ℕ) (o : Option Update) (outcome : Outcome) → update_at h ticket ≡ o → e.act ≡ Committed doc token ticket outcome → SaysOf doc h outcome → AllIn (FitsBelow (version doc (h ++ e ∷ []))) (told_of source o outcome)
  told_fits source None outcome known is says = tt
  told_fits source (Some u) (Applied v op) known is says =
      let at = says.0 in
      let next = one_more v op u is known in
      let low : v < version doc (h ++ e ∷ []) = omega (arith, at, next) in
      told_one (eqb u.source source) (Ack v u.number) (Op v op u.source) (version doc (h ++ e ∷ [])) low (low, says.1)
  told_fits source (Some u) (Dup v) known is says =
      let low = dup_below doc v h legal says in
      let grows = version_grows doc h e legal in
      told_own (eqb u.source source) (Ack v u.number) (version doc (h ++ e ∷ [])) (omega (arith, low, grows))
  told_fits source (Some u) (Refused cause) known is says = told_own (eqb u.source source) (Error u.number cause) (version doc (h ++ e ∷ [])) tt

abbrev ArePosted : List Entry → Option Outbox → Type 0
ArePosted j None = Unit {0}
ArePosted j (Some box) = AllIn (FitsBelow (version box.doc j)) box.posted

posted_on : (h : List Entry) (e : Entry) → IsLegalBut h → (o : Option Outbox) → ArePosted h o → ArePosted (h ++ e ∷ []) o
posted_on h e legal None all = tt
posted_on h e legal (Some box) all = all_in_map (FitsBelow (version box.doc h)) (FitsBelow (version box.doc (h ++ e ∷ []))) box.posted (fits_higher (version box.doc h) (version box.doc (h ++ e ∷ [])) (version_grows box.doc h e legal)) all

posted_if : (j : List Entry) (b : Bool) (o o' : Option Outbox) → ArePosted j o → ArePosted j o' → ArePosted j (if b then o else o')
posted_if j true o o' p p' = p
posted_if j false o o' p p' = p'

posted_one : (j : List Entry) (o : Option Outbox) → ArePosted j o → ArePosted j (option_map one_got o)
posted_one j None p = tt
posted_one j (Some box) p = p

posted_told : (h : List Entry) (e : Entry) (doc token ticket : ℕ) (outcome : Outcome) → IsLegalBut h → IsMade doc h → e.act ≡ Committed doc token ticket outcome → SaysOf doc h outcome → (o : Option Outbox) → ArePosted (h ++ e ∷ []) o → ArePosted (h ++ e ∷ []) (option_map (posted_to doc h ticket outcome) o)
posted_told h e doc token ticket outcome legal made is says None p = tt
posted_told h e doc token ticket outcome legal made is says (Some box) p = go (eqb doc box.doc) refl
  where
    go : (b : Bool) → eqb doc box.doc ≡ b → ArePosted (h ++ e ∷ []) (Some (if b then record box { posted = box.posted ++ told_of box.source (update_at h ticket) outcome } else box))
    go false apart = p
    go true same =
        let fits = told_fits h e doc token ticket legal made box.source (update_at h ticket) outcome refl is says in
        all_in-append (FitsBelow (version box.doc (h ++ e ∷ []))) box.posted (told_of box.source (update_at h ticket) outcome) p
        (subst (λ d. AllIn (FitsBelow (version d (h ++ e ∷ []))) (told_of box.source (update_at h ticket) outcome)) (eqb-true doc box.doc same) fits)

posted : (c : ℕ) (j : List Entry) → IsLegalBut j → ArePosted j (outbox c j)
posted c = by_last (λ j. ArePosted j (outbox c j)) (subst (ArePosted []) (sym (outbox-none c)) tt) more
  where
    by_act : (h : List Entry) (e : Entry) (a : Act) → e.act ≡ a → IsLegalBut h → IsAllowedBut h e.seat a → ArePosted (h ++ e ∷ []) (outbox c h) → ArePosted (h ++ e ∷ []) (outbox_by c h a (outbox c h))
    by_act h e (JoinedAct client doc user track since source v) is legal may p = posted_if (h ++ e ∷ []) (eqb client c) (Some (record { doc = doc; source = source; posted = []; got = 0 })) (outbox c h) tt p
    by_act h e (LeftAct client) is legal may p = posted_if (h ++ e ∷ []) (eqb client c) None (outbox c h) tt p
    by_act h e (Committed doc token ticket outcome) is legal may p =
        posted_told h e doc token ticket outcome legal (acquired_made doc h legal may.holds.acquiring may.holds.held.last) is (outcome_says doc token ticket h outcome may.ends) (outbox c h) p
    by_act h e (Got client brief) is legal may p = posted_if (h ++ e ∷ []) (eqb client c) (option_map one_got (outbox c h)) (outbox c h) (posted_one (h ++ e ∷ []) (outbox c h) p) p
    by_act h e _ is legal may p = p

    more : Keeps (λ j. ArePosted j (outbox c j))
    more h e legal may p = subst (ArePosted (h ++ e ∷ [])) (sym (outbox-push c h e)) (by_act h e e.act refl legal may (posted_on h e legal (outbox c h) p))

-- ---- the first of the mail
-- it is of the document that the client's outbox is of, at a version below its own
pub first_fits : (c : ℕ) (j : List Entry) (m : Msg) (rest : List Msg) → IsLegalBut j → mail c j ≡ m ∷ rest → (box : Outbox) × (outbox c j ≡ Some box) × FitsBelow (version box.doc j) m
first_fits c j m rest legal first = go (outbox c j) refl first (posted c j legal)
  where
    go : (o : Option Outbox) → outbox c j ≡ o → mail_in o ≡ m ∷ rest → ArePosted j o → (box : Outbox) × (outbox c j ≡ Some box) × FitsBelow (version box.doc j) m
    go None at is p = absurd (cc)
    go (Some box) at is p =
        (box, at, (subst (AllIn (FitsBelow (version box.doc j))) is (all_in_drop (FitsBelow (version box.doc j)) box.got box.posted p)).0)

-- so it is sized
pub first_sized : (c : ℕ) (j : List Entry) (m : Msg) (rest : List Msg) → IsLegalBut j → length j ≤ MAX_ENTRIES → mail c j ≡ m ∷ rest → IsSizedMsg m
first_sized c j m rest legal few first = by m f.2
  where
    f : (box : Outbox) × (outbox c j ≡ Some box) × FitsBelow (version box.doc j) m
    f = first_fits c j m rest legal first

    high : version f.0.doc j < 2 ^ 64 - 1
    high = let low = version_low f.0.doc j legal in omega (arith, low, few)

    by : (m : Msg) → FitsBelow (version f.0.doc j) m → IsSizedMsg m
    by (Op v op source) fits = let l = fits.0 in let h = high in (passable_sized op fits.1, omega (arith, l, h))
    by (Ack v number) fits = let h = high in omega (arith, fits, h)
    by (Error number cause) fits = tt
