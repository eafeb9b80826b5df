-- The mail at a client's places.
use Rattle.std.proofs.Common.{◌≡◌, ◌⊎◌, ℕ, zero, suc, ◌+◌, ◌<◌, ◌≤◌, List, [], ◌∷◌, ◌++◌, length, map, Bool, true, false, ◌&&◌, refl, sym, ap, ap₂, ◌∙◌, subst, inl, inr, arith, eqb, drop, append-nil, length-append, All}
use Rattle.std.specs.Prelude.{Option, Some, None, if◌then◌else◌, slice_get, option_map}
use Rattle.std.proofs.lemmas.Bool.{eqb-true}
use Rattle.std.proofs.lemmas.Option.{slice_get_within}
use Rattle.journal_entries.specs.declared.update.Update.{Update}
use Rattle.journal_entries.specs.declared.update.Outcome.{Outcome}
use Rattle.journal_entries.specs.declared.update.Outcome.TheVariants.{Applied, Dup, Refused}
use Rattle.journal_entries.specs.declared.message.Msg.{Msg}
use Rattle.journal_entries.specs.declared.message.Msg.TheVariants.{Op, Ack, Error}
use Rattle.journal_entries.specs.declared.act.Act.{Act}
use Rattle.journal_entries.specs.declared.act.Act.TheVariants.{Joined as JoinedAct, Committed, Got, Left as LeftAct}
use Rattle.journal_entries.specs.declared.act.Entry.{Entry}
use Rattle.journal_rules.specs.Documents.{update_at}
use Rattle.journal_rules.specs.Mail.{told, told_of, Outbox, posted_to, one_got, outbox_by, outbox, mail_in, mail}
use Rattle.journal_rules.proofs.Pushing.{outbox-push, outbox-none}
use Rattle.journal_rules.proofs.Legality.{front, seam}
use Rattle.journal_rules.proofs.Waits.{update_stays}
use Rattle.journal_rules.proofs.Lists.{drop_next, drop_within, drop_front}
use Rattle.mail_places.specs.Places.{Placed, is_told, with_place, placed_if_told, without_first, placed_by, placed, told_by, told_in, told_at, IsMail, IsMailIn}
use Rattle.mail_places.proofs.Placing.{placed-push, placed-none}
use Rattle.loading_rules.specs.LegalBut.{IsLegalBut, IsAllowedBut}
use Rattle.loading_rules.proofs.Legality.{Keeps, by_last}

-- ---- what is told at a place
-- an outcome is told by one message at most
pub told_short : (source : ℕ) (o : Option Update) (outcome : Outcome) → (told_of source o outcome ≡ []) ⊎ ((m : Msg) × (told_of source o outcome ≡ m ∷ []))
told_short source None outcome = inl refl
told_short source (Some u) (Applied v op) = go (eqb u.source source)
  where
    go : (b : Bool) → ((if b then Ack v u.number ∷ [] else Op v op u.source ∷ []) ≡ []) ⊎ ((m : Msg) × ((if b then Ack v u.number ∷ [] else Op v op u.source ∷ []) ≡ m ∷ []))
    go true = inr (Ack v u.number, refl)
    go false = inr (Op v op u.source, refl)
told_short source (Some u) (Dup v) = go (eqb u.source source)
  where
    go : (b : Bool) → ((if b then Ack v u.number ∷ [] else []) ≡ []) ⊎ ((m : Msg) × ((if b then Ack v u.number ∷ [] else []) ≡ m ∷ []))
    go true = inr (Ack v u.number, refl)
    go false = inl refl
told_short source (Some u) (Refused cause) = go (eqb u.source source)
  where
    go : (b : Bool) → ((if b then Error u.number cause ∷ [] else []) ≡ []) ⊎ ((m : Msg) × ((if b then Error u.number cause ∷ [] else []) ≡ m ∷ []))
    go true = inr (Error u.number cause, refl)
    go false = inl refl

-- what is told stays as the journal grows
told_by_on : (h more : List Entry) (source : ℕ) (a : Act) (m : Msg) → told_by h source a ≡ Some m → told_by (h ++ more) source a ≡ Some m
told_by_on h more source (Committed doc token ticket outcome) m is = go (update_at h ticket) refl is
  where
    go : (o : Option Update) → update_at h ticket ≡ o → slice_get (told_of source o outcome) 0 ≡ Some m → slice_get (told_of source (update_at (h ++ more) ticket) outcome) 0 ≡ Some m
    go None at is = absurd (cc)
    go (Some u) at is = ap (λ o. slice_get (told_of source o outcome) 0) (update_stays h more ticket u at) ∙ is
told_by_on h more source _ m is = absurd (cc)

pub told_on : (h more : List Entry) (source place : ℕ) (m : Msg) → told_at h source place ≡ Some m → told_at (h ++ more) source place ≡ Some m
told_on h more source place m is = go (slice_get h place) refl is
  where
    go : (o : Option Entry) → slice_get h place ≡ o → told_in h source o ≡ Some m → told_at (h ++ more) source place ≡ Some m
    go None at is = absurd (cc)
    go (Some e) at is = ap (told_in (h ++ more) source) (front h more place e at) ∙ told_by_on h more source e.act m is

pub told_within : (h : List Entry) (source place : ℕ) (m : Msg) → told_at h source place ≡ Some m → place < length h
told_within h source place m is = go (slice_get h place) refl is
  where
    go : (o : Option Entry) → slice_get h place ≡ o → told_in h source o ≡ Some m → place < length h
    go None at is = absurd (cc)
    go (Some e) at is = slice_get_within h place e at

-- the new entry's message
told_here : (h : List Entry) (e : Entry) (doc token ticket : ℕ) (outcome : Outcome) (source : ℕ) (m : Msg) → e.act ≡ Committed doc token ticket outcome → told_of source (update_at h ticket) outcome ≡ m ∷ [] → told_at (h ++ e ∷ []) source (length h) ≡ Some m
told_here h e doc token ticket outcome source m is told =
    ap (told_in (h ++ e ∷ []) source) (seam h e [])
    ∙ ap (told_by (h ++ e ∷ []) source) is
    ∙ told_by_on h (e ∷ []) source (Committed doc token ticket outcome) m (ap (λ (l : List Msg). slice_get l 0) told)

-- ---- lists of places and of messages
abbrev AreTold : List Entry → ℕ → List ℕ → List Msg → Type 0
AreTold j source places ms = map (told_at j source) places ≡ map Some ms

told_all_on : (h more : List Entry) (source : ℕ) (places : List ℕ) (ms : List Msg) → AreTold h source places ms → AreTold (h ++ more) source places ms
told_all_on h more source [] [] is = refl
told_all_on h more source [] (m ∷ ms) is = absurd (cc)
told_all_on h more source (n ∷ ns) [] is = absurd (cc)
told_all_on h more source (n ∷ ns) (m ∷ ms) is =
    let one : told_at h source n ≡ Some m = cc in
    let rest : map (told_at h source) ns ≡ map Some ms = cc in
    ap₂ (λ (x : Option Msg) (l : List (Option Msg)). x ∷ l) (told_on h more source n m one) (told_all_on h more source ns ms rest)

map_push : {A B : Type 0} (f : A → B) (xs : List A) (x : A) → map f (xs ++ x ∷ []) ≡ map f xs ++ f x ∷ []
map_push f [] x = refl
map_push f (y ∷ ys) x = ap (λ l. f y ∷ l) (map_push f ys x)

told_all_push : (j : List Entry) (source : ℕ) (places : List ℕ) (ms : List Msg) (n : ℕ) (m : Msg) → AreTold j source places ms → told_at j source n ≡ Some m → AreTold j source (places ++ n ∷ []) (ms ++ m ∷ [])
told_all_push j source places ms n m is one =
    map_push (told_at j source) places n
    ∙ ap₂ (λ (l : List (Option Msg)) (x : Option Msg). l ++ x ∷ []) is one
    ∙ sym (map_push (λ (y : Msg). Some y) ms m)

told_all_rest : (j : List Entry) (source : ℕ) (places : List ℕ) (m : Msg) (ms : List Msg) → AreTold j source places (m ∷ ms) → AreTold j source (drop 1 places) ms
told_all_rest j source [] m ms is = absurd (cc)
told_all_rest j source (n ∷ ns) m ms is = cc

told_all_within : (j : List Entry) (source : ℕ) (places : List ℕ) (ms : List Msg) → AreTold j source places ms → All (λ n. n < length j) places
told_all_within j source [] ms is k d lt = absurd (omega arith)
told_all_within j source (n ∷ ns) [] is k d lt = absurd (cc)
told_all_within j source (n ∷ ns) (m ∷ ms) is zero d lt = let one : told_at j source n ≡ Some m = cc in told_within j source n m one
told_all_within j source (n ∷ ns) (m ∷ ms) is (suc k) d lt = let rest : map (told_at j source) ns ≡ map Some ms = cc in told_all_within j source ns ms rest k d (omega arith)

-- ---- an outbox, and the places of its mail
pub record IsTied (j : List Entry) (box : Outbox) (p : Placed) : Type 0 where
  pub doc_is : box.doc ≡ p.doc
  pub source_is : box.source ≡ p.source
  pub within : box.got ≤ length box.posted
  pub told : AreTold j p.source p.places (drop box.got box.posted)

abbrev AreTied : List Entry → Option Outbox → Option Placed → Type 0
AreTied j None None = Unit {0}
AreTied j None (Some p) = ⊥
AreTied j (Some box) None = ⊥
AreTied j (Some box) (Some p) = IsTied j box p

tied_on : (h more : List Entry) (o : Option Outbox) (p : Option Placed) → AreTied h o p → AreTied (h ++ more) o p
tied_on h more None None t = t
tied_on h more None (Some p) t = t
tied_on h more (Some box) None t = t
tied_on h more (Some box) (Some p) t = record { doc_is = t.doc_is; source_is = t.source_is; within = t.within; told = told_all_on h more p.source p.places (drop box.got box.posted) t.told }

-- one of the two parts of a client's act, or neither
tied_if : (j : List Entry) (b : Bool) (o o' : Option Outbox) (p p' : Option Placed) → (b ≡ true → AreTied j o p) → AreTied j o' p' → AreTied j (if b then o else o') (if b then p else p')
tied_if j true o o' p p' t t' = t refl
tied_if j false o o' p p' t t' = t'

-- a commit, of a box of this document and source
commit_parts : (h : List Entry) (e : Entry) (doc token ticket : ℕ) (outcome : Outcome) → e.act ≡ Committed doc token ticket outcome → (d source got : ℕ) (posted : List Msg) (places : List ℕ) → got ≤ length posted → AreTold h source places (drop got posted)
    → IsTied (h ++ e ∷ []) (posted_to doc h ticket outcome (record { doc = d; source = source; posted = posted; got = got })) (placed_if_told doc h ticket outcome (record { doc = d; source = source; places = places }))
commit_parts h e doc token ticket outcome is d source got posted places within are =
    go (eqb doc d) (told_of source (update_at h ticket) outcome) refl (told_short source (update_at h ticket) outcome)
  where
    box : Outbox
    box = record { doc = d; source = source; posted = posted; got = got }

    p : Placed
    p = record { doc = d; source = source; places = places }

    later : AreTold (h ++ e ∷ []) source places (drop got posted)
    later = told_all_on h (e ∷ []) source places (drop got posted) are

    go : (b : Bool) (ms : List Msg) → told_of source (update_at h ticket) outcome ≡ ms → (ms ≡ []) ⊎ ((m : Msg) × (ms ≡ m ∷ []))
        → IsTied (h ++ e ∷ []) (if b then record box { posted = posted ++ ms } else box) (if b && is_told ms then with_place (length h) p else p)
    go false ms told short = record { doc_is = refl; source_is = refl; within = within; told = later }
    go true [] told short = record { doc_is = refl; source_is = refl; within = let l = length-append posted [] in omega (arith, within, l); told = later ∙ ap (λ (l : List Msg). map (λ (y : Msg). Some y) (drop got l)) (sym (append-nil posted)) }
    go true (m ∷ ms) told (inl none) = absurd (cc)
    go true (m ∷ ms) told (inr one) =
        let m_is : m ∷ ms ≡ one.0 ∷ [] = one.1 in
        let same : m ≡ one.0 = cc in
        let rest : ms ≡ [] = cc in
        let l : length (posted ++ m ∷ ms) ≡ length posted + length (m ∷ ms) = length-append posted (m ∷ ms) in
        record {
          doc_is = refl;
          source_is = refl;
          within = omega (arith, within, l);
          told = told_all_push (h ++ e ∷ []) source places (drop got posted) (length h) m later (told_here h e doc token ticket outcome source m is (told ∙ ap (λ (l : List Msg). m ∷ l) rest))
              ∙ ap (λ (l : List Msg). map (λ (y : Msg). Some y) l) (ap (λ (l : List Msg). drop got posted ++ m ∷ l) (sym rest) ∙ sym (drop_front got posted (m ∷ ms) within));
        }

commits : (h : List Entry) (e : Entry) (doc token ticket : ℕ) (outcome : Outcome) → e.act ≡ Committed doc token ticket outcome → (o : Option Outbox) (p : Option Placed) → AreTied h o p
    → AreTied (h ++ e ∷ []) (option_map (posted_to doc h ticket outcome) o) (option_map (placed_if_told doc h ticket outcome) p)
commits h e doc token ticket outcome is None None t = t
commits h e doc token ticket outcome is None (Some p) t = t
commits h e doc token ticket outcome is (Some box) None t = t
commits h e doc token ticket outcome is (Some box) (Some p) t =
    let p_is : record { doc = box.doc; source = box.source; places = p.places } ≡ p = ap₂ (λ d s. let x : Placed = record { doc = d; source = s; places = p.places } in x) t.doc_is t.source_is in
    subst (λ (x : Placed). IsTied (h ++ e ∷ []) (posted_to doc h ticket outcome box) (placed_if_told doc h ticket outcome x)) p_is
    (commit_parts h e doc token ticket outcome is box.doc box.source box.got box.posted p.places t.within (subst (λ s. AreTold h s p.places (drop box.got box.posted)) (sym t.source_is) t.told))

-- one that gets the first of its mail
gets : (j : List Entry) (o : Option Outbox) (p : Option Placed) (m : Msg) (rest : List Msg) → mail_in o ≡ m ∷ rest → AreTied j o p → AreTied j (option_map one_got o) (option_map without_first p)
gets j None p m rest first t = absurd (cc)
gets j (Some box) None m rest first t = t
gets j (Some box) (Some p) m rest first t = record {
  doc_is = t.doc_is;
  source_is = t.source_is;
  within = drop_within box.got box.posted m rest first;
  told = told_all_rest j p.source p.places m rest (t.told ∙ ap (λ (l : List Msg). map (λ (y : Msg). Some y) l) first) ∙ ap (λ (l : List Msg). map (λ (y : Msg). Some y) l) (sym (drop_next box.got box.posted m rest first));
}

pub tied : (c : ℕ) (j : List Entry) → IsLegalBut j → AreTied j (outbox c j) (placed c j)
tied c = by_last (λ j. AreTied j (outbox c j) (placed c j)) none more
  where
    none : AreTied [] (outbox c []) (placed c [])
    none = subst (λ (o : Option Outbox). AreTied [] o (placed c [])) (sym (outbox-none c)) (subst (λ (p : Option Placed). AreTied [] None p) (sym (placed-none c)) tt)

    by_act : (h : List Entry) (e : Entry) (a : Act) → e.act ≡ a → IsAllowedBut h e.seat a → AreTied h (outbox c h) (placed c h) → AreTied (h ++ e ∷ []) (outbox_by c h a (outbox c h)) (placed_by c h a (placed c h))
    by_act h e (JoinedAct client doc user track since source v) is may t =
        tied_if (h ++ e ∷ []) (eqb client c) (Some (record { doc = doc; source = source; posted = []; got = 0 })) (outbox c h) (Some (record { doc = doc; source = source; places = [] })) (placed c h)
        (λ same. record { doc_is = refl; source_is = refl; within = omega arith; told = refl }) (tied_on h (e ∷ []) (outbox c h) (placed c h) t)
    by_act h e (LeftAct client) is may t = tied_if (h ++ e ∷ []) (eqb client c) None (outbox c h) None (placed c h) (λ same. tt) (tied_on h (e ∷ []) (outbox c h) (placed c h) t)
    by_act h e (Committed doc token ticket outcome) is may t = commits h e doc token ticket outcome is (outbox c h) (placed c h) t
    by_act h e (Got client brief) is may t =
        tied_if (h ++ e ∷ []) (eqb client c) (option_map one_got (outbox c h)) (outbox c h) (option_map without_first (placed c h)) (placed c h)
        (λ same. gets (h ++ e ∷ []) (outbox c h) (placed c h) may.message may.rest (ap (λ k. mail k h) (sym (eqb-true client c same)) ∙ may.first) (tied_on h (e ∷ []) (outbox c h) (placed c h) t))
        (tied_on h (e ∷ []) (outbox c h) (placed c h) t)
    by_act h e _ is may t = tied_on h (e ∷ []) (outbox c h) (placed c h) t

    more : Keeps (λ j. AreTied j (outbox c j) (placed c j))
    more h e legal may t =
        subst (λ (o : Option Outbox). AreTied (h ++ e ∷ []) o (placed c (h ++ e ∷ []))) (sym (outbox-push c h e))
        (subst (λ (p : Option Placed). AreTied (h ++ e ∷ []) (outbox_by c h e.act (outbox c h)) p) (sym (placed-push c h e)) (by_act h e e.act refl may t))

-- the law
pub mail_at_places : (c : ℕ) (j : List Entry) → IsLegalBut j → IsMailIn c j (placed c j)
mail_at_places c j legal = go (outbox c j) (placed c j) refl refl (tied c j legal)
  where
    go : (o : Option Outbox) (p : Option Placed) → outbox c j ≡ o → placed c j ≡ p → AreTied j o p → IsMailIn c j p
    go None None o_is p_is t = (o_is, ap mail_in o_is)
    go None (Some p) o_is p_is t = absurd t
    go (Some box) None o_is p_is t = absurd t
    go (Some box) (Some p) o_is p_is t = record {
      outbox_of = box;
      outbox_is = o_is;
      doc_is = t.doc_is;
      source_is = t.source_is;
      mail_is = t.told ∙ ap (λ (l : List Msg). map (λ (y : Msg). Some y) l) (sym (ap mail_in o_is));
      within = told_all_within j p.source p.places (drop box.got box.posted) t.told;
    }

-- ---- the first of the mail
pub first_mail : (c : ℕ) (j : List Entry) → IsLegalBut j → (box : Placed) → placed c j ≡ Some box → (place : ℕ) (places : List ℕ) → box.places ≡ place ∷ places → (m : Msg) × (rest : List Msg) × (told_at j box.source place ≡ Some m) × (mail c j ≡ m ∷ rest)
first_mail c j legal box is place places first = go (mail c j) refl (ap (map (told_at j box.source)) (sym first) ∙ here.mail_is)
  where
    here : IsMail c j box
    here = subst (IsMailIn c j) is (mail_at_places c j legal)

    go : (ms : List Msg) → mail c j ≡ ms → AreTold j box.source (place ∷ places) ms → (m : Msg) × (rest : List Msg) × (told_at j box.source place ≡ Some m) × (mail c j ≡ m ∷ rest)
    go [] mail_is are = absurd (cc)
    go (m ∷ ms) mail_is are = let one : told_at j box.source place ≡ Some m = cc in (m, ms, one, mail_is)

pub no_mail : (c : ℕ) (j : List Entry) → IsLegalBut j → (box : Placed) → placed c j ≡ Some box → box.places ≡ [] → mail c j ≡ []
no_mail c j legal box is none = go (mail c j) refl (ap (map (told_at j box.source)) (sym none) ∙ here.mail_is)
  where
    here : IsMail c j box
    here = subst (IsMailIn c j) is (mail_at_places c j legal)

    go : (ms : List Msg) → mail c j ≡ ms → AreTold j box.source [] ms → mail c j ≡ []
    go [] mail_is are = mail_is
    go (m ∷ ms) mail_is are = absurd (cc)
