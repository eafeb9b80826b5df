-- Lines that one does alone, in order: each session goes its own course among the others.
use Rattle.std.proofs.Common.{◌≡◌, ℕ, ◌+◌, ◌-◌, ◌==◌, List, [], ◌∷◌, ◌++◌, length, Bool, true, false, true≢false, refl, sym, ap, ◌∙◌, subst, eq-eqb, arith, append_assoc, length-append}
use Rattle.std.specs.Prelude.{Option, Some, None, option_and_then, slice_get, map, filter, if◌then◌else◌}
use Rattle.std.proofs.lemmas.Bool.{eqb-true}
use Rattle.journal_rules.specs.Client.{is_of}
use Rattle.journal_entries.specs.declared.act.Act.{Act}
use Rattle.journal_entries.specs.declared.act.Entry.{Entry}
use Rattle.journal_entries.specs.declared.why.Why.{Why}
use Rattle.journal_rules.specs.Documents.{number_of}
use Rattle.session_lines.specs.declared.line.Line.{Line}
use Rattle.session_lines.specs.declared.line.Line.TheVariants.{Join, Sync, Drain, Hold, Finish, Flush}
use Rattle.session_lines.specs.Script.{session_of}
use Rattle.run_rules.specs.Keeping.{Preparation, Preparations, keeping, nothing_kept}
use Rattle.run_rules.specs.Lines.{Joins, Finishes, HoldsIf, HoldsUnless, HoldsNamed, Holds, not_holdable, Does, Leads, numbered}
use Rattle.run_rules.specs.Plain.{plain_acts}
use Rattle.run_rules.specs.Sessions.{is_by_session, GoesItsCourse}
use Rattle.turn_rules.specs.Turns.{Alone, Among, Turn, entry_by}
use Rattle.run_rules.proofs.Growing.{among_same, among_on, does_among}
use Rattle.run_rules.proofs.Widening.{does_wider, leads_wider}

-- what a session keeps from now on, and what another keeps
kept_here : (s : ℕ) (p : Option Preparation) (kept : Preparations) → keeping s p kept s ≡ p
kept_here s p kept = go (s == s) (eq-eqb s s refl)
  where
    go : (b : Bool) → b ≡ true → (if b then p else kept s) ≡ p
    go true e = refl
    go false e = absurd (true≢false (sym e))

kept_there : (s t : ℕ) (p : Option Preparation) (kept : Preparations) → (t == s) ≡ false → keeping t p kept s ≡ kept s
kept_there s t p kept = go (t == s)
  where
    go : (b : Bool) → b ≡ false → (if b then p else kept s) ≡ kept s
    go true e = absurd (true≢false e)
    go false e = refl

-- a line depends on what its own session keeps alone
module _ (by : Act → Entry) (Next : List Entry → List Entry → Type 0) (session : ℕ) (kept mine : Preparations) (same : mine session ≡ kept session) where
  still : (after : Preparations) → after ≡ kept → mine session ≡ after session
  still after e = same ∙ sym (ap (λ (f : Preparations). f session) e)

  hold_if_at : (ready : Bool) (doc token : ℕ) (mid last : List Entry) (after : Preparations) → HoldsIf by Next session ready doc token kept mid last after
      → (other : Preparations) × HoldsIf by Next session ready doc token mine mid last other × (other session ≡ after session)
  hold_if_at true doc token mid last after h = (
    keeping session (Some (record { doc = doc; token = token })) mine,
    (h.0, refl),
    kept_here session (Some (record { doc = doc; token = token })) mine ∙ sym (kept_here session (Some (record { doc = doc; token = token })) kept) ∙ sym (ap (λ (f : Preparations). f session) h.1),
  )
  hold_if_at false doc token mid last after h = (mine, (h.0, refl), still after h.1)

  hold_unless_at : (doc : ℕ) (why : Option Why) (look last : List Entry) (after : Preparations) → HoldsUnless by Next session doc why kept look last after
      → (other : Preparations) × HoldsUnless by Next session doc why mine look last other × (other session ≡ after session)
  hold_unless_at doc (Some why) look last after h = (mine, (h.0, refl), still after h.1)
  hold_unless_at doc None look last after h =
      let i = hold_if_at h.1 doc h.0 (look ++ h.2) last after h.4 in (i.0, (h.0, h.1, h.2, h.3, i.1), i.2)

  hold_named_at : (doc : Option ℕ) (look last : List Entry) (after : Preparations) → HoldsNamed by Next session doc kept look last after
      → (other : Preparations) × HoldsNamed by Next session doc mine look last other × (other session ≡ after session)
  hold_named_at None look last after h = (mine, (h.0, refl), still after h.1)
  hold_named_at (Some doc) look last after h = hold_unless_at doc (not_holdable doc look) look last after h

  hold_at : (p : Option Preparation) (name : List ℕ) (look last : List Entry) (after : Preparations) → Holds by Next session p name kept look last after
      → (other : Preparations) × Holds by Next session p name mine look last other × (other session ≡ after session)
  hold_at (Some p) name look last after h = (mine, (h.0, refl), still after h.1)
  hold_at None name look last after h = hold_named_at (number_of name look) look last after h

abbrev DoesAt : ℕ → (List Entry → List Entry → Type 0) → ℕ → Line → ℕ → Preparations → List Entry → List Entry → Preparations → Type 0
DoesAt seat Next k line s mine left last after = (other : Preparations) × Does seat Next k line mine left last other × (other s ≡ after s)

module _ (seat : ℕ) (Next : List Entry → List Entry → Type 0) (k s : ℕ) (kept mine : Preparations) (same : mine s ≡ kept s) where
  quiet : (after : Preparations) → after ≡ kept → mine s ≡ after s
  quiet after e = same ∙ sym (ap (λ (f : Preparations). f s) e)

  does_at : (line : Line) (left last : List Entry) (after : Preparations) → is_of s (session_of line) ≡ true → Does seat Next k line kept left last after → DoesAt seat Next k line s mine left last after
  does_at (Join session doc user track) left last after is d = (mine, (d.0, refl), quiet after d.1)
  does_at (Sync session) left last after is d = (mine, (d.0, refl), quiet after d.1)
  does_at (Drain session doc) left last after is d = (mine, (d.0, refl), quiet after d.1)
  does_at (Flush session doc) left last after is d = (mine, (d.0, refl), quiet after d.1)
  does_at (Hold session doc) left last after is d =
      let own : session ≡ s = eqb-true session s is in
      let here : mine session ≡ kept session = subst (λ (t : ℕ). mine t ≡ kept t) (sym own) same in
      let h = hold_at (entry_by seat (Some k)) Next session kept mine here (kept session) doc d.0 last after d.2 in (
        h.0,
        (d.0, d.1, subst (λ (p : Option Preparation). Holds (entry_by seat (Some k)) Next session p doc mine d.0 last h.0) (sym here) h.1),
        subst (λ (t : ℕ). h.0 t ≡ after t) own h.2,
      )
  does_at (Finish session) left last after is d =
      let own : session ≡ s = eqb-true session s is in
      let here : mine session ≡ kept session = subst (λ (t : ℕ). mine t ≡ kept t) (sym own) same in
      let gone : keeping session None mine session ≡ after session =
      kept_here session None mine ∙ sym (kept_here session None kept) ∙ sym (ap (λ (f : Preparations). f session) d.1) in (
        keeping session None mine,
        (subst (λ (p : Option Preparation). Turn Next (Finishes (entry_by seat (Some k)) session p) left last) (sym here) d.0, refl),
        subst (λ (t : ℕ). keeping session None mine t ≡ after t) own gone,
      )
  does_at line left last after is d = (mine, (d.0, refl), quiet after d.1)

-- and leaves what other sessions keep
module _ (by : Act → Entry) (Next : List Entry → List Entry → Type 0) (s session : ℕ) (apart : (session == s) ≡ false) (kept : Preparations) where
  hold_if_else : (ready : Bool) (doc token : ℕ) (mid last : List Entry) (after : Preparations) → HoldsIf by Next session ready doc token kept mid last after → after s ≡ kept s
  hold_if_else true doc token mid last after h = ap (λ (f : Preparations). f s) h.1 ∙ kept_there s session (Some (record { doc = doc; token = token })) kept apart
  hold_if_else false doc token mid last after h = ap (λ (f : Preparations). f s) h.1

  hold_unless_else : (doc : ℕ) (why : Option Why) (look last : List Entry) (after : Preparations) → HoldsUnless by Next session doc why kept look last after → after s ≡ kept s
  hold_unless_else doc (Some why) look last after h = ap (λ (f : Preparations). f s) h.1
  hold_unless_else doc None look last after h = hold_if_else h.1 doc h.0 (look ++ h.2) last after h.4

  hold_named_else : (doc : Option ℕ) (look last : List Entry) (after : Preparations) → HoldsNamed by Next session doc kept look last after → after s ≡ kept s
  hold_named_else None look last after h = ap (λ (f : Preparations). f s) h.1
  hold_named_else (Some doc) look last after h = hold_unless_else doc (not_holdable doc look) look last after h

  hold_else : (p : Option Preparation) (name : List ℕ) (look last : List Entry) (after : Preparations) → Holds by Next session p name kept look last after → after s ≡ kept s
  hold_else (Some p) name look last after h = ap (λ (f : Preparations). f s) h.1
  hold_else None name look last after h = hold_named_else (number_of name look) look last after h

does_else : (seat : ℕ) (Next : List Entry → List Entry → Type 0) (k s : ℕ) (line : Line) (kept : Preparations) (left last : List Entry) (after : Preparations)
    → is_of s (session_of line) ≡ false → Does seat Next k line kept left last after → after s ≡ kept s
does_else seat Next k s (Join session doc user track) kept left last after not d = ap (λ (f : Preparations). f s) d.1
does_else seat Next k s (Sync session) kept left last after not d = ap (λ (f : Preparations). f s) d.1
does_else seat Next k s (Drain session doc) kept left last after not d = ap (λ (f : Preparations). f s) d.1
does_else seat Next k s (Flush session doc) kept left last after not d = ap (λ (f : Preparations). f s) d.1
does_else seat Next k s (Hold session doc) kept left last after not d = hold_else (entry_by seat (Some k)) Next s session not kept (kept session) doc d.0 last after d.2
does_else seat Next k s (Finish session) kept left last after not d = ap (λ (f : Preparations). f s) d.1 ∙ kept_there s session None kept not
does_else seat Next k s line kept left last after not d = ap (λ (f : Preparations). f s) d.1

-- what a line leads to from a look, it leads to from where the journal was left before
module _ (seat : ℕ) (Next : List Entry → List Entry → Type 0) (on : (a b c : List Entry) → Next a b → Next b c → Next a c) where
  turn_sooner : (Makes : List Entry → List Entry → Type 0) (a b last : List Entry) → Next a b → Turn Next Makes b last → Turn Next Makes a last
  turn_sooner Makes a b last n t = (t.0, t.1, on a b t.0 n t.2, t.3, t.4)

  does_sooner : (k : ℕ) (line : Line) (kept : Preparations) (a b last : List Entry) (after : Preparations) → Next a b → Does seat Next k line kept b last after → Does seat Next k line kept a last after
  does_sooner k (Join session doc user track) kept a b last after n d =
      (turn_sooner (λ look made. Joins (entry_by seat (Some k)) session (number_of doc look) user track look made) a b last n d.0, d.1)
  does_sooner k (Sync session) kept a b last after n d = ((d.0.0, on a b d.0.0 n d.0.1, d.0.2), d.1)
  does_sooner k (Drain session doc) kept a b last after n d = ((d.0.0, on a b d.0.0 n d.0.1, d.0.2), d.1)
  does_sooner k (Flush session doc) kept a b last after n d = ((d.0.0, on a b d.0.0 n d.0.1, d.0.2), d.1)
  does_sooner k (Hold session doc) kept a b last after n d = (d.0, on a b d.0 n d.1, d.2)
  does_sooner k (Finish session) kept a b last after n d = (turn_sooner (Finishes (entry_by seat (Some k)) session (kept session)) a b last n d.0, d.1)
  does_sooner k line kept a b last after n d = (turn_sooner (λ look made. made ≡ map (entry_by seat (Some k)) (plain_acts look line)) a b last n d.0, d.1)

-- a session's lines among all
abbrev is_mine : ℕ → ℕ × Line → Bool
is_mine s x = is_of s (session_of x.1)

module _ (seat s : ℕ) (own : Entry → Bool) where
  -- the entries of other lines are none of its own
  abbrev AreApart : List (ℕ × Line) → Type 0
  AreApart [] = Unit {0}
  AreApart (x ∷ xs) = (is_mine s x ≡ false → (act : Act) → own (entry_by seat (Some x.0) act) ≡ false) × AreApart xs

  abbrev Course : List (ℕ × Line) → Preparations → List Entry → List Entry → Type 0
  Course lines mine left last = (done : List Entry) × Leads seat (Among own) lines mine left done × Among own done last

  step : (x : ℕ × Line) (xs : List (ℕ × Line)) (kept mine : Preparations) (a b last : List Entry)
      → ((kept mine : Preparations) (a b : List Entry) → mine s ≡ kept s → Among own a b → Leads seat Alone xs kept b last → Course (filter (λ y. is_mine s y) xs) mine a last)
      → (is_mine s x ≡ false → (act : Act) → own (entry_by seat (Some x.0) act) ≡ false) → mine s ≡ kept s → Among own a b → Leads seat Alone (x ∷ xs) kept b last
      → (mine_too : Bool) → is_mine s x ≡ mine_too → Course (if mine_too then x ∷ filter (λ y. is_mine s y) xs else filter (λ y. is_mine s y) xs) mine a last
  step x xs kept mine a b last rest apart same n l true e =
      let at = does_at seat Alone x.0 s kept mine same x.1 b l.0 l.1 e l.2 in
      let among = does_wider Alone (Among own) (λ left look z. subst (λ (j : List Entry). Among own left j) (sym z) (among_same own left)) seat x.0 x.1 mine b l.0 at.0 at.1 in
      let here = does_sooner seat (Among own) (among_on own) x.0 x.1 mine a b l.0 at.0 n among in
      let more = rest l.1 at.0 l.0 l.0 at.2 (among_same own l.0) l.3 in
      (more.0, (l.0, at.0, here, more.1), more.2)
  step x xs kept mine a b last rest apart same n l false e =
      let more = among_on own a b l.0 n (does_among own seat x.0 (apart e) x.1 kept b l.0 l.1 l.2) in
      rest l.1 mine a l.0 (same ∙ sym (does_else seat Alone x.0 s x.1 kept b l.0 l.1 e l.2)) more l.3

  -- what lines lead to alone, each session's lines lead to among the others
  pub course : (lines : List (ℕ × Line)) (kept mine : Preparations) (a b last : List Entry) → AreApart lines → mine s ≡ kept s → Among own a b
      → Leads seat Alone lines kept b last → Course (filter (λ x. is_mine s x) lines) mine a last
  course [] kept mine a b last apart same n l = (a, refl, subst (λ (j : List Entry). Among own a j) (sym l) n)
  course (x ∷ xs) kept mine a b last apart same n l =
      step x xs kept mine a b last (λ k m c d same n l. course xs k m c d last apart.1 same n l) apart.0 same n l (is_mine s x) refl

at_front : (front : List Line) (x : Line) (back : List Line) → slice_get (front ++ x ∷ back) (length front) ≡ Some x
at_front [] x back = refl
at_front (y ∷ front) x back = at_front front x back

module _ (lines : List Line) (seat s : ℕ) where
  apart : (front back : List Line) → lines ≡ front ++ back → AreApart seat s (is_by_session lines s) (numbered (length front + 1) back)
  apart front [] e = tt
  apart front (x ∷ back) e =
      let one : slice_get lines (length front + 1 - 1) ≡ Some x =
      ap (λ (k : ℕ). slice_get lines k) (omega arith) ∙ ap (λ (ls : List Line). slice_get ls (length front)) e ∙ at_front front x back in
      let next : length (front ++ x ∷ []) + 1 ≡ length front + 1 + 1 = ap (λ (n : ℕ). n + 1) (length-append front (x ∷ [])) in (
        λ other act. ap (λ (line : Option Line). is_of s (option_and_then session_of line)) one ∙ other,
        subst (λ (k : ℕ). AreApart seat s (is_by_session lines s) (numbered k back)) next (apart (front ++ x ∷ []) back (e ∙ sym (append_assoc front (x ∷ []) back))),
      )

pub goes : (lines : List Line) (s : ℕ) (last : List Entry) → Leads 0 Alone (numbered 1 lines) nothing_kept [] last → GoesItsCourse 0 lines s last
goes lines s last l =
    course 0 s (is_by_session lines s) (numbered 1 lines) nothing_kept nothing_kept [] [] last (apart lines 0 s [] lines refl) refl (among_same (is_by_session lines s) []) l

pub among : (own : Entry → Bool) (seat : ℕ) (lines : List (ℕ × Line)) (kept : Preparations) (left last : List Entry) → Leads seat Alone lines kept left last → Leads seat (Among own) lines kept left last
among own seat = leads_wider Alone (Among own) (λ left look z. subst (λ (j : List Entry). Among own left j) (sym z) (among_same own left)) seat
