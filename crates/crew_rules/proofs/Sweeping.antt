-- That each worker has swept a document in what it saw means that the crew has: the worker that acquired it last knows.
use Rattle.std.proofs.Common.{◌≡◌, ◌⊎◌, ⊎_elim, ℕ, ◌+◌, ◌-◌, ◌<◌, List, [], Bool, true, false, not, ◌&&◌, refl, sym, ap, ap₂, ◌∙◌, eq-eqb, inl, inr, true≢false, arith}
use Rattle.std.specs.Prelude.{Option, Some, None, nat_lt}
use Rattle.std.proofs.lemmas.Bool.{and_parts, ltb-true, not-true}
use Rattle.journal_entries.specs.declared.act.Entry.{Entry}
use Rattle.journal_rules.specs.Documents.{waiting}
use Rattle.run_rules.specs.Threads.{Crew, worker_seat, flusher_seat, is_worker, is_by, IsSwept, IsHeldByAnother}
use Rattle.seat_turns.specs.Seats.{acquires, is_acquiring}
use Rattle.workers.specs.Sweeping.{IsHeldByOther, IsSweptBy}
use Rattle.crew_rules.proofs.Lasts.{last_where, or_before, last-append, last_is, last_has, last_narrow, last_seat, is_last, Is}

worker_of : (crew : Crew) (seat : ℕ) → is_worker crew seat ≡ true → (w : ℕ) × (w < crew.workers) × (seat ≡ worker_seat crew w)
worker_of crew seat is =
    let both = and_parts (nat_lt crew.drivers seat) (nat_lt seat (flusher_seat crew)) is in
    let low : crew.drivers < seat = ltb-true crew.drivers seat both.0 in
    let high : seat < flusher_seat crew = ltb-true seat (flusher_seat crew) both.1 in
    (seat - (1 + crew.drivers), omega (arith, low, high), omega (arith, low, high))

module _ (crew : Crew) (journal : List Entry) (doc : ℕ) where
  -- a worker's acquiring of the document
  abbrev takes : Entry → Bool
  takes e = is_last doc e && is_worker crew e.seat

  swept_by : (seat : ℕ) (l : IsSweptBy crew.drivers seat doc journal) → (IsHeldByOther seat doc l.look → IsHeldByAnother crew doc l.look) → IsSwept crew journal doc
  swept_by seat l holder = record {
    seen = l.look;
    rest = l.rest;
    journal_is = l.seen_is;
    closed = l.closed;
    left = ⊎_elim {C = (waiting doc l.look ≡ []) ⊎ IsHeldByAnother crew doc l.look} inl (λ o. inr (holder o)) l.left;
  }

  -- the holder is no worker, if no worker's acquiring but its own could be the last one
  held_by : (seat : ℕ) (l : IsSweptBy crew.drivers seat doc journal) (o : IsHeldByOther seat doc l.look)
      → ((e : Entry) → last_where takes l.look ≡ Some e → e.seat ≡ o.acquiring.seat → ⊥) → IsHeldByAnother crew doc l.look
  held_by seat l o never = record {
    acquiring = o.acquiring;
    held = o.held;
    unexpired = o.unexpired;
    another = go (is_worker crew o.acquiring.seat) refl;
  }
    where
      go : (b : Bool) → is_worker crew o.acquiring.seat ≡ b → b ≡ false
      go false is = refl
      go true is =
          let e = last_seat doc l.look o.acquiring o.held.last in
          absurd (never e.0 (last_narrow (is_last doc) (λ e. is_worker crew e.seat) l.look e.0 e.1 (ap (is_worker crew) e.3 ∙ is)) e.3)

  from_last : (l : Option Entry) → last_where takes journal ≡ l → Is takes l → ((w : ℕ) → w < crew.workers → IsSweptBy crew.drivers (worker_seat crew w) doc journal) → 0 < crew.workers → IsSwept crew journal doc
  from_last None none h left some = swept_by (worker_seat crew 0) (left 0 some) (λ o. held_by (worker_seat crew 0) (left 0 some) o (λ e is seat. none_in (left 0 some) e is))
    where
      none_in : (l : IsSweptBy crew.drivers (worker_seat crew 0) doc journal) (e : Entry) → last_where takes l.look ≡ Some e → ⊥
      none_in l e is = no_last (last_where takes l.rest) (sym none ∙ ap (last_where takes) l.seen_is ∙ last-append takes l.look l.rest ∙ ap (or_before (last_where takes l.rest)) is)
        where
          found : Option Entry → Bool
          found (Some e) = true
          found None = false

          no_last : (r : Option Entry) → None ≡ or_before r (Some e) → ⊥
          no_last (Some x) is = true≢false (sym (ap found is))
          no_last None is = true≢false (sym (ap found is))
  from_last (Some last) is h left some =
      let both = and_parts (is_last doc last) (is_worker crew last.seat) h in
      let w = worker_of crew last.seat both.1 in
      let l = left w.0 w.1 in
      swept_by (worker_seat crew w.0) l (λ o. held_by (worker_seat crew w.0) l o (λ e eis seat. o.other (sym seat ∙ same w.0 l e eis w.2 ∙ w.2)))
    where
      entry_or : Entry → Option Entry → Entry
      entry_or d (Some e) = e
      entry_or d None = d

      same : (w : ℕ) (l : IsSweptBy crew.drivers (worker_seat crew w) doc journal) (e : Entry) → last_where takes l.look ≡ Some e → last.seat ≡ worker_seat crew w → e.seat ≡ last.seat
      same w l e eis seat = go (last_where takes l.rest) (last_has takes (λ e. not (acquires (worker_seat crew w) doc e)) l.rest l.no_more) (sym is ∙ ap (last_where takes) l.seen_is ∙ last-append takes l.look l.rest ∙ ap (or_before (last_where takes l.rest)) eis)
        where
          go : (r : Option Entry) → Is (λ e. not (acquires (worker_seat crew w) doc e)) r → Some last ≡ or_before r (Some e) → e.seat ≡ last.seat
          go None h is = ap (λ (e : Entry). e.seat) (sym (ap (entry_or e) is))
          go (Some x) none is =
              let first : last ≡ x = ap (entry_or e) is in
              let taken : is_last doc last ≡ true = (and_parts (is_last doc last) (is_worker crew last.seat) h).0 in
              let bad : (is_acquiring doc last.act && is_by (worker_seat crew w) last) ≡ true = ap₂ (λ (p q : Bool). p && q) taken (eq-eqb last.seat (worker_seat crew w) seat) in
              absurd (true≢false (sym bad ∙ ap (acquires (worker_seat crew w) doc) first ∙ not-true (acquires (worker_seat crew w) doc x) none))

  pub swept : ((w : ℕ) → w < crew.workers → IsSweptBy crew.drivers (worker_seat crew w) doc journal) → 0 < crew.workers → IsSwept crew journal doc
  swept left some = from_last (last_where takes journal) refl (last_is takes journal) left some
