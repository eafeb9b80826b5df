-- What a crew has done, from what each of it tells at its end and from what the board tells of it.
use Rattle.std.proofs.Common.{◌≡◌, ◌≢◌, ℕ, ◌+◌, ◌<◌, suc, List, [], ◌∷◌, ◌++◌, length, All, true, true≢false, sym, ◌∙◌, subst, arith, get_or, vec_len}
use Rattle.std.specs.Global.{Vec}
use Rattle.std.specs.Prelude.{slice_index_or}
use Rattle.std.specs.List.{list_all}
use Rattle.std.specs.declared.alloc.Global.{Global}
use Rattle.atomic_table.specs.Seated.{TableId}
use Rattle.crossbeam_queue.specs.SegTies.{SegId}
use Rattle.journal_entries.specs.declared.act.Entry.{Entry}
use Rattle.session_lines.specs.declared.line.Line.{Line}
use Rattle.board.specs.Views.{SawAll, made_by}
use Rattle.drivers.specs.declared.driving.DriverDone.{DriverDone}
use Rattle.flusher.specs.Flushing.{FlushesBy, FlushesSome}
use Rattle.flusher.specs.declared.rounds.FlusherDone.{FlusherDone}
use Rattle.run_rules.specs.Threads.{DriverFollows, WorkerFollows, driver_seat, flusher_seat, with_workers, worker_seat}
use Rattle.seat_turns.specs.Closings.{IfClosed}
use Rattle.seat_turns.specs.declared.ending.WorkerEnd.{WorkerEnd}
use Rattle.seat_turns.specs.declared.ending.WorkerEnd.TheVariants.{Closed, Memory}
use Rattle.workers.specs.Draining.{Works}
use Rattle.workers.specs.Sweeping.{AreSwept}
use Rattle.script_driver.specs.Clients.{AreClientsOf}
use Rattle.script_driver.specs.Handing.{items_handed}
use Rattle.script_driver.proofs.Clients.{all_stay}
use Rattle.turn_rules.specs.Owning.{IsOwned}
use Rattle.crew_rules.specs.Courses.{SeenCourse}
use Rattle.crew_rules.specs.Together.{GoesTogether}
use Rattle.crew_rules.proofs.Whole.{courses}
use Rattle.crew_rules.proofs.Clients.{saw_clients}
use Rattle.crew_rules.proofs.Handing.{driver_handed}
use Rattle.crew.specs.declared.place.Place.{Place}
use Rattle.crew.specs.declared.place.Place.TheVariants.{Done, Empty, Waiting}
use Rattle.crew.specs.declared.seating.Seats.{Seats}
use Rattle.crew.specs.Crews.{AreDone, IsDriven, IsFlushed, IsSeatedCrew}
use Rattle.crew.specs.Places.{IsDone, IsSeated, ends_closed, has_closed, sight_of, sights_of, start_of}
use Rattle.crew.proofs.Sights.{all_each, all_parts, each_sight}

pub when_closed : (end : WorkerEnd) (X : Type 0) → ends_closed end ≡ true → IfClosed end X → X
when_closed Closed X is x = x
when_closed Memory X is x = absurd (true≢false (sym is))

pub flushed : (end : WorkerEnd) (seat : ℕ) (left last : List Entry) → FlushesBy end seat left last → IfClosed end (FlushesSome seat left last)
flushed Closed seat left last f = f
flushed Memory seat left last f = tt

module _ {K : Type 0} (board : TableId) where
  worked : (start : List Entry) (number : ℕ) (place : Place K) → IsDone board start number place → has_closed place ≡ true
      → ((sight_of place).0 ≡ number) × (Works number start (sight_of place).1 × AreSwept 1 number (sight_of place).1)
  worked start number (Done Closed seat) d is = (d.1, d.2)
  worked start number (Done Memory seat) d is = absurd (true≢false (sym is))
  worked start number (Waiting seat pass) d is = absurd d
  worked start number Empty d is = absurd d

  -- whoever is done has a seat
  seated : (start : List Entry) (number : ℕ) (place : Place K) → number ≢ 0 → IsDone board start number place → IsSeated board place
  seated start number (Done end seat) other d = (d.0.0, d.0.1, subst (λ (n : ℕ). n ≢ 0) (sym d.1) other)
  seated start number (Waiting seat pass) other d = absurd d
  seated start number Empty other d = absurd d

  pub all_seated : (places gone : Vec (Place K)) → AreDone board places gone → All (IsSeated board) gone.items
  all_seated places gone done w d lt =
      let size = gone.ok.0 in
      let same = done.0 in
      seated (start_of (slice_index_or places.items w d)) (w + 2) (get_or gone.items w d) (λ z. omega (arith, z)) (done.1 w d (omega (arith, lt, size, same)))

module _ {K : Type 0} (board : TableId) (queue : SegId Global) (lines : List Line) (sessions : ℕ) (start journal : List Entry) (workers : ℕ) (seats : Seats K) (s : IsSeatedCrew board queue start workers seats) where
  -- what was joined
  abbrev pub sights : {N : Type 0} → DriverDone K N → Vec (Place K) → FlusherDone K → List (ℕ × List Entry)
  sights driven places flushed = (driven.seat.view.number, driven.seat.view.seen) ∷ sights_of places.items ++ (flushed.seat.view.number, flushed.seat.view.seen) ∷ []

  pub driver_saw : {N : Type 0} (driven : DriverDone K N) (more : List (ℕ × List Entry)) → IsDriven board lines sessions seats.driver driven → All (SawAll journal) ((driven.seat.view.number, driven.seat.view.seen) ∷ more) → SawAll journal (driver_seat 0, driven.seat.view.seen)
  driver_saw driven more d saw = subst (λ (n : ℕ). SawAll journal (n, driven.seat.view.seen)) (d.1 ∙ s.driver.2) (saw 0 (0, []) (omega arith))

  pub driver_follows : {N : Type 0} (driven : DriverDone K N) → IsDriven board lines sessions seats.driver driven → ends_closed driven.end ≡ true → DriverFollows (with_workers workers) lines start driven.seat.view.seen 0
  driver_follows driven d drove = subst (λ (j : List Entry). DriverFollows (with_workers workers) lines j driven.seat.view.seen 0) s.driver.4 (when_closed driven.end _ drove d.2 workers)

  worker : (places : Vec (Place K)) → AreDone board seats.places places → list_all has_closed places.items ≡ true → All (SawAll journal) (sights_of places.items) → (w : ℕ) → w < workers
      → SeenCourse (worker_seat (with_workers workers) w) (λ seen. WorkerFollows (with_workers workers) start seen w × AreSwept 1 (worker_seat (with_workers workers) w) seen) journal
  worker places done closed saw w low =
      let size = places.ok.0 in
      let same = done.0 in
      let many = s.many in
      let there : w < length places.items = omega (arith, size, same, many, low) in
      let waited : w < vec_len seats.places = omega (arith, many, low) in
      let place = get_or places.items w Empty in
      let begun : start_of (slice_index_or seats.places.items w Empty) ≡ start = s.starts w Empty waited in
      let is_done = subst (λ (j : List Entry). IsDone board j (w + 2) place) begun (done.1 w Empty waited) in
      let x = worked board start (w + 2) place is_done (all_each has_closed places.items closed w Empty there) in
      let seen = (sight_of place).1 in
      let saw_it = each_sight (SawAll journal) places.items saw w Empty there in
      let is : w + 2 ≡ worker_seat (with_workers workers) w = omega arith in
      subst (λ (n : ℕ). SeenCourse n (λ seen. Works n start seen × AreSwept 1 n seen) journal) is (seen, x.1, subst (λ (n : ℕ). SawAll journal (n, seen)) x.0 saw_it)

  -- so the crew has gone on together
  pub gone : {N : Type 0} (driven : DriverDone K N) (places : Vec (Place K)) (flushed : FlusherDone K) → IsDriven board lines sessions seats.driver driven → AreDone board seats.places places → IsFlushed board seats.flusher flushed
      → 0 < workers → ends_closed driven.end ≡ true → list_all has_closed places.items ≡ true → ends_closed flushed.end ≡ true → All (SawAll journal) (sights driven places flushed) → All (λ (e : Entry). e.seat < workers + 3) journal → made_by 0 journal ≡ made_by 0 start
      → GoesTogether (with_workers workers) lines start journal
  gone driven places flushed dr dn fl some drove closed let_go saw given made =
      let parts = all_parts (SawAll journal) (sights_of places.items) ((flushed.seat.view.number, flushed.seat.view.seen) ∷ []) (λ k d h. saw (suc k) d (omega (arith, h))) in
      let last : workers + 2 ≡ flusher_seat (with_workers workers) = omega arith in
      let top : workers + 3 ≡ flusher_seat (with_workers workers) + 1 = omega arith in
      let number : flushed.seat.view.number ≡ workers + 2 = fl.1 ∙ s.flusher.2 in
      let flushes : FlushesSome (workers + 2) start flushed.seat.view.seen = subst (λ (x : ℕ × List Entry). FlushesSome x.0 x.1 flushed.seat.view.seen) (λ i. (s.flusher.2 i, s.flusher.4 i)) (when_closed flushed.end _ let_go fl.2) in
      courses (with_workers workers) lines start journal record {
        driven = omega arith;
        worked = some;
        driver = λ d low. subst (λ (d : ℕ). SeenCourse (driver_seat d) (λ seen. DriverFollows (with_workers workers) lines start seen d) journal) (let none : 0 ≡ d = omega (arith, low) in none)
            (driven.seat.view.seen, driver_follows driven dr drove, driver_saw driven (sights_of places.items ++ (flushed.seat.view.number, flushed.seat.view.seen) ∷ []) dr saw);
        worker = worker places dn closed parts.0;
        flusher = subst (λ (n : ℕ). SeenCourse n (λ seen. FlushesSome n start seen) journal) last
            (flushed.seat.view.seen, flushes, subst (λ (n : ℕ). SawAll journal (n, flushed.seat.view.seen)) number (parts.1 0 (0, []) (omega arith)));
        given = subst (λ (n : ℕ). All (λ (e : Entry). e.seat < n) journal) top given;
        first = made;
      }

  -- with the clients as the driver saw them last
  pub clients_are : {N : Type 0} (driven : DriverDone K N) → IsDriven board lines sessions seats.driver driven → ends_closed driven.end ≡ true → SawAll journal (driver_seat 0, driven.seat.view.seen) → IsOwned 1 journal → GoesTogether (with_workers workers) lines start journal → AreClientsOf driven.clients.items journal
  clients_are driven d drove saw owned t =
      let seen = driven.seat.view.seen in
      all_stay driven.clients.items seen journal (saw_clients workers lines start seen journal owned t (driver_follows driven d drove) saw) (when_closed driven.end _ drove d.3).0

  -- and what the driver handed out is all
  pub handed_is : {N : Type 0} (driven : DriverDone K N) → IsDriven board lines sessions seats.driver driven → ends_closed driven.end ≡ true → SawAll journal (driver_seat 0, driven.seat.view.seen) → All (λ (e : Entry). e.seat ≡ 0) start → items_handed start ≡ [] → GoesTogether (with_workers workers) lines start journal → driven.handed.items ≡ items_handed journal
  handed_is driven d drove saw first none t =
      when_closed driven.end _ drove d.4 ∙ sym (driver_handed workers lines start driven.seat.view.seen journal first none t saw)
