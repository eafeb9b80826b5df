-- Drained updates, one behind the other, are a drain.
use Rattle.std.proofs.Common.{◌≡◌, ℕ, zero, suc, ◌+◌, ◌-◌, ◌<◌, List, [], ◌∷◌, ◌++◌, Bool, true, false, refl, sym, ap, subst, inl, inr, arith, append_assoc, append-nil}
use Rattle.expiring_lock.specs.declared.refusal.Busy.{Busy}
use Rattle.journal_entries.specs.declared.act.Act.{Act}
use Rattle.journal_entries.specs.declared.act.Entry.{Entry}
use Rattle.journal_rules.specs.Documents.{IsMade}
use Rattle.journal_rules.proofs.Fencing.{made_stays}
use Rattle.turn_rules.specs.Draining.{DrainsOne, Drains, IsCommit, IsRelease, Settles, Stop, Done as IsDone, HeldUp, StopsAt, TakesUp, Under, stop_by}
use Rattle.turn_rules.specs.Locking.{busy}
use Rattle.turn_rules.specs.Turns.{Alone, Turn}
use Rattle.dispatcher.specs.Draining.{DrainsMany, Drained}
use Rattle.dispatcher.specs.declared.dispatch.DrainEnd.TheVariants.{Done, Busy as IsBusy}

-- a document that was made stays made
made_along : (doc : ℕ) (es j : List Entry) → IsMade doc j → IsMade doc (j ++ es)
made_along doc [] j made = subst (IsMade doc) (sym (append-nil j)) made
made_along doc (e ∷ es) j made = subst (IsMade doc) (append_assoc j (e ∷ []) es) (made_along doc es (j ++ e ∷ []) (made_stays doc j e made))

made_by_turn : (doc : ℕ) (Makes : List Entry → List Entry → Type 0) (left last : List Entry) → Turn Alone Makes left last → IsMade doc left → IsMade doc last
made_by_turn doc Makes left last t made = subst (IsMade doc) (sym t.4) (made_along doc t.1 t.0 (subst (IsMade doc) (sym t.2) made))

settled_made : (by : Act → Entry) (doc token d : ℕ) (ready : Bool) (left last : List Entry) → Settles by Alone ready doc token left last → IsMade d left → IsMade d last
settled_made by doc token d true left last s made =
    made_by_turn d (Under by doc token (IsRelease doc token)) s.0 last s.2 (made_by_turn d (Under by doc token (IsCommit doc token)) left s.0 s.1 made)
settled_made by doc token d false left last s made = made_by_turn d (Under by doc token (IsRelease doc token)) left last s made

pub made_behind : (by : Act → Entry) (doc : ℕ) (left last : List Entry) → DrainsOne by Alone doc left last → IsMade doc left → IsMade doc last
made_behind by doc left last one made = settled_made by doc one.0 doc one.1 one.2 last one.4 (made_by_turn doc (TakesUp by doc one.0 one.1) left one.2 one.3 made)

-- one more
pub many_more : (by : Act → Entry) (doc n : ℕ) (left mid last : List Entry) → DrainsMany by doc n left mid → DrainsOne by Alone doc mid last → DrainsMany by doc (n + 1) left last
many_more by doc n left mid last many one =
    let same : suc n ≡ n + 1 = omega arith in
    subst (λ (k : ℕ). DrainsMany by doc k left last) same (mid, many, one)

then_drains : (by : Act → Entry) (doc n k : ℕ) (left mid last : List Entry) (stop : Stop) → DrainsMany by doc n left mid → Drains by Alone doc k mid last stop → Drains by Alone doc (n + k) left last stop
then_drains by doc zero k left mid last stop many rest =
    let same : k ≡ 0 + k = omega arith in
    subst (λ (m : ℕ). Drains by Alone doc m left last stop) same (subst (λ (j : List Entry). Drains by Alone doc k j last stop) many rest)
then_drains by doc (suc n) k left mid last stop many rest =
    let same : n + suc k ≡ suc n + k = omega arith in
    subst (λ (m : ℕ). Drains by Alone doc m left last stop) same (then_drains by doc n (suc k) left many.0 last stop many.1 (inr (mid, many.2, rest)))

stopped : (by : Act → Entry) (doc n most : ℕ) (left last : List Entry) (stop : Stop) → n < most → DrainsMany by doc n left last → StopsAt doc last stop → Drains by Alone doc most left last stop
stopped by doc n most left last stop few many at =
    let same : n + suc (most - n - 1) ≡ most = omega (arith, few) in
    subst (λ (m : ℕ). Drains by Alone doc m left last stop) same (then_drains by doc n (suc (most - n - 1)) left last last stop many (inl (refl, at)))

-- a drain that is done
pub drains_done : (by : Act → Entry) (doc most count : ℕ) (left last : List Entry) → Drained by doc most left last (Done count) → Drains by Alone doc most left last IsDone
drains_done by doc most count left last (many, inl all) =
    let same : count + 0 ≡ most = omega (arith, all) in
    subst (λ (m : ℕ). Drains by Alone doc m left last IsDone) same (then_drains by doc count 0 left last last IsDone many (refl, refl))
drains_done by doc most count left last (many, inr none) = stopped by doc count most left last IsDone none.0 many (ap (λ w. stop_by w (busy doc last)) none.1)

pub drains_held_up : (by : Act → Entry) (doc most count : ℕ) (b : Busy) (left last : List Entry) → Drained by doc most left last (IsBusy count b) → Drains by Alone doc most left last (HeldUp b)
drains_held_up by doc most count b left last d = stopped by doc count most left last (HeldUp b) d.1 d.0 d.2
