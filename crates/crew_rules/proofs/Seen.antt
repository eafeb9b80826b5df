-- What goes so in what a seat saw goes so in the whole, where the whole has no further entry of the seat.
use Rattle.std.proofs.Common.{◌≡◌, ℕ, ◌+◌, ◌<◌, zero, suc, List, [], ◌∷◌, ◌++◌, length, Bool, true, false, not, ◌&&◌, refl, sym, ap, ◌∙◌, arith, length-append}
use Rattle.std.specs.Prelude.{filter, if◌then◌else◌}
use Rattle.std.specs.List.{list_all}
use Rattle.std.proofs.lemmas.List.Elements.{filter-append}
use Rattle.journal_entries.specs.declared.act.Entry.{Entry}
use Rattle.journal_rules.specs.Documents.{makings}
use Rattle.session_lines.specs.declared.line.Line.{Line}
use Rattle.board.specs.Views.{Begins, SawAll}
use Rattle.run_rules.specs.Keeping.{nothing_kept}
use Rattle.run_rules.specs.Threads.{Crew, driver_seat, worker_seat, flusher_seat, is_by, closing, lines_of_driver, DriverFollows, WorkerFollows, FlusherFollows, DrainsOn}
use Rattle.turn_rules.specs.Turns.{Among}
use Rattle.run_rules.proofs.Growing.{Extends, among_on, extends_on, leads_on}
use Rattle.seat_turns.proofs.Growing.{made_on}
use Rattle.seat_turns.proofs.Holding.{quiet_among}
use Rattle.workers.specs.Sweeping.{AreSwept, IsSweptBy}
use Rattle.workers.proofs.Holding.{quiet_one, swept_quiet}
use Rattle.workers.proofs.Works.{works_more}
use Rattle.flusher.proofs.Flushes.{looked_behind}

-- none of these is one's own
none_own : (own : Entry → Bool) (es : List Entry) → filter own es ≡ [] → list_all (λ e. not (own e)) es ≡ true
none_own own [] is = refl
none_own own (e ∷ es) is = go (own e) is (none_own own es)
  where
    go : (o : Bool) → (if o then e ∷ filter own es else filter own es) ≡ [] → (filter own es ≡ [] → list_all (λ e. not (own e)) es ≡ true) → (not o && list_all (λ e. not (own e)) es) ≡ true
    go true bad rest = let n : suc (length (filter own es)) ≡ 0 = ap length bad in absurd (omega (arith, n))
    go false is rest = rest is

nothing : (xs : List Entry) → length xs ≡ 0 → xs ≡ []
nothing [] n = refl
nothing (x ∷ xs) n = absurd (omega (arith, n))

-- what a seat saw, if that was all of its own, goes on by others' entries
pub begins_among : (seat : ℕ) (seen journal : List Entry) → Begins seen journal → filter (is_by seat) journal ≡ filter (is_by seat) seen → Among (is_by seat) seen journal
begins_among seat seen journal begins all =
    let more = begins.0 in
    let both : filter (is_by seat) seen ++ filter (is_by seat) more ≡ filter (is_by seat) seen = sym (filter-append (is_by seat) seen more) ∙ ap (filter (is_by seat)) (sym begins.1) ∙ all in
    let count : length (filter (is_by seat) seen) + length (filter (is_by seat) more) ≡ length (filter (is_by seat) seen) = sym (length-append (filter (is_by seat) seen) (filter (is_by seat) more)) ∙ ap length both in
    (more, begins.1, none_own (is_by seat) more (nothing (filter (is_by seat) more) (omega (arith, count))))

pub saw_among : (seat : ℕ) (seen journal : List Entry) → SawAll journal (seat, seen) → Among (is_by seat) seen journal
saw_among seat seen journal saw = begins_among seat seen journal saw.0 saw.1

-- ---- one more look of each course
pub driver_on : (crew : Crew) (lines : List Line) (start seen journal : List Entry) (d : ℕ) → DriverFollows crew lines start seen d → Among (is_by (driver_seat d)) seen journal → DriverFollows crew lines start journal d
driver_on crew lines start seen journal d f more = record {
  done = f.done;
  leads = f.leads;
  look = f.look;
  next = f.next;
  more = among_on (is_by (driver_seat d)) (f.look ++ closing d ∷ []) seen journal f.more more;
}

pub worker_on : (crew : Crew) (start seen journal : List Entry) (w : ℕ) → WorkerFollows crew start seen w → Among (is_by (worker_seat crew w)) seen journal → WorkerFollows crew start journal w
worker_on crew start seen journal w f more = works_more (worker_seat crew w) start seen journal f (0, more)

pub flusher_on : (crew : Crew) (start seen journal : List Entry) → FlusherFollows crew start seen → Among (is_by (flusher_seat crew)) seen journal → FlusherFollows crew start journal
flusher_on crew start seen journal f more = looked_behind (flusher_seat crew) (flusher_seat crew) start seen journal refl f more

-- ---- courses only add
pub driver_grows : (crew : Crew) (lines : List Line) (start seen : List Entry) (d : ℕ) → DriverFollows crew lines start seen d → Extends start seen
driver_grows crew lines start seen d f =
    let closed = f.look ++ closing d ∷ [] in
    extends_on start f.done seen (leads_on (is_by (driver_seat d)) (driver_seat d) (lines_of_driver crew d lines) nothing_kept start f.done f.leads)
    (extends_on f.done f.look seen (f.next.0, f.next.1) (extends_on f.look closed seen (closing d ∷ [], refl) (f.more.0, f.more.1)))

drains_grow : (seat n : ℕ) (left last : List Entry) → DrainsOn seat n left last → Extends left last
drains_grow seat zero left last d = (d.0, d.1)
drains_grow seat (suc n) left last d =
    let q = quiet_one seat (suc d.0) d.0 left d.1 (λ is. absurd (omega (arith, is))) d.2 in
    extends_on left d.1 last (q.0, q.1) (drains_grow seat n d.1 last d.3)

-- ---- what a worker has swept is swept in the whole
pub swept_on : (crew : Crew) (start seen journal : List Entry) (w doc : ℕ) → doc < length (makings start) → WorkerFollows crew start seen w → AreSwept crew.drivers (worker_seat crew w) seen → Among (is_by (worker_seat crew w)) seen journal
    → IsSweptBy crew.drivers (worker_seat crew w) doc journal
swept_on crew start seen journal w doc made f swept more =
    let seat = worker_seat crew w in
    swept_quiet seat doc crew.drivers seen journal (swept doc (made_on doc start seen (drains_grow seat f.0 start seen f.1) made)) (quiet_among seat doc seen journal more)
