-- What the driver keeps makes a driver of a book at its look, and is taken out of it again.
use Rattle.std.proofs.Common.{◌≡◌, ℕ, List, [], ◌∷◌, ◌++◌, length, Bool, true, false, not, refl, sym, ap, ap₂, ◌∙◌, subst, arith, All}
use Rattle.std.specs.Prelude.{slice_get, Some, None, Result, Ok, Err, OnOk, OnErr, ◌&&◌}
use Rattle.std.specs.List.{list_all}
use Rattle.journal_entries.specs.declared.act.Entry.{Entry}
use Rattle.journal_rules.specs.Client.{away}
use Rattle.journal_rules.specs.Documents.{is_in}
use Rattle.journal_rules.specs.Legal.{closed}
use Rattle.journal_rules.proofs.Pushing.{closed-none}
use Rattle.turn_rules.proofs.Owning.{unclosed_among}
use Rattle.turn_rules.specs.Turns.{Among, is_by}
use Rattle.run_rules.proofs.Growing.{among_on, among_same}
use Rattle.run_rules.specs.Threads.{closing}
use Rattle.ending_rules.proofs.Apart.{all_first, all_later}
use Rattle.share_client.specs.Clients.{Numbered}
use Rattle.book.specs.Going.{GoesOn}
use Rattle.book.specs.Shown.{Shown}
use Rattle.script_driver.specs.Clients.{AreClientsOf, AreOwnClientsOf}
use Rattle.script_driver.specs.Failing.{GoesByOwn}
use Rattle.script_driver.specs.Handing.{is_own, items_handed_by}
use Rattle.script_driver.specs.Holding.{AreHeld, IsDriver}
use Rattle.script_driver.specs.declared.driver.Driver.{Driver}
use Rattle.script_driver.proofs.Clients.{one_stays, own_stay}
use Rattle.script_driver.proofs.Failing.{GrowsBy}
use Rattle.script_driver.proofs.Handing.{one_hands_none}
use Rattle.script_driver.proofs.Lines.{empty_driver}
use Rattle.drivers.specs.Driving.{IsKept, IsLook, IsOpen, StartsWith}
use Rattle.drivers.specs.declared.stepping.Keeping.{Keeping}
use Rattle.drivers.proofs.Others.{clients_among, handed_among, held_among, owner_one}

-- ---- at a look
pub open_at : (seen look : List Entry) → IsOpen seen → IsLook seen look → is_in 0 (closed look) ≡ false
open_at seen look was looks = unclosed_among 1 0 was.base look looks.owned (among_on (is_by 1) was.base seen look was.since looks.among) was.unclosed

pub open_kept : (kept : Keeping) (seen : List Entry) → IsKept kept seen → IsOpen seen
open_kept kept seen was = record { base = was.base; since = was.since; unclosed = was.unclosed }

pub open_here : (seen : List Entry) → is_in 0 (closed seen) ≡ false → IsOpen seen
open_here seen unclosed = record { base = seen; since = among_same (is_by 1) seen; unclosed = unclosed }

pub kept_at : (kept : Keeping) (seen look : List Entry) → IsKept kept seen → IsLook seen look → IsKept kept look
kept_at kept seen look was looks =
    let among = among_on (is_by 1) was.base seen look was.since looks.among in
    record {
      base = look;
      since = among_same (is_by 1) look;
      unclosed = open_at seen look (open_kept kept seen was) looks;
      held = held_among kept.holds.items was.base look looks.legal among was.held;
      clients = clients_among kept.clients.items was.base look looks.owned among was.unclosed was.clients;
      many = was.many;
      handed = was.handed ∙ sym (handed_among was.base look among);
    }

-- ---- a driver of a book
pub driver_at : {K : Type 0} (driver : Driver K) (kept : Keeping) (seen look : List Entry) → driver.seat ≡ 1 → driver.book.drivers ≡ 1 → driver.book.journal ≡ look
    → driver.holds ≡ kept.holds → driver.clients ≡ kept.clients → driver.handed ≡ kept.handed → IsKept kept seen → IsLook seen look → IsDriver driver
driver_at driver kept seen look seat drivers journal holds clients handed was looks =
    let among = among_on (is_by 1) was.base seen look was.since looks.among in
    record {
      held = rw (seat, holds, journal) (held_among kept.holds.items was.base look looks.legal among was.held);
      clients = rw (seat, drivers, clients, journal) (clients_among kept.clients.items was.base look looks.owned among was.unclosed was.clients);
      many = rw (clients, holds) was.many;
      handed = rw (seat, drivers, handed, journal) (was.handed ∙ sym (handed_among was.base look among));
    }

pub kept_behind : {K : Type 0} (driver : Driver K) (kept : Keeping) (seen : List Entry) → driver.seat ≡ 1 → driver.book.drivers ≡ 1 → seen ≡ driver.book.journal
    → kept.holds ≡ driver.holds → kept.clients ≡ driver.clients → kept.handed ≡ driver.handed → is_in 0 (closed driver.book.journal) ≡ false → IsDriver driver → IsKept kept seen
kept_behind driver kept seen seat drivers journal holds clients handed unclosed is = record {
  base = driver.book.journal;
  since = subst (λ (j : List Entry). Among (is_by 1) driver.book.journal j) (sym journal) (among_same (is_by 1) driver.book.journal);
  unclosed = unclosed;
  held = rw holds (subst (λ (s : ℕ). AreHeld s driver.holds.items driver.book.journal) seat is.held);
  clients = rw clients (subst (λ (p : ℕ × ℕ). AreOwnClientsOf p.0 p.1 driver.clients.items driver.book.journal) (λ i. (drivers i, seat i)) is.clients);
  many = rw (holds, clients) is.many;
  handed = rw handed (is.handed ∙ ap₂ (λ (d s : ℕ). items_handed_by (is_own d s) driver.book.journal) drivers seat);
}

-- ---- what a turn leaves of the book, whether its line was done or not
pub left_own : {T E : Type 0} (tells : Bool) (r : Result T E) (old new : Shown) → OnOk r (GrowsBy 1 old.journal new.journal) → OnOk r (closed new.journal ≡ closed old.journal) → OnOk r (GoesOn tells old new) → OnErr r (GoesByOwn 1 old new) → GoesByOwn 1 old new
left_own tells (Ok x) old new grows still goes failed = record { own = grows.0; journal_is = grows.1; all = grows.2; closed_is = still; drivers_are = goes.drivers_are; start_is = goes.start_is }
left_own tells (Err e) old new grows still goes failed = failed

-- ---- at first
pub not_first : (n : ℕ) → n ≡ 1 → n ≡ 0 → ⊥
not_first n one none = absurd (omega (arith, one, none))

none_by : (seen : List Entry) → All (λ (e : Entry). e.seat ≡ 0) seen → list_all (λ e. not (is_by 1 e)) seen ≡ true
none_by [] all = refl
none_by (e ∷ es) all =
    let first : e.seat ≡ 0 = all_first (λ (x : Entry). x.seat ≡ 0) e es all in
    ap₂ (λ (p q : Bool). p && q) (ap (λ (s : ℕ). not (is_by 1 (record { seat = s; line = e.line; act = e.act }))) first) (none_by es (all_later (λ (x : Entry). x.seat ≡ 0) e es all))

pub starts_with : (start seen : List Entry) → All (λ (e : Entry). e.seat ≡ 0) start → Among (is_by 1) start seen → StartsWith seen
starts_with start seen all among = among_on (is_by 1) [] start seen (start, refl, none_by start all) among

pub open_start : (seen : List Entry) → StartsWith seen → IsOpen seen
open_start seen starts = record { base = []; since = starts; unclosed = ap (is_in 0) closed-none }

pub kept_start : (kept : Keeping) (seen : List Entry) → All (λ k. k ≡ None) kept.holds.items → ((c : ℕ) (x : Numbered) → slice_get kept.clients.items c ≡ Some x → x ≡ record { client = c; now = away }) → length kept.clients.items ≡ length kept.holds.items → kept.handed.items ≡ [] → StartsWith seen → IsKept kept seen
kept_start kept seen none aways many nothing starts =
    let is = empty_driver {K = Unit {0}} (record { seat = 1; book = record { journal = []; drivers = 1; documents = []; faults = 0; start = record { faults = 0; documents = [] } }; holds = kept.holds; clients = kept.clients; handed = kept.handed })
    (refl, nothing) none aways many in
    record { base = []; since = starts; unclosed = ap (is_in 0) closed-none; held = is.held; clients = is.clients; many = is.many; handed = is.handed }

-- ---- at the end
module _ (kept : Keeping) (seen look : List Entry) (was : IsKept kept seen) (looks : IsLook seen look) where
  pub clients_closed : (last : List Entry) → last ≡ look ++ closing 0 ∷ [] → AreClientsOf kept.clients.items last
  clients_closed last is = record { each = λ c s at. (let one = all.each c s at in (one.0, one.1 (owner_one c))) }
    where
      base_is : AreOwnClientsOf 1 1 kept.clients.items look
      base_is =
          clients_among kept.clients.items was.base look looks.owned (among_on (is_by 1) was.base seen look was.since looks.among) was.unclosed was.clients

      all : AreOwnClientsOf 1 1 kept.clients.items last
      all = subst (λ (j : List Entry). AreOwnClientsOf 1 1 kept.clients.items j) (sym is) (own_stay 1 1 kept.clients.items look (look ++ closing 0 ∷ []) (one_stays look (closing 0) refl) base_is)

  pub handed_closed : (last : List Entry) → last ≡ look ++ closing 0 ∷ [] → kept.handed.items ≡ items_handed_by (is_by 1) last
  handed_closed last is =
      was.handed ∙ sym (ap (items_handed_by (is_by 1)) is ∙ one_hands_none (is_by 1) look (closing 0) refl ∙ handed_among was.base look (among_on (is_by 1) was.base seen look was.since looks.among))
