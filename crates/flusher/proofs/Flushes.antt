-- A flusher goes on from one flush to the next.
use Rattle.std.proofs.Common.{◌≡◌, ℕ, zero, suc, List, [], ◌∷◌, ◌++◌, map, refl, sym, ap, ◌∙◌, subst, inl, inr, append-nil}
use Rattle.std.specs.Prelude.{None, Result, Ok, Err, OnOk, OnErr}
use Rattle.std.specs.declared.alloc.AllocError.{AllocError}
use Rattle.journal_entries.specs.declared.act.Entry.{Entry}
use Rattle.journal_rules.specs.Locks.{next_token}
use Rattle.turn_rules.specs.Draining.{Releases}
use Rattle.turn_rules.specs.Flushing.{FlushesFrom, Puts}
use Rattle.turn_rules.specs.Locking.{acquired}
use Rattle.turn_rules.specs.Turns.{Among, entry_by}
use Rattle.run_rules.specs.Threads.{FlushesOn, is_by}
use Rattle.run_rules.proofs.Growing.{Extends, among_on, among_same, any, extends_on, releases}
use Rattle.book.specs.declared.faults.KeptLook.{KeptLook}
use Rattle.seat_turns.specs.declared.ending.WorkerEnd.{WorkerEnd}
use Rattle.seat_turns.specs.declared.ending.WorkerEnd.TheVariants.{Closed, Memory}
use Rattle.flusher.specs.Flushing.{FlushesBy, FlushesShort, FlushesSome}
use Rattle.flusher.specs.Putting.{EndsFlush}
use Rattle.flusher.specs.Taking.{IsAcquired}
use Rattle.flusher.proofs.Ends.{PutsAt}

module _ (seat : ℕ) where
  pub flushes_none : (j : List Entry) → FlushesSome seat j j
  flushes_none j = (0, among_same (is_by seat) j)

  pub flushes_among : (left last : List Entry) → Among (is_by seat) left last → FlushesSome seat left last
  flushes_among left last among = (0, among)

  pub flushes_from : (left mid last : List Entry) → Among (is_by seat) left mid → FlushesSome seat mid last → FlushesSome seat left last
  flushes_from left mid last among f = (f.0, go f.0 f.1)
    where
      go : (n : ℕ) → FlushesOn seat n mid last → FlushesOn seat n left last
      go zero on = among_on (is_by seat) left mid last among on
      go (suc n) on = (on.0, on.1, on.2, among_on (is_by seat) left mid on.1 among on.3, on.4, on.5, on.6)

  -- one course goes on into the next
  pub flushes_more : (left mid last : List Entry) → FlushesSome seat left mid → FlushesSome seat mid last → FlushesSome seat left last
  flushes_more left mid last f g = go f.0 left f.1
    where
      go : (n : ℕ) (left : List Entry) → FlushesOn seat n left mid → FlushesSome seat left last
      go zero left on = flushes_from left mid last on g
      go (suc n) left on = let rest = go n on.2 on.6 in (suc rest.0, (on.0, on.1, on.2, on.3, on.4, on.5, rest.1))

  pub short_more : (left mid last : List Entry) → FlushesSome seat left mid → FlushesShort seat mid last → FlushesShort seat left last
  short_more left mid last f (inl g) = inl (flushes_more left mid last f g)
  short_more left mid last f (inr g) = inr (g.0, flushes_more left mid g.0 f g.1, g.2)

  -- ---- one document
  module _ (doc : ℕ) (left at mid last : List Entry) (look : KeptLook) (among : Among (is_by seat) left at) (a : IsAcquired (entry_by seat None) seat doc at look mid) where
    ends_from : (r : Result (Unit {0}) AllocError) → EndsFlush (entry_by seat None) (Among (is_by seat)) look.doc look.token mid last r
        → EndsFlush (entry_by seat None) (Among (is_by seat)) doc (next_token at) (at ++ entry_by seat None (acquired doc at) ∷ []) last r
    ends_from r e =
        subst (λ (x : ℕ × ℕ × List Entry). EndsFlush (entry_by seat None) (Among (is_by seat)) x.0 x.1 x.2 last r) (λ i. (a.doc_is i, a.token_is i, a.last_is i)) e

    pub flushed_by : (r : Result (Unit {0}) AllocError) → EndsFlush (entry_by seat None) (Among (is_by seat)) look.doc look.token mid last r → OnOk r (FlushesSome seat left last)
    flushed_by (Ok done) e = (1, (doc, at, last, among, a.free, ends_from (Ok done) e, among_same (is_by seat) last))
    flushed_by (Err f) e = tt

    pub short_by : (r : Result (Unit {0}) AllocError) → EndsFlush (entry_by seat None) (Among (is_by seat)) look.doc look.token mid last r → OnErr r (FlushesShort seat left last)
    short_by (Ok done) e = tt
    short_by (Err f) e = inr (left, flushes_none left, (doc, at, among, a.free, ends_from (Err f) e))

  -- ---- the journal grows
  among_extends : (a b : List Entry) → Among (is_by seat) a b → Extends a b
  among_extends a b x = (x.0, x.1)

  pub releases_extend : (doc token : ℕ) (left last : List Entry) → Releases (entry_by seat None) (Among (is_by seat)) doc token left last → Extends left last
  releases_extend doc token left last r =
      releases any (λ act e. refl) Extends (λ j. ([], sym (append-nil j))) extends_on (Among (is_by seat)) among_extends (entry_by seat None) (λ acts may j. (map (entry_by seat None) acts, refl)) doc token left last r

  put_extends : (doc token : ℕ) (at last : List Entry) → PutsAt (Among (is_by seat)) seat doc token at last → Extends at last
  put_extends doc token at last (inl p) = let put = at ++ entry_by seat None p.0 ∷ [] in extends_on at put last (entry_by seat None p.0 ∷ [], refl) (releases_extend doc token put last p.2)
  put_extends doc token at last (inr p) = ([], p.1)

  pub puts_extend : (doc token : ℕ) (left last : List Entry) → Puts (entry_by seat None) (Among (is_by seat)) (λ late. []) doc token left last → Extends left last
  puts_extend doc token left last p = extends_on left p.0 last (among_extends left p.0 p.1) (put_extends doc token p.0 last p.2)

  pub flushes_extend : (left last : List Entry) → FlushesSome seat left last → Extends left last
  flushes_extend left last f = go f.0 left f.1
    where
      go : (n : ℕ) (left : List Entry) → FlushesOn seat n left last → Extends left last
      go zero left on = among_extends left last on
      go (suc n) left on =
          let first = on.1 ++ entry_by seat None (acquired on.0 on.1) ∷ [] in
          extends_on left on.1 last (among_extends left on.1 on.3)
          (extends_on on.1 first last (entry_by seat None (acquired on.0 on.1) ∷ [], refl) (extends_on first on.2 last (puts_extend on.0 (next_token on.1) first on.2 on.5) (go n on.2 on.6)))

-- it goes on; the seat's number is known by an equation
pub looked_behind : (n m : ℕ) (left mid last : List Entry) → m ≡ n → FlushesSome n left mid → Among (is_by m) mid last → FlushesSome n left last
looked_behind n m left mid last is f among = flushes_more n left mid last f (flushes_among n mid last (subst (λ (k : ℕ). Among (is_by k) mid last) is among))

pub flushed_behind : (n m : ℕ) (left mid last : List Entry) → m ≡ n → FlushesSome n left mid → FlushesSome m mid last → FlushesSome n left last
flushed_behind n m left mid last is f g = flushes_more n left mid last f (subst (λ (k : ℕ). FlushesSome k mid last) is g)

pub short_behind : (n m : ℕ) (left mid last : List Entry) → m ≡ n → FlushesSome n left mid → FlushesShort m mid last → FlushesShort n left last
short_behind n m left mid last is f g = short_more n left mid last f (subst (λ (k : ℕ). FlushesShort k mid last) is g)

-- so it is where an error is handed on
pub short_error : {T E : Type 0} (r : Result T E) (n m : ℕ) (left mid last : List Entry) → m ≡ n → FlushesSome n left mid → FlushesShort m mid last → OnErr r (FlushesShort n left last)
short_error (Ok done) n m left mid last is f g = tt
short_error (Err e) n m left mid last is f g = short_behind n m left mid last is f g

-- the whole course: a first turn, and then the rounds
pub course : (end : WorkerEnd) (n m : ℕ) (a b c : List Entry) → m ≡ n → Among (is_by n) a b → FlushesBy end m b c → FlushesBy end n a c
course Closed n m a b c is x f = flushes_from n a b c x (subst (λ (k : ℕ). FlushesSome k b c) is f)
course Memory n m a b c is x f = short_more n a b c (flushes_among n a b x) (subst (λ (k : ℕ). FlushesShort k b c) is f)
