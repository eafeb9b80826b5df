-- What was visited stays so, and one document more is visited.
use Rattle.std.proofs.Common.{◌≡◌, ◌≢◌, ℕ, ◌+◌, ◌<◌, ◌≤◌, List, [], ◌∷◌, ◌++◌, length, Bool, true, false, refl, sym, ap, ◌∙◌, subst, inl, inr, arith, append-nil, append_assoc, ltb-true, ltb-false}
use Rattle.std.specs.Prelude.{Some, None, nat_lt, Result, Ok, Err, OnOk}
use Rattle.std.specs.declared.alloc.AllocError.{AllocError}
use Rattle.journal_entries.specs.declared.act.Entry.{Entry}
use Rattle.journal_rules.specs.Documents.{makings, version}
use Rattle.journal_rules.specs.Keeping.{kept}
use Rattle.turn_rules.specs.Locking.{acquired}
use Rattle.turn_rules.specs.Turns.{Among, entry_by}
use Rattle.run_rules.specs.Threads.{is_by}
use Rattle.run_rules.proofs.Growing.{Extends}
use Rattle.book.specs.declared.faults.KeptLook.{KeptLook}
use Rattle.seat_turns.specs.Closings.{IfClosed}
use Rattle.seat_turns.specs.declared.ending.WorkerEnd.{WorkerEnd}
use Rattle.seat_turns.specs.declared.ending.WorkerEnd.TheVariants.{Closed, Memory}
use Rattle.flusher.specs.Taking.{IsAcquired, IsLeftAlone}
use Rattle.flusher.specs.Putting.{EndsFlush}
use Rattle.flusher.specs.Visiting.{HasGoneRound, IsVisited, IsVisitedAt}
use Rattle.flusher.proofs.Flushes.{puts_extend}

module _ (seat doc : ℕ) where
  longer_visit : (look rest more : List Entry) → IsVisitedAt seat doc look rest → IsVisitedAt seat doc look (rest ++ more)
  longer_visit look rest more (inl alone) = inl alone
  longer_visit look rest more (inr a) = inr (a.0, (a.1.0 ++ more, ap (λ (es : List Entry). es ++ more) a.1.1))

  pub visited_on : (start seen later : List Entry) → Extends seen later → IsVisited seat doc start seen → IsVisited seat doc start later
  visited_on start seen later x v = record {
    before = v.before;
    rest = v.rest ++ x.0;
    seen_is = x.1 ∙ ap (λ (es : List Entry). es ++ x.0) v.seen_is ∙ append_assoc (start ++ v.before) v.rest x.0;
    visited = longer_visit (start ++ v.before) v.rest x.0 v.visited;
  }

  pub visited_since : (start mid seen : List Entry) → Extends start mid → IsVisited seat doc mid seen → IsVisited seat doc start seen
  visited_since start mid seen x v =
      let same : mid ++ v.before ≡ start ++ (x.0 ++ v.before) = ap (λ (es : List Entry). es ++ v.before) x.1 ∙ append_assoc start x.0 v.before in
      record {
        before = x.0 ++ v.before;
        rest = v.rest;
        seen_is = v.seen_is ∙ ap (λ (es : List Entry). es ++ v.rest) same;
        visited = subst (λ (es : List Entry). IsVisitedAt seat doc es v.rest) same v.visited;
      }

  pub visited_alone : (left last : List Entry) → Among (is_by seat) left last → IsLeftAlone doc last → IsVisited seat doc left last
  visited_alone left last among alone = record {
    before = among.0;
    rest = [];
    seen_is = among.1 ∙ sym (append-nil (left ++ among.0));
    visited = inl (subst (λ (es : List Entry). IsLeftAlone doc es) among.1 alone);
  }

  pub visited_acquired : (left at mid last : List Entry) (look : KeptLook) → Among (is_by seat) left at → IsAcquired (entry_by seat None) seat doc at look mid → Extends mid last → IsVisited seat doc left last
  visited_acquired left at mid last look among a x = record {
    before = among.0;
    rest = entry_by seat None (acquired doc (left ++ among.0)) ∷ x.0;
    seen_is =
        x.1 ∙ ap (λ (es : List Entry). es ++ x.0) a.last_is ∙ append_assoc at (entry_by seat None (acquired doc at) ∷ []) x.0
        ∙ ap (λ (es : List Entry). es ++ entry_by seat None (acquired doc es) ∷ x.0) among.1;
    visited = inr (subst (λ (es : List Entry). kept doc es ≢ Some (version doc es)) among.1 a.unkept, (x.0, refl));
  }

pub visited_by : (seat doc : ℕ) (left at mid last : List Entry) (look : KeptLook) → Among (is_by seat) left at → IsAcquired (entry_by seat None) seat doc at look mid → (r : Result (Unit {0}) AllocError)
    → EndsFlush (entry_by seat None) (Among (is_by seat)) look.doc look.token mid last r → OnOk r (IsVisited seat doc left last)
visited_by seat doc left at mid last look among a (Ok done) e = visited_acquired seat doc left at mid last look among a (puts_extend seat look.doc look.token mid last e)
visited_by seat doc left at mid last look among a (Err f) e = tt

-- the documents below a number were visited
abbrev pub AreVisitedBelow : ℕ → ℕ → List Entry → List Entry → Type 0
AreVisitedBelow seat n start seen = (doc : ℕ) → doc < n → IsVisited seat doc start seen

-- one more; the seat's number is known by an equation
pub visited_one : (n m doc : ℕ) (start seen look last : List Entry) → m ≡ n → Extends start look → Extends seen last → AreVisitedBelow n doc start seen → IsVisited m doc look last → AreVisitedBelow n (doc + 1) start last
visited_one n m doc start seen look last is since on below now d low = go (nat_lt d doc) refl
  where
    go : (b : Bool) → nat_lt d doc ≡ b → IsVisited n d start last
    go true lt = visited_on n d start seen last on (below d (ltb-true d doc lt))
    go false ge =
        let same : doc ≡ d = omega (arith, ltb-false d doc ge, low) in
        visited_since n d start look last since (subst (λ (x : ℕ × ℕ). IsVisited x.0 x.1 look last) (λ i. (is i, same i)) now)

-- all of them
pub gone_round : (n doc : ℕ) (start seen last : List Entry) → Extends seen last → length (makings last) ≤ doc → AreVisitedBelow n doc start seen → HasGoneRound n start last
gone_round n doc start seen last on few below = record {
  round = last;
  rest = [];
  seen_is = sym (append-nil last);
  each = λ d low. visited_on n d start seen last on (below d (omega (arith, few, low)));
}

-- the round stays gone as others go on, and counts from every earlier start
pub gone_on : (n m : ℕ) (start mid seen last : List Entry) → m ≡ n → Extends start mid → Extends seen last → HasGoneRound m mid seen → HasGoneRound n start last
gone_on n m start mid seen last is since on r =
    let g = subst (λ (k : ℕ). HasGoneRound k mid seen) is r in
    record {
      round = g.round;
      rest = g.rest ++ on.0;
      seen_is = on.1 ∙ ap (λ (es : List Entry). es ++ on.0) g.seen_is ∙ append_assoc g.round g.rest on.0;
      each = λ d low. visited_since n d start mid g.round since (g.each d low);
    }

pub gone_at : (end : WorkerEnd) (n m : ℕ) (a b c : List Entry) → m ≡ n → (n ≢ 0 → Among (is_by n) a b) → IfClosed end (HasGoneRound m b c) → IfClosed end (n ≢ 0 → HasGoneRound n a c)
gone_at Closed n m a b c is x r = λ other. let among = x other in gone_on n m a b c c is (among.0, among.1) ([], sym (append-nil c)) r
gone_at Memory n m a b c is x r = tt
