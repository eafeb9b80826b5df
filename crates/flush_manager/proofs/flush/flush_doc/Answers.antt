use Rattle.std.proofs.Common.{rules, ◌≡◌, ◌∙◌, [], ◌∷◌, sym, ap, subst}
use Rattle.std.specs.Prelude.{None}
use Rattle.journal_entries.specs.declared.act.Act.TheVariants.{Released}
use Rattle.turn_rules.specs.Locking.{acquired, staleness}
use Rattle.turn_rules.specs.Turns.{entry_by}
use Rattle.book.specs.Shown.{Shown}
use Rattle.book.proofs.Going.{goes_adding, goes_further, goes_same}
use Rattle.flush_manager.specs.Flushes.{Puts}
use Rattle.flush_manager.proofs.Flushing.{fresh, held, still, token_taken, told_why, whole, whys}
use Rattle.flush_manager.proofs.flush.flush_doc.Goals as goal

pub put-end-requires-clause-fresh : goal.put-end-requires-clause-fresh
put-end-requires-clause-fresh g c =
    let seat = c.args.by.seat in
    let line = c.args.by.line in
    let doc = c.args.doc in
    let old = c.args.book.now.journal in
    let mid = c.acquire_any.new.self.journal in
    let look = c.in-Ok.look in
    let took = c.in-Ok.ensures in
    let is = ap (λ (b : Shown). b.journal) took.acquired in
    fresh seat line doc old mid look is took.looks.0 took.looks.1 c.legal.ensures

pub release-requires : goal.release-requires
release-requires g c =
    let seat = c.args.by.seat in
    let line = c.args.by.line in
    let doc = c.args.doc in
    let old = c.args.book.now.journal in
    let mid = c.acquire_any.new.self.journal in
    let look = c.in-Ok.look in
    let took = c.in-Ok.ensures in
    let is = ap (λ (b : Shown). b.journal) took.acquired in
    let put = c.put-end.new.book.journal in
    let puts = subst (λ d. Puts (entry_by seat line) d look.token mid put c.put-end.result) took.looks.1 c.put-end.ensures.puts in
    record { may = λ none. (still seat line doc look.token mid put c.put-end.result puts).0 (held seat line doc old mid look is took.looks.0 took.looks.1 c.legal.ensures) }

pub unreachable-requires-in_default : goal.unreachable-requires-in_default
unreachable-requires-in_default g c =
    let seat = c.args.by.seat in
    let line = c.args.by.line in
    let doc = c.args.doc in
    let old = c.args.book.now.journal in
    let mid = c.acquire_any.new.self.journal in
    let look = c.in-Ok.look in
    let took = c.in-Ok.ensures in
    let is = ap (λ (b : Shown). b.journal) took.acquired in
    let put = c.put-end.new.book.journal in
    let puts = subst (λ d. Puts (entry_by seat line) d look.token mid put c.put-end.result) took.looks.1 c.put-end.ensures.puts in
    let here = ap (λ d. staleness d look.token mid) (sym took.looks.1) ∙ fresh seat line doc old mid look is took.looks.0 took.looks.1 c.legal.ensures in
    let stands : staleness doc look.token put ≡ None = (still seat line doc look.token mid put c.put-end.result puts).1 ∙ here in
    search (rules, stands, c.release.ensures.stale)

pub returns-clause-flushes : goal.returns-clause-flushes
returns-clause-flushes g c =
    let seat = c.args.by.seat in
    let line = c.args.by.line in
    let doc = c.args.doc in
    let old = c.args.book.now.journal in
    let mid = c.acquire_any.new.self.journal in
    let look = c.in-Ok.look in
    let took = c.in-Ok.ensures in
    let is = ap (λ (b : Shown). b.journal) took.acquired in
    let put = c.put-end.new.book.journal in
    let puts = subst (λ d. Puts (entry_by seat line) d look.token mid put c.put-end.result) took.looks.1 c.put-end.ensures.puts in
    let free = sym (told_why doc old) ∙ ap whys took.free in
    whole (entry_by seat line) doc look.token old mid put c.release.new.self.journal free (token_taken seat line doc old mid look is took.looks.0 took.looks.1 c.legal.ensures) is (ap (λ (b : Shown). b.journal) c.in-Ok-release.ensures.ok.2) c.put-end.result puts

-- ---- the book goes on
pub returns-in-Err-NoDoc-clause-goes : goal.returns-in-Err-NoDoc-clause-goes
returns-in-Err-NoDoc-clause-goes g c = goes_same c.args.book.now c.acquire_any.new.self c.in-Err-NoDoc.ensures.kept

pub returns-in-Err-Busy-clause-goes : goal.returns-in-Err-Busy-clause-goes
returns-in-Err-Busy-clause-goes g c = goes_same c.args.book.now c.acquire_any.new.self c.in-Err-Busy.ensures.kept

pub returns-in-Err-Uncached-clause-goes : goal.returns-in-Err-Uncached-clause-goes
returns-in-Err-Uncached-clause-goes g c = goes_same c.args.book.now c.acquire_any.new.self c.in-Err-Uncached.ensures.kept

pub returns-in-Err-Memory-clause-goes : goal.returns-in-Err-Memory-clause-goes
returns-in-Err-Memory-clause-goes g c = goes_same c.args.book.now c.acquire_any.new.self c.in-Err-Memory.ensures.kept

pub returns-clause-goes : goal.returns-clause-goes
returns-clause-goes g c =
    let old = c.args.book.now in let mid = c.acquire_any.new.self in let put = c.put-end.new.book in let new = c.release.new.self in
    goes_further old mid new (goes_adding old mid c.args.by.seat c.args.by.line (acquired c.args.doc old.journal ∷ []) c.in-Ok.ensures.acquired)
    (goes_further mid put new c.put-end.ensures.goes (goes_adding put new c.args.by.seat c.args.by.line (Released c.args.doc c.in-Ok.look.token ∷ []) c.in-Ok-release.ensures.ok.2))
