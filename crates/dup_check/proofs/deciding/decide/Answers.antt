use Rattle.std.proofs.Common.{◌≡◌, sym, ap, ◌∙◌, arith, List}
use Rattle.journal_rules.specs.Deciding.{Stuck, Moved, scanned}
use Rattle.dup_check.specs.declared.past.Past.{Past}
use Rattle.dup_check.specs.Snapshot.{numbered, InReach}
use Rattle.dup_check.specs.Scanned.{scan_of}
use Rattle.dup_check.proofs.Keeping.{scan_in, moved_small, kept_stuck, kept_moved}
use Rattle.dup_check.proofs.deciding.decide.Goals as goal

pub fit-requires-clause-small : goal.fit-requires-clause-small
fit-requires-clause-small c =
    let look = c.args.look.now in
    let is : scan_in look ≡ Moved c.in-Moved.op = sym (ap (λ (past : List Past). scanned look.update.dup look.update.op (numbered look.update.v past)) c.as_slice.ensures.value) ∙ sym c.in_ok-v.ensures ∙ ap scan_of c.in-Moved.is in
    let reach : InReach look = record { made = omega arith; present = omega arith; young = omega arith } in
    moved_small look c.in-Moved.op is (c.requires.ready reach).small

pub returns-in-Stuck-clause-kept : goal.returns-in-Stuck-clause-kept
returns-in-Stuck-clause-kept c =
    let look = c.args.look.now in
    let is : scan_in look ≡ Stuck = sym (ap (λ (past : List Past). scanned look.update.dup look.update.op (numbered look.update.v past)) c.as_slice.ensures.value) ∙ sym c.in_ok-v.ensures ∙ ap scan_of c.in-Stuck.is in
    kept_stuck look _ is

pub returns-in-Moved-clause-kept : goal.returns-in-Moved-clause-kept
returns-in-Moved-clause-kept c =
    let look = c.args.look.now in
    let is : scan_in look ≡ Moved c.in-Moved.op = sym (ap (λ (past : List Past). scanned look.update.dup look.update.op (numbered look.update.v past)) c.as_slice.ensures.value) ∙ sym c.in_ok-v.ensures ∙ ap scan_of c.in-Moved.is in
    kept_moved look c.in-Moved.op c.fit.result is c.fit.ensures.decided
