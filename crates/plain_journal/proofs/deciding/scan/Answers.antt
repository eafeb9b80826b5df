use Rattle.std.proofs.Common.{◌≡◌, true, false, sym, ◌∙◌, Some, None}
use Rattle.journal_rules.proofs.Waits.{source_sought}
use Rattle.ot_transform.specs.Crossing.{crossed}
use Rattle.journal_rules.specs.Documents.{is_in}
use Rattle.plain_journal.proofs.Scanning.{fits_first, fits_next, scan_twin, scan_stuck, scan_goes_on}
use Rattle.plain_journal.proofs.deciding.scan.Goals as goal

pub cross-requires : goal.cross-requires
cross-requires c = fits_first c.args.update.now.dup c.loop-item.moved c.args.past.now c.loop-item.item-index c.item-item.result c.loop-item-test.true c.item-item.is c.loop-item.invariant.fits

pub returns-then-contains : goal.returns-then-contains
returns-then-contains c =
    let found : is_in c.item-item.result.update.now.source c.args.update.now.dup ≡ true = source_sought _ _ _ _ _ c.contains.ensures.value c.as_slice.ensures c.if-contains.true in
    scan_twin _ c.loop-item.moved c.args.past.now c.loop-item.item-index c.item-item.result c.loop-item-test.true c.item-item.is found ∙ c.loop-item.invariant.same

pub returns-in_default : goal.returns-in_default
returns-in_default c =
    let missed : is_in c.item-item.result.update.now.source c.args.update.now.dup ≡ false = source_sought _ _ _ _ _ c.contains.ensures.value c.as_slice.ensures c.if-contains.false in
    let none : crossed c.loop-item.moved c.item-item.result.op.now ≡ None = sym c.in_ok-next.ensures.value ∙ c.in_default.is in
    scan_stuck _ c.loop-item.moved c.args.past.now c.loop-item.item-index c.item-item.result c.loop-item-test.true c.item-item.is missed none ∙ c.loop-item.invariant.same

pub loop-item-preserved : goal.loop-item-preserved
loop-item-preserved c =
    let missed : is_in c.item-item.result.update.now.source c.args.update.now.dup ≡ false = source_sought _ _ _ _ _ c.contains.ensures.value c.as_slice.ensures c.if-contains.false in
    let given : crossed c.loop-item.moved c.item-item.result.op.now ≡ Some (c.in-Some.next, c.in-Some.field-0-1) = sym c.in_ok-next.ensures.value ∙ c.in-Some.is in
    record {
      fits = fits_next c.args.update.now.dup c.loop-item.moved c.args.past.now c.loop-item.item-index c.item-item.result c.loop-item-test.true c.item-item.is c.in-Some.next c.in-Some.field-0-1 c.loop-item.invariant.fits given;
      same = scan_goes_on _ c.loop-item.moved c.args.past.now c.loop-item.item-index c.item-item.result c.loop-item-test.true c.item-item.is c.in-Some.next c.in-Some.field-0-1 missed given ∙ c.loop-item.invariant.same;
    }
