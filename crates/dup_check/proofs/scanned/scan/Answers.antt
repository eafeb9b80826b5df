use Rattle.std.proofs.Common.{◌≡◌, true, false, sym, ◌∙◌, Some, None}
use Rattle.journal_rules.proofs.Waits.{source_sought}
use Rattle.ot_transform.specs.Crossing.{crossed}
use Rattle.journal_rules.specs.Documents.{is_in}
use Rattle.dup_check.proofs.Scanning.{fits_first, fits_next, scan_twin, scan_stuck, scan_goes_on}
use Rattle.dup_check.proofs.scanned.scan.Goals as goal

pub cross-requires : goal.cross-requires
cross-requires c = fits_first c.loop-k.moved c.args.past.now c.loop-k.k c.index-past-k.result c.loop-k-test.true c.index-past-k.is c.loop-k.invariant.fits

pub returns-then-contains : goal.returns-then-contains
returns-then-contains c =
    let found : is_in c.index-past-k.result.source c.args.update.now.dup ≡ true = source_sought _ _ _ _ _ c.contains.ensures.value c.as_slice.ensures c.if-contains.true in
    scan_twin _ _ c.loop-k.moved _ _ c.index-past-k.result _ c.loop-k.invariant.same c.loop-k-test.true c.index-past-k.is found

pub returns-in_default : goal.returns-in_default
returns-in_default c =
    let missed : is_in c.index-past-k.result.source c.args.update.now.dup ≡ false = source_sought _ _ _ _ _ c.contains.ensures.value c.as_slice.ensures c.if-contains.false in
    let none : crossed c.loop-k.moved c.index-past-k.result.op ≡ None = sym c.in_ok-next.ensures.value ∙ c.in_default.is in
    scan_stuck _ _ c.loop-k.moved _ _ c.index-past-k.result _ c.loop-k.invariant.same c.loop-k-test.true c.index-past-k.is missed none

pub loop-k-preserved : goal.loop-k-preserved
loop-k-preserved c =
    let missed : is_in c.index-past-k.result.source c.args.update.now.dup ≡ false = source_sought _ _ _ _ _ c.contains.ensures.value c.as_slice.ensures c.if-contains.false in
    let given : crossed c.loop-k.moved c.index-past-k.result.op ≡ Some (c.in-Some.next, c.in-Some.field-0-1) = sym c.in_ok-next.ensures.value ∙ c.in-Some.is in
    record {
      fits = fits_next c.loop-k.moved c.in-Some.next c.in-Some.field-0-1 c.args.past.now c.loop-k.k c.index-past-k.result c.loop-k-test.true c.index-past-k.is c.loop-k.invariant.fits given;
      same = scan_goes_on _ _ c.loop-k.moved _ _ c.index-past-k.result _ c.loop-k.invariant.same c.loop-k-test.true c.index-past-k.is c.in-Some.next c.in-Some.field-0-1 missed given;
    }
