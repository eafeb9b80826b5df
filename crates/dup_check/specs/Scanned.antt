-- What the operations since an update's version make of its own, as the rules name it.
use Rattle.journal_rules.specs.Deciding.{Scan, Twin, Stuck, Moved}
use Rattle.dup_check.specs.declared.scanned.Scanned.{Scanned}
use Rattle.dup_check.specs.declared.scanned.Scanned.TheVariants as scanned

abbrev pub scan_of : Scanned → Scan
scan_of (scanned.Twin v) = Twin v
scan_of scanned.Stuck = Stuck
scan_of (scanned.Moved op) = Moved op
