use Rattle.std.proofs.Common.{◌∙◌, sym}
use Rattle.script_driver.proofs.Lines.{kept_none}
use Rattle.drivers.proofs.Keeps.{kept_start}
use Rattle.drivers.proofs.driving.nothing_yet.Goals as goal

pub returns-clause-kept : goal.returns-clause-kept
returns-clause-kept c = λ seen starts.
    kept_start _ seen c.in_ok-holds.ensures.nothing c.in_ok-clients.ensures.away (c.in_ok-clients.ensures.many ∙ sym c.in_ok-holds.ensures.many) c.new.ensures.items starts

pub returns-clause-nothing : goal.returns-clause-nothing
returns-clause-nothing c = kept_none _ c.in_ok-holds.ensures.nothing
