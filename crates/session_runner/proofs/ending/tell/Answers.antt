use Rattle.std.proofs.Common.{ap, subst, sym}
use Rattle.session_runner.specs.Ending.{IsWriting, status_of, text_of}
use Rattle.session_runner.proofs.Completing.{told_text}
use Rattle.session_runner.proofs.ending.tell.Goals as goal

pub returns-in-Words : goal.returns-in-Words
returns-in-Words g c = told_text _ _ _ c.args.ending.now _ (subst IsWriting (sym c.in-Words.is) tt) (ap status_of c.in-Words.is) (ap text_of c.in-Words.is) c.tell_text.ensures

pub returns-in-Read : goal.returns-in-Read
returns-in-Read g c = told_text _ _ _ c.args.ending.now _ (subst IsWriting (sym c.in-Read.is) tt) (ap status_of c.in-Read.is) (ap text_of c.in-Read.is) c.tell_text-in-Read.ensures

pub returns-in-Long : goal.returns-in-Long
returns-in-Long g c = told_text _ _ _ c.args.ending.now _ (subst IsWriting (sym c.in-Long.is) tt) (ap status_of c.in-Long.is) (ap text_of c.in-Long.is) c.tell_text-in-Long.ensures
