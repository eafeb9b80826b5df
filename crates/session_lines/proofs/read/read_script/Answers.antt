use Rattle.std.proofs.lemmas.Result.{IfOk-weaker}
use Rattle.session_lines.proofs.Numbered.{read_by, read_named, read_slow}
use Rattle.session_lines.proofs.Standing.{read_stands, read_short}
use Rattle.session_lines.proofs.read.read_script.Goals as goal

pub returns-clause-standing : goal.returns-clause-standing
returns-clause-standing c = IfOk-weaker c.read_lines.result _ _ (λ read is. read_stands c.args.bytes.now read is) c.read_lines.ensures.ok

pub returns-clause-short : goal.returns-clause-short
returns-clause-short c = IfOk-weaker c.read_lines.result _ _ (λ read is. read_short c.args.bytes.now read is) c.read_lines.ensures.ok

pub returns-clause-numbered : goal.returns-clause-numbered
returns-clause-numbered c = IfOk-weaker c.read_lines.result _ _ (λ read is. read_by c.args.bytes.now read is) c.read_lines.ensures.ok

pub returns-clause-named : goal.returns-clause-named
returns-clause-named c = IfOk-weaker c.read_lines.result _ _ (λ read is. read_named c.args.bytes.now read is) c.read_lines.ensures.ok

pub returns-clause-slow : goal.returns-clause-slow
returns-clause-slow c = IfOk-weaker c.read_lines.result _ _ (λ read is. read_slow c.args.bytes.now read is) c.read_lines.ensures.ok
