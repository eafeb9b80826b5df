use Rattle.std.proofs.Common.{◌∷◌, ap}
use Rattle.line_reader.proofs.Reading.{flag_read, number_read, string_read}
use Rattle.line_reader.proofs.scalar.scalar_of.Goals as goal

pub returns-in-String : goal.returns-in-String
returns-in-String c = λ depth rest. rw c.in-String.is (string_read depth c.in-String.text.now rest)

pub returns-in_ok-n-in-Number : goal.returns-in_ok-n-in-Number
returns-in_ok-n-in-Number c = λ depth rest. rw (c.in-Number.is, c.in_ok-n-in-Number.ensures.decimal) (number_read depth c.in_ok-n-in-Number.n rest c.in_ok-n-in-Number.ensures.word)

pub returns-in-Bool : goal.returns-in-Bool
returns-in-Bool c = λ depth rest. rw c.in-Bool.is (flag_read depth c.in-Bool.flag rest)
