-- The members of the line of a message that a client got, from the message's on, before those that are still to come.
use Rattle.std.specs.Prelude.{ℕ, List, codes}
use Rattle.serde_json.specs.Data.{Members, member, number, string, unsigned}
use Rattle.journal_entries.specs.declared.message.Brief.{Brief}
use Rattle.journal_entries.specs.declared.message.Brief.TheVariants.{Ack, Error, Op}
use Rattle.report_text.specs.declared.heading.Heading.{Heading}

abbrev pub versioned_back : Heading → List ℕ → ℕ → Members → Members
versioned_back h msg v more =
    member (codes "msg") (string msg) (member (codes "n") (number (unsigned h.n)) (member (codes "seat") (number (unsigned h.seat)) (member (codes "v") (number (unsigned v)) more)))

abbrev pub error_back : Heading → ℕ → Members → Members
error_back h update more =
    member (codes "msg") (string (codes "error")) (member (codes "n") (number (unsigned h.n)) (member (codes "number") (number (unsigned update)) (member (codes "seat") (number (unsigned h.seat)) more)))

abbrev pub got_back : Heading → Brief → Members → Members
got_back h (Op v) more = versioned_back h (codes "op") v more
got_back h (Ack v) more = versioned_back h (codes "ack") v more
got_back h (Error update) more = error_back h update more
