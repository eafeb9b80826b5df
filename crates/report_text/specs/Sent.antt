-- The members of the line of an update that was sent, in two parts, before those that are still to come.
use Rattle.std.specs.Prelude.{codes}
use Rattle.serde_json.specs.Data.{Members, boolean, member, number, string, unsigned}
use Rattle.json_lines.specs.Object.{optional}
use Rattle.journal_entries.specs.declared.update.Update.{Update}
use Rattle.ot_json.specs.Grammar.{operation_data}
use Rattle.report_text.specs.Values.{numbers_data}
use Rattle.report_text.specs.declared.heading.Heading.{Heading}

abbrev pub sent_front : Heading → Update → Members → Members
sent_front h u more =
    member (codes "b") (number (unsigned h.board)) (member (codes "client") (optional u.client) (member (codes "doc") (number (unsigned u.doc))
    (member (codes "dup") (numbers_data u.dup) (member (codes "e") (string (codes "sent")) (member (codes "line") (optional h.line) (member (codes "ms") (number (unsigned u.ms))
    (member (codes "n") (number (unsigned h.n)) more)))))))

abbrev pub sent_back : Heading → Update → Members → Members
sent_back h u more =
    member (codes "number") (number (unsigned u.number)) (member (codes "op") (operation_data u.op) (member (codes "seat") (number (unsigned h.seat))
    (member (codes "source") (number (unsigned u.source)) (member (codes "track") (boolean u.track) (member (codes "user") (string u.user) (member (codes "v") (number (unsigned u.v)) more))))))
