-- A message's members, in byte order of their keys.
use Rattle.std.proofs.Common.{◌≡◌, ℕ, [], codes, refl}
use Rattle.serde_json.specs.Data.{member, no_members, number, string, unsigned}
use Rattle.json_lines.specs.Object.{optional, with_member}
use Rattle.journal_entries.specs.declared.act.Act.TheVariants.{Got}
use Rattle.journal_entries.specs.declared.message.Brief.{Brief}
use Rattle.journal_entries.specs.declared.message.Brief.TheVariants.{Ack, Error, Op}
use Rattle.report_text.specs.declared.heading.Heading.{Heading}
use Rattle.report_text.specs.Entries.{entry_members}
use Rattle.report_text.specs.Got.{got_back}

pub got_is : (h : Heading) (client : ℕ) (brief : Brief)
    → member (codes "b") (number (unsigned h.board)) (member (codes "client") (number (unsigned client)) (member (codes "e") (string (codes "got")) (member (codes "line") (optional h.line) (got_back h brief no_members))))
    ≡ entry_members h.board h.n [] (record { seat = h.seat; line = h.line; act = Got client brief })
unfolding with_member
got_is h client (Op v) = refl
got_is h client (Ack v) = refl
got_is h client (Error update) = refl
