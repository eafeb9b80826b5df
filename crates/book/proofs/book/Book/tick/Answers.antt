use Rattle.std.proofs.Common.{◌+◌, refl, arith}
use Rattle.journal_entries.specs.Journals.{entries}
use Rattle.journal_entries.specs.declared.act.Act.TheVariants.{Ticked}
use Rattle.book.proofs.Roomed.{roomed_quiet_by}
use Rattle.book.proofs.Booking.{quiet_by}
use Rattle.project_histories.proofs.Histories.{histories_by}
use Rattle.book.proofs.Stored.{keeps_by}
use Rattle.turn_rules.proofs.Owning.{own_other, owned_by}
use Rattle.book.proofs.book.Book.tick.Goals as goal

pub invariant_of-self-2 : goal.invariant_of-self-2
invariant_of-self-2 g c =
    let s = c.self.inside in
    let now_is = c.self.invariant.book.now_is in
    let now_low = c.self.invariant.book.now_low in
    let within = c.if-ms-self.false in
    record {
      book = quiet_by s.journal c.make_room.new.journal c.push.new.self s.documents.items s.moment (s.moment + c.args.ms) s.tokens s.owed s.drivers c.in-Ok._sum c.args.by.seat c.args.by.line (Ticked c.args.ms) c.entry_of.result c.entry_of.ensures
          c.self.invariant.book c.make_room.ensures.entries c.in-Ok.ensures.room c.push.ensures.entries c.push.ensures.spare (omega (arith, now_is, now_low, within)) tt refl refl (omega (arith, now_low, within));
      roomed = roomed_quiet_by s.rooms (entries s.journal) (entries c.make_room.new.journal) (entries c.push.new.self) c.args.by.seat c.args.by.line (Ticked c.args.ms) c.entry_of.result c.entry_of.ensures c.make_room.ensures.entries c.push.ensures.entries c.self.invariant.book.stands.legal tt refl (λ d. refl) c.self.invariant.roomed;
      keeps = keeps_by (entries s.journal) (entries c.make_room.new.journal) (entries c.push.new.self) c.args.by.seat c.args.by.line (Ticked c.args.ms) c.entry_of.result c.entry_of.ensures c.make_room.ensures.entries c.push.ensures.entries (λ d o. refl) refl tt c.self.invariant.keeps;
      histories = histories_by s.projects (entries s.journal) (entries c.make_room.new.journal) (entries c.push.new.self) c.args.by.seat c.args.by.line (Ticked c.args.ms) c.entry_of.result c.entry_of.ensures c.make_room.ensures.entries c.push.ensures.entries c.self.invariant.book.stands.legal refl (λ p. refl) (λ p. refl) c.self.invariant.histories;
      owned = owned_by (entries s.journal) (entries c.make_room.new.journal) (entries c.push.new.self) c.args.by.seat c.args.by.line (Ticked c.args.ms) c.entry_of.result c.entry_of.ensures c.make_room.ensures.entries c.push.ensures.entries (own_other (entries s.journal) c.args.by.seat (Ticked c.args.ms) refl refl) c.self.invariant.owned;
    }
