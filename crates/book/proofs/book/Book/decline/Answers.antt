use Rattle.std.proofs.Common.{rules, refl}
use Rattle.journal_entries.specs.Journals.{entries}
use Rattle.journal_entries.specs.declared.act.Act.TheVariants.{Declined}
use Rattle.book.proofs.Roomed.{roomed_quiet_by}
use Rattle.book.proofs.Booking.{quiet_by}
use Rattle.project_histories.proofs.Histories.{histories_by}
use Rattle.book.proofs.Stored.{keeps_by}
use Rattle.turn_rules.proofs.Owning.{own_other, owned_by}
use Rattle.book.proofs.book.Book.decline.Goals as goal

pub invariant_of-self-2 : goal.invariant_of-self-2
invariant_of-self-2 g c = let s = c.self.inside in
    record {
      book = quiet_by s.journal c.make_room.new.journal c.push.new.self s.documents.items s.moment s.moment s.tokens s.owed s.drivers c.in_ok-make_room.field-0 c.args.by.seat c.args.by.line (Declined c.args.session c.args.why) c.entry_of.result c.entry_of.ensures
          c.self.invariant.book c.make_room.ensures.entries c.in_ok-make_room.ensures.room c.push.ensures.entries c.push.ensures.spare (search rules) tt refl refl c.self.invariant.book.now_low;
      roomed = roomed_quiet_by s.rooms (entries s.journal) (entries c.make_room.new.journal) (entries c.push.new.self) c.args.by.seat c.args.by.line (Declined c.args.session c.args.why) c.entry_of.result c.entry_of.ensures c.make_room.ensures.entries c.push.ensures.entries c.self.invariant.book.stands.legal tt refl (λ d. refl) c.self.invariant.roomed;
      keeps = keeps_by (entries s.journal) (entries c.make_room.new.journal) (entries c.push.new.self) c.args.by.seat c.args.by.line (Declined c.args.session c.args.why) c.entry_of.result c.entry_of.ensures c.make_room.ensures.entries c.push.ensures.entries (λ d o. refl) refl tt c.self.invariant.keeps;
      histories = histories_by s.projects (entries s.journal) (entries c.make_room.new.journal) (entries c.push.new.self) c.args.by.seat c.args.by.line (Declined c.args.session c.args.why) c.entry_of.result c.entry_of.ensures c.make_room.ensures.entries c.push.ensures.entries c.self.invariant.book.stands.legal refl (λ p. refl) (λ p. refl) c.self.invariant.histories;
      owned = owned_by (entries s.journal) (entries c.make_room.new.journal) (entries c.push.new.self) c.args.by.seat c.args.by.line (Declined c.args.session c.args.why) c.entry_of.result c.entry_of.ensures c.make_room.ensures.entries c.push.ensures.entries (own_other (entries s.journal) c.args.by.seat (Declined c.args.session c.args.why) refl refl) c.self.invariant.owned;
    }
