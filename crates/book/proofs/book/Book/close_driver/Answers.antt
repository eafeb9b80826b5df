use Rattle.std.proofs.Common.{rules, ◌≡◌, ◌<◌, refl, sym, subst, arith}
use Rattle.book.specs.Shown.{Shown}
use Rattle.turn_rules.specs.Owning.{driver_count, driver_owner}
use Rattle.book.proofs.Roomed.{roomed_quiet_by}
use Rattle.journal_entries.specs.Journals.{entries}
use Rattle.journal_entries.specs.declared.act.Act.TheVariants.{Closed}
use Rattle.book.proofs.Booking.{closed_book, driver_owed}
use Rattle.project_histories.proofs.Histories.{histories_by}
use Rattle.book.proofs.Stored.{keeps_by}
use Rattle.turn_rules.proofs.Owning.{own_closing, owned_by}
use Rattle.book.proofs.book.Book.close_driver.Goals as goal

pub push-requires : goal.push-requires
push-requires g c =
    let s = c.self.inside in
    let below = subst (λ (v : Shown). c.args.driver < driver_count v.drivers) (sym c.self.view_is) c.requires.one in
    let one = driver_owed s.journal s.documents.items s.moment s.tokens s.owed s.drivers c.args.driver c.self.invariant.book below (search (rules, c.requires.once, c.self.view_is)) in
    let room = c.self.invariant.book.room in
    omega (arith, one, room)

pub overflow_sub-self : goal.overflow_sub-self
overflow_sub-self g c =
    let s = c.self.inside in
    let below = subst (λ (v : Shown). c.args.driver < driver_count v.drivers) (sym c.self.view_is) c.requires.one in
    driver_owed s.journal s.documents.items s.moment s.tokens s.owed s.drivers c.args.driver c.self.invariant.book below (search (rules, c.requires.once, c.self.view_is))

pub invariant_of-self : goal.invariant_of-self
invariant_of-self g c =
    let s = c.self.inside in
    let below = subst (λ (v : Shown). c.args.driver < driver_count v.drivers) (sym c.self.view_is) c.requires.one in
    record {
      book = closed_book s.journal c.push.new.self s.documents.items s.moment s.tokens s.owed s.drivers c.args.driver c.entry_of.result c.self.invariant.book c.push.ensures.entries c.push.ensures.spare (search rules) below (search (rules, c.requires.once, c.self.view_is));
      roomed = roomed_quiet_by s.rooms (entries s.journal) (entries s.journal) (entries c.push.new.self) c.args.by.seat c.args.by.line (Closed c.args.driver) c.entry_of.result c.entry_of.ensures refl c.push.ensures.entries c.self.invariant.book.stands.legal tt refl (λ d. refl) c.self.invariant.roomed;
      keeps = keeps_by (entries s.journal) (entries s.journal) (entries c.push.new.self) c.args.by.seat c.args.by.line (Closed c.args.driver) c.entry_of.result c.entry_of.ensures refl c.push.ensures.entries (λ d o. refl) refl tt c.self.invariant.keeps;
      histories = histories_by s.projects (entries s.journal) (entries s.journal) (entries c.push.new.self) c.args.by.seat c.args.by.line (Closed c.args.driver) c.entry_of.result c.entry_of.ensures refl c.push.ensures.entries c.self.invariant.book.stands.legal refl (λ p. refl) (λ p. refl) c.self.invariant.histories;
      owned = owned_by (entries s.journal) (entries s.journal) (entries c.push.new.self) c.args.by.seat c.args.by.line (Closed c.args.driver) c.entry_of.result c.entry_of.ensures refl c.push.ensures.entries (own_closing (entries s.journal) c.args.by.seat c.args.driver (subst (λ (v : Shown). c.args.by.seat ≡ driver_owner v.drivers c.args.driver) (sym c.self.view_is) c.requires.owner)) c.self.invariant.owned;
    }
