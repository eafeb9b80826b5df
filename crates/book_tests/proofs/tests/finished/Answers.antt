use Rattle.std.proofs.Common.{◌≡◌, ◌∷◌, ◌++◌, [], sym, ap, ◌∙◌, subst, List}
use Rattle.journal_entries.specs.declared.act.Entry.{Entry}
use Rattle.journal_entries.specs.declared.act.Act.TheVariants.{Committed, Released}
use Rattle.journal_rules.specs.Deciding.{decided}
use Rattle.journal_rules.specs.Locks.{Holds}
use Rattle.turn_rules.specs.Turns.{entry_by}
use Rattle.book.specs.Looking.{IsOf, IsSince}
use Rattle.book.specs.Shown.{Shown}
use Rattle.book.proofs.Fenced.{since_more, since_of, stays_on, token_holds}
use Rattle.book_tests.proofs.tests.finished.Goals as goal

pub release-requires : goal.release-requires
release-requires c = record {
  may = λ stands.
      let look = c.args.prepared.look in
      let j = c.args.book.now.journal in
      let k = c.commit.new.self.journal in
      let e : Entry = entry_by c.by.result.seat c.by.result.line (Committed look.doc look.token look.ticket (decided j look.doc look.update)) in
      let on : k ≡ j ++ e ∷ [] = ap (λ (v : Shown). v.journal) c.in-Ok.ensures.ok.1 in
      let since : IsSince look k = subst (λ (l : List Entry). IsSince look l) (sym on) (since_more look j (e ∷ []) (since_of look j c.requires.looked)) in
      subst (λ n. Holds n look.doc look.token k) (sym c.by-2.ensures) (token_holds look k c.journal-journal.ensures.legal since stands);
}

pub returns-in_default-release : goal.returns-in_default-release
returns-in_default-release c =
    let look = c.args.prepared.look in
    let j = c.args.book.now.journal in
    let e : Entry = entry_by c.by.result.seat c.by.result.line (Committed look.doc look.token look.ticket (decided j look.doc look.update)) in
    let on : c.commit.new.self.journal ≡ j ++ e ∷ [] = ap (λ (v : Shown). v.journal) c.in-Ok.ensures.ok.1 in
    let there : IsOf c.args.first.now.look c.commit.new.self.journal =
    stays_on c.args.first.now.look j c.commit.new.self.journal e on c.journal-journal.ensures.legal (λ own. absurd (c.requires.apart (sym own ∙ c.by.ensures))) c.requires.first in
    subst (λ (v : Shown). IsOf c.args.first.now.look v.journal) (sym c.in_default-release.ensures.kept) there

pub returns : goal.returns
returns c =
    let look = c.args.prepared.look in
    let j = c.args.book.now.journal in
    let k = c.commit.new.self.journal in
    let e : Entry = entry_by c.by.result.seat c.by.result.line (Committed look.doc look.token look.ticket (decided j look.doc look.update)) in
    let on : k ≡ j ++ e ∷ [] = ap (λ (v : Shown). v.journal) c.in-Ok.ensures.ok.1 in
    let there : IsOf c.args.first.now.look k =
    stays_on c.args.first.now.look j k e on c.journal-journal.ensures.legal (λ own. absurd (c.requires.apart (sym own ∙ c.by.ensures))) c.requires.first in
    let f : Entry = entry_by c.by-2.result.seat c.by-2.result.line (Released look.doc look.token) in
    let then : c.release.new.self.journal ≡ k ++ f ∷ [] = ap (λ (v : Shown). v.journal) c.in-Ok-release.ensures.ok.2 in
    stays_on c.args.first.now.look k c.release.new.self.journal f then c.journal-journal-2.ensures.legal (λ own. absurd (c.requires.apart (sym own ∙ c.by-2.ensures))) there
