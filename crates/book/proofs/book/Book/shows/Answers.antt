use Rattle.std.proofs.Common.{◌≡◌, ◌∙◌, sym, ap, subst}
use Rattle.journal_entries.specs.Journals.{entries}
use Rattle.journal_laws.specs.ClientLaw.{Shows}
use Rattle.journal_laws.proofs.Laws.{shows}
use Rattle.journal_rules.specs.Client.{Client, is_alive}
use Rattle.book.specs.Roomed.{IsClientOf}
use Rattle.book.specs.Shown.{Shown}
use Rattle.book.proofs.book.Book.shows.Goals as goal

pub returns : goal.returns
returns g c = λ alive.
    let was = c.args.client.now in
    let j = entries c.self.inside.journal in
    let own : IsClientOf j was = subst (λ (v : Shown). IsClientOf v.journal was) (sym c.self.view_is) c.requires in
    let here = shows was.client j c.self.invariant.book.stands.legal (ap (λ (s : Client). is_alive s.state) (sym own) ∙ alive) in
    subst (λ (v : Shown). Shows was.client v.journal was.now) c.self.view_is (subst (λ (s : Client). Shows was.client j s) (sym own) here)
