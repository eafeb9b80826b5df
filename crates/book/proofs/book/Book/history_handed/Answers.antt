use Rattle.std.proofs.Common.{◌∙◌, ◌<◌, length, sym, ap, subst, arith}
use Rattle.std.specs.Prelude.{sum}
use Rattle.journal_entries.specs.Journals.{entries}
use Rattle.journal_rules.specs.History.{handed}
use Rattle.project_histories.specs.Handing.{projects_of}
use Rattle.project_histories.proofs.Lists.{same_item}
use Rattle.book.specs.Shown.{Shown}
use Rattle.book.proofs.Handing.{as_many_projects, stands_at}
use Rattle.book.proofs.book.Book.history_handed.Goals as goal

pub handed-requires : goal.handed-requires
handed-requires g c =
    let s = c.self.inside in
    let within = subst (λ (v : Shown). c.args.place < length (projects_of v.journal)) (sym c.self.view_is) c.requires in
    let many = as_many_projects s.projects (entries s.journal) c.self.invariant.histories in
    omega (arith, within, many)

pub returns : goal.returns
returns g c =
    let s = c.self.inside in
    let j = entries s.journal in
    let within = subst (λ (v : Shown). c.args.place < length (projects_of v.journal)) (sym c.self.view_is) c.requires in
    let d = stands_at c.args.place s.projects j c.self.invariant.histories within in
    rw (← c.self.view_is) (λ p at. let own = same_item d.x.name p (sym d.named ∙ at) in c.handed.ensures d.x d.at ∙ (c.self.invariant.histories.each c.args.place d.x d.at).handed_is ∙ ap (λ q. sum (handed q j)) own)
