use Rattle.std.proofs.Common.{◌∷◌, [], refl, ap, inl}
use Rattle.journal_entries.specs.declared.act.Act.TheVariants.{Released}
use Rattle.turn_rules.specs.Turns.{entry_by}
use Rattle.book.specs.Shown.{Shown}
use Rattle.dispatcher.proofs.dispatch.settle.Goals as goal

pub returns-clause-settles : goal.returns-clause-settles
returns-clause-settles g c =
    let released = Released c.args.look.doc c.args.look.token in
    (c.commit.new.book.journal, c.commit.ensures.commits, (c.commit.new.book.journal, entry_by c.args.by.seat c.args.by.line released ∷ [], refl, inl (released, refl, refl), ap (λ (b : Shown). b.journal) c.in-Ok.ensures.ok.2))
