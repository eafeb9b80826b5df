use Rattle.std.proofs.Common.{◌≡◌, ◌∙◌, [], ◌∷◌, ◌++◌, true, refl, sym, ap, subst}
use Rattle.std.specs.Prelude.{None}
use Rattle.journal_entries.specs.declared.act.Act.TheVariants.{Joined}
use Rattle.journal_entries.specs.declared.act.Entry.{Entry}
use Rattle.journal_rules.specs.Keeping.{cached}
use Rattle.journal_rules.specs.Documents.{version}
use Rattle.journal_rules.specs.Legal.{IsLegal, source_at}
use Rattle.journal_rules.proofs.Legality.{allowed_next}
use Rattle.journal_rules.proofs.Lists.{some_same}
use Rattle.turn_rules.specs.Turns.{entry_by}
use Rattle.book.specs.Shown.{Shown}
use Rattle.client_lines.proofs.Declining.{declined_client, on_ok}
use Rattle.client_lines.proofs.joining.join_named.Goals as goal

pub returns-in_default-clause-client : goal.returns-in_default-clause-client
returns-in_default-clause-client g c = on_ok c.decline.result (λ is. declined_client c.args.book.now c.decline.new.self c.args.by.seat c.args.by.line c.client.result _ c.args.client.now c.args.client.now c.requires.client refl is) c.decline.ensures.ok

pub returns-in-Ok-clause-cached : goal.returns-in-Ok-clause-cached
returns-in-Ok-clause-cached g c = λ doc named.
    let j = c.args.book.now.journal in
    let e : Entry = entry_by c.args.by.seat c.args.by.line (Joined c.args.client.now.client c.in-Some.doc c.args.user.now c.args.track None (source_at j) (version c.in-Some.doc j)) in
    let legal : IsLegal (j ++ e ∷ []) = subst IsLegal (ap (λ (v : Shown). v.journal) c.in-Ok.ensures.ok.1) c.legal.ensures in
    let may = allowed_next j e [] legal in
    subst (λ d. cached d j ≡ true) (some_same c.in-Some.doc doc (sym c.in-Some.is ∙ c.find.ensures ∙ named)) may.cached_is
