-- What a line makes that joins a session's client to a document which is cached.
use Rattle.std.specs.Prelude.{ℕ, Bool, List, Option, Some, None}
use Rattle.journal_entries.specs.declared.act.Act.{Act}
use Rattle.journal_entries.specs.declared.act.Act.TheVariants.{Joined, Declined}
use Rattle.journal_entries.specs.declared.act.Entry.{Entry}
use Rattle.journal_entries.specs.declared.why.Why.TheVariants.{NoDoc}
use Rattle.journal_rules.specs.Documents.{version}
use Rattle.journal_rules.specs.Legal.{source_at}

abbrev pub join_act : ℕ → Option ℕ → List ℕ → Bool → List Entry → Act
join_act session None user track look = Declined session NoDoc
join_act session (Some doc) user track look = Joined session doc user track None (source_at look) (version doc look)
