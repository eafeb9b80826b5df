-- What the lines so far tell.
use Rattle.report_reader.specs.declared.draft.Draft.{Draft}
use Rattle.report_reader.specs.Reports.{Told}

abbrev pub drafted : Draft → Told
drafted d = record { journals = d.boards; items = d.items.items; docs = d.docs.items; clients = d.clients.items; projects = d.projects.items }
