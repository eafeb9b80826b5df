use Rattle.std.proofs.Common.{rules, ◌≡◌, ◌++◌, ◌∙◌, [], length, Err, sym, ap, subst, append_assoc}
use Rattle.journal_rules.specs.Documents.{makings}
use Rattle.journal_rules.specs.Legal.{IsLegal}
use Rattle.run_rules.specs.Report.{client_lines, entry_lines, project_lines}
use Rattle.script_driver.specs.Handing.{items_handed}
use Rattle.session_runner.specs.Report.{document_lines, report_of}
use Rattle.source_sink.specs.Buffered.{DeliveredPrefix}
use Rattle.session_runner.specs.Writing.{Pushed}
use Rattle.session_runner.proofs.Writing.{longer}
use Rattle.session_runner.proofs.report.write_lines.Goals as goal

pub write_entries-requires-clause-legal : goal.write_entries-requires-clause-legal
write_entries-requires-clause-legal g c = subst IsLegal (sym (c.as_slice.ensures ∙ c.journal.ensures.entries)) c.journal.ensures.legal

pub write_entries-requires-clause-handed : goal.write_entries-requires-clause-handed
write_entries-requires-clause-handed g c = c.deref.ensures.value ∙ c.requires.handed ∙ sym (ap items_handed (c.as_slice.ensures ∙ c.journal.ensures.entries))

pub returns-in_err-write_entries-clause-pushed : goal.returns-in_err-write_entries-clause-pushed
returns-in_err-write_entries-clause-pushed g c = λ start text given.
    let j = c.args.run.now.book.journal in
    let names = c.args.run.now.names in
    let rest = document_lines (length (makings j)) j ++ (client_lines 0 names j ++ project_lines j) in
    let same : c.as_slice.result.now ≡ j = c.as_slice.ensures ∙ c.journal.ensures.entries in
    let pushed = c.in_err-write_entries.ensures.pushed start text given in
    let prefix = longer start _ _ text (entry_lines [] c.as_slice.result.now) rest (report_of names j) (ap (λ es. entry_lines [] es ++ rest) same) pushed in
    let is : c.from_residual.result ≡ Err c.in_err-write_entries.field-0.0 = search rules in
    subst (λ r. Pushed start (g.W.Sink.written c.write_entries.new.out) c.write_entries.new.buffer (text ++ report_of names j) r) (sym is) prefix

pub returns-in_err-write_documents-clause-pushed : goal.returns-in_err-write_documents-clause-pushed
returns-in_err-write_documents-clause-pushed g c = λ start text given.
    let j = c.args.run.now.book.journal in
    let names = c.args.run.now.names in
    let docs = document_lines (length (makings j)) j in
    let same : c.as_slice.result.now ≡ j = c.as_slice.ensures ∙ c.journal.ensures.entries in
    let entries = entry_lines [] c.as_slice.result.now in
    let first = c.in_ok-write_entries.ensures.pushed start text given in
    let pushed = c.in_err-write_documents.ensures.pushed start (text ++ entries) first in
    let prefix = longer start _ _ text (entries ++ docs) (client_lines 0 names j ++ project_lines j) (report_of names j)
    (append_assoc entries docs (client_lines 0 names j ++ project_lines j) ∙ ap (λ es. entry_lines [] es ++ (docs ++ (client_lines 0 names j ++ project_lines j))) same)
    (subst (λ l. DeliveredPrefix start (g.W.Sink.written c.write_documents.new.out) c.write_documents.new.buffer l) (append_assoc text entries docs) pushed) in
    let is : c.from_residual-in_err-write_documents.result ≡ Err c.in_err-write_documents.field-0.0 = search rules in
    subst (λ r. Pushed start (g.W.Sink.written c.write_documents.new.out) c.write_documents.new.buffer (text ++ report_of names j) r) (sym is) prefix

pub returns-in_err-write_clients-clause-pushed : goal.returns-in_err-write_clients-clause-pushed
returns-in_err-write_clients-clause-pushed g c = λ start text given.
    let j = c.args.run.now.book.journal in
    let names = c.args.run.now.names in
    let docs = document_lines (length (makings j)) j in
    let clients = client_lines 0 names j in
    let same : c.as_slice.result.now ≡ j = c.as_slice.ensures ∙ c.journal.ensures.entries in
    let entries = entry_lines [] c.as_slice.result.now in
    let first = c.in_ok-write_entries.ensures.pushed start text given in
    let second = c.in_ok-write_documents.ensures.pushed start (text ++ entries) first in
    let pushed = c.in_err-write_clients.ensures.pushed start ((text ++ entries) ++ docs) second in
    let prefix = longer start _ _ text (entries ++ (docs ++ clients)) (project_lines j) (report_of names j)
    (append_assoc entries (docs ++ clients) (project_lines j) ∙ ap (λ l. entries ++ l) (append_assoc docs clients (project_lines j)) ∙ ap (λ es. entry_lines [] es ++ (docs ++ (clients ++ project_lines j))) same)
    (subst (λ l. DeliveredPrefix start (g.W.Sink.written c.write_clients.new.out) c.write_clients.new.buffer l) (append_assoc (text ++ entries) docs clients ∙ append_assoc text entries (docs ++ clients)) pushed) in
    let is : c.from_residual-in_err-write_clients.result ≡ Err c.in_err-write_clients.field-0.0 = search rules in
    subst (λ r. Pushed start (g.W.Sink.written c.write_clients.new.out) c.write_clients.new.buffer (text ++ report_of names j) r) (sym is) prefix

pub returns-clause-pushed : goal.returns-clause-pushed
returns-clause-pushed g c = λ start text given.
    let j = c.args.run.now.book.journal in
    let names = c.args.run.now.names in
    let docs = document_lines (length (makings j)) j in
    let clients = client_lines 0 names j in
    let same : c.as_slice.result.now ≡ j = c.as_slice.ensures ∙ c.journal.ensures.entries in
    let entries = entry_lines [] c.as_slice.result.now in
    let first = c.in_ok-write_entries.ensures.pushed start text given in
    let second = c.in_ok-write_documents.ensures.pushed start (text ++ entries) first in
    let third = c.in_ok-write_clients.ensures.pushed start ((text ++ entries) ++ docs) second in
    let fourth = c.write_projects.ensures.pushed start (((text ++ entries) ++ docs) ++ clients) third in
    subst (λ l. Pushed start (g.W.Sink.written c.write_projects.new.out) c.write_projects.new.buffer l c.write_projects.result)
    (append_assoc ((text ++ entries) ++ docs) clients (project_lines j) ∙ append_assoc (text ++ entries) docs (clients ++ project_lines j) ∙ append_assoc text entries (docs ++ (clients ++ project_lines j))
    ∙ ap (λ es. text ++ (entry_lines [] es ++ (docs ++ (clients ++ project_lines j)))) same)
    fourth
