-- What is written of documents, clients and projects at the end is read as these.
use Rattle.std.proofs.Common.{◌≡◌, ℕ, List, [], ◌∷◌, Option, Some, None, option_map, refl, ap, arith, codes}
use Rattle.std.specs.Result.{result_ok}
use Rattle.serde_json.specs.Data.{Members, object, string}
use Rattle.serde_json.specs.Find.{as_str}
use Rattle.json_lines.specs.Object.{with_member}
use Rattle.ot_op.specs.declared.comp.Comp.{Comp}
use Rattle.ot_json.specs.Grammar.{long_operation_of, operation_data}
use Rattle.ot_json.proofs.Given.{all_cons, all_none}
use Rattle.ot_units.specs.Text.{IsText, exact_units}
use Rattle.ot_json.proofs.Back.{exact_back}
use Rattle.ranges_tracker.specs.declared.change.Change.{Change}
use Rattle.ranges_tracker.specs.declared.change.ChangeKind.{ChangeKind}
use Rattle.ranges_tracker.specs.declared.change.ChangeKind.TheVariants.{Inserted, Deleted}
use Rattle.ranges_tracker.specs.declared.comment.Comment.{Comment}
use Rattle.report_text.specs.Clients.{client_members, operation_or_null, state_name, text_or_null}
use Rattle.report_text.specs.Documents.{change_members, changes_data, comment_members, comments_data, document_members, kind_name}
use Rattle.report_text.specs.Projects.{project_members}
use Rattle.report_text.specs.Values.{numbers_data}
use Rattle.report_text.specs.declared.client_end.ClientEnd.{ClientEnd}
use Rattle.report_text.specs.declared.client_end.EndState.{EndState}
use Rattle.report_text.specs.declared.client_end.EndState.TheVariants.{Joined, Left, Stale}
use Rattle.report_text.specs.declared.document_end.DocEnd.{DocEnd}
use Rattle.report_text.specs.declared.project_end.ProjectEnd.{ProjectEnd}
use Rattle.report_reader.specs.declared.piece.Piece.TheVariants.{Document, Client, Project}
use Rattle.report_reader.specs.Clients.{state_named}
use Rattle.report_reader.specs.Documents.{change_kind, change_of, comment_of}
use Rattle.report_reader.specs.Fields.{and_then, or_null}
use Rattle.report_reader.specs.Pieces.{shown_by}
use Rattle.report_reader.specs.Typed.{IfAny, IsLong, IsTypedChange, IsTypedClient, IsTypedComment, IsTypedDocument, IsTypedProject, IsWritable}
use Rattle.report_reader.proofs.Fine.{AreFine, IsFine, fine_array, fine_none, fine_null, fine_object, fine_units}
use Rattle.report_reader.proofs.FineLines.{dat, long, nam, num, numbers_fine, operation_fine, opt, txt, uni}
use Rattle.report_reader.proofs.LineBack.{each_back, name_back, op_back, optional_back, small}

-- ---- projects

pub project_fine : (end : ProjectEnd) → IsTypedProject end → AreFine 4 (project_members end)
project_fine end t =
    nam (codes "project") refl end.project t.project (num (codes "left") refl end.left t.left (num (codes "handed") refl end.handed t.handed
    (txt (codes "e") refl (codes "project") refl (num (codes "b") refl end.b (long end.b t.b) (fine_none 4)))))

pub project_shown : (end : ProjectEnd) → IsTypedProject end → shown_by (object (project_members end)) ≡ Some (Project end)
unfolding with_member
project_shown end t = rw (small end.b t.b, name_back end.project t.project) refl

-- ---- clients

flight_fine : (o : Option (List Comp)) → IfAny IsWritable o → IsFine 2 (operation_or_null o)
flight_fine None h = fine_null 2
flight_fine (Some op) h = operation_fine op h

text_fine : (o : Option (List ℕ)) → IfAny IsText o → IsFine 0 (text_or_null o)
text_fine None h = fine_null 0
text_fine (Some us) h = fine_units 0 us h

state_fine : {n : ℕ} {ms : Members} (state : EndState) → AreFine n ms → AreFine n (with_member (codes "state") (string (state_name state)) ms)
state_fine Joined all = txt (codes "state") refl (codes "joined") refl all
state_fine Left all = txt (codes "state") refl (codes "left") refl all
state_fine Stale all = txt (codes "state") refl (codes "stale") refl all

pub client_fine : (end : ClientEnd) → IsTypedClient end → AreFine 4 (client_members end)
client_fine end t =
    num (codes "v") refl end.v t.v (dat (codes "text") refl 0 (text_or_null end.text) (omega arith) (text_fine end.text t.text) (state_fine end.state
    (dat (codes "pending") refl 2 (operation_data end.pending) (omega arith) (operation_fine end.pending t.pending) (nam (codes "name") refl end.name t.name
    (dat (codes "flight") refl 2 (operation_or_null end.flight) (omega arith) (flight_fine end.flight t.flight) (txt (codes "e") refl (codes "client") refl
    (num (codes "doc") refl end.doc (long end.doc t.doc) (num (codes "client") refl end.client (long end.client t.client) (num (codes "b") refl end.b (long end.b t.b) (fine_none 4))))))))))

flight_back : (o : Option (List Comp)) → IfAny IsWritable o → or_null (λ op. result_ok (long_operation_of op)) (operation_or_null o) ≡ Some o
flight_back None h = refl
flight_back (Some op) h = ap (λ r. option_map Some (result_ok r)) (op_back op h)

text_back : (o : Option (List ℕ)) → IfAny IsText o → or_null (λ text. and_then (as_str text) exact_units) (text_or_null o) ≡ Some o
text_back None h = refl
text_back (Some us) h = ap (option_map Some) (exact_back us h)

state_back : (state : EndState) → state_named (state_name state) ≡ Some state
state_back Joined = refl
state_back Left = refl
state_back Stale = refl

pub client_shown : (end : ClientEnd) → IsTypedClient end → shown_by (object (client_members end)) ≡ Some (Client end)
unfolding with_member
client_shown end t =
    rw (small end.b t.b, small end.client t.client, small end.doc t.doc, flight_back end.flight t.flight, name_back end.name t.name, op_back end.pending t.pending, state_back end.state, text_back end.text t.text) refl

-- ---- documents

kind_fine : {n : ℕ} {ms : Members} (kind : ChangeKind) → AreFine n ms → AreFine n (with_member (codes "kind") (string (kind_name kind)) ms)
kind_fine Inserted all = txt (codes "kind") refl (codes "ins") refl all
kind_fine Deleted all = txt (codes "kind") refl (codes "del") refl all

change_fine : (c : Change) → IsTypedChange c → IsFine 2 (object (change_members c))
change_fine c t =
    let id = all_cons IsLong c.version (c.k ∷ []) t.version (all_cons IsLong c.k [] (long c.k t.k) (all_none IsLong)) in
    fine_object 1 (change_members c)
    (nam (codes "user") refl c.user t.user (uni (codes "text") refl c.text t.text (num (codes "ms") refl c.ms t.ms (kind_fine c.kind
    (dat (codes "id") refl 1 (numbers_data (c.version ∷ c.k ∷ [])) (omega arith) (numbers_fine (c.version ∷ c.k ∷ []) id) (num (codes "at") refl c.at (long c.at t.at) (fine_none 1)))))))

comment_fine : (c : Comment) → IsTypedComment c → IsFine 1 (object (comment_members c))
comment_fine c t = fine_object 0 (comment_members c) (uni (codes "text") refl c.text t.text (num (codes "t") refl c.thread (long c.thread t.thread) (num (codes "at") refl c.at (long c.at t.at) (fine_none 0))))

pub document_fine : (end : DocEnd) → IsTypedDocument end → AreFine 4 (document_members end)
document_fine end t =
    num (codes "v") refl end.v t.v (uni (codes "text") refl end.text t.text (nam (codes "name") refl end.name t.name (opt (codes "kept") refl end.kept t.kept
    (txt (codes "e") refl (codes "doc") refl (num (codes "doc") refl end.doc (long end.doc t.doc)
    (dat (codes "comments") refl 2 (comments_data end.ranges.1) (omega arith) (fine_array 1 IsTypedComment (λ c. object (comment_members c)) comment_fine end.ranges.1 t.comments)
    (dat (codes "changes") refl 3 (changes_data end.ranges.0) (omega arith) (fine_array 2 IsTypedChange (λ c. object (change_members c)) change_fine end.ranges.0 t.changes)
    (num (codes "b") refl end.b (long end.b t.b) (fine_none 4)))))))))

kind_back : (kind : ChangeKind) → change_kind (kind_name kind) ≡ Some kind
kind_back Inserted = refl
kind_back Deleted = refl

change_back : (c : Change) → IsTypedChange c → change_of (object (change_members c)) ≡ Some c
unfolding with_member
change_back c t = rw (small c.k t.k, small c.at t.at, kind_back c.kind, exact_back c.text t.text, name_back c.user t.user) refl

comment_back : (c : Comment) → IsTypedComment c → comment_of (object (comment_members c)) ≡ Some c
unfolding with_member
comment_back c t = rw (small c.thread t.thread, small c.at t.at, exact_back c.text t.text) refl

pub document_shown : (end : DocEnd) → IsTypedDocument end → shown_by (object (document_members end)) ≡ Some (Document end)
unfolding with_member
document_shown end t =
    rw (
      small end.b t.b,
      small end.doc t.doc,
      optional_back end.kept,
      name_back end.name t.name,
      each_back IsTypedChange change_of (λ c. object (change_members c)) change_back end.ranges.0 t.changes,
      each_back IsTypedComment comment_of (λ c. object (comment_members c)) comment_back end.ranges.1 t.comments,
      exact_back end.text t.text,
    ) refl
