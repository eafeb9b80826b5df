-- Which of a book's parts may cross threads: each whole, since a search that goes down through all of them runs out of steps.
use denote.RattleType.{RattleType}
use denote.Param.Send.{IsSend, IsSync, sendable}
use Rattle.std.proofs.Crossing.{crosses}
use Rattle.circular_buffer.proofs.cells.Cells.TheSendSync.{the_send as cells_send}
use Rattle.circular_buffer.proofs.cells.Deed.TheSendSync.{the_send as deed_send}
use Rattle.ot_units.specs.contracts.name.Name as Name
use Rattle.ot_units.specs.contracts.units.Units as Units
use Rattle.ot_op.specs.contracts.comp.Comp as Comp
use Rattle.ot_op.specs.contracts.op.Op as Op
use Rattle.ot_text.specs.contracts.block.Block as Block
use Rattle.ot_text.specs.contracts.chunk.Chunk as Chunk
use Rattle.ot_text.specs.contracts.text.Text as Text
use Rattle.ranges_tracker.specs.contracts.change.Change as Change
use Rattle.ranges_tracker.specs.contracts.comment.Comment as Comment
use Rattle.ranges_tracker.specs.contracts.ranges.Ranges as Ranges
use Rattle.journal_entries.specs.contracts.act.Act as Act
use Rattle.journal_entries.specs.contracts.act.Entry as Entry
use Rattle.journal_entries.specs.contracts.journal.Journal as Journal
use Rattle.journal_entries.specs.contracts.message.Brief as Brief
use Rattle.journal_entries.specs.contracts.sources.Sources as Sources
use Rattle.journal_entries.specs.contracts.update.Outcome as Outcome
use Rattle.journal_entries.specs.contracts.update.Update as Update
use Rattle.journal_entries.specs.contracts.why.Why as Why
use Rattle.history_queue.specs.contracts.item.Item as Item
use Rattle.project_histories.specs.contracts.project.Project as Project
use Rattle.project_histories.specs.contracts.projects.Projects as Projects
use Rattle.rooms.specs.contracts.member.Member as Member
use Rattle.rooms.specs.contracts.rooms.Rooms as Rooms
use Rattle.dup_check.specs.contracts.past.Past as Past
use Rattle.dup_check.specs.contracts.window.Window as Window
use Rattle.keyed_store.specs.contracts.store.Store as Store
use Rattle.keeper.specs.declared.keeper.Keeper.{Ghosts}
use Rattle.book.specs.contracts.book.Book as Book
use Rattle.book.specs.contracts.document.Document as Document
use Rattle.book.specs.contracts.documents.Documents as Documents

-- ---- names, operations and texts
name_send : IsSend Name.the_field.row
name_send = search (crosses, sendable) depth 30

units_send : IsSend Units.the_field.row
units_send = search (crosses, sendable) depth 30

comp_send : IsSend Comp.the_field.row
comp_send = search (units_send, sendable) depth 30

op_send : IsSend Op.the_field.row
op_send = search (comp_send, crosses, sendable) depth 30

chunk_send : IsSend Chunk.the_field.row
chunk_send = search (crosses, sendable) depth 30

chunk_sync : IsSync Chunk.the_field.row
chunk_sync = search (crosses, sendable) depth 30

block_send : IsSend Block.the_field.row
block_send = search (chunk_send, chunk_sync, crosses, sendable) depth 30

text_send : IsSend Text.the_field.row
text_send = search (block_send, crosses, sendable) depth 30

-- ---- a journal
sources_send : IsSend Sources.the_field.row
sources_send = search (crosses, sendable) depth 30

update_send : IsSend Update.the_field.row
update_send = search (name_send, op_send, sources_send, crosses, sendable) depth 30

outcome_send : IsSend Outcome.the_field.row
outcome_send = search (op_send, crosses, sendable) depth 30

why_send : IsSend Why.the_field.row
why_send = search (crosses, sendable) depth 30

brief_send : IsSend Brief.the_field.row
brief_send = search (crosses, sendable) depth 30

act_send : IsSend Act.the_field.row
act_send = search (name_send, units_send, comp_send, update_send, outcome_send, why_send, brief_send, crosses, sendable) depth 100 fits 10000

entry_send : IsSend Entry.the_field.row
entry_send = search (act_send, crosses, sendable) depth 30

journal_send : IsSend Journal.the_field.row
journal_send = search (entry_send, crosses, sendable) depth 30

-- ---- documents
change_send : IsSend Change.the_field.row
change_send = search (name_send, crosses, sendable) depth 30

comment_send : IsSend Comment.the_field.row
comment_send = search (units_send, crosses, sendable) depth 30

ranges_send : IsSend Ranges.the_field.row
ranges_send = search (change_send, comment_send, crosses, sendable) depth 30

past_send : IsSend Past.the_field.row
past_send = search (op_send, crosses, sendable) depth 30

window_send : IsSend Window.the_field.row
window_send = search (past_send, cells_send, deed_send, crosses, sendable) depth 40

document_send : IsSend Document.the_field.row
document_send = search (text_send, ranges_send, window_send, crosses, sendable) depth 40

store_send : (S : RattleType) → IsSend S → IsSend (Store.the_field S).row
store_send S s = search (name_send, crosses, sendable) depth 40

documents_send : IsSend Documents.the_field.row
documents_send = search (store_send, document_send, sendable) depth 30

-- ---- rooms and histories
member_send : IsSend Member.the_field.row
member_send = search (crosses, sendable) depth 30

rooms_send : IsSend Rooms.the_field.row
rooms_send = search (member_send, crosses, sendable) depth 40

item_send : IsSend Item.the_field.row
item_send = search (name_send, op_send, crosses, sendable) depth 30

project_send : IsSend Project.the_field.row
project_send = search (name_send, item_send, crosses, sendable) depth 30

projects_send : IsSend Projects.the_field.row
projects_send = search (project_send, crosses, sendable) depth 30

-- ---- the book, as its keeper may
pub book_send : (K : RattleType) (k : Ghosts K.Denot) → IsSend K → IsSend (Book.the_field K k).row
book_send K k s = search (journal_send, documents_send, rooms_send, projects_send, crosses, sendable) depth 40
