-- Lanes may go to another thread, and a script may be read from there.
use mathlib.Core.List.{[], ◌∷◌}
use mir.Syntax.{Sym}
use denote.RattleType.{RattleType}
use denote.Struct.Struct.{Struct}
use denote.Struct.Declared.{shape}
use denote.Struct.Tuple.{TupleAt, type_at}
use denote.Param.Send.{IsSend, IsSync, struct_sync, recorded_sync, sendable}
use Rattle.std.proofs.Crossing.{crosses}
use Rattle.std.proofs.MapsCrossing.{BTreeMap-send}
use Rattle.loop_script.proofs.tree.Branch.TheLaws.TheKnot.{crosses as branches}
use Rattle.loop_script.specs.contracts.course.Course as Course
use Rattle.loop_script.specs.contracts.tree.Branch as Branch
use Rattle.loop_script.specs.contracts.tree.TaskTree as Tree
use Rattle.loop_script.specs.contracts.action.Action as Action
use Rattle.loop_script.specs.contracts.script.Script as Script
use Rattle.task_steps.proofs.tasks.Tree.TheLaws.TheKnot.{crosses as tasks}
use Rattle.task_steps.specs.contracts.body.Body as Body
use Rattle.task_steps.specs.contracts.leaf.Leaf as Leaf
use Rattle.task_steps.specs.contracts.book.TaskBook as Book
use Rattle.cancel_view.specs.contracts.handlers.Handlers as Handlers
use Rattle.cancel_view.specs.contracts.view.View as View
use Rattle.lane_watch.specs.contracts.watch.Watch as Watch
use Rattle.source_rows.proofs.seats.Seats.TheLaws.TheKnot.{crosses as seats}
use Rattle.source_rows.specs.contracts.seats.Seats as Seats
use Rattle.source_rows.specs.contracts.row.Row as Row
use Rattle.source_rows.specs.contracts.table.Table as Table
use Rattle.source_rows.specs.contracts.rows.Rows as Rows
use Rattle.lane_turn.proofs.nest.Nest.TheLaws.TheKnot.{crosses as nests}
use Rattle.lane_turn.specs.contracts.nest.Nest as Nest
use Rattle.context_core.specs.contracts.context.Context as Context
use Rattle.lane_turn.proofs.line.Line.TheSendSync as line
use Rattle.lane_turn.proofs.slot.Named.TheSendSync as held
use Rattle.lane_turn.proofs.replies.Awaited.TheSendSync as awaited
use Rattle.lane_turn.proofs.lane.Status.TheSendSync as status
use Rattle.std.proofs.option.Option.TheSendSync as option
use Rattle.lane_turn.specs.contracts.tally.Tally as Tally
use Rattle.lane_turn.specs.contracts.chain.Chain as Chain
use Rattle.lane_turn.specs.contracts.lane.Lane as Lane
use Rattle.lane_turn.specs.contracts.frames.Frames as Frames
use Rattle.lane_turn.specs.contracts.state.LaneState as LaneState
use Rattle.post_office.proofs.work_queue.WorkPass.TheSendSync as work_pass
use Rattle.post_office.proofs.letter_queue.OfficePass.TheSendSync as office_pass
use Rattle.post_office.proofs.work_queue.WorkQueue.TheSendSync as work_queue
use Rattle.post_office.proofs.letter_queue.LetterQueue.TheSendSync as letter_queue
use Rattle.post_office.specs.contracts.work_queue.WorkQueue as WorkQueue
use Rattle.post_office.specs.contracts.letter_queue.LetterQueue as LetterQueue
use Rattle.tick_stepper.specs.contracts.share.Share as Share
use Rattle.tick_stepper.specs.contracts.calls.Call as Call
use Rattle.std.proofs.marker.PhantomData.TheSendSync as marker
use Rattle.tick_stepper.specs.contracts.calls.Reply as Reply
use Rattle.tick_stepper.specs.contracts.channels.Place as Place
use Rattle.tick_stepper.specs.declared.calls.Planned.{Ghosts}
use Rattle.std.specs.contracts.alloc.Global as Heap
use Rattle.std.specs.contracts.impls.GlobalAllocator.TheImpl.{ghosts}
use Rattle.std.specs.contracts.result.Result as Result
use Rattle.crossbeam_channel.specs.contracts.channel.Receiver as Receiver
use Rattle.crossbeam_channel.specs.contracts.channel.Sender as Sender
use Rattle.crossbeam_channel.proofs.channel.Receiver.TheSendSync as receiver
use Rattle.crossbeam_channel.proofs.channel.Sender.TheSendSync as sender
use Rattle.lane_turn.specs.contracts.state.LaneFault as LaneFault
use Rattle.tick_stepper.specs.contracts.work.Hired as Hired
use Rattle.tick_stepper.specs.contracts.work.Haul as Haul

-- ---- tasks

course_send : IsSend Course.the_row
course_send = search (sendable, crosses) depth 40

course_sync : IsSync Course.the_row
course_sync = search (sendable, crosses) depth 40

branch_send : IsSend Branch.the_row
branch_send = search (branches, sendable, crosses) depth 40

branch_sync : IsSync Branch.the_row
branch_sync = search (branches, sendable, crosses) depth 40

pub tree_send : IsSend Tree.the_row
tree_send = search (branch_send, branch_sync, course_send, course_sync, sendable, crosses) depth 40

pub tree_sync : IsSync Tree.the_row
tree_sync = search (branch_send, branch_sync, course_send, course_sync, sendable, crosses) depth 40

body_send : IsSend Body.the_row
body_send = search (tree_send, sendable, crosses) depth 60 fits 10000

leaf_send : IsSend (Leaf.the_field).row
leaf_send = search (body_send, sendable, crosses) depth 60 fits 10000

book_send : IsSend Book.the_row
book_send = search (tasks, leaf_send, sendable, crosses) depth 100 fits 20000

handlers_send : IsSend Handlers.the_row
handlers_send = search (BTreeMap-send, sendable, crosses) depth 60 fits 10000

view_send : IsSend View.the_row
view_send = search (handlers_send, sendable, crosses) depth 60 fits 10000

watch_send : IsSend Watch.the_row
watch_send = search (book_send, view_send, sendable, crosses) depth 60 fits 10000

-- ---- sources

seats_send : IsSend Seats.the_row
seats_send = search (seats, sendable, crosses) depth 40

row_send : IsSend Row.the_row
row_send = search (sendable, crosses) depth 40

table_send : IsSend Table.the_row
table_send = search (seats_send, row_send, BTreeMap-send, sendable, crosses) depth 60 fits 10000

rows_send : IsSend Rows.the_row
rows_send = search (table_send, BTreeMap-send, sendable, crosses) depth 60 fits 10000

-- ---- lanes

nest_send : IsSend Nest.the_row
nest_send = search (nests, sendable, crosses) depth 40

tally_send : IsSend Tally.the_row
tally_send = search (sendable, crosses) depth 40

chain_send : IsSend Chain.the_row
chain_send = search (nest_send, nests, tally_send, sendable, crosses) depth 60 fits 10000

frames_send : IsSend Frames.the_row
frames_send = search (chain_send, sendable, crosses) depth 60 fits 10000

context_send : IsSend Context.the_row
context_send = search (rows_send, sendable, crosses) depth 60

lane_send : IsSend (Lane.the_field).row
lane_send = search (context_send, watch_send, frames_send, line.the_send, line.the_field_send, held.the_send, held.the_field_send, awaited.the_send, awaited.the_field_send, status.the_send, status.the_field_send, option.the_field_send, BTreeMap-send, sendable, crosses) depth 60 fits 20000

state_send : IsSend LaneState.the_row
state_send = search (lane_send, sendable, crosses) depth 60

pub share_send : IsSend Share.the_row
share_send = search (state_send, sendable, crosses) depth 60 fits 10000

-- ---- passes

pub hired_send : IsSend Hired.the_row
hired_send = search (state_send, work_pass.the_send, office_pass.the_send, sendable, crosses) depth 60 fits 10000

pub haul_send : IsSend Haul.the_row
haul_send = search (state_send, work_pass.the_send, office_pass.the_send, sendable, crosses) depth 60 fits 10000

-- ---- queues

pub list_sync : IsSync (WorkQueue.the_row LaneState.the_row)
list_sync = search (state_send, work_queue.the_sync, sendable) depth 20

pub office_sync : IsSync LetterQueue.the_row
office_sync = search (letter_queue.the_sync, sendable) depth 20

-- ---- what a closure captures

pub captured_sync : (ν : Sym) (T₀ T₁ T₂ T₃ T₄ T₅ T₆ : RattleType) → IsSync T₀ → IsSync T₁ → IsSync T₂ → IsSync T₃ → IsSync T₄ → IsSync T₅ → IsSync T₆ → IsSync (TupleAt ν (T₀ ∷ T₁ ∷ T₂ ∷ T₃ ∷ T₄ ∷ T₅ ∷ T₆ ∷ []))
captured_sync ν T₀ T₁ T₂ T₃ T₄ T₅ T₆ s₀ s₁ s₂ s₃ s₄ s₅ s₆ = let T = type_at ν (T₀ ∷ T₁ ∷ T₂ ∷ T₃ ∷ T₄ ∷ T₅ ∷ T₆ ∷ []) in recorded_sync (Struct (shape T)) T.D T.to T.to_one (struct_sync (shape T) (s₀, (s₁, (s₂, (s₃, (s₄, (s₅, (s₆, tt))))))))

-- ---- scripts

action_sync : IsSync Action.the_row
action_sync = search (tree_sync, sendable, crosses) depth 60 fits 10000

pub script_sync : IsSync Script.the_row
script_sync = search (action_sync, sendable, crosses) depth 60 fits 10000

-- ---- calls

share_field_send : IsSend (Share.the_field).row
share_field_send = search (state_send, sendable, crosses) depth 60 fits 10000

pub call_send : (T : RattleType) (g : Ghosts T.Denot) → IsSend (Call.the_row T g)
call_send T g = search (share_field_send, marker.the_field_send, sendable, crosses) depth 60 fits 10000

pub reply_send : (T : RattleType) (g : Ghosts T.Denot) → IsSend (Reply.the_row T g)
reply_send T g = search (share_field_send, marker.the_field_send, sendable, crosses) depth 60 fits 10000

-- ---- a worker's ends of its channels

calls_send : (T : RattleType) → IsSend T → IsSend (Receiver.the_field T Heap.the_row ghosts).row
calls_send T s = search (receiver.the_send, sendable, crosses) depth 40

replies_send : (T : RattleType) → IsSend T → IsSend (Sender.the_field T Heap.the_row ghosts).row
replies_send T s = search (sender.the_send, sendable, crosses) depth 40

answer_send : (T : RattleType) → IsSend T → IsSend (Result.the_row T LaneFault.the_row)
answer_send T s = search (sendable, crosses) depth 40

pub place_send : (T : RattleType) (g : Ghosts T.Denot) → IsSend (Place.the_row T g)
place_send T g = search (calls_send, replies_send, answer_send, call_send, reply_send, option.the_field_send, sendable, crosses) depth 60 fits 10000
