-- The results of tasks that lanes tell, and the replies that they still hold.
use Rattle.std.specs.Prelude.{◌≡◌, ℕ, zero, suc, ◌+◌, ◌<◌, ◌≤◌, ◌==◌, ◌&&◌, Bool, false, List, length, map, count_by, sum_by}
use Rattle.loop_script.specs.declared.plan.Plan.{Plan}
use Rattle.loop_script.specs.References.{sizes}
use Rattle.post_office.specs.declared.letter.Letter.{Letter}
use Rattle.post_office.specs.declared.letter.Body.{Body}
use Rattle.post_office.specs.declared.letter.Body.TheVariants.{Attach, Complete, Cancelled, Give}
use Rattle.lane_turn.specs.declared.line.Line.{Line}
use Rattle.lane_turn.specs.declared.line.Event.{Event}
use Rattle.lane_turn.specs.declared.line.Event.TheVariants as events
use Rattle.lane_turn.specs.declared.replies.Awaited.{Awaited}
use Rattle.lane_turn.specs.Replies.{Replies}
use Rattle.lane_turn.specs.Lane.{Lane, is_own}
use Rattle.lane_turn.specs.Turn.{turned}
use Rattle.lane_turn.specs.Handover.{handed_over}
use Rattle.lane_turn.specs.Tick.{posted_at, lanes_at}
use Rattle.lane_turn.specs.Owed.{lane_under, none_goes, posted_before, mail_of_run, over_of_run}
use Rattle.loop_script.specs.Units.{Tick, LaneNumber, TaskNumber}

-- whether a line tells the result of a task, which goes by its lane, the sender of its reply, and its number there
abbrev pub is_result : LaneNumber → TaskNumber → Event → Bool
is_result sender number (events.Task lane task outcome) = (lane == sender) && (task == number)
is_result sender number _ = false

-- how many results of a task lines tell
abbrev pub results : LaneNumber → TaskNumber → List Line → ℕ
results sender number lines = count_by (λ line. is_result sender number line.event) lines

-- whether a reply that is held is one of the task
abbrev pub is_awaited : LaneNumber → TaskNumber → Awaited → Bool
is_awaited sender number awaited = (awaited.sender == sender) && (awaited.reply.task == number)

-- how many replies of the task the sources of a context hold
abbrev pub awaited_in : LaneNumber → TaskNumber → Replies → ℕ
awaited_in sender number replies = count_by (λ entry. is_awaited sender number entry.1) replies

-- how many replies of the task the sources of all contexts hold
abbrev pub awaited : LaneNumber → TaskNumber → List Replies → ℕ
awaited sender number all = sum_by (awaited_in sender number) all

-- how many replies of the task a lane accounts for: it holds them still, or it told their results
abbrev pub accounted : LaneNumber → TaskNumber → Lane → ℕ
accounted sender number lane = results sender number lane.trace + awaited sender number lane.replies

-- whether a letter brings a lane a reply of the task: it goes to a context of the lane
abbrev pub brings : TaskNumber → Lane → Body → Bool
brings number lane (Attach context spec) = false
brings number lane (Complete reply) = (reply.task == number) && is_own reply.ctx lane
brings number lane (Cancelled c) = false
brings number lane (Give context to) = false

-- how many replies of the task letters bring to the lane
abbrev pub brought : LaneNumber → TaskNumber → Lane → List Letter → ℕ
brought sender number lane letters = count_by (λ letter. (letter.sender == sender) && brings number lane letter.body) letters

-- how many replies of a task came to a lane before a tick, whatever letters are delivered to it, where no context goes over
abbrev pub brought_before : Plan → (Tick → List Letter) → (lane sender : LaneNumber) (number : TaskNumber) (tick : Tick) → ℕ
brought_before script mail lane sender number zero = 0
brought_before script mail lane sender number (suc k) = brought_before script mail lane sender number k + brought sender number (turned script k (lane_under script mail none_goes lane k)) (mail k)

-- how many replies of a task came to the lanes of a run before a tick: by each delivery to those that have the contexts once these went over
abbrev pub came_before : Plan → (sender : LaneNumber) (number : TaskNumber) (tick : Tick) → ℕ
came_before script sender number zero = 0
came_before script sender number (suc k) =
    came_before script sender number k
    + sum_by (λ lane. brought sender number lane (posted_at script k (lanes_at script k))) (handed_over k (posted_at script k (lanes_at script k)) (map (turned script k) (lanes_at script k)))

-- each reply that came is held still, or its result was told, once
pub record RepliesAreTakenOnce : Type 0 where
  -- of a run each reply that came is held still, by the lane that has its context then, or its result was told, once
  pub came : (script : Plan) (sender : LaneNumber) (number : TaskNumber) (tick : Tick) → sum_by (accounted sender number) (lanes_at script tick) ≡ came_before script sender number tick
  -- so it is of one lane, whatever letters are delivered to it, where no context goes over
  pub taken : (script : Plan) (mail : Tick → List Letter) (lane sender : LaneNumber) (number : TaskNumber) (tick : Tick) → accounted sender number (lane_under script mail none_goes lane tick) ≡ brought_before script mail lane sender number tick
  -- so of each task of a run at most one result is told, in all lanes together, and none as long as a reply of it is held
  pub once : (script : Plan) (sender : LaneNumber) (number : TaskNumber) (tick : Tick) → sum_by (accounted sender number) (lanes_at script tick) ≤ 1
  -- and where the script has a context no reply is lost: what a lane posted before a tick is held at it, or its result was told
  pub kept : (script : Plan) (sender : LaneNumber) (number : TaskNumber) (tick : Tick) → 0 < (sizes script).contexts → sender < length script.lanes
      → sum_by (accounted sender number) (lanes_at script tick) ≡ posted_before script (mail_of_run script) (over_of_run script) sender number tick
