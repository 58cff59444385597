-- A turn: steps until none is left.
use Rattle.std.specs.Prelude.{◌≡◌, ◌==◌, ℕ, zero, suc, ◌+◌, ◌*◌, Bool, false, Option, Some, None, List, [], ◌∷◌, ◌++◌, length, unwrap_or, if◌then◌else◌}
use Rattle.std.specs.Option.{option_map_or}
use Rattle.loop_script.specs.declared.plan.Plan.{Plan}
use Rattle.loop_script.specs.declared.body.Body.TheVariants as bodies
use Rattle.loop_script.specs.Parts.{home_of}
use Rattle.loop_script.specs.References.{sizes}
use Rattle.lane_turn.specs.declared.lane.Status.{Status}
use Rattle.lane_turn.specs.declared.lane.Status.TheVariants.{GoesOn, Ended, Halted}
use Rattle.lane_turn.specs.declared.layer.Origin.TheVariants as origins
use Rattle.lane_turn.specs.Frames.{Frame, CallOf, IterOf, LoopOf}
use Rattle.lane_turn.specs.declared.slot.Named.{Named}
use Rattle.lane_watch.specs.Watch.{nothing_seen, no_tasks}
use Rattle.context_core.specs.declared.context.Context.{Context}
use Rattle.lane_turn.specs.Sources.{no_sources}
use Rattle.lane_turn.specs.Replies.{Replies}
use Rattle.lane_turn.specs.Lane.{Lane, Turn}
use Rattle.post_office.specs.declared.letter.Letter.{Letter}
use Rattle.lane_turn.specs.Step.{step}
use Rattle.lane_turn.specs.Limits.{most_steps, slot_count}
use Rattle.loop_script.specs.Units.{Tick, LaneNumber, ContextNumber}

-- the turn after its next step, if there is one
abbrev pub stepped : Plan → Tick → Turn → Turn
stepped script tick t = unwrap_or (step script tick t) t

-- at most how many steps a frame takes before it is left
abbrev pub frame_work : Frame → ℕ
frame_work (CallOf call) = 1
frame_work (IterOf context ids asker) = 1 + length ids
frame_work (LoopOf number context) = 1

-- the same of all frames
abbrev pub nest_work : List Frame → ℕ
nest_work [] = 0
nest_work (frame ∷ below) = frame_work frame + nest_work below

-- how many rows a context has
abbrev pub rows_in : Option Context → ℕ
rows_in None = 0
rows_in (Some context) = length context.rows.rows

-- how many rows all contexts have
abbrev pub row_count : List (Option Context) → ℕ
row_count [] = 0
row_count (context ∷ contexts) = rows_in context + row_count contexts

-- at most how many steps are left after the polls: each that is counted may begin an iteration of as many ids as there are rows then
abbrev pub work_of : (left rows frames : ℕ) → Bool → ℕ
work_of left rows frames iterated = left * (rows + left + 4) + frames + (if iterated then 0 else rows + 2)

-- one more than this while the lane goes on, else none
abbrev pub while_going : Status → ℕ → ℕ
while_going GoesOn n = suc n
while_going Ended n = 0
while_going Halted n = 0

-- at most how many steps a turn still takes
abbrev pub work : Turn → ℕ
work t = length t.unpolled + while_going t.lane.status (work_of t.left (row_count t.lane.contexts) (nest_work t.lane.frames) t.iterated)

-- the turn after its steps, of which at most n are taken
unfoldable pub finish : Plan → Tick → ℕ → Turn → Turn
finish script tick zero t = t
finish script tick (suc n) t = option_map_or (finish script tick n) (step script tick t) t

-- the turn when no step is left; that `work` is enough is the law `turns_end`
unfoldable pub finished : Plan → Tick → Turn → Turn
finished script tick t = finish script tick (work t) t

-- a turn at a tick: the tasks are to be polled, and nothing was sent
abbrev pub begun : Tick → Lane → Turn
begun tick lane = record {
  lane = record lane { tasks = record lane.tasks { started = []; tick = tick + 1 } };
  unpolled = lane.tasks.started;
  left = most_steps;
  iterated = false;
  sent = 0;
  posted = [];
}

-- the same where the post held letters before
abbrev pub begun_with : Tick → List Letter → Lane → Turn
begun_with tick letters lane = record (begun tick lane) { posted = letters }

-- the turn once its tasks are polled: a step for each of them
abbrev pub begun_polled : Plan → Tick → List Letter → Lane → Turn
begun_polled script tick letters lane = finish script tick (length lane.tasks.started) (begun_with tick letters lane)

-- the lane after its turn
abbrev pub turned : Plan → Tick → Lane → Lane
turned script tick lane = (finished script tick (begun tick lane)).lane

-- the letters of the turn, in order
abbrev pub out_of : Plan → Tick → Lane → List Letter
out_of script tick lane = (finished script tick (begun tick lane)).posted

-- a context of the script, as a lane has it at first
abbrev pub open_context : Plan → LaneNumber → ContextNumber → Option Context
open_context script lane context = if home_of script context == lane then Some (no_sources script) else None

-- the first n contexts of the script
abbrev pub open_contexts_to : Plan → LaneNumber → ℕ → List (Option Context)
open_contexts_to script lane zero = []
open_contexts_to script lane (suc n) = open_contexts_to script lane n ++ open_context script lane n ∷ []

-- all contexts of the script, as a lane has them at first
abbrev pub open_contexts : Plan → LaneNumber → List (Option Context)
open_contexts script lane = open_contexts_to script lane (sizes script).contexts

-- slots that name nothing
abbrev pub open_slots : ℕ → List (Option Named)
open_slots zero = []
open_slots (suc n) = open_slots n ++ None ∷ []

-- so many that are not so: no loop runs, or no context is given
abbrev pub open_loops : ℕ → List Bool
open_loops zero = []
open_loops (suc n) = open_loops n ++ false ∷ []

-- replies of no source
abbrev pub open_replies : ℕ → List Replies
open_replies zero = []
open_replies (suc n) = open_replies n ++ [] ∷ []

-- a lane that holds its start call
abbrev pub opening : Plan → LaneNumber → Lane
opening script lane = record {
  number = lane;
  contexts = open_contexts script lane;
  given = open_loops (sizes script).contexts;
  slots = open_slots slot_count;
  view = nothing_seen script.cancellables;
  tasks = no_tasks script.cancellables script.tick_us;
  frames = CallOf (record { origin = origins.Start; body = bodies.Start lane; place = 0 }) ∷ [];
  running = open_loops (length script.loops);
  defaults = [];
  replies = open_replies (sizes script).contexts;
  trace = [];
  status = GoesOn;
}

-- a turn leaves no step
abbrev pub TurnsEnd : Type 0
TurnsEnd = (script : Plan) (tick : Tick) (lane : Lane) → step script tick (finished script tick (begun tick lane)) ≡ None
