-- How the queues that workers share go with the machine of a tick: what one of their steps changes is what one move changes.
use Rattle.std.specs.Prelude.{◌≡◌, ℕ, suc, ◌+◌, Some, None, List, [], ◌∷◌, ◌++◌, map, set, length, slice_get}
use mathlib.Core.Option.{some}
use lib.ListN.{get_elem?}
use Rattle.loop_script.specs.declared.plan.Plan.{Plan}
use Rattle.post_office.specs.declared.letter.Letter.{Letter}
use Rattle.post_office.specs.declared.views.WorkView.{WorkView}
use Rattle.post_office.specs.declared.views.PostView.{PostView}
use Rattle.post_office.specs.Parts.{Work}
use Rattle.post_office.specs.WorkQueue.{took, work_of as queued}
use Rattle.post_office.specs.LetterQueue.{posted, mail_of as mailed}
use Rattle.lane_turn.specs.Lane.{Lane, State, Turn}
use Rattle.lane_turn.specs.Step.{step}
use Rattle.tick_stepper.specs.Share.{lanes_in}
use Rattle.tick_stepper.specs.Machine.{Worker, TickState, Claim, Step, moved, posted_by, work_of, mail_of}
use Rattle.loop_script.specs.Units.{Tick}

-- what waits and what was taken, as lanes
abbrev pub lanes_of : Work State → Work Lane
lanes_of work = record { waiting = lanes_in work.waiting; taken = map lanes_in work.taken }

-- a worker of the machine holds no lane
abbrev pub IsFree : TickState → ℕ → Type 0
IsFree s w = (worker : Worker) × (slice_get s.workers w ≡ Some worker) × (worker.held ≡ None)

-- a worker is in the middle of a turn
abbrev pub IsTurning : TickState → ℕ → Turn → Type 0
IsTurning s w t = (worker : Worker) × (slice_get s.workers w ≡ Some worker) × (worker.held ≡ Some t)

-- each queue by itself takes the moves of the machine
pub record QueuesMove : Type 0 where
  -- a take that gives a lane, by a pass that is out, is the claim of a worker that holds none
  pub takes : (script : Plan) (tick : Tick) (s : TickState) (items : List State) (own : WorkView State) (vs : List (WorkView State)) (x : State) (port : ℕ) (v : WorkView State) → get_elem? vs port ≡ some v
      → lanes_of (queued (x ∷ items) own vs) ≡ work_of s → IsFree s (suc (length own.recorded + port))
      → lanes_of (queued items own (set vs port (took v x))) ≡ work_of (moved script tick s (Claim (suc (length own.recorded + port)) 0))
  -- one by the list itself is that of the first worker
  pub takes_itself : (script : Plan) (tick : Tick) (s : TickState) (items : List State) (own : WorkView State) (vs : List (WorkView State)) (x : State)
      → lanes_of (queued (x ∷ items) own vs) ≡ work_of s → IsFree s 0 → lanes_of (queued items (took own x) vs) ≡ work_of (moved script tick s (Claim 0 0))
  -- a push of a letter is the step that posts it
  pub pushes : (script : Plan) (tick : Tick) (s : TickState) (items : List Letter) (own : PostView) (vs : List PostView) (x : Letter) (port : ℕ) (v : PostView) (t u : Turn) → get_elem? vs port ≡ some v
      → mailed items own vs ≡ mail_of s → IsTurning s (length own.recorded + port) t → step script tick t ≡ Some u → posted_by t u ≡ x ∷ []
      → mailed (items ++ x ∷ []) own (set vs port (posted v x)) ≡ mail_of (moved script tick s (Step (length own.recorded + port)))
