-- A tick as several workers take it, one move of one worker at a time.
use Rattle.std.specs.Prelude.{◌≡◌, ℕ, Option, Some, None, List, [], ◌∷◌, ◌++◌, map, set, drop, length, replicate, slice_get}
use Rattle.std.specs.List.{AllByRecursion}
use Rattle.loop_script.specs.declared.plan.Plan.{Plan}
use Rattle.post_office.specs.declared.letter.Letter.{Letter}
use Rattle.lane_turn.specs.Lane.{Lane, Turn}
use Rattle.lane_turn.specs.Step.{step}
use Rattle.lane_turn.specs.Turn.{begun}
use Rattle.post_office.specs.Parts.{Work, Mail, without}
use Rattle.loop_script.specs.Units.{Tick}

-- a worker: the turn that it is in the middle of, the lanes that it took, those whose turn it ended, and what it posted
pub record Worker : Type 0 where
  pub held : Option Turn
  pub taken : List Lane
  pub over : List Lane
  pub posted : List Letter

-- a tick: the lanes that wait, the workers, and all that was posted
pub record TickState : Type 0 where
  pub waiting : List Lane
  pub workers : List Worker
  pub office : List Letter

-- a worker takes the lane at a place of those that wait, takes one step of its turn, or is done with it
pub data Move : Type 0 where
  Claim : (worker place : ℕ) → Move
  Step : (worker : ℕ) → Move
  Done : (worker : ℕ) → Move

-- what a step from t to u posted
abbrev pub posted_by : Turn → Turn → List Letter
posted_by t u = drop (length t.posted) u.posted

-- a worker takes a lane, whose turn begins
abbrev pub takes : Tick → Worker → Lane → Worker
takes tick worker lane = record worker { held = Some (begun tick lane); taken = worker.taken ++ lane ∷ [] }

-- a worker goes on with its lane, and posts what the step posts
abbrev pub goes_on : Worker → Turn → Turn → Worker
goes_on worker t u = record worker { held = Some u; posted = worker.posted ++ posted_by t u }

-- a worker has turned its lane
abbrev pub lets_go : Worker → Turn → Worker
lets_go worker t = record worker { held = None; over = worker.over ++ t.lane ∷ [] }

-- the tick after the worker of number w has taken the lane of place n; without a lane nothing is changed
abbrev pub claimed : Tick → TickState → (w n : ℕ) → Worker → Option Lane → TickState
claimed tick s w n worker None = s
claimed tick s w n worker (Some lane) = record { waiting = without n s.waiting; workers = set s.workers w (takes tick worker lane); office = s.office }

-- the tick after a worker's step, where there is one
abbrev pub gone_on : TickState → ℕ → Worker → Turn → Option Turn → TickState
gone_on s w worker t None = s
gone_on s w worker t (Some u) = record { waiting = s.waiting; workers = set s.workers w (goes_on worker t u); office = s.office ++ posted_by t u }

-- the tick after the last step of a worker's lane
abbrev pub ended : TickState → ℕ → Worker → Turn → Option Turn → TickState
ended s w worker t None = record { waiting = s.waiting; workers = set s.workers w (lets_go worker t); office = s.office }
ended s w worker t (Some u) = s

-- a worker without a lane takes one that waits
abbrev pub claim : Tick → TickState → (w n : ℕ) → Worker → Option Turn → TickState
claim tick s w n worker None = claimed tick s w n worker (slice_get s.waiting n)
claim tick s w n worker (Some t) = s

-- a worker with a lane takes a step
abbrev pub go_on : Plan → Tick → TickState → ℕ → Worker → Option Turn → TickState
go_on script tick s w worker None = s
go_on script tick s w worker (Some t) = gone_on s w worker t (step script tick t)

-- a worker whose lane has no step left lets it go
abbrev pub end : Plan → Tick → TickState → ℕ → Worker → Option Turn → TickState
end script tick s w worker None = s
end script tick s w worker (Some t) = ended s w worker t (step script tick t)

-- a move of a worker that there is
abbrev pub by_worker : Plan → Tick → TickState → Move → Option Worker → TickState
by_worker script tick s move None = s
by_worker script tick s (Claim w n) (Some worker) = claim tick s w n worker worker.held
by_worker script tick s (Step w) (Some worker) = go_on script tick s w worker worker.held
by_worker script tick s (Done w) (Some worker) = end script tick s w worker worker.held

-- whose move it is
abbrev pub worker_of : Move → ℕ
worker_of (Claim w n) = w
worker_of (Step w) = w
worker_of (Done w) = w

-- the tick after a move; one that cannot be made changes nothing
abbrev pub moved : Plan → Tick → TickState → Move → TickState
moved script tick s move = by_worker script tick s move (slice_get s.workers (worker_of move))

-- the tick after some moves
abbrev pub after : Plan → Tick → List Move → TickState → TickState
after script tick [] s = s
after script tick (move ∷ moves) s = after script tick moves (moved script tick s move)

-- a worker that has done nothing
abbrev pub idle : Worker
idle = record { held = None; taken = []; over = []; posted = [] }

-- a tick in which all lanes wait
abbrev pub opening : ℕ → List Lane → TickState
opening workers lanes = record { waiting = lanes; workers = replicate workers idle; office = [] }

-- no worker is in the middle of a turn
abbrev pub AreFree : List Worker → Type 0
AreFree workers = AllByRecursion (λ worker. worker.held ≡ None) workers

-- no lane waits, and no worker has one
pub record IsFull (s : TickState) : Type 0 where
  pub waiting : s.waiting ≡ []
  pub held : AreFree s.workers

-- the lanes that each worker took
abbrev pub taken_of : TickState → List (List Lane)
taken_of s = map (λ worker. worker.taken) s.workers

-- the lanes that each worker has turned
abbrev pub over_of : TickState → List (List Lane)
over_of s = map (λ worker. worker.over) s.workers

-- what each worker posted
abbrev pub posted_of : TickState → List (List Letter)
posted_of s = map (λ worker. worker.posted) s.workers

-- what waits, and what each worker took
abbrev pub work_of : TickState → Work Lane
work_of s = record { waiting = s.waiting; taken = taken_of s }

-- what was posted, by workers and in all
abbrev pub mail_of : TickState → Mail Letter
mail_of s = record { posted = posted_of s; office = s.office }
