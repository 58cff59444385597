-- The bounds of counters, and by how much a turn and a delivery may raise them.
use Rattle.std.specs.Prelude.{◌≡◌, ℕ, ◌+◌, ◌*◌, ◌≤◌, Option, Some, None, length, if◌then◌else◌}
use Rattle.std.specs.List.{AllByRecursion}
use Rattle.loop_script.specs.declared.plan.Plan.{Plan}
use Rattle.source_rows.specs.Rows.{RowSet}
use Rattle.context_core.specs.declared.context.Context.{Context}
use Rattle.lane_turn.specs.Lane.{Lane, Turn}
use Rattle.lane_turn.specs.Limits.{most_steps}
use Rattle.loop_script.specs.Units.{Tick}

-- no counter of a context's sources is above m
pub record IsBounded (m : ℕ) (s : RowSet) : Type 0 where
  pub id : s.next_id ≤ m
  pub order : s.next_order ≤ m
  pub counts : AllByRecursion (λ r. r.count ≤ m) s.rows

-- no counter of a context is above m: those of its sources, and how often it is acquired
pub record IsBoundedContext (m : ℕ) (context : Context) : Type 0 where
  pub sources : IsBounded m context.rows
  pub acquires : context.acquires ≤ m

-- no counter of a context is above m, where there is one
abbrev pub Bounded : ℕ → Option Context → Type 0
Bounded m None = Unit {0}
Bounded m (Some context) = IsBoundedContext m context

-- no counter of a lane is above m
pub record IsWithin (m : ℕ) (lane : Lane) : Type 0 where
  pub contexts : AllByRecursion (Bounded m) lane.contexts
  pub frames : length lane.frames ≤ m
  pub handlers : lane.view.next_id ≤ m

-- a lane of a script at the beginning of a tick: no counter is above m, and each turn before started as many tasks as it may take steps at most
pub record IsReady (script : Plan) (tick : Tick) (m : ℕ) (lane : Lane) : Type 0 where
  pub within : IsWithin m lane
  pub view : length lane.view.members ≡ script.cancellables
  pub now : lane.tasks.tick ≡ tick
  pub next : lane.tasks.next ≤ most_steps * tick
  pub few : length lane.tasks.started ≤ most_steps * tick

-- by how much the rest of a turn may raise them
abbrev pub to_come : Turn → ℕ
to_come t = 2 * t.left + (if t.iterated then 0 else 1)

-- no counter passes n in the rest of the turn
pub record IsSound (n : ℕ) (t : Turn) : Type 0 where
  pub bound : ℕ
  pub fits : bound + to_come t ≤ n
  pub within : IsWithin bound t.lane

-- neither tasks nor letters pass n in the rest of the turn
pub record IsPaced (n : ℕ) (t : Turn) : Type 0 where
  pub next : t.lane.tasks.next + t.left ≤ n
  pub few : length t.unpolled + length t.lane.tasks.started + t.left ≤ n
  pub sent : t.sent + length t.unpolled + t.left ≤ n

-- what a lane with its bounds keeps in a turn: neither tasks nor letters pass n, and no counter m, in the rest of it; its tasks are polled
-- next at a tick; and its view is of so many cancellables
pub record IsTidy (n m tick size : ℕ) (t : Turn) : Type 0 where
  pub sound : IsSound m t
  pub paced : IsPaced n t
  pub now : t.lane.tasks.tick ≡ tick
  pub view : length t.lane.view.members ≡ size

-- a turn of a script's lane at a tick, in the rest of which no counter passes m
abbrev pub IsGoing : (script : Plan) (tick : Tick) (m : ℕ) → Turn → Type 0
IsGoing script tick m t = IsTidy (most_steps * (tick + 1)) m (tick + 1) script.cancellables t
