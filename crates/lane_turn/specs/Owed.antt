-- The replies that a lane still owes, and those that it posted.
use Rattle.std.specs.Prelude.{◌≡◌, ℕ, zero, suc, ◌+◌, ◌==◌, ◌&&◌, Bool, false, nat_le, List, [], ◌∷◌, map, length, if◌then◌else◌}
use Rattle.std.specs.List.{range_with_len}
use Rattle.loop_script.specs.declared.plan.Plan.{Plan}
use Rattle.task_steps.specs.Once.{reply_tick}
use Rattle.post_office.specs.declared.letter.Letter.{Letter}
use Rattle.post_office.specs.declared.letter.Body.{Body}
use Rattle.post_office.specs.declared.letter.Body.TheVariants.{Attach, Complete, Cancelled, Give}
use Rattle.lane_watch.specs.Tasks.{Started, Tasks, first_seen, end_of_task}
use Rattle.lane_turn.specs.Lane.{Lane}
use Rattle.lane_turn.specs.Turn.{opening, turned, out_of}
use Rattle.lane_turn.specs.Handover.{Handing, all_handed, handings}
use Rattle.lane_turn.specs.Deliver.{received_all}
use Rattle.lane_turn.specs.Tick.{posted_at, lanes_at}
use Rattle.loop_script.specs.Units.{Tick, LaneNumber, TaskNumber}

-- one for what is so
abbrev pub one_for : Bool → ℕ
one_for b = if b then 1 else 0

-- the tick in which a task replies, by what was seen cancelled so far
abbrev pub replies_in : Tasks → Started → ℕ
replies_in tasks t = reply_tick t.spec.return_on_cancel (first_seen tasks.came t) (end_of_task tasks.tick_us tasks.came t)

-- whether a task of a number replies in a tick or later
abbrev pub owes : Tick → TaskNumber → Tasks → Started → Bool
owes tick number tasks t = (t.number == number) && nat_le tick (replies_in tasks t)

-- how many replies of a number these tasks owe from a tick on
abbrev pub owed_by : Tick → TaskNumber → Tasks → List Started → ℕ
owed_by tick number tasks [] = 0
owed_by tick number tasks (t ∷ ts) = one_for (owes tick number tasks t) + owed_by tick number tasks ts

-- how many replies a lane still owes under a number: by the tasks that go on, and by the one that is still to be started
abbrev pub owed : Tick → TaskNumber → Tasks → ℕ
owed tick number tasks = owed_by tick number tasks tasks.started + one_for (nat_le tasks.next number)

-- whether a letter is a reply of a number
abbrev pub is_reply : TaskNumber → Body → Bool
is_reply number (Attach context spec) = false
is_reply number (Complete reply) = reply.task == number
is_reply number (Cancelled c) = false
is_reply number (Give context to) = false

-- how many replies under a number are among letters
abbrev pub replied : TaskNumber → List Letter → ℕ
replied number [] = 0
replied number (l ∷ letters) = one_for (is_reply number l.body) + replied number letters

-- a lane of a script at the beginning of a tick, whatever letters are delivered to it and whatever contexts go over
abbrev pub lane_under : Plan → (Tick → List Letter) → (Tick → List Handing) → LaneNumber → Tick → Lane
lane_under script mail over number zero = opening script number
lane_under script mail over number (suc k) = received_all script k (mail k) (all_handed k (over k) (turned script k (lane_under script mail over number k)))

-- what goes over in a tick where nothing does
abbrev pub none_goes : Tick → List Handing
none_goes k = []

-- the letters of a run
abbrev pub mail_of_run : Plan → Tick → List Letter
mail_of_run script k = posted_at script k (lanes_at script k)

-- what goes over in a run
abbrev pub over_of_run : Plan → Tick → List Handing
over_of_run script k = handings k (posted_at script k (lanes_at script k)) (map (turned script k) (lanes_at script k))

-- how many replies of a number a lane posted before a tick
abbrev pub posted_before : Plan → (Tick → List Letter) → (Tick → List Handing) → LaneNumber → TaskNumber → Tick → ℕ
posted_before script mail over lane number zero = 0
posted_before script mail over lane number (suc k) = posted_before script mail over lane number k + replied number (out_of script k (lane_under script mail over lane k))

-- each task's reply is posted once, and owed until then
pub record RepliesComeOnce : Type 0 where
  -- of each number of a lane's tasks there is one reply: it is owed still, or it was posted, once
  pub posted : (script : Plan) (mail : Tick → List Letter) (over : Tick → List Handing) (lane : LaneNumber) (number : TaskNumber) (tick : Tick) → posted_before script mail over lane number tick + owed tick number (lane_under script mail over lane tick).tasks ≡ 1
  -- the lanes of a run are such lanes
  pub run : (script : Plan) (tick : Tick) → lanes_at script tick ≡ map (λ lane. lane_under script (mail_of_run script) (over_of_run script) lane tick) (range_with_len 0 (length script.lanes))
