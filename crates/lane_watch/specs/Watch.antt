-- What a lane watches: its view of cancellations, and its tasks.
use Rattle.std.specs.Prelude.{◌≡◌, ℕ, ◌+◌, ◌<◌, ◌≤◌, Bool, true, false, Option, Some, None, is_some, List, [], ◌∷◌, ◌++◌, slice_set, replicate, filter, map, if◌then◌else◌}
use Rattle.std.specs.List.{AllByRecursion, filter_map}
use Rattle.loop_script.specs.Bounds.{longest_tick}
use Rattle.loop_script.specs.declared.task.TaskSpec.{TaskSpec}
use Rattle.cancel_view.specs.Seen.{Seen, has, cancelled}
use Rattle.task_steps.specs.declared.entry.Reply.{Reply}
use Rattle.task_steps.specs.Task.{Task}
use Rattle.task_steps.specs.Book.{Book, IsIn, IsIdle, MayComeToAll, OwesNone, all_noticed}
use Rattle.task_steps.specs.Run.{IsUpTo, IsAfter}
use Rattle.lane_watch.specs.Tasks.{Started, Tasks, first_seen, reply_at, is_late_at, stays_at}
use Rattle.loop_script.specs.Units.{Tick, Microseconds, ContextNumber, CancellableNumber, TaskNumber}

-- a view, and tasks that know when its cancellables came into it
pub record Watched : Type 0 where
  pub view : Seen
  pub tasks : Tasks

-- a view of so many cancellables with none seen as cancelled, and no handler
abbrev pub nothing_seen : (cancellables : ℕ) → Seen
nothing_seen n = record { members = replicate n false; handlers = []; next_id = 1 }

-- no task was started, and none of so many cancellables came into the view
abbrev pub no_tasks : (n : ℕ) (tick_us : Microseconds) → Tasks
no_tasks n tick_us = record { started = []; next = 0; tick_us = tick_us; came = replicate n None; tick = 0 }

-- a cancellable has come into the view in a tick, if it was not there
abbrev pub cancelled_at : Tick → CancellableNumber → Watched → Watched
cancelled_at tick c w =
    if has c w.view then w else record { view = cancelled c w.view; tasks = record w.tasks { came = slice_set w.tasks.came c (Some tick) } }

-- another view of the same cancellables
abbrev pub viewing : Seen → Watched → Watched
viewing view w = record w { view = view }

-- one more task, first polled in the next tick
abbrev pub starting : Tick → ContextNumber → TaskSpec → Tasks → Tasks
starting tick ctx spec tasks = record tasks {
  started = tasks.started ++ (record { number = tasks.next; spec = spec; ctx = ctx; first = tick + 1 }) ∷ [];
  next = tasks.next + 1;
}

-- the replies that the polls of a tick give, in start order
abbrev pub replies_of : Tick → Tasks → List Reply
replies_of tick tasks = filter_map (reply_at tick tasks) tasks.started

-- the numbers of the tasks that are late at a tick
abbrev pub late_of : Tick → Tasks → List TaskNumber
late_of tick tasks = map (λ t. t.number) (filter (is_late_at tick tasks) tasks.started)

-- the tasks after a poll
abbrev pub polled : Tick → Tasks → Tasks
polled tick tasks = record tasks { started = filter (stays_at tick tasks) tasks.started; tick = tick + 1 }

-- the tasks when they are polled next at a tick
abbrev pub at_tick : Tick → Tasks → Tasks
at_tick tick tasks = record tasks { tick = tick }

-- a poll in a tick gives nothing: no reply, no late number, and each task goes on
pub record GivesNothing (tick : Tick) (tasks : Tasks) : Type 0 where
  pub replies : replies_of tick tasks ≡ []
  pub late : late_of tick tasks ≡ []
  pub stay : filter (stays_at tick tasks) tasks.started ≡ tasks.started

-- a watch that has forgotten its tasks, once memory was refused
abbrev pub forgetful : Watched → Watched
forgetful w = record w { tasks = record w.tasks { started = []; next = 0 } }

-- ---- how the view, the ticks and the book go together

-- a task of the book, without what its polls saw
abbrev pub started_of : Task → Started
started_of t = record {
  number = t.number;
  spec = record { tree = t.tree; call = t.call; cancel = t.cancel; check = t.check; return_on_cancel = t.return_on_cancel; priority = t.priority };
  ctx = t.ctx;
  first = t.first;
}

-- a tick before another, where there is one
abbrev pub IsBelow : Tick → Option Tick → Type 0
IsBelow tick None = Unit {0}
IsBelow tick (Some k) = k < tick

-- a cancellable is in the view where it has a tick
abbrev pub AreDated : List (Option Tick) → List Bool → Type 0
AreDated [] [] = Unit {0}
AreDated [] (m ∷ ms) = ⊥
AreDated (t ∷ ts) [] = ⊥
AreDated (t ∷ ts) (m ∷ ms) = (is_some t ≡ m) × AreDated ts ms

-- what polls before a tick saw of a task that is first seen as cancelled at c, where each tick were polled: none before c saw it as
-- cancelled, none from c on as not cancelled, and one that returns on cancel was polled at c
abbrev pub SeenAs : Tick → Bool → (clear cancelled c : Option Tick) → Type 0
SeenAs tick returns clear None None = Unit {0}
SeenAs tick returns clear (Some from) None = ⊥
SeenAs tick returns clear None (Some k) = IsBelow k clear × (returns ≡ true → tick ≤ k)
SeenAs tick returns clear (Some from) (Some k) = IsBelow k clear × (k ≤ from) × (returns ≡ true → k ≡ from)

-- a task of the book goes by the ticks in which the view's members came
pub record Fits (tick : Tick) (tick_us : Microseconds) (view : Seen) (came : List (Option Tick)) (t : Task) : Type 0 where
  pub ticks : t.tick_us ≡ tick_us
  pub first : t.first ≤ tick
  pub clear : IsBelow tick t.clear
  pub seen : SeenAs tick t.return_on_cancel t.clear t.cancelled (first_seen came (started_of t))
  pub known : IsIn view t.cancel

-- the numbers of tasks rise from low, all below next
abbrev pub Numbered : (low next : ℕ) → List Task → Type 0
Numbered low next [] = low ≤ next
Numbered low next (t ∷ ts) = (low ≤ t.number) × Numbered (t.number + 1) next ts

-- whatever may come, no poll in a tick replies, is late or ends a task
abbrev pub IsIdleUnder : Tick → Seen → List Task → Type 0
IsIdleUnder tick view ts = (c : ℕ → Option Tick) → MayComeToAll c (all_noticed tick view ts) → IsIdle tick c ts

-- before its wake nothing wakes in the book, no task owes the view a reply, and polls are idle
abbrev pub IsAsleep : (tick : Tick) (wake : Option Tick) (view : Seen) → Book → Type 0
IsAsleep tick wake view book = (later : Tick) → tick ≤ later → IsAfter later wake → IsAfter later book.wake × OwesNone view book.tasks × IsIdleUnder later view book.tasks

-- the last poll, pass or start was in the tick before
abbrev pub IsLast : Tick → Option Tick → Type 0
IsLast tick None = Unit {0}
IsLast tick (Some last) = last + 1 ≡ tick

-- a book of tasks that fits the view, and until when no poll of it gives anything
pub record IsJoined (tick : Tick) (tick_us : Microseconds) (view : Seen) (came : List (Option Tick)) (book : Book) (until : Option Tick) : Type 0 where
  pub ticks : book.tick_us ≡ tick_us
  pub some : 0 < tick_us
  pub short : tick_us ≤ longest_tick
  pub sound : book.spent ≡ false
  pub last : IsLast tick book.last
  pub wake : IsUpTo tick book.wake
  pub asleep : IsAsleep tick until view book
  pub dated : AreDated came view.members
  pub past : AllByRecursion (IsBelow tick) came
  pub fits : AllByRecursion (Fits tick tick_us view came) book.tasks
  pub numbered : Numbered 0 book.next book.tasks
