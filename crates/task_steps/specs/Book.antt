-- The tasks of a lane, as callers of the book see them.
use Rattle.std.specs.Prelude.{◌≡◌, ◌+◌, ◌<◌, ◌==◌, ◌++◌, Bool, true, false, not, ◌&&◌, is_some, Option, Some, None, List, [], ◌∷◌, map, filter, length, option_map, option_to_list, if◌then◌else◌}
use Rattle.std.specs.List.{list_any}
use Rattle.loop_script.specs.Units.{Tick, Microseconds, ContextNumber, CancellableNumber, TaskNumber}
use Rattle.loop_script.specs.declared.task.TaskSpec.{TaskSpec}
use Rattle.cancel_view.specs.Seen.{Seen, has}
use Rattle.task_steps.specs.declared.entry.Reply.{Reply}
use Rattle.task_steps.specs.Reply.{reply_of_task}
use Rattle.task_steps.specs.Run.{StaysSet, IsAfter}
use Rattle.task_steps.specs.Wake.{sooner}
use Rattle.task_steps.specs.Task.{Task, noticed, body_end, reply_in, is_late_in, MayComeTo}

-- how long a tick is; the tasks whose body has not ended, in start order, and the number of the next; the last tick that was
-- polled, passed over or started in; a tick that no poll may pass over; and whether memory was refused
pub record Book : Type 0 where
  pub tick_us : Microseconds
  pub tasks : List Task
  pub next : TaskNumber
  pub last : Option Tick
  pub wake : Option Tick
  pub spent : Bool

-- a task that is started
abbrev pub started : Microseconds → TaskNumber → TaskSpec → ContextNumber → Tick → Task
started tick_us number spec ctx tick = record { number = number; ctx = ctx; call = spec.call; priority = spec.priority; cancel = spec.cancel; check = spec.check; return_on_cancel = spec.return_on_cancel; tree = spec.tree; tick_us = tick_us; first = tick + 1; clear = None; cancelled = None }

-- a book with one more task, started in a tick
abbrev pub with_task : TaskSpec → ContextNumber → Tick → Book → Book
with_task spec ctx tick b = record b { tasks = b.tasks ++ started b.tick_us b.next spec ctx tick ∷ []; next = b.next + 1; last = Some tick; wake = sooner b.wake (Some (tick + 1)) }

-- a book after a refusal of memory
abbrev pub exhausted : Book → Book
exhausted b = record b { tasks = []; last = None; wake = None; spent = true }

-- a task may be started in a tick: in the last that was polled, passed over or started in, or before any
abbrev pub IsStart : Tick → Option Tick → Type 0
IsStart tick None = Unit {0}
IsStart tick (Some last) = last ≡ tick

-- a poll at this tick comes next
abbrev pub IsNext : Tick → Option Tick → Type 0
IsNext tick None = Unit {0}
IsNext tick (Some last) = last < tick

-- whether a view has a task's cancellable
abbrev pub sees : Seen → Option CancellableNumber → Bool
sees view None = false
sees view (Some c) = has c view

-- the task after a poll that sees this view
abbrev pub noticed_in : Tick → Seen → Task → Task
noticed_in tick view t = noticed tick (sees view t.cancel) t

-- the tasks after a poll of all of them
abbrev pub all_noticed : Tick → Seen → List Task → List Task
all_noticed tick view ts = map (noticed_in tick view) ts

-- a cancellable is one that the view tells of, where there is one
abbrev pub IsIn : Seen → Option CancellableNumber → Type 0
IsIn view None = Unit {0}
IsIn view (Some c) = c < length view.members

-- the view tells of the cancellables of the tasks, and has all that the tasks were seen cancelled by
abbrev pub HasGrown : Seen → List Task → Type 0
HasGrown view [] = Unit {0}
HasGrown view (t ∷ ts) = IsIn view t.cancel × StaysSet t.cancelled (sees view t.cancel) × HasGrown view ts

-- from when on each task may be seen as cancelled, by its number
abbrev pub MayComeToAll : (TaskNumber → Option Tick) → List Task → Type 0
MayComeToAll c [] = Unit {0}
MayComeToAll c (t ∷ ts) = MayComeTo t (c t.number) × MayComeToAll c ts

-- the replies that polls of tasks give in a tick
abbrev pub replies_in : Tick → (TaskNumber → Option Tick) → List Task → List Reply
replies_in tick c [] = []
replies_in tick c (t ∷ ts) = option_to_list (option_map (reply_of_task t) (reply_in tick t.return_on_cancel (c t.number) (body_end t (c t.number)))) ++ replies_in tick c ts

-- the numbers of the tasks that are late at a tick
abbrev pub late_in : Tick → (TaskNumber → Option Tick) → List Task → List TaskNumber
late_in tick c [] = []
late_in tick c (t ∷ ts) = (if is_late_in tick t.return_on_cancel (c t.number) (body_end t (c t.number)) then t.number ∷ [] else []) ++ late_in tick c ts

-- whether a task goes on after a tick
abbrev pub goes_on : Tick → (TaskNumber → Option Tick) → Task → Bool
goes_on tick c t = not ((body_end t (c t.number)).tick == tick)

-- no poll in the tick replies, is late or ends a task
abbrev pub IsIdle : Tick → (TaskNumber → Option Tick) → List Task → Type 0
IsIdle tick c ts = (replies_in tick c ts ≡ []) × (late_in tick c ts ≡ []) × (filter (goes_on tick c) ts ≡ ts)

-- whether a poll in the next tick replies that the task is cancelled
abbrev pub replies_next : Seen → Task → Bool
replies_next view t = t.return_on_cancel && (sees view t.cancel && not (is_some t.cancelled))

-- a tick before which no poll does anything while the view stays: the next one where a cancelled task's reply is due
abbrev pub wake_under : Tick → Seen → Book → Option Tick
wake_under tick view b = if list_any (replies_next view) b.tasks then Some (tick + 1) else b.wake

-- after a tick and before the wake every poll is idle, while the view stays, whatever comes later
abbrev pub IsQuietTo : Option Tick → Tick → Seen → List Task → Type 0
IsQuietTo wake tick view ts =
    (later : Tick) (c : TaskNumber → Option Tick) → tick < later → IsAfter later wake → MayComeToAll c (all_noticed later view ts) → IsIdle later c ts

-- a book once a tick is passed over: no task is touched
abbrev pub passed : Tick → Book → Book
passed tick b = record b { last = Some tick }

-- no task owes the view a reply that it is cancelled
abbrev pub OwesNone : Seen → List Task → Type 0
OwesNone view ts = list_any (replies_next view) ts ≡ false

-- What may come to the tasks once a poll of the tick has noticed them may come to them as they are, at any later poll: so that poll,
-- whose answers hold for whatever may come, gives the same.
abbrev pub IsAsPolled : Tick → Seen → List Task → Type 0
IsAsPolled tick view ts =
    (later : Tick) (after : Seen) (c : TaskNumber → Option Tick) → tick < later → HasGrown after (all_noticed tick view ts)
    → MayComeToAll c (all_noticed later after (all_noticed tick view ts)) → MayComeToAll c (all_noticed later after ts)
