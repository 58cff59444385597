-- What is shown of the tasks of a book.
use Rattle.std.specs.Prelude.{◌≡◌, ◌+◌, ◌≤◌, ◌&&◌, is_some, Option, Some, None, List, [], ◌∷◌}
use Rattle.std.specs.List.{AllByRecursion}
use Rattle.loop_script.specs.Units.{Tick, TaskNumber}
use Rattle.cancel_view.specs.Seen.{Seen}
use Rattle.task_steps.specs.declared.entry.Entry.{Entry}
use Rattle.task_steps.specs.declared.look.TaskShown.{TaskShown}
use Rattle.task_steps.specs.Wake.{sooner}
use Rattle.task_steps.specs.Task.{Task, body_end, IsBefore}
use Rattle.task_steps.specs.Book.{IsNext, MayComeToAll, all_noticed}
use Rattle.task_steps.specs.BookInside.{wake_of_entry}

-- what is shown of a task, without its wake
abbrev pub task_shown : Task → TaskShown
task_shown t = record { number = t.number; ctx = t.ctx; first = t.first; cancel = t.cancel; replied = t.return_on_cancel && is_some t.cancelled; wake = None }

-- the same of what is shown
abbrev pub wakeless : TaskShown → TaskShown
wakeless s = record s { wake = None }

-- the least wake that is shown
abbrev pub least_wake : List TaskShown → Option Tick
least_wake [] = None
least_wake (s ∷ ss) = sooner s.wake (least_wake ss)

-- there is a wake, at a tick at the latest
abbrev pub WakesBy : Tick → Option Tick → Type 0
WakesBy tick None = ⊥
WakesBy tick (Some wake) = wake ≤ tick

-- each task has a wake, and its body does not end before it
abbrev pub WakeInTime : (TaskNumber → Option Tick) → List Task → List TaskShown → Type 0
WakeInTime c [] [] = Unit {0}
WakeInTime c [] (s ∷ ss) = ⊥
WakeInTime c (t ∷ ts) [] = ⊥
WakeInTime c (t ∷ ts) (s ∷ ss) = WakesBy (body_end t (c t.number)).tick s.wake × WakeInTime c ts ss

-- the same, whatever may come to them in the next poll or after it
abbrev pub WakeAsShown : Option Tick → List Task → List TaskShown → Type 0
WakeAsShown last ts ss = (tick : Tick) (view : Seen) (c : TaskNumber → Option Tick) → IsNext tick last → MayComeToAll c (all_noticed tick view ts) → WakeInTime c ts ss

-- what was seen as cancelled was seen in the last tick or before it
abbrev pub WereSeenBy : Option Tick → List Task → Type 0
WereSeenBy None ts = ts ≡ []
WereSeenBy (Some last) ts = AllByRecursion (λ t. IsBefore (last + 1) t.cancelled) ts

-- ---- inside

-- what is shown of an entry
abbrev pub entry_shown : Entry → TaskShown
entry_shown e = record { number = e.number; ctx = e.ctx; first = e.first; cancel = e.cancel; replied = e.return_on_cancel && is_some e.run.cancelled; wake = wake_of_entry e }
