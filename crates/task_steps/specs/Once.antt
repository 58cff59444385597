-- The law of a book's replies: over all polls each task has one.
use Rattle.std.specs.Prelude.{◌≡◌, ℕ, ◌+◌, ◌<◌, ◌==◌, ◌&&◌, ◌++◌, Bool, Option, List, [], ◌∷◌, filter, count_by, unwrap_or, if◌then◌else◌}
use Rattle.std.specs.List.{list_any}
use Rattle.loop_script.specs.Units.{Tick, TaskNumber}
use Rattle.cancel_view.specs.Seen.{Seen}
use Rattle.task_steps.specs.declared.entry.Reply.{Reply}
use Rattle.loop_script.specs.End.{End}
use Rattle.task_steps.specs.Task.{Task, body_end, is_early}
use Rattle.task_steps.specs.Book.{all_noticed, replies_in, goes_on}

-- a poll of a book, with the tasks that were started since the one before
pub record Poll : Type 0 where
  pub tick : Tick
  pub view : Seen
  pub started : List Task

-- the tasks that a poll finds
abbrev pub found_by : Poll → List Task → List Task
found_by p ts = all_noticed p.tick p.view (ts ++ p.started)

-- the replies of polls one after the other, from a book with some tasks
abbrev pub replies_over : (TaskNumber → Option Tick) → List Poll → List Task → List Reply
replies_over c [] ts = []
replies_over c (p ∷ ps) ts = replies_in p.tick c (found_by p ts) ++ replies_over c ps (filter (goes_on p.tick c) (found_by p ts))

-- polls come in later and later ticks
abbrev pub RiseAfter : Tick → List Poll → Type 0
RiseAfter tick [] = Unit {0}
RiseAfter tick (p ∷ ps) = (tick < p.tick) × RiseAfter p.tick ps

-- the polls' ticks rise
abbrev pub AreRising : List Poll → Type 0
AreRising [] = Unit {0}
AreRising (p ∷ ps) = RiseAfter p.tick ps

-- the tick of a reply: the first that sees the task as cancelled, where it returns on that, else the end
abbrev pub reply_tick : Bool → Option Tick → End → Tick
reply_tick return_on_cancel c e = if is_early return_on_cancel c e then unwrap_or c 0 else e.tick

-- the tick of a task's reply
abbrev pub reply_tick_of : (TaskNumber → Option Tick) → Task → Tick
reply_tick_of c t = reply_tick t.return_on_cancel (c t.number) (body_end t (c t.number))

-- whether a poll came at a tick
abbrev pub is_polled : Tick → List Poll → Bool
is_polled tick ps = list_any (λ p. tick == p.tick) ps

-- a task of the number, whose reply's tick is polled
abbrev pub is_due : TaskNumber → (TaskNumber → Option Tick) → List Poll → Task → Bool
is_due n c ps t = (t.number == n) && is_polled (reply_tick_of c t) ps

-- how many of the tasks that were started have the number, and are polled at their reply's tick
abbrev pub due_over : TaskNumber → (TaskNumber → Option Tick) → List Poll → ℕ
due_over n c [] = 0
due_over n c (p ∷ ps) = count_by (is_due n c (p ∷ ps)) p.started + due_over n c ps

-- whether a reply is one of a task
abbrev pub is_of : TaskNumber → Reply → Bool
is_of n r = r.task == n

-- Over polls at rising ticks, whatever comes, the replies of a number are one for each task of that number whose reply's tick was
-- polled, and no other.
abbrev pub EachReplyOnce : Type 0
EachReplyOnce = (n : TaskNumber) (c : TaskNumber → Option Tick) (ps : List Poll) → AreRising ps → count_by (is_of n) (replies_over c ps []) ≡ due_over n c ps
