-- A poll of all entries.
use Rattle.std.specs.Prelude.{◌≡◌, ◌+◌, ◌&&◌, ◌++◌, Bool, false, not, is_some, Option, Some, List, map, filter}
use Rattle.std.specs.List.{list_any}
use Rattle.loop_script.specs.Units.{Tick, TaskNumber, CancellableNumber}
use Rattle.cancel_view.specs.Seen.{Seen}
use Rattle.task_steps.specs.declared.entry.Entry.{Entry}
use Rattle.task_steps.specs.declared.entry.Reply.{Reply}
use Rattle.task_steps.specs.Task.{Task, IsBefore}
use Rattle.task_steps.specs.Run.{IsUpTo, IsAfter}
use Rattle.task_steps.specs.Book.{sees, HasGrown, MayComeToAll, all_noticed, replies_in, late_in, goes_on}
use Rattle.task_steps.specs.BookInside.{AreWaiting, AreListed, is_fresh, wake_of_all, shown}

-- the tasks that a book shows for entries
abbrev pub all_shown : Option Tick → List Entry → List Task
all_shown polled es = map (shown polled) es

-- each entry can be polled
pub record CanPollAll (tick : Tick) (polled : Option Tick) (view : Seen) (es : List Entry) : Type 0 where
  pub waiting : AreWaiting tick polled es
  pub past : IsBefore tick polled
  pub wake : IsUpTo tick (wake_of_all es)
  pub grown : HasGrown view (all_shown polled es)

-- whether a poll is the first that sees an entry as cancelled
abbrev pub comes : Seen → Entry → Bool
comes view e = sees view e.cancel && not (is_some e.run.cancelled)

-- the same of an entry that was polled before
abbrev pub comes_once : Seen → Entry → Bool
comes_once view e = not (is_fresh e.run.stage) && comes view e

-- where nothing came, no poll of an entry that was polled before is the first that sees it as cancelled
abbrev pub NoneComes : Bool → Seen → List Entry → Type 0
NoneComes came view es = came ≡ false → list_any (comes_once view) es ≡ false

-- whether the next poll of an entry replies that it is cancelled
abbrev pub owes_reply : Seen → Entry → Bool
owes_reply view e = e.return_on_cancel && comes view e

-- a poll of tasks gives their replies and late numbers of the tick, and leaves those that go on
pub record Gives (tick : Tick) (c : TaskNumber → Option Tick) (ts : List Task) (after : List Entry) (rs ss : List Reply) (ls ms : List TaskNumber) : Type 0 where
  pub replies : ss ≡ rs ++ replies_in tick c ts
  pub late : ms ≡ ls ++ late_in tick c ts
  pub going : all_shown (Some tick) after ≡ filter (goes_on tick c) ts

-- The entries were polled, as the tasks that the book shows for them: what they gave was added, for whatever may come, and those that
-- go on wait for the next tick, wake after this one, and have noticed what the view has.
pub record HasPolledAll (tick : Tick) (polled : Option Tick) (view : Seen) (prior after : List Entry) (rs ss : List Reply) (ls ms : List TaskNumber) : Type 0 where
  pub gives : (c : TaskNumber → Option Tick) → MayComeToAll c (all_noticed tick view (all_shown polled prior)) → Gives tick c (all_noticed tick view (all_shown polled prior)) after rs ss ls ms
  pub waiting : AreWaiting (tick + 1) (Some tick) after
  pub wake : IsAfter tick (wake_of_all after)
  pub grown : HasGrown view (all_shown (Some tick) after)
  pub noticed : list_any (comes view) after ≡ false
  pub listed : (cs : List CancellableNumber) → AreListed cs prior → AreListed cs after
