-- The tasks of the book, and their replies.
use Rattle.std.specs.Prelude.{◌≡◌, ◌<◌, ◌==◌, ◌&&◌, Bool, true, false, not, Option, Some, None, is_some, if◌then◌else◌}
use Rattle.loop_script.specs.Units.{Tick, Microseconds, ContextNumber, CancellableNumber, ProcNumber, TaskNumber, Priority}
use Rattle.loop_script.specs.Tree.{Tree}
use Rattle.loop_script.specs.declared.outcome.Outcome.{Outcome}
use Rattle.loop_script.specs.declared.outcome.Outcome.TheVariants.{Cancelled}
use Rattle.task_steps.specs.declared.stage.Stage.{Stage}
use Rattle.task_steps.specs.declared.stage.Stage.TheVariants.{Fresh, Set, Polled, Done}
use Rattle.task_steps.specs.declared.entry.Entry.{Entry}
use Rattle.task_steps.specs.declared.entry.Answer.{Answer}
use Rattle.loop_script.specs.End.{End, end_of, seen}
use Rattle.task_steps.specs.Run.{MayCome, MaySet, StaysSet, seen_from, clear_to}

-- a task with its first poll, the last poll that saw it as not cancelled, and the first that saw it as cancelled
pub record Task : Type 0 where
  pub number : TaskNumber
  pub ctx : ContextNumber
  pub call : ProcNumber
  pub priority : Priority
  pub cancel : Option CancellableNumber
  pub check : Bool
  pub return_on_cancel : Bool
  pub tree : Tree
  pub tick_us : Microseconds
  pub first : Tick
  pub clear : Option Tick
  pub cancelled : Option Tick

-- the task of an entry
abbrev pub task_of : Entry → Task
task_of e = record { number = e.number; ctx = e.ctx; call = e.call; priority = e.priority; cancel = e.cancel; check = e.check; return_on_cancel = e.return_on_cancel; tree = e.run.tree; tick_us = e.run.tick_us; first = e.first; clear = e.run.clear; cancelled = e.run.cancelled }

-- a task after a poll that sees it as cancelled or not
abbrev pub noticed : Tick → Bool → Task → Task
noticed tick flag t = record t { clear = clear_to tick flag t.clear; cancelled = seen_from tick flag t.cancelled }

-- when a task's body ends, and how
abbrev pub body_end : Task → Option Tick → End
body_end t c = end_of t.tick_us t.tree t.first c

-- whether a task that returns on cancel is cancelled by its body's end
abbrev pub is_early : Bool → Option Tick → End → Bool
is_early return_on_cancel c e = return_on_cancel && seen c e.tick

-- whether a tick is this one
abbrev pub is_at : Tick → Option Tick → Bool
is_at tick None = false
is_at tick (Some from) = from == tick

-- the reply in a tick: cancelled where that is first seen, else the body's outcome where it ends
abbrev pub reply_in : Tick → Bool → Option Tick → End → Option Outcome
reply_in tick return_on_cancel c e =
    if is_early return_on_cancel c e then (if is_at tick c then Some Cancelled else None)
    else (if e.tick == tick then Some e.outcome else None)

-- whether the body ends at a tick, after the reply or with it
abbrev pub is_late_in : Tick → Bool → Option Tick → End → Bool
is_late_in tick return_on_cancel c e = is_early return_on_cancel c e && (e.tick == tick)

-- polls see the task as cancelled from exactly this tick on, where there is one: a task that returns on cancel is polled in the first such tick
abbrev pub IsSeenExactly : Option Tick → Option Tick → Type 0
IsSeenExactly None c = Unit {0}
IsSeenExactly (Some from) c = c ≡ Some from

-- the ticks in which its cancellable may have come, by what its polls saw
abbrev pub MayComeTo : Task → Option Tick → Type 0
MayComeTo t c = MayCome t.clear t.cancelled c × (t.return_on_cancel ≡ true → IsSeenExactly t.cancelled c)

-- a tick before this one, where there is one
abbrev pub IsBefore : Tick → Option Tick → Type 0
IsBefore tick None = Unit {0}
IsBefore tick (Some from) = from < tick

-- a run that was begun by its first tick
abbrev pub IsBegunBy : Tick → Stage → Tick → Type 0
IsBegunBy first Fresh tick = first ≡ tick
IsBegunBy first (Set begun at) tick = ⊥
IsBegunBy first (Polled begun at) tick = begun ≡ first
IsBegunBy first Done tick = ⊥

-- an entry that can be polled at a tick
abbrev pub CanPoll : Tick → Bool → Entry → Type 0
CanPoll tick flag e =
    MaySet tick e.run.stage e.run.wake × StaysSet e.run.cancelled flag × IsBefore tick e.run.cancelled × IsBegunBy e.first e.run.stage tick

-- whether a run is done
abbrev pub is_done_stage : Stage → Bool
is_done_stage Fresh = false
is_done_stage (Set begun at) = false
is_done_stage (Polled begun at) = false
is_done_stage Done = true

-- whether an entry goes on
abbrev pub is_waiting : Entry → Bool
is_waiting e = not (is_done_stage e.run.stage)

-- The answer of a poll is the task's reply and late number in that tick, for whatever may come; the run is over where the body ends.
abbrev pub IsAnswer : Tick → Entry → Answer → Type 0
IsAnswer tick e answer =
    (c : Option Tick) → MayComeTo (task_of e) c
    → (answer.reply ≡ reply_in tick e.return_on_cancel c (body_end (task_of e) c))
    × (answer.late ≡ is_late_in tick e.return_on_cancel c (body_end (task_of e) c))
    × (is_done_stage e.run.stage ≡ ((body_end (task_of e) c).tick == tick))

-- what a poll tells of a task
abbrev pub answer_as : Bool → Bool → Option Outcome → Answer
answer_as early before end =
    record { reply = (if early then (if before then None else Some Cancelled) else end); late = early && is_some end }

-- a stage that was polled at a tick
abbrev pub IsPolledStage : Tick → Tick → Stage → Type 0
IsPolledStage first tick Fresh = ⊥
IsPolledStage first tick (Set begun at) = ⊥
IsPolledStage first tick (Polled begun at) = (begun ≡ first) × (at ≡ tick)
IsPolledStage first tick Done = Unit {0}

-- an entry that was polled at a tick
abbrev pub IsPolledAt : Tick → Entry → Type 0
IsPolledAt tick e = IsPolledStage e.first tick e.run.stage
