-- What is noted of a body.
use Rattle.std.specs.Prelude.{Option, Some, None}
use Rattle.loop_script.specs.declared.outcome.Outcome.TheVariants.{Ok, Failed, Cancelled, TimedOut}
use Rattle.task_steps.specs.declared.progress.Progress.{Progress}
use Rattle.task_steps.specs.declared.progress.Progress.TheVariants.{Ended, Waits}
use Rattle.task_steps.specs.declared.noted.Noted.{Noted}
use Rattle.task_steps.specs.declared.noted.Noted.TheVariants.{Nothing, Waits as WaitsTo, Ok as EndedOk, Failed as EndedFailed, Cancelled as EndedCancelled, TimedOut as EndedLate}

-- what it says of how far the body is, where anything was noted
abbrev pub noted_of : Noted → Option Progress
noted_of Nothing = None
noted_of (WaitsTo wake) = Some (Waits wake)
noted_of (EndedOk tick value) = Some (Ended tick (Ok value))
noted_of (EndedFailed tick) = Some (Ended tick Failed)
noted_of (EndedCancelled tick) = Some (Ended tick Cancelled)
noted_of (EndedLate tick) = Some (Ended tick TimedOut)
