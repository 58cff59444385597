-- Lines that are told alike are the same line.
use Rattle.std.specs.Prelude.{◌≡◌, ◌<◌, ◌*◌, ◌^◌, ℕ, suc, ℤ, pos, negsuc, List, map, ◌++◌, Option, IfSome}
use Rattle.std.specs.List.{flat_map, AllByRecursion}
use Rattle.loop_script.specs.declared.outcome.Outcome.{Outcome}
use Rattle.loop_script.specs.declared.outcome.Outcome.TheVariants as outcomes
use Rattle.named.specs.Names.{Names}
use Rattle.lane_turn.specs.declared.line.Event.{Event}
use Rattle.lane_turn.specs.declared.line.Event.TheVariants.{Dispatch, Log, Iterate, Pending, LoopEnd, Acquire, Default, Invoke, Arrive, Cancel, Handler, Task, TaskLate, Give, Hold, Miss, HaltDepth, HaltSteps, End}
use Rattle.named_lines.specs.declared.told_line.Told.{Told}
use Rattle.run_names.specs.Text.{Calling}
use Rattle.run_names.specs.Fit.{IsOfNames}
use Rattle.named_lines.specs.Lines.{line_text}

-- the numbers of a line are those of their types
abbrev pub SignedFits : ℤ → Type 0
SignedFits (pos n) = n < 2 ^ 64
SignedFits (negsuc n) = suc n < 2 ^ 64

abbrev pub OutcomeFits : Outcome → Type 0
OutcomeFits (outcomes.Ok v) = SignedFits v
OutcomeFits o = Unit {0}

abbrev pub EventFits : Event → Type 0
EventFits (Dispatch context source priority depth) = (context < 2 ^ 64) × (source < 2 ^ 64) × SignedFits priority × (depth < 2 ^ 64)
EventFits (Log n) = n < 2 ^ 64
EventFits (Iterate context answer) = context < 2 ^ 64
EventFits (Pending context answer) = context < 2 ^ 64
EventFits (LoopEnd n) = n < 2 ^ 64
EventFits (Acquire context answer) = context < 2 ^ 64
EventFits (Default context) = context < 2 ^ 64
EventFits (Invoke context how) = context < 2 ^ 64
EventFits (Arrive context source) = (context < 2 ^ 64) × (source < 2 ^ 64)
EventFits (Cancel n) = n < 2 ^ 64
EventFits (Handler id) = id < 2 ^ 64
EventFits (Task lane number outcome) = (lane < 2 ^ 64) × (number < 2 ^ 64) × OutcomeFits outcome
EventFits (TaskLate lane number) = (lane < 2 ^ 64) × (number < 2 ^ 64)
EventFits (Give context lane) = (context < 2 ^ 64) × (lane < 2 ^ 64)
EventFits (Hold context) = context < 2 ^ 64
EventFits (Miss word) = Unit {0}
EventFits HaltDepth = Unit {0}
EventFits HaltSteps = Unit {0}
EventFits End = Unit {0}

abbrev pub NumberFits : Option ℕ → Type 0
NumberFits o = IfSome o (λ n. n < 2 ^ 64)

-- in ticks of so many microseconds
pub record ToldFits (tick_us : ℕ) (told : Told) : Type 0 where
  pub event : EventFits told.line.event
  pub callee : NumberFits told.callee
  pub slot : NumberFits told.slot
  pub time : told.line.tick * tick_us < 2 ^ 64

-- lines of one thread that are told alike, whatever stands behind them, are the same line
abbrev pub LinesAreApart : Type 0
LinesAreApart =
    (c : Calling) (ns : Names) (tick_us : ℕ) → IsOfNames c ns → 0 < tick_us → (t u : Told) → ToldFits tick_us t → ToldFits tick_us u → t.lane ≡ u.lane → (r s : List ℕ)
    → line_text tick_us c t ++ r ≡ line_text tick_us c u ++ s → (t.line ≡ u.line) × (r ≡ s)

-- what is told of one thread, and fits
pub record OfThread (tick_us thread : ℕ) (told : Told) : Type 0 where
  pub lane : told.lane ≡ thread
  pub fits : ToldFits tick_us told

-- so texts of one thread that are the same to the byte have the same lines: each name put back to its number gives one text
abbrev pub TextsAreApart : Type 0
TextsAreApart =
    (c : Calling) (ns : Names) (tick_us lane : ℕ) → IsOfNames c ns → 0 < tick_us → (ts us : List Told) → AllByRecursion (OfThread tick_us lane) ts → AllByRecursion (OfThread tick_us lane) us
    → flat_map (line_text tick_us c) ts ≡ flat_map (line_text tick_us c) us → map (λ t. t.line) ts ≡ map (λ t. t.line) us
