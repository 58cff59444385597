-- What a moment wrote, with names.
use Rattle.std.specs.Prelude.{◌≡◌, ◌≤◌, ℕ, List, ◌++◌, map, length, slice_get, slice_range, Option, IfSome}
use Rattle.std.specs.List.{flat_map, AllByRecursion}
use Rattle.lane_turn.specs.Lane.{Lane}
use Rattle.lane_turn.specs.declared.line.Line.{Line}
use Rattle.tick_stepper.specs.Account.{lanes_in}
use Rattle.account.specs.Course.{Course}
use Rattle.account.specs.declared.moment.Moment.{Moment}
use Rattle.run_names.specs.Text.{Calling}
use Rattle.named_lines.specs.Lines.{line_text}
use Rattle.named_lines.specs.declared.told_line.Told.{Told}

-- a text tells lines of a thread, each with what it does not say itself, in their order
pub record Tells (tick_us : ℕ) (c : Calling) (thread : ℕ) (lines : List Line) (text : List ℕ) : Type 0 where
  pub told : List Told
  pub each : map (λ t. t.line) told ≡ lines
  pub of_thread : AllByRecursion (λ t. t.lane ≡ thread) told
  pub bytes : text ≡ flat_map (line_text tick_us c) told

-- a text that tells lines of a thread is added
abbrev pub Adds : ℕ → Calling → ℕ → List Line → List ℕ → List ℕ → Type 0
Adds tick_us c thread lines old new = (text : List ℕ) × Tells tick_us c thread lines text × (new ≡ old ++ text)

-- lines are those that a moment wrote into its lane's trace
abbrev pub AreWritten : Option Lane → Moment → List Line → Type 0
AreWritten o m lines = IfSome o (λ lane. m.from ≤ m.to → m.to ≤ length lane.trace → lines ≡ slice_range lane.trace m.from m.to)

-- a text tells the lines that a moment wrote
abbrev pub WritesOf : Option Lane → Moment → ℕ → Calling → List ℕ → Type 0
WritesOf o m tick_us c text = IfSome o (λ lane. m.from ≤ m.to → m.to ≤ length lane.trace → Tells tick_us c m.lane (slice_range lane.trace m.from m.to) text)

-- a text tells the lines that a moment of a run wrote, with names
abbrev pub TellsOf : Course → Calling → Moment → List ℕ → Type 0
TellsOf run c m text = WritesOf (slice_get (lanes_in run.place) m.lane) m run.script.tick_us c text
