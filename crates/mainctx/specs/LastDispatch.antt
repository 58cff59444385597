-- The line of a dispatch in its parts.
use Rattle.std.specs.Prelude.{◌≡◌, ℕ, ◌+◌, ◌≤◌, List, ◌++◌, codes, drop, length}
use Rattle.std.specs.Fmt.{decimal, signed_decimal}
use Rattle.mainctx.specs.declared.last_dispatch.LastDispatch.{LastDispatch}
use Rattle.loop_script.specs.Units.{Tick, ContextNumber, Priority}
use Rattle.mainctx.specs.Bounds.{longest_line}

-- what comes before the source
abbrev pub head_text : Tick → ContextNumber → List ℕ
head_text tick context = decimal tick ++ (codes " dispatch ctx " ++ (decimal context ++ codes " source "))

-- what follows it
abbrev pub tail_text : Priority → (depth : ℕ) → List ℕ
tail_text priority depth = codes " priority " ++ (signed_decimal priority ++ (codes " depth " ++ (decimal depth ++ codes "\n")))

-- the bytes end with the parts where the places say
pub record HoldsLine (last : LastDispatch) : Type 0 where
  pub head : drop last.start last.bytes ≡ head_text last.tick last.context ++ drop last.number last.bytes
  pub start : last.start + length (head_text last.tick last.context) ≡ last.number
  pub tail : drop last.tail last.bytes ≡ tail_text last.priority last.depth
  pub room : longest_line ≤ last.tail + 100
  pub within : last.tail ≤ longest_line
  pub long : length last.bytes ≡ longest_line
