-- What the arguments of the program ask for.
use Rattle.std.specs.Prelude.{◌≡◌, ℕ, List, [], ◌∷◌, codes, String, string_bytes}
use Rattle.std.specs.declared.alloc.Global.{Global}
use Rattle.short_numbers.specs.Number.{IsNumber}
use Rattle.tick_stepper.specs.declared.crew.Sharing.{Sharing}
use Rattle.tick_stepper.specs.declared.crew.Sharing.TheVariants.{Round, Fixed, Queue}
use Rattle.mainctx.specs.declared.arguments.Asked.{Asked}

-- `fixed` asks for lanes that go round the workers, and `queue` for a queue; no word asks for a table
abbrev pub IsWordOf : List ℕ → Sharing → Type 0
IsWordOf word Round = word ≡ codes "fixed"
IsWordOf word (Fixed table) = ⊥
IsWordOf word Queue = word ≡ codes "queue"

-- `WORKERS fixed` or `WORKERS queue`
pub record AskFor (args : List (String Global)) (asked : Asked) : Type 0 where
  pub number : String Global
  pub word : String Global
  pub two : args ≡ number ∷ word ∷ []
  pub workers : IsNumber (string_bytes number) asked.workers
  pub sharing : IsWordOf (string_bytes word) asked.sharing
