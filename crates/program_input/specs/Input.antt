-- What a program reads as its script, and with which status it ends where it has none.
use Rattle.std.specs.Prelude.{◌≡◌, ℕ, List, Option, IfSome}
use Rattle.program_input.specs.declared.fault.InputFault.{InputFault}
use Rattle.program_input.specs.declared.fault.InputFault.TheVariants.{NotText, Unreadable, TooLong, OutOfMemory}

-- the bytes are all that the input has left, where that is known
abbrev pub IsRestOf : Option (List ℕ) → List ℕ → Type 0
IsRestOf left bytes = IfSome left (λ known. bytes ≡ known)

-- the most bytes that are read
abbrev pub input_limit : ℕ
input_limit = 4194304

-- the exit status by a fault
abbrev pub status_of : InputFault → ℕ
status_of NotText = 1
status_of Unreadable = 4
status_of TooLong = 4
status_of OutOfMemory = 3
