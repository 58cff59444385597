-- What a caller finds in its room.
use Rattle.std.specs.Prelude.{◌≡◌, ◌<◌, ◌≤◌, ◌⊎◌, ℕ, List, Some, true, length, take, drop}
use Rattle.loop_script.specs.declared.plan.Plan.{Plan}
use Rattle.loop_script.specs.declared.fault.ScriptFault.{ScriptFault}
use Rattle.loop_script.specs.declared.fault.ScriptFault.TheVariants.{NotJson, Shape, Limit, Reference, Rule, OutOfMemory}
use Rattle.mainctx.specs.Run.{IsFaultOf, IsScriptOf}
use Rattle.mainctx.specs.Text.{text_of}
use Rattle.mainctx_c.specs.Form.{IsRefusedBy, numbers_of}
use Rattle.script_report.specs.Verdict.{IsOfForm, JudgesEither}
use Rattle.script_report.specs.declared.forms.Either.{Either}

-- the number of a class of fault
abbrev pub class_of : ScriptFault → ℕ
class_of NotJson = 1
class_of Shape = 2
class_of Limit = 3
class_of Reference = 4
class_of Rule = 5
class_of OutOfMemory = 6

-- the bytes are no script's, by a fault of the class of this number
pub record HasFaultOf (bytes : List ℕ) (number : ℕ) : Type 0 where
  pub fault : ScriptFault
  pub class : class_of fault ≡ number
  pub refused : IsFaultOf bytes fault

-- the bytes are a script of neither form, by a fault of the class of this number
pub record HasEithersFaultOf (bytes : List ℕ) (number : ℕ) : Type 0 where
  pub fault : ScriptFault
  pub class : class_of fault ≡ number
  pub refused : IsRefusedBy bytes fault

-- a text stands first in a room, and what is behind it is as before
pub record HasAll (text before room : List ℕ) : Type 0 where
  pub fits : length text ≤ length room
  pub begins : take (length text) room ≡ text
  pub rest : drop (length text) room ≡ drop (length text) before

-- a room is the beginning of a text that is longer
pub record HasFront (text room : List ℕ) : Type 0 where
  pub short : length room < length text
  pub front : room ≡ take (length room) text

-- the text of the script of the bytes, which is so long, stands first in the room
pub record HoldsText (bytes before room : List ℕ) (needed : ℕ) : Type 0 where
  pub script : Plan
  pub read : IsScriptOf bytes script
  pub long : needed ≡ length (text_of script)
  pub all : HasAll (text_of script) before room

-- the room is the beginning of that text, which is longer
pub record HoldsFront (bytes room : List ℕ) (needed : ℕ) : Type 0 where
  pub script : Plan
  pub read : IsScriptOf bytes script
  pub long : needed ≡ length (text_of script)
  pub front : HasFront (text_of script) room

-- the script of numbers that the bytes of a script of either form are, or stand for, which is so long, stands first in the room
pub record HoldsNumbers (bytes before room : List ℕ) (needed : ℕ) : Type 0 where
  pub form : Either
  pub read : IsOfForm bytes (Some form)
  pub long : needed ≡ length (numbers_of bytes form)
  pub all : HasAll (numbers_of bytes form) before room

-- the room is the beginning of that script, which is longer
pub record HoldsNumbersFront (bytes room : List ℕ) (needed : ℕ) : Type 0 where
  pub form : Either
  pub read : IsOfForm bytes (Some form)
  pub long : needed ≡ length (numbers_of bytes form)
  pub front : HasFront (numbers_of bytes form) room

-- so much stands first in a room, and what is behind it is as before
pub record LeavesRest (needed : ℕ) (before room : List ℕ) : Type 0 where
  pub fits : needed ≤ length room
  pub rest : drop needed room ≡ drop needed before

-- what a call leaves that tells of the run of a script of either form, by the number that it answers: where that is 0 all that is told, where it is 7
-- the beginning of more than there is room for, and else nothing, since the bytes are no script (1 to 5), or memory was refused (6)
pub record Tells (bytes : List ℕ) (answer : ℕ) (before room : List ℕ) (needed : ℕ) : Type 0 where
  pub answers : answer ≤ 7
  pub script : (answer ≡ 0) ⊎ (answer ≡ 7) → JudgesEither bytes true
  pub whole : answer ≡ 0 → LeavesRest needed before room
  pub short : answer ≡ 7 → length room < needed
  pub fault : 1 ≤ answer → answer < 6 → HasEithersFaultOf bytes answer
  pub stays : 1 ≤ answer → answer ≤ 6 → room ≡ before
  pub none : 1 ≤ answer → answer ≤ 6 → needed ≡ 0
