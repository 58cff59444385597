-- Scripts of either form, with which names they are told, and why bytes are none.
use Rattle.std.specs.Prelude.{◌≡◌, ℕ, List, Option, None, Some}
use Rattle.loop_script.specs.declared.fault.ScriptFault.{ScriptFault}
use Rattle.mainctx.specs.Run.{IsFaultOf}
use Rattle.named.specs.Answer.{StandsForAny}
use Rattle.named.specs.Names as name
use Rattle.run_names.specs.Called.{AreOf}
use Rattle.script_report.specs.Verdict.{IsOfForm}
use Rattle.script_report.specs.declared.forms.Either.{Either}
use Rattle.script_report.specs.declared.forms.Either.TheVariants.{Numbers, Names}

-- the script of numbers that bytes of a form are, or stand for
abbrev pub numbers_of : List ℕ → Either → List ℕ
numbers_of bytes Numbers = bytes
numbers_of bytes (Names numbered) = numbered.items

-- the names with which the run of a script of a form is told: its own, and of one of numbers none
abbrev pub AreTold : List ℕ → Either → Option name.Names → Type 0
AreTold bytes Numbers names = names ≡ None
AreTold bytes (Names numbered) names = AreOf bytes names

-- the bytes whose fault is answered: those that bytes stand for, where they do, else themselves
abbrev pub judged : List ℕ → Option (List ℕ) → List ℕ
judged bytes None = bytes
judged bytes (Some numbered) = numbered

-- the bytes are a script of neither form, and this is the class of their fault
pub record IsRefusedBy (bytes : List ℕ) (fault : ScriptFault) : Type 0 where
  pub neither : IsOfForm bytes None
  pub numbered : Option (List ℕ)
  pub stands : StandsForAny bytes numbered
  pub cause : IsFaultOf (judged bytes numbered) fault
