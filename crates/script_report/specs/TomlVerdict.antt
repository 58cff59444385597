-- What is answered of the bytes of a file, which may be TOML.
use Rattle.std.specs.Prelude.{◌≢◌, ℕ, List, Bool, true, false, Option, Some, None, Vec, ◌⊎◌}
use Rattle.std.specs.declared.alloc.Global.{Global}
use Rattle.toml_names.specs.Answer.{StandsFor, IsFaultOf}
use Rattle.toml_names.specs.declared.fault.TomlFault.{TomlFault}
use Rattle.toml_names.specs.declared.fault.TomlFault.TheVariants.{OutOfMemory}
use Rattle.script_report.specs.Verdict.{JudgesEither}
use Rattle.script_report.specs.declared.report.Language.{Language}
use Rattle.script_report.specs.declared.report.Language.TheVariants.{Json, Toml}

-- bytes have a fault as TOML that is to stand for a JSON value; out of memory is none
abbrev pub IsNoToml : List ℕ → Type 0
IsNoToml bytes = (fault : TomlFault) × (fault ≢ OutOfMemory) × IsFaultOf bytes fault

-- the JSON text that bytes of TOML stand for, or that they stand for none
abbrev pub IsJsonOf : List ℕ → Option (Vec ℕ Global) → Type 0
IsJsonOf bytes (Some text) = StandsFor bytes text.items
IsJsonOf bytes None = IsNoToml bytes

-- whether bytes of TOML are a script without a fault: the JSON text that they stand for is one
abbrev pub JudgesToml : List ℕ → Bool → Type 0
JudgesToml bytes true = (text : List ℕ) × StandsFor bytes text × JudgesEither text true
JudgesToml bytes false = IsNoToml bytes ⊎ ((text : List ℕ) × StandsFor bytes text × JudgesEither text false)

-- whether the bytes of a file are a script without a fault
abbrev pub JudgesFile : Language → List ℕ → Bool → Type 0
JudgesFile Json bytes fine = JudgesEither bytes fine
JudgesFile Toml bytes fine = JudgesToml bytes fine
