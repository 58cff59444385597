-- What is answered where there are no matches.
use Rattle.std.specs.Prelude.{◌≡◌, ◌≢◌}
use Rattle.inspect_arguments.specs.declared.answers.Asked.{Asked}
use Rattle.inspect_arguments.specs.declared.answers.Asked.TheVariants.{Run, Help, Wrong}
use Rattle.clap.specs.declared.error.kind.ErrorKind.{ErrorKind}
use Rattle.clap.specs.declared.error.kind.ErrorKind.TheVariants.{DisplayHelp, OutOfMemory}

-- a help where `clap` displays one, and else what is wrong: nothing is run
abbrev pub AnswersTo : {T : Type 0} → ErrorKind → Asked T → Type 0
AnswersTo kind (Run order) = ⊥
AnswersTo kind (Help text) = kind ≡ DisplayHelp
AnswersTo kind (Wrong text) = (kind ≢ DisplayHelp) × (kind ≢ OutOfMemory)
