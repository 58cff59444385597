-- it is not among those before
use Rattle.std.proofs.Common.{◌≡◌, drop}
use Rattle.named.specs.Names.{number_from}
use Rattle.named.specs.Views.{texts}
use Rattle.named.proofs.names.number_among.Given as goal

abbrev pub invariant-loop-n : goal.invariant-loop-n
invariant-loop-n l = number_from l.n l.name (texts (drop l.n l.names)) ≡ number_from 0 l.name (texts l.names)
