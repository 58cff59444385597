use Rattle.std.proofs.Common.{◌-◌}
use Rattle.std.specs.Io.KnownBytes.{Consumes}
use Rattle.program_input.proofs.bytes.read_input.Given as goal

abbrev pub invariant-input : goal.invariant-input
invariant-input g l = Consumes (g.R.Read.remaining l.fn.input) (g.R.Read.remaining l.input) l.bytes.items

abbrev pub decreases-input : goal.decreases-input
decreases-input g l = 4194305 - l.bytes.len
