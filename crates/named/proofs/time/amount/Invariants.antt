-- what the digits left say behind those before
use Rattle.std.proofs.Common.{◌≡◌, drop}
use Rattle.named.specs.Leaf.{amount}
use Rattle.named.proofs.time.amount.Given as goal

abbrev pub invariant-loop-byte : goal.invariant-loop-byte
invariant-loop-byte l = amount l.amount (drop l.byte-index l.bytes) ≡ amount 0 l.bytes
