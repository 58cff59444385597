use Rattle.std.proofs.Common.{◌≡◌, ◌++◌, drop, map, string_bytes}
use Rattle.inspect_text.specs.Gathered.{from_thread}
use Rattle.inspect_text.proofs.run_text.RunText.end.Given as goal

abbrev pub invariant-loop-text : goal.invariant-loop-text
invariant-loop-text l = (l.number ≡ l.text-index) × (string_bytes l.out ++ from_thread l.fn.names l.text-index (drop l.text-index (map string_bytes l.text-items)) ≡ string_bytes l.fn.out ++ from_thread l.fn.names 0 l.fn.self.threads)
