use Rattle.std.proofs.Common.{◌≡◌, [], replicate, map, string_bytes}
use Rattle.inspect_text.proofs.run_text.no_texts.Given as goal

abbrev pub invariant-loop : goal.invariant-loop
invariant-loop l = map string_bytes l.texts.items ≡ replicate l.counter []
