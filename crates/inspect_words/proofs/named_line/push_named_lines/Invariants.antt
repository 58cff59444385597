use Rattle.std.proofs.Common.{string_bytes, take}
use Rattle.inspect_words.specs.Named.{Adds}
use Rattle.inspect_words.proofs.named_line.push_named_lines.Given as goal

abbrev pub invariant-loop-line : goal.invariant-loop-line
invariant-loop-line l =
    Adds l.fn.run.account.now.script.tick_us l.fn.run.names.now l.fn.moment.lane (take l.line-index l.lines) (string_bytes l.fn.out) (string_bytes l.out)
