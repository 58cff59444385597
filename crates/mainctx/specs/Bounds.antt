-- The bytes of a line.
use Rattle.std.specs.Prelude.{ℕ}

-- the most that a line takes: each of its parts, twelve at most, takes at most 20
abbrev pub longest_line : ℕ
longest_line = 256
