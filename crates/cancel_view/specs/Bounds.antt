-- The number that bounds what is counted.
use Rattle.std.specs.Prelude.{ℕ, ◌^◌}

-- a number below this can be counted on
abbrev pub count_end : ℕ
count_end = 2 ^ 63
