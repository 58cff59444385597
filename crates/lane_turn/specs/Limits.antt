-- The limits of a turn, and the bounds of what is counted.
use Rattle.std.specs.Prelude.{ℕ, ◌^◌}

-- the most actions and dispatches of a turn
abbrev pub most_steps : ℕ
most_steps = 10000

-- the most calls in progress but that of the start list
abbrev pub most_calls : ℕ
most_calls = 32

-- the slots of a lane
abbrev pub slot_count : ℕ
slot_count = 256

-- no counter of a lane passes this within a turn that begins with all of them below half of it
abbrev pub most_count : ℕ
most_count = 2 ^ 62

-- half of it
abbrev pub half_count : ℕ
half_count = 2 ^ 61

-- by how much a turn may raise a counter: by two at each step, and by one where it iterates by itself
abbrev pub turn_growth : ℕ
turn_growth = 20001

-- the most letters of a delivery
abbrev pub most_letters : ℕ
most_letters = 2 ^ 60
