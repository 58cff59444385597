-- The numbers that bound a script and its run.
use Rattle.std.specs.Prelude.{ℕ, ◌^◌}

-- the most lanes
abbrev pub most_lanes : ℕ
most_lanes = 64

-- the most contexts of all lanes together, cancellables, descriptors, loops, and actions of a list
abbrev pub most_items : ℕ
most_items = 256

-- the most procedures
abbrev pub most_procs : ℕ
most_procs = 1024

-- the most ticks, and changes of a descriptor
abbrev pub most_ticks : ℕ
most_ticks = 4096

-- the longest tick, in microseconds, as the next two are
abbrev pub longest_tick : ℕ
longest_tick = 1000000000

-- the longest time that a script can name
abbrev pub longest_time : ℕ
longest_time = 1000000000000000

-- no time of a run is later
abbrev pub latest : ℕ
latest = 2 ^ 62

-- a tick below this can be counted on
abbrev pub tick_end : ℕ
tick_end = 2 ^ 31

-- a number below this can be counted on
abbrev pub count_end : ℕ
count_end = 2 ^ 63

-- no end of a task is foreseen that is later
abbrev pub farthest : ℕ
farthest = 2 ^ 120
