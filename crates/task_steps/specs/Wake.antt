-- When a wait of a tree that goes on ends, and the sooner of two ticks.
use Rattle.std.specs.Prelude.{◌+◌, Option, None, Some, min, nat_le, if◌then◌else◌}
use Rattle.loop_script.specs.Units.{Tick, Microseconds}
use Rattle.loop_script.specs.Tree.{Tree, value, fail, sleep, check, seq, both, first, within}
use Rattle.loop_script.specs.End.{End, end_of, ticks_of}

-- the lesser of two ticks, where there are such
abbrev pub sooner : Option Tick → Option Tick → Option Tick
sooner None b = b
sooner (Some a) None = Some a
sooner (Some a) (Some b) = Some (min a b)

-- of two parts the lesser wait, of those alone that have not ended by a tick
abbrev pub lesser_wait : Tick → End → End → Tick → Tick → Tick
lesser_wait tick a b v w = if nat_le a.tick tick then w else if nat_le b.tick tick then v else min v w

-- The least tick at which a sleep or limit in progress ends, of a tree that is begun in the tick f and has not ended by a tick. What
-- takes no time has ended by then, and is not asked.
abbrev pub wait_of : Microseconds → Tree → Tick → Option Tick → Tick → Tick
wait_of tick_us (value v) f c tick = f
wait_of tick_us fail f c tick = f
wait_of tick_us (sleep us) f c tick = f + ticks_of tick_us us
wait_of tick_us check f c tick = f
wait_of tick_us (seq a b) f c tick = if nat_le (end_of tick_us a f c).tick tick then wait_of tick_us b (end_of tick_us a f c).tick c tick else wait_of tick_us a f c tick
wait_of tick_us (both a b) f c tick = lesser_wait tick (end_of tick_us a f c) (end_of tick_us b f c) (wait_of tick_us a f c tick) (wait_of tick_us b f c tick)
wait_of tick_us (first a b) f c tick = min (wait_of tick_us a f c tick) (wait_of tick_us b f c tick)
wait_of tick_us (within us a) f c tick = min (f + ticks_of tick_us us) (wait_of tick_us a f c tick)
