-- The contexts of a lane: their sources, and what a call's end does to one.
use Rattle.std.specs.Prelude.{ℕ, ◌+◌, ◌*◌, ◌==◌, ℤ, pos, Option, Some, None, List, [], map, if◌then◌else◌}
use Rattle.loop_script.specs.declared.plan.Plan.{Plan}
use Rattle.loop_script.specs.declared.source.Kind.{Kind}
use Rattle.loop_script.specs.declared.source.Kind.TheVariants.{Idle, Timeout, ReadyTime, Fd, Cancel}
use Rattle.loop_script.specs.Parts.{time_of, level_of}
use Rattle.source_rows.specs.declared.row.Row.{Row}
use Rattle.source_rows.specs.Rows.{in_order, RowSet, no_rows, row_of, ready_set}
use Rattle.context_core.specs.declared.context.Context.{Context}
use Rattle.cancel_view.specs.Seen.{Seen}
use Rattle.context_core.specs.Ready.{Own, in_view, own_ready, selected}
use Rattle.context_core.specs.declared.standing.Standing.{Standing}
use Rattle.context_core.specs.Standing.{standing}
use Rattle.loop_script.specs.Units.{Tick, Microseconds, SourceId}

-- at how many levels the sources of a script stand at most: in version 1 a child has no children
abbrev pub tree_levels : Plan → ℕ
tree_levels script = if script.version == 1 then 2 else 4

-- a context with no source, which nothing has acquired
abbrev pub no_sources : Plan → Context
no_sources script = record { rows = no_rows (tree_levels script); acquires = 0 }

-- so many milliseconds after a time in microseconds
abbrev pub due_after : ℕ → Microseconds → ℤ
due_after ms now = pos (now + ms * 1000)

-- a source that stays after a call: a timeout begins anew, and lost time is not caught up
abbrev pub restarted_kind : Microseconds → SourceId → Kind → RowSet → RowSet
restarted_kind now id Idle s = s
restarted_kind now id (Timeout ms) s = ready_set id (due_after ms now) s
restarted_kind now id (ReadyTime us) s = s
restarted_kind now id (Fd fd bits) s = s
restarted_kind now id (Cancel c) s = s

-- the same of a row, where there is one
abbrev pub restarted_row : Microseconds → SourceId → Option Row → RowSet → RowSet
restarted_row now id None s = s
restarted_row now id (Some r) s = restarted_kind now id r.kind s

-- the same of the row of an id
abbrev pub restarted : Microseconds → SourceId → RowSet → RowSet
restarted now id s = restarted_row now id (row_of id s.rows) s

-- what makes a source ready by itself at a tick, with what the lane has seen cancelled
abbrev pub own_ready_at : Plan → Tick → Seen → Own
own_ready_at script tick view = own_ready (λ fd. level_of script fd tick) (in_view view) (time_of script tick)

-- the ids that an iteration of a context would dispatch, with the ids that calls in progress block: none of another
-- lane's context
abbrev pub chosen_in : Plan → Tick → Seen → List SourceId → Option Context → List SourceId
chosen_in script tick view busy None = []
chosen_in script tick view busy (Some context) = selected (own_ready_at script tick view) busy context.rows.rows

-- what an iteration of a context begun now would do with each of its sources, in the order of dispatch; none of another lane's
abbrev pub standings_in : Plan → Tick → Seen → List SourceId → Option Context → List Standing
standings_in script tick view busy None = []
standings_in script tick view busy (Some context) =
    map (standing (λ fd. level_of script fd tick) (in_view view) (time_of script tick) busy context.rows.rows) (in_order context.rows.rows)
