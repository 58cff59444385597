use Rattle.std.proofs.Common.{◌^◌, sym, subst, Some}
use Rattle.source_rows.specs.Rows.{counted}
use Rattle.lane_turn.specs.Sound.{IsBounded, Bounded}
use Rattle.lane_turn.specs.Lane.{with_rows}
use Rattle.lane_turn.specs.Meaning.{lane_of}
use Rattle.lane_turn.proofs.Bounds.{count_fits, bounded_at}
use Rattle.lane_turn.proofs.Edits.{unchanged}
use Rattle.lane_turn.proofs.lane.Lane.count.Goals as goal

pub dispatched-requires : goal.dispatched-requires
dispatched-requires c =
    let within : Bounded (2 ^ 62) (Some c.in-Some.context.now) = subst (Bounded (2 ^ 62)) (sym c.in-Some.ensures.context) (bounded_at (2 ^ 62) c.args.self.now.contexts.items c.args.context c.requires.contexts) in
    count_fits c.args.id _ (subst (IsBounded (2 ^ 62)) (sym c.rows_mut.ensures.rows) within.sources)

pub returns-in_default : goal.returns-in_default
returns-in_default c = unchanged (with_rows (counted c.args.id)) c.args.context (lane_of c.args.self.now) c.in_default.ensures.context
