-- The bounds of a script that was read.
use Rattle.std.specs.Prelude.{◌≡◌, ◌<◌, ◌≤◌, true, length, sum_by}
use Rattle.loop_script.specs.declared.plan.Plan.{Plan}
use Rattle.loop_script.specs.References.{plan_refers}
use Rattle.loop_script.specs.Rules.{plan_rules}
use Rattle.loop_script.specs.Bounds.{most_lanes, most_items, most_ticks, longest_tick}

-- a plan within its bounds
pub record IsBounded (p : Plan) : Type 0 where
  pub first : 1 ≤ p.version
  pub last : p.version ≤ 2
  pub lanes : length p.lanes ≤ most_lanes
  pub contexts : sum_by (λ l. l.contexts) p.lanes ≤ most_items
  pub ticks : p.ticks ≤ most_ticks
  pub tick_us : (0 < p.tick_us) × (p.tick_us ≤ longest_tick)
  pub cancellables : p.cancellables ≤ most_items
  pub loops : length p.loops ≤ most_items

-- a plan within its bounds, whose numbers all name something of it, and which keeps the rules
pub record IsScript (p : Plan) : Type 0 where
  pub bounded : IsBounded p
  pub refers : plan_refers p ≡ true
  pub rules : plan_rules p ≡ true
