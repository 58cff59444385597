use Rattle.std.specs.Prelude.{nat_le}
use Rattle.std.proofs.Common.{◌∙◌, rules}
use Rattle.std.proofs.lemmas.List.Sorted.{IsPartitionPoint-from_clause, IsPartitionedBy-leb}
use Rattle.loop_script.specs.declared.level.Level.{Level}
use Rattle.loop_script.proofs.Rising.{no_tick_falls, come_is, to_come_is}
use Rattle.loop_script.proofs.level.parted.Goals as goal

pub returns-clause-come : goal.returns-clause-come
returns-clause-come c =
    let parts = IsPartitionedBy-leb (λ (l : Level). l.tick) _ c.args.tick (no_tick_falls _ c.requires) in
    let point = IsPartitionPoint-from_clause (λ (l : Level). nat_le l.tick c.args.tick) _ _ c.partition_point.ensures.partitioned parts (λ a r q k. search rules) in
    c.split_at.ensures.front ∙ come_is c.args.tick _ _ point

pub returns-clause-to_come : goal.returns-clause-to_come
returns-clause-to_come c =
    let parts = IsPartitionedBy-leb (λ (l : Level). l.tick) _ c.args.tick (no_tick_falls _ c.requires) in
    let point = IsPartitionPoint-from_clause (λ (l : Level). nat_le l.tick c.args.tick) _ _ c.partition_point.ensures.partitioned parts (λ a r q k. search rules) in
    c.split_at.ensures.back ∙ to_come_is c.args.tick _ _ point
