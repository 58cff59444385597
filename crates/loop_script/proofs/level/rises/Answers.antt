use Rattle.std.specs.Prelude.{nat_lt}
use Rattle.std.proofs.Common.{Bool, rules}
use Rattle.std.proofs.lemmas.Fn.{always_returns_same}
use Rattle.loop_script.specs.declared.level.Level.{Level}
use Rattle.loop_script.proofs.Rising.{rises_from_neighbours}
use Rattle.loop_script.proofs.level.rises.Goals as goal

pub returns : goal.returns
returns c =
    let below : Level → Level → Bool = λ a b. nat_lt a.tick b.tick in
    rises_from_neighbours c.args.levels.now _ (c.is_sorted_by.ensures.cases below (always_returns_same _ _ _ (λ a r q k. search rules)))
