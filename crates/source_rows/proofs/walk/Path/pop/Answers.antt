use Rattle.std.proofs.Common.{◌≡◌, [], sym, ◌∙◌, arith}
use Rattle.source_rows.proofs.Walking.{none_above}
use Rattle.source_rows.proofs.walk.Path.pop.Goals as goal

pub returns-then-self-eq-KEPT-clause-none : goal.returns-then-self-eq-KEPT-clause-none
returns-then-self-eq-KEPT-clause-none c =
    let e : c.args.self.now ≡ [] = sym c.self.view_is ∙ none_above c.self.inside.above c.self.inside.top (omega arith) in
    (e, e)
