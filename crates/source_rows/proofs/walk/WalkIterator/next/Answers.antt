use Rattle.std.proofs.Common.{◌≡◌, ◌∷◌, ◌++◌, Some, sym, ◌∙◌, rules}
use Rattle.source_rows.specs.Walk.{Begins, behind_key, after_of}
use Rattle.source_rows.proofs.Walking.{stepped}
use Rattle.source_rows.proofs.walk.WalkIterator.next.Goals as goal

step : (c : goal.After-enter)
    → (behind_key (after_of c.self.inside.after) c.self.inside.seats.now.0 ≡ c.in_ok-fork.fork.now.seat ∷ behind_key (Some c.in_ok-fork.fork.now.seat.key) c.self.inside.seats.now.0)
    × Begins (behind_key (Some c.in_ok-fork.fork.now.seat.key) c.self.inside.seats.now.0) c.enter.new.self
step c =
    stepped (after_of c.self.inside.after) c.self.inside.seats.now.0 c.in_ok-fork.fork.now.seat (c.in_ok-fork.fork.now.later.0 ++ c.next_fork.new.self) c.enter.new.self
    c.self.invariant.1 c.in_ok-fork.ensures.some c.enter.ensures

pub invariant_of-self-2 : goal.invariant_of-self-2
invariant_of-self-2 c = (c.self.invariant.0, c.self.invariant.1, (step c).1)

pub returns-clause-steps : goal.returns-clause-steps
returns-clause-steps c = sym c.self.view_is ∙ (step c).0

pub returns-clause-goes : goal.returns-clause-goes
returns-clause-goes c =
    let e = sym c.self.view_is ∙ (step c).0 in
    search rules
