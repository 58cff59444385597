use Rattle.std.proofs.Common.{rules, ◌≡◌, true, not, [], ◌∷◌, ◌++◌, subst, sym}
use Rattle.std.specs.Ordering.{nat_cmp}
use Rattle.std.specs.BTreeSet.{contains, Updates}
use Rattle.context_core.specs.declared.defaults.Pushed.{Pushed}
use Rattle.context_core.specs.Pushed.{IsKnown}
use Rattle.context_core.proofs.Pushing.{known_pushed}
use Rattle.context_core.proofs.defaults.DefaultStack.push.Goals as goal

pub invariant_of-self-else-is_err : goal.invariant_of-self-else-is_err
invariant_of-self-else-is_err c =
    let q : Pushed = record { context = c.args.context; again = not c.in-Ok.is_new } in
    let pushed : c.push.new.self.items ≡ c.self.inside.pushed.items ++ q ∷ [] = search rules in
    let again : q.again ≡ contains nat_cmp c.self.inside.contexts c.args.context = search rules in
    let updates : Updates nat_cmp c.self.inside.contexts c.insert.new.self c.args.context true = search rules in
    subst (λ l. IsKnown l c.insert.new.self) (sym pushed) (known_pushed c.self.inside.pushed.items q c.self.inside.contexts c.insert.new.self c.self.invariant again updates)
