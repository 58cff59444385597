use Rattle.std.proofs.Common.{rules, ◌≡◌, ◌==◌, ◌-◌, true, false, cond, Some, [], ◌∷◌, ◌++◌, length, take, slice_get, option_map, subst, sym, ap, ◌∙◌}
use Rattle.std.specs.Ordering.{nat_cmp}
use Rattle.std.specs.Vec.{vec_len}
use Rattle.std.specs.BTreeSet.{Updates}
use Rattle.context_core.specs.declared.defaults.Pushed.{Pushed}
use Rattle.context_core.specs.Defaults.{names, is_on_top, popped}
use Rattle.context_core.specs.Pushed.{contexts_of, IsKnown}
use Rattle.context_core.proofs.Pushing.{known_popped, known_again, popped_last, front_popped, top_of_all}
use Rattle.context_core.proofs.defaults.DefaultStack.pop.Goals as goal

pub invariant_of-self : goal.invariant_of-self
invariant_of-self c =
    let ps = c.self.inside.pushed.items in
    let last : slice_get ps (length ps - 1) ≡ Some c.in-Some.top = search rules in
    let size : vec_len c.self.inside.pushed ≡ length ps = search rules in
    let rest : c.pop.new.self.items ≡ take (length ps - 1) ps = c.pop.ensures.rest ∙ ap (λ n. take (n - 1) ps) size in
    let split : ps ≡ c.pop.new.self.items ++ c.in-Some.top ∷ [] = popped_last ps c.pop.new.self.items c.pop.result c.in-Some.top c.pop.ensures.items rest last in
    let first : c.in-Some.top.again ≡ false = search rules in
    let updates : Updates nat_cmp c.self.inside.contexts c.remove.new.self c.in-Some.top.context false = search rules in
    known_popped c.pop.new.self.items c.in-Some.top c.self.inside.contexts c.remove.new.self (subst (λ l. IsKnown l c.self.inside.contexts) split c.self.invariant) first updates

pub invariant_of-self-else-not-top : goal.invariant_of-self-else-not-top
invariant_of-self-else-not-top c =
    let ps = c.self.inside.pushed.items in
    let last : slice_get ps (length ps - 1) ≡ Some c.in-Some.top = search rules in
    let size : vec_len c.self.inside.pushed ≡ length ps = search rules in
    let rest : c.pop.new.self.items ≡ take (length ps - 1) ps = c.pop.ensures.rest ∙ ap (λ n. take (n - 1) ps) size in
    let split : ps ≡ c.pop.new.self.items ++ c.in-Some.top ∷ [] = popped_last ps c.pop.new.self.items c.pop.result c.in-Some.top c.pop.ensures.items rest last in
    let more : c.in-Some.top.again ≡ true = search rules in
    known_again c.pop.new.self.items c.in-Some.top c.self.inside.contexts (subst (λ l. IsKnown l c.self.inside.contexts) split c.self.invariant) more

pub returns-then-not-top-clause-answer : goal.returns-then-not-top-clause-answer
returns-then-not-top-clause-answer c =
    let ps = c.self.inside.pushed.items in
    let last : slice_get ps (length ps - 1) ≡ Some c.in-Some.top = search rules in
    let same : (c.in-Some.top.context == c.args.context) ≡ true = search rules in
    sym (ap (is_on_top c.args.context) (sym c.self.view_is) ∙ (ap (names c.args.context) (top_of_all ps ∙ ap (option_map (λ (p : Pushed). p.context)) last) ∙ same))

pub returns-then-not-top-clause-popped : goal.returns-then-not-top-clause-popped
returns-then-not-top-clause-popped c =
    let ps = c.self.inside.pushed.items in
    let last : slice_get ps (length ps - 1) ≡ Some c.in-Some.top = search rules in
    let same : (c.in-Some.top.context == c.args.context) ≡ true = search rules in
    let size : vec_len c.self.inside.pushed ≡ length ps = search rules in
    let rest : c.pop.new.self.items ≡ take (length ps - 1) ps = c.pop.ensures.rest ∙ ap (λ n. take (n - 1) ps) size in
    let split : ps ≡ c.pop.new.self.items ++ c.in-Some.top ∷ [] = popped_last ps c.pop.new.self.items c.pop.result c.in-Some.top c.pop.ensures.items rest last in
    front_popped c.args.context c.pop.new.self.items c.in-Some.top same ∙ ap (popped c.args.context) (sym (sym c.self.view_is ∙ ap contexts_of split))

pub returns-else-not-top-clause-answer : goal.returns-else-not-top-clause-answer
returns-else-not-top-clause-answer c =
    let ps = c.self.inside.pushed.items in
    let last : slice_get ps (length ps - 1) ≡ Some c.in-Some.top = search rules in
    let same : (c.in-Some.top.context == c.args.context) ≡ true = search rules in
    sym (ap (is_on_top c.args.context) (sym c.self.view_is) ∙ (ap (names c.args.context) (top_of_all ps ∙ ap (option_map (λ (p : Pushed). p.context)) last) ∙ same))

pub returns-else-not-top-clause-popped : goal.returns-else-not-top-clause-popped
returns-else-not-top-clause-popped c =
    let ps = c.self.inside.pushed.items in
    let last : slice_get ps (length ps - 1) ≡ Some c.in-Some.top = search rules in
    let same : (c.in-Some.top.context == c.args.context) ≡ true = search rules in
    let size : vec_len c.self.inside.pushed ≡ length ps = search rules in
    let rest : c.pop.new.self.items ≡ take (length ps - 1) ps = c.pop.ensures.rest ∙ ap (λ n. take (n - 1) ps) size in
    let split : ps ≡ c.pop.new.self.items ++ c.in-Some.top ∷ [] = popped_last ps c.pop.new.self.items c.pop.result c.in-Some.top c.pop.ensures.items rest last in
    front_popped c.args.context c.pop.new.self.items c.in-Some.top same ∙ ap (popped c.args.context) (sym (sym c.self.view_is ∙ ap contexts_of split))

pub returns-in_default-clause-answer : goal.returns-in_default-clause-answer
returns-in_default-clause-answer c =
    let ps = c.self.inside.pushed.items in
    let last : slice_get ps (length ps - 1) ≡ c.copied.result = search rules in
    let other : names c.args.context (option_map (λ (p : Pushed). p.context) c.copied.result) ≡ false = search rules in
    sym (ap (is_on_top c.args.context) (sym c.self.view_is) ∙ (ap (names c.args.context) (top_of_all ps ∙ ap (option_map (λ (p : Pushed). p.context)) last) ∙ other))

pub returns-in_default-clause-popped : goal.returns-in_default-clause-popped
returns-in_default-clause-popped c =
    let ps = c.self.inside.pushed.items in
    let last : slice_get ps (length ps - 1) ≡ c.copied.result = search rules in
    let other : names c.args.context (option_map (λ (p : Pushed). p.context) c.copied.result) ≡ false = search rules in
    let below : is_on_top c.args.context c.args.self.now ≡ false =
    ap (is_on_top c.args.context) (sym c.self.view_is) ∙ (ap (names c.args.context) (top_of_all ps ∙ ap (option_map (λ (p : Pushed). p.context)) last) ∙ other) in
    sym (ap (λ b. cond b (take (length c.args.self.now - 1) c.args.self.now) c.args.self.now) below)
