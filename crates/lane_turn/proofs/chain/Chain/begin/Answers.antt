use Rattle.std.proofs.Common.{◌≡◌, ap, ◌∙◌, sym, subst, ◌∷◌, ◌++◌, List}
use Rattle.lane_turn.specs.declared.layer.Layer.{Layer}
use Rattle.lane_turn.specs.Nest.{layers_of}
use Rattle.lane_turn.specs.Tally.{IsSmall, more, tally_of}
use Rattle.lane_turn.proofs.Tallies.{small_of, more_of}
use Rattle.lane_turn.proofs.chain.Chain.begin.Goals as goal

pub with-requires : goal.with-requires
with-requires c = subst IsSmall (sym c.self.invariant) (small_of (layers_of c.self.inside.nest))

pub invariant_of-self : goal.invariant_of-self
invariant_of-self c =
    let l = c.args.layer in
    let ls = layers_of c.self.inside.nest in
    let now = layers_of c.self-2.inside.nest in
    let shell = c.in_ok-begun.ensures.shell in
    let same : now ≡ ls = c.self-2.view_is ∙ (c.in_ok-begun.ensures.same ∙ sym c.self.view_is) in
    let put : layers_of c.put.new.self ≡ l ∷ ls = c.put.ensures ∙ (ap (λ (xs : List Layer). xs ++ c.in_ok-begun.begun.value.layer ∷ now) shell.1 ∙ (ap (λ (x : Layer). x ∷ now) shell.0 ∙ ap (λ (xs : List Layer). l ∷ xs) same)) in
    c.in_ok-tally.ensures ∙ (ap (more l) c.self.invariant ∙ (more_of l ls ∙ ap tally_of (sym put)))
