use Rattle.std.proofs.Common.{◌≡◌, ap, ◌∙◌, sym, subst, rules, Some}
use Rattle.std.specs.Prelude.{option_map}
use Rattle.lane_turn.specs.declared.nest.Shell.{Shell}
use Rattle.lane_turn.specs.Nest.{layers_of}
use Rattle.lane_turn.specs.Tally.{Counts, tally_of}
use Rattle.lane_turn.proofs.Tallies.{counts_first, less_first}
use Rattle.lane_turn.proofs.chain.Chain.end.Goals as goal

pub without-self-inside-requires : goal.without-self-inside-requires
without-self-inside-requires c =
    let ls = layers_of c.self.inside.nest in
    let l = c.deref.result.now.layer in
    let same : c.deref.result.now ≡ c.in-Some.shell.value = search rules in
    let first = ap (λ (s : Shell). Some s.layer) same ∙ (sym (ap (option_map (λ s. s.value.layer)) c.in-Some.is) ∙ c.end.ensures.ended) in
    subst (Counts l) (sym c.self.invariant) (counts_first ls l first)

pub invariant_of-self-in-Some-2 : goal.invariant_of-self-in-Some-2
invariant_of-self-in-Some-2 c =
    let ls = layers_of c.self.inside.nest in
    let l = c.deref.result.now.layer in
    let same : c.deref.result.now ≡ c.in-Some.shell.value = search rules in
    let first = ap (λ (s : Shell). Some s.layer) same ∙ (sym (ap (option_map (λ s. s.value.layer)) c.in-Some.is) ∙ c.end.ensures.ended) in
    less_first ls l _ first (c.without-self-inside.ensures ∙ c.self.invariant) ∙ ap tally_of (sym c.end.ensures.left)

pub invariant_of-self : goal.invariant_of-self
invariant_of-self c =
    let ls = layers_of c.self.inside.nest in
    let l = c.deref.result.now.layer in
    let same : c.deref.result.now ≡ c.in-Some.shell.value = search rules in
    let first = ap (λ (s : Shell). Some s.layer) same ∙ (sym (ap (option_map (λ s. s.value.layer)) c.in-Some.is) ∙ c.end.ensures.ended) in
    less_first ls l _ first (c.without-self-inside.ensures ∙ c.self.invariant) ∙ ap tally_of (sym c.end.ensures.left)
