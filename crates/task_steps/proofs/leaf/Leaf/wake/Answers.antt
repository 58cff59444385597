use Rattle.std.proofs.Common.{◌≡◌, ◌∙◌, ◌+◌, ◌∷◌, ◌++◌, ◌<◌, [], Option, Some, None, List, get_or, length, take, ap, subst, sym}
use Rattle.std.proofs.lemmas.List.{take_more}
use Rattle.task_steps.specs.declared.entry.Entry.{Entry}
use Rattle.task_steps.specs.BookInside.{held, wake_of_all}
use Rattle.task_steps.proofs.SideBySide.{none_more, wake_more}
use Rattle.task_steps.proofs.leaf.Leaf.wake.Goals as goal
use Rattle.task_steps.proofs.leaf.Leaf.wake.Goals.{in-Some, in_default}

pub loop-place-preserved : goal.loop-place-preserved
loop-place-preserved c =
    let places = c.args.self.now.places.items in
    let i = c.loop-place.place-index in
    let p : Option Entry = c.place-item.result in
    let lt : i < length places = subst (λ (xs : List (Option Entry)). i < length xs) c.deref-place-items.ensures.value c.loop-place-test.true in
    let more : take (i + 1) places ≡ take i places ++ p ∷ [] = take_more places i p lt ∙ ap (λ (x : Option Entry). take i places ++ x ∷ []) (ap (λ (xs : List (Option Entry)). get_or xs i p) (sym c.deref-place-items.ensures.value) ∙ sym c.place-item.is) in
    elim c.match-place.branch [
      | in-Some w ↦
          let known : c.loop-place.wake ≡ wake_of_all (held (take i places)) = c.loop-place.invariant in
          let here : take (i + 1) places ≡ take i places ++ Some w.in-Some.entry ∷ [] = more ∙ ap (λ (x : Option Entry). take i places ++ x ∷ []) w.in-Some.is in
          w.wake-is ∙ w.sooner_wake-wake.ensures ∙ wake_more c.loop-place.wake w.wake.result (take i places) w.in-Some.entry known w.wake.ensures ∙ ap (λ (ps : List (Option Entry)). wake_of_all (held ps)) (sym here)
      | in_default w ↦
          let here : take (i + 1) places ≡ take i places ++ None ∷ [] = more ∙ ap (λ (x : Option Entry). take i places ++ x ∷ []) w.in_default.is in
          w.wake-is ∙ c.loop-place.invariant ∙ ap wake_of_all (sym (ap held here ∙ none_more (take i places)))
    ]
