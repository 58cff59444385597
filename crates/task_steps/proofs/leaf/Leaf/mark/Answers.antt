use Rattle.std.proofs.Common.{◌≡◌, ◌∙◌, ◌+◌, ◌-◌, ◌++◌, ◌∷◌, [], ℕ, List, Option, false, take, ap, arith, refl, sym}
use Rattle.task_steps.specs.declared.entry.Entry.{Entry}
use Rattle.task_steps.specs.BookInside.{held, mark_of}
use Rattle.task_steps.proofs.SideBySide.{is_next, mark_more}
use Rattle.task_steps.proofs.leaf.Leaf.mark.Goals as goal

pub loop-mark-preserved : goal.loop-mark-preserved
loop-mark-preserved c =
    let places = c.args.self.now.places.items in
    let i = c.loop-mark.mark-index in
    let next = is_next c.deref-mark-items.result.now places 0 i _ (record { wake = 0; heeds = false }) (c.deref-mark-items.ensures.value ∙ c.requires) (omega arith) c.loop-mark-test.true refl in
    let before : i ≡ i - 0 = omega arith in
    let after : i + 1 - 0 ≡ i + 1 = omega arith in
    let more : take (i + 1) places ≡ take (i - 0) places ++ next.place ∷ [] = ap (λ (k : ℕ). take k places) (sym after) ∙ next.more in
    c.join-all.ensures
    ∙ mark_more c.loop-mark.all _ (take (i - 0) places) next.place (c.loop-mark.invariant ∙ ap (λ (k : ℕ). mark_of (held (take k places))) before) next.own
    ∙ ap (λ (ps : List (Option Entry)). mark_of (held ps)) (sym more)
