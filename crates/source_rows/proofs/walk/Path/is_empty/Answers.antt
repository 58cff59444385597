use Rattle.std.proofs.Common.{◌≡◌, ◌≢◌, ◌∙◌, ◌<◌, ℕ, Option, Some, None, List, [], ◌∷◌, length, drop, refl, zero, suc, arith}
use Rattle.std.proofs.lemmas.Bool.Decides.{nat_tests}
use Rattle.std.specs.Prelude.{IsSome}
use Rattle.std.specs.Borrow.{Bor}
use Rattle.std.specs.List.{AllByRecursion}
use Rattle.source_rows.specs.declared.seats.Fork.{Fork}
use Rattle.source_rows.specs.Walk.{over}
use Rattle.source_rows.proofs.walk.Path.is_empty.Goals as goal

some_over : (fs : List (Option (Bor Fork))) → AllByRecursion (λ f. IsSome f) fs → over fs ≡ [] → fs ≡ []
some_over [] h e = refl
some_over (None ∷ fs) h e = cc
some_over (Some f ∷ fs) h e = cc

kept : (above : List (Option (Bor Fork))) (top : ℕ) → top < length above → drop top above ≢ []
kept [] top h e = absurd (omega arith)
kept (x ∷ above) zero h e = cc
kept (x ∷ above) (suc top) h e = kept above top (omega arith) e

pub returns-clause-no : goal.returns-clause-no
returns-clause-no c = λ low none.
    let inside : c.self.inside.top < length c.self.inside.above = grind (arith, nat_tests, low, c.self.invariant.0, c.self.invariant.1) in
    kept c.self.inside.above c.self.inside.top inside (some_over (drop c.self.inside.top c.self.inside.above) c.self.invariant.2 (c.self.view_is ∙ none))
