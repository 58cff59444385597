-- What is added behind what was added.
use Rattle.std.proofs.Common.{◌≡◌, ◌∙◌, ap, ℕ, List, ◌++◌, Result, Ok, Err, OnOk, append_assoc}

-- two parts that are added one behind the other are added together
pub pushed : {E : Type 0} (r : Result (Unit {0}) E) (old a middle b new : List ℕ) → middle ≡ old ++ a → OnOk r (new ≡ middle ++ b) → OnOk r (new ≡ old ++ (a ++ b))
pushed (Ok x) old a middle b new e h = h ∙ ap (λ m. m ++ b) e ∙ append_assoc old a b
pushed (Err x) old a middle b new e h = tt
