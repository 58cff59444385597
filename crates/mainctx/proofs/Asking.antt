-- What the arguments are.
use Rattle.std.proofs.Common.{get_or, ◌≡◌, ◌<◌, ◌≤◌, ◌⊎◌, inl, inr, ℕ, List, [], ◌∷◌, length, refl, arith}
use Rattle.std.specs.Prelude.{String}
use Rattle.std.specs.declared.alloc.Global.{Global}
use Rattle.mainctx.specs.Arguments.{IsWordOf}
use Rattle.tick_stepper.specs.declared.crew.Sharing.{Sharing}
use Rattle.tick_stepper.specs.declared.crew.Sharing.TheVariants.{Round, Fixed, Queue}

-- a word of a table is none
pub round_or_queue : (word : List ℕ) (sharing : Sharing) → IsWordOf word sharing → (sharing ≡ Round) ⊎ (sharing ≡ Queue)
round_or_queue word Round is = inl refl
round_or_queue word (Fixed table) is = absurd is
round_or_queue word Queue is = inr refl

-- the arguments are two
pub two_of : (args : List (String Global)) (w s : String Global) → w ≡ get_or args 0 w → s ≡ get_or args 1 s → 2 ≤ length args → length args < 3 → args ≡ w ∷ s ∷ []
two_of [] w s a b low high = absurd (omega arith)
two_of (x ∷ []) w s a b low high = absurd (omega arith)
two_of (x ∷ y ∷ []) w s a b low high = cc
two_of (x ∷ y ∷ z ∷ zs) w s a b low high = absurd (omega arith)
