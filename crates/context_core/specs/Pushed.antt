-- What a stack of thread-default contexts keeps.
use Rattle.std.specs.Prelude.{◌≡◌, ℕ, Some, List, map, take, slice_get}
use Rattle.std.specs.Ordering.{nat_cmp}
use Rattle.std.specs.BTreeSet.{BTreeSet, contains}
use Rattle.context_core.specs.declared.defaults.Pushed.{Pushed}
use Rattle.context_core.specs.Defaults.{Defaults, is_pushed}

-- the contexts of what was pushed
abbrev pub contexts_of : List Pushed → Defaults
contexts_of ps = map (λ (p : Pushed). p.context) ps

-- a set has the contexts that are on the stack, and each that was pushed tells whether it stood there already
pub record IsKnown (ps : List Pushed) (set : BTreeSet ℕ) : Type 0 where
  pub has : (c : ℕ) → contains nat_cmp set c ≡ is_pushed c (contexts_of ps)
  pub again : (k : ℕ) (p : Pushed) → slice_get ps k ≡ Some p → p.again ≡ is_pushed p.context (contexts_of (take k ps))
