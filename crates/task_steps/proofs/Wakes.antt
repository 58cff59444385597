-- Wakes that are later than a tick, and the lesser of two.
use Rattle.std.proofs.Common.{ℕ, Option, Some, None, arith}
use Rattle.task_steps.specs.Wake.{sooner}
use Rattle.task_steps.specs.Run.{IsUpTo, IsAfter, IsLater}

pub after_both : (tick : ℕ) (a b : Option ℕ) → IsAfter tick a → IsAfter tick b → IsAfter tick (sooner a b)
after_both tick None b h k = k
after_both tick (Some a) None h k = h
after_both tick (Some a) (Some b) h k = omega arith

pub after_wake : (tick : ℕ) (wake : Option ℕ) → IsLater tick wake → IsAfter tick wake
after_wake tick None h = absurd h
after_wake tick (Some wake) h = h

pub up-a : (tick : ℕ) (a b : Option ℕ) → IsUpTo tick (sooner a b) → IsUpTo tick a
up-a tick None b h = tt
up-a tick (Some a) None h = h
up-a tick (Some a) (Some b) h = omega arith

pub up-b : (tick : ℕ) (a b : Option ℕ) → IsUpTo tick (sooner a b) → IsUpTo tick b
up-b tick None b h = h
up-b tick (Some a) None h = tt
up-b tick (Some a) (Some b) h = omega arith
