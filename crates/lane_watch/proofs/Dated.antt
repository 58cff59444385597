-- The ticks in which cancellables came into a view.
use Rattle.std.proofs.Common.{◌≡◌, ℕ, zero, suc, ◌+◌, ◌<◌, ◌⊎◌, inl, inr, Bool, true, false, Option, Some, None, is_some, List, [], ◌∷◌, slice_set, refl, ap, sym, arith}
use Rattle.std.specs.Prelude.{slice_get, slice_index_or, replicate}
use Rattle.std.specs.List.{AllByRecursion}
use Rattle.cancel_view.specs.Seen.{Seen}
use Rattle.task_steps.specs.Book.{sees}
use Rattle.lane_watch.specs.Tasks.{flat, came_in}
use Rattle.lane_watch.specs.Watch.{AreDated, IsBelow}

-- ---- at first
pub dated_none : (n : ℕ) → AreDated (replicate n None) (replicate n false)
dated_none zero = tt
dated_none (suc n) = (refl, dated_none n)

pub past_none : (n tick : ℕ) → AllByRecursion (IsBelow tick) (replicate n None)
past_none zero tick = tt
past_none (suc n) tick = (tt, past_none n tick)

-- ---- what is looked up
pub dated_at : (came : List (Option ℕ)) (members : List Bool) (c : ℕ) → AreDated came members → slice_index_or members c false ≡ is_some (flat (slice_get came c))
dated_at [] [] c h = refl
dated_at [] (m ∷ ms) c h = absurd h
dated_at (t ∷ ts) [] c h = absurd h
dated_at (t ∷ ts) (m ∷ ms) zero h = sym h.0
dated_at (t ∷ ts) (m ∷ ms) (suc c) h = dated_at ts ms c h.1

pub sees_dated : (came : List (Option ℕ)) (view : Seen) (cancel : Option ℕ) → AreDated came view.members → sees view cancel ≡ is_some (came_in came cancel)
sees_dated came view None h = refl
sees_dated came view (Some c) h = dated_at came view.members c h

past_at : (came : List (Option ℕ)) (tick c : ℕ) → AllByRecursion (IsBelow tick) came → IsBelow tick (flat (slice_get came c))
past_at [] tick c h = tt
past_at (t ∷ ts) tick zero h = h.0
past_at (t ∷ ts) tick (suc c) h = past_at ts tick c h.1

pub past_in : (came : List (Option ℕ)) (tick : ℕ) (cancel : Option ℕ) → AllByRecursion (IsBelow tick) came → IsBelow tick (came_in came cancel)
past_in came tick None h = tt
past_in came tick (Some c) h = past_at came tick c h

-- ---- once another came
pub dated_noted : (came : List (Option ℕ)) (members : List Bool) (c k : ℕ) → AreDated came members → AreDated (slice_set came c (Some k)) (slice_set members c true)
dated_noted [] [] c k h = tt
dated_noted [] (m ∷ ms) c k h = absurd h
dated_noted (t ∷ ts) [] c k h = absurd h
dated_noted (t ∷ ts) (m ∷ ms) zero k h = (refl, h.1)
dated_noted (t ∷ ts) (m ∷ ms) (suc c) k h = (h.0, dated_noted ts ms c k h.1)

pub past_noted : (came : List (Option ℕ)) (tick c k : ℕ) → k < tick → AllByRecursion (IsBelow tick) came → AllByRecursion (IsBelow tick) (slice_set came c (Some k))
past_noted [] tick c k lt h = tt
past_noted (t ∷ ts) tick zero k lt h = (lt, h.1)
past_noted (t ∷ ts) tick (suc c) k lt h = (h.0, past_noted ts tick c k lt h.1)

-- the next tick is later for all
pub later_all : (came : List (Option ℕ)) (tick : ℕ) → AllByRecursion (IsBelow tick) came → AllByRecursion (IsBelow (tick + 1)) came
later_all [] tick h = tt
later_all (None ∷ ts) tick h = (tt, later_all ts tick h.1)
later_all (Some k ∷ ts) tick h = (let lt = h.0 in omega arith, later_all ts tick h.1)

-- what was noted is found, and all else is as it was
noted_at : (came : List (Option ℕ)) (c d k : ℕ) → (flat (slice_get (slice_set came c (Some k)) d) ≡ flat (slice_get came d)) ⊎ ((flat (slice_get (slice_set came c (Some k)) d) ≡ Some k) × (c ≡ d))
noted_at [] c d k = inl refl
noted_at (t ∷ ts) zero zero k = inr (refl, refl)
noted_at (t ∷ ts) zero (suc d) k = inl refl
noted_at (t ∷ ts) (suc c) zero k = inl refl
noted_at (t ∷ ts) (suc c) (suc d) k = more (noted_at ts c d k)
  where
    more : (flat (slice_get (slice_set ts c (Some k)) d) ≡ flat (slice_get ts d)) ⊎ ((flat (slice_get (slice_set ts c (Some k)) d) ≡ Some k) × (c ≡ d)) → (flat (slice_get (slice_set ts c (Some k)) d) ≡ flat (slice_get ts d)) ⊎ ((flat (slice_get (slice_set ts c (Some k)) d) ≡ Some k) × (suc c ≡ suc d))
    more (inl e) = inl e
    more (inr e) = inr (e.0, ap suc e.1)

pub noted_in : (came : List (Option ℕ)) (c k : ℕ) (cancel : Option ℕ) → (came_in (slice_set came c (Some k)) cancel ≡ came_in came cancel) ⊎ ((came_in (slice_set came c (Some k)) cancel ≡ Some k) × (cancel ≡ Some c))
noted_in came c k None = inl refl
noted_in came c k (Some d) = more (noted_at came c d k)
  where
    more : (flat (slice_get (slice_set came c (Some k)) d) ≡ flat (slice_get came d)) ⊎ ((flat (slice_get (slice_set came c (Some k)) d) ≡ Some k) × (c ≡ d)) → (came_in (slice_set came c (Some k)) (Some d) ≡ came_in came (Some d)) ⊎ ((came_in (slice_set came c (Some k)) (Some d) ≡ Some k) × (Some d ≡ Some c))
    more (inl e) = inl e
    more (inr e) = inr (e.0, sym (ap (λ (n : ℕ). Some n) e.1))
