-- For tests: how a book and a view go on together.
use Rattle.std.proofs.Common.{◌≡◌, ℕ, zero, suc, ◌+◌, Bool, true, false, Option, Some, None, List, [], ◌∷◌, ◌++◌, length, cond, slice_index_or, slice_set, arith, refl, ap, ◌∙◌}
use Rattle.std.proofs.Math.ListN.{length-set}
use Rattle.cancel_view.specs.Seen.{Seen, has, cancelled}
use Rattle.loop_script.specs.declared.task.TaskSpec.{TaskSpec}
use Rattle.task_steps.specs.Task.{Task}
use Rattle.task_steps.specs.Run.{IsAfter, StaysSet}
use Rattle.task_steps.specs.Wake.{sooner}
use Rattle.task_steps.specs.Book.{Book, started, with_task, sees, IsIn, HasGrown}
use Rattle.test_data.specs.Going.{GoesOn, IsKnown}

grown-more : (view : Seen) (ts : List Task) (t : Task) → HasGrown view ts → IsIn view t.cancel → t.cancelled ≡ None → HasGrown view (ts ++ t ∷ [])
grown-more view [] t h i n = (i, rw n tt, tt)
grown-more view (x ∷ xs) t h i n = (h.0, h.1, grown-more view xs t h.2 i n)

after-start : (tick : ℕ) (wake : Option ℕ) → IsAfter tick wake → IsAfter tick (sooner wake (Some (tick + 1)))
after-start tick None h = omega arith
after-start tick (Some wake) h = omega arith

known-in : (view : Seen) (n : ℕ) (cancel : Option ℕ) → IsKnown n cancel → length view.members ≡ n → IsIn view cancel
known-in view n None k h = tt
known-in view n (Some c) k h = omega (arith, h)

pub going_started : (b : Book) (v : Seen) (n s t ctx : ℕ) (spec : TaskSpec) → GoesOn b v n s t → IsKnown n spec.cancel → GoesOn (with_task spec ctx t b) v n (s + 1) t
going_started b v n s t ctx spec g i = record {
  count = ap (λ m. m + 1) g.count;
  members = g.members;
  last = refl;
  wake = after-start t b.wake g.wake;
  grown = grown-more v b.tasks (started b.tick_us b.next spec ctx t) g.grown (known-in v n spec.cancel i g.members) refl;
}

-- ---- a cancellation takes nothing from the view
set-keeps : (xs : List Bool) (c k : ℕ) → slice_index_or xs k false ≡ true → slice_index_or (slice_set xs c true) k false ≡ true
set-keeps [] c k h = absurd (cc)
set-keeps (x ∷ xs) zero zero h = refl
set-keeps (x ∷ xs) zero (suc k) h = h
set-keeps (x ∷ xs) (suc c) zero h = h
set-keeps (x ∷ xs) (suc c) (suc k) h = set-keeps xs c k h

sees-more : (c : ℕ) (v : Seen) (cancel : Option ℕ) → sees v cancel ≡ true → sees (cancelled c v) cancel ≡ true
sees-more c v None h = h
sees-more c v (Some k) h = elim (has c v) as (λ b. slice_index_or (cond b v (record v { members = slice_set v.members c true })).members k false ≡ true) [ true ↦ h | false ↦ set-keeps v.members c k h ]

stays-more : (c : ℕ) (v : Seen) (cancel was : Option ℕ) → StaysSet was (sees v cancel) → StaysSet was (sees (cancelled c v) cancel)
stays-more c v cancel None h = tt
stays-more c v cancel (Some from) h = sees-more c v cancel h

same-length : (c : ℕ) (v : Seen) → length (cancelled c v).members ≡ length v.members
same-length c v = elim (has c v) as (λ b. length (cond b v (record v { members = slice_set v.members c true })).members ≡ length v.members) [ true ↦ refl | false ↦ length-set v.members c true ]

in-more : (c : ℕ) (v : Seen) (cancel : Option ℕ) → IsIn v cancel → IsIn (cancelled c v) cancel
in-more c v None h = tt
in-more c v (Some k) h = omega (arith, same-length c v)

grown-on : (c : ℕ) (v : Seen) (ts : List Task) → HasGrown v ts → HasGrown (cancelled c v) ts
grown-on c v [] h = tt
grown-on c v (t ∷ ts) h = (in-more c v t.cancel h.0, stays-more c v t.cancel t.cancelled h.1, grown-on c v ts h.2)

pub going_cancelled : (b : Book) (v : Seen) (c n s t : ℕ) → GoesOn b v n s t → GoesOn b (cancelled c v) n s t
going_cancelled b v c n s t g = record {
  count = g.count;
  members = same-length c v ∙ g.members;
  last = g.last;
  wake = g.wake;
  grown = grown-on c v b.tasks g.grown;
}
