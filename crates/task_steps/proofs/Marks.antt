-- What is known of entries without a look at each.
use Rattle.std.proofs.Common.{◌≡◌, ℕ, ◌||◌, Bool, true, false, Option, Some, None, List, [], ◌∷◌, ◌++◌, ◌<◌, min, arith, refl, ap, sym, ◌∙◌}
use Rattle.std.specs.List.{list_any}
use Rattle.task_steps.specs.declared.entry.Entry.{Entry}
use Rattle.task_steps.specs.Wake.{sooner}
use Rattle.task_steps.specs.BookInside.{never, due_by, wake_of_entry, wake_of_all, heeds, mark_of, joined_mark}

min-assoc : (a b c : ℕ) → min (min a b) c ≡ min a (min b c)
min-assoc a b c = omega arith

sooner-assoc : (a b c : Option ℕ) → sooner (sooner a b) c ≡ sooner a (sooner b c)
sooner-assoc None b c = refl
sooner-assoc (Some a) None c = refl
sooner-assoc (Some a) (Some b) None = refl
sooner-assoc (Some a) (Some b) (Some c) = ap (λ n. Some n) (min-assoc a b c)

pub sooner_none : (a : Option ℕ) → sooner a None ≡ a
sooner_none None = refl
sooner_none (Some a) = refl

pub wake_joined : (es fs : List Entry) → wake_of_all (es ++ fs) ≡ sooner (wake_of_all es) (wake_of_all fs)
wake_joined [] fs = refl
wake_joined (e ∷ es) fs = ap (λ w. sooner (wake_of_entry e) w) (wake_joined es fs) ∙ sym (sooner-assoc (wake_of_entry e) (wake_of_all es) (wake_of_all fs))

or-assoc : (a b c : Bool) → ((a || b) || c) ≡ (a || (b || c))
or-assoc true b c = refl
or-assoc false b c = refl

or-false : (a : Bool) → (a || false) ≡ a
or-false true = refl
or-false false = refl

pub any_joined : {X : Type 0} (p : X → Bool) (xs ys : List X) → list_any p (xs ++ ys) ≡ (list_any p xs || list_any p ys)
any_joined p [] ys = refl
any_joined p (x ∷ xs) ys = ap (λ (b : Bool). p x || b) (any_joined p xs ys) ∙ sym (or-assoc (p x) (list_any p xs) (list_any p ys))

pub any_one : {X : Type 0} (p : X → Bool) (x : X) → list_any p (x ∷ []) ≡ p x
any_one p x = or-false (p x)

pub due_joined : (a b : Option ℕ) → due_by (sooner a b) ≡ min (due_by a) (due_by b)
due_joined None None = omega arith
due_joined None (Some b) = omega arith
due_joined (Some a) None = omega arith
due_joined (Some a) (Some b) = omega arith

-- a wake that a number tells
pub due_exact : (w : Option ℕ) (m : ℕ) → m ≡ due_by w → m < never → w ≡ Some m
due_exact None m h lt = absurd (omega arith)
due_exact (Some w) m h lt = ap (λ (k : ℕ). Some k) (let same : w ≡ m = omega arith in same)

pub mark_joined : (es fs : List Entry) → mark_of (es ++ fs) ≡ joined_mark (mark_of es) (mark_of fs)
mark_joined es fs = let w = ap due_by (wake_joined es fs) ∙ due_joined (wake_of_all es) (wake_of_all fs) in let h = any_joined heeds es fs in λ i. record { wake = w i; heeds = h i }

pub mark_one : (e : Entry) → mark_of (e ∷ []) ≡ record { wake = due_by (wake_of_entry e); heeds = heeds e }
mark_one e = let w = ap due_by (sooner_none (wake_of_entry e)) in let h = any_one heeds e in λ i. record { wake = w i; heeds = h i }
