-- What follows for a list that rises, and for a value that goes in one.
use Rattle.std.proofs.Common.{◌≡◌, ◌⊎◌, Bool, true, false, cond, List, [], ◌∷◌, ◌++◌, inl, inr, filter, refl, ap, sym, ◌∙◌}
use Rattle.std.specs.List.{AllByRecursion}
use Rattle.std.specs.Cmp.{IsStrictWeakOrder}
use Rattle.source_rows.specs.Lists.{Pairs}
use Rattle.source_rows.specs.Inserted.{inserted, Rises, NeverFalls}
use Rattle.source_rows.proofs.Lists.{all_of, all_front, all_back, all_filter, pairs_filter}

module _ {A : Type 0} (before : A → A → Bool) where
  -- where a value is put before a list's first, and where behind it
  pub put_front : (a x : A) (xs : List A) → before a x ≡ true → inserted before a (x ∷ xs) ≡ a ∷ x ∷ xs
  put_front a x xs h = ap (λ (b : Bool). cond b (a ∷ x ∷ xs) (x ∷ inserted before a xs)) h

  pub put_behind : (a x : A) (xs : List A) → before a x ≡ false → inserted before a (x ∷ xs) ≡ x ∷ inserted before a xs
  put_behind a x xs h = ap (λ (b : Bool). cond b (a ∷ x ∷ xs) (x ∷ inserted before a xs)) h

  all_inserted_by : (P : A → Type 0) (a x : A) (xs : List A) → P a → P x → AllByRecursion P xs → AllByRecursion P (inserted before a xs) → (b : Bool) → AllByRecursion P (cond b (a ∷ x ∷ xs) (x ∷ inserted before a xs))
  all_inserted_by P a x xs h k ks ih true = (h, (k, ks))
  all_inserted_by P a x xs h k ks ih false = (k, ih)

  pub all_inserted : (P : A → Type 0) (a : A) (xs : List A) → P a → AllByRecursion P xs → AllByRecursion P (inserted before a xs)
  all_inserted P a [] h ks = (h, tt)
  all_inserted P a (x ∷ xs) h ks = all_inserted_by P a x xs h ks.0 ks.1 (all_inserted P a xs h ks.1) (before a x)

  -- before all of a list it goes to the front
  pub front : (a : A) (xs : List A) → AllByRecursion (λ x. before a x ≡ true) xs → inserted before a xs ≡ a ∷ xs
  front a [] h = refl
  front a (x ∷ xs) h = put_front a x xs h.0

  -- ---- on both sides of a value

  pub rises_left : (l : List A) (k : A) (r : List A) → Rises before (l ++ k ∷ r) → Rises before l
  rises_left [] k r h = tt
  rises_left (x ∷ l) k r h = (all_front (λ y. before x y ≡ true) l (k ∷ r) h.0, rises_left l k r h.1)

  pub rises_back : (l : List A) (k : A) (r : List A) → Rises before (l ++ k ∷ r) → Rises before (k ∷ r)
  rises_back [] k r h = h
  rises_back (x ∷ l) k r h = rises_back l k r h.1

  pub rises_right : (l : List A) (k : A) (r : List A) → Rises before (l ++ k ∷ r) → Rises before r
  rises_right l k r h = (rises_back l k r h).1

  pub all_left : (l : List A) (k : A) (r : List A) → Rises before (l ++ k ∷ r) → AllByRecursion (λ x. before x k ≡ true) l
  all_left [] k r h = tt
  all_left (x ∷ l) k r h = ((all_back (λ y. before x y ≡ true) l (k ∷ r) h.0).0, all_left l k r h.1)

  pub all_right : (l : List A) (k : A) (r : List A) → Rises before (l ++ k ∷ r) → AllByRecursion (λ x. before k x ≡ true) r
  all_right l k r h = (rises_back l k r h).0

  left_by : (a k x : A) (l r : List A) → inserted before a (l ++ k ∷ r) ≡ inserted before a l ++ k ∷ r → (b : Bool)
      → cond b (a ∷ x ∷ l ++ k ∷ r) (x ∷ inserted before a (l ++ k ∷ r)) ≡ cond b (a ∷ x ∷ l) (x ∷ inserted before a l) ++ k ∷ r
  left_by a k x l r ih true = refl
  left_by a k x l r ih false = ap (λ (xs : List A). x ∷ xs) ih

  pub inserted_left : (a : A) (l : List A) (k : A) (r : List A) → before a k ≡ true → inserted before a (l ++ k ∷ r) ≡ inserted before a l ++ k ∷ r
  inserted_left a [] k r h = put_front a k r h
  inserted_left a (x ∷ l) k r h = left_by a k x l r (inserted_left a l k r h) (before a x)

  -- ---- a filter

  drop_by : (p : A → Bool) (a x : A) (xs : List A) → p a ≡ false → filter p (inserted before a xs) ≡ filter p xs → (b : Bool) → filter p (cond b (a ∷ x ∷ xs) (x ∷ inserted before a xs)) ≡ filter p (x ∷ xs)
  drop_by p a x xs h ih true = rw h refl
  drop_by p a x xs h ih false = ap (λ (ys : List A). cond (p x) (x ∷ ys) ys) ih

  pub filter_inserted_left : (p : A → Bool) (a : A) (xs : List A) → p a ≡ false → filter p (inserted before a xs) ≡ filter p xs
  filter_inserted_left p a [] h = rw h refl
  filter_inserted_left p a (x ∷ xs) h = drop_by p a x xs h (filter_inserted_left p a xs h) (before a x)

  pub rises_filter : (p : A → Bool) (xs : List A) → Rises before xs → Rises before (filter p xs)
  rises_filter p xs h = pairs_filter (λ x y. before x y ≡ true) p xs h

  -- ---- any two with one more

  pairs_inserted_by : (R : A → A → Type 0) (a x : A) (xs : List A) → AllByRecursion (R a) (x ∷ xs) → Pairs R (x ∷ xs) → AllByRecursion (R x) (inserted before a xs) → Pairs R (inserted before a xs) → (b : Bool)
      → Pairs R (cond b (a ∷ x ∷ xs) (x ∷ inserted before a xs))
  pairs_inserted_by R a x xs h k new ih true = (h, k)
  pairs_inserted_by R a x xs h k new ih false = (new, ih)

  pub pairs_inserted : (R : A → A → Type 0) → ((x y : A) → R x y → R y x) → (a : A) (xs : List A) → AllByRecursion (R a) xs → Pairs R xs → Pairs R (inserted before a xs)
  pairs_inserted R s a [] h k = (tt, tt)
  pairs_inserted R s a (x ∷ xs) h k = pairs_inserted_by R a x xs h k (all_inserted (R x) a xs (s a x h.0) k.0) (pairs_inserted R s a xs h.1 k.1) (before a x)

module _ {A : Type 0} (before : A → A → Bool) (o : IsStrictWeakOrder before) where
  pub asym : (a b : A) → before a b ≡ true → before b a ≡ false
  asym a b h = o.one_way a b h

  -- a before b, and c not before b
  before_rest_by : (a b c : A) (v : Bool) → before a b ≡ true → before c b ≡ false → before a c ≡ v → before a c ≡ true
  before_rest_by a b c true h k e = e
  before_rest_by a b c false h k e = let no = sym h ∙ o.chain a c b e k in cc

  pub before_rest : (a b c : A) → before a b ≡ true → before c b ≡ false → before a c ≡ true
  before_rest a b c h k = before_rest_by a b c (before a c) h k refl

  pub trans : (a b c : A) → before a b ≡ true → before b c ≡ true → before a c ≡ true
  trans a b c h k = before_rest a b c h (asym b c k)

  -- ---- two values in either order

  comm_by : (a b x : A) (xs : List A) → before a b ≡ true → inserted before a (inserted before b xs) ≡ inserted before b (inserted before a xs) → (u v : Bool) → before a x ≡ u → before b x ≡ v
      → inserted before a (inserted before b (x ∷ xs)) ≡ inserted before b (inserted before a (x ∷ xs))
  comm_by a b x xs h ih true true s t =
      ap (inserted before a) (put_front before b x xs t) ∙ (put_front before a b (x ∷ xs) h
      ∙ sym (ap (inserted before b) (put_front before a x xs s) ∙ (put_behind before b a (x ∷ xs) (asym a b h) ∙ ap (λ (ys : List A). a ∷ ys) (put_front before b x xs t))))
  comm_by a b x xs h ih true false s t =
      ap (inserted before a) (put_behind before b x xs t) ∙ (put_front before a x (inserted before b xs) s
      ∙ sym (ap (inserted before b) (put_front before a x xs s) ∙ (put_behind before b a (x ∷ xs) (asym a b h) ∙ ap (λ (ys : List A). a ∷ ys) (put_behind before b x xs t))))
  comm_by a b x xs h ih false true s t = let no = sym s ∙ trans a b x h t in cc
  comm_by a b x xs h ih false false s t =
      ap (inserted before a) (put_behind before b x xs t) ∙ (put_behind before a x (inserted before b xs) s ∙ (ap (λ (ys : List A). x ∷ ys) ih
      ∙ sym (ap (inserted before b) (put_behind before a x xs s) ∙ put_behind before b x (inserted before a xs) t)))

  comm_less : (a b : A) → before a b ≡ true → (xs : List A) → inserted before a (inserted before b xs) ≡ inserted before b (inserted before a xs)
  comm_less a b h [] = put_front before a b [] h ∙ sym (put_behind before b a [] (asym a b h))
  comm_less a b h (x ∷ xs) = comm_by a b x xs h (comm_less a b h xs) (before a x) (before b x) refl refl

  pub comm : (a b : A) → (before a b ≡ true) ⊎ (before b a ≡ true) → (xs : List A) → inserted before a (inserted before b xs) ≡ inserted before b (inserted before a xs)
  comm a b (inl h) xs = comm_less a b h xs
  comm a b (inr h) xs = sym (comm_less b a h xs)

  -- ---- what rises rises with one more

  -- what comes before a value comes before all that follow it
  pub all_behind : (a x : A) (xs : List A) → before a x ≡ true → AllByRecursion (λ y. before x y ≡ true) xs → AllByRecursion (λ y. before a y ≡ true) xs
  all_behind a x xs h k = all_of (λ y. before x y ≡ true) (λ y. before a y ≡ true) (λ y e. trans a x y h e) xs k

  -- as does what comes before one that none of them comes before
  pub all_after : (a x : A) (xs : List A) → before a x ≡ true → AllByRecursion (λ y. before y x ≡ false) xs → AllByRecursion (λ y. before a y ≡ true) xs
  all_after a x xs h k = all_of (λ y. before y x ≡ false) (λ y. before a y ≡ true) (λ y e. before_rest a x y h e) xs k

  behind : (a x : A) → before a x ≡ false → (before a x ≡ true) ⊎ (before x a ≡ true) → before x a ≡ true
  behind a x h (inl k) = cc
  behind a x h (inr k) = k

  rises_by : (a x : A) (xs : List A) → AllByRecursion (λ y. before x y ≡ true) xs → Rises before xs → Rises before (inserted before a xs) → (before a x ≡ true) ⊎ (before x a ≡ true) → (b : Bool) → before a x ≡ b
      → Rises before (cond b (a ∷ x ∷ xs) (x ∷ inserted before a xs))
  rises_by a x xs k s ih apart true e = ((e, all_behind a x xs e k), (k, s))
  rises_by a x xs k s ih apart false e = (all_inserted before (λ y. before x y ≡ true) a xs (behind a x e apart) k, ih)

  pub rises_inserted : (a : A) (xs : List A) → Rises before xs → AllByRecursion (λ x. (before a x ≡ true) ⊎ (before x a ≡ true)) xs → Rises before (inserted before a xs)
  rises_inserted a [] s h = (tt, tt)
  rises_inserted a (x ∷ xs) s h = rises_by a x xs s.0 s.1 (rises_inserted a xs s.1 h.1) h.0 (before a x) refl

  -- ---- what never falls does so with one more

  all_asym : (a : A) (xs : List A) → AllByRecursion (λ y. before a y ≡ true) xs → AllByRecursion (λ y. before y a ≡ false) xs
  all_asym a xs h = all_of (λ y. before a y ≡ true) (λ y. before y a ≡ false) (λ y e. asym a y e) xs h

  pub rises_never_falls : (xs : List A) → Rises before xs → NeverFalls before xs
  rises_never_falls [] s = tt
  rises_never_falls (x ∷ xs) s = (all_asym x xs s.0, rises_never_falls xs s.1)

  never_falls_by : (a x : A) (xs : List A) → AllByRecursion (λ y. before y x ≡ false) xs → NeverFalls before xs → NeverFalls before (inserted before a xs) → (b : Bool) → before a x ≡ b
      → NeverFalls before (cond b (a ∷ x ∷ xs) (x ∷ inserted before a xs))
  never_falls_by a x xs k s ih true e = ((asym a x e, all_asym a xs (all_after a x xs e k)), (k, s))
  never_falls_by a x xs k s ih false e = (all_inserted before (λ y. before y x ≡ false) a xs e k, ih)

  pub never_falls_inserted : (a : A) (xs : List A) → NeverFalls before xs → NeverFalls before (inserted before a xs)
  never_falls_inserted a [] s = (tt, tt)
  never_falls_inserted a (x ∷ xs) s = never_falls_by a x xs s.0 s.1 (never_falls_inserted a xs s.1) (before a x) refl

  -- ---- on the right of a value

  not_before_by : (a x k : A) → before x k ≡ true → before a k ≡ false → (b : Bool) → before a x ≡ b → before a x ≡ false
  not_before_by a x k h n true e = let no = sym n ∙ trans a x k e h in cc
  not_before_by a x k h n false e = e

  -- what isn't before a value is before nothing that comes before it
  pub not_before : (a x k : A) → before x k ≡ true → before a k ≡ false → before a x ≡ false
  not_before a x k h n = not_before_by a x k h n (before a x) refl

  right_by : (a k : A) (l r : List A) → AllByRecursion (λ x. before x k ≡ true) l → before a k ≡ false → inserted before a (l ++ k ∷ r) ≡ l ++ k ∷ inserted before a r
  right_by a k [] r h n = put_behind before a k r n
  right_by a k (x ∷ l) r h n = put_behind before a x (l ++ k ∷ r) (not_before a x k h.0 n) ∙ ap (λ (ys : List A). x ∷ ys) (right_by a k l r h.1 n)

  pub inserted_right : (a : A) (l : List A) (k : A) (r : List A) → Rises before (l ++ k ∷ r) → before a k ≡ false → inserted before a (l ++ k ∷ r) ≡ l ++ k ∷ inserted before a r
  inserted_right a l k r s n = right_by a k l r (all_left before l k r s) n

  -- ---- a filter that keeps the value

  keep_by : (p : A → Bool) (a x : A) (xs : List A) → p a ≡ true → AllByRecursion (λ y. before y x ≡ false) xs → filter p (inserted before a xs) ≡ inserted before a (filter p xs) → (b u : Bool) → before a x ≡ b → p x ≡ u
      → filter p (cond b (a ∷ x ∷ xs) (x ∷ inserted before a xs)) ≡ inserted before a (cond u (x ∷ filter p xs) (filter p xs))
  keep_by p a x xs h k ih true true e f = rw (h, f) (sym (put_front before a x (filter p xs) e))
  keep_by p a x xs h k ih true false e f = rw (h, f) (sym (front before a (filter p xs) (all_filter (λ y. before a y ≡ true) p xs (all_after a x xs e k))))
  keep_by p a x xs h k ih false true e f = rw f (ap (λ (ys : List A). x ∷ ys) ih ∙ sym (put_behind before a x (filter p xs) e))
  keep_by p a x xs h k ih false false e f = rw f ih

  pub filter_inserted : (p : A → Bool) (a : A) (xs : List A) → NeverFalls before xs → p a ≡ true → filter p (inserted before a xs) ≡ inserted before a (filter p xs)
  filter_inserted p a [] s h = rw h refl
  filter_inserted p a (x ∷ xs) s h = keep_by p a x xs h s.0 (filter_inserted p a xs s.1 h) (before a x) (p x) refl refl

  pub filter_inserted_kept : (p : A → Bool) (a : A) (xs : List A) → Rises before xs → p a ≡ true → filter p (inserted before a xs) ≡ inserted before a (filter p xs)
  filter_inserted_kept p a xs s h = filter_inserted p a xs (rises_never_falls xs s) h
