-- What follows for a walk through seats.
use Rattle.std.proofs.Common.{◌≡◌, ℕ, ◌<◌, ◌≤◌, ◌+◌, Bool, true, false, not, cond, Option, Some, None, List, [], ◌∷◌, ◌++◌, length, filter, drop, refl, ap, sym, ◌∙◌, subst, append_assoc}
use Rattle.std.specs.List.{AllByRecursion}
use Rattle.std.specs.Ordering.{is_lt}
use Rattle.std.specs.Cmp.{IsStrictWeakOrder}
use Rattle.std.proofs.lemmas.List.Sorted.{ranks_by}
use Rattle.std.specs.Prelude.{slice_set}
use Rattle.std.specs.Borrow.{Bor}
use Rattle.std.proofs.lemmas.List.{drop-set, drop_all}
use Rattle.source_rows.specs.declared.seats.Fork.{Fork}
use Rattle.source_rows.specs.declared.seats.Seat.{Seat}
use Rattle.source_rows.specs.Inserted.{Rises}
use Rattle.source_rows.specs.Rows.{Key, key_cmp}
use Rattle.source_rows.specs.Seats.{is_ahead, is_passed}
use Rattle.source_rows.specs.Walk.{behind_key, from_fork, over, Begins, KeysRise}
use Rattle.source_rows.proofs.Lists.{all_of, all_filter}
use Rattle.source_rows.proofs.Inserted.{all_left, all_right, asym, trans}
use Rattle.source_rows.proofs.Order.{key_total}
use Rattle.source_rows.proofs.Ahead.{filter_join, key_order, passed_by}

none_behind : (xs : List Seat) → xs ≡ xs ++ []
none_behind [] = refl
none_behind (x ∷ xs) = ap (λ (ys : List Seat). x ∷ ys) (none_behind xs)

-- a whole list begins with itself
pub whole : (xs ys : List Seat) → xs ≡ ys → Begins xs ys
whole xs ys e = record { rest = []; is = e ∙ none_behind ys }

-- what begins with a part begins with what the part begins with
pub begins_by : (xs ys zs : List Seat) → Begins xs ys → Begins ys zs → Begins xs zs
begins_by xs ys zs a b = record { rest = b.rest ++ a.rest; is = a.is ∙ (ap (λ (l : List Seat). l ++ a.rest) b.is ∙ append_assoc zs b.rest a.rest) }

-- and so it does behind the same front
pub begins_after : (front xs ys : List Seat) → Begins xs ys → Begins (front ++ xs) (front ++ ys)
begins_after front xs ys b = record { rest = b.rest; is = ap (λ (l : List Seat). front ++ l) b.is ∙ sym (append_assoc front ys b.rest) }

-- a fork put in front of the others
pub put_above : (above : List (Option (Bor Fork))) (top new : ℕ) (x : Option (Bor Fork)) → new < length above → new + 1 ≡ top → Begins (from_fork x ++ over (drop top above)) (over (drop new (slice_set above new x)))
put_above above top new x h e = whole _ _ (sym (ap over (drop-set above new x h ∙ ap (λ (n : ℕ). x ∷ drop n above) e)))

-- or in the place of all of them
pub put_alone : (above : List (Option (Bor Fork))) (top new : ℕ) (x : Option (Bor Fork)) → new < length above → length above ≤ new + 1 → Begins (from_fork x ++ over (drop top above)) (over (drop new (slice_set above new x)))
put_alone above top new x h all = record {
  rest = over (drop top above);
  is = ap (λ (l : List Seat). l ++ over (drop top above)) (none_behind (from_fork x) ∙ sym (ap over (drop-set above new x h ∙ ap (λ (l : List (Option (Bor Fork))). x ∷ l) (drop_all (new + 1) above all))));
}

pub none_above : (above : List (Option (Bor Fork))) (top : ℕ) → length above ≤ top → over (drop top above) ≡ []
none_above above top h = ap over (drop_all top above h)

-- ---- the seats behind a key, where the seats stand on both sides of one

none_of : (p : Seat → Bool) (xs : List Seat) → AllByRecursion (λ u. p u ≡ false) xs → filter p xs ≡ []
none_of p [] h = refl
none_of p (x ∷ xs) h = rw h.0 (none_of p xs h.1)

all_of_them : (p : Seat → Bool) (xs : List Seat) → AllByRecursion (λ u. p u ≡ true) xs → filter p xs ≡ xs
all_of_them p [] h = refl
all_of_them p (x ∷ xs) h = rw h.0 (ap (λ (ys : List Seat). x ∷ ys) (all_of_them p xs h.1))

not_passed_by : (after : Option Key) (k u : Seat) → is_ahead k u ≡ true → is_passed after k.key ≡ false → (b : Bool) → is_passed after u.key ≡ b → not b ≡ true
not_passed_by after k u h p false e = refl
not_passed_by after k u h p true e = let no = sym p ∙ passed_by after k u h e in cc

-- a seat that is passed is so with all before it
pub behind_right : (after : Option Key) (l : List Seat) (k : Seat) (r : List Seat) → Rises is_ahead (l ++ k ∷ r) → is_passed after k.key ≡ true → behind_key after (l ++ k ∷ r) ≡ behind_key after r
behind_right after l k r s p =
    let none : behind_key after l ≡ [] = none_of (λ u. not (is_passed after u.key)) l (all_of (λ u. is_ahead u k ≡ true) (λ u. not (is_passed after u.key) ≡ false) (λ u e. ap not (passed_by after u k e p)) l (all_left is_ahead l k r s)) in
    filter_join (λ u. not (is_passed after u.key)) l (k ∷ r) ∙ (ap (λ (ys : List Seat). ys ++ behind_key after (k ∷ r)) none ∙ rw p refl)

-- and behind one that is not, none is
pub behind_left : (after : Option Key) (l : List Seat) (k : Seat) (r : List Seat) → Rises is_ahead (l ++ k ∷ r) → is_passed after k.key ≡ false → behind_key after (l ++ k ∷ r) ≡ behind_key after l ++ k ∷ r
behind_left after l k r s p =
    let each : behind_key after r ≡ r = all_of_them (λ u. not (is_passed after u.key)) r (all_of (λ u. is_ahead k u ≡ true) (λ u. not (is_passed after u.key) ≡ true) (λ u e. not_passed_by after k u e p (is_passed after u.key) refl) r (all_right is_ahead l k r s)) in
    let here : behind_key after (k ∷ r) ≡ k ∷ r = rw p (ap (λ (ys : List Seat). k ∷ ys) each) in
    filter_join (λ u. not (is_passed after u.key)) l (k ∷ r) ∙ ap (λ (ys : List Seat). behind_key after l ++ ys) here

-- ---- behind the first of what stands behind a key

abbrev Lower : Seat → Seat → Bool
Lower a b = is_lt (key_cmp a.key b.key)

lower_order : IsStrictWeakOrder Lower
lower_order = ranks_by key_total (λ (s : Seat). s.key)

not_itself_by : (x : Seat) (b : Bool) → Lower x x ≡ b → b ≡ false
not_itself_by x false e = refl
not_itself_by x true e = let no = sym e ∙ asym Lower lower_order x x e in cc

still_behind_by : (after : Option Key) (x y : Seat) → is_passed after x.key ≡ false → Lower x y ≡ true → is_passed after y.key ≡ false
still_behind_by None x y p h = p
still_behind_by (Some a) x y p h = rw (trans (λ (a b : Key). is_lt (key_cmp a b)) key_order a x.key y.key (before p) h) refl
  where
    before : not (is_lt (key_cmp a x.key)) ≡ false → is_lt (key_cmp a x.key) ≡ true
    before e = by_test (is_lt (key_cmp a x.key)) e
      where
        by_test : (b : Bool) → not b ≡ false → b ≡ true
        by_test true f = refl
        by_test false f = cc

all_behind : (after : Option Key) (x : Seat) (xs : List Seat) → is_passed after x.key ≡ false → AllByRecursion (λ y. Lower x y ≡ true) xs → behind_key after xs ≡ xs
all_behind after x xs p h =
    all_of_them (λ u. not (is_passed after u.key)) xs (all_of (λ y. Lower x y ≡ true) (λ u. not (is_passed after u.key) ≡ true) (λ u e. ap not (still_behind_by after x u p e)) xs h)

head_of : (P : Seat → Type 0) (s : Seat) (all rest : List Seat) → AllByRecursion P all → all ≡ s ∷ rest → P s
head_of P s all rest h e = (subst (AllByRecursion P) e h).0

-- what stands behind the first of them are the others
pub behind_first : (after : Option Key) (all : List Seat) (s : Seat) (rest : List Seat) → KeysRise all → behind_key after all ≡ s ∷ rest → behind_key (Some s.key) all ≡ rest
behind_first after [] s rest h e = cc
behind_first after (x ∷ xs) s rest h e = by_test (λ k. behind_first after xs s rest h.1 k) (is_passed after x.key) refl e
  where
    by_test : (behind_key after xs ≡ s ∷ rest → behind_key (Some s.key) xs ≡ rest) → (b : Bool) → is_passed after x.key ≡ b → cond (not b) (x ∷ behind_key after xs) (behind_key after xs) ≡ s ∷ rest → behind_key (Some s.key) (x ∷ xs) ≡ rest
    by_test ih true p k =
        let low : Lower x s ≡ true = head_of (λ y. Lower x y ≡ true) s (behind_key after xs) rest (all_filter (λ y. Lower x y ≡ true) (λ u. not (is_passed after u.key)) xs h.0) k in
        rw (asym Lower lower_order x s low) (ih k)
    by_test ih false p k =
        let same : x ≡ s = cc in
        let others : behind_key after xs ≡ rest = cc in
        let all : behind_key (Some x.key) xs ≡ xs = all_of_them (λ u. not (is_passed (Some x.key) u.key)) xs (all_of (λ y. Lower x y ≡ true) (λ u. not (is_passed (Some x.key) u.key) ≡ true) (λ u e. rw e refl) xs h.0) in
        subst (λ (y : Seat). behind_key (Some y.key) (x ∷ xs) ≡ rest) same
        (rw (not_itself_by x (Lower x x) refl) (all ∙ (sym (all_behind after x xs p h.0) ∙ others)))

pub nothing_behind : (xs ys : List Seat) → xs ++ ys ≡ [] → ys ≡ []
nothing_behind [] ys e = e
nothing_behind (x ∷ xs) ys e = cc

-- a step of a walk: what was left is a seat and what is left then, which begins with what is known of the rest
pub stepped : (after : Option Key) (all : List Seat) (s : Seat) (more path : List Seat) → KeysRise all → Begins (behind_key after all) (s ∷ more) → Begins more path
    → (behind_key after all ≡ s ∷ behind_key (Some s.key) all) × Begins (behind_key (Some s.key) all) path
stepped after all s more path h b p =
    let now : behind_key (Some s.key) all ≡ more ++ b.rest = behind_first after all s (more ++ b.rest) h b.is in (
      b.is ∙ ap (λ (l : List Seat). s ∷ l) (sym now),
      subst (λ (l : List Seat). Begins l path) (sym now) (record { rest = p.rest ++ b.rest; is = ap (λ (l : List Seat). l ++ b.rest) p.is ∙ append_assoc path p.rest b.rest }),
    )
