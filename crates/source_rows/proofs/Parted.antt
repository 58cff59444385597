-- The seats between two keys, where the seats stand on both sides of one.
use Rattle.std.proofs.Common.{◌≡◌, ◌⊎◌, ℕ, Bool, true, false, not, ◌&&◌, List, [], ◌∷◌, ◌++◌, inl, inr, map, filter, refl, ap, sym, ◌∙◌, append_assoc}
use Rattle.std.specs.List.{AllByRecursion}
use Rattle.std.specs.declared.cmp.Ordering.TheVariants.{Less, Equal}
use Rattle.std.specs.Ordering.{is_lt}
use Rattle.source_rows.specs.declared.seats.Seat.{Seat}
use Rattle.source_rows.specs.Band.{is_between}
use Rattle.source_rows.specs.Inserted.{Rises}
use Rattle.source_rows.specs.Rows.{Key, key_cmp}
use Rattle.source_rows.specs.Seats.{is_ahead}
use Rattle.source_rows.proofs.Lists.{all_of}
use Rattle.source_rows.proofs.Inserted.{all_left, all_right, trans}
use Rattle.source_rows.proofs.Ahead.{filter_join, key_by, key_order, same_key}

-- a seat that is ahead of one before a key is before it
before_key : (first : Key) (u k : Seat) → is_ahead u k ≡ true → is_lt (key_cmp k.key first) ≡ true → is_lt (key_cmp u.key first) ≡ true
before_key first u k h p = by (key_by (key_cmp u.key k.key) _ h)
  where
    by : (key_cmp u.key k.key ≡ Less) ⊎ (key_cmp u.key k.key ≡ Equal) → is_lt (key_cmp u.key first) ≡ true
    by (inl e) = trans (λ (a b : Key). is_lt (key_cmp a b)) key_order u.key k.key first (ap is_lt e) p
    by (inr e) = ap (λ (y : Key). is_lt (key_cmp y first)) (same_key u.key k.key e) ∙ p

behind_key : (last : Key) (k u : Seat) → is_ahead k u ≡ true → is_lt (key_cmp last k.key) ≡ true → is_lt (key_cmp last u.key) ≡ true
behind_key last k u h p = by (key_by (key_cmp k.key u.key) _ h)
  where
    by : (key_cmp k.key u.key ≡ Less) ⊎ (key_cmp k.key u.key ≡ Equal) → is_lt (key_cmp last u.key) ≡ true
    by (inl e) = trans (λ (a b : Key). is_lt (key_cmp a b)) key_order last k.key u.key p (ap is_lt e)
    by (inr e) = ap (λ (y : Key). is_lt (key_cmp last y)) (sym (same_key k.key u.key e)) ∙ p

and_false : (a b : Bool) → b ≡ true → (not a && not b) ≡ false
and_false true b e = refl
and_false false b e = ap not e

none_of : (p : Seat → Bool) (xs : List Seat) → AllByRecursion (λ u. p u ≡ false) xs → filter p xs ≡ []
none_of p [] h = refl
none_of p (x ∷ xs) h = rw h.0 (none_of p xs h.1)

pub between_later : (first last : Key) (l : List Seat) (k : Seat) (r : List Seat) → Rises is_ahead (l ++ k ∷ r) → is_lt (key_cmp k.key first) ≡ true → filter (is_between first last) (l ++ k ∷ r) ≡ filter (is_between first last) r
between_later first last l k r s p =
    let none : filter (is_between first last) l ≡ [] = none_of (is_between first last) l (all_of (λ u. is_ahead u k ≡ true) (λ u. is_between first last u ≡ false) (λ u e. rw (before_key first u k e p) refl) l (all_left is_ahead l k r s)) in
    filter_join (is_between first last) l (k ∷ r) ∙ (ap (λ (ys : List Seat). ys ++ filter (is_between first last) (k ∷ r)) none ∙ rw p refl)

pub append_nil : (xs : List Seat) → xs ++ [] ≡ xs
append_nil [] = refl
append_nil (x ∷ xs) = ap (λ (ys : List Seat). x ∷ ys) (append_nil xs)

pub between_sooner : (first last : Key) (l : List Seat) (k : Seat) (r : List Seat) → Rises is_ahead (l ++ k ∷ r) → is_lt (key_cmp last k.key) ≡ true → filter (is_between first last) (l ++ k ∷ r) ≡ filter (is_between first last) l
between_sooner first last l k r s p =
    let none : filter (is_between first last) (k ∷ r) ≡ [] = none_of (is_between first last) (k ∷ r) (
      and_false (is_lt (key_cmp k.key first)) (is_lt (key_cmp last k.key)) p,
      all_of (λ u. is_ahead k u ≡ true) (λ u. is_between first last u ≡ false) (λ u e. and_false (is_lt (key_cmp u.key first)) (is_lt (key_cmp last u.key)) (behind_key last k u e p)) r (all_right is_ahead l k r s),
    ) in
    filter_join (is_between first last) l (k ∷ r) ∙ (ap (λ (ys : List Seat). filter (is_between first last) l ++ ys) none ∙ append_nil (filter (is_between first last) l))

pub between_here : (first last : Key) (l : List Seat) (k : Seat) (r : List Seat) → is_lt (key_cmp k.key first) ≡ false → is_lt (key_cmp last k.key) ≡ false → filter (is_between first last) (l ++ k ∷ r) ≡ filter (is_between first last) l ++ k ∷ filter (is_between first last) r
between_here first last l k r p q = filter_join (is_between first last) l (k ∷ r) ∙ ap (λ (ys : List Seat). filter (is_between first last) l ++ ys) (rw (p, q) refl)

map_join : (l r : List Seat) → map (λ (s : Seat). s.id) (l ++ r) ≡ map (λ (s : Seat). s.id) l ++ map (λ (s : Seat). s.id) r
map_join [] r = refl
map_join (x ∷ l) r = ap (λ (xs : List ℕ). x.id ∷ xs) (map_join l r)

-- the ids of both sides, added one after the other
pub added_up : (ids one two all : List ℕ) (l : List Seat) (k : Seat) (r : List Seat) → one ≡ ids ++ map (λ (s : Seat). s.id) l → two ≡ one ++ k.id ∷ [] → all ≡ two ++ map (λ (s : Seat). s.id) r → all ≡ ids ++ map (λ (s : Seat). s.id) (l ++ k ∷ r)
added_up ids one two all l k r a b c =
    c ∙ (ap (λ (xs : List ℕ). xs ++ map (λ (s : Seat). s.id) r) (b ∙ ap (λ (xs : List ℕ). xs ++ k.id ∷ []) a)
    ∙ (append_assoc (ids ++ map (λ (s : Seat). s.id) l) (k.id ∷ []) (map (λ (s : Seat). s.id) r)
    ∙ (append_assoc ids (map (λ (s : Seat). s.id) l) (k.id ∷ map (λ (s : Seat). s.id) r) ∙ ap (λ (xs : List ℕ). ids ++ xs) (sym (map_join l (k ∷ r))))))
