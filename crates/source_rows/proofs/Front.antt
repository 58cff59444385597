-- What the fronts of two keys tell of their order.
use Rattle.std.proofs.Common.{◌≡◌, ℕ, ℤ, pos, int_lt, ◌*ℤ◌, ◌+ℤ◌, ◌<◌, ◌^◌, length, slice_index, Bool, true, false, cond, List, [], ◌∷◌, refl, arith}
use Rattle.std.proofs.lemmas.Bool.Decides.{nat_tests}
use Rattle.std.proofs.lemmas.Int.{ints}
use Rattle.std.specs.Ordering.{is_lt, ordering_then, nat_cmp}
use Rattle.std.specs.declared.cmp.Ordering.{Ordering}
use Rattle.std.specs.declared.cmp.Ordering.TheVariants.{Less, Equal, Greater}
use Rattle.std.specs.Cmp.Lexicographic.{slice_cmp}
use Rattle.source_rows.proofs.Compared.{nat_equal}
use Rattle.source_rows.specs.Rows.{key_cmp}
use Rattle.source_rows.specs.Seats.{front_of}

fronts_by : (p q : ℤ) (x y : ℕ) (o rest : Ordering) → x < 2 ^ 64 → y < 2 ^ 64 → (x ≡ y → ⊥) → (a b l : Bool) (m : Ordering) → int_lt p q ≡ a → int_lt q p ≡ b → nat_cmp x y ≡ m → int_lt (p *ℤ pos (2 ^ 64) +ℤ pos x) (q *ℤ pos (2 ^ 64) +ℤ pos y) ≡ l
    → l ≡ is_lt (ordering_then (ordering_then (cond a Less (cond b Greater Equal)) (ordering_then m o)) rest)
fronts_by p q x y o rest h k apart true b true m ea eb em el = refl
fronts_by p q x y o rest h k apart true b false m ea eb em el = grind (arith, ints)
fronts_by p q x y o rest h k apart false true true m ea eb em el = grind (arith, ints)
fronts_by p q x y o rest h k apart false true false m ea eb em el = refl
fronts_by p q x y o rest h k apart false false true Less ea eb em el = refl
fronts_by p q x y o rest h k apart false false false Less ea eb em el = grind (arith, ints, nat_tests)
fronts_by p q x y o rest h k apart false false true Greater ea eb em el = grind (arith, ints, nat_tests)
fronts_by p q x y o rest h k apart false false false Greater ea eb em el = refl
fronts_by p q x y o rest h k apart false false l Equal ea eb em el = absurd (apart (nat_equal x y em))

-- where the first numbers of the paths differ, the fronts have the order of the keys
pub fronts_tell : (p q : ℤ) (xs ys : List ℕ) (rest : Ordering) → length xs ≡ 4 → length ys ≡ 4 → slice_index xs 0 < 2 ^ 64 → slice_index ys 0 < 2 ^ 64 → (slice_index xs 0 ≡ slice_index ys 0 → ⊥)
    → int_lt (front_of (p, xs)) (front_of (q, ys)) ≡ is_lt (ordering_then (key_cmp (p, xs) (q, ys)) rest)
fronts_tell p q [] ys rest l m h k apart = absurd (omega (arith, l))
fronts_tell p q (x ∷ xs) [] rest l m h k apart = absurd (omega (arith, m))
fronts_tell p q (x ∷ xs) (y ∷ ys) rest l m h k apart = fronts_by p q x y (slice_cmp nat_cmp xs ys) rest h k apart (int_lt p q) (int_lt q p) _ (nat_cmp x y) refl refl refl refl
