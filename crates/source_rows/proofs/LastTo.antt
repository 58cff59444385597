-- What follows for the last seat that does not stand behind a key.
use Rattle.std.proofs.Common.{◌≡◌, Bool, true, false, Option, Some, None, List, [], ◌∷◌, ◌++◌, refl, ap, sym, ◌∙◌, append_assoc}
use Rattle.std.specs.Prelude.{IfSome, IfNone}
use Rattle.std.specs.List.{AllByRecursion}
use Rattle.source_rows.specs.declared.seats.Seat.{Seat}
use Rattle.source_rows.specs.Inserted.{Rises}
use Rattle.source_rows.specs.Rows.{Key}
use Rattle.source_rows.specs.Seats.{is_ahead}
use Rattle.source_rows.specs.LastTo.{stands_to, IsLastTo}
use Rattle.source_rows.proofs.Lists.{all_of}
use Rattle.source_rows.proofs.Inserted.{all_right}
use Rattle.source_rows.proofs.Ahead.{passed_by}

pub some_of : {A : Type 0} (P Q : A → Type 0) → ((x : A) → P x → Q x) → (o : Option A) → IfSome o P → IfSome o Q
some_of P Q f None h = tt
some_of P Q f (Some x) h = f x h

pub none_of : {A : Type 0} (P Q : Type 0) → (P → Q) → (o : Option A) → IfNone o P → IfNone o Q
none_of P Q f None h = f h
none_of P Q f (Some x) h = tt

pub all_joined : (P : Seat → Type 0) (xs ys : List Seat) → AllByRecursion P xs → AllByRecursion P ys → AllByRecursion P (xs ++ ys)
all_joined P [] ys h k = k
all_joined P (x ∷ xs) ys h k = (h.0, all_joined P xs ys h.1 k)

behind_by : (key : Key) (k u : Seat) → is_ahead k u ≡ true → stands_to key k ≡ false → (b : Bool) → stands_to key u ≡ b → stands_to key u ≡ false
behind_by key k u h p false e = e
behind_by key k u h p true e = let no = sym p ∙ passed_by (Some key) k u h e in cc

all_behind : (key : Key) (l : List Seat) (k : Seat) (r : List Seat) → Rises is_ahead (l ++ k ∷ r) → stands_to key k ≡ false → AllByRecursion (λ u. stands_to key u ≡ false) (k ∷ r)
all_behind key l k r s p = (p, all_of (λ u. is_ahead k u ≡ true) (λ u. stands_to key u ≡ false) (λ u e. behind_by key k u e p (stands_to key u) refl) r (all_right is_ahead l k r s))

-- where the seat stands behind the key it is one before it
pub last_sooner : (key : Key) (l : List Seat) (k : Seat) (r : List Seat) (s : Seat) → Rises is_ahead (l ++ k ∷ r) → stands_to key k ≡ false → IsLastTo key l s → IsLastTo key (l ++ k ∷ r) s
last_sooner key l k r s rises p h = record {
  before = h.before;
  behind = h.behind ++ k ∷ r;
  are = ap (λ (x : List Seat). x ++ k ∷ r) h.are ∙ append_assoc h.before (s ∷ h.behind) (k ∷ r);
  here = h.here;
  none = all_joined (λ u. stands_to key u ≡ false) h.behind (k ∷ r) h.none (all_behind key l k r rises p);
}

-- or none
pub none_sooner : (key : Key) (l : List Seat) (k : Seat) (r : List Seat) → Rises is_ahead (l ++ k ∷ r) → stands_to key k ≡ false → AllByRecursion (λ u. stands_to key u ≡ false) l → AllByRecursion (λ u. stands_to key u ≡ false) (l ++ k ∷ r)
none_sooner key l k r rises p h = all_joined (λ u. stands_to key u ≡ false) l (k ∷ r) h (all_behind key l k r rises p)

-- else it is the seat, where none behind it is
pub last_here : (key : Key) (l : List Seat) (k : Seat) (r : List Seat) → stands_to key k ≡ true → AllByRecursion (λ u. stands_to key u ≡ false) r → IsLastTo key (l ++ k ∷ r) k
last_here key l k r p h = record { before = l; behind = r; are = refl; here = p; none = h }

pub last_later : (key : Key) (l : List Seat) (k : Seat) (r : List Seat) (s : Seat) → IsLastTo key r s → IsLastTo key (l ++ k ∷ r) s
last_later key l k r s h = record {
  before = l ++ k ∷ h.before;
  behind = h.behind;
  are = ap (λ (x : List Seat). l ++ k ∷ x) h.are ∙ sym (append_assoc l (k ∷ h.before) (s ∷ h.behind));
  here = h.here;
  none = h.none;
}
