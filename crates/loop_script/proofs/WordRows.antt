-- One row of a table of words: a list of so many parts, each read by its form.
use Rattle.std.proofs.Common.{◌≡◌, refl, subst, ℕ, List, [], ◌∷◌, Option, Some}
use Rattle.serde_json.specs.Data.{Data}
use Rattle.serde_json.specs.Find.{at}
use Rattle.loop_script.specs.Read.{Read, done, ◌>>=◌}
use Rattle.loop_script.specs.Array.{arity}
use Rattle.loop_script.specs.Form.{Form}
use Rattle.loop_script.specs.Place.{size, front}
use Rattle.loop_script.specs.Misfit.{IsOutOfRange}
use Rattle.loop_script.proofs.Meets.{Meets, meets_done, next}
use Rattle.loop_script.proofs.Behind.{part, behind, WordMisfit, BehindWord}
use Rattle.loop_script.proofs.Leaves.{Reads, of_needed, length_at}

pub begun : (d : Data) {w v : List ℕ} → front d ≡ Some w → w ≡ v → front d ≡ Some v
begun d f e = subst (λ u. front d ≡ Some u) e f

abbrev RowMeets : (A : Type 0) → Read A → List Form → Data → (A → Type 0) → Type 0
RowMeets A r fs d V = Meets (Unit {0}) A r (WordMisfit (Some fs) d) (BehindWord IsOutOfRange (Some fs) d) V

pub row0 : {K : Type 0} {V : K → Type 0} (d : Data) (k : K) → (size d ≡ Some 1 → V k) → RowMeets K (arity 1 (Some d) >>= λ u. done k) [] d V
row0 d k v = behind [] d (next (length_at 1 d) (meets_done k (λ x. x) (λ x. x) v))

pub row1 : {K A : Type 0} {V : K → Type 0} {R : Option Data → Read A} {Is : Option Data → A → Type 0} (d : Data) (f : Form) → Reads f A R Is → (make : A → K) → ((x : A) → size d ≡ Some 2 → Is (at 1 d) x → V (make x)) → RowMeets K (arity 2 (Some d) >>= λ u. R (at 1 d) >>= λ x. done (make x)) (f ∷ []) d V
row1 {R = R} d f h make v =
    behind (f ∷ []) d (next (length_at 2 d) (
    next (of_needed (part f) refl h (at 1 d)) (meets_done (make (R (at 1 d)).value) (λ x. x) (λ x. x) (λ a l. v _ l a))))

pub row2 : {K A B : Type 0} {V : K → Type 0} {R : Option Data → Read A} {S : Option Data → Read B} {Is : Option Data → A → Type 0} {Js : Option Data → B → Type 0} (d : Data) (f g : Form) → Reads f A R Is → Reads g B S Js → (make : A → B → K) → ((x : A) (y : B) → size d ≡ Some 3 → Is (at 1 d) x → Js (at 2 d) y → V (make x y)) → RowMeets K (arity 3 (Some d) >>= λ u. R (at 1 d) >>= λ x. S (at 2 d) >>= λ y. done (make x y)) (f ∷ g ∷ []) d V
row2 {R = R} {S = S} d f g h k make v =
    behind (f ∷ g ∷ []) d (next (length_at 3 d) (
    next (of_needed (part f) refl h (at 1 d)) (
    next (of_needed (part g) refl k (at 2 d)) (meets_done (make (R (at 1 d)).value (S (at 2 d)).value) (λ x. x) (λ x. x) (λ b a l. v _ _ l a b)))))

pub row3 : {K A B C : Type 0} {V : K → Type 0} {R : Option Data → Read A} {S : Option Data → Read B} {T : Option Data → Read C} {Is : Option Data → A → Type 0} {Js : Option Data → B → Type 0} {Ks : Option Data → C → Type 0} (d : Data) (f g i : Form) → Reads f A R Is → Reads g B S Js → Reads i C T Ks → (make : A → B → C → K) → ((x : A) (y : B) (z : C) → size d ≡ Some 4 → Is (at 1 d) x → Js (at 2 d) y → Ks (at 3 d) z → V (make x y z)) → RowMeets K (arity 4 (Some d) >>= λ u. R (at 1 d) >>= λ x. S (at 2 d) >>= λ y. T (at 3 d) >>= λ z. done (make x y z)) (f ∷ g ∷ i ∷ []) d V
row3 {R = R} {S = S} {T = T} d f g i h k j make v =
    behind (f ∷ g ∷ i ∷ []) d (next (length_at 4 d) (
    next (of_needed (part f) refl h (at 1 d)) (
    next (of_needed (part g) refl k (at 2 d)) (
    next (of_needed (part i) refl j (at 3 d)) (meets_done (make (R (at 1 d)).value (S (at 2 d)).value (T (at 3 d)).value) (λ x. x) (λ x. x) (λ c b a l. v _ _ _ l a b c))))))
