-- Faults of the items and the members that are left, and of a level by those below it.
use Rattle.std.proofs.Common.{◌≡◌, ◌++◌, ◌+◌, ◌-◌, ◌<◌, ℕ, zero, suc, List, [], ◌∷◌, drop, length, not, slice_index_or, append_assoc, refl, ap, sym, ◌∙◌, arith}
use Rattle.std.specs.Borrow.{Bor}
use Rattle.std.specs.List.{list_any}
use Rattle.std.specs.Str.{bytes_eq}
use Rattle.json.specs.Json.{Json}
use Rattle.json.specs.Value.{items_view, members_view}
use Rattle.json.specs.declared.value.Value.{Value}
use Rattle.named.specs.Words.{text_of}
use Rattle.named.specs.Names.{Names}
use Rattle.named.specs.Pieces.{Step, pieces}
use Rattle.named.specs.Faults.{where_so, other_keys, count, own, found_at, faults_in, together, within}
use Rattle.named.specs.declared.word.Word.{Word}
use Rattle.named.specs.declared.sort.Sort.{Sort}
use Rattle.named.specs.declared.fault.Cause.{Cause}
use Rattle.named.specs.declared.fault.Cause.TheVariants.{OtherKey}
use Rattle.named.proofs.Adding.{at_next}

pub counts : {A : Type 0} (vs : List (Value A)) → count (items_view vs) ≡ length vs
counts [] = refl
counts (v ∷ vs) = ap suc (counts vs)

pub other_next : {A : Type 0} (ws : List Word) (n : ℕ) (ms : List (Bor (List ℕ) × Value A)) (m : Bor (List ℕ) × Value A) (before now all : List Cause)
    → m ≡ slice_index_or ms n m → n < length ms
    → now ≡ before ++ where_so (not (list_any (λ w. bytes_eq (text_of w) m.0.now) ws)) (OtherKey n)
    → before ++ other_keys ws n (members_view (drop n ms)) ≡ all
    → now ++ other_keys ws (n + 1) (members_view (drop (n + 1) ms)) ≡ all
other_next ws n ms m before now all is lt h i =
    let x = where_so (not (list_any (λ w. bytes_eq (text_of w) m.0.now) ws)) (OtherKey n) in
    let s : n + 1 ≡ suc n = omega arith in
    ap (λ y. y ++ other_keys ws (n + 1) (members_view (drop (n + 1) ms))) h
    ∙ append_assoc before x (other_keys ws (n + 1) (members_view (drop (n + 1) ms)))
    ∙ ap (λ k. before ++ (x ++ other_keys ws k (members_view (drop (n + 1) ms)))) s
    ∙ sym (at_next (λ ys. before ++ other_keys ws n (members_view ys)) ms n m is lt) ∙ i

pub faults_none : (n : ℕ) (ns : Names) (place : List Step) (s : Sort) (j : Json) → n ≡ 0 → faults_in n ns place s j ≡ []
unfolding faults_in
faults_none n ns place s j e = ap (λ m. faults_in m ns place s j) e

pub faults_step : (n : ℕ) (ns : Names) (place : List Step) (s : Sort) (j : Json) → (n ≡ 0 → ⊥)
    → faults_in n ns place s j ≡ found_at place s (own s ns j) ++ together (within (λ step. faults_in (n - 1) ns (place ++ step ∷ []))) (pieces s ns j)
unfolding faults_in
faults_step zero ns place s j h = absurd (h refl)
faults_step (suc n) ns place s j h =
    let e : n ≡ suc n - 1 = omega arith in
    ap (λ m. found_at place s (own s ns j) ++ together (within (λ step. faults_in m ns (place ++ step ∷ []))) (pieces s ns j)) e
