-- The faults at a level by those of the next, and the steps to a place.
use Rattle.std.proofs.Common.{◌≡◌, ◌++◌, ◌-◌, ◌+◌, ◌<◌, ℕ, zero, suc, List, [], ◌∷◌, length, take, drop, get_or, map, append_assoc, refl, ap, sym, ◌∙◌, arith}
use Rattle.std.proofs.lemmas.List.{length-append}
use Rattle.std.proofs.Math.Seq.{take-append_seam, drop-cons}
use Rattle.serde_json.specs.Data.{Data}
use Rattle.serde_json.specs.Find.{at}
use Rattle.loop_script.specs.Form.{Form}
use Rattle.script_check.specs.Found.{Step, nth}
use Rattle.script_check.specs.Own.{own}
use Rattle.script_check.specs.Parts.{Part, parts, there, from}
use Rattle.script_check.specs.Views.{form_of}
use Rattle.script_check.specs.declared.wanted.Wanted.{Wanted}
use Rattle.script_check.specs.declared.wanted.Wanted.TheVariants.{Version}
use Rattle.script_check.specs.Faults.{faults_in, found_at, together}

pub faults_step : (n : ℕ) (place : List Step) (f : Form) (d : Data) → (n ≡ 0 → ⊥) → faults_in n place f d ≡ found_at place f (own f d) ++ together (λ p. faults_in (n - 1) (place ++ p.step ∷ []) p.form p.inner) (parts f d)
unfolding faults_in
faults_step zero place f d h = absurd (h refl)
faults_step (suc n) place f d h =
    let e : n ≡ suc n - 1 = omega arith in
    ap (λ m. found_at place f (own f d) ++ together (λ p. faults_in m (place ++ p.step ∷ []) p.form p.inner) (parts f d)) e

pub faults_none : (n : ℕ) (place : List Step) (f : Form) (d : Data) → n ≡ 0 → faults_in n place f d ≡ []
unfolding faults_in
faults_none n place f d e = ap (λ m. faults_in m place f d) e

pub before_last : {A : Type 0} (xs : List A) (x : A) → take (length (xs ++ x ∷ []) - 1) (xs ++ x ∷ []) ≡ xs
before_last xs x =
    let e : length (xs ++ x ∷ []) - 1 ≡ length xs = omega (arith, length-append xs (x ∷ [])) in
    rw e (take-append_seam xs (x ∷ []))

pub from_next : (first n : ℕ) (ws : List Wanted) (d : Data) (before now all : List Part) → n < length ws → now ≡ before ++ there (nth (first + n)) (form_of (get_or ws n Version)) (at (first + n) d) → before ++ from (first + n) (map form_of (drop n ws)) d ≡ all → now ++ from (first + (n + 1)) (map form_of (drop (n + 1) ws)) d ≡ all
from_next first n ws d before now all h m i =
    let here : drop n ws ≡ get_or ws n Version ∷ drop (suc n) ws = drop-cons ws n Version h in
    let x = there (nth (first + n)) (form_of (get_or ws n Version)) (at (first + n) d) in
    let s : first + (n + 1) ≡ suc (first + n) = omega arith in
    let t : n + 1 ≡ suc n = omega arith in
    ap (λ y. y ++ from (first + (n + 1)) (map form_of (drop (n + 1) ws)) d) m
    ∙ append_assoc before x (from (first + (n + 1)) (map form_of (drop (n + 1) ws)) d)
    ∙ ap (λ k. before ++ (x ++ from k (map form_of (drop (n + 1) ws)) d)) s
    ∙ ap (λ k. before ++ (x ++ from (suc (first + n)) (map form_of (drop k ws)) d)) t
    ∙ ap (λ ys. before ++ from (first + n) (map form_of ys) d) (sym here) ∙ i
