-- The least times of seats once one of them is taken out.
use Rattle.std.proofs.Common.{◌≡◌, nat_lt, ℕ, Bool, true, false, not, cond, inl, inr, List, [], ◌∷◌, ◌++◌, refl, ap, ap₂, sym, subst, ◌∙◌, arith}
use Rattle.std.proofs.lemmas.Bool.Decides.{nat_tests}
use Rattle.std.specs.Ordering.{is_eq}
use Rattle.std.specs.Prelude.{bit_or}
use Rattle.std.specs.Int.Bits.{or_self}
use Rattle.std.proofs.lemmas.Nat.{or_comm}
use Rattle.cancel_view.specs.Marks.{no_mark, opening}
use Rattle.source_rows.specs.Candidates.{never}
use Rattle.source_rows.specs.declared.least.Least.{Least}
use Rattle.source_rows.specs.declared.seats.Seat.{Seat}
use Rattle.source_rows.specs.Seats.{seat_cmp, lesser, least_by, least_of, marks_of, without, AddsNone, IsLater}
use Rattle.source_rows.proofs.AllMarks.{between, marks_join, marks_kept, or_three, or_zero}
use Rattle.source_rows.proofs.Ahead.{same_time}
use Rattle.source_rows.proofs.Soonest.{least_most, behind_least}

lesser_itself : (a b : ℕ) → lesser a (lesser a b) ≡ lesser a b
lesser_itself a b = itself_by a b (nat_lt a b) refl
  where
    itself_by : (a b : ℕ) (v : Bool) → nat_lt a b ≡ v → lesser a (cond v a b) ≡ cond v a b
    itself_by a b true e = let no : nat_lt a a ≡ false = grind (arith, nat_tests) in ap (λ (z : Bool). cond z a a) no
    itself_by a b false e = ap (λ (z : Bool). cond z a b) e

-- beside its own time, it makes no difference whether the seat is there
least_without : (f : Seat → ℕ) (t : Seat) (xs : List Seat) → lesser (f t) (least_by f (without t xs)) ≡ lesser (f t) (least_by f xs)
least_without f t [] = refl
least_without f t (x ∷ xs) = by (is_eq (seat_cmp t x)) refl (least_without f t xs)
  where
    by : (v : Bool) → is_eq (seat_cmp t x) ≡ v → lesser (f t) (least_by f (without t xs)) ≡ lesser (f t) (least_by f xs)
        → lesser (f t) (least_by f (cond (not v) (x ∷ without t xs) (without t xs))) ≡ lesser (f t) (lesser (f x) (least_by f xs))
    by true e ih = ih ∙ (sym (lesser_itself (f t) (least_by f xs)) ∙ ap (λ (u : Seat). lesser (f t) (lesser (f u) (least_by f xs))) (same_time t x e))
    by false e ih = behind_least (f x) (f t) (least_by f (without t xs)) ∙ (ap (lesser (f x)) ih ∙ sym (behind_least (f x) (f t) (least_by f xs)))

-- without a time that is later, or never, the least stays
pub least_stays : (f : Seat → ℕ) (t : Seat) (xs : List Seat) → IsLater (f t) (least_by f xs) → least_by f (without t xs) ≡ least_by f xs
least_stays f t xs (inl later) = by (nat_lt (f t) (least_by f (without t xs))) refl (nat_lt (f t) (least_by f xs)) refl (least_without f t xs)
  where
    by : (u : Bool) → nat_lt (f t) (least_by f (without t xs)) ≡ u → (v : Bool) → nat_lt (f t) (least_by f xs) ≡ v
        → cond u (f t) (least_by f (without t xs)) ≡ cond v (f t) (least_by f xs) → least_by f (without t xs) ≡ least_by f xs
    by true d true e h = absurd (grind (arith, nat_tests, later, e))
    by false d true e h = absurd (grind (arith, nat_tests, later, e))
    by true d false e h = absurd (grind (arith, nat_tests, later, h))
    by false d false e h = h
least_stays f t xs (inr none) = sym (ap (λ (v : Bool). cond v never (least_by f (without t xs))) (least_most f (without t xs)))
    ∙ (subst (λ (n : ℕ). lesser n (least_by f (without t xs)) ≡ lesser n (least_by f xs)) none (least_without f t xs) ∙ ap (λ (v : Bool). cond v never (least_by f xs)) (least_most f xs))

-- without a seat whose mark adds nothing to those of the others, and which is later, marks and least time stay
pub leasts_stay : (t : Seat) (least : Least) (xs : List Seat) → least ≡ least_of xs → AddsNone t.mark (without t xs) → IsLater t.due least.due → least_of (without t xs) ≡ least_of xs
leasts_stay t least xs is adds due =
    let m = marks_kept same_time t xs adds in
    let d = least_stays (λ s. s.due) t xs (subst (λ (l : Least). IsLater t.due l.due) is due) in
    ap₂ (λ (a b : ℕ). let l : Least = record { marks = a; due = b } in l) m d

-- ---- a mark that adds nothing

pub no_mark_adds : (n : ℕ) (xs : List Seat) → n ≡ no_mark → AddsNone n xs
no_mark_adds n xs e = ap (λ (i : ℕ). bit_or (marks_of xs) (opening i)) e ∙ or_zero (marks_of xs)

-- it adds nothing to more than those to which it adds nothing
adds_behind : (l r : List Seat) (n : ℕ) → AddsNone n r → AddsNone n (l ++ r)
adds_behind l r n h = ap (λ (m : ℕ). bit_or m (opening n)) (marks_join l r) ∙ (sym (or_three (marks_of l) (marks_of r) (opening n)) ∙ (ap (bit_or (marks_of l)) h ∙ sym (marks_join l r)))

adds_before : (l r : List Seat) (n : ℕ) → AddsNone n l → AddsNone n (l ++ r)
adds_before l r n h = ap (λ (m : ℕ). bit_or m (opening n)) (marks_join l r) ∙ (between (marks_of l) (marks_of r) (opening n) ∙ (or_three (marks_of l) (opening n) (marks_of r) ∙ (ap (λ (m : ℕ). bit_or m (marks_of r)) h ∙ sym (marks_join l r))))

pub mark_sooner : (l r : List Seat) (s : Seat) (n : ℕ) → AddsNone n l → AddsNone n (l ++ s ∷ r)
mark_sooner l r s n h = adds_before l (s ∷ r) n h

pub mark_later : (l r : List Seat) (s : Seat) (n : ℕ) → AddsNone n r → AddsNone n (l ++ s ∷ r)
mark_later l r s n h = adds_behind l (s ∷ r) n (sym (or_three (opening s.mark) (marks_of r) (opening n)) ∙ ap (bit_or (opening s.mark)) h)

pub mark_here : (l r : List Seat) (s : Seat) (n : ℕ) → s.mark ≡ n → AddsNone n (l ++ s ∷ r)
mark_here l r s n e =
    let o = opening s.mark in
    adds_behind l (s ∷ r) n (ap (λ (i : ℕ). bit_or (bit_or o (marks_of r)) (opening i)) (sym e) ∙ (or_comm (bit_or o (marks_of r)) o ∙ (or_three o o (marks_of r) ∙ ap (λ (m : ℕ). bit_or m (marks_of r)) (or_self o))))
