-- A seat put where another stands, in a side of a tree or at its root.
use Rattle.std.proofs.Common.{◌≡◌, ℕ, ◌+◌, max, Bool, true, false, cond, List, [], ◌∷◌, ◌++◌, refl, ap, ap₂, sym, ◌∙◌, arith}
use Rattle.cancel_view.specs.Marks.{opening}
use Rattle.source_rows.specs.Inserted.{Rises}
use Rattle.source_rows.specs.declared.seats.Fork.{Fork}
use Rattle.source_rows.specs.declared.least.Least.{Least}
use Rattle.source_rows.specs.declared.seats.Seat.{Seat}
use Rattle.std.specs.Ordering.{is_eq}
use Rattle.source_rows.specs.Seats.{seat_cmp, is_ahead, least_by, least_of, lesser, marks_of, swapped, IsLow}
use Rattle.source_rows.specs.SeatTree.{seats_of, IsEvenFork}
use Rattle.source_rows.proofs.Ahead.{behind, same_time, swapped_left, swapped_right, swapped_here}
use Rattle.source_rows.specs.Lending.{with_side}
use Rattle.source_rows.proofs.Low.{side_swapped}
use Rattle.std.specs.Prelude.{bit_or}
use Rattle.source_rows.proofs.AllMarks.{between, marks_join}
use Rattle.source_rows.proofs.Soonest.{behind_least, least_join}

-- what a fork is once a seat was put where another stands in it, and the least times may be others
pub record SetIn (a b : Seat) (old new : Fork) (may : Bool) : Type 0 where
  pub seats : seats_of new ≡ swapped a b (seats_of old)
  pub height : new.height ≡ old.height
  pub sooner : new.sooner.1 ≡ old.sooner.1
  pub later : new.later.1 ≡ old.later.1
  pub low_sooner : IsLow new.sooner
  pub low_later : IsLow new.later
  pub least : new.least ≡ old.least
  pub same : may ≡ false → least_of (seats_of new) ≡ least_of (seats_of old)

pub least_parts : (l r : List Seat) → least_of (l ++ r) ≡ record { marks = bit_or (least_of l).marks (least_of r).marks; due = lesser (least_of l).due (least_of r).due }
least_parts l r = ap₂ (λ (w d : ℕ). let m : Least = record { marks = w; due = d } in m) (marks_join l r) (least_join (λ s. s.due) l r)

-- one more seat between
pub least_between : (l : List Seat) (s : Seat) (r : List Seat) → least_of (l ++ s ∷ r) ≡ record { marks = bit_or (least_of (l ++ r)).marks (opening s.mark); due = lesser s.due (least_of (l ++ r)).due }
least_between l s r =
    let due = λ (t : Seat). t.due in
    ap₂ (λ (w d : ℕ). let m : Least = record { marks = w; due = d } in m)
    (marks_join l (s ∷ r) ∙ (sym (between (marks_of l) (marks_of r) (opening s.mark)) ∙ ap (λ (n : ℕ). bit_or n (opening s.mark)) (sym (marks_join l r))))
    (least_join due l (s ∷ r) ∙ (behind_least s.due (least_by due l) (least_by due r) ∙ ap (lesser s.due) (sym (least_join due l r))))

least_left : (l m r : List Seat) → least_of l ≡ least_of m → least_of (l ++ r) ≡ least_of (m ++ r)
least_left l m r e =
    least_parts l r ∙ (ap (λ (x : Least). let y : Least = record { marks = bit_or x.marks (least_of r).marks; due = lesser x.due (least_of r).due } in y) e ∙ sym (least_parts m r))

least_right : (l m r : List Seat) → least_of m ≡ least_of r → least_of (l ++ m) ≡ least_of (l ++ r)
least_right l m r e =
    least_parts l m ∙ (ap (λ (x : Least). let y : Least = record { marks = bit_or (least_of l).marks x.marks; due = lesser (least_of l).due x.due } in y) e ∙ sym (least_parts l r))

least_behind : (k : Seat) (l m : List Seat) → least_of l ≡ least_of m → least_of (k ∷ l) ≡ least_of (k ∷ m)
least_behind k l m e = ap (λ (x : Least). let y : Least = record { marks = bit_or (opening k.mark) x.marks; due = lesser k.due x.due } in y) e

pub set_sooner : (a b : Seat) (old : Fork) (side : List Seat × ℕ) (may : Bool) → IsEvenFork old → Rises is_ahead (seats_of old) → is_ahead a old.seat ≡ true → side.0 ≡ swapped a b old.sooner.0 → side.1 ≡ old.sooner.1
    → (may ≡ false → least_of side.0 ≡ least_of old.sooner.0) → SetIn a b old (record old { sooner = side }) may
set_sooner a b old side may even rises before is h least = record {
  seats = ap (λ (x : List Seat). x ++ old.seat ∷ old.later.0) is ∙ sym (swapped_left a b old.sooner.0 old.seat old.later.0 rises before);
  height = refl;
  sooner = h;
  later = refl;
  low_sooner = side_swapped old.sooner side a b is h even.2;
  low_later = even.3;
  least = refl;
  same = λ e. least_left side.0 old.sooner.0 (old.seat ∷ old.later.0) (least e);
}

pub set_later : (a b : Seat) (old : Fork) (side : List Seat × ℕ) (may : Bool) → IsEvenFork old → Rises is_ahead (seats_of old) → is_ahead old.seat a ≡ true → side.0 ≡ swapped a b old.later.0 → side.1 ≡ old.later.1
    → (may ≡ false → least_of side.0 ≡ least_of old.later.0) → SetIn a b old (record old { later = side }) may
set_later a b old side may even rises before is h least = record {
  seats = ap (λ (x : List Seat). old.sooner.0 ++ old.seat ∷ x) is ∙ sym (swapped_right a b old.sooner.0 old.seat old.later.0 rises before);
  height = refl;
  sooner = refl;
  later = h;
  low_sooner = even.2;
  low_later = side_swapped old.later side a b is h even.3;
  least = refl;
  same = λ e. least_right old.sooner.0 (old.seat ∷ side.0) (old.seat ∷ old.later.0) (least_behind old.seat side.0 old.later.0 (least e));
}

-- in the side where it stands
pub set_side : (a b : Seat) (old : Fork) (was side : List Seat × ℕ) (first may : Bool) → IsEvenFork old → Rises is_ahead (seats_of old) → is_ahead a old.seat ≡ first → is_eq (seat_cmp a old.seat) ≡ false → was ≡ cond first old.sooner old.later
    → side.0 ≡ swapped a b was.0 → side.1 ≡ was.1 → (may ≡ false → least_of side.0 ≡ least_of was.0) → SetIn a b old (with_side old first side) may
set_side a b old was side true may even rises before other at is h least =
    set_sooner a b old side may even rises before (is ∙ ap (λ (v : List Seat × ℕ). swapped a b v.0) at) (h ∙ ap (λ (v : List Seat × ℕ). v.1) at) (λ e. least e ∙ ap (λ (v : List Seat × ℕ). least_of v.0) at)
set_side a b old was side false may even rises before other at is h least =
    set_later a b old side may even rises (behind a old.seat before other) (is ∙ ap (λ (v : List Seat × ℕ). swapped a b v.0) at) (h ∙ ap (λ (v : List Seat × ℕ). v.1) at) (λ e. least e ∙ ap (λ (v : List Seat × ℕ). least_of v.0) at)

pub set_here : (a b : Seat) (old : Fork) → IsEvenFork old → Rises is_ahead (seats_of old) → a ≡ old.seat → SetIn a b old (record old { seat = b }) true
set_here a b old even rises e = record {
  seats = sym (swapped_here a b old.sooner.0 old.seat old.later.0 rises e);
  height = refl;
  sooner = refl;
  later = refl;
  low_sooner = even.2;
  low_later = even.3;
  least = refl;
  same = λ never. cc;
}

-- where the marks are right, the least of three times makes what is noted
pub least_with : (sooner later : List Seat) (seat : Seat) (marks due : ℕ) → marks ≡ marks_of (sooner ++ seat ∷ later) → due ≡ lesser (least_by (λ s. s.due) sooner) (lesser seat.due (least_by (λ s. s.due) later))
    → (let l : Least = record { marks = marks; due = due } in l) ≡ least_of (sooner ++ seat ∷ later)
least_with sooner later seat marks due m d =
    ap₂ (λ (w n : ℕ). let l : Least = record { marks = w; due = n } in l) m (d ∙ sym (least_join (λ s. s.due) sooner (seat ∷ later)))

-- a seat in the place of one with the same mark leaves the marks as they are
marks_swap : (a b s : Seat) → a.mark ≡ b.mark → (v : Bool) → is_eq (seat_cmp a s) ≡ v → (cond v b s).mark ≡ s.mark
marks_swap a b s e true is = sym e ∙ ap (λ (t : Seat). t.mark) (same_time a s is)
marks_swap a b s e false is = refl

pub marks_swapped : (a b : Seat) → a.mark ≡ b.mark → (xs : List Seat) → marks_of (swapped a b xs) ≡ marks_of xs
marks_swapped a b e [] = refl
marks_swapped a b e (s ∷ xs) = ap₂ (λ (n w : ℕ). bit_or (opening n) w) (marks_swap a b s e (is_eq (seat_cmp a s)) refl) (marks_swapped a b e xs)

-- so they are right in a fork in which such a seat was put
pub marks_right : (a b : Seat) (old new : Fork) (may : Bool) → IsEvenFork old → SetIn a b old new may → a.mark ≡ b.mark → new.least.marks ≡ marks_of (seats_of new)
marks_right a b old new may even s e =
    ap (λ (l : Least). l.marks) (s.least ∙ even.4) ∙ (sym (marks_swapped a b e (seats_of old)) ∙ ap marks_of (sym s.seats))

-- the fork with its least times noted anew
pub even_noted : (a b : Seat) (old new : Fork) (may : Bool) → IsEvenFork old → SetIn a b old new may → IsEvenFork (record new { least = least_of (seats_of new) })
even_noted a b old new may even s =
    let sooner = s.sooner in
    let later = s.later in
    let d = even.1 in
    (s.height ∙ (even.0 ∙ ap₂ (λ (m n : ℕ). max m n + 1) (sym sooner) (sym later)), (omega (arith, sooner, later, d.0, d.1), omega (arith, sooner, later, d.0, d.1)), s.low_sooner, s.low_later, refl)

-- the fork as it is, where they stay
pub even_same : (a b : Seat) (old new : Fork) (may : Bool) → may ≡ false → IsEvenFork old → SetIn a b old new may → IsEvenFork new
even_same a b old new may stays even s =
    let noted = even_noted a b old new may even s in
    (noted.0, noted.1, noted.2, noted.3, s.least ∙ (even.4 ∙ sym (s.same stays)))
