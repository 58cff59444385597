use Rattle.std.proofs.Common.{◌≡◌, ◌∙◌, ◌<◌, ℕ, false, true, List, [], length, sym, ap, refl, arith, rules}
use Rattle.std.specs.Ordering.{is_eq}
use Rattle.source_rows.specs.Inserted.{Rises}
use Rattle.source_rows.specs.declared.seats.Fork.{Fork}
use Rattle.source_rows.specs.declared.seats.Seat.{Seat}
use Rattle.source_rows.specs.Seats.{seat_cmp, is_ahead, swapped, least_of}
use Rattle.source_rows.specs.SeatTree.{seen_of, IsEven}
use Rattle.source_rows.proofs.SeatTree.{at_Fork, even_at, of_side}
use Rattle.source_rows.proofs.Ahead.{same_time}
use Rattle.source_rows.proofs.SetIn.{SetIn, set_side, set_here, even_noted, even_same, marks_right}
use Rattle.source_rows.proofs.seats.Seats.+set.Goals as goal
use Rattle.source_rows.proofs.seats.Seats.+set.Goals.{in-None, then-is_same, else-is_same, in-Some+then-may_differ, in-Some+else-may_differ}

pub set-may_differ-requires : goal.set-may_differ-requires
set-may_differ-requires t c =
    let same : c.deref_mut-fork.result.now ≡ c.in-Some.fork.value = search rules in
    let f = at_Fork c.self.view_is c.requires.rises c.in-Some.is same in
    let first = c.is_ahead-is_sooner.result in
    let v = c.deref_mut-fork.result.now.sooner in
    let w = c.deref_mut-fork.result.now.later in
    let rises : Rises is_ahead c.side.result.now.0 = of_side (λ u. Rises is_ahead u.0) first v w _ c.side.ensures.value f.sooner f.later in
    let fewer : length c.side.result.now.0 < length c.args.self.now.0 = of_side (λ u. length u.0 < length c.args.self.now.0) first v w _ c.side.ensures.value (omega (arith, f.parts)) (omega (arith, f.parts)) in
    search rules

all : (t : ℕ) (c : goal.Joined-self t) → IsEven c.match-self.self-inside.root × ((seen_of c.match-self.self-inside.root).0 ≡ swapped c.args.before.now c.args.after.now c.args.self.now.0) × ((seen_of c.match-self.self-inside.root).1 ≡ c.args.self.now.1)
    × (c.match-self.result ≡ false → least_of (seen_of c.match-self.self-inside.root).0 ≡ least_of c.args.self.now.0)
all t c =
    let a = c.args.before.now in
    let b = c.args.after.now in
    elim c.match-self.branch [
      | in-None w ↦
          let none : c.args.self.now ≡ ([], 0) = search rules in
          rw (w.self-inside-is, none, w.in-None.is) (search rules, refl, refl, λ e. refl)
      | in-Some+then-may_differ w ↦
          let same : w.deref_mut-fork.result.now ≡ w.in-Some.fork.value = search rules in
          let f = at_Fork c.self.view_is c.requires.rises w.in-Some.is same in
          let even = even_at c.self.invariant w.in-Some.is same in
          let old = w.deref_mut-fork.result.now in
          let set : SetIn a b old w.if-is_same.fork w.if-is_same.may_differ = elim w.if-is_same.branch [
            | then-is_same v ↦
                let one : is_eq (seat_cmp a old.seat) ≡ true = search rules in
                rw (v.fork-is, v.may_differ-is) (set_here a b old even f.rises (same_time a old.seat one))
            | else-is_same v ↦
                let other : is_eq (seat_cmp a old.seat) ≡ false = search rules in
                rw (v.fork-is, v.may_differ-is) (set_side a b old v.side.result.now v.set-may_differ.new.self v.is_ahead-is_sooner.result v.set-may_differ.result even f.rises (sym v.is_ahead-is_sooner.ensures) other v.side.ensures.value v.set-may_differ.ensures.seats v.set-may_differ.ensures.height v.set-may_differ.ensures.least)
          ] in
          let height : old.height ≡ c.args.self.now.1 = ap (λ (g : Fork). g.height) same ∙ sym (ap (λ (v : List Seat × ℕ). v.1) (sym c.self.view_is ∙ ap seen_of w.in-Some.is)) in
          let marks = marks_right a b old w.if-is_same.fork w.if-is_same.may_differ even set (sym c.requires.mark) in
          rw (w.self-inside-is, w.note_due.ensures.fork marks) (even_noted a b old w.if-is_same.fork w.if-is_same.may_differ even set, set.seats ∙ sym (ap (swapped a b) f.is), set.height ∙ height, λ e. sym (w.note_due.ensures.same marks (search rules)) ∙ set.least ∙ even.4 ∙ sym (ap least_of f.is))
      | in-Some+else-may_differ w ↦
          let same : w.deref_mut-fork.result.now ≡ w.in-Some.fork.value = search rules in
          let f = at_Fork c.self.view_is c.requires.rises w.in-Some.is same in
          let even = even_at c.self.invariant w.in-Some.is same in
          let old = w.deref_mut-fork.result.now in
          let set : SetIn a b old w.if-is_same.fork w.if-is_same.may_differ = elim w.if-is_same.branch [
            | then-is_same v ↦
                let one : is_eq (seat_cmp a old.seat) ≡ true = search rules in
                rw (v.fork-is, v.may_differ-is) (set_here a b old even f.rises (same_time a old.seat one))
            | else-is_same v ↦
                let other : is_eq (seat_cmp a old.seat) ≡ false = search rules in
                rw (v.fork-is, v.may_differ-is) (set_side a b old v.side.result.now v.set-may_differ.new.self v.is_ahead-is_sooner.result v.set-may_differ.result even f.rises (sym v.is_ahead-is_sooner.ensures) other v.side.ensures.value v.set-may_differ.ensures.seats v.set-may_differ.ensures.height v.set-may_differ.ensures.least)
          ] in
          let height : old.height ≡ c.args.self.now.1 = ap (λ (g : Fork). g.height) same ∙ sym (ap (λ (v : List Seat × ℕ). v.1) (sym c.self.view_is ∙ ap seen_of w.in-Some.is)) in
          rw w.self-inside-is (even_same a b old w.if-is_same.fork w.if-is_same.may_differ (search rules) even set, set.seats ∙ sym (ap (swapped a b) f.is), set.height ∙ height, λ e. set.same (search rules) ∙ sym (ap least_of f.is))
    ]

pub invariant_of-self : goal.invariant_of-self
invariant_of-self t c = (all t c).0

pub returns-clause-seats : goal.returns-clause-seats
returns-clause-seats t c = (all t c).1

pub returns-clause-height : goal.returns-clause-height
returns-clause-height t c = (all t c).2

pub returns-clause-least : goal.returns-clause-least
returns-clause-least t c = (all t c).3
