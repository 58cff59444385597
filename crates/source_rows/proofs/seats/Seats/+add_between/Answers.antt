use Rattle.std.proofs.Common.{◌≡◌, ◌<◌, ◌++◌, ℕ, List, length, true, map, filter, ap, sym, subst, ◌∙◌, arith, rules}
use Rattle.std.specs.Prelude.{OnOk}
use Rattle.std.specs.Ordering.{is_lt}
use Rattle.source_rows.specs.declared.seats.Seat.{Seat}
use Rattle.source_rows.specs.Band.{is_between}
use Rattle.source_rows.specs.Rows.{key_cmp}
use Rattle.source_rows.proofs.SeatTree.{at_Fork}
use Rattle.source_rows.proofs.Parted.{between_later, between_sooner}
use Rattle.source_rows.proofs.seats.Seats.+add_between.Goals as goal

pub add_between-requires : goal.add_between-requires
add_between-requires t c =
    let same : c.deref-fork.result.now ≡ c.in-Some.fork.value = search rules in
    let f = at_Fork c.self.view_is c.requires c.in-Some.is same in
    let fewer : length c.deref-fork.result.now.later.0 < length c.args.self.now.0 = omega (arith, f.parts) in
    search rules

pub add_between-requires-then-is_before-2 : goal.add_between-requires-then-is_before-2
add_between-requires-then-is_before-2 t c =
    let same : c.deref-fork.result.now ≡ c.in-Some.fork.value = search rules in
    let f = at_Fork c.self.view_is c.requires c.in-Some.is same in
    let fewer : length c.deref-fork.result.now.sooner.0 < length c.args.self.now.0 = omega (arith, f.parts) in
    search rules

pub add_between-requires-in-Some : goal.add_between-requires-in-Some
add_between-requires-in-Some t c =
    let same : c.deref-fork.result.now ≡ c.in-Some.fork.value = search rules in
    let f = at_Fork c.self.view_is c.requires c.in-Some.is same in
    let fewer : length c.deref-fork.result.now.sooner.0 < length c.args.self.now.0 = omega (arith, f.parts) in
    search rules

pub add_between-requires-in-Some-2 : goal.add_between-requires-in-Some-2
add_between-requires-in-Some-2 t c =
    let same : c.deref-fork.result.now ≡ c.in-Some.fork.value = search rules in
    let f = at_Fork c.self.view_is c.requires c.in-Some.is same in
    let fewer : length c.deref-fork.result.now.later.0 < length c.args.self.now.0 = omega (arith, f.parts) in
    search rules

pub returns-then-is_before : goal.returns-then-is_before
returns-then-is_before t c =
    let same : c.deref-fork.result.now ≡ c.in-Some.fork.value = search rules in
    let f = at_Fork c.self.view_is c.requires c.in-Some.is same in
    let fork = c.deref-fork.result.now in
    let before : is_lt (key_cmp fork.seat.key c.args.first.now) ≡ true = search rules in
    let e = ap (λ (l : List Seat). map (λ (s : Seat). s.id) (filter (is_between c.args.first.now c.args.last.now) l)) f.is ∙ ap (map (λ (s : Seat). s.id)) (between_later c.args.first.now c.args.last.now fork.sooner.0 fork.seat fork.later.0 f.rises before) in
    subst (λ (l : List ℕ). OnOk c.add_between.result (c.add_between.new.ids.items ≡ c.args.ids.now.items ++ l)) (sym e) c.add_between.ensures

pub returns-then-is_before-2 : goal.returns-then-is_before-2
returns-then-is_before-2 t c =
    let same : c.deref-fork.result.now ≡ c.in-Some.fork.value = search rules in
    let f = at_Fork c.self.view_is c.requires c.in-Some.is same in
    let fork = c.deref-fork.result.now in
    let behind : is_lt (key_cmp c.args.last.now fork.seat.key) ≡ true = search rules in
    let e = ap (λ (l : List Seat). map (λ (s : Seat). s.id) (filter (is_between c.args.first.now c.args.last.now) l)) f.is ∙ ap (map (λ (s : Seat). s.id)) (between_sooner c.args.first.now c.args.last.now fork.sooner.0 fork.seat fork.later.0 f.rises behind) in
    subst (λ (l : List ℕ). OnOk c.add_between-then-is_before-2.result (c.add_between-then-is_before-2.new.ids.items ≡ c.args.ids.now.items ++ l)) (sym e) c.add_between-then-is_before-2.ensures
