use Rattle.std.proofs.Common.{rules, ◌≡◌, ap, true, ◌+◌, arith}
use Rattle.std.proofs.lemmas.Bool.Decides.{nat_tests}
use Rattle.std.specs.BTreeMap.{is_at, get}
use Rattle.std.specs.declared.cmp.Ord as ord
use Rattle.run_names.specs.declared.label.Seat.{Seat}
use Rattle.run_names.specs.declared.label.Origin.{Origin}
use Rattle.run_names.specs.declared.label.Origin.TheVariants.{Slot, Reply, Invoke}
use Rattle.run_names.specs.contracts.label.SeatOrd.TheImpl as seat_impl
use Rattle.run_names.specs.contracts.label.OriginOrd.TheImpl as origin_impl
use Rattle.run_names.specs.Labelled.{last_place}
use Rattle.run_names.proofs.Kept.{raised, Tell, placed, same_given}
use Rattle.run_names.proofs.labels.Labels.give.Goals as goal

seat_same : (s t : Seat) → is_at (denote.Param.read (ord.Ghosts.cmp {X-1 = Seat}) seat_impl.ghosts s) t ≡ true → s ≡ t
seat_same s t e =
    let h : s.home ≡ t.home = grind (arith, nat_tests) in
    let n : s.id ≡ t.id = grind (arith, nat_tests) in
    λ i. record { home = h i; id = n i }

origin_same : (o q : Origin) → is_at (denote.Param.read (ord.Ghosts.cmp {X-1 = Origin}) origin_impl.ghosts o) q ≡ true → o ≡ q
origin_same (Slot a) (Slot b) e = let h : a ≡ b = grind (arith, nat_tests) in ap Slot h
origin_same (Slot a) (Reply l n) e = absurd (grind (arith, nat_tests))
origin_same (Slot a) (Invoke b) e = absurd (grind (arith, nat_tests))
origin_same (Reply l n) (Slot b) e = absurd (grind (arith, nat_tests))
origin_same (Reply l n) (Reply k m) e = let h : l ≡ k = grind (arith, nat_tests) in let g : n ≡ m = grind (arith, nat_tests) in λ i. Reply (h i) (g i)
origin_same (Reply l n) (Invoke b) e = absurd (grind (arith, nat_tests))
origin_same (Invoke a) (Slot b) e = absurd (grind (arith, nat_tests))
origin_same (Invoke a) (Reply l n) e = absurd (grind (arith, nat_tests))
origin_same (Invoke a) (Invoke b) e = let h : a ≡ b = grind (arith, nat_tests) in ap Invoke h

tell : Tell (denote.Param.read (ord.Ghosts.cmp {X-1 = Seat}) seat_impl.ghosts) (denote.Param.read (ord.Ghosts.cmp {X-1 = Origin}) origin_impl.ghosts)
tell = record { tests = λ s t. search rules; seat = seat_same; origin = origin_same }

pub invariant_of-self-in_err-insert-2 : goal.invariant_of-self-in_err-insert-2
invariant_of-self-in_err-insert-2 c =
    let place : (c.in-Some.place ≡ c.unwrap_or-before.result + 1) = (rw c.in-Some.is at c.checked_add.ensures).1 in
    let updates = rw c.in_ok-insert.was at c.insert.ensures.updates in
    let entries = rw c.in_err-insert-2.was at c.insert-2.ensures.err in
    let last : c.unwrap_or-before.result ≡ last_place (get (denote.Param.read (ord.Ghosts.cmp {X-1 = Origin}) origin_impl.ghosts) c.self.inside.counts c.args.origin) = search rules in
    same_given c.insert.new.self c.self.inside.given c.insert-2.new.self entries (raised tell c.self.inside.counts c.insert.new.self c.self.inside.given c.args.origin c.in-Some.place (omega (arith, place, last)) updates.0 c.self.invariant)

pub invariant_of-self-2 : goal.invariant_of-self-2
invariant_of-self-2 c =
    let place : (c.in-Some.place ≡ c.unwrap_or-before.result + 1) = (rw c.in-Some.is at c.checked_add.ensures).1 in
    let updates = rw c.in_ok-insert.was at c.insert.ensures.updates in
    let more = rw c.in_ok-insert-2.was at c.insert-2.ensures.updates in
    let last : c.unwrap_or-before.result ≡ last_place (get (denote.Param.read (ord.Ghosts.cmp {X-1 = Origin}) origin_impl.ghosts) c.self.inside.counts c.args.origin) = search rules in
    placed tell c.self.inside.counts c.insert.new.self c.self.inside.given c.insert-2.new.self c.args.seat (record { origin = c.args.origin; place = c.in-Some.place }) (omega (arith, place, last)) updates.0 updates.1 more.0 c.self.invariant
