use Rattle.std.proofs.Common.{rules, arith, ◌≡◌, ◌≢◌, ◌/◌, ◌∙◌, ap, sym}
use Rattle.std.specs.Prelude.{bit_or}
use Rattle.std.specs.Int.Bits.{or_zero_r}
use Rattle.cancel_view.specs.Marks.{opening}
use Rattle.cancel_view.proofs.Words.{or_word, bit_word, opening_none, with_first, with_second, with_third, with_fourth, with_fifth}
use Rattle.cancel_view.proofs.marks.Marks.add.Goals as goal

pub invariant_of-self : goal.invariant_of-self
invariant_of-self c = let h = c.self.invariant in rw c.bit_of-bit.ensures (or_word _ _ h.0 (bit_word c.args.number), h.1, h.2, h.3, h.4)

pub invariant_of-self-in-1 : goal.invariant_of-self-in-1
invariant_of-self-in-1 c = let h = c.self.invariant in rw c.bit_of-bit.ensures (h.0, or_word _ _ h.1 (bit_word c.args.number), h.2, h.3, h.4)

pub invariant_of-self-in-2 : goal.invariant_of-self-in-2
invariant_of-self-in-2 c = let h = c.self.invariant in rw c.bit_of-bit.ensures (h.0, h.1, or_word _ _ h.2 (bit_word c.args.number), h.3, h.4)

pub invariant_of-self-in-3 : goal.invariant_of-self-in-3
invariant_of-self-in-3 c = let h = c.self.invariant in rw c.bit_of-bit.ensures (h.0, h.1, h.2, or_word _ _ h.3 (bit_word c.args.number), h.4)

pub invariant_of-self-in-4 : goal.invariant_of-self-in-4
invariant_of-self-in-4 c = let h = c.self.invariant in rw c.bit_of-bit.ensures (h.0, h.1, h.2, h.3, or_word _ _ h.4 (bit_word c.args.number))

pub returns-in-0 : goal.returns-in-0
returns-in-0 c = rw (c.bit_of-bit.ensures, ← c.self.view_is) (with_first c.self.inside c.args.number c.self.invariant c.in-0.is)

pub returns-in-1 : goal.returns-in-1
returns-in-1 c = rw (c.bit_of-bit.ensures, ← c.self.view_is) (with_second c.self.inside c.args.number c.self.invariant c.in-1.is)

pub returns-in-2 : goal.returns-in-2
returns-in-2 c = rw (c.bit_of-bit.ensures, ← c.self.view_is) (with_third c.self.inside c.args.number c.self.invariant c.in-2.is)

pub returns-in-3 : goal.returns-in-3
returns-in-3 c = rw (c.bit_of-bit.ensures, ← c.self.view_is) (with_fourth c.self.inside c.args.number c.self.invariant c.in-3.is)

pub returns-in-4 : goal.returns-in-4
returns-in-4 c = rw (c.bit_of-bit.ensures, ← c.self.view_is) (with_fifth c.self.inside c.args.number c.self.invariant c.in-4.is)

pub returns-in_default : goal.returns-in_default
returns-in_default c =
    let n = c.args.number in
    let zero_not : n / 64 ≢ 0 = search rules in
    let one_not : n / 64 ≢ 1 = search rules in
    let two_not : n / 64 ≢ 2 = search rules in
    let three_not : n / 64 ≢ 3 = search rules in
    let four_not : n / 64 ≢ 4 = search rules in
    let none : opening n ≡ 0 = opening_none n (omega (arith, zero_not, one_not, two_not, three_not, four_not)) in
    sym (ap (bit_or c.args.self.now) none ∙ or_zero_r c.args.self.now)
