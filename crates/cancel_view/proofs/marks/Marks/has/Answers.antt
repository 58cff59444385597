use Rattle.std.proofs.Common.{rules, arith, ◌≡◌, ◌≢◌, ◌/◌, ◌%◌, ◌^◌}
use Rattle.cancel_view.specs.Marks.{opening}
use Rattle.cancel_view.specs.Words.{in_words}
use Rattle.cancel_view.proofs.Words.{has_word, has_none, opening_none}
use Rattle.cancel_view.proofs.marks.Marks.has.Goals.{in-0, in-1, in-2, in-3, in-4, in_default}
use Rattle.cancel_view.proofs.marks.Marks.has.Goals as goal

pub returns : goal.returns
returns c =
    let m = c.self.inside in
    let n = c.args.number in
    rw (c.bit_of.ensures, ← c.self.view_is) (elim c.match-number-div64.branch [
      | in-0 w ↦ rw w.word-is (has_word m n 0 c.self.invariant w.in-0.is (omega arith))
      | in-1 w ↦ rw w.word-is (has_word m n 1 c.self.invariant w.in-1.is (omega arith))
      | in-2 w ↦ rw w.word-is (has_word m n 2 c.self.invariant w.in-2.is (omega arith))
      | in-3 w ↦ rw w.word-is (has_word m n 3 c.self.invariant w.in-3.is (omega arith))
      | in-4 w ↦ rw w.word-is (has_word m n 4 c.self.invariant w.in-4.is (omega arith))
      | in_default w ↦
          let zero_not : n / 64 ≢ 0 = search rules in
          let one_not : n / 64 ≢ 1 = search rules in
          let two_not : n / 64 ≢ 2 = search rules in
          let three_not : n / 64 ≢ 3 = search rules in
          let four_not : n / 64 ≢ 4 = search rules in
          let none : opening n ≡ 0 = opening_none n (omega (arith, zero_not, one_not, two_not, three_not, four_not)) in
          rw (w.word-is, none) (has_none (2 ^ (n % 64)) (in_words m))
    ])
