use Rattle.std.proofs.Common.{◌≡◌, ℕ, suc, List, ◌+◌, ◌-◌, ◌++◌, arith, length, drop, ap, to_z-of_z}
use Rattle.std.proofs.lemmas.Fmt.{length-decimal-le}
use Rattle.std.proofs.lemmas.List.{drop-set}
use Rattle.std.specs.Fmt.{decimal, signed_decimal}
use Rattle.itoa.proofs.Decimal.{minus_first}
use Rattle.mainctx.proofs.ending.put_signed.Goals as goal

pub write_digits-start-requires : goal.write_digits-start-requires
write_digits-start-requires c = (omega (arith, length-decimal-le 19 c.unsigned_abs.result (omega arith) (omega arith) (omega arith)), omega arith)

pub returns-then-number-ge0-clause-short : goal.returns-then-number-ge0-clause-short
returns-then-number-ge0-clause-short c = omega (arith, length-decimal-le 19 c.unsigned_abs.result (omega arith) (omega arith) (omega arith))

pub overflow_sub-bytes : goal.overflow_sub-bytes
overflow_sub-bytes c = omega (arith, length-decimal-le 19 c.unsigned_abs.result (omega arith) (omega arith) (omega arith))

pub overflow_sub-result : goal.overflow_sub-result
overflow_sub-result c = omega (arith, length-decimal-le 19 c.unsigned_abs.result (omega arith) (omega arith) (omega arith))

pub returns-clause-start : goal.returns-clause-start
returns-clause-start c =
    let long = length-decimal-le 19 c.unsigned_abs.result (omega arith) (omega arith) (omega arith) in
    let back = to_z-of_z c.ranges.number in
    let abs = rw back at c.unsigned_abs.ensures.value in
    let one : suc (length (decimal c.unsigned_abs.result)) ≡ length (signed_decimal c.args.number) = rw abs (ap length (minus_first c.args.number (rw back at c.if-number-ge0.false))) in
    omega (arith, one)

pub returns-clause-short : goal.returns-clause-short
returns-clause-short c = omega (arith, length-decimal-le 19 c.unsigned_abs.result (omega arith) (omega arith) (omega arith))

pub returns-clause-written : goal.returns-clause-written
returns-clause-written c =
    let w = c.write_digits-start in
    let long = length-decimal-le 19 c.unsigned_abs.result (omega arith) (omega arith) (omega arith) in
    let e : w.result - 1 + 1 ≡ w.result = omega arith in
    let back = to_z-of_z c.ranges.number in
    rw (drop-set w.new.buf (w.result - 1) 45 (omega arith), e, w.ensures.written, c.unsigned_abs.ensures.value, back)
    (ap (λ (t : List ℕ). t ++ drop c.args.end c.args.bytes.now) (minus_first c.args.number (rw back at c.if-number-ge0.false)))
