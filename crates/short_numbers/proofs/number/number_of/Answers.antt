use Rattle.std.proofs.Common.{sym, ap, ◌∙◌, subst, ℕ, List, length, true, ◌≤◌, ◌≡◌, arith}
use Rattle.std.specs.List.{list_all}
use Rattle.std.specs.Char.{is_ascii_digit}
use Rattle.short_numbers.proofs.Digits.{digits_all, number_of, read_as}
use Rattle.short_numbers.proofs.number.number_of.Goals as goal
use Rattle.short_numbers.proofs.number.number_of.Goals.{then-digits-gt-MOST_DIGITS-via-then-digits-gt-MOST_DIGITS, then-digits-gt-MOST_DIGITS-via-else-digits-gt-MOST_DIGITS+then-not-are_digits}

pub returns-then-digits-gt-MOST_DIGITS-clause-exact : goal.returns-then-digits-gt-MOST_DIGITS-clause-exact
returns-then-digits-gt-MOST_DIGITS-clause-exact c n is =
    let bytes = c.as_bytes-digits.ensures.value in
    let few : length c.as_bytes-digits.result.now ≤ 9 = subst (λ (b : List ℕ). length b ≤ 9) (sym bytes) is.few in
    let all : list_all is_ascii_digit c.as_bytes-digits.result.now ≡ true = ap (list_all is_ascii_digit) bytes ∙ digits_all c.args.word.now is.digits.1 in
    elim c.then-digits-gt-MOST_DIGITS.branch [ then-digits-gt-MOST_DIGITS-via-then-digits-gt-MOST_DIGITS w ↦ absurd (omega arith) | then-digits-gt-MOST_DIGITS-via-else-digits-gt-MOST_DIGITS+then-not-are_digits w ↦ cc ]

pub returns-clause-number : goal.returns-clause-number
returns-clause-number c =
    let few : length c.args.word.now ≤ 9 = subst (λ (b : List ℕ). length b ≤ 9) c.as_bytes-digits.ensures.value c.if-digits-gt-MOST_DIGITS.false in
    let all : list_all is_ascii_digit c.args.word.now ≡ true = cc in
    number_of c.args.word.now c.parse.result c.ok.result c.ok.ensures.value c.parse.ensures.value.0 few all

pub returns-clause-exact : goal.returns-clause-exact
returns-clause-exact c n is = read_as c.args.word.now n c.parse.result c.ok.result is c.parse.ensures.value.0 c.ok.ensures.value
