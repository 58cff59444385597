-- What digits are read as.
use Rattle.std.proofs.Common.{Bool, Option, Some, IfSome, ◌≡◌, ◌≤◌, ℕ, List, [], ◌∷◌, ◌&&◌, length, Result, Ok, Err, true, refl, sym, ap, ◌∙◌, subst, arith}
use Rattle.std.proofs.lemmas.Str.Parse.{IsNumeralModel, numerals_by_value, tells_all_ascii_digits, parse_gives, parse_digits, digits_value_short}
use Rattle.std.specs.Result.{result_ok}
use Rattle.std.specs.List.{list_all}
use Rattle.short_numbers.specs.Number.{IsNumber}
use Rattle.std.specs.Char.{is_ascii_digit}
use Rattle.std.specs.Str.{all_ascii_digits}
use Rattle.std.specs.Str.Parse.{AllDigits, digits_value, ParsesUnsigned}

all_same : (ds : List ℕ) → list_all is_ascii_digit ds ≡ all_ascii_digits ds
all_same [] = refl
all_same (c ∷ cs) = ap (λ (b : Bool). is_ascii_digit c && b) (all_same cs)

own : IsNumeralModel (λ ds. all_ascii_digits ds ≡ true) (digits_value 10)
own = numerals_by_value _ tells_all_ascii_digits

pub digits_all : (ds : List ℕ) → AllDigits 10 ds → list_all is_ascii_digit ds ≡ true
digits_all ds d = all_same ds ∙ own.from ds d

-- a number that is read is the one that the word tells
number_by : {E : Type 0} (w : List ℕ) (r : Result ℕ E) → ParsesUnsigned 32 10 w r → length w ≤ 9 → list_all is_ascii_digit w ≡ true → IfSome (result_ok r) (IsNumber w)
number_by w (Err e) parses few all = tt
number_by {E} w (Ok n) parses few all =
    let digits : all_ascii_digits w ≡ true = sym (all_same w) ∙ all in
    let number = parse_digits own {E = E} 32 w (Ok n) parses digits in
    record {
      digits = (number.0.0, own.to w digits);
      few = few;
      value = sym number.1;
    }

pub number_of : {E : Type 0} (w : List ℕ) (r : Result ℕ E) (o : Option ℕ) → o ≡ result_ok r → ParsesUnsigned 32 10 w r → length w ≤ 9 → list_all is_ascii_digit w ≡ true → IfSome o (IsNumber w)
number_of w r o e parses few all = subst (λ (p : Option ℕ). IfSome p (IsNumber w)) (sym e) (number_by w r parses few all)

-- a number that the word tells is read
pub read_as : {E : Type 0} (w : List ℕ) (n : ℕ) (r : Result ℕ E) (o : Option ℕ) → IsNumber w n → ParsesUnsigned 32 10 w r → o ≡ result_ok r → o ≡ Some n
read_as {E} w n r o is parses e =
    let d = own.from w is.digits.1 in
    let small = digits_value_short own w 9 d is.few in
    let read = parse_gives own {E = E} 32 w r parses d is.digits.0 (omega (arith, small)) in
    e ∙ ap result_ok read ∙ ap Some is.value
