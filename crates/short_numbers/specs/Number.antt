-- A number that a person writes as a word.
use Rattle.std.specs.Prelude.{◌≡◌, ◌≤◌, ℕ, List, length}
use Rattle.std.specs.Str.Parse.{IsNumeral, digits_value}

-- a number in 1 to 9 decimal digits
pub record IsNumber (word : List ℕ) (n : ℕ) : Type 0 where
  pub digits : IsNumeral 10 word
  pub few : length word ≤ 9
  pub value : digits_value 10 word ≡ n
