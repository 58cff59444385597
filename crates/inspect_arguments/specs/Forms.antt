-- What the values of flags stand for.
use Rattle.std.specs.Prelude.{◌≡◌, ◌++◌, ℕ, List}
use Rattle.short_numbers.specs.Number.{IsNumber}

-- two numbers, with a text between them
pub record AreNumbers (between text : List ℕ) (first second : ℕ) : Type 0 where
  pub front : List ℕ
  pub back : List ℕ
  pub parts : text ≡ front ++ (between ++ back)
  pub left : IsNumber front first
  pub right : IsNumber back second
