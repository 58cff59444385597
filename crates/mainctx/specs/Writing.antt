-- What one call of a writer takes and counts, and what a call that stops early leaves.
use Rattle.std.specs.Prelude.{◌≡◌, ℕ, zero, suc, List, [], ◌∷◌, ◌++◌, take, Option, Result, Ok, Err}
use Rattle.std.specs.Io.KnownBytes.{Appends}

-- the bytes that a write takes
abbrev pub took : {E : Type 0} → Result ℕ E → List ℕ → List ℕ
took (Ok n) bytes = take n bytes
took (Err e) bytes = []

-- 1 where a write failed, or took none of some bytes
abbrev pub missed : {E : Type 0} → Result ℕ E → List ℕ → ℕ
missed (Ok zero) [] = 0
missed (Ok zero) (b ∷ bytes) = 1
missed (Ok (suc n)) bytes = 0
missed (Err e) bytes = 1

-- a prefix of the text was added to a list
pub record AddsPrefix (old new text : List ℕ) : Type 0 where
  pub prefix : List ℕ
  pub rest : List ℕ
  pub whole : prefix ++ rest ≡ text
  pub added : new ≡ old ++ prefix

-- what is told as taken, and what the writer itself holds where that is known, grew by the same bytes
pub record GrowAlike (old new : List ℕ) (held holds : Option (List ℕ)) : Type 0 where
  pub bytes : List ℕ
  pub told : new ≡ old ++ bytes
  pub known : Appends held holds bytes

-- of some bytes that waited and some more a prefix was taken, and the rest waits
pub record PassesOn (old new waited waits more : List ℕ) : Type 0 where
  pub prefix : List ℕ
  pub whole : prefix ++ waits ≡ waited ++ more
  pub added : new ≡ old ++ prefix
