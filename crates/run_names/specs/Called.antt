-- What the things of a run are called, by the names that its script gives.
use Rattle.std.specs.Prelude.{◌≡◌, ℕ, List, Option, Some, None, true, false, IfSome, map, slice_get, String, string_bytes}
use Rattle.std.specs.Str.{IsUtf8}
use Rattle.json.specs.Json.{Json, document}
use Rattle.named.specs.Answer.{is_named}
use Rattle.named.specs.Names.{Names, names_in, number_of, of_kind}
use Rattle.named.specs.declared.sort.Kind.{Kind}

-- the texts of strings
abbrev pub as_texts : {A : Type 0} → List (String A) → List (List ℕ)
as_texts = map string_bytes

-- each name has the number of the place where it stands among those of its kind, so that no two things of a kind share one
abbrev pub HaveNumbers : Names → Type 0
HaveNumbers ns = (kind : Kind) (n : ℕ) → IfSome (slice_get (of_kind kind ns) n) (λ name. number_of name (of_kind kind ns) ≡ Some n)

-- the names of bytes, where these are a script with names
abbrev pub AreOf : List ℕ → Option Names → Type 0
AreOf bytes None = IsUtf8 bytes → (j : Json) → document bytes ≡ Some j → is_named j ≡ false
AreOf bytes (Some ns) = (j : Json) × (document bytes ≡ Some j) × (is_named j ≡ true) × (ns ≡ names_in j)

-- the name of a number: that which stands there among those of its kind, where there are names
abbrev pub name_in : Kind → ℕ → Option Names → Option (List ℕ)
name_in kind n None = None
name_in kind n (Some ns) = slice_get (of_kind kind ns) n
