-- What is answered of a script with names.
use Rattle.std.specs.Prelude.{◌≡◌, ◌≢◌, ℕ, List, [], Bool, true, false, map, codes, if◌then◌else◌, Option, None, Some, is_some, option_and_then, IsUtf8}
use Rattle.std.specs.Str.{bytes_eq}
use Rattle.json.specs.Json.{Json, document}
use Rattle.json.specs.Find.{as_str}
use Rattle.json.specs.Print.{print}
use Rattle.named.specs.Names.{under}
use Rattle.named.specs.Written.{script_tokens}
use Rattle.named.specs.Faults.{script_faults}
use Rattle.named.specs.Views.{found_of}
use Rattle.named.specs.declared.word.Word.TheVariants as word
use Rattle.named.specs.declared.translation.Translation.{Translation}
use Rattle.named.specs.declared.translation.Translation.TheVariants as translations

-- a text says that a script has names
abbrev pub says_names : Option (List ℕ) → Bool
says_names None = false
says_names (Some s) = bytes_eq s (codes "names")

-- a script says under `form` that it has names
abbrev pub is_named : Json → Bool
is_named j = says_names (option_and_then as_str (under word.Form j))

-- it has a key that no script of numbers has: that of the form or that of the threads
abbrev pub is_meant_named : Json → Bool
is_meant_named j = if is_some (under word.Form j) then true else is_some (under word.Threads j)

-- a script without a fault is translated, and of any other all faults are told
abbrev pub Translates : Json → Translation → Type 0
Translates j (translations.Script bytes) = (script_faults j ≡ []) × (bytes.items ≡ print (script_tokens j))
Translates j (translations.Faults fs) = (map found_of fs.items ≡ script_faults j) × (script_faults j ≢ [])

-- bytes are a script with names without a fault, and these are the script of numbers
abbrev pub StandsFor : List ℕ → List ℕ → Type 0
StandsFor bytes numbered = (j : Json) × IsUtf8 bytes × (document bytes ≡ Some j) × (is_named j ≡ true) × (script_faults j ≡ []) × (numbered ≡ print (script_tokens j))

-- that script of numbers, where bytes stand for one
abbrev pub StandsForAny : List ℕ → Option (List ℕ) → Type 0
StandsForAny bytes (Some numbered) = StandsFor bytes numbered
StandsForAny bytes None = (numbered : List ℕ) → StandsFor bytes numbered → ⊥
