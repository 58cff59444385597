-- The word that version 2 alone has.
use Rattle.std.specs.Prelude.{◌≡◌, ◌⊎◌, ◌&&◌, ◌||◌, ◌==◌, not, ℕ, Bool, false, List, [], ◌∷◌, codes, Option, Some, None, option_and_then}
use Rattle.std.specs.List.{list_any}
use Rattle.std.specs.Str.{bytes_eq}
use Rattle.serde_json.specs.Data.{Data, Items, no_items, item}
use Rattle.serde_json.specs.Find.{get, as_array, as_number, as_u64}
use Rattle.loop_script.specs.Array.{word}
use Rattle.loop_script.specs.Place.{front}
use Rattle.loop_script.specs.Meaning.{under, nth, IsWhole}

-- ---- said by places

-- a list that begins with the word `give`
abbrev pub IsGive : Option Data → Type 0
IsGive o = option_and_then front o ≡ Some (codes "give")

-- some item of a list is so
abbrev pub SomeAt : (Option Data → Type 0) → Option Data → Type 0
SomeAt P o = (n : ℕ) × P (nth n o)

-- of the items under the first key some has a `give` in the list under the second
abbrev pub GivesUnder : List ℕ → List ℕ → Data → Type 0
GivesUnder owners actions d = SomeAt (λ owner. SomeAt IsGive (under actions owner)) (under owners (Some d))

-- some lane or procedure has a `give`
abbrev pub Gives : Data → Type 0
Gives d = GivesUnder (codes "lanes") (codes "start") d ⊎ GivesUnder (codes "procs") (codes "do") d

-- a script of another version than 2 has a `give`
pub record GivesOutsideVersion2 (d : Data) : Type 0 where
  pub version : IsWhole (under (codes "version") (Some d)) 2 → ⊥
  pub gives : Gives d

-- ---- looked for

-- a version is 2
abbrev pub is_two : Option ℕ → Bool
is_two None = false
is_two (Some n) = n == 2

-- the version that a script tells is 2
abbrev pub is_version_2 : Data → Bool
is_version_2 d = is_two (option_and_then (λ e. option_and_then as_u64 (as_number e)) (get (codes "version") d))

-- an action begins with the word `give`
abbrev pub begins_give : Data → Bool
begins_give d = bytes_eq (word (Some d)) (codes "give")

-- the items of a list
abbrev pub items_in : Items → List Data
items_in no_items = []
items_in (item d ds) = d ∷ items_in ds

-- the items, where there are some
abbrev pub items_or_none : Option Items → List Data
items_or_none None = []
items_or_none (Some ds) = items_in ds

-- the items of what may be a list; what is none has none
abbrev pub listed : Option Data → List Data
listed o = items_or_none (option_and_then as_array o)

-- some action of a list begins with the word `give`
abbrev pub list_gives : Option Data → Bool
list_gives o = list_any begins_give (listed o)

-- some action in the lists under a key of lanes or procedures begins so
abbrev pub some_gives : List ℕ → Option Data → Bool
some_gives key o = list_any (λ d. list_gives (get key d)) (listed o)

-- some action of a script begins so, and its version is not 2
abbrev pub gives_outside_version_2 : Data → Bool
gives_outside_version_2 d = not (is_version_2 d) && (some_gives (codes "start") (get (codes "lanes") d) || some_gives (codes "do") (get (codes "procs") d))
