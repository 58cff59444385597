-- Which values stand in a value that should have a form, and the form that each should have.
use Rattle.std.specs.Prelude.{◌≡◌, ◌⊎◌, ℕ, zero, suc, List, [], ◌∷◌, Option, Some, None, option_and_then, option_map, if◌then◌else◌}
use Rattle.std.specs.Str.{bytes_eq}
use Rattle.serde_json.specs.Data.{Data, Items, no_items, item}
use Rattle.serde_json.specs.Find.{get, at, as_array, as_str}
use Rattle.loop_script.specs.Form.{Choice, Form, whole, whole_or_null, signed, truth, list, lanes, pair, an, one_of, lane, Word}
use Rattle.loop_script.specs.Tables.{keys, words, pair_parts}

-- some entry of a table is so
abbrev pub SomeOf : {A : Type 0} → (A → Type 0) → List A → Type 0
SomeOf P [] = ⊥
SomeOf P (x ∷ xs) = P x ⊎ SomeOf P xs

-- how many items there are
abbrev pub count : Items → ℕ
count no_items = zero
count (item d ds) = suc (count ds)

-- how long a list is
abbrev pub size : Data → Option ℕ
size d = option_map count (as_array d)

-- the text at the front of a list
abbrev pub front : Data → Option (List ℕ)
front d = option_and_then as_str (at 0 d)

-- the forms of the parts behind a word, where a table has it
abbrev pub parts_of : List Word → List ℕ → Option (List Form)
parts_of [] w = None
parts_of (v ∷ vs) w = if bytes_eq w v.word then Some v.parts else parts_of vs w

-- the forms of the parts behind the word at the front
abbrev pub asked : Choice → Data → Option (List Form)
asked c d = option_and_then (parts_of (words c)) (front d)

-- e is one of the items
abbrev pub IsItem : Data → Items → Type 0
IsItem e no_items = ⊥
IsItem e (item d ds) = (d ≡ e) ⊎ IsItem e ds

-- e is an item of the list d
abbrev pub IsItemOf : Data → Data → Type 0
IsItemOf e d = (ds : Items) × (as_array d ≡ Some ds) × IsItem e ds

-- of the parts of a list, from the n-th on, which should have these forms, e is one that should have the form g
abbrev pub IsPartFrom : ℕ → List Form → Data → Form → Data → Type 0
IsPartFrom n [] d g e = ⊥
IsPartFrom n (f ∷ fs) d g e = ((f ≡ g) × (at n d ≡ Some e)) ⊎ IsPartFrom (suc n) fs d g e

-- the same of the parts behind a word
abbrev pub IsPartBehind : Option (List Form) → Data → Form → Data → Type 0
IsPartBehind None d g e = ⊥
IsPartBehind (Some fs) d g e = IsPartFrom 1 fs d g e

-- where d should have the form f, its part e should have the form g
abbrev pub IsPart : Form → Data → Form → Data → Type 0
IsPart (whole low high) d g e = ⊥
IsPart (whole_or_null low high) d g e = ⊥
IsPart (signed low high) d g e = ⊥
IsPart truth d g e = ⊥
IsPart (list low high f) d g e = (f ≡ g) × IsItemOf e d
IsPart (lanes low high most) d g e = (an lane ≡ g) × IsItemOf e d
IsPart pair d g e = IsPartFrom 0 pair_parts d g e
IsPart (an o) d g e = SomeOf (λ k. (k.form ≡ g) × (get k.name d ≡ Some e)) (keys o)
IsPart (one_of c) d g e = IsPartBehind (asked c d) d g e

-- where d should have the form f, it is x, or x stands somewhere in it, and should have the form h
pub data StandsIn : Form → Data → Form → Data → Type 0 where
  itself : (f : Form) (d : Data) → StandsIn f d f d
  inside : (f g h : Form) (d e x : Data) → IsPart f d g e → StandsIn g e h x → StandsIn f d h x
