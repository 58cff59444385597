-- The two ways in which a value can miss its form: some part has the wrong shape, or some number or count is out of range.
use Rattle.std.specs.Prelude.{◌≡◌, ◌≢◌, ◌<◌, ◌<ℤ◌, ◌⊎◌, ℕ, suc, ◌+◌, ℤ, true, false, List, length, codes, Option, Some, None, option_and_then}
use Rattle.std.specs.List.{list_any}
use Rattle.std.specs.Str.{bytes_eq}
use Rattle.serde_json.specs.Data.{Data, number, unsigned, negative, Items, no_items, item, Members, no_members, member, depth}
use Rattle.serde_json.specs.Find.{get, as_null, as_bool, as_number, as_array, as_object, as_integer}
use Rattle.loop_script.specs.Form.{kind, action, tree, Form, whole, whole_or_null, signed, truth, list, lanes, pair, an, one_of, Key}
use Rattle.loop_script.specs.Tables.{keys, pair_parts}
use Rattle.loop_script.specs.Place.{SomeOf, size, asked, StandsIn}

-- the whole number that a value is; a number that is held as a float is none
abbrev pub integer_of : Data → Option ℤ
integer_of d = option_and_then as_integer (as_number d)

-- ---- shape

-- some key of the members stands in no row of a table
abbrev pub HasOtherKey : List Key → Members → Type 0
HasOtherKey ks no_members = ⊥
HasOtherKey ks (member k d ms) = (list_any (λ key. bytes_eq k key.name) ks ≡ false) ⊎ HasOtherKey ks ms

-- no object, or one with a key that the table lacks
abbrev pub HasNotKeysAlone : List Key → Option Members → Type 0
HasNotKeysAlone ks None = Unit {0}
HasNotKeysAlone ks (Some ms) = HasOtherKey ks ms

-- some key that must be there is absent
abbrev pub LacksKey : List Key → Data → Type 0
LacksKey ks d = SomeOf (λ k. (k.needed ≡ true) × (get k.name d ≡ None)) ks

-- the word at the front is none of those, or what stands behind it is too little or too much
abbrev pub HasOtherParts : Option (List Form) → Data → Type 0
HasOtherParts None d = Unit {0}
HasOtherParts (Some fs) d = size d ≢ Some (suc (length fs))

-- d has another type, word, length or number than the form asks for, lacks a key, or has an unknown one; its parts apart
abbrev pub HasOtherShape : Form → Data → Type 0
HasOtherShape (whole low high) d = integer_of d ≡ None
HasOtherShape (whole_or_null low high) d = (as_null d ≡ None) × (integer_of d ≡ None)
HasOtherShape (signed low high) d = integer_of d ≡ None
HasOtherShape truth d = as_bool d ≡ None
HasOtherShape (list low high f) d = as_array d ≡ None
HasOtherShape (lanes low high most) d = as_array d ≡ None
HasOtherShape pair d = size d ≢ Some (length pair_parts)
HasOtherShape (an o) d = HasNotKeysAlone (keys o) (as_object d) ⊎ LacksKey (keys o) d
HasOtherShape (one_of c) d = HasOtherParts (asked c d) d

-- ---- range

-- n is less than low or more than high
abbrev pub IsOutside : ℕ → ℕ → ℕ → Type 0
IsOutside low high n = (n < low) ⊎ (high < n)

-- d is a number that is outside; one below 0 is
abbrev pub IsNumberOutside : ℕ → ℕ → Data → Type 0
IsNumberOutside low high (number (unsigned n)) = IsOutside low high n
IsNumberOutside low high (number (negative z)) = Unit {0}
IsNumberOutside low high _ = ⊥

-- the same where the range may begin below 0
abbrev pub IsIntegerOutside : ℤ → ℤ → Data → Type 0
IsIntegerOutside low high d = (z : ℤ) × (integer_of d ≡ Some z) × ((z <ℤ low) ⊎ (high <ℤ z))

-- d is a list of too few or too many items
abbrev pub HasCountOutside : ℕ → ℕ → Data → Type 0
HasCountOutside low high d = (n : ℕ) × (size d ≡ Some n) × IsOutside low high n

-- the number under `contexts`
abbrev pub contexts_of : Option Data → ℕ
contexts_of (Some (number (unsigned n))) = n
contexts_of _ = 0

-- how many contexts lanes have together
abbrev pub contexts_in : Items → ℕ
contexts_in no_items = 0
contexts_in (item d ds) = contexts_of (get (codes "contexts") d) + contexts_in ds

-- d is a list of lanes that have more contexts together than so many
abbrev pub HasMoreContexts : ℕ → Data → Type 0
HasMoreContexts most d = (ds : Items) × (as_array d ≡ Some ds) × (most < contexts_in ds)

-- d is a number out of range, has too few or too many items or contexts, or goes too deep; its parts apart. The lists of a
-- tree nest as deep as the tree goes
abbrev pub IsOutOfRange : Form → Data → Type 0
IsOutOfRange (whole low high) d = IsNumberOutside low high d
IsOutOfRange (whole_or_null low high) d = IsNumberOutside low high d
IsOutOfRange (signed low high) d = IsIntegerOutside low high d
IsOutOfRange truth d = ⊥
IsOutOfRange (list low high f) d = HasCountOutside low high d
IsOutOfRange (lanes low high most) d = HasCountOutside low high d ⊎ HasMoreContexts most d
IsOutOfRange pair d = ⊥
IsOutOfRange (an o) d = ⊥
IsOutOfRange (one_of kind) d = ⊥
IsOutOfRange (one_of action) d = ⊥
IsOutOfRange (one_of (tree most)) d = most < depth d

-- ---- anywhere in a value

-- where d should have the form f, something that is so stands in it
abbrev pub Somewhere : (Form → Data → Type 0) → Form → Data → Type 0
Somewhere P f d = (g : Form) × (e : Data) × StandsIn f d g e × P g e

-- some part has a wrong type, key, word, length or number
abbrev pub IsMisshapen : Form → Data → Type 0
IsMisshapen = Somewhere HasOtherShape

-- some number or count is out of range
abbrev pub IsBeyond : Form → Data → Type 0
IsBeyond = Somewhere IsOutOfRange
