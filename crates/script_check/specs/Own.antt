-- What is wrong with a value that should have a form, its parts apart.
use Rattle.std.specs.Prelude.{ℕ, suc, ℤ, pos, ◌&&◌, ◌==◌, not, nat_le, nat_lt, int_le, Bool, true, false, if◌then◌else◌, List, [], ◌∷◌, ◌++◌, length, Option, Some, None, is_some, is_none}
use Rattle.std.specs.List.{list_any}
use Rattle.std.specs.Str.{bytes_eq}
use Rattle.serde_json.specs.Data.{Num, unsigned, negative, float, Data, Items, Members, no_members, member, depth}
use Rattle.serde_json.specs.Find.{get, as_null, as_bool, as_number, as_array, as_object}
use Rattle.loop_script.specs.Form.{kind, action, tree, Form, whole, whole_or_null, signed, truth, list, lanes, pair, an, one_of, Key}
use Rattle.loop_script.specs.Tables.{keys}
use Rattle.loop_script.specs.Place.{count, size, asked}
use Rattle.loop_script.specs.Misfit.{contexts_in}
use Rattle.script_check.specs.declared.fault.Cause.{Cause}
use Rattle.script_check.specs.declared.fault.Cause.TheVariants.{OtherType, OtherWord, OtherLength, OtherKey, NoKey, Range, Count, Contexts, Depth}

-- a cause, where a test holds
abbrev pub where_so : Bool → Cause → List Cause
where_so true c = c ∷ []
where_so false c = []

-- n is outside of the range
abbrev pub is_outside : ℕ → ℕ → ℕ → Bool
is_outside low high n = not (nat_le low n && nat_le n high)

-- the same of a number that may be below 0
abbrev pub is_integer_outside : ℤ → ℤ → ℤ → Bool
is_integer_outside low high z = not (int_le low z && int_le z high)

-- what should be a whole number
abbrev pub of_whole : ℕ → ℕ → Option Num → List Cause
of_whole low high None = OtherType ∷ []
of_whole low high (Some (unsigned n)) = where_so (is_outside low high n) Range
of_whole low high (Some (negative z)) = Range ∷ []
of_whole low high (Some (float x)) = OtherType ∷ []

-- the same where it may be below 0
abbrev pub of_signed : ℤ → ℤ → Option Num → List Cause
of_signed low high None = OtherType ∷ []
of_signed low high (Some (unsigned n)) = where_so (is_integer_outside low high (pos n)) Range
of_signed low high (Some (negative z)) = where_so (is_integer_outside low high z) Range
of_signed low high (Some (float x)) = OtherType ∷ []

-- what should be a list of so many items
abbrev pub of_list : ℕ → ℕ → Option Items → List Cause
of_list low high None = OtherType ∷ []
of_list low high (Some ds) = where_so (is_outside low high (count ds)) Count

-- lanes, which have so many contexts together at most
abbrev pub of_contexts : ℕ → Option Items → List Cause
of_contexts most None = []
of_contexts most (Some ds) = where_so (nat_lt most (contexts_in ds)) Contexts

-- whether a list has n parts, by its size where it is one
abbrev pub has_size : ℕ → Option ℕ → Bool
has_size n None = false
has_size n (Some m) = m == n

-- each member, from the n-th on, whose key stands in no row of the table
abbrev pub other_keys : List Key → ℕ → Members → List Cause
other_keys ks n no_members = []
other_keys ks n (member k d ms) = where_so (not (list_any (λ key. bytes_eq k key.name) ks)) (OtherKey n) ++ other_keys ks (suc n) ms

-- each row, from the n-th on, whose key must be there and is absent
abbrev pub no_keys : ℕ → List Key → Data → List Cause
no_keys n [] d = []
no_keys n (k ∷ ks) d = where_so (k.needed && is_none (get k.name d)) (NoKey n) ++ no_keys (suc n) ks d

-- what should be an object with these keys
abbrev pub of_object : List Key → Data → Option Members → List Cause
of_object ks d None = OtherType ∷ []
of_object ks d (Some ms) = other_keys ks 0 ms ++ no_keys 0 ks d

-- what should begin with a word and have the parts behind it
abbrev pub of_word : Option (List Form) → Data → List Cause
of_word None d = OtherWord ∷ []
of_word (Some fs) d = where_so (not (has_size (suc (length fs)) (size d))) OtherLength

-- what is wrong with d where it should have the form
abbrev pub own : Form → Data → List Cause
own (whole low high) d = of_whole low high (as_number d)
own (whole_or_null low high) d = if is_some (as_null d) then [] else of_whole low high (as_number d)
own (signed low high) d = of_signed low high (as_number d)
own truth d = where_so (is_none (as_bool d)) OtherType
own (list low high f) d = of_list low high (as_array d)
own (lanes low high most) d = of_list low high (as_array d) ++ of_contexts most (as_array d)
own pair d = where_so (not (has_size 2 (size d))) OtherLength
own (an o) d = of_object (keys o) d (as_object d)
own (one_of kind) d = of_word (asked kind d) d
own (one_of action) d = of_word (asked action d) d
own (one_of (tree most)) d = of_word (asked (tree most) d) d ++ where_so (nat_lt most (depth d)) Depth
