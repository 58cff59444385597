-- What a value without parts is in a script of numbers.
use Rattle.std.specs.Prelude.{ℕ, zero, suc, ◌+◌, ◌*◌, ◌-◌, ◌^◌, ◌/◌, ◌%◌, ◌==◌, ◌&&◌, min, List, [], ◌∷◌, length, Bool, true, false, nat_le, if◌then◌else◌, Option, Some, None, option_map, option_and_then, is_some, decimal, codes, bit_or, nat_lt}
use Rattle.std.specs.List.{position_or_len, before_first, after_first}
use Rattle.std.specs.Str.{bytes_eq}
use Rattle.json.specs.Json.{Json, Items, no_items, item}
use Rattle.json.specs.Find.{as_str, as_number, as_bool, as_array, is_null}
use Rattle.json.specs.Token as token
use Rattle.json.specs.Token.{Token}
use Rattle.named.specs.Names.{Names, of_kind, number_of}
use Rattle.named.specs.declared.sort.Kind.{Kind}
use Rattle.named.specs.declared.sort.Leaf.{Leaf}
use Rattle.named.specs.declared.sort.Leaf.TheVariants as leaves

-- ---- numbers

-- a number as it is written
abbrev pub as_it_is : List ℕ → List Token
as_it_is s = token.number s ∷ []

abbrev pub whole : ℕ → List Token
whole n = token.number (decimal n) ∷ []

-- ---- times

abbrev pub is_digit : ℕ → Bool
is_digit x = nat_le 48 x && nat_le x 57

-- no amount is above this one
abbrev pub top : ℕ
top = 2 ^ 64 - 1

-- an amount with one more digit behind it, at most the greatest
abbrev pub and_digit : ℕ → ℕ → ℕ
and_digit n x = min (min (n * 10) top + (x - 48)) top

-- the amount that the digits at the front say, behind those that said n
abbrev pub amount : ℕ → List ℕ → ℕ
amount n [] = n
amount n (x ∷ xs) = if is_digit x then amount (and_digit n x) xs else n

-- what is behind the digits at the front
abbrev pub behind : List ℕ → List ℕ
behind [] = []
behind (x ∷ xs) = if is_digit x then behind xs else x ∷ xs

abbrev pub begins_with_digit : List ℕ → Bool
begins_with_digit [] = false
begins_with_digit (x ∷ xs) = is_digit x

-- how many microseconds a unit has
abbrev pub unit : List ℕ → Option ℕ
unit s = if bytes_eq s (codes " us") then Some 1 else if bytes_eq s (codes " ms") then Some 1000 else if bytes_eq s (codes " s") then Some 1000000 else None

-- a time, as `16 ms`, in microseconds
abbrev pub time : List ℕ → Option ℕ
time s = if begins_with_digit s then option_map (λ u. min (amount 0 s * u) top) (unit (behind s)) else None

-- the same where it is whole milliseconds
abbrev pub in_milliseconds : ℕ → Option ℕ
in_milliseconds us = if us % 1000 == 0 then Some (us / 1000) else None

-- ---- conditions of a descriptor: words with bars between them, 32 at most

abbrev pub bit : List ℕ → Option ℕ
bit s =
    if bytes_eq s (codes "IN") then Some 1
    else if bytes_eq s (codes "PRI") then Some 2
    else if bytes_eq s (codes "OUT") then Some 4
    else if bytes_eq s (codes "ERR") then Some 8
    else if bytes_eq s (codes "HUP") then Some 16
    else if bytes_eq s (codes "NVAL") then Some 32
    else None

abbrev pub is_bar : ℕ → Bool
is_bar x = x == 124

abbrev pub has_bar : List ℕ → Bool
has_bar s = nat_lt (position_or_len is_bar s) (length s)

abbrev pub both : Option ℕ → Option ℕ → Option ℕ
both (Some b) (Some c) = Some (bit_or b c)
both a b = None

-- the bits of so many words at most
abbrev pub bits_in : ℕ → List ℕ → Option ℕ
bits_in zero s = None
bits_in (suc n) s = if has_bar s then both (bit (before_first is_bar s)) (bits_in n (after_first is_bar s)) else bit s

-- an empty text asks for none
abbrev pub bits : List ℕ → Option ℕ
bits s = if length s == 0 then Some 0 else bits_in 32 s

-- ---- words

-- GLib's priorities
abbrev pub priority : List ℕ → Option (List ℕ)
priority s =
    if bytes_eq s (codes "HIGH") then Some (codes "-100")
    else if bytes_eq s (codes "DEFAULT") then Some (codes "0")
    else if bytes_eq s (codes "HIGH_IDLE") then Some (codes "100")
    else if bytes_eq s (codes "DEFAULT_IDLE") then Some (codes "200")
    else if bytes_eq s (codes "LOW") then Some (codes "300")
    else None

-- how many dispatches a source outlives, in GLib's words: all, or none
abbrev pub keep : List ℕ → Option (List Token)
keep s = if bytes_eq s (codes "CONTINUE") then Some (token.null ∷ []) else if bytes_eq s (codes "REMOVE") then Some (whole 0) else None

-- ---- values

-- how many names a list has, where it has nothing else
abbrev pub names_among : ℕ → Items → Option ℕ
names_among n no_items = Some n
names_among n (item j js) = if is_some (as_str j) then names_among (suc n) js else None

-- the number of a name of a kind
abbrev pub name : Kind → Names → Json → Option (List Token)
name k ns j = option_map whole (option_and_then (λ s. number_of s (of_kind k ns)) (as_str j))

-- how many names a list has
abbrev pub count : Json → Option (List Token)
count j = option_map whole (option_and_then (names_among 0) (as_array j))

abbrev pub number_in : Json → Option (List Token)
number_in j = option_map as_it_is (as_number j)

abbrev pub time_in : Json → Option ℕ
time_in j = option_and_then time (as_str j)

abbrev pub is_never : Option (List ℕ) → Bool
is_never None = false
is_never (Some s) = bytes_eq s (codes "never")

-- true, and nothing for it
abbrev pub true_alone : Option Bool → Option (List Token)
true_alone None = None
true_alone (Some false) = None
true_alone (Some true) = Some []

-- what stands in a script of numbers for j; None where j is none of these
abbrev pub leaf : Leaf → Names → Json → Option (List Token)
leaf (leaves.Name k) ns j = name k ns j
leaf (leaves.NameOrNull k) ns j = if is_null j then Some (token.null ∷ []) else name k ns j
leaf leaves.Names ns j = count j
leaf leaves.Priority ns j = if is_some (as_str j) then option_map as_it_is (option_and_then priority (as_str j)) else number_in j
leaf leaves.Bits ns j = option_map whole (option_and_then bits (as_str j))
leaf leaves.Milliseconds ns j = option_map whole (option_and_then in_milliseconds (time_in j))
leaf leaves.Microseconds ns j = option_map whole (time_in j)
leaf leaves.ReadyTime ns j = if is_never (as_str j) then Some (as_it_is (codes "-1")) else option_map whole (time_in j)
leaf leaves.Keep ns j = if is_null j then Some (token.null ∷ []) else if is_some (as_str j) then option_and_then keep (as_str j) else number_in j
leaf leaves.True ns j = true_alone (as_bool j)
leaf leaves.Label ns j = if is_some (as_str j) then Some [] else true_alone (as_bool j)
leaf leaves.Number ns j = number_in j
leaf leaves.Truth ns j = option_map (λ b. token.boolean b ∷ []) (as_bool j)
