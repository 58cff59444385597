-- Entries by rising id, of which some have a value no more.
use Rattle.std.specs.Prelude.{◌≡◌, ◌≢◌, ℕ, ◌<◌, Bool, is_some, Option, Some, List, [], ◌∷◌}
use Rattle.std.specs.List.{AllByRecursion, slice_get, cons_option}
use Rattle.std.specs.Option.{option_map}
use Rattle.by_id.specs.declared.entry.Entry.{Entry}

module _ {T : Type 0} where
  -- whether an entry has its value
  abbrev pub lives : Entry T → Bool
  lives e = is_some e.value

  -- an entry's id with its value
  abbrev pub pair_of : Entry T → Option (ℕ × T)
  pair_of e = option_map (λ v. (e.id, v)) e.value

  -- the ids that have a value, with that
  abbrev pub living : List (Entry T) → List (ℕ × T)
  living [] = []
  living (e ∷ es) = cons_option (pair_of e) (living es)

  -- the ids rise
  abbrev pub IdsRise : List (Entry T) → Type 0
  IdsRise [] = Unit {0}
  IdsRise (e ∷ es) = AllByRecursion (λ q. e.id < q.id) es × IdsRise es

  -- the entry at a place has the id
  abbrev pub IsAt : ℕ → List (Entry T) → ℕ → Type 0
  IsAt id es at = option_map (λ e. e.id) (slice_get es at) ≡ Some id

  -- no entry has the id
  abbrev pub HasNot : ℕ → List (Entry T) → Type 0
  HasNot id es = AllByRecursion (λ e. e.id ≢ id) es
