-- The part of an order where a tree stands.
use Rattle.std.specs.Prelude.{Bool, not, ◌&&◌, [], ◌∷◌, slice_index}
use Rattle.std.specs.Ordering.{is_lt}
use Rattle.source_rows.specs.declared.row.Row.{Row}
use Rattle.source_rows.specs.declared.seats.Seat.{Seat}
use Rattle.source_rows.specs.Rows.{Key, key_cmp, key_of}
use Rattle.source_rows.specs.Row.{no_number}

-- the key before all rows of a tree, whose keys begin with its priority and its root's order number
abbrev pub first_key : Row → Key
first_key r = (r.priority, slice_index r.path 0 ∷ 0 ∷ 0 ∷ 0 ∷ [])

-- the key behind all rows of a tree
abbrev pub last_key : Row → Key
last_key r = (r.priority, slice_index r.path 0 ∷ no_number ∷ no_number ∷ no_number ∷ [])

-- a key lies between two others, or is one of them
abbrev pub lies_between : Key → Key → Key → Bool
lies_between first last k = not (is_lt (key_cmp k first)) && not (is_lt (key_cmp last k))

-- a seat stands between two keys
abbrev pub is_between : Key → Key → Seat → Bool
is_between first last s = lies_between first last s.key

-- a row stands between two keys
abbrev pub stands_between : Key → Key → Row → Bool
stands_between first last r = lies_between first last (key_of r)
