-- What holds of all rows, unless a flag says that it may not: it still does after an edit.
use Rattle.std.proofs.Common.{◌≡◌, ℕ, Bool, true, false, not, cond, is_some, ◌||◌, Option, Some, None, List, [], ◌∷◌, ◌++◌, filter, refl}
use Rattle.std.specs.List.{AllByRecursion}
use Rattle.source_rows.specs.declared.row.Row.{Row}
use Rattle.source_rows.specs.Rows.{row_of, has_id, changed}
use Rattle.source_rows.specs.Slots.{asks}
use Rattle.source_rows.proofs.Compared.{or_parts}
use Rattle.source_rows.proofs.Forest.{found}
use Rattle.source_rows.proofs.Lists.{all_push, all_map, all_filter}

-- no descriptor's
abbrev pub Quiet : Row → Type 0
Quiet r = asks r.kind ≡ false

-- no row above it
abbrev pub NoParent : Row → Type 0
NoParent r = r.parent ≡ None

-- it holds of all rows, unless it may not
abbrev pub Unless : Bool → (Row → Type 0) → List Row → Type 0
Unless may P rows = may ≡ false → AllByRecursion P rows

pub no_parent : (row : Row) → is_some row.parent ≡ false → NoParent row
no_parent row h = none row.parent h
  where
    none : (o : Option ℕ) → is_some o ≡ false → o ≡ None
    none None h = refl
    none (Some id) h = cc

pub may-same : (P : Row → Type 0) (may : Bool) (rows new : List Row) → Unless may P rows → new ≡ rows → Unless may P new
may-same P may rows new h e f = rw e (h f)

pub may-pushed : (P : Row → Type 0) (may is : Bool) (rows new : List Row) (row : Row) → Unless may P rows → (is ≡ false → P row) → new ≡ rows ++ row ∷ [] → Unless (may || is) P new
may-pushed P may is rows new row h k e f = let t = or_parts may is f in rw e (all_push P rows row (h t.0) (k t.1))

put_all : (P : Row → Type 0) (rows new : List Row) (row : Row) → AllByRecursion P rows → P row → new ≡ changed row.id (λ _. row) rows → AllByRecursion P new
put_all P rows new row h k e = rw e (all_map P P (λ r. cond (has_id row.id r) row r) (λ r p. one r p (has_id row.id r)) rows h)
  where
    one : (r : Row) → P r → (b : Bool) → P (cond b row r)
    one r p true = k
    one r p false = p

pub may-put : (P : Row → Type 0) (may is : Bool) (rows new : List Row) (row : Row) → Unless may P rows → (is ≡ false → P row) → new ≡ changed row.id (λ _. row) rows → Unless (may || is) P new
may-put P may is rows new row h k e f = let t = or_parts may is f in put_all P rows new row (h t.0) (k t.1) e

-- a change of a row that keeps it as it is in this
pub may-kept : (P : Row → Type 0) (may : Bool) (rows new : List Row) (id : ℕ) (old row : Row) → Unless may P rows → row_of id rows ≡ Some old → (P old → P row) → new ≡ changed row.id (λ _. row) rows → Unless may P new
may-kept P may rows new id old row h is k e f = put_all P rows new row (h f) (k (found P id old rows (h f) is)) e

pub may-left : (P : Row → Type 0) (may : Bool) (rows new : List Row) (id : ℕ) → Unless may P rows → new ≡ filter (λ r. not (has_id id r)) rows → Unless may P new
may-left P may rows new id h e f = rw e (all_filter P (λ r. not (has_id id r)) rows (h f))
