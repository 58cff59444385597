-- Rows in slots: what an edit of them leaves.
use Rattle.std.specs.Prelude.{filter_map}
use Rattle.std.proofs.Common.{◌≡◌, Bool, ℕ, zero, suc, cond, Option, is_some, count_by, slice_set, slice_index_or, None, ◌+◌, ◌<◌, ◌≤◌, true, false, not, Some, List, [], ◌∷◌, ◌++◌, length, filter, refl, ap, sym, ◌∙◌, subst, arith}
use Rattle.std.specs.List.{AllByRecursion, fold}
use Rattle.std.specs.Map.{lookup}
use Rattle.std.specs.Option.{option_map}
use Rattle.slab.specs.Slab.{Slab, get, with_value, slab_len}
use Rattle.source_rows.specs.declared.row.Row.{Row}
use Rattle.source_rows.specs.Rows.{row_of, has_id, changed}
use Rattle.source_rows.specs.Slots.{rows_at, IsTable, IsFilled, AllNamed, IsHeld, IsTime, Names, Rising}
use Rattle.source_rows.specs.declared.seats.Seat.{Seat}
use Rattle.source_rows.specs.Seats.{IsSeated}
use Rattle.source_rows.specs.Tree.{IdsRise}
use Rattle.source_rows.proofs.Compared.{some_same}
use Rattle.source_rows.proofs.Lists.{all_of, all_filter}
use Rattle.source_rows.proofs.Slots.{at_id, at_key, row_is, looked, put_done, Left, Pushed, id_of, named_by, back-put, back-same, same_get}
use Rattle.source_rows.proofs.MayBe.{Quiet, NoParent, may-same}

-- ---- rows in slots

ids_above : (slots : Slab Row) (n : ℕ) (es : List (ℕ × ℕ)) → AllByRecursion (Names slots) es → AllByRecursion (λ e. n < e.0) es → AllByRecursion (λ r. n < r.id) (rows_at slots es)
ids_above slots n [] h k = tt
ids_above slots n (e ∷ es) h k =
    let w = named_by (get slots e.1) e.0 h.0 in
    let less = k.0 in
    let is = w.2 in
    let rest = ids_above slots n es h.1 k.1 in
    rw w.1 (omega (arith, is, less), rest)

rises_by : (slots : Slab Row) (es : List (ℕ × ℕ)) → AllByRecursion (Names slots) es → Rising es → IdsRise (rows_at slots es)
rises_by slots [] h k = tt
rises_by slots (e ∷ es) h k =
    let w = named_by (get slots e.1) e.0 h.0 in
    let above = ids_above slots e.0 es h.1 k.0 in
    rw w.1 (subst (λ (n : ℕ). AllByRecursion (λ r. n < r.id) (rows_at slots es)) (sym w.2) above, rises_by slots es h.1 k.1)

pub rises_rows_at : (slots : Slab Row) (entries : List (ℕ × ℕ)) → IsTable slots entries → IdsRise (rows_at slots entries)
rises_rows_at slots entries h = rises_by slots entries h.named h.rising

-- the row in the slot that an id names
pub in_slot : (s : Slab Row) (id key : ℕ) (r : Row) (es : List (ℕ × ℕ)) → IsTable s es → lookup (at_id id) es ≡ Some key → get s key ≡ Some r → (row_of id (rows_at s es) ≡ Some r) × (r.id ≡ id)
in_slot s id key r es h l g =
    (row_is s id es h.named ∙ (ap (at_key s) l ∙ g), some_same r.id id (sym (ap (option_map id_of) g) ∙ looked s id key es h.named l))

-- ---- how many there are

-- numbers that rise from one to below another are no more than lie between
rising_length : (from to : ℕ) (rows : List Row) → IdsRise rows → AllByRecursion (λ q. from ≤ q.id) rows → AllByRecursion (λ q. q.id < to) rows → from ≤ to → from + length rows ≤ to
rising_length from to [] h above below le = omega (arith, le)
rising_length from to (r ∷ rows) h above below le =
    let here = above.0 in
    let next = below.0 in
    let rest = rising_length (r.id + 1) to rows h.1 (all_of (λ q. r.id < q.id) (λ q. r.id + 1 ≤ q.id) (λ q k. omega (arith, k)) rows h.0) below.1 (omega (arith, next)) in
    omega (arith, here, rest)

pub all_from : (rows : List Row) → AllByRecursion (λ q. 0 ≤ q.id) rows
all_from [] = tt
all_from (r ∷ rows) = (omega arith, all_from rows)

pub few_before : (s : Slab Row) (es : List (ℕ × ℕ)) (id : ℕ) → IsTable s es → AllByRecursion (λ q. q.id < id) (rows_at s es) → length (rows_at s es) ≤ id
few_before s es id h below =
    let most = rising_length 0 id (rows_at s es) (rises_rows_at s es h) (all_from (rows_at s es)) below (omega arith) in
    omega (arith, most)

pub pushed_filled : (s t : Slab Row) (r : Row) (es fs : List (ℕ × ℕ)) → IsFilled s es → AllNamed t fs → Pushed t es fs (rows_at s es ++ r ∷ []) → slab_len t ≡ slab_len s + 1 → length fs ≡ length es + 1 → IsFilled t fs
pushed_filled s t r es fs h b p more longer = record { table = p.table; back = b; full = omega (arith, h.full, more, longer) }

pub same_filled : (s t : Slab Row) (es fs : List (ℕ × ℕ)) → IsFilled s es → AllNamed t fs → Pushed t es fs (rows_at s es) → slab_len t ≡ slab_len s → length fs ≡ length es → IsFilled t fs
same_filled s t es fs h b p same even = record { table = p.table; back = b; full = omega (arith, h.full, same, even) }

-- ---- a row put in the place of another

abbrev counted : ℕ → List (Option Row) → ℕ
counted n xs = fold (λ a x. a + cond (is_some x) 1 0) n xs

put_from : (n : ℕ) (xs : List (Option Row)) (key : ℕ) (old row : Row) → slice_index_or xs key None ≡ Some old → counted n (slice_set xs key (Some row)) ≡ counted n xs
put_from n [] key old row g = cc
put_from n (x ∷ xs) zero old row g = rw g refl
put_from n (x ∷ xs) (suc key) old row g = put_from (n + cond (is_some x) 1 0) xs key old row g

put_full : (xs : List (Option Row)) (key : ℕ) (old row : Row) → slice_index_or xs key None ≡ Some old → count_by is_some (slice_set xs key (Some row)) ≡ count_by is_some xs
put_full xs key old row g = put_from 0 xs key old row g

pub put_filled : (s : Slab Row) (key : ℕ) (row old : Row) (es : List (ℕ × ℕ)) → IsFilled s es → lookup (at_id row.id) es ≡ Some key → get s key ≡ Some old → IsFilled (with_value s key row) es
put_filled s key row old es h l g =
    let done = put_done s key row es h.table l in
    record { table = done.table; back = back-put s key row es h.table h.back l; full = put_full s.slots key old row g ∙ h.full }

-- ---- a row taken away

pub left_filled : (s t : Slab Row) (id : ℕ) (es fs : List (ℕ × ℕ)) → IsFilled s es → AllNamed t fs → Left s t id es fs → slab_len t + 1 ≡ slab_len s → length fs + 1 ≡ length es → IsFilled t fs
left_filled s t id es fs h b k gone shorter = record { table = record { named = k.named; rising = k.rising }; back = b; full = omega (arith, h.full, gone, shorter) }

-- ---- the times of the rows

pub times_pushed : (rows new : List Row) (r : Row) → AllByRecursion IsTime rows → IsTime r → new ≡ rows ++ r ∷ [] → AllByRecursion IsTime new
times_pushed rows new r h t e = subst (AllByRecursion IsTime) (sym e) (behind rows h)
  where
    behind : (xs : List Row) → AllByRecursion IsTime xs → AllByRecursion IsTime (xs ++ r ∷ [])
    behind [] k = (t, tt)
    behind (x ∷ xs) k = (k.0, behind xs k.1)

pub times_put : (rows new : List Row) (r : Row) → AllByRecursion IsTime rows → IsTime r → new ≡ changed r.id (λ _. r) rows → AllByRecursion IsTime new
times_put rows new r h t e = subst (AllByRecursion IsTime) (sym e) (each rows h)
  where
    one : (b : Bool) (x : Row) → IsTime x → IsTime (cond b r x)
    one true x k = t
    one false x k = k

    each : (xs : List Row) → AllByRecursion IsTime xs → AllByRecursion IsTime (changed r.id (λ _. r) xs)
    each [] k = tt
    each (x ∷ xs) k = (one (has_id r.id x) x k.0, each xs k.1)

pub times_left : (rows new : List Row) (id : ℕ) → AllByRecursion IsTime rows → new ≡ filter (λ q. not (has_id id q)) rows → AllByRecursion IsTime new
times_left rows new id h e = subst (AllByRecursion IsTime) (sym e) (all_filter IsTime (λ q. not (has_id id q)) rows h)

pub times_same : (rows new : List Row) → AllByRecursion IsTime rows → new ≡ rows → AllByRecursion IsTime new
times_same rows new h e = subst (AllByRecursion IsTime) (sym e) h

-- ---- more room

rows_same : (s t : Slab Row) (es : List (ℕ × ℕ)) → t.slots ≡ s.slots → rows_at t es ≡ rows_at s es
rows_same s t es e = ap (λ (xs : List (Option Row)). filter_map (λ (p : ℕ × ℕ). slice_index_or xs p.1 None) es) e

pub held_same : (s t : Slab Row) (es : List (ℕ × ℕ)) (ss : List Seat × ℕ) (may_ask may_nest : Bool) → t.slots ≡ s.slots → IsHeld s es ss may_ask may_nest → IsHeld t es ss may_ask may_nest
held_same s t es ss may_ask may_nest e h = record {
  filled = record {
    table = record { named = all_of (Names s) (Names t) (λ p n. ap (option_map id_of) (same_get s t e p.1) ∙ n) es h.filled.table.named; rising = h.filled.table.rising };
    back = back-same s t es es h.filled.back (same_get s t e) refl;
    full = ap (λ (xs : List (Option Row)). count_by is_some xs) e ∙ h.filled.full;
  };
  seated = subst (λ (rows : List Row). IsSeated rows ss) (sym (rows_same s t es e)) h.seated;
  quiet = may-same Quiet may_ask (rows_at s es) (rows_at t es) h.quiet (rows_same s t es e);
  flat = may-same NoParent may_nest (rows_at s es) (rows_at t es) h.flat (rows_same s t es e);
  times = times_same (rows_at s es) (rows_at t es) h.times (rows_same s t es e);
}
