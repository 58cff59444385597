-- What holds of the rows of a context holds after each edit of them.
use Rattle.std.proofs.Common.{◌≡◌, ℕ, ℤ, ◌<◌, ◌≤◌, ◌+◌, ◌^◌, ◌==◌, ◌||◌, Bool, true, false, cond, Option, Some, None, refl, ap, ◌∙◌, arith, subst}
use Rattle.loop_script.specs.declared.SourceSpec.{SourceSpec}
use Rattle.source_rows.specs.declared.row.Row.{Row}
use Rattle.source_rows.specs.declared.fault.RowsFault.{RowsFault}
use Rattle.source_rows.specs.Row.{no_number, root_row, child_row}
use Rattle.source_rows.specs.Rows.{RowSet, no_rows, row_of, attached, child_added, child_fault, priority_fault, destroyed, reprioritised, changed, ready_set, counted}
use Rattle.source_rows.specs.New.{IsNew}
use Rattle.source_rows.specs.Kept.{IsBelow, IsSound}
use Rattle.source_rows.specs.Edits.{IsSoundSet}
use Rattle.source_rows.proofs.Compared.{same_self, are_same, not_same, are_not}
use Rattle.source_rows.proofs.Edits.{Stays}
use Rattle.source_rows.proofs.Forest.{found}
use Rattle.source_rows.proofs.Kept.{sound-push, child_new, found_id, sound_map, at_id, stays_at}
use Rattle.source_rows.proofs.Gone.{sound_filter}
use Rattle.source_rows.proofs.Kin.{kins}
use Rattle.source_rows.proofs.Moved.{sound_moved}

root_new : (spec : SourceSpec) (now id n : ℕ) → IsNew (root_row spec now id n) n
root_new spec now id n = record {
  has = rw (same_self n) refl;
  below = λ k h f. none (n == k) (no_number == k) (not_same n k (λ e. omega (arith, e, h))) (not_same no_number k (λ e. omega (arith, e, f)));
}
  where
    none : (a b : Bool) → a ≡ false → b ≡ false → (a || (b || (b || (b || false)))) ≡ false
    none a b e f = rw (e, f) refl

pub sound_attached : (spec : SourceSpec) (now : ℕ) (s : RowSet) → s.next_order < 2 ^ 63 → IsSoundSet s → IsSoundSet (attached spec now s)
sound_attached spec now s f h =
    sound-push s.rows s.next_id s.next_order (root_row spec now s.next_id s.next_order) s.levels f h (root_new spec now s.next_id s.next_order) refl h.some refl (record { level = refl; lineage = refl; path = refl })

-- a parent that may have a child is above the last level
above_last : (level levels : ℕ) (fault : RowsFault) (b : Bool) → (level == levels) ≡ b → level ≤ levels → cond b (Some fault) None ≡ None → level + 1 ≤ levels
above_last level levels fault true t h e = let no : Some fault ≡ None = e in cc
above_last level levels fault false t h e = let apart : level ≡ levels → ⊥ = are_not level levels t in omega (arith, h, apart)

sound_below : (spec : SourceSpec) (now id : ℕ) (s : RowSet) → s.next_order < 2 ^ 63 → IsSoundSet s → (o : Option Row) → row_of id s.rows ≡ o → child_fault s.levels o ≡ None → IsSoundSet (child_added spec now o s)
sound_below spec now id s f h None e k = h
sound_below spec now id s f h (Some parent) e k =
    let few = h.few in
    let within = found (λ r. r.level ≤ s.levels) id parent s.rows h.within e in
    let below = found (λ r. IsBelow s.next_order r.path) id parent s.rows h.below e in
    let place = ap (λ (n : ℕ). row_of n s.rows) (found_id id parent s.rows e) ∙ e in
    sound-push s.rows s.next_id s.next_order (child_row parent spec now s.next_id s.next_order) s.levels f h
    (child_new parent spec now s.next_id s.next_order (omega (arith, f)) below) refl
    (above_last parent.level s.levels _ (parent.level == s.levels) refl within k) refl
    (parent, place, record { level = refl; lineage = refl; path = refl; priority = refl })

pub sound_child : (spec : SourceSpec) (now id : ℕ) (s : RowSet) → s.next_order < 2 ^ 63 → child_fault s.levels (row_of id s.rows) ≡ None → IsSoundSet s → IsSoundSet (child_added spec now (row_of id s.rows) s)
sound_child spec now id s f k h = sound_below spec now id s f h (row_of id s.rows) refl k

pub sound_destroyed : (id : ℕ) (s : RowSet) → IsSoundSet s → IsSoundSet (destroyed id s)
sound_destroyed id s h = sound_filter id s.rows s.next_id s.next_order s.levels h

root_by : (level : ℕ) (fault : RowsFault) (b : Bool) → (level == 1) ≡ b → cond b None (Some fault) ≡ None → level ≡ 1
root_by level fault true t e = are_same level 1 t
root_by level fault false t e = let no : Some fault ≡ None = e in cc

sound_given : (id : ℕ) (priority : ℤ) (s : RowSet) → s.next_order < 2 ^ 63 → IsSoundSet s → (o : Option Row) → row_of id s.rows ≡ o → priority_fault o ≡ None → IsSoundSet (reprioritised id priority s)
sound_given id priority s f h None e k = cc
sound_given id priority s f h (Some r) e k =
    let level = root_by r.level _ (r.level == 1) refl k in
    let own = found_id id r s.rows e in
    let is : row_of r.id s.rows ≡ Some r = ap (λ (n : ℕ). row_of n s.rows) own ∙ e in
    subst (λ (n : ℕ). IsSoundSet (reprioritised n priority s)) own
    (sound_moved r priority s.rows s.next_id s.next_order s.levels f (kins r s.next_order s.rows h.forest is level h.below) is level h)

pub sound_reprioritised : (id : ℕ) (priority : ℤ) (s : RowSet) → s.next_order < 2 ^ 63 → priority_fault (row_of id s.rows) ≡ None → IsSoundSet s → IsSoundSet (reprioritised id priority s)
sound_reprioritised id priority s f k h = sound_given id priority s f h (row_of id s.rows) refl k

sound_changed : (id : ℕ) (g : Row → Row) → Stays g → (s : RowSet) → IsSoundSet s → IsSound (changed id g s.rows) s.next_id s.next_order s.levels
sound_changed id g stays s h =
    sound_map (at_id id g) (stays_at id g stays) s.rows s.next_id s.next_order s.levels h

pub sound_ready_set : (id : ℕ) (ready : ℤ) (s : RowSet) → IsSoundSet s → IsSoundSet (ready_set id ready s)
sound_ready_set id ready s h = sound_changed id (λ r. record r { ready = ready }) (record { key = λ r. refl; id = λ r. refl; level = λ r. refl; order = λ r. refl; parent = λ r. refl; lineage = λ r. refl }) s h

pub sound_counted : (id : ℕ) (s : RowSet) → IsSoundSet s → IsSoundSet (counted id s)
sound_counted id s h = sound_changed id (λ r. record r { count = r.count + 1 }) (record { key = λ r. refl; id = λ r. refl; level = λ r. refl; order = λ r. refl; parent = λ r. refl; lineage = λ r. refl }) s h

pub sound_none : (levels : ℕ) → 1 ≤ levels → levels ≤ 4 → IsSoundSet (no_rows levels)
sound_none levels h k = record {
  below = tt;
  fresh = tt;
  rising = tt;
  apart = tt;
  within = tt;
  some = h;
  few = k;
  numbered = tt;
  numbers = omega arith;
  forest = record { rising = tt; placed = tt; differ = tt; numbers = tt; levels = tt };
}
