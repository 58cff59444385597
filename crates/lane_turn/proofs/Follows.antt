-- What edits leave of the sources that there are: the ids rise, no source is put under another later, and a new one gets a new id.
use Rattle.std.proofs.Common.{◌≡◌, ℕ, ℤ, zero, suc, ◌+◌, ◌<◌, ◌≤◌, ◌==◌, Bool, true, false, not, cond, Option, Some, None, List, [], ◌∷◌, map, slice_set, option_map, refl, ap, ◌∙◌, arith}
use Rattle.std.specs.Prelude.{slice_get}
use Rattle.std.specs.List.{AllByRecursion}
use Rattle.loop_script.specs.declared.source.SourceSpec.{SourceSpec}
use Rattle.source_rows.specs.declared.row.Row.{Row}
use Rattle.source_rows.specs.Row.{root_row, child_row}
use Rattle.source_rows.specs.Rows.{RowSet, added, attached, child_added, destroyed, counted, ready_set, reprioritised, moved, has_id, is_under}
use Rattle.source_rows.specs.Tree.{IdsRise}
use Rattle.source_rows.proofs.Lists.{all_of, all_push, all_map, all_filter, pairs_push, pairs_map, pairs_filter}
use Rattle.context_core.specs.declared.context.Context.{Context}
use Rattle.lane_turn.specs.Lane.{present}

-- the ids rise, and what comes next is new
pub record IsNumbered (s : RowSet) : Type 0 where
  pub rising : IdsRise s.rows
  pub given : AllByRecursion (λ r. r.id < s.next_id) s.rows

-- what is so of ids and what they are under stays so, where it is so of all new ids
pub record Follows (s u : RowSet) : Type 0 where
  pub next : s.next_id ≤ u.next_id
  pub numbered : IsNumbered s → IsNumbered u
  pub kept : (p : ℕ → List ℕ → Bool) → ((id : ℕ) (line : List ℕ) → s.next_id ≤ id → p id line ≡ true) → AllByRecursion (λ r. p r.id r.lineage ≡ true) s.rows → AllByRecursion (λ r. p r.id r.lineage ≡ true) u.rows

pub follows_same : (s : RowSet) → Follows s s
follows_same s = record { next = omega arith; numbered = λ h. h; kept = λ p b a. a }

pub follows_trans : (s u v : RowSet) → Follows s u → Follows u v → Follows s v
follows_trans s u v h g = record {
  next = omega (arith, h.next, g.next);
  numbered = λ n. g.numbered (h.numbered n);
  kept = λ p b a. g.kept p (λ id line l. b id line (omega (arith, l, h.next))) (h.kept p b a);
}

follows_added : (row : Row) (s : RowSet) → row.id ≡ s.next_id → Follows s (added row s)
follows_added row s e = record {
  next = omega arith;
  numbered = λ h. record {
    rising = pairs_push (λ (r : Row) (q : Row). r.id < q.id) s.rows row h.rising (all_of (λ (r : Row). r.id < s.next_id) (λ (r : Row). r.id < row.id) (λ r k. omega (arith, k, e)) s.rows h.given);
    given = all_push (λ (r : Row). r.id < s.next_id + 1) s.rows row (all_of (λ (r : Row). r.id < s.next_id) (λ (r : Row). r.id < s.next_id + 1) (λ r k. omega (arith, k)) s.rows h.given) (omega (arith, e));
  };
  kept = λ p b a. all_push (λ (r : Row). p r.id r.lineage ≡ true) s.rows row a (b row.id row.lineage (omega (arith, e)));
}

pub follows_attached : (spec : SourceSpec) (now : ℕ) (s : RowSet) → Follows s (attached spec now s)
follows_attached spec now s = follows_added (root_row spec now s.next_id s.next_order) s refl

pub follows_child : (spec : SourceSpec) (now : ℕ) (o : Option Row) (s : RowSet) → Follows s (child_added spec now o s)
follows_child spec now None s = follows_same s
follows_child spec now (Some parent) s = follows_added (child_row parent spec now s.next_id s.next_order) s refl

pub follows_destroyed : (id : ℕ) (s : RowSet) → Follows s (destroyed id s)
follows_destroyed id s =
    let other : Row → Bool = λ r. not (is_under id r) in
    record {
      next = omega arith;
      numbered = λ h. record { rising = pairs_filter (λ (r : Row) (q : Row). r.id < q.id) other s.rows h.rising; given = all_filter (λ (r : Row). r.id < s.next_id) other s.rows h.given };
      kept = λ p b a. all_filter (λ (r : Row). p r.id r.lineage ≡ true) other s.rows a;
    }

follows_mapped : (f : Row → Row) (order : ℕ) (s : RowSet) → ((r : Row) → (f r).id ≡ r.id) → ((r : Row) → (f r).lineage ≡ r.lineage) → Follows s (record s { rows = map f s.rows; next_order = order })
follows_mapped f order s i l = record {
  next = omega arith;
  numbered = λ h. record {
    rising = pairs_map (λ (r : Row) (q : Row). r.id < q.id) (λ (r : Row) (q : Row). r.id < q.id) f (λ r q k. omega (arith, k, i r, i q)) s.rows h.rising;
    given = all_map (λ (r : Row). r.id < s.next_id) (λ (r : Row). r.id < s.next_id) f (λ r k. omega (arith, k, i r)) s.rows h.given;
  };
  kept = λ p b a. all_map (λ (r : Row). p r.id r.lineage ≡ true) (λ (r : Row). p r.id r.lineage ≡ true) f (λ r k. ap (λ (n : ℕ). p n (f r).lineage) (i r) ∙ (ap (p r.id) (l r) ∙ k)) s.rows a;
}

id_if : (b : Bool) (r q : Row) → q.id ≡ r.id → (cond b q r).id ≡ r.id
id_if true r q e = e
id_if false r q e = refl

line_if : (b : Bool) (r q : Row) → q.lineage ≡ r.lineage → (cond b q r).lineage ≡ r.lineage
line_if true r q e = e
line_if false r q e = refl

pub follows_ready_set : (id : ℕ) (us : ℤ) (s : RowSet) → Follows s (ready_set id us s)
follows_ready_set id us s = follows_mapped (λ r. cond (has_id id r) (record r { ready = us }) r) s.next_order s (λ r. id_if (has_id id r) r (record r { ready = us }) refl) (λ r. line_if (has_id id r) r (record r { ready = us }) refl)

pub follows_counted : (id : ℕ) (s : RowSet) → Follows s (counted id s)
follows_counted id s =
    follows_mapped (λ r. cond (has_id id r) (record r { count = r.count + 1 }) r) s.next_order s (λ r. id_if (has_id id r) r (record r { count = r.count + 1 }) refl) (λ r. line_if (has_id id r) r (record r { count = r.count + 1 }) refl)

pub follows_reprioritised : (id : ℕ) (priority : ℤ) (s : RowSet) → Follows s (reprioritised id priority s)
follows_reprioritised id priority s = follows_mapped (moved id priority s.next_order) (s.next_order + 1) s (λ r. moved_id r (is_under id r)) (λ r. moved_line r (is_under id r))
  where
    moved_id : (r : Row) (b : Bool) → (cond b (record r { priority = priority; order = cond (r.id == id) s.next_order r.order; path = slice_set r.path 0 s.next_order }) r).id ≡ r.id
    moved_id r true = refl
    moved_id r false = refl

    moved_line : (r : Row) (b : Bool) → (cond b (record r { priority = priority; order = cond (r.id == id) s.next_order r.order; path = slice_set r.path 0 s.next_order }) r).lineage ≡ r.lineage
    moved_line r true = refl
    moved_line r false = refl

-- ---- contexts

abbrev pub FollowsIn : Option Context → Option Context → Type 0
FollowsIn None None = Unit {0}
FollowsIn None (Some d) = ⊥
FollowsIn (Some c) None = ⊥
FollowsIn (Some c) (Some d) = Follows c.rows d.rows

abbrev pub AllFollow : (before now : List (Option Context)) → Type 0
AllFollow before now = (i : ℕ) → FollowsIn (present (slice_get before i)) (present (slice_get now i))

pub in_same : (o : Option Context) → FollowsIn o o
in_same None = tt
in_same (Some c) = follows_same c.rows

in_changed : (f : Context → Context) → ((c : Context) → Follows c.rows (f c).rows) → (o : Option Context) → FollowsIn o (option_map f o)
in_changed f e None = tt
in_changed f e (Some c) = e c

pub all_changed : (f : Context → Context) → ((c : Context) → Follows c.rows (f c).rows) → (contexts : List (Option Context)) (i : ℕ) → AllFollow contexts (slice_set contexts i (option_map f (present (slice_get contexts i))))
all_changed f e [] i j = tt
all_changed f e (o ∷ contexts) zero zero = in_changed f e o
all_changed f e (o ∷ contexts) zero (suc j) = in_same (present (slice_get contexts j))
all_changed f e (o ∷ contexts) (suc i) zero = in_same o
all_changed f e (o ∷ contexts) (suc i) (suc j) = all_changed f e contexts i j
