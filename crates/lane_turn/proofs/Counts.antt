-- What edits that dispatch nothing leave of the counts of sources: each keeps its own, and a new one has none.
use Rattle.std.proofs.Common.{◌≡◌, ℕ, ℤ, zero, suc, ◌≤◌, ◌==◌, Bool, true, false, not, cond, Option, Some, None, List, [], ◌∷◌, map, slice_set, option_map, refl, ap, ◌∙◌, arith}
use Rattle.std.specs.Prelude.{slice_get}
use Rattle.std.specs.List.{AllByRecursion}
use Rattle.loop_script.specs.declared.source.SourceSpec.{SourceSpec}
use Rattle.loop_script.specs.declared.source.Kind.{Kind}
use Rattle.loop_script.specs.declared.source.Kind.TheVariants as kinds
use Rattle.source_rows.specs.declared.row.Row.{Row}
use Rattle.source_rows.specs.Row.{root_row, child_row}
use Rattle.source_rows.specs.Rows.{RowSet, added, attached, child_added, destroyed, ready_set, reprioritised, moved, has_id, is_under, row_of as row_with}
use Rattle.source_rows.proofs.Lists.{all_push, all_map, all_filter}
use Rattle.context_core.specs.declared.context.Context.{Context}
use Rattle.lane_turn.specs.Sources.{restarted, restarted_row, restarted_kind, due_after}
use Rattle.lane_turn.specs.Lane.{present}
use Rattle.lane_turn.proofs.Follows.{Follows, FollowsIn, AllFollow, follows_same, follows_trans, follows_attached, follows_child, follows_destroyed, follows_ready_set, follows_reprioritised}

-- what is so of ids and counts stays so, where it is so of all new ids with none
pub record Edits (s u : RowSet) : Type 0 where
  pub follows : Follows s u
  pub counts : (p : ℕ → ℕ → Bool) → ((id : ℕ) → s.next_id ≤ id → p id 0 ≡ true) → AllByRecursion (λ r. p r.id r.count ≡ true) s.rows → AllByRecursion (λ r. p r.id r.count ≡ true) u.rows

pub edits_same : (s : RowSet) → Edits s s
edits_same s = record { follows = follows_same s; counts = λ p b a. a }

pub edits_trans : (s u v : RowSet) → Edits s u → Edits u v → Edits s v
edits_trans s u v h g = record { follows = follows_trans s u v h.follows g.follows; counts = λ p b a. g.counts p (λ id l. b id (omega (arith, l, (h.follows).next))) (h.counts p b a) }

counts_added : (row : Row) (s : RowSet) → row.id ≡ s.next_id → row.count ≡ 0 → (p : ℕ → ℕ → Bool) → ((id : ℕ) → s.next_id ≤ id → p id 0 ≡ true) → AllByRecursion (λ r. p r.id r.count ≡ true) s.rows → AllByRecursion (λ r. p r.id r.count ≡ true) (added row s).rows
counts_added row s e z p b a = all_push (λ (r : Row). p r.id r.count ≡ true) s.rows row a (ap (p row.id) z ∙ b row.id (omega (arith, e)))

pub edits_attached : (spec : SourceSpec) (now : ℕ) (s : RowSet) → Edits s (attached spec now s)
edits_attached spec now s = record { follows = follows_attached spec now s; counts = counts_added (root_row spec now s.next_id s.next_order) s refl refl }

pub edits_child : (spec : SourceSpec) (now : ℕ) (o : Option Row) (s : RowSet) → Edits s (child_added spec now o s)
edits_child spec now None s = edits_same s
edits_child spec now (Some parent) s = record { follows = follows_child spec now (Some parent) s; counts = counts_added (child_row parent spec now s.next_id s.next_order) s refl refl }

pub edits_destroyed : (id : ℕ) (s : RowSet) → Edits s (destroyed id s)
edits_destroyed id s = record { follows = follows_destroyed id s; counts = λ p b a. all_filter (λ (r : Row). p r.id r.count ≡ true) (λ r. not (is_under id r)) s.rows a }

-- a change of each row that leaves ids and counts
counts_mapped : (f : Row → Row) (rows : List Row) → ((r : Row) → (f r).id ≡ r.id) → ((r : Row) → (f r).count ≡ r.count) → (p : ℕ → ℕ → Bool) → AllByRecursion (λ r. p r.id r.count ≡ true) rows → AllByRecursion (λ r. p r.id r.count ≡ true) (map f rows)
counts_mapped f rows i c p a = all_map (λ (r : Row). p r.id r.count ≡ true) (λ (r : Row). p r.id r.count ≡ true) f (λ r k. ap (λ (n : ℕ). p n (f r).count) (i r) ∙ (ap (p r.id) (c r) ∙ k)) rows a

id_if : (b : Bool) (r q : Row) → q.id ≡ r.id → (cond b q r).id ≡ r.id
id_if true r q e = e
id_if false r q e = refl

count_if : (b : Bool) (r q : Row) → q.count ≡ r.count → (cond b q r).count ≡ r.count
count_if true r q e = e
count_if false r q e = refl

pub edits_ready_set : (id : ℕ) (us : ℤ) (s : RowSet) → Edits s (ready_set id us s)
edits_ready_set id us s = record {
  follows = follows_ready_set id us s;
  counts = λ p b a. counts_mapped (λ r. cond (has_id id r) (record r { ready = us }) r) s.rows (λ r. id_if (has_id id r) r (record r { ready = us }) refl) (λ r. count_if (has_id id r) r (record r { ready = us }) refl) p a;
}

pub edits_reprioritised : (id : ℕ) (priority : ℤ) (s : RowSet) → Edits s (reprioritised id priority s)
edits_reprioritised id priority s = record { follows = follows_reprioritised id priority s; counts = λ p b a. counts_mapped (moved id priority s.next_order) s.rows (λ r. moved_id r (is_under id r)) (λ r. moved_count r (is_under id r)) p a }
  where
    moved_id : (r : Row) (b : Bool) → (cond b (record r { priority = priority; order = cond (r.id == id) s.next_order r.order; path = slice_set r.path 0 s.next_order }) r).id ≡ r.id
    moved_id r true = refl
    moved_id r false = refl

    moved_count : (r : Row) (b : Bool) → (cond b (record r { priority = priority; order = cond (r.id == id) s.next_order r.order; path = slice_set r.path 0 s.next_order }) r).count ≡ r.count
    moved_count r true = refl
    moved_count r false = refl

edits_kind : (now id : ℕ) (kind : Kind) (s : RowSet) → Edits s (restarted_kind now id kind s)
edits_kind now id kinds.Idle s = edits_same s
edits_kind now id (kinds.Timeout ms) s = edits_ready_set id (due_after ms now) s
edits_kind now id (kinds.ReadyTime us) s = edits_same s
edits_kind now id (kinds.Fd fd bits) s = edits_same s
edits_kind now id (kinds.Cancel c) s = edits_same s

edits_row : (now id : ℕ) (o : Option Row) (s : RowSet) → Edits s (restarted_row now id o s)
edits_row now id None s = edits_same s
edits_row now id (Some row) s = edits_kind now id row.kind s

pub edits_restarted : (now id : ℕ) (s : RowSet) → Edits s (restarted now id s)
edits_restarted now id s = edits_row now id (row_with id s.rows) s

-- ---- contexts

abbrev pub EditsIn : Option Context → Option Context → Type 0
EditsIn None None = Unit {0}
EditsIn None (Some d) = ⊥
EditsIn (Some c) None = ⊥
EditsIn (Some c) (Some d) = Edits c.rows d.rows

abbrev pub AllEdit : (before now : List (Option Context)) → Type 0
AllEdit before now = (i : ℕ) → EditsIn (present (slice_get before i)) (present (slice_get now i))

in_same : (o : Option Context) → EditsIn o o
in_same None = tt
in_same (Some c) = edits_same c.rows

in_trans : (a b c : Option Context) → EditsIn a b → EditsIn b c → EditsIn a c
in_trans None None None h g = tt
in_trans None None (Some c) h g = g
in_trans None (Some b) c h g = absurd h
in_trans (Some a) None c h g = absurd h
in_trans (Some a) (Some b) None h g = absurd g
in_trans (Some a) (Some b) (Some c) h g = edits_trans a.rows b.rows c.rows h g

pub all_same : (contexts : List (Option Context)) → AllEdit contexts contexts
all_same contexts i = in_same (present (slice_get contexts i))

pub all_trans : (a b c : List (Option Context)) → AllEdit a b → AllEdit b c → AllEdit a c
all_trans a b c h g i = in_trans (present (slice_get a i)) (present (slice_get b i)) (present (slice_get c i)) (h i) (g i)

in_changed : (f : Context → Context) → ((c : Context) → Edits c.rows (f c).rows) → (o : Option Context) → EditsIn o (option_map f o)
in_changed f e None = tt
in_changed f e (Some c) = e c

pub all_changed : (f : Context → Context) → ((c : Context) → Edits c.rows (f c).rows) → (contexts : List (Option Context)) (i : ℕ) → AllEdit contexts (slice_set contexts i (option_map f (present (slice_get contexts i))))
all_changed f e [] i j = tt
all_changed f e (o ∷ contexts) zero zero = in_changed f e o
all_changed f e (o ∷ contexts) zero (suc j) = in_same (present (slice_get contexts j))
all_changed f e (o ∷ contexts) (suc i) zero = in_same o
all_changed f e (o ∷ contexts) (suc i) (suc j) = all_changed f e contexts i j

follow_in : (o p : Option Context) → EditsIn o p → FollowsIn o p
follow_in None None h = tt
follow_in None (Some d) h = absurd h
follow_in (Some c) None h = absurd h
follow_in (Some c) (Some d) h = h.follows

pub follow_all : (before now : List (Option Context)) → AllEdit before now → AllFollow before now
follow_all before now h i = follow_in (present (slice_get before i)) (present (slice_get now i)) (h i)
