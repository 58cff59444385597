use Rattle.std.proofs.Common.{◌≡◌, ◌≢◌, ℕ, ◌+◌, ◌<◌, ◌==◌, zero, suc, Bool, true, false, not, cond, Option, Some, None, List, [], ◌∷◌, ◌++◌, length, length-append, filter, refl, ap, sym, ◌∙◌, arith, subst}
use Rattle.std.proofs.lemmas.Bool.Decides.{nat_tests}
use Rattle.std.specs.Prelude.{slice_index_or, slice_set}
use Rattle.std.specs.List.{AllByRecursion, cons_option}
use Rattle.std.specs.Option.{option_map}
use Rattle.std.specs.Ordering.{nat_cmp}
use Rattle.std.specs.BTreeMap.{is_at}
use Rattle.std.specs.Map.{remove_entry, lookup}
use Rattle.slab.specs.Slab.{Slab, get, Updates, with_value}
use Rattle.source_rows.specs.declared.row.Row.{Row}
use Rattle.source_rows.specs.Rows.{row_of, has_id, changed}
use Rattle.source_rows.specs.Slots.{rows_at, Names, Rising, IsTable, AllNamed}
use Rattle.source_rows.proofs.Compared.{are_same, not_same, are_not, some_same, same_self, apart_above}
use Rattle.source_rows.proofs.Lists.{all_of, all_push, pairs_push, cons_join}

abbrev pub id_of : Row → ℕ
id_of r = r.id

abbrev pub at_id : ℕ → ℕ → Bool
at_id id = is_at (nat_cmp id)

pub tests : (id n : ℕ) → at_id id n ≡ (n == id)
tests id n = by_test (at_id id n) refl
  where
    by_test : (b : Bool) → at_id id n ≡ b → b ≡ (n == id)
    by_test true e = grind (arith, nat_tests)
    by_test false e = grind (arith, nat_tests)

-- what an id names
pub named_by : (o : Option Row) (n : ℕ) → option_map id_of o ≡ Some n → (r : Row) × (o ≡ Some r) × (r.id ≡ n)
named_by None n e = let never : None ≡ Some n = e in cc
named_by (Some r) n e = (r, refl, some_same r.id n e)

-- ---- the row of an id

abbrev pub at_key : Slab Row → Option ℕ → Option Row
at_key s None = None
at_key s (Some k) = get s k

find_by : (s : Slab Row) (id : ℕ) (r : Row) (k n : ℕ) (es : List (ℕ × ℕ)) → get s k ≡ Some r → r.id ≡ n → (b : Bool) → at_id id n ≡ b → row_of id (rows_at s es) ≡ at_key s (lookup (at_id id) es)
    → row_of id (r ∷ rows_at s es) ≡ at_key s (cond b (Some k) (lookup (at_id id) es))
find_by s id r k n es g e true t ih =
    let same : (r.id == id) ≡ true = ap (λ (m : ℕ). m == id) e ∙ (sym (tests id n) ∙ t) in
    rw same (sym g)
find_by s id r k n es g e false t ih =
    let same : (r.id == id) ≡ false = ap (λ (m : ℕ). m == id) e ∙ (sym (tests id n) ∙ t) in
    rw same ih

pub row_is : (s : Slab Row) (id : ℕ) (es : List (ℕ × ℕ)) → AllByRecursion (Names s) es → row_of id (rows_at s es) ≡ at_key s (lookup (at_id id) es)
row_is s id [] h = refl
row_is s id (e ∷ es) h =
    let w = named_by (get s e.1) e.0 h.0 in
    ap (λ (o : Option Row). row_of id (cons_option o (rows_at s es))) w.1
    ∙ find_by s id w.0 e.1 e.0 es w.1 w.2 (at_id id e.0) refl (row_is s id es h.1)

-- ---- a slot that no id names

other_key : (s : Slab Row) (k key n : ℕ) → get s key ≡ None → option_map id_of (get s k) ≡ Some n → k ≢ key
other_key s k key n free h e =
    let w = named_by (get s k) n h in
    let never = sym free ∙ (ap (get s) (sym e) ∙ w.1) in cc

pub unmoved : (s t : Slab Row) (key : ℕ) (v : Option Row) (es : List (ℕ × ℕ)) → get s key ≡ None → Updates s t key v → AllByRecursion (Names s) es → (rows_at t es ≡ rows_at s es) × AllByRecursion (Names t) es
unmoved s t key v [] free u h = (refl, tt)
unmoved s t key v (e ∷ es) free u h =
    let rest = unmoved s t key v es free u h.1 in
    let same = u.others e.1 (other_key s e.1 key e.0 free h.0) in (
      ap (λ (o : Option Row). cons_option o (rows_at t es)) same ∙ ap (λ (xs : List Row). cons_option (get s e.1) xs) rest.0,
      (ap (option_map id_of) same ∙ h.0, rest.1),
    )

-- ---- a row at the end

pub all_ids : (s : Slab Row) (id : ℕ) (es : List (ℕ × ℕ)) → AllByRecursion (Names s) es → AllByRecursion (λ r. r.id < id) (rows_at s es) → AllByRecursion (λ e. e.0 < id) es
all_ids s id [] h k = tt
all_ids s id (e ∷ es) h k =
    let w = named_by (get s e.1) e.0 h.0 in
    let t = subst (λ (o : Option Row). AllByRecursion (λ r. r.id < id) (cons_option o (rows_at s es))) w.1 k in
    (subst (λ (n : ℕ). n < id) w.2 t.0, all_ids s id es h.1 t.1)

rows_at-end : (t : Slab Row) (id key : ℕ) (r : Row) (es : List (ℕ × ℕ)) → get t key ≡ Some r → rows_at t (es ++ (id, key) ∷ []) ≡ rows_at t es ++ r ∷ []
rows_at-end t id key r [] g = ap (λ (o : Option Row). cons_option o []) g
rows_at-end t id key r (e ∷ es) g = ap (cons_option (get t e.1)) (rows_at-end t id key r es g) ∙ cons_join (get t e.1) (rows_at t es) (r ∷ [])

pub record Pushed (t : Slab Row) (es fs : List (ℕ × ℕ)) (rows : List Row) : Type 0 where
  pub table : IsTable t fs
  pub rows_are : rows_at t fs ≡ rows

pub pushed : (s t : Slab Row) (key : ℕ) (r : Row) (es fs : List (ℕ × ℕ)) → IsTable s es → get s key ≡ None → Updates s t key (Some r) → AllByRecursion (λ q. q.id < r.id) (rows_at s es) → fs ≡ es ++ (r.id, key) ∷ []
    → Pushed t es fs (rows_at s es ++ r ∷ [])
pushed s t key r es fs h free u above e =
    let ids = all_ids s r.id es h.named above in
    let same = unmoved s t key (Some r) es free u h.named in
    rw e (record {
      table = record {
        named = all_push (Names t) es (r.id, key) same.1 (ap (option_map id_of) u.changed);
        rising = pairs_push (λ e q. e.0 < q.0) es (r.id, key) h.rising ids;
      };
      rows_are = rows_at-end t r.id key r es u.changed ∙ ap (λ (xs : List Row). xs ++ r ∷ []) same.0;
    })

pub longer : (s : Slab Row) (id key : ℕ) (es fs : List (ℕ × ℕ)) → AllByRecursion (Names s) es → AllByRecursion (λ q. q.id < id) (rows_at s es) → fs ≡ es ++ (id, key) ∷ [] → length fs ≡ length es + 1
longer s id key es fs h above e = rw e (length-append es ((id, key) ∷ []))

pub both : (s t u : Slab Row) (key : ℕ) (v w : Option Row) → Updates s t key v → Updates t u key w → Updates s u key w
both s t u key v w a b = record { changed = b.changed; others = λ o n. b.others o n ∙ a.others o n }

pub undone : (s t u : Slab Row) (key : ℕ) (v w : Option Row) (es fs : List (ℕ × ℕ)) → IsTable s es → get s key ≡ None → Updates s t key v → Updates t u key w → fs ≡ es → Pushed u es fs (rows_at s es)
undone s t u key v w es fs h free a b e =
    let same = unmoved s u key w es free (both s t u key v w a b) h.named in
    rw e (record { table = record { named = same.1; rising = h.rising }; rows_are = same.0 })

pub same_get : (s t : Slab Row) → t.slots ≡ s.slots → (k : ℕ) → get t k ≡ get s k
same_get s t e k = ap (λ (xs : List (Option Row)). slice_index_or xs k None) e

pub rebased : (s t u : Slab Row) (key : ℕ) (v : Option Row) → t.slots ≡ s.slots → Updates t u key v → Updates s u key v
rebased s t u key v e a = record { changed = a.changed; others = λ o n. a.others o n ∙ same_get s t e o }

-- ---- a row put in another's place, or taken away

set_here : (xs : List (Option Row)) (k : ℕ) (r : Row) (v : Option Row) → slice_index_or xs k None ≡ Some r → slice_index_or (slice_set xs k v) k None ≡ v
set_here [] k r v h = cc
set_here (x ∷ xs) zero r v h = refl
set_here (x ∷ xs) (suc k) r v h = set_here xs k r v h

set_there : (xs : List (Option Row)) (k o : ℕ) (v : Option Row) → o ≢ k → slice_index_or (slice_set xs k v) o None ≡ slice_index_or xs o None
set_there [] k o v h = refl
set_there (x ∷ xs) zero zero v h = absurd (h refl)
set_there (x ∷ xs) zero (suc o) v h = refl
set_there (x ∷ xs) (suc k) zero v h = refl
set_there (x ∷ xs) (suc k) (suc o) v h = set_there xs k o v (λ e. h (ap suc e))

pub put_updates : (s : Slab Row) (key id : ℕ) (r : Row) → option_map id_of (get s key) ≡ Some id → Updates s (with_value s key r) key (Some r)
put_updates s key id r h =
    let w = named_by (get s key) id h in
    record { changed = set_here s.slots key w.0 (Some r) w.1; others = λ o n. set_there s.slots key o (Some r) n }

-- the slot that an id was found to name
looked_by : (s : Slab Row) (id key : ℕ) (e : ℕ × ℕ) (o : Option ℕ) (b : Bool) → at_id id e.0 ≡ b → Names s e → (o ≡ Some key → option_map id_of (get s key) ≡ Some id) → cond b (Some e.1) o ≡ Some key → option_map id_of (get s key) ≡ Some id
looked_by s id key e o true t n ih h =
    let same : e.1 ≡ key = some_same e.1 key h in
    let is : e.0 ≡ id = are_same e.0 id (sym (tests id e.0) ∙ t) in
    subst (λ (k : ℕ). option_map id_of (get s k) ≡ Some id) same (n ∙ ap (λ (m : ℕ). Some m) is)
looked_by s id key e o false t n ih h = ih h

pub looked : (s : Slab Row) (id key : ℕ) (es : List (ℕ × ℕ)) → AllByRecursion (Names s) es → lookup (at_id id) es ≡ Some key → option_map id_of (get s key) ≡ Some id
looked s id key [] n h = let never : None ≡ Some key = h in cc
looked s id key (e ∷ es) n h = looked_by s id key e (lookup (at_id id) es) (at_id id e.0) refl n.0 (looked s id key es n.1) h

none_of : (id n : ℕ) (es : List (ℕ × ℕ)) → n ≡ id → AllByRecursion (λ q. n < q.0) es → AllByRecursion (λ q. q.0 ≢ id) es
none_of id n es e h = all_of (λ q. n < q.0) (λ q. q.0 ≢ id) (λ q less same. absurd (omega (arith, same, less, e))) es h

none_named : (id key : ℕ) (es : List (ℕ × ℕ)) → AllByRecursion (λ q. q.0 ≢ id) es → AllByRecursion (λ q. q.0 ≡ id → q.1 ≡ key) es
none_named id key es h = all_of (λ q. q.0 ≢ id) (λ q. q.0 ≡ id → q.1 ≡ key) (λ q apart same. absurd (apart same)) es h

unique_by : (id key : ℕ) (e : ℕ × ℕ) (es : List (ℕ × ℕ)) (o : Option ℕ) (b : Bool) → at_id id e.0 ≡ b → AllByRecursion (λ q. e.0 < q.0) es → (o ≡ Some key → AllByRecursion (λ q. q.0 ≡ id → q.1 ≡ key) es) → cond b (Some e.1) o ≡ Some key
    → (e.0 ≡ id → e.1 ≡ key) × AllByRecursion (λ q. q.0 ≡ id → q.1 ≡ key) es
unique_by id key e es o true t less ih h =
    let is : e.0 ≡ id = are_same e.0 id (sym (tests id e.0) ∙ t) in
    (λ same. some_same e.1 key h, none_named id key es (none_of id e.0 es is less))
unique_by id key e es o false t less ih h =
    (λ same. absurd (are_not e.0 id (sym (tests id e.0) ∙ t) same), ih h)

unique : (id key : ℕ) (es : List (ℕ × ℕ)) → Rising es → lookup (at_id id) es ≡ Some key → AllByRecursion (λ q. q.0 ≡ id → q.1 ≡ key) es
unique id key [] r h = tt
unique id key (e ∷ es) r h = unique_by id key e es (lookup (at_id id) es) (at_id id e.0) refl r.0 (unique id key es r.1) h

-- an entry of another id names another slot
far : (s : Slab Row) (id key : ℕ) (e : ℕ × ℕ) → option_map id_of (get s key) ≡ Some id → Names s e → e.0 ≢ id → e.1 ≢ key
far s id key e h n apart same =
    let x = sym n ∙ (ap (λ (k : ℕ). option_map id_of (get s k)) same ∙ h) in
    apart (some_same e.0 id x)

put_by : (s t : Slab Row) (key : ℕ) (row r : Row) (e : ℕ × ℕ) (xs ys : List Row) → option_map id_of (get s key) ≡ Some row.id → Updates s t key (Some row) → Names s e → (e.0 ≡ row.id → e.1 ≡ key) → get s e.1 ≡ Some r → r.id ≡ e.0 → xs ≡ ys
    → (b : Bool) → (r.id == row.id) ≡ b → (cons_option (get t e.1) xs ≡ cond b row r ∷ ys) × Names t e
put_by s t key row r e xs ys k u n one g is same true f =
    let id : r.id ≡ row.id = are_same r.id row.id f in
    let at : get t e.1 ≡ Some row = ap (get t) (one (sym is ∙ id)) ∙ u.changed in
    (rw at (ap (λ (zs : List Row). row ∷ zs) same), rw at (ap (λ (m : ℕ). Some m) (sym id ∙ is)))
put_by s t key row r e xs ys k u n one g is same false f =
    let apart : e.0 ≢ row.id = λ h. are_not r.id row.id f (is ∙ h) in
    let kept : get t e.1 ≡ Some r = u.others e.1 (far s row.id key e k n apart) ∙ g in
    (rw kept (ap (λ (zs : List Row). r ∷ zs) same), rw kept (ap (λ (m : ℕ). Some m) is))

put_all : (s t : Slab Row) (key : ℕ) (row : Row) (es : List (ℕ × ℕ)) → option_map id_of (get s key) ≡ Some row.id → Updates s t key (Some row) → AllByRecursion (Names s) es → AllByRecursion (λ q. q.0 ≡ row.id → q.1 ≡ key) es
    → (rows_at t es ≡ changed row.id (λ _. row) (rows_at s es)) × AllByRecursion (Names t) es
put_all s t key row [] k u n one = (refl, tt)
put_all s t key row (e ∷ es) k u n one =
    let w = named_by (get s e.1) e.0 n.0 in
    let rest = put_all s t key row es k u n.1 one.1 in
    let head = put_by s t key row w.0 e (rows_at t es) (changed row.id (λ _. row) (rows_at s es)) k u n.0 one.0 w.1 w.2 rest.0 (w.0.id == row.id) refl in
    (head.0 ∙ sym (ap (λ (o : Option Row). changed row.id (λ _. row) (cons_option o (rows_at s es))) w.1), (head.1, rest.1))

pub put_done : (s : Slab Row) (key : ℕ) (row : Row) (es : List (ℕ × ℕ)) → IsTable s es → lookup (at_id row.id) es ≡ Some key → Pushed (with_value s key row) es es (changed row.id (λ _. row) (rows_at s es))
put_done s key row es h l =
    let k = looked s row.id key es h.named l in
    let both = put_all s (with_value s key row) key row es k (put_updates s key row.id row k) h.named (unique row.id key es h.rising l) in
    record { table = record { named = both.1; rising = h.rising }; rows_are = both.0 }

pub none_there : (s : Slab Row) (id : ℕ) (es : List (ℕ × ℕ)) → IsTable s es → lookup (at_id id) es ≡ None → row_of id (rows_at s es) ≡ None
none_there s id es h e = row_is s id es h.named ∙ ap (at_key s) e

-- ---- a row taken away

all_above : (s t : Slab Row) (id key : ℕ) (es : List (ℕ × ℕ)) → option_map id_of (get s key) ≡ Some id → Updates s t key None → AllByRecursion (Names s) es → AllByRecursion (λ q. q.0 ≢ id) es
    → (rows_at t es ≡ filter (λ r. not (has_id id r)) (rows_at s es)) × AllByRecursion (Names t) es
all_above s t id key [] k u n h = (refl, tt)
all_above s t id key (e ∷ es) k u n h =
    let w = named_by (get s e.1) e.0 n.0 in
    let rest = all_above s t id key es k u n.1 h.1 in
    let kept : get t e.1 ≡ Some w.0 = u.others e.1 (far s id key e k n.0 h.0) ∙ w.1 in
    let apart : (w.0.id == id) ≡ false = not_same w.0.id id (λ v. h.0 (sym w.2 ∙ v)) in
    let keeps : filter (λ r. not (has_id id r)) (w.0 ∷ rows_at s es) ≡ w.0 ∷ filter (λ r. not (has_id id r)) (rows_at s es) = rw apart refl in (
      ap (λ (o : Option Row). cons_option o (rows_at t es)) kept ∙ (ap (λ (xs : List Row). w.0 ∷ xs) rest.0 ∙ sym (ap (λ (o : Option Row). filter (λ r. not (has_id id r)) (cons_option o (rows_at s es))) w.1 ∙ keeps)),
      (rw kept (ap (λ (m : ℕ). Some m) w.2), rest.1),
    )

shorter_by : (key : ℕ) (e : ℕ × ℕ) (es fs : List (ℕ × ℕ)) (o : Option ℕ) (b : Bool) → (o ≡ Some key → length fs + 1 ≡ length es) → cond b (Some e.1) o ≡ Some key → length (cond b es (e ∷ fs)) + 1 ≡ length es + 1
shorter_by key e es fs o true ih h = refl
shorter_by key e es fs o false ih h = omega (arith, ih h)

pub shorter : (id key : ℕ) (es : List (ℕ × ℕ)) → lookup (at_id id) es ≡ Some key → length (remove_entry (at_id id) es) + 1 ≡ length es
shorter id key [] h = let never : None ≡ Some key = h in cc
shorter id key (e ∷ es) h = omega (arith, shorter_by key e es (remove_entry (at_id id) es) (lookup (at_id id) es) (at_id id e.0) (shorter id key es) h)

pub record Left (s t : Slab Row) (id : ℕ) (es fs : List (ℕ × ℕ)) : Type 0 where
  pub rows_are : rows_at t fs ≡ filter (λ r. not (has_id id r)) (rows_at s es)
  pub named : AllByRecursion (Names t) fs
  pub rising : Rising fs
  pub lower : (n : ℕ) → AllByRecursion (λ q. n < q.0) es → AllByRecursion (λ q. n < q.0) fs

left_by : (s t : Slab Row) (id key : ℕ) (e : ℕ × ℕ) (es : List (ℕ × ℕ)) → option_map id_of (get s key) ≡ Some id → Updates s t key None → AllByRecursion (Names s) (e ∷ es) → Rising (e ∷ es) → Left s t id es (remove_entry (at_id id) es)
    → (b : Bool) → at_id id e.0 ≡ b → Left s t id (e ∷ es) (cond b es (e ∷ remove_entry (at_id id) es))
left_by s t id key e es k u n r ih true f =
    let is : e.0 ≡ id = are_same e.0 id (sym (tests id e.0) ∙ f) in
    let w = named_by (get s e.1) e.0 n.0 in
    let rest = all_above s t id key es k u n.1 (none_of id e.0 es is r.0) in
    let same : (w.0.id == id) ≡ true = ap (λ (m : ℕ). m == id) w.2 ∙ (sym (tests id e.0) ∙ f) in
    let goes : filter (λ r. not (has_id id r)) (w.0 ∷ rows_at s es) ≡ filter (λ r. not (has_id id r)) (rows_at s es) = rw same refl in
    record {
      rows_are = rest.0 ∙ sym (ap (λ (o : Option Row). filter (λ r. not (has_id id r)) (cons_option o (rows_at s es))) w.1 ∙ goes);
      named = rest.1;
      rising = r.1;
      lower = λ m h. h.1;
    }
left_by s t id key e es k u n r ih false f =
    let apart : e.0 ≢ id = are_not e.0 id (sym (tests id e.0) ∙ f) in
    let w = named_by (get s e.1) e.0 n.0 in
    let kept : get t e.1 ≡ Some w.0 = u.others e.1 (far s id key e k n.0 apart) ∙ w.1 in
    let other : (w.0.id == id) ≡ false = ap (λ (m : ℕ). m == id) w.2 ∙ (sym (tests id e.0) ∙ f) in
    let keeps : filter (λ r. not (has_id id r)) (w.0 ∷ rows_at s es) ≡ w.0 ∷ filter (λ r. not (has_id id r)) (rows_at s es) = rw other refl in
    record {
      rows_are = ap (λ (o : Option Row). cons_option o (rows_at t (remove_entry (at_id id) es))) kept ∙ (ap (λ (xs : List Row). w.0 ∷ xs) ih.rows_are ∙ sym (ap (λ (o : Option Row). filter (λ r. not (has_id id r)) (cons_option o (rows_at s es))) w.1 ∙ keeps));
      named = (rw kept (ap (λ (m : ℕ). Some m) w.2), ih.named);
      rising = (ih.lower e.0 r.0, ih.rising);
      lower = λ m h. (h.0, ih.lower m h.1);
    }

pub left : (s t : Slab Row) (id key : ℕ) (es : List (ℕ × ℕ)) → option_map id_of (get s key) ≡ Some id → Updates s t key None → AllByRecursion (Names s) es → Rising es → Left s t id es (remove_entry (at_id id) es)
left s t id key [] k u n r = record { rows_are = refl; named = tt; rising = tt; lower = λ m h. tt }
left s t id key (e ∷ es) k u n r = left_by s t id key e es k u n r (left s t id key es k u n.1 r.1) (at_id id e.0) refl

-- ---- what is found once an id is gone

none_found : (id : ℕ) (es : List (ℕ × ℕ)) → AllByRecursion (λ q. q.0 ≢ id) es → lookup (at_id id) es ≡ None
none_found id [] h = refl
none_found id (e ∷ es) h = rw (tests id e.0 ∙ not_same e.0 id h.0) (none_found id es h.1)

gone_step : (id q : ℕ) (e : ℕ × ℕ) (es : List (ℕ × ℕ)) → AllByRecursion (λ x. e.0 < x.0) es → q ≡ id → lookup (at_id q) (remove_entry (at_id id) es) ≡ None → (b : Bool) → at_id id e.0 ≡ b
    → lookup (at_id q) (cond b es (e ∷ remove_entry (at_id id) es)) ≡ None
gone_step id q e es less same ih true f = let is : e.0 ≡ id = are_same e.0 id (sym (tests id e.0) ∙ f) in rw same (none_found id es (none_of id e.0 es is less))
gone_step id q e es less same ih false f =
    let apart : e.0 ≢ q = λ is. are_not e.0 id (sym (tests id e.0) ∙ f) (is ∙ same) in
    rw (tests q e.0 ∙ not_same e.0 q apart) ih

gone_by : (id q : ℕ) (es : List (ℕ × ℕ)) → Rising es → q ≡ id → lookup (at_id q) (remove_entry (at_id id) es) ≡ None
gone_by id q [] r same = refl
gone_by id q (e ∷ es) r same = gone_step id q e es r.0 same (gone_by id q es r.1 same) (at_id id e.0) refl

others_step : (id q : ℕ) (e : ℕ × ℕ) (es : List (ℕ × ℕ)) → q ≢ id → lookup (at_id q) (remove_entry (at_id id) es) ≡ lookup (at_id q) es → (b : Bool) → at_id id e.0 ≡ b
    → lookup (at_id q) (cond b es (e ∷ remove_entry (at_id id) es)) ≡ lookup (at_id q) (e ∷ es)
others_step id q e es apart ih true f =
    let is : e.0 ≡ id = are_same e.0 id (sym (tests id e.0) ∙ f) in
    rw (tests q e.0 ∙ not_same e.0 q (λ k. apart (sym k ∙ is))) refl
others_step id q e es apart ih false f = ap (λ (o : Option ℕ). cond (at_id q e.0) (Some e.1) o) ih

others_by : (id q : ℕ) (es : List (ℕ × ℕ)) → q ≢ id → lookup (at_id q) (remove_entry (at_id id) es) ≡ lookup (at_id q) es
others_by id q [] apart = refl
others_by id q (e ∷ es) apart = others_step id q e es apart (others_by id q es apart) (at_id id e.0) refl

pub lookup_left : (id q : ℕ) (es : List (ℕ × ℕ)) → Rising es → lookup (at_id q) (remove_entry (at_id id) es) ≡ cond (at_id id q) None (lookup (at_id q) es)
lookup_left id q es r = by_test (at_id id q) refl
  where
    by_test : (b : Bool) → at_id id q ≡ b → lookup (at_id q) (remove_entry (at_id id) es) ≡ cond b None (lookup (at_id q) es)
    by_test true f = gone_by id q es r (are_same q id (sym (tests id q) ∙ f))
    by_test false f = others_by id q es (are_not q id (sym (tests id q) ∙ f))

-- ---- the id of the row in a slot

same_row : (a b : Row) → Some a ≡ Some b → a ≡ b
same_row a b h = cc

first_by : (id key : ℕ) (e x : ℕ × ℕ) (es : List (ℕ × ℕ)) → (lookup (at_id id) es ≡ Some key → lookup (at_id id) (es ++ e ∷ []) ≡ Some key) → (b : Bool)
    → cond b (Some x.1) (lookup (at_id id) es) ≡ Some key → cond b (Some x.1) (lookup (at_id id) (es ++ e ∷ [])) ≡ Some key
first_by id key e x es ih true k = k
first_by id key e x es ih false k = ih k

first_in : (id key : ℕ) (e : ℕ × ℕ) (es : List (ℕ × ℕ)) → lookup (at_id id) es ≡ Some key → lookup (at_id id) (es ++ e ∷ []) ≡ Some key
first_in id key e [] h = let never : None ≡ Some key = h in cc
first_in id key e (x ∷ es) h = first_by id key e x es (first_in id key e es) (at_id id x.0) h

last_in : (id key : ℕ) (es : List (ℕ × ℕ)) → AllByRecursion (λ e. e.0 < id) es → lookup (at_id id) (es ++ (id, key) ∷ []) ≡ Some key
last_in id key [] h = rw (tests id id ∙ same_self id) refl
last_in id key (x ∷ es) h = rw (tests id x.0 ∙ apart_above x.0 id h.0) (last_in id key es h.1)

pub back-same : (s t : Slab Row) (es fs : List (ℕ × ℕ)) → AllNamed s es → ((k : ℕ) → get t k ≡ get s k) → fs ≡ es → AllNamed t fs
back-same s t es fs b same e k r g = rw e (b k r (sym (same k) ∙ g))

pub back-pushed : (s t : Slab Row) (key : ℕ) (row : Row) (es fs : List (ℕ × ℕ)) → IsTable s es → AllNamed s es → Updates s t key (Some row) → AllByRecursion (λ q. q.id < row.id) (rows_at s es) → fs ≡ es ++ (row.id, key) ∷ [] → AllNamed t fs
back-pushed s t key row es fs h b u above e k r g = rw e (by_test (k == key) refl)
  where
    ids : AllByRecursion (λ e. e.0 < row.id) es
    ids = all_ids s row.id es h.named above

    by_test : (v : Bool) → (k == key) ≡ v → lookup (at_id r.id) (es ++ (row.id, key) ∷ []) ≡ Some k
    by_test true f =
        let same : k ≡ key = are_same k key f in
        let one : row ≡ r = same_row row r (sym u.changed ∙ (ap (get t) (sym same) ∙ g)) in
        subst (λ (x : Row). lookup (at_id x.id) (es ++ (row.id, key) ∷ []) ≡ Some k) one (last_in row.id key es ids ∙ ap (λ (n : ℕ). Some n) (sym same))
    by_test false f = first_in r.id k (row.id, key) es (b k r (sym (u.others k (are_not k key f)) ∙ g))

pub back-undone : (s t u : Slab Row) (key : ℕ) (v : Option Row) (es fs : List (ℕ × ℕ)) → AllNamed s es → get s key ≡ None → Updates s t key v → Updates t u key None → fs ≡ es → AllNamed u fs
back-undone s t u key v es fs b free x y e = back-same s u es fs b (λ k. by_test k (k == key) refl) e
  where
    by_test : (k : ℕ) (w : Bool) → (k == key) ≡ w → get u k ≡ get s k
    by_test k true f = let same : k ≡ key = are_same k key f in rw same (y.changed ∙ sym free)
    by_test k false f = (both s t u key v None x y).others k (are_not k key f)

pub back-put : (s : Slab Row) (key : ℕ) (row : Row) (es : List (ℕ × ℕ)) → IsTable s es → AllNamed s es → lookup (at_id row.id) es ≡ Some key → AllNamed (with_value s key row) es
back-put s key row es h b l k r g = by_test (k == key) refl
  where
    u : Updates s (with_value s key row) key (Some row)
    u = put_updates s key row.id row (looked s row.id key es h.named l)

    by_test : (v : Bool) → (k == key) ≡ v → lookup (at_id r.id) es ≡ Some k
    by_test true f =
        let same : k ≡ key = are_same k key f in
        let one : row ≡ r = same_row row r (sym u.changed ∙ (ap (get (with_value s key row)) (sym same) ∙ g)) in
        subst (λ (x : Row). lookup (at_id x.id) es ≡ Some k) one (l ∙ ap (λ (n : ℕ). Some n) (sym same))
    by_test false f = b k r (sym (u.others k (are_not k key f)) ∙ g)

pub back-left : (s t : Slab Row) (id key : ℕ) (es fs : List (ℕ × ℕ)) → AllNamed s es → Updates s t key None → lookup (at_id id) es ≡ Some key → ((q : ℕ) → lookup (at_id q) fs ≡ cond (at_id id q) None (lookup (at_id q) es)) → AllNamed t fs
back-left s t id key es fs b u l gone k r g = by_test (k == key) refl
  where
    by_id : lookup (at_id r.id) es ≡ Some k → (k ≡ key → ⊥) → (v : Bool) → at_id id r.id ≡ v → cond v None (lookup (at_id r.id) es) ≡ Some k
    by_id e apart true f =
        let same : r.id ≡ id = are_same r.id id (sym (tests id r.id) ∙ f) in
        absurd (apart (some_same k key (sym (ap (λ (n : ℕ). lookup (at_id n) es) (sym same) ∙ e) ∙ l)))
    by_id e apart false f = e

    by_test : (v : Bool) → (k == key) ≡ v → lookup (at_id r.id) fs ≡ Some k
    by_test true f =
        let same : k ≡ key = are_same k key f in
        let never : None ≡ Some r = sym u.changed ∙ (ap (get t) (sym same) ∙ g) in cc
    by_test false f =
        let apart = are_not k key f in
        gone r.id ∙ by_id (b k r (sym (u.others k apart) ∙ g)) apart (at_id id r.id) refl
