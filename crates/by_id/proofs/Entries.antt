-- Entries of which some have a value no more: what is found among them, and what an edit leaves.
use Rattle.std.proofs.Common.{◌≡◌, ◌≢◌, ℕ, zero, suc, ◌<◌, ◌≤◌, ◌-◌, Bool, true, false, cond, Option, Some, None, List, [], ◌∷◌, ◌++◌, length, get_or, filter, refl, ap, sym, ◌∙◌, subst, arith}
use Rattle.std.proofs.lemmas.Bool.Decides.{nat_tests}
use Rattle.std.proofs.lemmas.Cmp.{nat_cmp_total, tied_itself}
use Rattle.std.proofs.lemmas.Option.{slice_get-get_or, slice_get_read, slice_get_past}
use Rattle.std.specs.Prelude.{slice_set, is_some}
use Rattle.std.specs.List.{AllByRecursion, slice_get, HoldsAt, cons_option, insert}
use Rattle.std.specs.List.Sorted.{IsNonDecreasingBy, IsPartitionPoint}
use Rattle.std.specs.Option.{option_map}
use Rattle.std.specs.Ordering.{nat_cmp, ordering_index}
use Rattle.std.specs.declared.cmp.Ordering.TheVariants.{Less, Equal, Greater}
use Rattle.std.specs.Map.{remove_entry, lookup}
use Rattle.std.specs.BTreeMap.{is_at, insert_entry}
use Rattle.by_id.specs.declared.entry.Entry.{Entry}
use Rattle.by_id.specs.Entries.{lives, living, IdsRise, IsAt, HasNot}

-- ---- ids compared

abbrev pub at_id : ℕ → ℕ → Bool
at_id id = is_at (nat_cmp id)

is_there : (id n : ℕ) → n ≡ id → at_id id n ≡ true
is_there id n is = by_test (at_id id n) refl
  where
    by_test : (b : Bool) → at_id id n ≡ b → b ≡ true
    by_test true e = refl
    by_test false e = grind (arith, nat_tests)

is_elsewhere : (id n : ℕ) → n ≢ id → at_id id n ≡ false
is_elsewhere id n apart = by_test (at_id id n) refl
  where
    by_test : (b : Bool) → at_id id n ≡ b → b ≡ false
    by_test true e = absurd (apart (grind (arith, nat_tests)))
    by_test false e = refl

greater : (m n : ℕ) → n < m → nat_cmp m n ≡ Greater
greater m n less = grind (arith, nat_tests, less)

lesser : (m n : ℕ) → m < n → nat_cmp m n ≡ Less
lesser m n less = grind (arith, nat_tests, less)

equal : (m n : ℕ) → n ≡ m → nat_cmp m n ≡ Equal
equal m n is = ap (nat_cmp m) is ∙ tied_itself nat_cmp_total m

same_ids : (m n : ℕ) → nat_cmp m n ≡ Equal → m ≡ n
same_ids m n h = grind (arith, nat_tests)

higher : (id a b : ℕ) → a ≤ b → ordering_index (nat_cmp a id) ≤ ordering_index (nat_cmp b id)
higher id a b le = grind (arith, nat_tests)

is_less : (a id : ℕ) → nat_cmp a id ≡ Less → a < id
is_less a id h = grind (arith, nat_tests)

is_greater : (a id : ℕ) → nat_cmp a id ≡ Greater → id < a
is_greater a id h = grind (arith, nat_tests)

some_same : {A : Type 0} (a b : A) → Some a ≡ Some b → a ≡ b
some_same a b e = cc

module _ {T : Type 0} where
  -- ---- what an id has, if it has a value, before others

  abbrev pub before : ℕ → Option T → List (ℕ × T) → List (ℕ × T)
  before n o es = cons_option (option_map (λ (v : T). (n, v)) o) es

  passed : (id n : ℕ) (o : Option T) (es : List (ℕ × T)) → n ≢ id → lookup (at_id id) (before n o es) ≡ lookup (at_id id) es
  passed id n None es apart = refl
  passed id n (Some v) es apart = rw (is_elsewhere id n apart) refl

  met : (id n : ℕ) (o : Option T) (es : List (ℕ × T)) → n ≡ id → lookup (at_id id) es ≡ None → lookup (at_id id) (before n o es) ≡ o
  met id n None es is none = none
  met id n (Some v) es is none = rw (is_there id n is) refl

  kept : (id n : ℕ) (o : Option T) (es : List (ℕ × T)) → n ≢ id → remove_entry (at_id id) (before n o es) ≡ before n o (remove_entry (at_id id) es)
  kept id n None es apart = refl
  kept id n (Some v) es apart = rw (is_elsewhere id n apart) refl

  lost : (id n : ℕ) (o : Option T) (es : List (ℕ × T)) → n ≡ id → remove_entry (at_id id) es ≡ es → remove_entry (at_id id) (before n o es) ≡ es
  lost id n None es is same = same
  lost id n (Some v) es is same = rw (is_there id n is) refl

  behind : (id n : ℕ) (v : T) (o : Option T) (es : List (ℕ × T)) → n < id → insert_entry nat_cmp (before n o es) id v ≡ before n o (insert_entry nat_cmp es id v)
  behind id n v None es less = refl
  behind id n v (Some w) es less = rw (greater id n less) refl

  ahead : (id n : ℕ) (v : T) (o : Option T) (es : List (ℕ × T)) → id < n → insert_entry nat_cmp es id v ≡ (id, v) ∷ es → insert_entry nat_cmp (before n o es) id v ≡ (id, v) ∷ before n o es
  ahead id n v None es less first = first
  ahead id n v (Some w) es less first = rw (lesser id n less) refl

  over : (id n : ℕ) (v : T) (o : Option T) (es : List (ℕ × T)) → n ≡ id → insert_entry nat_cmp es id v ≡ (id, v) ∷ es → insert_entry nat_cmp (before n o es) id v ≡ (id, v) ∷ es
  over id n v None es is first = first
  over id n v (Some w) es is first = rw (equal id n is) (ap (λ (m : ℕ). (m, v) ∷ es) is)

  -- a value behind all others
  pub put_behind : (id : ℕ) (v : T) (es : List (ℕ × T)) → AllByRecursion (λ e. e.0 < id) es → insert_entry nat_cmp es id v ≡ es ++ (id, v) ∷ []
  put_behind id v [] h = refl
  put_behind id v (e ∷ es) h = rw (greater id e.0 h.0) (ap (λ (l : List (ℕ × T)). e ∷ l) (put_behind id v es h.1))

  -- ---- what holds of all

  all_of : (P Q : Entry T → Type 0) → ((e : Entry T) → P e → Q e) → (es : List (Entry T)) → AllByRecursion P es → AllByRecursion Q es
  all_of P Q f [] h = tt
  all_of P Q f (e ∷ es) h = (f e h.0, all_of P Q f es h.1)

  all_more : (P : Entry T → Type 0) (es : List (Entry T)) (e : Entry T) → AllByRecursion P es → P e → AllByRecursion P (es ++ e ∷ [])
  all_more P [] e h k = (k, tt)
  all_more P (x ∷ es) e h k = (h.0, all_more P es e h.1 k)

  all_left : (P : Entry T → Type 0) (es : List (Entry T)) → AllByRecursion P es → AllByRecursion P (filter lives es)
  all_left P [] h = tt
  all_left P (e ∷ es) h = by_test (lives e) (all_left P es h.1)
    where
      by_test : (b : Bool) → AllByRecursion P (filter lives es) → AllByRecursion P (cond b (e ∷ filter lives es) (filter lives es))
      by_test true k = (h.0, k)
      by_test false k = k

  -- what holds of all holds of the one at a place
  all_at : (P : Entry T → Type 0) (es : List (Entry T)) (at : ℕ) (e : Entry T) → AllByRecursion P es → slice_get es at ≡ Some e → P e
  all_at P [] at e h g = cc
  all_at P (x ∷ es) zero e h g = subst P (some_same x e g) h.0
  all_at P (x ∷ es) (suc at) e h g = all_at P es at e h.1 g

  -- ---- an id that no entry has

  pub absent : (id : ℕ) (es : List (Entry T)) → HasNot id es → lookup (at_id id) (living es) ≡ None
  absent id [] h = refl
  absent id (e ∷ es) h = passed id e.id e.value (living es) h.0 ∙ absent id es h.1

  pub unmoved : (id : ℕ) (es : List (Entry T)) → HasNot id es → remove_entry (at_id id) (living es) ≡ living es
  unmoved id [] h = refl
  unmoved id (e ∷ es) h = kept id e.id e.value (living es) h.0 ∙ ap (before e.id e.value) (unmoved id es h.1)

  -- those above an id have not it
  above : (id : ℕ) (e : Entry T) (es : List (Entry T)) → e.id ≡ id → AllByRecursion (λ q. e.id < q.id) es → HasNot id es
  above id e es is h = all_of (λ (q : Entry T). e.id < q.id) (λ q. q.id ≢ id) (λ q less same. omega (arith, is, less, same)) es h

  -- ---- the entry at a place

  -- the entry that is read at the place of an id has it
  pub placed : (id : ℕ) (es : List (Entry T)) (at : ℕ) (e : Entry T) → IsAt id es at → (at < length es) × HoldsAt (λ y. e ≡ y) es at → (slice_get es at ≡ Some e) × (e.id ≡ id)
  placed id es at e h r =
      let is : slice_get es at ≡ Some e = slice_get_read es (length es) at e refl r.0 (r.1 e) in
      (is, some_same e.id id (ap (option_map (λ (x : Entry T). x.id)) (sym is) ∙ h))

  -- there is one
  pub never_past : (id : ℕ) (es : List (Entry T)) (at : ℕ) → IsAt id es at → length es ≤ at → ⊥
  never_past id es at h past = let no : None ≡ Some id = ap (option_map (λ (x : Entry T). x.id)) (sym (slice_get_past es at past)) ∙ h in cc

  pub value_at : (id : ℕ) (es : List (Entry T)) (at : ℕ) (e : Entry T) → IdsRise es → slice_get es at ≡ Some e → e.id ≡ id → lookup (at_id id) (living es) ≡ e.value
  value_at id [] at e h g is = cc
  value_at id (x ∷ es) zero e h g is =
      let same : x ≡ e = some_same x e g in
      let own : x.id ≡ id = ap (λ (y : Entry T). y.id) same ∙ is in
      met id x.id x.value (living es) own (absent id es (above id x es own h.0)) ∙ ap (λ (y : Entry T). y.value) same
  value_at id (x ∷ es) (suc at) e h g is =
      let less = all_at (λ (q : Entry T). x.id < q.id) es at e h.0 g in
      passed id x.id x.value (living es) (λ same. omega (arith, less, same, is)) ∙ value_at id es at e h.1 g is

  -- ---- a value that is taken

  abbrev pub emptied : Entry T → Entry T
  emptied e = record e { value = None }

  gone_at : (id : ℕ) (es : List (Entry T)) (at : ℕ) (e : Entry T) → IdsRise es → slice_get es at ≡ Some e → e.id ≡ id → living (slice_set es at (emptied e)) ≡ remove_entry (at_id id) (living es)
  gone_at id [] at e h g is = cc
  gone_at id (x ∷ es) zero e h g is =
      let own : x.id ≡ id = ap (λ (y : Entry T). y.id) (some_same x e g) ∙ is in
      sym (lost id x.id x.value (living es) own (unmoved id es (above id x es own h.0)))
  gone_at id (x ∷ es) (suc at) e h g is =
      let less = all_at (λ (q : Entry T). x.id < q.id) es at e h.0 g in
      ap (before x.id x.value) (gone_at id es at e h.1 g is) ∙ sym (kept id x.id x.value (living es) (λ same. omega (arith, less, same, is)))

  -- ---- another entry of the same id

  all_set : (n : ℕ) (es : List (Entry T)) (at : ℕ) (e f : Entry T) → AllByRecursion (λ q. n < q.id) es → slice_get es at ≡ Some e → f.id ≡ e.id → AllByRecursion (λ q. n < q.id) (slice_set es at f)
  all_set n [] at e f h g same = tt
  all_set n (x ∷ es) zero e f h g same = (subst (λ (m : ℕ). n < m) (ap (λ (y : Entry T). y.id) (some_same x e g) ∙ sym same) h.0, h.1)
  all_set n (x ∷ es) (suc at) e f h g same = (h.0, all_set n es at e f h.1 g same)

  rises_set : (es : List (Entry T)) (at : ℕ) (e f : Entry T) → IdsRise es → slice_get es at ≡ Some e → f.id ≡ e.id → IdsRise (slice_set es at f)
  rises_set [] at e f h g same = tt
  rises_set (x ∷ es) zero e f h g same = (subst (λ (m : ℕ). AllByRecursion (λ q. m < q.id) es) (ap (λ (y : Entry T). y.id) (some_same x e g) ∙ sym same) h.0, h.1)
  rises_set (x ∷ es) (suc at) e f h g same = (all_set x.id es at e f h.0 g same, rises_set es at e f h.1 g same)

  -- what is known once the entry at the place of an id is read, and o is left in it
  pub record Read (id : ℕ) (shown : List (ℕ × T)) (es : List (Entry T)) (at : ℕ) (e : Entry T) (o : Option T) : Type 0 where
    pub value : lookup (at_id id) shown ≡ e.value
    pub rises : IdsRise (slice_set es at (record { id = e.id; value = o }))
    pub same : living (slice_set es at (record { id = e.id; value = o })) ≡ remove_entry (at_id id) shown

  -- lent is the list in which the place was found
  pub read : (id : ℕ) (shown : List (ℕ × T)) (lent es : List (Entry T)) (at : ℕ) (e : Entry T) (o : Option T) → living es ≡ shown → IdsRise es → lent ≡ es → IsAt id lent at
      → (at < length es) × HoldsAt (λ y. e ≡ y) es at → o ≡ None → Read id shown es at e o
  read id shown lent es at e o is h l there r none =
      let p = placed id es at e (subst (λ (xs : List (Entry T)). IsAt id xs at) l there) r in
      rw none (record {
        value = ap (lookup (at_id id)) (sym is) ∙ value_at id es at e h p.0 p.1;
        rises = rises_set es at e (emptied e) h p.0 refl;
        same = gone_at id es at e h p.0 p.1 ∙ ap (remove_entry (at_id id)) is;
      })

  -- ---- those that have a value

  left_by : (e : Entry T) (es : List (Entry T)) → living (filter lives es) ≡ living es → (o : Option T) → e.value ≡ o → living (cond (is_some o) (e ∷ filter lives es) (filter lives es)) ≡ before e.id o (living es)
  left_by e es ih None is = ih
  left_by e es ih (Some v) is = ap (λ (o : Option T). before e.id o (living (filter lives es))) is ∙ ap (before e.id (Some v)) ih

  pub same_left : (es : List (Entry T)) → living (filter lives es) ≡ living es
  same_left [] = refl
  same_left (e ∷ es) = left_by e es (same_left es) e.value refl

  pub rises_left : (es : List (Entry T)) → IdsRise es → IdsRise (filter lives es)
  rises_left [] h = tt
  rises_left (e ∷ es) h = by_test (lives e) (all_left (λ q. e.id < q.id) es h.0) (rises_left es h.1)
    where
      by_test : (b : Bool) → AllByRecursion (λ q. e.id < q.id) (filter lives es) → IdsRise (filter lives es) → IdsRise (cond b (e ∷ filter lives es) (filter lives es))
      by_test true a k = (a, k)
      by_test false a k = k

  -- ---- one more

  abbrev pub entry_of : ℕ → T → Entry T
  entry_of id v = record { id = id; value = Some v }

  first_of : (id : ℕ) (v : T) (es : List (Entry T)) → AllByRecursion (λ e. id < e.id) es → insert_entry nat_cmp (living es) id v ≡ (id, v) ∷ living es
  first_of id v [] h = refl
  first_of id v (e ∷ es) h = ahead id e.id v e.value (living es) h.0 (first_of id v es h.1)

  pub one_more : (id : ℕ) (v : T) (es : List (Entry T)) → AllByRecursion (λ e. e.id < id) es → living (es ++ entry_of id v ∷ []) ≡ insert_entry nat_cmp (living es) id v
  one_more id v [] h = refl
  one_more id v (e ∷ es) h = ap (before e.id e.value) (one_more id v es h.1) ∙ sym (behind id e.id v e.value (living es) h.0)

  pub rises_more : (id : ℕ) (v : T) (es : List (Entry T)) → IdsRise es → AllByRecursion (λ e. e.id < id) es → IdsRise (es ++ entry_of id v ∷ [])
  rises_more id v [] h k = (tt, tt)
  rises_more id v (e ∷ es) h k = (all_more (λ q. e.id < q.id) es (entry_of id v) h.0 k.0, rises_more id v es h.1 k.1)

  -- all are below what the last one is below
  pub below_last : (id : ℕ) (es : List (Entry T)) (e : Entry T) → IdsRise es → slice_get es (length es - 1) ≡ Some e → e.id < id → AllByRecursion (λ q. q.id < id) es
  below_last id [] e h g less = tt
  below_last id (x ∷ []) e h g less = (subst (λ (y : Entry T). y.id < id) (sym (some_same x e g)) less, tt)
  below_last id (x ∷ y ∷ es) e h g less =
      let here : length (x ∷ y ∷ es) - 1 ≡ suc (length es) = omega arith in
      let next_here : length (y ∷ es) - 1 ≡ length es = omega arith in
      let at : slice_get (y ∷ es) (length es) ≡ Some e = subst (λ (n : ℕ). slice_get (x ∷ y ∷ es) n ≡ Some e) here g in
      let rest = below_last id (y ∷ es) e h.1 (subst (λ (n : ℕ). slice_get (y ∷ es) n ≡ Some e) (sym next_here) at) less in
      let first = h.0.0 in
      let next = rest.0 in
      (omega (arith, first, next), rest)

  -- ---- one in its place

  -- those that stand before a place are below an id, and the others above it
  abbrev pub ArePartedBy : ℕ → List (Entry T) → ℕ → Type 0
  ArePartedBy id es zero = AllByRecursion (λ e. id < e.id) es
  ArePartedBy id [] (suc at) = Unit {0}
  ArePartedBy id (e ∷ es) (suc at) = (e.id < id) × ArePartedBy id es at

  put_in : (id : ℕ) (v : T) (es : List (Entry T)) (at : ℕ) → ArePartedBy id es at → living (insert es at (entry_of id v)) ≡ insert_entry nat_cmp (living es) id v
  put_in id v es zero p = sym (first_of id v es p)
  put_in id v [] (suc at) p = refl
  put_in id v (e ∷ es) (suc at) p = ap (before e.id e.value) (put_in id v es at p.1) ∙ sym (behind id e.id v e.value (living es) p.0)

  all_in : (n id : ℕ) (v : T) (es : List (Entry T)) (at : ℕ) → n < id → AllByRecursion (λ q. n < q.id) es → AllByRecursion (λ q. n < q.id) (insert es at (entry_of id v))
  all_in n id v es zero less h = (less, h)
  all_in n id v [] (suc at) less h = (less, tt)
  all_in n id v (e ∷ es) (suc at) less h = (h.0, all_in n id v es at less h.1)

  rises_in : (id : ℕ) (v : T) (es : List (Entry T)) (at : ℕ) → IdsRise es → ArePartedBy id es at → IdsRise (insert es at (entry_of id v))
  rises_in id v es zero h p = (p, h)
  rises_in id v [] (suc at) h p = (tt, tt)
  rises_in id v (e ∷ es) (suc at) h p = (all_in e.id id v es at p.0 h.0, rises_in id v es at h.1 p.1)

  put_over : (id : ℕ) (v : T) (es : List (Entry T)) (at : ℕ) (e : Entry T) → IdsRise es → slice_get es at ≡ Some e → e.id ≡ id → living (slice_set es at (entry_of id v)) ≡ insert_entry nat_cmp (living es) id v
  put_over id v [] at e h g is = cc
  put_over id v (x ∷ es) zero e h g is =
      let own : x.id ≡ id = ap (λ (y : Entry T). y.id) (some_same x e g) ∙ is in
      sym (over id x.id v x.value (living es) own (first_of id v es (subst (λ (m : ℕ). AllByRecursion (λ q. m < q.id) es) own h.0)))
  put_over id v (x ∷ es) (suc at) e h g is =
      let less = all_at (λ (q : Entry T). x.id < q.id) es at e h.0 g in
      ap (before x.id x.value) (put_over id v es at e h.1 g is) ∙ sym (behind id x.id v x.value (living es) (omega (arith, less, is)))

  -- ---- what a search by halving finds

  pub found : (id : ℕ) (es : List (Entry T)) (at : ℕ) → at < length es → HoldsAt (λ y. nat_cmp y.id id ≡ Equal) es at → IsAt id es at
  found id es at l h =
      let d : Entry T = record { id = 0; value = None } in
      ap (option_map (λ (e : Entry T). e.id)) (slice_get-get_or es at d l) ∙ ap (λ (n : ℕ). Some n) (same_ids (get_or es at d).id id (h d))

  rises_to : (es : List (Entry T)) → IdsRise es → (i j : ℕ) (d : Entry T) → i ≤ j → j < length es → (get_or es i d).id ≤ (get_or es j d).id
  rises_to [] h i j d le lt = absurd (omega (arith, lt))
  rises_to (x ∷ es) h zero zero d le lt = omega arith
  rises_to (x ∷ es) h zero (suc j) d le lt =
      let less = all_at (λ (q : Entry T). x.id < q.id) es j (get_or es j d) h.0 (slice_get-get_or es j d (omega (arith, lt))) in
      omega (arith, less)
  rises_to (x ∷ es) h (suc i) zero d le lt = absurd (omega (arith, le))
  rises_to (x ∷ es) h (suc i) (suc j) d le lt = rises_to es h.1 i j d (omega (arith, le)) (omega (arith, lt))

  -- by what holds at each place
  parts_of : (id : ℕ) (es : List (Entry T)) (at : ℕ) → ((k : ℕ) (d : Entry T) → k < at → k < length es → (get_or es k d).id < id) → ((k : ℕ) (d : Entry T) → at ≤ k → k < length es → id < (get_or es k d).id)
      → ArePartedBy id es at
  parts_of id [] zero low high = tt
  parts_of id (x ∷ es) zero low high = (high 0 x (omega arith) (omega arith), parts_of id es zero (λ k d l m. absurd (omega (arith, l))) (λ k d l m. high (suc k) d (omega arith) (omega (arith, m))))
  parts_of id [] (suc at) low high = tt
  parts_of id (x ∷ es) (suc at) low high = (
    low 0 x (omega arith) (omega arith),
    parts_of id es at (λ k d l m. low (suc k) d (omega (arith, l)) (omega (arith, m))) (λ k d l m. high (suc k) d (omega (arith, l)) (omega (arith, m))),
  )

  parted : (id : ℕ) (es : List (Entry T)) (at : ℕ) → IdsRise es
      → (IsNonDecreasingBy (λ (y : Entry T). ordering_index (nat_cmp y.id id)) es → IsPartitionPoint (λ (y : Entry T). nat_cmp y.id id ≡ Less) (λ y. nat_cmp y.id id ≡ Greater) es at) → ArePartedBy id es at
  parted id es at h p =
      let parts = p (λ i j d le lt. higher id (get_or es i d).id (get_or es j d).id (rises_to es h i j d le lt)) in
      parts_of id es at (λ k d l m. is_less (get_or es k d).id id (parts.0 k d (omega arith) l)) (λ k d l m. is_greater (get_or es k d).id id (parts.1 k d l m))

  none_parted : (id : ℕ) (es : List (Entry T)) (at : ℕ) → ArePartedBy id es at → HasNot id es
  none_parted id es zero p = all_of (λ (e : Entry T). id < e.id) (λ e. e.id ≢ id) (λ e less same. omega (arith, less, same)) es p
  none_parted id [] (suc at) p = tt
  none_parted id (e ∷ es) (suc at) p = let less = p.0 in ((λ same. omega (arith, less, same)), none_parted id es at p.1)

  pub not_found : (id : ℕ) (es : List (Entry T)) (at : ℕ) → IdsRise es
      → (IsNonDecreasingBy (λ (y : Entry T). ordering_index (nat_cmp y.id id)) es → IsPartitionPoint (λ (y : Entry T). nat_cmp y.id id ≡ Less) (λ y. nat_cmp y.id id ≡ Greater) es at) → HasNot id es
  not_found id es at h p = none_parted id es at (parted id es at h p)

  -- ---- a value put at the place that was found; lent is the list in which it was

  pub record Put (id : ℕ) (v : T) (es fs : List (Entry T)) : Type 0 where
    pub rises : IdsRise fs
    pub same : living fs ≡ insert_entry nat_cmp (living es) id v

  pub put_at : (id : ℕ) (v : T) (lent es : List (Entry T)) (at : ℕ) → lent ≡ es → IdsRise es → at < length lent → HoldsAt (λ y. nat_cmp y.id id ≡ Equal) lent at → Put id v es (slice_set es at (entry_of id v))
  put_at id v lent es at is h less same =
      let e = get_or es at (entry_of id v) in
      let l : at < length es = subst (λ (xs : List (Entry T)). at < length xs) is less in
      let there : slice_get es at ≡ Some e = slice_get-get_or es at (entry_of id v) l in
      let own : e.id ≡ id = same_ids e.id id (subst (λ (xs : List (Entry T)). HoldsAt (λ y. nat_cmp y.id id ≡ Equal) xs at) is same (entry_of id v)) in
      record { rises = rises_set es at e (entry_of id v) h there (sym own); same = put_over id v es at e h there own }

  pub put_between : (id : ℕ) (v : T) (lent es : List (Entry T)) (at : ℕ) → lent ≡ es → IdsRise es
      → (IsNonDecreasingBy (λ (y : Entry T). ordering_index (nat_cmp y.id id)) lent → IsPartitionPoint (λ (y : Entry T). nat_cmp y.id id ≡ Less) (λ y. nat_cmp y.id id ≡ Greater) lent at) → Put id v es (insert es at (entry_of id v))
  put_between id v lent es at is h p =
      let parts : ArePartedBy id es at = subst (λ (xs : List (Entry T)). ArePartedBy id xs at) is (parted id lent at (subst IdsRise (sym is) h) p) in
      record { rises = rises_in id v es at h parts; same = put_in id v es at parts }
