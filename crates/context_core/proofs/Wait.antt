-- The least ready time above now, whatever the order of the rows.
use Rattle.std.proofs.Common.{◌≡◌, ℕ, ◌==◌, Bool, true, false, not, length, cond, ℤ, pos, Option, Some, None, List, [], ◌∷◌, filter, refl, ap, sym, ◌∙◌, arith}
use Rattle.std.proofs.lemmas.Int.{ints}
use Rattle.std.proofs.lemmas.Bool.Decides.{nat_tests}
use Rattle.std.specs.Prelude.{int_lt, IfSome, IsTrue}
use Rattle.std.specs.List.{list_any}
use Rattle.context_core.specs.Ready.{is_blocked, is_free}
use Rattle.source_rows.specs.declared.row.Row.{Row}
use Rattle.source_rows.specs.Rows.{in_order, placed, stands_before, sooner, next_ready}

-- the sooner of two times that there may be
abbrev pub joined : Option ℤ → Option ℤ → Option ℤ
joined None o = o
joined (Some t) o = Some (sooner t o)

-- the ready time of a row, where it is above now
abbrev pub time : ℕ → Row → Option ℤ
time now r = cond (int_lt (pos now) r.ready) (Some r.ready) None

-- and where the row passes
abbrev pub kept : (Row → Bool) → ℕ → Row → Option ℤ
kept p now r = cond (p r) (time now r) None

pub joined_none : (o : Option ℤ) → joined o None ≡ o
joined_none None = refl
joined_none (Some t) = refl

comm_by : (t u : ℤ) (a b : Bool) → int_lt u t ≡ a → int_lt t u ≡ b → cond a u t ≡ cond b t u
comm_by t u true true e f = absurd (omega (arith, ints))
comm_by t u true false e f = refl
comm_by t u false true e f = refl
comm_by t u false false e f = omega (arith, ints)

pub joined_comm : (a b : Option ℤ) → joined a b ≡ joined b a
joined_comm None None = refl
joined_comm None (Some u) = refl
joined_comm (Some t) None = refl
joined_comm (Some t) (Some u) = ap (λ (z : ℤ). Some z) (comm_by t u (int_lt u t) (int_lt t u) refl refl)

assoc_by : (t u v : ℤ) (a b c d : Bool) → int_lt u t ≡ a → int_lt v u ≡ b → int_lt v (cond a u t) ≡ c → int_lt (cond b v u) t ≡ d → cond c v (cond a u t) ≡ cond d (cond b v u) t
assoc_by t u v true true true true e f g h = refl
assoc_by t u v true true true false e f g h = absurd (omega (arith, ints))
assoc_by t u v true true false true e f g h = absurd (omega (arith, ints))
assoc_by t u v true true false false e f g h = absurd (omega (arith, ints))
assoc_by t u v true false true d e f g h = absurd (omega (arith, ints))
assoc_by t u v true false false true e f g h = refl
assoc_by t u v true false false false e f g h = absurd (omega (arith, ints))
assoc_by t u v false true true true e f g h = refl
assoc_by t u v false true true false e f g h = absurd (omega (arith, ints))
assoc_by t u v false true false true e f g h = absurd (omega (arith, ints))
assoc_by t u v false true false false e f g h = refl
assoc_by t u v false false true d e f g h = absurd (omega (arith, ints))
assoc_by t u v false false false true e f g h = absurd (omega (arith, ints))
assoc_by t u v false false false false e f g h = refl

pub joined_assoc : (a b c : Option ℤ) → joined (joined a b) c ≡ joined a (joined b c)
joined_assoc None b c = refl
joined_assoc (Some t) None c = refl
joined_assoc (Some t) (Some u) None = refl
joined_assoc (Some t) (Some u) (Some v) =
    ap (λ (z : ℤ). Some z) (assoc_by t u v (int_lt u t) (int_lt v u) (int_lt v (cond (int_lt u t) u t)) (int_lt (cond (int_lt v u) v u) t) refl refl refl refl)

time_by : (r : Row) (o : Option ℤ) (b : Bool) → cond b (Some (sooner r.ready o)) o ≡ joined (cond b (Some r.ready) None) o
time_by r o true = refl
time_by r o false = refl

kept_by : (now : ℕ) (p : Row → Bool) (r : Row) (rs : List Row) (b : Bool) → next_ready now (cond b (r ∷ filter p rs) (filter p rs)) ≡ joined (cond b (time now r) None) (next_ready now (filter p rs))
kept_by now p r rs true = time_by r (next_ready now (filter p rs)) (int_lt (pos now) r.ready)
kept_by now p r rs false = refl

-- one row more
pub next_kept : (now : ℕ) (p : Row → Bool) (r : Row) (rs : List Row) → next_ready now (filter p (r ∷ rs)) ≡ joined (kept p now r) (next_ready now (filter p rs))
next_kept now p r rs = kept_by now p r rs (p r)

swapped : (a b c : Option ℤ) → joined a (joined b c) ≡ joined b (joined a c)
swapped a b c = sym (joined_assoc a b c) ∙ (ap (λ (o : Option ℤ). joined o c) (joined_comm a b) ∙ joined_assoc b a c)

placed_by : (now : ℕ) (p : Row → Bool) (r q : Row) (qs : List Row) (b : Bool) → next_ready now (filter p (placed r qs)) ≡ next_ready now (filter p (r ∷ qs)) → next_ready now (filter p (cond b (r ∷ q ∷ qs) (q ∷ placed r qs))) ≡ next_ready now (filter p (r ∷ q ∷ qs))
placed_by now p r q qs true ih = refl
placed_by now p r q qs false ih =
    next_kept now p q (placed r qs) ∙ (ap (joined (kept p now q)) (ih ∙ next_kept now p r qs)
    ∙ (swapped (kept p now q) (kept p now r) (next_ready now (filter p qs))
    ∙ sym (next_kept now p r (q ∷ qs) ∙ ap (joined (kept p now r)) (next_kept now p q qs))))

next_placed : (now : ℕ) (p : Row → Bool) (r : Row) (qs : List Row) → next_ready now (filter p (placed r qs)) ≡ next_ready now (filter p (r ∷ qs))
next_placed now p r [] = refl
next_placed now p r (q ∷ qs) = placed_by now p r q qs (stands_before r q) (next_placed now p r qs)

-- the rows may stand in any order
pub next_in_order : (now : ℕ) (p : Row → Bool) (rows : List Row) → next_ready now (filter p (in_order rows)) ≡ next_ready now (filter p rows)
next_in_order now p [] = refl
next_in_order now p (r ∷ rows) =
    next_placed now p r (in_order rows) ∙ (next_kept now p r (in_order rows) ∙ (ap (joined (kept p now r)) (next_in_order now p rows) ∙ sym (next_kept now p r rows)))

-- ---- nothing in progress

next_later_by : (now : ℕ) (r : Row) (o : Option ℤ) (b : Bool) → int_lt (pos now) r.ready ≡ b → IfSome o (λ t. IsTrue (int_lt (pos now) t)) → IfSome (cond b (Some (sooner r.ready o)) o) (λ t. IsTrue (int_lt (pos now) t))
next_later_by now r None true e ih = e
next_later_by now r (Some u) true e ih = sooner_later (int_lt u r.ready)
  where
    sooner_later : (b : Bool) → int_lt (pos now) (cond b u r.ready) ≡ true
    sooner_later true = ih
    sooner_later false = e
next_later_by now r o false e ih = ih

pub next_later : (now : ℕ) (rows : List Row) → IfSome (next_ready now rows) (λ t. IsTrue (int_lt (pos now) t))
next_later now [] = tt
next_later now (r ∷ rows) = next_later_by now r (next_ready now rows) (int_lt (pos now) r.ready) refl (next_later now rows)

not_blocked : (lineage : List ℕ) → list_any (λ id. list_any (λ b. b == id) []) lineage ≡ false
not_blocked [] = refl
not_blocked (id ∷ lineage) = not_blocked lineage

pub all_free : (rows : List Row) → filter (is_free []) rows ≡ rows
all_free [] = refl
all_free (r ∷ rows) = ap (λ (b : Bool). cond (not b) (r ∷ filter (is_free []) rows) (filter (is_free []) rows)) (not_blocked r.lineage) ∙ ap (λ (rs : List Row). r ∷ rs) (all_free rows)

pub none_if : (xs : List ℕ) → (length xs == 0) ≡ true → xs ≡ []
none_if [] e = refl
none_if (x ∷ xs) e = grind (arith, nat_tests, e)

-- nothing is blocked where no call is in progress
pub none_blocked : (busy : List ℕ) (r : Row) → (length busy == 0) ≡ true → is_blocked busy r ≡ false
none_blocked busy r e = ap (λ (l : List ℕ). is_blocked l r) (none_if busy e) ∙ not_blocked r.lineage
