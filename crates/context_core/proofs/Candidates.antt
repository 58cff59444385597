-- Only rows that may be ready have to be looked at.
use Rattle.std.proofs.Common.{◌≡◌, ◌==◌, ℕ, ◌&&◌, ◌||◌, Bool, true, false, cond, not, nat_lt, ℤ, pos, negsuc, Option, Some, None, List, [], ◌∷◌, filter, refl, ap, sym, ◌∙◌, arith}
use Rattle.std.proofs.lemmas.Int.{ints}
use Rattle.std.proofs.lemmas.Bool.Decides.{nat_tests}
use Rattle.std.specs.Prelude.{int_le, int_lt, bit_or}
use Rattle.std.specs.List.{AllByRecursion, find, list_any}
use Rattle.loop_script.specs.declared.source.Kind.{Kind}
use Rattle.loop_script.specs.declared.source.Kind.TheVariants.{Idle, Timeout, ReadyTime, Fd, Cancel}
use Rattle.source_rows.specs.declared.row.Row.{Row}
use Rattle.source_rows.specs.Rows.{in_order, stands_before, is_under}
use Rattle.source_rows.specs.Order.{IsInOrder}
use Rattle.source_rows.specs.Tree.{IsForest}
use Rattle.cancel_view.specs.Seen.{Seen}
use Rattle.cancel_view.specs.Marks.{mark_of, meets, IsMarked}
use Rattle.cancel_view.proofs.Marked.{meets_own, meets_more, zero_and}
use Rattle.source_rows.specs.declared.sight.Sight.{Sight}
use Rattle.source_rows.specs.Candidates.{always, always_number, descriptor, descriptor_number, due_at, opened_by, sleeps, is_awake, may_call, candidates}
use Rattle.source_rows.proofs.Compared.{and_both}
use Rattle.source_rows.proofs.Lists.{all_of, all_true}
use Rattle.source_rows.proofs.Order.{all_in_order}
use Rattle.context_core.specs.Ready.{in_view, has_bit, always_told, own_ready, kind_ready, is_due, is_free, is_callable, is_ready}
use Rattle.context_core.specs.Phases.{nothing_shown, less_urgent, walk, is_asked, is_fd}
use Rattle.context_core.proofs.Walk.{not_more}
use Rattle.context_core.proofs.Cutoff.{any_more, and_more}
use Rattle.context_core.proofs.Found.{or_left, or_right}
use Rattle.context_core.proofs.Called.{called_ready, each_under_self}

-- ---- rows that are left out

-- what is left out does not pass
abbrev pub Keeps : (Row → Bool) → (Row → Bool) → List Row → Type 0
Keeps f keep rs = AllByRecursion (λ r. f r ≡ true → keep r ≡ true) rs

never_by : (v : Bool) → (v ≡ true → false ≡ true) → v ≡ false
never_by true h = let no = h refl in cc
never_by false h = refl

-- a row that is left out does not pass
out : (f keep : Row → Bool) (r : Row) → (f r ≡ true → keep r ≡ true) → keep r ≡ false → f r ≡ false
out f keep r h e = never_by (f r) (λ t. sym e ∙ h t)

find_by : (f keep : Row → Bool) (r : Row) (rs : List Row) → (f r ≡ true → keep r ≡ true) → find f (filter keep rs) ≡ find f rs → (b : Bool) → keep r ≡ b → find f (cond b (r ∷ filter keep rs) (filter keep rs)) ≡ find f (r ∷ rs)
find_by f keep r rs h ih true e = ap (λ (o : Option Row). cond (f r) (Some r) o) ih
find_by f keep r rs h ih false e = ih ∙ sym (ap (λ (b : Bool). cond b (Some r) (find f rs)) (out f keep r h e))

pub find_kept : (f keep : Row → Bool) (rs : List Row) → Keeps f keep rs → find f (filter keep rs) ≡ find f rs
find_kept f keep [] h = refl
find_kept f keep (r ∷ rs) h = find_by f keep r rs h.0 (find_kept f keep rs h.1) (keep r) refl

filter_by : (f keep : Row → Bool) (r : Row) (rs : List Row) → (f r ≡ true → keep r ≡ true) → filter f (filter keep rs) ≡ filter f rs → (b : Bool) → keep r ≡ b → filter f (cond b (r ∷ filter keep rs) (filter keep rs)) ≡ filter f (r ∷ rs)
filter_by f keep r rs h ih true e = ap (λ (xs : List Row). cond (f r) (r ∷ xs) xs) ih
filter_by f keep r rs h ih false e = ih ∙ sym (ap (λ (b : Bool). cond b (r ∷ filter f rs) (filter f rs)) (out f keep r h e))

pub filter_kept : (f keep : Row → Bool) (rs : List Row) → Keeps f keep rs → filter f (filter keep rs) ≡ filter f rs
filter_kept f keep [] h = refl
filter_kept f keep (r ∷ rs) h = filter_by f keep r rs h.0 (filter_kept f keep rs h.1) (keep r) refl

any_by : (f keep : Row → Bool) (r : Row) (rs : List Row) → (f r ≡ true → keep r ≡ true) → list_any f (filter keep rs) ≡ list_any f rs → (b : Bool) → keep r ≡ b → list_any f (cond b (r ∷ filter keep rs) (filter keep rs)) ≡ list_any f (r ∷ rs)
any_by f keep r rs h ih true e = ap (λ (b : Bool). f r || b) ih
any_by f keep r rs h ih false e = ih ∙ sym (ap (λ (b : Bool). b || list_any f rs) (out f keep r h e))

pub any_kept : (f keep : Row → Bool) (rs : List Row) → Keeps f keep rs → list_any f (filter keep rs) ≡ list_any f rs
any_kept f keep [] h = refl
any_kept f keep (r ∷ rs) h = any_by f keep r rs h.0 (any_kept f keep rs h.1) (keep r) refl

-- nothing is taken behind a row beyond the bound
beyond : (bound : Option ℤ) (p q : ℤ) → less_urgent bound p ≡ true → int_lt q p ≡ false → less_urgent bound q ≡ true
beyond None p q h k = let no : false ≡ true = h in cc
beyond (Some b) p q h k = let h2 : int_lt b p ≡ true = h in let goal : int_lt b q ≡ true = grind (arith, ints) in goal

stopped : (ready : Row → Bool) (bound : Option ℤ) (r : Row) (rs : List Row) → less_urgent bound r.priority ≡ true → AllByRecursion (λ q. stands_before q r ≡ false) rs → walk ready bound rs ≡ []
stopped ready bound r [] e k = refl
stopped ready bound r (q ∷ rs) e k = rw (beyond bound r.priority q.priority e (not_more q r k.0)) refl

walk_out : (ready : Row → Bool) (bound : Option ℤ) (r : Row) (rs : List Row) → ready r ≡ false → AllByRecursion (λ q. stands_before q r ≡ false) rs → (u : Bool) → less_urgent bound r.priority ≡ u
    → walk ready bound rs ≡ cond u [] (cond (ready r) (r.id ∷ walk ready (Some r.priority) rs) (walk ready bound rs))
walk_out ready bound r rs f k true e = stopped ready bound r rs e k
walk_out ready bound r rs f k false e = sym (ap (λ (b : Bool). cond b (r.id ∷ walk ready (Some r.priority) rs) (walk ready bound rs)) f)

walk_by : (ready keep : Row → Bool) (bound : Option ℤ) (r : Row) (rs : List Row) → (ready r ≡ true → keep r ≡ true) → AllByRecursion (λ q. stands_before q r ≡ false) rs
    → ((b : Option ℤ) → walk ready b (filter keep rs) ≡ walk ready b rs) → (v : Bool) → keep r ≡ v → walk ready bound (cond v (r ∷ filter keep rs) (filter keep rs)) ≡ walk ready bound (r ∷ rs)
walk_by ready keep bound r rs h k ih true e =
    ap (λ (xs : List ℕ). cond (less_urgent bound r.priority) [] (cond (ready r) (r.id ∷ xs) (walk ready bound (filter keep rs)))) (ih (Some r.priority))
    ∙ ap (λ (xs : List ℕ). cond (less_urgent bound r.priority) [] (cond (ready r) (r.id ∷ walk ready (Some r.priority) rs) xs)) (ih bound)
walk_by ready keep bound r rs h k ih false e = ih bound ∙ walk_out ready bound r rs (out ready keep r h e) k (less_urgent bound r.priority) refl

pub walk_kept : (ready keep : Row → Bool) (bound : Option ℤ) (rs : List Row) → IsInOrder rs → Keeps ready keep rs → walk ready bound (filter keep rs) ≡ walk ready bound rs
walk_kept ready keep bound [] s h = refl
walk_kept ready keep bound (r ∷ rs) s h = walk_by ready keep bound r rs h.0 s.0 (λ b. walk_kept ready keep b rs s.1 h.1) (keep r) refl

-- ---- what is ready may be

-- what is seen at a time is that time, and what is open then
pub record Sees (level : ℕ → ℕ) (cancelled : ℕ → Bool) (now : ℕ) (sight : Sight) : Type 0 where
  pub time : sight.now ≡ now
  pub idle : meets always sight.marks ≡ true
  pub shown : (fd bits : ℕ) → has_bit (level fd) bits ≡ true → meets descriptor sight.marks ≡ true
  pub marked : (c : ℕ) → cancelled c ≡ true → meets (mark_of c) sight.marks ≡ true

pub sees_view : (level : ℕ → ℕ) (view : Seen) (now marks : ℕ) (sight : Sight) → IsMarked view marks → sight ≡ record { now = now; marks = bit_or (bit_or marks always) descriptor } → Sees level (in_view view) now sight
sees_view level view now marks sight are is = rw is (record {
  time = refl;
  idle = meets_more always (bit_or marks always) descriptor (meets_own marks always_number);
  shown = λ fd bits h. meets_own (bit_or marks always) descriptor_number;
  marked = λ c h. meets_more (mark_of c) (bit_or marks always) descriptor (meets_more (mark_of c) marks always (are c h));
})

nothing_told : (bits : ℕ) → has_bit 0 bits ≡ false
nothing_told bits = ap (λ (n : ℕ). not (n == 0)) (zero_and (bit_or bits always_told))

pub sees_quiet : (view : Seen) (now marks : ℕ) (sight : Sight) → IsMarked view marks → sight ≡ record { now = now; marks = bit_or marks always } → Sees nothing_shown (in_view view) now sight
sees_quiet view now marks sight are is = rw is (record {
  time = refl;
  idle = meets_own marks always_number;
  shown = λ fd bits h. let no : false ≡ true = sym (nothing_told bits) ∙ h in cc;
  marked = λ c h. meets_more (mark_of c) marks always (are c h);
})

pub sees_descriptors : (sight : Sight) → sight ≡ record { now = 0; marks = descriptor } → meets descriptor sight.marks ≡ true
sees_descriptors sight is = rw is refl

due_awake : (now : ℕ) (t : ℤ) → is_due now t ≡ true → nat_lt now (due_at t) ≡ false
due_awake now (pos n) h =
    let e = (and_both (int_le (pos 0) (pos n)) (int_le (pos n) (pos now)) h).1 in
    grind (arith, nat_tests, ints)
due_awake now (negsuc n) h = let e = (and_both (int_le (pos 0) (negsuc n)) (int_le (negsuc n) (pos now)) h).0 in absurd (omega (arith, ints))

awake_due : (a b : Bool) → b ≡ false → not (a && b) ≡ true
awake_due true b h = ap not h
awake_due false b h = refl

awake_open : (a b : Bool) → a ≡ true → not (not a && b) ≡ true
awake_open a b h = rw h refl

due_by : (level : ℕ → ℕ) (cancelled : ℕ → Bool) (now : ℕ) (sight : Sight) → Sees level cancelled now sight → (k : Kind) (t : ℤ) → is_due now t ≡ true → not (sleeps sight (opened_by k) (due_at t)) ≡ true
due_by level cancelled now sight sees k t h = awake_due (not (meets (opened_by k) sight.marks)) (nat_lt sight.now (due_at t)) (ap (λ (n : ℕ). nat_lt n (due_at t)) sees.time ∙ due_awake now t h)

cancel_by : (level : ℕ → ℕ) (cancelled : ℕ → Bool) (now : ℕ) (sight : Sight) → Sees level cancelled now sight → (c : ℕ) (t : ℤ) (b : Bool) → cancelled c ≡ b → (b || is_due now t) ≡ true → not (sleeps sight (mark_of c) (due_at t)) ≡ true
cancel_by level cancelled now sight sees c t true e h = awake_open (meets (mark_of c) sight.marks) (nat_lt sight.now (due_at t)) (sees.marked c e)
cancel_by level cancelled now sight sees c t false e h = due_by level cancelled now sight sees (Cancel c) t h

fd_by : (level : ℕ → ℕ) (cancelled : ℕ → Bool) (now : ℕ) (sight : Sight) → Sees level cancelled now sight → (fd bits : ℕ) (t : ℤ) (b : Bool) → has_bit (level fd) bits ≡ b → (b || is_due now t) ≡ true → not (sleeps sight descriptor (due_at t)) ≡ true
fd_by level cancelled now sight sees fd bits t true e h = awake_open (meets descriptor sight.marks) (nat_lt sight.now (due_at t)) (sees.shown fd bits e)
fd_by level cancelled now sight sees fd bits t false e h = due_by level cancelled now sight sees (Fd fd bits) t h

own_by : (level : ℕ → ℕ) (cancelled : ℕ → Bool) (now : ℕ) (sight : Sight) → Sees level cancelled now sight → (k : Kind) (t : ℤ) → (kind_ready level cancelled k || is_due now t) ≡ true → not (sleeps sight (opened_by k) (due_at t)) ≡ true
own_by level cancelled now sight sees Idle t h = awake_open (meets always sight.marks) (nat_lt sight.now (due_at t)) sees.idle
own_by level cancelled now sight sees (Timeout ms) t h = due_by level cancelled now sight sees (Timeout ms) t h
own_by level cancelled now sight sees (ReadyTime us) t h = due_by level cancelled now sight sees (ReadyTime us) t h
own_by level cancelled now sight sees (Fd fd bits) t h = fd_by level cancelled now sight sees fd bits t (has_bit (level fd) bits) refl h
own_by level cancelled now sight sees (Cancel c) t h = cancel_by level cancelled now sight sees c t (cancelled c) refl h

own_awake : (level : ℕ → ℕ) (cancelled : ℕ → Bool) (now : ℕ) (sight : Sight) → Sees level cancelled now sight → (r : Row) → own_ready level cancelled now r ≡ true → is_awake sight r ≡ true
own_awake level cancelled now sight sees r h = own_by level cancelled now sight sees r.kind r.ready h

and_last : (a b : Bool) → (a && b) ≡ true → b ≡ true
and_last true b h = h
and_last false b h = let no : false ≡ true = h in cc

ready_may : (level : ℕ → ℕ) (view : ℕ → Bool) (now : ℕ) (sight : Sight) → Sees level view now sight → (busy : List ℕ) (rows : List Row) (r : Row) → is_ready (own_ready level view now) busy rows r ≡ true → may_call sight rows r ≡ true
ready_may level view now sight sees busy rows r h =
    any_more (λ q. is_under r.id q && is_callable (own_ready level view now) busy q) (λ q. is_under r.id q && is_awake sight q)
    (λ q e. and_more (is_under r.id q) (is_callable (own_ready level view now) busy q) (is_awake sight q) (λ c. own_awake level view now sight sees q (and_last (is_free busy q) (own_ready level view now q) c)) e)
    rows (and_last (is_free busy r) _ h)

pub each_ready_may : (level : ℕ → ℕ) (view : ℕ → Bool) (now : ℕ) (sight : Sight) → Sees level view now sight → (busy : List ℕ) (rows xs : List Row) → Keeps (is_ready (own_ready level view now) busy rows) (may_call sight rows) xs
each_ready_may level view now sight sees busy rows xs = all_true (λ r. is_ready (own_ready level view now) busy rows r ≡ true → may_call sight rows r ≡ true) (λ r h. ready_may level view now sight sees busy rows r h) xs

pub each_calls_may : (level : ℕ → ℕ) (view : ℕ → Bool) (now : ℕ) (sight : Sight) → Sees level view now sight → (busy : List ℕ) (rows : List Row) → IsForest rows → Keeps (is_callable (own_ready level view now) busy) (may_call sight rows) rows
each_calls_may level view now sight sees busy rows forest =
    all_of (λ r. is_callable (own_ready level view now) busy r ≡ true → is_ready (own_ready level view now) busy rows r ≡ true) (λ r. is_callable (own_ready level view now) busy r ≡ true → may_call sight rows r ≡ true)
    (λ r h e. ready_may level view now sight sees busy rows r (h e)) rows (called_ready (own_ready level view now) busy rows forest)

-- ---- what is asked may be ready

fd_open : (k : Kind) → is_fd k ≡ true → opened_by k ≡ descriptor
fd_open Idle h = let no : false ≡ true = h in cc
fd_open (Timeout ms) h = let no : false ≡ true = h in cc
fd_open (ReadyTime us) h = let no : false ≡ true = h in cc
fd_open (Fd fd bits) h = refl
fd_open (Cancel c) h = let no : false ≡ true = h in cc

fd_awake : (sight : Sight) → meets descriptor sight.marks ≡ true → (r : Row) → is_fd r.kind ≡ true → is_awake sight r ≡ true
fd_awake sight opens r h = awake_open (meets (opened_by r.kind) sight.marks) (nat_lt sight.now (due_at r.ready)) (ap (λ (n : ℕ). meets n sight.marks) (fd_open r.kind h) ∙ opens)

-- one that is awake may call
each_one : (g : Row → Row → Bool) (xs whole : List Row) → ((r : Row) → list_any (g r) xs ≡ true → list_any (g r) whole ≡ true) → AllByRecursion (λ r. g r r ≡ true → list_any (g r) whole ≡ true) xs
each_one g [] whole f = tt
each_one g (x ∷ xs) whole f = (λ h. f x (or_left (g x x) _ h), each_one g xs whole (λ r k. f r (or_right (g r x) _ k)))

both_true : (a b : Bool) → a ≡ true → b ≡ true → (a && b) ≡ true
both_true a b h k = rw (h, k) refl

asked_by : (sight : Sight) → meets descriptor sight.marks ≡ true → (least : Option ℤ) (busy : List ℕ) (rows xs : List Row) → AllByRecursion (λ r. (is_under r.id r && is_awake sight r) ≡ true → may_call sight rows r ≡ true) xs → AllByRecursion (λ r. is_under r.id r ≡ true) xs
    → Keeps (is_asked least busy) (may_call sight rows) xs
asked_by sight opens least busy rows [] h u = tt
asked_by sight opens least busy rows (r ∷ xs) h u =
    (λ e. h.0 (both_true (is_under r.id r) (is_awake sight r) u.0 (fd_awake sight opens r ((and_both (is_fd r.kind) _ e).0))), asked_by sight opens least busy rows xs h.1 u.1)

pub each_asked_may : (sight : Sight) → meets descriptor sight.marks ≡ true → (least : Option ℤ) (busy : List ℕ) (rows : List Row) → IsForest rows → Keeps (is_asked least busy) (may_call sight rows) rows
each_asked_may sight opens least busy rows forest =
    asked_by sight opens least busy rows rows (each_one (λ r q. is_under r.id q && is_awake sight q) rows rows (λ r h. h)) (each_under_self rows rows forest.placed)

-- ---- the passes over candidates

pub find_candidates : (level : ℕ → ℕ) (view : ℕ → Bool) (now : ℕ) (sight : Sight) → Sees level view now sight → (busy : List ℕ) (rows : List Row) → IsForest rows
    → find (is_callable (own_ready level view now) busy) (candidates sight rows) ≡ find (is_callable (own_ready level view now) busy) (in_order rows)
find_candidates level view now sight sees busy rows forest =
    find_kept (is_callable (own_ready level view now) busy) (may_call sight rows) (in_order rows)
    (all_in_order (λ r. is_callable (own_ready level view now) busy r ≡ true → may_call sight rows r ≡ true) rows (each_calls_may level view now sight sees busy rows forest))

pub asked_candidates : (sight : Sight) → meets descriptor sight.marks ≡ true → (least : Option ℤ) (busy : List ℕ) (rows : List Row) → IsForest rows
    → filter (is_asked least busy) (candidates sight rows) ≡ filter (is_asked least busy) (in_order rows)
asked_candidates sight opens least busy rows forest =
    filter_kept (is_asked least busy) (may_call sight rows) (in_order rows)
    (all_in_order (λ r. is_asked least busy r ≡ true → may_call sight rows r ≡ true) rows (each_asked_may sight opens least busy rows forest))
