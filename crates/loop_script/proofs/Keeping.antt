-- No part of the reading clears a fault: the forms of reading first, then the parts of a script.
use Rattle.std.proofs.Common.{ℕ, zero, suc, Bool, true, false, cond, ◌&&◌, List, [], ◌∷◌, Option, Some, None, length, refl, ◌==◌}
use Rattle.std.specs.Prelude.{ℤ, pos, negsuc, nat_le, int_le, is_some, option_and_then, codes, sum_by}
use Rattle.std.specs.Str.{bytes_eq}
use Rattle.serde_json.specs.Data.{Data, null, boolean, number, string, array, object, Num, unsigned, negative, float, Items, no_items, item, Members}
use Rattle.serde_json.specs.Find.{as_number, as_bool, as_null, as_array, as_object}
use Rattle.loop_script.specs.Bounds.{longest_tick, longest_time}
use Rattle.loop_script.specs.Read.{Read, done, misshapen, beyond, ◌>>=◌, optional, nullable}
use Rattle.loop_script.specs.Number.{number_within, whole, integer_from, integer_within, integer, index, index_or_null, slot, bits, priority, ready_time, count_or, flag_from, flag, flag_or}
use Rattle.loop_script.specs.Object.{are_among, names, only_among, only, field}
use Rattle.loop_script.specs.Array.{part, parts_are, arity, word}
use Rattle.loop_script.specs.Rows.{count, each, of_length, rows_of, rows, rows_or}
use Rattle.loop_script.specs.Words.{choice}
use Rattle.loop_script.specs.Source.{idle, timeout, ready, fd, cancel as cancel_kind, kinds, kind, usual_priority, priority_or, source_spec, child_spec}
use Rattle.loop_script.specs.Level.{level, levels}
use Rattle.loop_script.specs.Action.{attach, child, destroy, set_ready, set_priority, iterate, pending, run, quit, cancel, connect, disconnect, task, push, pop, show_default, acquire, release, invoke, give, log, forms, action}
use Rattle.loop_script.specs.Tree.{Tree, fail, seq, both, first}
use Rattle.loop_script.specs.TreeDepth.{fits_in}
use Rattle.loop_script.specs.TreeForm.{tree, tree_in, trees_in, forms_from, tree_from, part_reading, value_form, fail_form, sleep_form, check_form, pair_from, within_from}
use Rattle.loop_script.specs.TaskForm.{shallow_tree, limited, priority_or_zero, task_spec}
use Rattle.loop_script.specs.Plan.{actions, lane, lanes, few_contexts, keep_or, procedure, plan}
use Rattle.loop_script.specs.declared.action.Action.TheVariants.{Log}
use Rattle.loop_script.specs.declared.source.Kind.{Kind}
use Rattle.loop_script.specs.declared.source.Kind.TheVariants.{Idle}
use Rattle.loop_script.specs.declared.plan.LaneSpec.{LaneSpec}
use Rattle.loop_script.specs.declared.faults.Faults.{Faults}
use Rattle.loop_script.specs.Laws.{StillSeen, ClearsNone, NoFaultIsCleared}

-- ---- the forms

pub of_done : {A : Type 0} (x : A) → ClearsNone (done x)
of_done x before = record { shape = λ h. h; limit = λ h. h }

pub of_misshapen : {A : Type 0} (x : A) → ClearsNone (misshapen x)
of_misshapen x before = record { shape = λ h. refl; limit = λ h. h }

pub of_beyond : {A : Type 0} (x : A) → ClearsNone (beyond x)
of_beyond x before = record { shape = λ h. h; limit = λ h. refl }

pub of_next : {A B : Type 0} (r : Read A) (f : A → Read B) → ClearsNone r → ((x : A) → ClearsNone (f x)) → ClearsNone (r >>= f)
of_next r f h k before =
    let first = h before in
    let second = k r.value (r.faults before) in
    record { shape = λ s. second.shape (first.shape s); limit = λ s. second.limit (first.limit s) }

of_either : {A : Type 0} (r q : Read A) (b : Bool) → ClearsNone r → ClearsNone q → ClearsNone (cond b r q)
of_either r q true h k = h
of_either r q false h k = k

of_optional : {A : Type 0} (x : A) (f : Option Data → Read A) → ((d : Option Data) → ClearsNone (f d)) → (d : Option Data) → ClearsNone (optional x f d)
of_optional x f h None = of_done x
of_optional x f h (Some d) = h (Some d)

of_nullable : {A : Type 0} (f : Option Data → Read A) → ((d : Option Data) → ClearsNone (f d)) → (d : Option Data) → ClearsNone (nullable f d)
of_nullable {A = A} f h d = of_either _ _ (is_some (option_and_then as_null d)) (of_done {A = Option A} None) (of_next (f d) (λ x. done (Some x)) (h d) (λ x. of_done (Some x)))

of_number : (low high : ℕ) (n : Option Num) → ClearsNone (number_within low high n)
of_number low high None = of_misshapen low
of_number low high (Some (unsigned n)) = of_either _ _ (nat_le low n && nat_le n high) (of_done n) (of_beyond low)
of_number low high (Some (negative z)) = of_beyond low
of_number low high (Some (float x)) = of_misshapen low

of_whole : (low high : ℕ) (d : Option Data) → ClearsNone (whole low high d)
unfolding whole
of_whole low high d = of_number low high (option_and_then as_number d)

of_index : (d : Option Data) → ClearsNone (index d)
unfolding index
of_index d = of_whole 0 4294967295 d

of_index_or_null : (d : Option Data) → ClearsNone (index_or_null d)
unfolding index_or_null
of_index_or_null d = of_optional None (nullable index) (of_nullable index of_index) d

of_slot : (d : Option Data) → ClearsNone (slot d)
unfolding slot
of_slot d = of_whole 0 255 d

of_bits : (d : Option Data) → ClearsNone (bits d)
unfolding bits
of_bits d = of_whole 0 63 d

only_by : (allowed : List (List ℕ)) (ms : Option Members) → ClearsNone (only_among allowed ms)
only_by allowed None = of_misshapen (tt {0})
only_by allowed (Some ms) = of_either _ _ (are_among allowed (names ms)) (of_done (tt {0})) (of_misshapen (tt {0}))

integer_by : (low high z : ℤ) → ClearsNone (integer_from low high z)
integer_by low high z = of_either _ _ (int_le low z && int_le z high) (of_done z) (of_beyond low)

integer_within_by : (low high : ℤ) (n : Option Num) → ClearsNone (integer_within low high n)
integer_within_by low high None = of_misshapen low
integer_within_by low high (Some (unsigned n)) = integer_by low high (pos n)
integer_within_by low high (Some (negative z)) = integer_by low high z
integer_within_by low high (Some (float x)) = of_misshapen low

of_integer : (low high : ℤ) (d : Option Data) → ClearsNone (integer low high d)
unfolding integer
of_integer low high d = integer_within_by low high (option_and_then as_number d)

of_priority : (d : Option Data) → ClearsNone (priority d)
unfolding priority
of_priority d = of_integer _ _ d

of_ready_time : (d : Option Data) → ClearsNone (ready_time d)
unfolding ready_time
of_ready_time d = of_integer _ _ d

of_count_or : (high : ℕ) (d : Option Data) → ClearsNone (count_or high d)
unfolding count_or
of_count_or high d = of_optional 0 (whole 0 high) (of_whole 0 high) d

flag_by : (b : Bool) (o : Option Bool) → ClearsNone (flag_from b o)
flag_by b None = of_misshapen b
flag_by b (Some c) = of_done c

of_flag : (b : Bool) (d : Option Data) → ClearsNone (flag b d)
unfolding flag
of_flag b d = flag_by b (option_and_then as_bool d)

of_flag_or : (b : Bool) (d : Option Data) → ClearsNone (flag_or b d)
unfolding flag_or
of_flag_or b d = of_optional b (flag b) (of_flag b) d

of_only : (allowed : List (List ℕ)) (d : Option Data) → ClearsNone (only allowed d)
unfolding only
of_only allowed d = only_by allowed (option_and_then as_object d)

arity_by : (n : ℕ) (ds : Option Items) → ClearsNone (parts_are n ds)
arity_by n None = of_misshapen (tt {0})
arity_by n (Some ds) = of_either _ _ (count ds == n) (of_done (tt {0})) (of_misshapen (tt {0}))

of_arity : (n : ℕ) (d : Option Data) → ClearsNone (arity n d)
unfolding arity
of_arity n d = arity_by n (option_and_then as_array d)

of_each : {A : Type 0} (f : Option Data → Read A) → ((d : Option Data) → ClearsNone (f d)) → (ds : Items) → ClearsNone (each f ds)
of_each {A = A} f h no_items = of_done {A = List A} []
of_each f h (item d ds) =
    of_next (f (Some d)) (λ x. each f ds >>= λ xs. done (x ∷ xs)) (h (Some d)) (λ x. of_next (each f ds) (λ xs. done (x ∷ xs)) (of_each f h ds) (λ xs. of_done (x ∷ xs)))

of_counted : {A : Type 0} (low high : ℕ) (xs : List A) → ClearsNone (of_length low high xs)
of_counted {A = A} low high xs = of_either _ _ (nat_le low (length xs) && nat_le (length xs) high) (of_done xs) (of_beyond {A = List A} [])

rows_by : {A : Type 0} (low high : ℕ) (f : Option Data → Read A) → ((d : Option Data) → ClearsNone (f d)) → (ds : Option Items) → ClearsNone (rows_of low high f ds)
rows_by {A = A} low high f h None = of_misshapen {A = List A} []
rows_by low high f h (Some ds) = of_next (each f ds) (of_length low high) (of_each f h ds) (of_counted low high)

of_rows : {A : Type 0} (low high : ℕ) (f : Option Data → Read A) → ((d : Option Data) → ClearsNone (f d)) → (d : Option Data) → ClearsNone (rows low high f d)
unfolding rows
of_rows low high f h d = rows_by low high f h (option_and_then as_array d)

of_rows_or : {A : Type 0} (high : ℕ) (f : Option Data → Read A) → ((d : Option Data) → ClearsNone (f d)) → (d : Option Data) → ClearsNone (rows_or high f d)
unfolding rows_or
of_rows_or {A = A} high f h d = of_optional {A = List A} [] (rows 0 high f) (of_rows 0 high f h) d

-- a table of words, of which no row clears a fault
abbrev RowsClear : {A : Type 0} → List (List ℕ × Read A) → Type 0
RowsClear [] = Unit {0}
RowsClear (p ∷ ps) = ClearsNone p.1 × RowsClear ps

of_choice : {A : Type 0} (w : List ℕ) (ps : List (List ℕ × Read A)) (other : Read A) → RowsClear ps → ClearsNone other → ClearsNone (choice w ps other)
of_choice w [] other rows last = last
of_choice w (p ∷ ps) other rows last = of_either p.1 (choice w ps other) (bytes_eq w p.0) rows.0 (of_choice w ps other rows.1 last)

-- ---- the parts of a script: what one part keeps, the next ones keep

same : (s : Faults) → StillSeen s s
same s = record { shape = λ h. h; limit = λ h. h }

along : {A : Type 0} (r : Read A) → ClearsNone r → (s t : Faults) → StillSeen (r.faults s) t → StillSeen s t
along r clears s t rest = let first = clears s in record { shape = λ h. rest.shape (first.shape h); limit = λ h. rest.limit (first.limit h) }

of_idle : (d : Option Data) → ClearsNone (idle d)
unfolding idle
of_idle d s = along (arity 1 d) (of_arity 1 d) s _ (same _)

of_timeout : (d : Option Data) → ClearsNone (timeout d)
unfolding timeout
of_timeout d s = along (arity 2 d) (of_arity 2 d) s _ (along (whole 0 4294967295 (part 1 d)) (of_whole 0 4294967295 _) _ _ (same _))

of_ready : (d : Option Data) → ClearsNone (ready d)
unfolding ready
of_ready d s = along (arity 2 d) (of_arity 2 d) s _ (along (ready_time (part 1 d)) (of_ready_time _) _ _ (same _))

of_fd : (d : Option Data) → ClearsNone (fd d)
unfolding fd
of_fd d s =
    along (arity 3 d) (of_arity 3 d) s _ (
    along (index (part 1 d)) (of_index _) _ _ (
    along (bits (part 2 d)) (of_bits _) _ _ (same _)))

of_cancel_kind : (d : Option Data) → ClearsNone (cancel_kind d)
unfolding cancel_kind
of_cancel_kind d s = along (arity 2 d) (of_arity 2 d) s _ (along (index (part 1 d)) (of_index _) _ _ (same _))

of_kind : (d : Option Data) → ClearsNone (kind d)
unfolding kind
of_kind d =
    let rows : RowsClear (kinds d) = (of_idle d, (of_timeout d, (of_ready d, (of_fd d, (of_cancel_kind d, tt))))) in
    of_choice (word d) (kinds d) (misshapen Idle) rows (of_misshapen Idle)

of_priority_or : (k : Kind) (d : Option Data) → ClearsNone (priority_or k d)
unfolding priority_or
of_priority_or k d = of_optional (usual_priority k) priority of_priority d

of_source_spec : (d : Option Data) → ClearsNone (source_spec d)
unfolding source_spec
of_source_spec d s =
    along (only (codes "kind" ∷ codes "priority" ∷ codes "recurse" ∷ codes "call" ∷ []) d) (of_only _ d) s _ (
    along (kind (field (codes "kind") d)) (of_kind _) _ _ (
    along (priority_or (kind (field (codes "kind") d)).value (field (codes "priority") d)) (of_priority_or _ _) _ _ (
    along (flag_or false (field (codes "recurse") d)) (of_flag_or _ _) _ _ (
    along (index_or_null (field (codes "call") d)) (of_index_or_null _) _ _ (same _)))))

of_child_spec : (d : Option Data) → ClearsNone (child_spec d)
unfolding child_spec
of_child_spec d s =
    along (only (codes "kind" ∷ codes "recurse" ∷ codes "call" ∷ []) d) (of_only _ d) s _ (
    along (kind (field (codes "kind") d)) (of_kind _) _ _ (
    along (flag_or false (field (codes "recurse") d)) (of_flag_or _ _) _ _ (
    along (index_or_null (field (codes "call") d)) (of_index_or_null _) _ _ (same _))))

of_level : (d : Option Data) → ClearsNone (level d)
unfolding level
of_level d s =
    along (arity 2 d) (of_arity 2 d) s _ (
    along (whole 0 4095 (part 0 d)) (of_whole 0 4095 _) _ _ (
    along (bits (part 1 d)) (of_bits _) _ _ (same _)))

of_levels : (d : Option Data) → ClearsNone (levels d)
unfolding levels
of_levels d = of_rows 0 4096 level of_level d

-- trees, by the readings of their parts
abbrev AllClear : List (Read Tree) → Type 0
AllClear [] = Unit {0}
AllClear (r ∷ rs) = ClearsNone r × AllClear rs

part_clears : (n : ℕ) (rs : List (Read Tree)) → AllClear rs → ClearsNone (part_reading n rs)
part_clears n [] h = of_misshapen fail
part_clears zero (r ∷ rs) h = h.0
part_clears (suc n) (r ∷ rs) h = part_clears n rs h.1

of_value_form : (d : Option Data) → ClearsNone (value_form d)
unfolding value_form
of_value_form d s =
    along (arity 2 d) (of_arity 2 d) s _ (
    along (integer (negsuc 9223372036854775807) (pos 9223372036854775807) (part 1 d)) (of_integer _ _ _) _ _ (same _))

of_fail_form : (d : Option Data) → ClearsNone (fail_form d)
unfolding fail_form
of_fail_form d s = along (arity 1 d) (of_arity 1 d) s _ (same _)

of_sleep_form : (d : Option Data) → ClearsNone (sleep_form d)
unfolding sleep_form
of_sleep_form d s = along (arity 2 d) (of_arity 2 d) s _ (along (whole 0 longest_time (part 1 d)) (of_whole 0 longest_time _) _ _ (same _))

of_check_form : (d : Option Data) → ClearsNone (check_form d)
unfolding check_form
of_check_form d s = along (arity 1 d) (of_arity 1 d) s _ (same _)

of_pair : (join : Tree → Tree → Tree) (d : Option Data) (parts : ℕ → Read Tree) → ((n : ℕ) → ClearsNone (parts n)) → ClearsNone (pair_from join d parts)
of_pair join d parts h s = along (arity 3 d) (of_arity 3 d) s _ (along (parts 1) (h 1) _ _ (along (parts 2) (h 2) _ _ (same _)))

of_within : (d : Option Data) (parts : ℕ → Read Tree) → ((n : ℕ) → ClearsNone (parts n)) → ClearsNone (within_from d parts)
of_within d parts h s =
    along (arity 3 d) (of_arity 3 d) s _ (
    along (whole 0 longest_time (part 1 d)) (of_whole 0 longest_time _) _ _ (
    along (parts 2) (h 2) _ _ (same _)))

of_tree_from : (d : Option Data) (parts : ℕ → Read Tree) → ((n : ℕ) → ClearsNone (parts n)) → ClearsNone (tree_from d parts)
of_tree_from d parts h =
    let rows : RowsClear (forms_from d parts) = (of_value_form d, (of_fail_form d, (of_sleep_form d, (of_check_form d, (of_pair seq d parts h, (of_pair both d parts h, (of_pair first d parts h, (of_within d parts h, tt)))))))) in
    of_choice (word d) (forms_from d parts) (misshapen fail) rows (of_misshapen fail)

mutual
  unfolding tree_in trees_in

  of_tree_in : (d : Data) → ClearsNone (tree_in d)
  of_tree_in null = of_misshapen fail
  of_tree_in (boolean b) = of_misshapen fail
  of_tree_in (number n) = of_misshapen fail
  of_tree_in (string s) = of_misshapen fail
  of_tree_in (object ms) = of_misshapen fail
  of_tree_in (array ds) = of_tree_from (Some (array ds)) (λ n. part_reading n (trees_in ds)) (λ n. part_clears n (trees_in ds) (of_trees_in ds))

  of_trees_in : (ds : Items) → AllClear (trees_in ds)
  of_trees_in no_items = tt
  of_trees_in (item d ds) = (of_tree_in d, of_trees_in ds)

of_tree : (d : Option Data) → ClearsNone (tree d)
unfolding tree
of_tree None = of_misshapen fail
of_tree (Some d) = of_tree_in d

of_limited : (t : Tree) → ClearsNone (limited t)
of_limited t = of_either _ _ (fits_in 16 t) (of_done t) (of_beyond fail)

of_shallow_tree : (d : Option Data) → ClearsNone (shallow_tree d)
unfolding shallow_tree
of_shallow_tree d = of_next (tree d) limited (of_tree d) of_limited

of_priority_or_zero : (d : Option Data) → ClearsNone (priority_or_zero d)
unfolding priority_or_zero
of_priority_or_zero d = of_optional (pos 0) priority of_priority d

of_task_spec : (d : Option Data) → ClearsNone (task_spec d)
unfolding task_spec
of_task_spec d s =
    along (only (codes "tree" ∷ codes "call" ∷ codes "cancel" ∷ codes "check" ∷ codes "return_on_cancel" ∷ codes "priority" ∷ []) d) (of_only _ d) s _ (
    along (shallow_tree (field (codes "tree") d)) (of_shallow_tree _) _ _ (
    along (index (field (codes "call") d)) (of_index _) _ _ (
    along (index_or_null (field (codes "cancel") d)) (of_index_or_null _) _ _ (
    along (flag_or true (field (codes "check") d)) (of_flag_or _ _) _ _ (
    along (flag_or false (field (codes "return_on_cancel") d)) (of_flag_or _ _) _ _ (
    along (priority_or_zero (field (codes "priority") d)) (of_priority_or_zero _) _ _ (same _)))))))

of_attach : (d : Option Data) → ClearsNone (attach d)
unfolding attach
of_attach d s =
    along (arity 4 d) (of_arity 4 d) s _ (
    along (index (part 1 d)) (of_index _) _ _ (
    along (slot (part 2 d)) (of_slot _) _ _ (
    along (source_spec (part 3 d)) (of_source_spec _) _ _ (same _))))

of_child : (d : Option Data) → ClearsNone (child d)
unfolding child
of_child d s =
    along (arity 4 d) (of_arity 4 d) s _ (
    along (slot (part 1 d)) (of_slot _) _ _ (
    along (slot (part 2 d)) (of_slot _) _ _ (
    along (child_spec (part 3 d)) (of_child_spec _) _ _ (same _))))

of_destroy : (d : Option Data) → ClearsNone (destroy d)
unfolding destroy
of_destroy d s = along (arity 2 d) (of_arity 2 d) s _ (along (slot (part 1 d)) (of_slot _) _ _ (same _))

of_set_ready : (d : Option Data) → ClearsNone (set_ready d)
unfolding set_ready
of_set_ready d s =
    along (arity 3 d) (of_arity 3 d) s _ (
    along (slot (part 1 d)) (of_slot _) _ _ (
    along (ready_time (part 2 d)) (of_ready_time _) _ _ (same _)))

of_set_priority : (d : Option Data) → ClearsNone (set_priority d)
unfolding set_priority
of_set_priority d s =
    along (arity 3 d) (of_arity 3 d) s _ (
    along (slot (part 1 d)) (of_slot _) _ _ (
    along (priority (part 2 d)) (of_priority _) _ _ (same _)))

of_iterate : (d : Option Data) → ClearsNone (iterate d)
unfolding iterate
of_iterate d s = along (arity 2 d) (of_arity 2 d) s _ (along (index (part 1 d)) (of_index _) _ _ (same _))

of_pending : (d : Option Data) → ClearsNone (pending d)
unfolding pending
of_pending d s = along (arity 2 d) (of_arity 2 d) s _ (along (index (part 1 d)) (of_index _) _ _ (same _))

of_run : (d : Option Data) → ClearsNone (run d)
unfolding run
of_run d s = along (arity 2 d) (of_arity 2 d) s _ (along (index (part 1 d)) (of_index _) _ _ (same _))

of_quit : (d : Option Data) → ClearsNone (quit d)
unfolding quit
of_quit d s = along (arity 2 d) (of_arity 2 d) s _ (along (index (part 1 d)) (of_index _) _ _ (same _))

of_cancel : (d : Option Data) → ClearsNone (cancel d)
unfolding cancel
of_cancel d s = along (arity 2 d) (of_arity 2 d) s _ (along (index (part 1 d)) (of_index _) _ _ (same _))

of_connect : (d : Option Data) → ClearsNone (connect d)
unfolding connect
of_connect d s =
    along (arity 4 d) (of_arity 4 d) s _ (
    along (index (part 1 d)) (of_index _) _ _ (
    along (slot (part 2 d)) (of_slot _) _ _ (
    along (index (part 3 d)) (of_index _) _ _ (same _))))

of_disconnect : (d : Option Data) → ClearsNone (disconnect d)
unfolding disconnect
of_disconnect d s = along (arity 2 d) (of_arity 2 d) s _ (along (slot (part 1 d)) (of_slot _) _ _ (same _))

of_task : (d : Option Data) → ClearsNone (task d)
unfolding task
of_task d s = along (arity 2 d) (of_arity 2 d) s _ (along (task_spec (part 1 d)) (of_task_spec _) _ _ (same _))

of_push : (d : Option Data) → ClearsNone (push d)
unfolding push
of_push d s = along (arity 2 d) (of_arity 2 d) s _ (along (index (part 1 d)) (of_index _) _ _ (same _))

of_pop : (d : Option Data) → ClearsNone (pop d)
unfolding pop
of_pop d s = along (arity 2 d) (of_arity 2 d) s _ (along (index (part 1 d)) (of_index _) _ _ (same _))

of_show_default : (d : Option Data) → ClearsNone (show_default d)
unfolding show_default
of_show_default d s = along (arity 1 d) (of_arity 1 d) s _ (same _)

of_acquire : (d : Option Data) → ClearsNone (acquire d)
unfolding acquire
of_acquire d s = along (arity 2 d) (of_arity 2 d) s _ (along (index (part 1 d)) (of_index _) _ _ (same _))

of_release : (d : Option Data) → ClearsNone (release d)
unfolding release
of_release d s = along (arity 2 d) (of_arity 2 d) s _ (along (index (part 1 d)) (of_index _) _ _ (same _))

of_invoke : (d : Option Data) → ClearsNone (invoke d)
unfolding invoke
of_invoke d s =
    along (arity 3 d) (of_arity 3 d) s _ (
    along (index (part 1 d)) (of_index _) _ _ (
    along (index (part 2 d)) (of_index _) _ _ (same _)))

of_give : (d : Option Data) → ClearsNone (give d)
unfolding give
of_give d s =
    along (arity 3 d) (of_arity 3 d) s _ (
    along (index (part 1 d)) (of_index _) _ _ (
    along (index (part 2 d)) (of_index _) _ _ (same _)))

of_log : (d : Option Data) → ClearsNone (log d)
unfolding log
of_log d s = along (arity 2 d) (of_arity 2 d) s _ (along (whole 0 4294967295 (part 1 d)) (of_whole 0 4294967295 _) _ _ (same _))

of_action : (d : Option Data) → ClearsNone (action d)
unfolding action
of_action d =
    let rows : RowsClear (forms d) = (of_attach d, (of_child d, (of_destroy d, (of_set_ready d, (of_set_priority d, (of_iterate d, (of_pending d, (of_run d, (of_quit d, (of_cancel d, (of_connect d, (of_disconnect d, (of_task d, (of_push d, (of_pop d, (of_show_default d, (of_acquire d, (of_release d, (of_invoke d, (of_give d, (of_log d, tt))))))))))))))))))))) in
    of_choice (word d) (forms d) (misshapen (Log 0)) rows (of_misshapen (Log 0))

of_actions : (d : Option Data) → ClearsNone (actions d)
unfolding actions
of_actions d = of_rows 0 256 action of_action d

of_keep_or : (d : Option Data) → ClearsNone (keep_or d)
unfolding keep_or
of_keep_or d = of_optional (Some 0) (nullable (whole 0 4294967295)) (of_nullable (whole 0 4294967295) (of_whole 0 4294967295)) d

of_procedure : (d : Option Data) → ClearsNone (procedure d)
unfolding procedure
of_procedure d s =
    along (only (codes "do" ∷ codes "keep" ∷ []) d) (of_only _ d) s _ (
    along (actions (field (codes "do") d)) (of_actions _) _ _ (
    along (keep_or (field (codes "keep") d)) (of_keep_or _) _ _ (same _)))

of_lane : (d : Option Data) → ClearsNone (lane d)
unfolding lane
of_lane d s =
    along (only (codes "contexts" ∷ codes "start" ∷ []) d) (of_only _ d) s _ (
    along (whole 1 256 (field (codes "contexts") d)) (of_whole 1 256 _) _ _ (
    along (actions (field (codes "start") d)) (of_actions _) _ _ (same _)))

of_few : (ls : List LaneSpec) → ClearsNone (few_contexts ls)
of_few ls = of_either _ _ (nat_le (sum_by (λ l. l.contexts) ls) 256) (of_done ls) (of_beyond {A = List LaneSpec} [])

of_lanes : (d : Option Data) → ClearsNone (lanes d)
unfolding lanes
of_lanes d s = along (rows 1 64 lane d) (of_rows 1 64 lane of_lane d) s _ (of_few (rows 1 64 lane d).value _)

of_plan : (d : Option Data) → ClearsNone (plan d)
unfolding plan
of_plan d s =
    along (only (codes "version" ∷ codes "ticks" ∷ codes "tick_us" ∷ codes "lanes" ∷ codes "cancellables" ∷ codes "fds" ∷ codes "loops" ∷ codes "procs" ∷ []) d) (of_only _ d) s _ (
    along (whole 1 2 (field (codes "version") d)) (of_whole 1 2 _) _ _ (
    along (whole 1 4096 (field (codes "ticks") d)) (of_whole 1 4096 _) _ _ (
    along (whole 1 longest_tick (field (codes "tick_us") d)) (of_whole 1 longest_tick _) _ _ (
    along (lanes (field (codes "lanes") d)) (of_lanes _) _ _ (
    along (count_or 256 (field (codes "cancellables") d)) (of_count_or 256 _) _ _ (
    along (rows_or 256 levels (field (codes "fds") d)) (of_rows_or 256 levels of_levels _) _ _ (
    along (rows_or 256 index (field (codes "loops") d)) (of_rows_or 256 index of_index _) _ _ (
    along (rows_or 1024 procedure (field (codes "procs") d)) (of_rows_or 1024 procedure of_procedure _) _ _ (same _)))))))))

pub none_cleared : NoFaultIsCleared
none_cleared = record {
  kind = of_kind;
  source_spec = of_source_spec;
  child_spec = of_child_spec;
  levels = of_levels;
  tree = of_tree;
  task_spec = of_task_spec;
  action = of_action;
  actions = of_actions;
  procedure = of_procedure;
  lane = of_lane;
  lanes = of_lanes;
  plan = of_plan;
}
