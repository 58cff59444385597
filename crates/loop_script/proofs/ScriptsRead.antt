-- A script is read by the tables.
use Rattle.std.proofs.Common.{◌≡◌, ◌⊎◌, ◌↔◌, inl, inr, refl, sym, subst, ap, ◌∙◌, ℕ, ◌+◌, ◌<◌, Bool, true, false, cond, ◌&&◌, List, [], ◌∷◌, length, fold, sum_by, codes, Option, Some, Result, Ok, Err, arith}
use Rattle.std.specs.Prelude.{nat_le, unwrap_or}
use Rattle.std.proofs.lemmas.Bool.Decides.{nat_tests}
use Rattle.serde_json.specs.Data.{Data, null, boolean, number, string, array, object, Items, no_items, item}
use Rattle.serde_json.specs.Find.{get}
use Rattle.loop_script.specs.Read.{◌>>=◌}
use Rattle.loop_script.specs.Number.{index, count_or}
use Rattle.loop_script.specs.Rows.{each, of_length, rows, rows_or}
use Rattle.loop_script.specs.Level.{levels}
use Rattle.loop_script.specs.Action.{action as action_of}
use Rattle.loop_script.specs.Plan.{actions, lane as lane_of, lanes as lanes_of, keep_or, procedure as procedure_of, plan}
use Rattle.loop_script.specs.Script.{IsJson, verdict, none_seen, script_of}
use Rattle.loop_script.specs.Laws.{IsReading}
use Rattle.loop_script.specs.References.{plan_refers}
use Rattle.loop_script.specs.Rules.{plan_rules}
use Rattle.loop_script.specs.Form.{Form, whole, whole_or_null, list, lanes, pair, an, one_of, action, script, lane, procedure}
use Rattle.loop_script.specs.Tables as tables
use Rattle.loop_script.specs.Place.{count, itself}
use Rattle.loop_script.specs.Misfit.{HasOtherShape, IsOutside, IsOutOfRange, HasMoreContexts, contexts_of, contexts_in, IsMisshapen, IsBeyond}
use Rattle.loop_script.specs.Meaning.{IsWhole, EachIs, IsList, IsAction, IsProc, IsLane, Denotes}
use Rattle.loop_script.specs.ByTables.{judged, IsMalformed, GoesByTables, ReadByTables}
use Rattle.loop_script.specs.Version.{GivesOutsideVersion2, gives_outside_version_2}
use Rattle.loop_script.specs.declared.action.Action.{Action}
use Rattle.loop_script.specs.declared.level.Level.{Level}
use Rattle.loop_script.specs.declared.plan.LaneSpec.{LaneSpec}
use Rattle.loop_script.specs.declared.plan.Proc.{Proc}
use Rattle.loop_script.specs.declared.plan.Plan.{Plan}
use Rattle.loop_script.specs.declared.faults.Faults.{Faults}
use Rattle.loop_script.specs.declared.fault.ScriptFault.{ScriptFault}
use Rattle.loop_script.specs.declared.fault.ScriptFault.TheVariants.{NotJson, Shape, Limit, Reference, Rule, OutOfMemory}
use Rattle.loop_script.proofs.Alternatives.{some_inj, is_none, same_side, along, either_part, regrouped}
use Rattle.loop_script.proofs.Meets.{Meets, meets_done, meets_misshapen, meets_tested, recast, next, not_both, either_way}
use Rattle.loop_script.proofs.Openings.{an_object, items_opened, SomeItem}
use Rattle.loop_script.proofs.Leaves.{Reads, of_needed, of_free, reads_whole, reads_null, reads_list, keys_at, each_at, counted, the_count}
use Rattle.loop_script.proofs.SourcesRead.{reads_level}
use Rattle.loop_script.proofs.ActionsRead.{reads_action}
use Rattle.loop_script.proofs.OneMeaning.{one_script}
use Rattle.loop_script.proofs.Gives.{outside}

-- ---- lanes and procedures
reads_actions : Reads tables.actions (List Action) (rows 0 256 action_of) (IsList IsAction)
reads_actions = reads_list 0 256 (one_of action) reads_action

lane_at : (d : Data) → Meets (Unit {0}) LaneSpec (lane_of (Some d)) (IsMisshapen (an lane) d) (IsBeyond (an lane) d) (IsLane (Some d))
unfolding lane_of actions
lane_at d =
    an_object lane d (next (keys_at (tables.keys lane) d) (
    next (of_needed (tables.needed (codes "contexts") (whole 1 256)) refl (reads_whole 1 256) (get (codes "contexts") d)) (
    next (of_needed (tables.needed (codes "start") tables.actions) refl reads_actions (get (codes "start") d)) (
    meets_done _ (λ x. x) (λ x. x) (λ s c u. record { contexts = c; start = s })))))

reads_lane : Reads (an lane) LaneSpec lane_of IsLane
unfolding lane_of actions rows
reads_lane = record { there = lane_at; absent = λ s. refl }

procedure_at : (d : Data) → Meets (Unit {0}) Proc (procedure_of (Some d)) (IsMisshapen (an procedure) d) (IsBeyond (an procedure) d) (IsProc (Some d))
unfolding procedure_of actions keep_or
procedure_at d =
    an_object procedure d (next (keys_at (tables.keys procedure) d) (
    next (of_needed (tables.needed (codes "do") tables.actions) refl reads_actions (get (codes "do") d)) (
    next (of_free {A = Option ℕ} (tables.optional (codes "keep") (whole_or_null 0 4294967295)) (Some 0) refl (reads_null 0 4294967295) (get (codes "keep") d)) (
    meets_done _ (λ x. x) (λ x. x) (λ k a u. record { actions = a; keep = k })))))

reads_procedure : Reads (an procedure) Proc procedure_of IsProc
unfolding procedure_of actions rows keep_or
reads_procedure = record { there = procedure_at; absent = λ s. refl }

-- ---- the lanes, with their contexts together
of_lane : (o : Option Data) (n : ℕ) → IsWhole o n → contexts_of o ≡ n
of_lane o n e = ap contexts_of e

sum_from : (n : ℕ) (ds : Items) (ls : List LaneSpec) → EachIs IsLane ds ls → fold (λ a l. a + l.contexts) n ls ≡ n + contexts_in ds
sum_from n no_items [] h = omega arith
sum_from n no_items (l ∷ ls) h = absurd h
sum_from n (item d ds) [] h = absurd h
sum_from n (item d ds) (l ∷ ls) h =
    let first = of_lane (get (codes "contexts") d) l.contexts h.0.contexts in
    let rest = sum_from (n + l.contexts) ds ls h.1 in
    omega arith

same_sum : (ds : Items) (ls : List LaneSpec) → EachIs IsLane ds ls → sum_by (λ l. l.contexts) ls ≡ contexts_in ds
same_sum ds ls h = let all = sum_from 0 ds ls h in omega arith

more_contexts : (most : ℕ) (ds : Items) (n : ℕ) → n ≡ contexts_in ds → (nat_le n most ≡ false) ↔ HasMoreContexts most (array ds)
more_contexts most ds n e = (λ h. (ds, refl, over n e h), λ (es, p, h). under n e (subst (λ fs. most < contexts_in fs) (some_inj (sym p)) h))
  where
    over : (m : ℕ) → m ≡ contexts_in ds → nat_le m most ≡ false → most < contexts_in ds
    over m q h = grind (arith, nat_tests)

    under : (m : ℕ) → m ≡ contexts_in ds → most < contexts_in ds → nat_le m most ≡ false
    under m q h = grind (arith, nat_tests)

lanes_at : (d : Data) → Meets (Unit {0}) (List LaneSpec) (lanes_of (Some d)) (IsMisshapen (lanes 1 64 256) d) (IsBeyond (lanes 1 64 256) d) (IsList IsLane (Some d))
unfolding lanes_of rows
lanes_at (array ds) =
    let form : Form = lanes 1 64 256 in
    let all : List LaneSpec = (each lane_of ds >>= of_length 1 64).value in
    let sh : SomeItem (IsMisshapen (an lane)) ds ↔ IsMisshapen form (array ds) = along (either_part is_none) (items_opened HasOtherShape form (an lane) ds (λ f e. same_side)) in
    let ra : ((SomeItem (IsBeyond (an lane)) ds ⊎ IsOutside 1 64 (count ds)) ⊎ HasMoreContexts 256 (array ds)) ↔ IsBeyond form (array ds) = along (regrouped (the_count 1 64 ds) same_side) (items_opened IsOutOfRange form (an lane) ds (λ f e. same_side)) in
    let few : Meets (Unit {0}) (List LaneSpec) (each lane_of ds >>= of_length 1 64) _ _ (EachIs IsLane ds) = meets_tested (λ xs. nat_le 1 (length xs) && nat_le (length xs) 64) [] (each_at (an lane) reads_lane ds) (counted IsLane 1 64 ds (each lane_of ds).value) in
    recast {V = EachIs IsLane ds} sh (λ q. ra) (λ v. (ds, refl, v)) (meets_tested (λ ls. nat_le (sum_by (λ l. l.contexts) ls) 256) [] few (λ v. more_contexts 256 ds (sum_by (λ l. l.contexts) all) (same_sum ds all v)))
lanes_at null = meets_misshapen {A = List LaneSpec} [] (lanes 1 64 256, null, itself (lanes 1 64 256) null, refl)
lanes_at (boolean b) = meets_misshapen {A = List LaneSpec} [] (lanes 1 64 256, boolean b, itself (lanes 1 64 256) (boolean b), refl)
lanes_at (number n) = meets_misshapen {A = List LaneSpec} [] (lanes 1 64 256, number n, itself (lanes 1 64 256) (number n), refl)
lanes_at (string s) = meets_misshapen {A = List LaneSpec} [] (lanes 1 64 256, string s, itself (lanes 1 64 256) (string s), refl)
lanes_at (object ms) = meets_misshapen {A = List LaneSpec} [] (lanes 1 64 256, object ms, itself (lanes 1 64 256) (object ms), refl)

reads_lanes : Reads (lanes 1 64 256) (List LaneSpec) lanes_of (IsList IsLane)
unfolding lanes_of rows
reads_lanes = record { there = lanes_at; absent = λ s. refl }

-- ---- the script
script_at : (d : Data) → Meets (Unit {0}) Plan (plan (Some d)) (IsMisshapen (an script) d) (IsBeyond (an script) d) (Denotes (Some d))
unfolding plan count_or rows_or levels index
script_at d =
    an_object script d (next (keys_at (tables.keys script) d) (
    next (of_needed (tables.needed (codes "version") (whole 1 2)) refl (reads_whole 1 2) (get (codes "version") d)) (
    next (of_needed (tables.needed (codes "ticks") (whole 1 4096)) refl (reads_whole 1 4096) (get (codes "ticks") d)) (
    next (of_needed (tables.needed (codes "tick_us") (whole 1 1000000000)) refl (reads_whole 1 1000000000) (get (codes "tick_us") d)) (
    next (of_needed (tables.needed (codes "lanes") (lanes 1 64 256)) refl reads_lanes (get (codes "lanes") d)) (
    next (of_free (tables.optional (codes "cancellables") (whole 0 256)) 0 refl (reads_whole 0 256) (get (codes "cancellables") d)) (
    next (of_free {A = List (List Level)} (tables.optional (codes "fds") (list 0 256 (list 0 4096 pair))) [] refl (reads_list 0 256 (list 0 4096 pair) (reads_list 0 4096 pair reads_level)) (get (codes "fds") d)) (
    next (of_free {A = List ℕ} (tables.optional (codes "loops") (list 0 256 tables.index)) [] refl (reads_list 0 256 tables.index (reads_whole 0 4294967295)) (get (codes "loops") d)) (
    next (of_free {A = List Proc} (tables.optional (codes "procs") (list 0 1024 (an procedure))) [] refl (reads_list 0 1024 (an procedure) reads_procedure) (get (codes "procs") d)) (
    meets_done _ (λ x. x) (λ x. x) (λ p o f c l u t v k. record { version = v; ticks = t; tick_us = u; lanes = l; cancellables = c; fds = f; loops = o; procs = p })))))))))))

-- ---- the first class of fault
judged_not_shape : (p : Plan) (a b : Bool) → plan_refers p ≡ a → plan_rules p ≡ b → (cond a (cond b (Ok p) (Err Rule)) (Err Reference) ≡ Err Shape) → ⊥
judged_not_shape p true true e f h = cc
judged_not_shape p true false e f h = cc
judged_not_shape p false b e f h = cc

judged_not_limit : (p : Plan) (a b : Bool) → plan_refers p ≡ a → plan_rules p ≡ b → (cond a (cond b (Ok p) (Err Rule)) (Err Reference) ≡ Err Limit) → ⊥
judged_not_limit p true true e f h = cc
judged_not_limit p true false e f h = cc
judged_not_limit p false b e f h = cc

first_shape : (s l : Bool) (p : Plan) → (verdict (record { shape = s; limit = l }) p ≡ Err Shape) ↔ (s ≡ true)
first_shape true l p = (λ h. refl, λ h. refl)
first_shape false true p = (λ h. cc, λ h. absurd (not_both h refl))
first_shape false false p = (λ h. absurd (judged_not_shape p (plan_refers p) (plan_rules p) refl refl h), λ h. absurd (not_both h refl))

first_limit : (s l : Bool) (p : Plan) → (verdict (record { shape = s; limit = l }) p ≡ Err Limit) ↔ ((s ≡ false) × (l ≡ true))
first_limit true l p = (λ h. cc, λ h. absurd (not_both refl h.0))
first_limit false true p = (λ h. (refl, refl), λ h. refl)
first_limit false false p = (λ h. absurd (judged_not_limit p (plan_refers p) (plan_rules p) refl refl h), λ h. absurd (not_both h.1 refl))

no_first : (s l : Bool) (p : Plan) → s ≡ false → l ≡ false → verdict (record { shape = s; limit = l }) p ≡ judged p
no_first true l p e f = absurd (not_both refl e)
no_first false true p e f = absurd (not_both refl f)
no_first false false p e f = refl

-- ---- bytes have one value
of_value : (bytes : List ℕ) (d e : Data) (answer : Result Plan ScriptFault) → IsJson bytes d → IsJson bytes e → script_of e ≡ answer → answer ≡ script_of d
of_value bytes d e answer h k r = let same : e ≡ d = ap (λ o. unwrap_or o d) (sym k.1 ∙ h.1) in sym r ∙ ap script_of same

of_bytes : (bytes : List ℕ) (d : Data) (answer : Result Plan ScriptFault) → IsJson bytes d → IsReading bytes answer → answer ≡ script_of d
of_bytes bytes d (Ok p) h (e, k, r) = of_value bytes d e (Ok p) h k r
of_bytes bytes d (Err NotJson) h k = absurd (k.1 d h)
of_bytes bytes d (Err Shape) h k = let (e, j, r) = k.1 in of_value bytes d e (Err Shape) h j r
of_bytes bytes d (Err Limit) h k = let (e, j, r) = k.1 in of_value bytes d e (Err Limit) h j r
of_bytes bytes d (Err Reference) h k = let (e, j, r) = k.1 in of_value bytes d e (Err Reference) h j r
of_bytes bytes d (Err Rule) h k = let (e, j, r) = k.1 in of_value bytes d e (Err Rule) h j r
of_bytes bytes d (Err OutOfMemory) h k = absurd (k.0 refl)

-- ---- so a value is read as the tables say
abbrev faults : Data → Faults
faults d = (plan (Some d)).faults none_seen

none_before : {P : Type 0} → (false ≡ true) ⊎ P → P
none_before (inl x) = absurd (not_both x refl)
none_before (inr p) = p

seen : (d : Data) → ((faults d).shape ≡ true) ↔ IsMisshapen (an script) d
seen d = (λ h. none_before (((script_at d).shape none_seen).0 h), λ h. ((script_at d).shape none_seen).1 (inr h))

over : (d : Data) → (IsMisshapen (an script) d → ⊥) → ((faults d).limit ≡ true) ↔ IsBeyond (an script) d
over d n = (λ h. none_before (((script_at d).limit none_seen tt n).0 h), λ h. ((script_at d).limit none_seen tt n).1 (inr h))

unseen : {P : Type 0} (b : Bool) → (b ≡ true) ↔ P → (P → ⊥) → b ≡ false
unseen true h n = absurd (n (h.0 refl))
unseen false h n = refl

well : (d : Data) → (faults d).shape ≡ false → IsMisshapen (an script) d → ⊥
well d e m = not_both ((seen d).1 m) e

within : (d : Data) → (IsMisshapen (an script) d → ⊥) → (faults d).limit ≡ false → IsBeyond (an script) d → ⊥
within d n e b = not_both ((over d n).1 b) e

-- so what is read with no fault is what the value denotes
pub denoted_where_sound : (d : Data) → (faults d).shape ≡ false → (faults d).limit ≡ false → Denotes (Some d) (plan (Some d)).value
denoted_where_sound d s l = let m = well d s in (script_at d).value tt m (within d m l)

-- the reading, by whether some action is one that the version has not
abbrev read_of : Bool → Data → Result Plan ScriptFault
read_of g d = cond g (Err Shape) (verdict (faults d) (plan (Some d)).value)

formed : (d : Data) → (IsMisshapen (an script) d → ⊥) → (GivesOutsideVersion2 d → ⊥) → IsMalformed d → ⊥
formed d n v (inl m) = n m
formed d n v (inr g) = v g

not_outside : {G : Type 0} {g : Bool} → g ≡ false → (g ≡ true) ↔ G → G → ⊥
not_outside e h x = not_both (h.1 x) e

shape_by : (d : Data) (g : Bool) → (g ≡ true) ↔ GivesOutsideVersion2 d → (read_of g d ≡ Err Shape) ↔ IsMalformed d
shape_by d true h = (λ e. inr (h.0 refl), λ m. refl)
shape_by d false h = (λ e. inl ((seen d).0 (first.0 e)), back)
  where
    first : (read_of false d ≡ Err Shape) ↔ ((faults d).shape ≡ true)
    first = first_shape (faults d).shape (faults d).limit (plan (Some d)).value

    back : IsMalformed d → read_of false d ≡ Err Shape
    back (inl m) = first.1 ((seen d).1 m)
    back (inr g) = absurd (not_outside refl h g)

limit_by : (d : Data) (g : Bool) → (g ≡ true) ↔ GivesOutsideVersion2 d → (read_of g d ≡ Err Limit) ↔ ((IsMalformed d → ⊥) × IsBeyond (an script) d)
limit_by d true h = (λ e. cc, λ p. absurd (p.0 (inr (h.0 refl))))
limit_by d false h =
    let first = first_limit (faults d).shape (faults d).limit (plan (Some d)).value in (
      λ e. let both = first.0 e in (formed d (well d both.0) (not_outside refl h), (over d (well d both.0)).0 both.1),
      λ p. let n : IsMisshapen (an script) d → ⊥ = λ m. p.0 (inl m) in first.1 (unseen (faults d).shape (seen d) n, (over d n).1 p.1),
    )

on_by : (d : Data) (g : Bool) → (g ≡ true) ↔ GivesOutsideVersion2 d → (IsMalformed d → ⊥) → (IsBeyond (an script) d → ⊥) → (p : Plan) × Denotes (Some d) p × (read_of g d ≡ judged p)
on_by d true h n b = absurd (n (inr (h.0 refl)))
on_by d false h n b =
    let m : IsMisshapen (an script) d → ⊥ = λ x. n (inl x) in
    ((plan (Some d)).value, (script_at d).value tt m b, no_first (faults d).shape (faults d).limit (plan (Some d)).value (unseen (faults d).shape (seen d) m) (unseen (faults d).limit (over d m) b))

goes_shape : (d : Data) → (script_of d ≡ Err Shape) ↔ IsMalformed d
goes_shape d = shape_by d (gives_outside_version_2 d) (outside d)

goes_limit : (d : Data) → (script_of d ≡ Err Limit) ↔ ((IsMalformed d → ⊥) × IsBeyond (an script) d)
goes_limit d = limit_by d (gives_outside_version_2 d) (outside d)

pub goes_on : (d : Data) → (IsMalformed d → ⊥) → (IsBeyond (an script) d → ⊥) → (p : Plan) × Denotes (Some d) p × (script_of d ≡ judged p)
goes_on d = on_by d (gives_outside_version_2 d) (outside d)

-- and another reading that goes by the tables answers the same
both_malformed : (read : Data → Result Plan ScriptFault) → GoesByTables read → (d : Data) → IsMalformed d → read d ≡ script_of d
both_malformed read h d m = (h.shape d).1 m ∙ sym ((goes_shape d).1 m)

answers_same : (read : Data → Result Plan ScriptFault) → GoesByTables read → (d : Data) → (gives_outside_version_2 d ≡ true) ⊎ (gives_outside_version_2 d ≡ false) → ((faults d).shape ≡ true) ⊎ ((faults d).shape ≡ false) → ((faults d).limit ≡ true) ⊎ ((faults d).limit ≡ false) → read d ≡ script_of d
answers_same read h d (inl g) e l = both_malformed read h d (inr ((outside d).0 g))
answers_same read h d (inr g) (inl e) l = both_malformed read h d (inl ((seen d).0 e))
answers_same read h d (inr g) (inr e) (inl f) =
    let n = formed d (well d e) (not_outside g (outside d)) in
    let b = (over d (well d e)).0 f in
    (h.limit d).1 (n, b) ∙ sym ((goes_limit d).1 (n, b))
answers_same read h d (inr g) (inr e) (inr f) =
    let n = formed d (well d e) (not_outside g (outside d)) in
    let b = within d (well d e) f in
    let (p, hp, rp) = h.script d n b in
    let (q, hq, rq) = goes_on d n b in
    rp ∙ ap judged (one_script (Some d) p q hp hq) ∙ sym rq

pub read_by_tables : ReadByTables
read_by_tables = record {
  goes = record { shape = goes_shape; limit = goes_limit; script = goes_on };
  one = λ d. one_script (Some d);
  only = λ read h d. answers_same read h d (either_way (gives_outside_version_2 d)) (either_way (faults d).shape) (either_way (faults d).limit);
  bytes = of_bytes;
}
