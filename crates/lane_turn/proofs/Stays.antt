-- A source is there after a call of it exactly where `keep` lets it stay.
use Rattle.std.proofs.Common.{◌≡◌, ℕ, zero, suc, ◌≤◌, ◌==◌, ◌&&◌, Bool, true, false, not, cond, Option, Some, None, List, [], ◌∷◌, ◌↔◌, filter, map, length, slice_set, option_map, refl, ap, sym, ◌∙◌, subst, leb-true, le-leb}
use Rattle.std.specs.Prelude.{slice_get, is_some}
use Rattle.std.specs.List.{AllByRecursion}
use Rattle.loop_script.specs.declared.plan.Plan.{Plan}
use Rattle.loop_script.specs.declared.plan.Proc.{Proc}
use Rattle.loop_script.specs.declared.action.Action.{Action}
use Rattle.loop_script.specs.declared.body.Body.{Body}
use Rattle.loop_script.specs.declared.body.Body.TheVariants.{Start, Procedure, Nothing}
use Rattle.loop_script.specs.declared.source.Kind.{Kind}
use Rattle.loop_script.specs.declared.source.Kind.TheVariants as kinds
use Rattle.loop_script.specs.Parts.{time_of, is_kept, keeps, stays}
use Rattle.source_rows.specs.declared.row.Row.{Row}
use Rattle.source_rows.specs.Rows.{RowSet, row_of as row_with, destroyed, has_id, is_under}
use Rattle.source_rows.specs.Tree.{IsForest}
use Rattle.source_rows.proofs.Compared.{are_same}
use Rattle.source_rows.proofs.Lists.{all_of}
use Rattle.source_rows.proofs.Forest.{InForest, members, shaped, under_self}
use Rattle.context_core.specs.declared.context.Context.{Context}
use Rattle.lane_turn.specs.declared.layer.Call.{Call}
use Rattle.lane_turn.specs.declared.layer.Caller.{Caller}
use Rattle.lane_turn.specs.declared.layer.Origin.TheVariants.{Source}
use Rattle.lane_turn.specs.Frames.{CallOf}
use Rattle.lane_turn.specs.Sources.{restarted, restarted_row, restarted_kind, due_after, tree_levels}
use Rattle.lane_turn.specs.Lane.{Lane, Turn, present, context_at, with_rows, edited, popped, row_in, row_of}
use Rattle.lane_turn.specs.Step.{step, step_call, left_source}
use Rattle.lane_turn.specs.Levels.{Grown}
use Rattle.lane_turn.specs.Tick.{lanes_at, lane_within}
use Rattle.lane_turn.specs.Blocked.{turn_within}
use Rattle.lane_turn.specs.Stays.{IsThere, StaysTo, StaysBy, Stays, IsAtEnd}
use Rattle.lane_turn.proofs.Adds.{each_as}
use Rattle.lane_turn.proofs.Grown.{grown_run, own_grown}
use Rattle.lane_turn.proofs.Iterations.{some_turn, turn, going, in_the_middle}

-- ---- what `keep` says

kept_tells : (o : Option ℕ) (n : ℕ) → (is_kept o n ≡ true) ↔ StaysTo o n
kept_tells None n = (λ e. tt, λ s. refl)
kept_tells (Some keep) n = (λ e. leb-true n keep e, λ s. le-leb n keep s)

keeps_tells : (o : Option Proc) (n : ℕ) → (keeps o n ≡ true) ↔ StaysBy o n
keeps_tells None n = (λ e. let no : false ≡ true = e in cc, λ s. absurd s)
keeps_tells (Some proc) n = kept_tells proc.keep n

stays_tells : (script : Plan) (body : Body) (n : ℕ) → (stays script body n ≡ true) ↔ Stays script body n
stays_tells script (Procedure proc) n = keeps_tells (slice_get script.procs proc) n
stays_tells script Nothing n = (λ e. tt, λ s. refl)
stays_tells script (Start lane) n = (λ e. tt, λ s. refl)

-- ---- the source among the others

none_with : (id : ℕ) (rows : List Row) → AllByRecursion (λ r. is_under r.id r ≡ true) rows → row_with id (filter (λ r. not (is_under id r)) rows) ≡ None
none_with id [] h = refl
none_with id (r ∷ rows) h = by (none_with id rows h.1) (is_under id r) refl (r.id == id) refl
  where
    by : row_with id (filter (λ r. not (is_under id r)) rows) ≡ None → (b : Bool) → is_under id r ≡ b → (c : Bool) → (r.id == id) ≡ c → row_with id (cond (not b) (r ∷ filter (λ r. not (is_under id r)) rows) (filter (λ r. not (is_under id r)) rows)) ≡ None
    by ih true e c k = ih
    by ih false e true k = let no : true ≡ false = sym (h.0) ∙ (ap (λ (n : ℕ). is_under n r) (are_same r.id id k) ∙ e) in cc
    by ih false e false k = ap (λ b. cond b (Some r) (row_with id (filter (λ r. not (is_under id r)) rows))) k ∙ ih

under_selves : (rows : List Row) → IsForest rows → AllByRecursion (λ r. is_under r.id r ≡ true) rows
under_selves rows f = let all = members rows f in all_of (InForest rows) (λ (r : Row). is_under r.id r ≡ true) (λ r m. under_self r (shaped rows all r m)) rows all

same_there : (f : Row → Row) (id : ℕ) (rows : List Row) → ((r : Row) → (f r).id ≡ r.id) → is_some (row_with id (map f rows)) ≡ is_some (row_with id rows)
same_there f id [] e = refl
same_there f id (r ∷ rows) e =
    ap (λ (n : ℕ). is_some (cond (n == id) (Some (f r)) (row_with id (map f rows)))) (e r) ∙ by (same_there f id rows e) (r.id == id)
  where
    by : is_some (row_with id (map f rows)) ≡ is_some (row_with id rows) → (b : Bool) → is_some (cond b (Some (f r)) (row_with id (map f rows))) ≡ is_some (cond b (Some r) (row_with id rows))
    by ih true = refl
    by ih false = ih

id_if : (b : Bool) (r q : Row) → q.id ≡ r.id → (cond b q r).id ≡ r.id
id_if true r q e = e
id_if false r q e = refl

kind_there : (now id : ℕ) (kind : Kind) (s : RowSet) → is_some (row_with id (restarted_kind now id kind s).rows) ≡ is_some (row_with id s.rows)
kind_there now id kinds.Idle s = refl
kind_there now id (kinds.Timeout ms) s = same_there (λ r. cond (has_id id r) (record r { ready = due_after ms now }) r) id s.rows (λ r. id_if (has_id id r) r (record r { ready = due_after ms now }) refl)
kind_there now id (kinds.ReadyTime us) s = refl
kind_there now id (kinds.Fd fd bits) s = refl
kind_there now id (kinds.Cancel c) s = refl

row_there : (now id : ℕ) (o : Option Row) (s : RowSet) → is_some (row_with id (restarted_row now id o s).rows) ≡ is_some (row_with id s.rows)
row_there now id None s = refl
row_there now id (Some row) s = kind_there now id row.kind s

restarted_there : (now id : ℕ) (o : Option Context) → is_some (row_in id (option_map (with_rows (restarted now id)) o)) ≡ is_some (row_in id o)
restarted_there now id None = refl
restarted_there now id (Some c) = row_there now id (row_with id c.rows.rows) c.rows

destroyed_there : (id : ℕ) (o : Option Context) → ((c : Context) → o ≡ Some c → IsForest c.rows.rows) → is_some (row_in id (option_map (with_rows (destroyed id)) o)) ≡ false
destroyed_there id None f = refl
destroyed_there id (Some c) f = ap (λ (o : Option Row). is_some o) (none_with id c.rows.rows (under_selves c.rows.rows (f c refl)))

pub own_set : (g : Context → Context) (os : List (Option Context)) (i : ℕ) → present (slice_get (slice_set os i (option_map g (present (slice_get os i)))) i) ≡ option_map g (present (slice_get os i))
own_set g [] i = refl
own_set g (o ∷ os) zero = refl
own_set g (o ∷ os) (suc i) = own_set g os i

-- ---- the end of a call

not_false : (b : Bool) → not b ≡ true → b ≡ false
not_false true e = let no : false ≡ true = e in cc
not_false false e = refl

and_left : (a b : Bool) → (a && b) ≡ true → a ≡ true
and_left true b e = refl
and_left false b e = e

and_right : (a b : Bool) → (a && b) ≡ true → b ≡ true
and_right true b e = e
and_right false b e = let no : false ≡ true = e in cc

left_there : (script : Plan) (tick : ℕ) (body : Body) (caller : Caller) (lane : Lane) → ((c : Context) → context_at caller.context lane ≡ Some c → IsForest c.rows.rows) → (b : Bool) → (not caller.once && stays script body caller.number) ≡ b
    → IsThere caller.context caller.id (cond b (edited caller.context (restarted (time_of script tick) caller.id) lane) (edited caller.context (destroyed caller.id) lane)) ↔ (IsThere caller.context caller.id lane × (caller.once ≡ false) × Stays script body caller.number)
left_there script tick body caller lane f true e =
    let same : is_some (row_of caller.context caller.id (edited caller.context (restarted (time_of script tick) caller.id) lane)) ≡ is_some (row_of caller.context caller.id lane) =
    ap (λ (o : Option Context). is_some (row_in caller.id o)) (own_set (with_rows (restarted (time_of script tick) caller.id)) lane.contexts caller.context) ∙ restarted_there (time_of script tick) caller.id (context_at caller.context lane) in (
      λ there. (sym same ∙ there, not_false caller.once (and_left (not caller.once) (stays script body caller.number) e), (stays_tells script body caller.number).0 (and_right (not caller.once) (stays script body caller.number) e)),
      λ all. same ∙ all.0,
    )
left_there script tick body caller lane f false e =
    let gone : is_some (row_of caller.context caller.id (edited caller.context (destroyed caller.id) lane)) ≡ false =
    ap (λ (o : Option Context). is_some (row_in caller.id o)) (own_set (with_rows (destroyed caller.id)) lane.contexts caller.context) ∙ destroyed_there caller.id (context_at caller.context lane) f in (
      λ there. let no : true ≡ false = sym there ∙ gone in cc,
      λ all. let both : (not caller.once && stays script body caller.number) ≡ true = ap (λ b. not b && stays script body caller.number) all.1 ∙ (stays_tells script body caller.number).1 all.2 in let no : true ≡ false = sym both ∙ e in cc,
    )

-- a call that has no action left
ended_so : (script : Plan) (tick : ℕ) (t u : Turn) (caller : Caller) (body : Body) (h : IsAtEnd script caller body t) → step script tick t ≡ Some u → u.lane ≡ left_source script tick body caller (popped (going t.lane (CallOf (record { origin = Source caller; body = body; place = h.place }) ∷ h.below)))
ended_so script tick t u caller body h e =
    let call : Call = record { origin = Source caller; body = body; place = h.place } in
    let now : Turn = turn t (going t.lane (CallOf call ∷ h.below)) t.left t.iterated in
    let at : step script tick now ≡ Some u = in_the_middle script tick t u (CallOf call ∷ h.below) h.polled h.goes h.frames e in
    let so : Some (step_call script tick now call None) ≡ Some u = ap (λ (o : Option Action). Some (step_call script tick now call o)) (sym h.over) ∙ at in
    ap (λ (v : Turn). v.lane) (sym (some_turn _ _ so))

stays_so : (script : Plan) (tick : ℕ) (t u : Turn) (caller : Caller) (body : Body) → AllByRecursion (Grown (tree_levels script)) t.lane.contexts → IsAtEnd script caller body t → step script tick t ≡ Some u
    → IsThere caller.context caller.id u.lane ↔ (IsThere caller.context caller.id t.lane × (caller.once ≡ false) × Stays script body caller.number)
stays_so script tick t u caller body g h e =
    let over : Lane = popped (going t.lane (CallOf (record { origin = Source caller; body = body; place = h.place }) ∷ h.below)) in
    subst (λ (lane : Lane). IsThere caller.context caller.id lane ↔ (IsThere caller.context caller.id t.lane × (caller.once ≡ false) × Stays script body caller.number)) (sym (ended_so script tick t u caller body h e))
    (left_there script tick body caller over (λ c k. ((own_grown (tree_levels script) t.lane caller.context c k g).sound).forest) (not caller.once && stays script body caller.number) refl)

pub stay_after : (script : Plan) → length script.lanes ≤ 64 → (tick steps : ℕ) → tick ≤ 4096
    → AllByRecursion (λ lane. (caller : Caller) (body : Body) (u : Turn) → IsAtEnd script caller body (turn_within script tick steps lane) → step script tick (turn_within script tick steps lane) ≡ Some u
    → (IsThere caller.context caller.id u.lane ↔ (IsThere caller.context caller.id (turn_within script tick steps lane).lane × (caller.once ≡ false) × Stays script body caller.number))) (lanes_at script tick)
stay_after script few tick steps h =
    each_as (λ lane. AllByRecursion (Grown (tree_levels script)) (lane_within script tick steps lane).contexts)
    (λ lane. (caller : Caller) (body : Body) (u : Turn) → IsAtEnd script caller body (turn_within script tick steps lane) → step script tick (turn_within script tick steps lane) ≡ Some u
    → (IsThere caller.context caller.id u.lane ↔ (IsThere caller.context caller.id (turn_within script tick steps lane).lane × (caller.once ≡ false) × Stays script body caller.number)))
    (λ lane g caller body u a e. stays_so script tick (turn_within script tick steps lane) u caller body g a e) (lanes_at script tick) (grown_run script few tick steps h)
