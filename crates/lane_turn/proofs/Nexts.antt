-- What the next id of an iteration leads to.
use Rattle.std.proofs.Common.{◌≡◌, ℕ, zero, suc, ◌+◌, ◌<◌, ◌≤◌, true, cond, Option, Some, None, List, [], ◌∷◌, ◌++◌, length, refl, ap, sym, ◌∙◌, arith, subst, append_assoc, lt-ltb}
use Rattle.std.specs.Prelude.{nat_lt}
use Rattle.loop_script.specs.declared.plan.Plan.{Plan}
use Rattle.source_rows.specs.declared.row.Row.{Row}
use Rattle.lane_turn.specs.declared.line.Line.{Line}
use Rattle.lane_turn.specs.declared.line.Event.TheVariants as events
use Rattle.lane_turn.specs.declared.layer.Caller.{Caller}
use Rattle.lane_turn.specs.declared.lane.Status.TheVariants.{GoesOn, Halted}
use Rattle.lane_turn.specs.Replies.{reply_held}
use Rattle.lane_turn.specs.Frames.{Frame, IterOf, calls_in_progress, depth}
use Rattle.lane_turn.specs.Lane.{Lane, Turn, context_at, row_of, written, stopped}
use Rattle.lane_turn.specs.Step.{step, step_id, limited_by, dispatched, dispatching, result_lines}
use Rattle.lane_turn.specs.Depths.{callers, begun_calls}
use Rattle.lane_turn.proofs.Depths.{depth_callers, callers_advanced, calls_begun}
use Rattle.lane_turn.proofs.Iterations.{some_turn, turn, going, in_the_middle, row_in_id}
use Rattle.lane_turn.specs.declared.layer.Asker.{Asker}

-- what is counted is done, where the turn may count one more
counted_lane : (tick context left : ℕ) (row : Row) (t : Turn) → 1 ≤ left → (limited_by tick None (dispatching tick context row) t left).lane ≡ dispatching tick context row t.lane
counted_lane tick context zero row t h = absurd (omega (arith, h))
counted_lane tick context (suc left) row t h = refl

begins : (tick context : ℕ) (row : Row) (lane : Lane) → length (begun_calls lane.frames) < 32 → dispatching tick context row lane ≡ dispatched tick context row lane
begins tick context row lane h =
    let few : nat_lt (calls_in_progress lane.frames) 32 ≡ true = lt-ltb (calls_in_progress lane.frames) 32 (omega (arith, h, calls_begun lane.frames)) in
    ap (λ b. cond b (dispatched tick context row lane) (stopped Halted (written tick events.HaltDepth lane))) few

line_of : (tick context : ℕ) (row : Row) (lane : Lane)
    → (more : List Line) × ((dispatched tick context row lane).trace ≡ lane.trace ++ (record { tick = tick; event = events.Dispatch context row.id row.priority (length (callers (dispatched tick context row lane).frames)) }) ∷ more)
line_of tick context row lane =
    let more : List Line = result_lines tick (reply_held context row.id lane.replies) lane.view in
    let deep : depth lane.frames + 1 ≡ length (callers (dispatched tick context row lane).frames) = omega (arith, depth_callers lane.frames, ap (λ (cs : List Caller). length cs) (callers_advanced lane.frames)) in (
      more,
      append_assoc lane.trace ((record { tick = tick; event = events.Dispatch context row.id row.priority (depth lane.frames + 1) }) ∷ []) more
          ∙ ap (λ (n : ℕ). lane.trace ++ (record { tick = tick; event = events.Dispatch context row.id row.priority n }) ∷ more) deep,
    )

pub next_dispatched : (script : Plan) (tick : ℕ) (t u : Turn) (context id : ℕ) (ids : List ℕ) (asker : Asker) (below : List Frame) (row : Row) → t.unpolled ≡ [] → t.lane.status ≡ GoesOn → t.lane.frames ≡ IterOf context (id ∷ ids) asker ∷ below
    → row_of context id t.lane ≡ Some row → 1 ≤ t.left → length (begun_calls t.lane.frames) < 32 → step script tick t ≡ Some u
    → (more : List Line) × (u.lane.trace ≡ t.lane.trace ++ (record { tick = tick; event = events.Dispatch context id row.priority (length (callers u.lane.frames)) }) ∷ more)
next_dispatched script tick t u context id ids asker below row p s f r l few e =
    let frames : List Frame = IterOf context (id ∷ ids) asker ∷ below in
    let now : Turn = turn t (going t.lane frames) t.left t.iterated in
    let at : step script tick now ≡ Some u = in_the_middle script tick t u frames p s f e in
    let so : Some (step_id tick now context (Some row)) ≡ Some u = ap (λ (o : Option Row). Some (step_id tick now context o)) (sym r) ∙ at in
    let begun : length (begun_calls frames) < 32 = subst (λ (fs : List Frame). length (begun_calls fs) < 32) f few in
    let is : u.lane ≡ dispatched tick context row now.lane = ap (λ (v : Turn). v.lane) (sym (some_turn _ _ so)) ∙ (counted_lane tick context t.left row now l ∙ begins tick context row now.lane begun) in
    let told = line_of tick context row now.lane in
    let same : row.id ≡ id = row_in_id id (context_at context t.lane) row (sym r) in (
      told.0,
      subst (λ (lane : Lane). lane.trace ≡ t.lane.trace ++ (record { tick = tick; event = events.Dispatch context id row.priority (length (callers lane.frames)) }) ∷ told.0) (sym is)
          (subst (λ (i : ℕ). (dispatched tick context row now.lane).trace ≡ t.lane.trace ++ (record { tick = tick; event = events.Dispatch context i row.priority (length (callers (dispatched tick context row now.lane).frames)) }) ∷ told.0) same told.1),
    )

pub next_passed : (script : Plan) (tick : ℕ) (t u : Turn) (context id : ℕ) (ids : List ℕ) (asker : Asker) (below : List Frame) → t.unpolled ≡ [] → t.lane.status ≡ GoesOn → t.lane.frames ≡ IterOf context (id ∷ ids) asker ∷ below
    → row_of context id t.lane ≡ None → step script tick t ≡ Some u → (u.lane.frames ≡ IterOf context ids asker ∷ below) × (u.lane.trace ≡ t.lane.trace)
next_passed script tick t u context id ids asker below p s f r e =
    let frames : List Frame = IterOf context (id ∷ ids) asker ∷ below in
    let now : Turn = turn t (going t.lane frames) t.left t.iterated in
    let at : step script tick now ≡ Some u = in_the_middle script tick t u frames p s f e in
    let so : Some (step_id tick now context None) ≡ Some u = ap (λ (o : Option Row). Some (step_id tick now context o)) (sym r) ∙ at in
    let same = sym (some_turn _ _ so) in
    (ap (λ (v : Turn). v.lane.frames) same, ap (λ (v : Turn). v.lane.trace) same)
