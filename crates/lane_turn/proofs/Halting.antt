-- What halts a lane in place of its next step, and what does not.
use Rattle.std.proofs.Common.{◌≡◌, ℕ, zero, suc, ◌-◌, ◌≤◌, Bool, true, false, cond, Option, Some, None, [], refl, sym, ap, ◌∙◌, arith}
use Rattle.std.specs.Prelude.{nat_lt, slice_get}
use Rattle.loop_script.specs.declared.plan.Plan.{Plan}
use Rattle.loop_script.specs.declared.action.Action.{Action}
use Rattle.loop_script.specs.Parts.{actions_of}
use Rattle.source_rows.specs.declared.row.Row.{Row}
use Rattle.lane_turn.specs.declared.lane.Status.TheVariants.{GoesOn, Halted}
use Rattle.lane_turn.specs.declared.layer.Call.{Call}
use Rattle.lane_turn.specs.declared.layer.Top.{Top}
use Rattle.lane_turn.specs.declared.layer.Top.TheVariants as tops
use Rattle.lane_turn.specs.declared.line.Event.{Event}
use Rattle.lane_turn.specs.declared.line.Event.TheVariants as events
use Rattle.lane_turn.specs.Acted.{acted, sends}
use Rattle.lane_turn.specs.Frames.{calls_in_progress, top_of}
use Rattle.lane_turn.specs.Halt.{halt_of, halt_of_action, halt_of_dispatch, halt_of_id}
use Rattle.lane_turn.specs.Lane.{Lane, Turn, row_of, stopped, taken, written}
use Rattle.lane_turn.specs.Step.{dispatched, dispatching, limited_by, step, step_call, step_going, step_id, step_polling, step_top, with_lane}

-- ---- an action in whose place the lane does not halt may be counted

counts_action : (left : ℕ) (a : Action) (o : Option Action) → Some a ≡ o → halt_of_action left o ≡ None → 1 ≤ left
counts_action zero a None e h = cc
counts_action zero a (Some b) e h = cc
counts_action (suc n) a o e h = omega arith

pub action_counts : (script : Plan) (left : ℕ) (lane : Lane) (call : Call) (a : Action) (top : Top) → tops.Call call ≡ top → halt_of script left lane top ≡ None
    → Some a ≡ slice_get (actions_of script call.body) call.place → 1 ≤ left
action_counts script left lane call a top e h k = counts_action left a (slice_get (actions_of script call.body) call.place) k (ap (halt_of script left lane) e ∙ h)

-- ---- a step in whose place the lane halts

same_line : (a b : Event) → Some a ≡ Some b → a ≡ b
same_line a b e = cc

abbrev halted : ℕ → Turn → ℕ → Event → Turn
halted tick t n line = record t { lane = stopped Halted (written tick line t.lane); left = n - 1 }

uncounted : (tick : ℕ) (t : Turn) (n : ℕ) → n ≡ t.left → zero ≡ n → halted tick t n events.HaltSteps ≡ with_lane (λ lane. stopped Halted (written tick events.HaltSteps lane)) t
uncounted tick t n e z =
    let left : n - 1 ≡ t.left = omega (arith, e, z) in
    ap (λ (m : ℕ). record t { lane = stopped Halted (written tick events.HaltSteps t.lane); left = m }) left

halts_action : (script : Plan) (tick : ℕ) (t : Turn) (call : Call) (n : ℕ) (a : Option Action) (line : Event) → n ≡ t.left → Some line ≡ halt_of_action n a
    → halted tick t n line ≡ step_call script tick t call a
halts_action script tick t call zero (Some a) line e h =
    ap (halted tick t zero) (same_line line events.HaltSteps h)
    ∙ (uncounted tick t zero e refl ∙ ap (limited_by tick (sends script a (taken t.lane)) (λ lane. acted script tick a (taken lane)) t) e)
halts_action script tick t call zero None line e h = cc
halts_action script tick t call (suc n) a line e h = cc

too_deep : (tick : ℕ) (t : Turn) (g : Lane → Lane) (n : ℕ) → g t.lane ≡ stopped Halted (written tick events.HaltDepth t.lane) → halted tick t (suc n) events.HaltDepth ≡ limited_by tick None g t (suc n)
too_deep tick t g n e =
    let left : suc n - 1 ≡ n = omega arith in
    ap (λ (m : ℕ). record t { lane = stopped Halted (written tick events.HaltDepth t.lane); left = m }) left
    ∙ ap (λ (l : Lane). record t { lane = l; left = n }) (sym e)

deep_by : (tick context : ℕ) (row : Row) (lane : Lane) (b : Bool) → b ≡ false → cond b (dispatched tick context row lane) (stopped Halted (written tick events.HaltDepth lane)) ≡ stopped Halted (written tick events.HaltDepth lane)
deep_by tick context row lane true e = let no : true ≡ false = e in cc
deep_by tick context row lane false e = refl

halts_dispatch : (tick context : ℕ) (row : Row) (t : Turn) (n : ℕ) (b : Bool) (line : Event) → n ≡ t.left → b ≡ nat_lt (calls_in_progress t.lane.frames) 32 → Some line ≡ halt_of_dispatch n b
    → halted tick t n line ≡ limited_by tick None (dispatching tick context row) t n
halts_dispatch tick context row t zero b line e k h = ap (halted tick t zero) (same_line line events.HaltSteps h) ∙ uncounted tick t zero e refl
halts_dispatch tick context row t (suc n) true line e k h = cc
halts_dispatch tick context row t (suc n) false line e k h =
    ap (halted tick t (suc n)) (same_line line events.HaltDepth h)
    ∙ too_deep tick t (dispatching tick context row) n (deep_by tick context row t.lane (nat_lt (calls_in_progress t.lane.frames) 32) (sym k))

halts_id : (tick context : ℕ) (t : Turn) (n : ℕ) (o : Option Row) (line : Event) → n ≡ t.left → Some line ≡ halt_of_id n (nat_lt (calls_in_progress t.lane.frames) 32) o
    → halted tick t n line ≡ step_id tick t context o
halts_id tick context t n None line e h = cc
halts_id tick context t n (Some row) line e h =
    halts_dispatch tick context row t n (nat_lt (calls_in_progress t.lane.frames) 32) line e refl h ∙ ap (limited_by tick None (dispatching tick context row) t) e

halts_top : (script : Plan) (tick : ℕ) (t : Turn) (top : Top) (line : Event) → Some line ≡ halt_of script t.left t.lane top → Some (halted tick t t.left line) ≡ step_top script tick t top
halts_top script tick t tops.Nothing line h = cc
halts_top script tick t (tops.Call call) line h = ap (λ (u : Turn). Some u) (halts_action script tick t call t.left (slice_get (actions_of script call.body) call.place) line refl h)
halts_top script tick t (tops.Iteration context None asker) line h = cc
halts_top script tick t (tops.Iteration context (Some id) asker) line h = ap (λ (u : Turn). Some u) (halts_id tick context t t.left (row_of context id t.lane) line refl h)
halts_top script tick t (tops.Loop number context) line h = cc

pub halts : (script : Plan) (tick : ℕ) (t : Turn) (line : Event) → t.unpolled ≡ [] → t.lane.status ≡ GoesOn → Some line ≡ halt_of script t.left t.lane (top_of t.lane.frames)
    → Some (halted tick t t.left line) ≡ step script tick t
halts script tick t line p s h =
    halts_top script tick t (top_of t.lane.frames) line h
    ∙ (ap (step_going script tick t) (sym s) ∙ ap (step_polling script tick t) (sym p))
