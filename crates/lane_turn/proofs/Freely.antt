-- A step that counts at once what it takes.
use Rattle.std.proofs.Common.{◌≡◌, ℕ, zero, suc, ◌-◌, ◌≤◌, Option, List, [], refl, sym, ap, ◌∙◌, arith, slice_get, unwrap_or}
use Rattle.loop_script.specs.declared.plan.Plan.{Plan}
use Rattle.loop_script.specs.declared.action.Action.{Action}
use Rattle.loop_script.specs.Parts.{actions_of}
use Rattle.lane_turn.specs.declared.lane.Status.{Status}
use Rattle.lane_turn.specs.declared.lane.Status.TheVariants.{GoesOn}
use Rattle.lane_turn.specs.declared.layer.Call.{Call}
use Rattle.lane_turn.specs.declared.layer.Top.{Top}
use Rattle.lane_turn.specs.declared.layer.Top.TheVariants as tops
use Rattle.lane_turn.specs.Frames.{top_of}
use Rattle.lane_watch.specs.Tasks.{Started}
use Rattle.post_office.specs.declared.letter.Body.{Body as Mail}
use Rattle.lane_turn.specs.Lane.{Lane, Turn}
use Rattle.lane_turn.specs.Step.{step, step_call, step_loop, step_top, step_going, step_polling, sending, limited, limited_by}
use Rattle.lane_turn.specs.Turn.{stepped}

pub call_stepped : (script : Plan) (tick : ℕ) (t : Turn) (call : Call) (a : Option Action) → t.unpolled ≡ [] → t.lane.status ≡ GoesOn → tops.Call call ≡ top_of t.lane.frames
    → a ≡ slice_get (actions_of script call.body) call.place → step_call script tick t call a ≡ stepped script tick t
call_stepped script tick t call a p s e k =
    ap (step_call script tick t call) k ∙ (ap (λ (top : Top). unwrap_or (step_top script tick t top) t) e ∙ (ap (λ (s : Status). unwrap_or (step_going script tick t s) t) (sym s)
    ∙ ap (λ (tasks : List Started). unwrap_or (step_polling script tick t tasks) t) (sym p)))

pub loop_stepped : (script : Plan) (tick : ℕ) (t : Turn) (number context : ℕ) → t.unpolled ≡ [] → t.lane.status ≡ GoesOn → tops.Loop number context ≡ top_of t.lane.frames
    → step_loop script tick t number context ≡ step script tick t
loop_stepped script tick t number context p s e =
    ap (λ (top : Top). step_top script tick t top) e ∙ (ap (λ (s : Status). step_going script tick t s) (sym s) ∙ ap (λ (tasks : List Started). step_polling script tick t tasks) (sym p))

counted_go : (tick : ℕ) (mail : Option Mail) (f : Lane → Lane) (t : Turn) (m : ℕ) → 1 ≤ m → record (sending tick mail t) { lane = f t.lane; left = m - 1 } ≡ limited_by tick mail f t m
counted_go tick mail f t zero h = absurd (omega (arith, h))
counted_go tick mail f t (suc n) h =
    let left : suc n - 1 ≡ n = omega arith in
    rw left refl

pub counted_one : (tick : ℕ) (mail : Option Mail) (f : Lane → Lane) (t : Turn) → 1 ≤ t.left → record (sending tick mail t) { lane = f t.lane; left = t.left - 1 } ≡ limited tick mail f t
counted_one tick mail f t h = counted_go tick mail f t t.left h
