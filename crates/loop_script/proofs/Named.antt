-- What a script has refers and keeps the rules: the actions of each lane and of each procedure.
use Rattle.std.proofs.Common.{◌≡◌, ℕ, zero, suc, ◌&&◌, Bool, true, false, List, [], ◌∷◌, refl}
use Rattle.std.specs.Prelude.{slice_get}
use Rattle.std.specs.List.{list_all}
use Rattle.loop_script.specs.declared.action.Action.{Action}
use Rattle.loop_script.specs.declared.plan.Plan.{Plan}
use Rattle.loop_script.specs.declared.plan.Proc.{Proc}
use Rattle.loop_script.specs.declared.plan.LaneSpec.{LaneSpec}
use Rattle.loop_script.specs.References.{sizes, action_refers, plan_refers}
use Rattle.loop_script.specs.Rules.{action_rules, plan_rules}
use Rattle.loop_script.specs.Parts.{start_of, actions_of_proc}

left_true : (a b : Bool) → (a && b) ≡ true → a ≡ true
left_true true b h = refl
left_true false b h = h

right_true : (a b : Bool) → (a && b) ≡ true → b ≡ true
right_true true b h = h
right_true false b h = cc

-- what every action of the lanes, or of the procedures, passes
abbrev lane_passes : (Action → Bool) → LaneSpec → Bool
lane_passes test lane = list_all test lane.start

abbrev proc_passes : (Action → Bool) → Proc → Bool
proc_passes test proc = list_all test proc.actions

start_among : (test : Action → Bool) (lanes : List LaneSpec) (i : ℕ) → list_all (lane_passes test) lanes ≡ true → list_all test (start_of (slice_get lanes i)) ≡ true
start_among test [] i h = refl
start_among test (lane ∷ lanes) zero h = left_true (lane_passes test lane) (list_all (lane_passes test) lanes) h
start_among test (lane ∷ lanes) (suc i) h = start_among test lanes i (right_true (lane_passes test lane) (list_all (lane_passes test) lanes) h)

proc_among : (test : Action → Bool) (procs : List Proc) (i : ℕ) → list_all (proc_passes test) procs ≡ true → list_all test (actions_of_proc (slice_get procs i)) ≡ true
proc_among test [] i h = refl
proc_among test (proc ∷ procs) zero h = left_true (proc_passes test proc) (list_all (proc_passes test) procs) h
proc_among test (proc ∷ procs) (suc i) h = proc_among test procs i (right_true (proc_passes test proc) (list_all (proc_passes test) procs) h)

pub start_refer : (p : Plan) (lane : ℕ) → plan_refers p ≡ true → list_all (action_refers (sizes p)) (start_of (slice_get p.lanes lane)) ≡ true
start_refer p lane h = start_among (action_refers (sizes p)) p.lanes lane (left_true _ _ (left_true _ _ h))

pub proc_refer : (p : Plan) (proc : ℕ) → plan_refers p ≡ true → list_all (action_refers (sizes p)) (actions_of_proc (slice_get p.procs proc)) ≡ true
proc_refer p proc h = proc_among (action_refers (sizes p)) p.procs proc (right_true _ _ (left_true _ _ h))

pub start_rules : (p : Plan) (lane : ℕ) → plan_rules p ≡ true → list_all (action_rules p.procs) (start_of (slice_get p.lanes lane)) ≡ true
start_rules p lane h = start_among (action_rules p.procs) p.lanes lane (right_true _ _ (left_true _ _ h))

pub proc_rules : (p : Plan) (proc : ℕ) → plan_rules p ≡ true → list_all (action_rules p.procs) (actions_of_proc (slice_get p.procs proc)) ≡ true
proc_rules p proc h = proc_among (action_rules p.procs) p.procs proc (right_true _ _ h)
