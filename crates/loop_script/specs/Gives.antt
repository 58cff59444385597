-- Whether a script hands a context over.
use Rattle.std.specs.Prelude.{◌≡◌, ◌||◌, Bool, true, false}
use Rattle.std.specs.List.{list_any}
use Rattle.loop_script.specs.declared.action.Action.{Action}
use Rattle.loop_script.specs.declared.action.Action.TheVariants.{Give}
use Rattle.loop_script.specs.declared.plan.Plan.{Plan}

-- an action that hands a context over
abbrev pub is_give : Action → Bool
is_give (Give context lane) = true
is_give _ = false

-- some list of actions hands a context over
abbrev pub gives : Plan → Bool
gives p = list_any (λ l. list_any is_give l.start) p.lanes || list_any (λ q. list_any is_give q.actions) p.procs

-- none does
pub record GivesNone (p : Plan) : Type 0 where
  pub lanes : list_any (λ l. list_any is_give l.start) p.lanes ≡ false
  pub procs : list_any (λ q. list_any is_give q.actions) p.procs ≡ false
