-- What gives a context: its letter leaves all contexts as they stand, and none is sent where no list of the script gives one.
use Rattle.std.proofs.Common.{◌≡◌, ℕ, zero, suc, ◌||◌, Bool, true, false, cond, Option, Some, None, List, [], ◌∷◌, refl, ap, sym, ◌∙◌}
use Rattle.std.specs.Prelude.{slice_get}
use Rattle.std.specs.List.{list_any}
use Rattle.loop_script.specs.declared.plan.Plan.{Plan}
use Rattle.loop_script.specs.declared.plan.Proc.{Proc}
use Rattle.loop_script.specs.declared.plan.LaneSpec.{LaneSpec}
use Rattle.loop_script.specs.declared.action.Action.{Action}
use Rattle.loop_script.specs.declared.action.Action.TheVariants as actions
use Rattle.loop_script.specs.declared.body.Body.{Body}
use Rattle.loop_script.specs.declared.body.Body.TheVariants as bodies
use Rattle.loop_script.specs.Parts.{start_of, actions_of_proc, actions_of}
use Rattle.loop_script.specs.Gives.{is_give, GivesNone}
use Rattle.post_office.specs.declared.letter.Body.TheVariants as mails
use Rattle.cancel_view.specs.Seen.{has}
use Rattle.lane_turn.specs.declared.line.Event.TheVariants as events
use Rattle.lane_turn.specs.declared.line.Word.TheVariants as words
use Rattle.lane_turn.specs.Lane.{Lane, written, is_own}
use Rattle.lane_turn.specs.Owned.{invoke_spec}
use Rattle.lane_turn.specs.Handover.{may_give, with_given}
use Rattle.lane_turn.specs.Acted.{acted, sends}
use Rattle.lane_turn.proofs.Owning.{gives_maybe}

-- a cancel and an invoke give none
cancel_gives : (c k : ℕ) (b : Bool) → gives_maybe c (cond b None (Some (mails.Cancelled k))) ≡ false
cancel_gives c k true = refl
cancel_gives c k false = refl

invoke_gives : (c context proc : ℕ) (b : Bool) → gives_maybe c (cond b None (Some (mails.Attach context (invoke_spec proc)))) ≡ false
invoke_gives c context proc true = refl
invoke_gives c context proc false = refl

-- what gives a context leaves the contexts as they stand
pub give_stands : (script : Plan) (tick : ℕ) (action : Action) (lane : Lane) (c : ℕ) → gives_maybe c (sends script action lane) ≡ true → (acted script tick action lane).contexts ≡ lane.contexts
give_stands script tick (actions.Cancel k) lane c e = let no : true ≡ false = sym e ∙ cancel_gives c k (has k lane.view) in cc
give_stands script tick (actions.Invoke context proc) lane c e = let no : true ≡ false = sym e ∙ invoke_gives c context proc (is_own context lane) in cc
give_stands script tick (actions.Give context to) lane c e = by (may_give script context to lane)
  where
    by : (b : Bool) → (cond b (written tick (events.Give context to) (with_given context true lane)) (written tick (events.Miss words.Give) lane)).contexts ≡ lane.contexts
    by true = refl
    by false = refl
give_stands script tick _ lane c e = let no : false ≡ true = e in cc

-- ---- where no list gives one

-- whether what may be there is so
abbrev any_in : {A : Type 0} → (A → Bool) → Option A → Bool
any_in p None = false
any_in p (Some x) = p x

none_at : {A : Type 0} (p : A → Bool) (xs : List A) (i : ℕ) → list_any p xs ≡ false → any_in p (slice_get xs i) ≡ false
none_at p [] i e = refl
none_at p (x ∷ xs) zero e = first (p x) e
  where
    first : (b : Bool) → (b || list_any p xs) ≡ false → b ≡ false
    first true f = let no : true ≡ false = f in cc
    first false f = refl
none_at p (x ∷ xs) (suc i) e = none_at p xs i (others (p x) e)
  where
    others : (b : Bool) → (b || list_any p xs) ≡ false → list_any p xs ≡ false
    others true f = let no : true ≡ false = f in cc
    others false f = f

none_started : (o : Option LaneSpec) → any_in (λ l. list_any is_give l.start) o ≡ false → list_any is_give (start_of o) ≡ false
none_started None e = refl
none_started (Some lane) e = e

none_called : (o : Option Proc) → any_in (λ q. list_any is_give q.actions) o ≡ false → list_any is_give (actions_of_proc o) ≡ false
none_called None e = refl
none_called (Some proc) e = e

none_listed : (script : Plan) → GivesNone script → (body : Body) → list_any is_give (actions_of script body) ≡ false
none_listed script g (bodies.Start lane) = none_started (slice_get script.lanes lane) (none_at (λ (l : LaneSpec). list_any is_give l.start) script.lanes lane g.lanes)
none_listed script g (bodies.Procedure proc) = none_called (slice_get script.procs proc) (none_at (λ (q : Proc). list_any is_give q.actions) script.procs proc g.procs)
none_listed script g bodies.Nothing = refl

none_given : (script : Plan) (action : Action) (lane : Lane) (c : ℕ) → is_give action ≡ false → gives_maybe c (sends script action lane) ≡ false
none_given script (actions.Cancel k) lane c e = cancel_gives c k (has k lane.view)
none_given script (actions.Invoke context proc) lane c e = invoke_gives c context proc (is_own context lane)
none_given script (actions.Give context to) lane c e = let no : true ≡ false = e in cc
none_given script _ lane c e = refl

-- no action of a call sends a letter that gives a context
pub none_sent : (script : Plan) → GivesNone script → (body : Body) (place : ℕ) (action : Action) → slice_get (actions_of script body) place ≡ Some action → (lane : Lane) (c : ℕ) → gives_maybe c (sends script action lane) ≡ false
none_sent script g body place action e lane c =
    none_given script action lane c (sym (ap (any_in is_give) e) ∙ none_at is_give (actions_of script body) place (none_listed script g body))
