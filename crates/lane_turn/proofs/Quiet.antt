-- A turn in which nothing is to be done.
use Rattle.std.proofs.Common.{◌≡◌, ℕ, ◌+◌, ◌&&◌, ◌||◌, Bool, true, false, cond, Option, Some, None, List, [], ◌∷◌, ◌++◌, map, filter, length, is_some, unwrap_or, refl, ap, sym, ◌∙◌, arith, append-nil}
use Rattle.std.specs.List.{list_any}
use Rattle.loop_script.specs.declared.plan.Plan.{Plan}
use Rattle.source_rows.specs.declared.row.Row.{Row}
use Rattle.source_rows.specs.Rows.{is_under, in_order}
use Rattle.lane_watch.specs.Watch.{GivesNothing}
use Rattle.context_core.specs.Ready.{Own, is_free, is_callable, is_ready, ready_rows, is_most_urgent, selected}
use Rattle.lane_turn.specs.declared.lane.Status.{Status}
use Rattle.lane_turn.specs.declared.lane.Status.TheVariants.{GoesOn, Ended, Halted}
use Rattle.lane_turn.specs.declared.layer.Top.{Top}
use Rattle.lane_turn.specs.declared.layer.Top.TheVariants as tops
use Rattle.lane_turn.specs.Frames.{IterOf, top_of, emptied}
use Rattle.lane_turn.specs.Lane.{Lane, Turn, chosen, is_running, iterating, written, popped}
use Rattle.lane_turn.specs.declared.line.Event.TheVariants as events
use Rattle.lane_turn.specs.Step.{step, step_polling, step_going, step_top, with_lane, late_line}
use Rattle.lane_turn.specs.Turn.{begun, finished}
use Rattle.lane_turn.specs.Polls.{after_polls, letters_of}
use Rattle.lane_turn.specs.Quiet.{at_tick, IsQuiet, IsIdle, IsIdleTop}
use Rattle.lane_turn.proofs.Finish.{finished_on, finished_now}
use Rattle.lane_turn.proofs.Polls.{polls_at_once}
use Rattle.lane_turn.specs.declared.layer.Asker.TheVariants as askers

-- ---- where no source calls, none is selected

and_false : (a : Bool) → (a && false) ≡ false
and_false true = refl
and_false false = refl

neither : (a b : Bool) → (a || b) ≡ false → (a ≡ false) × (b ≡ false)
neither true b h = absurd (cc)
neither false b h = (refl, h)

none_of_both : (p q : Row → Bool) (rows : List Row) → list_any q rows ≡ false → list_any (λ r. p r && q r) rows ≡ false
none_of_both p q [] h = refl
none_of_both p q (r ∷ rows) h =
    let both = neither (q r) (list_any q rows) h in
    rw (both.0, and_false (p r), none_of_both p q rows both.1) refl

none_pass : (p : Row → Bool) (rows : List Row) → ((r : Row) → p r ≡ false) → filter p rows ≡ []
none_pass p [] h = refl
none_pass p (r ∷ rows) h = rw (h r) (none_pass p rows h)

pub none_selected : (own : Own) (busy : List ℕ) (rows : List Row) → list_any (is_callable own busy) rows ≡ false → selected own busy rows ≡ []
none_selected own busy rows h =
    let ready : ready_rows own busy rows ≡ [] =
    none_pass (is_ready own busy rows) rows (λ r. ap (λ (b : Bool). is_free busy r && b) (none_of_both (λ q. is_under r.id q) (is_callable own busy) rows h) ∙ and_false (is_free busy r)) in
    ap (λ (rs : List Row). map (λ r. r.id) (in_order (filter (is_most_urgent rs) rs))) ready

-- ---- the turn once its tasks are polled: they told nothing

abbrev still : ℕ → Lane → Bool → Turn
still tick lane iterated = record { lane = at_tick (tick + 1) lane; unpolled = []; left = 10000; iterated = iterated; sent = 0; posted = [] }

polled_still : (tick : ℕ) (lane : Lane) → GivesNothing tick lane.tasks → after_polls tick (begun tick (at_tick tick lane)) ≡ still tick lane false
polled_still tick lane g =
    let lines : lane.trace ++ map (late_line tick lane.number) [] ≡ lane.trace = append-nil lane.trace in
    let none : 0 + 0 ≡ 0 = omega arith in
    (λ i. record {
      lane = record lane {
        tasks = record lane.tasks { started = g.stay i; tick = tick + 1 };
        trace = lane.trace ++ map (late_line tick lane.number) (g.late i);
      };
      unpolled = [];
      left = 10000;
      iterated = false;
      sent = 0 + length (g.replies i);
      posted = letters_of tick lane.number 0 (g.replies i);
    })
    ∙ (λ i. record (still tick lane false) { lane = record lane { tasks = record lane.tasks { tick = tick + 1 }; trace = lines i }; sent = none i })

-- ---- its steps

on : (script : Plan) (tick : ℕ) (t u : Turn) → step script tick t ≡ Some u → finished script tick t ≡ finished script tick u
on script tick t u e =
    sym (finished_on script tick t (ap is_some e)) ∙ ap (λ (o : Option Turn). finished script tick (unwrap_or o t)) e

over : (script : Plan) (tick : ℕ) (t : Turn) → step script tick t ≡ None → finished script tick t ≡ t
over script tick t e = finished_now script tick t (ap is_some e)

module _ (script : Plan) (tick : ℕ) (lane : Lane) where
  abbrev rest : Lane
  rest = at_tick (tick + 1) lane

  -- what the innermost frame takes next, where the lane goes on
  takes : (t : Turn) (top : Top) → t.unpolled ≡ [] → t.lane.status ≡ GoesOn → top_of t.lane.frames ≡ top → step script tick t ≡ step_top script tick t top
  takes t top u s e = ap (step_polling script tick t) u ∙ (ap (step_going script tick t) s ∙ ap (step_top script tick t) e)

  -- an iteration that selects nothing is begun and ends, and then the loop rests
  loop_rests : (number context : ℕ) → lane.status ≡ GoesOn → top_of lane.frames ≡ tops.Loop number context
      → (is_running number lane ≡ true) × (chosen script tick context lane ≡ []) × (emptied context lane.frames ≡ lane.frames)
      → finished script tick (still tick lane false) ≡ still tick lane true
  loop_rests number context s e idle =
      let within : Turn = record (still tick lane true) { lane = record rest { frames = IterOf context [] askers.Loop ∷ lane.frames } } in
      let begins : step script tick (still tick lane false) ≡ Some within =
      takes (still tick lane false) (tops.Loop number context) refl s e
      ∙ (ap (λ (b : Bool). cond b (Some (record (still tick lane true) { lane = iterating script tick context askers.Loop rest })) (Some (with_lane (λ (l : Lane). written tick (events.LoopEnd number) (popped l)) (still tick lane false)))) idle.0
      ∙ (λ i. Some (record (still tick lane true) { lane = record rest { frames = IterOf context (idle.1 i) askers.Loop ∷ idle.2 i } }))) in
      let ends : step script tick within ≡ Some (still tick lane true) = takes within (tops.Iteration context None askers.Loop) refl s refl in
      let rests : step script tick (still tick lane true) ≡ None =
      takes (still tick lane true) (tops.Loop number context) refl s e
      ∙ ap (λ (b : Bool). cond b None (Some (with_lane (λ (l : Lane). written tick (events.LoopEnd number) (popped l)) (still tick lane true)))) idle.0 in
      on script tick (still tick lane false) within begins ∙ (on script tick within (still tick lane true) ends ∙ over script tick (still tick lane true) rests)

  -- whatever is innermost, the turn ends as it began
  abbrev Ends : Type 0
  Ends = (iterated : Bool) × (finished script tick (still tick lane false) ≡ still tick lane iterated)

  by_top : (top : Top) → lane.status ≡ GoesOn → top_of lane.frames ≡ top → IsIdleTop script tick lane top → Ends
  by_top tops.Nothing s e idle = (false, over script tick (still tick lane false) (takes (still tick lane false) tops.Nothing refl s e))
  by_top (tops.Call call) s e idle = absurd idle
  by_top (tops.Iteration context next asker) s e idle = absurd idle
  by_top (tops.Loop number context) s e idle = (true, loop_rests number context s e idle)

  by_status : (status : Status) → lane.status ≡ status → IsIdle script tick lane → Ends
  by_status GoesOn s idle = by_top (top_of lane.frames) s refl (idle s)
  by_status Ended s idle = (false, over script tick (still tick lane false) (ap (step_going script tick (still tick lane false)) s))
  by_status Halted s idle = (false, over script tick (still tick lane false) (ap (step_going script tick (still tick lane false)) s))

  -- where tasks tell nothing and the steps are idle, the turn is quiet
  pub quiet_turn : GivesNothing tick lane.tasks → IsIdle script tick lane → IsQuiet script tick lane
  quiet_turn g idle =
      let ends = by_status lane.status refl idle in
      let all : finished script tick (begun tick (at_tick tick lane)) ≡ still tick lane ends.0 =
      sym (polls_at_once script tick (begun tick (at_tick tick lane))) ∙ (ap (finished script tick) (polled_still tick lane g) ∙ ends.1) in
      record { stays = ap (λ (t : Turn). t.lane) all; letters = ap (λ (t : Turn). t.posted) all; tasks = g }
