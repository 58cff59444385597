-- What a lane that has ended or is halted still does.
use Rattle.std.proofs.Common.{◌≡◌, ◌≢◌, inl, inr, ℕ, suc, Option, Some, None, List, [], ◌∷◌, map, refl, ap, sym, ◌∙◌, subst}
use Rattle.loop_script.specs.declared.plan.Plan.{Plan}
use Rattle.post_office.specs.declared.letter.Letter.{Letter}
use Rattle.lane_watch.specs.Tasks.{Started, is_late_at}
use Rattle.lane_turn.specs.declared.line.Line.{Line}
use Rattle.lane_turn.specs.declared.lane.Status.{Status}
use Rattle.lane_turn.specs.declared.lane.Status.TheVariants.{GoesOn, Ended, Halted}
use Rattle.lane_turn.specs.Lane.{Lane, Turn}
use Rattle.lane_turn.specs.Step.{step, step_polling, step_going, polled}
use Rattle.lane_turn.specs.Turn.{begun, turned}
use Rattle.lane_turn.specs.Handover.{Handing, all_handed, handings}
use Rattle.lane_turn.specs.Tick.{posted_at, lanes_at}
use Rattle.lane_turn.specs.Deliver.{received_all}
use Rattle.lane_turn.specs.Rest.{IsLate, IsHold, IsBrought, IsAfterEnd, IsPolled, IsHanded, IsSent, IsOver, EachLater}
use Rattle.lane_turn.proofs.Adds.{grows_none, grows_trans, grows_as, BroughtAt}
use Rattle.lane_turn.proofs.Added.{late_grows}
use Rattle.lane_turn.proofs.Traced.{HoldAt, goes_all, brings_all}
use Rattle.lane_turn.proofs.Turns.{kept_finished}

rests : (script : Plan) (tick : ℕ) (t : Turn) (status : Status) → status ≢ GoesOn → step_going script tick t status ≡ None
rests script tick t GoesOn h = absurd (h refl)
rests script tick t Ended h = refl
rests script tick t Halted h = refl

pub no_step : (script : Plan) (tick : ℕ) (t : Turn) → t.lane.status ≢ GoesOn → t.unpolled ≡ [] → step script tick t ≡ None
no_step script tick t h e = ap (λ (tasks : List Started). step_polling script tick t tasks) e ∙ rests script tick t t.lane.status h

abbrev Late : Line → Type 0
Late line = IsLate line.event

polled_so : (tick : ℕ) (task : Started) (t : Turn) → IsPolled t.lane (polled tick task t).lane
polled_so tick task t = record { lines = late_grows Late tick t.lane task.number (is_late_at tick t.lane.tasks task) tt; rest = refl }

none_some : (u : Turn) (o : Option Turn) → o ≡ None → o ≡ Some u → ⊥
none_some u o n e = let no : None ≡ Some u = sym n ∙ e in cc

some_same : (t u : Turn) → Some t ≡ Some u → t ≡ u
some_same t u e = cc

step_by : (script : Plan) (tick : ℕ) (t u : Turn) (tasks : List Started) → t.lane.status ≢ GoesOn → step_polling script tick t tasks ≡ Some u → IsPolled t.lane u.lane
step_by script tick t u [] h e = absurd (none_some u (step_going script tick t t.lane.status) (rests script tick t t.lane.status h) e)
step_by script tick t u (task ∷ tasks) h e = subst (λ (v : Turn). IsPolled t.lane v.lane) (some_same _ _ e) (polled_so tick task (record t { unpolled = tasks }))

pub step_polls : (script : Plan) (tick : ℕ) (t u : Turn) → t.lane.status ≢ GoesOn → step script tick t ≡ Some u → IsPolled t.lane u.lane
step_polls script tick t u h e = step_by script tick t u t.unpolled h e

polled_trans : (a b c : Lane) → IsPolled a b → IsPolled b c → IsPolled a c
polled_trans a b c h g = record {
  lines = grows_trans Late a.trace b.trace c.trace h.lines g.lines;
  rest = g.rest ∙ ap (λ (l : Lane). record l { tasks = c.tasks; trace = c.trace }) h.rest;
}

abbrev Rests : Lane → Turn → Type 0
Rests lane t = IsPolled lane t.lane

status_same : (a b : Lane) → IsPolled a b → b.status ≡ a.status
status_same a b h = ap (λ (l : Lane). l.status) h.rest

pub turn_polls : (script : Plan) (tick : ℕ) (lane : Lane) → lane.status ≢ GoesOn → IsPolled lane (turned script tick lane)
turn_polls script tick lane h =
    kept_finished script tick (Rests lane) (λ t u e p. polled_trans lane t.lane u.lane p (step_polls script tick t u (λ s. h (sym (status_same lane t.lane p) ∙ s)) e)) (begun tick lane)
    (record { lines = grows_none Late lane.trace; rest = refl })

pub handover_rests : (tick : ℕ) (hs : List Handing) (lane : Lane) → IsHanded lane (all_handed tick hs lane)
handover_rests tick hs lane =
    let h = goes_all tick hs lane in
    record { lines = grows_as (HoldAt tick) (λ l. IsHold l.event) (λ l p. p.1) lane.trace (all_handed tick hs lane).trace h.lines; rest = h.rest }

pub delivery_rests : (script : Plan) (tick : ℕ) (letters : List Letter) (lane : Lane) → IsSent lane (received_all script tick letters lane)
delivery_rests script tick letters lane =
    let h = brings_all script tick letters lane in
    record { lines = grows_as (BroughtAt tick) (λ l. IsBrought l.event) (λ l p. p.1) lane.trace (received_all script tick letters lane).trace h.adds.lines; status = h.status; frames = h.frames }

-- ---- a run

-- a lane over a whole tick
tick_over : (script : Plan) (tick : ℕ) (hs : List Handing) (letters : List Letter) (lane : Lane) → lane.status ≢ GoesOn → IsOver lane (received_all script tick letters (all_handed tick hs (turned script tick lane)))
tick_over script tick hs letters lane s =
    let turn : Lane = turned script tick lane in
    let over : Lane = all_handed tick hs turn in
    let after : Lane = received_all script tick letters over in
    let p = turn_polls script tick lane s in
    let g = handover_rests tick hs turn in
    let r = delivery_rests script tick letters over in
    let Told : Line → Type 0 = λ l. IsAfterEnd l.event in
    record {
      lines = grows_trans Told lane.trace over.trace after.trace
          (grows_trans Told lane.trace turn.trace over.trace (grows_as Late Told (λ l e. inl e) lane.trace turn.trace p.lines) (grows_as (λ l. IsHold l.event) Told (λ l e. inr (inl e)) turn.trace over.trace g.lines))
          (grows_as (λ l. IsBrought l.event) Told (λ l e. inr (inr e)) over.trace after.trace r.lines);
      status = r.status ∙ (ap (λ (l : Lane). l.status) g.rest ∙ ap (λ (l : Lane). l.status) p.rest);
      frames = r.frames ∙ (ap (λ (l : Lane). l.frames) g.rest ∙ ap (λ (l : Lane). l.frames) p.rest);
    }

each_over : (script : Plan) (tick : ℕ) (hs : List Handing) (letters : List Letter) (lanes : List Lane)
    → EachLater (λ lane later. lane.status ≢ GoesOn → IsOver lane later) lanes (map (received_all script tick letters) (map (all_handed tick hs) (map (turned script tick) lanes)))
each_over script tick hs letters [] = tt
each_over script tick hs letters (lane ∷ lanes) = (tick_over script tick hs letters lane, each_over script tick hs letters lanes)

pub run_over : (script : Plan) (tick : ℕ) → EachLater (λ lane later. lane.status ≢ GoesOn → IsOver lane later) (lanes_at script tick) (lanes_at script (suc tick))
run_over script tick =
    let lanes : List Lane = lanes_at script tick in
    let letters : List Letter = posted_at script tick lanes in
    each_over script tick (handings tick letters (map (turned script tick) lanes)) letters lanes
