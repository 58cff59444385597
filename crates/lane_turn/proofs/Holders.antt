-- In a run each source is dispatched by the lane that had its context when the tick began.
use Rattle.std.proofs.Common.{◌≡◌, ◌≢◌, ℕ, zero, suc, ◌<◌, ◌≤◌, ◌==◌, Bool, true, false, is_some, Option, Some, None, List, [], ◌∷◌, map, length, get_or, refl, ap, sym, ◌∙◌, subst, arith, eqb-true}
use Rattle.std.specs.Prelude.{slice_get, slice_index_or}
use Rattle.std.specs.List.{AllByRecursion, range_with_len}
use Rattle.loop_script.specs.declared.plan.Plan.{Plan}
use Rattle.loop_script.specs.References.{sizes}
use Rattle.context_core.specs.declared.context.Context.{Context}
use Rattle.source_rows.specs.declared.row.Row.{Row}
use Rattle.source_rows.proofs.Lists.{all_and}
use Rattle.post_office.specs.declared.letter.Letter.{Letter}
use Rattle.lane_turn.specs.declared.line.Line.{Line}
use Rattle.lane_turn.specs.declared.line.Event.{Event}
use Rattle.lane_turn.specs.declared.line.Event.TheVariants as events
use Rattle.lane_turn.specs.Lane.{Lane, Turn, context_at, present, row_in, row_of}
use Rattle.lane_turn.specs.Step.{step}
use Rattle.lane_turn.specs.Turn.{opening, begun, turned}
use Rattle.lane_turn.specs.Handover.{Handing, all_handed, handings, handed_over}
use Rattle.lane_turn.specs.Deliver.{received_all}
use Rattle.lane_turn.specs.Tick.{posted_at, lanes_at}
use Rattle.lane_turn.specs.Traces.{Grows, IsOf}
use Rattle.lane_turn.specs.Rest.{IsBrought, IsHold}
use Rattle.lane_turn.specs.Holding.{holder_at, TellsHolder, IsOfHolder}
use Rattle.lane_turn.proofs.Adds.{grows_none, grows_trans, grows_as, each_joined, BroughtAt}
use Rattle.lane_turn.proofs.Added.{Told, TellsNext, does}
use Rattle.lane_turn.proofs.Steady.{held_of}
use Rattle.lane_turn.proofs.Sends.{step_tells}
use Rattle.lane_turn.proofs.Turns.{kept_finished, turned_number}
use Rattle.lane_turn.proofs.Delivered.{received_number}
use Rattle.lane_turn.proofs.GoingOver.{handed_part}
use Rattle.lane_turn.proofs.Traced.{HoldAt, goes_all, brings_all}
use Rattle.lane_turn.proofs.Arrivals.{own_held}
use Rattle.lane_turn.proofs.Holds.{Stands, mapped, held_at_tick}

-- ---- a turn

-- a dispatch that is told is of one of the contexts that are held
abbrev IsOfHeld : List Bool → Event → Type 0
IsOfHeld held (events.Dispatch context id priority depth) = slice_index_or held context false ≡ true
IsOfHeld held _ = Unit {0}

abbrev HeldAt : ℕ → List Bool → Line → Type 0
HeldAt tick held line = IsOf tick line × IsOfHeld held line.event

there_in : (o : Option Context) (id : ℕ) (row : Row) → row_in id o ≡ Some row → is_some o ≡ true
there_in None id row e = let no : None ≡ Some row = e in cc
there_in (Some c) id row e = refl

held_next : (lane after : Lane) (event : Event) → TellsNext lane after event → IsOfHeld (held_of lane.contexts) event
held_next lane after (events.Dispatch context id priority depth) d =
    sym (own_held lane.contexts context) ∙ there_in (context_at context lane) (d.row).id d.row (d.next).there
held_next lane after _ d = tt

record Dispatches (tick : ℕ) (lane : Lane) (t : Turn) : Type 0 where
  held : held_of t.lane.contexts ≡ held_of lane.contexts
  lines : Grows (HeldAt tick (held_of lane.contexts)) lane.trace t.lane.trace

dispatches_on : (script : Plan) (tick : ℕ) (lane : Lane) (t u : Turn) → step script tick t ≡ Some u → Dispatches tick lane t → Dispatches tick lane u
dispatches_on script tick lane t u e d =
    let told : Grows (HeldAt tick (held_of t.lane.contexts)) t.lane.trace u.lane.trace =
    grows_as (Told tick t.lane u.lane) (HeldAt tick (held_of t.lane.contexts)) (λ l p. (p.0, held_next t.lane u.lane l.event p.3)) t.lane.trace u.lane.trace (does script tick t u e).lines in
    record {
      held = (step_tells script tick t u e).holds ∙ d.held;
      lines = grows_trans (HeldAt tick (held_of lane.contexts)) lane.trace t.lane.trace u.lane.trace d.lines
          (subst (λ (bs : List Bool). Grows (HeldAt tick bs) t.lane.trace u.lane.trace) d.held told);
    }

turn_dispatches : (script : Plan) (tick : ℕ) (lane : Lane) → Grows (HeldAt tick (held_of lane.contexts)) lane.trace (turned script tick lane).trace
turn_dispatches script tick lane =
    (kept_finished script tick (Dispatches tick lane) (dispatches_on script tick lane) (begun tick lane) (record { held = refl; lines = grows_none (HeldAt tick (held_of lane.contexts)) lane.trace })).lines

-- ---- lines of holders

abbrev OfHolder : Plan → Lane → Type 0
OfHolder script lane = AllByRecursion (IsOfHolder script lane.number) lane.trace

grown : (script : Plan) (lane after : Lane) → after.number ≡ lane.number → Grows (IsOfHolder script lane.number) lane.trace after.trace → OfHolder script lane → OfHolder script after
grown script lane after e g h =
    subst (λ (n : ℕ). AllByRecursion (IsOfHolder script n) after.trace) (sym e)
    (subst (λ (ls : List Line). AllByRecursion (IsOfHolder script lane.number) ls) (sym g.lines) (each_joined (IsOfHolder script lane.number) lane.trace g.more h g.each))

past_none : (contexts : List (Option Context)) (i : ℕ) → slice_index_or (held_of contexts) i false ≡ true → i < length contexts
past_none [] i e = let no : false ≡ true = e in cc
past_none (o ∷ contexts) zero e = omega arith
past_none (o ∷ contexts) (suc i) e = omega (arith, past_none contexts i e)

turn_holds : (script : Plan) (tick : ℕ) (lane : Lane) → Stands script (λ c. holder_at script c tick) lane → OfHolder script lane → OfHolder script (turned script tick lane)
turn_holds script tick lane s h =
    grown script lane (turned script tick lane) (turned_number script tick lane)
    (grows_as (HeldAt tick (held_of lane.contexts)) (IsOfHolder script lane.number) (λ l p. subst (λ (k : ℕ). TellsHolder script lane.number k l.event) (sym p.0) (tells l.event p.1)) lane.trace (turned script tick lane).trace (turn_dispatches script tick lane)) h
  where
    tells : (event : Event) → IsOfHeld (held_of lane.contexts) event → TellsHolder script lane.number tick event
    tells (events.Dispatch context id priority depth) e =
        let few : context < (sizes script).contexts = subst (λ (n : ℕ). context < n) (s.fits).size (past_none lane.contexts context e) in
        sym (eqb-true lane.number (holder_at script context tick) (sym ((s.fits).has context few) ∙ (own_held lane.contexts context ∙ e)))
    tells _ e = tt

over_holds : (script : Plan) (tick : ℕ) (hs : List Handing) (lane : Lane) → OfHolder script lane → OfHolder script (all_handed tick hs lane)
over_holds script tick hs lane h =
    grown script lane (all_handed tick hs lane) (handed_part (λ (l : Lane). l.number) tick (λ kept l. refl) (λ c l. refl) hs lane)
    (grows_as (HoldAt tick) (IsOfHolder script lane.number) (λ l p. tells l.tick l.event p.1) lane.trace (all_handed tick hs lane).trace (goes_all tick hs lane).lines) h
  where
    tells : (k : ℕ) (event : Event) → IsHold event → TellsHolder script lane.number k event
    tells k (events.Dispatch context id priority depth) e = absurd e
    tells k _ e = tt

sent_holds : (script : Plan) (tick : ℕ) (letters : List Letter) (lane : Lane) → OfHolder script lane → OfHolder script (received_all script tick letters lane)
sent_holds script tick letters lane h =
    grown script lane (received_all script tick letters lane) (received_number script tick letters lane)
    (grows_as (BroughtAt tick) (IsOfHolder script lane.number) (λ l p. tells l.tick l.event p.1) lane.trace (received_all script tick letters lane).trace (brings_all script tick letters lane).adds.lines) h
  where
    tells : (k : ℕ) (event : Event) → IsBrought event → TellsHolder script lane.number k event
    tells k (events.Dispatch context id priority depth) e = absurd e
    tells k _ e = tt

-- ---- a run

opened_holds : (script : Plan) (ns : List ℕ) → AllByRecursion (OfHolder script) (map (opening script) ns)
opened_holds script [] = tt
opened_holds script (n ∷ ns) = (tt, opened_holds script ns)

pub run_holds : (script : Plan) (tick : ℕ) → AllByRecursion (OfHolder script) (lanes_at script tick)
run_holds script zero = opened_holds script (range_with_len 0 (length script.lanes))
run_holds script (suc tick) =
    let lanes : List Lane = lanes_at script tick in
    let letters : List Letter = posted_at script tick lanes in
    let turns : List Lane = map (turned script tick) lanes in
    let hs : List Handing = handings tick letters turns in
    let Stand : Lane → Type 0 = Stands script (λ c. holder_at script c tick) in
    let both = all_and Stand (OfHolder script) lanes (held_at_tick script tick).each (run_holds script tick) in
    mapped (OfHolder script) (OfHolder script) (received_all script tick letters) (sent_holds script tick letters) (handed_over tick letters turns)
    (mapped (OfHolder script) (OfHolder script) (all_handed tick hs) (over_holds script tick hs) turns
    (mapped (λ lane. Stand lane × OfHolder script lane) (OfHolder script) (turned script tick) (λ lane p. turn_holds script tick lane p.0 p.1) lanes both))
