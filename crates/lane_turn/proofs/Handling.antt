-- What handlers of a cancellation leave of the rows of a context: those that came stay, and some of those before.
use Rattle.std.proofs.Common.{◌≡◌, ◌≢◌, ◌⊎◌, inl, inr, ℕ, ℤ, zero, suc, ◌<◌, ◌≤◌, ◌==◌, ◌||◌, Bool, true, false, not, cond, Option, Some, None, List, [], ◌∷◌, ◌++◌, map, filter, slice_set, option_map, refl, ap, sym, ◌∙◌, arith, subst}
use Rattle.std.specs.Prelude.{is_some, slice_get}
use Rattle.std.specs.List.{AllByRecursion}
use Rattle.std.proofs.lemmas.List.{map-append}
use Rattle.std.proofs.lemmas.List.Elements.{filter-append}
use Rattle.std.proofs.lemmas.Bool.Decides.{eqb_tells}
use Rattle.loop_script.specs.declared.plan.Plan.{Plan}
use Rattle.loop_script.specs.declared.source.SourceSpec.{SourceSpec}
use Rattle.loop_script.specs.declared.action.Action.{Action}
use Rattle.loop_script.specs.declared.action.Action.TheVariants.{Destroy, SetReady, Quit}
use Rattle.loop_script.specs.declared.body.Body.TheVariants.{Procedure}
use Rattle.loop_script.specs.Parts.{actions_of, context_of}
use Rattle.source_rows.specs.declared.row.Row.{Row}
use Rattle.source_rows.specs.Row.{root_row}
use Rattle.source_rows.specs.Rows.{RowSet, has_id, is_under, destroyed, ready_set}
use Rattle.source_rows.specs.Tree.{IdsRise}
use Rattle.source_rows.proofs.Lists.{all_map, all_filter, pairs_filter, pairs_map}
use Rattle.context_core.specs.declared.context.Context.{Context}
use Rattle.cancel_view.specs.declared.handler.Fired.{Fired}
use Rattle.cancel_view.specs.Seen.{has, fired, cancelled}
use Rattle.lane_turn.specs.declared.line.Event.TheVariants as events
use Rattle.lane_turn.specs.declared.line.Word.{Word}
use Rattle.lane_turn.specs.declared.line.Word.TheVariants as words
use Rattle.lane_turn.specs.declared.slot.Place.{Place}
use Rattle.lane_turn.specs.Lane.{Lane, present, is_own, context_at, with_rows, edited, next_id, place_at, row_at, written, set_running, viewing, noting}
use Rattle.lane_turn.specs.Acted.{missed, on_source, plain_acted, all_acted, handled, all_handled, cancel}
use Rattle.lane_turn.specs.Arrivals.{rows_of_context, next_order, IsAmong}

-- ---- one context changed

pub set_here : (f : Context → Context) (contexts : List (Option Context)) (i : ℕ) → present (slice_get (slice_set contexts i (option_map f (present (slice_get contexts i)))) i) ≡ option_map f (present (slice_get contexts i))
set_here f [] i = refl
set_here f (o ∷ contexts) zero = refl
set_here f (o ∷ contexts) (suc i) = set_here f contexts i

pub set_there : (f : Context → Context) (contexts : List (Option Context)) (i j : ℕ) → i ≢ j → present (slice_get (slice_set contexts i (option_map f (present (slice_get contexts i)))) j) ≡ present (slice_get contexts j)
set_there f [] i j h = refl
set_there f (o ∷ contexts) zero zero h = absurd (h refl)
set_there f (o ∷ contexts) zero (suc j) h = refl
set_there f (o ∷ contexts) (suc i) zero h = refl
set_there f (o ∷ contexts) (suc i) (suc j) h = set_there f contexts i j (λ e. h (ap suc e))

-- ---- the rows of a context: some of those before, and then those that came

-- a row of an id that was not given before
abbrev pub IsNew : ℕ → Row → Type 0
IsNew first r = (id : ℕ) → id < first → (is_under id r ≡ false) × (has_id id r ≡ false)

pub record IsLeft (W : Type 0) (next order : ℕ) (before came : List Row) (o : Option Context) : Type 0 where
  pub left : List Row
  pub rows : rows_of_context o ≡ left ++ came
  pub among : AllByRecursion (IsAmong before) left
  pub rising : IdsRise left
  pub whole : W → left ≡ before
  pub at_id : next_id o ≡ next
  pub at_order : next_order o ≡ order

other_id : (id i : ℕ) → id < i → (i == id) ≡ false
other_id id i l = by (eqb_tells i id)
  where
    by : ((i == id) ≡ true × i ≡ id) ⊎ ((i == id) ≡ false × i ≢ id) → (i == id) ≡ false
    by (inl p) = absurd (omega (arith, l, p.1))
    by (inr p) = p.0

pub root_new : (first id now order : ℕ) (spec : SourceSpec) → first ≤ id → IsNew first (root_row spec now id order)
root_new first id now order spec l i h =
    let other : (id == i) ≡ false = other_id i id (omega (arith, l, h)) in
    (ap (λ b. b || (b || (b || (b || false)))) other, other)

filter_new : (first id : ℕ) → id < first → (came : List Row) → AllByRecursion (IsNew first) came → filter (λ r. not (is_under id r)) came ≡ came
filter_new first id l [] h = refl
filter_new first id l (r ∷ came) h =
    ap (λ b. cond (not b) (r ∷ filter (λ r. not (is_under id r)) came) (filter (λ r. not (is_under id r)) came)) (h.0 id l).0 ∙ ap (λ rs. r ∷ rs) (filter_new first id l came h.1)

set_new : (first id : ℕ) (us : ℤ) → id < first → (came : List Row) → AllByRecursion (IsNew first) came → map (λ r. cond (has_id id r) (record r { ready = us }) r) came ≡ came
set_new first id us l [] h = refl
set_new first id us l (r ∷ came) h =
    ap (λ b. cond b (record r { ready = us }) r ∷ map (λ r. cond (has_id id r) (record r { ready = us }) r) came) (h.0 id l).1 ∙ ap (λ rs. r ∷ rs) (set_new first id us l came h.1)

-- what handlers do to rows
left_destroyed : (first next order id : ℕ) (before came : List Row) (o : Option Context) → id < first → AllByRecursion (IsNew first) came
    → IsLeft ⊥ next order before came o → IsLeft ⊥ next order before came (option_map (with_rows (destroyed id)) o)
left_destroyed first next order id before came None l n h = h
left_destroyed first next order id before came (Some c) l n h =
    let stays : Row → Bool = λ r. not (is_under id r) in
    record {
      left = filter stays h.left;
      rows = ap (filter stays) h.rows ∙ (filter-append stays h.left came ∙ ap (λ rs. filter stays h.left ++ rs) (filter_new first id l came n));
      among = all_filter (IsAmong before) stays h.left h.among;
      rising = pairs_filter (λ (r : Row) (q : Row). r.id < q.id) stays h.left h.rising;
      whole = λ w. absurd w;
      at_id = h.at_id;
      at_order = h.at_order;
    }

among_set : (before : List Row) (us : ℤ) (r : Row) (b : Bool) → IsAmong before r → IsAmong before (cond b (record r { ready = us }) r)
among_set before us r true h = (h.0, h.1, ap (λ (x : Row). record x { ready = us }) h.2)
among_set before us r false h = h

set_id : (us : ℤ) (r : Row) (b : Bool) → (cond b (record r { ready = us }) r).id ≡ r.id
set_id us r true = refl
set_id us r false = refl

left_set : (first next order id : ℕ) (us : ℤ) (before came : List Row) (o : Option Context) → id < first → AllByRecursion (IsNew first) came
    → IsLeft ⊥ next order before came o → IsLeft ⊥ next order before came (option_map (with_rows (ready_set id us)) o)
left_set first next order id us before came None l n h = h
left_set first next order id us before came (Some c) l n h =
    let f : Row → Row = λ r. cond (has_id id r) (record r { ready = us }) r in
    record {
      left = map f h.left;
      rows = ap (map f) h.rows ∙ (map-append f h.left came ∙ ap (λ rs. map f h.left ++ rs) (set_new first id us l came n));
      among = all_map (IsAmong before) (IsAmong before) f (λ r a. among_set before us r (has_id id r) a) h.left h.among;
      rising = pairs_map (λ (r : Row) (q : Row). r.id < q.id) (λ (r : Row) (q : Row). r.id < q.id) f (λ r q k. omega (arith, k, set_id us r (has_id id r), set_id us q (has_id id q))) h.left h.rising;
      whole = λ w. absurd w;
      at_id = h.at_id;
      at_order = h.at_order;
    }

-- ---- a lane within a delivery

-- what slots name in a context has ids that were given before
abbrev pub Named : (context first : ℕ) → Lane → Type 0
Named context first lane = (slot : ℕ) (place : Place) → place_at slot lane ≡ Some place → place.context ≡ context → place.id < first

pub record Stays (W : Type 0) (context first next order : ℕ) (before came : List Row) (lane : Lane) : Type 0 where
  pub kept : IsLeft W next order before came (context_at context lane)
  pub named : Named context first lane

named_same : (context first : ℕ) (lane after : Lane) → after.slots ≡ lane.slots → Named context first lane → Named context first after
named_same context first lane after e h slot place k = h slot place (sym (ap (λ slots. place_at slot (record lane { slots = slots })) e) ∙ k)

-- what a handler does
abbrev Hands : (context first next order : ℕ) (before came : List Row) → Lane → Lane → Type 0
Hands context first next order before came lane after = AllByRecursion (IsNew first) came → Stays ⊥ context first next order before came lane → Stays ⊥ context first next order before came after

stays_same : (W : Type 0) (context first next order : ℕ) (before came : List Row) (lane after : Lane) → after.contexts ≡ lane.contexts → after.slots ≡ lane.slots
    → Stays W context first next order before came lane → Stays W context first next order before came after
stays_same W context first next order before came lane after c s h = record {
  kept = subst (λ (cs : List (Option Context)). IsLeft W next order before came (present (slice_get cs context))) (sym c) h.kept;
  named = named_same context first lane after s h.named;
}

hands_either : (context first next order : ℕ) (before came : List Row) (lane x y : Lane) (b : Bool) → Hands context first next order before came lane x → Hands context first next order before came lane y → Hands context first next order before came lane (cond b x y)
hands_either context first next order before came lane x y true p q = p
hands_either context first next order before came lane x y false p q = q

abbrev pub Told : ℕ → ℕ → Type 0
Told d context = ((d == context) ≡ true × d ≡ context) ⊎ ((d == context) ≡ false × d ≢ context)

hands_edit : (context first next order : ℕ) (before came : List Row) (edit : ℕ → RowSet → RowSet) (slot : ℕ) (place : Place) (lane : Lane)
    → ((id : ℕ) (o : Option Context) → id < first → AllByRecursion (IsNew first) came → IsLeft ⊥ next order before came o → IsLeft ⊥ next order before came (option_map (with_rows (edit id)) o))
    → place_at slot lane ≡ Some place → Told place.context context → Hands context first next order before came lane (edited place.context (edit place.id) lane)
hands_edit context first next order before came edit slot place lane f e (inl p) n h = record {
  kept = subst (IsLeft ⊥ next order before came) (sym (subst (λ (d : ℕ). context_at context (edited d (edit place.id) lane) ≡ option_map (with_rows (edit place.id)) (context_at context lane)) (sym p.1) (set_here (with_rows (edit place.id)) lane.contexts context)))
      (f place.id (context_at context lane) (h.named slot place e p.1) n h.kept);
  named = h.named;
}
hands_edit context first next order before came edit slot place lane f e (inr p) n h = record {
  kept = subst (IsLeft ⊥ next order before came) (sym (set_there (with_rows (edit place.id)) lane.contexts place.context context p.1)) h.kept;
  named = h.named;
}

hands_source : (context first next order : ℕ) (before came : List Row) (tick : ℕ) (word : Word) (edit : ℕ → RowSet → RowSet) (slot : ℕ) (lane : Lane)
    → ((id : ℕ) (o : Option Context) → id < first → AllByRecursion (IsNew first) came → IsLeft ⊥ next order before came o → IsLeft ⊥ next order before came (option_map (with_rows (edit id)) o))
    → (o : Option Place) → place_at slot lane ≡ o → Hands context first next order before came lane (on_source tick word edit o lane)
hands_source context first next order before came tick word edit slot lane f None e = λ n h. stays_same ⊥ context first next order before came lane _ refl refl h
hands_source context first next order before came tick word edit slot lane f (Some place) e =
    hands_either context first next order before came lane (edited place.context (edit place.id) lane) (missed tick word lane) (is_some (row_at place lane))
    (hands_edit context first next order before came edit slot place lane f e (eqb_tells place.context context))
    (λ n h. stays_same ⊥ context first next order before came lane _ refl refl h)

hands_one : (context first next order : ℕ) (before came : List Row) (script : Plan) (tick : ℕ) (action : Action) (lane : Lane) → Hands context first next order before came lane (plain_acted script tick action lane)
hands_one context first next order before came script tick (Destroy slot) lane =
    hands_source context first next order before came tick words.Destroy destroyed slot lane (λ id o. left_destroyed first next order id before came o) (place_at slot lane) refl
hands_one context first next order before came script tick (SetReady slot us) lane =
    hands_source context first next order before came tick words.SetReady (λ id. ready_set id us) slot lane (λ id o. left_set first next order id us before came o) (place_at slot lane) refl
hands_one context first next order before came script tick (Quit number) lane =
    hands_either context first next order before came lane (set_running number false lane) (missed tick words.Quit lane) (is_own (context_of script number) lane)
    (λ n h. stays_same ⊥ context first next order before came lane _ refl refl h) (λ n h. stays_same ⊥ context first next order before came lane _ refl refl h)
hands_one context first next order before came script tick _ lane = λ n h. stays_same ⊥ context first next order before came lane _ refl refl h

hands_all : (context first next order : ℕ) (before came : List Row) (script : Plan) (tick : ℕ) (actions : List Action) (lane : Lane) → Hands context first next order before came lane (all_acted script tick actions lane)
hands_all context first next order before came script tick [] lane n h = h
hands_all context first next order before came script tick (a ∷ actions) lane n h =
    hands_all context first next order before came script tick actions (plain_acted script tick a lane) n (hands_one context first next order before came script tick a lane n h)

hands_handled : (context first next order : ℕ) (before came : List Row) (script : Plan) (tick : ℕ) (fs : List Fired) (lane : Lane) → Hands context first next order before came lane (all_handled script tick fs lane)
hands_handled context first next order before came script tick [] lane n h = h
hands_handled context first next order before came script tick (f ∷ fs) lane n h =
    let told : Lane = written tick (events.Handler f.id) lane in
    hands_handled context first next order before came script tick fs (handled script tick f lane) n
    (hands_all context first next order before came script tick (actions_of script (Procedure f.proc)) told n (stays_same ⊥ context first next order before came lane told refl refl h))

pub hands_cancel : (context first next order : ℕ) (before came : List Row) (script : Plan) (tick c : ℕ) (lane : Lane) → Hands context first next order before came lane (cancel script tick c lane)
hands_cancel context first next order before came script tick c lane =
    let seen : Lane = written tick (events.Cancel c) (noting tick c (viewing (cancelled c lane.view) lane)) in
    hands_either context first next order before came lane lane (all_handled script tick (fired c lane.view) seen) (has c lane.view) (λ n h. h)
    (λ n h. hands_handled context first next order before came script tick (fired c lane.view) seen n (stays_same ⊥ context first next order before came lane seen refl refl h))
