-- What is done in a turn leaves a lane its number, its contexts and the size of its view, and adds no more to its tasks than is counted.
use Rattle.std.proofs.Common.{◌≡◌, ◌≢◌, ◌⊎◌, inl, inr, subst, ℕ, zero, suc, ◌+◌, ◌≤◌, ◌<◌, ◌==◌, ◌||◌, sym, Bool, true, false, cond, Option, Some, None, List, [], ◌∷◌, map, length, slice_set, refl, ap, ◌∙◌, arith, length-append}
use Rattle.std.proofs.lemmas.List.{length-set}
use Rattle.loop_script.specs.declared.plan.Plan.{Plan}
use Rattle.loop_script.specs.declared.action.Action.{Action}
use Rattle.loop_script.specs.declared.body.Body.{Body}
use Rattle.loop_script.specs.Parts.{time_of}
use Rattle.source_rows.specs.declared.row.Row.{Row}
use Rattle.source_rows.specs.Rows.{counted, destroyed, ready_set}
use Rattle.post_office.specs.declared.letter.Body.{Body as Mail}
use Rattle.post_office.specs.declared.letter.Body.TheVariants as mails
use Rattle.lane_turn.specs.Views.{tells_of}
use Rattle.context_core.specs.declared.context.Context.{Context}
use Rattle.lane_turn.specs.Sources.{restarted}
use Rattle.std.proofs.lemmas.Bool.Decides.{eqb_tells}
use Rattle.cancel_view.specs.Seen.{Seen, has, cancelled}
use Rattle.lane_turn.specs.declared.layer.Origin.{Origin}
use Rattle.lane_turn.specs.declared.layer.Origin.TheVariants.{Start, Source, Invoke as Invoked}
use Rattle.lane_turn.specs.Lane.{Lane, present, with_rows}
use Rattle.std.specs.Prelude.{is_some, slice_index_or, slice_get, option_map}
use Rattle.lane_turn.specs.Owned.{default_context}
use Rattle.lane_turn.specs.Acted.{acted, sends, cancel}
use Rattle.lane_turn.specs.Step.{dispatching, returned, answered}
use Rattle.lane_turn.proofs.Moves as moves
use Rattle.lane_turn.proofs.Moves.{PlainMove, plainly, PlainLaw, changed_by, Move, noticed, moved, mail_by, MayMove, Law, cancel_by, acted_by}
use Rattle.lane_turn.specs.declared.layer.Asker.{Asker}
use Rattle.lane_turn.specs.declared.layer.Asker.TheVariants as askers

-- what a letter may tell that a lane has seen cancelled
abbrev pub told_by : ℕ → Option Mail → Bool
told_by c None = false
told_by c (Some body) = tells_of c body

-- which contexts are given, once a letter gives one
abbrev pub given_by : Mail → List Bool → List Bool
given_by (mails.Attach context spec) given = given
given_by (mails.Complete reply) given = given
given_by (mails.Cancelled c) given = given
given_by (mails.Give context to) given = slice_set given context true

-- the same of a letter that may be sent
abbrev pub given_with : Option Mail → List Bool → List Bool
given_with None given = given
given_with (Some body) given = given_by body given

-- of each context of the script, whether the lane has it
abbrev pub held_of : List (Option Context) → List Bool
held_of contexts = map is_some contexts

-- at most k tasks are started, and none ends; what is seen cancelled is told by the letter that is sent, if it is one of it; the
-- lane has the contexts that it had
pub record Steady (k : ℕ) (mail : Option Mail) (lane after : Lane) : Type 0 where
  pub number : after.number ≡ lane.number
  pub tick : after.tasks.tick ≡ lane.tasks.tick
  pub view : length after.view.members ≡ length lane.view.members
  pub next : after.tasks.next ≤ lane.tasks.next + k
  pub few : length after.tasks.started ≤ length lane.tasks.started + k
  pub seen : (c : ℕ) → c < length lane.view.members → has c after.view ≡ (told_by c mail || has c lane.view)
  pub holds : held_of after.contexts ≡ held_of lane.contexts
  pub given : after.given ≡ given_with mail lane.given

-- a change of one context changes not whose they are
pub kept_held : (change : Context → Context) (contexts : List (Option Context)) (i : ℕ) → held_of (slice_set contexts i (option_map change (present (slice_get contexts i)))) ≡ held_of contexts
kept_held change [] i = refl
kept_held change (None ∷ contexts) zero = refl
kept_held change (Some c ∷ contexts) zero = refl
kept_held change (o ∷ contexts) (suc i) = ap (λ bs. is_some o ∷ bs) (kept_held change contexts i)

-- what leaves all of them alone
pub still : (k : ℕ) (lane after : Lane) → after.number ≡ lane.number → after.given ≡ lane.given → after.tasks ≡ lane.tasks → after.view ≡ lane.view → held_of after.contexts ≡ held_of lane.contexts → Steady k None lane after
still k lane after n g t v o = record {
  number = n;
  tick = ap (λ x. x.tick) t;
  view = ap (λ (s : Seen). length s.members) v;
  next = omega (arith, ap (λ x. x.next) t);
  few = omega (arith, ap (λ x. length x.started) t);
  seen = λ c h. ap (has c) v;
  holds = o;
  given = g;
}

pub steady_either : (k : ℕ) (mail : Option Mail) (lane x y : Lane) (b : Bool) → Steady k mail lane x → Steady k mail lane y → Steady k mail lane (cond b x y)
steady_either k mail lane x y true p q = p
steady_either k mail lane x y false p q = q

-- one after the other, of which the first sends nothing, or the second
pub steady_trans : (k : ℕ) (mail : Option Mail) (a b c : Lane) → Steady 0 None a b → Steady k mail b c → Steady k mail a c
steady_trans k mail a b c h g = record {
  number = g.number ∙ h.number;
  tick = g.tick ∙ h.tick;
  view = g.view ∙ h.view;
  next = omega (arith, g.next, h.next);
  few = omega (arith, g.few, h.few);
  seen = λ i l. g.seen i (omega (arith, l, h.view)) ∙ ap (λ x. told_by i mail || x) (h.seen i l);
  holds = g.holds ∙ h.holds;
  given = g.given ∙ ap (given_with mail) h.given;
}

steady_then : (k : ℕ) (mail : Option Mail) (a b c : Lane) → Steady k mail a b → Steady 0 None b c → Steady k mail a c
steady_then k mail a b c h g = record {
  number = g.number ∙ h.number;
  tick = g.tick ∙ h.tick;
  view = g.view ∙ h.view;
  next = omega (arith, g.next, h.next);
  few = omega (arith, g.few, h.few);
  seen = λ i l. g.seen i (omega (arith, l, h.view)) ∙ h.seen i l;
  holds = g.holds ∙ h.holds;
  given = g.given ∙ h.given;
}

steady_plain : (tick : ℕ) (move : PlainMove) (lane : Lane) → Steady 0 None lane (plainly tick move lane)
steady_plain tick (moves.Destroy place) lane = still 0 lane _ refl refl refl refl (kept_held (with_rows (destroyed place.id)) lane.contexts place.context)
steady_plain tick (moves.SetReady us place) lane = still 0 lane _ refl refl refl refl (kept_held (with_rows (ready_set place.id us)) lane.contexts place.context)
steady_plain tick _ lane = still 0 lane _ refl refl refl refl refl

steady_moves : (tick : ℕ) → PlainLaw true tick (Steady 0 None)
steady_moves tick = record { none = λ lane. still 0 lane lane refl refl refl refl refl; next = steady_trans 0 None; each = λ move lane m. steady_plain tick move lane }

-- as many cancellables
cancelled_size : (view : Seen) (c : ℕ) → length (cancelled c view).members ≡ length view.members
cancelled_size view c = size_by (has c view)
  where
    size_by : (b : Bool) → length (cond b view (record view { members = slice_set view.members c true })).members ≡ length view.members
    size_by true = refl
    size_by false = simp length-set

-- what is told is seen
member_same : (ms : List Bool) (i : ℕ) → i < length ms → slice_index_or (slice_set ms i true) i false ≡ true
member_same [] i h = absurd (omega (arith, h))
member_same (m ∷ ms) zero h = refl
member_same (m ∷ ms) (suc i) h = member_same ms i (omega (arith, h))

member_other : (ms : List Bool) (c i : ℕ) → i ≢ c → slice_index_or (slice_set ms c true) i false ≡ slice_index_or ms i false
member_other [] c i h = refl
member_other (m ∷ ms) zero zero h = absurd (h refl)
member_other (m ∷ ms) zero (suc i) h = refl
member_other (m ∷ ms) (suc c) zero h = refl
member_other (m ∷ ms) (suc c) (suc i) h = member_other ms c i (λ e. h (ap suc e))

abbrev Told : ℕ → ℕ → Type 0
Told c i = ((c == i) ≡ true × c ≡ i) ⊎ ((c == i) ≡ false × c ≢ i)

member_by : (ms : List Bool) (c i : ℕ) → i < length ms → Told c i → slice_index_or (slice_set ms c true) i false ≡ ((c == i) || slice_index_or ms i false)
member_by ms c i h (inl p) =
    subst (λ (k : ℕ). slice_index_or (slice_set ms k true) i false ≡ true) (sym p.1) (member_same ms i h)
    ∙ sym (ap (λ b. b || slice_index_or ms i false) p.0)
member_by ms c i h (inr p) = member_other ms c i (λ e. p.1 (sym e)) ∙ sym (ap (λ b. b || slice_index_or ms i false) p.0)

abbrev seen_of : ℕ → Seen → Seen
seen_of c view = record view { members = slice_set view.members c true }

has_cancelled : (view : Seen) (c i : ℕ) (b : Bool) → b ≡ false → i < length view.members → has i (cond b view (seen_of c view)) ≡ ((c == i) || has i view)
has_cancelled view c i true e h = let no : true ≡ false = e in cc
has_cancelled view c i false e h = member_by view.members c i h (eqb_tells c i)

-- what was cancelled before
has_told : (view : Seen) (c i : ℕ) → has c view ≡ true → Told c i → has i view ≡ ((c == i) || has i view)
has_told view c i e (inl p) = subst (λ (k : ℕ). has k view ≡ true) p.1 e ∙ sym (ap (λ b. b || has i view) p.0)
has_told view c i e (inr p) = sym (ap (λ b. b || has i view) p.0)

-- a cancellation that is noted, and one that a letter tells
noticed_steady : (k tick c : ℕ) (lane : Lane) → has c lane.view ≡ false → Steady k (Some (mails.Cancelled c)) lane (noticed tick c lane)
noticed_steady k tick c lane e = record {
  number = refl;
  tick = refl;
  view = cancelled_size lane.view c;
  next = omega arith;
  few = omega arith;
  seen = λ i h. has_cancelled lane.view c i (has c lane.view) e h;
  holds = refl;
  given = refl;
}

pub steady_told_cancel : (script : Plan) (tick c : ℕ) (lane : Lane) → Steady 0 (Some (mails.Cancelled c)) lane (cancel script tick c lane)
steady_told_cancel script tick c lane =
    cancel_by (steady_moves tick) script (Steady 0 (Some (mails.Cancelled c)) lane) c lane
    (λ e. record { number = refl; tick = refl; view = refl; next = omega arith; few = omega arith; seen = λ i h. has_told lane.view c i e (eqb_tells c i); holds = refl; given = refl })
    (λ after e h. steady_then 0 (Some (mails.Cancelled c)) lane (noticed tick c lane) after (noticed_steady 0 tick c lane e) h)

-- a plain move starts none
weaker : (lane after : Lane) → Steady 0 None lane after → Steady 1 None lane after
weaker lane after h = record { number = h.number; tick = h.tick; view = h.view; next = omega (arith, h.next); few = omega (arith, h.few); seen = h.seen; holds = h.holds; given = h.given }

steady_each : (script : Plan) (tick : ℕ) (move : Move) (lane : Lane) → MayMove script move lane → Steady 1 (mail_by move) lane (moved script tick move lane)
steady_each script tick (moves.Alter context it) lane m = still 1 lane _ refl refl refl refl (kept_held (changed_by it) lane.contexts context)
steady_each script tick (moves.Note c) lane m = noticed_steady 1 tick c lane m
steady_each script tick (moves.View view) lane m = record {
  number = refl;
  tick = refl;
  view = ap (λ (ms : List Bool). length ms) m.0;
  next = omega arith;
  few = omega arith;
  seen = λ c h. ap (λ (ms : List Bool). slice_index_or ms c false) m.0;
  holds = refl;
  given = refl;
}
steady_each script tick (moves.Start spec) lane m = record {
  number = refl;
  tick = refl;
  view = refl;
  next = omega arith;
  few = omega (arith, length-append lane.tasks.started (record { number = lane.tasks.next; spec = spec; ctx = default_context lane; first = tick + 1 } ∷ []));
  seen = λ c h. refl;
  holds = refl;
  given = refl;
}
steady_each script tick (moves.Post context proc) lane m = record { number = refl; tick = refl; view = refl; next = omega arith; few = omega arith; seen = λ c h. refl; holds = refl; given = refl }
steady_each script tick (moves.Give context to) lane m = record { number = refl; tick = refl; view = refl; next = omega arith; few = omega arith; seen = λ c h. refl; holds = refl; given = refl }
steady_each script tick _ lane m = still 1 lane _ refl refl refl refl refl

-- an action starts one task at most
pub steady_acted : (script : Plan) (tick : ℕ) (action : Action) (lane : Lane) → Steady 1 (sends script action lane) lane (acted script tick action lane)
steady_acted script tick action lane = acted_by law action lane
  where
    law : Law script tick (Steady 0 None) (Steady 1)
    law = record { plain = steady_moves tick; of = weaker; next = steady_then 1; each = steady_each script tick }

pub steady_dispatching : (tick context : ℕ) (row : Row) (lane : Lane) → Steady 1 None lane (dispatching tick context row lane)
steady_dispatching tick context row lane = steady_either 1 None lane _ _ _ (still 1 lane _ refl refl refl refl (kept_held (with_rows (counted row.id)) lane.contexts context)) (still 1 lane _ refl refl refl refl refl)

pub steady_returned : (script : Plan) (tick : ℕ) (body : Body) (origin : Origin) (lane : Lane) → Steady 0 None lane (returned script tick body origin lane)
steady_returned script tick body Start lane = still 0 lane _ refl refl refl refl refl
steady_returned script tick body (Invoked acquired) lane = still 0 lane _ refl refl refl refl refl
steady_returned script tick body (Source caller) lane = steady_either 0 None lane _ _ _ (still 0 lane _ refl refl refl refl (kept_held (with_rows (restarted (time_of script tick) caller.id)) lane.contexts caller.context)) (still 0 lane _ refl refl refl refl (kept_held (with_rows (destroyed caller.id)) lane.contexts caller.context))

pub steady_answered : (tick context : ℕ) (asker : Asker) (lane : Lane) → Steady 0 None lane (answered tick context asker lane)
steady_answered tick context askers.Loop lane = still 0 lane _ refl refl refl refl refl
steady_answered tick context (askers.Iterate any) lane = still 0 lane _ refl refl refl refl refl
