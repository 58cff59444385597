-- The source that a slot names after an attach, or a child, is the next one of the lane before it.
use Rattle.std.proofs.Common.{◌≡◌, ℕ, zero, suc, ◌+◌, ◌<◌, Bool, true, false, cond, Option, Some, None, List, [], ◌∷◌, ◌++◌, length, refl, ap, ◌∙◌, arith}
use Rattle.std.specs.Prelude.{nat_lt, option_map, slice_get, slice_set}
use Rattle.std.proofs.lemmas.Bool.Decides.{nat_tests}
use Rattle.loop_script.specs.declared.action.Action.{Action}
use Rattle.loop_script.specs.declared.action.Action.TheVariants as actions
use Rattle.loop_script.specs.declared.plan.Plan.{Plan}
use Rattle.loop_script.specs.declared.source.SourceSpec.{SourceSpec}
use Rattle.loop_script.specs.Parts.{time_of}
use Rattle.source_rows.specs.Rows.{attached}
use Rattle.lane_turn.specs.declared.line.Event.{Event}
use Rattle.lane_turn.specs.declared.line.Event.TheVariants as events
use Rattle.lane_turn.specs.declared.line.Line.{Line}
use Rattle.lane_turn.specs.declared.line.Word.{Word}
use Rattle.lane_turn.specs.declared.line.Word.TheVariants as words
use Rattle.lane_turn.specs.declared.slot.Named.{Named}
use Rattle.lane_turn.specs.declared.slot.Named.TheVariants.{Source}
use Rattle.lane_turn.specs.declared.slot.Place.{Place}
use Rattle.lane_turn.specs.Lane.{Lane, edited, held, is_own, next_place, place_at, set_slot, source_of}
use Rattle.lane_turn.specs.Acted.{acted, born, can_bear, child_of, missed}
use Rattle.account.specs.declared.moment.Deed.{Deed}
use Rattle.account.specs.declared.moment.Moment.{Moment}
use Rattle.account.specs.Gained.{attached_by, by_action, by_deed, child_below, first_line, IsActed, TellsAttach, TellsChild}

here : {X : Type 0} (xs : List X) (i : ℕ) (x : X) → i < length xs → slice_get (slice_set xs i x) i ≡ Some x
here [] i x h = absurd (omega arith)
here (y ∷ xs) zero x h = refl
here (y ∷ xs) (suc i) x h = here xs i x (omega arith)

last-of : {X : Type 0} (xs : List X) (x : X) → slice_get (xs ++ x ∷ []) (length xs) ≡ Some x
last-of [] x = refl
last-of (y ∷ xs) x = last-of xs x

longer : {X : Type 0} (xs : List X) (x : X) → length (xs ++ x ∷ []) ≡ length xs + 1
longer [] x = refl
longer (y ∷ xs) x = let more = longer xs x in omega (arith, more)

not-less : (n : ℕ) → nat_lt n n ≡ false
not-less n = grind (arith, nat_tests)

less : (n : ℕ) → nat_lt n (n + 1) ≡ true
less n = grind (arith, nat_tests)

-- ---- what was written: nothing, or one line

no-line : (m : Moment) (lane : Lane) (n : ℕ) → m.from ≡ n → m.to ≡ n → first_line m lane ≡ None
no-line m lane n f t = ap (λ (b : Bool). cond b (option_map (λ (line : Line). line.event) (slice_get lane.trace m.from)) None) ((λ i. nat_lt (f i) (t i)) ∙ not-less n)

miss-line : (m : Moment) (tick : ℕ) (word : Word) (lane : Lane) → m.from ≡ length lane.trace → m.to ≡ length (missed tick word lane).trace → first_line m (missed tick word lane) ≡ Some (events.Miss word)
miss-line m tick word lane f t =
    let line : Line = record { tick = tick; event = events.Miss word } in
    let written : nat_lt m.from m.to ≡ true = (λ i. nat_lt (f i) ((t ∙ longer lane.trace line) i)) ∙ less (length lane.trace) in
    ap (λ (b : Bool). cond b (option_map (λ (l : Line). l.event) (slice_get (lane.trace ++ line ∷ []) m.from)) None) written
    ∙ ap (option_map (λ (l : Line). l.event)) (ap (slice_get (lane.trace ++ line ∷ [])) f ∙ last-of lane.trace line)

-- a lane whose slot names a source, or in which that was a miss
abbrev named-or-missed : Bool → ℕ → Place → ℕ → Word → Lane → Lane → Lane
named-or-missed b slot p tick word kept lane = cond b (set_slot slot (Source p) kept) (missed tick word lane)

gained : (f : Option Event → Lane → Option Place) (slot : ℕ) (p : Place) (tick : ℕ) (word : Word) (m : Moment) (kept lane : Lane)
    → ((l : Lane) → f None l ≡ place_at slot l) → ((l : Lane) → f (Some (events.Miss word)) l ≡ None)
    → kept.trace ≡ lane.trace → slot < length kept.slots → m.from ≡ length lane.trace
    → (b : Bool) → m.to ≡ length (named-or-missed b slot p tick word kept lane).trace
    → f (first_line m (named-or-missed b slot p tick word kept lane)) (named-or-missed b slot p tick word kept lane) ≡ cond b (Some p) None
gained f slot p tick word m kept lane none miss same within from true to =
    let now : Lane = set_slot slot (Source p) kept in
    ap (λ (e : Option Event). f e now) (no-line m now (length lane.trace) from (to ∙ ap (λ (ls : List Line). length ls) same))
    ∙ (none now ∙ ap (λ (o : Option (Option Named)). source_of (held o)) (here kept.slots slot (Some (Source p)) within))
gained f slot p tick word m kept lane none miss same within from false to =
    ap (λ (e : Option Event). f e (missed tick word lane)) (miss-line m tick word lane from to) ∙ miss (missed tick word lane)

by-its-action : (script : Plan) (tick : ℕ) (action : Action) (lane now : Lane) (m : Moment) → IsActed script tick action lane m → attached_by script m now ≡ by_action (first_line m now) (Some action) now
by-its-action script tick action lane now m a =
    ap (λ (d : Deed). by_deed script (first_line m now) d now) a.deed ∙ ap (λ (o : Option Action). by_action (first_line m now) o now) a.action_is

pub tells_attach : TellsAttach
tells_attach script tick context slot spec lane m within a =
    let action : Action = actions.Attach context slot spec in
    let kept : Lane = edited context (attached spec (time_of script tick)) lane in
    by-its-action script tick action lane (acted script tick action lane) m a
    ∙ gained (λ e l. by_action e (Some action) l) slot (next_place context lane) tick words.Attach m kept lane (λ l. refl) (λ l. refl) refl within a.from (is_own context lane) a.to

child-told : (script : Plan) (tick now parent slot : ℕ) (spec : SourceSpec) (lane : Lane) (m : Moment) (o : Option Place) → slot < length lane.slots → m.from ≡ length lane.trace → m.to ≡ length (child_of tick now slot spec o lane).trace
    → by_action (first_line m (child_of tick now slot spec o lane)) (Some (actions.Child parent slot spec)) (child_of tick now slot spec o lane) ≡ child_below o lane
child-told script tick now parent slot spec lane m None within from to =
    ap (λ (e : Option Event). by_action e (Some (actions.Child parent slot spec)) (missed tick words.Child lane)) (miss-line m tick words.Child lane from to)
child-told script tick now parent slot spec lane m (Some p) within from to =
    gained (λ e l. by_action e (Some (actions.Child parent slot spec)) l) slot (next_place p.context lane) tick words.Child m (edited p.context (born spec now p.id) lane) lane (λ l. refl) (λ l. refl) refl within from (can_bear p lane) to

pub tells_child : TellsChild
tells_child script tick parent slot spec lane m within a =
    let action : Action = actions.Child parent slot spec in
    by-its-action script tick action lane (acted script tick action lane) m a
    ∙ child-told script tick (time_of script tick) parent slot spec lane m (place_at parent lane) within a.from a.to
