-- Lanes that rest through the end of a tick whose letters tell no cancellation.
use Rattle.std.proofs.Common.{◌≡◌, ℕ, ◌+◌, ◌≤◌, ◌==◌, ◌||◌, Bool, true, false, cond, Option, Some, None, List, [], ◌∷◌, ◌++◌, map, length, refl, sym, ap, ◌∙◌, subst, arith, add-one, true≢false, length-append}
use Rattle.std.specs.Prelude.{slice_get}
use Rattle.std.specs.List.{AllByRecursion, cons_option}
use Rattle.std.specs.Option.{option_and_then}
use Rattle.std.proofs.lemmas.List.{map-append}
use Rattle.loop_script.specs.declared.plan.Plan.{Plan}
use Rattle.post_office.specs.declared.letter.Letter.{Letter}
use Rattle.post_office.specs.declared.letter.Body.{Body}
use Rattle.post_office.specs.declared.letter.Body.TheVariants.{Attach, Complete, Cancelled, Give}
use Rattle.lane_turn.specs.Lane.{Lane, State, Kept, is_own}
use Rattle.lane_turn.specs.Handover.{Handing, handed_of, handing, handing_by, handing_of, handings, lane_of_number, let_go, got, handed, all_handed, moved, taken_over, without_context}
use Rattle.lane_turn.specs.Deliver.{received, received_all, received_body, delivered}
use Rattle.lane_turn.specs.Turn.{turned}
use Rattle.lane_turn.specs.Tick.{posted_at, lanes_at}
use Rattle.lane_turn.proofs.Traced.{delivery_grows}
use Rattle.tick_stepper.specs.declared.known.Known.{Known}
use Rattle.tick_stepper.specs.declared.known.Rested.{Rested}
use Rattle.tick_stepper.specs.declared.rest.Resting.{Resting}
use Rattle.tick_stepper.specs.Known.{tells_otherwise, cancel_nothing, has_sent, turned_known, rested_known, WasKnown, IsKnown, AreKnown}
use Rattle.tick_stepper.specs.Rest.{woken, all_woken, Rests}
use Rattle.tick_stepper.specs.Share.{unspent, unspent_all, stepped_one}
use Rattle.tick_stepper.proofs.Crews.{both_true}
use Rattle.tick_stepper.proofs.Deals.{all_append}
use Rattle.tick_stepper.proofs.Ready.{kept_is}
use Rattle.tick_stepper.proofs.Rounds.{unspent_step}

-- ---- what goes over from other lanes

none_of : (a b : Bool) → (a || b) ≡ false → (a ≡ false) × (b ≡ false)
none_of true b e = absurd (true≢false e)
none_of false b e = (refl, e)

abbrev FromOther : ℕ → Option Handing → Type 0
FromOther number None = Unit {0}
FromOther number (Some h) = (number == h.sender) ≡ false

abbrev AllFromOthers : ℕ → List Handing → Type 0
AllFromOthers number hs = AllByRecursion (λ (h : Handing). (number == h.sender) ≡ false) hs

by_kept : (number sender to : ℕ) (kept : Option Kept) → (number == sender) ≡ false → FromOther number (handing sender to kept)
by_kept number sender to None e = tt
by_kept number sender to (Some kept) e = e

by_letter : (number sender : ℕ) (body : Body) (lanes : List Lane) → (number == sender) ≡ false → FromOther number (handing_by sender body lanes)
by_letter number sender (Attach context spec) lanes e = tt
by_letter number sender (Complete reply) lanes e = tt
by_letter number sender (Cancelled c) lanes e = tt
by_letter number sender (Give context to) lanes e = by_kept number sender to (option_and_then (handed_of context) (lane_of_number sender lanes)) e

with_first : (number : ℕ) (o : Option Handing) (hs : List Handing) → FromOther number o → AllFromOthers number hs → AllFromOthers number (cons_option o hs)
with_first number None hs f h = h
with_first number (Some x) hs f h = (f, h)

from_others : (number tick : ℕ) (letters : List Letter) (lanes : List Lane) → has_sent letters number ≡ false → AllFromOthers number (handings tick letters lanes)
from_others number tick [] lanes e = tt
from_others number tick (letter ∷ letters) lanes e =
    let two = none_of (number == letter.sender) (has_sent letters number) e in
    let o = handing_of letter lanes in
    with_first number o (handings tick letters (moved tick o lanes)) (by_letter number letter.sender letter.body lanes two.0) (from_others number tick letters (moved tick o lanes) two.1)

-- ---- a lane that sent nothing, and to which nothing is written, is as it was

silent_if : (b : Bool) (after lane : Lane) → length after.trace ≡ length lane.trace + 1 → length (cond b after lane).trace ≤ length lane.trace → cond b after lane ≡ lane
silent_if true after lane more h = absurd (omega (arith, more, h))
silent_if false after lane more h = refl

grows_if : (b : Bool) (after lane : Lane) → length after.trace ≡ length lane.trace + 1 → length lane.trace ≤ length (cond b after lane).trace
grows_if true after lane more = omega (arith, more)
grows_if false after lane more = omega arith

number_if : (b : Bool) (after lane : Lane) → after.number ≡ lane.number → (cond b after lane).number ≡ lane.number
number_if true after lane e = e
number_if false after lane e = refl

handed_number : (tick : ℕ) (h : Handing) (lane : Lane) → (handed tick h lane).number ≡ lane.number
handed_number tick h lane =
    number_if ((let_go h lane).number == h.to) (taken_over tick h.kept (let_go h lane)) (let_go h lane) refl ∙ number_if (lane.number == h.sender) (without_context h.kept.number lane) lane refl

-- where another lane lets it go
only_got : (tick : ℕ) (h : Handing) (lane : Lane) → (lane.number == h.sender) ≡ false → handed tick h lane ≡ got tick h lane
only_got tick h lane e = ap (λ (b : Bool). got tick h (cond b (without_context h.kept.number lane) lane)) e

line_more : (tick : ℕ) (h : Handing) (lane : Lane) → length (taken_over tick h.kept lane).trace ≡ length lane.trace + 1
line_more tick h lane = length-append lane.trace (_ ∷ [])

grows_handed : (tick : ℕ) (h : Handing) (lane : Lane) → (lane.number == h.sender) ≡ false → length lane.trace ≤ length (handed tick h lane).trace
grows_handed tick h lane e =
    subst (λ (l : Lane). length lane.trace ≤ length l.trace) (sym (only_got tick h lane e)) (grows_if (lane.number == h.to) (taken_over tick h.kept lane) lane (line_more tick h lane))

others_still : (tick : ℕ) (h : Handing) (hs : List Handing) (lane : Lane) → AllFromOthers lane.number hs → AllFromOthers (handed tick h lane).number hs
others_still tick h hs lane all = subst (λ (n : ℕ). AllFromOthers n hs) (sym (handed_number tick h lane)) all

grows_over : (tick : ℕ) (hs : List Handing) (lane : Lane) → AllFromOthers lane.number hs → length lane.trace ≤ length (all_handed tick hs lane).trace
grows_over tick [] lane all = omega arith
grows_over tick (h ∷ hs) lane all =
    let first = grows_handed tick h lane all.0 in
    let rest = grows_over tick hs (handed tick h lane) (others_still tick h hs lane all.1) in
    omega (arith, first, rest)

silent_over : (tick : ℕ) (hs : List Handing) (lane : Lane) → AllFromOthers lane.number hs → length (all_handed tick hs lane).trace ≤ length lane.trace → all_handed tick hs lane ≡ lane
silent_over tick [] lane all le = refl
silent_over tick (h ∷ hs) lane all le =
    let next : Lane = handed tick h lane in
    let still = others_still tick h hs lane all.1 in
    let first : length lane.trace ≤ length next.trace = grows_handed tick h lane all.0 in
    let rest : length next.trace ≤ length (all_handed tick hs next).trace = grows_over tick hs next still in
    let short : length next.trace ≤ length lane.trace = omega (arith, rest, le) in
    let same : next ≡ lane = only_got tick h lane all.0
    ∙ silent_if (lane.number == h.to) (taken_over tick h.kept lane) lane (line_more tick h lane) (subst (λ (l : Lane). length l.trace ≤ length lane.trace) (only_got tick h lane all.0) short) in
    silent_over tick hs next still (omega (arith, first, le)) ∙ same

silent_body : (script : Plan) (tick sender : ℕ) (body : Body) (lane : Lane) → tells_otherwise body ≡ true → length (received_body script tick sender body lane).trace ≤ length lane.trace → received_body script tick sender body lane ≡ lane
silent_body script tick sender (Attach context spec) lane e h = silent_if (is_own context lane) _ lane (length-append lane.trace (_ ∷ [])) h
silent_body script tick sender (Complete reply) lane e h = silent_if (is_own reply.ctx lane) _ lane (length-append lane.trace (_ ∷ [])) h
silent_body script tick sender (Cancelled c) lane e h = absurd (true≢false (sym e))
silent_body script tick sender (Give context to) lane e h = refl

grows : (script : Plan) (tick : ℕ) (letters : List Letter) (lane : Lane) → length lane.trace ≤ length (received_all script tick letters lane).trace
grows script tick letters lane =
    let g = delivery_grows script tick letters lane in
    let long : length (received_all script tick letters lane).trace ≡ length lane.trace + length g.more = ap length g.lines ∙ length-append lane.trace g.more in
    omega (arith, long)

silent : (script : Plan) (tick : ℕ) (letters : List Letter) (lane : Lane) → cancel_nothing letters ≡ true → length (received_all script tick letters lane).trace ≤ length lane.trace → received_all script tick letters lane ≡ lane
silent script tick [] lane all h = refl
silent script tick (letter ∷ letters) lane all h =
    let two = both_true (tells_otherwise letter.body) (cancel_nothing letters) all in
    let next : Lane = received script tick letter lane in
    let first : length lane.trace ≤ length next.trace = grows script tick (letter ∷ []) lane in
    let rest : length next.trace ≤ length (received_all script tick letters next).trace = grows script tick letters next in
    silent script tick letters next two.1 (omega (arith, first, h)) ∙ silent_body script tick letter.sender letter.body lane two.0 (omega (arith, rest, h))

-- what a lane is after the handings and the delivery
abbrev ended : Plan → ℕ → List Letter → List Lane → Lane → Lane
ended script tick letters lanes lane = received_all script tick letters (all_handed tick (handings tick letters lanes) lane)

silent_ended : (script : Plan) (tick : ℕ) (letters : List Letter) (lanes : List Lane) (lane : Lane) → cancel_nothing letters ≡ true → has_sent letters lane.number ≡ false
    → length (ended script tick letters lanes lane).trace ≤ length lane.trace → ended script tick letters lanes lane ≡ lane
silent_ended script tick letters lanes lane quiet none le =
    let hs = handings tick letters lanes in
    let over : Lane = all_handed tick hs lane in
    let others = from_others lane.number tick letters lanes none in
    let first : length lane.trace ≤ length over.trace = grows_over tick hs lane others in
    let rest : length over.trace ≤ length (received_all script tick letters over).trace = grows script tick letters over in
    silent script tick letters over quiet (omega (arith, first, le)) ∙ silent_over tick hs lane others (omega (arith, rest, le))

-- ---- before the delivery, and behind it

rested_by : (script : Plan) (tick : ℕ) (letters : List Letter) (one : Resting) (b : Bool) → has_sent letters one.lane.lane.number ≡ b → Rests script (tick + 1) one
    → WasKnown script tick letters (woken (tick + 1) one) (cond b None (Some (record { next = one.next; lines = length one.lane.lane.trace })))
rested_by script tick letters one true e r = tt
rested_by script tick letters one false e r = (
  e,
  refl,
  record {
    passed = record {
      unspent = refl;
      past = omega arith;
      tasks = λ k from to. absurd (omega (arith, from, to));
    };
    quiet = λ k from to after. (let q = r.quiet k from to after in record {
      stays = q.stays;
      letters = q.letters;
      tasks = record { replies = q.tasks.replies; late = q.tasks.late; stay = q.tasks.stay };
    });
  },
)

abbrev pub Was : Plan → ℕ → List Letter → Known → Type 0
Was script tick letters one = WasKnown script tick letters one.lane one.rested

turned_were : (script : Plan) (tick : ℕ) (letters : List Letter) (done : List State) → AllByRecursion (Was script tick letters) (map turned_known done)
turned_were script tick letters [] = tt
turned_were script tick letters (lane ∷ done) = (tt, turned_were script tick letters done)

rested_were : (script : Plan) (tick : ℕ) (letters : List Letter) (resting : List Resting) → AllByRecursion (Rests script (tick + 1)) resting → AllByRecursion (Was script tick letters) (map (rested_known (tick + 1) letters) resting)
rested_were script tick letters [] h = tt
rested_were script tick letters (one ∷ resting) h = (rested_by script tick letters one (has_sent letters one.lane.lane.number) refl h.0, rested_were script tick letters resting h.1)

pub all_were : (script : Plan) (tick : ℕ) (letters : List Letter) (done : List State) (resting : List Resting) → AllByRecursion (Rests script (tick + 1)) resting
    → AllByRecursion (Was script tick letters) (map turned_known done ++ map (rested_known (tick + 1) letters) resting)
all_were script tick letters done resting h = all_append (Was script tick letters) _ _ (turned_were script tick letters done) (rested_were script tick letters resting h)

known_after : (script : Plan) (tick : ℕ) (letters : List Letter) (lanes : List Lane) (lane : State) (o : Option Rested) → cancel_nothing letters ≡ true → WasKnown script tick letters lane o
    → IsKnown script tick (stepped_one (ended script tick letters lanes) lane) o
known_after script tick letters lanes lane None quiet was = tt
known_after script tick letters lanes lane (Some rested) quiet was = λ same.
    (let e = silent_ended script tick letters lanes lane.lane quiet was.0 (omega (arith, was.1, same)) in
    subst (λ (s : State). Rests script (tick + 1) (record { lane = s; next = rested.next })) (kept_is lane lane.lane refl was.2.passed.unspent ∙ ap unspent (sym e)) was.2)

all_known : (script : Plan) (tick : ℕ) (letters : List Letter) (lanes : List Lane) (all : List Known) → cancel_nothing letters ≡ true → AllByRecursion (Was script tick letters) all
    → AreKnown script tick (map (stepped_one (ended script tick letters lanes)) (map (λ (one : Known). one.lane) all)) (map (λ (one : Known). one.rested) all)
all_known script tick letters lanes [] quiet h = tt
all_known script tick letters lanes (one ∷ all) quiet h = (known_after script tick letters lanes one.lane one.rested quiet h.0, all_known script tick letters lanes all quiet h.1)

each_ended : (script : Plan) (tick : ℕ) (letters : List Letter) (lanes some : List Lane) → map (received_all script tick letters) (map (all_handed tick (handings tick letters lanes)) some) ≡ map (ended script tick letters lanes) some
each_ended script tick letters lanes [] = refl
each_ended script tick letters lanes (lane ∷ some) = ap (λ (ls : List Lane). ended script tick letters lanes lane ∷ ls) (each_ended script tick letters lanes some)

-- the lanes of the next tick
pub known_next : (script : Plan) (tick : ℕ) (letters : List Letter) (sorted : List Known) → posted_at script tick (lanes_at script tick) ≡ letters → cancel_nothing letters ≡ true
    → map (λ (one : Known). one.lane) sorted ≡ unspent_all (map (turned script tick) (lanes_at script tick)) → AllByRecursion (Was script tick letters) sorted
    → AreKnown script tick (unspent_all (lanes_at script (tick + 1))) (map (λ (one : Known). one.rested) sorted)
known_next script tick letters sorted posted quiet is were =
    let turns : List Lane = map (turned script tick) (lanes_at script tick) in
    let f : Lane → Lane = ended script tick letters turns in
    let next : unspent_all (lanes_at script (tick + 1)) ≡ map (stepped_one f) (map (λ (one : Known). one.lane) sorted) =
    ap (λ (n : ℕ). unspent_all (lanes_at script n)) (add-one tick)
    ∙ (ap (λ (ls : List Letter). unspent_all (delivered script tick ls turns)) posted
    ∙ (ap unspent_all (each_ended script tick letters turns turns)
    ∙ (sym (unspent_step f turns) ∙ ap (map (stepped_one f)) (sym is)))) in
    subst (λ (s : List State). AreKnown script tick s (map (λ (one : Known). one.rested) sorted)) (sym next) (all_known script tick letters turns sorted quiet were)

-- ---- in their order

turned_lanes : (done : List State) → map (λ (one : Known). one.lane) (map turned_known done) ≡ done
turned_lanes [] = refl
turned_lanes (lane ∷ done) = ap (λ (ls : List State). lane ∷ ls) (turned_lanes done)

rested_lanes : (tick : ℕ) (letters : List Letter) (resting : List Resting) → map (λ (one : Known). one.lane) (map (rested_known tick letters) resting) ≡ all_woken tick resting
rested_lanes tick letters [] = refl
rested_lanes tick letters (one ∷ resting) = ap (λ (ls : List State). woken tick one ∷ ls) (rested_lanes tick letters resting)

pub known_lanes : (tick : ℕ) (letters : List Letter) (done : List State) (resting : List Resting)
    → map (λ (one : Known). one.lane) (map turned_known done ++ map (rested_known tick letters) resting) ≡ done ++ all_woken tick resting
known_lanes tick letters done resting =
    map-append (λ (one : Known). one.lane) (map turned_known done) (map (rested_known tick letters) resting) ∙ (λ i. turned_lanes done i ++ rested_lanes tick letters resting i)

empty_some : (i : ℕ) (o : Option Rested) → slice_get {X = Option Rested} [] i ≡ Some o → ⊥
empty_some i o e = cc

-- where nothing is known, each rests as it is found
pub none_known : (script : Plan) (tick : ℕ) (lanes : List State) → AreKnown script tick lanes []
none_known script tick [] = tt
none_known script tick (lane ∷ lanes) = tt

-- the one in a place
pub known_there : (script : Plan) (tick : ℕ) (front : List State) (lane : State) (back : List State) (rested : List (Option Rested)) (o : Option Rested)
    → AreKnown script tick (front ++ lane ∷ back) rested → slice_get rested (length front) ≡ Some o → IsKnown script tick lane o
known_there script tick front lane back [] o h e = absurd (empty_some (length front) o e)
known_there script tick [] lane back (one ∷ rested) o h e = subst (IsKnown script tick lane) (same e) h.0
  where
    same : Some one ≡ Some o → one ≡ o
    same p = cc
known_there script tick (x ∷ front) lane back (one ∷ rested) o h e = known_there script tick front lane back rested o h.1 e
