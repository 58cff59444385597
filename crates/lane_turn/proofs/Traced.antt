-- How traces grow over turns, contexts that go over, deliveries and runs.
use Rattle.std.proofs.Common.{◌≡◌, ℕ, suc, ◌<◌, ◌≤◌, ◌==◌, ◌++◌, Bool, true, false, cond, Some, List, [], ◌∷◌, refl, ap, sym, ◌∙◌, arith, subst}
use Rattle.std.specs.List.{AllByRecursion}
use Rattle.loop_script.specs.declared.plan.Plan.{Plan}
use Rattle.loop_script.specs.Parts.{time_of}
use Rattle.source_rows.specs.Rows.{attached}
use Rattle.post_office.specs.declared.letter.Letter.{Letter}
use Rattle.post_office.specs.declared.letter.Body.{Body as Mail}
use Rattle.post_office.specs.declared.letter.Body.TheVariants as mails
use Rattle.lane_turn.specs.declared.line.Line.{Line}
use Rattle.lane_turn.specs.declared.line.Event.{Event}
use Rattle.lane_turn.specs.declared.line.Event.TheVariants as events
use Rattle.lane_turn.specs.Lane.{Lane, Turn, context_at, next_id, edited, written, is_own}
use Rattle.lane_turn.specs.Step.{step}
use Rattle.lane_turn.specs.Turn.{begun, turned}
use Rattle.lane_turn.specs.Handover.{Handing, without_context, taken_over, let_go, handed, all_handed}
use Rattle.lane_turn.specs.Deliver.{reply_spec, holding, received_body, received, received_all}
use Rattle.lane_turn.specs.Tick.{lanes_at, lane_within}
use Rattle.lane_turn.specs.Traces.{Grows, IsOf, NoTickFalls, IsBefore}
use Rattle.lane_turn.specs.Depths.{TellsDepth, IsShallow, HaltsOver}
use Rattle.lane_turn.specs.Rest.{IsBrought, IsHold}
use Rattle.lane_turn.proofs.Counts.{edits_attached}
use Rattle.lane_turn.proofs.Adds.{grows_none, grows_line, grows_trans, grows_as, each_joined, each_as, same, BroughtAt, Brings, b_line, b_edit, b_trans, b_either, b_none, b_cancel}
use Rattle.lane_turn.proofs.Added.{Told, does}
use Rattle.lane_turn.proofs.Turns.{kept_finish, kept_finished}
use Rattle.lane_turn.proofs.EachLane.{each_lane}

-- ---- steps and turns

pub of_tick : (script : Plan) (tick : ℕ) (t u : Turn) → step script tick t ≡ Some u → Grows (IsOf tick) t.lane.trace u.lane.trace
of_tick script tick t u e = grows_as (Told tick t.lane u.lane) (IsOf tick) (λ l p. p.0) t.lane.trace u.lane.trace (does script tick t u e).lines

pub turn_grows : (script : Plan) (tick : ℕ) (lane : Lane) → Grows (IsOf tick) lane.trace (turned script tick lane).trace
turn_grows script tick lane =
    kept_finished script tick (λ t. Grows (IsOf tick) lane.trace t.lane.trace) (λ t u e h. grows_trans (IsOf tick) lane.trace t.lane.trace u.lane.trace h (of_tick script tick t u e)) (begun tick lane) (grows_none (IsOf tick) lane.trace)

-- ---- what goes over

-- a line of the tick that tells that a context was taken over
abbrev pub HoldAt : ℕ → Line → Type 0
HoldAt tick line = IsOf tick line × IsHold line.event

-- contexts went from a lane or came to it, and nothing else of it is changed
pub record Goes (tick : ℕ) (before now : Lane) : Type 0 where
  pub lines : Grows (HoldAt tick) before.trace now.trace
  pub rest : now ≡ record before { contexts = now.contexts; given = now.given; replies = now.replies; trace = now.trace }

goes_none : (tick : ℕ) (lane : Lane) → Goes tick lane lane
goes_none tick lane = record { lines = grows_none (HoldAt tick) lane.trace; rest = refl }

goes_trans : (tick : ℕ) (a b c : Lane) → Goes tick a b → Goes tick b c → Goes tick a c
goes_trans tick a b c h g = record {
  lines = grows_trans (HoldAt tick) a.trace b.trace c.trace h.lines g.lines;
  rest = g.rest ∙ ap (λ (l : Lane). record l { contexts = c.contexts; given = c.given; replies = c.replies; trace = c.trace }) h.rest;
}

lets_go : (tick context : ℕ) (lane : Lane) (b : Bool) → Goes tick lane (cond b (without_context context lane) lane)
lets_go tick context lane true = record { lines = grows_none (HoldAt tick) lane.trace; rest = refl }
lets_go tick context lane false = goes_none tick lane

takes_over : (tick : ℕ) (h : Handing) (lane : Lane) (b : Bool) → Goes tick lane (cond b (taken_over tick h.kept lane) lane)
takes_over tick h lane true = record { lines = grows_line (HoldAt tick) lane.trace (record { tick = tick; event = events.Hold h.kept.number }) (refl, tt); rest = refl }
takes_over tick h lane false = goes_none tick lane

pub goes_all : (tick : ℕ) (hs : List Handing) (lane : Lane) → Goes tick lane (all_handed tick hs lane)
goes_all tick [] lane = goes_none tick lane
goes_all tick (h ∷ hs) lane =
    let here : Goes tick lane (handed tick h lane) = goes_trans tick lane (let_go h lane) (handed tick h lane) (lets_go tick h.kept.number lane (lane.number == h.sender)) (takes_over tick h (let_go h lane) ((let_go h lane).number == h.to)) in
    goes_trans tick lane (handed tick h lane) (all_handed tick hs (handed tick h lane)) here (goes_all tick hs (handed tick h lane))

pub handover_grows : (tick : ℕ) (hs : List Handing) (lane : Lane) → Grows (IsOf tick) lane.trace (all_handed tick hs lane).trace
handover_grows tick hs lane = grows_as (HoldAt tick) (IsOf tick) (λ l p. p.0) lane.trace (all_handed tick hs lane).trace (goes_all tick hs lane).lines

-- ---- deliveries

brings_body : (script : Plan) (tick sender : ℕ) (body : Mail) (lane : Lane) → Brings tick lane (received_body script tick sender body lane)
brings_body script tick sender (mails.Attach context spec) lane =
    let there : Lane = edited context (attached spec (time_of script tick)) lane in
    let id : ℕ = next_id (context_at context lane) in
    b_either tick lane (written tick (events.Arrive context id) there) lane (is_own context lane)
    (b_trans tick lane there _ (b_edit tick lane context (attached spec (time_of script tick)) (edits_attached spec (time_of script tick))) (b_line tick there (events.Arrive context id) tt))
    (b_none tick lane)
brings_body script tick sender (mails.Complete reply) lane =
    let there : Lane = edited reply.ctx (attached (reply_spec reply) (time_of script tick)) lane in
    let id : ℕ = next_id (context_at reply.ctx lane) in
    let held : Lane = holding reply.ctx id sender reply there in
    b_either tick lane (written tick (events.Arrive reply.ctx id) held) lane (is_own reply.ctx lane)
    (b_trans tick lane held _
    (b_trans tick lane there held (b_edit tick lane reply.ctx (attached (reply_spec reply) (time_of script tick)) (edits_attached (reply_spec reply) (time_of script tick)))
    (record { adds = same (BroughtAt tick) there held refl refl; status = refl; frames = refl }))
    (b_line tick held (events.Arrive reply.ctx id) tt))
    (b_none tick lane)
brings_body script tick sender (mails.Cancelled c) lane = b_cancel script tick c lane
brings_body script tick sender (mails.Give context to) lane = b_none tick lane

pub brings_all : (script : Plan) (tick : ℕ) (letters : List Letter) (lane : Lane) → Brings tick lane (received_all script tick letters lane)
brings_all script tick [] lane = b_none tick lane
brings_all script tick (letter ∷ letters) lane = b_trans tick lane (received script tick letter lane) _ (brings_body script tick letter.sender letter.body lane) (brings_all script tick letters (received script tick letter lane))

pub delivery_grows : (script : Plan) (tick : ℕ) (letters : List Letter) (lane : Lane) → Grows (IsOf tick) lane.trace (received_all script tick letters lane).trace
delivery_grows script tick letters lane = grows_as (BroughtAt tick) (IsOf tick) (λ l p. p.0) lane.trace (received_all script tick letters lane).trace (brings_all script tick letters lane).adds.lines

-- ---- runs

of_one : (tick : ℕ) (ls : List Line) → AllByRecursion (IsOf tick) ls → NoTickFalls ls
of_one tick [] h = tt
of_one tick (l ∷ ls) h = (each_as (IsOf tick) (λ later. l.tick ≤ later.tick) (λ k e. omega (arith, e, h.0)) ls h.1, of_one tick ls h.1)

rising_on : (tick : ℕ) (ls more : List Line) → AllByRecursion (λ l. l.tick < tick) ls → NoTickFalls ls → AllByRecursion (IsOf tick) more → NoTickFalls (ls ++ more)
rising_on tick [] more h r m = of_one tick more m
rising_on tick (l ∷ ls) more h r m =
    (each_joined (λ later. l.tick ≤ later.tick) ls more r.0 (each_as (IsOf tick) (λ later. l.tick ≤ later.tick) (λ k e. omega (arith, e, h.0)) more m), rising_on tick ls more h.1 r.1 m)

before_next : (tick : ℕ) (xs ys : List Line) → Grows (IsOf tick) xs ys → IsBefore tick xs → IsBefore (suc tick) ys
before_next tick xs ys g h =
    subst (IsBefore (suc tick)) (sym g.lines)
    (record {
      past = each_joined (λ l. l.tick < suc tick) xs g.more (each_as (λ l. l.tick < tick) (λ l. l.tick < suc tick) (λ l p. omega (arith, p)) xs h.past) (each_as (IsOf tick) (λ l. l.tick < suc tick) (λ l p. omega (arith, p)) g.more g.each);
      rising = rising_on tick xs g.more h.past h.rising g.each;
    })

-- what goes over adds one line of the tick
hold_grows : (tick number : ℕ) (lane after : Lane) → after.trace ≡ lane.trace ++ (record { tick = tick; event = events.Hold number }) ∷ [] → Grows (IsOf tick) lane.trace after.trace
hold_grows tick number lane after e = record { more = (record { tick = tick; event = events.Hold number }) ∷ []; lines = e; each = (refl, tt) }

pub run_before : (script : Plan) (tick : ℕ) → AllByRecursion (λ lane. IsBefore tick lane.trace) (lanes_at script tick)
run_before script tick =
    each_lane script (λ k lane. IsBefore k lane.trace) (λ k lane. (more : List Line) × (IsBefore k more × Grows (IsOf k) more lane.trace)) (λ k kept. Unit {0}) (λ n. record { past = tt; rising = tt })
    (λ k lane h. (lane.trace, (h, turn_grows script k lane))) (λ k lane r context kept e. tt)
    (λ k lane r kept u. (r.0, (r.1.0, grows_trans (IsOf k) r.0 lane.trace (taken_over k kept lane).trace r.1.1 (hold_grows k kept.number lane (taken_over k kept lane) refl))))
    (λ k lane r context. r)
    (λ k letters lane r. before_next k r.0 (received_all script k letters lane).trace (grows_trans (IsOf k) r.0 lane.trace (received_all script k letters lane).trace r.1.1 (delivery_grows script k letters lane)) r.1.0) tick

-- ---- depths

pub tells_depths : (script : Plan) (tick : ℕ) (t u : Turn) → step script tick t ≡ Some u → Grows (λ line. TellsDepth u.lane.frames line.event × IsShallow line.event) t.lane.trace u.lane.trace
tells_depths script tick t u e = grows_as (Told tick t.lane u.lane) (λ l. TellsDepth u.lane.frames l.event × IsShallow l.event) (λ l p. (p.1, p.2)) t.lane.trace u.lane.trace (does script tick t u e).lines

pub halts_over : (script : Plan) (tick : ℕ) (t u : Turn) → step script tick t ≡ Some u → Grows (λ line. HaltsOver t.lane.frames line.event) t.lane.trace u.lane.trace
halts_over script tick t u e = grows_as (Told tick t.lane u.lane) (λ l. HaltsOver t.lane.frames l.event) (λ l p. p.4) t.lane.trace u.lane.trace (does script tick t u e).lines

abbrev AllShallow : Lane → Type 0
AllShallow lane = AllByRecursion (λ line. IsShallow line.event) lane.trace

grown_shallow : (xs ys : List Line) → Grows (λ line. IsShallow line.event) xs ys → AllByRecursion (λ line. IsShallow line.event) xs → AllByRecursion (λ line. IsShallow line.event) ys
grown_shallow xs ys g h = subst (λ (ls : List Line). AllByRecursion (λ line. IsShallow line.event) ls) (sym g.lines) (each_joined (λ line. IsShallow line.event) xs g.more h g.each)

step_shallow : (script : Plan) (tick : ℕ) (t u : Turn) → step script tick t ≡ Some u → AllShallow t.lane → AllShallow u.lane
step_shallow script tick t u e h = grown_shallow t.lane.trace u.lane.trace (grows_as (Told tick t.lane u.lane) (λ l. IsShallow l.event) (λ l p. p.2) t.lane.trace u.lane.trace (does script tick t u e).lines) h

brought_shallow : (event : Event) → IsBrought event → IsShallow event
brought_shallow (events.Dispatch context id priority depth) h = absurd h
brought_shallow _ h = tt

turn_shallow : (script : Plan) (tick : ℕ) (lane : Lane) → AllShallow lane → AllShallow (turned script tick lane)
turn_shallow script tick lane h = kept_finished script tick (λ t. AllShallow t.lane) (step_shallow script tick) (begun tick lane) h

sent_shallow : (script : Plan) (tick : ℕ) (letters : List Letter) (lane : Lane) → AllShallow lane → AllShallow (received_all script tick letters lane)
sent_shallow script tick letters lane h =
    let after : Lane = received_all script tick letters lane in
    grown_shallow lane.trace after.trace (grows_as (BroughtAt tick) (λ l. IsShallow l.event) (λ l p. brought_shallow l.event p.1) lane.trace after.trace (brings_all script tick letters lane).adds.lines) h

pub run_shallow : (script : Plan) (tick steps : ℕ) → AllByRecursion (λ lane. AllByRecursion (λ line. IsShallow line.event) (lane_within script tick steps lane).trace) (lanes_at script tick)
run_shallow script tick steps =
    each_as AllShallow (λ lane. AllShallow (lane_within script tick steps lane)) (λ lane h. kept_finish script tick steps (λ t. AllShallow t.lane) (step_shallow script tick) (begun tick lane) h) (lanes_at script tick)
    (each_lane script (λ k lane. AllShallow lane) (λ k lane. AllShallow lane) (λ k kept. Unit {0}) (λ n. tt) (turn_shallow script) (λ k lane r context kept e. tt)
    (λ k lane r kept u. each_joined (λ line. IsShallow line.event) lane.trace ((record { tick = k; event = events.Hold kept.number }) ∷ []) r (tt, tt)) (λ k lane r context. r) (sent_shallow script) tick)
