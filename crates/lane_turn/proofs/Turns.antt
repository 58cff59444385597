-- What a whole turn keeps, and what it raises.
use Rattle.std.proofs.Common.{◌≡◌, ℕ, zero, suc, ◌+◌, ◌*◌, ◌≤◌, true, is_some, unwrap_or, Option, Some, None, length, refl, sym, ◌∙◌, arith, subst}
use Rattle.loop_script.specs.declared.plan.Plan.{Plan}
use Rattle.lane_turn.specs.Lane.{Lane, Turn}
use Rattle.lane_turn.specs.Step.{step}
use Rattle.lane_turn.specs.Turn.{work, stepped, finish, finished, begun, turned, out_of}
use Rattle.lane_turn.specs.Sound.{IsReady, IsTidy}
use Rattle.lane_turn.specs.Letters.{AreNumbered}
use Rattle.lane_turn.proofs.Mild.{within_weaker}
use Rattle.lane_turn.proofs.Steps.{goes}
use Rattle.lane_turn.proofs.Sends.{Numbers, step_tells, numbers_on}
use Rattle.lane_turn.proofs.Finish.{fixed, one_taken, finish_none}

-- what each step keeps
abbrev pub Kept : Plan → ℕ → (Turn → Type 0) → Type 0
Kept script tick P = (t u : Turn) → step script tick t ≡ Some u → P t → P u

kept_on : (script : Plan) (tick k : ℕ) (P : Turn → Type 0) → Kept script tick P → (t : Turn) (o : Option Turn) → step script tick t ≡ o → P t → ((u : Turn) → P u → P (finish script tick k u)) → P (finish script tick (suc k) t)
kept_on script tick k P f t None e p g = subst P (sym (fixed script tick t e (suc k))) p
kept_on script tick k P f t (Some u) e p g = subst P (sym (one_taken script tick t u e k)) (g u (f t u e p))

pub kept_finish : (script : Plan) (tick k : ℕ) (P : Turn → Type 0) → Kept script tick P → (t : Turn) → P t → P (finish script tick k t)
kept_finish script tick zero P f t p = subst P (sym (finish_none script tick t)) p
kept_finish script tick (suc k) P f t p = kept_on script tick k P f t (step script tick t) refl p (λ u q. kept_finish script tick k P f u q)

pub kept_finished : (script : Plan) (tick : ℕ) (P : Turn → Type 0) → Kept script tick P → (t : Turn) → P t → P (finished script tick t)
unfolding finished
kept_finished script tick P f t p = kept_finish script tick (work t) P f t p

pub tidy_on : (script : Plan) (n m tick size : ℕ) → Kept script tick (IsTidy n m (tick + 1) size)
tidy_on script n m tick size t u e h =
    let s = step_tells script tick t u e in
    record { sound = (goes script m tick t u e).keeps h.sound; paced = s.paced n h.paced; now = s.now ∙ h.now; view = s.view ∙ h.view }

tidy_next : (script : Plan) (n m tick size : ℕ) (t : Turn) (o : Option Turn) → step script tick t ≡ o → IsTidy n m (tick + 1) size t → IsTidy n m (tick + 1) size (unwrap_or o t)
tidy_next script n m tick size t None e h = h
tidy_next script n m tick size t (Some u) e h = tidy_on script n m tick size t u e h

pub tidy_stepped : (script : Plan) (n m tick size : ℕ) (t : Turn) → is_some (step script tick t) ≡ true → IsTidy n m (tick + 1) size t → IsTidy n m (tick + 1) size (stepped script tick t)
tidy_stepped script n m tick size t more h = tidy_next script n m tick size t (step script tick t) refl h

pub begun_tidy : (script : Plan) (tick m : ℕ) (lane : Lane) → IsReady script tick m lane → IsTidy (10000 * (tick + 1)) (m + 20001) (tick + 1) script.cancellables (begun tick lane)
begun_tidy script tick m lane r = record {
  sound = record { bound = m; fits = omega arith; within = record { contexts = r.within.contexts; frames = r.within.frames; handlers = r.within.handlers } };
  paced = record { next = omega (arith, r.next); few = omega (arith, r.few); sent = omega (arith, r.few) };
  now = refl;
  view = r.view;
}

tidy_ready : (script : Plan) (tick m : ℕ) (t : Turn) → IsTidy (10000 * (tick + 1)) m (tick + 1) script.cancellables t → IsReady script (tick + 1) m t.lane
tidy_ready script tick m t h = record {
  within = within_weaker h.sound.bound m (omega (arith, h.sound.fits)) t.lane h.sound.within;
  view = h.view;
  now = h.now;
  next = omega (arith, h.paced.next);
  few = omega (arith, h.paced.few);
}

turn_tidy : (script : Plan) (tick m : ℕ) (lane : Lane) → IsReady script tick m lane → IsTidy (10000 * (tick + 1)) (m + 20001) (tick + 1) script.cancellables (finished script tick (begun tick lane))
turn_tidy script tick m lane r =
    kept_finished script tick (IsTidy (10000 * (tick + 1)) (m + 20001) (tick + 1) script.cancellables) (tidy_on script (10000 * (tick + 1)) (m + 20001) tick script.cancellables) (begun tick lane) (begun_tidy script tick m lane r)

pub ready-turned : (script : Plan) (tick m : ℕ) (lane : Lane) → IsReady script tick m lane → IsReady script (tick + 1) (m + 20001) (turned script tick lane)
ready-turned script tick m lane r = tidy_ready script tick (m + 20001) (finished script tick (begun tick lane)) (turn_tidy script tick m lane r)

-- the letters carry the lane's number, and their own
turn_numbers : (script : Plan) (tick : ℕ) (lane : Lane) → Numbers tick lane.number (finished script tick (begun tick lane))
turn_numbers script tick lane =
    kept_finished script tick (Numbers tick lane.number) (λ t u e h. numbers_on script tick lane.number t u (step_tells script tick t u e) h) (begun tick lane) (record { number = refl; numbered = tt; sent = refl })

pub few-letters : (script : Plan) (tick m : ℕ) (lane : Lane) → IsReady script tick m lane → length (out_of script tick lane) ≤ 10000 * (tick + 1)
few-letters script tick m lane r = omega (arith, (turn_tidy script tick m lane r).paced.sent, (turn_numbers script tick lane).sent)

pub out_numbered : (script : Plan) (tick : ℕ) (lane : Lane) → AreNumbered tick lane.number 0 (out_of script tick lane)
out_numbered script tick lane = (turn_numbers script tick lane).numbered

pub turned_number : (script : Plan) (tick : ℕ) (lane : Lane) → (turned script tick lane).number ≡ lane.number
turned_number script tick lane = (turn_numbers script tick lane).number

-- a step, or none where none is left, keeps that, and leads to the same end
pub tidy_stays : (script : Plan) (n m tick size : ℕ) (t : Turn) → IsTidy n m (tick + 1) size t → IsTidy n m (tick + 1) size (stepped script tick t)
tidy_stays script n m tick size t h = tidy_next script n m tick size t (step script tick t) refl h

number_next : (script : Plan) (tick : ℕ) (t : Turn) (o : Option Turn) → step script tick t ≡ o → (unwrap_or o t).lane.number ≡ t.lane.number
number_next script tick t None e = refl
number_next script tick t (Some u) e = (step_tells script tick t u e).number

pub number_stays : (script : Plan) (tick : ℕ) (t : Turn) → (stepped script tick t).lane.number ≡ t.lane.number
number_stays script tick t = number_next script tick t (step script tick t) refl

-- ---- how many tasks a turn starts, and how many letters it sends

-- so many at most, by what a turn may still start and send
record IsFew (tasks letters : ℕ) (t : Turn) : Type 0 where
  next : t.lane.tasks.next + t.left ≤ tasks
  sent : t.sent + length t.unpolled + t.left ≤ letters

few_on : (script : Plan) (tick tasks letters : ℕ) → Kept script tick (IsFew tasks letters)
few_on script tick tasks letters t u e h =
    let s = step_tells script tick t u e in
    record { next = omega (arith, s.tasks, h.next); sent = omega (arith, s.letters, h.sent) }

few_turned : (script : Plan) (tick : ℕ) (lane : Lane) → IsFew (lane.tasks.next + 10000) (length lane.tasks.started + 10000) (finished script tick (begun tick lane))
few_turned script tick lane =
    kept_finished script tick (IsFew (lane.tasks.next + 10000) (length lane.tasks.started + 10000)) (few_on script tick (lane.tasks.next + 10000) (length lane.tasks.started + 10000)) (begun tick lane)
    (record { next = omega arith; sent = omega arith })

pub tasks_few : (script : Plan) (tick : ℕ) (lane : Lane) → (turned script tick lane).tasks.next ≤ lane.tasks.next + 10000
tasks_few script tick lane = omega (arith, (few_turned script tick lane).next)

pub letters_few : (script : Plan) (tick : ℕ) (lane : Lane) → length (out_of script tick lane) ≤ length lane.tasks.started + 10000
letters_few script tick lane = omega (arith, (few_turned script tick lane).sent, (turn_numbers script tick lane).sent)
