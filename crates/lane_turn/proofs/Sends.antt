-- What a step sends, and how tasks and letters are counted.
use Rattle.std.proofs.Common.{◌≡◌, ◌||◌, ◌<◌, ℕ, zero, suc, ◌+◌, ◌≤◌, Bool, true, false, cond, Option, Some, None, List, [], ◌∷◌, ◌++◌, length, refl, ap, sym, ◌∙◌, arith, subst, length-append}
use Rattle.std.specs.Prelude.{slice_get}
use Rattle.loop_script.specs.declared.plan.Plan.{Plan}
use Rattle.loop_script.specs.declared.action.Action.{Action}
use Rattle.loop_script.specs.declared.action.Action.TheVariants as actions
use Rattle.loop_script.specs.Parts.{actions_of}
use Rattle.loop_script.specs.Gives.{GivesNone}
use Rattle.source_rows.specs.declared.row.Row.{Row}
use Rattle.post_office.specs.declared.letter.Letter.{Letter}
use Rattle.post_office.specs.declared.letter.Body.{Body as Mail}
use Rattle.post_office.specs.declared.letter.Body.TheVariants as mails
use Rattle.lane_watch.specs.Tasks.{Started, reply_at, stays_at}
use Rattle.lane_turn.specs.declared.line.Event.TheVariants as events
use Rattle.lane_turn.specs.declared.lane.Status.{Status}
use Rattle.lane_turn.specs.declared.lane.Status.TheVariants.{GoesOn, Ended, Halted}
use Rattle.lane_turn.specs.declared.layer.Call.{Call}
use Rattle.lane_turn.specs.Frames.{Frame, CallOf, IterOf, LoopOf, emptied}
use Rattle.lane_turn.specs.Lane.{Lane, Turn, popped, taken, row_of, iterating, chosen, is_running, written, is_own}
use Rattle.lane_turn.specs.Acted.{acted, sends}
use Rattle.lane_turn.specs.Owned.{invoke_spec}
use Rattle.lane_turn.specs.Step.{returned, answered, step, step_polling, step_call, step_id, limited_by, with_lane, dispatching, polled, letter, sent_with, posted_with, mail_of, one_if}
use Rattle.lane_turn.specs.Sound.{IsPaced}
use Rattle.task_steps.specs.declared.entry.Reply.{Reply}
use Rattle.cancel_view.specs.Seen.{has}
use Rattle.lane_turn.specs.Arrivals.{IsOfInvoke}
use Rattle.lane_turn.specs.Letters.{AreNumbered}
use Rattle.lane_turn.specs.Handover.{may_give}
use Rattle.lane_turn.proofs.Owning.{gives_maybe, OwnOn, own_same, own_after, own_advanced, own_acted, own_dispatching, own_returned, own_answered, own_looped, less_dropped, less_advanced}
use Rattle.lane_turn.proofs.Gives.{give_stands, none_sent}
use Rattle.lane_turn.proofs.Steady.{held_of, Steady, told_by, given_with, still, steady_trans, steady_acted, steady_dispatching, steady_returned, steady_answered}
use Rattle.lane_turn.specs.declared.layer.Asker.TheVariants as askers

-- a letter of the script that tells a source tells that of an invoke, and one that gives a context may give it
abbrev pub IsAllowedBody : Plan → Lane → Mail → Type 0
IsAllowedBody script lane (mails.Attach context spec) = IsOfInvoke (mails.Attach context spec)
IsAllowedBody script lane (mails.Complete reply) = Unit {0}
IsAllowedBody script lane (mails.Cancelled c) = Unit {0}
IsAllowedBody script lane (mails.Give context to) = may_give script context to lane ≡ true

-- the same of a letter that may be sent
abbrev pub IsAllowed : Plan → Lane → Option Mail → Type 0
IsAllowed script lane None = Unit {0}
IsAllowed script lane (Some body) = IsAllowedBody script lane body

pub of_invoke : (script : Plan) (lane : Lane) (body : Mail) → IsAllowedBody script lane body → IsOfInvoke body
of_invoke script lane (mails.Attach context spec) a = a
of_invoke script lane (mails.Complete reply) a = tt
of_invoke script lane (mails.Cancelled c) a = tt
of_invoke script lane (mails.Give context to) a = tt

sends_allowed : (script : Plan) (action : Action) (lane : Lane) → IsAllowed script lane (sends script action lane)
sends_allowed script (actions.Cancel c) lane = by (has c lane.view)
  where
    by : (b : Bool) → IsAllowed script lane (cond b None (Some (mails.Cancelled c)))
    by true = tt
    by false = tt
sends_allowed script (actions.Invoke context proc) lane = by (is_own context lane)
  where
    by : (b : Bool) → IsAllowed script lane (cond b None (Some (mails.Attach context (invoke_spec proc))))
    by true = tt
    by false = (proc, refl)
sends_allowed script (actions.Give context to) lane = by (may_give script context to lane) refl
  where
    by : (b : Bool) → may_give script context to lane ≡ b → IsAllowed script lane (cond b (Some (mails.Give context to)) None)
    by true e = e
    by false e = tt
sends_allowed script _ lane = tt

-- a step sends one letter at most, the next of the turn, and starts one task at most where it counts one
pub record Sends (script : Plan) (tick : ℕ) (t u : Turn) : Type 0 where
  pub number : u.lane.number ≡ t.lane.number
  pub now : u.lane.tasks.tick ≡ t.lane.tasks.tick
  pub view : length u.lane.view.members ≡ length t.lane.view.members
  pub paced : (n : ℕ) → IsPaced n t → IsPaced n u
  pub tasks : u.lane.tasks.next + u.left ≤ t.lane.tasks.next + t.left
  pub letters : u.sent + length u.unpolled + u.left ≤ t.sent + length t.unpolled + t.left
  pub mail : Option Mail
  pub sent : u.sent ≡ sent_with mail t.sent
  pub posted : u.posted ≡ posted_with tick t.lane.number t.sent t.posted mail
  pub seen : (c : ℕ) → c < length t.lane.view.members → has c u.lane.view ≡ (told_by c mail || has c t.lane.view)
  pub holds : held_of u.lane.contexts ≡ held_of t.lane.contexts
  pub given : u.lane.given ≡ given_with mail t.lane.given
  pub allowed : IsAllowed script (taken t.lane) mail
  pub owns : OwnOn (λ c. is_own c t.lane) mail t.lane.frames u.lane.frames
  -- what gives a context leaves all as they stand, and nothing does where no list of the script gives one
  pub stands : (c : ℕ) → gives_maybe c mail ≡ true → u.lane.contexts ≡ t.lane.contexts
  pub none : GivesNone script → (c : ℕ) → gives_maybe c mail ≡ false

some_same : (t u : Turn) → Some t ≡ Some u → t ≡ u
some_same t u e = cc

sent_most : (mail : Option Mail) (n : ℕ) → sent_with mail n ≤ n + 1
sent_most None n = omega arith
sent_most (Some body) n = omega arith

-- what is counted
counted_sends : (script : Plan) (tick : ℕ) (mail : Option Mail) (f : Lane → Lane) (t : Turn) (left : ℕ) → t.left ≡ left → IsAllowed script (taken t.lane) mail → OwnOn (λ c. is_own c t.lane) mail t.lane.frames (f t.lane).frames
    → ((c : ℕ) → gives_maybe c mail ≡ true → (f t.lane).contexts ≡ t.lane.contexts) → (GivesNone script → (c : ℕ) → gives_maybe c mail ≡ false) → Steady 1 mail t.lane (f t.lane) → Sends script tick t (limited_by tick mail f t left)
counted_sends script tick mail f t zero e p o k z h = record {
  number = refl;
  now = refl;
  view = refl;
  paced = λ n q. record { next = q.next; few = q.few; sent = q.sent };
  tasks = omega arith;
  letters = omega arith;
  mail = None;
  sent = refl;
  posted = refl;
  seen = λ c l. refl;
  holds = refl;
  given = refl;
  allowed = tt;
  owns = own_same (λ c. is_own c t.lane) None t.lane.frames;
  stands = λ c l. refl;
  none = λ g c. refl;
}
counted_sends script tick mail f t (suc left) e p o k z h = record {
  number = h.number;
  now = h.tick;
  view = h.view;
  paced = λ n q. record { next = omega (arith, e, h.next, q.next); few = omega (arith, e, h.few, q.few); sent = omega (arith, e, sent_most mail t.sent, q.sent) };
  tasks = omega (arith, e, h.next);
  letters = omega (arith, e, sent_most mail t.sent);
  mail = mail;
  sent = refl;
  posted = refl;
  seen = h.seen;
  holds = h.holds;
  given = h.given;
  allowed = p;
  owns = o;
  stands = k;
  none = z;
}

-- what is not
freely_sends : (script : Plan) (tick : ℕ) (t : Turn) (after : Lane) (iterated : Bool) → OwnOn (λ c. is_own c t.lane) None t.lane.frames after.frames → Steady 0 None t.lane after → Sends script tick t (record t { lane = after; iterated = iterated })
freely_sends script tick t after iterated o h = record {
  number = h.number;
  now = h.tick;
  view = h.view;
  paced = λ n p. record { next = omega (arith, h.next, p.next); few = omega (arith, h.few, p.few); sent = p.sent };
  tasks = omega (arith, h.next);
  letters = omega arith;
  mail = None;
  sent = refl;
  posted = refl;
  seen = h.seen;
  holds = h.holds;
  given = h.given;
  allowed = tt;
  owns = o;
  stands = λ c l. let no : false ≡ true = l in cc;
  none = λ g c. refl;
}

taken_too : (mail : Option Mail) (lane after : Lane) → Steady 1 mail (taken lane) after → Steady 1 mail lane after
taken_too mail lane after h = steady_trans 1 mail lane (taken lane) after (still 0 lane (taken lane) refl refl refl refl refl) h

popped_too : (lane after : Lane) → Steady 0 None (popped lane) after → Steady 0 None lane after
popped_too lane after h = steady_trans 0 None lane (popped lane) after (still 0 lane (popped lane) refl refl refl refl refl) h

call_sends : (script : Plan) (tick : ℕ) (t : Turn) (call : Call) (a : Option Action) → slice_get (actions_of script call.body) call.place ≡ a → Sends script tick t (step_call script tick t call a)
call_sends script tick t call (Some a) e =
    counted_sends script tick (sends script a (taken t.lane)) (λ lane. acted script tick a (taken lane)) t t.left refl (sends_allowed script a (taken t.lane)) (own_after (λ c. is_own c t.lane) (sends script a (taken t.lane)) t.lane.frames (taken t.lane).frames (acted script tick a (taken t.lane)).frames (less_advanced t.lane.frames) (own_acted script tick a (taken t.lane)))
    (give_stands script tick a (taken t.lane)) (λ g. none_sent script g call.body call.place a e (taken t.lane)) (taken_too (sends script a (taken t.lane)) t.lane _ (steady_acted script tick a (taken t.lane)))
call_sends script tick t call None e = freely_sends script tick t _ t.iterated (own_after (λ c. is_own c t.lane) None t.lane.frames (popped t.lane).frames (returned script tick call.body call.origin (popped t.lane)).frames (less_dropped t.lane.frames) (own_returned (λ c. is_own c t.lane) script tick call.body call.origin (popped t.lane))) (popped_too t.lane _ (steady_returned script tick call.body call.origin (popped t.lane)))

id_sends : (script : Plan) (tick : ℕ) (t : Turn) (context : ℕ) (r : Option Row) → Sends script tick t (step_id tick t context r)
id_sends script tick t context None = freely_sends script tick t (taken t.lane) t.iterated (own_advanced (λ c. is_own c t.lane) None t.lane.frames) (still 0 t.lane _ refl refl refl refl refl)
id_sends script tick t context (Some row) = counted_sends script tick None (dispatching tick context row) t t.left refl tt (own_dispatching (λ c. is_own c t.lane) tick context row t.lane) (λ c l. let no : false ≡ true = l in cc) (λ g c. refl) (steady_dispatching tick context row t.lane)

loop_sends : (script : Plan) (tick : ℕ) (t : Turn) (number context : ℕ) (below : List Frame) → t.lane.frames ≡ LoopOf number context ∷ below → (runs iterated : Bool) (u : Turn)
    → cond runs (cond iterated None (Some (record t { lane = iterating script tick context askers.Loop t.lane; iterated = true }))) (Some (with_lane (λ lane. written tick (events.LoopEnd number) (popped lane)) t)) ≡ Some u → Sends script tick t u
loop_sends script tick t number context below fs true true u e = cc
loop_sends script tick t number context below fs true false u e =
    let own = subst (λ (all : List Frame). OwnOn (λ c. is_own c t.lane) None all (IterOf context (chosen script tick context t.lane) askers.Loop ∷ emptied context all)) (sym fs) (own_looped (λ c. is_own c t.lane) number context (chosen script tick context t.lane) askers.Loop below) in
    subst (Sends script tick t) (some_same _ _ e) (freely_sends script tick t (iterating script tick context askers.Loop t.lane) true own (still 0 t.lane _ refl refl refl refl refl))
loop_sends script tick t number context below fs false iterated u e =
    subst (Sends script tick t) (some_same _ _ e) (freely_sends script tick t (written tick (events.LoopEnd number) (popped t.lane)) t.iterated (own_after (λ c. is_own c t.lane) None t.lane.frames (popped t.lane).frames (popped t.lane).frames (less_dropped t.lane.frames) (own_same (λ c. is_own c t.lane) None (popped t.lane).frames)) (still 0 t.lane _ refl refl refl refl refl))

abbrev turn : Turn → List Frame → Status → Turn
turn t frames status = record t { lane = record t.lane { frames = frames; status = status }; unpolled = [] }

step_sends : (script : Plan) (tick : ℕ) (t : Turn) (frames : List Frame) (status : Status) (u : Turn) → step script tick (turn t frames status) ≡ Some u → Sends script tick (turn t frames status) u
step_sends script tick t [] GoesOn u e = cc
step_sends script tick t (CallOf call ∷ below) GoesOn u e =
    let now : Turn = turn t (CallOf call ∷ below) GoesOn in
    subst (Sends script tick now) (some_same _ _ e) (call_sends script tick now call (slice_get (actions_of script call.body) call.place) refl)
step_sends script tick t (IterOf context [] asker ∷ below) GoesOn u e =
    let now : Turn = turn t (IterOf context [] asker ∷ below) GoesOn in
    subst (Sends script tick now) (some_same _ _ e) (freely_sends script tick now _ now.iterated (own_after (λ c. is_own c now.lane) None now.lane.frames (popped now.lane).frames (answered tick context asker (popped now.lane)).frames (less_dropped now.lane.frames) (own_answered (λ c. is_own c now.lane) tick context asker (popped now.lane))) (popped_too now.lane _ (steady_answered tick context asker (popped now.lane))))
step_sends script tick t (IterOf context (id ∷ ids) asker ∷ below) GoesOn u e =
    let now : Turn = turn t (IterOf context (id ∷ ids) asker ∷ below) GoesOn in
    subst (Sends script tick now) (some_same _ _ e) (id_sends script tick now context (row_of context id now.lane))
step_sends script tick t (LoopOf number context ∷ below) GoesOn u e =
    let now : Turn = turn t (LoopOf number context ∷ below) GoesOn in
    loop_sends script tick now number context below refl (is_running number now.lane) now.iterated u e
step_sends script tick t frames Ended u e = cc
step_sends script tick t frames Halted u e = cc

-- a poll
one_most : (A : Type 0) (b : Bool) (x : A) → length (one_if b x) ≤ 1
one_most A true x = omega arith
one_most A false x = omega arith

-- a reply tells of no cancellable
told_none : (o : Option Reply) (c : ℕ) (b : Bool) → b ≡ (told_by c (mail_of o) || b)
told_none None c b = refl
told_none (Some reply) c b = refl

reply_gives : (given : List Bool) (o : Option Reply) → given ≡ given_with (mail_of o) given
reply_gives given None = refl
reply_gives given (Some reply) = refl

reply_allowed : (script : Plan) (lane : Lane) (o : Option Reply) → IsAllowed script lane (mail_of o)
reply_allowed script lane None = tt
reply_allowed script lane (Some reply) = tt

reply_none : (c : ℕ) (o : Option Reply) → gives_maybe c (mail_of o) ≡ false
reply_none c None = refl
reply_none c (Some reply) = refl

polled_sends : (script : Plan) (tick : ℕ) (t : Turn) (task : Started) (tasks : List Started) → Sends script tick (record t { unpolled = task ∷ tasks }) (polled tick task (record t { unpolled = tasks }))
polled_sends script tick t task tasks =
    let mail : Option Mail = mail_of (reply_at tick t.lane.tasks task) in
    let stays : Bool = stays_at tick t.lane.tasks task in
    record {
      number = refl;
      now = refl;
      view = refl;
      paced = λ n p. record {
        next = p.next;
        few = omega (arith, p.few, length-append t.lane.tasks.started (one_if stays task), one_most Started stays task);
        sent = omega (arith, p.sent, sent_most mail t.sent);
      };
      tasks = omega arith;
      letters = omega (arith, sent_most mail t.sent);
      mail = mail;
      sent = refl;
      posted = refl;
      seen = λ c l. told_none (reply_at tick t.lane.tasks task) c (has c t.lane.view);
      holds = refl;
      given = reply_gives t.lane.given (reply_at tick t.lane.tasks task);
      allowed = reply_allowed script (taken t.lane) (reply_at tick t.lane.tasks task);
      owns = own_same (λ c. is_own c t.lane) mail t.lane.frames;
      stands = λ c l. refl;
      none = λ g c. reply_none c (reply_at tick t.lane.tasks task);
    }

polling_sends : (script : Plan) (tick : ℕ) (t : Turn) (tasks : List Started) (u : Turn) → step_polling script tick (record t { unpolled = tasks }) tasks ≡ Some u → Sends script tick (record t { unpolled = tasks }) u
polling_sends script tick t [] u e = step_sends script tick t t.lane.frames t.lane.status u e
polling_sends script tick t (task ∷ tasks) u e = subst (Sends script tick (record t { unpolled = task ∷ tasks })) (some_same _ _ e) (polled_sends script tick t task tasks)

pub step_tells : (script : Plan) (tick : ℕ) (t u : Turn) → step script tick t ≡ Some u → Sends script tick t u
step_tells script tick t u e = polling_sends script tick t t.unpolled u e

-- ---- the letters of a turn

numbered_push : (tick sender n : ℕ) (ls : List Letter) (l : Letter) → AreNumbered tick sender n ls → l.tick ≡ tick → l.sender ≡ sender → l.number ≡ n + length ls → AreNumbered tick sender n (ls ++ l ∷ [])
numbered_push tick sender n [] l h t s e = (t, (s, (omega (arith, e), tt)))
numbered_push tick sender n (x ∷ ls) l h t s e = (h.0, (h.1.0, (h.1.1.0, numbered_push tick sender (n + 1) ls l h.1.1.1 t s (omega (arith, e)))))

-- a turn that numbered its letters from 0
pub record Numbers (tick sender : ℕ) (t : Turn) : Type 0 where
  pub number : t.lane.number ≡ sender
  pub numbered : AreNumbered tick sender 0 t.posted
  pub sent : length t.posted ≡ t.sent

posted_numbers : (tick sender : ℕ) (t : Turn) (mail : Option Mail) → Numbers tick sender t → AreNumbered tick sender 0 (posted_with tick t.lane.number t.sent t.posted mail) × (length (posted_with tick t.lane.number t.sent t.posted mail) ≡ sent_with mail t.sent)
posted_numbers tick sender t None h = (h.numbered, h.sent)
posted_numbers tick sender t (Some body) h =
    (numbered_push tick sender 0 t.posted (letter tick t.lane.number t.sent body) h.numbered refl h.number (omega (arith, h.sent)), omega (arith, h.sent, length-append t.posted (letter tick t.lane.number t.sent body ∷ [])))

pub numbers_on : (script : Plan) (tick sender : ℕ) (t u : Turn) → Sends script tick t u → Numbers tick sender t → Numbers tick sender u
numbers_on script tick sender t u s h =
    let p = posted_numbers tick sender t s.mail h in
    record {
      number = s.number ∙ h.number;
      numbered = subst (AreNumbered tick sender 0) (sym s.posted) p.0;
      sent = ap (λ (ls : List Letter). length ls) s.posted ∙ (p.1 ∙ sym s.sent);
    }
