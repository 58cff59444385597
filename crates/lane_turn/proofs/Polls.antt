-- The polls of a turn, one by one and all at once.
use Rattle.std.proofs.Common.{◌≡◌, ℕ, ◌+◌, ◌≤◌, Bool, true, false, cond, Option, Some, None, List, [], ◌∷◌, ◌++◌, map, filter, length, refl, ap, sym, ◌∙◌, arith, append_assoc, append-nil, subst}
use Rattle.std.specs.List.{filter_map}
use Rattle.loop_script.specs.declared.plan.Plan.{Plan}
use Rattle.task_steps.specs.declared.entry.Reply.{Reply}
use Rattle.post_office.specs.declared.letter.Letter.{Letter}
use Rattle.lane_watch.specs.Tasks.{Started, Tasks, reply_at, is_late_at, stays_at}
use Rattle.lane_turn.specs.declared.line.Line.{Line}
use Rattle.lane_turn.specs.Lane.{Turn}
use Rattle.lane_turn.specs.Step.{polled, sent_with, posted_with, mail_of, one_if, late_line}
use Rattle.lane_turn.specs.Turn.{finish, finished}
use Rattle.lane_turn.specs.Polls.{letters_of, staying_among, after_polls}
use Rattle.lane_turn.proofs.Finish.{finished_on, finish_none, one_taken}
use Rattle.lane_turn.proofs.Turns.{Kept}

-- ---- the parts of a poll, before those of the others

kept_first : (b : Bool) (ts : List Started) (t : Started) (rest : List Started) → (ts ++ one_if b t) ++ rest ≡ ts ++ cond b (t ∷ rest) rest
kept_first true ts t rest = append_assoc ts (t ∷ []) rest
kept_first false ts t rest = ap (λ (l : List Started). l ++ rest) (append-nil ts)

late_first : (b : Bool) (tick lane : ℕ) (lines : List Line) (t : Started) (late : List Started)
    → (lines ++ one_if b (late_line tick lane t.number)) ++ map (late_line tick lane) (map (λ (x : Started). x.number) late) ≡ lines ++ map (late_line tick lane) (map (λ (x : Started). x.number) (cond b (t ∷ late) late))
late_first true tick lane lines t late = append_assoc lines (late_line tick lane t.number ∷ []) _
late_first false tick lane lines t late = ap (λ (l : List Line). l ++ map (late_line tick lane) (map (λ (x : Started). x.number) late)) (append-nil lines)

sent_first : (o : Option Reply) (n : ℕ) (f : Started → Option Reply) (t : Started) (ts : List Started) → o ≡ f t → sent_with (mail_of o) n + length (filter_map f ts) ≡ n + length (filter_map f (t ∷ ts))
sent_first None n f t ts e = rw (sym e) refl
sent_first (Some r) n f t ts e = rw (sym e) (omega arith)

posted_first : (o : Option Reply) (tick : ℕ) (u : Turn) (f : Started → Option Reply) (t : Started) (ts : List Started) → o ≡ f t
    → posted_with tick u.lane.number u.sent u.posted (mail_of o) ++ letters_of tick u.lane.number (sent_with (mail_of o) u.sent) (filter_map f ts) ≡ u.posted ++ letters_of tick u.lane.number u.sent (filter_map f (t ∷ ts))
posted_first None tick u f t ts e = rw (sym e) refl
posted_first (Some r) tick u f t ts e = rw (sym e) (append_assoc u.posted _ _)

pub fewer_replies : (f : Started → Option Reply) (ts : List Started) → length (filter_map f ts) ≤ length ts
fewer_replies f [] = omega arith
fewer_replies f (t ∷ ts) = by_one (f t) refl (fewer_replies f ts)
  where
    by_one : (o : Option Reply) → o ≡ f t → length (filter_map f ts) ≤ length ts → length (filter_map f (t ∷ ts)) ≤ length (t ∷ ts)
    by_one None e h = rw (sym e) (omega (arith, h))
    by_one (Some r) e h = rw (sym e) (omega (arith, h))

-- a turn by its parts
abbrev with_parts : Turn → List Started → List Line → ℕ → List Letter → Turn
with_parts t started lines sent posted = record t { lane = record t.lane { tasks = record t.lane.tasks { started = started }; trace = lines }; unpolled = []; sent = sent; posted = posted }

poll_first : (tick : ℕ) (t : Turn) (task : Started) (tasks : List Started) → after_polls tick (polled tick task (record t { unpolled = tasks })) ≡ after_polls tick (record t { unpolled = task ∷ tasks })
poll_first tick t task tasks =
    let tell : Tasks = t.lane.tasks in
    let o : Option Reply = reply_at tick tell task in
    let a : Turn = after_polls tick (polled tick task (record t { unpolled = tasks })) in
    let b : Turn = after_polls tick (record t { unpolled = task ∷ tasks }) in
    ap (λ (l : List Started). with_parts t l a.lane.trace a.sent a.posted) (kept_first (stays_at tick tell task) tell.started task (staying_among tick tell tasks))
    ∙ (ap (λ (l : List Line). with_parts t b.lane.tasks.started l a.sent a.posted) (late_first (is_late_at tick tell task) tick t.lane.number t.lane.trace task (filter (is_late_at tick tell) tasks))
    ∙ (ap (λ (n : ℕ). with_parts t b.lane.tasks.started b.lane.trace n a.posted) (sent_first o t.sent (reply_at tick tell) task tasks refl)
    ∙ ap (λ (l : List Letter). with_parts t b.lane.tasks.started b.lane.trace b.sent l) (posted_first o tick t (reply_at tick tell) task tasks refl)))

none_to_poll : (tick : ℕ) (t : Turn) → after_polls tick (record t { unpolled = [] }) ≡ record t { unpolled = [] }
none_to_poll tick t =
    let a : Turn = after_polls tick (record t { unpolled = [] }) in
    ap (λ (l : List Started). with_parts t l a.lane.trace a.sent a.posted) (append-nil t.lane.tasks.started)
    ∙ (ap (λ (l : List Line). with_parts t t.lane.tasks.started l a.sent a.posted) (append-nil t.lane.trace)
    ∙ (ap (λ (n : ℕ). with_parts t t.lane.tasks.started t.lane.trace n a.posted) (zero_more t.sent)
    ∙ ap (λ (l : List Letter). with_parts t t.lane.tasks.started t.lane.trace t.sent l) (append-nil t.posted)))
  where
    zero_more : (n : ℕ) → n + 0 ≡ n
    zero_more n = omega arith

polls_by : (script : Plan) (tick : ℕ) (t : Turn) (tasks : List Started) → finished script tick (record t { unpolled = tasks }) ≡ finished script tick (after_polls tick (record t { unpolled = tasks }))
polls_by script tick t [] = ap (finished script tick) (sym (none_to_poll tick t))
polls_by script tick t (task ∷ tasks) =
    sym (finished_on script tick (record t { unpolled = task ∷ tasks }) refl)
    ∙ (polls_by script tick (polled tick task (record t { unpolled = tasks })) tasks
    ∙ ap (finished script tick) (poll_first tick t task tasks))

-- and are as many steps as there are tasks
pub polls_as_steps : (script : Plan) (tick : ℕ) (t : Turn) (tasks : List Started) → finish script tick (length tasks) (record t { unpolled = tasks }) ≡ after_polls tick (record t { unpolled = tasks })
polls_as_steps script tick t [] = finish_none script tick (record t { unpolled = [] }) ∙ sym (none_to_poll tick t)
polls_as_steps script tick t (task ∷ tasks) =
    let u : Turn = polled tick task (record t { unpolled = tasks }) in
    one_taken script tick (record t { unpolled = task ∷ tasks }) u refl (length tasks)
    ∙ (polls_as_steps script tick u tasks ∙ poll_first tick t task tasks)

-- what each step keeps, they keep
keep_by : (script : Plan) (tick : ℕ) (P : Turn → Type 0) → Kept script tick P → (t : Turn) (tasks : List Started) → P (record t { unpolled = tasks }) → P (after_polls tick (record t { unpolled = tasks }))
keep_by script tick P f t [] p = subst P (sym (none_to_poll tick t)) p
keep_by script tick P f t (task ∷ tasks) p =
    let u : Turn = polled tick task (record t { unpolled = tasks }) in
    subst P (poll_first tick t task tasks) (keep_by script tick P f u tasks (f (record t { unpolled = task ∷ tasks }) u refl p))

pub polls_keep : (script : Plan) (tick : ℕ) (P : Turn → Type 0) → Kept script tick P → (t : Turn) → P t → P (after_polls tick t)
polls_keep script tick P f t p = keep_by script tick P f t t.unpolled p

-- the polls of a turn can be taken at once
pub polls_at_once : (script : Plan) (tick : ℕ) (t : Turn) → finished script tick (after_polls tick t) ≡ finished script tick t
polls_at_once script tick t = sym (polls_by script tick t t.unpolled)
