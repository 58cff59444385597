-- What a step and a turn take of the replies that are held, and to which contexts replies go.
use Rattle.std.proofs.Common.{◌≡◌, ℕ, zero, suc, ◌<◌, Bool, true, false, cond, Option, Some, None, List, [], ◌∷◌, ◌++◌, length, slice_set, option_map, refl, ap, sym, arith, subst, append-nil}
use Rattle.std.specs.Prelude.{nat_lt, slice_get}
use Rattle.std.specs.List.{AllByRecursion}
use Rattle.std.proofs.lemmas.List.{length-set}
use Rattle.std.proofs.lemmas.Bool.{eq-eqb}
use Rattle.loop_script.specs.declared.plan.Plan.{Plan}
use Rattle.loop_script.specs.declared.action.Action.{Action}
use Rattle.loop_script.specs.declared.outcome.Outcome.{Outcome}
use Rattle.loop_script.specs.Parts.{actions_of}
use Rattle.source_rows.specs.declared.row.Row.{Row}
use Rattle.source_rows.specs.Rows.{counted as counted_once}
use Rattle.task_steps.specs.Task.{reply_in}
use Rattle.post_office.specs.declared.letter.Letter.{Letter}
use Rattle.post_office.specs.declared.letter.Body.{Body as Mail}
use Rattle.post_office.specs.declared.letter.Body.TheVariants as mails
use Rattle.lane_watch.specs.Tasks.{Started, first_seen, end_of_task, reply_of, reply_at, is_late_at, stays_at}
use Rattle.lane_turn.specs.declared.line.Event.TheVariants as events
use Rattle.lane_turn.specs.declared.lane.Status.{Status}
use Rattle.lane_turn.specs.declared.lane.Status.TheVariants.{GoesOn, Ended, Halted}
use Rattle.lane_turn.specs.declared.layer.Call.{Call}
use Rattle.lane_turn.specs.Frames.{Frame, CallOf, IterOf, LoopOf, calls_in_progress}
use Rattle.lane_turn.specs.Lane.{Lane, Turn, context_at, with_rows, written, stopped, popped, taken, row_of, iterating, is_running}
use Rattle.lane_turn.specs.Acted.{acted, sends}
use Rattle.lane_turn.specs.Step.{step, step_polling, step_call, step_id, limited_by, with_lane, dispatched, dispatching, posted_with, letter, polled, mail_of, late_line, one_if}
use Rattle.lane_turn.specs.Turn.{begun, finished, turned, out_of}
use Rattle.lane_turn.specs.Owed.{one_for}
use Rattle.lane_turn.specs.Taken.{results}
use Rattle.lane_turn.proofs.Lists.{each-push}
use Rattle.lane_turn.proofs.Leaves.{ArePlaced, IsPlaced, Leaves, results_other, place_same, same, line, leaves_trans, leaves_acted, leaves_returned, leaves_answered}
use Rattle.lane_turn.proofs.Taking.{Moves, left, moves_trans, moves_dispatching}
use Rattle.lane_turn.proofs.Owing.{mail_count}
use Rattle.lane_turn.proofs.Owed.{sends_none}
use Rattle.lane_turn.proofs.Turns.{kept_finished}
use Rattle.lane_turn.specs.declared.layer.Asker.TheVariants as askers

-- ---- where replies go

abbrev pub IsHomed : ℕ → Mail → Type 0
IsHomed m (mails.Attach context spec) = Unit {0}
IsHomed m (mails.Complete reply) = reply.ctx < m
IsHomed m (mails.Cancelled c) = Unit {0}
IsHomed m (mails.Give context to) = Unit {0}

abbrev pub AreHomed : ℕ → List Letter → Type 0
AreHomed m letters = AllByRecursion (λ l. IsHomed m l.body) letters

abbrev IsHomedMail : ℕ → Option Mail → Type 0
IsHomedMail m None = Unit {0}
IsHomedMail m (Some body) = IsHomed m body

pub record Homes (m : ℕ) (t : Turn) : Type 0 where
  pub lane : IsPlaced m t.lane
  pub unpolled : ArePlaced m t.unpolled
  pub posted : AreHomed m t.posted

posted_homed : (m tick sender number : ℕ) (ls : List Letter) (mail : Option Mail) → AreHomed m ls → IsHomedMail m mail → AreHomed m (posted_with tick sender number ls mail)
posted_homed m tick sender number ls None h g = h
posted_homed m tick sender number ls (Some body) h g = each-push (λ (l : Letter). IsHomed m l.body) ls (letter tick sender number body) h g

-- what is no reply of any number is none
no_reply : (m : ℕ) (mail : Option Mail) → ((n : ℕ) → mail_count n mail ≡ 0) → IsHomedMail m mail
no_reply m None h = tt
no_reply m (Some (mails.Attach context spec)) h = tt
no_reply m (Some (mails.Cancelled c)) h = tt
no_reply m (Some (mails.Give context to)) h = tt
no_reply m (Some (mails.Complete reply)) h = absurd (omega (arith, h reply.task, ap one_for (eq-eqb reply.task reply.task refl)))

place_dispatching : (m tick context : ℕ) (row : Row) (lane : Lane) → IsPlaced m lane → IsPlaced m (dispatching tick context row lane)
place_dispatching m tick context row lane p = by (nat_lt (calls_in_progress lane.frames) 32)
  where
    size : length (slice_set lane.contexts context (option_map (with_rows (counted_once row.id)) (context_at context lane))) ≡ length lane.contexts
    size = simp length-set

    by : (b : Bool) → IsPlaced m (cond b (dispatched tick context row lane) (stopped Halted (written tick events.HaltDepth lane)))
    by true = place_same m lane _ size refl refl p
    by false = place_same m lane _ refl refl refl p

-- ---- a step

pub record On (s n : ℕ) (t u : Turn) : Type 0 where
  pub moves : Moves s n t.lane u.lane
  pub homes : (m : ℕ) → 0 < m → Homes m t → Homes m u

some_same : (t u : Turn) → Some t ≡ Some u → t ≡ u
some_same t u e = cc

freely_on : (s n : ℕ) (t : Turn) (after : Lane) (iterated : Bool) → Leaves s n t.lane after → On s n t (record t { lane = after; iterated = iterated })
freely_on s n t after iterated h = record { moves = left s n t.lane after h; homes = λ m z g. record { lane = h.place m z g.lane; unpolled = g.unpolled; posted = g.posted } }

counted_on : (s n tick : ℕ) (mail : Option Mail) (f : Lane → Lane) (t : Turn) (left : ℕ) → ((m : ℕ) → IsHomedMail m mail) → Moves s n t.lane (f t.lane) → ((m : ℕ) → 0 < m → IsPlaced m t.lane → IsPlaced m (f t.lane)) → On s n t (limited_by tick mail f t left)
counted_on s n tick mail f t zero g h p =
    let halted : Lane = written tick events.HaltSteps t.lane in
    freely_on s n t (stopped Halted halted) t.iterated (leaves_trans s n t.lane halted (stopped Halted halted) (line s n t.lane tick events.HaltSteps refl) (same s n halted (stopped Halted halted) refl refl refl refl refl))
counted_on s n tick mail f t (suc left) g h p = record { moves = h; homes = λ m z k. record { lane = p m z k.lane; unpolled = k.unpolled; posted = posted_homed m tick t.lane.number t.sent t.posted mail k.posted (g m) } }

call_on : (s n : ℕ) (script : Plan) (tick : ℕ) (t : Turn) (call : Call) (a : Option Action) → On s n t (step_call script tick t call a)
call_on s n script tick t call (Some a) =
    let h : Leaves s n t.lane (acted script tick a (taken t.lane)) = leaves_trans s n t.lane (taken t.lane) _ (same s n t.lane (taken t.lane) refl refl refl refl refl) (leaves_acted s n script tick a (taken t.lane)) in
    counted_on s n tick (sends script a (taken t.lane)) (λ lane. acted script tick a (taken lane)) t t.left (λ m. no_reply m (sends script a (taken t.lane)) (λ i. sends_none i script a (taken t.lane))) (left s n t.lane _ h) h.place
call_on s n script tick t call None =
    freely_on s n t _ t.iterated (leaves_trans s n t.lane (popped t.lane) _ (same s n t.lane (popped t.lane) refl refl refl refl refl) (leaves_returned s n script tick call.body call.origin (popped t.lane)))

id_on : (s n tick : ℕ) (t : Turn) (context : ℕ) (r : Option Row) → On s n t (step_id tick t context r)
id_on s n tick t context None = freely_on s n t (taken t.lane) t.iterated (same s n t.lane (taken t.lane) refl refl refl refl refl)
id_on s n tick t context (Some row) = counted_on s n tick None (dispatching tick context row) t t.left (λ m. tt) (moves_dispatching s n tick context row t.lane) (λ m z p. place_dispatching m tick context row t.lane p)

loop_on : (s n : ℕ) (script : Plan) (tick : ℕ) (t : Turn) (number context : ℕ) (runs iterated : Bool) (u : Turn)
    → cond runs (cond iterated None (Some (record t { lane = iterating script tick context askers.Loop t.lane; iterated = true }))) (Some (with_lane (λ lane. written tick (events.LoopEnd number) (popped lane)) t)) ≡ Some u → On s n t u
loop_on s n script tick t number context true true u e = cc
loop_on s n script tick t number context true false u e =
    let after : Lane = iterating script tick context askers.Loop t.lane in
    subst (On s n t) (some_same _ _ e) (freely_on s n t after true (same s n t.lane after refl refl refl refl refl))
loop_on s n script tick t number context false iterated u e =
    let over : Lane = popped t.lane in
    subst (On s n t) (some_same _ _ e) (freely_on s n t _ t.iterated (leaves_trans s n t.lane over (written tick (events.LoopEnd number) over) (same s n t.lane over refl refl refl refl refl) (line s n over tick (events.LoopEnd number) refl)))

abbrev turn : Turn → List Frame → Status → Turn
turn t frames status = record t { lane = record t.lane { frames = frames; status = status }; unpolled = [] }

step_on : (s n : ℕ) (script : Plan) (tick : ℕ) (t : Turn) (frames : List Frame) (status : Status) (u : Turn) → step script tick (turn t frames status) ≡ Some u → On s n (turn t frames status) u
step_on s n script tick t [] GoesOn u e = cc
step_on s n script tick t (CallOf call ∷ below) GoesOn u e =
    let now : Turn = turn t (CallOf call ∷ below) GoesOn in
    subst (On s n now) (some_same _ _ e) (call_on s n script tick now call (slice_get (actions_of script call.body) call.place))
step_on s n script tick t (IterOf context [] asker ∷ below) GoesOn u e =
    let now : Turn = turn t (IterOf context [] asker ∷ below) GoesOn in
    let over : Lane = popped now.lane in
    subst (On s n now) (some_same _ _ e) (freely_on s n now _ now.iterated (leaves_trans s n now.lane over _ (same s n now.lane over refl refl refl refl refl) (leaves_answered s n tick context asker over)))
step_on s n script tick t (IterOf context (id ∷ ids) asker ∷ below) GoesOn u e =
    let now : Turn = turn t (IterOf context (id ∷ ids) asker ∷ below) GoesOn in
    subst (On s n now) (some_same _ _ e) (id_on s n tick now context (row_of context id now.lane))
step_on s n script tick t (LoopOf number context ∷ below) GoesOn u e =
    let now : Turn = turn t (LoopOf number context ∷ below) GoesOn in
    loop_on s n script tick now number context (is_running number now.lane) now.iterated u e
step_on s n script tick t frames Ended u e = cc
step_on s n script tick t frames Halted u e = cc

-- ---- a poll

late_untold : (s n tick : ℕ) (lane : Lane) (number : ℕ) (late : Bool) → results s n (lane.trace ++ one_if late (late_line tick lane.number number)) ≡ results s n lane.trace
late_untold s n tick lane number true = results_other s n tick (events.TaskLate lane.number number) lane.trace refl
late_untold s n tick lane number false = ap (results s n) (append-nil lane.trace)

reply_homed : (m : ℕ) (task : Started) (o : Option Outcome) → task.ctx < m → IsHomedMail m (mail_of (option_map (reply_of task) o))
reply_homed m task None h = tt
reply_homed m task (Some outcome) h = h

stays_placed : (m : ℕ) (tasks : List Started) (task : Started) (stays : Bool) → ArePlaced m tasks → task.ctx < m → ArePlaced m (tasks ++ one_if stays task)
stays_placed m tasks task true h p = each-push (λ (t : Started). t.ctx < m) tasks task h p
stays_placed m tasks task false h p = subst (ArePlaced m) (sym (append-nil tasks)) h

polled_on : (s n tick : ℕ) (t : Turn) (task : Started) (tasks : List Started) → On s n (record t { unpolled = task ∷ tasks }) (polled tick task (record t { unpolled = tasks }))
polled_on s n tick t task tasks = record {
  moves = record { sum = omega (arith, late_untold s n tick t.lane task.number (is_late_at tick t.lane.tasks task)); fresh = λ f. f };
  homes = λ m z g. record {
    lane = record { all = g.lane.all; defaults = g.lane.defaults; tasks = stays_placed m t.lane.tasks.started task (stays_at tick t.lane.tasks task) g.lane.tasks g.unpolled.0 };
    unpolled = g.unpolled.1;
    posted = posted_homed m tick t.lane.number t.sent t.posted (mail_of (reply_at tick t.lane.tasks task)) g.posted (reply_homed m task (reply_in tick task.spec.return_on_cancel (first_seen t.lane.tasks.came task) (end_of_task t.lane.tasks.tick_us t.lane.tasks.came task)) g.unpolled.0);
  };
}

polling_on : (s n : ℕ) (script : Plan) (tick : ℕ) (t : Turn) (tasks : List Started) (u : Turn) → step_polling script tick (record t { unpolled = tasks }) tasks ≡ Some u → On s n (record t { unpolled = tasks }) u
polling_on s n script tick t [] u e = step_on s n script tick t t.lane.frames t.lane.status u e
polling_on s n script tick t (task ∷ tasks) u e = subst (On s n (record t { unpolled = task ∷ tasks })) (some_same _ _ e) (polled_on s n tick t task tasks)

-- ---- a turn

pub turned_moves : (s n : ℕ) (script : Plan) (tick : ℕ) (lane : Lane) → Moves s n lane (turned script tick lane)
turned_moves s n script tick lane =
    kept_finished script tick (λ t. Moves s n lane t.lane) (λ t u e h. moves_trans s n lane t.lane u.lane h (polling_on s n script tick t t.unpolled u e).moves) (begun tick lane) (record { sum = refl; fresh = λ f. f })

pub turned_homes : (m : ℕ) (script : Plan) (tick : ℕ) (lane : Lane) → 0 < m → IsPlaced m lane → IsPlaced m (turned script tick lane) × AreHomed m (out_of script tick lane)
turned_homes m script tick lane z p =
    let h : Homes m (finished script tick (begun tick lane)) =
    kept_finished script tick (Homes m) (λ t u e g. (polling_on 0 0 script tick t t.unpolled u e).homes m z g) (begun tick lane) (record { lane = record { all = p.all; defaults = p.defaults; tasks = tt }; unpolled = p.tasks; posted = tt }) in
    (h.lane, h.posted)
