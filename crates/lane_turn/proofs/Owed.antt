-- Each reply is posted once.
use Rattle.std.proofs.Common.{◌≡◌, ℕ, zero, suc, ◌+◌, Bool, true, false, cond, Option, Some, None, List, [], ◌∷◌, map, length, refl, ap, sym, ◌∙◌, arith, subst, inl, inr, le-leb}
use Rattle.std.specs.Prelude.{slice_get, nat_le}
use Rattle.std.specs.List.{range_with_len}
use Rattle.loop_script.specs.declared.plan.Plan.{Plan}
use Rattle.loop_script.specs.declared.action.Action.{Action}
use Rattle.loop_script.specs.declared.action.Action.TheVariants.{Cancel, Invoke, Give}
use Rattle.loop_script.specs.Parts.{actions_of}
use Rattle.source_rows.specs.declared.row.Row.{Row}
use Rattle.cancel_view.specs.Seen.{Seen, has}
use Rattle.post_office.specs.declared.letter.Letter.{Letter}
use Rattle.post_office.specs.declared.letter.Body.{Body as Mail}
use Rattle.post_office.specs.declared.letter.Body.TheVariants as mails
use Rattle.lane_watch.specs.Tasks.{Started, Tasks, reply_at, stays_at}
use Rattle.lane_watch.specs.Watch.{AreDated}
use Rattle.lane_watch.proofs.Dated.{dated_none}
use Rattle.lane_turn.specs.declared.line.Event.TheVariants as events
use Rattle.lane_turn.specs.declared.lane.Status.{Status}
use Rattle.lane_turn.specs.declared.lane.Status.TheVariants.{GoesOn, Ended, Halted}
use Rattle.lane_turn.specs.declared.layer.Call.{Call}
use Rattle.lane_turn.specs.Frames.{Frame, CallOf, IterOf, LoopOf}
use Rattle.lane_turn.specs.Lane.{Lane, Turn, popped, taken, row_of, iterating, is_running, written, is_own}
use Rattle.lane_turn.specs.Handover.{Handing, all_handed, may_give}
use Rattle.lane_turn.proofs.GoingOver.{handed_part}
use Rattle.lane_turn.specs.Owned.{invoke_spec}
use Rattle.lane_turn.specs.Acted.{acted, sends}
use Rattle.lane_turn.specs.Step.{step, step_polling, step_call, step_id, limited_by, with_lane, dispatching, polled, posted_with, mail_of, one_if}
use Rattle.lane_turn.specs.Turn.{begun, finished, turned, out_of}
use Rattle.lane_turn.specs.Deliver.{received, received_all}
use Rattle.lane_turn.specs.Tick.{posted_at, lanes_at}
use Rattle.lane_turn.specs.Owed.{one_for, owed_by, owed, replied, lane_under, posted_before, mail_of_run, over_of_run}
use Rattle.lane_turn.proofs.Keeps.{Keeps, Changes, keep, acted_changes, received_changes, keeps_dispatching, keeps_returned, keeps_answered}
use Rattle.lane_turn.proofs.Owing.{Owes, mail_count, polled_one, replied_posted, owed_push, owed_if, changes_owed, changes_dated}
use Rattle.lane_turn.proofs.Turns.{kept_finished}
use Rattle.lane_turn.proofs.Finish.{no_step_left}
use Rattle.lane_turn.specs.declared.layer.Asker.TheVariants as askers

-- ---- a step

some_same : (t u : Turn) → Some t ≡ Some u → t ≡ u
some_same t u e = cc

-- no action sends a reply
pub sends_none : (n : ℕ) (script : Plan) (action : Action) (lane : Lane) → mail_count n (sends script action lane) ≡ 0
sends_none n script (Cancel c) lane = by (has c lane.view)
  where
    by : (b : Bool) → mail_count n (cond b None (Some (mails.Cancelled c))) ≡ 0
    by true = refl
    by false = refl
sends_none n script (Invoke context proc) lane = by (is_own context lane)
  where
    by : (b : Bool) → mail_count n (cond b None (Some (mails.Attach context (invoke_spec proc)))) ≡ 0
    by true = refl
    by false = refl
sends_none n script (Give context to) lane = by (may_give script context to lane)
  where
    by : (b : Bool) → mail_count n (cond b (Some (mails.Give context to)) None) ≡ 0
    by true = refl
    by false = refl
sends_none n script _ lane = refl

-- the same of a lane whose innermost call has taken an action, or was left
taken_changes : (k : ℕ) (lane after : Lane) → Changes k (taken lane) after → Changes k lane after
taken_changes k lane after (inl h) = inl (keep lane after h.tasks h.members)
taken_changes k lane after (inr (inl h)) = inr (inl (record { spec = h.spec; context = h.context; tasks = h.tasks; members = h.members }))
taken_changes k lane after (inr (inr h)) = inr (inr (record { c = h.c; new = h.new; tasks = h.tasks; members = h.members }))

lane_owes : (k n total : ℕ) (t : Turn) (after : Lane) (posted : List Letter) → t.unpolled ≡ [] → Changes k t.lane after → replied n posted ≡ replied n t.posted → Owes k n total t →
    (AreDated after.tasks.came after.view.members) × (replied n posted + owed_by k n after.tasks t.unpolled + owed (k + 1) n after.tasks ≡ total)
lane_owes k n total t after posted none c p h =
    let before : owed_by k n t.lane.tasks t.unpolled ≡ 0 = ap (owed_by k n t.lane.tasks) none in
    let now : owed_by k n after.tasks t.unpolled ≡ 0 = ap (owed_by k n after.tasks) none in
    (changes_dated k t.lane after c h.dated, omega (arith, before, now, p, changes_owed k n t.lane after c h.dated, h.sum))

counted_owes : (k n total : ℕ) (mail : Option Mail) (f : Lane → Lane) (t : Turn) (left : ℕ) → t.unpolled ≡ [] → mail_count n mail ≡ 0 → Changes k t.lane (f t.lane) → Owes k n total t → Owes k n total (limited_by k mail f t left)
counted_owes k n total mail f t zero none m c h = record { dated = h.dated; sum = h.sum }
counted_owes k n total mail f t (suc left) none m c h =
    let posted : List Letter = posted_with k t.lane.number t.sent t.posted mail in
    let same : replied n posted ≡ replied n t.posted = omega (arith, m, replied_posted n k t.lane.number t.sent t.posted mail) in
    let all = lane_owes k n total t (f t.lane) posted none c same h in
    record { dated = all.0; sum = all.1 }

freely_owes : (k n total : ℕ) (t : Turn) (after : Lane) (iterated : Bool) → t.unpolled ≡ [] → Keeps t.lane after → Owes k n total t → Owes k n total (record t { lane = after; iterated = iterated })
freely_owes k n total t after iterated none c h = let all = lane_owes k n total t after t.posted none (inl c) refl h in record { dated = all.0; sum = all.1 }

call_owes : (script : Plan) (k n total : ℕ) (t : Turn) (call : Call) (a : Option Action) → t.unpolled ≡ [] → Owes k n total t → Owes k n total (step_call script k t call a)
call_owes script k n total t call (Some a) none h =
    counted_owes k n total (sends script a (taken t.lane)) (λ lane. acted script k a (taken lane)) t t.left none (sends_none n script a (taken t.lane)) (taken_changes k t.lane _ (acted_changes script k a (taken t.lane))) h
call_owes script k n total t call None none h =
    let r = keeps_returned script k call.body call.origin (popped t.lane) in
    freely_owes k n total t _ t.iterated none (keep t.lane _ r.tasks r.members) h

id_owes : (k n total : ℕ) (t : Turn) (context : ℕ) (r : Option Row) → t.unpolled ≡ [] → Owes k n total t → Owes k n total (step_id k t context r)
id_owes k n total t context None none h = freely_owes k n total t (taken t.lane) t.iterated none (keep t.lane (taken t.lane) refl refl) h
id_owes k n total t context (Some row) none h = counted_owes k n total None (dispatching k context row) t t.left none refl (inl (keeps_dispatching k context row t.lane)) h

loop_owes : (script : Plan) (k n total : ℕ) (t : Turn) (number context : ℕ) (runs iterated : Bool) (u : Turn)
    → cond runs (cond iterated None (Some (record t { lane = iterating script k context askers.Loop t.lane; iterated = true }))) (Some (with_lane (λ lane. written k (events.LoopEnd number) (popped lane)) t)) ≡ Some u → t.unpolled ≡ [] → Owes k n total t → Owes k n total u
loop_owes script k n total t number context true true u e none h = cc
loop_owes script k n total t number context true false u e none h =
    let after : Lane = iterating script k context askers.Loop t.lane in
    subst (Owes k n total) (some_same _ _ e) (freely_owes k n total t after true none (keep t.lane after refl refl) h)
loop_owes script k n total t number context false iterated u e none h =
    let after : Lane = written k (events.LoopEnd number) (popped t.lane) in
    subst (Owes k n total) (some_same _ _ e) (freely_owes k n total t after t.iterated none (keep t.lane after refl refl) h)

abbrev turn : Turn → List Frame → Status → Turn
turn t frames status = record t { lane = record t.lane { frames = frames; status = status }; unpolled = [] }

step_owes : (script : Plan) (k n total : ℕ) (t : Turn) (frames : List Frame) (status : Status) (u : Turn) → step script k (turn t frames status) ≡ Some u → Owes k n total (turn t frames status) → Owes k n total u
step_owes script k n total t [] GoesOn u e h = cc
step_owes script k n total t (CallOf call ∷ below) GoesOn u e h =
    let now : Turn = turn t (CallOf call ∷ below) GoesOn in
    subst (Owes k n total) (some_same _ _ e) (call_owes script k n total now call (slice_get (actions_of script call.body) call.place) refl h)
step_owes script k n total t (IterOf context [] asker ∷ below) GoesOn u e h =
    let now : Turn = turn t (IterOf context [] asker ∷ below) GoesOn in
    let a = keeps_answered k context asker (popped now.lane) in
    subst (Owes k n total) (some_same _ _ e) (freely_owes k n total now _ now.iterated refl (keep now.lane _ a.tasks a.members) h)
step_owes script k n total t (IterOf context (id ∷ ids) asker ∷ below) GoesOn u e h =
    let now : Turn = turn t (IterOf context (id ∷ ids) asker ∷ below) GoesOn in
    subst (Owes k n total) (some_same _ _ e) (id_owes k n total now context (row_of context id now.lane) refl h)
step_owes script k n total t (LoopOf number context ∷ below) GoesOn u e h =
    let now : Turn = turn t (LoopOf number context ∷ below) GoesOn in
    loop_owes script k n total now number context (is_running number now.lane) now.iterated u e refl h
step_owes script k n total t frames Ended u e h = cc
step_owes script k n total t frames Halted u e h = cc

polled_owes : (k n total : ℕ) (t : Turn) (task : Started) (tasks : List Started) → Owes k n total (record t { unpolled = task ∷ tasks }) → Owes k n total (polled k task (record t { unpolled = tasks }))
polled_owes k n total t task tasks h =
    let mail : Option Mail = mail_of (reply_at k t.lane.tasks task) in
    let stays : Bool = stays_at k t.lane.tasks task in
    let posted = replied_posted n k t.lane.number t.sent t.posted mail in
    let list = owed_push (k + 1) n t.lane.tasks t.lane.tasks.started (one_if stays task) in
    record { dated = h.dated; sum = omega (arith, h.sum, posted, list, owed_if (k + 1) n t.lane.tasks task stays, polled_one n k t.lane.tasks task) }

polling_owes : (script : Plan) (k n total : ℕ) (t : Turn) (tasks : List Started) (u : Turn) → step_polling script k (record t { unpolled = tasks }) tasks ≡ Some u → Owes k n total (record t { unpolled = tasks }) → Owes k n total u
polling_owes script k n total t [] u e h = step_owes script k n total t t.lane.frames t.lane.status u e h
polling_owes script k n total t (task ∷ tasks) u e h = subst (Owes k n total) (some_same _ _ e) (polled_owes k n total t task tasks h)

-- ---- a turn

all_polled : (script : Plan) (k : ℕ) (t : Turn) (ts : List Started) → step_polling script k t ts ≡ None → ts ≡ []
all_polled script k t [] e = refl
all_polled script k t (task ∷ ts) e = cc

turn_owes : (script : Plan) (k n : ℕ) (lane : Lane) → AreDated lane.tasks.came lane.view.members → Owes k n (owed k n lane.tasks) (finished script k (begun k lane))
turn_owes script k n lane d =
    kept_finished script k (Owes k n (owed k n lane.tasks)) (λ t u e h. polling_owes script k n (owed k n lane.tasks) t t.unpolled u e h) (begun k lane) (record { dated = d; sum = omega arith })

turned_owed : (script : Plan) (k n : ℕ) (lane : Lane) → AreDated lane.tasks.came lane.view.members → replied n (out_of script k lane) + owed (k + 1) n (turned script k lane).tasks ≡ owed k n lane.tasks
turned_owed script k n lane d =
    let t : Turn = finished script k (begun k lane) in
    let none : owed_by k n t.lane.tasks t.unpolled ≡ 0 = ap (owed_by k n t.lane.tasks) (all_polled script k t t.unpolled (no_step_left script k (begun k lane))) in
    omega (arith, (turn_owes script k n lane d).sum, none)

-- ---- a delivery

received_owed : (script : Plan) (k n : ℕ) (letters : List Letter) (lane : Lane) → AreDated lane.tasks.came lane.view.members →
    (AreDated (received_all script k letters lane).tasks.came (received_all script k letters lane).view.members) × (owed (k + 1) n (received_all script k letters lane).tasks ≡ owed (k + 1) n lane.tasks)
received_owed script k n [] lane d = (d, refl)
received_owed script k n (l ∷ letters) lane d =
    let next : Lane = received script k l lane in
    let c = received_changes script k l.sender l.body lane in
    let rest = received_owed script k n letters next (changes_dated k lane next c d) in
    (rest.0, rest.1 ∙ changes_owed k n lane next c d)

-- ---- a run

-- what goes over leaves the tasks and the view
dated_over : (k : ℕ) (hs : List Handing) (lane : Lane) → AreDated lane.tasks.came lane.view.members → AreDated (all_handed k hs lane).tasks.came (all_handed k hs lane).view.members
dated_over k hs lane d = subst (λ (p : Tasks × Seen). AreDated (p.0).came (p.1).members) (sym (handed_part (λ (l : Lane). (l.tasks, l.view)) k (λ kept l. refl) (λ c l. refl) hs lane)) d

owed_over : (k j n : ℕ) (hs : List Handing) (lane : Lane) → owed j n (all_handed k hs lane).tasks ≡ owed j n lane.tasks
owed_over k j n hs lane = ap (owed j n) (handed_part (λ (l : Lane). l.tasks) k (λ kept l. refl) (λ c l. refl) hs lane)

under_dated : (script : Plan) (mail : ℕ → List Letter) (over : ℕ → List Handing) (lane k : ℕ) → AreDated (lane_under script mail over lane k).tasks.came (lane_under script mail over lane k).view.members
under_dated script mail over lane zero = dated_none script.cancellables
under_dated script mail over lane (suc k) =
    let before : Lane = lane_under script mail over lane k in
    let turn : Lane = turned script k before in
    (received_owed script k 0 (mail k) (all_handed k (over k) turn) (dated_over k (over k) turn (turn_owes script k 0 before (under_dated script mail over lane k)).dated)).0

pub posted_once : (script : Plan) (mail : ℕ → List Letter) (over : ℕ → List Handing) (lane number tick : ℕ) → posted_before script mail over lane number tick + owed tick number (lane_under script mail over lane tick).tasks ≡ 1
posted_once script mail over lane number zero = let all : nat_le 0 number ≡ true = le-leb 0 number (omega arith) in omega (arith, ap one_for all)
posted_once script mail over lane number (suc k) =
    let before : Lane = lane_under script mail over lane k in
    let turn : Lane = turned script k before in
    let d = under_dated script mail over lane k in
    let owes = turned_owed script k number before d in
    let rest = received_owed script k number (mail k) (all_handed k (over k) turn) (dated_over k (over k) turn (turn_owes script k number before d).dated) in
    let next : owed (suc k) number (lane_under script mail over lane (suc k)).tasks ≡ owed (k + 1) number (lane_under script mail over lane (suc k)).tasks = ap (λ (j : ℕ). owed j number (lane_under script mail over lane (suc k)).tasks) (let e : suc k ≡ k + 1 = omega arith in e) in
    omega (arith, posted_once script mail over lane number k, owes, rest.1, owed_over k (k + 1) number (over k) turn, next)

mapped_on : (f g h : Lane → Lane) (u v : ℕ → Lane) → ((n : ℕ) → v n ≡ f (g (h (u n)))) → (ns : List ℕ) → map f (map g (map h (map u ns))) ≡ map v ns
mapped_on f g h u v e [] = refl
mapped_on f g h u v e (n ∷ ns) = ap (λ x. x ∷ map f (map g (map h (map u ns)))) (sym (e n)) ∙ ap (λ xs. v n ∷ xs) (mapped_on f g h u v e ns)

pub run_under : (script : Plan) (tick : ℕ) → lanes_at script tick ≡ map (λ lane. lane_under script (mail_of_run script) (over_of_run script) lane tick) (range_with_len 0 (length script.lanes))
run_under script zero = refl
run_under script (suc k) =
    let letters : List Letter = posted_at script k (lanes_at script k) in
    let hs : List Handing = over_of_run script k in
    let numbers : List ℕ = range_with_len 0 (length script.lanes) in
    ap (λ (lanes : List Lane). map (received_all script k letters) (map (all_handed k hs) (map (turned script k) lanes))) (run_under script k)
    ∙ mapped_on (received_all script k letters) (all_handed k hs) (turned script k) (λ lane. lane_under script (mail_of_run script) (over_of_run script) lane k) (λ lane. lane_under script (mail_of_run script) (over_of_run script) lane (suc k)) (λ n. refl) numbers
