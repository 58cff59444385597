-- A turn whose post held letters before: the same turn, behind them.
use Rattle.std.proofs.Common.{◌≡◌, ℕ, zero, suc, Bool, true, false, cond, Option, Some, None, List, [], ◌∷◌, ◌++◌, refl, ap, ◌∙◌, append_assoc}
use Rattle.std.specs.Prelude.{slice_get}
use Rattle.std.specs.Option.{option_map_or}
use Rattle.loop_script.specs.declared.plan.Plan.{Plan}
use Rattle.loop_script.specs.declared.action.Action.{Action}
use Rattle.loop_script.specs.Parts.{actions_of}
use Rattle.source_rows.specs.declared.row.Row.{Row}
use Rattle.post_office.specs.declared.letter.Letter.{Letter}
use Rattle.post_office.specs.declared.letter.Body.{Body as Mail}
use Rattle.lane_watch.specs.Tasks.{Started}
use Rattle.lane_turn.specs.declared.lane.Status.{Status}
use Rattle.lane_turn.specs.declared.lane.Status.TheVariants.{GoesOn, Ended, Halted}
use Rattle.lane_turn.specs.declared.layer.Call.{Call}
use Rattle.lane_turn.specs.declared.layer.Top.{Top}
use Rattle.lane_turn.specs.declared.layer.Top.TheVariants as tops
use Rattle.lane_turn.specs.Frames.{top_of}
use Rattle.lane_turn.specs.Lane.{Lane, Turn, taken, row_of, is_running}
use Rattle.lane_turn.specs.Acted.{acted, sends}
use Rattle.lane_turn.specs.Step.{step, step_polling, step_going, step_top, step_call, step_id, step_iteration, limited_by, dispatching, polled, letter, sent_with, posted_with}
use Rattle.lane_turn.specs.Turn.{work, finish, finished}
use Rattle.lane_turn.specs.declared.layer.Asker.{Asker}

abbrev pub behind : List Letter → Turn → Turn
behind front t = record t { posted = front ++ t.posted }

abbrev opt : List Letter → Option Turn → Option Turn
opt front None = None
opt front (Some t) = Some (behind front t)

posted_behind : (front : List Letter) (tick : ℕ) (t : Turn) (mail : Option Mail) → posted_with tick t.lane.number t.sent (front ++ t.posted) mail ≡ front ++ posted_with tick t.lane.number t.sent t.posted mail
posted_behind front tick t None = refl
posted_behind front tick t (Some body) = append_assoc front t.posted (letter tick t.lane.number t.sent body ∷ [])

counted_behind : (front : List Letter) (tick : ℕ) (mail : Option Mail) (f : Lane → Lane) (t : Turn) (left : ℕ) → limited_by tick mail f (behind front t) left ≡ behind front (limited_by tick mail f t left)
counted_behind front tick mail f t zero = refl
counted_behind front tick mail f t (suc n) = ap (λ (l : List Letter). record t { lane = f t.lane; left = n; sent = sent_with mail t.sent; posted = l }) (posted_behind front tick t mail)

call_behind : (front : List Letter) (script : Plan) (tick : ℕ) (t : Turn) (call : Call) (a : Option Action) → step_call script tick (behind front t) call a ≡ behind front (step_call script tick t call a)
call_behind front script tick t call (Some a) = counted_behind front tick (sends script a (taken t.lane)) (λ lane. acted script tick a (taken lane)) t t.left
call_behind front script tick t call None = refl

id_behind : (front : List Letter) (tick : ℕ) (t : Turn) (context : ℕ) (r : Option Row) → step_id tick (behind front t) context r ≡ behind front (step_id tick t context r)
id_behind front tick t context None = refl
id_behind front tick t context (Some row) = counted_behind front tick None (dispatching tick context row) t t.left

iteration_behind : (front : List Letter) (tick : ℕ) (t : Turn) (context : ℕ) (asker : Asker) (next : Option ℕ) → step_iteration tick (behind front t) context asker next ≡ behind front (step_iteration tick t context asker next)
iteration_behind front tick t context asker None = refl
iteration_behind front tick t context asker (Some id) = id_behind front tick t context (row_of context id t.lane)

loop_behind : (front : List Letter) (runs iterated : Bool) (u v : Turn) → cond runs (cond iterated None (Some (behind front u))) (Some (behind front v)) ≡ opt front (cond runs (cond iterated None (Some u)) (Some v))
loop_behind front true true u v = refl
loop_behind front true false u v = refl
loop_behind front false iterated u v = refl

top_behind : (front : List Letter) (script : Plan) (tick : ℕ) (t : Turn) (top : Top) → step_top script tick (behind front t) top ≡ opt front (step_top script tick t top)
top_behind front script tick t tops.Nothing = refl
top_behind front script tick t (tops.Call call) = ap (λ (u : Turn). Some u) (call_behind front script tick t call (slice_get (actions_of script call.body) call.place))
top_behind front script tick t (tops.Iteration context next asker) = ap (λ (u : Turn). Some u) (iteration_behind front tick t context asker next)
top_behind front script tick t (tops.Loop number context) = loop_behind front (is_running number t.lane) t.iterated _ _

going_behind : (front : List Letter) (script : Plan) (tick : ℕ) (t : Turn) (status : Status) → step_going script tick (behind front t) status ≡ opt front (step_going script tick t status)
going_behind front script tick t GoesOn = top_behind front script tick t (top_of t.lane.frames)
going_behind front script tick t Ended = refl
going_behind front script tick t Halted = refl

polled_behind : (front : List Letter) (tick : ℕ) (task : Started) (t : Turn) → polled tick task (behind front t) ≡ behind front (polled tick task t)
polled_behind front tick task t = ap (λ (l : List Letter). record (polled tick task t) { posted = l }) (posted_behind front tick t _)

polling_behind : (front : List Letter) (script : Plan) (tick : ℕ) (t : Turn) (tasks : List Started) → step_polling script tick (behind front t) tasks ≡ opt front (step_polling script tick t tasks)
polling_behind front script tick t [] = going_behind front script tick t t.lane.status
polling_behind front script tick t (task ∷ tasks) = ap (λ (u : Turn). Some u) (polled_behind front tick task (record t { unpolled = tasks }))

finish_by : (front : List Letter) (script : Plan) (tick n : ℕ) (t : Turn) (o : Option Turn) → ((u : Turn) → finish script tick n (behind front u) ≡ behind front (finish script tick n u))
    → option_map_or (finish script tick n) (opt front o) (behind front t) ≡ behind front (option_map_or (finish script tick n) o t)
finish_by front script tick n t None ih = refl
finish_by front script tick n t (Some u) ih = ih u

finish_behind : (front : List Letter) (script : Plan) (tick n : ℕ) (t : Turn) → finish script tick n (behind front t) ≡ behind front (finish script tick n t)
unfolding finish
finish_behind front script tick zero t = refl
finish_behind front script tick (suc n) t =
    ap (λ (o : Option Turn). option_map_or (finish script tick n) o (behind front t)) (polling_behind front script tick t t.unpolled)
    ∙ finish_by front script tick n t (step script tick t) (λ u. finish_behind front script tick n u)

pub finished_behind : (front : List Letter) (script : Plan) (tick : ℕ) (t : Turn) → finished script tick (behind front t) ≡ behind front (finished script tick t)
unfolding finished
finished_behind front script tick t = finish_behind front script tick (work t) t
