-- What each action does, said once: by which moves its lane goes on. What is so of each move is so of each action.
use Rattle.std.proofs.Common.{◌≡◌, ℕ, ℤ, zero, suc, ◌+◌, ◌<◌, ◌≤◌, ◌==◌, Bool, true, false, ◌&&◌, cond, Option, Some, None, List, [], ◌∷◌, ◌++◌, filter, slice_set, option_map, refl, arith}
use Rattle.std.specs.Prelude.{nat_lt, is_some, is_none, not, slice_get}
use Rattle.loop_script.specs.declared.plan.Plan.{Plan}
use Rattle.loop_script.specs.declared.source.SourceSpec.{SourceSpec}
use Rattle.loop_script.specs.declared.task.TaskSpec.{TaskSpec}
use Rattle.loop_script.specs.declared.action.Action.{Action}
use Rattle.loop_script.specs.declared.action.Action.TheVariants as actions
use Rattle.loop_script.specs.declared.body.Body.TheVariants.{Procedure}
use Rattle.loop_script.specs.Parts.{time_of, actions_of, context_of}
use Rattle.source_rows.specs.declared.row.Row.{Row}
use Rattle.source_rows.specs.Rows.{RowSet, attached, child_added, child_fault, destroyed, ready_set, reprioritised, priority_fault, row_of as row_with}
use Rattle.context_core.specs.declared.context.Context.{Context}
use Rattle.context_core.specs.Defaults.{acquired, released, is_on_top, pushed as stacked, popped as unstacked}
use Rattle.cancel_view.specs.declared.handler.Fired.{Fired}
use Rattle.cancel_view.specs.Seen.{Seen, has, fired, cancelled, connected, has_other_id, may_disconnect, without}
use Rattle.post_office.specs.declared.letter.Body.{Body as Mail}
use Rattle.post_office.specs.declared.letter.Body.TheVariants as mails
use Rattle.lane_turn.specs.declared.line.Event.{Event}
use Rattle.lane_turn.specs.declared.line.Event.TheVariants as events
use Rattle.lane_turn.specs.declared.line.Invoked.TheVariants.{Attached, Posted}
use Rattle.lane_turn.specs.declared.line.Word.{Word}
use Rattle.lane_turn.specs.declared.line.Word.TheVariants as words
use Rattle.lane_turn.specs.declared.layer.Asker.TheVariants as askers
use Rattle.lane_turn.specs.declared.lane.Status.TheVariants.{Halted}
use Rattle.lane_turn.specs.declared.slot.Place.{Place}
use Rattle.lane_turn.specs.declared.slot.Named.{Named}
use Rattle.lane_turn.specs.declared.slot.Named.TheVariants.{Source, Handler}
use Rattle.lane_turn.specs.Frames.{LoopOf, calls_in_progress}
use Rattle.lane_turn.specs.Lane.{Lane, present, context_at, is_given, is_own, with_rows, with_context, edited, next_id, next_place, row_at, place_at, handler_at, written, pushed, stopped, set_running, set_slot, viewing, noting, chosen, is_any, iterating}
use Rattle.lane_turn.specs.Owned.{default_context, is_owned, may_release, invoke_spec, calling, called_at_once, invoke_own}
use Rattle.lane_turn.specs.Handover.{may_give, with_given}
use Rattle.lane_turn.specs.Acted.{missed, born, can_bear_in, can_bear, child_of, on_source, set_priority_of, plain_acted, all_acted, handled, all_handled, cancel, connect, disconnect_of, start_task, acted, sends}

-- ---- plain moves: what handlers do, and what may come behind another move

-- a line is written; a slot names something; a loop is quit; a source goes, with all under it, or gets a ready time
pub data PlainMove : Type 0 where
  Write : (event : Event) → PlainMove
  Name : (slot : ℕ) (thing : Named) → PlainMove
  Stop : (number : ℕ) → PlainMove
  Destroy : (place : Place) → PlainMove
  SetReady : (us : ℤ) (place : Place) → PlainMove

-- the lane after a plain move
abbrev pub plainly : ℕ → PlainMove → Lane → Lane
plainly tick (Write event) lane = written tick event lane
plainly tick (Name slot thing) lane = set_slot slot thing lane
plainly tick (Stop number) lane = set_running number false lane
plainly tick (Destroy place) lane = edited place.context (destroyed place.id) lane
plainly tick (SetReady us place) lane = edited place.context (ready_set place.id us) lane

-- whether it is an action that acts, and no handler
abbrev pub ByItself : Bool → Type 0
ByItself true = Unit {0}
ByItself false = ⊥

-- what an action writes, by itself or by its handlers
abbrev pub IsSaid : Bool → Event → Type 0
IsSaid acts (events.Log n) = Unit {0}
IsSaid acts (events.Miss word) = Unit {0}
IsSaid acts (events.Handler id) = Unit {0}
IsSaid acts (events.Cancel c) = Unit {0}
IsSaid acts (events.Iterate context any) = ByItself acts
IsSaid acts (events.Pending context any) = ByItself acts
IsSaid acts (events.Acquire context did) = ByItself acts
IsSaid acts (events.Default context) = ByItself acts
IsSaid acts (events.Invoke context how) = ByItself acts
IsSaid acts (events.Give context to) = ByItself acts
IsSaid acts _ = ⊥

-- what a slot names: a handler, or a source whose id was given
abbrev pub IsThere : Named → Lane → Type 0
IsThere (Source place) lane = place.id < next_id (context_at place.context lane)
IsThere (Handler id) lane = Unit {0}

-- when a plain move may come, of an action itself or of a handler
abbrev pub IsPlain : Bool → PlainMove → Lane → Type 0
IsPlain acts (Write event) lane = IsSaid acts event
IsPlain acts (Name slot thing) lane = ByItself acts × IsThere thing lane
IsPlain acts (Stop number) lane = Unit {0}
IsPlain acts (Destroy place) lane = is_some (row_at place lane) ≡ true
IsPlain acts (SetReady us place) lane = is_some (row_at place lane) ≡ true

-- what is so of no move, of one after others, and of each plain move
pub record PlainLaw (acts : Bool) (tick : ℕ) (Q : Lane → Lane → Type 0) : Type 0 where
  pub none : (lane : Lane) → Q lane lane
  pub next : (a b c : Lane) → Q a b → Q b c → Q a c
  pub each : (move : PlainMove) (lane : Lane) → IsPlain acts move lane → Q lane (plainly tick move lane)

-- ---- the other moves, of which an action makes one at most

-- a change of one context: it gets a source, or a child of one; a source gets a priority; it is acquired or released
pub data Change : Type 0 where
  Attach : (spec : SourceSpec) (now : ℕ) → Change
  Bear : (spec : SourceSpec) (now id : ℕ) → Change
  Reprioritise : (id : ℕ) (priority : ℤ) → Change
  Acquire : Change
  Release : Change

-- the context after a change
abbrev pub changed_by : Change → Context → Context
changed_by (Attach spec now) c = with_rows (attached spec now) c
changed_by (Bear spec now id) c = with_rows (born spec now id) c
changed_by (Reprioritise id priority) c = with_rows (reprioritised id priority) c
changed_by Acquire c = acquired c
changed_by Release c = released c

-- when a change may come
abbrev pub MayChange : ℕ → Change → Lane → Type 0
MayChange context (Attach spec now) lane = is_own context lane ≡ true
MayChange context (Bear spec now id) lane = can_bear (record { context = context; id = id }) lane ≡ true
MayChange context (Reprioritise id priority) lane = is_none (priority_fault (row_at (record { context = context; id = id }) lane)) ≡ true
MayChange context Acquire lane = is_own context lane ≡ true
MayChange context Release lane = may_release (context_at context lane) ≡ true

-- a context is changed; an iteration, a run of a loop or a call of an invoke is begun, or the lane halts for its depth; a cancellable comes into
-- the view, or the view gets other handlers; a task is started; a context is pushed or popped; an invoke is posted; a context is given
pub data Move : Type 0 where
  Alter : (context : ℕ) (change : Change) → Move
  Iterate : (context : ℕ) → Move
  Run : (number context : ℕ) → Move
  Call : (context proc : ℕ) (acquires : Option ℕ) → Move
  Halt : Move
  Note : (c : ℕ) → Move
  View : (view : Seen) → Move
  Start : (spec : TaskSpec) → Move
  Push : (context : ℕ) → Move
  Pop : (context : ℕ) → Move
  Post : (context proc : ℕ) → Move
  Give : (context to : ℕ) → Move

-- a cancellable has come into the view
abbrev pub noticed : (tick c : ℕ) → Lane → Lane
noticed tick c lane = noting tick c (viewing (cancelled c lane.view) lane)

-- the same told, and its handlers called
abbrev all_noticed : Plan → (tick c : ℕ) → Lane → Lane
all_noticed script tick c lane = all_handled script tick (fired c lane.view) (written tick (events.Cancel c) (noticed tick c lane))

-- the lane after a move
abbrev pub moved : Plan → ℕ → Move → Lane → Lane
moved script tick (Alter context change) lane = with_context context (changed_by change) lane
moved script tick (Iterate context) lane = iterating script tick context (askers.Iterate (is_any (chosen script tick context lane))) lane
moved script tick (Run number context) lane = pushed (LoopOf number context) (set_running number true lane)
moved script tick (Call context proc acquires) lane = calling tick context proc acquires lane
moved script tick Halt lane = stopped Halted (written tick events.HaltDepth lane)
moved script tick (Note c) lane = noticed tick c lane
moved script tick (View view) lane = viewing view lane
moved script tick (Start spec) lane = start_task tick spec lane
moved script tick (Push context) lane = record lane { defaults = stacked context lane.defaults }
moved script tick (Pop context) lane = record lane { defaults = unstacked context lane.defaults }
moved script tick (Post context proc) lane = lane
moved script tick (Give context to) lane = with_given context true lane

-- the letter that a move sends
abbrev pub mail_by : Move → Option Mail
mail_by (Note c) = Some (mails.Cancelled c)
mail_by (Post context proc) = Some (mails.Attach context (invoke_spec proc))
mail_by (Give context to) = Some (mails.Give context to)
mail_by _ = None

-- what a call acquires: nothing, or the context that it is invoked in
abbrev pub IsOrNone : Option ℕ → ℕ → Type 0
IsOrNone None context = Unit {0}
IsOrNone (Some c) context = context ≡ c

-- when a move may come
abbrev pub MayMove : Plan → Move → Lane → Type 0
MayMove script (Alter context change) lane = MayChange context change lane
MayMove script (Iterate context) lane = is_own context lane ≡ true
MayMove script (Run number context) lane = is_own context lane ≡ true
MayMove script (Call context proc acquires) lane = (is_own context lane ≡ true) × (nat_lt (calls_in_progress lane.frames) 32 ≡ true) × IsOrNone acquires context
MayMove script Halt lane = nat_lt (calls_in_progress lane.frames) 32 ≡ false
MayMove script (Note c) lane = has c lane.view ≡ false
MayMove script (View view) lane = (view.members ≡ lane.view.members) × (view.next_id ≤ lane.view.next_id + 1)
MayMove script (Start spec) lane = Unit {0}
MayMove script (Push context) lane = is_own context lane ≡ true
MayMove script (Pop context) lane = Unit {0}
MayMove script (Post context proc) lane = is_own context lane ≡ false
MayMove script (Give context to) lane = may_give script context to lane ≡ true

-- what is so of plain moves, of each other move with the letter that it sends, and of plain moves behind it
pub record Law (script : Plan) (tick : ℕ) (Q : Lane → Lane → Type 0) (R : Option Mail → Lane → Lane → Type 0) : Type 0 where
  pub plain : PlainLaw true tick Q
  pub of : (a b : Lane) → Q a b → R None a b
  pub next : (mail : Option Mail) (a b c : Lane) → R mail a b → Q b c → R mail a c
  pub each : (move : Move) (lane : Lane) → MayMove script move lane → R (mail_by move) lane (moved script tick move lane)

-- ---- handlers

-- one of two, by a test
one_of : (P : Lane → Type 0) (x y : Lane) (b : Bool) → (b ≡ true → P x) → (b ≡ false → P y) → P (cond b x y)
one_of P x y true f g = f refl
one_of P x y false f g = g refl

module _ {acts : Bool} {tick : ℕ} {Q : Lane → Lane → Type 0} (law : PlainLaw acts tick Q) (script : Plan) where
  or_misses : (lane after : Lane) (word : Word) (b : Bool) → (b ≡ true → Q lane after) → Q lane (cond b after (missed tick word lane))
  or_misses lane after word b f = one_of (Q lane) after (missed tick word lane) b f (λ e. law.each (Write (events.Miss word)) lane tt)

  -- an edit of a source that is there
  source_by : (word : Word) (edit : ℕ → RowSet → RowSet) → ((place : Place) (lane : Lane) → is_some (row_at place lane) ≡ true → Q lane (edited place.context (edit place.id) lane))
      → (o : Option Place) (lane : Lane) → Q lane (on_source tick word edit o lane)
  source_by word edit f None lane = law.each (Write (events.Miss word)) lane tt
  source_by word edit f (Some place) lane = or_misses lane (edited place.context (edit place.id) lane) word (is_some (row_at place lane)) (f place lane)

  -- by which moves an action goes that a handler takes
  plain_by : (action : Action) (lane : Lane) → Q lane (plain_acted script tick action lane)
  plain_by (actions.Destroy slot) lane = source_by words.Destroy destroyed (λ place. law.each (Destroy place)) (place_at slot lane) lane
  plain_by (actions.SetReady slot us) lane = source_by words.SetReady (λ id. ready_set id us) (λ place. law.each (SetReady us place)) (place_at slot lane) lane
  plain_by (actions.Quit number) lane = or_misses lane (set_running number false lane) words.Quit (is_own (context_of script number) lane) (λ e. law.each (Stop number) lane tt)
  plain_by (actions.Log n) lane = law.each (Write (events.Log n)) lane tt
  plain_by _ lane = law.none lane

  all_by : (list : List Action) (lane : Lane) → Q lane (all_acted script tick list lane)
  all_by [] lane = law.none lane
  all_by (a ∷ list) lane =
      let after : Lane = plain_acted script tick a lane in
      law.next lane after (all_acted script tick list after) (plain_by a lane) (all_by list after)

  handled_by : (f : Fired) (lane : Lane) → Q lane (handled script tick f lane)
  handled_by f lane =
      let told : Lane = written tick (events.Handler f.id) lane in
      law.next lane told (handled script tick f lane) (law.each (Write (events.Handler f.id)) lane tt) (all_by (actions_of script (Procedure f.proc)) told)

  all_handled_by : (fs : List Fired) (lane : Lane) → Q lane (all_handled script tick fs lane)
  all_handled_by [] lane = law.none lane
  all_handled_by (f ∷ fs) lane =
      let after : Lane = handled script tick f lane in
      law.next lane after (all_handled script tick fs after) (handled_by f lane) (all_handled_by fs after)

  -- a cancellation that is noticed is told, and its handlers are called
  noticed_by : (c : ℕ) (lane : Lane) → Q (noticed tick c lane) (all_noticed script tick c lane)
  noticed_by c lane =
      let seen : Lane = noticed tick c lane in
      let told : Lane = written tick (events.Cancel c) seen in
      law.next seen told (all_noticed script tick c lane) (law.each (Write (events.Cancel c)) seen tt) (all_handled_by (fired c lane.view) told)

  -- one leaves a lane that has seen it; else plain moves follow once it is noticed
  pub cancel_by : (P : Lane → Type 0) (c : ℕ) (lane : Lane) → (has c lane.view ≡ true → P lane) → ((after : Lane) → has c lane.view ≡ false → Q (noticed tick c lane) after → P after) → P (cancel script tick c lane)
  cancel_by P c lane f g = one_of P lane (all_noticed script tick c lane) (has c lane.view) f (λ e. g (all_noticed script tick c lane) e (noticed_by c lane))

-- ---- what moves leave

connected_leaves : (view : Seen) (c proc : ℕ) → ((connected c proc view).members ≡ view.members) × ((connected c proc view).next_id ≤ view.next_id + 1)
connected_leaves view c proc = by (has c view)
  where
    by : (b : Bool) →
        let after : Seen = cond b view (record view { handlers = view.handlers ++ (record { id = view.next_id; cancellable = c; proc = proc }) ∷ []; next_id = view.next_id + 1 }) in
        (after.members ≡ view.members) × (after.next_id ≤ view.next_id + 1)
    by true = (refl, omega arith)
    by false = (refl, omega arith)

without_leaves : (view : Seen) (id : ℕ) → ((without id view).members ≡ view.members) × ((without id view).next_id ≤ view.next_id + 1)
without_leaves view id = by (id == 0)
  where
    by : (b : Bool) →
        let after : Seen = cond b view (record view { handlers = filter (has_other_id id) view.handlers }) in
        (after.members ≡ view.members) × (after.next_id ≤ view.next_id + 1)
    by true = (refl, omega arith)
    by false = (refl, omega arith)

pub both_left : (a b : Bool) → (a && b) ≡ true → a ≡ true
both_left true b h = refl
both_left false b h = let no : false ≡ true = h in cc

pub both_right : (a b : Bool) → (a && b) ≡ true → b ≡ true
both_right true b h = h
both_right false b h = let no : false ≡ true = h in cc

-- an own context is there
pub has_own : (d : ℕ) (lane : Lane) → is_own d lane ≡ true → is_some (present (slice_get lane.contexts d)) ≡ true
has_own d lane h = both_left (is_some (context_at d lane)) (not (is_given d lane)) h

-- a source that is begun has the next id
pub next_more : (f : Context → Context) → ((c : Context) → (f c).rows.next_id ≡ c.rows.next_id + 1) → (contexts : List (Option Context)) (i : ℕ) → is_some (present (slice_get contexts i)) ≡ true
    → next_id (present (slice_get (slice_set contexts i (option_map f (present (slice_get contexts i)))) i)) ≡ next_id (present (slice_get contexts i)) + 1
next_more f e [] i h = let no : false ≡ true = h in cc
next_more f e (None ∷ contexts) zero h = let no : false ≡ true = h in cc
next_more f e (Some c ∷ contexts) zero h = e c
next_more f e (o ∷ contexts) (suc i) h = next_more f e contexts i h

child_more : (spec : SourceSpec) (now levels : ℕ) (o : Option Row) (s : RowSet) → is_none (child_fault levels o) ≡ true → (child_added spec now o s).next_id ≡ s.next_id + 1
child_more spec now levels None s e = let no : false ≡ true = e in cc
child_more spec now levels (Some parent) s e = refl

born_more : (spec : SourceSpec) (now id : ℕ) (contexts : List (Option Context)) (i : ℕ) → can_bear_in id (present (slice_get contexts i)) ≡ true
    → next_id (present (slice_get (slice_set contexts i (option_map (with_rows (born spec now id)) (present (slice_get contexts i)))) i)) ≡ next_id (present (slice_get contexts i)) + 1
born_more spec now id [] i h = let no : false ≡ true = h in cc
born_more spec now id (None ∷ contexts) zero h = let no : false ≡ true = h in cc
born_more spec now id (Some c ∷ contexts) zero h = child_more spec now c.rows.levels (row_with id c.rows.rows) c.rows h
born_more spec now id (o ∷ contexts) (suc i) h = born_more spec now id contexts i h

-- ---- actions

module _ {script : Plan} {tick : ℕ} {Q : Lane → Lane → Type 0} {R : Option Mail → Lane → Lane → Type 0} (law : Law script tick Q R) where
  -- a plain move behind another one
  behind : (mail : Option Mail) (a b : Lane) (move : PlainMove) → R mail a b → IsPlain true move b → R mail a (plainly tick move b)
  behind mail a b move h p = law.next mail a b (plainly tick move b) h (law.plain.each move b p)

  -- a line alone
  says : (event : Event) (lane : Lane) → IsSaid true event → R None lane (written tick event lane)
  says event lane p = law.of lane (written tick event lane) (law.plain.each (Write event) lane p)

  -- what is done where a test holds, and else a line
  or_says : (event : Event) (lane after : Lane) (b : Bool) → IsSaid true event → (b ≡ true → R None lane after) → R None lane (cond b after (written tick event lane))
  or_says event lane after b p f = one_of (R None lane) after (written tick event lane) b f (λ e. says event lane p)

  plain_action : (action : Action) (lane : Lane) → R None lane (plain_acted script tick action lane)
  plain_action action lane = law.of lane (plain_acted script tick action lane) (plain_by law.plain script action lane)

  attach_by : (context now slot : ℕ) (spec : SourceSpec) (lane : Lane) → is_own context lane ≡ true → R None lane (set_slot slot (Source (next_place context lane)) (edited context (attached spec now) lane))
  attach_by context now slot spec lane e =
      behind None lane (edited context (attached spec now) lane) (Name slot (Source (next_place context lane))) (law.each (Alter context (Attach spec now)) lane e)
      (tt, omega (arith, next_more (with_rows (attached spec now)) (λ c. refl) lane.contexts context (has_own context lane e)))

  child_by : (now slot : ℕ) (spec : SourceSpec) (o : Option Place) (lane : Lane) → R None lane (child_of tick now slot spec o lane)
  child_by now slot spec None lane = says (events.Miss words.Child) lane tt
  child_by now slot spec (Some place) lane =
      or_says (events.Miss words.Child) lane _ (can_bear place lane) tt
      (λ e. behind None lane (edited place.context (born spec now place.id) lane) (Name slot (Source (next_place place.context lane))) (law.each (Alter place.context (Bear spec now place.id)) lane e)
      (tt, omega (arith, born_more spec now place.id lane.contexts place.context (both_right (is_own place.context lane) (can_bear_in place.id (context_at place.context lane)) e))))

  priority_by : (priority : ℤ) (o : Option Place) (lane : Lane) → R None lane (set_priority_of tick priority o lane)
  priority_by priority None lane = says (events.Miss words.SetPriority) lane tt
  priority_by priority (Some place) lane = or_says (events.Miss words.SetPriority) lane _ (is_none (priority_fault (row_at place lane))) tt (λ e. law.each (Alter place.context (Reprioritise place.id priority)) lane e)

  cancelled_by : (c : ℕ) (lane : Lane) (b : Bool) → has c lane.view ≡ b → R (cond b None (Some (mails.Cancelled c))) lane (cond b lane (all_noticed script tick c lane))
  cancelled_by c lane true e = law.of lane lane (law.plain.none lane)
  cancelled_by c lane false e = law.next (Some (mails.Cancelled c)) lane (noticed tick c lane) (all_noticed script tick c lane) (law.each (Note c) lane e) (noticed_by law.plain script c lane)

  connect_by : (c slot proc : ℕ) (lane : Lane) → R None lane (connect script tick c slot proc lane)
  connect_by c slot proc lane =
      let called : Lane = handled script tick (record { id = 0; proc = proc }) lane in
      let view : Seen = connected c proc lane.view in
      one_of (R None lane) (set_slot slot (Handler 0) called) (set_slot slot (Handler lane.view.next_id) (viewing view lane)) (has c lane.view)
      (λ e. behind None lane called (Name slot (Handler 0)) (law.of lane called (handled_by law.plain script (record { id = 0; proc = proc }) lane)) (tt, tt))
      (λ e. behind None lane (viewing view lane) (Name slot (Handler lane.view.next_id)) (law.each (View view) lane (connected_leaves lane.view c proc)) (tt, tt))

  disconnect_by : (o : Option ℕ) (lane : Lane) → R None lane (disconnect_of tick o lane)
  disconnect_by None lane = says (events.Miss words.Disconnect) lane tt
  disconnect_by (Some id) lane = or_says (events.Miss words.Disconnect) lane _ (may_disconnect id lane.view) tt (λ e. law.each (View (without id lane.view)) lane (without_leaves lane.view id))

  call_by : (context proc : ℕ) (acquires : Option ℕ) (lane : Lane) → is_own context lane ≡ true → IsOrNone acquires context → R None lane (called_at_once tick context proc acquires lane)
  call_by context proc acquires lane e a =
      one_of (R None lane) _ _ (nat_lt (calls_in_progress lane.frames) 32) (λ k. law.each (Call context proc acquires) lane (e, k, a)) (λ k. law.each Halt lane k)

  invoke_by : (now context proc : ℕ) (lane : Lane) (b : Bool) → is_own context lane ≡ b
      → R (cond b None (Some (mails.Attach context (invoke_spec proc)))) lane (cond b (invoke_own tick now context proc lane) (written tick (events.Invoke context Posted) lane))
  invoke_by now context proc lane true e =
      one_of (R None lane) _ _ (is_owned context lane) (λ k. call_by context proc None lane e tt)
      (λ k. one_of (R None lane) _ _ (default_context lane == context) (λ d. call_by context proc (Some context) lane e refl)
      (λ d. behind None lane (edited context (attached (invoke_spec proc) now) lane) (Write (events.Invoke context Attached)) (law.each (Alter context (Attach (invoke_spec proc) now)) lane e) tt))
  invoke_by now context proc lane false e = behind (Some (mails.Attach context (invoke_spec proc))) lane lane (Write (events.Invoke context Posted)) (law.each (Post context proc) lane e) tt

  give_by : (context to : ℕ) (lane : Lane) (b : Bool) → may_give script context to lane ≡ b
      → R (cond b (Some (mails.Give context to)) None) lane (cond b (written tick (events.Give context to) (with_given context true lane)) (missed tick words.Give lane))
  give_by context to lane true e = behind (Some (mails.Give context to)) lane (with_given context true lane) (Write (events.Give context to)) (law.each (Give context to) lane e) tt
  give_by context to lane false e = says (events.Miss words.Give) lane tt

  -- by which moves each action goes
  pub acted_by : (action : Action) (lane : Lane) → R (sends script action lane) lane (acted script tick action lane)
  acted_by (actions.Attach context slot spec) lane = or_says (events.Miss words.Attach) lane _ (is_own context lane) tt (attach_by context (time_of script tick) slot spec lane)
  acted_by (actions.Child parent slot spec) lane = child_by (time_of script tick) slot spec (place_at parent lane) lane
  acted_by (actions.Destroy slot) lane = plain_action (actions.Destroy slot) lane
  acted_by (actions.SetReady slot us) lane = plain_action (actions.SetReady slot us) lane
  acted_by (actions.SetPriority slot priority) lane = priority_by priority (place_at slot lane) lane
  acted_by (actions.Iterate context) lane = or_says (events.Iterate context false) lane _ (is_own context lane) tt (λ e. law.each (Iterate context) lane e)
  acted_by (actions.Pending context) lane = says _ lane tt
  acted_by (actions.Run number) lane =
      let context : ℕ = context_of script number in
      or_says (events.Miss words.Run) lane _ (is_own context lane) tt (λ e. law.each (Run number context) lane e)
  acted_by (actions.Quit number) lane = plain_action (actions.Quit number) lane
  acted_by (actions.Cancel c) lane = cancelled_by c lane (has c lane.view) refl
  acted_by (actions.Connect c slot proc) lane = connect_by c slot proc lane
  acted_by (actions.Disconnect slot) lane = disconnect_by (handler_at slot lane) lane
  acted_by (actions.Task spec) lane = law.each (Start spec) lane tt
  acted_by (actions.Push context) lane = or_says (events.Miss words.Push) lane _ (is_own context lane) tt (λ e. law.each (Push context) lane e)
  acted_by (actions.Pop context) lane = or_says (events.Miss words.Pop) lane _ (is_on_top context lane.defaults) tt (λ e. law.each (Pop context) lane tt)
  acted_by actions.ShowDefault lane = says (events.Default (default_context lane)) lane tt
  acted_by (actions.Acquire context) lane =
      or_says (events.Acquire context false) lane _ (is_own context lane) tt
      (λ e. behind None lane (with_context context acquired lane) (Write (events.Acquire context true)) (law.each (Alter context Acquire) lane e) tt)
  acted_by (actions.Release context) lane = or_says (events.Miss words.Release) lane _ (may_release (context_at context lane)) tt (λ e. law.each (Alter context Release) lane e)
  acted_by (actions.Invoke context proc) lane = invoke_by (time_of script tick) context proc lane (is_own context lane) refl
  acted_by (actions.Give context to) lane = give_by context to lane (may_give script context to lane) refl
  acted_by (actions.Log n) lane = plain_action (actions.Log n) lane
