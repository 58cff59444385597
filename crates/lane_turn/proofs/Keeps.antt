-- What leaves a lane's tasks alone, and what it has seen; and how the others change them.
use Rattle.std.proofs.Common.{◌≡◌, ◌⊎◌, inl, inr, ℕ, Bool, true, false, cond, Some, slice_set, refl, ◌∙◌}
use Rattle.std.specs.Prelude.{nat_lt, not, ◌&&◌}
use Rattle.loop_script.specs.declared.plan.Plan.{Plan}
use Rattle.loop_script.specs.declared.task.TaskSpec.{TaskSpec}
use Rattle.loop_script.specs.declared.action.Action.{Action}
use Rattle.loop_script.specs.declared.action.Action.TheVariants as actions
use Rattle.loop_script.specs.declared.body.Body.{Body}
use Rattle.loop_script.specs.Parts.{stays}
use Rattle.source_rows.specs.declared.row.Row.{Row}
use Rattle.cancel_view.specs.Seen.{Seen, has}
use Rattle.post_office.specs.declared.letter.Body.{Body as Mail}
use Rattle.post_office.specs.declared.letter.Body.TheVariants as mails
use Rattle.lane_watch.specs.Tasks.{Tasks}
use Rattle.lane_watch.specs.Watch.{starting}
use Rattle.lane_turn.specs.declared.layer.Origin.{Origin}
use Rattle.lane_turn.specs.declared.layer.Origin.TheVariants.{Start, Source, Invoke as Invoked}
use Rattle.lane_turn.specs.Frames.{calls_in_progress}
use Rattle.lane_turn.specs.Lane.{Lane, is_own}
use Rattle.lane_turn.specs.Owned.{default_context}
use Rattle.lane_turn.specs.Acted.{acted}
use Rattle.lane_turn.specs.Step.{dispatching, returned, answered}
use Rattle.lane_turn.specs.Deliver.{received_body}
use Rattle.lane_turn.proofs.Moves as moves
use Rattle.lane_turn.proofs.Moves.{PlainMove, plainly, PlainLaw, Move, moved, MayMove, Law, acted_by}
use Rattle.lane_turn.specs.declared.layer.Asker.{Asker}
use Rattle.lane_turn.specs.declared.layer.Asker.TheVariants as askers

pub record Keeps (lane after : Lane) : Type 0 where
  pub tasks : after.tasks ≡ lane.tasks
  pub members : after.view.members ≡ lane.view.members

pub keep : (lane after : Lane) → after.tasks ≡ lane.tasks → after.view.members ≡ lane.view.members → Keeps lane after
keep lane after t m = record { tasks = t; members = m }

either : (lane x y : Lane) (b : Bool) → Keeps lane x → Keeps lane y → Keeps lane (cond b x y)
either lane x y true p q = p
either lane x y false p q = q

pub keeps_trans : (a b c : Lane) → Keeps a b → Keeps b c → Keeps a c
keeps_trans a b c h g = record { tasks = g.tasks ∙ h.tasks; members = g.members ∙ h.members }

keeps_plain : (tick : ℕ) (move : PlainMove) (lane : Lane) → Keeps lane (plainly tick move lane)
keeps_plain tick (moves.Write event) lane = keep lane _ refl refl
keeps_plain tick _ lane = keep lane _ refl refl

keeps_moves : (tick : ℕ) → PlainLaw true tick Keeps
keeps_moves tick = record { none = λ lane. keep lane lane refl refl; next = keeps_trans; each = λ move lane m. keeps_plain tick move lane }

-- ---- how tasks change: not at all, by one that is started, or by what is seen cancelled

pub record Starts (tick : ℕ) (lane after : Lane) : Type 0 where
  pub spec : TaskSpec
  pub context : ℕ
  pub tasks : after.tasks ≡ starting tick context spec lane.tasks
  pub members : after.view.members ≡ lane.view.members

abbrev pub noted : (tick c : ℕ) → Tasks → Tasks
noted tick c tasks = record tasks { came = slice_set tasks.came c (Some tick) }

pub record Notes (tick : ℕ) (lane after : Lane) : Type 0 where
  pub c : ℕ
  pub new : has c lane.view ≡ false
  pub tasks : after.tasks ≡ noted tick c lane.tasks
  pub members : after.view.members ≡ slice_set lane.view.members c true

abbrev pub Changes : ℕ → Lane → Lane → Type 0
Changes tick lane after = Keeps lane after ⊎ (Starts tick lane after ⊎ Notes tick lane after)

cancelled_members : (view : Seen) (c : ℕ) (b : Bool) → b ≡ false → (cond b view (record view { members = slice_set view.members c true })).members ≡ slice_set view.members c true
cancelled_members view c true e = let no : true ≡ false = e in cc
cancelled_members view c false e = refl

changes_next : (tick : ℕ) (a b c : Lane) → Changes tick a b → Keeps b c → Changes tick a c
changes_next tick a b c (inl h) g = inl (keeps_trans a b c h g)
changes_next tick a b c (inr (inl h)) g = inr (inl (record { spec = h.spec; context = h.context; tasks = g.tasks ∙ h.tasks; members = g.members ∙ h.members }))
changes_next tick a b c (inr (inr h)) g = inr (inr (record { c = h.c; new = h.new; tasks = g.tasks ∙ h.tasks; members = g.members ∙ h.members }))

changes_each : (script : Plan) (tick : ℕ) (move : Move) (lane : Lane) → MayMove script move lane → Changes tick lane (moved script tick move lane)
changes_each script tick (moves.Note c) lane m = inr (inr (record { c = c; new = m; tasks = refl; members = cancelled_members lane.view c (has c lane.view) m }))
changes_each script tick (moves.Start spec) lane m = inr (inl (record { spec = spec; context = default_context lane; tasks = refl; members = refl }))
changes_each script tick (moves.View view) lane m = inl (keep lane _ refl m.0)
changes_each script tick _ lane m = inl (keep lane _ refl refl)

changes_moves : (script : Plan) (tick : ℕ) → Law script tick Keeps (λ mail. Changes tick)
changes_moves script tick = record { plain = keeps_moves tick; of = λ a b h. inl h; next = λ mail. changes_next tick; each = changes_each script tick }

pub acted_changes : (script : Plan) (tick : ℕ) (action : Action) (lane : Lane) → Changes tick lane (acted script tick action lane)
acted_changes script tick action lane = acted_by (changes_moves script tick) action lane

pub received_changes : (script : Plan) (tick sender : ℕ) (body : Mail) (lane : Lane) → Changes tick lane (received_body script tick sender body lane)
received_changes script tick sender (mails.Attach context spec) lane = inl (either lane _ _ (is_own context lane) (keep lane _ refl refl) (keep lane _ refl refl))
received_changes script tick sender (mails.Complete reply) lane = inl (either lane _ _ (is_own reply.ctx lane) (keep lane _ refl refl) (keep lane _ refl refl))
received_changes script tick sender (mails.Cancelled c) lane = acted_changes script tick (actions.Cancel c) lane
received_changes script tick sender (mails.Give context to) lane = inl (keep lane _ refl refl)

pub keeps_dispatching : (tick context : ℕ) (row : Row) (lane : Lane) → Keeps lane (dispatching tick context row lane)
keeps_dispatching tick context row lane = either lane _ _ (nat_lt (calls_in_progress lane.frames) 32) (keep lane _ refl refl) (keep lane _ refl refl)

pub keeps_returned : (script : Plan) (tick : ℕ) (body : Body) (origin : Origin) (lane : Lane) → Keeps lane (returned script tick body origin lane)
keeps_returned script tick body Start lane = keep lane _ refl refl
keeps_returned script tick body (Invoked acquired) lane = keep lane _ refl refl
keeps_returned script tick body (Source caller) lane = either lane _ _ (not caller.once && stays script body caller.number) (keep lane _ refl refl) (keep lane _ refl refl)

pub keeps_answered : (tick context : ℕ) (asker : Asker) (lane : Lane) → Keeps lane (answered tick context asker lane)
keeps_answered tick context askers.Loop lane = keep lane _ refl refl
keeps_answered tick context (askers.Iterate any) lane = keep lane _ refl refl
