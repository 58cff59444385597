-- No action and no dispatch adds more to a lane than one that is counted may: to its rows, its frames and its counters.
use Rattle.std.proofs.Common.{◌≡◌, ℕ, ◌+◌, ◌≤◌, List, [], ◌∷◌, length, refl, arith}
use Rattle.std.specs.Prelude.{nat_lt}
use Rattle.loop_script.specs.declared.plan.Plan.{Plan}
use Rattle.loop_script.specs.declared.action.Action.{Action}
use Rattle.source_rows.specs.declared.row.Row.{Row}
use Rattle.source_rows.specs.Rows.{attached, counted, reprioritised}
use Rattle.context_core.specs.declared.context.Context.{Context}
use Rattle.lane_turn.specs.declared.line.Event.TheVariants as events
use Rattle.lane_turn.specs.Frames.{Frame, CallOf, IterOf, LoopOf, advanced, calls_in_progress}
use Rattle.lane_turn.specs.Lane.{Lane, with_context, taken, viewing, stopped, written}
use Rattle.lane_turn.specs.Acted.{acted, born}
use Rattle.lane_turn.specs.declared.lane.Status.TheVariants.{Halted}
use Rattle.lane_turn.specs.Step.{dispatched, dispatching}
use Rattle.lane_turn.specs.Turn.{nest_work}
use Rattle.lane_turn.specs.Sound.{IsBounded}
use Rattle.lane_turn.proofs.Lists.{each_weaker}
use Rattle.lane_turn.proofs.Moves as moves
use Rattle.lane_turn.proofs.Moves.{Change, changed_by, Move, noticed, moved, MayMove, Law, acted_by}
use Rattle.context_core.specs.Defaults.{acquired, released}
use Rattle.lane_turn.proofs.Mild.{Mild, MildChange, quiet, either, begins_frame, mild_change, mild_edit, mild_iterating, mild_attached, mild_born, mild_reprioritised, mild_counted, Plain, plain_moves, cancelled_id, mild_plain, mild_then, rows_edited, bounded_edited, each_bounded}

-- who owns a context
mild_acquired : MildChange 0 1 acquired
mild_acquired = record { rows = λ c. omega arith; bounded = λ m c b. record { sources = sources_more m c b.sources; acquires = omega (arith, b.acquires) } }
  where
    sources_more : (m : ℕ) (c : Context) → IsBounded m c.rows → IsBounded (m + 1) c.rows
    sources_more m c b = record { id = omega (arith, b.id); order = omega (arith, b.order); counts = each_weaker _ _ (λ r k. omega arith) c.rows.rows b.counts }

mild_released : MildChange 0 0 released
mild_released = record { rows = λ c. omega arith; bounded = λ m c b. record { sources = sources_same m c b.sources; acquires = omega (arith, b.acquires) } }
  where
    sources_same : (m : ℕ) (c : Context) → IsBounded m c.rows → IsBounded (m + 0) c.rows
    sources_same m c b = record { id = omega (arith, b.id); order = omega (arith, b.order); counts = each_weaker _ _ (λ r k. omega arith) c.rows.rows b.counts }

mild_changed : (lane : Lane) (context : ℕ) (it : Change) → Mild lane (with_context context (changed_by it) lane)
mild_changed lane context (moves.Attach spec now) = mild_edit lane context (attached spec now) 1 2 (omega arith) (omega arith) (mild_attached spec now)
mild_changed lane context (moves.Bear spec now id) = mild_edit lane context (born spec now id) 1 2 (omega arith) (omega arith) (mild_born spec now id)
mild_changed lane context (moves.Reprioritise id priority) = mild_edit lane context (reprioritised id priority) 0 1 (omega arith) (omega arith) (mild_reprioritised id priority)
mild_changed lane context moves.Acquire = mild_change lane context acquired 0 1 (omega arith) (omega arith) mild_acquired
mild_changed lane context moves.Release = mild_change lane context released 0 0 (omega arith) (omega arith) mild_released

mild_each : (script : Plan) (tick : ℕ) (move : Move) (lane : Lane) → MayMove script move lane → Mild lane (moved script tick move lane)
mild_each script tick (moves.Alter context it) lane m = mild_changed lane context it
mild_each script tick (moves.Iterate context) lane m = mild_iterating lane script tick context _
mild_each script tick (moves.Run number context) lane m = begins_frame lane _ refl refl (omega arith) (omega arith)
mild_each script tick (moves.Call context proc acquires) lane m = begins_frame lane _ refl refl (omega arith) (omega arith)
mild_each script tick (moves.Note c) lane m = quiet lane (noticed tick c lane) refl refl (omega (arith, cancelled_id lane.view c))
mild_each script tick (moves.View view) lane m = quiet lane (viewing view lane) refl refl (omega (arith, m.1))
mild_each script tick _ lane m = quiet lane _ refl refl (omega arith)

-- what each action does is mild
pub mild_acted : (script : Plan) (tick : ℕ) (action : Action) (lane : Lane) → Mild lane (acted script tick action lane)
mild_acted script tick action lane = acted_by law action lane
  where
    law : Law script tick Plain (λ mail. Mild)
    law = record { plain = plain_moves tick; of = mild_plain; next = λ mail. mild_then; each = mild_each script tick }

-- the innermost call or iteration goes on
work_taken : (frames : List Frame) → nest_work (advanced frames) ≤ nest_work frames
work_taken [] = omega arith
work_taken (CallOf call ∷ frames) = omega arith
work_taken (IterOf c [] asker ∷ frames) = omega arith
work_taken (IterOf c (id ∷ ids) asker ∷ frames) = omega arith
work_taken (LoopOf number context ∷ frames) = omega arith

length_taken : (frames : List Frame) → length (advanced frames) ≡ length frames
length_taken [] = refl
length_taken (f ∷ frames) = refl

pub mild_taken : (lane after : Lane) → Mild (taken lane) after → Mild lane after
mild_taken lane after h = record {
  rows = h.rows;
  frames = omega (arith, h.frames, work_taken lane.frames);
  within = λ m w. h.within m (record { contexts = w.contexts; frames = omega (arith, w.frames, length_taken lane.frames); handlers = w.handlers });
}

-- a dispatch is mild
pub mild_dispatching : (lane : Lane) (tick context : ℕ) (row : Row) → Mild lane (dispatching tick context row lane)
mild_dispatching lane tick context row = either lane (dispatched tick context row lane) (stopped Halted (written tick events.HaltDepth lane)) (nat_lt (calls_in_progress lane.frames) 32)
    (record {
      rows = omega (arith, rows_edited 0 1 (counted row.id) (mild_counted row.id) lane.contexts context);
      frames = omega (arith, work_taken lane.frames);
      within = λ m w. record {
        contexts = each_bounded (m + 1) (m + 2) (omega arith) _ (bounded_edited 0 1 m (counted row.id) (mild_counted row.id) lane.contexts context w.contexts);
        frames = omega (arith, w.frames, length_taken lane.frames);
        handlers = omega (arith, w.handlers);
      };
    })
    (quiet lane (stopped Halted (written tick events.HaltDepth lane)) refl refl (omega arith))
