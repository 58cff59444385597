-- What is shown of the entries of a book is what is shown of its tasks.
use Rattle.std.proofs.Common.{◌≡◌, ℕ, ◌+◌, ◌≤◌, Bool, Option, Some, None, List, [], ◌∷◌, map, refl, ap}
use Rattle.task_steps.specs.declared.entry.Entry.{Entry}
use Rattle.task_steps.specs.declared.look.TaskShown.{TaskShown}
use Rattle.cancel_view.specs.Seen.{Seen}
use Rattle.task_steps.specs.declared.stage.Stage.{Stage}
use Rattle.task_steps.specs.declared.stage.Stage.TheVariants.{Fresh, Set, Polled, Done}
use Rattle.task_steps.specs.declared.tasks.Tasks.{Tasks}
use Rattle.loop_script.specs.End.{end_of}
use Rattle.task_steps.specs.Wake.{sooner}
use Rattle.task_steps.specs.Run.{Run, NoneBefore, MayCome, IsLater}
use Rattle.task_steps.specs.Task.{IsBefore}
use Rattle.task_steps.specs.Book.{MayComeToAll, all_noticed}
use Rattle.task_steps.specs.BookInside.{IsKept, IsWaitingAt, IsPassedBy, IsPolledBy, AreWaiting, AreWaitingAfter, entries_of, wake_of_stage, wake_of_entry, wake_of_all}
use Rattle.task_steps.specs.Polls.{all_shown}
use Rattle.task_steps.specs.Shown.{task_shown, wakeless, least_wake, entry_shown, WakesBy, WakeInTime, WakeAsShown, WereSeenBy}
use Rattle.task_steps.proofs.Quiet.{may_run, polled_before}
use Rattle.task_steps.proofs.Begins.{not_sooner}

pub all_told : (polled : Option ℕ) (es : List Entry) → map wakeless (map entry_shown es) ≡ map task_shown (all_shown polled es)
all_told polled [] = refl
all_told polled (e ∷ es) = ap (λ (l : List TaskShown). wakeless (entry_shown e) ∷ l) (all_told polled es)

pub least_told : (es : List Entry) → least_wake (map entry_shown es) ≡ wake_of_all es
least_told [] = refl
least_told (e ∷ es) = ap (λ (w : Option ℕ). sooner (wake_of_entry e) w) (least_told es)

seen-all : (last : ℕ) (polled : Option ℕ) (es : List Entry) → AreWaiting (last + 1) polled es → WereSeenBy (Some last) (all_shown polled es)
seen-all last polled [] w = tt
seen-all last polled (e ∷ es) w = (w.0.before, seen-all last polled es w.1)

pub seen_by_last : (last polled : Option ℕ) (es : List Entry) → AreWaitingAfter last polled es → WereSeenBy last (all_shown polled es)
seen_by_last None polled es w = ap (all_shown polled) w
seen_by_last (Some last) polled es w = seen-all last polled es w

-- ---- no body ends before its wake
begun-wakes : (first begun p at : ℕ) (c : Option ℕ) (r : Run) (wake : Option ℕ) → begun ≡ first → IsLater p wake → NoneBefore (record r { stage = Polled begun at }) wake → MayCome r.clear r.cancelled c → WakesBy (end_of r.tick_us r.tree first c).tick wake
begun-wakes first begun p at c r None b l n m = absurd l
begun-wakes first begun p at c r (Some wake) b l n m =
    let least : wake ≤ (end_of r.tick_us r.tree begun c).tick = n c m in
    rw b at least

stage-wakes : (next first : ℕ) (polled c : Option ℕ) (r : Run) (stage : Stage) → IsWaitingAt next first stage → IsPassedBy polled r.wake stage → NoneBefore (record r { stage = stage }) r.wake → MayCome r.clear r.cancelled c → WakesBy (end_of r.tick_us r.tree first c).tick (wake_of_stage first r stage)
stage-wakes next first polled c r Fresh w p n m = not_sooner r.tick_us r.tree first c
stage-wakes next first polled c r (Set begun at) w p n m = absurd w
stage-wakes next first None c r (Polled begun at) w p n m = absurd p
stage-wakes next first (Some tick) c r (Polled begun at) w p n m = begun-wakes first begun tick at c r r.wake w p.1 n m
stage-wakes next first polled c r Done w p n m = absurd w

wakes-all : (next tick : ℕ) (polled : Option ℕ) (view : Seen) (c : ℕ → Option ℕ) (es : List Entry) → AreWaiting next polled es → IsBefore tick polled → MayComeToAll c (all_noticed tick view (all_shown polled es)) → WakeInTime c (all_shown polled es) (map entry_shown es)
wakes-all next tick polled view c [] w p m = tt
wakes-all next tick polled view c (e ∷ es) w p m = (
  stage-wakes next e.first polled (c e.number) e.run e.run.stage w.0.stage w.0.passed w.0.end (may_run tick view polled e (c e.number) p w.0.clear m.0),
  wakes-all next tick polled view c es w.1 p m.1,
)

wakes-after : (last polled : Option ℕ) (es : List Entry) → AreWaitingAfter last polled es → IsPolledBy last polled → WakeAsShown last (all_shown polled es) (map entry_shown es)
wakes-after None polled es w p = λ tick view c n m. rw w tt
wakes-after (Some last) polled es w p = λ tick view c n m. wakes-all (last + 1) tick polled view c es w (polled_before last tick polled n p) m

pub wake_as_shown : (us : ℕ) (last polled : Option ℕ) (spent : Bool) (heeded : List ℕ) (of_polled : ℕ) (tasks : Tasks) → IsKept us last polled spent heeded of_polled tasks → WakeAsShown last (all_shown polled (entries_of tasks)) (map entry_shown (entries_of tasks))
wake_as_shown us last polled spent heeded of_polled tasks k = wakes-after last polled (entries_of tasks) k.waiting k.past
