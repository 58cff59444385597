-- A poll of an entry, and of entries that are passed over.
use Rattle.std.proofs.Common.{◌≡◌, ℕ, ◌+◌, ◌≤◌, ◌<◌, ◌&&◌, ◌||◌, Bool, true, false, not, cond, Option, Some, None, is_some, List, [], ◌∷◌, ◌++◌, option_map, option_to_list, arith, refl, ap, sym, subst, ◌∙◌}
use Rattle.std.specs.List.{list_any, filter}
use Rattle.cancel_view.specs.Seen.{Seen}
use Rattle.loop_script.specs.declared.outcome.Outcome.{Outcome}
use Rattle.task_steps.specs.declared.entry.Entry.{Entry}
use Rattle.task_steps.specs.declared.entry.Answer.{Answer}
use Rattle.task_steps.specs.declared.entry.Reply.{Reply}
use Rattle.task_steps.specs.declared.stage.Stage.{Stage}
use Rattle.task_steps.specs.declared.stage.Stage.TheVariants.{Fresh, Set, Polled, Done}
use Rattle.task_steps.specs.Wake.{sooner}
use Rattle.task_steps.specs.Run.{Run, NoneBefore, IsUpTo, IsAfter, IsLater, wakes_later, MaySet, StaysSet, seen_from, clear_to, WakesLater}
use Rattle.task_steps.specs.RunInside.{IsBy}
use Rattle.task_steps.specs.Reply.{reply_of_task}
use Rattle.task_steps.specs.Task.{Task, task_of, body_end, reply_in, is_late_in, MayComeTo, CanPoll, IsAnswer, IsPolledAt, is_done_stage, IsBefore, IsBegunBy, IsPolledStage}
use Rattle.task_steps.specs.Book.{sees, IsNext, HasGrown, noticed_in, all_noticed, MayComeToAll, replies_in, late_in, goes_on}
use Rattle.task_steps.specs.BookInside.{is_fresh, IsWaitingAt, IsWaiting, AreWaiting, AreWaitingAfter, IsPassedBy, IsPolledBy, IsSeenBy, IsListed, AreListed, caught, caught_stage, caught_clear, due_by, heeds, mark_of, IsQuiet, shown, wake_of_stage, wake_of_entry, wake_of_all}
use Rattle.task_steps.specs.Polls.{all_shown, Gives, HasPolledAll, CanPollAll, NoneComes, comes, comes_once}
use Rattle.task_steps.specs.declared.mark.Mark.{Mark}
use Rattle.task_steps.specs.declared.mark.Round.{Round}
use Rattle.task_steps.proofs.Marks.{any_joined}
use Rattle.task_steps.proofs.Heeding.{none_heeds}
use Rattle.task_steps.proofs.Wakes.{after_wake, after_both, up-a, up-b}
use Rattle.task_steps.proofs.Quiet.{after_a, after_b, or-left, or-right, before_later, polled_before, idle_one, IsIdleOne}
use Rattle.task_steps.proofs.Passed.{shown_by}
use Rattle.task_steps.proofs.Lists.{append_nil, polled_joined}

-- ---- an entry can be polled in the next tick, once it has caught up
may-set : (tick first : ℕ) (polled cancelled : Option ℕ) (run : Run) (stage : Stage) → IsWaitingAt tick first stage → IsPassedBy polled run.wake stage → IsBefore tick polled → IsUpTo tick (wake_of_stage first run stage) → MaySet tick (caught_stage polled cancelled stage) run.wake × IsBegunBy first (caught_stage polled cancelled stage) tick
may-set tick first None cancelled run Fresh w p n k = (tt, w)
may-set tick first (Some at) None run Fresh w p n k = (tt, w)
may-set tick first (Some at) (Some from) run Fresh w p n k = (tt, w)
may-set tick first polled cancelled run (Set begun at) w p n k = absurd w
may-set tick first None cancelled run (Polled begun at) w p n k = absurd p
may-set tick first (Some last) None run (Polled begun at) w p n k = ((n, k), w)
may-set tick first (Some last) (Some from) run (Polled begun at) w p n k = ((omega (arith, p.0), k), w)
may-set tick first polled cancelled run Done w p n k = absurd w

up-one : (tick : ℕ) (a : Option ℕ) → IsUpTo tick (sooner a None) → IsUpTo tick a
up-one tick None h = tt
up-one tick (Some a) h = h

pub can_poll : (tick : ℕ) (polled : Option ℕ) (view : Seen) (e : Entry) → CanPollAll tick polled view (e ∷ []) → CanPoll tick (sees view e.cancel) (caught polled e)
can_poll tick polled view e h =
    let w = h.waiting.0 in
    let set = may-set tick e.first polled e.run.cancelled e.run e.run.stage w.stage w.passed h.past (up-one tick (wake_of_entry e) h.wake) in
    (set.0, h.grown.1, w.before, set.1)

-- ---- an entry that was polled and goes on waits for the next tick
waits-on : (first tick : ℕ) (stage : Stage) → IsPolledStage first tick stage → not (is_done_stage stage) ≡ true → IsWaitingAt (tick + 1) first stage
waits-on first tick Fresh h k = absurd h
waits-on first tick (Set begun at) h k = absurd h
waits-on first tick (Polled begun at) h k = h.0
waits-on first tick Done h k = absurd (cc)

passed-now : (first tick : ℕ) (wake : Option ℕ) (stage : Stage) → IsPolledStage first tick stage → not (is_done_stage stage) ≡ true → wakes_later stage wake → IsPassedBy (Some tick) wake stage
passed-now first tick wake Fresh h k w = absurd h
passed-now first tick wake (Set begun at) h k w = absurd h
passed-now first tick wake (Polled begun at) h k w = (omega (arith, h.1), subst (λ (n : ℕ). IsLater n wake) h.1 w)
passed-now first tick wake Done h k w = absurd (cc)

later-stage : (first tick : ℕ) (run : Run) (stage : Stage) → IsPolledStage first tick stage → not (is_done_stage stage) ≡ true → wakes_later stage run.wake → IsAfter tick (wake_of_stage first run stage)
later-stage first tick run Fresh h k w = absurd h
later-stage first tick run (Set begun at) h k w = absurd h
later-stage first tick run (Polled begun at) h k w = rw (← h.1) (after_wake at run.wake w)
later-stage first tick run Done h k w = absurd (cc)

seen-by : (tick : ℕ) (flag : Bool) (c : Option ℕ) → IsBefore tick c → IsBefore (tick + 1) (seen_from tick flag c)
seen-by tick true None h = omega arith
seen-by tick false None h = tt
seen-by tick flag (Some from) h = omega arith

clear-by : (tick : ℕ) (flag : Bool) (clear : Option ℕ) → IsBy tick clear → IsBy tick (clear_to tick flag clear)
clear-by tick true clear h = h
clear-by tick false clear h = omega arith

sees-on : (tick : ℕ) (flag : Bool) (c : Option ℕ) → StaysSet c flag → StaysSet (seen_from tick flag c) flag
sees-on tick true None h = refl
sees-on tick false None h = tt
sees-on tick flag (Some from) h = h

comes-no-more : (tick : ℕ) (flag : Bool) (c : Option ℕ) → (flag && not (is_some (seen_from tick flag c))) ≡ false
comes-no-more tick true None = refl
comes-no-more tick false None = refl
comes-no-more tick true (Some from) = refl
comes-no-more tick false (Some from) = refl

listed-on : (tick : ℕ) (flag : Bool) (cs : List ℕ) (cancel cancelled : Option ℕ) → IsListed cs cancel cancelled → IsListed cs cancel (seen_from tick flag cancelled)
listed-on tick flag cs None cancelled h = tt
listed-on tick true cs (Some c) None h = tt
listed-on tick false cs (Some c) None h = h
listed-on tick flag cs (Some c) (Some from) h = tt

-- the book shows it as it is
clear-now : (tick : ℕ) (flag : Bool) (x y clear cancelled : Option ℕ) (stage : Stage) → clear ≡ clear_to tick flag x → cancelled ≡ seen_from tick flag y → caught_clear (Some tick) cancelled stage clear ≡ clear
clear-now tick flag x y clear (Some from) stage h k = refl
clear-now tick true x None clear None stage h k = absurd (cc)
clear-now tick true x (Some from) clear None stage h k = absurd (cc)
clear-now tick false x y clear None Fresh h k = refl
clear-now tick false x y clear None (Set begun at) h k = refl
clear-now tick false x y clear None (Polled begun at) h k = sym h
clear-now tick false x y clear None Done h k = refl

-- what is known of an entry that was polled
pub record WasPolled (tick : ℕ) (polled : Option ℕ) (view : Seen) (e f : Entry) (a : Answer) : Type 0 where
  pub task : task_of f ≡ noticed_in tick view (shown polled e)
  pub answer : IsAnswer tick f a
  pub stage : IsPolledAt tick f
  pub wakes : WakesLater f.run
  pub end : NoneBefore f.run f.run.wake

shown-now : {tick : ℕ} {polled : Option ℕ} {view : Seen} {e f : Entry} {a : Answer} → WasPolled tick polled view e f a → shown (Some tick) f ≡ noticed_in tick view (shown polled e)
shown-now {tick} {polled} {view} {e} {f} {a} w =
    let clear = clear-now tick (sees view e.cancel) (shown polled e).clear e.run.cancelled f.run.clear f.run.cancelled f.run.stage (ap (λ (t : Task). t.clear) w.task) (ap (λ (t : Task). t.cancelled) w.task) in
    ap (λ (x : Option ℕ). record (task_of f) { clear = x }) clear ∙ w.task

waiting-one : {tick : ℕ} {polled : Option ℕ} {view : Seen} {e f : Entry} {a : Answer} → WasPolled tick polled view e f a → IsWaiting tick polled e → IsBefore tick polled → not (is_done_stage f.run.stage) ≡ true → IsWaiting (tick + 1) (Some tick) f
waiting-one {tick} {polled} {view} {e} {f} {a} w h p k = record {
  stage = waits-on f.first tick f.run.stage w.stage k;
  passed = passed-now f.first tick f.run.wake f.run.stage w.stage k w.wakes;
  before = rw (ap (λ (t : Task). t.cancelled) w.task) (seen-by tick (sees view e.cancel) e.run.cancelled h.before);
  clear = rw (ap (λ (t : Task). t.clear) w.task) (clear-by tick (sees view e.cancel) (shown polled e).clear (shown_by tick polled e.run.clear e.run.cancelled e.run.stage p h.clear));
  end = w.end;
}

abbrev kept_if : Bool → Entry → List Entry
kept_if b f = cond b (f ∷ []) []

waiting-if : {tick : ℕ} {polled : Option ℕ} {view : Seen} {e f : Entry} {a : Answer} (b : Bool) → b ≡ not (is_done_stage f.run.stage) → WasPolled tick polled view e f a → IsWaiting tick polled e → IsBefore tick polled → AreWaiting (tick + 1) (Some tick) (kept_if b f)
waiting-if true b w h p = (waiting-one w h p (sym b), tt)
waiting-if false b w h p = tt

later-if : {tick : ℕ} {polled : Option ℕ} {view : Seen} {e f : Entry} {a : Answer} (b : Bool) → b ≡ not (is_done_stage f.run.stage) → WasPolled tick polled view e f a → IsAfter tick (wake_of_all (kept_if b f))
later-if {tick} {polled} {view} {e} {f} true b w = after_both tick (wake_of_entry f) None (later-stage f.first tick f.run f.run.stage w.stage (sym b) w.wakes) tt
later-if false b w = tt

grown-if : {tick : ℕ} {polled : Option ℕ} {view : Seen} {e f : Entry} {a : Answer} (b : Bool) → WasPolled tick polled view e f a → HasGrown view (all_shown polled (e ∷ [])) → HasGrown view (all_shown (Some tick) (kept_if b f))
grown-if {tick} {polled} {view} {e} {f} {a} true w h =
    subst (λ (t : Task). HasGrown view (t ∷ [])) (sym (shown-now w)) (h.0, sees-on tick (sees view e.cancel) e.run.cancelled h.1, tt)
grown-if false w h = tt

comes-now : {tick : ℕ} {polled : Option ℕ} {view : Seen} {e f : Entry} {a : Answer} → WasPolled tick polled view e f a → comes view f ≡ false
comes-now {tick} {polled} {view} {e} {f} {a} w =
    ap (λ (t : Task). sees view t.cancel && not (is_some t.cancelled)) w.task ∙ comes-no-more tick (sees view e.cancel) e.run.cancelled

noticed-if : {tick : ℕ} {polled : Option ℕ} {view : Seen} {e f : Entry} {a : Answer} (b : Bool) → WasPolled tick polled view e f a → list_any (comes view) (kept_if b f) ≡ false
noticed-if {tick} {polled} {view} {e} {f} {a} true w = rw (comes-now w) refl
noticed-if false w = refl

listed-if : {tick : ℕ} {polled : Option ℕ} {view : Seen} {e f : Entry} {a : Answer} (b : Bool) (cs : List ℕ) → WasPolled tick polled view e f a → AreListed cs (e ∷ []) → AreListed cs (kept_if b f)
listed-if {tick} {polled} {view} {e} {f} {a} true cs w h =
    (subst (λ (t : Task). IsListed cs t.cancel t.cancelled) (sym w.task) (listed-on tick (sees view e.cancel) cs e.cancel e.run.cancelled h.0), tt)
listed-if false cs w h = tt

going-if : (tick : ℕ) (c : ℕ → Option ℕ) (b d : Bool) (f : Entry) (t : Task) → shown (Some tick) f ≡ t → b ≡ d → all_shown (Some tick) (kept_if b f) ≡ cond d (t ∷ []) []
going-if tick c true true f t h k = ap (λ (x : Task). x ∷ []) h
going-if tick c false false f t h k = refl
going-if tick c true false f t h k = absurd (cc)
going-if tick c false true f t h k = absurd (cc)

gives-one : {tick : ℕ} {polled : Option ℕ} {view : Seen} {e f : Entry} {a : Answer} (b : Bool) (rs ss : List Reply) (ls ms : List ℕ) → WasPolled tick polled view e f a → b ≡ not (is_done_stage f.run.stage) → ss ≡ rs ++ option_to_list (option_map (reply_of_task (task_of f)) a.reply) → ms ≡ ls ++ cond a.late (f.number ∷ []) []
    → (c : ℕ → Option ℕ) → MayComeToAll c (noticed_in tick view (shown polled e) ∷ []) → Gives tick c (noticed_in tick view (shown polled e) ∷ []) (kept_if b f) rs ss ls ms
gives-one {tick} {polled} {view} {e} {f} {a} b rs ss ls ms w k r l c m =
    let t = noticed_in tick view (shown polled e) in
    let may : MayComeTo (task_of f) (c f.number) = subst (λ (x : Task). MayComeTo x (c x.number)) (sym w.task) m.0 in
    let now = w.answer (c f.number) may in
    let reply : option_to_list (option_map (reply_of_task (task_of f)) a.reply) ≡ replies_in tick c (task_of f ∷ []) =
    ap (λ (x : Option Outcome). option_to_list (option_map (reply_of_task (task_of f)) x)) now.0 ∙ sym (append_nil (option_to_list (option_map (reply_of_task (task_of f)) (reply_in tick f.return_on_cancel (c f.number) (body_end (task_of f) (c f.number)))))) in
    let late : cond {A = List ℕ} a.late (f.number ∷ []) [] ≡ late_in tick c (task_of f ∷ []) =
    ap (λ (x : Bool). cond {A = List ℕ} x (f.number ∷ []) []) now.1 ∙ sym (append_nil (cond {A = List ℕ} (is_late_in tick f.return_on_cancel (c f.number) (body_end (task_of f) (c f.number))) (f.number ∷ []) [])) in
    let goes : b ≡ goes_on tick c (task_of f) = k ∙ ap not now.2 in
    record {
      replies = r ∙ ap (λ (x : List Reply). rs ++ x) (reply ∙ ap (λ (x : Task). replies_in tick c (x ∷ [])) w.task);
      late = l ∙ ap (λ (x : List ℕ). ls ++ x) (late ∙ ap (λ (x : Task). late_in tick c (x ∷ [])) w.task);
      going = going-if tick c b (goes_on tick c t) f t (shown-now w) (goes ∙ ap (goes_on tick c) w.task);
    }

pub polled_one : {tick : ℕ} {polled : Option ℕ} {view : Seen} {e f : Entry} {a : Answer} (b : Bool) (rs ss : List Reply) (ls ms : List ℕ) → CanPollAll tick polled view (e ∷ []) → WasPolled tick polled view e f a → b ≡ not (is_done_stage f.run.stage) → ss ≡ rs ++ option_to_list (option_map (reply_of_task (task_of f)) a.reply) → ms ≡ ls ++ cond a.late (f.number ∷ []) []
    → HasPolledAll tick polled view (e ∷ []) (cond b (f ∷ []) []) rs ss ls ms
polled_one {tick} {polled} {view} {e} {f} {a} b rs ss ls ms h w k r l = record {
  gives = gives-one b rs ss ls ms w k r l;
  waiting = waiting-if b k w h.waiting.0 h.past;
  wake = later-if b k w;
  grown = grown-if b w h.grown;
  noticed = noticed-if b w;
  listed = λ cs x. listed-if b cs w x;
}

-- ---- an entry that is passed over
clear-same : (tick first : ℕ) (flag : Bool) (polled cancelled clear : Option ℕ) (run : Run) (stage : Stage) → IsWaitingAt tick first stage → IsPassedBy polled run.wake stage → IsAfter tick (wake_of_stage first run stage) → (flag && not (is_some cancelled)) ≡ false → StaysSet cancelled flag
    → caught_clear (Some tick) cancelled stage clear ≡ clear_to tick flag (caught_clear polled cancelled stage clear)
clear-same tick first flag polled cancelled clear run Fresh w p a s g = absurd (omega (arith, w))
clear-same tick first flag polled cancelled clear run (Set begun at) w p a s g = absurd w
clear-same tick first flag None cancelled clear run (Polled begun at) w p a s g = absurd p
clear-same tick first true (Some last) None clear run (Polled begun at) w p a s g = absurd (cc)
clear-same tick first false (Some last) None clear run (Polled begun at) w p a s g = refl
clear-same tick first true (Some last) (Some from) clear run (Polled begun at) w p a s g = refl
clear-same tick first false (Some last) (Some from) clear run (Polled begun at) w p a s g = absurd (cc)
clear-same tick first flag polled cancelled clear run Done w p a s g = absurd w

seen-same : (tick : ℕ) (flag : Bool) (cancelled : Option ℕ) → (flag && not (is_some cancelled)) ≡ false → cancelled ≡ seen_from tick flag cancelled
seen-same tick true None s = absurd (cc)
seen-same tick false None s = refl
seen-same tick flag (Some from) s = refl

stage-same : (tick first : ℕ) (run : Run) (stage : Stage) → IsWaitingAt tick first stage → IsAfter tick (wake_of_stage first run stage) → IsWaitingAt (tick + 1) first stage
stage-same tick first run Fresh w a = absurd (omega (arith, w))
stage-same tick first run (Set begun at) w a = absurd w
stage-same tick first run (Polled begun at) w a = w
stage-same tick first run Done w a = absurd w

later-same : (tick : ℕ) (wake : Option ℕ) (at : ℕ) → IsLater at wake → IsAfter tick wake → IsLater tick wake
later-same tick None at l a = absurd l
later-same tick (Some wake) at l a = a

passed-same : (tick first : ℕ) (polled : Option ℕ) (run : Run) (stage : Stage) → IsWaitingAt tick first stage → IsPassedBy polled run.wake stage → IsBefore tick polled → IsAfter tick (wake_of_stage first run stage) → IsPassedBy (Some tick) run.wake stage
passed-same tick first polled run Fresh w p b a = tt
passed-same tick first polled run (Set begun at) w p b a = absurd w
passed-same tick first None run (Polled begun at) w p b a = absurd p
passed-same tick first (Some last) run (Polled begun at) w p b a = (omega (arith, p.0), later-same tick run.wake last p.1 a)
passed-same tick first polled run Done w p b a = absurd w

seen-on : (tick : ℕ) (polled clear : Option ℕ) → IsBefore tick polled → IsSeenBy polled clear → IsBy tick clear
seen-on tick polled None p s = tt
seen-on tick None (Some a) p s = absurd (cc)
seen-on tick (Some last) (Some a) p s = omega arith

none-next : (rc b : Bool) → b ≡ false → (rc && b) ≡ false
none-next true b h = h
none-next false b h = refl

shown-same : (tick : ℕ) (polled : Option ℕ) (view : Seen) (e : Entry) → IsWaiting tick polled e → IsAfter tick (wake_of_entry e) → HasGrown view (all_shown polled (e ∷ [])) → comes view e ≡ false → shown (Some tick) e ≡ noticed_in tick view (shown polled e)
shown-same tick polled view e w a g s =
    let clear = clear-same tick e.first (sees view e.cancel) polled e.run.cancelled e.run.clear e.run e.run.stage w.stage w.passed a s g.1 in
    let seen = seen-same tick (sees view e.cancel) e.run.cancelled s in
    λ i. record (task_of e) { clear = clear i; cancelled = seen i }

gives-none : (tick : ℕ) (polled : Option ℕ) (view : Seen) (e : Entry) (rs : List Reply) (ls : List ℕ) (c : ℕ → Option ℕ) → shown (Some tick) e ≡ noticed_in tick view (shown polled e) → IsIdleOne tick (c e.number) (shown polled e) → Gives tick c (noticed_in tick view (shown polled e) ∷ []) (e ∷ []) rs rs ls ls
gives-none tick polled view e rs ls c same idle =
    let t = noticed_in tick view (shown polled e) in
    let replies : replies_in tick c (t ∷ []) ≡ [] = ap (λ (x : Option Outcome). option_to_list (option_map (reply_of_task t) x) ++ []) idle.0 in
    let late : late_in tick c (t ∷ []) ≡ [] = ap (λ (x : Bool). cond {A = List ℕ} x (e.number ∷ []) [] ++ []) idle.1 in
    record {
      replies = sym (ap (λ (x : List Reply). rs ++ x) replies ∙ append_nil rs);
      late = sym (ap (λ (x : List ℕ). ls ++ x) late ∙ append_nil ls);
      going = ap (λ (x : Task). x ∷ []) same ∙ sym (ap (λ (x : Bool). cond {A = List Task} x (t ∷ []) []) idle.2);
    }

passed-one : (tick : ℕ) (polled : Option ℕ) (view : Seen) (e : Entry) (rs : List Reply) (ls : List ℕ) → IsWaiting tick polled e → IsBefore tick polled → IsAfter tick (wake_of_entry e) → HasGrown view (all_shown polled (e ∷ [])) → comes view e ≡ false → HasPolledAll tick polled view (e ∷ []) (e ∷ []) rs rs ls ls
passed-one tick polled view e rs ls w p a g s = record {
  gives = λ c m. gives-none tick polled view e rs ls c (shown-same tick polled view e w a g s) (idle_one tick tick polled view (c e.number) e w (omega arith) p a (none-next e.return_on_cancel (comes view e) s) m.0);
  waiting = (
    record {
      stage = stage-same tick e.first e.run e.run.stage w.stage a;
      passed = passed-same tick e.first polled e.run e.run.stage w.stage w.passed p a;
      before = before_later tick (tick + 1) e.run.cancelled (omega arith) w.before;
      clear = seen-on tick polled e.run.clear p w.clear;
      end = w.end;
    },
    tt,
  );
  wake = after_both tick (wake_of_entry e) None a tt;
  grown = (g.0, g.1, tt);
  noticed = rw s refl;
  listed = λ cs h. h;
}

pub passed_all : (tick : ℕ) (polled : Option ℕ) (view : Seen) (es : List Entry) (rs : List Reply) (ls : List ℕ) → AreWaiting tick polled es → IsBefore tick polled → IsAfter tick (wake_of_all es) → HasGrown view (all_shown polled es) → list_any (comes view) es ≡ false → HasPolledAll tick polled view es es rs rs ls ls
passed_all tick polled view [] rs ls w p a g s = record {
  gives = λ c m. record { replies = sym (append_nil rs); late = sym (append_nil ls); going = refl };
  waiting = tt;
  wake = tt;
  grown = tt;
  noticed = refl;
  listed = λ cs h. h;
}
passed_all tick polled view (e ∷ es) rs ls w p a g s =
    polled_joined
    (passed-one tick polled view e rs ls w.0 p (after_a tick (wake_of_entry e) (wake_of_all es) a) (g.0, g.1, tt) (or-left (comes view e) (list_any (comes view) es) s))
    (passed_all tick polled view es rs ls w.1 p (after_b tick (wake_of_entry e) (wake_of_all es) a) g.2 (or-right (comes view e) (list_any (comes view) es) s))

-- ---- entries whose mark is quiet are passed over
-- what is passed over was polled before, since all others wake
not-fresh : (tick first : ℕ) (run : Run) (stage : Stage) → IsWaitingAt tick first stage → IsAfter tick (wake_of_stage first run stage) → not (is_fresh stage) ≡ true
not-fresh tick first run Fresh w a = absurd (omega (arith, w))
not-fresh tick first run (Set begun at) w a = absurd w
not-fresh tick first run (Polled begun at) w a = refl
not-fresh tick first run Done w a = absurd w

and-true : (a b : Bool) → a ≡ true → (a && b) ≡ false → b ≡ false
and-true true b h k = k
and-true false b h k = absurd (cc)

either-none : (a b : Bool) → a ≡ false → b ≡ false → (a || b) ≡ false
either-none a b h k = rw (h, k) refl

comes-once : (tick : ℕ) (polled : Option ℕ) (view : Seen) (es : List Entry) → AreWaiting tick polled es → IsAfter tick (wake_of_all es) → list_any (comes_once view) es ≡ false → list_any (comes view) es ≡ false
comes-once tick polled view [] w a n = refl
comes-once tick polled view (e ∷ es) w a n =
    let was = not-fresh tick e.first e.run e.run.stage w.0.stage (after_a tick (wake_of_entry e) (wake_of_all es) a) in
    either-none (comes view e) (list_any (comes view) es) (and-true (not (is_fresh e.run.stage)) (comes view e) was (or-left (comes_once view e) (list_any (comes_once view) es) n))
    (comes-once tick polled view es w.1 (after_b tick (wake_of_entry e) (wake_of_all es) a) (or-right (comes_once view e) (list_any (comes_once view) es) n))

none-came-or-heeds : (tick : ℕ) (polled : Option ℕ) (came : Bool) (view : Seen) (es : List Entry) → AreWaiting tick polled es → IsAfter tick (wake_of_all es) → NoneComes came view es → (came && list_any heeds es) ≡ false → list_any (comes view) es ≡ false
none-came-or-heeds tick polled true view es w a n h = none_heeds view es h
none-came-or-heeds tick polled false view es w a n h = comes-once tick polled view es w a (n refl)

after-due : (tick : ℕ) (wake : Option ℕ) → tick < due_by wake → IsAfter tick wake
after-due tick None lt = tt
after-due tick (Some wake) lt = omega arith

pub passed_quiet : (round : Round) (view : Seen) (mark : Mark) (es : List Entry) (rs : List Reply) (ls : List ℕ) → mark ≡ mark_of es → IsQuiet round mark → CanPollAll round.tick round.polled view es → NoneComes round.came view es → HasPolledAll round.tick round.polled view es es rs rs ls ls
passed_quiet round view mark es rs ls m q can n =
    let quiet : IsQuiet round (mark_of es) = subst (λ (x : Mark). IsQuiet round x) m q in
    let after = after-due round.tick (wake_of_all es) quiet.0 in
    passed_all round.tick round.polled view es rs ls can.waiting can.past after can.grown (none-came-or-heeds round.tick round.polled round.came view es can.waiting after n quiet.1)

pub passed_none : (round : Round) (view : Seen) (rs : List Reply) (ls : List ℕ) → CanPollAll round.tick round.polled view [] → HasPolledAll round.tick round.polled view [] [] rs rs ls ls
passed_none round view rs ls can = passed_all round.tick round.polled view [] rs ls can.waiting can.past tt can.grown refl

-- ---- what may come to two parts of entries
pub comes_left : (came : Bool) (view : Seen) (es gs : List Entry) → NoneComes came view (es ++ gs) → NoneComes came view es
comes_left came view es gs n = λ k. or-left (list_any (comes_once view) es) (list_any (comes_once view) gs) (sym (any_joined (comes_once view) es gs) ∙ n k)

pub comes_right : (came : Bool) (view : Seen) (es gs : List Entry) → NoneComes came view (es ++ gs) → NoneComes came view gs
comes_right came view es gs n = λ k. or-right (list_any (comes_once view) es) (list_any (comes_once view) gs) (sym (any_joined (comes_once view) es gs) ∙ n k)

-- ---- what a poll of all gives, by the tasks that the book showed
pub poll_gives : {tick : ℕ} {polled : Option ℕ} {view : Seen} {es fs : List Entry} {rs ss : List Reply} {ls ms : List ℕ} → HasPolledAll tick polled view es fs rs ss ls ms → (ts : List Task) → all_shown polled es ≡ ts → rs ≡ [] → ls ≡ [] → (c : ℕ → Option ℕ) → MayComeToAll c (all_noticed tick view ts) → (ss ≡ replies_in tick c (all_noticed tick view ts)) × (ms ≡ late_in tick c (all_noticed tick view ts)) × (all_shown (Some tick) fs ≡ filter (goes_on tick c) (all_noticed tick view ts))
poll_gives {tick} {polled} {view} {es} {fs} {rs} {ss} {ls} {ms} all ts e r l c m =
    let noticed : all_noticed tick view (all_shown polled es) ≡ all_noticed tick view ts = ap (all_noticed tick view) e in
    let gives = all.gives c (subst (λ (x : List Task). MayComeToAll c x) (sym noticed) m) in (
      gives.replies ∙ (ap (λ (x : List Reply). x ++ replies_in tick c (all_noticed tick view (all_shown polled es))) r ∙ ap (replies_in tick c) noticed),
      gives.late ∙ (ap (λ (x : List ℕ). x ++ late_in tick c (all_noticed tick view (all_shown polled es))) l ∙ ap (late_in tick c) noticed),
      gives.going ∙ ap (filter (goes_on tick c)) noticed,
    )

-- ---- the entries wait for a tick that passes over no wake
due-stage : (next tick first : ℕ) (run : Run) (stage : Stage) → IsWaitingAt next first stage → next ≤ tick → IsUpTo tick (wake_of_stage first run stage) → IsWaitingAt tick first stage
due-stage next tick first run Fresh w n k = omega (arith, w)
due-stage next tick first run (Set begun at) w n k = absurd w
due-stage next tick first run (Polled begun at) w n k = w
due-stage next tick first run Done w n k = absurd w

waiting-from : (next tick : ℕ) (polled : Option ℕ) (es : List Entry) → AreWaiting next polled es → next ≤ tick → IsUpTo tick (wake_of_all es) → AreWaiting tick polled es
waiting-from next tick polled [] w n k = tt
waiting-from next tick polled (e ∷ es) w n k = (
  record {
    stage = due-stage next tick e.first e.run e.run.stage w.0.stage n (up-a tick (wake_of_entry e) (wake_of_all es) k);
    passed = w.0.passed;
    before = before_later next tick e.run.cancelled n w.0.before;
    clear = w.0.clear;
    end = w.0.end;
  },
  waiting-from next tick polled es w.1 n (up-b tick (wake_of_entry e) (wake_of_all es) k),
)

pub can_poll_all : (tick : ℕ) (last polled : Option ℕ) (view : Seen) (es : List Entry) → AreWaitingAfter last polled es → IsPolledBy last polled → IsNext tick last → IsUpTo tick (wake_of_all es) → HasGrown view (all_shown polled es) → CanPollAll tick polled view es
can_poll_all tick None polled view es w p n k g = record { waiting = rw w tt; past = rw p tt; wake = k; grown = g }
can_poll_all tick (Some last) polled view es w p n k g = record { waiting = waiting-from (last + 1) tick polled es w (omega arith) k; past = polled_before last tick polled n p; wake = k; grown = g }
