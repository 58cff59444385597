-- All polls of a tick, beside the tasks that a lane has.
use Rattle.std.proofs.Common.{◌≡◌, ℕ, ◌+◌, ◌≤◌, ◌==◌, not, Bool, true, false, cond, Option, Some, None, List, [], ◌∷◌, ◌++◌, map, filter, refl, ap, sym, ◌∙◌, subst, arith, eq-eqb, ne_eqb}
use Rattle.std.specs.Prelude.{option_map, option_to_list, if◌then◌else◌}
use Rattle.std.specs.List.{AllByRecursion, filter_map, cons_option}
use Rattle.cancel_view.specs.Seen.{Seen}
use Rattle.task_steps.specs.declared.entry.Reply.{Reply}
use Rattle.loop_script.specs.End.{end_of}
use Rattle.task_steps.specs.Reply.{reply_of_task}
use Rattle.task_steps.specs.Task.{Task, MayComeTo, reply_in, is_late_in, body_end}
use Rattle.task_steps.specs.Book.{MayComeToAll, noticed_in, all_noticed, replies_in, late_in, goes_on}
use Rattle.lane_watch.specs.Tasks.{Started, Tasks, first_seen, end_of_task, reply_at, is_late_at, stays_at}
use Rattle.lane_watch.specs.Watch.{AreDated, IsBelow, Fits, Numbered, started_of}
use Rattle.lane_watch.proofs.Noticed.{may_come, fits_next}

-- when each task is first seen as cancelled, by its number
pub c_of : List (Option ℕ) → List Task → ℕ → Option ℕ
c_of came [] n = None
c_of came (t ∷ ts) n = cond (t.number == n) (first_seen came (started_of t)) (c_of came ts n)

abbrev pub Tells : List (Option ℕ) → (ℕ → Option ℕ) → List Task → Type 0
Tells came c ts = AllByRecursion (λ t. c t.number ≡ first_seen came (started_of t)) ts

above : (low from next : ℕ) (ts : List Task) → low ≤ from → Numbered from next ts → AllByRecursion (λ q. low ≤ q.number) ts
above low from next [] le h = tt
above low from next (t ∷ ts) le h = (let k = h.0 in omega arith, above low (t.number + 1) next ts (let k = h.0 in omega arith) h.1)

past_head : (came : List (Option ℕ)) (t : Task) (ts qs : List Task) → AllByRecursion (λ q. t.number + 1 ≤ q.number) qs → Tells came (c_of came ts) qs → Tells came (c_of came (t ∷ ts)) qs
unfolding c_of
past_head came t ts [] a h = tt
past_head came t ts (q ∷ qs) a h =
    let k = a.0 in
    let other : (t.number == q.number) ≡ false = ne_eqb t.number q.number (λ e. omega arith) in
    (ap (λ (b : Bool). cond b (first_seen came (started_of t)) (c_of came ts q.number)) other ∙ h.0, past_head came t ts qs a.1 h.1)

pub tells : (came : List (Option ℕ)) (low next : ℕ) (ts : List Task) → Numbered low next ts → Tells came (c_of came ts) ts
unfolding c_of
tells came low next [] h = tt
tells came low next (t ∷ ts) h = (
  ap (λ (b : Bool). cond b (first_seen came (started_of t)) (c_of came ts t.number)) (eq-eqb t.number t.number refl),
  past_head came t ts ts (above (t.number + 1) (t.number + 1) next ts (omega arith) h.1) (tells came (t.number + 1) next ts h.1),
)

pub may_come_all : (tick tick_us : ℕ) (view : Seen) (came : List (Option ℕ)) (c : ℕ → Option ℕ) (ts : List Task) → AreDated came view.members → AllByRecursion (IsBelow tick) came → AllByRecursion (Fits tick tick_us view came) ts → Tells came c ts
    → MayComeToAll c (all_noticed tick view ts)
may_come_all tick tick_us view came c [] dated past fits told = tt
may_come_all tick tick_us view came c (t ∷ ts) dated past fits told = (
  subst (MayComeTo (noticed_in tick view t)) (sym told.0) (may_come tick tick_us view came t dated past fits.0),
  may_come_all tick tick_us view came c ts dated past fits.1 told.1,
)

-- ---- what is given

module _ (tick : ℕ) (view : Seen) (tasks : Tasks) (c : ℕ → Option ℕ) where
  listed : (o : Option Reply) (rs : List Reply) → option_to_list o ++ rs ≡ cons_option o rs
  listed None rs = refl
  listed (Some r) rs = refl

  ends_same : (t : Task) → t.tick_us ≡ tasks.tick_us → c t.number ≡ first_seen tasks.came (started_of t) → body_end t (c t.number) ≡ end_of_task tasks.tick_us tasks.came (started_of t)
  ends_same t us e = λ i. end_of (us i) t.tree t.first (e i)

  pub replies_same : (ts : List Task) → AllByRecursion (λ t. t.tick_us ≡ tasks.tick_us) ts → Tells tasks.came c ts → replies_in tick c (all_noticed tick view ts) ≡ filter_map (reply_at tick tasks) (map started_of ts)
  replies_same [] us told = refl
  replies_same (t ∷ ts) us told =
      listed (option_map (reply_of_task t) (reply_in tick t.return_on_cancel (c t.number) (body_end t (c t.number)))) (replies_in tick c (all_noticed tick view ts))
      ∙ (λ i. cons_option (option_map (reply_of_task t) (reply_in tick t.return_on_cancel (told.0 i) (ends_same t us.0 told.0 i))) (replies_same ts us.1 told.1 i))

  late_one : (b : Bool) (n : ℕ) (s : Started) (ns : List ℕ) (ss : List Started) → n ≡ s.number → ns ≡ map (λ (q : Started). q.number) ss → (if b then n ∷ [] else []) ++ ns ≡ map (λ (q : Started). q.number) (cond b (s ∷ ss) ss)
  late_one true n s ns ss e h = λ i. e i ∷ h i
  late_one false n s ns ss e h = h

  pub late_same : (ts : List Task) → AllByRecursion (λ t. t.tick_us ≡ tasks.tick_us) ts → Tells tasks.came c ts → late_in tick c (all_noticed tick view ts) ≡ map (λ (q : Started). q.number) (filter (is_late_at tick tasks) (map started_of ts))
  late_same [] us told = refl
  late_same (t ∷ ts) us told =
      ap (λ (b : Bool). (if b then t.number ∷ [] else []) ++ late_in tick c (all_noticed tick view ts)) (λ i. is_late_in tick t.return_on_cancel (told.0 i) (ends_same t us.0 told.0 i))
      ∙ late_one (is_late_at tick tasks (started_of t)) t.number (started_of t) _ _ refl (late_same ts us.1 told.1)

  stays_one : (b : Bool) (n : Task) (s : Started) (ns : List Task) (ss : List Started) → started_of n ≡ s → map started_of ns ≡ ss → map started_of (cond b (n ∷ ns) ns) ≡ cond b (s ∷ ss) ss
  stays_one true n s ns ss e h = λ i. e i ∷ h i
  stays_one false n s ns ss e h = h

  pub stays_same : (ts : List Task) → AllByRecursion (λ t. t.tick_us ≡ tasks.tick_us) ts → Tells tasks.came c ts → map started_of (filter (goes_on tick c) (all_noticed tick view ts)) ≡ filter (stays_at tick tasks) (map started_of ts)
  stays_same [] us told = refl
  stays_same (t ∷ ts) us told =
      ap (λ (b : Bool). map started_of (cond b (noticed_in tick view t ∷ filter (goes_on tick c) (all_noticed tick view ts)) (filter (goes_on tick c) (all_noticed tick view ts)))) (λ i. not ((ends_same t us.0 told.0 i).tick == tick))
      ∙ stays_one (stays_at tick tasks (started_of t)) (noticed_in tick view t) (started_of t) _ _ refl (stays_same ts us.1 told.1)

-- ---- what goes on fits the next tick

pub all_of_ticks : (tick tick_us : ℕ) (view : Seen) (came : List (Option ℕ)) (ts : List Task) → AllByRecursion (Fits tick tick_us view came) ts → AllByRecursion (λ t. t.tick_us ≡ tick_us) ts
all_of_ticks tick tick_us view came [] h = tt
all_of_ticks tick tick_us view came (t ∷ ts) h = (h.0.ticks, all_of_ticks tick tick_us view came ts h.1)

kept_if : (P : Task → Type 0) (b : Bool) (t : Task) (ts : List Task) → P t → AllByRecursion P ts → AllByRecursion P (cond b (t ∷ ts) ts)
kept_if P true t ts p h = (p, h)
kept_if P false t ts p h = h

pub fits_all : (tick tick_us : ℕ) (view : Seen) (came : List (Option ℕ)) (keeps : Task → Bool) (ts : List Task) → AreDated came view.members → AllByRecursion (IsBelow tick) came → AllByRecursion (Fits tick tick_us view came) ts
    → AllByRecursion (Fits (tick + 1) tick_us view came) (filter keeps (all_noticed tick view ts))
fits_all tick tick_us view came keeps [] dated past h = tt
fits_all tick tick_us view came keeps (t ∷ ts) dated past h =
    kept_if (Fits (tick + 1) tick_us view came) (keeps (noticed_in tick view t)) (noticed_in tick view t) _ (fits_next tick tick_us view came t dated past h.0) (fits_all tick tick_us view came keeps ts dated past h.1)

lower : (low from next : ℕ) (ts : List Task) → low ≤ from → Numbered from next ts → Numbered low next ts
lower low from next [] le h = omega arith
lower low from next (t ∷ ts) le h = (let k = h.0 in omega arith, h.1)

numbered_if : (b : Bool) (low next : ℕ) (t : Task) (ts : List Task) → low ≤ t.number → Numbered (t.number + 1) next ts → Numbered low next (cond b (t ∷ ts) ts)
numbered_if true low next t ts le h = (le, h)
numbered_if false low next t ts le h = lower low (t.number + 1) next ts (omega arith) h

pub numbered_all : (tick low next : ℕ) (view : Seen) (keeps : Task → Bool) (ts : List Task) → Numbered low next ts → Numbered low next (filter keeps (all_noticed tick view ts))
numbered_all tick low next view keeps [] h = h
numbered_all tick low next view keeps (t ∷ ts) h = numbered_if (keeps (noticed_in tick view t)) low next (noticed_in tick view t) _ h.0 (numbered_all tick (t.number + 1) next view keeps ts h.1)
