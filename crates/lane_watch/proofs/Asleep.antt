-- A tick that is passed over, beside the tick in which each cancellable came into the view.
use Rattle.std.proofs.Common.{◌≡◌, ℕ, zero, suc, ◌+◌, ◌<◌, ◌≤◌, ◌==◌, ◌&&◌, ◌||◌, not, Bool, true, false, cond, length, Option, Some, None, is_some, List, [], ◌∷◌, ◌++◌, map, filter, refl, ap, sym, subst, arith}
use Rattle.std.specs.Prelude.{option_map, option_to_list}
use Rattle.std.specs.List.{AllByRecursion, list_any}
use Rattle.cancel_view.specs.Seen.{Seen, has, has_other_id, connected, without}
use Rattle.task_steps.specs.Run.{IsAfter, IsUpTo}
use Rattle.task_steps.specs.Reply.{reply_of_task}
use Rattle.task_steps.specs.Task.{Task, reply_in, is_late_in, body_end}
use Rattle.task_steps.specs.Book.{Book, passed, noticed_in, all_noticed, replies_in, late_in, goes_on, replies_next, wake_under, OwesNone, IsIn, IsNext, IsQuietTo}
use Rattle.task_steps.proofs.Passed.{may_pass}
use Rattle.lane_watch.specs.Tasks.{came_in}
use Rattle.lane_watch.specs.Watch.{AreDated, SeenAs, Fits, IsJoined, IsAsleep, IsIdleUnder, IsLast, started_of}
use Rattle.lane_watch.proofs.Dated.{sees_dated, later_all}
use Rattle.lane_watch.proofs.Noticed.{seen_by, below_more}

-- ---- what was asleep

-- nothing is passed over before the next poll
pub awake : (tick : ℕ) (view : Seen) (book : Book) → IsAsleep tick (Some tick) view book
awake tick view book = λ later le a. absurd (omega arith)

pub asleep_to : (tick : ℕ) (view : Seen) (book : Book) → IsQuietTo (wake_under tick view book) tick view book.tasks → IsAsleep (tick + 1) (wake_under tick view book) view book
asleep_to tick view book quiet = λ later le a. let may = may_pass tick later view book (omega arith) a in (may.0, may.1, λ c m. quiet later c (omega arith) a m)

-- ---- a task that was passed over fits the next tick
seen_passed : (tick first : ℕ) (returns : Bool) (s clear cancelled : Option ℕ) → (returns && (is_some s && not (is_some cancelled))) ≡ false → SeenAs tick returns clear cancelled (seen_by first s) → SeenAs (tick + 1) returns clear cancelled (seen_by first s)
seen_passed tick first returns None clear None o h = tt
seen_passed tick first returns None clear (Some from) o h = h
seen_passed tick first true (Some s) clear None o h = absurd (cc)
seen_passed tick first false (Some s) clear None o h = (h.0, λ r. absurd (cc))
seen_passed tick first returns (Some s) clear (Some from) o h = h

fits_passed : (tick tick_us : ℕ) (view : Seen) (came : List (Option ℕ)) (t : Task) → AreDated came view.members → replies_next view t ≡ false → Fits tick tick_us view came t → Fits (tick + 1) tick_us view came t
fits_passed tick tick_us view came t dated owes fits = record {
  ticks = fits.ticks;
  first = omega (arith, fits.first);
  clear = below_more tick t.clear fits.clear;
  seen = seen_passed tick t.first t.return_on_cancel (came_in came t.cancel) t.clear t.cancelled
      (subst (λ (b : Bool). (t.return_on_cancel && (b && not (is_some t.cancelled))) ≡ false) (sees_dated came view t.cancel dated) owes) fits.seen;
  known = fits.known;
}

left : (a b : Bool) → (a || b) ≡ false → a ≡ false
left true b h = absurd (cc)
left false b h = refl

right : (a b : Bool) → (a || b) ≡ false → b ≡ false
right true b h = absurd (cc)
right false b h = h

all_passed : (tick tick_us : ℕ) (view : Seen) (came : List (Option ℕ)) (ts : List Task) → AreDated came view.members → OwesNone view ts → AllByRecursion (Fits tick tick_us view came) ts → AllByRecursion (Fits (tick + 1) tick_us view came) ts
all_passed tick tick_us view came [] dated owes h = tt
all_passed tick tick_us view came (t ∷ ts) dated owes h = (
  fits_passed tick tick_us view came t dated (left (replies_next view t) (list_any (replies_next view) ts) owes) h.0,
  all_passed tick tick_us view came ts dated (right (replies_next view t) (list_any (replies_next view) ts) owes) h.1,
)

pub up_to_next : (tick : ℕ) (wake : Option ℕ) → IsAfter tick wake → IsUpTo (tick + 1) wake
up_to_next tick None h = tt
up_to_next tick (Some w) h = omega arith

pub joined_passed : (tick us : ℕ) (view : Seen) (came : List (Option ℕ)) (book : Book) (wake : Option ℕ) → IsAfter tick wake → IsJoined tick us view came book wake → IsJoined (tick + 1) us view came (passed tick book) wake
joined_passed tick us view came book wake a j =
    let sleeps = j.asleep tick (omega arith) a in
    record {
      ticks = j.ticks;
      some = j.some;
      short = j.short;
      sound = j.sound;
      last = refl;
      wake = up_to_next tick book.wake sleeps.0;
      asleep = λ later le b. j.asleep later (omega arith) b;
      dated = j.dated;
      past = later_all came tick j.past;
      fits = all_passed tick us view came book.tasks j.dated sleeps.1 j.fits;
      numbered = j.numbered;
    }

pub after_less : (k later : ℕ) (wake : Option ℕ) → k ≤ later → IsAfter later wake → IsAfter k wake
after_less k later None le a = tt
after_less k later (Some w) le a = omega arith

-- the last poll or pass was before
pub after_last : (tick k : ℕ) (last : Option ℕ) → tick ≤ k → IsLast tick last → IsNext k last
after_last tick k None le h = tt
after_last tick k (Some last) le h = omega arith

-- so does each after it, before the wake
pub joined_skipped : (n tick last us : ℕ) (view : Seen) (came : List (Option ℕ)) (book : Book) (wake : Option ℕ) → last ≡ tick + n → IsAfter last wake → IsJoined tick us view came book wake → IsJoined (last + 1) us view came (passed last book) wake
joined_skipped zero tick last us view came book wake e a j =
    let is : tick ≡ last = omega arith in
    subst (λ (k : ℕ). IsJoined (k + 1) us view came (passed k book) wake) is (joined_passed tick us view came book wake (after_less tick last wake (omega arith) a) j)
joined_skipped (suc n) tick last us view came book wake e a j =
    joined_skipped n (tick + 1) last us view came (passed tick book) wake (omega arith) a (joined_passed tick us view came book wake (after_less tick last wake (omega arith) a) j)

-- ---- another view of the same cancellables
fits_viewed : (tick us : ℕ) (v w : Seen) (came : List (Option ℕ)) (ts : List Task) → w.members ≡ v.members → AllByRecursion (Fits tick us v came) ts → AllByRecursion (Fits tick us w came) ts
fits_viewed tick us v w came [] e h = tt
fits_viewed tick us v w came (t ∷ ts) e h =
    let f = h.0 in
    (record { ticks = f.ticks; first = f.first; clear = f.clear; seen = f.seen; known = known_viewed t.cancel f.known }, fits_viewed tick us v w came ts e h.1)
  where
    known_viewed : (cancel : Option ℕ) → IsIn v cancel → IsIn w cancel
    known_viewed None k = tt
    known_viewed (Some c) k = subst (λ (ms : List Bool). c < length ms) (sym e) k

pub joined_viewed : (tick us : ℕ) (v w : Seen) (came : List (Option ℕ)) (book : Book) (until : Option ℕ) → w.members ≡ v.members → IsJoined tick us v came book until → IsJoined tick us w came book until
joined_viewed tick us v w came book until e j = record {
  ticks = j.ticks;
  some = j.some;
  short = j.short;
  sound = j.sound;
  last = j.last;
  wake = j.wake;
  asleep = λ later le a. let s = j.asleep later le a in (s.0, owes s.1, idle later s.2);
  dated = subst (λ (ms : List Bool). AreDated came ms) (sym e) j.dated;
  past = j.past;
  fits = fits_viewed tick us v w came book.tasks e j.fits;
  numbered = j.numbered;
}
  where
    owes : OwesNone v book.tasks → OwesNone w book.tasks
    owes o = subst (λ (ms : List Bool). OwesNone (record v { members = ms }) book.tasks) (sym e) o

    idle : (later : ℕ) → IsIdleUnder later v book.tasks → IsIdleUnder later w book.tasks
    idle later o = subst (λ (ms : List Bool). IsIdleUnder later (record v { members = ms }) book.tasks) (sym e) o

pub connected_members : (c proc : ℕ) (v : Seen) → (connected c proc v).members ≡ v.members
connected_members c proc v = elim (has c v) as (λ b. (cond b v (record v { handlers = v.handlers ++ record { id = v.next_id; cancellable = c; proc = proc } ∷ []; next_id = v.next_id + 1 })).members ≡ v.members) [ true ↦ refl | false ↦ refl ]

pub without_members : (id : ℕ) (v : Seen) → (without id v).members ≡ v.members
without_members id v = elim (id == 0) as (λ b. (cond b v (record v { handlers = filter (has_other_id id) v.handlers })).members ≡ v.members) [ true ↦ refl | false ↦ refl ]

-- ---- what a poll notices changes no answer
module _ (tick : ℕ) (view : Seen) (c : ℕ → Option ℕ) where
  pub replies_unnoticed : (ts : List Task) → replies_in tick c (all_noticed tick view ts) ≡ replies_in tick c ts
  replies_unnoticed [] = refl
  replies_unnoticed (t ∷ ts) = ap (λ rs. option_to_list (option_map (reply_of_task t) (reply_in tick t.return_on_cancel (c t.number) (body_end t (c t.number)))) ++ rs) (replies_unnoticed ts)

  pub late_unnoticed : (ts : List Task) → late_in tick c (all_noticed tick view ts) ≡ late_in tick c ts
  late_unnoticed [] = refl
  late_unnoticed (t ∷ ts) = ap (λ ns. cond (is_late_in tick t.return_on_cancel (c t.number) (body_end t (c t.number))) (t.number ∷ []) [] ++ ns) (late_unnoticed ts)

  kept_same : (b : Bool) (t : Task) (ns ts : List Task) → map started_of ns ≡ map started_of ts → map started_of (cond b (noticed_in tick view t ∷ ns) ns) ≡ map started_of (cond b (t ∷ ts) ts)
  kept_same true t ns ts h = λ i. started_of t ∷ h i
  kept_same false t ns ts h = h

  pub kept_unnoticed : (ts : List Task) → map started_of (filter (goes_on tick c) (all_noticed tick view ts)) ≡ map started_of (filter (goes_on tick c) ts)
  kept_unnoticed [] = refl
  kept_unnoticed (t ∷ ts) = kept_same (goes_on tick c t) t _ _ (kept_unnoticed ts)
