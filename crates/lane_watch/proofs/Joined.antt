-- The view, the ticks and the book after each call.
use Rattle.std.proofs.Common.{◌≡◌, ℕ, zero, suc, ◌+◌, ◌<◌, ◌≤◌, Bool, true, false, cond, Option, Some, None, is_some, List, [], ◌∷◌, ◌++◌, length, filter, slice_set, refl, ap, sym, arith}
use Rattle.std.specs.Prelude.{replicate, option_map, max, Vec}
use Rattle.std.specs.List.{AllByRecursion}
use Rattle.std.specs.declared.alloc.Global.{Global}
use Rattle.loop_script.specs.declared.task.TaskSpec.{TaskSpec}
use Rattle.cancel_view.specs.declared.handler.Fired.{Fired}
use Rattle.cancel_view.specs.Seen.{Seen, has, cancelled}
use Rattle.task_steps.specs.Task.{Task}
use Rattle.task_steps.specs.Book.{Book, started, with_task, all_noticed, wake_under, IsIn, IsQuietTo}
use Rattle.task_steps.specs.Run.{IsUpTo, IsAfter}
use Rattle.task_steps.specs.Wake.{sooner}
use Rattle.lane_watch.specs.Tasks.{came_in}
use Rattle.lane_watch.specs.Watch.{AreDated, IsBelow, SeenAs, Fits, Numbered, IsJoined, nothing_seen}
use Rattle.lane_watch.proofs.Dated.{dated_none, past_none, dated_noted, past_noted, later_all}
use Rattle.lane_watch.proofs.Noticed.{all_noted}
use Rattle.lane_watch.proofs.Polled.{fits_all, numbered_all}
use Rattle.lane_watch.proofs.Asleep.{awake, asleep_to, up_to_next}

abbrev pub new_book : ℕ → Book
new_book us = record { tick_us = us; tasks = []; next = 0; last = None; wake = None; spent = false }

pub joined_empty : (tick us : ℕ) (view : Seen) (came : List (Option ℕ)) (wake : Option ℕ) → 0 < us → us ≤ 1000000000 → AreDated came view.members → AllByRecursion (IsBelow tick) came → IsJoined tick us view came (new_book us) wake
joined_empty tick us view came wake some short dated past = record { ticks = refl; some = some; short = short; sound = refl; last = tt; wake = tt; asleep = λ later le a. (tt, refl, λ c m. (refl, refl, refl)); dated = dated; past = past; fits = tt; numbered = omega arith }

pub joined_new : (n us : ℕ) → 0 < us → us ≤ 1000000000 → IsJoined 0 us (nothing_seen n) (replicate n None) (new_book us) None
joined_new n us some short = joined_empty 0 us (nothing_seen n) (replicate n None) None some short (dated_none n) (past_none n 0)

-- ---- after the polls of a tick

pub joined_polled : (tick us : ℕ) (view : Seen) (came : List (Option ℕ)) (book : Book) (old wake : Option ℕ) (keeps : Task → Bool) → IsJoined tick us view came book old → IsAfter tick wake
    → let after = record book { tasks = filter keeps (all_noticed tick view book.tasks); last = Some tick; wake = wake } in
    IsQuietTo (wake_under tick view after) tick view after.tasks → IsJoined (tick + 1) us view came after (wake_under tick view after)
joined_polled tick us view came book old wake keeps j later quiet = record {
  ticks = j.ticks;
  some = j.some;
  short = j.short;
  sound = j.sound;
  last = refl;
  wake = up_to_next tick wake later;
  asleep = asleep_to tick view (record book { tasks = filter keeps (all_noticed tick view book.tasks); last = Some tick; wake = wake }) quiet;
  dated = j.dated;
  past = later_all came tick j.past;
  fits = fits_all tick us view came keeps book.tasks j.dated j.past j.fits;
  numbered = numbered_all tick 0 book.next view keeps book.tasks j.numbered;
}

-- ---- after a start

fits_pushed : (tick us : ℕ) (view : Seen) (came : List (Option ℕ)) (ts : List Task) (t : Task) → AllByRecursion (Fits tick us view came) ts → Fits tick us view came t → AllByRecursion (Fits tick us view came) (ts ++ t ∷ [])
fits_pushed tick us view came [] t h f = (f, tt)
fits_pushed tick us view came (q ∷ ts) t h f = (h.0, fits_pushed tick us view came ts t h.1 f)

numbered_pushed : (low next : ℕ) (ts : List Task) (t : Task) → t.number ≡ next → Numbered low next ts → Numbered low (next + 1) (ts ++ t ∷ [])
numbered_pushed low next [] t e h = (omega arith, omega arith)
numbered_pushed low next (q ∷ ts) t e h = (h.0, numbered_pushed (q.number + 1) next ts t e h.1)

from_first : (tick k : ℕ) (returns : Bool) (s : Option ℕ) → tick ≡ k + 1 → SeenAs tick returns None None (option_map (λ n. max (k + 1) (n + 1)) s)
from_first tick k returns None e = tt
from_first tick k returns (Some s) e = (tt, λ r. omega arith)

up_to_sooner : (tick k : ℕ) (wake : Option ℕ) → tick ≡ k + 1 → IsUpTo tick wake → IsUpTo tick (sooner wake (Some (k + 1)))
up_to_sooner tick k None e h = omega arith
up_to_sooner tick k (Some w) e h = omega arith

pub joined_started : (tick us k ctx : ℕ) (view : Seen) (came : List (Option ℕ)) (book : Book) (wake : Option ℕ) (spec : TaskSpec) → tick ≡ k + 1 → IsIn view spec.cancel → IsJoined tick us view came book wake → IsJoined tick us view came (with_task spec ctx k book) (Some tick)
joined_started tick us k ctx view came book wake spec e known j = record {
  ticks = j.ticks;
  some = j.some;
  short = j.short;
  sound = j.sound;
  last = sym e;
  wake = up_to_sooner tick k book.wake e j.wake;
  asleep = awake tick view (with_task spec ctx k book);
  dated = j.dated;
  past = j.past;
  fits = fits_pushed tick us view came book.tasks (started book.tick_us book.next spec ctx k) j.fits
      (record { ticks = j.ticks; first = omega arith; clear = tt; seen = from_first tick k spec.return_on_cancel (came_in came spec.cancel) e; known = known });
  numbered = numbered_pushed 0 book.next book.tasks (started book.tick_us book.next spec ctx k) refl j.numbered;
}

-- ---- once a cancellable came into the view

length_set : (ms : List Bool) (c : ℕ) (b : Bool) → length (slice_set ms c b) ≡ length ms
length_set [] c b = refl
length_set (m ∷ ms) zero b = refl
length_set (m ∷ ms) (suc c) b = ap suc (length_set ms c b)

pub joined_noted : (tick us c k : ℕ) (view : Seen) (came : List (Option ℕ)) (book : Book) (wake : Option ℕ) → tick ≡ k + 1 → has c view ≡ false → IsJoined tick us view came book wake
    → IsJoined tick us (record view { members = slice_set view.members c true }) (slice_set came c (Some k)) book (Some (k + 1))
joined_noted tick us c k view came book wake e out j = record {
  ticks = j.ticks;
  some = j.some;
  short = j.short;
  sound = j.sound;
  last = j.last;
  wake = j.wake;
  asleep = λ later le a. absurd (omega arith);
  dated = dated_noted came view.members c k j.dated;
  past = past_noted came tick c k (omega arith) j.past;
  fits = all_noted tick us c k view came (slice_set view.members c true) book.tasks e j.dated out (length_set view.members c true) j.fits;
  numbered = j.numbered;
}

pub not_there : (b : Bool) (o : Option (Vec Fired Global)) (fs : List Fired) → option_map (λ (v : Vec Fired Global). v.items) o ≡ cond b None (Some fs) → true ≡ is_some o → b ≡ false
not_there false o fs e h = refl
not_there true None fs e h = cc
not_there true (Some v) fs e h = cc

pub was_there : (b : Bool) (o : Option (Vec Fired Global)) (fs : List Fired) → option_map (λ (v : Vec Fired Global). v.items) o ≡ cond b None (Some fs) → is_some o ≡ false → b ≡ true
was_there true o fs e h = refl
was_there false None fs e h = cc
was_there false (Some v) fs e h = cc

pub cancelled_in : (c : ℕ) (view : Seen) → has c view ≡ true → cancelled c view ≡ view
cancelled_in c view h = ap (λ (b : Bool). cond b view (record view { members = slice_set view.members c true })) h

pub cancelled_out : (c : ℕ) (view : Seen) → has c view ≡ false → cancelled c view ≡ record view { members = slice_set view.members c true }
cancelled_out c view h = ap (λ (b : Bool). cond b view (record view { members = slice_set view.members c true })) h
