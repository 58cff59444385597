-- What the book shows of its tasks is what is shown of the lane's.
use Rattle.std.proofs.Common.{◌≡◌, ℕ, ◌<◌, ◌≤◌, ◌&&◌, Bool, true, false, Option, Some, None, is_some, List, [], ◌∷◌, map, refl, sym, ◌∙◌, subst, arith}
use Rattle.std.specs.Prelude.{nat_lt}
use Rattle.std.specs.List.{AllByRecursion}
use Rattle.std.proofs.lemmas.Bool.Decides.{nat_tests}
use Rattle.cancel_view.specs.Seen.{Seen}
use Rattle.task_steps.specs.declared.look.TaskShown.{TaskShown}
use Rattle.loop_script.specs.End.{end_of}
use Rattle.task_steps.specs.Run.{IsUpTo}
use Rattle.task_steps.specs.Task.{Task, IsBefore}
use Rattle.task_steps.specs.Book.{Book, IsNext}
use Rattle.task_steps.specs.Shown.{task_shown, least_wake, WakesBy, WakeInTime, WakeAsShown, WereSeenBy}
use Rattle.lane_watch.specs.Tasks.{Tasks, first_seen}
use Rattle.lane_watch.specs.Watch.{IsLast, SeenAs, Fits, IsJoined, started_of}
use Rattle.lane_watch.specs.Shown.{is_before, has_replied, started_shown, EndNoSooner}
use Rattle.lane_watch.proofs.Polled.{tells, all_of_ticks, Tells}
use Rattle.lane_watch.proofs.Given.{tasks_of, first, may}

lt-false : (tick k : ℕ) → tick ≤ k → nat_lt k tick ≡ false
lt-false tick k h = grind (arith, nat_tests)

lt-true : (tick k : ℕ) → k < tick → nat_lt k tick ≡ true
lt-true tick k h = grind (arith, nat_tests)

replied-as : (tick : ℕ) (returns : Bool) (clear cancelled c : Option ℕ) → IsBefore tick cancelled → SeenAs tick returns clear cancelled c → (returns && is_some cancelled) ≡ (returns && is_before tick c)
replied-as tick false clear cancelled c b h = refl
replied-as tick true clear None None b h = refl
replied-as tick true clear (Some from) None b h = absurd h
replied-as tick true clear None (Some k) b h = sym (lt-false tick k (h.1 refl))
replied-as tick true clear (Some from) (Some k) b h = let e : k ≡ from = h.2 refl in sym (lt-true tick k (omega arith))

shown-all : (tick us next : ℕ) (view : Seen) (came : List (Option ℕ)) (tasks : Tasks) (ts : List Task) → tasks.tick ≡ tick → tasks.came ≡ came → AllByRecursion (λ t. IsBefore tick t.cancelled) ts → AllByRecursion (Fits tick us view came) ts
    → map task_shown ts ≡ map (started_shown tasks) (map started_of ts)
shown-all tick us next view came tasks [] e k b h = refl
shown-all tick us next view came tasks (t ∷ ts) e k b h =
    let one : (t.return_on_cancel && is_some t.cancelled) ≡ has_replied tasks.tick tasks.came (started_of t) =
    replied-as tick t.return_on_cancel t.clear t.cancelled (first_seen came (started_of t)) b.0 h.0.seen ∙ (λ i. has_replied (sym e i) (sym k i) (started_of t)) in
    λ i. record { number = t.number; ctx = t.ctx; first = t.first; cancel = t.cancel; replied = one i; wake = None } ∷ shown-all tick us next view came tasks ts e k b.1 h.1 i

seen-now : (tick : ℕ) (last : Option ℕ) (ts : List Task) → IsLast tick last → WereSeenBy last ts → AllByRecursion (λ t. IsBefore tick t.cancelled) ts
seen-now tick None ts l w = subst (λ (x : List Task). AllByRecursion (λ t. IsBefore tick t.cancelled) x) (sym w) tt
seen-now tick (Some last) ts l w = subst (λ (n : ℕ). AllByRecursion (λ t. IsBefore n t.cancelled) ts) l w

pub lane_shown : (tick us : ℕ) (view : Seen) (came : List (Option ℕ)) (book : Book) (until : Option ℕ) → IsJoined tick us view came book until → WereSeenBy book.last book.tasks → map task_shown book.tasks ≡ map (started_shown (tasks_of tick us came book)) (map started_of book.tasks)
lane_shown tick us view came book until j w = shown-all tick us book.next view came (tasks_of tick us came book) book.tasks refl refl (seen-now tick book.last book.tasks j.last w) j.fits

pub wakes_now : (tick us : ℕ) (view : Seen) (came : List (Option ℕ)) (book : Book) (until : Option ℕ) (ss : List TaskShown) → IsJoined tick us view came book until → least_wake ss ≡ book.wake → IsUpTo tick (least_wake ss)
wakes_now tick us view came book until ss j e = subst (IsUpTo tick) (sym e) j.wake

end-all : (us : ℕ) (came : List (Option ℕ)) (c : ℕ → Option ℕ) (ts : List Task) (ss : List TaskShown) → AllByRecursion (λ t. t.tick_us ≡ us) ts → Tells came c ts → WakeInTime c ts ss → EndNoSooner us came (map started_of ts) ss
end-all us came c [] [] u t w = tt
end-all us came c [] (s ∷ ss) u t w = absurd w
end-all us came c (q ∷ ts) [] u t w = absurd w
end-all us came c (q ∷ ts) (s ∷ ss) u t w = (
  subst (λ (n : ℕ). WakesBy n s.wake) (λ i. (end_of (u.0 i) q.tree q.first (t.0 i)).tick) w.0,
  end-all us came c ts ss u.1 t.1 w.1,
)

next-now : (tick : ℕ) (last : Option ℕ) → IsLast tick last → IsNext tick last
next-now tick None l = tt
next-now tick (Some last) l = omega arith

pub end_no_sooner : (tick us : ℕ) (view : Seen) (came : List (Option ℕ)) (book : Book) (until : Option ℕ) (ss : List TaskShown) → IsJoined tick us view came book until → WakeAsShown book.last book.tasks ss → EndNoSooner us came (map started_of book.tasks) ss
end_no_sooner tick us view came book until ss j w =
    end-all us came (first came book) book.tasks ss (all_of_ticks tick us view came book.tasks j.fits) (tells came 0 book.next book.tasks j.numbered)
    (w tick view (first came book) (next-now tick book.last j.last) (may tick us view came book until j))
