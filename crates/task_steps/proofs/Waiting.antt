-- The entries of a book.
use Rattle.std.proofs.Common.{◌≡◌, ℕ, zero, suc, ◌+◌, ◌≤◌, ◌<◌, ◌==◌, ◌||◌, arith, Bool, true, false, cond, Option, Some, None, List, [], ◌∷◌, ◌++◌, take, refl, ap, sym, subst, ◌∙◌}
use Rattle.std.specs.List.{list_any}
use Rattle.std.proofs.lemmas.Bool.Decides.{nat_tests}
use Rattle.loop_script.specs.declared.task.TaskSpec.{TaskSpec}
use Rattle.task_steps.specs.declared.entry.Entry.{Entry}
use Rattle.task_steps.specs.declared.stage.Stage.TheVariants.{Fresh}
use Rattle.task_steps.specs.declared.stage.Stage.{Stage}
use Rattle.task_steps.specs.declared.tasks.Tasks.{Tasks}
use Rattle.task_steps.specs.Run.{Run, NoneBefore, none_before}
use Rattle.task_steps.specs.Task.{Task, task_of}
use Rattle.task_steps.specs.Book.{Book, started, exhausted, IsStart}
use Rattle.task_steps.specs.BookInside.{AreMarked, AreWaiting, AreWaitingAfter, IsPassedBy, IsPolledBy, IsSeenBy, IsKept, IsListed, AreListed, IsListedOnce, AreListedOnce, is_fresh, heeding, is_heeded, entries_of, shown, caught_clear, wake_of_stage, wake_of_entry, wake_of_all}
use Rattle.task_steps.specs.Polls.{all_shown}

waiting-more : (next : ℕ) (polled : Option ℕ) (es : List Entry) (e : Entry) → AreWaiting next polled es → AreWaiting next polled (e ∷ []) → AreWaiting next polled (es ++ e ∷ [])
waiting-more next polled [] e h k = k
waiting-more next polled (x ∷ xs) e h k = (h.0, waiting-more next polled xs e h.1 k)

none-before-stage : (stage : Stage) (r : Run) (wake : ℕ) → stage ≡ Fresh → none_before stage r wake
none-before-stage stage r wake h = rw h tt

none-before-fresh : (r : Run) (wake : Option ℕ) → r.stage ≡ Fresh → NoneBefore r wake
none-before-fresh r None h = tt
none-before-fresh r (Some wake) h = none-before-stage r.stage r wake h

passed-fresh : (polled wake : Option ℕ) (stage : Stage) → stage ≡ Fresh → IsPassedBy polled wake stage
passed-fresh None wake stage h = rw h tt
passed-fresh (Some at) wake stage h = rw h tt

seen-fresh : (polled clear : Option ℕ) → clear ≡ None → IsSeenBy polled clear
seen-fresh None clear h = h
seen-fresh (Some at) clear h = rw h tt

fresh-waiting : (tick_us tick ctx number : ℕ) (polled : Option ℕ) (spec : TaskSpec) (e : Entry) → task_of e ≡ started tick_us number spec ctx tick → e.run.stage ≡ Fresh → AreWaiting (tick + 1) polled (e ∷ [])
fresh-waiting tick_us tick ctx number polled spec e h k = (
  record {
    stage = rw k (ap (λ (t : Task). t.first) h);
    passed = passed-fresh polled e.run.wake e.run.stage k;
    before = rw (ap (λ (t : Task). t.cancelled) h) tt;
    clear = seen-fresh polled e.run.clear (ap (λ (t : Task). t.clear) h);
    end = none-before-fresh e.run e.run.wake k;
  },
  tt,
)

pub waiting_added : (tick_us tick ctx number : ℕ) (spec : TaskSpec) (last polled : Option ℕ) (es : List Entry) (e : Entry) → AreWaitingAfter last polled es → IsStart tick last → task_of e ≡ started tick_us number spec ctx tick → e.run.stage ≡ Fresh → AreWaiting (tick + 1) polled (es ++ e ∷ [])
waiting_added tick_us tick ctx number spec None polled es e w s h k = rw w (fresh-waiting tick_us tick ctx number polled spec e h k)
waiting_added tick_us tick ctx number spec (Some last) polled es e w s h k =
    waiting-more (tick + 1) polled es e (rw s at w) (fresh-waiting tick_us tick ctx number polled spec e h k)

pub polled_start : (tick : ℕ) (last polled : Option ℕ) → IsPolledBy last polled → IsStart tick last → IsPolledBy (Some tick) polled
polled_start tick None polled p s = rw p tt
polled_start tick (Some last) polled p s = rw (← s) p

-- ---- what a book shows of a task that is added
map-added : (polled : Option ℕ) (es : List Entry) (e : Entry) → all_shown polled (es ++ e ∷ []) ≡ all_shown polled es ++ shown polled e ∷ []
map-added polled [] e = refl
map-added polled (x ∷ xs) e = ap (λ (ts : List Task). shown polled x ∷ ts) (map-added polled xs e)

clear-fresh : (polled cancelled clear : Option ℕ) (stage : Stage) → stage ≡ Fresh → caught_clear polled cancelled stage clear ≡ clear
clear-fresh None cancelled clear stage h = refl
clear-fresh (Some at) (Some from) clear stage h = refl
clear-fresh (Some at) None clear stage h = rw h refl

shown-fresh : (polled : Option ℕ) (e : Entry) → e.run.stage ≡ Fresh → shown polled e ≡ task_of e
shown-fresh polled e h = ap (λ (x : Option ℕ). record (task_of e) { clear = x }) (clear-fresh polled e.run.cancelled e.run.clear e.run.stage h)

pub shown_added : (polled : Option ℕ) (es : List Entry) (e : Entry) (t : Task) → e.run.stage ≡ Fresh → task_of e ≡ t → all_shown polled (es ++ e ∷ []) ≡ all_shown polled es ++ t ∷ []
shown_added polled es e t k h = map-added polled es e ∙ ap (λ (x : Task). all_shown polled es ++ x ∷ []) (shown-fresh polled e k ∙ h)

wake-stage : (first : ℕ) (run : Run) (stage : Stage) → stage ≡ Fresh → wake_of_stage first run stage ≡ Some first
wake-stage first run stage h = rw h refl

pub wake_fresh : (e : Entry) (t : Task) → e.run.stage ≡ Fresh → task_of e ≡ t → wake_of_entry e ≡ Some t.first
wake_fresh e t k h = wake-stage e.first e.run e.run.stage k ∙ ap (λ (x : Task). Some x.first) h

-- ---- what it heeds is listed
or-more : (b x y : Bool) → (x ≡ true → y ≡ true) → (b || x) ≡ true → (b || y) ≡ true
or-more true x y f h = refl
or-more false x y f h = f h

any-more : (p : ℕ → Bool) (cs : List ℕ) (c : ℕ) → list_any p cs ≡ true → list_any p (cs ++ c ∷ []) ≡ true
any-more p [] c h = absurd (cc)
any-more p (x ∷ xs) c h = or-more (p x) (list_any p xs) (list_any p (xs ++ c ∷ [])) (any-more p xs c) h

pub or-true : (b : Bool) → (b || true) ≡ true
or-true true = refl
or-true false = refl

same-number : (c : ℕ) → (c == c) ≡ true
same-number c = grind (arith, nat_tests)

any-last : (c : ℕ) (cs : List ℕ) → is_heeded c (cs ++ c ∷ []) ≡ true
any-last c [] = rw (same-number c) refl
any-last c (x ∷ xs) = ap (λ (b : Bool). (x == c) || b) (any-last c xs) ∙ or-true (x == c)

still-heeded : (c d : ℕ) (cs : List ℕ) (b : Bool) → is_heeded d cs ≡ true → is_heeded d (cond b cs (cs ++ c ∷ [])) ≡ true
still-heeded c d cs true h = h
still-heeded c d cs false h = any-more (λ x. x == d) cs c h

now-heeded : (c : ℕ) (cs : List ℕ) (b : Bool) → b ≡ is_heeded c cs → is_heeded c (cond b cs (cs ++ c ∷ [])) ≡ true
now-heeded c cs true h = sym h
now-heeded c cs false h = any-last c cs

listed-one : (new : Option ℕ) (cs : List ℕ) (cancel cancelled : Option ℕ) → IsListed cs cancel cancelled → IsListed (heeding new cs) cancel cancelled
listed-one None cs cancel cancelled h = h
listed-one (Some c) cs None cancelled h = tt
listed-one (Some c) cs (Some d) None h = still-heeded c d cs (is_heeded c cs) h
listed-one (Some c) cs (Some d) (Some from) h = tt

listed-new : (new : Option ℕ) (cs : List ℕ) (cancelled : Option ℕ) → IsListed (heeding new cs) new cancelled
listed-new None cs cancelled = tt
listed-new (Some c) cs None = now-heeded c cs (is_heeded c cs) refl
listed-new (Some c) cs (Some from) = tt

pub listed_heeding : (new : Option ℕ) (cs : List ℕ) (es : List Entry) → AreListed cs es → AreListed (heeding new cs) es
listed_heeding new cs [] h = tt
listed_heeding new cs (e ∷ es) h = (listed-one new cs e.cancel e.run.cancelled h.0, listed_heeding new cs es h.1)

listed-last : (new : Option ℕ) (cs : List ℕ) (e : Entry) → e.cancel ≡ new → IsListed (heeding new cs) e.cancel e.run.cancelled
listed-last new cs e h = subst (λ (x : Option ℕ). IsListed (heeding new cs) x e.run.cancelled) (sym h) (listed-new new cs e.run.cancelled)

pub listed_added : (new : Option ℕ) (cs : List ℕ) (es : List Entry) (e : Entry) → e.cancel ≡ new → AreListed cs es → AreListed (heeding new cs) (es ++ e ∷ [])
listed_added new cs [] e h k = (listed-last new cs e h, tt)
listed_added new cs (x ∷ xs) e h k = (listed-one new cs x.cancel x.run.cancelled k.0, listed_added new cs xs e h k.1)

-- ---- and first what those that were polled heed
heeded-longer : (c d n : ℕ) (cs : List ℕ) → is_heeded d (take n cs) ≡ true → is_heeded d (take n (cs ++ c ∷ [])) ≡ true
heeded-longer c d zero cs h = absurd (cc)
heeded-longer c d (suc n) [] h = absurd (cc)
heeded-longer c d (suc n) (x ∷ xs) h = or-more (x == d) (is_heeded d (take n xs)) (is_heeded d (take n (xs ++ c ∷ []))) (heeded-longer c d n xs) h

heeded-as-long : (c d n : ℕ) (cs : List ℕ) (b : Bool) → is_heeded d (take n cs) ≡ true → is_heeded d (take n (cond b cs (cs ++ c ∷ []))) ≡ true
heeded-as-long c d n cs true h = h
heeded-as-long c d n cs false h = heeded-longer c d n cs h

first-one : (new : Option ℕ) (n : ℕ) (cs : List ℕ) (cancel cancelled : Option ℕ) → IsListed (take n cs) cancel cancelled → IsListed (take n (heeding new cs)) cancel cancelled
first-one None n cs cancel cancelled h = h
first-one (Some c) n cs None cancelled h = tt
first-one (Some c) n cs (Some d) None h = heeded-as-long c d n cs (is_heeded c cs) h
first-one (Some c) n cs (Some d) (Some from) h = tt

fresh-is : (stage : Stage) → stage ≡ Fresh → is_fresh stage ≡ true
fresh-is stage h = rw h refl

fresh-once : (cs : List ℕ) (stage : Stage) (cancel cancelled : Option ℕ) → stage ≡ Fresh → IsListedOnce cs stage cancel cancelled
fresh-once cs stage cancel cancelled h = λ f. absurd (cc (fresh-is stage h, f))

pub first_added : (new : Option ℕ) (n : ℕ) (cs : List ℕ) (es : List Entry) (e : Entry) → e.run.stage ≡ Fresh → AreListedOnce (take n cs) es → AreListedOnce (take n (heeding new cs)) (es ++ e ∷ [])
first_added new n cs [] e h k = (fresh-once (take n (heeding new cs)) e.run.stage e.cancel e.run.cancelled h, tt)
first_added new n cs (x ∷ xs) e h k = (λ f. first-one new n cs x.cancel x.run.cancelled (k.0 f), first_added new n cs xs e h k.1)

-- ---- a book with no entry
waiting-none : (last polled : Option ℕ) → AreWaitingAfter last polled []
waiting-none None polled = refl
waiting-none (Some last) polled = tt

pub kept_none : (tick_us : ℕ) (last polled : Option ℕ) (heeded : List ℕ) (of_polled : ℕ) (tasks : Tasks) → 0 < tick_us → tick_us ≤ 1000000000 → IsPolledBy last polled → entries_of tasks ≡ [] → AreMarked tasks → IsKept tick_us last polled false heeded of_polled tasks
kept_none tick_us last polled heeded of_polled tasks h k p none m = record {
  some = h;
  short = k;
  waiting = rw none (waiting-none last polled);
  past = p;
  marked = m;
  listed = rw none tt;
  first = rw none tt;
  forgotten = λ s. absurd (cc);
}

abbrev book_of : ℕ → ℕ → Option ℕ → Option ℕ → Bool → List Entry → Book
book_of us next last polled spent es = record { tick_us = us; tasks = all_shown polled es; next = next; last = last; wake = wake_of_all es; spent = spent }

forgotten-book : (us next : ℕ) (last polled : Option ℕ) (es : List Entry) → last ≡ None → es ≡ [] → book_of us next last polled true es ≡ exhausted (book_of us next last polled true es)
forgotten-book us next last polled es l e = rw (l, e) refl

-- a spent book has forgotten its tasks already
pub spent_forgets : (us next : ℕ) (last polled : Option ℕ) (spent : Bool) (heeded : List ℕ) (of_polled : ℕ) (tasks : Tasks) (b : Book) → spent ≡ true → IsKept us last polled spent heeded of_polled tasks → book_of us next last polled spent (entries_of tasks) ≡ b → b ≡ exhausted b
spent_forgets us next last polled spent heeded of_polled tasks b s k e =
    subst (λ (x : Book). x ≡ exhausted x) e (rw s (let f = k.forgotten s in forgotten-book us next last polled (entries_of tasks) f.0 f.1))

pub going_on : {X : Type 0} {spent : Bool} → spent ≡ false → spent ≡ true → X
going_on h k = absurd (cc)

-- a book that shows no task has no entry
pub none_shown : (polled : Option ℕ) (es : List Entry) → all_shown polled es ≡ [] → es ≡ []
none_shown polled [] h = refl
none_shown polled (e ∷ es) h = absurd (cc)
