-- The replies that are owed, and how what is done to tasks changes them.
use Rattle.std.proofs.Common.{◌≡◌, ◌≢◌, ◌⊎◌, inl, inr, ℕ, ◌+◌, ◌<◌, ◌≤◌, ◌==◌, ◌&&◌, max, Bool, true, false, not, cond, Option, Some, None, is_some, List, [], ◌∷◌, ◌++◌, slice_set, option_map, unwrap_or, refl, ap, sym, ◌∙◌, arith, subst, leb-true, leb-false, le-leb}
use Rattle.std.specs.Prelude.{nat_le, slice_get}
use Rattle.std.proofs.lemmas.Bool.Decides.{eqb_tells}
use Rattle.loop_script.specs.declared.task.TaskSpec.{TaskSpec}
use Rattle.loop_script.specs.declared.outcome.Outcome.{Outcome}
use Rattle.loop_script.specs.declared.outcome.Outcome.TheVariants as outcomes
use Rattle.loop_script.specs.End.{End, end_of}
use Rattle.task_steps.specs.Task.{is_early, is_at}
use Rattle.task_steps.specs.Once.{reply_tick}
use Rattle.post_office.specs.declared.letter.Letter.{Letter}
use Rattle.post_office.specs.declared.letter.Body.{Body as Mail}
use Rattle.lane_watch.specs.Tasks.{Started, Tasks, flat, came_in, first_seen, end_of_task, reply_of, reply_at, stays_at}
use Rattle.lane_watch.specs.Watch.{AreDated, starting}
use Rattle.lane_watch.proofs.Dated.{dated_at, dated_noted, noted_in}
use Rattle.lane_turn.specs.Lane.{Lane, Turn}
use Rattle.lane_turn.specs.Step.{letter, posted_with, mail_of, one_if}
use Rattle.lane_turn.specs.Owed.{one_for, replies_in, owes, owed_by, owed, is_reply, replied}
use Rattle.lane_turn.proofs.Ends.{Alike, ends_alike}
use Rattle.task_steps.proofs.Begins.{not_sooner}
use Rattle.lane_turn.proofs.Keeps.{Changes, noted}

-- ---- numbers

leb_gt : (a b : ℕ) → b < a → nat_le a b ≡ false
leb_gt a b h = by (nat_le a b) refl
  where
    by : (c : Bool) → nat_le a b ≡ c → c ≡ false
    by true e = let l = leb-true a b e in absurd (omega (arith, h, l))
    by false e = refl

nothing_more : (n : ℕ) → 0 + n ≡ n
nothing_more n = omega arith

-- what replies in r, and ends in m, replies in the poll of k, or owes it after
shared_if : (r m k : ℕ) → r ≤ m → ((r == k) ≡ true × r ≡ k) ⊎ ((r == k) ≡ false × r ≢ k) → (u : Bool)
    → cond (r == k) (one_for u) 0 + cond (not (m == k)) (one_for (u && nat_le (k + 1) r)) 0 ≡ one_for (u && nat_le k r)
shared_if r m k h o false = none (r == k) (not (m == k))
  where
    none : (a b : Bool) → cond a (one_for false) 0 + cond b (one_for false) 0 ≡ 0
    none true true = refl
    none true false = refl
    none false true = refl
    none false false = refl
shared_if r m k h (inl p) true =
    let now : nat_le k r ≡ true = le-leb k r (omega (arith, p.1)) in
    let after : nat_le (k + 1) r ≡ false = leb_gt (k + 1) r (omega (arith, p.1)) in
    ap (λ b. cond b (one_for true) 0 + cond (not (m == k)) (one_for (nat_le (k + 1) r)) 0) p.0
    ∙ (ap (λ b. one_for true + cond (not (m == k)) (one_for b) 0) after ∙ (never (not (m == k)) ∙ sym (ap one_for now)))
  where
    never : (b : Bool) → one_for true + cond b (one_for false) 0 ≡ 1
    never true = refl
    never false = refl
shared_if r m k h (inr p) true =
    ap (λ b. cond b (one_for true) 0 + cond (not (m == k)) (one_for (nat_le (k + 1) r)) 0) p.0
    ∙ (nothing_more (cond (not (m == k)) (one_for (nat_le (k + 1) r)) 0) ∙ later (nat_le k r) refl)
  where
    never : (b : Bool) → cond b (one_for false) 0 ≡ 0
    never true = refl
    never false = refl

    other : (b : Bool) → (m == k) ≡ b → m ≢ k → b ≡ false
    other b e n = sym e ∙ no (eqb_tells m k)
      where
        no : ((m == k) ≡ true × m ≡ k) ⊎ ((m == k) ≡ false × m ≢ k) → (m == k) ≡ false
        no (inl q) = absurd (n q.1)
        no (inr q) = q.0

    later : (b : Bool) → nat_le k r ≡ b → cond (not (m == k)) (one_for (nat_le (k + 1) r)) 0 ≡ one_for b
    later true e =
        let l = leb-true k r e in
        let more : nat_le (k + 1) r ≡ true = le-leb (k + 1) r (omega (arith, l, p.1)) in
        let apart : (m == k) ≡ false = other (m == k) refl (λ q. p.1 (omega (arith, q, h, l))) in
        ap (λ b. cond (not b) (one_for (nat_le (k + 1) r)) 0) apart ∙ ap one_for more
    later false e =
        let l = leb-false k r e in
        ap (λ b. cond (not (m == k)) (one_for b) 0) (leb_gt (k + 1) r (omega (arith, l))) ∙ never (not (m == k))

shared : (r m k : ℕ) (u : Bool) → r ≤ m → cond (r == k) (one_for u) 0 + cond (not (m == k)) (one_for (u && nat_le (k + 1) r)) 0 ≡ one_for (u && nat_le k r)
shared r m k u h = shared_if r m k h (eqb_tells r k) u

-- ---- one poll

-- how many replies of a number a letter is
abbrev pub mail_count : ℕ → Option Mail → ℕ
mail_count n None = 0
mail_count n (Some body) = one_for (is_reply n body)

abbrev reply_count : (n : ℕ) → Started → Option Outcome → ℕ
reply_count n t o = mail_count n (mail_of (option_map (reply_of t) o))

if_some : (n : ℕ) (t : Started) (outcome : Outcome) (b : Bool) → reply_count n t (cond b (Some outcome) None) ≡ cond b (one_for (t.number == n)) 0
if_some n t outcome true = refl
if_some n t outcome false = refl

seen_late : (c m : ℕ) (r b : Bool) → (r && b) ≡ true → b ≡ nat_le c m → c ≤ m
seen_late c m true b e q = leb-true c m (sym q ∙ e)
seen_late c m false b e q = let no : false ≡ true = e in cc

poll_by : (n k : ℕ) (t : Started) (fs : Option ℕ) (e : End) (b : Bool) → is_early t.spec.return_on_cancel fs e ≡ b →
    reply_count n t (cond b (cond (is_at k fs) (Some outcomes.Cancelled) None) (cond (e.tick == k) (Some e.outcome) None))
    + cond (not (e.tick == k)) (one_for ((t.number == n) && nat_le (k + 1) (cond b (unwrap_or fs 0) e.tick))) 0
    ≡ one_for ((t.number == n) && nat_le k (cond b (unwrap_or fs 0) e.tick))
poll_by n k t None e true q = let no : false ≡ true = sym (never t.spec.return_on_cancel) ∙ q in cc
  where
    never : (b : Bool) → (b && false) ≡ false
    never true = refl
    never false = refl
poll_by n k t (Some c) e true q =
    ap (λ (x : ℕ). x + cond (not (e.tick == k)) (one_for ((t.number == n) && nat_le (k + 1) c)) 0) (if_some n t outcomes.Cancelled (c == k))
    ∙ shared c e.tick k (t.number == n) (seen_late c e.tick t.spec.return_on_cancel (nat_le c e.tick) q refl)
poll_by n k t fs e false q =
    ap (λ (x : ℕ). x + cond (not (e.tick == k)) (one_for ((t.number == n) && nat_le (k + 1) e.tick)) 0) (if_some n t e.outcome (e.tick == k))
    ∙ shared e.tick e.tick k (t.number == n) (omega arith)

pub polled_one : (n k : ℕ) (tasks : Tasks) (t : Started) → mail_count n (mail_of (reply_at k tasks t)) + cond (stays_at k tasks t) (one_for (owes (k + 1) n tasks t)) 0 ≡ one_for (owes k n tasks t)
polled_one n k tasks t = poll_by n k t (first_seen tasks.came t) (end_of_task tasks.tick_us tasks.came t) (is_early t.spec.return_on_cancel (first_seen tasks.came t) (end_of_task tasks.tick_us tasks.came t)) refl

-- ---- lists

replied_push : (n : ℕ) (ls : List Letter) (l : Letter) → replied n (ls ++ l ∷ []) ≡ replied n ls + one_for (is_reply n l.body)
replied_push n [] l = omega arith
replied_push n (x ∷ ls) l = omega (arith, replied_push n ls l)

pub replied_posted : (n tick sender number : ℕ) (ls : List Letter) (mail : Option Mail) → replied n (posted_with tick sender number ls mail) ≡ replied n ls + mail_count n mail
replied_posted n tick sender number ls None = omega arith
replied_posted n tick sender number ls (Some body) = replied_push n ls (letter tick sender number body)

pub owed_push : (k n : ℕ) (tasks : Tasks) (ts us : List Started) → owed_by k n tasks (ts ++ us) ≡ owed_by k n tasks ts + owed_by k n tasks us
owed_push k n tasks [] us = omega arith
owed_push k n tasks (t ∷ ts) us = omega (arith, owed_push k n tasks ts us)

pub owed_if : (k n : ℕ) (tasks : Tasks) (t : Started) (b : Bool) → owed_by k n tasks (one_if b t) ≡ cond b (one_for (owes k n tasks t)) 0
owed_if k n tasks t true = omega arith
owed_if k n tasks t false = refl

-- ---- a turn

pub record Owes (k n total : ℕ) (t : Turn) : Type 0 where
  pub dated : AreDated t.lane.tasks.came t.lane.view.members
  pub sum : replied n t.posted + owed_by k n t.lane.tasks t.unpolled + owed (k + 1) n t.lane.tasks ≡ total

-- ---- what is done to tasks

same_kept : (k n : ℕ) (a b : Tasks) → b ≡ a → owed (k + 1) n b ≡ owed (k + 1) n a
same_kept k n a b e = ap (owed (k + 1) n) e

-- the tick of a reply, by the first poll that sees the cancellable
abbrev reply_by : ℕ → Started → Option ℕ → ℕ
reply_by tick_us t fs = reply_tick t.spec.return_on_cancel fs (end_of tick_us t.spec.tree t.first fs)

late_by : (k m : ℕ) (roc : Bool) (first : ℕ) (o : Option ℕ) → k + 1 ≤ first → first ≤ m → (b : Bool) → is_early roc (option_map (λ tick. max first (tick + 1)) o) (record { tick = m; outcome = outcomes.Failed }) ≡ b → k + 1 ≤ cond b (unwrap_or (option_map (λ tick. max first (tick + 1)) o) 0) m
late_by k m roc first None h l true e = let no : false ≡ true = sym (never roc) ∙ e in cc
  where
    never : (b : Bool) → (b && false) ≡ false
    never true = refl
    never false = refl
late_by k m roc first (Some j) h l true e = omega (arith, h)
late_by k m roc first o h l false e = omega (arith, h, l)

-- one that is started is owed
first_or_later : (a n : ℕ) → ((a == n) ≡ true × a ≡ n) ⊎ ((a == n) ≡ false × a ≢ n) → one_for (a == n) + one_for (nat_le (a + 1) n) ≡ one_for (nat_le a n)
first_or_later a n (inl p) =
    let now : nat_le a n ≡ true = le-leb a n (omega (arith, p.1)) in
    let after : nat_le (a + 1) n ≡ false = leb_gt (a + 1) n (omega (arith, p.1)) in
    ap (λ b. one_for b + one_for (nat_le (a + 1) n)) p.0 ∙ (ap (λ b. one_for true + one_for b) after ∙ sym (ap one_for now))
first_or_later a n (inr p) = ap (λ b. one_for b + one_for (nat_le (a + 1) n)) p.0 ∙ (nothing_more (one_for (nat_le (a + 1) n)) ∙ ap one_for (by (nat_le a n) refl))
  where
    by : (b : Bool) → nat_le a n ≡ b → nat_le (a + 1) n ≡ b
    by true e = let l = leb-true a n e in le-leb (a + 1) n (omega (arith, l, p.1))
    by false e = let l = leb-false a n e in leb_gt (a + 1) n (omega (arith, l))

and_true : (a b : Bool) → b ≡ true → (a && b) ≡ a
and_true true b e = e
and_true false b e = refl

begun_owes : (k us : ℕ) (tasks : Tasks) (t : Started) → t.first ≡ k + 1 → nat_le (k + 1) (replies_in tasks t) ≡ true
begun_owes k us tasks t f =
    let fs : Option ℕ = first_seen tasks.came t in
    let e : End = end_of_task tasks.tick_us tasks.came t in
    let later : t.first ≤ e.tick = not_sooner tasks.tick_us t.spec.tree t.first fs in
    le-leb (k + 1) (replies_in tasks t) (late_by k e.tick t.spec.return_on_cancel t.first (came_in tasks.came t.spec.cancel) (omega (arith, f)) later (is_early t.spec.return_on_cancel fs e) refl)

started_owed : (k n context : ℕ) (spec : TaskSpec) (tasks : Tasks) → owed (k + 1) n (starting k context spec tasks) ≡ owed (k + 1) n tasks
started_owed k n context spec tasks =
    let new : Started = record { number = tasks.next; spec = spec; ctx = context; first = k + 1 } in
    let one : owes (k + 1) n tasks new ≡ (tasks.next == n) = and_true (tasks.next == n) (nat_le (k + 1) (replies_in tasks new)) (begun_owes k 0 tasks new refl) in
    let list = owed_push (k + 1) n tasks tasks.started (new ∷ []) in
    omega (arith, list, ap one_for one, first_or_later tasks.next n (eqb_tells tasks.next n))

-- what is seen cancelled from now on changes no reply before the next tick
none_early : (roc : Bool) (m : ℕ) → cond (roc && false) 0 m ≡ m
none_early true m = refl
none_early false m = refl

reply_alike : (k us f : ℕ) (t : Started) → k + 1 ≤ f → (b : Bool) → is_early t.spec.return_on_cancel (Some f) (end_of us t.spec.tree t.first (Some f)) ≡ b
    → Alike (k + 1) (end_of us t.spec.tree t.first None) (end_of us t.spec.tree t.first (Some f))
    → nat_le (k + 1) (cond b f (end_of us t.spec.tree t.first (Some f)).tick) ≡ nat_le (k + 1) (end_of us t.spec.tree t.first None).tick
reply_alike k us f t h true e (inl a) =
    let y : End = end_of us t.spec.tree t.first (Some f) in
    let l : f ≤ y.tick = seen_late f y.tick t.spec.return_on_cancel (nat_le f y.tick) e refl in
    let same = ap (λ (z : End). z.tick) a in
    le-leb (k + 1) f h ∙ sym (le-leb (k + 1) (end_of us t.spec.tree t.first None).tick (omega (arith, h, l, same)))
reply_alike k us f t h true e (inr a) = le-leb (k + 1) f h ∙ sym (le-leb (k + 1) (end_of us t.spec.tree t.first None).tick a.0)
reply_alike k us f t h false e (inl a) = ap (λ (z : End). nat_le (k + 1) z.tick) (sym a)
reply_alike k us f t h false e (inr a) = le-leb (k + 1) (end_of us t.spec.tree t.first (Some f)).tick a.1 ∙ sym (le-leb (k + 1) (end_of us t.spec.tree t.first None).tick a.0)

seen_later : (k us f : ℕ) (t : Started) → k + 1 ≤ f → nat_le (k + 1) (reply_by us t (Some f)) ≡ nat_le (k + 1) (reply_by us t None)
seen_later k us f t h =
    let y : End = end_of us t.spec.tree t.first (Some f) in
    reply_alike k us f t h (is_early t.spec.return_on_cancel (Some f) y) refl (ends_alike us (k + 1) f h t.spec.tree t.first)
    ∙ sym (ap (λ m. nat_le (k + 1) m) (none_early t.spec.return_on_cancel (end_of us t.spec.tree t.first None).tick))

none_of : (o : Option ℕ) → is_some o ≡ false → o ≡ None
none_of None e = refl
none_of (Some n) e = let no : true ≡ false = e in cc

noted_reply : (k c : ℕ) (tasks : Tasks) (t : Started) → is_some (flat (slice_get tasks.came c)) ≡ false
    → (came_in (slice_set tasks.came c (Some k)) t.spec.cancel ≡ came_in tasks.came t.spec.cancel) ⊎ ((came_in (slice_set tasks.came c (Some k)) t.spec.cancel ≡ Some k) × (t.spec.cancel ≡ Some c))
    → nat_le (k + 1) (replies_in (noted k c tasks) t) ≡ nat_le (k + 1) (replies_in tasks t)
noted_reply k c tasks t new (inl e) = ap (λ (o : Option ℕ). nat_le (k + 1) (reply_by tasks.tick_us t (option_map (λ tick. max t.first (tick + 1)) o))) e
noted_reply k c tasks t new (inr p) =
    let before : came_in tasks.came t.spec.cancel ≡ None = ap (came_in tasks.came) p.1 ∙ none_of (flat (slice_get tasks.came c)) new in
    ap (λ (o : Option ℕ). nat_le (k + 1) (reply_by tasks.tick_us t (option_map (λ tick. max t.first (tick + 1)) o))) p.0
    ∙ (seen_later k tasks.tick_us (max t.first (k + 1)) t (omega arith)
    ∙ sym (ap (λ (o : Option ℕ). nat_le (k + 1) (reply_by tasks.tick_us t (option_map (λ tick. max t.first (tick + 1)) o))) before))

noted_by : (k n c : ℕ) (tasks : Tasks) (ts : List Started) → is_some (flat (slice_get tasks.came c)) ≡ false → owed_by (k + 1) n (noted k c tasks) ts ≡ owed_by (k + 1) n tasks ts
noted_by k n c tasks [] new = refl
noted_by k n c tasks (t ∷ ts) new =
    let one = ap (λ b. one_for ((t.number == n) && b)) (noted_reply k c tasks t new (noted_in tasks.came c k t.spec.cancel)) in
    omega (arith, one, noted_by k n c tasks ts new)

-- ---- all of it

pub changes_owed : (k n : ℕ) (lane after : Lane) → Changes k lane after → AreDated lane.tasks.came lane.view.members → owed (k + 1) n after.tasks ≡ owed (k + 1) n lane.tasks
changes_owed k n lane after (inl h) d = ap (owed (k + 1) n) h.tasks
changes_owed k n lane after (inr (inl h)) d = ap (owed (k + 1) n) h.tasks ∙ started_owed k n h.context h.spec lane.tasks
changes_owed k n lane after (inr (inr h)) d =
    let new : is_some (flat (slice_get lane.tasks.came h.c)) ≡ false = sym (dated_at lane.tasks.came lane.view.members h.c d) ∙ h.new in
    let rest = noted_by k n h.c lane.tasks lane.tasks.started new in
    ap (owed (k + 1) n) h.tasks ∙ omega (arith, rest)

pub changes_dated : (k : ℕ) (lane after : Lane) → Changes k lane after → AreDated lane.tasks.came lane.view.members → AreDated after.tasks.came after.view.members
changes_dated k lane after (inl h) d = subst (λ (ms : List Bool). AreDated after.tasks.came ms) (sym h.members) (subst (λ (x : Tasks). AreDated x.came lane.view.members) (sym h.tasks) d)
changes_dated k lane after (inr (inl h)) d = subst (λ (ms : List Bool). AreDated after.tasks.came ms) (sym h.members) (subst (λ (x : Tasks). AreDated x.came lane.view.members) (sym h.tasks) d)
changes_dated k lane after (inr (inr h)) d =
    subst (λ (ms : List Bool). AreDated after.tasks.came ms) (sym h.members)
    (subst (λ (x : Tasks). AreDated x.came (slice_set lane.view.members h.c true)) (sym h.tasks) (dated_noted lane.tasks.came lane.view.members h.c k d))
