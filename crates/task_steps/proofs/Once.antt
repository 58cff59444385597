-- Each task's reply comes once over all polls.
use Rattle.std.proofs.Common.{◌≡◌, ℕ, ◌+◌, ◌≤◌, ◌<◌, ◌==◌, ◌&&◌, ◌||◌, Bool, true, false, not, cond, nat_le, Option, Some, None, List, [], ◌∷◌, ◌++◌, map, option_map, option_to_list, arith, refl, ap, sym, ◌∙◌}
use Rattle.std.specs.List.{filter, count_by}
use Rattle.std.proofs.lemmas.List.Sums.{sum_by-cons, sum_by-append}
use Rattle.std.proofs.lemmas.Bool.Decides.{nat_tests}
use Rattle.loop_script.specs.declared.outcome.Outcome.{Outcome}
use Rattle.loop_script.specs.declared.outcome.Outcome.TheVariants.{Cancelled}
use Rattle.loop_script.specs.End.{ending}
use Rattle.task_steps.specs.Reply.{reply_of_task}
use Rattle.task_steps.specs.Task.{Task, body_end, is_early, reply_in}
use Rattle.task_steps.specs.Book.{noticed_in, replies_in, goes_on}
use Rattle.task_steps.specs.Once.{Poll, found_by, replies_over, RiseAfter, AreRising, reply_tick, reply_tick_of, is_polled, is_due, due_over, is_of}

-- ---- counts
count-cons : {X : Type 0} (p : X → Bool) (x : X) (xs : List X) → count_by p (x ∷ xs) ≡ cond (p x) 1 0 + count_by p xs
count-cons p x xs = sum_by-cons (λ y. cond (p y) 1 0) x xs

count-append : {X : Type 0} (p : X → Bool) (xs ys : List X) → count_by p (xs ++ ys) ≡ count_by p xs + count_by p ys
count-append p xs ys = sum_by-append (λ y. cond (p y) 1 0) xs ys

count-none : {X : Type 0} (p : X → Bool) (xs : List X) → ((x : X) → p x ≡ false) → count_by p xs ≡ 0
count-none p [] h = refl
count-none p (x ∷ xs) h = count-cons p x xs ∙ rw (h x, count-none p xs h) refl

count-filter : {X : Type 0} (p q : X → Bool) (x : X) (xs : List X) → count_by p (filter q (x ∷ xs)) ≡ cond (q x) (cond (p x) 1 0) 0 + count_by p (filter q xs)
count-filter p q x xs = elim (q x) as (λ b. count_by p (cond b (x ∷ filter q xs) (filter q xs)) ≡ cond b (cond (p x) 1 0) 0 + count_by p (filter q xs)) [ true ↦ count-cons p x (filter q xs) | false ↦ omega arith ]

and-false : (b : Bool) → (b && false) ≡ false
and-false true = refl
and-false false = refl

and-true : (b : Bool) → cond b 1 0 + 0 ≡ cond (b && true) 1 0
and-true true = refl
and-true false = refl

-- ---- the one tick of a reply
reply-at : (k : ℕ) (rc : Bool) (c : Option ℕ) (t : ℕ) (o : Outcome) → reply_in k rc c (ending t o) ≡ cond (reply_tick rc c (ending t o) == k) (Some (cond (is_early rc c (ending t o)) Cancelled o)) None
reply-at k false c t o = refl
reply-at k true None t o = refl
reply-at k true (Some from) t o =
    elim (nat_le from t) as (λ b. cond b (cond (from == k) (Some Cancelled) None) (cond (t == k) (Some o) None) ≡ cond (cond b from t == k) (Some (cond b Cancelled o)) None) [ true ↦ refl | false ↦ refl ]

least : (from t : ℕ) → cond (nat_le from t) from t ≤ t
least from t = grind (arith, nat_tests)

reply-by : (rc : Bool) (c : Option ℕ) (t : ℕ) (o : Outcome) → reply_tick rc c (ending t o) ≤ t
reply-by false c t o = omega arith
reply-by true None t o = omega arith
reply-by true (Some from) t o = least from t

count-one : (n : ℕ) (t : Task) (b : Bool) (o : Outcome) → count_by (is_of n) (option_to_list (option_map (reply_of_task t) (cond b (Some o) None))) ≡ cond ((t.number == n) && b) 1 0
count-one n t true o = count-cons (is_of n) (reply_of_task t o) [] ∙ and-true (t.number == n)
count-one n t false o = rw (and-false (t.number == n)) refl

count-reply : (n k : ℕ) (c : Option ℕ) (t : Task) → count_by (is_of n) (option_to_list (option_map (reply_of_task t) (reply_in k t.return_on_cancel c (body_end t c)))) ≡ cond ((t.number == n) && (reply_tick t.return_on_cancel c (body_end t c) == k)) 1 0
count-reply n k c t =
    let e = body_end t c in
    ap (λ r. count_by (is_of n) (option_to_list (option_map (reply_of_task t) r))) (reply-at k t.return_on_cancel c e.tick e.outcome)
    ∙ count-one n t (reply_tick t.return_on_cancel c e == k) (cond (is_early t.return_on_cancel c e) Cancelled e.outcome)

-- ---- a tick that is past is not polled again
above : (n m : ℕ) → n < m → (n == m) ≡ false
above n m h = grind (arith, nat_tests)

not-again : (k tick : ℕ) (ps : List Poll) → RiseAfter k ps → tick ≤ k → is_polled tick ps ≡ false
not-again k tick [] r h = refl
not-again k tick (p ∷ ps) r h = rw (above tick p.tick (omega (arith, r.0))) (not-again p.tick tick ps r.1 (omega (arith, r.0)))

-- ---- one task at one poll: its reply now, or later while its body goes on
now-or-later : (a now over later : Bool) → (now ≡ true → later ≡ false) → (over ≡ true → later ≡ false) → cond (a && now) 1 0 + cond (not over) (cond (a && later) 1 0) 0 ≡ cond (a && (now || later)) 1 0
now-or-later false now true later h k = refl
now-or-later false now false later h k = refl
now-or-later true true true later h k = refl
now-or-later true true false true h k = absurd (let e = h refl in cc)
now-or-later true true false false h k = refl
now-or-later true false true true h k = absurd (let e = k refl in cc)
now-or-later true false true false h k = refl
now-or-later true false false later h k = omega arith

equal : (n m : ℕ) → (n == m) ≡ true → n ≤ m
equal n m h = grind (arith, nat_tests)

one-task : (n k : ℕ) (c : ℕ → Option ℕ) (ps : List Poll) (t : Task) → RiseAfter k ps → cond ((t.number == n) && (reply_tick_of c t == k)) 1 0 + cond (goes_on k c t) (cond (is_due n c ps t) 1 0) 0 ≡ cond ((t.number == n) && ((reply_tick_of c t == k) || is_polled (reply_tick_of c t) ps)) 1 0
one-task n k c ps t r =
    let e = body_end t (c t.number) in
    let tick = reply_tick_of c t in
    let by : tick ≤ e.tick = reply-by t.return_on_cancel (c t.number) e.tick e.outcome in
    now-or-later (t.number == n) (tick == k) (e.tick == k) (is_polled tick ps)
    (λ h. not-again k tick ps r (equal tick k h))
    (λ h. let end : e.tick ≤ k = equal e.tick k h in not-again k tick ps r (omega arith))

-- ---- all tasks at one poll
sum-two : (a b c d x y : ℕ) → a + c ≡ x → b + d ≡ y → (a + b) + (c + d) ≡ x + y
sum-two a b c d x y h k = omega arith

one-poll : (n k : ℕ) (c : ℕ → Option ℕ) (ps : List Poll) (ts : List Task) → RiseAfter k ps → count_by (is_of n) (replies_in k c ts) + count_by (is_due n c ps) (filter (goes_on k c) ts) ≡ count_by (λ t. (t.number == n) && ((reply_tick_of c t == k) || is_polled (reply_tick_of c t) ps)) ts
one-poll n k c ps [] r = refl
one-poll n k c ps (t ∷ ts) r =
    let part = option_to_list (option_map (reply_of_task t) (reply_in k t.return_on_cancel (c t.number) (body_end t (c t.number)))) in
    let due = λ (u : Task). (u.number == n) && ((reply_tick_of c u == k) || is_polled (reply_tick_of c u) ps) in
    let here : count_by (is_of n) part + cond (goes_on k c t) (cond (is_due n c ps t) 1 0) 0 ≡ cond (due t) 1 0 = rw (count-reply n k (c t.number) t) (one-task n k c ps t r) in
    let rest = one-poll n k c ps ts r in
    rw (count-append (is_of n) part (replies_in k c ts), count-filter (is_due n c ps) (goes_on k c) t ts, count-cons due t ts)
    (sum-two (count_by (is_of n) part) (count_by (is_of n) (replies_in k c ts)) (cond (goes_on k c t) (cond (is_due n c ps t) 1 0) 0) (count_by (is_due n c ps) (filter (goes_on k c) ts)) (cond (due t) 1 0) (count_by due ts) here rest)

-- ---- what a poll notices changes no reply
count-noticed : (n k : ℕ) (c : ℕ → Option ℕ) (ps : List Poll) (p : Poll) (ts : List Task) → count_by (is_due n c ps) (map (noticed_in p.tick p.view) ts) ≡ count_by (is_due n c ps) ts
count-noticed n k c ps p [] = refl
count-noticed n k c ps p (t ∷ ts) =
    count-cons (is_due n c ps) (noticed_in p.tick p.view t) (map (noticed_in p.tick p.view) ts) ∙ (ap (λ m. cond (is_due n c ps t) 1 0 + m) (count-noticed n k c ps p ts) ∙ sym (count-cons (is_due n c ps) t ts))

count-found : (n : ℕ) (c : ℕ → Option ℕ) (ps : List Poll) (p : Poll) (ts : List Task) → count_by (is_due n c ps) (found_by p ts) ≡ count_by (is_due n c ps) ts + count_by (is_due n c ps) p.started
count-found n c ps p ts = count-noticed n 0 c ps p (ts ++ p.started) ∙ count-append (is_due n c ps) ts p.started

-- ---- all polls
rising-on : (k : ℕ) (ps : List Poll) → RiseAfter k ps → AreRising ps
rising-on k [] r = tt
rising-on k (p ∷ ps) r = r.1

pub once_from : (n : ℕ) (c : ℕ → Option ℕ) (ps : List Poll) (ts : List Task) → AreRising ps → count_by (is_of n) (replies_over c ps ts) ≡ count_by (is_due n c ps) ts + due_over n c ps
once_from n c [] ts r = let none = count-none (is_due n c []) ts (λ t. and-false (t.number == n)) in rw none refl
once_from n c (p ∷ ps) ts r =
    let now = found_by p ts in
    let rest = once_from n c ps (filter (goes_on p.tick c) now) (rising-on p.tick ps r) in
    let here : count_by (is_of n) (replies_in p.tick c now) + count_by (is_due n c ps) (filter (goes_on p.tick c) now) ≡ count_by (is_due n c (p ∷ ps)) now = one-poll n p.tick c ps now r in
    let found = count-found n c (p ∷ ps) p ts in
    count-append (is_of n) (replies_in p.tick c now) (replies_over c ps (filter (goes_on p.tick c) now)) ∙ omega (arith, rest, here, found)

pub each_once : (n : ℕ) (c : ℕ → Option ℕ) (ps : List Poll) → AreRising ps → count_by (is_of n) (replies_over c ps []) ≡ due_over n c ps
each_once n c ps r = once_from n c ps [] r ∙ omega arith
