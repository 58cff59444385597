-- Which entries heed a cancellable that is in the view.
use Rattle.std.proofs.Common.{◌≡◌, ℕ, ◌==◌, ◌&&◌, ◌||◌, Bool, true, false, not, cond, Option, Some, None, is_some, List, [], ◌∷◌, arith, refl, ap, sym}
use Rattle.std.specs.List.{list_any, filter}
use Rattle.std.proofs.lemmas.Bool.Decides.{nat_tests}
use Rattle.cancel_view.specs.Seen.{Seen, has}
use Rattle.task_steps.specs.declared.entry.Entry.{Entry}
use Rattle.task_steps.specs.Book.{sees, replies_next}
use Rattle.task_steps.specs.declared.stage.Stage.{Stage}
use Rattle.task_steps.specs.BookInside.{IsListed, AreListed, IsListedOnce, AreListedOnce, heeds, is_fresh, is_heeded}
use Rattle.task_steps.specs.Polls.{all_shown, comes, comes_once, owes_reply}
use Rattle.task_steps.proofs.Quiet.{or-left, or-right}

-- ---- where none heeds, none comes
none-comes : (view : Seen) (cancel cancelled : Option ℕ) → (is_some cancel && not (is_some cancelled)) ≡ false → (sees view cancel && not (is_some cancelled)) ≡ false
none-comes view None cancelled h = refl
none-comes view (Some c) None h = absurd (cc)
none-comes view (Some c) (Some from) h = seen-no-more (has c view)
  where
    seen-no-more : (b : Bool) → (b && false) ≡ false
    seen-no-more true = refl
    seen-no-more false = refl

or-none : (a b : Bool) → a ≡ false → b ≡ false → (a || b) ≡ false
or-none a b h k = rw (h, k) refl

pub none_heeds : (view : Seen) (es : List Entry) → list_any heeds es ≡ false → list_any (comes view) es ≡ false
none_heeds view [] h = refl
none_heeds view (e ∷ es) h =
    or-none (comes view e) (list_any (comes view) es) (none-comes view e.cancel e.run.cancelled (or-left (heeds e) (list_any heeds es) h)) (none_heeds view es (or-right (heeds e) (list_any heeds es) h))

and-none : (rc b : Bool) → b ≡ false → (rc && b) ≡ false
and-none true b h = h
and-none false b h = refl

-- where none comes, none owes a reply
pub owes_none : (view : Seen) (es : List Entry) → list_any (comes view) es ≡ false → list_any (owes_reply view) es ≡ false
owes_none view [] h = refl
owes_none view (e ∷ es) h =
    or-none (owes_reply view e) (list_any (owes_reply view) es) (and-none e.return_on_cancel (comes view e) (or-left (comes view e) (list_any (comes view) es) h)) (owes_none view es (or-right (comes view e) (list_any (comes view) es) h))

-- an entry owes a reply as the task that the book shows for it
pub owes_shown : (view : Seen) (polled : Option ℕ) (es : List Entry) → list_any (owes_reply view) es ≡ list_any (replies_next view) (all_shown polled es)
owes_shown view polled [] = refl
owes_shown view polled (e ∷ es) = ap (λ (b : Bool). owes_reply view e || b) (owes_shown view polled es)

-- ---- where nothing of what they heed is in the view, none comes
same-number : (a b : ℕ) → (a == b) ≡ true → a ≡ b
same-number a b h = grind (arith, nat_tests)

has-listed : (view : Seen) (c x : ℕ) (b : Bool) → b ≡ (x == c) → (b ≡ true → has x view ≡ false → has c view ≡ false)
has-listed view c x true h t n = let e : x ≡ c = same-number x c (sym h) in rw (← e) n
has-listed view c x false h t n = absurd (cc)

listed-away : (view : Seen) (c x : ℕ) (xs : List ℕ) (b : Bool) → b ≡ (x == c) → has x view ≡ false → (is_heeded c xs ≡ true → has c view ≡ false) → (b || is_heeded c xs) ≡ true → has c view ≡ false
listed-away view c x xs true h n rest k = has-listed view c x true h refl n
listed-away view c x xs false h n rest k = rest k

away : (view : Seen) (c : ℕ) (cs : List ℕ) → list_any (λ x. has x view) cs ≡ false → is_heeded c cs ≡ true → has c view ≡ false
away view c [] n h = absurd (cc)
away view c (x ∷ xs) n h =
    listed-away view c x xs (x == c) refl (or-left (has x view) (list_any (λ y. has y view) xs) n) (away view c xs (or-right (has x view) (list_any (λ y. has y view) xs) n)) h

none-came : (view : Seen) (cs : List ℕ) (cancel cancelled : Option ℕ) → list_any (λ x. has x view) cs ≡ false → IsListed cs cancel cancelled → (sees view cancel && not (is_some cancelled)) ≡ false
none-came view cs None cancelled n h = refl
none-came view cs (Some c) None n h = rw (away view c cs n h) refl
none-came view cs (Some c) (Some from) n h = none-comes view (Some c) (Some from) refl

pub none_came : (view : Seen) (cs : List ℕ) (es : List Entry) → list_any (λ x. has x view) cs ≡ false → AreListed cs es → list_any (comes view) es ≡ false
none_came view cs [] n h = refl
none_came view cs (e ∷ es) n h = or-none (comes view e) (list_any (comes view) es) (none-came view cs e.cancel e.run.cancelled n h.0) (none_came view cs es n h.1)

-- ---- the same of those that were polled
none-came-once : (view : Seen) (cs : List ℕ) (stage : Stage) (cancel cancelled : Option ℕ) (fresh : Bool) → fresh ≡ is_fresh stage → list_any (λ x. has x view) cs ≡ false → IsListedOnce cs stage cancel cancelled → (not fresh && (sees view cancel && not (is_some cancelled))) ≡ false
none-came-once view cs stage cancel cancelled true f n h = refl
none-came-once view cs stage cancel cancelled false f n h = none-came view cs cancel cancelled n (h (sym f))

pub none_came_once : (view : Seen) (cs : List ℕ) (es : List Entry) → list_any (λ x. has x view) cs ≡ false → AreListedOnce cs es → list_any (comes_once view) es ≡ false
none_came_once view cs [] n h = refl
none_came_once view cs (e ∷ es) n h =
    or-none (comes_once view e) (list_any (comes_once view) es) (none-came-once view cs e.run.stage e.cancel e.run.cancelled (is_fresh e.run.stage) refl n h.0) (none_came_once view cs es n h.1)

pub listed_once : (cs : List ℕ) (es : List Entry) → AreListed cs es → AreListedOnce cs es
listed_once cs [] h = tt
listed_once cs (e ∷ es) h = (λ f. h.0, listed_once cs es h.1)

-- ---- what is not in the view is listed on
abbrev unseen : Seen → ℕ → Bool
unseen view x = not (has x view)

kept-in : (view : Seen) (c x : ℕ) (xs : List ℕ) (b : Bool) → b ≡ not (has x view) → has c view ≡ false → ((x == c) || is_heeded c xs) ≡ true → (is_heeded c xs ≡ true → is_heeded c (filter (unseen view) xs) ≡ true) → is_heeded c (cond b (x ∷ filter (unseen view) xs) (filter (unseen view) xs)) ≡ true
kept-in view c x xs true k n h rest = or-keeps (x == c) (is_heeded c xs) (is_heeded c (filter (unseen view) xs)) rest h
  where
    or-keeps : (b y z : Bool) → (y ≡ true → z ≡ true) → (b || y) ≡ true → (b || z) ≡ true
    or-keeps true y z f h = refl
    or-keeps false y z f h = f h
kept-in view c x xs false k n h rest = rest (other (x == c) (is_heeded c xs) refl h)
  where
    other : (b y : Bool) → b ≡ (x == c) → (b || y) ≡ true → y ≡ true
    other true y e h = let same : x ≡ c = same-number x c (sym e) in let no : has x view ≡ false = rw same n in absurd (seen (has x view) no k)
      where
        seen : (b : Bool) → b ≡ false → false ≡ not b → ⊥
        seen b n k = cc
    other false y e h = h

kept-on : (view : Seen) (c : ℕ) (cs : List ℕ) → has c view ≡ false → is_heeded c cs ≡ true → is_heeded c (filter (unseen view) cs) ≡ true
kept-on view c [] n h = h
kept-on view c (x ∷ xs) n h = kept-in view c x xs (not (has x view)) refl n h (kept-on view c xs n)

and-left : (b : Bool) → (b && true) ≡ false → b ≡ false
and-left true h = h
and-left false h = refl

listed-unseen : (view : Seen) (cs : List ℕ) (cancel cancelled : Option ℕ) → (sees view cancel && not (is_some cancelled)) ≡ false → IsListed cs cancel cancelled → IsListed (filter (unseen view) cs) cancel cancelled
listed-unseen view cs None cancelled n h = tt
listed-unseen view cs (Some c) None n h = kept-on view c cs (and-left (has c view) n) h
listed-unseen view cs (Some c) (Some from) n h = tt

pub listed_unseen : (view : Seen) (cs : List ℕ) (es : List Entry) → list_any (comes view) es ≡ false → AreListed cs es → AreListed (filter (λ x. not (has x view)) cs) es
listed_unseen view cs [] n h = tt
listed_unseen view cs (e ∷ es) n h =
    (listed-unseen view cs e.cancel e.run.cancelled (or-left (comes view e) (list_any (comes view) es) n) h.0, listed_unseen view cs es (or-right (comes view e) (list_any (comes view) es) n) h.1)
