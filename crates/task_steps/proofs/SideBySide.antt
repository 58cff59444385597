-- Entries side by side: what is known of them, and how far a poll of them is.
use Rattle.std.proofs.Common.{◌≡◌, ℕ, zero, suc, ◌+◌, ◌-◌, ◌≤◌, ◌<◌, ◌&&◌, ◌||◌, Bool, true, false, Option, Some, None, is_some, filter, List, [], ◌∷◌, ◌++◌, take, drop, length, get_or, map, min, set, arith, refl, ap, sym, subst, append_assoc, ◌∙◌}
use Rattle.std.proofs.lemmas.List.{get_or-drop, get_or-map, length-drop, length-map, map-append, map-set, take-append-drop, take_more}
use Rattle.std.proofs.Math.Seq.{drop-nil, take-add}
use Rattle.cancel_view.specs.Seen.{Seen}
use Rattle.task_steps.specs.declared.entry.Entry.{Entry}
use Rattle.task_steps.specs.declared.entry.Reply.{Reply}
use Rattle.task_steps.specs.declared.mark.Mark.{Mark}
use Rattle.task_steps.specs.declared.mark.Round.{Round}
use Rattle.task_steps.specs.Wake.{sooner}
use Rattle.task_steps.specs.BookInside.{held, mark_at, mark_of, joined_mark, wake_of_all, wake_of_entry, IsQuiet}
use Rattle.task_steps.specs.Polls.{CanPollAll, HasPolledAll, NoneComes}
use Rattle.task_steps.proofs.Lists.{append_nil, can_split, polled_joined}
use Rattle.task_steps.proofs.Marks.{mark_joined, sooner_none, wake_joined}
use Rattle.task_steps.proofs.PollAll.{passed_none, passed_quiet, comes_left, comes_right}

-- ---- a list in two parts
pub first_none : {X : Type 0} (xs ys : List X) → xs ++ ys ≡ [] → xs ≡ []
first_none [] ys h = refl
first_none (x ∷ xs) ys h = absurd (cc)

pub last_none : {X : Type 0} (xs ys : List X) → xs ++ ys ≡ [] → ys ≡ []
last_none [] ys h = h
last_none (x ∷ xs) ys h = absurd (cc)

drop-by : {X : Type 0} (n m : ℕ) (xs : List X) → drop (n + m) xs ≡ drop m (drop n xs)
drop-by zero m xs = ap (λ (k : ℕ). drop k xs) (let same : 0 + m ≡ m = omega arith in same)
drop-by (suc n) m [] = drop-nil (suc n + m) ∙ sym (drop-nil m)
drop-by (suc n) m (x ∷ xs) = ap (λ (k : ℕ). drop k (x ∷ xs)) (let same : suc n + m ≡ suc (n + m) = omega arith in same) ∙ drop-by n m xs

-- ---- what places hold
pub held_joined : (places others : List (Option Entry)) → held (places ++ others) ≡ held places ++ held others
held_joined [] others = refl
held_joined (None ∷ places) others = held_joined places others
held_joined (Some e ∷ places) others = ap (λ (es : List Entry). e ∷ es) (held_joined places others)

pub none_held : (places : List (Option Entry)) (at : ℕ) → held places ≡ [] → get_or places at None ≡ None
none_held [] at h = refl
none_held (None ∷ places) zero h = refl
none_held (None ∷ places) (suc at) h = none_held places at h
none_held (Some e ∷ places) at h = absurd (cc)

pub none_set : (places : List (Option Entry)) (at : ℕ) → held places ≡ [] → held (set places at None) ≡ []
none_set [] at h = refl
none_set (None ∷ places) zero h = h
none_set (None ∷ places) (suc at) h = none_set places at h
none_set (Some e ∷ places) at h = absurd (cc)

-- places of entries that are gone may be left out
pub held_left : (places : List (Option Entry)) → held (filter (λ (p : Option Entry). is_some p) places) ≡ held places
held_left [] = refl
held_left (None ∷ places) = held_left places
held_left (Some e ∷ places) = ap (λ (es : List Entry). e ∷ es) (held_left places)

-- ---- marks beside places
pub known_set : (marks : List Mark) (places : List (Option Entry)) (at : ℕ) (p : Option Entry) → marks ≡ map mark_at places → set marks at (mark_at p) ≡ map mark_at (set places at p)
known_set marks places at p h = ap (λ (ms : List Mark). set ms at (mark_at p)) h ∙ sym (map-set mark_at places at p)

pub known_more : (marks : List Mark) (places : List (Option Entry)) (p : Option Entry) → marks ≡ map mark_at places → marks ++ mark_at p ∷ [] ≡ map mark_at (places ++ p ∷ [])
known_more marks places p h = ap (λ (ms : List Mark). ms ++ mark_at p ∷ []) h ∙ sym (map-append mark_at places (p ∷ []))

pub as_many : (marks : List Mark) (places : List (Option Entry)) → marks ≡ map mark_at places → length marks ≡ length places
as_many marks places h = ap length h ∙ length-map places mark_at

-- the next mark is that of the next place
pub record IsNext (places : List (Option Entry)) (from at : ℕ) (m : Mark) : Type 0 where
  pub place : Option Entry
  pub own : m ≡ mark_at place
  pub more : take (at + 1 - from) (drop from places) ≡ take (at - from) (drop from places) ++ place ∷ []

pub is_next : (marks : List Mark) (places : List (Option Entry)) (from at : ℕ) (m d : Mark) → marks ≡ map mark_at places → from ≤ at → at < length marks → m ≡ get_or marks at d → IsNext places from at m
is_next marks [] from at m d known le lt is = absurd (let none : length marks ≡ 0 = ap length known in omega arith)
is_next marks (x ∷ xs) from at m d known le lt is =
    let ps = x ∷ xs in
    let n = at - from in
    let many = as_many marks ps known in
    let left : length (drop from ps) ≡ length ps - from = length-drop from ps in
    let there : n < length (drop from ps) = omega arith in
    let sum : from + n ≡ at = omega arith in
    let count : at + 1 - from ≡ n + 1 = omega arith in
    record {
      place = get_or (drop from ps) n x;
      own = is ∙ ap (λ (ms : List Mark). get_or ms at d) known ∙ get_or-map mark_at ps at x d (omega arith) ∙ ap mark_at (ap (λ (k : ℕ). get_or ps k x) (sym sum) ∙ sym (get_or-drop from ps n x));
      more = ap (λ (k : ℕ). take k (drop from ps)) count ∙ take_more (drop from ps) n x there;
    }

-- what two parts of places hold has the marks of both
mark-parts : (places : List (Option Entry)) (p : Option Entry) → mark_of (held (places ++ p ∷ [])) ≡ joined_mark (mark_of (held places)) (mark_at p)
mark-parts places p = ap mark_of (held_joined places (p ∷ [])) ∙ mark_joined (held places) (held (p ∷ []))

pub mark_more : (all m : Mark) (places : List (Option Entry)) (p : Option Entry) → all ≡ mark_of (held places) → m ≡ mark_at p → joined_mark all m ≡ mark_of (held (places ++ p ∷ []))
mark_more all m places p h k = rw (h, k) (sym (mark-parts places p))

pub wake_more : (wake own : Option ℕ) (places : List (Option Entry)) (e : Entry) → wake ≡ wake_of_all (held places) → own ≡ wake_of_entry e → sooner wake own ≡ wake_of_all (held (places ++ Some e ∷ []))
wake_more wake own places e h k =
    rw (h, k) (ap (sooner (wake_of_all (held places))) (sym (sooner_none (wake_of_entry e))) ∙ sym (wake_joined (held places) (e ∷ [])))
    ∙ ap wake_of_all (sym (held_joined places (Some e ∷ [])))

pub none_more : (places : List (Option Entry)) → held (places ++ None ∷ []) ≡ held places
none_more places = held_joined places (None ∷ []) ∙ append_nil (held places)

and-or : (c a b : Bool) → (c && a) ≡ false → (c && b) ≡ false → (c && (a || b)) ≡ false
and-or true true b h k = h
and-or true false b h k = k
and-or false a b h k = refl

-- what is quiet with one more that is quiet
pub quiet_more : (round : Round) (m : Mark) (places : List (Option Entry)) (p : Option Entry) → IsQuiet round (mark_of (held places)) → IsQuiet round m → m ≡ mark_at p → IsQuiet round (mark_of (held (places ++ p ∷ [])))
quiet_more round m places p h k own =
    let one : IsQuiet round (mark_at p) = subst (λ (x : Mark). IsQuiet round x) own k in
    let both : IsQuiet round (joined_mark (mark_of (held places)) (mark_at p)) = (let lt : round.tick < min (mark_of (held places)).wake (mark_at p).wake = omega (arith, h.0, one.0) in lt, and-or round.came (mark_of (held places)).heeds (mark_at p).heeds h.1 one.1) in
    subst (λ (x : Mark). IsQuiet round x) (sym (mark-parts places p)) both

-- ---- a poll of entries side by side

-- so many entries were polled, or went, and the others are left: what a poll of those gives is, with what was given, that of all
pub record PolledTo (round : Round) (view : Seen) (prior : List Entry) (rs : List Reply) (ls : List ℕ) (done left : List (Option Entry)) (ss : List Reply) (ms : List ℕ) : Type 0 where
  pub can : CanPollAll round.tick round.polled view (held left)
  pub came : NoneComes round.came view (held left)
  pub polled : (after : List Entry) (qs : List Reply) (ns : List ℕ) → HasPolledAll round.tick round.polled view (held left) after ss qs ms ns → HasPolledAll round.tick round.polled view prior (held done ++ after) rs qs ls ns

pub none_polled : (round : Round) (view : Seen) (places : List (Option Entry)) (rs : List Reply) (ls : List ℕ) → CanPollAll round.tick round.polled view (held places) → NoneComes round.came view (held places) → PolledTo round view (held places) rs ls [] places rs ls
none_polled round view places rs ls can came = record { can = can; came = came; polled = λ after qs ns h. h }

-- some are polled, and some of them go on
some-polled : {round : Round} {view : Seen} {prior : List Entry} {rs ss : List Reply} {ls ms : List ℕ} {done : List (Option Entry)} (places kept left : List (Option Entry)) (qs : List Reply) (ns : List ℕ) → PolledTo round view prior rs ls done (places ++ left) ss ms → HasPolledAll round.tick round.polled view (held places) (held kept) ss qs ms ns → PolledTo round view prior rs ls (done ++ kept) left qs ns
some-polled {round} {view} {prior} {rs} {ss} {ls} {ms} {done} places kept left qs ns h some =
    let parts : held (places ++ left) ≡ held places ++ held left = held_joined places left in
    let can = subst (λ (es : List Entry). CanPollAll round.tick round.polled view es) parts h.can in
    let came = subst (λ (es : List Entry). NoneComes round.came view es) parts h.came in
    record {
      can = (can_split round.tick round.polled view (held places) (held left) can).1;
      came = comes_right round.came view (held places) (held left) came;
      polled = λ after ps os rest.
          let both = subst (λ (es : List Entry). HasPolledAll round.tick round.polled view es (held kept ++ after) ss ps ms os) (sym parts) (polled_joined some rest) in
          let all = h.polled (held kept ++ after) ps os both in
          subst (λ (es : List Entry). HasPolledAll round.tick round.polled view prior es rs ps ls os)
          (sym (append_assoc (held done) (held kept) after) ∙ ap (λ (es : List Entry). es ++ after) (sym (held_joined done kept))) all;
    }

-- the next one is polled
pub one_polled : {round : Round} {view : Seen} {prior : List Entry} {rs ss : List Reply} {ls ms : List ℕ} {done left : List (Option Entry)} {p : Option Entry} (q : Option Entry) (qs : List Reply) (ns : List ℕ) → PolledTo round view prior rs ls done (p ∷ left) ss ms → HasPolledAll round.tick round.polled view (held (p ∷ [])) (held (q ∷ [])) ss qs ms ns → PolledTo round view prior rs ls (done ++ q ∷ []) left qs ns
one_polled {round} {view} {prior} {rs} {ss} {ls} {ms} {done} {left} {p} q qs ns h one = some-polled (p ∷ []) (q ∷ []) left qs ns h one

-- those up to a place are passed over
pub some_passed : {round : Round} {view : Seen} {prior : List Entry} {rs ss : List Reply} {ls ms : List ℕ} (places : List (Option Entry)) (from to : ℕ) → from ≤ to → PolledTo round view prior rs ls (take from places) (drop from places) ss ms → IsQuiet round (mark_of (held (take (to - from) (drop from places)))) → PolledTo round view prior rs ls (take to places) (drop to places) ss ms
some_passed {round} {view} {prior} {rs} {ss} {ls} {ms} places from to le h quiet =
    let n = to - from in
    let sum : from + n ≡ to = omega arith in
    let seg = take n (drop from places) in
    let left = drop n (drop from places) in
    let parts : seg ++ left ≡ drop from places = take-append-drop n (drop from places) in
    let told = subst (λ (bs : List (Option Entry)). PolledTo round view prior rs ls (take from places) bs ss ms) (sym parts) h in
    let halves : held (seg ++ left) ≡ held seg ++ held left = held_joined seg left in
    let can = (can_split round.tick round.polled view (held seg) (held left) (subst (λ (es : List Entry). CanPollAll round.tick round.polled view es) halves told.can)).0 in
    let came = comes_left round.came view (held seg) (held left) (subst (λ (es : List Entry). NoneComes round.came view es) halves told.came) in
    let passed = passed_quiet round view (mark_of (held seg)) (held seg) ss ms refl quiet can came in
    let went = some-polled seg seg left ss ms told passed in
    let before : take from places ++ seg ≡ take to places = sym (take-add from n places) ∙ ap (λ (k : ℕ). take k places) sum in
    let behind : left ≡ drop to places = sym (drop-by from n places) ∙ ap (λ (k : ℕ). drop k places) sum in
    subst (λ (bs : List (Option Entry)). PolledTo round view prior rs ls (take to places) bs ss ms) behind
    (subst (λ (bs : List (Option Entry)). PolledTo round view prior rs ls bs left ss ms) before went)

-- where none is left, all were polled
pub all_polled : {round : Round} {view : Seen} {prior : List Entry} {rs ss : List Reply} {ls ms : List ℕ} {done : List (Option Entry)} → PolledTo round view prior rs ls done [] ss ms → HasPolledAll round.tick round.polled view prior (held done) rs ss ls ms
all_polled {round} {view} {prior} {rs} {ss} {ls} {ms} {done} h =
    subst (λ (es : List Entry). HasPolledAll round.tick round.polled view prior es rs ss ls ms) (append_nil (held done)) (h.polled [] ss ms (passed_none round view ss ms h.can))
