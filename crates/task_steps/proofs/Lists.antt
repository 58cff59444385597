-- Lists of tasks in two parts.
use Rattle.std.proofs.Common.{◌≡◌, ℕ, ◌+◌, ◌||◌, Bool, true, false, cond, Option, Some, List, [], ◌∷◌, ◌++◌, map, option_map, option_to_list, append_assoc, refl, ap, sym, ◌∙◌}
use Rattle.std.specs.List.{list_any, filter}
use Rattle.cancel_view.specs.Seen.{Seen}
use Rattle.task_steps.specs.declared.entry.Entry.{Entry}
use Rattle.task_steps.specs.declared.entry.Reply.{Reply}
use Rattle.task_steps.specs.Reply.{reply_of_task}
use Rattle.task_steps.specs.Wake.{sooner}
use Rattle.task_steps.specs.Run.{IsUpTo}
use Rattle.task_steps.specs.Task.{Task, body_end, reply_in, is_late_in}
use Rattle.task_steps.specs.Book.{HasGrown, MayComeToAll, noticed_in, all_noticed, replies_in, late_in, goes_on}
use Rattle.task_steps.specs.BookInside.{AreWaiting, AreListed, shown, wake_of_all}
use Rattle.task_steps.specs.Polls.{all_shown, Gives, HasPolledAll, CanPollAll, comes}
use Rattle.task_steps.proofs.Wakes.{up-a, up-b, after_both}
use Rattle.task_steps.proofs.Marks.{wake_joined, any_joined}

pub append_nil : {X : Type 0} (xs : List X) → xs ++ [] ≡ xs
append_nil [] = refl
append_nil (x ∷ xs) = ap (λ l. x ∷ l) (append_nil xs)

map-joined : {X Y : Type 0} (g : X → Y) (xs ys : List X) → map g (xs ++ ys) ≡ map g xs ++ map g ys
map-joined g [] ys = refl
map-joined g (x ∷ xs) ys = ap (λ l. g x ∷ l) (map-joined g xs ys)

filter-joined : {X : Type 0} (p : X → Bool) (xs ys : List X) → filter p (xs ++ ys) ≡ filter p xs ++ filter p ys
filter-joined p [] ys = refl
filter-joined p (x ∷ xs) ys = elim (p x) as (λ b. cond b (x ∷ filter p (xs ++ ys)) (filter p (xs ++ ys)) ≡ cond b (x ∷ filter p xs) (filter p xs) ++ filter p ys) [ true ↦ ap (λ l. x ∷ l) (filter-joined p xs ys) | false ↦ filter-joined p xs ys ]

-- ---- what a poll gives of two parts
replies-joined : (tick : ℕ) (c : ℕ → Option ℕ) (ts us : List Task) → replies_in tick c (ts ++ us) ≡ replies_in tick c ts ++ replies_in tick c us
replies-joined tick c [] us = refl
replies-joined tick c (t ∷ ts) us =
    let now : List Reply = option_to_list (option_map (reply_of_task t) (reply_in tick t.return_on_cancel (c t.number) (body_end t (c t.number)))) in
    ap (λ l. now ++ l) (replies-joined tick c ts us) ∙ sym (append_assoc now (replies_in tick c ts) (replies_in tick c us))

late-joined : (tick : ℕ) (c : ℕ → Option ℕ) (ts us : List Task) → late_in tick c (ts ++ us) ≡ late_in tick c ts ++ late_in tick c us
late-joined tick c [] us = refl
late-joined tick c (t ∷ ts) us =
    let now : List ℕ = cond (is_late_in tick t.return_on_cancel (c t.number) (body_end t (c t.number))) (t.number ∷ []) [] in
    ap (λ l. now ++ l) (late-joined tick c ts us) ∙ sym (append_assoc now (late_in tick c ts) (late_in tick c us))

added-on : {X : Type 0} (rs ss ts part more all : List X) → ss ≡ rs ++ part → ts ≡ ss ++ more → all ≡ part ++ more → ts ≡ rs ++ all
added-on rs ss ts part more all h k n = cc (append_assoc rs part more)

gives-joined : (tick : ℕ) (c : ℕ → Option ℕ) (ts us : List Task) (fs hs : List Entry) (rs ss qs : List Reply) (ls ms ns : List ℕ) → Gives tick c ts fs rs ss ls ms → Gives tick c us hs ss qs ms ns → Gives tick c (ts ++ us) (fs ++ hs) rs qs ls ns
gives-joined tick c ts us fs hs rs ss qs ls ms ns a b =
    let going : all_shown (Some tick) fs ++ all_shown (Some tick) hs ≡ filter (goes_on tick c) ts ++ filter (goes_on tick c) us = ap (λ (l : List Task). l ++ all_shown (Some tick) hs) a.going ∙ ap (λ (l : List Task). filter (goes_on tick c) ts ++ l) b.going in
    record {
      replies = added-on rs ss qs (replies_in tick c ts) (replies_in tick c us) (replies_in tick c (ts ++ us)) a.replies b.replies (replies-joined tick c ts us);
      late = added-on ls ms ns (late_in tick c ts) (late_in tick c us) (late_in tick c (ts ++ us)) a.late b.late (late-joined tick c ts us);
      going = map-joined (shown (Some tick)) fs hs ∙ (going ∙ sym (filter-joined (goes_on tick c) ts us));
    }

-- ---- each part of what holds of a whole, and the whole
may-split : (c : ℕ → Option ℕ) (ts us : List Task) → MayComeToAll c (ts ++ us) → MayComeToAll c ts × MayComeToAll c us
may-split c [] us h = (tt, h)
may-split c (t ∷ ts) us h = let r = may-split c ts us h.1 in ((h.0, r.0), r.1)

noticed-joined : (tick : ℕ) (view : Seen) (polled : Option ℕ) (es gs : List Entry) → all_noticed tick view (all_shown polled (es ++ gs)) ≡ all_noticed tick view (all_shown polled es) ++ all_noticed tick view (all_shown polled gs)
noticed-joined tick view polled es gs = ap (all_noticed tick view) (map-joined (shown polled) es gs) ∙ map-joined (noticed_in tick view) (all_shown polled es) (all_shown polled gs)

waiting-split : (next : ℕ) (polled : Option ℕ) (es gs : List Entry) → AreWaiting next polled (es ++ gs) → AreWaiting next polled es × AreWaiting next polled gs
waiting-split next polled [] gs h = (tt, h)
waiting-split next polled (e ∷ es) gs h = let r = waiting-split next polled es gs h.1 in ((h.0, r.0), r.1)

waiting-joined : (next : ℕ) (polled : Option ℕ) (es gs : List Entry) → AreWaiting next polled es → AreWaiting next polled gs → AreWaiting next polled (es ++ gs)
waiting-joined next polled [] gs h k = k
waiting-joined next polled (e ∷ es) gs h k = (h.0, waiting-joined next polled es gs h.1 k)

grown-split : (view : Seen) (polled : Option ℕ) (es gs : List Entry) → HasGrown view (all_shown polled (es ++ gs)) → HasGrown view (all_shown polled es) × HasGrown view (all_shown polled gs)
grown-split view polled [] gs h = (tt, h)
grown-split view polled (e ∷ es) gs h = let r = grown-split view polled es gs h.2 in ((h.0, h.1, r.0), r.1)

grown-joined : (view : Seen) (polled : Option ℕ) (es gs : List Entry) → HasGrown view (all_shown polled es) → HasGrown view (all_shown polled gs) → HasGrown view (all_shown polled (es ++ gs))
grown-joined view polled [] gs h k = k
grown-joined view polled (e ∷ es) gs h k = (h.0, h.1, grown-joined view polled es gs h.2 k)

listed-split : (cs : List ℕ) (es gs : List Entry) → AreListed cs (es ++ gs) → AreListed cs es × AreListed cs gs
listed-split cs [] gs h = (tt, h)
listed-split cs (e ∷ es) gs h = let r = listed-split cs es gs h.1 in ((h.0, r.0), r.1)

listed-joined : (cs : List ℕ) (es gs : List Entry) → AreListed cs es → AreListed cs gs → AreListed cs (es ++ gs)
listed-joined cs [] gs h k = k
listed-joined cs (e ∷ es) gs h k = (h.0, listed-joined cs es gs h.1 k)

-- ---- polls of two parts
pub can_split : (tick : ℕ) (polled : Option ℕ) (view : Seen) (es gs : List Entry) → CanPollAll tick polled view (es ++ gs) → CanPollAll tick polled view es × CanPollAll tick polled view gs
can_split tick polled view es gs h =
    let waiting = waiting-split tick polled es gs h.waiting in
    let grown = grown-split view polled es gs h.grown in
    let up : IsUpTo tick (sooner (wake_of_all es) (wake_of_all gs)) = rw (← wake_joined es gs) h.wake in (
      record { waiting = waiting.0; past = h.past; wake = up-a tick (wake_of_all es) (wake_of_all gs) up; grown = grown.0 },
      record { waiting = waiting.1; past = h.past; wake = up-b tick (wake_of_all es) (wake_of_all gs) up; grown = grown.1 },
    )

or-none : (a b : Bool) → a ≡ false → b ≡ false → (a || b) ≡ false
or-none a b h k = rw (h, k) refl

pub polled_joined : {tick : ℕ} {polled : Option ℕ} {view : Seen} {es fs gs hs : List Entry} {rs ss qs : List Reply} {ls ms ns : List ℕ} → HasPolledAll tick polled view es fs rs ss ls ms → HasPolledAll tick polled view gs hs ss qs ms ns → HasPolledAll tick polled view (es ++ gs) (fs ++ hs) rs qs ls ns
polled_joined {tick} {polled} {view} {es} {fs} {gs} {hs} {rs} {ss} {qs} {ls} {ms} {ns} a b = record {
  gives = λ c may.
      let ts = all_noticed tick view (all_shown polled es) in
      let us = all_noticed tick view (all_shown polled gs) in
      let parts = may-split c ts us (rw (noticed-joined tick view polled es gs) at may) in
      rw (noticed-joined tick view polled es gs) (gives-joined tick c ts us fs hs rs ss qs ls ms ns (a.gives c parts.0) (b.gives c parts.1));
  waiting = waiting-joined (tick + 1) (Some tick) fs hs a.waiting b.waiting;
  wake = rw (wake_joined fs hs) (after_both tick (wake_of_all fs) (wake_of_all hs) a.wake b.wake);
  grown = grown-joined view (Some tick) fs hs a.grown b.grown;
  noticed = any_joined (comes view) fs hs ∙ or-none (list_any (comes view) fs) (list_any (comes view) hs) a.noticed b.noticed;
  listed = λ cs h. let parts = listed-split cs es gs h in listed-joined cs fs hs (a.listed cs parts.0) (b.listed cs parts.1);
}
