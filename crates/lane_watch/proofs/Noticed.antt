-- What a poll notices of a task, beside the tick in which its cancellable came into the view.
use Rattle.std.proofs.Common.{◌≡◌, ℕ, ◌+◌, ◌≤◌, ⊎_elim, Bool, true, false, Option, Some, None, is_some, List, [], ◌∷◌, refl, ap, sym, ◌∙◌, subst, arith}
use Rattle.std.specs.Prelude.{max, option_map, slice_set, length}
use Rattle.std.specs.List.{AllByRecursion}
use Rattle.std.proofs.lemmas.Bool.Decides.{nat_tests}
use Rattle.cancel_view.specs.Seen.{Seen, has}
use Rattle.task_steps.specs.Run.{MayCome, IsUnseenTo, StaysSet, seen_from, clear_to}
use Rattle.task_steps.specs.Task.{Task, MayComeTo, IsSeenExactly}
use Rattle.task_steps.specs.Book.{IsIn, HasGrown, sees, noticed_in}
use Rattle.lane_watch.specs.Tasks.{came_in, first_seen}
use Rattle.lane_watch.specs.Watch.{AreDated, IsBelow, SeenAs, Fits, started_of}
use Rattle.lane_watch.proofs.Dated.{sees_dated, past_in, noted_in, dated_at}

-- ---- of one task: `first` its first poll, s the tick in which its cancellable came into the view

abbrev pub seen_by : ℕ → Option ℕ → Option ℕ
seen_by first s = option_map (λ tick. max first (tick + 1)) s

record Notices (tick : ℕ) (returns : Bool) (clear cancelled c : Option ℕ) : Type 0 where
  may : MayCome clear cancelled c
  exactly : returns ≡ true → IsSeenExactly cancelled c
  later : SeenAs (tick + 1) returns clear cancelled c
  below : IsBelow (tick + 1) clear

unseen : (k : ℕ) (clear : Option ℕ) → IsBelow k clear → IsUnseenTo clear (Some k)
unseen k None h = tt
unseen k (Some l) h = λ t le. grind (arith, nat_tests, h, le)

pub below_more : (tick : ℕ) (clear : Option ℕ) → IsBelow tick clear → IsBelow (tick + 1) clear
below_more tick None h = tt
below_more tick (Some l) h = omega arith

some_of : (a b : ℕ) → a ≡ b → Some a ≡ Some b
some_of a b e = ap (λ (n : ℕ). Some n) e

-- it is first seen as cancelled at k, and polls saw it as such from a tick on
notices_at : (tick k from : ℕ) (returns : Bool) (clear : Option ℕ) → IsBelow k clear → IsBelow tick clear → k ≤ from → (returns ≡ true → k ≡ from) → Notices tick returns clear (Some from) (Some k)
notices_at tick k from returns clear h b le e = record {
  may = (unseen k clear h, λ t lt. grind (arith, nat_tests, le, lt));
  exactly = λ r. some_of k from (e r);
  later = (h, le, e);
  below = below_more tick clear b;
}

notices : (tick first : ℕ) (returns : Bool) (s clear cancelled : Option ℕ) → first ≤ tick → IsBelow tick s → IsBelow tick clear → SeenAs tick returns clear cancelled (seen_by first s)
    → Notices tick returns (clear_to tick (is_some s) clear) (seen_from tick (is_some s) cancelled) (seen_by first s)
notices tick first returns None clear None f b k h = record { may = (λ t le. refl, tt); exactly = λ r. tt; later = tt; below = omega arith }
notices tick first returns None clear (Some from) f b k h = absurd h
notices tick first returns (Some s) clear None f b k h =
    let le : max first (s + 1) ≤ tick = omega arith in
    notices_at tick (max first (s + 1)) tick returns clear h.0 k le (λ r. let ge = h.1 r in omega arith)
notices tick first returns (Some s) clear (Some from) f b k h = notices_at tick (max first (s + 1)) from returns clear h.0 k h.1 h.2

-- ---- of a task that fits

noticed_by : (tick tick_us : ℕ) (view : Seen) (came : List (Option ℕ)) (t : Task) → AreDated came view.members → AllByRecursion (IsBelow tick) came → Fits tick tick_us view came t
    → Notices tick t.return_on_cancel (clear_to tick (sees view t.cancel) t.clear) (seen_from tick (sees view t.cancel) t.cancelled) (first_seen came (started_of t))
noticed_by tick tick_us view came t dated past fits =
    let P : Bool → Type 0 = λ b. Notices tick t.return_on_cancel (clear_to tick b t.clear) (seen_from tick b t.cancelled) (first_seen came (started_of t)) in
    subst P (sym (sees_dated came view t.cancel dated))
    (notices tick t.first t.return_on_cancel (came_in came t.cancel) t.clear t.cancelled fits.first (past_in came tick t.cancel past) fits.clear fits.seen)

pub may_come : (tick tick_us : ℕ) (view : Seen) (came : List (Option ℕ)) (t : Task) → AreDated came view.members → AllByRecursion (IsBelow tick) came → Fits tick tick_us view came t
    → MayComeTo (noticed_in tick view t) (first_seen came (started_of t))
may_come tick tick_us view came t dated past fits = let n = noticed_by tick tick_us view came t dated past fits in (n.may, n.exactly)

pub fits_next : (tick tick_us : ℕ) (view : Seen) (came : List (Option ℕ)) (t : Task) → AreDated came view.members → AllByRecursion (IsBelow tick) came → Fits tick tick_us view came t
    → Fits (tick + 1) tick_us view came (noticed_in tick view t)
fits_next tick tick_us view came t dated past fits =
    let n = noticed_by tick tick_us view came t dated past fits in
    record { ticks = fits.ticks; first = omega (arith, fits.first); clear = n.below; seen = n.later; known = fits.known }

-- what was seen as cancelled is in the view
stays_set : (tick first : ℕ) (returns : Bool) (s clear cancelled : Option ℕ) → SeenAs tick returns clear cancelled (seen_by first s) → StaysSet cancelled (is_some s)
stays_set tick first returns s clear None h = tt
stays_set tick first returns None clear (Some from) h = absurd h
stays_set tick first returns (Some s) clear (Some from) h = refl

pub grown : (tick tick_us : ℕ) (view : Seen) (came : List (Option ℕ)) (ts : List Task) → AreDated came view.members → AllByRecursion (Fits tick tick_us view came) ts → HasGrown view ts
grown tick tick_us view came [] dated fits = tt
grown tick tick_us view came (t ∷ ts) dated fits = (
  fits.0.known,
  subst (StaysSet t.cancelled) (sym (sees_dated came view t.cancel dated)) (stays_set tick t.first t.return_on_cancel (came_in came t.cancel) t.clear t.cancelled fits.0.seen),
  grown tick tick_us view came ts dated fits.1,
)

-- ---- once another cancellable came into the view

none_of : (o : Option ℕ) → is_some o ≡ false → o ≡ None
none_of None h = refl
none_of (Some k) h = cc

below_from : (tick k : ℕ) (clear : Option ℕ) → tick ≤ k → IsBelow tick clear → IsBelow k clear
below_from tick k None le h = tt
below_from tick k (Some l) le h = omega arith

seen_anew : (tick first k : ℕ) (returns : Bool) (s' s clear cancelled : Option ℕ) → tick ≡ k + 1 → IsBelow tick clear → s ≡ None → s' ≡ Some k → SeenAs tick returns clear cancelled (seen_by first s) → SeenAs tick returns clear cancelled (seen_by first s')
seen_anew tick first k returns s' s clear None e b none some h =
    let le : tick ≤ max first (k + 1) = omega arith in
    subst (λ (o : Option ℕ). SeenAs tick returns clear None (seen_by first o)) (sym some) (below_from tick (max first (k + 1)) clear le b, λ r. le)
seen_anew tick first k returns s' s clear (Some from) e b none some h = absurd (subst (λ (o : Option ℕ). SeenAs tick returns clear (Some from) (seen_by first o)) none h)

is_in_members : (view : Seen) (members : List Bool) (cancel : Option ℕ) → length members ≡ length view.members → IsIn view cancel → IsIn (record view { members = members }) cancel
is_in_members view members None e h = tt
is_in_members view members (Some c) e h = omega arith

pub fits_noted : (tick tick_us c k : ℕ) (view : Seen) (came : List (Option ℕ)) (members : List Bool) (t : Task) → tick ≡ k + 1 → AreDated came view.members → has c view ≡ false → length members ≡ length view.members
    → Fits tick tick_us view came t → Fits tick tick_us (record view { members = members }) (slice_set came c (Some k)) t
fits_noted tick tick_us c k view came members t e dated out long fits = record {
  ticks = fits.ticks;
  first = fits.first;
  clear = fits.clear;
  seen =
      ⊎_elim
      (λ same. subst (λ (o : Option ℕ). SeenAs tick t.return_on_cancel t.clear t.cancelled (seen_by t.first o)) (sym same) fits.seen)
      (λ anew.
      let was : came_in came t.cancel ≡ None = ap (came_in came) anew.1 ∙ none_of (came_in came (Some c)) (sym (dated_at came view.members c dated) ∙ out) in
      seen_anew tick t.first k t.return_on_cancel (came_in (slice_set came c (Some k)) t.cancel) (came_in came t.cancel) t.clear t.cancelled e fits.clear was anew.0 fits.seen)
      (noted_in came c k t.cancel);
  known = is_in_members view members t.cancel long fits.known;
}

pub all_noted : (tick tick_us c k : ℕ) (view : Seen) (came : List (Option ℕ)) (members : List Bool) (ts : List Task) → tick ≡ k + 1 → AreDated came view.members → has c view ≡ false → length members ≡ length view.members
    → AllByRecursion (Fits tick tick_us view came) ts → AllByRecursion (Fits tick tick_us (record view { members = members }) (slice_set came c (Some k))) ts
all_noted tick tick_us c k view came members [] e dated out long h = tt
all_noted tick tick_us c k view came members (t ∷ ts) e dated out long h = (fits_noted tick tick_us c k view came members t e dated out long h.0, all_noted tick tick_us c k view came members ts e dated out long h.1)
