-- The places of the faults of references and of rules lead to values of the document.
use Rattle.std.proofs.Common.{◌≡◌, ◌≤◌, ◌⊎◌, inl, inr, refl, sym, subst, ap, ◌∙◌, ℕ, zero, suc, Bool, true, false, not, cond, ◌||◌, List, [], ◌∷◌, ◌++◌, codes, Option, Some, None, arith}
use Rattle.std.specs.Prelude.{option_and_then, nat_lt, slice_get}
use Rattle.std.proofs.lemmas.Bool.Decides.{nat_tests}
use Rattle.serde_json.specs.Data.{Data, number, unsigned, array, Items, no_items, item}
use Rattle.serde_json.specs.Find.{get_item, at}
use Rattle.loop_script.specs.Form.{Form, an, pair, task}
use Rattle.loop_script.specs.Tables.{index}
use Rattle.loop_script.specs.Parts.{actions_of_proc, keeps}
use Rattle.loop_script.specs.Meaning as says
use Rattle.loop_script.specs.Meaning.{IsWhole, Or, OrNull, EachIs, IsList, IsKind, IsSource, IsChild, IsTask, IsAction, IsLevel, IsLane, IsProc, Denotes}
use Rattle.loop_script.specs.declared.action.Action.{Action}
use Rattle.loop_script.specs.declared.action.Action.TheVariants.{Attach, Child, Destroy, SetReady, SetPriority, Iterate, Pending, Run, Quit, Cancel, Connect, Disconnect, Task, Push, Pop, ShowDefault, Acquire, Release, Invoke, Give, Log}
use Rattle.loop_script.specs.declared.source.Kind.{Kind}
use Rattle.loop_script.specs.declared.source.Kind.TheVariants as kinds
use Rattle.loop_script.specs.declared.source.SourceSpec.{SourceSpec}
use Rattle.loop_script.specs.declared.level.Level.{Level}
use Rattle.loop_script.specs.declared.plan.Proc.{Proc}
use Rattle.loop_script.specs.declared.task.TaskSpec.{TaskSpec}
use Rattle.script_check.specs.declared.fault.Cause.{Cause}
use Rattle.script_check.specs.declared.fault.Cause.TheVariants.{Missing, NotAbove, NotPlain, Stays, Unchecked}
use Rattle.script_check.specs.declared.counts.Counts.{Counts}
use Rattle.script_check.specs.declared.counts.Sort.{Sort}
use Rattle.script_check.specs.declared.counts.Sort.TheVariants as sorts
use Rattle.script_check.specs.Found.{Step, under, nth, stepped, at_place, Found}
use Rattle.script_check.specs.PlanFaults.{counts_of, count, fault, missing, option_missing, kind_missing, source_missing, task_missing, action_missing, first_not_plain, connected, action_broken, not_above, not_rising, in_actions, in_lanes, in_procs, in_loops, in_fds, plan_faults}
use Rattle.script_check.specs.Laws.{In}
use Rattle.script_check.specs.PlanPlaces.{Fits, StandsAt, PlacesLead}
use Rattle.script_check.proofs.Among.{in_either}

-- all faults of a list stand where they say
abbrev AllStand : Data → List Found → Type 0
AllStand d fs = (x : Found) → In x fs → StandsAt d x

none_stands : (d : Data) → AllStand d []
none_stands d x h = absurd h

both_stand : (d : Data) (xs ys : List Found) → AllStand d xs → AllStand d ys → AllStand d (xs ++ ys)
both_stand d xs ys f g x h = by (in_either x xs ys h)
  where
    by : In x xs ⊎ In x ys → StandsAt d x
    by (inl k) = f x k
    by (inr k) = g x k

one_stands : (d : Data) (place : List Step) (f : Form) (c : Cause) (e : Data) → at_place place d ≡ Some e → Fits c e → AllStand d (fault place f c)
one_stands d place f c e h k x (inl i) = subst (StandsAt d) i (e, h, k)
one_stands d place f c e h k x (inr i) = absurd i

unless_stands : (d : Data) (b : Bool) (fs : List Found) → (b ≡ false → AllStand d fs) → AllStand d (cond b [] fs)
unless_stands d true fs h = none_stands d
unless_stands d false fs h = h refl

where_stands : (d : Data) (b : Bool) (fs : List Found) → AllStand d fs → AllStand d (cond b fs [])
where_stands d true fs h = h
where_stands d false fs h = none_stands d

-- ---- a step further
further : (ss : List Step) (s : Step) (d : Data) → at_place (ss ++ s ∷ []) d ≡ option_and_then (stepped s) (at_place ss d)
further [] s d = last (stepped s d)
  where
    last : (o : Option Data) → option_and_then (at_place []) o ≡ o
    last None = refl
    last (Some e) = refl
further (r ∷ rs) s d = by (stepped r d) (λ e. further rs s e)
  where
    by : (o : Option Data) → ((e : Data) → at_place (rs ++ s ∷ []) e ≡ option_and_then (stepped s) (at_place rs e)) → option_and_then (at_place (rs ++ s ∷ [])) o ≡ option_and_then (stepped s) (option_and_then (at_place rs) o)
    by None h = refl
    by (Some e) h = h e

-- what is said of the value at a step is said of the value at the longer place
moved : (P : Option Data → Type 0) (ss : List Step) (s : Step) (d : Data) → P (option_and_then (stepped s) (at_place ss d)) → P (at_place (ss ++ s ∷ []) d)
moved P ss s d h = subst P (sym (further ss s d)) h

-- ---- numbers
not_less : (k n : ℕ) → nat_lt k n ≡ false → n ≤ k
not_less k n h = grind (arith, nat_tests)

number_stands : (d : Data) (n : Counts) (s : Sort) (place : List Step) (k : ℕ) → IsWhole (at_place place d) k → AllStand d (missing n s place k)
number_stands d n s place k h = unless_stands d (nat_lt k (count n s)) (fault place index (Missing (count n s))) (λ e. one_stands d place index (Missing (count n s)) (number (unsigned k)) h (k, refl, not_less k (count n s) e))

below_stands : (d : Data) (n : Counts) (s : Sort) (place : List Step) (r : Step) (k : ℕ) → IsWhole (option_and_then (stepped r) (at_place place d)) k → AllStand d (missing n s (place ++ r ∷ []) k)
below_stands d n s place r k h = number_stands d n s (place ++ r ∷ []) k (moved (λ o. IsWhole o k) place r d h)

option_from : (d : Data) (n : Counts) (s : Sort) (place : List Step) (o : Option Data) (k : Option ℕ) → at_place place d ≡ o → Or None (OrNull IsWhole) o k → AllStand d (option_missing n s place k)
option_from d n s place o None e h = none_stands d
option_from d n s place None (Some k) e h = absurd (cc)
option_from d n s place (Some v) (Some k) e h = number_stands d n s place k (e ∙ h)

option_stands : (d : Data) (n : Counts) (s : Sort) (place : List Step) (r : Step) (k : Option ℕ) → Or None (OrNull IsWhole) (option_and_then (stepped r) (at_place place d)) k → AllStand d (option_missing n s (place ++ r ∷ []) k)
option_stands d n s place r k h = option_from d n s (place ++ r ∷ []) (at_place (place ++ r ∷ []) d) k refl (moved (λ o. Or None (OrNull IsWhole) o k) place r d h)

-- ---- what an action names
kind_stands : (d : Data) (n : Counts) (place : List Step) (k : Kind) → IsKind (at_place place d) k → AllStand d (kind_missing n place k)
kind_stands d n place kinds.Idle h = none_stands d
kind_stands d n place (kinds.Timeout ms) h = none_stands d
kind_stands d n place (kinds.ReadyTime us) h = none_stands d
kind_stands d n place (kinds.Fd fd bits) h = below_stands d n sorts.Descriptor place (nth 1) fd h.1
kind_stands d n place (kinds.Cancel c) h = below_stands d n sorts.Cancellable place (nth 1) c h.1

-- a source and a child say the same of their kind and their call
source_stands : (d : Data) (n : Counts) (place : List Step) (s : SourceSpec) → IsKind (says.under (codes "kind") (at_place place d)) s.kind → Or None (OrNull IsWhole) (says.under (codes "call") (at_place place d)) s.call → AllStand d (source_missing n place s)
source_stands d n place s k c =
    both_stand d (option_missing n sorts.Proc (place ++ under (codes "call") ∷ []) s.call) (kind_missing n (place ++ under (codes "kind") ∷ []) s.kind)
    (option_stands d n sorts.Proc place (under (codes "call")) s.call c)
    (kind_stands d n (place ++ under (codes "kind") ∷ []) s.kind (moved (λ o. IsKind o s.kind) place (under (codes "kind")) d k))

task_stands : (d : Data) (n : Counts) (place : List Step) (t : TaskSpec) → IsTask (at_place place d) t → AllStand d (task_missing n place t)
task_stands d n place t h =
    both_stand d (missing n sorts.Proc (place ++ under (codes "call") ∷ []) t.call) (option_missing n sorts.Cancellable (place ++ under (codes "cancel") ∷ []) t.cancel)
    (below_stands d n sorts.Proc place (under (codes "call")) t.call h.call) (option_stands d n sorts.Cancellable place (under (codes "cancel")) t.cancel h.cancel)

abbrev one : List Step → List Step
one place = place ++ nth 1 ∷ []

action_stands : (d : Data) (n : Counts) (place : List Step) (a : Action) → IsAction (at_place place d) a → AllStand d (action_missing n place a)
action_stands d n place (Attach context slot spec) h =
    let at_three = place ++ nth 3 ∷ [] in
    let s = moved (λ o. IsSource o spec) place (nth 3) d h.3 in
    both_stand d (missing n sorts.Context (one place) context) (source_missing n at_three spec) (below_stands d n sorts.Context place (nth 1) context h.1) (source_stands d n at_three spec s.kind s.call)
action_stands d n place (Child parent slot spec) h = let s = moved (λ o. IsChild o spec) place (nth 3) d h.3 in source_stands d n (place ++ nth 3 ∷ []) spec s.kind s.call
action_stands d n place (Destroy slot) h = none_stands d
action_stands d n place (SetReady slot us) h = none_stands d
action_stands d n place (SetPriority slot priority) h = none_stands d
action_stands d n place (Iterate context) h = below_stands d n sorts.Context place (nth 1) context h.1
action_stands d n place (Pending context) h = below_stands d n sorts.Context place (nth 1) context h.1
action_stands d n place (Run loop) h = below_stands d n sorts.Loop place (nth 1) loop h.1
action_stands d n place (Quit loop) h = below_stands d n sorts.Loop place (nth 1) loop h.1
action_stands d n place (Cancel c) h = below_stands d n sorts.Cancellable place (nth 1) c h.1
action_stands d n place (Connect c slot proc) h = both_stand d (missing n sorts.Cancellable (one place) c) (missing n sorts.Proc (place ++ nth 3 ∷ []) proc) (below_stands d n sorts.Cancellable place (nth 1) c h.1) (below_stands d n sorts.Proc place (nth 3) proc h.3)
action_stands d n place (Disconnect slot) h = none_stands d
action_stands d n place (Task t) h = task_stands d n (one place) t (moved (λ o. IsTask o t) place (nth 1) d h.1)
action_stands d n place (Push context) h = below_stands d n sorts.Context place (nth 1) context h.1
action_stands d n place (Pop context) h = below_stands d n sorts.Context place (nth 1) context h.1
action_stands d n place ShowDefault h = none_stands d
action_stands d n place (Acquire context) h = below_stands d n sorts.Context place (nth 1) context h.1
action_stands d n place (Release context) h = below_stands d n sorts.Context place (nth 1) context h.1
action_stands d n place (Invoke context proc) h = both_stand d (missing n sorts.Context (one place) context) (missing n sorts.Proc (place ++ nth 2 ∷ []) proc) (below_stands d n sorts.Context place (nth 1) context h.1) (below_stands d n sorts.Proc place (nth 2) proc h.2)
action_stands d n place (Give context lane) h = both_stand d (missing n sorts.Context (one place) context) (missing n sorts.Lane (place ++ nth 2 ∷ []) lane) (below_stands d n sorts.Context place (nth 1) context h.1) (below_stands d n sorts.Lane place (nth 2) lane h.2)
action_stands d n place (Log k) h = none_stands d

-- ---- which rule an action breaks
there_is : (s : Step) (o : Option Data) (x : Data) → option_and_then (stepped s) o ≡ Some x → (e : Data) × (o ≡ Some e)
there_is s None x h = absurd (cc)
there_is s (Some e) x h = (e, refl)

connected_stands : (d : Data) (place : List Step) (e : Data) (o : Option ℕ) → at_place place d ≡ Some e → AllStand d (connected place o)
connected_stands d place e None h = none_stands d
connected_stands d place e (Some k) h = one_stands d place index (NotPlain k) e h tt

task_is_there : (d : Data) (place : List Step) (t : TaskSpec) → IsTask (at_place place d) t → AllStand d (fault place (an task) Unchecked)
task_is_there d place t h = let (e, is) = there_is (under (codes "call")) (at_place place d) (number (unsigned t.call)) h.call in one_stands d place (an task) Unchecked e is tt

broken_stands : (d : Data) (procs : List Proc) (place : List Step) (a : Action) → IsAction (at_place place d) a → AllStand d (action_broken procs place a)
broken_stands d procs place (Connect c slot proc) h = connected_stands d (place ++ nth 3 ∷ []) (number (unsigned proc)) (first_not_plain 0 (actions_of_proc (slice_get procs proc))) (moved (λ o. IsWhole o proc) place (nth 3) d h.3)
broken_stands d procs place (Invoke context proc) h = where_stands d (keeps (slice_get procs proc) 1) (fault (place ++ nth 2 ∷ []) index Stays) (one_stands d (place ++ nth 2 ∷ []) index Stays (number (unsigned proc)) (moved (λ o. IsWhole o proc) place (nth 2) d h.2) tt)
broken_stands d procs place (Task t) h = unless_stands d (t.check || not t.return_on_cancel) (fault (one place) (an task) Unchecked) (λ e. task_is_there d (one place) t (moved (λ o. IsTask o t) place (nth 1) d h.1))
broken_stands d procs place (Attach context slot spec) h = none_stands d
broken_stands d procs place (Child parent slot spec) h = none_stands d
broken_stands d procs place (Destroy slot) h = none_stands d
broken_stands d procs place (SetReady slot us) h = none_stands d
broken_stands d procs place (SetPriority slot priority) h = none_stands d
broken_stands d procs place (Iterate context) h = none_stands d
broken_stands d procs place (Pending context) h = none_stands d
broken_stands d procs place (Run loop) h = none_stands d
broken_stands d procs place (Quit loop) h = none_stands d
broken_stands d procs place (Cancel c) h = none_stands d
broken_stands d procs place (Disconnect slot) h = none_stands d
broken_stands d procs place (Push context) h = none_stands d
broken_stands d procs place (Pop context) h = none_stands d
broken_stands d procs place ShowDefault h = none_stands d
broken_stands d procs place (Acquire context) h = none_stands d
broken_stands d procs place (Release context) h = none_stands d
broken_stands d procs place (Give context lane) h = none_stands d
broken_stands d procs place (Log k) h = none_stands d

-- ---- lists
-- the items from the k-th on
abbrev left : ℕ → Items → Items
left zero ds = ds
left (suc k) no_items = no_items
left (suc k) (item d ds) = left k ds

left_item : (k : ℕ) (all : Items) (d : Data) (ds : Items) → left k all ≡ item d ds → (get_item k all ≡ Some d) × (left (suc k) all ≡ ds)
left_item zero no_items d ds h = absurd (cc)
left_item zero (item e es) d ds h = (cc, cc)
left_item (suc k) no_items d ds h = absurd (cc)
left_item (suc k) (item e es) d ds h = left_item k es d ds h

-- faults of each item of a list at a place, whatever they are
pub record Each {X : Type 0} (d : Data) (Is : Option Data → X → Type 0) (say : ℕ → List X → List Found) (here : List Step → X → List Found) (place : List Step) : Type 0 where
  pub none : (k : ℕ) → AllStand d (say k [])
  pub more : (k : ℕ) (x : X) (xs : List X) → AllStand d (here (place ++ nth k ∷ []) x) → AllStand d (say (suc k) xs) → AllStand d (say k (x ∷ xs))
  pub each : (at : List Step) (x : X) → Is (at_place at d) x → AllStand d (here at x)

items_stand : {X : Type 0} {d : Data} {Is : Option Data → X → Type 0} {say : ℕ → List X → List Found} {here : List Step → X → List Found} {place : List Step} → Each d Is say here place → (all : Items) → at_place place d ≡ Some (array all) → (k : ℕ) (ds : Items) (xs : List X) → left k all ≡ ds → EachIs Is ds xs → AllStand d (say k xs)
items_stand e all at k no_items [] h i = e.none k
items_stand e all at k no_items (x ∷ xs) h i = absurd i
items_stand e all at k (item v ds) [] h i = absurd i
items_stand {d = d} {Is = Is} {place = place} e all at k (item v ds) (x ∷ xs) h i =
    let (got, rest) = left_item k all v ds h in
    let there : at_place (place ++ nth k ∷ []) d ≡ Some v = further place (nth k) d ∙ ap (option_and_then (stepped (nth k))) at ∙ got in
    e.more k x xs (e.each (place ++ nth k ∷ []) x (subst (λ o. Is o x) (sym there) i.0)) (items_stand e all at (suc k) ds xs rest i.1)

list_stands : {X : Type 0} {d : Data} {Is : Option Data → X → Type 0} {say : ℕ → List X → List Found} {here : List Step → X → List Found} {place : List Step} → Each d Is say here place → (xs : List X) → IsList Is (at_place place d) xs → AllStand d (say 0 xs)
list_stands e xs (ds, at, i) = items_stand e ds at 0 ds xs refl i

actions_each : (d : Data) (n : Counts) (procs : List Proc) (place : List Step) → Each d IsAction (in_actions n procs place) (λ at a. action_missing n at a ++ action_broken procs at a) place
actions_each d n procs place = record {
  none = λ k. none_stands d;
  more = λ k a rest h r. both_stand d (action_missing n (place ++ nth k ∷ []) a ++ action_broken procs (place ++ nth k ∷ []) a) (in_actions n procs place (suc k) rest) h r;
  each = λ at a h. both_stand d (action_missing n at a) (action_broken procs at a) (action_stands d n at a h) (broken_stands d procs at a h);
}

actions_stand : (d : Data) (n : Counts) (procs : List Proc) (place : List Step) (actions : List Action) → IsList IsAction (at_place place d) actions → AllStand d (in_actions n procs place 0 actions)
actions_stand d n procs place actions h = list_stands (actions_each d n procs place) actions h

lanes_each : (d : Data) (n : Counts) (procs : List Proc) → Each d IsLane (in_lanes n procs) (λ at l. in_actions n procs (at ++ under (codes "start") ∷ []) 0 l.start) (under (codes "lanes") ∷ [])
lanes_each d n procs = record {
  none = λ k. none_stands d;
  more = λ k l rest h r. both_stand d (in_actions n procs (under (codes "lanes") ∷ nth k ∷ under (codes "start") ∷ []) 0 l.start) (in_lanes n procs (suc k) rest) h r;
  each = λ at l h. actions_stand d n procs (at ++ under (codes "start") ∷ []) l.start (moved (λ o. IsList IsAction o l.start) at (under (codes "start")) d h.start);
}

procs_each : (d : Data) (n : Counts) (procs : List Proc) → Each d IsProc (in_procs n procs) (λ at q. in_actions n procs (at ++ under (codes "do") ∷ []) 0 q.actions) (under (codes "procs") ∷ [])
procs_each d n procs = record {
  none = λ k. none_stands d;
  more = λ k q rest h r. both_stand d (in_actions n procs (under (codes "procs") ∷ nth k ∷ under (codes "do") ∷ []) 0 q.actions) (in_procs n procs (suc k) rest) h r;
  each = λ at q h. actions_stand d n procs (at ++ under (codes "do") ∷ []) q.actions (moved (λ o. IsList IsAction o q.actions) at (under (codes "do")) d h.actions);
}

loops_each : (d : Data) (n : Counts) → Each d IsWhole (in_loops n) (λ at c. missing n sorts.Context at c) (under (codes "loops") ∷ [])
loops_each d n = record {
  none = λ k. none_stands d;
  more = λ k c rest h r. both_stand d (missing n sorts.Context (under (codes "loops") ∷ nth k ∷ []) c) (in_loops n (suc k) rest) h r;
  each = λ at c h. number_stands d n sorts.Context at c h;
}

-- ---- descriptors
pairs_stand : (d : Data) (place : List Step) (all : Items) → at_place place d ≡ Some (array all) → (before k : ℕ) (ds : Items) (ls : List Level) → left k all ≡ ds → EachIs IsLevel ds ls → AllStand d (not_above place before k ls)
pairs_stand d place all at before k no_items [] h i = none_stands d
pairs_stand d place all at before k no_items (l ∷ ls) h i = absurd i
pairs_stand d place all at before k (item v ds) [] h i = absurd i
pairs_stand d place all at before k (item v ds) (l ∷ ls) h i =
    let (got, rest) = left_item k all v ds h in
    let there : at_place (place ++ nth k ∷ []) d ≡ Some v = further place (nth k) d ∙ ap (option_and_then (stepped (nth k))) at ∙ got in
    both_stand d (cond (nat_lt before l.tick) [] (fault (place ++ nth k ∷ []) pair (NotAbove before))) (not_above place l.tick (suc k) ls)
    (unless_stands d (nat_lt before l.tick) (fault (place ++ nth k ∷ []) pair (NotAbove before)) (λ e. one_stands d (place ++ nth k ∷ []) pair (NotAbove before) v there tt))
    (pairs_stand d place all at l.tick (suc k) ds ls rest i.1)

rising_from : (d : Data) (place : List Step) (ds : Items) (ls : List Level) → at_place place d ≡ Some (array ds) → EachIs IsLevel ds ls → AllStand d (not_rising place ls)
rising_from d place ds [] at i = none_stands d
rising_from d place no_items (l ∷ ls) at i = absurd i
rising_from d place (item v ds) (l ∷ ls) at i = pairs_stand d place (item v ds) at l.tick 1 ds ls refl i.1

rising_stands : (d : Data) (place : List Step) (ls : List Level) → IsList IsLevel (at_place place d) ls → AllStand d (not_rising place ls)
rising_stands d place ls (ds, at, i) = rising_from d place ds ls at i

fds_each : (d : Data) → Each d (IsList IsLevel) in_fds (λ at f. not_rising at f) (under (codes "fds") ∷ [])
fds_each d = record {
  none = λ k. none_stands d;
  more = λ k f rest h r. both_stand d (not_rising (under (codes "fds") ∷ nth k ∷ []) f) (in_fds (suc k) rest) h r;
  each = λ at f h. rising_stands d at f h;
}

-- ---- the whole script
at_key : (k : List ℕ) (d : Data) → at_place (under k ∷ []) d ≡ says.under k (Some d)
at_key k d = further [] (under k) d

or_none : {X : Type 0} {d : Data} {Is : Option Data → X → Type 0} {say : ℕ → List X → List Found} {here : List Step → X → List Found} {place : List Step} → Each d Is say here place → (o : Option Data) (xs : List X) → at_place place d ≡ o → Or [] (IsList Is) o xs → AllStand d (say 0 xs)
or_none {d = d} {say = say} e None xs at h = subst (λ ys. AllStand d (say 0 ys)) (sym h) (e.none 0)
or_none {Is = Is} e (Some v) xs at h = list_stands e xs (subst (λ o. IsList Is o xs) (sym at) h)

pub places_lead : PlacesLead
unfolding plan_faults
places_lead d p h =
    let n = counts_of p in
    let lanes = in_lanes n p.procs 0 p.lanes in
    let fds = in_fds 0 p.fds in
    let loops = in_loops n 0 p.loops in
    both_stand d (lanes ++ fds ++ loops) (in_procs n p.procs 0 p.procs)
    (both_stand d (lanes ++ fds) loops
    (both_stand d lanes fds (list_stands (lanes_each d n p.procs) p.lanes (subst (λ o. IsList IsLane o p.lanes) (sym (at_key (codes "lanes") d)) h.lanes)) (or_none (fds_each d) (says.under (codes "fds") (Some d)) p.fds (at_key (codes "fds") d) h.fds))
    (or_none (loops_each d n) (says.under (codes "loops") (Some d)) p.loops (at_key (codes "loops") d) h.loops))
    (or_none (procs_each d n p.procs) (says.under (codes "procs") (Some d)) p.procs (at_key (codes "procs") d) h.procs)
