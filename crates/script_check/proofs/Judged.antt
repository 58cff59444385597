-- The faults of references and of rules are there exactly where a script does not refer or does not keep the rules.
use Rattle.std.proofs.Common.{◌≡◌, refl, ap, ◌∙◌, ℕ, suc, Bool, true, false, not, cond, ◌&&◌, ◌||◌, List, [], ◌∷◌, ◌++◌, Option, Some, None, arith, codes}
use Rattle.std.specs.Prelude.{nat_lt, slice_get}
use Rattle.std.specs.List.{list_all}
use Rattle.std.proofs.lemmas.Bool.Decides.{nat_tests}
use Rattle.std.proofs.lemmas.List.Folds.{list_any-append}
use Rattle.loop_script.specs.Form.{Form, an, pair, task}
use Rattle.loop_script.specs.Tables.{index}
use Rattle.loop_script.specs.Level.{rises}
use Rattle.loop_script.specs.Parts.{actions_of_proc, keeps}
use Rattle.loop_script.specs.References.{sizes, option_refers, kind_refers, source_refers, task_refers, action_refers, plan_refers}
use Rattle.loop_script.specs.Rules.{is_plain, action_rules, plan_rules}
use Rattle.loop_script.specs.declared.action.Action.{Action}
use Rattle.loop_script.specs.declared.action.Action.TheVariants.{Attach, Child, Destroy, SetReady, SetPriority, Iterate, Pending, Run, Quit, Cancel, Connect, Disconnect, Task, Push, Pop, ShowDefault, Acquire, Release, Invoke, Give, Log}
use Rattle.loop_script.specs.declared.source.Kind.{Kind}
use Rattle.loop_script.specs.declared.source.Kind.TheVariants as kinds
use Rattle.loop_script.specs.declared.source.SourceSpec.{SourceSpec}
use Rattle.loop_script.specs.declared.task.TaskSpec.{TaskSpec}
use Rattle.loop_script.specs.declared.level.Level.{Level}
use Rattle.loop_script.specs.declared.plan.LaneSpec.{LaneSpec}
use Rattle.loop_script.specs.declared.plan.Proc.{Proc}
use Rattle.loop_script.specs.declared.plan.Plan.{Plan}
use Rattle.script_check.specs.declared.fault.Cause.{Cause}
use Rattle.script_check.specs.declared.fault.Cause.TheVariants.{Missing, NotAbove, NotPlain, Stays, Unchecked}
use Rattle.script_check.specs.declared.counts.Counts.{Counts}
use Rattle.script_check.specs.declared.counts.Sort.{Sort}
use Rattle.script_check.specs.declared.counts.Sort.TheVariants as sorts
use Rattle.script_check.specs.Found.{Step, under, nth, Found}
use Rattle.script_check.specs.PlanFaults.{counts_of, count, fault, missing, option_missing, kind_missing, source_missing, task_missing, action_missing, first_not_plain, connected, action_broken, not_above, not_rising, in_actions, in_lanes, in_procs, in_loops, in_fds, plan_faults}
use Rattle.script_check.specs.Laws.{has, is_reference, is_rule}

-- ---- truths
both_has : (test : Cause → Bool) (xs ys : List Found) (a b : Bool) → has test xs ≡ a → has test ys ≡ b → has test (xs ++ ys) ≡ (a || b)
both_has test xs ys a b e f = list_any-append (λ x. test x.cause) xs ys ∙ ap (λ c. c || has test ys) e ∙ ap (λ c. a || c) f

nots : (a b : Bool) → (not a || not b) ≡ not (a && b)
nots true b = refl
nots false b = refl

both_not : (test : Cause → Bool) (xs ys : List Found) (a b : Bool) → has test xs ≡ not a → has test ys ≡ not b → has test (xs ++ ys) ≡ not (a && b)
both_not test xs ys a b e f = both_has test xs ys (not a) (not b) e f ∙ nots a b

or_none : (a : Bool) → (a || false) ≡ a
or_none true = refl
or_none false = refl

first_alone : (test : Cause → Bool) (xs ys : List Found) (a : Bool) → has test xs ≡ a → has test ys ≡ false → has test (xs ++ ys) ≡ a
first_alone test xs ys a e f = both_has test xs ys a false e f ∙ or_none a

second_alone : (test : Cause → Bool) (xs ys : List Found) (b : Bool) → has test xs ≡ false → has test ys ≡ b → has test (xs ++ ys) ≡ b
second_alone test xs ys b e f = both_has test xs ys false b e f

one_has : (test : Cause → Bool) (place : List Step) (f : Form) (c : Cause) → test c ≡ true → has test (fault place f c) ≡ true
one_has test place f c e = ap (λ b. b || false) e

one_lacks : (test : Cause → Bool) (place : List Step) (f : Form) (c : Cause) → test c ≡ false → has test (fault place f c) ≡ false
one_lacks test place f c e = ap (λ b. b || false) e

-- ---- a number
unless_has : (b : Bool) (x : List Found) (test : Cause → Bool) → has test x ≡ true → has test (cond b [] x) ≡ not b
unless_has true x test e = refl
unless_has false x test e = e

unless_lacks : (b : Bool) (x : List Found) (test : Cause → Bool) → has test x ≡ false → has test (cond b [] x) ≡ false
unless_lacks true x test e = refl
unless_lacks false x test e = e

number_refers : (n : Counts) (s : Sort) (place : List Step) (k : ℕ) → has is_reference (missing n s place k) ≡ not (nat_lt k (count n s))
number_refers n s place k = unless_has (nat_lt k (count n s)) (fault place index (Missing (count n s))) is_reference refl

number_rules : (test : Cause → Bool) → ((k : ℕ) → test (Missing k) ≡ false) → (n : Counts) (s : Sort) (place : List Step) (k : ℕ) → has test (missing n s place k) ≡ false
number_rules test e n s place k = unless_lacks (nat_lt k (count n s)) (fault place index (Missing (count n s))) test (one_lacks test place index (Missing (count n s)) (e (count n s)))

option_refers_so : (n : Counts) (s : Sort) (place : List Step) (o : Option ℕ) → has is_reference (option_missing n s place o) ≡ not (option_refers (count n s) o)
option_refers_so n s place None = refl
option_refers_so n s place (Some k) = number_refers n s place k

option_rules : (test : Cause → Bool) → ((k : ℕ) → test (Missing k) ≡ false) → (n : Counts) (s : Sort) (place : List Step) (o : Option ℕ) → has test (option_missing n s place o) ≡ false
option_rules test e n s place None = refl
option_rules test e n s place (Some k) = number_rules test e n s place k

-- ---- what an action names
kind_refers_so : (p : Plan) (place : List Step) (k : Kind) → has is_reference (kind_missing (counts_of p) place k) ≡ not (kind_refers (sizes p) k)
kind_refers_so p place kinds.Idle = refl
kind_refers_so p place (kinds.Timeout ms) = refl
kind_refers_so p place (kinds.ReadyTime us) = refl
kind_refers_so p place (kinds.Fd fd bits) = number_refers (counts_of p) sorts.Descriptor (place ++ nth 1 ∷ []) fd
kind_refers_so p place (kinds.Cancel c) = number_refers (counts_of p) sorts.Cancellable (place ++ nth 1 ∷ []) c

kind_rules : (test : Cause → Bool) → ((k : ℕ) → test (Missing k) ≡ false) → (n : Counts) (place : List Step) (k : Kind) → has test (kind_missing n place k) ≡ false
kind_rules test e n place kinds.Idle = refl
kind_rules test e n place (kinds.Timeout ms) = refl
kind_rules test e n place (kinds.ReadyTime us) = refl
kind_rules test e n place (kinds.Fd fd bits) = number_rules test e n sorts.Descriptor (place ++ nth 1 ∷ []) fd
kind_rules test e n place (kinds.Cancel c) = number_rules test e n sorts.Cancellable (place ++ nth 1 ∷ []) c

source_refers_so : (p : Plan) (place : List Step) (s : SourceSpec) → has is_reference (source_missing (counts_of p) place s) ≡ not (source_refers (sizes p) s)
source_refers_so p place s =
    both_not is_reference (option_missing (counts_of p) sorts.Proc (place ++ under (codes "call") ∷ []) s.call) (kind_missing (counts_of p) (place ++ under (codes "kind") ∷ []) s.kind) (option_refers (sizes p).procs s.call) (kind_refers (sizes p) s.kind) (option_refers_so (counts_of p) sorts.Proc (place ++ under (codes "call") ∷ []) s.call) (kind_refers_so p (place ++ under (codes "kind") ∷ []) s.kind)

source_rules : (test : Cause → Bool) → ((k : ℕ) → test (Missing k) ≡ false) → (n : Counts) (place : List Step) (s : SourceSpec) → has test (source_missing n place s) ≡ false
source_rules test e n place s = second_alone test (option_missing n sorts.Proc (place ++ under (codes "call") ∷ []) s.call) (kind_missing n (place ++ under (codes "kind") ∷ []) s.kind) false (option_rules test e n sorts.Proc (place ++ under (codes "call") ∷ []) s.call) (kind_rules test e n (place ++ under (codes "kind") ∷ []) s.kind)

task_refers_so : (p : Plan) (place : List Step) (t : TaskSpec) → has is_reference (task_missing (counts_of p) place t) ≡ not (task_refers (sizes p) t)
task_refers_so p place t =
    both_not is_reference (missing (counts_of p) sorts.Proc (place ++ under (codes "call") ∷ []) t.call) (option_missing (counts_of p) sorts.Cancellable (place ++ under (codes "cancel") ∷ []) t.cancel) (nat_lt t.call (sizes p).procs) (option_refers (sizes p).cancellables t.cancel) (number_refers (counts_of p) sorts.Proc (place ++ under (codes "call") ∷ []) t.call) (option_refers_so (counts_of p) sorts.Cancellable (place ++ under (codes "cancel") ∷ []) t.cancel)

task_rules : (test : Cause → Bool) → ((k : ℕ) → test (Missing k) ≡ false) → (n : Counts) (place : List Step) (t : TaskSpec) → has test (task_missing n place t) ≡ false
task_rules test e n place t = second_alone test (missing n sorts.Proc (place ++ under (codes "call") ∷ []) t.call) (option_missing n sorts.Cancellable (place ++ under (codes "cancel") ∷ []) t.cancel) false (number_rules test e n sorts.Proc (place ++ under (codes "call") ∷ []) t.call) (option_rules test e n sorts.Cancellable (place ++ under (codes "cancel") ∷ []) t.cancel)

names_refer : (p : Plan) (place : List Step) (a : Action) → has is_reference (action_missing (counts_of p) place a) ≡ not (action_refers (sizes p) a)
names_refer p place (Attach context slot spec) = both_not is_reference (missing (counts_of p) sorts.Context (place ++ nth 1 ∷ []) context) (source_missing (counts_of p) (place ++ nth 3 ∷ []) spec) (nat_lt context (sizes p).contexts) (source_refers (sizes p) spec) (number_refers (counts_of p) sorts.Context (place ++ nth 1 ∷ []) context) (source_refers_so p (place ++ nth 3 ∷ []) spec)
names_refer p place (Child parent slot spec) = source_refers_so p (place ++ nth 3 ∷ []) spec
names_refer p place (Destroy slot) = refl
names_refer p place (SetReady slot us) = refl
names_refer p place (SetPriority slot priority) = refl
names_refer p place (Iterate context) = number_refers (counts_of p) sorts.Context (place ++ nth 1 ∷ []) context
names_refer p place (Pending context) = number_refers (counts_of p) sorts.Context (place ++ nth 1 ∷ []) context
names_refer p place (Run loop) = number_refers (counts_of p) sorts.Loop (place ++ nth 1 ∷ []) loop
names_refer p place (Quit loop) = number_refers (counts_of p) sorts.Loop (place ++ nth 1 ∷ []) loop
names_refer p place (Cancel c) = number_refers (counts_of p) sorts.Cancellable (place ++ nth 1 ∷ []) c
names_refer p place (Connect c slot proc) = both_not is_reference (missing (counts_of p) sorts.Cancellable (place ++ nth 1 ∷ []) c) (missing (counts_of p) sorts.Proc (place ++ nth 3 ∷ []) proc) (nat_lt c (sizes p).cancellables) (nat_lt proc (sizes p).procs) (number_refers (counts_of p) sorts.Cancellable (place ++ nth 1 ∷ []) c) (number_refers (counts_of p) sorts.Proc (place ++ nth 3 ∷ []) proc)
names_refer p place (Disconnect slot) = refl
names_refer p place (Task t) = task_refers_so p (place ++ nth 1 ∷ []) t
names_refer p place (Push context) = number_refers (counts_of p) sorts.Context (place ++ nth 1 ∷ []) context
names_refer p place (Pop context) = number_refers (counts_of p) sorts.Context (place ++ nth 1 ∷ []) context
names_refer p place ShowDefault = refl
names_refer p place (Acquire context) = number_refers (counts_of p) sorts.Context (place ++ nth 1 ∷ []) context
names_refer p place (Release context) = number_refers (counts_of p) sorts.Context (place ++ nth 1 ∷ []) context
names_refer p place (Invoke context proc) = both_not is_reference (missing (counts_of p) sorts.Context (place ++ nth 1 ∷ []) context) (missing (counts_of p) sorts.Proc (place ++ nth 2 ∷ []) proc) (nat_lt context (sizes p).contexts) (nat_lt proc (sizes p).procs) (number_refers (counts_of p) sorts.Context (place ++ nth 1 ∷ []) context) (number_refers (counts_of p) sorts.Proc (place ++ nth 2 ∷ []) proc)
names_refer p place (Give context lane) = both_not is_reference (missing (counts_of p) sorts.Context (place ++ nth 1 ∷ []) context) (missing (counts_of p) sorts.Lane (place ++ nth 2 ∷ []) lane) (nat_lt context (sizes p).contexts) (nat_lt lane (sizes p).lanes) (number_refers (counts_of p) sorts.Context (place ++ nth 1 ∷ []) context) (number_refers (counts_of p) sorts.Lane (place ++ nth 2 ∷ []) lane)
names_refer p place (Log k) = refl

names_rule : (test : Cause → Bool) → ((k : ℕ) → test (Missing k) ≡ false) → (n : Counts) (place : List Step) (a : Action) → has test (action_missing n place a) ≡ false
names_rule test e n place (Attach context slot spec) = second_alone test (missing n sorts.Context (place ++ nth 1 ∷ []) context) (source_missing n (place ++ nth 3 ∷ []) spec) false (number_rules test e n sorts.Context (place ++ nth 1 ∷ []) context) (source_rules test e n (place ++ nth 3 ∷ []) spec)
names_rule test e n place (Child parent slot spec) = source_rules test e n (place ++ nth 3 ∷ []) spec
names_rule test e n place (Destroy slot) = refl
names_rule test e n place (SetReady slot us) = refl
names_rule test e n place (SetPriority slot priority) = refl
names_rule test e n place (Iterate context) = number_rules test e n sorts.Context (place ++ nth 1 ∷ []) context
names_rule test e n place (Pending context) = number_rules test e n sorts.Context (place ++ nth 1 ∷ []) context
names_rule test e n place (Run loop) = number_rules test e n sorts.Loop (place ++ nth 1 ∷ []) loop
names_rule test e n place (Quit loop) = number_rules test e n sorts.Loop (place ++ nth 1 ∷ []) loop
names_rule test e n place (Cancel c) = number_rules test e n sorts.Cancellable (place ++ nth 1 ∷ []) c
names_rule test e n place (Connect c slot proc) = second_alone test (missing n sorts.Cancellable (place ++ nth 1 ∷ []) c) (missing n sorts.Proc (place ++ nth 3 ∷ []) proc) false (number_rules test e n sorts.Cancellable (place ++ nth 1 ∷ []) c) (number_rules test e n sorts.Proc (place ++ nth 3 ∷ []) proc)
names_rule test e n place (Disconnect slot) = refl
names_rule test e n place (Task t) = task_rules test e n (place ++ nth 1 ∷ []) t
names_rule test e n place (Push context) = number_rules test e n sorts.Context (place ++ nth 1 ∷ []) context
names_rule test e n place (Pop context) = number_rules test e n sorts.Context (place ++ nth 1 ∷ []) context
names_rule test e n place ShowDefault = refl
names_rule test e n place (Acquire context) = number_rules test e n sorts.Context (place ++ nth 1 ∷ []) context
names_rule test e n place (Release context) = number_rules test e n sorts.Context (place ++ nth 1 ∷ []) context
names_rule test e n place (Invoke context proc) = second_alone test (missing n sorts.Context (place ++ nth 1 ∷ []) context) (missing n sorts.Proc (place ++ nth 2 ∷ []) proc) false (number_rules test e n sorts.Context (place ++ nth 1 ∷ []) context) (number_rules test e n sorts.Proc (place ++ nth 2 ∷ []) proc)
names_rule test e n place (Give context lane) = second_alone test (missing n sorts.Context (place ++ nth 1 ∷ []) context) (missing n sorts.Lane (place ++ nth 2 ∷ []) lane) false (number_rules test e n sorts.Context (place ++ nth 1 ∷ []) context) (number_rules test e n sorts.Lane (place ++ nth 2 ∷ []) lane)
names_rule test e n place (Log k) = refl

-- ---- which rule an action breaks
-- a class that has no fault of a rule
pub record Lacks (test : Cause → Bool) : Type 0 where
  pub above : (tick : ℕ) → test (NotAbove tick) ≡ false
  pub plain : (k : ℕ) → test (NotPlain k) ≡ false
  pub stays : test Stays ≡ false
  pub unchecked : test Unchecked ≡ false

no_reference : Lacks is_reference
no_reference = record { above = λ tick. refl; plain = λ k. refl; stays = refl; unchecked = refl }

plain_by : (place : List Step) (k : ℕ) (rest : List Action) (b : Bool) → has is_rule (connected place (first_not_plain (suc k) rest)) ≡ not (list_all is_plain rest) → has is_rule (connected place (cond b (first_not_plain (suc k) rest) (Some k))) ≡ not (b && list_all is_plain rest)
plain_by place k rest true e = e
plain_by place k rest false e = refl

plain_rules : (place : List Step) (k : ℕ) (actions : List Action) → has is_rule (connected place (first_not_plain k actions)) ≡ not (list_all is_plain actions)
plain_rules place k [] = refl
plain_rules place k (a ∷ rest) = plain_by place k rest (is_plain a) (plain_rules place (suc k) rest)

plain_refers : (test : Cause → Bool) → Lacks test → (place : List Step) (o : Option ℕ) → has test (connected place o) ≡ false
plain_refers test h place None = refl
plain_refers test h place (Some k) = one_lacks test place index (NotPlain k) (h.plain k)

where_has : (b : Bool) (x : List Found) (test : Cause → Bool) → has test x ≡ true → has test (cond b x []) ≡ not (not b)
where_has true x test e = e
where_has false x test e = refl

where_lacks : (b : Bool) (x : List Found) (test : Cause → Bool) → has test x ≡ false → has test (cond b x []) ≡ false
where_lacks true x test e = e
where_lacks false x test e = refl

broken_rules : (procs : List Proc) (place : List Step) (a : Action) → has is_rule (action_broken procs place a) ≡ not (action_rules procs a)
broken_rules procs place (Connect c slot proc) = plain_rules (place ++ nth 3 ∷ []) 0 (actions_of_proc (slice_get procs proc))
broken_rules procs place (Invoke context proc) = where_has (keeps (slice_get procs proc) 1) (fault (place ++ nth 2 ∷ []) index Stays) is_rule refl
broken_rules procs place (Task t) = unless_has (t.check || not t.return_on_cancel) (fault (place ++ nth 1 ∷ []) (an task) Unchecked) is_rule refl
broken_rules procs place (Attach context slot spec) = refl
broken_rules procs place (Child parent slot spec) = refl
broken_rules procs place (Destroy slot) = refl
broken_rules procs place (SetReady slot us) = refl
broken_rules procs place (SetPriority slot priority) = refl
broken_rules procs place (Iterate context) = refl
broken_rules procs place (Pending context) = refl
broken_rules procs place (Run loop) = refl
broken_rules procs place (Quit loop) = refl
broken_rules procs place (Cancel c) = refl
broken_rules procs place (Disconnect slot) = refl
broken_rules procs place (Push context) = refl
broken_rules procs place (Pop context) = refl
broken_rules procs place ShowDefault = refl
broken_rules procs place (Acquire context) = refl
broken_rules procs place (Release context) = refl
broken_rules procs place (Give context lane) = refl
broken_rules procs place (Log k) = refl

broken_refers : (test : Cause → Bool) → Lacks test → (procs : List Proc) (place : List Step) (a : Action) → has test (action_broken procs place a) ≡ false
broken_refers test h procs place (Connect c slot proc) = plain_refers test h (place ++ nth 3 ∷ []) (first_not_plain 0 (actions_of_proc (slice_get procs proc)))
broken_refers test h procs place (Invoke context proc) = where_lacks (keeps (slice_get procs proc) 1) (fault (place ++ nth 2 ∷ []) index Stays) test (one_lacks test (place ++ nth 2 ∷ []) index Stays h.stays)
broken_refers test h procs place (Task t) = unless_lacks (t.check || not t.return_on_cancel) (fault (place ++ nth 1 ∷ []) (an task) Unchecked) test (one_lacks test (place ++ nth 1 ∷ []) (an task) Unchecked h.unchecked)
broken_refers test h procs place (Attach context slot spec) = refl
broken_refers test h procs place (Child parent slot spec) = refl
broken_refers test h procs place (Destroy slot) = refl
broken_refers test h procs place (SetReady slot us) = refl
broken_refers test h procs place (SetPriority slot priority) = refl
broken_refers test h procs place (Iterate context) = refl
broken_refers test h procs place (Pending context) = refl
broken_refers test h procs place (Run loop) = refl
broken_refers test h procs place (Quit loop) = refl
broken_refers test h procs place (Cancel c) = refl
broken_refers test h procs place (Disconnect slot) = refl
broken_refers test h procs place (Push context) = refl
broken_refers test h procs place (Pop context) = refl
broken_refers test h procs place ShowDefault = refl
broken_refers test h procs place (Acquire context) = refl
broken_refers test h procs place (Release context) = refl
broken_refers test h procs place (Give context lane) = refl
broken_refers test h procs place (Log k) = refl

-- ---- lists
-- the faults of an action are of a class exactly where it is not so
abbrev Say : (Cause → Bool) → (Action → Bool) → Counts → List Proc → Type 0
Say test good n procs = (place : List Step) (a : Action) → has test (action_missing n place a ++ action_broken procs place a) ≡ not (good a)

actions_say : (test : Cause → Bool) (good : Action → Bool) (n : Counts) (procs : List Proc) → Say test good n procs → (place : List Step) (k : ℕ) (actions : List Action) → has test (in_actions n procs place k actions) ≡ not (list_all good actions)
actions_say test good n procs h place k [] = refl
actions_say test good n procs h place k (a ∷ rest) = both_not test (action_missing n (place ++ nth k ∷ []) a ++ action_broken procs (place ++ nth k ∷ []) a) (in_actions n procs place (suc k) rest) (good a) (list_all good rest) (h (place ++ nth k ∷ []) a) (actions_say test good n procs h place (suc k) rest)

lanes_say : (test : Cause → Bool) (good : Action → Bool) (n : Counts) (procs : List Proc) → Say test good n procs → (k : ℕ) (lanes : List LaneSpec) → has test (in_lanes n procs k lanes) ≡ not (list_all (λ l. list_all good l.start) lanes)
lanes_say test good n procs h k [] = refl
lanes_say test good n procs h k (l ∷ rest) = both_not test (in_actions n procs (under (codes "lanes") ∷ nth k ∷ under (codes "start") ∷ []) 0 l.start) (in_lanes n procs (suc k) rest) (list_all good l.start) (list_all (λ m. list_all good m.start) rest) (actions_say test good n procs h (under (codes "lanes") ∷ nth k ∷ under (codes "start") ∷ []) 0 l.start) (lanes_say test good n procs h (suc k) rest)

procs_say : (test : Cause → Bool) (good : Action → Bool) (n : Counts) (procs : List Proc) → Say test good n procs → (k : ℕ) (some : List Proc) → has test (in_procs n procs k some) ≡ not (list_all (λ q. list_all good q.actions) some)
procs_say test good n procs h k [] = refl
procs_say test good n procs h k (q ∷ rest) = both_not test (in_actions n procs (under (codes "procs") ∷ nth k ∷ under (codes "do") ∷ []) 0 q.actions) (in_procs n procs (suc k) rest) (list_all good q.actions) (list_all (λ m. list_all good m.actions) rest) (actions_say test good n procs h (under (codes "procs") ∷ nth k ∷ under (codes "do") ∷ []) 0 q.actions) (procs_say test good n procs h (suc k) rest)

loops_refer : (n : Counts) (k : ℕ) (loops : List ℕ) → has is_reference (in_loops n k loops) ≡ not (list_all (λ c. nat_lt c n.contexts) loops)
loops_refer n k [] = refl
loops_refer n k (c ∷ rest) = both_not is_reference (missing n sorts.Context (under (codes "loops") ∷ nth k ∷ []) c) (in_loops n (suc k) rest) (nat_lt c n.contexts) (list_all (λ d. nat_lt d n.contexts) rest) (number_refers n sorts.Context (under (codes "loops") ∷ nth k ∷ []) c) (loops_refer n (suc k) rest)

loops_rule : (test : Cause → Bool) → ((k : ℕ) → test (Missing k) ≡ false) → (n : Counts) (k : ℕ) (loops : List ℕ) → has test (in_loops n k loops) ≡ false
loops_rule test e n k [] = refl
loops_rule test e n k (c ∷ rest) = second_alone test (missing n sorts.Context (under (codes "loops") ∷ nth k ∷ []) c) (in_loops n (suc k) rest) false (number_rules test e n sorts.Context (under (codes "loops") ∷ nth k ∷ []) c) (loops_rule test e n (suc k) rest)

-- ---- descriptors
abbrev above : ℕ → List Level → Bool
above tick ls = list_all (λ m. nat_lt tick m.tick) ls

less_less : (a b c : ℕ) → nat_lt a b ≡ true → nat_lt b c ≡ true → nat_lt a c ≡ true
less_less a b c h k = grind (arith, nat_tests)

both_true : (a b : Bool) → (a && b) ≡ true → (a ≡ true) × (b ≡ true)
both_true true b h = (refl, h)
both_true false b h = absurd (cc)

and_true : (a b : Bool) → a ≡ true → b ≡ true → (a && b) ≡ true
and_true a b h k = ap (λ c. c && b) h ∙ k

above_below : (a b : ℕ) (ls : List Level) → nat_lt a b ≡ true → above b ls ≡ true → above a ls ≡ true
above_below a b [] h k = refl
above_below a b (l ∷ ls) h k =
    let (first, rest) = both_true (nat_lt b l.tick) (above b ls) k in
    and_true (nat_lt a l.tick) (above a ls) (less_less a b l.tick h first) (above_below a b ls h rest)

in_turn : (p q r s : Bool) → (p ≡ true → r ≡ true → q ≡ true) → (not p || not (r && s)) ≡ not ((p && q) && (r && s))
in_turn false q r s h = refl
in_turn true true r s h = refl
in_turn true false true s h = absurd (let e = h refl refl in cc)
in_turn true false false s h = refl

above_rules : (place : List Step) (before k : ℕ) (ls : List Level) → has is_rule (not_above place before k ls) ≡ not (above before ls && rises ls)
above_rules place before k [] = refl
above_rules place before k (l ∷ ls) =
    both_has is_rule (cond (nat_lt before l.tick) [] (fault (place ++ nth k ∷ []) pair (NotAbove before))) (not_above place l.tick (suc k) ls) (not (nat_lt before l.tick)) (not (above l.tick ls && rises ls)) (unless_has (nat_lt before l.tick) (fault (place ++ nth k ∷ []) pair (NotAbove before)) is_rule refl) (above_rules place l.tick (suc k) ls)
    ∙ in_turn (nat_lt before l.tick) (above before ls) (above l.tick ls) (rises ls) (λ h r. above_below before l.tick ls h r)

above_refers : (test : Cause → Bool) → Lacks test → (place : List Step) (before k : ℕ) (ls : List Level) → has test (not_above place before k ls) ≡ false
above_refers test h place before k [] = refl
above_refers test h place before k (l ∷ ls) = second_alone test (cond (nat_lt before l.tick) [] (fault (place ++ nth k ∷ []) pair (NotAbove before))) (not_above place l.tick (suc k) ls) false (unless_lacks (nat_lt before l.tick) (fault (place ++ nth k ∷ []) pair (NotAbove before)) test (one_lacks test (place ++ nth k ∷ []) pair (NotAbove before) (h.above before))) (above_refers test h place l.tick (suc k) ls)

rising_rules : (place : List Step) (ls : List Level) → has is_rule (not_rising place ls) ≡ not (rises ls)
rising_rules place [] = refl
rising_rules place (l ∷ ls) = above_rules place l.tick 1 ls

rising_refers : (test : Cause → Bool) → Lacks test → (place : List Step) (ls : List Level) → has test (not_rising place ls) ≡ false
rising_refers test h place [] = refl
rising_refers test h place (l ∷ ls) = above_refers test h place l.tick 1 ls

fds_rule : (k : ℕ) (fds : List (List Level)) → has is_rule (in_fds k fds) ≡ not (list_all rises fds)
fds_rule k [] = refl
fds_rule k (f ∷ rest) = both_not is_rule (not_rising (under (codes "fds") ∷ nth k ∷ []) f) (in_fds (suc k) rest) (rises f) (list_all rises rest) (rising_rules (under (codes "fds") ∷ nth k ∷ []) f) (fds_rule (suc k) rest)

fds_refer : (test : Cause → Bool) → Lacks test → (k : ℕ) (fds : List (List Level)) → has test (in_fds k fds) ≡ false
fds_refer test h k [] = refl
fds_refer test h k (f ∷ rest) = second_alone test (not_rising (under (codes "fds") ∷ nth k ∷ []) f) (in_fds (suc k) rest) false (rising_refers test h (under (codes "fds") ∷ nth k ∷ []) f) (fds_refer test h (suc k) rest)

-- ---- the whole script
reorder : (l o q : Bool) → not ((l && o) && q) ≡ not ((l && q) && o)
reorder true true true = refl
reorder true true false = refl
reorder true false true = refl
reorder true false false = refl
reorder false o q = refl

pub plan_refers_so : (p : Plan) → has is_reference (plan_faults p) ≡ not (plan_refers p)
unfolding plan_faults
plan_refers_so p =
    let n = counts_of p in
    let good : Action → Bool = action_refers (sizes p) in
    let say : Say is_reference good n p.procs = λ place a. first_alone is_reference (action_missing n place a) (action_broken p.procs place a) (not (good a)) (names_refer p place a) (broken_refers is_reference no_reference p.procs place a) in
    let l = list_all (λ m. list_all good m.start) p.lanes in
    let o = list_all (λ c. nat_lt c n.contexts) p.loops in
    let q = list_all (λ m. list_all good m.actions) p.procs in
    both_not is_reference (in_lanes n p.procs 0 p.lanes ++ in_fds 0 p.fds ++ in_loops n 0 p.loops) (in_procs n p.procs 0 p.procs) (l && o) q
    (both_not is_reference (in_lanes n p.procs 0 p.lanes ++ in_fds 0 p.fds) (in_loops n 0 p.loops) l o (first_alone is_reference (in_lanes n p.procs 0 p.lanes) (in_fds 0 p.fds) (not l) (lanes_say is_reference good n p.procs say 0 p.lanes) (fds_refer is_reference no_reference 0 p.fds)) (loops_refer n 0 p.loops))
    (procs_say is_reference good n p.procs say 0 p.procs)
    ∙ reorder l o q

turned_round : (l f q : Bool) → not ((l && f) && q) ≡ not ((f && l) && q)
turned_round true true q = refl
turned_round true false q = refl
turned_round false true q = refl
turned_round false false q = refl

pub plan_rules_so : (p : Plan) → has is_rule (plan_faults p) ≡ not (plan_rules p)
unfolding plan_faults
plan_rules_so p =
    let n = counts_of p in
    let good : Action → Bool = action_rules p.procs in
    let say : Say is_rule good n p.procs = λ place a. second_alone is_rule (action_missing n place a) (action_broken p.procs place a) (not (good a)) (names_rule is_rule (λ k. refl) n place a) (broken_rules p.procs place a) in
    let l = list_all (λ m. list_all good m.start) p.lanes in
    let f = list_all rises p.fds in
    let q = list_all (λ m. list_all good m.actions) p.procs in
    both_not is_rule (in_lanes n p.procs 0 p.lanes ++ in_fds 0 p.fds ++ in_loops n 0 p.loops) (in_procs n p.procs 0 p.procs) (l && f) q
    (first_alone is_rule (in_lanes n p.procs 0 p.lanes ++ in_fds 0 p.fds) (in_loops n 0 p.loops) (not (l && f)) (both_not is_rule (in_lanes n p.procs 0 p.lanes) (in_fds 0 p.fds) l f (lanes_say is_rule good n p.procs say 0 p.lanes) (fds_rule 0 p.fds)) (loops_rule is_rule (λ k. refl) n 0 p.loops))
    (procs_say is_rule good n p.procs say 0 p.procs)
    ∙ turned_round l f q

all_so : (actions : List Action) → list_all (λ a. true) actions ≡ true
all_so [] = refl
all_so (a ∷ rest) = all_so rest

all_lanes : (lanes : List LaneSpec) → list_all (λ l. list_all (λ a. true) l.start) lanes ≡ true
all_lanes [] = refl
all_lanes (l ∷ rest) = and_true (list_all (λ a. true) l.start) (list_all (λ m. list_all (λ a. true) m.start) rest) (all_so l.start) (all_lanes rest)

all_procs : (procs : List Proc) → list_all (λ q. list_all (λ a. true) q.actions) procs ≡ true
all_procs [] = refl
all_procs (q ∷ rest) = and_true (list_all (λ a. true) q.actions) (list_all (λ m. list_all (λ a. true) m.actions) rest) (all_so q.actions) (all_procs rest)

-- a class that has no fault of references or rules
pub neither_so : (test : Cause → Bool) → ((k : ℕ) → test (Missing k) ≡ false) → Lacks test → (p : Plan) → has test (plan_faults p) ≡ false
unfolding plan_faults
neither_so test e h p =
    let n = counts_of p in
    let good : Action → Bool = λ a. true in
    let say : Say test good n p.procs = λ place a. second_alone test (action_missing n place a) (action_broken p.procs place a) false (names_rule test e n place a) (broken_refers test h p.procs place a) in
    second_alone test (in_lanes n p.procs 0 p.lanes ++ in_fds 0 p.fds ++ in_loops n 0 p.loops) (in_procs n p.procs 0 p.procs) false
    (second_alone test (in_lanes n p.procs 0 p.lanes ++ in_fds 0 p.fds) (in_loops n 0 p.loops) false (second_alone test (in_lanes n p.procs 0 p.lanes) (in_fds 0 p.fds) false (lanes_say test good n p.procs say 0 p.lanes ∙ ap not (all_lanes p.lanes)) (fds_refer test h 0 p.fds)) (loops_rule test e n 0 p.loops))
    (procs_say test good n p.procs say 0 p.procs ∙ ap not (all_procs p.procs))
