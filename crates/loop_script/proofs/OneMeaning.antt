-- A value denotes one script at most.
use Rattle.std.proofs.Common.{◌≡◌, refl, sym, subst, ap, ap₂, ◌∙◌, ℕ, pos, true, false, List, [], ◌∷◌, codes, Option, Some, None, option_and_then}
use Rattle.std.specs.Str.{bytes_eq}
use Rattle.std.proofs.lemmas.Slice.Eq.{bytes_eq-Decides}
use Rattle.serde_json.specs.Data.{Data, null, boolean, number, array, unsigned, Items, no_items, item}
use Rattle.loop_script.specs.Gives.{is_give}
use Rattle.loop_script.specs.Place.{front}
use Rattle.loop_script.specs.Meaning.{under, nth, IsWhole, IsInteger, IsTruth, Or, OrNull, EachIs, IsList, IsKind, usual, IsSource, IsChild, IsTree, IsTask, IsAction, IsLevel, IsProc, IsLane, Denotes}
use Rattle.loop_script.specs.Tree.{Tree, value, fail, sleep, check, seq, both, first, within}
use Rattle.loop_script.specs.declared.source.Kind.{Kind}
use Rattle.loop_script.specs.declared.source.Kind.TheVariants as kinds
use Rattle.loop_script.specs.declared.action.Action.{Action}
use Rattle.loop_script.specs.declared.action.Action.TheVariants.{Attach, Child, Destroy, SetReady, SetPriority, Iterate, Pending, Run, Quit, Cancel, Connect, Disconnect, Task, Push, Pop, ShowDefault, Acquire, Release, Invoke, Give, Log}
use Rattle.loop_script.proofs.Meets.{not_both}

-- a relation that gives one value at most
abbrev One : {A : Type 0} → (Option Data → A → Type 0) → Type 0
One {A = A} Is = (o : Option Data) (a b : A) → Is o a → Is o b → a ≡ b

one_whole : One IsWhole
one_whole o a b h k = let e : Some (number (unsigned a)) ≡ Some (number (unsigned b)) = sym h ∙ k in cc

one_integer : One IsInteger
one_integer o a b h k = let e : Some a ≡ Some b = sym h ∙ k in cc

one_truth : One IsTruth
one_truth o a b h k = let e : Some (boolean a) ≡ Some (boolean b) = sym h ∙ k in cc

one_or : {A : Type 0} (x : A) (Is : Option Data → A → Type 0) → One Is → One (Or x Is)
one_or x Is one None a b h k = h ∙ sym k
one_or x Is one (Some d) a b h k = one (Some d) a b h k

one_null : One (OrNull IsWhole)
one_null o None None h k = refl
one_null o None (Some b) h k = let e : Some null ≡ Some (number (unsigned b)) = sym h ∙ k in cc
one_null o (Some a) None h k = let e : Some null ≡ Some (number (unsigned a)) = sym k ∙ h in cc
one_null o (Some a) (Some b) h k = ap Some (one_whole o a b h k)

one_each : {A : Type 0} (Is : Option Data → A → Type 0) → One Is → (ds : Items) (xs ys : List A) → EachIs Is ds xs → EachIs Is ds ys → xs ≡ ys
one_each Is one no_items [] [] h k = refl
one_each Is one no_items [] (y ∷ ys) h k = absurd k
one_each Is one no_items (x ∷ xs) ys h k = absurd h
one_each Is one (item d ds) [] ys h k = absurd h
one_each Is one (item d ds) (x ∷ xs) [] h k = absurd k
one_each Is one (item d ds) (x ∷ xs) (y ∷ ys) h k = ap₂ (λ z zs. z ∷ zs) (one (Some d) x y h.0 k.0) (one_each Is one ds xs ys h.1 k.1)

same_array : {ds es : Items} → Some (array ds) ≡ Some (array es) → es ≡ ds
same_array p = cc

one_list : {A : Type 0} (Is : Option Data → A → Type 0) → One Is → One (IsList Is)
one_list Is one o xs ys (ds, e, h) (es, f, k) = one_each Is one ds xs ys h (subst (λ items. EachIs Is items ys) (same_array (sym e ∙ f)) k)

-- ---- two words at the front are the same
clash : (o : Option Data) (v w : List ℕ) → option_and_then front o ≡ Some v → option_and_then front o ≡ Some w → bytes_eq v w ≡ false → ⊥
clash o v w h k n = not_both ((bytes_eq-Decides v w).1 same) n
  where
    same : v ≡ w
    same = let e : Some v ≡ Some w = sym h ∙ k in cc

abbrev kind_word : Kind → List ℕ
kind_word kinds.Idle = codes "idle"
kind_word (kinds.Timeout ms) = codes "timeout"
kind_word (kinds.ReadyTime us) = codes "ready"
kind_word (kinds.Fd fd bits) = codes "fd"
kind_word (kinds.Cancel c) = codes "cancel"

kind_begins : (o : Option Data) (k : Kind) → IsKind o k → option_and_then front o ≡ Some (kind_word k)
kind_begins o kinds.Idle h = h.0
kind_begins o (kinds.Timeout ms) h = h.0.0
kind_begins o (kinds.ReadyTime us) h = h.0.0
kind_begins o (kinds.Fd fd bits) h = h.0.0
kind_begins o (kinds.Cancel c) h = h.0.0

one_kind : One IsKind
one_kind o kinds.Idle kinds.Idle h k = refl
one_kind o (kinds.Timeout a) (kinds.Timeout b) h k = ap kinds.Timeout (one_whole _ a b h.1 k.1)
one_kind o (kinds.ReadyTime a) (kinds.ReadyTime b) h k = ap kinds.ReadyTime (one_integer _ a b h.1 k.1)
one_kind o (kinds.Fd a x) (kinds.Fd b y) h k = ap₂ kinds.Fd (one_whole _ a b h.1 k.1) (one_whole _ x y h.2 k.2)
one_kind o (kinds.Cancel a) (kinds.Cancel b) h k = ap kinds.Cancel (one_whole _ a b h.1 k.1)
one_kind o a b h k = absurd (clash o (kind_word a) (kind_word b) (kind_begins o a h) (kind_begins o b k) refl)

abbrev tree_word : Tree → List ℕ
tree_word (value v) = codes "value"
tree_word fail = codes "fail"
tree_word (sleep us) = codes "sleep"
tree_word check = codes "check"
tree_word (seq a b) = codes "seq"
tree_word (both a b) = codes "both"
tree_word (first a b) = codes "first"
tree_word (within us a) = codes "within"

tree_begins : (o : Option Data) (t : Tree) → IsTree o t → option_and_then front o ≡ Some (tree_word t)
tree_begins o (value v) h = h.0.0
tree_begins o fail h = h.0
tree_begins o (sleep us) h = h.0.0
tree_begins o check h = h.0
tree_begins o (seq a b) h = h.0.0
tree_begins o (both a b) h = h.0.0
tree_begins o (first a b) h = h.0.0
tree_begins o (within us a) h = h.0.0

one_tree : (s t : Tree) (o : Option Data) → IsTree o s → IsTree o t → s ≡ t
one_tree (value a) (value b) o h k = ap value (one_integer _ a b h.1 k.1)
one_tree fail fail o h k = refl
one_tree (sleep a) (sleep b) o h k = ap sleep (one_whole _ a b h.1 k.1)
one_tree check check o h k = refl
one_tree (seq a b) (seq x y) o h k = ap₂ seq (one_tree a x (nth 1 o) h.1 k.1) (one_tree b y (nth 2 o) h.2 k.2)
one_tree (both a b) (both x y) o h k = ap₂ both (one_tree a x (nth 1 o) h.1 k.1) (one_tree b y (nth 2 o) h.2 k.2)
one_tree (first a b) (first x y) o h k = ap₂ first (one_tree a x (nth 1 o) h.1 k.1) (one_tree b y (nth 2 o) h.2 k.2)
one_tree (within a b) (within x y) o h k = ap₂ within (one_whole _ a x h.1 k.1) (one_tree b y (nth 2 o) h.2 k.2)
one_tree s t o h k = absurd (clash o (tree_word s) (tree_word t) (tree_begins o s h) (tree_begins o t k) refl)

-- ---- objects: each key by itself
one_source : One IsSource
one_source o s t h k = λ i. record { kind = kind i; priority = priority i; recurse = recurse i; call = call i }
  where
    kind : s.kind ≡ t.kind
    kind = one_kind _ s.kind t.kind h.kind k.kind

    priority : s.priority ≡ t.priority
    priority = one_or (usual t.kind) IsInteger one_integer _ s.priority t.priority (subst (λ z. Or (usual z) IsInteger (under (codes "priority") o) s.priority) kind h.priority) k.priority

    recurse : s.recurse ≡ t.recurse
    recurse = one_or false IsTruth one_truth _ s.recurse t.recurse h.recurse k.recurse

    call : s.call ≡ t.call
    call = one_or None (OrNull IsWhole) one_null _ s.call t.call h.call k.call

one_child : One IsChild
one_child o s t h k = λ i. record { kind = kind i; priority = priority i; recurse = recurse i; call = call i }
  where
    kind : s.kind ≡ t.kind
    kind = one_kind _ s.kind t.kind h.kind k.kind

    priority : s.priority ≡ t.priority
    priority = h.priority ∙ sym k.priority

    recurse : s.recurse ≡ t.recurse
    recurse = one_or false IsTruth one_truth _ s.recurse t.recurse h.recurse k.recurse

    call : s.call ≡ t.call
    call = one_or None (OrNull IsWhole) one_null _ s.call t.call h.call k.call

one_task : One IsTask
one_task o s t h k = λ i. record { tree = tree i; call = call i; cancel = cancel i; check = checked i; return_on_cancel = returns i; priority = priority i }
  where
    tree : s.tree ≡ t.tree
    tree = one_tree s.tree t.tree _ h.tree k.tree

    call : s.call ≡ t.call
    call = one_whole _ s.call t.call h.call k.call

    cancel : s.cancel ≡ t.cancel
    cancel = one_or None (OrNull IsWhole) one_null _ s.cancel t.cancel h.cancel k.cancel

    checked : s.check ≡ t.check
    checked = one_or true IsTruth one_truth _ s.check t.check h.check k.check

    returns : s.return_on_cancel ≡ t.return_on_cancel
    returns = one_or false IsTruth one_truth _ s.return_on_cancel t.return_on_cancel h.return_on_cancel k.return_on_cancel

    priority : s.priority ≡ t.priority
    priority = one_or (pos 0) IsInteger one_integer _ s.priority t.priority h.priority k.priority

abbrev action_word : Action → List ℕ
action_word (Attach context slot spec) = codes "attach"
action_word (Child parent slot spec) = codes "child"
action_word (Destroy slot) = codes "destroy"
action_word (SetReady slot us) = codes "set_ready"
action_word (SetPriority slot priority) = codes "set_priority"
action_word (Iterate context) = codes "iterate"
action_word (Pending context) = codes "pending"
action_word (Run loop) = codes "run"
action_word (Quit loop) = codes "quit"
action_word (Cancel c) = codes "cancel"
action_word (Connect c slot proc) = codes "connect"
action_word (Disconnect slot) = codes "disconnect"
action_word (Task spec) = codes "task"
action_word (Push context) = codes "push"
action_word (Pop context) = codes "pop"
action_word ShowDefault = codes "show_default"
action_word (Acquire context) = codes "acquire"
action_word (Release context) = codes "release"
action_word (Invoke context proc) = codes "invoke"
action_word (Give context lane) = codes "give"
action_word (Log n) = codes "log"

pub action_begins : (o : Option Data) (a : Action) → IsAction o a → option_and_then front o ≡ Some (action_word a)
action_begins o (Attach context slot spec) h = h.0.0
action_begins o (Child parent slot spec) h = h.0.0
action_begins o (Destroy slot) h = h.0.0
action_begins o (SetReady slot us) h = h.0.0
action_begins o (SetPriority slot priority) h = h.0.0
action_begins o (Iterate context) h = h.0.0
action_begins o (Pending context) h = h.0.0
action_begins o (Run loop) h = h.0.0
action_begins o (Quit loop) h = h.0.0
action_begins o (Cancel c) h = h.0.0
action_begins o (Connect c slot proc) h = h.0.0
action_begins o (Disconnect slot) h = h.0.0
action_begins o (Task spec) h = h.0.0
action_begins o (Push context) h = h.0.0
action_begins o (Pop context) h = h.0.0
action_begins o ShowDefault h = h.0
action_begins o (Acquire context) h = h.0.0
action_begins o (Release context) h = h.0.0
action_begins o (Invoke context proc) h = h.0.0
action_begins o (Give context lane) h = h.0.0
action_begins o (Log n) h = h.0.0

-- the word says whether it hands a context over
pub gives_by_word : (a : Action) → bytes_eq (action_word a) (codes "give") ≡ is_give a
gives_by_word (Attach context slot spec) = refl
gives_by_word (Child parent slot spec) = refl
gives_by_word (Destroy slot) = refl
gives_by_word (SetReady slot us) = refl
gives_by_word (SetPriority slot priority) = refl
gives_by_word (Iterate context) = refl
gives_by_word (Pending context) = refl
gives_by_word (Run loop) = refl
gives_by_word (Quit loop) = refl
gives_by_word (Cancel c) = refl
gives_by_word (Connect c slot proc) = refl
gives_by_word (Disconnect slot) = refl
gives_by_word (Task spec) = refl
gives_by_word (Push context) = refl
gives_by_word (Pop context) = refl
gives_by_word ShowDefault = refl
gives_by_word (Acquire context) = refl
gives_by_word (Release context) = refl
gives_by_word (Invoke context proc) = refl
gives_by_word (Give context lane) = refl
gives_by_word (Log n) = refl

one_action : One IsAction
one_action o (Attach a b c) (Attach x y z) h k = let p = one_whole _ a x h.1 k.1 in let q = one_whole _ b y h.2 k.2 in let r = one_source _ c z h.3 k.3 in λ i. Attach (p i) (q i) (r i)
one_action o (Child a b c) (Child x y z) h k = let p = one_whole _ a x h.1 k.1 in let q = one_whole _ b y h.2 k.2 in let r = one_child _ c z h.3 k.3 in λ i. Child (p i) (q i) (r i)
one_action o (Destroy a) (Destroy x) h k = ap Destroy (one_whole _ a x h.1 k.1)
one_action o (SetReady a b) (SetReady x y) h k = ap₂ SetReady (one_whole _ a x h.1 k.1) (one_integer _ b y h.2 k.2)
one_action o (SetPriority a b) (SetPriority x y) h k = ap₂ SetPriority (one_whole _ a x h.1 k.1) (one_integer _ b y h.2 k.2)
one_action o (Iterate a) (Iterate x) h k = ap Iterate (one_whole _ a x h.1 k.1)
one_action o (Pending a) (Pending x) h k = ap Pending (one_whole _ a x h.1 k.1)
one_action o (Run a) (Run x) h k = ap Run (one_whole _ a x h.1 k.1)
one_action o (Quit a) (Quit x) h k = ap Quit (one_whole _ a x h.1 k.1)
one_action o (Cancel a) (Cancel x) h k = ap Cancel (one_whole _ a x h.1 k.1)
one_action o (Connect a b c) (Connect x y z) h k = let p = one_whole _ a x h.1 k.1 in let q = one_whole _ b y h.2 k.2 in let r = one_whole _ c z h.3 k.3 in λ i. Connect (p i) (q i) (r i)
one_action o (Disconnect a) (Disconnect x) h k = ap Disconnect (one_whole _ a x h.1 k.1)
one_action o (Task a) (Task x) h k = ap Task (one_task _ a x h.1 k.1)
one_action o (Push a) (Push x) h k = ap Push (one_whole _ a x h.1 k.1)
one_action o (Pop a) (Pop x) h k = ap Pop (one_whole _ a x h.1 k.1)
one_action o ShowDefault ShowDefault h k = refl
one_action o (Acquire a) (Acquire x) h k = ap Acquire (one_whole _ a x h.1 k.1)
one_action o (Release a) (Release x) h k = ap Release (one_whole _ a x h.1 k.1)
one_action o (Invoke a b) (Invoke x y) h k = ap₂ Invoke (one_whole _ a x h.1 k.1) (one_whole _ b y h.2 k.2)
one_action o (Give a b) (Give x y) h k = ap₂ Give (one_whole _ a x h.1 k.1) (one_whole _ b y h.2 k.2)
one_action o (Log a) (Log x) h k = ap Log (one_whole _ a x h.1 k.1)
one_action o a b h k = absurd (clash o (action_word a) (action_word b) (action_begins o a h) (action_begins o b k) refl)

one_level : One IsLevel
one_level o a b h k = let t = one_whole _ a.tick b.tick h.tick k.tick in let u = one_whole _ a.bits b.bits h.bits k.bits in λ i. record { tick = t i; bits = u i }

one_proc : One IsProc
one_proc o a b h k =
    let t = one_list IsAction one_action _ a.actions b.actions h.actions k.actions in
    let u = one_or (Some 0) (OrNull IsWhole) one_null _ a.keep b.keep h.keep k.keep in
    λ i. record { actions = t i; keep = u i }

one_lane : One IsLane
one_lane o a b h k =
    let t = one_whole _ a.contexts b.contexts h.contexts k.contexts in
    let u = one_list IsAction one_action _ a.start b.start h.start k.start in
    λ i. record { contexts = t i; start = u i }

pub one_script : One Denotes
one_script o p q h k = λ i. record { version = version i; ticks = ticks i; tick_us = tick_us i; lanes = lanes i; cancellables = cancellables i; fds = fds i; loops = loops i; procs = procs i }
  where
    version : p.version ≡ q.version
    version = one_whole _ p.version q.version h.version k.version

    ticks : p.ticks ≡ q.ticks
    ticks = one_whole _ p.ticks q.ticks h.ticks k.ticks

    tick_us : p.tick_us ≡ q.tick_us
    tick_us = one_whole _ p.tick_us q.tick_us h.tick_us k.tick_us

    lanes : p.lanes ≡ q.lanes
    lanes = one_list IsLane one_lane _ p.lanes q.lanes h.lanes k.lanes

    cancellables : p.cancellables ≡ q.cancellables
    cancellables = one_or 0 IsWhole one_whole _ p.cancellables q.cancellables h.cancellables k.cancellables

    fds : p.fds ≡ q.fds
    fds = one_or [] (IsList (IsList IsLevel)) (one_list (IsList IsLevel) (one_list IsLevel one_level)) _ p.fds q.fds h.fds k.fds

    loops : p.loops ≡ q.loops
    loops = one_or [] (IsList IsWhole) (one_list IsWhole one_whole) _ p.loops q.loops h.loops k.loops

    procs : p.procs ≡ q.procs
    procs = one_or [] (IsList IsProc) (one_list IsProc one_proc) _ p.procs q.procs h.procs k.procs
