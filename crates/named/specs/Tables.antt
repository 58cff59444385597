-- The tables of the form with names: the words of each choice and the keys of each object, with what a script of numbers has in
-- their place.
use Rattle.std.specs.Prelude.{ℕ, Bool, true, false, List, [], ◌∷◌}
use Rattle.named.specs.declared.sort.Kind.{Kind}
use Rattle.named.specs.declared.sort.Kind.TheVariants as kinds
use Rattle.named.specs.declared.sort.Leaf.{Leaf}
use Rattle.named.specs.declared.sort.Leaf.TheVariants as leaves
use Rattle.named.specs.declared.sort.Choice.{Choice}
use Rattle.named.specs.declared.sort.Choice.TheVariants as choices
use Rattle.named.specs.declared.sort.Object.{Object}
use Rattle.named.specs.declared.sort.Object.TheVariants as objects
use Rattle.named.specs.declared.sort.Sort.{Sort}
use Rattle.named.specs.declared.sort.Sort.TheVariants as sorts
use Rattle.named.specs.declared.word.Word.{Word}
use Rattle.named.specs.declared.word.Word.TheVariants as word
use Rattle.named.specs.declared.table.At.{At}
use Rattle.named.specs.declared.table.At.TheVariants as ats
use Rattle.named.specs.declared.table.Part.{Part}
use Rattle.named.specs.declared.field.Absent.{Absent}
use Rattle.named.specs.declared.field.Absent.TheVariants as absents
use Rattle.named.specs.declared.field.Field.{Field}

abbrev pub part : At → Sort → Part
part at s = record { at = at; sort = s }

-- what stands under a key: a value without parts
abbrev pub leaf : Word → Leaf → Part
leaf key l = part (ats.Key key) (sorts.Leaf l)

-- what stands under a key: a name
abbrev pub name : Word → Kind → Part
name key kind = leaf key (leaves.Name kind)

-- the value itself
abbrev pub itself : Sort → Part
itself s = part ats.Same s

-- an item of a list
abbrev pub item_at : ℕ → Leaf → Part
item_at n l = part (ats.Item n) (sorts.Leaf l)

abbrev pub tree_at : ℕ → Part
tree_at n = part (ats.Item n) (sorts.OneOf choices.Tree)

abbrev pub field : Word → At → Sort → Absent → Field
field key at s absent = record { key = key; at = at; sort = s; absent = absent }

-- the words of each choice
abbrev pub words : Choice → List Word
words choices.Action = word.Attach ∷ word.Child ∷ word.Destroy ∷ word.SetReady ∷ word.SetPriority ∷ word.Iterate ∷ word.Pending ∷ word.Run ∷ word.Quit ∷ word.Cancel ∷ word.Connect ∷ word.Disconnect ∷ word.Task ∷ word.Push ∷ word.Pop ∷ word.ShowDefault ∷ word.Acquire ∷ word.Release ∷ word.Invoke ∷ word.Give ∷ word.Log ∷ []
words choices.Source = word.Idle ∷ word.Timeout ∷ word.Ready ∷ word.Fd ∷ word.Cancellable ∷ []
words choices.Tree = word.Value ∷ word.Fail ∷ word.Sleep ∷ word.Check ∷ word.Seq ∷ word.Both ∷ word.First ∷ word.Within ∷ []

-- what stands behind a word in a script of numbers: that of an action
abbrev pub parts_of_action : Word → List Part
parts_of_action word.Attach = name word.To kinds.Context ∷ name word.Attach kinds.Slot ∷ itself (sorts.An objects.Source) ∷ []
parts_of_action word.Child = name word.Below kinds.Slot ∷ name word.Child kinds.Slot ∷ itself (sorts.An objects.Child) ∷ []
parts_of_action word.Destroy = name word.Destroy kinds.Slot ∷ []
parts_of_action word.SetReady = name word.SetReady kinds.Slot ∷ leaf word.To leaves.ReadyTime ∷ []
parts_of_action word.SetPriority = name word.SetPriority kinds.Slot ∷ leaf word.To leaves.Priority ∷ []
parts_of_action word.Iterate = name word.Iterate kinds.Context ∷ []
parts_of_action word.Pending = name word.Pending kinds.Context ∷ []
parts_of_action word.Run = name word.Run kinds.Loop ∷ []
parts_of_action word.Quit = name word.Quit kinds.Loop ∷ []
parts_of_action word.Cancel = name word.Cancel kinds.Cancellable ∷ []
parts_of_action word.Connect = name word.To kinds.Cancellable ∷ name word.Connect kinds.Slot ∷ name word.Call kinds.Procedure ∷ []
parts_of_action word.Disconnect = name word.Disconnect kinds.Slot ∷ []
parts_of_action word.Task = leaf word.Task leaves.Label ∷ itself (sorts.An objects.Task) ∷ []
parts_of_action word.Push = name word.Push kinds.Context ∷ []
parts_of_action word.Pop = name word.Pop kinds.Context ∷ []
parts_of_action word.ShowDefault = leaf word.ShowDefault leaves.True ∷ []
parts_of_action word.Acquire = name word.Acquire kinds.Context ∷ []
parts_of_action word.Release = name word.Release kinds.Context ∷ []
parts_of_action word.Invoke = name word.In kinds.Context ∷ name word.Invoke kinds.Procedure ∷ []
parts_of_action word.Give = name word.Give kinds.Context ∷ name word.To kinds.Thread ∷ []
parts_of_action word.Log = name word.Log kinds.Text ∷ []
parts_of_action w = []

-- that of a kind of source
abbrev pub parts_of_source : Word → List Part
parts_of_source word.Idle = leaf word.Idle leaves.True ∷ []
parts_of_source word.Timeout = leaf word.Timeout leaves.Milliseconds ∷ []
parts_of_source word.Ready = leaf word.Ready leaves.ReadyTime ∷ []
parts_of_source word.Fd = name word.Fd kinds.Descriptor ∷ leaf word.Events leaves.Bits ∷ []
parts_of_source word.Cancellable = name word.Cancellable kinds.Cancellable ∷ []
parts_of_source w = []

-- that of a tree, where each item keeps its place
abbrev pub parts_of_tree : Word → List Part
parts_of_tree word.Value = item_at 1 leaves.Number ∷ []
parts_of_tree word.Sleep = item_at 1 leaves.Microseconds ∷ []
parts_of_tree word.Seq = tree_at 1 ∷ tree_at 2 ∷ []
parts_of_tree word.Both = tree_at 1 ∷ tree_at 2 ∷ []
parts_of_tree word.First = tree_at 1 ∷ tree_at 2 ∷ []
parts_of_tree word.Within = item_at 1 leaves.Microseconds ∷ tree_at 2 ∷ []
parts_of_tree w = []

-- what stands behind a word of a choice
abbrev pub parts : Choice → Word → List Part
parts choices.Action w = parts_of_action w
parts choices.Source w = parts_of_source w
parts choices.Tree w = parts_of_tree w

-- the keys that may stand with the word of an action or of a kind of source, itself among them; none where it stands alone
abbrev pub beside : Word → List Word
beside word.Attach = word.Attach ∷ word.To ∷ word.Priority ∷ word.CanRecurse ∷ word.Call ∷ []
beside word.Child = word.Child ∷ word.Below ∷ word.CanRecurse ∷ word.Call ∷ []
beside word.SetReady = word.SetReady ∷ word.To ∷ []
beside word.SetPriority = word.SetPriority ∷ word.To ∷ []
beside word.Connect = word.Connect ∷ word.To ∷ word.Call ∷ []
beside word.Task = word.Task ∷ word.Does ∷ word.Call ∷ word.Cancellable ∷ word.CheckCancellable ∷ word.ReturnOnCancel ∷ word.Priority ∷ []
beside word.Invoke = word.Invoke ∷ word.In ∷ []
beside word.Give = word.Give ∷ word.To ∷ []
beside word.Fd = word.Fd ∷ word.Events ∷ []
beside w = []

-- the word of a script of numbers
abbrev pub numbered_word : Word → Word
numbered_word word.Cancellable = word.Cancel
numbered_word w = w

-- whether an action has the keys of a source as well
abbrev pub makes_source : Word → Bool
makes_source word.Attach = true
makes_source word.Child = true
makes_source w = false

-- the keys of each object in a script of numbers
abbrev pub fields : Object → List Field
fields objects.Script =
    field word.Version (ats.Key word.Version) (sorts.Leaf leaves.Number) (absents.Number 2)
    ∷ field word.Ticks (ats.Key word.Ticks) (sorts.Leaf leaves.Number) absents.Fault
    ∷ field word.TickUs (ats.Key word.Tick) (sorts.Leaf leaves.Microseconds) (absents.Number 1000)
    ∷ field word.Lanes (ats.Key word.Threads) sorts.Threads absents.Fault
    ∷ field word.Cancellables (ats.Key word.Cancellables) (sorts.Leaf leaves.Names) absents.Nothing
    ∷ field word.Fds (ats.Key word.Descriptors) sorts.Descriptors absents.Nothing
    ∷ field word.Loops (ats.Key word.Loops) sorts.Loops absents.Nothing
    ∷ field word.Procs (ats.Key word.Procedures) sorts.Procedures absents.Nothing
    ∷ []
fields objects.Thread =
    field word.Contexts (ats.Key word.Contexts) (sorts.Leaf leaves.Names) (absents.Number 1)
    ∷ field word.Start (ats.Key word.Start) sorts.Actions absents.Fault
    ∷ []
fields objects.Procedure =
    field word.Do (ats.Key word.Do) sorts.Actions absents.Fault
    ∷ field word.Keep (ats.Key word.Keep) (sorts.Leaf leaves.Keep) absents.Nothing
    ∷ []
fields objects.Source =
    field word.Kind ats.Same (sorts.OneOf choices.Source) absents.Fault
    ∷ field word.Priority (ats.Key word.Priority) (sorts.Leaf leaves.Priority) absents.Nothing
    ∷ field word.Recurse (ats.Key word.CanRecurse) (sorts.Leaf leaves.Truth) absents.Nothing
    ∷ field word.Call (ats.Key word.Call) (sorts.Leaf (leaves.NameOrNull kinds.Procedure)) absents.Nothing
    ∷ []
fields objects.Child =
    field word.Kind ats.Same (sorts.OneOf choices.Source) absents.Fault
    ∷ field word.Recurse (ats.Key word.CanRecurse) (sorts.Leaf leaves.Truth) absents.Nothing
    ∷ field word.Call (ats.Key word.Call) (sorts.Leaf (leaves.NameOrNull kinds.Procedure)) absents.Nothing
    ∷ []
fields objects.Task =
    field word.Tree (ats.Key word.Does) (sorts.OneOf choices.Tree) absents.Fault
    ∷ field word.Call (ats.Key word.Call) (sorts.Leaf (leaves.Name kinds.Procedure)) absents.Fault
    ∷ field word.Cancel (ats.Key word.Cancellable) (sorts.Leaf (leaves.NameOrNull kinds.Cancellable)) absents.Nothing
    ∷ field word.Check (ats.Key word.CheckCancellable) (sorts.Leaf leaves.Truth) absents.Nothing
    ∷ field word.ReturnOnCancel (ats.Key word.ReturnOnCancel) (sorts.Leaf leaves.Truth) absents.Nothing
    ∷ field word.Priority (ats.Key word.Priority) (sorts.Leaf leaves.Priority) absents.Nothing
    ∷ []

-- the keys that may stand in an object; of what an action makes, they are those of the action
abbrev pub keys : Object → List Word
keys objects.Script = word.Form ∷ word.Version ∷ word.Ticks ∷ word.Tick ∷ word.Threads ∷ word.Cancellables ∷ word.Descriptors ∷ word.Loops ∷ word.Procedures ∷ []
keys objects.Thread = word.Contexts ∷ word.Start ∷ []
keys objects.Procedure = word.Do ∷ word.Keep ∷ []
keys o = []

-- what each item of a list, or each member of an object by name, should be
abbrev pub each : Sort → Sort
each sorts.Actions = sorts.OneOf choices.Action
each sorts.Levels = sorts.Pair
each sorts.Threads = sorts.An objects.Thread
each sorts.Procedures = sorts.An objects.Procedure
each sorts.Loops = sorts.Leaf (leaves.Name kinds.Context)
each sorts.Descriptors = sorts.Levels
each s = s

-- a tick and bits
abbrev pub pair : List Part
pair = item_at 0 leaves.Number ∷ item_at 1 leaves.Bits ∷ []
