-- What the program's own names of forms, keys and steps stand for in the tables of a script.
use Rattle.std.specs.Prelude.{ℕ, pos, negsuc, List, codes}
use Rattle.loop_script.specs.Form as forms
use Rattle.loop_script.specs.Form.{Form, list, an, one_of, pair, whole, whole_or_null, signed, truth, lanes}
use Rattle.loop_script.specs.Tables as tables
use Rattle.script_check.specs.Found.{Step, under, nth}
use Rattle.script_check.specs.declared.wanted.Wanted.{Wanted}
use Rattle.script_check.specs.declared.wanted.Wanted.TheVariants as wanted
use Rattle.script_check.specs.declared.wanted.Object.{Object}
use Rattle.script_check.specs.declared.wanted.Object.TheVariants as objects
use Rattle.script_check.specs.declared.wanted.Choice.{Choice}
use Rattle.script_check.specs.declared.wanted.Choice.TheVariants as choices
use Rattle.script_check.specs.declared.shape.Shape.{Shape}
use Rattle.script_check.specs.declared.shape.Shape.TheVariants as shapes
use Rattle.script_check.specs.declared.tables.Name.{Name}
use Rattle.script_check.specs.declared.tables.Name.TheVariants as names
use Rattle.script_check.specs.declared.tables.Key.{Key}
use Rattle.script_check.specs.declared.place.Step.{Step as Stepped}
use Rattle.script_check.specs.declared.place.Step.TheVariants as steps

abbrev pub object_of : Object → forms.Object
object_of objects.Script = forms.script
object_of objects.Lane = forms.lane
object_of objects.Procedure = forms.procedure
object_of objects.Source = forms.source
object_of objects.Child = forms.child
object_of objects.Task = forms.task

abbrev pub choice_of : Choice → forms.Choice
choice_of choices.Kind = forms.kind
choice_of choices.Action = forms.action
choice_of choices.Tree = forms.tree 16

-- the form in the tables
abbrev pub form_of : Wanted → Form
form_of wanted.Version = whole 1 2
form_of wanted.Ticks = whole 1 4096
form_of wanted.TickLength = whole 1 1000000000
form_of wanted.Cancellables = whole 0 256
form_of wanted.Contexts = whole 1 256
form_of wanted.Dispatches = whole_or_null 0 4294967295
form_of wanted.Tick = whole 0 4095
form_of wanted.Bits = tables.bits
form_of wanted.Slot = tables.slot
form_of wanted.Priority = tables.priority
form_of wanted.ReadyTime = tables.ready_time
form_of wanted.Span = tables.span
form_of wanted.Milliseconds = whole 0 4294967295
form_of wanted.LogNumber = whole 0 4294967295
form_of wanted.TreeValue = signed (negsuc 9223372036854775807) (pos 9223372036854775807)
form_of wanted.Truth = truth
form_of wanted.Context = tables.index
form_of wanted.Loop = tables.index
form_of wanted.Cancellable = tables.index
form_of wanted.CancellableOrNull = tables.index_or_null
form_of wanted.Proc = tables.index
form_of wanted.ProcOrNull = tables.index_or_null
form_of wanted.Descriptor = tables.index
form_of wanted.LaneNumber = tables.index
form_of wanted.Lanes = lanes 1 64 256
form_of wanted.Actions = tables.actions
form_of wanted.Descriptors = list 0 256 (list 0 4096 pair)
form_of wanted.Levels = list 0 4096 pair
form_of wanted.Loops = list 0 256 tables.index
form_of wanted.Procs = list 0 1024 (an forms.procedure)
form_of wanted.Pair = pair
form_of (wanted.An o) = an (object_of o)
form_of (wanted.OneOf c) = one_of (choice_of c)

-- the same of a form without its meaning
abbrev pub shape_of : Shape → Form
shape_of (shapes.Whole low high) = whole low high
shape_of (shapes.WholeOrNull low high) = whole_or_null low high
shape_of (shapes.Signed low high) = signed low high
shape_of shapes.Truth = truth
shape_of (shapes.List low high each) = list low high (form_of each)
shape_of (shapes.Lanes low high most) = lanes low high most
shape_of shapes.Pair = pair
shape_of (shapes.An o) = an (object_of o)
shape_of (shapes.OneOf c) = one_of (choice_of c)

abbrev pub name_of : Name → List ℕ
name_of names.Version = codes "version"
name_of names.Ticks = codes "ticks"
name_of names.TickUs = codes "tick_us"
name_of names.Lanes = codes "lanes"
name_of names.Cancellables = codes "cancellables"
name_of names.Fds = codes "fds"
name_of names.Loops = codes "loops"
name_of names.Procs = codes "procs"
name_of names.Contexts = codes "contexts"
name_of names.Start = codes "start"
name_of names.Do = codes "do"
name_of names.Keep = codes "keep"
name_of names.Kind = codes "kind"
name_of names.Priority = codes "priority"
name_of names.Recurse = codes "recurse"
name_of names.Call = codes "call"
name_of names.Tree = codes "tree"
name_of names.Cancel = codes "cancel"
name_of names.Check = codes "check"
name_of names.ReturnOnCancel = codes "return_on_cancel"

abbrev pub key_of : Key → forms.Key
key_of k = record { name = name_of k.name; form = form_of k.wanted; needed = k.needed }

abbrev pub step_of : Stepped → Step
step_of (steps.Key name) = under (name_of name)
step_of (steps.Item n) = nth n
