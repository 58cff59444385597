-- The tables of a script: the keys of each object, and the words of each choice with what stands behind them. Laws say that
-- the reading goes by them, so they use no definition of the reading.
use Rattle.std.specs.Prelude.{ℕ, pos, negsuc, true, false, List, [], ◌∷◌, codes}
use Rattle.loop_script.specs.Form.{Object, script, lane, procedure, source, child, task, Choice, kind, action, tree, Form, whole, whole_or_null, signed, truth, list, lanes, pair, an, one_of, Key, Word}

-- a key that must be there
abbrev pub needed : List ℕ → Form → Key
needed name form = record { name = name; form = form; needed = true }

-- a key that may be absent
abbrev pub optional : List ℕ → Form → Key
optional name form = record { name = name; form = form; needed = false }

-- a word with its parts
abbrev pub word : List ℕ → List Form → Word
word w parts = record { word = w; parts = parts }

-- what goes by its number in the script; whether it is there is judged later
abbrev pub index : Form
index = whole 0 4294967295

-- the same, or null
abbrev pub index_or_null : Form
index_or_null = whole_or_null 0 4294967295

-- the number of a slot of a lane
abbrev pub slot : Form
slot = whole 0 255

-- the bits of a descriptor, added up
abbrev pub bits : Form
bits = whole 0 63

-- a priority
abbrev pub priority : Form
priority = signed (negsuc 2147483647) (pos 2147483647)

-- in microseconds; -1 is never
abbrev pub ready_time : Form
ready_time = signed (negsuc 0) (pos 1000000000000000)

-- how long, in microseconds
abbrev pub span : Form
span = whole 0 1000000000000000

-- what a lane begins with, and what a procedure does
abbrev pub actions : Form
actions = list 0 256 (one_of action)

-- `[tick,bits]`
abbrev pub pair_parts : List Form
pair_parts = whole 0 4095 ∷ bits ∷ []

-- the keys of each object
abbrev pub keys : Object → List Key
keys script =
    needed (codes "version") (whole 1 2)
    ∷ needed (codes "ticks") (whole 1 4096)
    ∷ needed (codes "tick_us") (whole 1 1000000000)
    ∷ needed (codes "lanes") (lanes 1 64 256)
    ∷ optional (codes "cancellables") (whole 0 256)
    ∷ optional (codes "fds") (list 0 256 (list 0 4096 pair))
    ∷ optional (codes "loops") (list 0 256 index)
    ∷ optional (codes "procs") (list 0 1024 (an procedure))
    ∷ []
keys lane =
    needed (codes "contexts") (whole 1 256)
    ∷ needed (codes "start") actions
    ∷ []
keys procedure =
    needed (codes "do") actions
    ∷ optional (codes "keep") (whole_or_null 0 4294967295)
    ∷ []
keys source =
    needed (codes "kind") (one_of kind)
    ∷ optional (codes "priority") priority
    ∷ optional (codes "recurse") truth
    ∷ optional (codes "call") index_or_null
    ∷ []
keys child =
    needed (codes "kind") (one_of kind)
    ∷ optional (codes "recurse") truth
    ∷ optional (codes "call") index_or_null
    ∷ []
keys task =
    needed (codes "tree") (one_of (tree 16))
    ∷ needed (codes "call") index
    ∷ optional (codes "cancel") index_or_null
    ∷ optional (codes "check") truth
    ∷ optional (codes "return_on_cancel") truth
    ∷ optional (codes "priority") priority
    ∷ []

-- the words of each choice
abbrev pub words : Choice → List Word
words kind =
    word (codes "idle") []
    ∷ word (codes "timeout") (whole 0 4294967295 ∷ [])
    ∷ word (codes "ready") (ready_time ∷ [])
    ∷ word (codes "fd") (index ∷ bits ∷ [])
    ∷ word (codes "cancel") (index ∷ [])
    ∷ []
words action =
    word (codes "attach") (index ∷ slot ∷ an source ∷ [])
    ∷ word (codes "child") (slot ∷ slot ∷ an child ∷ [])
    ∷ word (codes "destroy") (slot ∷ [])
    ∷ word (codes "set_ready") (slot ∷ ready_time ∷ [])
    ∷ word (codes "set_priority") (slot ∷ priority ∷ [])
    ∷ word (codes "iterate") (index ∷ [])
    ∷ word (codes "pending") (index ∷ [])
    ∷ word (codes "run") (index ∷ [])
    ∷ word (codes "quit") (index ∷ [])
    ∷ word (codes "cancel") (index ∷ [])
    ∷ word (codes "connect") (index ∷ slot ∷ index ∷ [])
    ∷ word (codes "disconnect") (slot ∷ [])
    ∷ word (codes "task") (an task ∷ [])
    ∷ word (codes "push") (index ∷ [])
    ∷ word (codes "pop") (index ∷ [])
    ∷ word (codes "show_default") []
    ∷ word (codes "acquire") (index ∷ [])
    ∷ word (codes "release") (index ∷ [])
    ∷ word (codes "invoke") (index ∷ index ∷ [])
    ∷ word (codes "give") (index ∷ index ∷ [])
    ∷ word (codes "log") (whole 0 4294967295 ∷ [])
    ∷ []
words (tree n) =
    word (codes "value") (signed (negsuc 9223372036854775807) (pos 9223372036854775807) ∷ [])
    ∷ word (codes "fail") []
    ∷ word (codes "sleep") (span ∷ [])
    ∷ word (codes "check") []
    ∷ word (codes "seq") (one_of (tree n) ∷ one_of (tree n) ∷ [])
    ∷ word (codes "both") (one_of (tree n) ∷ one_of (tree n) ∷ [])
    ∷ word (codes "first") (one_of (tree n) ∷ one_of (tree n) ∷ [])
    ∷ word (codes "within") (span ∷ one_of (tree n) ∷ [])
    ∷ []
