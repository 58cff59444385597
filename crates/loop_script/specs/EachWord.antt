-- One script with each word of an action, each word of a kind and each key, and what it says.
use Rattle.std.specs.Prelude.{◌≡◌, ℕ, ℤ, pos, negsuc, true, false, List, [], ◌∷◌, codes, Some, None, Ok}
use Rattle.serde_json.specs.Data.{Data, Items, boolean, number, string, array, object, no_items, item, no_members, member, unsigned, negative}
use Rattle.loop_script.specs.Script.{script_of}
use Rattle.loop_script.specs.declared.plan.Plan.{Plan}
use Rattle.loop_script.specs.declared.source.Kind.TheVariants as kinds
use Rattle.loop_script.specs.declared.action.Action.TheVariants.{Attach, Child, Destroy, SetReady, SetPriority, Iterate, Pending, Run, Quit, Cancel, Connect, Disconnect, Task, Push, Pop, ShowDefault, Acquire, Release, Invoke, Give, Log}
use Rattle.loop_script.specs.Tree.{value, fail, sleep, check, seq, both, first, within}

-- the parts of a list
abbrev pub items : List Data → Items
items [] = no_items
items (d ∷ ds) = item d (items ds)

-- a list
abbrev pub row : List Data → Data
row ds = array (items ds)

-- a whole number
abbrev pub n : ℕ → Data
n k = number (unsigned k)

-- a number below 0
abbrev below_zero : ℤ → Data
below_zero z = number (negative z)

-- a text
abbrev pub word : List ℕ → Data
word w = string w

-- {"call":0,"kind":["idle"],"priority":-5,"recurse":true}
abbrev source : Data
source = object (member (codes "call") (n 0) (member (codes "kind") (row (word (codes "idle") ∷ [])) (member (codes "priority") (below_zero (negsuc 4)) (member (codes "recurse") (boolean true) no_members))))

-- {"call":0,"kind":["timeout",2],"recurse":true}
abbrev child : Data
child = object (member (codes "call") (n 0) (member (codes "kind") (row (word (codes "timeout") ∷ n 2 ∷ [])) (member (codes "recurse") (boolean true) no_members)))

-- {"kind":..}
abbrev of_kind : List Data → Data
of_kind ds = object (member (codes "kind") (row ds) no_members)

-- ["seq",["within",5,["sleep",6]],["first",["both",["value",-3],["fail"]],["check"]]]
abbrev tree : Data
tree =
    let timed : Data = row (word (codes "within") ∷ n 5 ∷ row (word (codes "sleep") ∷ n 6 ∷ []) ∷ []) in
    let joined : Data = row (word (codes "both") ∷ row (word (codes "value") ∷ below_zero (negsuc 2) ∷ []) ∷ row (word (codes "fail") ∷ []) ∷ []) in
    row (word (codes "seq") ∷ timed ∷ row (word (codes "first") ∷ joined ∷ row (word (codes "check") ∷ []) ∷ []) ∷ [])

-- {"call":0,"cancel":0,"check":true,"priority":-5,"return_on_cancel":true,"tree":..}
abbrev task : Data
task = object (member (codes "call") (n 0) (member (codes "cancel") (n 0) (member (codes "check") (boolean true)
    (member (codes "priority") (below_zero (negsuc 4)) (member (codes "return_on_cancel") (boolean true) (member (codes "tree") tree no_members))))))

-- a list with each action
abbrev start : List Data
start =
    row (word (codes "attach") ∷ n 0 ∷ n 1 ∷ source ∷ [])
    ∷ row (word (codes "attach") ∷ n 0 ∷ n 2 ∷ of_kind (word (codes "ready") ∷ below_zero (negsuc 0) ∷ []) ∷ [])
    ∷ row (word (codes "attach") ∷ n 0 ∷ n 3 ∷ of_kind (word (codes "fd") ∷ n 0 ∷ n 5 ∷ []) ∷ [])
    ∷ row (word (codes "attach") ∷ n 0 ∷ n 4 ∷ of_kind (word (codes "cancel") ∷ n 0 ∷ []) ∷ [])
    ∷ row (word (codes "child") ∷ n 1 ∷ n 5 ∷ child ∷ [])
    ∷ row (word (codes "destroy") ∷ n 5 ∷ [])
    ∷ row (word (codes "set_ready") ∷ n 2 ∷ n 1500 ∷ [])
    ∷ row (word (codes "set_priority") ∷ n 3 ∷ n 7 ∷ [])
    ∷ row (word (codes "iterate") ∷ n 0 ∷ [])
    ∷ row (word (codes "pending") ∷ n 0 ∷ [])
    ∷ row (word (codes "connect") ∷ n 0 ∷ n 6 ∷ n 0 ∷ [])
    ∷ row (word (codes "disconnect") ∷ n 6 ∷ [])
    ∷ row (word (codes "cancel") ∷ n 0 ∷ [])
    ∷ row (word (codes "quit") ∷ n 0 ∷ [])
    ∷ row (word (codes "run") ∷ n 0 ∷ [])
    ∷ row (word (codes "task") ∷ task ∷ [])
    ∷ row (word (codes "push") ∷ n 0 ∷ [])
    ∷ row (word (codes "pop") ∷ n 0 ∷ [])
    ∷ row (word (codes "show_default") ∷ [])
    ∷ row (word (codes "acquire") ∷ n 0 ∷ [])
    ∷ row (word (codes "release") ∷ n 0 ∷ [])
    ∷ row (word (codes "invoke") ∷ n 0 ∷ n 1 ∷ [])
    ∷ row (word (codes "give") ∷ n 0 ∷ n 0 ∷ [])
    ∷ row (word (codes "log") ∷ n 8 ∷ [])
    ∷ []

-- a procedure with both keys
abbrev procedure : Data
procedure = object (member (codes "do") (row (row (word (codes "log") ∷ n 9 ∷ []) ∷ [])) (member (codes "keep") (n 3) no_members))

-- a procedure that goes after its one call, since it has no `keep`
abbrev once : Data
once = object (member (codes "do") (row []) no_members)

-- a lane with both keys
abbrev lane : Data
lane = object (member (codes "contexts") (n 1) (member (codes "start") (row start) no_members))

-- one descriptor, which shows the bits 5 from tick 1 on
abbrev descriptors : Data
descriptors = row (row (row (n 1 ∷ n 5 ∷ []) ∷ []) ∷ [])

-- a script with each key, word and form
abbrev pub each_word : Data
each_word = object
    (member (codes "cancellables") (n 1)
    (member (codes "fds") descriptors
    (member (codes "lanes") (row (lane ∷ []))
    (member (codes "loops") (row (n 0 ∷ []))
    (member (codes "procs") (row (procedure ∷ once ∷ []))
    (member (codes "tick_us") (n 1000)
    (member (codes "ticks") (n 2)
    (member (codes "version") (n 2) no_members))))))))

-- what it is read as
abbrev pub each_part : Plan
each_part = record {
  version = 2;
  ticks = 2;
  tick_us = 1000;
  lanes = (record {
    contexts = 1;
    start =
        Attach 0 1 (record { kind = kinds.Idle; priority = negsuc 4; recurse = true; call = Some 0 })
        ∷ Attach 0 2 (record { kind = kinds.ReadyTime (negsuc 0); priority = pos 0; recurse = false; call = None })
        ∷ Attach 0 3 (record { kind = kinds.Fd 0 5; priority = pos 0; recurse = false; call = None })
        ∷ Attach 0 4 (record { kind = kinds.Cancel 0; priority = pos 0; recurse = false; call = None })
        ∷ Child 1 5 (record { kind = kinds.Timeout 2; priority = pos 0; recurse = true; call = Some 0 })
        ∷ Destroy 5
        ∷ SetReady 2 (pos 1500)
        ∷ SetPriority 3 (pos 7)
        ∷ Iterate 0
        ∷ Pending 0
        ∷ Connect 0 6 0
        ∷ Disconnect 6
        ∷ Cancel 0
        ∷ Quit 0
        ∷ Run 0
        ∷ Task (record { tree = seq (within 5 (sleep 6)) (first (both (value (negsuc 2)) fail) check); call = 0; cancel = Some 0; check = true; return_on_cancel = true; priority = negsuc 4 })
        ∷ Push 0
        ∷ Pop 0
        ∷ ShowDefault
        ∷ Acquire 0
        ∷ Release 0
        ∷ Invoke 0 1
        ∷ Give 0 0
        ∷ Log 8
        ∷ [];
  }) ∷ [];
  cancellables = 1;
  fds = ((record { tick = 1; bits = 5 }) ∷ []) ∷ [];
  loops = 0 ∷ [];
  procs = (record { actions = Log 9 ∷ []; keep = Some 3 }) ∷ (record { actions = []; keep = Some 0 }) ∷ [];
}

-- it is read as that
abbrev pub EachWord : Type 0
EachWord = script_of each_word ≡ Ok each_part
