-- How a book's entries stand between two calls.
use Rattle.std.specs.Prelude.{◌≡◌, ◌+◌, ◌-◌, ◌^◌, ◌<◌, ◌≤◌, ◌==◌, ◌&&◌, ◌||◌, ℕ, Bool, true, false, min, not, is_some, Option, Some, None, List, [], ◌∷◌, ◌++◌, map, if◌then◌else◌, get_or, take}
use Rattle.std.specs.List.{list_any}
use Rattle.loop_script.specs.Bounds.{longest_tick}
use Rattle.loop_script.specs.Units.{Tick, Microseconds, CancellableNumber}
use Rattle.task_steps.specs.declared.entry.Entry.{Entry}
use Rattle.task_steps.specs.declared.stage.Stage.{Stage}
use Rattle.task_steps.specs.declared.stage.Stage.TheVariants.{Fresh, Set, Polled, Done}
use Rattle.task_steps.specs.declared.mark.Mark.{Mark}
use Rattle.task_steps.specs.declared.mark.Round.{Round}
use Rattle.task_steps.specs.declared.leaf.Leaf.{Leaf}
use Rattle.task_steps.specs.declared.tasks.Tasks.{Tasks}
use Rattle.task_steps.specs.declared.tasks.Tree.{Tree, Gone, Leaf as LeafOf, Two'}
use Rattle.task_steps.specs.Wake.{sooner}
use Rattle.task_steps.specs.Run.{Run, IsLater, NoneBefore, stage_to, clear_passed}
use Rattle.task_steps.specs.RunInside.{IsBy}
use Rattle.task_steps.specs.Task.{Task, task_of, IsBefore}

-- ---- an entry that polls of all passed over

-- the stage of a run in the last poll of all, where that passed it over; one seen as cancelled stays as it is
abbrev pub caught_stage : Option Tick → Option Tick → Stage → Stage
caught_stage None cancelled stage = stage
caught_stage (Some tick) (Some from) stage = stage
caught_stage (Some tick) None stage = stage_to tick stage

-- up to which tick a run was not seen as cancelled, once the last poll of all has passed it over
abbrev pub caught_clear : Option Tick → Option Tick → Stage → Option Tick → Option Tick
caught_clear None cancelled stage clear = clear
caught_clear (Some tick) (Some from) stage clear = clear
caught_clear (Some tick) None stage clear = clear_passed tick stage clear

-- an entry as the last poll of all would have left it, had it not passed it over
abbrev pub caught : Option Tick → Entry → Entry
caught polled e = record e { run = record e.run { stage = caught_stage polled e.run.cancelled e.run.stage; clear = caught_clear polled e.run.cancelled e.run.stage e.run.clear } }

-- the task that a book shows for an entry
abbrev pub shown : Option Tick → Entry → Task
shown polled e = task_of (caught polled e)

-- an entry in progress was polled in the last poll of all, or sleeps on after it
abbrev pub IsPassedBy : Option Tick → Option Tick → Stage → Type 0
IsPassedBy polled wake Fresh = Unit {0}
IsPassedBy polled wake (Set begun at) = ⊥
IsPassedBy None wake (Polled begun at) = ⊥
IsPassedBy (Some tick) wake (Polled begun at) = (at ≤ tick) × IsLater tick wake
IsPassedBy polled wake Done = ⊥

-- ---- entries that are polled again

-- what was seen as not cancelled was seen in the last poll of all or before it
abbrev pub IsSeenBy : Option Tick → Option Tick → Type 0
IsSeenBy None clear = clear ≡ None
IsSeenBy (Some tick) clear = IsBy tick clear

-- a task not begun is begun in the next tick, and one in progress was last polled before it
abbrev pub IsWaitingAt : Tick → Tick → Stage → Type 0
IsWaitingAt next first Fresh = first ≡ next
IsWaitingAt next first (Set begun at) = ⊥
IsWaitingAt next first (Polled begun at) = begun ≡ first
IsWaitingAt next first Done = ⊥

-- an entry that is polled again in a tick or after it
pub record IsWaiting (next : Tick) (polled : Option Tick) (e : Entry) : Type 0 where
  pub stage : IsWaitingAt next e.first e.run.stage
  pub passed : IsPassedBy polled e.run.wake e.run.stage
  pub before : IsBefore next e.run.cancelled
  pub clear : IsSeenBy polled e.run.clear
  pub end : NoneBefore e.run e.run.wake

-- all entries are polled again in a tick or after it
abbrev pub AreWaiting : Tick → Option Tick → List Entry → Type 0
AreWaiting next polled [] = Unit {0}
AreWaiting next polled (e ∷ es) = IsWaiting next polled e × AreWaiting next polled es

-- the same of the tick after the last one, where there was one; else there is no entry
abbrev pub AreWaitingAfter : Option Tick → Option Tick → List Entry → Type 0
AreWaitingAfter None polled es = es ≡ []
AreWaitingAfter (Some last) polled es = AreWaiting (last + 1) polled es

-- when a run in a stage may give something next
abbrev pub wake_of_stage : Tick → Run → Stage → Option Tick
wake_of_stage first run Fresh = Some first
wake_of_stage first run (Set begun at) = None
wake_of_stage first run (Polled begun at) = run.wake
wake_of_stage first run Done = None

-- the same of an entry
abbrev pub wake_of_entry : Entry → Option Tick
wake_of_entry e = wake_of_stage e.first e.run e.run.stage

-- the same of all
abbrev pub wake_of_all : List Entry → Option Tick
wake_of_all [] = None
wake_of_all (e ∷ es) = sooner (wake_of_entry e) (wake_of_all es)

-- ---- cancellables that are heeded

-- whether an entry has a cancellable that no poll saw as cancelled
abbrev pub heeds : Entry → Bool
heeds e = is_some e.cancel && not (is_some e.run.cancelled)

-- whether a cancellable is one of a list
abbrev pub is_heeded : CancellableNumber → List CancellableNumber → Bool
is_heeded c cs = list_any (λ x. x == c) cs

-- a list with one more, if it is not there
abbrev pub heeding : Option CancellableNumber → List CancellableNumber → List CancellableNumber
heeding None cs = cs
heeding (Some c) cs = if is_heeded c cs then cs else cs ++ c ∷ []

-- a cancellable that was not seen as cancelled is one of a list
abbrev pub IsListed : List CancellableNumber → Option CancellableNumber → Option Tick → Type 0
IsListed cs None cancelled = Unit {0}
IsListed cs (Some c) None = is_heeded c cs ≡ true
IsListed cs (Some c) (Some from) = Unit {0}

-- the same of all entries
abbrev pub AreListed : List CancellableNumber → List Entry → Type 0
AreListed cs [] = Unit {0}
AreListed cs (e ∷ es) = IsListed cs e.cancel e.run.cancelled × AreListed cs es

-- whether a run was not polled yet
abbrev pub is_fresh : Stage → Bool
is_fresh Fresh = true
is_fresh (Set begun at) = false
is_fresh (Polled begun at) = false
is_fresh Done = false

-- a cancellable of a run that was polled, and not seen as cancelled, is one of a list
abbrev pub IsListedOnce : List CancellableNumber → Stage → Option CancellableNumber → Option Tick → Type 0
IsListedOnce cs stage cancel cancelled = is_fresh stage ≡ false → IsListed cs cancel cancelled

-- the same of all entries
abbrev pub AreListedOnce : List CancellableNumber → List Entry → Type 0
AreListedOnce cs [] = Unit {0}
AreListedOnce cs (e ∷ es) = IsListedOnce cs e.run.stage e.cancel e.run.cancelled × AreListedOnce cs es

-- ---- what is known of entries

-- later than any tick of a poll, and than any wake that a number tells
abbrev pub never : Tick
never = 2 ^ 32 - 1

-- a wake as a number, which is later than any where there is no wake, or none so soon
abbrev pub due_by : Option Tick → Tick
due_by None = never
due_by (Some wake) = min wake never

-- the mark of some entries
abbrev pub mark_of : List Entry → Mark
mark_of es = record { wake = due_by (wake_of_all es); heeds = list_any heeds es }

-- that of two lists together
abbrev pub joined_mark : Mark → Mark → Mark
joined_mark a b = record { wake = min a.wake b.wake; heeds = a.heeds || b.heeds }

-- ---- entries side by side

-- those of places, in their order; some places have none
abbrev pub held : List (Option Entry) → List Entry
held [] = []
held (None ∷ places) = held places
held (Some e ∷ places) = e ∷ held places

-- those of a leaf
abbrev pub entries_in : Leaf → List Entry
entries_in leaf = held leaf.places.items

-- what stands in a place of a leaf
abbrev pub place_at : ℕ → Leaf → Option Entry
place_at at leaf = get_or leaf.places.items at None

-- the mark of a place: that of its entry, or that of none
abbrev pub mark_at : Option Entry → Mark
mark_at place = mark_of (held (place ∷ []))

-- the marks beside places are their own
abbrev pub IsKnown : Leaf → Type 0
IsKnown leaf = leaf.marks.items ≡ map mark_at leaf.places.items

-- ---- a tree of entries

-- its entries, in start order
abbrev pub entries_below : Tree → List Entry
entries_below Gone = []
entries_below (LeafOf leaf) = entries_in leaf
entries_below (Two' p m a n b) = entries_below a ++ entries_below b

-- each node's marks are those of the entries on its sides, each mark of a leaf that of the place beside it
abbrev pub IsMarked : Tree → Type 0
IsMarked Gone = Unit {0}
IsMarked (LeafOf leaf) = IsKnown leaf
IsMarked (Two' p m a n b) = (m ≡ mark_of (entries_below a)) × (n ≡ mark_of (entries_below b)) × IsMarked a × IsMarked b

-- ---- all entries of a book

-- in start order: those of the tree, and the last ones
abbrev pub entries_of : Tasks → List Entry
entries_of tasks = entries_below tasks.tree ++ entries_in tasks.last

-- all marks are right
abbrev pub AreMarked : Tasks → Type 0
AreMarked tasks = IsMarked tasks.tree × IsKnown tasks.last

-- no entry of a mark wakes in a round, or heeds what may have come
abbrev pub IsQuiet : Round → Mark → Type 0
IsQuiet round mark = (round.tick < mark.wake) × ((round.came && mark.heeds) ≡ false)

-- ---- a book

-- the last poll of all was in the last tick or before it
abbrev pub IsPolledBy : Option Tick → Option Tick → Type 0
IsPolledBy None polled = polled ≡ None
IsPolledBy (Some last) polled = IsBy last polled

-- a tick is some time, the entries wait for the next one, what they heed is listed, first what those that were polled do, and a spent
-- book has forgotten them
pub record IsKept (tick_us : Microseconds) (last polled : Option Tick) (spent : Bool) (heeded : List CancellableNumber) (of_polled : ℕ) (tasks : Tasks) : Type 0 where
  pub some : 0 < tick_us
  pub short : tick_us ≤ longest_tick
  pub waiting : AreWaitingAfter last polled (entries_of tasks)
  pub past : IsPolledBy last polled
  pub marked : AreMarked tasks
  pub listed : AreListed heeded (entries_of tasks)
  pub first : AreListedOnce (take of_polled heeded) (entries_of tasks)
  pub forgotten : spent ≡ true → (last ≡ None) × (entries_of tasks ≡ [])
