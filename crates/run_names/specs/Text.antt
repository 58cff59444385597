-- What the things of a run are called, as its texts have it.
use Rattle.std.specs.Prelude.{ℕ, List, [], ◌∷◌, ◌++◌, codes, Bool, false, ◌||◌, ◌==◌, if◌then◌else◌, Option, Some, None, is_some}
use Rattle.std.specs.Char.{is_ascii_alphanumeric}
use Rattle.std.specs.Fmt.{decimal}
use Rattle.std.specs.List.{list_all}
use Rattle.json.specs.Print.{quoted}
use Rattle.named.specs.Names.{Names}
use Rattle.named.specs.declared.sort.Kind.{Kind}
use Rattle.named.specs.declared.sort.Kind.TheVariants as kinds
use Rattle.run_names.specs.declared.label.Label.{Label}
use Rattle.run_names.specs.declared.label.Origin.{Origin}
use Rattle.run_names.specs.declared.label.Origin.TheVariants.{Slot, Reply, Invoke}
use Rattle.run_names.specs.declared.label.Seat.{Seat}
use Rattle.run_names.specs.declared.thing.Thing.{Thing}
use Rattle.run_names.specs.declared.thing.Thing.TheVariants as things
use Rattle.run_names.specs.Called.{name_in}
use Rattle.run_names.specs.Labelled.{label_of}

-- what the things of a run are called: by the names of its script, where it has some; its sources and handlers by labels
pub record Calling : Type 0 where
  pub names : Option Names
  pub sources : List (Seat × Label)
  pub handlers : List (Seat × Label)

-- a byte that needs no quotes: a letter, a digit, _ or -
abbrev pub is_plain : ℕ → Bool
is_plain b = (is_ascii_alphanumeric b || b == 95) || b == 45

-- a name that needs no quotes
abbrev pub is_bare : List ℕ → Bool
is_bare [] = false
is_bare (b ∷ bs) = list_all is_plain (b ∷ bs)

-- a name: as it is, or in quotes, as JSON has it
abbrev pub name_text : List ℕ → List ℕ
name_text name = if is_bare name then name else quoted name

-- a number that has no name, which is marked where there are names
abbrev pub number_text : Option Names → ℕ → List ℕ
number_text None n = decimal n
number_text (Some ns) n = codes "#" ++ decimal n

-- a name, or else a number
abbrev pub name_or : Option (List ℕ) → List ℕ → List ℕ
name_or None number = number
name_or (Some name) number = name_text name

-- what has a number among those of a kind
abbrev pub called : Kind → ℕ → Option Names → List ℕ
called kind n ns = name_or (name_in kind n ns) (number_text ns n)

-- a text, which is always in quotes, or else a number
abbrev pub quoted_or : Option (List ℕ) → List ℕ → List ℕ
quoted_or None number = number
quoted_or (Some text) number = quoted text

-- a number behind what has it
abbrev pub within : Kind → ℕ → ℕ → Option Names → List ℕ
within kind home n ns = called kind home ns ++ (codes "." ++ decimal n)

-- where a source or a handler comes from
abbrev pub origin_text : Option Names → Origin → List ℕ
origin_text ns (Slot slot) = called kinds.Slot slot ns
origin_text ns (Reply lane number) = codes "reply of task " ++ within kinds.Thread lane number ns
origin_text ns (Invoke procedure) = codes "invoke of " ++ called kinds.Procedure procedure ns

-- which of those that come from there it is
abbrev pub place_text : ℕ → List ℕ
place_text place = if place == 1 then [] else codes " #" ++ decimal place

abbrev pub label_text : Option Names → Label → List ℕ
label_text ns label = origin_text ns label.origin ++ place_text label.place

-- an id that has no label, which is marked where there are names
abbrev pub id_text : Option Names → ℕ → List ℕ
id_text None id = decimal id
id_text (Some ns) id = codes "##" ++ decimal id

-- a source that has no label
abbrev pub seat_text : Option Names → ℕ → ℕ → List ℕ
seat_text None context id = within kinds.Context context id None
seat_text (Some ns) context id = id_text (Some ns) id ++ (codes " in " ++ called kinds.Context context (Some ns))

-- a label, or else a text
abbrev pub label_or : Option Names → Option Label → List ℕ → List ℕ
label_or ns None other = other
label_or ns (Some label) other = label_text ns label

-- what a source is called
abbrev pub source_text : Calling → ℕ → ℕ → List ℕ
source_text c context id = label_or c.names (label_of (record { home = context; id = id }) c.sources) (seat_text c.names context id)

-- what a handler is called
abbrev pub handler_text : Calling → ℕ → ℕ → List ℕ
handler_text c lane id = label_or c.names (label_of (record { home = lane; id = id }) c.handlers) (id_text c.names id)

-- what something is called
abbrev pub thing_text : Calling → Thing → List ℕ
thing_text c (things.Thread n) = called kinds.Thread n c.names
thing_text c (things.Context n) = called kinds.Context n c.names
thing_text c (things.Loop n) = called kinds.Loop n c.names
thing_text c (things.Procedure n) = called kinds.Procedure n c.names
thing_text c (things.Cancellable n) = called kinds.Cancellable n c.names
thing_text c (things.Descriptor n) = called kinds.Descriptor n c.names
thing_text c (things.Slot n) = called kinds.Slot n c.names
thing_text c (things.Text n) = quoted_or (name_in kinds.Text n c.names) (number_text c.names n)
thing_text c (things.Source context id) = source_text c context id
thing_text c (things.Task lane number) = within kinds.Thread lane number c.names
thing_text c (things.Handler lane id) = handler_text c lane id

-- the word of a kind
abbrev pub kind_word : Thing → List ℕ
kind_word (things.Thread n) = codes "thread"
kind_word (things.Context n) = codes "context"
kind_word (things.Loop n) = codes "loop"
kind_word (things.Procedure n) = codes "procedure"
kind_word (things.Cancellable n) = codes "cancellable"
kind_word (things.Descriptor n) = codes "descriptor"
kind_word (things.Slot n) = codes "slot"
kind_word (things.Text n) = codes "text"
kind_word (things.Source context id) = codes "source"
kind_word (things.Task lane number) = codes "task"
kind_word (things.Handler lane id) = codes "handler"

-- whether it is a source that is called by where it comes from
abbrev pub has_label : Calling → Thing → Bool
has_label c (things.Source context id) = is_some (label_of (record { home = context; id = id }) c.sources)
has_label c thing = false

-- what something is called, with the word of its kind; where a source comes from needs none
abbrev pub full_text : Calling → Thing → List ℕ
full_text c thing = if has_label c thing then thing_text c thing else kind_word thing ++ (codes " " ++ thing_text c thing)

-- what a source is called where its context was said
abbrev pub source_here : Calling → ℕ → ℕ → List ℕ
source_here c context id = label_or c.names (label_of (record { home = context; id = id }) c.sources) (codes "source " ++ decimal id)
