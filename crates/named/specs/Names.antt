-- The names of a script, in the order that gives them their numbers.
use Rattle.std.specs.Prelude.{ℕ, suc, List, [], ◌∷◌, ◌++◌, length, Bool, true, not, ◌&&◌, ◌==◌, nat_lt, if◌then◌else◌, Option, Some, None, option_and_then, option_to_list}
use Rattle.std.specs.List.{list_any}
use Rattle.std.specs.Str.{bytes_eq}
use Rattle.json.specs.Json.{Json, Items, no_items, item, Members, no_members, member}
use Rattle.json.specs.Find.{get, as_str, as_array, as_object}
use Rattle.named.specs.Words.{text_of}
use Rattle.named.specs.declared.word.Word.{Word}
use Rattle.named.specs.declared.word.Word.TheVariants as word
use Rattle.named.specs.declared.sort.Kind.{Kind}
use Rattle.named.specs.declared.sort.Kind.TheVariants as kinds

-- the names of a script, by kinds, each list in the order of their numbers
pub record Names : Type 0 where
  pub threads : List (List ℕ)
  pub contexts : List (List ℕ)
  pub loops : List (List ℕ)
  pub procedures : List (List ℕ)
  pub cancellables : List (List ℕ)
  pub descriptors : List (List ℕ)
  pub slots : List (List ℕ)
  pub texts : List (List ℕ)

-- the names of a kind
abbrev pub of_kind : Kind → Names → List (List ℕ)
of_kind kinds.Thread ns = ns.threads
of_kind kinds.Context ns = ns.contexts
of_kind kinds.Loop ns = ns.loops
of_kind kinds.Procedure ns = ns.procedures
of_kind kinds.Cancellable ns = ns.cancellables
of_kind kinds.Descriptor ns = ns.descriptors
of_kind kinds.Slot ns = ns.slots
of_kind kinds.Text ns = ns.texts

-- how many of a kind have a number
abbrev pub most : Kind → ℕ
most kinds.Thread = 64
most kinds.Procedure = 1024
most kinds.Text = 4096
most k = 256

-- the number of a name, where they have the numbers from n on
abbrev pub number_from : ℕ → List ℕ → List (List ℕ) → Option ℕ
number_from n name [] = None
number_from n name (x ∷ xs) = if bytes_eq x name then Some n else number_from (suc n) name xs

-- the place of a name among those of its kind
abbrev pub number_of : List ℕ → List (List ℕ) → Option ℕ
number_of name names = number_from 0 name names

-- a name behind the others, where it is none of them and there is a number for it
abbrev pub added : ℕ → List ℕ → List (List ℕ) → List (List ℕ)
added limit name xs = if not (list_any (λ x. bytes_eq x name) xs) && nat_lt (length xs) limit then xs ++ name ∷ [] else xs

-- names one after the other
abbrev pub all_added : ℕ → List (List ℕ) → List (List ℕ) → List (List ℕ)
all_added limit xs [] = xs
all_added limit xs (name ∷ names) = all_added limit (added limit name xs) names

-- the items, where there are some
abbrev pub items_or_none : Option Items → Items
items_or_none None = no_items
items_or_none (Some js) = js

-- the items of a list, where there is one
abbrev pub items_in : Option Json → Items
items_in o = items_or_none (option_and_then as_array o)

-- the members, where there are some
abbrev pub members_or_none : Option Members → Members
members_or_none None = no_members
members_or_none (Some ms) = ms

-- the members of an object, where there is one
abbrev pub members_in : Option Json → Members
members_in o = members_or_none (option_and_then as_object o)

-- what an object has under a key
abbrev pub under : Word → Json → Option Json
under w j = get (text_of w) j

-- the texts among items
abbrev pub texts_of : Items → List (List ℕ)
texts_of no_items = []
texts_of (item j js) = option_to_list (as_str j) ++ texts_of js

-- the keys of members
abbrev pub keys_of : Members → List (List ℕ)
keys_of no_members = []
keys_of (member k j ms) = k ∷ keys_of ms

-- the contexts of a thread; one that names none has one of its own name
abbrev pub contexts_or : List ℕ → Option Json → List (List ℕ)
contexts_or thread None = thread ∷ []
contexts_or thread (Some j) = texts_of (items_in (Some j))

-- the contexts of threads, one thread after the other
abbrev pub contexts_of : Members → List (List ℕ)
contexts_of no_members = []
contexts_of (member thread j ms) = contexts_or thread (under word.Contexts j) ++ contexts_of ms

-- what an action says under some keys
abbrev pub said : List Word → Json → List (List ℕ)
said [] j = []
said (w ∷ ws) j = option_to_list (option_and_then as_str (under w j)) ++ said ws j

-- what actions say under some keys
abbrev pub said_in : List Word → Items → List (List ℕ)
said_in ws no_items = []
said_in ws (item j js) = said ws j ++ said_in ws js

-- what the actions of each member say that stand in a list under a key
abbrev pub said_by : List Word → Word → Members → List (List ℕ)
said_by ws key no_members = []
said_by ws key (member k j ms) = said_in ws (items_in (under key j)) ++ said_by ws key ms

-- what all actions say: those with which the threads begin, then those of the procedures
abbrev pub said_under : List Word → Json → List (List ℕ)
said_under ws j = said_by ws word.Start (members_in (under word.Threads j)) ++ said_by ws word.Do (members_in (under word.Procedures j))

-- the actions that let a slot name something
abbrev pub naming : List Word
naming = word.Attach ∷ word.Child ∷ word.Connect ∷ []

-- the actions that write a text
abbrev pub logging : List Word
logging = word.Log ∷ []

-- the names that a script gives to things of a kind, in order
abbrev pub declared : Kind → Json → List (List ℕ)
declared kinds.Thread j = keys_of (members_in (under word.Threads j))
declared kinds.Context j = contexts_of (members_in (under word.Threads j))
declared kinds.Loop j = keys_of (members_in (under word.Loops j))
declared kinds.Procedure j = keys_of (members_in (under word.Procedures j))
declared kinds.Cancellable j = texts_of (items_in (under word.Cancellables j))
declared kinds.Descriptor j = keys_of (members_in (under word.Descriptors j))
declared kinds.Slot j = said_under naming j
declared kinds.Text j = said_under logging j

-- the names of a kind, each once, as far as there are numbers
abbrev pub numbered : Kind → Json → List (List ℕ)
numbered k j = all_added (most k) [] (declared k j)

-- the names of a script
abbrev pub names_in : Json → Names
names_in j = record {
  threads = numbered kinds.Thread j;
  contexts = numbered kinds.Context j;
  loops = numbered kinds.Loop j;
  procedures = numbered kinds.Procedure j;
  cancellables = numbered kinds.Cancellable j;
  descriptors = numbered kinds.Descriptor j;
  slots = numbered kinds.Slot j;
  texts = numbered kinds.Text j;
}

-- whether each name that is given to a thing of a kind has a number: none stands twice, and they are not too many; those of slots and
-- texts may stand more often
abbrev pub has_all : Kind → Names → Json → Bool
has_all kinds.Slot ns j = true
has_all kinds.Text ns j = true
has_all k ns j = length (declared k j) == length (of_kind k ns)
