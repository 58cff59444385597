-- The words of the commands.
use Rattle.std.specs.Prelude.{ℕ, List, codes}
use Rattle.inspect_arguments.specs.declared.orders.Command.{Command}
use Rattle.inspect_arguments.specs.declared.orders.Command.TheVariants.{Text, Why, Summary, Account, Steps, Stack, Timeline, Notes, Translate}

-- the word of a command
abbrev pub word_of : Command → List ℕ
word_of Text = codes "text"
word_of Why = codes "why"
word_of Summary = codes "summary"
word_of Account = codes "account"
word_of Steps = codes "steps"
word_of Stack = codes "stack"
word_of Timeline = codes "timeline"
word_of Notes = codes "notes"
word_of Translate = codes "translate"
