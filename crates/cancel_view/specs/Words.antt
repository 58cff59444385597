-- A set of marks as the number that its words make, the lowest first.
use Rattle.std.specs.Prelude.{ℕ, ◌+◌, ◌*◌, ◌/◌, ◌%◌, ◌<◌, ◌^◌}
use Rattle.cancel_view.specs.declared.marks.Marks.TheInside.{Inside}

-- how many sets of marks a word tells apart
abbrev pub word_end : ℕ
word_end = 2 ^ 64

-- a number with a word below it
abbrev pub over : ℕ → ℕ → ℕ
over high low = high * word_end + low

-- the number of five words
abbrev pub in_words : Inside → ℕ
in_words m = over (over (over (over m.fifth m.fourth) m.third) m.second) m.first

-- each is a word
abbrev pub AreWords : Inside → Type 0
AreWords m = (m.first < word_end) × (m.second < word_end) × (m.third < word_end) × (m.fourth < word_end) × (m.fifth < word_end)

-- the words of a number
abbrev pub words_of : ℕ → Inside
words_of n = record {
  first = n % word_end;
  second = n / word_end % word_end;
  third = n / word_end / word_end % word_end;
  fourth = n / word_end / word_end / word_end % word_end;
  fifth = n / word_end / word_end / word_end / word_end;
}
