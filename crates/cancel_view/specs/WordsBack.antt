-- The words of the number of some words are these: so marks, seen as a number, are told apart.
use Rattle.std.proofs.Common.{◌≡◌, ℕ, ◌%◌, ◌/◌, ◌<◌, refl, arith}
use Rattle.cancel_view.specs.declared.marks.Marks.TheInside.{Inside}
use Rattle.cancel_view.specs.Words.{word_end, over, in_words, AreWords, words_of}

low_of : (high low : ℕ) → low < word_end → over high low % word_end ≡ low
low_of high low h = omega arith

high_of : (high low : ℕ) → low < word_end → over high low / word_end ≡ high
high_of high low h = omega arith

pub words_back : (m : Inside) → AreWords m → words_of (in_words m) ≡ m
words_back m h =
    let one = over (over (over m.fifth m.fourth) m.third) m.second in
    let two = over (over m.fifth m.fourth) m.third in
    let three = over m.fifth m.fourth in
    rw (low_of one m.first h.0, high_of one m.first h.0, low_of two m.second h.1, high_of two m.second h.1, low_of three m.third h.2, high_of three m.third h.2, low_of m.fifth m.fourth h.3, high_of m.fifth m.fourth h.3) refl
