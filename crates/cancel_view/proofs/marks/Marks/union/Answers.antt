use Rattle.std.proofs.Common.{◌∙◌, ap₂}
use Rattle.std.specs.Prelude.{bit_or}
use Rattle.cancel_view.proofs.Words.{or_word, or_words}
use Rattle.cancel_view.proofs.marks.Marks.union.Goals as goal

pub invariant_of-result : goal.invariant_of-result
invariant_of-result c =
    let a = c.self.invariant in
    let b = c.other.invariant in
    (or_word _ _ a.0 b.0, or_word _ _ a.1 b.1, or_word _ _ a.2 b.2, or_word _ _ a.3 b.3, or_word _ _ a.4 b.4)

pub returns : goal.returns
returns c = or_words c.self.inside c.other.inside c.self.invariant c.other.invariant ∙ ap₂ bit_or c.self.view_is c.other.view_is
