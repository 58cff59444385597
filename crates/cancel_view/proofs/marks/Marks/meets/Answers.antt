use Rattle.std.proofs.Common.{◌∙◌, ap₂}
use Rattle.cancel_view.specs.Marks.{meets}
use Rattle.cancel_view.proofs.Words.{meets_words}
use Rattle.cancel_view.proofs.marks.Marks.meets.Goals as goal

pub returns : goal.returns
returns c = meets_words c.self.inside c.other.inside c.self.invariant c.other.invariant ∙ ap₂ meets c.self.view_is c.other.view_is
