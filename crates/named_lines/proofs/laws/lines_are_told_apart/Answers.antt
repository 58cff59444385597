use Rattle.named_lines.proofs.Events.{lines_apart, texts_apart}
use Rattle.named_lines.proofs.laws.lines_are_told_apart.Goals as goal

pub returns : goal.returns
returns c = record { lines = lines_apart; texts = texts_apart }
