use Rattle.std.proofs.Common.{ℕ, List, subst}
use Rattle.short_numbers.specs.Number.{IsNumber}
use Rattle.mainctx.specs.Arguments.{IsWordOf}
use Rattle.mainctx.proofs.Asking.{two_of}
use Rattle.mainctx.proofs.arguments.Asked.read.Goals as goal

pub returns-clause-asked : goal.returns-clause-asked
returns-clause-asked c = record {
  number = c.number-item.result;
  word = c.word-item.result;
  two = two_of c.args.args.now c.number-item.result c.word-item.result c.number-item.is c.word-item.is c.in-len2.len_at_least c.in-len2.len_below;
  workers = subst (λ (b : List ℕ). IsNumber b c.in_ok-workers.workers) c.as_str.ensures.value c.in_ok-workers.ensures.number;
  sharing = subst (λ (b : List ℕ). IsWordOf b c.in_ok-sharing.sharing) c.as_str-2.ensures.value c.in_ok-sharing.ensures.word;
}
