use Rattle.std.proofs.Common.{ℕ, None, Some, List, sym, subst}
use Rattle.std.proofs.lemmas.Str.Pattern.{split_text_parts}
use Rattle.short_numbers.specs.Number.{IsNumber}
use Rattle.inspect_arguments.proofs.Cuts.{same_parts}
use Rattle.inspect_arguments.proofs.values.numbers_of.Goals as goal

pub returns-in_err-left-clause-exact : goal.returns-in_err-left-clause-exact
returns-in_err-left-clause-exact c first second are =
    absurd (split_text_parts c.args.between.now c.args.text.now None c.in_err-left.ensures.cases are.front are.back are.parts)

pub returns-in_err-left-2-clause-exact : goal.returns-in_err-left-2-clause-exact
returns-in_err-left-2-clause-exact c first second are =
    let left = c.in_ok-left.left.now in
    let right = c.in_ok-left.right.now in
    let cut = split_text_parts c.args.between.now c.args.text.now (Some (c.in_ok-left.left, c.in_ok-left.right)) c.in_ok-left.ensures.cases in
    let same = same_parts c.args.between.now c.args.text.now are.front are.back left right c.requires are.left.digits.1 are.right.digits.1 are.parts cut in
    let is : IsNumber left first = subst (λ (w : List ℕ). IsNumber w first) (sym same.0) are.left in
    let no = c.in_err-left-2.ensures.exact first is in
    absurd cc

pub returns-in_err-right-clause-exact : goal.returns-in_err-right-clause-exact
returns-in_err-right-clause-exact c first second are =
    let left = c.in_ok-left.left.now in
    let right = c.in_ok-left.right.now in
    let cut = split_text_parts c.args.between.now c.args.text.now (Some (c.in_ok-left.left, c.in_ok-left.right)) c.in_ok-left.ensures.cases in
    let same = same_parts c.args.between.now c.args.text.now are.front are.back left right c.requires are.left.digits.1 are.right.digits.1 are.parts cut in
    let is : IsNumber right second = subst (λ (w : List ℕ). IsNumber w second) (sym same.1) are.right in
    let no = c.in_err-right.ensures.exact second is in
    absurd cc

pub returns-clause-exact : goal.returns-clause-exact
returns-clause-exact c first second are =
    let left = c.in_ok-left.left.now in
    let right = c.in_ok-left.right.now in
    let cut = split_text_parts c.args.between.now c.args.text.now (Some (c.in_ok-left.left, c.in_ok-left.right)) c.in_ok-left.ensures.cases in
    let same = same_parts c.args.between.now c.args.text.now are.front are.back left right c.requires are.left.digits.1 are.right.digits.1 are.parts cut in
    let one : IsNumber left first = subst (λ (w : List ℕ). IsNumber w first) (sym same.0) are.left in
    let two : IsNumber right second = subst (λ (w : List ℕ). IsNumber w second) (sym same.1) are.right in
    let read_one = c.in_ok-left-2.ensures.exact first one in
    let read_two = c.in_ok-right.ensures.exact second two in
    cc
