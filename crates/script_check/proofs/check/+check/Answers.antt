use Rattle.std.proofs.Common.{◌≡◌, ◌++◌, ◌-◌, [], ◌∷◌, List, drop, map, ap, sym, ◌∙◌, append_assoc, arith}
use Rattle.std.proofs.lemmas.List.{drop_all, append-nil}
use Rattle.serde_json.specs.View.{view}
use Rattle.script_check.specs.Found.{Found}
use Rattle.script_check.specs.Own.{own}
use Rattle.script_check.specs.Parts.{Part, parts}
use Rattle.script_check.specs.Faults.{faults_in, found_at, together}
use Rattle.script_check.specs.Views.{form_of}
use Rattle.script_check.specs.Seen.{part_view, found_of}
use Rattle.script_check.proofs.Steps.{faults_step, faults_none}
use Rattle.script_check.proofs.check.+check.Goals as goal

pub returns-then-levels-eq0-clause-faults : goal.returns-then-levels-eq0-clause-faults
returns-then-levels-eq0-clause-faults t c =
    let before = map found_of c.args.faults.now.items in
    let none : faults_in c.args.levels c.args.place.now (form_of c.args.wanted) (view c.args.value.now) ≡ [] = faults_none c.args.levels c.args.place.now (form_of c.args.wanted) (view c.args.value.now) c.if-levels-eq0.true in
    sym (append-nil before) ∙ ap (λ xs. before ++ xs) (sym none)

pub returns-clause-faults : goal.returns-clause-faults
returns-clause-faults t c =
    let place = c.args.place.now in
    let f = form_of c.args.wanted in
    let d = view c.args.value.now in
    let each : Part → List Found = λ p. faults_in (c.args.levels - 1) (place ++ p.step ∷ []) p.form p.inner in
    let xs = c.as_slice-part-items.result.now in
    let before = map found_of c.args.faults.now.items in
    let last = map found_of c.loop-part.faults.items in
    let none : drop c.loop-part.part-index xs ≡ [] = drop_all c.loop-part.part-index xs (omega arith) in
    let same : map part_view xs ≡ parts f d = ap (map part_view) c.as_slice-part-items.ensures.value ∙ c.in_ok-parts.ensures ∙ ap (λ g. parts g d) c.shape.ensures in
    let own_first : map found_of c.push_own.new.faults.items ≡ before ++ found_at place f (own f d) = c.in_ok-push_own.ensures in
    let step = faults_step c.args.levels place f d (λ z. c.if-levels-eq0.false z) in
    sym (append-nil last) ∙ ap (λ ys. last ++ together each (map part_view ys)) (sym none) ∙ c.loop-part.invariant.found
    ∙ ap (λ ys. ys ++ together each (map part_view xs)) own_first ∙ ap (λ q. (before ++ found_at place f (own f d)) ++ together each q) same
    ∙ append_assoc before (found_at place f (own f d)) (together each (parts f d)) ∙ ap (λ ys. before ++ ys) (sym step)
