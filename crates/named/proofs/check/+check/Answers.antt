use Rattle.std.proofs.Common.{◌≡◌, ◌++◌, ◌-◌, [], ◌∷◌, List, map, ap, sym, ◌∙◌, append_assoc}
use Rattle.std.proofs.lemmas.List.{append-nil}
use Rattle.std.proofs.lemmas.Result.{on_ok_weaker}
use Rattle.json.specs.Value.{value_view}
use Rattle.named.specs.Faults.{Found, own, found_at, faults_in, together, within}
use Rattle.named.specs.Pieces.{Piece, pieces}
use Rattle.named.specs.Views.{names_of, step_view, piece_view, found_of}
use Rattle.named.proofs.Causes.{faults_none, faults_step}
use Rattle.named.proofs.check.+check.Goals as goal

pub check-returns-then-levels-eq0-clause-faults : goal.check-returns-then-levels-eq0-clause-faults
check-returns-then-levels-eq0-clause-faults t c =
    let before = map found_of c.args.faults.now.items in
    let none = faults_none c.args.levels (names_of c.args.names.now) (map step_view c.args.place.now.items) c.args.sort (value_view c.args.value.now) c.if-levels-eq0.true in
    sym (append-nil before) ∙ ap (λ xs. before ++ xs) (sym none)

pub check-returns-clause-faults : goal.check-returns-clause-faults
check-returns-clause-faults t c =
    let place = map step_view c.args.place.now.items in
    let ns = names_of c.args.names.now in
    let s = c.args.sort in
    let d = value_view c.args.value.now in
    let each : Piece → List Found = within (λ step. faults_in (c.args.levels - 1) ns (place ++ step ∷ [])) in
    let xs = c.as_slice.result.now in
    let before = map found_of c.args.faults.now.items in
    let own_first : map found_of c.push_own.new.faults.items ≡ before ++ found_at place s (own s ns d) = c.in_ok-push_own.ensures in
    let same : map piece_view xs ≡ pieces s ns d = ap (map piece_view) c.as_slice.ensures.value ∙ c.in_ok-pieces.ensures in
    let step = faults_step c.args.levels ns place s d (λ z. c.if-levels-eq0.false z) in
    on_ok_weaker c.check_each.result
    (λ h. h ∙ ap (λ ys. ys ++ together each (map piece_view xs)) own_first ∙ ap (λ q. (before ++ found_at place s (own s ns d)) ++ together each q) same
    ∙ append_assoc before (found_at place s (own s ns d)) (together each (pieces s ns d)) ∙ ap (λ ys. before ++ ys) (sym step))
    c.check_each.ensures.faults
