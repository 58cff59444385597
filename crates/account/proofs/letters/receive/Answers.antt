use Rattle.std.proofs.Common.{◌≡◌, ℕ, zero, suc, ◌+◌, ◌-◌, ◌<◌, List, ◌∷◌, [], length, take, drop, get_or, ap, sym, subst, ◌∙◌, arith}
use Rattle.std.proofs.lemmas.List.{drop_more}
use Rattle.post_office.specs.declared.letter.Letter.{Letter}
use Rattle.lane_turn.specs.Lane.{Lane, State}
use Rattle.lane_turn.specs.Traces.{Grows, IsOf}
use Rattle.lane_turn.proofs.Traced.{delivery_grows}
use Rattle.account.proofs.Lines.{grows_put}
use Rattle.account.proofs.States.{may_here, receives_at, unspent_put}
use Rattle.account.proofs.letters.receive.Goals as goal

-- the letter in a place, and the list of it alone
letter_at : (letters : List Letter) (k : ℕ) → k < length letters → Letter
letter_at [] k h = absurd (omega (arith, h))
letter_at (l ∷ letters) zero h = l
letter_at (l ∷ letters) (suc k) h = letter_at letters k (omega (arith, h))

one_of : (letters : List Letter) (k : ℕ) (h : k < length letters) → take (k + 1 - k) (drop k letters) ≡ get_or letters k (letter_at letters k h) ∷ []
one_of letters k h =
    let one : k + 1 - k ≡ 1 = omega arith in
    ap (λ (n : ℕ). take n (drop k letters)) one ∙ ap (take 1) (drop_more letters k (letter_at letters k h) h)

pub deliver-requires-clause-ready : goal.deliver-requires-clause-ready
deliver-requires-clause-ready c _ =
    may_here c.args.script.now c.args.tick c.args.lanes.now c.args.at c.index-lanes-at.result (drop c.args.place c.args.letters.now) c.args.letters.now (omega arith) c.requires.may

pub returns-clause-moved : goal.returns-clause-moved
returns-clause-moved c =
    let d : State = c.index-lanes-at.result in
    receives_at c.args.script.now c.args.tick c.args.lanes.now c.args.at c.args.place d c.deliver.new.self (letter_at c.args.letters.now c.args.place (omega arith)) c.args.letters.now _ (omega arith) (omega arith)
    (one_of c.args.letters.now c.args.place (omega arith)) c.in_ok-deliver.ensures.delivered

pub returns-clause-unspent : goal.returns-clause-unspent
returns-clause-unspent c = unspent_put c.args.lanes.now c.args.at c.deliver.new.self c.requires.unspent c.in_ok-deliver.ensures.lasts

pub returns-clause-grows : goal.returns-clause-grows
returns-clause-grows c =
    let d : State = c.index-lanes-at.result in
    let lane : Lane = (get_or c.args.lanes.now c.args.at d).lane in
    grows_put c.args.tick c.args.lanes.now c.args.at d c.deliver.new.self (omega arith)
    (subst (λ (l : Lane). Grows (IsOf c.args.tick) lane.trace l.trace) (sym c.in_ok-deliver.ensures.delivered) (delivery_grows c.args.script.now c.args.tick (take (c.args.place + 1 - c.args.place) (drop c.args.place c.args.letters.now)) lane))
