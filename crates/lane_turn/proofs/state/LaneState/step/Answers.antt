use Rattle.std.proofs.Common.{◌≡◌, ◌+◌, ◌*◌, false, is_some, sym, ap, ◌∙◌, subst, rules}
use Rattle.lane_turn.specs.Lane.{State, Lane, Turn}
use Rattle.lane_turn.specs.Meaning.{lane_of, turn_at}
use Rattle.lane_turn.specs.Step.{step}
use Rattle.lane_turn.specs.Turn.{stepped, finished}
use Rattle.lane_turn.specs.Sound.{IsTidy}
use Rattle.lane_turn.proofs.Finish.{finished_same, finished_now, stepped_now}
use Rattle.lane_turn.proofs.Turns.{tidy_stays, number_stays}
use Rattle.lane_turn.proofs.state.LaneState.step.Goals as goal

pub returns-in-Ok-clause-going : goal.returns-in-Ok-clause-going
returns-in-Ok-clause-going g c m h =
    let script = c.args.script.now in
    let tick = c.args.tick in
    let letters = g.P.Post.letters c.args.post.now in
    let n = 10000 * (tick + 1) in
    let same : c.deref_mut.result.now ≡ c.self.inside.lane.value = search rules in
    let is : lane_of c.deref_mut.result.now ≡ c.args.self.now.lane = ap lane_of same ∙ ap (λ (k : State). k.lane) c.self.view_is in
    let next = c.in-Ok.ensures.next ∙ ap (λ (l : Lane). stepped script tick (turn_at l c.args.turn.now letters)) is in
    subst (IsTidy n m (tick + 1) script.cancellables) (sym next) (tidy_stays script n m tick script.cancellables (turn_at c.args.self.now.lane c.args.turn.now letters) h)

pub returns-in-Ok-clause-leads : goal.returns-in-Ok-clause-leads
returns-in-Ok-clause-leads g c =
    let script = c.args.script.now in
    let tick = c.args.tick in
    let letters = g.P.Post.letters c.args.post.now in
    let same : c.deref_mut.result.now ≡ c.self.inside.lane.value = search rules in
    let is : lane_of c.deref_mut.result.now ≡ c.args.self.now.lane = ap lane_of same ∙ ap (λ (k : State). k.lane) c.self.view_is in
    let next = c.in-Ok.ensures.next ∙ ap (λ (l : Lane). stepped script tick (turn_at l c.args.turn.now letters)) is in
    ap (finished script tick) next ∙ finished_same script tick (turn_at c.args.self.now.lane c.args.turn.now letters)

pub returns-in-Ok-clause-over : goal.returns-in-Ok-clause-over
returns-in-Ok-clause-over g c e =
    let script = c.args.script.now in
    let tick = c.args.tick in
    let letters = g.P.Post.letters c.args.post.now in
    let t = turn_at c.args.self.now.lane c.args.turn.now letters in
    let same : c.deref_mut.result.now ≡ c.self.inside.lane.value = search rules in
    let is : lane_of c.deref_mut.result.now ≡ c.args.self.now.lane = ap lane_of same ∙ ap (λ (k : State). k.lane) c.self.view_is in
    let next = c.in-Ok.ensures.next ∙ ap (λ (l : Lane). stepped script tick (turn_at l c.args.turn.now letters)) is in
    let no : c.in-Ok.more ≡ false = cc in
    let none = sym (c.in-Ok.ensures.more ∙ ap (λ (l : Lane). is_some (step script tick (turn_at l c.args.turn.now letters))) is) ∙ no in
    finished_now script tick t none ∙ (sym (stepped_now script tick t none) ∙ sym next)

-- a step changes no lane's number
pub returns-in-Ok-clause-own : goal.returns-in-Ok-clause-own
returns-in-Ok-clause-own g c =
    let script = c.args.script.now in
    let tick = c.args.tick in
    let letters = g.P.Post.letters c.args.post.now in
    let same : c.deref_mut.result.now ≡ c.self.inside.lane.value = search rules in
    let is : lane_of c.deref_mut.result.now ≡ c.args.self.now.lane = ap lane_of same ∙ ap (λ (k : State). k.lane) c.self.view_is in
    let next = c.in-Ok.ensures.next ∙ ap (λ (l : Lane). stepped script tick (turn_at l c.args.turn.now letters)) is in
    c.requires.own (search rules) ∙ sym (ap (λ (u : Turn). u.lane.number) next ∙ number_stays script tick (turn_at c.args.self.now.lane c.args.turn.now letters))
