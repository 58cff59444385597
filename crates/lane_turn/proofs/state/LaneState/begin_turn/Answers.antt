use Rattle.std.proofs.Common.{◌≡◌, ◌+◌, ◌*◌, sym, ap, ◌∙◌, subst, arith, rules}
use Rattle.lane_turn.specs.Lane.{State, Lane, Turn}
use Rattle.lane_turn.specs.Meaning.{lane_of}
use Rattle.lane_turn.specs.Turn.{begun_with, finished}
use Rattle.lane_turn.specs.Polls.{after_polls}
use Rattle.lane_turn.specs.Sound.{IsTidy}
use Rattle.lane_turn.proofs.Turns.{begun_tidy, tidy_on}
use Rattle.lane_turn.proofs.Polls.{polls_as_steps, polls_at_once, polls_keep}
use Rattle.lane_turn.proofs.state.LaneState.begin_turn.Goals as goal

pub returns-in-Ok-clause-polled : goal.returns-in-Ok-clause-polled
returns-in-Ok-clause-polled g c =
    let same : c.deref_mut.result.now ≡ c.self.inside.lane.value = search rules in
    let is : lane_of c.deref_mut.result.now ≡ c.args.self.now.lane = ap lane_of same ∙ ap (λ (k : State). k.lane) c.self.view_is in
    let lane = c.args.self.now.lane in
    let front = g.P.Post.letters c.args.post.now in
    c.in-Ok.ensures.polled ∙ (ap (λ (l : Lane). after_polls c.args.tick (begun_with c.args.tick front l)) is
    ∙ sym (polls_as_steps c.args.script.now c.args.tick (begun_with c.args.tick front lane) lane.tasks.started))

pub returns-in-Ok-clause-going : goal.returns-in-Ok-clause-going
returns-in-Ok-clause-going g c m r =
    let script = c.args.script.now in
    let tick = c.args.tick in
    let lane = c.args.self.now.lane in
    let front = g.P.Post.letters c.args.post.now in
    let same : c.deref_mut.result.now ≡ c.self.inside.lane.value = search rules in
    let is : lane_of c.deref_mut.result.now ≡ lane = ap lane_of same ∙ ap (λ (k : State). k.lane) c.self.view_is in
    let t : Turn = begun_with tick front lane in
    let n = 10000 * (tick + 1) in
    let P : Turn → Type 0 = IsTidy n (m + 20001) (tick + 1) script.cancellables in
    let b = begun_tidy script tick m lane r in
    let tidy : P t = record { sound = record { bound = b.sound.bound; fits = omega (arith, b.sound.fits); within = b.sound.within }; paced = record { next = b.paced.next; few = b.paced.few; sent = b.paced.sent }; now = b.now; view = b.view } in
    subst P (sym (c.in-Ok.ensures.polled ∙ ap (λ (l : Lane). after_polls tick (begun_with tick front l)) is))
    (polls_keep script tick P (tidy_on script n (m + 20001) tick script.cancellables) t tidy)

pub returns-in-Ok-clause-leads : goal.returns-in-Ok-clause-leads
returns-in-Ok-clause-leads g c =
    let script = c.args.script.now in
    let tick = c.args.tick in
    let lane = c.args.self.now.lane in
    let front = g.P.Post.letters c.args.post.now in
    let same : c.deref_mut.result.now ≡ c.self.inside.lane.value = search rules in
    let is : lane_of c.deref_mut.result.now ≡ lane = ap lane_of same ∙ ap (λ (k : State). k.lane) c.self.view_is in
    ap (finished script tick) (c.in-Ok.ensures.polled ∙ ap (λ (l : Lane). after_polls tick (begun_with tick front l)) is)
    ∙ polls_at_once script tick (begun_with tick front lane)
