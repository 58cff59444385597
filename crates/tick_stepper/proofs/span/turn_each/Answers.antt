use Rattle.std.proofs.Common.{◌≡◌, ◌∙◌, ℕ, map, true, sym, ap, subst, rules}
use Rattle.std.specs.List.{All}
use Rattle.std.proofs.lemmas.List.Sorted.{IsPermutation-refl, IsPermutation-sym}
use Rattle.loop_script.specs.declared.plan.Plan.{Plan}
use Rattle.lane_turn.specs.Lane.{State}
use Rattle.tick_stepper.specs.Call.{IsCall, IsReply}
use Rattle.tick_stepper.proofs.Crews.{some_workers, all_named}
use Rattle.tick_stepper.proofs.Rounds.{posted_by_sender}
use Rattle.tick_stepper.proofs.Answering.{all_calls, turns_back, letters_back}
use Rattle.tick_stepper.proofs.span.turn_each.Goals as goal

pub share_out-requires-clause-some : goal.share_out-requires-clause-some
share_out-requires-clause-some g c = some_workers c.args.script.now c.args.crew.now.workers c.args.crew.now.sharing c.requires.crew

pub share_out-requires-clause-named : goal.share_out-requires-clause-named
share_out-requires-clause-named g c = all_named c.args.script.now c.args.crew.now c.args.lanes.items c.requires.crew c.requires.lanes.below

pub calls_of-requires : goal.calls_of-requires
calls_of-requires g c =
    let shares = c.in_ok-shares.shares.items in
    subst (λ (p : Plan). All (IsCall p c.args.tick) shares) c.requires.plan
    (all_calls c.args.script.now c.args.tick c.args.lanes.items shares c.requires.tick c.requires.few c.requires.own c.in_ok-shares.ensures.lanes c.in_ok-shares.ensures.trays)

pub returns-clause-lanes : goal.returns-clause-lanes
returns-clause-lanes g c =
    let number : State → ℕ = λ s. s.lane.number in
    let lanes = c.in_ok-lanes.lanes.items in
    let letters = c.in_ok-lanes.letters.items in
    let sorted = c.in_ok-lanes-2.lanes.items in
    let reply = subst (λ (p : Plan). IsReply p c.args.tick lanes letters) (sym c.requires.plan) c.in_ok-lanes.ensures.reply in
    let yes : c.have_numbers.result ≡ true = search rules in
    let same : map number sorted ≡ map number c.args.lanes.items =
    ap (map number) (sym c.as_slice-2.ensures.value) ∙ (c.have_numbers.ensures yes ∙ (c.as_slice-3.ensures.value ∙ (c.in_ok-numbers.ensures ∙ ap (map number) c.as_slice.ensures.value))) in
    turns_back c.args.script.now c.args.tick c.args.lanes.items lanes sorted letters c.requires.own reply c.in_ok-lanes-2.ensures.same same

pub returns-clause-letters : goal.returns-clause-letters
returns-clause-letters g c =
    let number : State → ℕ = λ s. s.lane.number in
    let lanes = c.in_ok-lanes.lanes.items in
    let letters = c.in_ok-lanes.letters.items in
    let sorted = c.in_ok-lanes-2.lanes.items in
    let reply = subst (λ (p : Plan). IsReply p c.args.tick lanes letters) (sym c.requires.plan) c.in_ok-lanes.ensures.reply in
    let yes : c.have_numbers.result ≡ true = search rules in
    let same : map number sorted ≡ map number c.args.lanes.items =
    ap (map number) (sym c.as_slice-2.ensures.value) ∙ (c.have_numbers.ensures yes ∙ (c.as_slice-3.ensures.value ∙ (c.in_ok-numbers.ensures ∙ ap (map number) c.as_slice.ensures.value))) in
    let back = letters_back c.args.script.now c.args.tick c.args.lanes.items lanes sorted letters c.requires.own reply c.in_ok-lanes-2.ensures.same same in
    posted_by_sender c.args.script.now c.args.tick c.args.lanes.items c.args.lanes.items letters c.in_ok-letters.letters.items c.requires.lanes (IsPermutation-refl _) (IsPermutation-sym _ _ back) c.in_ok-letters.ensures.letters c.in_ok-letters.ensures.order
