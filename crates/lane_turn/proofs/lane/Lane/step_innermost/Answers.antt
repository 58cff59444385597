use Rattle.std.proofs.Common.{◌≡◌, ◌^◌, ap, ◌∙◌, List, Bool, Option, None, Some, is_some, unwrap_or, ◌-◌, slice_get, sym, refl, ltb-false}
use Rattle.std.proofs.lemmas.Bool.{ltb-true}
use Rattle.std.proofs.lemmas.Result.{IfOk-weaker}
use Rattle.std.proofs.lemmas.Option.{slice_get_past, slice_get_read}
use Rattle.loop_script.specs.declared.action.Action.{Action}
use Rattle.loop_script.specs.Parts.{actions_of}
use Rattle.lane_turn.specs.Frames.{Frame, top_of}
use Rattle.lane_turn.specs.Lane.{Lane, Turn, taken}
use Rattle.lane_turn.specs.Acted.{acted, sends}
use Rattle.lane_turn.specs.Step.{returned, sending, step_loop}
use Rattle.lane_turn.specs.Meaning.{lane_of, turn_of}
use Rattle.lane_turn.proofs.Bounds.{row_within}
use Rattle.lane_turn.proofs.Freely.{call_stepped, counted_one, loop_stepped}
use Rattle.lane_turn.proofs.Halting.{action_counts}
use Rattle.lane_turn.proofs.Layers.{on_ok}
use Rattle.lane_turn.proofs.lane.Lane.step_innermost.Goals as goal

pub dispatch-requires-clause-count : goal.dispatch-requires-clause-count
dispatch-requires-clause-count g c = row_within (2 ^ 62) _ _ (lane_of c.args.self.now) _ c.requires.within c.in-Some-row.ensures

pub returns-in_ok-end_call-in-None-clause-next : goal.returns-in_ok-end_call-in-None-clause-next
returns-in_ok-end_call-in-None-clause-next g c =
    let script = c.args.script.now in
    let lane = lane_of c.args.self.now in
    let t = turn_of c.args.self.now c.args.progress.now (g.P.Post.letters c.args.post.now) in
    let call = c.in-Call.call in
    ap (λ (l : Lane). record t { lane = l }) (c.in_ok-end_call-in-None.ensures ∙ ap (λ (fs : List Frame). returned script c.args.tick call.body call.origin (record lane { frames = fs })) (c.in-Call.ensures.taken.1))
    ∙ call_stepped script c.args.tick t call None refl c.requires.goes c.in-Call.ensures.top (sym (slice_get_past c.actions.result.now call.place (ltb-false _ _ (sym (c.in-None.ensures.lookup.0)))) ∙ ap (λ (xs : List Action). slice_get xs call.place) c.actions.ensures.actions)

pub returns-in_ok-act_and_send-in-Some-clause-next : goal.returns-in_ok-act_and_send-in-Some-clause-next
returns-in_ok-act_and_send-in-Some-clause-next g c =
    let script = c.args.script.now in
    let tick = c.args.tick in
    let lane = lane_of c.args.self.now in
    let t = turn_of c.args.self.now c.args.progress.now (g.P.Post.letters c.args.post.now) in
    let call = c.in-Call.call in
    let action = c.in-Some.action.now in
    let there : Some action ≡ slice_get (actions_of script call.body) call.place = sym (slice_get_read c.actions.result.now _ call.place action refl (ltb-true _ _ (sym (c.in-Some.ensures.lookup.0))) (c.in-Some.ensures.lookup.1)) ∙ ap (λ (xs : List Action). slice_get xs call.place) c.actions.ensures.actions in
    let done : List Frame → Turn = λ fs. let l : Lane = record lane { frames = fs } in record (sending tick (sends script action l) t) { lane = acted script tick action l; left = t.left - 1 } in
    c.in_ok-act_and_send-in-Some.ensures.acted ∙ (ap done (c.in-Call.ensures.taken.0 c.if-prove.false)
    ∙ (counted_one tick (sends script action (taken lane)) (λ (l : Lane). acted script tick action (taken l)) t (action_counts script t.left lane call action (top_of lane.frames) c.in-Call.ensures.top c.requires.free there)
    ∙ call_stepped script tick t call (Some action) refl c.requires.goes c.in-Call.ensures.top there))

pub returns-in-Loop-clause-more : goal.returns-in-Loop-clause-more
returns-in-Loop-clause-more g c =
    let script = c.args.script.now in
    let letters = g.P.Post.letters c.args.post.now in
    let t = turn_of c.args.self.now c.args.progress.now letters in
    let number = c.in-Loop.number in
    let context = c.in-Loop.context in
    let any : List Frame → Bool = λ fs. is_some (step_loop script c.args.tick (record t { lane = record t.lane { frames = fs } }) number context) in
    let on = ap any c.in-Loop.ensures.taken ∙ ap (λ (o : Option Turn). is_some o) (loop_stepped script c.args.tick t number context refl c.requires.goes c.in-Loop.ensures.top) in
    IfOk-weaker c.step_loop.result _ _ (λ more h. h ∙ on) (c.step_loop.ensures.more letters)

pub returns-in-Loop-clause-next : goal.returns-in-Loop-clause-next
returns-in-Loop-clause-next g c =
    let script = c.args.script.now in
    let letters = g.P.Post.letters c.args.post.now in
    let t = turn_of c.args.self.now c.args.progress.now letters in
    let number = c.in-Loop.number in
    let context = c.in-Loop.context in
    let next : List Frame → Turn = λ fs. let u : Turn = record t { lane = record t.lane { frames = fs } } in unwrap_or (step_loop script c.args.tick u number context) u in
    let on = ap next c.in-Loop.ensures.taken ∙ ap (λ (o : Option Turn). unwrap_or o t) (loop_stepped script c.args.tick t number context refl c.requires.goes c.in-Loop.ensures.top) in
    on_ok c.step_loop.result (λ h. h ∙ on) (c.step_loop.ensures.next letters)
