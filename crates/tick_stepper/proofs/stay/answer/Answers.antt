use Rattle.std.proofs.Common.{subst, sym}
use Rattle.loop_script.specs.declared.plan.Plan.{Plan}
use Rattle.tick_stepper.specs.Call.{IsCall, IsReply}
use Rattle.tick_stepper.proofs.Answering.{call_fresh, call_answered}
use Rattle.tick_stepper.proofs.stay.answer.Goals as goal

pub turn_share-requires-clause-fresh : goal.turn_share-requires-clause-fresh
turn_share-requires-clause-fresh g c κs _ =
    let call = subst (λ (p : Plan). IsCall p c.args.call.tick c.args.call.share) (sym c.requires.plan) c.args.call.is in
    call_fresh c.args.script.now c.args.call.tick c.args.call.share call

pub reply_with-requires : goal.reply_with-requires
reply_with-requires g c =
    let call = subst (λ (p : Plan). IsCall p c.args.call.tick c.args.call.share) (sym c.requires.plan) c.args.call.is in
    let share = c.in_ok-share.share in
    subst (λ (p : Plan). IsReply p c.args.call.tick share.lanes.items share.tray) c.requires.plan (call_answered c.args.script.now c.args.call.tick c.args.call.share share call c.in_ok-share.ensures)
