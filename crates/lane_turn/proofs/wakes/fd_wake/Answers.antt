use Rattle.std.proofs.Common.{◌≡◌, ◌∙◌, ◌<◌, false, Some, None, ap, sym, subst, rules, arith}
use Rattle.task_steps.specs.Run.{IsAfter}
use Rattle.loop_script.specs.Parts.{level_of, next_change_of}
use Rattle.context_core.specs.Ready.{has_bit}
use Rattle.lane_turn.proofs.Waking.{level_same}
use Rattle.lane_turn.proofs.wakes.fd_wake.Goals as goal

pub returns-in-Some : goal.returns-in-Some
returns-in-Some c = λ k le low.
    let here : has_bit (level_of c.args.script.now c.args.fd c.args.from) c.args.bits ≡ false = search rules in
    let next : next_change_of c.args.script.now c.args.fd c.args.from ≡ Some c.in-Some.change = search rules in
    let before : k < c.in-Some.change = omega (arith, low, c.from-in-Some.ensures) in
    ap (λ l. has_bit l c.args.bits) (level_same c.args.script.now c.args.fd c.args.from k le (subst (IsAfter k) (sym next) before)) ∙ here

pub returns-in-None : goal.returns-in-None
returns-in-None c = λ k le low.
    let here : has_bit (level_of c.args.script.now c.args.fd c.args.from) c.args.bits ≡ false = search rules in
    let next : next_change_of c.args.script.now c.args.fd c.args.from ≡ None = search rules in
    ap (λ l. has_bit l c.args.bits) (level_same c.args.script.now c.args.fd c.args.from k le (subst (IsAfter k) (sym next) tt)) ∙ here
