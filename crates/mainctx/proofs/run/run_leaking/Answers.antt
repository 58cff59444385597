use Rattle.mainctx.specs.Run.{Writes}
use Rattle.mainctx.proofs.Alike.{holds_text}
use Rattle.mainctx.proofs.run.run_leaking.Goals as goal

pub returns-clause-holds : goal.returns-clause-holds
returns-clause-holds g c =
    let writes : Writes c.args.bytes.now (g.W.Out.taken c.args.out.now) (g.W.Out.taken c.write_ended.new.out) = record { script = c.in_ok-ended.ended; read = c.in_ok-ended.ensures.script; gained = c.in_ok-write_ended.ensures.text } in
    holds_text _ _ _ _ _ writes c.write_ended.ensures.known
