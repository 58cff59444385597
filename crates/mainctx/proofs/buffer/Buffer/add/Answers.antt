use Rattle.std.proofs.Common.{rules, ◌++◌, refl}
use Rattle.mainctx.proofs.Prefixes.{prefix_longer}
use Rattle.mainctx.proofs.buffer.Buffer.add.Goals as goal

pub returns-in_err-hand_on-clause-prefix : goal.returns-in_err-hand_on-clause-prefix
returns-in_err-hand_on-clause-prefix g c =
    let prefix = prefix_longer (g.W.Out.taken c.args.out.now) (g.W.Out.taken c.hand_on.new.out) c.args.self.now c.args.bytes.now (c.args.self.now ++ c.args.bytes.now) c.in_err-hand_on.ensures.prefix refl in
    search (rules, prefix)
