use Rattle.loop_script.proofs.Named.{start_refer, proc_refer, start_rules, proc_rules}
use Rattle.loop_script.proofs.script.Script.actions.Goals as goal

pub returns-in-Start-clause-refer : goal.returns-in-Start-clause-refer
returns-in-Start-clause-refer c =
    let p = c.self.inside.plan in
    rw (c.start_actions.ensures, ← c.self.view_is) (rw c.as_slice.ensures (start_refer p c.in-Start.lane c.self.invariant.refers))

pub returns-in-Procedure-clause-refer : goal.returns-in-Procedure-clause-refer
returns-in-Procedure-clause-refer c =
    let p = c.self.inside.plan in
    rw (c.proc_actions.ensures, ← c.self.view_is) (rw c.as_slice-in-Procedure.ensures (proc_refer p c.in-Procedure.proc c.self.invariant.refers))

pub returns-in-Start-clause-rules : goal.returns-in-Start-clause-rules
returns-in-Start-clause-rules c =
    let p = c.self.inside.plan in
    rw (c.start_actions.ensures, ← c.self.view_is) (rw c.as_slice.ensures (start_rules p c.in-Start.lane c.self.invariant.rules))

pub returns-in-Procedure-clause-rules : goal.returns-in-Procedure-clause-rules
returns-in-Procedure-clause-rules c =
    let p = c.self.inside.plan in
    rw (c.proc_actions.ensures, ← c.self.view_is) (rw c.as_slice-in-Procedure.ensures (proc_rules p c.in-Procedure.proc c.self.invariant.rules))
