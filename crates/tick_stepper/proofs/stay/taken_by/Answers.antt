use Rattle.tick_stepper.proofs.stay.taken_by.Goals as goal

pub call_with-requires : goal.call_with-requires
call_with-requires g c =
    let call = c.args.call.is in
    record { low = call.low; few = call.few; own = call.own; tray = call.tray }
