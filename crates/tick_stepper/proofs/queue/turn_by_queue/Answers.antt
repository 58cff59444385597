use Rattle.std.proofs.Common.{◌≡◌, ◌∙◌, ◌++◌, List, length, sym, ap, subst, arith}
use Rattle.std.specs.List.{AllByRecursion}
use Rattle.post_office.specs.Merge.{IsMerge, concat}
use Rattle.post_office.specs.Passes.{WorkState, OfficeState}
use Rattle.lane_turn.specs.Lane.{State}
use Rattle.tick_stepper.specs.Share.{IsReadyOne}
use Rattle.tick_stepper.proofs.Rounds.{turned_by_number, posted_by_sender}
use Rattle.tick_stepper.proofs.Queues.{taken_by, posted_by, may_work, hauls_of, as_many, gathered_list, gathered_office, office_at_last, split_at_last, turns_all, letters_all}
use Rattle.tick_stepper.proofs.queue.turn_by_queue.Goals as goal

pub run_hired-requires-clause-hired : goal.run_hired-requires-clause-hired
run_hired-requires-clause-hired g c κs _ =
    let script = c.args.script.now in
    let put : c.in_ok-list.list.put ≡ c.args.lanes.items = ap (λ (s : WorkState State). s.put) c.in_ok-list.ensures in
    let ready = subst (λ (l : List State). AllByRecursion (IsReadyOne script c.args.tick) l) (sym put) c.requires.lanes.ready in
    may_work script c.args.tick _ _ _ _ _ _ (c.queue.ensures.home ∙ ap (λ (s : WorkState State). s.home) c.in_ok-all.ensures.list) (c.queue-2.ensures.home ∙ ap (λ (s : OfficeState). s.home) c.in_ok-all.ensures.office) ready c.in_ok-all.ensures.hired

pub gather-requires : goal.gather-requires
gather-requires g c = hauls_of c.args.script.now c.args.tick _ _ _ _ _ c.queue.ensures.home c.queue-2.ensures.home c.in_ok-hauls.ensures.hauls

pub finish-requires-clause-ready : goal.finish-requires-clause-ready
finish-requires-clause-ready g c κs _ =
    let script = c.args.script.now in
    let put : c.gather.new.list.put ≡ c.args.lanes.items =
    ap (λ (s : WorkState State). s.put) (c.in_ok-lanes.ensures.taken) ∙ ap (λ (s : WorkState State). s.put) c.in_ok-all.ensures.list ∙ ap (λ (s : WorkState State). s.put) c.in_ok-list.ensures in
    subst (λ (l : List State). AllByRecursion (IsReadyOne script c.args.tick) l) (sym put) c.requires.lanes.ready

pub returns-clause-lanes : goal.returns-clause-lanes
returns-clause-lanes g c =
    let script = c.args.script.now in
    let back = c.in_ok-lanes.ensures in
    let hauls = c.in_ok-hauls.hauls in
    let own : List State = c.finish.new.list.taken in
    let long : length back.each ≡ c.workers_for-workers.result = omega (arith, as_many hauls.items back.each back.all, c.in_ok-hauls.ensures.all, c.in_ok-all.ensures.as_many, hauls.ok.0) in
    let list = gathered_list c.in_ok-list.list c.hire.new.list c.gather.new.list c.args.lanes.items c.workers_for-workers.result back.each c.in_ok-list.ensures c.in_ok-all.ensures.list back.taken long in
    let split = split_at_last c.gather.new.list c.in_ok-list.list.home c.args.lanes.items own back.each list c.in_ok-lanes-2.ensures.all in
    let turns = turns_all script c.args.tick c.queue.result.now c.queue-2.result.now hauls.items back.each own c.in_ok-lanes.lanes.items c.in_ok-lanes-2.lanes.items back.all c.in_ok-hauls.ensures.hauls back.back c.in_ok-lanes-2.ensures.lanes in
    turned_by_number script c.args.tick c.args.lanes.items (concat (taken_by back.each) ++ own) c.in_ok-lanes-2.lanes.items c.in_ok-lanes-3.lanes.items c.requires.lanes.order split turns
    c.in_ok-lanes-3.ensures.same c.in_ok-lanes-3.ensures.order

pub returns-clause-letters : goal.returns-clause-letters
returns-clause-letters g c =
    let script = c.args.script.now in
    let back = c.in_ok-lanes.ensures in
    let hauls = c.in_ok-hauls.hauls in
    let own : List State = c.finish.new.list.taken in
    let long : length back.each ≡ c.workers_for-workers.result = omega (arith, as_many hauls.items back.each back.all, c.in_ok-hauls.ensures.all, c.in_ok-all.ensures.as_many, hauls.ok.0) in
    let list = gathered_list c.in_ok-list.list c.hire.new.list c.gather.new.list c.args.lanes.items c.workers_for-workers.result back.each c.in_ok-list.ensures c.in_ok-all.ensures.list back.taken long in
    let split = split_at_last c.gather.new.list c.in_ok-list.list.home c.args.lanes.items own back.each list c.in_ok-lanes-2.ensures.all in
    let office = gathered_office c.in_ok-office.office c.hire.new.office c.gather.new.office c.workers_for-workers.result back.each c.in_ok-office.ensures.office c.in_ok-all.ensures.office back.posted long in
    let last = office_at_last c.gather.new.office c.pass.new.self c.take_back.new.self c.in_ok-lanes-2.pass _ _ (posted_by back.each) _ office c.in_ok-pass.ensures.office c.take_back.ensures.recorded c.in_ok-lanes-2.ensures.letters in
    let merge = subst (λ (s : OfficeState). IsMerge s.recorded (s.drained ++ c.in_ok-letters.letters.items)) last c.in_ok-letters.ensures.each in
    let sent = letters_all script c.args.tick c.queue.result.now c.queue-2.result.now hauls.items back.each own c.in_ok-letters.letters.items back.all c.in_ok-hauls.ensures.hauls merge in
    posted_by_sender script c.args.tick c.args.lanes.items (concat (taken_by back.each) ++ own) c.in_ok-letters.letters.items c.in_ok-letters-2.letters.items c.requires.lanes split sent
    c.in_ok-letters-2.ensures.letters c.in_ok-letters-2.ensures.order
