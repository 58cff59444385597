use Rattle.std.proofs.Common.{◌≡◌, ◌+◌, ◌<◌, ◌∷◌, [], Option, None, length, set, take, drop, refl, arith}
use Rattle.std.proofs.lemmas.List.{drop_more, drop_all, take_all, take_more_set, drop-set-lt}
use Rattle.task_steps.specs.declared.entry.Entry.{Entry}
use Rattle.task_steps.specs.BookInside.{entries_in, held, place_at}
use Rattle.task_steps.proofs.SideBySide.{PolledTo, none_polled, one_polled, some_passed, all_polled, none_held, none_set}
use Rattle.task_steps.proofs.Waiting.{going_on}
use Rattle.task_steps.proofs.leaf.Leaf.poll_tasks.Goals as goal

pub loop-at-init : goal.loop-at-init
loop-at-init c =
    let places = c.args.self.now.places.items in
    let none = none_polled c.args.round c.args.view.now places c.args.replies.now.items c.args.late.now.items c.requires.can c.requires.came in
    record {
      at = c.next_loud-at.ensures.there;
      known = c.requires.known;
      polled = some_passed places 0 c.next_loud-at.result (omega arith) none c.next_loud-at.ensures.quiet;
      none = λ h. h;
    }

pub returns-in_err-poll_at-clause-none : goal.returns-in_err-poll_at-clause-none
returns-in_err-poll_at-clause-none c = λ h. going_on refl (c.in_err-poll_at.ensures.none (none_held c.loop-at.self.places.items c.loop-at.at (c.loop-at.invariant.none h)))

pub loop-at-preserved : goal.loop-at-preserved
loop-at-preserved c =
    let places = c.loop-at.self.places.items in
    let at = c.loop-at.at in
    let p : Option Entry = place_at at c.loop-at.self in
    let q : Option Entry = place_at at c.poll_at.new.self in
    let after = c.poll_at.new.self.places.items in
    let others : after ≡ set places at q = c.in_ok-poll_at.ensures.others in
    let lt : at < length places = omega arith in
    let next : drop at places ≡ p ∷ drop (at + 1) places = drop_more places at None lt in
    let told = one_polled q c.poll_at.new.replies.items c.poll_at.new.late.items (rw next at c.loop-at.invariant.polled) c.in_ok-poll_at.ensures.polled in
    let on : PolledTo c.args.round c.args.view.now (entries_in c.args.self.now) c.args.replies.now.items c.args.late.now.items (take (at + 1) (set places at q)) (drop (at + 1) (set places at q)) c.poll_at.new.replies.items c.poll_at.new.late.items = rw (take_more_set places at q lt, drop-set-lt (at + 1) places at q (omega arith)) told in
    let to : PolledTo c.args.round c.args.view.now (entries_in c.args.self.now) c.args.replies.now.items c.args.late.now.items (take (at + 1) after) (drop (at + 1) after) c.poll_at.new.replies.items c.poll_at.new.late.items = rw others on in
    record {
      at = c.next_loud-at-in-loop-at.ensures.there;
      known = c.in_ok-poll_at.ensures.known;
      polled = some_passed after (at + 1) c.next_loud-at-in-loop-at.result c.next_loud-at-in-loop-at.ensures.later to c.next_loud-at-in-loop-at.ensures.quiet;
      none = λ h.
          let held_none : held places ≡ [] = c.loop-at.invariant.none h in
          let gone : q ≡ None = c.in_ok-poll_at.ensures.stays (none_held places at held_none) in
          rw (others, gone) (none_set places at held_none);
    }

pub returns-clause-polled : goal.returns-clause-polled
returns-clause-polled c =
    let places = c.loop-at.self.places.items in
    let none : drop c.loop-at.at places ≡ [] = drop_all c.loop-at.at places (omega arith) in
    let whole : take c.loop-at.at places ≡ places = take_all c.loop-at.at places (omega arith) in
    rw c.leave_out_gone.ensures.entries (rw whole at (all_polled (rw none at c.loop-at.invariant.polled)))
