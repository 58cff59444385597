use Rattle.std.proofs.Common.{◌≡◌, ◌∙◌, ◌∷◌, ◌++◌, [], List, sym, ap, append_assoc, rules}
use Rattle.source_rows.specs.SeatOrder.{IsLastKey}
use Rattle.source_rows.specs.declared.seats.Seat.{Seat}
use Rattle.source_rows.proofs.LastTo.{some_of}
use Rattle.source_rows.proofs.SeatTree.{parts_of}
use Rattle.source_rows.proofs.seats.Seats.+last_key.Goals as goal

pub returns-in_default-clause-some : goal.returns-in_default-clause-some
returns-in_default-clause-some t c =
    let same : c.deref-fork.result.now ≡ c.in-Some.fork.value = search rules in
    let is = parts_of c.self.view_is c.in-Some.is same in
    let fork = c.deref-fork.result.now in
    some_of (IsLastKey fork.later.0) (IsLastKey c.args.self.now.0)
    (λ key h. record {
      others = fork.sooner.0 ++ fork.seat ∷ h.others;
      seat = h.seat;
      are = is ∙ (ap (λ (l : List Seat). fork.sooner.0 ++ fork.seat ∷ l) h.are ∙ sym (append_assoc fork.sooner.0 (fork.seat ∷ h.others) (h.seat ∷ [])));
      is = h.is;
    }) c.last_key.result c.last_key.ensures.some
