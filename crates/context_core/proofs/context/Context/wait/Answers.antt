use Rattle.std.proofs.Common.{◌≡◌, ◌==◌, true, length, pos, ℤ, List, Option, subst, ap, sym, ◌∙◌, filter, rules, w64}
use Rattle.std.proofs.lemmas.Int.{to_z-of_z}
use Rattle.std.specs.Prelude.{int_lt, IfSome, IsTrue}
use mir.Val.{SFits, to_z, of_z}
use Rattle.source_rows.specs.declared.row.Row.{Row}
use Rattle.source_rows.specs.Rows.{next_ready}
use Rattle.context_core.specs.Ready.{is_free}
use Rattle.context_core.specs.Phases.{ms_until}
use Rattle.context_core.proofs.Wait.{joined, joined_none, next_in_order, next_later, all_free, none_if}
use Rattle.context_core.proofs.context.Context.wait.Goals as goal

pub returns : goal.returns
returns c =
    let free = is_free c.args.busy.now in
    let fits : SFits w64 c.ms_until-2.result = search rules in
    let same : to_z w64 (of_z w64 c.ms_until-2.result) ≡ c.ms_until-2.result = simp to_z-of_z in
    same ∙ (c.ms_until-2.ensures ∙ ap (ms_until c.args.now)
    (sym (joined_none c.rows.least)
    ∙ (sym (ap (λ (l : List Row). joined c.rows.least (next_ready c.args.now (filter free l))) c.in-None.ensures.steps.0)
    ∙ (c.rows.invariant.same ∙ next_in_order c.args.now free c.args.self.now.rows.rows))))

pub ms_until-requires-clause-later : goal.ms_until-requires-clause-later
ms_until-requires-clause-later c =
    let is : c.next_ready.result ≡ next_ready c.args.now c.args.self.now.rows.rows = search rules in
    subst (λ (o : Option ℤ). IfSome o (λ t. IsTrue (int_lt (pos c.args.now) t))) (sym is) (next_later c.args.now c.args.self.now.rows.rows)

pub returns-then-is_empty : goal.returns-then-is_empty
returns-then-is_empty c =
    let fits : SFits w64 c.ms_until.result = search rules in
    let same : to_z w64 (of_z w64 c.ms_until.result) ≡ c.ms_until.result = simp to_z-of_z in
    let is : c.next_ready.result ≡ next_ready c.args.now c.args.self.now.rows.rows = search rules in
    let zero : (length c.args.busy.now == 0) ≡ true = search rules in
    let free : filter (is_free c.args.busy.now) c.args.self.now.rows.rows ≡ c.args.self.now.rows.rows = rw (none_if c.args.busy.now zero) (all_free c.args.self.now.rows.rows) in
    same ∙ (c.ms_until.ensures ∙ ap (ms_until c.args.now) (is ∙ ap (next_ready c.args.now) (sym free)))
