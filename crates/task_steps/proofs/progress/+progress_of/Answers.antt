use Rattle.std.proofs.Common.{arith, ap, sym, subst, ◌≡◌, ◌∙◌, rules}
use Rattle.loop_script.specs.Tree.{Tree, both, first, within}
use Rattle.loop_script.specs.TreeView.{tree_of}
use Rattle.task_steps.specs.declared.progress.Progress.{Progress}
use Rattle.task_steps.specs.Progress.{IsKnown, IsProgress}
use Rattle.task_steps.proofs.progress.+progress_of.Goals as goal

pub returns-in-Both-clause-now : goal.returns-in-Both-clause-now
returns-in-Both-clause-now t c =
    let m = c.args.at.now in
    let is : both c.in-Both.one.value c.in-Both.other.value ≡ c.args.tree.now = sym (ap tree_of c.in-Both.is) ∙ c.tree.view_is in
    let of = λ (x : Tree) (p : Progress). IsProgress m.tick_us x c.args.begun m.cancelled m.tick p in
    subst (λ (x : Tree). of x c.joined.result) is
    (c.joined.ensures.now m.tick_us c.in-Both.one.value c.in-Both.other.value c.args.begun m.tick m.cancelled
    (subst (λ (x : Tree). of x c.progress_of-in-Both.result) c.deref-in-Both.ensures (c.progress_of-in-Both.ensures.now))
    (subst (λ (x : Tree). of x c.progress_of-in-Both-2.result) c.deref-in-Both-2.ensures (c.progress_of-in-Both-2.ensures.now)))

pub returns-in-Both-clause-ahead : goal.returns-in-Both-clause-ahead
returns-in-Both-clause-ahead t c =
    let m = c.args.at.now in
    let is : both c.in-Both.one.value c.in-Both.other.value ≡ c.args.tree.now = sym (ap tree_of c.in-Both.is) ∙ c.tree.view_is in
    let of = λ (x : Tree) (p : Progress). IsKnown m.tick_us x c.args.begun m.cancelled m.tick m.tick p in
    subst (λ (x : Tree). of x c.joined.result) is
    (c.joined.ensures.ahead m.tick_us c.in-Both.one.value c.in-Both.other.value c.args.begun m.tick m.tick m.cancelled
    (subst (λ (x : Tree). of x c.progress_of-in-Both.result) c.deref-in-Both.ensures c.progress_of-in-Both.ensures.ahead)
    (subst (λ (x : Tree). of x c.progress_of-in-Both-2.result) c.deref-in-Both-2.ensures c.progress_of-in-Both-2.ensures.ahead))

pub returns-else-ends_in-clause-now : goal.returns-else-ends_in-clause-now
returns-else-ends_in-clause-now t c =
    let m = c.args.at.now in
    let is : first c.in-First.one.value c.in-First.other.value ≡ c.args.tree.now = sym (ap tree_of c.in-First.is) ∙ c.tree.view_is in
    let of = λ (x : Tree) (p : Progress). IsProgress m.tick_us x c.args.begun m.cancelled m.tick p in
    subst (λ (x : Tree). of x c.earlier.result) is
    (c.earlier.ensures.now m.tick_us c.in-First.one.value c.in-First.other.value c.args.begun m.tick m.cancelled
    (subst (λ (x : Tree). of x c.progress_of-progress-in-First.result) c.deref-in-First.ensures (c.progress_of-progress-in-First.ensures.now))
    (subst (λ (x : Tree). of x c.progress_of-in-First.result) c.deref-in-First-2.ensures (c.progress_of-in-First.ensures.now)))

pub returns-else-ends_in-clause-ahead : goal.returns-else-ends_in-clause-ahead
returns-else-ends_in-clause-ahead t c =
    let m = c.args.at.now in
    let is : first c.in-First.one.value c.in-First.other.value ≡ c.args.tree.now = sym (ap tree_of c.in-First.is) ∙ c.tree.view_is in
    let of = λ (x : Tree) (p : Progress). IsKnown m.tick_us x c.args.begun m.cancelled m.tick m.tick p in
    subst (λ (x : Tree). of x c.earlier.result) is
    (c.earlier.ensures.ahead m.tick_us c.in-First.one.value c.in-First.other.value c.args.begun m.tick m.tick m.cancelled
    (subst (λ (x : Tree). of x c.progress_of-progress-in-First.result) c.deref-in-First.ensures c.progress_of-progress-in-First.ensures.ahead)
    (subst (λ (x : Tree). of x c.progress_of-in-First.result) c.deref-in-First-2.ensures c.progress_of-in-First.ensures.ahead))

pub returns-in-Within-clause-now : goal.returns-in-Within-clause-now
returns-in-Within-clause-now t c =
    let m = c.args.at.now in
    let is : within c.in-Within.us c.in-Within.body.value ≡ c.args.tree.now = sym (ap tree_of c.in-Within.is) ∙ c.tree.view_is in
    let of = λ (x : Tree) (p : Progress). IsProgress m.tick_us x c.args.begun m.cancelled m.tick p in
    subst (λ (x : Tree). of x c.limited.result) is
    (c.limited.ensures.now m.tick_us c.in-Within.us c.in-Within.body.value c.args.begun m.cancelled (search rules)
    (subst (λ (x : Tree). of x c.progress_of-in-Within.result) c.deref-in-Within.ensures (c.progress_of-in-Within.ensures.now)))

pub returns-in-Within-clause-ahead : goal.returns-in-Within-clause-ahead
returns-in-Within-clause-ahead t c =
    let m = c.args.at.now in
    let is : within c.in-Within.us c.in-Within.body.value ≡ c.args.tree.now = sym (ap tree_of c.in-Within.is) ∙ c.tree.view_is in
    let of = λ (x : Tree) (p : Progress). IsKnown m.tick_us x c.args.begun m.cancelled m.tick m.tick p in
    subst (λ (x : Tree). of x c.limited.result) is
    (c.limited.ensures.ahead m.tick_us c.in-Within.us c.in-Within.body.value c.args.begun m.tick m.cancelled (search rules) (omega arith)
    (subst (λ (x : Tree). of x c.progress_of-in-Within.result) c.deref-in-Within.ensures c.progress_of-in-Within.ensures.ahead))
