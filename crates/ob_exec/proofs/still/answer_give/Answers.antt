use Rattle.ob_heap.specs.Contents.{content_of}
use Rattle.ob_invocation_spec.specs.Invocation.{invoke_give}
use Rattle.ob_invocation_spec.specs.Requests.{GiveRequest}
use Rattle.ob_exec_handles.specs.Coming.{ComesTo}
use Rattle.ob_exec_handles.specs.Spending.{SpendsSo}
use Rattle.ob_exec.proofs.SpendingLemmas.{comes_so, spent_so}
use Rattle.ob_exec.proofs.still.answer_give.Goals as goal

pub returns-clause-comes : goal.returns-clause-comes
returns-clause-comes c =
    let content = content_of c.args.content.now in
    let r : GiveRequest = record { on = c.args.on.now; to = c.args.to.now; into = c.args.into.now; mode = c.args.mode } in
    comes_so (λ answer delta. ComesTo (invoke_give content c.args.who.now r) c.args.content.now answer delta) c.with_spent.result c.give.result c.in_ok-spent.spent c.with_spent.ensures
    c.give.ensures

pub returns-clause-spent : goal.returns-clause-spent
returns-clause-spent c =
    let content = content_of c.args.content.now in
    let r : GiveRequest = record { on = c.args.on.now; to = c.args.to.now; into = c.args.into.now; mode = c.args.mode } in
    spent_so (λ s. SpendsSo (invoke_give content c.args.who.now r) s) c.with_spent.result c.give.result c.in_ok-spent.spent c.with_spent.ensures
    c.in_ok-spent.ensures
