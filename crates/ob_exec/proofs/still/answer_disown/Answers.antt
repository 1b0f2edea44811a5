use Rattle.ob_heap.specs.Contents.{content_of}
use Rattle.ob_invocation_spec.specs.Handles.{handle_name}
use Rattle.ob_invocation_spec.specs.Invocation.{invoke_disown}
use Rattle.ob_exec_handles.specs.Coming.{ComesTo}
use Rattle.ob_exec_handles.specs.Spending.{SpendsSo}
use Rattle.ob_exec.proofs.SpendingLemmas.{comes_so, spent_so}
use Rattle.ob_exec.proofs.still.answer_disown.Goals as goal

pub returns-clause-comes : goal.returns-clause-comes
returns-clause-comes c =
    let content = content_of c.args.content.now in
    let name = handle_name c.args.who.now c.args.on.now in
    comes_so (λ answer delta. ComesTo (invoke_disown content name) c.args.content.now answer delta) c.with_spent.result c.disown.result c.in_ok-spent.spent c.with_spent.ensures
    c.disown.ensures

pub returns-clause-spent : goal.returns-clause-spent
returns-clause-spent c =
    let content = content_of c.args.content.now in
    let name = handle_name c.args.who.now c.args.on.now in
    spent_so (λ s. SpendsSo (invoke_disown content name) s) c.with_spent.result c.disown.result c.in_ok-spent.spent c.with_spent.ensures
    c.in_ok-spent.ensures
