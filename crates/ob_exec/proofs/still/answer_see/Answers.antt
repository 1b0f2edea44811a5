use Rattle.ob_heap.specs.Contents.{content_of}
use Rattle.ob_invocation_spec.specs.Handles.{handle_name}
use Rattle.ob_invocation_spec.specs.Invocation.{invoke_see}
use Rattle.ob_code_table.specs.ImageTables.{table_of_image}
use Rattle.ob_exec_handles.specs.Coming.{ComesTo}
use Rattle.ob_exec_handles.specs.Spending.{SpendsSo}
use Rattle.ob_exec.proofs.SpendingLemmas.{comes_so, spent_so}
use Rattle.ob_exec.proofs.still.answer_see.Goals as goal

pub returns-clause-comes : goal.returns-clause-comes
returns-clause-comes c =
    let content = content_of c.args.content.now in
    let name = handle_name c.args.who.now c.args.on.now in
    comes_so (λ answer delta. ComesTo (invoke_see (table_of_image c.args.code.now) content name) c.args.content.now answer delta) c.with_spent.result c.see.result c.in_ok-spent.spent c.with_spent.ensures
    c.see.ensures

pub returns-clause-spent : goal.returns-clause-spent
returns-clause-spent c =
    let content = content_of c.args.content.now in
    let name = handle_name c.args.who.now c.args.on.now in
    spent_so (λ s. SpendsSo (invoke_see (table_of_image c.args.code.now) content name) s) c.with_spent.result c.see.result c.in_ok-spent.spent c.with_spent.ensures
    (c.in_ok-spent.ensures (table_of_image c.args.code.now) c.requires)
