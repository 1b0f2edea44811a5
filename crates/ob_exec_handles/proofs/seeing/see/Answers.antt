use Rattle.std.proofs.Common.{◌∙◌, sym}
use Rattle.ob_heap.specs.Contents.{content_of}
use Rattle.ob_invocation_spec.specs.Handles.{handle_name}
use Rattle.ob_invocation_spec.specs.Invocation.{show_object}
use Rattle.ob_code_table.specs.ImageTables.{table_of_image}
use Rattle.ob_exec_handles.proofs.InvokingLemmas.{comes_without}
use Rattle.ob_exec_handles.proofs.ShowingLemmas.{sees, sees_nothing}
use Rattle.ob_exec_handles.proofs.seeing.see.Goals as goal

pub returns-in_default : goal.returns-in_default
returns-in_default c =
    comes_without c.args.base.now (handle_name c.args.who.now c.args.on.now) (show_object (table_of_image c.args.code.now) (content_of c.args.base.now))
    c.refused.result.answer c.refused.result.delta (sym c.handle.ensures ∙ c.in_default.is) c.refused.ensures.told (c.refused.ensures.same c.args.base.now)

pub unreachable-requires : goal.unreachable-requires
unreachable-requires c =
    sees_nothing (table_of_image c.args.code.now) c.args.base.now (handle_name c.args.who.now c.args.on.now) c.in-Some.handle
    (sym c.handle.ensures ∙ c.in-Some.is) (sym c.in-None.is ∙ c.in_ok-shown.ensures) c.requires

pub returns : goal.returns
returns c =
    sees (table_of_image c.args.code.now) c.args.base.now (handle_name c.args.who.now c.args.on.now) c.in-Some.handle c.in-Some-2.shown
    c.unchanged.result.answer c.unchanged.result.delta (sym c.handle.ensures ∙ c.in-Some.is) (sym c.in-Some-2.is ∙ c.in_ok-shown.ensures)
    c.unchanged.ensures.told (c.unchanged.ensures.same c.args.base.now)
