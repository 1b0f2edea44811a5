use Rattle.std.proofs.Common.{List, sym, ap, ◌∙◌}
use Rattle.std.specs.Prelude.{zip, option_map}
use Rattle.std.specs.List.{list_any}
use Rattle.ob_code.specs.declared.image.ParamCode.{ParamCode}
use Rattle.ob_heap.specs.Contents.{content_of}
use Rattle.ob_invocation_spec.specs.Refusals.{has_other_kind}
use Rattle.ob_code_table.specs.ImageTables.{table_of_image}
use Rattle.ob_wire.specs.declared.request.Arg.{Arg}
use Rattle.ob_exec_entries.proofs.TargetLemmas.{is_other_kind, other_kind_seen}
use Rattle.ob_exec_entries.proofs.target.Target.has_other_kind.Goals as goal

pub returns : goal.returns
returns c =
    let t = c.self.inside in
    let table = table_of_image c.args.code.now in
    let content = content_of c.args.content.now in
    c.have_other_kind.ensures
    ∙ ap (λ (ps : List ParamCode). list_any (is_other_kind table content t.who.now) (zip ps c.as_slice-2.result.now)) c.as_slice.ensures
    ∙ ap (λ (args : List Arg). list_any (is_other_kind table content t.who.now) (zip t.body.now.params args)) c.as_slice-2.ensures
    ∙ sym (other_kind_seen table content t.who.now t.contract t.tx t.body.now (option_map (λ r. (r.0.now, r.1)) t.receiver) t.given t.args.now t.into.now)
    ∙ ap (has_other_kind table content) c.self.view_is
