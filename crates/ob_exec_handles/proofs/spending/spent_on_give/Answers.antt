use Rattle.std.proofs.Common.{◌++◌, map, refl, ap, ◌∙◌}
use Rattle.ob_heap.specs.Contents.{content_of}
use Rattle.ob_invocation_spec.specs.Handles.{handle_name, handle_reads}
use Rattle.ob_invocation_spec.specs.Requests.{GiveRequest}
use Rattle.ob_exec_handles.specs.Spending.{item_of, name_reads}
use Rattle.ob_exec_handles.proofs.SpendingLemmas.{give_spends}
use Rattle.ob_exec_handles.proofs.spending.spent_on_give.Goals as goal

pub returns : goal.returns
returns c =
    let r : GiveRequest = record { on = c.args.on.now; to = c.args.to.now; into = c.args.into.now; mode = c.args.mode } in
    let of = handle_reads (content_of c.args.base.now) (handle_name c.args.who.now c.args.on.now) in
    let name = handle_name c.args.to.now c.args.into.now in
    give_spends c.args.base.now c.args.who.now r (record { taken = 0; reads = c.read_give.new.reads }) (
      refl,
      c.in_ok-read_give.ensures
          ∙ ap (λ xs. (map item_of xs ++ of) ++ name_reads name c.refusal_of_give-why.result) c.new-reads.ensures
          ∙ ap (λ why. of ++ name_reads name why) c.refusal_of_give-why.ensures,
    )
