use Rattle.std.proofs.Common.{◌++◌, map, sym, ap, ◌∙◌}
use Rattle.ob_heap_spec.specs.Worlds.{object_item, handle_item}
use Rattle.ob_invocation_spec.specs.Handles.{handle_name}
use Rattle.ob_exec_handles.specs.Spending.{item_of}
use Rattle.ob_exec_handles.proofs.SpendingLemmas.{found_there, lost_there, found_reads, lost_reads, two_read}
use Rattle.ob_exec_handles.proofs.spent.read_handle.Goals as goal

pub returns-in_ok-read_item-in-Some-clause-there : goal.returns-in_ok-read_item-in-Some-clause-there
returns-in_ok-read_item-in-Some-clause-there c =
    found_there c.args.base.now (handle_name c.args.who.now c.args.name.now) c.in-Some.handle (sym c.handle.ensures ∙ c.in-Some.is)

pub returns-in_ok-read_item-in-Some-clause-reads : goal.returns-in_ok-read_item-in-Some-clause-reads
returns-in_ok-read_item-in-Some-clause-reads c =
    let n = handle_name c.args.who.now c.args.name.now in
    two_read (map item_of c.args.reads.now) (map item_of c.read_name.new.reads) (map item_of c.read_item.new.reads) (handle_item n)
    (object_item c.in-Some.handle.object.0) c.in_ok-read_name.ensures c.in_ok-read_item-in-Some.ensures
    ∙ ap (λ rs. map item_of c.args.reads.now ++ rs) (sym (found_reads c.args.base.now n c.in-Some.handle (sym c.handle.ensures ∙ c.in-Some.is)))

pub returns-in-None-clause-there : goal.returns-in-None-clause-there
returns-in-None-clause-there c =
    lost_there c.args.base.now (handle_name c.args.who.now c.args.name.now) (sym c.handle.ensures ∙ c.in-None.is)

pub returns-in-None-clause-reads : goal.returns-in-None-clause-reads
returns-in-None-clause-reads c =
    c.in_ok-read_name.ensures
    ∙ ap (λ rs. map item_of c.args.reads.now ++ rs)
    (sym (lost_reads c.args.base.now (handle_name c.args.who.now c.args.name.now) (sym c.handle.ensures ∙ c.in-None.is)))
