use Rattle.std.proofs.Common.{◌++◌, map, ap, ◌∙◌}
use Rattle.std.proofs.lemmas.Result.{on_ok_weaker}
use Rattle.ob_invocation_spec.specs.Handles.{handle_name}
use Rattle.ob_exec_handles.specs.Spending.{item_of, looks_up_name, counts_handles, looked_up, counted}
use Rattle.ob_exec_handles.proofs.SpendingLemmas.{more_read}
use Rattle.ob_exec_handles.proofs.spent.read_new_name.Goals as goal

pub returns : goal.returns
returns c =
    let n = handle_name c.args.who.now c.args.name.now in
    let old = map item_of c.args.reads.now in
    let mid = map item_of c.read_looked_up.new.reads in
    on_ok_weaker c.read_counted.result
    (λ e. more_read old mid (map item_of c.read_counted.new.reads) (looked_up n (looks_up_name c.args.why)) (counted (counts_handles c.args.why))
    (c.in_ok-read_looked_up.ensures ∙ ap (λ b. old ++ looked_up n b) c.looks_up_name-is_looked_up.ensures)
    (e ∙ ap (λ b. mid ++ counted b) c.counts_handles-is_counted.ensures))
    c.read_counted.ensures
