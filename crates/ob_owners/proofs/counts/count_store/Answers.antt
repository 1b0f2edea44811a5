use Rattle.ob_code_table.specs.ImageTables.{table_of_image}
use Rattle.ob_owners.proofs.CountingLemmas.{counts_are}
use Rattle.ob_owners.proofs.counts.count_store.Goals as goal

pub returns : goal.returns
returns c =
    counts_are (table_of_image c.args.code.now) c.args.content.now c.in_ok-tallies.tallies.items c.as_slice.result.now c.as_slice-2.result.now
    c.objects-objects.result.now c.in_ok-tallies.ensures c.objects-objects.ensures c.as_slice.ensures.value c.as_slice-2.ensures.value
    c.count_handles.result c.count_owned.result c.count_shared.result c.count_disowned.result c.count_loose.result c.count_handles.ensures.count
    c.count_owned.ensures c.count_shared.ensures c.count_disowned.ensures c.count_loose.ensures
