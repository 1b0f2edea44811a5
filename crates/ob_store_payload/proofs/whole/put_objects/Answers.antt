use Rattle.std.proofs.Common.{◌≤◌, arith}
use Rattle.ob_code_table.specs.ImageTables.{table_of_image}
use Rattle.ob_store_payload.proofs.WholeObjects.{few_before, objects_whole}
use Rattle.ob_store_payload.proofs.whole.put_objects.Goals as goal

pub put_objects_with-requires : goal.put_objects_with-requires
put_objects_with-requires c =
    let few : c.count_objects-count.result ≤ 4294967295 = omega (arith, c.if-count-gt4294967295.false) in
    few_before (table_of_image c.args.code.now) c.args.content.now.objects c.objects.result.now c.args.changes.now c.count_objects-count.result
    c.objects.ensures c.count_objects-count.ensures few

pub returns : goal.returns
returns c =
    objects_whole (table_of_image c.args.code.now) c.args.content.now.objects c.objects.result.now c.args.changes.now c.count_objects-count.result
    c.args.out.now.items c.put_u32.new.out.items c.put_objects_with.new.out.items c.requires.ascending c.requires.next c.objects.ensures
    c.count_objects-count.ensures c.in_ok-put_u32.ensures c.in_ok-put_objects_with.ensures
