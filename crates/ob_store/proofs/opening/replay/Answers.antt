use Rattle.std.proofs.Common.{arith}
use Rattle.ob_heap.specs.Contents.{content_of}
use Rattle.ob_code_table.specs.ImageTables.{table_of_image}
use Rattle.ob_store.proofs.Opened.{empty_of, kept_empty, bad_payload, replayed_none, replayed_all, replayed_more, first_bad}
use Rattle.ob_store.proofs.opening.replay.Goals as goal

pub records-init : goal.records-init
records-init c =
    let table = table_of_image c.args.code.now in
    let none = empty_of c.new-content.result c.new-content.ensures.objects c.new-content.ensures.handles in
    record {
      replayed = λ payloads there. replayed_none table payloads (content_of c.new-content.result) c.args.records.now none there;
      kept = kept_empty table _ none;
      within = omega arith;
    }

pub returns-in-Err-Bad-clause-replayed : goal.returns-in-Err-Bad-clause-replayed
returns-in-Err-Bad-clause-replayed c = λ payloads there.
    let table = table_of_image c.args.code.now in
    let before = content_of c.records.content in
    let bad = bad_payload table before (content_of c.follow.new.content) c.in-Some.payload.now c.in-Err-Bad.field-0 c.in-Err-Bad.field-0-is c.in-Err-Bad.ensures in
    let so_far = c.records.invariant.replayed payloads there in
    first_bad table payloads before c.records.rest.now c.in-Some.payload.now c.in-Some.after.now so_far (c.in-Some.ensures.first so_far.others so_far.left) c.args.gate c.args.records.now there bad

pub returns-clause-replayed : goal.returns-clause-replayed
returns-clause-replayed c = λ payloads there.
    let so_far = c.records.invariant.replayed payloads there in
    replayed_all (table_of_image c.args.code.now) payloads (content_of c.records.content) c.records.rest.now so_far (c.in_default.ensures.first so_far.others so_far.left)

pub records-preserved : goal.records-preserved
records-preserved c =
    let table = table_of_image c.args.code.now in
    let before = content_of c.records.content in
    let after = content_of c.follow.new.content in
    record {
      replayed = λ payloads there.
          let so_far = c.records.invariant.replayed payloads there in
          replayed_more table payloads before c.records.rest.now c.in-Some.payload.now c.in-Some.after.now so_far (c.in-Some.ensures.first so_far.others so_far.left) after c.in-Ok.ensures;
      kept = c.in-Ok.ensures.kept;
      within = omega (arith, c.in-Some.ensures.shorter);
    }
