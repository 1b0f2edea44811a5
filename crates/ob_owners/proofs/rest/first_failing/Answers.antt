use Rattle.std.proofs.Common.{◌<◌, ◌-◌, ◌+◌, Some, true, false, cond, length, map, sym, ap, ◌∙◌, arith}
use Rattle.std.specs.Prelude.{find}
use Rattle.std.specs.List.{range_with_len}
use Rattle.std.proofs.lemmas.List.{length-map}
use Rattle.ob_heap.specs.Contents.{content_of}
use Rattle.ob_heap.specs.Plain.{object_of}
use Rattle.ob_code_table.specs.ImageTables.{table_of_image}
use Rattle.ob_rest_spec.specs.AtRest.{fails}
use Rattle.ob_owners.proofs.RestLemmas.{range_turn, fails_here}
use Rattle.ob_owners.proofs.rest.first_failing.Goals as goal

pub returns-then-fails : goal.returns-then-fails
returns-then-fails c =
    let place = c.loop-place.place in
    let count = length (map object_of c.args.content.now.objects) in
    let test = fails (table_of_image c.args.code.now) (content_of c.args.content.now) in
    let inside : place < count = omega (arith, c.loop-place-test.true, ap length c.objects-objects.ensures, length-map c.args.content.now.objects object_of) in
    sym (c.loop-place.invariant ∙ range_turn test place count inside
    ∙ ap (λ b. cond b (Some place) (find test (range_with_len (place + 1) (count - (place + 1)))))
    (fails_here c.args.code.now c.args.content.now c.objects-objects.result.now c.args.tallies.now place c.index-objects-place.result _ true
    c.requires c.objects-objects.ensures c.loop-place-test.true c.index-objects-place.is (sym c.if-fails.true ∙ c.fails.ensures place)))

pub loop-place-preserved : goal.loop-place-preserved
loop-place-preserved c =
    let place = c.loop-place.place in
    let count = length (map object_of c.args.content.now.objects) in
    let test = fails (table_of_image c.args.code.now) (content_of c.args.content.now) in
    let inside : place < count = omega (arith, c.loop-place-test.true, ap length c.objects-objects.ensures, length-map c.args.content.now.objects object_of) in
    c.loop-place.invariant ∙ range_turn test place count inside
    ∙ ap (λ b. cond b (Some place) (find test (range_with_len (place + 1) (count - (place + 1)))))
    (fails_here c.args.code.now c.args.content.now c.objects-objects.result.now c.args.tallies.now place c.index-objects-place.result _ false
    c.requires c.objects-objects.ensures c.loop-place-test.true c.index-objects-place.is (sym c.if-fails.false ∙ c.fails.ensures place))
