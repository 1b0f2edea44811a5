use Rattle.std.proofs.Common.{◌≡◌, List, length, map, replicate, drop, sym, ap, ◌∙◌, arith}
use Rattle.std.specs.Prelude.{slice_get}
use Rattle.std.proofs.lemmas.List.{take_at, length-map}
use Rattle.ob_heap.specs.Contents.{content_of}
use Rattle.ob_heap.specs.Plain.{object_of}
use Rattle.ob_code_table.specs.ImageTables.{table_of_image}
use Rattle.ob_owners.specs.declared.tally.Tally.{Tally}
use Rattle.ob_owners.specs.Noting.{after_holdings, holdings}
use Rattle.ob_owners.proofs.TallyLaws.{noted_all}
use Rattle.ob_owners.proofs.tally.tallies.Goals as goal

pub returns : goal.returns
returns c = λ n.
    let table = table_of_image c.args.code.now in
    let content = content_of c.args.content.now in
    let new = c.note_places.new.tallies in
    let as_long : length new ≡ c.in_ok-tallies.tallies.len = omega (arith, c.note_places.auto.tallies, c.as_mut_slice.ensures.len) in
    let first : c.in_ok-tallies.tallies.items ≡ replicate (length c.objects.result.now) c.empty_tally.result = c.in_ok-tallies.ensures.items_if_clones_equal (λ y h. h) in
    let long : length c.objects.result.now ≡ length (map object_of c.args.content.now.objects) =
    ap length c.objects.ensures ∙ sym (length-map c.args.content.now.objects object_of) in
    ap (λ (ts : List Tally). slice_get ts n)
    (take_at new (drop (length new) c.in_ok-tallies.tallies.items) c.in_ok-tallies.tallies.len as_long
    ∙ c.note_places.ensures
    ∙ ap (after_holdings (holdings table content))
    (c.as_mut_slice.ensures.value ∙ first ∙ ap (λ k. replicate k c.empty_tally.result) long
    ∙ ap (replicate (length (map object_of c.args.content.now.objects))) c.empty_tally.ensures))
    ∙ noted_all table content n
