use Rattle.std.proofs.Common.{◌≡◌, ◌<◌, length, ap, ap₂, ◌∙◌, arith}
use Rattle.std.specs.Prelude.{slice_set}
use Rattle.ob_verify_spec.specs.Passing.{held_at, merged_row}
use Rattle.ob_verify.proofs.KnownLoops.{merged_turn, merged_length, left_length}
use Rattle.ob_verify.proofs.known.merge.Goals as goal

pub loop-place-preserved : goal.loop-place-preserved
loop-place-preserved c =
    let at : c.loop-place.place < length c.loop-place.rows = omega (arith, c.loop-place.invariant.many, c.loop-place-test.true) in
    let left_at : c.loop-place.place < length c.loop-place.left = omega (arith, c.loop-place.invariant.as_many, c.loop-place-test.true) in
    let is : c.merged_row.result ≡ merged_row c.args.image.now (held_at c.loop-place.rows c.loop-place.place) (held_at c.loop-place.left c.loop-place.place)
    = c.merged_row.ensures ∙ ap₂ (merged_row c.args.image.now) c.take_row-known.ensures.value c.take_row-other.ensures.value in
    let put = ap (λ z. slice_set z c.loop-place.place c.merged_row.result) c.take_row-known.ensures.rest in
    record {
      many = merged_length c.loop-place.rows _ c.loop-place.place _ c.merged_row.result c.loop-place.invariant.many put;
      as_many = left_length c.loop-place.left c.take_row-other.new.rows c.loop-place.place _ c.loop-place.invariant.as_many c.take_row-other.ensures.rest;
      merged = merged_turn c.args.image.now _ c.loop-place.rows c.loop-place.left _ c.take_row-other.new.rows c.loop-place.place c.merged_row.result at left_at c.loop-place.invariant.merged is put
          c.take_row-other.ensures.rest;
    }
