use Rattle.std.proofs.Common.{◌≡◌, ◌-◌, ◌∷◌, ◌∙◌, sym, ap, drop, arith}
use Rattle.ob_heap_spec.specs.Values.{put}
use Rattle.ob_heap.specs.Plain.{fields_of, value_of}
use Rattle.ob_machine_parts.specs.Changes.{kept_in}
use Rattle.ob_machine_parts.proofs.FieldLemmas.{fields_put}
use Rattle.ob_machine_parts.proofs.KeptLemmas.{kept_more, kept_less, drop_before}
use Rattle.ob_machine_parts.proofs.fields.kept_in.Goals as goal

pub loop-place-preserved-in_ok-put : goal.loop-place-preserved-in_ok-put
loop-place-preserved-in_ok-put c =
    let xs = c.args.fields.now in
    let p = c.loop-place.place in
    let e = c.index-fields-place.result in
    let before : drop (p - 1) xs ≡ e ∷ drop p xs = drop_before xs p e c.loop-place-test.true c.loop-place.invariant.within c.index-fields-place.is in
    record {
      within = omega arith;
      same = ap fields_of c.in_ok-put.ensures.ok
          ∙ fields_put e.0 c.in_ok-copy.field-0 c.loop-place.kept
          ∙ ap (λ f. put f e.0.0 (value_of c.in_ok-copy.field-0)) c.loop-place.invariant.same
          ∙ ap (λ v. put (kept_in c.args.own.now c.args.state (fields_of (drop p xs))) e.0.0 (value_of v)) c.in_ok-copy.ensures
          ∙ kept_more c.args.own.now c.args.state e (drop p xs) (sym c.has_field.ensures ∙ c.if-has_field.true)
          ∙ ap (λ es. kept_in c.args.own.now c.args.state (fields_of es)) (sym before);
    }

pub loop-place-preserved : goal.loop-place-preserved
loop-place-preserved c =
    let xs = c.args.fields.now in
    let p = c.loop-place.place in
    let e = c.index-fields-place.result in
    let before : drop (p - 1) xs ≡ e ∷ drop p xs = drop_before xs p e c.loop-place-test.true c.loop-place.invariant.within c.index-fields-place.is in
    record {
      within = omega arith;
      same = c.loop-place.invariant.same
          ∙ kept_less c.args.own.now c.args.state e (drop p xs) (sym c.has_field.ensures ∙ c.if-has_field.false)
          ∙ ap (λ es. kept_in c.args.own.now c.args.state (fields_of es)) (sym before);
    }
