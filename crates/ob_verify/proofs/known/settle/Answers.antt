use Rattle.std.proofs.Common.{rules, ◌≡◌, ◌<◌, true, false, subst, sym, ap, ap₂, ◌∙◌}
use Rattle.std.specs.Vec.{with_items}
use Rattle.std.proofs.lemmas.List.{with_items_is, places}
use Rattle.ob_verify_spec.specs.Frames.{CodeFrame}
use Rattle.ob_verify_spec.specs.Passing.{KindRows, all_passed, merged}
use Rattle.ob_verify_spec.proofs.Passes.{ComesToKnown, first_comes}
use Rattle.ob_verify.specs.Changing.{some_change}
use Rattle.ob_verify.proofs.KnownLoops.{settled, settles_next, lighter_next}
use Rattle.ob_verify.proofs.known.settle.Goals as goal

pub loop-rows-init : goal.loop-rows-init
loop-rows-init c = subst (ComesToKnown c.args.frame.now) (sym c.requires) (first_comes c.args.frame.now)

pub returns-then-not-some_change : goal.returns-then-not-some_change
returns-then-not-some_change c =
    let f : CodeFrame = c.args.frame.now in
    let image : c.frame.inside.image.now ≡ f.image = search rules in
    let passed : c.pass_all.new.rows ≡ all_passed f 0 f.body.instructions c.loop-rows.rows.items
    = c.in_ok-pass_all.ensures ∙ ap (all_passed f 0 f.body.instructions) (c.as_mut_slice.ensures.value ∙ c.in_ok-left.ensures ∙ c.as_slice.ensures.value) in
    let left : (with_items c.in_ok-left.left c.pass_all.new.rows).items ≡ c.pass_all.new.rows = with_items_is c.in_ok-left.left c.pass_all.new.rows (search (rules, places)) in
    settled f c.loop-rows.rows.items c.pass_all.new.rows c.loop-rows.invariant passed
    (sym (ap₂ (some_change f.image) c.as_slice-in-loop-rows.ensures.value (c.as_slice-in-loop-rows-2.ensures.value ∙ left)) ∙ sym (ap (λ m. some_change m c.as_slice-in-loop-rows.result.now c.as_slice-in-loop-rows-2.result.now) image) ∙ sym c.some_change.ensures ∙ c.if-not-some_change.true)

pub loop-rows-smaller : goal.loop-rows-smaller
loop-rows-smaller c =
    let f : CodeFrame = c.args.frame.now in
    let image : c.frame.inside.image.now ≡ f.image = search rules in
    let passed : c.pass_all.new.rows ≡ all_passed f 0 f.body.instructions c.loop-rows.rows.items
    = c.in_ok-pass_all.ensures ∙ ap (all_passed f 0 f.body.instructions) (c.as_mut_slice.ensures.value ∙ c.in_ok-left.ensures ∙ c.as_slice.ensures.value) in
    let left : (with_items c.in_ok-left.left c.pass_all.new.rows).items ≡ c.pass_all.new.rows = with_items_is c.in_ok-left.left c.pass_all.new.rows (search (rules, places)) in
    let rows : (with_items c.loop-rows.rows c.merge.new.rows).items ≡ c.merge.new.rows = with_items_is c.loop-rows.rows c.merge.new.rows (search (rules, places)) in
    let met : c.merge.new.rows ≡ merged f.image c.loop-rows.rows.items c.pass_all.new.rows
    = c.merge.ensures ∙ ap (λ m. merged m c.as_mut_slice-in-loop-rows.result.now c.as_mut_slice-in-loop-rows-2.result.now) image ∙ ap₂ (merged f.image) c.as_mut_slice-in-loop-rows.ensures.value (c.as_mut_slice-in-loop-rows-2.ensures.value ∙ left) in
    lighter_next f c.loop-rows.rows.items c.pass_all.new.rows (with_items c.loop-rows.rows c.merge.new.rows).items c.loop-rows.invariant passed
    (sym (ap₂ (some_change f.image) c.as_slice-in-loop-rows.ensures.value (c.as_slice-in-loop-rows-2.ensures.value ∙ left)) ∙ sym (ap (λ m. some_change m c.as_slice-in-loop-rows.result.now c.as_slice-in-loop-rows-2.result.now) image) ∙ sym c.some_change.ensures ∙ c.if-not-some_change.false)
    (rows ∙ met)

pub loop-rows-preserved : goal.loop-rows-preserved
loop-rows-preserved c =
    let f : CodeFrame = c.args.frame.now in
    let image : c.frame.inside.image.now ≡ f.image = search rules in
    let passed : c.pass_all.new.rows ≡ all_passed f 0 f.body.instructions c.loop-rows.rows.items
    = c.in_ok-pass_all.ensures ∙ ap (all_passed f 0 f.body.instructions) (c.as_mut_slice.ensures.value ∙ c.in_ok-left.ensures ∙ c.as_slice.ensures.value) in
    let left : (with_items c.in_ok-left.left c.pass_all.new.rows).items ≡ c.pass_all.new.rows = with_items_is c.in_ok-left.left c.pass_all.new.rows (search (rules, places)) in
    let rows : (with_items c.loop-rows.rows c.merge.new.rows).items ≡ c.merge.new.rows = with_items_is c.loop-rows.rows c.merge.new.rows (search (rules, places)) in
    let met : c.merge.new.rows ≡ merged f.image c.loop-rows.rows.items c.pass_all.new.rows
    = c.merge.ensures ∙ ap (λ m. merged m c.as_mut_slice-in-loop-rows.result.now c.as_mut_slice-in-loop-rows-2.result.now) image ∙ ap₂ (merged f.image) c.as_mut_slice-in-loop-rows.ensures.value (c.as_mut_slice-in-loop-rows-2.ensures.value ∙ left) in
    settles_next f c.loop-rows.rows.items c.pass_all.new.rows (with_items c.loop-rows.rows c.merge.new.rows).items c.loop-rows.invariant passed (rows ∙ met)
