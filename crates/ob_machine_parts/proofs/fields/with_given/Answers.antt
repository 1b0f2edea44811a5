use Rattle.std.proofs.Common.{◌∙◌}
use Rattle.ob_machine_parts.specs.Shown.{slots_of}
use Rattle.ob_machine_parts.proofs.KeptLemmas.{given_step}
use Rattle.ob_machine_parts.proofs.fields.with_given.Goals as goal

pub loop-field-preserved : goal.loop-field-preserved
loop-field-preserved c =
    given_step (slots_of c.args.slots.now) c.args.given.now c.loop-field.field-index (record { 0 = 0 }, 0) c.loop-field.filled c.put.new.self
    c.in_ok-copy_of.field-0 c.loop-field-test.true c.in_ok-copy_of.ensures c.in_ok-put.ensures.ok
    ∙ c.loop-field.invariant
