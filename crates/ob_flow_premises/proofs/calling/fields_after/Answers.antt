use Rattle.std.proofs.Common.{[], ◌∷◌, length, length-append, ap, ◌∙◌, arith}
use Rattle.ob_flow_context.specs.View.{known_at}
use Rattle.ob_flow_context.proofs.BeginningLemmas.{first_none, first_more}
use Rattle.ob_flow_premises.specs.Calls.{field_after}
use Rattle.ob_flow_premises.proofs.JoinLemmas.{fields_first}
use Rattle.ob_flow_premises.proofs.calling.fields_after.Goals as goal

pub loop-number-init : goal.loop-number-init
loop-number-init c =
    (ap length c.in_ok-fields.ensures, ap known_at c.in_ok-fields.ensures ∙ first_none (field_after c.args.frame.now c.args.signature.now))

pub loop-number-preserved : goal.loop-number-preserved
loop-number-preserved c =
    let pushed = c.in_ok-push.ensures.ok in (
      omega (arith, ap length pushed, length-append c.loop-number.fields (c.field_after.result ∷ []), c.loop-number.invariant.0),
      ap known_at pushed ∙ first_more (field_after c.args.frame.now c.args.signature.now) c.loop-number.fields
          c.loop-number.number c.field_after.result c.loop-number.invariant.0 c.loop-number.invariant.1 c.field_after.ensures,
    )

pub returns : goal.returns
returns c = c.loop-number.invariant.1 ∙ fields_first c.args.frame.now c.args.signature.now c.loop-number.number (omega arith)
