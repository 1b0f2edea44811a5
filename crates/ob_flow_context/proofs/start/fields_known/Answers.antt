use Rattle.std.proofs.Common.{[], ◌∷◌, length, length-append, ap, ◌∙◌, arith}
use Rattle.ob_flow_spec.specs.Contexts.{field_known}
use Rattle.ob_flow_context.specs.View.{known_at}
use Rattle.ob_flow_context.proofs.BeginningLemmas.{first_none, first_more, first_all}
use Rattle.ob_flow_context.proofs.start.fields_known.Goals as goal

pub loop-number-init : goal.loop-number-init
loop-number-init c = (ap length c.new-fields.ensures, ap known_at c.new-fields.ensures ∙ first_none (field_known c.args.frame.now))

pub loop-number-preserved : goal.loop-number-preserved
loop-number-preserved c =
    let pushed = c.in_ok-push.ensures.ok in (
      omega (arith, ap length pushed, length-append c.loop-number.fields (c.field_known.result ∷ []), c.loop-number.invariant.0),
      ap known_at pushed ∙ first_more (field_known c.args.frame.now) c.loop-number.fields c.loop-number.number c.field_known.result
          c.loop-number.invariant.0 c.loop-number.invariant.1 c.field_known.ensures,
    )

pub returns : goal.returns
returns c = c.loop-number.invariant.1 ∙ first_all c.args.frame.now c.loop-number.number (omega arith)
