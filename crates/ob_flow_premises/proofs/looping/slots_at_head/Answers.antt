use Rattle.std.proofs.Common.{[], ◌∷◌, length, length-append, ap, ◌∙◌, arith}
use Rattle.ob_silica_kinds.specs.Kinds.{kinds_of}
use Rattle.ob_flow_context.specs.View.{known_at}
use Rattle.ob_flow_context.proofs.BeginningLemmas.{first_none, first_more}
use Rattle.ob_flow_premises.specs.Loops.{numbers_kept}
use Rattle.ob_flow_premises.proofs.looping.slots_at_head.Goals as goal

pub loop-number-init : goal.loop-number-init
loop-number-init c = (
  ap length c.in_ok-slots.ensures,
  ap known_at c.in_ok-slots.ensures ∙ first_none (numbers_kept (kinds_of c.args.there.now.slots) (known_at c.args.context.now.slots)),
)

pub loop-number-preserved : goal.loop-number-preserved
loop-number-preserved c =
    let pushed = c.in_ok-push.ensures.ok in (
      omega (arith, ap length pushed, length-append c.loop-number.slots (c.kept_at.result ∷ []), c.loop-number.invariant.0),
      ap known_at pushed ∙ first_more (numbers_kept (kinds_of c.args.there.now.slots) (known_at c.args.context.now.slots)) c.loop-number.slots
          c.loop-number.number c.kept_at.result c.loop-number.invariant.0 c.loop-number.invariant.1 c.kept_at.ensures,
    )
