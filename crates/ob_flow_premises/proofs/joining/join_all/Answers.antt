use Rattle.std.proofs.Common.{[], ◌∷◌, length, length-append, ap, ◌∙◌, arith}
use Rattle.ob_flow_context.specs.View.{known_at}
use Rattle.ob_flow_context.proofs.BeginningLemmas.{first_none, first_more}
use Rattle.ob_flow_premises.specs.Joins.{joined_numbers}
use Rattle.ob_flow_premises.proofs.JoinLemmas.{joined_all}
use Rattle.ob_flow_premises.proofs.joining.join_all.Goals as goal

pub loop-number-init : goal.loop-number-init
loop-number-init c =
    (ap length c.in_ok-joined.ensures, ap known_at c.in_ok-joined.ensures ∙ first_none (joined_numbers (known_at c.args.a.now) (known_at c.args.b.now)))

pub loop-number-preserved : goal.loop-number-preserved
loop-number-preserved c =
    let pushed = c.in_ok-push.ensures.ok in (
      omega (arith, ap length pushed, length-append c.loop-number.joined (c.joined_at.result ∷ []), c.loop-number.invariant.0),
      ap known_at pushed ∙ first_more (joined_numbers (known_at c.args.a.now) (known_at c.args.b.now)) c.loop-number.joined
          c.loop-number.number c.joined_at.result c.loop-number.invariant.0 c.loop-number.invariant.1 c.joined_at.ensures,
    )

pub returns : goal.returns
returns c = c.loop-number.invariant.1 ∙ joined_all c.args.a.now c.args.b.now c.loop-number.number (omega arith)
