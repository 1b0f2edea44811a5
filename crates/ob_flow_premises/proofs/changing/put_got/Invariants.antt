use Rattle.std.proofs.Common.{◌≡◌, drop}
use Rattle.ob_flow_context.specs.View.{context_of, all_known}
use Rattle.ob_flow_premises.specs.Forms.{put_got}
use Rattle.ob_flow_premises.proofs.changing.put_got.Given as goal

abbrev pub invariant-loop-number : goal.invariant-loop-number
invariant-loop-number l = put_got (context_of l.fn.context) l.given (all_known l.gots)
    ≡ put_got (context_of l.context) (drop l.number l.given) (all_known (drop l.number l.gots))
