use Rattle.std.proofs.Common.{◌≡◌, ◌++◌, drop}
use Rattle.ob_flow_spec.specs.Premises.{first_failing}
use Rattle.ob_flow_spec.specs.Changing.{fills_all, filled_all}
use Rattle.ob_flow_context.specs.View.{context_of, tested_of, all_known}
use Rattle.ob_flow_premises.specs.Forms.{all_got}
use Rattle.ob_flow_premises.proofs.changing.fill_all.Given as goal

abbrev pub invariant-loop-one : goal.invariant-loop-one
invariant-loop-one l = record {
  asks : first_failing (fills_all l.frame (tested_of l.tested) (context_of l.fn.context) l.at l.given)
      ≡ first_failing (fills_all l.frame (tested_of l.tested) (context_of l.context) l.at (drop l.one-index l.given));
  leaves : filled_all l.frame (context_of l.fn.context) l.given ≡ filled_all l.frame (context_of l.context) (drop l.one-index l.given);
  gets : all_got l.frame (context_of l.fn.context) l.given
      ≡ all_known l.gots ++ all_got l.frame (context_of l.context) (drop l.one-index l.given);
}
