use Rattle.std.proofs.Common.{◌≡◌, None}
use Rattle.ob_flow_spec.specs.Premises.{each, first_failing}
use Rattle.ob_perm.specs.Masks.{permission_of}
use Rattle.ob_flow_spec.specs.Joining.{joins_field}
use Rattle.ob_flow_context.specs.View.{context_of}
use Rattle.ob_flow_premises.proofs.joining.joins_fields.Given as goal

abbrev pub invariant-loop-number : goal.invariant-loop-number
invariant-loop-number l = first_failing (each l.number (joins_field l.frame (permission_of l.under) (context_of l.a) (context_of l.b) l.at)) ≡ None
