use Rattle.std.proofs.Common.{◌≡◌, take}
use Rattle.ob_flow_context.specs.View.{context_of, tested_of}
use Rattle.ob_flow_premises.specs.Forms.{all_own}
use Rattle.ob_flow_premises.proofs.returning.all_own.Given as goal

abbrev pub invariant-loop-place : goal.invariant-loop-place
invariant-loop-place l = l.all ≡ all_own (context_of l.context) (tested_of (take l.place-index l.tested))
