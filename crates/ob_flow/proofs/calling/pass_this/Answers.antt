use Rattle.std.proofs.Common.{ap, ◌∙◌}
use Rattle.ob_silica_places.specs.Parameters.{all_parameters}
use Rattle.ob_flow_spec.specs.Binding.{reads_of}
use Rattle.ob_flow_context.specs.View.{context_of, tested_of}
use Rattle.ob_flow_context.specs.Parameters.{plain_parameters}
use Rattle.ob_flow.proofs.CallLemmas.{passes_this}
use Rattle.ob_flow.proofs.calling.pass_this.Goals as goal

pub returns : goal.returns
returns c =
    passes_this c.pass_this_with.result c.args.frame.now (tested_of c.args.tested.now) (context_of c.args.context.now)
    (context_of c.pass_this_with.new.context) c.args.at c.args.signature.now c.args.args.now
    (reads_of c.as_slice.result.now) (plain_parameters c.as_slice-2.result.now)
    (ap reads_of (c.as_slice.ensures ∙ c.in_ok-reads.ensures))
    (ap plain_parameters c.as_slice-2.ensures ∙ c.in_ok-params.ensures
    ∙ ap (λ h. all_parameters h c.args.signature.now) c.here.ensures)
    c.pass_this_with.ensures
