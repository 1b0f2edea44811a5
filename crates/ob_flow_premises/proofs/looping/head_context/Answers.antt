use Rattle.std.proofs.Common.{ap, ◌∙◌}
use Rattle.ob_silica.specs.TermsView.{terms_of}
use Rattle.ob_silica_kinds.specs.Kinds.{kinds_of}
use Rattle.ob_flow_context.specs.View.{context_of}
use Rattle.ob_flow_premises.proofs.LoopLemmas.{head_is}
use Rattle.ob_flow_premises.proofs.looping.head_context.Goals as goal

pub returns : goal.returns
returns c = ap context_of c.of.ensures
    ∙ head_is c.args.frame.now c.args.context.now (terms_of c.args.first.now) (terms_of c.args.body.now) (kinds_of c.in_ok-there.there.slots)
    c.in_ok-slots.slots c.in_ok-fields.fields c.in_ok-there.ensures c.in_ok-slots.ensures c.in_ok-fields.ensures
