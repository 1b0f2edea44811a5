use Rattle.std.proofs.Common.{ap, ◌∙◌}
use Rattle.ob_silica.specs.TermsView.{terms_of}
use Rattle.ob_silica_kinds.specs.Kinds.{kinds_of, kinds_at_head}
use Rattle.ob_flow_premises.specs.Loops.{all_kinds}
use Rattle.ob_flow_premises.proofs.LoopLemmas.{kinds_turned}
use Rattle.ob_flow_premises.proofs.looping.kinds_at_head.Goals as goal

pub returns : goal.returns
returns c =
    let first = terms_of c.args.first.now in
    let body = terms_of c.args.body.now in
    kinds_turned c.args.frame.now c.args.context.now first body c.in_ok-slots.slots c.of-kinds.result.slots c.go_to_head.new.kinds.slots
    (c.in_ok-slots.ensures ∙ ap all_kinds c.slots.ensures) (ap (λ kinds. kinds.slots) c.of-kinds.ensures)
    (c.in_ok-go_to_head.ensures ∙ ap (λ f. kinds_at_head f first body (kinds_of c.of-kinds.result.slots)) c.static_of.ensures)
