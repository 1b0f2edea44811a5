use Rattle.std.proofs.Common.{ap, ◌∙◌}
use Rattle.ob_silica.specs.TermsView.{form_of, terms_of, form_of-Loop}
use Rattle.ob_flow_context.specs.View.{context_of, tested_of}
use Rattle.ob_flow.specs.Outcomes.{reached}
use Rattle.ob_flow.proofs.LoopLemmas.{turn_leads}
use Rattle.ob_flow.proofs.bodies.+check.Goals as goal

pub check_form-returns-in_ok-flow-in-Loop : goal.check_form-returns-in_ok-flow-in-Loop
check_form-returns-in_ok-flow-in-Loop t c =
    turn_leads c.args.frame.now (tested_of c.args.tested.now) (form_of c.args.form.now) (terms_of c.in-Loop.first)
    (terms_of c.as_slice-first.result.now) (terms_of c.in-Loop.body) (terms_of c.as_slice-body.result.now) c.in-Loop.a
    c.in-Loop.end c.args.at (context_of c.args.context.now) (context_of c.begin_turn.new.context)
    (context_of c.in_ok-head-in-Loop.head) (reached c.in_ok-flow-in-Loop.flow (context_of c.check_terms-in-Loop.new.context))
    c.check_turn.result (context_of c.check_turn.new.context)
    (ap form_of c.in-Loop.is ∙ form_of-Loop c.in-Loop.first c.in-Loop.a c.in-Loop.body c.in-Loop.end)
    (ap terms_of c.as_slice-first.ensures) (ap terms_of c.as_slice-body.ensures) c.in_ok-head-in-Loop.ensures.here
    c.in_ok-head-in-Loop.ensures.head c.in_ok-flow-in-Loop.ensures c.check_turn.ensures
