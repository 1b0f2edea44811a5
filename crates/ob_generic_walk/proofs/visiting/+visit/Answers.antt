use Rattle.std.proofs.Common.{Some, ap, sym, ◌∙◌}
use Rattle.std.proofs.lemmas.Result.{on_ok_weaker}
use Rattle.ob_tree.specs.NamesView.{ref_of}
use Rattle.ob_generic_spec.specs.Uses.{uses_in_argument}
use Rattle.ob_generic_spec.specs.Instances.{visits_at}
use Rattle.ob_generic_walk.specs.Seen.{seen}
use Rattle.ob_generic_walk.proofs.VisitTurns.{with_argument}
use Rattle.ob_generic_walk.proofs.visiting.+visit.Goals as goal

pub visit-returns-in_ok-visit_with-in-Some : goal.visit-returns-in_ok-visit_with-in-Some
visit-returns-in_ok-visit_with-in-Some t c =
    let a = c.args.around.now in
    let argument = c.get-argument.result.now in
    on_ok_weaker c.visit_argument.result (λ e. e
    ∙ ap (λ found. seen found (visits_at a (uses_in_argument (ref_of argument)))) c.in_ok-visit_with-in-Some.ensures
    ∙ with_argument a c.args.found.now c.args.role c.args.of.now argument
    (c.in-Some.is ∙ ap Some (sym c.get-argument.ensures))) c.visit_argument.ensures
