use Rattle.std.proofs.Common.{◌+◌, [], map, take, refl, sym, subst}
use Rattle.std.proofs.lemmas.Result.{err_from_is_err_and}
use Rattle.ob_table.specs.StatementsView.{resolved_body_of}
use Rattle.ob_silica.specs.TermsView.{silica_body_of}
use Rattle.ob_front.specs.Lowered.{AreLoweredTo}
use Rattle.ob_front.proofs.MiddleTurns.{made_turn, left_turn, lacks_here, all_made}
use Rattle.ob_front.proofs.lowering.lower_bodies.Goals as goal

pub loop-body-init : goal.loop-body-init
loop-body-init c = record {
  made = subst (λ ls. AreLoweredTo c.args.table.now [] (map silica_body_of ls)) (sym c.new-lowered.ensures) tt;
  left = refl;
}

pub returns-in_err-terms-clause-fault : goal.returns-in_err-terms-clause-fault
returns-in_err-terms-clause-fault c =
    let failed = err_from_is_err_and c.from_residual.result c.from_residual.ensures.1 in
    rw (failed.1, failed.2)
    (lacks_here c.args.table.now c.bodies-body-items.result.now c.loop-body.body-index c.body-item.result _ c.loop-body-test.true
    c.body-item.is c.bodies-body-items.ensures c.loop-body.invariant.left c.in_err-terms.ensures.fault)

pub loop-body-preserved : goal.loop-body-preserved
loop-body-preserved c =
    let xs = c.bodies-body-items.result.now in
    let lowered = c.in_ok-terms.ensures in
    record {
      made = subst (λ ls. AreLoweredTo c.args.table.now (map resolved_body_of (take (c.loop-body.body-index + 1) xs)) (map silica_body_of ls)) (sym c.in_ok-add.ensures)
          (made_turn c.args.table.now xs c.loop-body.lowered c.loop-body.body-index c.body-item.result c.in_ok-terms.terms
          c.loop-body-test.true c.body-item.is c.loop-body.invariant.made lowered.in_order);
      left = left_turn c.args.table.now xs c.loop-body.body-index c.body-item.result _ c.loop-body-test.true c.body-item.is
          lowered.fits c.loop-body.invariant.left;
    }

pub returns-clause-bodies : goal.returns-clause-bodies
returns-clause-bodies c =
    all_made c.args.table.now c.bodies-body-items.result.now c.loop-body.lowered c.loop-body.body-index c.loop-body-test.false
    c.bodies-body-items.ensures c.loop-body.invariant.made
