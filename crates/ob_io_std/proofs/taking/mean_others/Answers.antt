use Rattle.std.proofs.Common.{[], ◌++◌, arith}
use Rattle.ob_io_std.proofs.CallLemmas.{adds_then}
use Rattle.ob_io_std.proofs.TakingLemmas.{looks_then, others_next}
use Rattle.ob_io_std.proofs.taking.mean_others.Goals as goal

pub returns-in_err-means_other-clause-looks : goal.returns-in_err-means_other-clause-looks
returns-in_err-means_other-clause-looks g c =
    looks_then _ _ _ c.names.invariant.looked c.means_other.ensures.looks

pub names-preserved : goal.names-preserved
names-preserved g c =
    let was = c.names.invariant in
    let next = c.in_ok-means_other.ensures.other in
    record {
      calls = was.calls ++ next.0;
      within = omega (arith, c.names-test.true);
      others = others_next c.args.own c.args.names.now c.names.at record { ref_ptr = (0, 0); now = [] } was.calls next.0 (omega (arith, c.names-test.true)) was.others next.1;
      adds = adds_then _ _ _ was.calls next.0 was.adds next.2;
      looked = looks_then _ _ _ was.looked c.means_other.ensures.looks;
    }
