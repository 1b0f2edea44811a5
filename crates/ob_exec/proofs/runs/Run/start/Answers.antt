use Rattle.std.proofs.Common.{[], ◌∷◌}
use Rattle.ob_exec.specs.Pausing.{run_of}
use Rattle.ob_exec.proofs.runs.Run.start.Goals as goal

pub returns-clause-stands : goal.returns-clause-stands
returns-clause-stands g c =
    c.state_of-state.ensures c.args.code.now c.args.content.now (run_of c.args.code.now c.args.fuel c.args.content.now (0 ∷ []) c.args.request) c.in_ok-end.ensures
