use Rattle.ob_run.specs.VendingMachine.{vending_machine}
use Rattle.ob_run_examples.proofs.Testing.{is_accepted}
use Rattle.ob_run_examples.proofs.Sampled.{many, passes}
use Rattle.ob_run_examples.proofs.vending_machine_is_accepted.Goals as goal

pub returns : goal.returns
returns c = is_accepted many vending_machine passes
