-- By each item.
use Rattle.ob_lanes_laws.proofs.Same.{conflicts_are_differences}
use Rattle.ob_lanes_laws.proofs.laws.conflicts_are_differences.Goals as goal

pub returns : goal.returns
returns c = conflicts_are_differences
