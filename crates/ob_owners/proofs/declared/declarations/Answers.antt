use Rattle.std.proofs.Common.{map, ap, ◌∙◌}
use Rattle.ob_owners.specs.Indexes.{without_bodies}
use Rattle.ob_owners.proofs.OwnersLemmas.{same_references}
use Rattle.ob_owners.proofs.declared.declarations.Goals as goal

pub returns : goal.returns
returns c = same_references c.args.code.now (record { contracts = c.in_ok-contracts.contracts }) (c.in_ok-contracts.ensures ∙ ap (map without_bodies) c.as_slice.ensures)
