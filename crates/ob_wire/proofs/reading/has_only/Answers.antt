use Rattle.std.proofs.Common.{◌∙◌}
use Rattle.ob_wire.specs.Requests.{keys_of}
use Rattle.ob_wire.proofs.ReadingLemmas.{has_only-members}
use Rattle.ob_wire.proofs.reading.has_only.Goals as goal

pub returns-in-Some : goal.returns-in-Some
returns-in-Some c = c.are_keys.ensures ∙ has_only-members (keys_of c.args.allowed) _ _ c.in-Some.ensures
