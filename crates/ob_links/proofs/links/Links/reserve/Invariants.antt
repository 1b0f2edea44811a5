use Rattle.std.proofs.Common.{◌-◌, ◌≡◌, ◌≤◌}
use Rattle.ob_links.proofs.links.Links.reserve.Given as goal

abbrev pub invariant-loop-self : goal.invariant-loop-self
invariant-loop-self l = (l.self.lists ≡ l.initial.self.lists) × (l.initial.self.spare ≤ l.self.spare)

abbrev pub decreases-loop-self : goal.decreases-loop-self
decreases-loop-self l = l.nodes - l.self.spare
