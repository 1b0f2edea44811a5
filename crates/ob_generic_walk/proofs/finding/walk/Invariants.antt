use Rattle.std.proofs.Common.{◌≡◌, ◌≤◌, map}
use Rattle.ob_base.specs.Limits.{most_walked}
use Rattle.ob_tree.specs.MembersView.{contract_of}
use Rattle.ob_generic_spec.specs.Instances.{visits}
use Rattle.ob_generic_spec.specs.Copied.{copied_by_all}
use Rattle.ob_generic_walk.specs.Seen.{seen, start_of}
use Rattle.ob_generic_walk.specs.Stages.{stage}
use Rattle.ob_generic_walk.proofs.finding.walk.Given as goal

abbrev pub invariant-loop-number : goal.invariant-loop-number
invariant-loop-number l =
    (l.found ≡ seen (start_of (map contract_of l.nodes)) (visits (map contract_of l.nodes) (stage (map contract_of l.nodes) l.number)))
    × (l.copied ≡ copied_by_all (map contract_of l.nodes) (stage (map contract_of l.nodes) l.number)) × (l.copied ≤ most_walked)
