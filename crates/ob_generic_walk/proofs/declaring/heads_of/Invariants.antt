use Rattle.std.proofs.Common.{◌≡◌, map, take}
use Rattle.ob_tree.specs.MembersView.{contract_of}
use Rattle.ob_generic_spec.specs.Heads.{heads_of}
use Rattle.ob_generic_walk.proofs.declaring.heads_of.Given as goal

abbrev pub invariant-loop-node : goal.invariant-loop-node
invariant-loop-node l = l.heads ≡ heads_of (map contract_of (take l.node-index l.nodes))
