use Rattle.std.proofs.Common.{◌≡◌, [], map, drop}
use Rattle.ob_tree.specs.MembersView.{contract_of}
use Rattle.ob_generic_walk.specs.HeadNotes.{heads_noted}
use Rattle.ob_generic_walk.proofs.headings.walk_heads.Given as goal

abbrev pub invariant-loop-node : goal.invariant-loop-node
invariant-loop-node l =
    heads_noted l.least l.all l.generics (map contract_of (drop l.node-index l.nodes))
    ≡ heads_noted l.fn.least [] [] (map contract_of l.nodes)
