use Rattle.std.proofs.Common.{◌∙◌, [], suc, get_or, ap, length}
use Rattle.std.proofs.lemmas.List.{length-map}
use Rattle.ob_links.specs.Lists.{joined, without_node}
use Rattle.ob_owners.proofs.TakingLemmas.{count_gone}
use Rattle.ob_lanes.proofs.ListLemmas.{node_in, some_in, removed_others}
use Rattle.ob_lanes.proofs.lists.remove.Goals as goal

pub remove-lane-requires : goal.remove-lane-requires
remove-lane-requires c = some_in c.args.node c.args.links.now.lists c.args.list (node_in c.args.lane c.args.node (get_or c.args.links.now.lists c.args.list []) c.requires.node)

pub returns-clause-others : goal.returns-clause-others
returns-clause-others c = removed_others c.args.links.now c.remove-lane.new.self c.args.lane c.args.list c.args.node c.requires.apart c.requires.node c.remove-lane.ensures.lists

pub returns-clause-count : goal.returns-clause-count
returns-clause-count c =
    ap (λ ls. suc (length (joined ls))) c.remove-lane.ensures.lists
    ∙ count_gone c.args.node c.args.links.now.lists c.requires.apart
    (some_in c.args.node c.args.links.now.lists c.args.list (node_in c.args.lane c.args.node (get_or c.args.links.now.lists c.args.list []) c.requires.node))

pub returns-clause-lists : goal.returns-clause-lists
returns-clause-lists c = ap length c.remove-lane.ensures.lists ∙ length-map c.args.links.now.lists (without_node c.args.node)
