use Rattle.ob_lanes.proofs.lists.node.Given as goal

abbrev pub ghosts-find : goal.ghosts-find
ghosts-find a = record { name = a.blank.name; parts = 1 }
