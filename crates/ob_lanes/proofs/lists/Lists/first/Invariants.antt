use Rattle.ob_lanes.proofs.lists.Lists.first.Given as goal

abbrev pub ghosts-head : goal.ghosts-head
ghosts-head a = record { name = a.blank.name; parts = 1 }
