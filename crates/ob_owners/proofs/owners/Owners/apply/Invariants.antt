use Rattle.ob_owners.proofs.owners.Owners.apply.Given as goal

abbrev pub ghosts-change : goal.ghosts-change
ghosts-change a = record { name = a.blank.name; parts = a.blank.parts }
