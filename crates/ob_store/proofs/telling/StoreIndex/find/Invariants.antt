use Rattle.ob_store.proofs.telling.StoreIndex.find.Given as goal

-- the count of steps is kept in the ledger that the call begins
abbrev pub ghosts-tell_owner : goal.ghosts-tell_owner
ghosts-tell_owner a = record { name = a.blank.name; parts = a.blank.parts }
