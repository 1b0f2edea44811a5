use Rattle.ob_serve.proofs.batches.answer_batch.Given as goal

-- the count of turns is kept in the ledger that the call begins
abbrev pub ghosts-answer_turns : goal.ghosts-answer_turns
ghosts-answer_turns g a = record { name = a.blank.name; parts = a.blank.parts }
