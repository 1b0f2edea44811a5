use Rattle.ob_serve.proofs.serving.next_line.Goals as goal

pub returns-in-Ok-Fault-clause-taken : goal.returns-in-Ok-Fault-clause-taken
returns-in-Ok-Fault-clause-taken g c = c.next.ensures.taken

pub returns-in-Ok-Fault-clause-once : goal.returns-in-Ok-Fault-clause-once
returns-in-Ok-Fault-clause-once g c = c.next.ensures.once

pub returns-in-Ok-Fault-clause-bound : goal.returns-in-Ok-Fault-clause-bound
returns-in-Ok-Fault-clause-bound g c = c.next.ensures.bound

pub returns-in-Ok-Fault-clause-later : goal.returns-in-Ok-Fault-clause-later
returns-in-Ok-Fault-clause-later g c = c.next.ensures.later
