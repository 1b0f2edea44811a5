-- By the instruction that is next.
use Rattle.ob_machine_laws.proofs.Reading.{next_reads, slice_reads}
use Rattle.ob_machine_laws.proofs.SameReads.{same_steps, same_slices}
use Rattle.ob_machine_laws.proofs.laws.reads_dont_matter.Goals as goal

pub returns : goal.returns
returns c = record { steps = next_reads; slices = slice_reads; same = same_steps; same_slices = same_slices }
