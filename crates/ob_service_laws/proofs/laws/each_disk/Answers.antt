-- By what a disk represents as a journal, and then by each condition in its order.
use Rattle.ob_service_laws.proofs.Disks.{each_disk}
use Rattle.ob_service_laws.proofs.laws.each_disk.Goals as goal

pub returns : goal.returns
returns c = each_disk
