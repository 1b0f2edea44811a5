-- Over forms that never fail no status names a fault.
use Rattle.ob_disk.specs.Sure.{sure_disk_view}
use Rattle.ob_disk.specs.declared.sure.SureDisk.{SureDisk}
use Rattle.ob_io.specs.Sure.{sure_files_view, sure_source_view, sure_sink_view}
use Rattle.ob_io.specs.declared.sure.SureFiles.{SureFiles}
use Rattle.ob_io.specs.declared.sure.SureSink.{SureSink}
use Rattle.ob_io.specs.declared.sure.SureSource.{SureSource}
use Rattle.ob_outside.specs.Faults.{NamesFault, NamesNoFault}
use Rattle.ob_outside.specs.Outside.{OutsideView, told}
use Rattle.ob_outside.specs.declared.exit.Exit.{Exit}
use Rattle.ob_outside.specs.declared.exit.Exit.TheVariants.{Done, Refused, Usage, ReadFault, WriteFault, DiskFault, StoreRefused, FileFault, Memory, Long}
use Rattle.ob_outside.specs.declared.outside.Outside.{Outside}
use Rattle.ob_run.proofs.HoldingLemmas.{no_rise}

-- what is observable of sure forms
abbrev seen : Outside SureFiles SureSource SureSink SureDisk → OutsideView
seen o = told sure_files_view sure_source_view sure_sink_view sure_disk_view o

pub names_none : (before after : Outside SureFiles SureSource SureSink SureDisk) (exit : Exit) → NamesFault exit (seen before) (seen after) → NamesNoFault exit
names_none before after Done named = tt
names_none before after Refused named = tt
names_none before after Usage named = tt
names_none before after ReadFault named = no_rise named
names_none before after WriteFault named = no_rise named
names_none before after DiskFault named = no_rise named
names_none before after StoreRefused named = tt
names_none before after FileFault named = no_rise named
names_none before after Memory named = tt
names_none before after Long named = tt
