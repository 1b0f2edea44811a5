-- What all steps keep, part by part.
use Rattle.ob_heap_spec.specs.Worlds.{World}
use Rattle.ob_silica_steps.specs.Configurations.{NextStep, goes, ended, aborted, stuck}
use Rattle.ob_silica_laws.specs.Laws.{UnitsAddUp, ReadsGrow, ObjectsStay}
use Rattle.ob_silica_laws.proofs.Keeping.{Leads}

pub units_of : {w : World} (next : NextStep) → Leads w next → UnitsAddUp w next
units_of (goes c) a = a.by.units
units_of (ended result u) a = a.by.units
units_of (aborted cause s) a = a.by.units
units_of stuck a = tt

pub reads_of : {w : World} (next : NextStep) → Leads w next → ReadsGrow w next
reads_of (goes c) a = a.by.reads
reads_of (ended result u) a = a.by.reads
reads_of (aborted cause s) a = a.by.reads
reads_of stuck a = tt

pub objects_of : {w : World} (next : NextStep) → Leads w next → ObjectsStay w next
objects_of (goes c) a = a.by.objects
objects_of (ended result u) a = a.by.objects
objects_of (aborted cause s) a = tt
objects_of stuck a = tt
