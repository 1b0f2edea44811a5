-- Which of the two areas, as plain data.
use Rattle.ob_journal_spec.specs.Disks.{Place, first, second}
use Rattle.ob_journal.specs.declared.place.AreaPlace.{AreaPlace}
use Rattle.ob_journal.specs.declared.place.AreaPlace.TheVariants.{First, Second}

-- a place, as plain data
abbrev pub place_in : AreaPlace → Place
place_in First = first
place_in Second = second
