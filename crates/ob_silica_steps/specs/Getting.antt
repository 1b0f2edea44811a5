-- What a place gets of another place, with what is noted of it (this project's own).
use Rattle.ob_table.specs.Tables.{ClassTable}
use Rattle.ob_table.specs.declared.contract.ResolvedType.{ResolvedType}
use Rattle.ob_table_spec.specs.WellFormed.{kind_of_resolved}
use Rattle.ob_silica_steps.specs.Cells.{Cell, cell}
use Rattle.ob_silica_places.specs.Known.{permission_of_type}
use Rattle.ob_silica_places.specs.Places.{Location}
use Rattle.ob_silica_steps.specs.Here.{Here, counted}
use Rattle.ob_silica_places.specs.Converting.{converted, gotten}

-- the cell that a place of this type gets from another place
abbrev pub got_from : ClassTable → ResolvedType → Here → Location → Cell → Cell
got_from table of h place c =
    cell c.value (kind_of_resolved of)
    (gotten (permission_of_type of) (converted table c.note.kind (kind_of_resolved of) (counted h place c)))
