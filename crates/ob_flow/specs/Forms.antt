-- Parts of the rules that the check works out on their own.
use Rattle.ob_table.specs.declared.seen.Kind.{Kind}
use Rattle.ob_table_spec.specs.WellFormed.{kind_of_resolved}
use Rattle.ob_silica.specs.declared.place.Operand.{Operand}
use Rattle.ob_silica_places.specs.Places.{Location, slot, field, located}
use Rattle.ob_flow_spec.specs.Contexts.{BodyFrame, type_of_field, Context}
use Rattle.ob_flow_spec.specs.Uses.{kind_known}

-- the kind of a place to which a value is copied
abbrev pub copied_kind : BodyFrame → Context → Location → Operand → Kind
copied_kind b g (slot k) from = kind_known (g (located from))
copied_kind b g (field f) from = kind_of_resolved (type_of_field b f)
