-- What operators give, as the code tells it (this project's own).
use Rattle.ob_heap_spec.specs.Operations.{Operated as PlainOperated, operated, overflows, other_kinds}
use Rattle.ob_heap.specs.Plain.{value_of}
use Rattle.ob_machine_parts.specs.declared.operations.Operated.{Operated}
use Rattle.ob_machine_parts.specs.declared.operations.Operated.TheVariants.{Value, Overflows, OtherKinds}

-- what an operation comes to
abbrev pub operated_of : Operated → PlainOperated
operated_of (Value v) = operated (value_of v)
operated_of Overflows = overflows
operated_of OtherKinds = other_kinds
