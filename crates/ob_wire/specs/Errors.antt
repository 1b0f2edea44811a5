-- What an error of a name is here.
use Rattle.ob_base.specs.declared.name.NameError.{NameError}
use Rattle.ob_base.specs.declared.name.NameError.TheVariants as name
use Rattle.ob_wire.specs.declared.reading.WireError.{WireError}
use Rattle.ob_wire.specs.declared.reading.WireError.TheVariants.{Shape, Memory}

-- bytes of another form are no request, and want of memory stays
abbrev pub wire_error : NameError → WireError
wire_error name.Bad = Shape
wire_error name.Memory = Memory
