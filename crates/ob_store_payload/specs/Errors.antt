-- What errors of names and of reading are here.
use Rattle.ob_base.specs.declared.name.NameError.{NameError}
use Rattle.ob_base.specs.declared.name.NameError.TheVariants as name
use Rattle.ob_format.specs.declared.halt.Halt.{Halt}
use Rattle.ob_format.specs.declared.halt.Halt.TheVariants as halt
use Rattle.ob_store_payload.specs.declared.error.PayloadError.{PayloadError}
use Rattle.ob_store_payload.specs.declared.error.PayloadError.TheVariants.{Bad, Memory}

-- a name of another form is bad, and want of memory stays
abbrev pub name_error : NameError → PayloadError
name_error name.Bad = Bad
name_error name.Memory = Memory

-- bytes with which nothing goes on are bad, and want of memory stays
abbrev pub halt_error : Halt → PayloadError
halt_error (halt.Stop left) = Bad
halt_error halt.Memory = Memory
