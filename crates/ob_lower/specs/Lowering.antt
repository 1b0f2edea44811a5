-- Why a body isn't lowered.
use Rattle.ob_base.specs.Faults.{limit}
use Rattle.ob_lower_parts.specs.declared.error.Stopped.{Stopped}
use Rattle.ob_lower_parts.specs.declared.error.Stopped.TheVariants.{Full, NotWellFormed, Memory as StoppedMemory}
use Rattle.ob_base.specs.declared.text_error.TextError.{TextError}
use Rattle.ob_base.specs.declared.text_error.TextError.TheVariants.{Fault, Memory}

-- what is told of a stop: a body that isn't well-formed counts as want of memory
abbrev pub error_of : Stopped → TextError
error_of (Full place) = Fault (record { number = limit; span = place })
error_of NotWellFormed = Memory
error_of StoppedMemory = Memory
