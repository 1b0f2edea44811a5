-- What the verifier finds of emitted code (this project's own).
use Rattle.ob_silica_steps.specs.Configurations.{SilicaProgram}
use Rattle.ob_verify_spec.specs.Verified.{IsVerified}
use Rattle.ob_verify_spec.specs.Calling.{ImplementsInterfacesAlone, ImplementsWhatIsThere}
use Rattle.ob_verify_spec.specs.Laws.{SlotsFitByte}
use Rattle.ob_coherent_spec.specs.Remaining.{IsCheckedProgram}
use Rattle.ob_emit_spec.specs.EmittedImages.{image_of}
use Rattle.ob_emit_verified.specs.Premises.{IsWellFormedProgram}

-- a program whose bodies are well-formed and derive is well-formed
abbrev pub CheckedProgramsAreWellFormed : Type 0
CheckedProgramsAreWellFormed = (program : SilicaProgram) → IsCheckedProgram program → IsWellFormedProgram program

-- the image of a program is verified
abbrev pub EmittedCodeIsVerified : Type 0
EmittedCodeIsVerified = (program : SilicaProgram) → IsWellFormedProgram program → IsVerified (image_of program.table program.bodies)

-- in the image of a program only interfaces are implemented, and no interface implements one
abbrev pub EmittedCodeImplementsInterfaces : Type 0
EmittedCodeImplementsInterfaces =
    (program : SilicaProgram) → IsWellFormedProgram program → ImplementsInterfacesAlone (image_of program.table program.bodies)

-- and each that is implemented is there
abbrev pub EmittedInterfacesAreThere : Type 0
EmittedInterfacesAreThere =
    (program : SilicaProgram) → IsWellFormedProgram program → ImplementsWhatIsThere (image_of program.table program.bodies)

-- a byte can say how many slots each body of the image of a program has
abbrev pub EmittedSlotsFit : Type 0
EmittedSlotsFit = (program : SilicaProgram) → IsWellFormedProgram program → SlotsFitByte (image_of program.table program.bodies)
