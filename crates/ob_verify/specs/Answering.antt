-- What an error of the verifier says of an image.
use Rattle.std.specs.Prelude.{⊤}
use Rattle.ob_code.specs.declared.image.Image.{Image}
use Rattle.ob_verify_spec.specs.Verified.{HasFault}
use Rattle.ob_verify.specs.declared.verifying.VerifyError.{VerifyError}
use Rattle.ob_verify.specs.declared.verifying.VerifyError.TheVariants.{Fault, Memory}

-- an image is refused for its first fault; want of memory says nothing of it
abbrev pub Refuses : Image → VerifyError → Type 0
Refuses m (Fault number body instruction) = HasFault m number body instruction
Refuses m Memory = ⊤
