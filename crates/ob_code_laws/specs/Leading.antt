-- Where the jumps of verified code lead (this project's own).
use Rattle.ob_code.specs.declared.image.Image.{Image}
use Rattle.ob_machine_steps.specs.Measures.{LeadsAheadOrToUnit}
use Rattle.ob_verify_spec.specs.Verified.{IsVerified}

-- each jump of verified code leads ahead, or to a `unit`
abbrev pub VerifiedJumpsLeadAheadOrToUnit : Type 0
VerifiedJumpsLeadAheadOrToUnit = (image : Image) → IsVerified image → LeadsAheadOrToUnit image
