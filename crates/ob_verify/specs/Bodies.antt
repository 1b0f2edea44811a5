-- The bodies of a contract of an image.
use Rattle.std.specs.Prelude.{List, map}
use Rattle.ob_base.specs.declared.id.ContractId.{ContractId}
use Rattle.ob_code.specs.declared.image.ContractCode.{ContractCode}
use Rattle.ob_code.specs.declared.image.Image.{Image}
use Rattle.ob_verify_spec.specs.Frames.{CodeFrame}

-- the bodies of the contract of a number, each with what stands around it
abbrev pub frames_in : Image → ContractId → ContractCode → List CodeFrame
frames_in m here own = map (λ b. record { image = m; here = here; own = own; body = b }) own.bodies
