-- What is known of each program that is accepted.
use Rattle.std.specs.Prelude.{List, All}
use Rattle.ob_table.specs.Tables.{ClassTable}
use Rattle.ob_table_spec.specs.WellFormed.{HasBodies}
use Rattle.ob_silica.specs.Terms.{SilicaBody}
use Rattle.ob_coherent_spec.specs.Remaining.{IsCheckedBody}
use Rattle.ob_lower_correct.specs.Law.{IsLoweredProgram}
use Rattle.ob_soundness_laws.specs.Sound.{IsPermissionSound}
use Rattle.ob_sound_code.specs.SoundCode.{IsSoundCode}
use Rattle.ob_code.specs.declared.image.Image.{Image}
use Rattle.ob_front.specs.Checked.{AllNumbered}

-- A class table and terms as the laws on programs want them, where what is proved of the runs of an accepted text begins:
-- the table meets the table conditions, its bodies are well-formed and may be lowered to the terms, so that these keep their
-- meaning; there is one body for each constructor and transaction; and the terms are well-formed, name states by numbers that
-- a state can have, and derive by the permission rules.
pub record IsCompiledProgram (table : ClassTable) (bodies : List SilicaBody) : Type 0 where
  pub lowered : IsLoweredProgram (record { table = table; bodies = bodies })
  pub each : HasBodies table
  pub checked : All (IsCheckedBody table) bodies
  pub states : AllNumbered bodies

-- A class table and terms are a sound program: no request on a store at rest goes wrong, each leaves the store at rest, and each
-- stored asset that is marked neither as shared nor as disowned has exactly one owner.
abbrev pub IsSoundProgram : ClassTable → List SilicaBody → Type 0
IsSoundProgram table bodies = IsPermissionSound (record { table = table; bodies = bodies })

-- An image is sound code of such a program: it is a sound image, and each request on a store at rest comes by it to what the source
-- meaning says.
abbrev pub HasSoundCode : ClassTable → List SilicaBody → Image → Type 0
HasSoundCode table bodies image = IsSoundCode (record { table = table; bodies = bodies }) image
