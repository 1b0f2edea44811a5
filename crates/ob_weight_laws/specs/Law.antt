-- What a program weighs, against the bytes of its image.
use Rattle.std.specs.Prelude.{◌≡◌, ◌≤◌, List, length, All}
use Rattle.ob_base.specs.Limits.{most_weight}
use Rattle.ob_table.specs.Tables.{ClassTable}
use Rattle.ob_table_spec.specs.Conditions.{IsClassTable}
use Rattle.ob_silica.specs.Terms.{SilicaBody}
use Rattle.ob_silica_formed.specs.WellFormedTerms.{IsWellFormedTerms}
use Rattle.ob_code.specs.Images.{image}
use Rattle.ob_emit_spec.specs.EmittedImages.{image_of}
use Rattle.ob_emit_spec.specs.Weights.{bare_image, weight}
use Rattle.ob_weight_laws.specs.Bodies.{StandInOrder}
use Rattle.ob_weight_laws.specs.Counting.{size_of_table}
use Rattle.ob_weight_laws.specs.Lines.{AllLinesFit}

-- the bytes of an image without its instructions are counted on the class table
abbrev pub CountsDeclared : Type 0
CountsDeclared = (table : ClassTable) (bodies : List SilicaBody)
    → length (image.bytes (bare_image (image_of table bodies))) ≡ size_of_table table

-- An image has at most as many bytes as its program weighs.
abbrev pub WithinWeight : Type 0
WithinWeight =
    (table : ClassTable) (bodies : List SilicaBody) → StandInOrder table bodies
    → length (image.bytes (image_of table bodies)) ≤ weight table bodies

-- Where the class table meets its conditions, the bodies are well-formed with lines that 32 bits say, and the program weighs no
-- more than it may, the image has a spelling: each of its numbers and counts fits its bytes.
abbrev pub HasSpelling : Type 0
HasSpelling =
    (table : ClassTable) (bodies : List SilicaBody) → IsClassTable table → All (IsWellFormedTerms table) bodies
    → AllLinesFit bodies → weight table bodies ≤ most_weight → image.fits (image_of table bodies)
