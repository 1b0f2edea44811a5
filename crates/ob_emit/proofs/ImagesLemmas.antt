-- The image whose bodies are taken in their order is that of the program.
use Rattle.std.proofs.Common.{◌≡◌, ◌≤◌, List, length, sym, ap, ◌∙◌, subst}
use Rattle.std.specs.Prelude.{All}
use Rattle.ob_base.specs.Limits.{most_weight}
use Rattle.ob_table.specs.Tables.{ClassTable}
use Rattle.ob_table_spec.specs.Conditions.{IsClassTable}
use Rattle.ob_silica.specs.Terms.{SilicaBody}
use Rattle.ob_silica_formed.specs.WellFormedTerms.{IsWellFormedTerms}
use Rattle.ob_code.specs.Images.{image}
use Rattle.ob_code.specs.declared.image.Image.{Image}
use Rattle.ob_emit_spec.specs.EmittedImages.{image_of}
use Rattle.ob_emit_spec.specs.Weights.{weight}
use Rattle.ob_weight_laws.specs.Bodies.{StandInOrder, contracts_in_order}
use Rattle.ob_weight_laws.specs.Lines.{AllLinesFit}
use Rattle.ob_weight_laws.proofs.Order.{found_in_order}
use Rattle.ob_weight_laws.proofs.Spelling.{has_spelling}
use Rattle.ob_weight_laws.proofs.Weighing.{within_weight}

-- the image that is made, where there is one body for each constructor and transaction, in their order
pub image_is_made : (table : ClassTable) (bodies : List SilicaBody) (made : Image) → StandInOrder table bodies
    → made ≡ record { contracts = contracts_in_order table bodies 0 table.contracts } → made ≡ image_of table bodies
image_is_made table bodies made has e = e ∙ ap (λ codes. record { contracts = codes }) (sym (found_in_order table bodies has))

-- it has at most as many bytes as the program weighs
pub made_within : (table : ClassTable) (bodies : List SilicaBody) (made : Image) → StandInOrder table bodies
    → made ≡ record { contracts = contracts_in_order table bodies 0 table.contracts }
    → length (image.bytes made) ≤ weight table bodies
made_within table bodies made has e = rw (image_is_made table bodies made has e) (within_weight table bodies has)

-- that of a well-formed program has a spelling
pub made_fits : (table : ClassTable) (bodies : List SilicaBody) (made : Image) → StandInOrder table bodies
    → made ≡ record { contracts = contracts_in_order table bodies 0 table.contracts }
    → AllLinesFit bodies → weight table bodies ≤ most_weight
    → IsClassTable table → All (IsWellFormedTerms table) bodies → image.fits made
made_fits table bodies made has e lines light is formed =
    subst (λ m. image.fits m) (sym (image_is_made table bodies made has e)) (has_spelling table bodies is formed lines light)
