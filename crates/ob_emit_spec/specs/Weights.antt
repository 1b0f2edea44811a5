-- What a program weighs: a bound on the bytes of its image that doesn't depend on how its terms are emitted (this project's own).
use Rattle.std.specs.Prelude.{ℕ, ◌≡◌, ◌+◌, ◌*◌, ◌<◌, List, [], ◌∷◌, map, length}
use Rattle.ob_base.specs.Faults.{limit}
use Rattle.ob_base.specs.Limits.{most_weight}
use Rattle.ob_base.specs.declared.fault.ProgramFault.{ProgramFault}
use Rattle.ob_base.specs.declared.fault.Span.{Span}
use Rattle.ob_table.specs.Tables.{ClassTable}
use Rattle.ob_silica.specs.Terms.{SilicaForm, const_form, new_form, call_form, call_this_form, change_form, test_form, if_form, loop_form, SilicaTerms, no_terms, and_term, SilicaBody}
use Rattle.ob_silica.specs.declared.place.Constant.{Constant}
use Rattle.ob_silica.specs.declared.place.Constant.TheVariants as constant
use Rattle.ob_code.specs.Images.{image}
use Rattle.ob_code.specs.declared.image.BodyCode.{BodyCode}
use Rattle.ob_code.specs.declared.image.ContractCode.{ContractCode}
use Rattle.ob_code.specs.declared.image.Image.{Image}
use Rattle.ob_emit_spec.specs.EmittedImages.{image_of}

-- Declarations.

-- a body without its instructions
abbrev pub bare_body : BodyCode → BodyCode
bare_body b = record b { instructions = [] }

-- a contract whose bodies have no instructions
abbrev pub bare_contract : ContractCode → ContractCode
bare_contract c = record c { bodies = map bare_body c.bodies }

-- an image whose bodies have no instructions; that there are none is still said of each
abbrev pub bare_image : Image → Image
bare_image m = record { contracts = map bare_contract m.contracts }

-- Terms.

-- what a form weighs by itself
abbrev pub form_weight : ℕ
form_weight = 32

-- what an argument or a given field weighs
abbrev pub argument_weight : ℕ
argument_weight = 16

-- the bytes of a text
abbrev pub weight_of_constant : Constant → ℕ
weight_of_constant (constant.Int z) = 0
weight_of_constant (constant.Bool b) = 0
weight_of_constant (constant.Text bytes) = length bytes

abbrev mutual
  -- what a form weighs, with those in its branches or in the parts of a loop
  pub weight_of_form : SilicaForm → ℕ
  weight_of_form (const_form k value) = form_weight + weight_of_constant value
  weight_of_form (new_form k contract args) = form_weight + argument_weight * length args
  weight_of_form (call_form k receiver contract tx args) = form_weight + argument_weight * length args
  weight_of_form (call_this_form k tx args) = form_weight + argument_weight * length args
  weight_of_form (change_form state given) = form_weight + argument_weight * length given
  weight_of_form (test_form place state branch other join) = form_weight + (weight_of_terms branch + weight_of_terms other)
  weight_of_form (if_form a branch other join) = form_weight + (weight_of_terms branch + weight_of_terms other)
  weight_of_form (loop_form first a body end) = form_weight + (weight_of_terms first + weight_of_terms body)
  weight_of_form form = form_weight

  -- what terms weigh
  pub weight_of_terms : SilicaTerms → ℕ
  weight_of_terms no_terms = 0
  weight_of_terms (and_term form span rest) = weight_of_form form + weight_of_terms rest

-- what the terms of bodies weigh
abbrev pub weight_of_bodies : List SilicaBody → ℕ
weight_of_bodies [] = 0
weight_of_bodies (b ∷ bs) = weight_of_terms b.terms + weight_of_bodies bs

-- The weight of a program: the bytes of its image without the instructions, and what its terms weigh.
abbrev pub weight : ClassTable → List SilicaBody → ℕ
weight table bodies = length (image.bytes (bare_image (image_of table bodies))) + weight_of_bodies bodies

-- the first place of a text
abbrev pub text_start : Span
text_start = record { start = 0; end = 0; line = 1; column = 1 }

-- a program weighs more than it may: the fault that is told of it
pub record IsTooHeavy (table : ClassTable) (bodies : List SilicaBody) (fault : ProgramFault) : Type 0 where
  pub number : fault.number ≡ limit
  pub span : fault.span ≡ text_start
  pub heavy : most_weight < weight table bodies
