-- The bodies of an image, each with what stands around it.
use Rattle.std.specs.Prelude.{ℕ, ◌+◌, ◌++◌, List, [], ◌∷◌, Option, option_map, map, find, slice_get}
use Rattle.std.specs.Option.{option_and_then}
use Rattle.ob_base.specs.declared.id.ContractId.{ContractId}
use Rattle.ob_table.specs.declared.seen.Kind.{Kind}
use Rattle.ob_code.specs.declared.image.BodyCode.{BodyCode}
use Rattle.ob_code.specs.declared.image.ContractCode.{ContractCode}
use Rattle.ob_code.specs.declared.image.Image.{Image}
use Rattle.ob_code.specs.Code.{is_constructor, contract_code}
use Rattle.ob_verify_spec.specs.Kinds.{kind_of_type, kind_of_param}

-- a body, the contract that it stands in with its number, and the image
pub record CodeFrame : Type 0 where
  pub image : Image
  pub here : ContractId
  pub own : ContractCode
  pub body : BodyCode

-- the bodies of contracts, of which the first has this number, in their order
abbrev pub frames_from : Image → ℕ → List ContractCode → List CodeFrame
frames_from m n [] = []
frames_from m n (c ∷ cs) = map (λ b. record { image = m; here = record { 0 = n }; own = c; body = b }) c.bodies ++ frames_from m (n + 1) cs

-- the bodies of an image, in their order, so that the place of each is its number
abbrev pub frames_of : Image → List CodeFrame
frames_of m = frames_from m 0 m.contracts

-- the constructor of a contract
abbrev pub constructor_code : Image → ContractId → Option BodyCode
constructor_code m c = option_and_then (λ (own : ContractCode). find is_constructor own.bodies) (contract_code m c)

-- the kinds of a body's parameters
abbrev pub kinds_of_params : BodyCode → List Kind
kinds_of_params b = map kind_of_param b.params

-- the kind of its result, if it has one
abbrev pub kind_of_result : BodyCode → Option Kind
kind_of_result b = option_map kind_of_type b.result

-- the kind of a field of the contract
abbrev pub kind_of_field : CodeFrame → ℕ → Option Kind
kind_of_field f k = option_map (λ field. kind_of_type field.of) (slice_get f.own.fields k)
