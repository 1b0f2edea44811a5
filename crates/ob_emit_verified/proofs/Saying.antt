-- What an image has to say of a class table for the code of a body to be certified.
use Rattle.std.proofs.Common.{◌≡◌, ◌<◌, true, false, List, map, length, Some, slice_get}
use Rattle.std.specs.Prelude.{is_some, option_map}
use Rattle.std.specs.Option.{option_map_or}
use Rattle.ob_base.specs.declared.id.ContractId.{ContractId}
use Rattle.ob_base.specs.declared.id.FieldId.{FieldId}
use Rattle.ob_base.specs.declared.id.StateId.{StateId}
use Rattle.ob_base.specs.declared.id.TxId.{TxId}
use Rattle.ob_table.specs.Tables.{contract_at, field_at, signature_of}
use Rattle.ob_table.specs.declared.contract.Contract.{Contract}
use Rattle.ob_table.specs.declared.contract.Field.{Field}
use Rattle.ob_table.specs.declared.contract.Param.{Param}
use Rattle.ob_table.specs.declared.contract.Signature.{Signature}
use Rattle.ob_table.specs.declared.seen.Kind.{Kind}
use Rattle.ob_table_spec.specs.WellFormed.{StaticFrame, kind_of_resolved, serves_as, constructor_at, is_constructor as constructs_at}
use Rattle.ob_code.specs.declared.image.BodyCode.{BodyCode}
use Rattle.ob_code.specs.declared.image.Image.{Image}
use Rattle.ob_code.specs.Code.{is_constructor, contract_code, body_code}
use Rattle.ob_verify_spec.specs.Kinds.{fits}
use Rattle.ob_verify_spec.specs.Frames.{CodeFrame, constructor_code, kinds_of_params, kind_of_result, kind_of_field}
use Rattle.ob_verify_spec.specs.Conditions.{has_state, is_answered, constructs}
use Rattle.ob_verify_spec.specs.Calling.{ImplementsInterfacesAlone}

-- the kinds of parameters
abbrev pub kinds_passed : List Param → List Kind
kinds_passed ps = map (λ (p : Param). kind_of_resolved p.of) ps

-- a body of the image has the parameters of a signature
pub record TakesParams (b : BodyCode) (s : Signature) : Type 0 where
  pub kinds : kinds_of_params b ≡ kinds_passed s.params
  pub count : length b.params ≡ length s.params

-- it is no constructor's, and has the result of the signature too
pub record IsTransactionOf (b : BodyCode) (s : Signature) : Type 0 where
  pub params : TakesParams b s
  pub result : kind_of_result b ≡ option_map kind_of_resolved s.result
  pub results : is_some b.result ≡ is_some s.result
  pub plain : is_constructor b ≡ false

-- what a `new` of a contract names is there
pub record IsMade (f : StaticFrame) (m : Image) (id : ContractId) : Type 0 where
  pub signature : Signature
  pub there : constructor_at f.table id ≡ Some signature
  pub body : BodyCode
  pub constructor : constructor_code m id ≡ Some body
  pub params : TakesParams body signature
  pub takes : option_map_or (constructs (length signature.params)) (contract_code m id) false ≡ true

-- what a call with a receiver names is there, and answered
pub record IsCalled (m : Image) (id : ContractId) (tx : TxId) (s : Signature) : Type 0 where
  pub body : BodyCode
  pub there : body_code m id tx ≡ Some body
  pub of : IsTransactionOf body s
  pub answered : is_answered m id body ≡ true

-- what a call of `this` names is there
pub record IsCalledHere (c : CodeFrame) (tx : TxId) (s : Signature) : Type 0 where
  pub body : BodyCode
  pub there : slice_get c.own.bodies tx.0 ≡ Some body
  pub of : IsTransactionOf body s

-- a field of the contract has its kind in the image
pub record IsFieldOf (c : CodeFrame) (id : FieldId) (field : Field) : Type 0 where
  pub kind : kind_of_field c id.0 ≡ Some (kind_of_resolved field.of)
  pub within : id.0 < length c.own.fields

-- The image says of the contract, of its fields and states, and of what it names the same as the class table.
pub record Says (f : StaticFrame) (c : CodeFrame) : Type 0 where
  pub alone : ImplementsInterfacesAlone c.image
  pub serves : (wanted has : Kind) → serves_as f.table wanted has ≡ true → fits c.image has wanted ≡ true
  pub result : kind_of_result c.body ≡ f.result
  pub results : is_some c.body.result ≡ is_some f.result
  pub field : (id : FieldId) (field : Field) → field_at f.own id ≡ Some field → IsFieldOf c id field
  pub state : (s : StateId) → s.0 < length f.own.states → has_state s c.own ≡ true
  pub tested : (id : ContractId) (own : Contract) (s : StateId) → contract_at f.table id ≡ Some own → s.0 < length own.states
      → option_map_or (has_state s) (contract_code c.image id) false ≡ true
  pub made : (id : ContractId) (own : Contract) → contract_at f.table id ≡ Some own → own.interface ≡ false → IsMade f c.image id
  pub called : (id : ContractId) (tx : TxId) (s : Signature) → signature_of f.table id tx ≡ Some s
      → constructs_at f.table id tx.0 ≡ false → IsCalled c.image id tx s
  pub called_here : (tx : TxId) (s : Signature) → signature_of f.table f.here tx ≡ Some s
      → constructs_at f.table f.here tx.0 ≡ false → IsCalledHere c tx s
