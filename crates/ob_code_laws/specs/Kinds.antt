-- When values, objects and slots are of kinds, beside the objects of a run (this project's own).
use Rattle.std.specs.Prelude.{◌≡◌, ℕ, true, false, List, [], ◌∷◌, Option, Some, None, slice_get, ⊤}
use Rattle.ob_base.specs.declared.id.ContractId.{ContractId}
use Rattle.ob_table.specs.declared.seen.Kind.{Kind}
use Rattle.ob_table.specs.declared.seen.Kind.TheVariants as kind
use Rattle.ob_heap_spec.specs.Values.{Value, int_value, bool_value, text_value, reference}
use Rattle.ob_heap_spec.specs.Objects.{Object}
use Rattle.ob_heap_spec.specs.Contents.{object_at}
use Rattle.ob_code.specs.declared.image.ContractCode.{ContractCode}
use Rattle.ob_code.specs.declared.image.FieldCode.{FieldCode}
use Rattle.ob_code.specs.declared.image.Image.{Image}
use Rattle.ob_machine_steps.specs.Slots.{Slots, value_at}
use Rattle.ob_code.specs.Code.{is_interface, contract_code}
use Rattle.ob_verify_spec.specs.Kinds.{kind_of_type, is_reference, fits_contract}
use Rattle.ob_verify_spec.specs.Instructions.{Need, of_kind, any_value, any_reference, alike}

-- Values.

-- a number names an object that is there, of this contract or of one that implements this interface
pub record NamesObject (image : Image) (objects : List Object) (wanted : ContractId) (n : ℕ) : Type 0 where
  pub object : Object
  pub there : object_at objects n ≡ Some object
  pub fits : fits_contract image object.contract wanted ≡ true

-- a value is of a kind: a reference names an object of the contract, or of one that implements the interface
abbrev pub IsOfKind : Image → List Object → Kind → Value → Type 0
IsOfKind image objects kind.Int (int_value z) = ⊤
IsOfKind image objects kind.Bool (bool_value b) = ⊤
IsOfKind image objects kind.Text (text_value bytes) = ⊤
IsOfKind image objects (kind.Reference c) (reference n) = NamesObject image objects c n
IsOfKind image objects x v = ⊥

-- values are of kinds, one for one
abbrev pub AreOfKinds : Image → List Object → List Kind → List Value → Type 0
AreOfKinds image objects [] [] = ⊤
AreOfKinds image objects (x ∷ xs) (v ∷ vs) = IsOfKind image objects x v × AreOfKinds image objects xs vs
AreOfKinds image objects xs vs = ⊥

-- what a body gives is as it declares: a value of its result's kind, or none where it has no result
abbrev pub IsResultOf : Image → List Object → Option Kind → Option Value → Type 0
IsResultOf image objects None None = ⊤
IsResultOf image objects (Some x) (Some v) = IsOfKind image objects x v
IsResultOf image objects x v = ⊥

-- Objects.

-- a contract declares the field of a number, and a value is of the field's kind
pub record IsFieldValue (image : Image) (objects : List Object) (own : ContractCode) (k : ℕ) (v : Value) : Type 0 where
  pub field : FieldCode
  pub declared : slice_get own.fields k ≡ Some field
  pub kind : IsOfKind image objects (kind_of_type field.of) v

-- an object is of a contract of the image, not of an interface, and each of its fields that has a value has one of its kind
pub record HasFieldsOfKinds (image : Image) (objects : List Object) (o : Object) : Type 0 where
  pub own : ContractCode
  pub of : contract_code image o.contract ≡ Some own
  pub contract : is_interface own ≡ false
  pub fields : (k : ℕ) (v : Value) → o.fields k ≡ Some v → IsFieldValue image objects own k v

-- the same of each of these objects
pub record HaveFieldsOfKinds (image : Image) (objects : List Object) : Type 0 where
  pub each : (n : ℕ) (o : Object) → object_at objects n ≡ Some o → HasFieldsOfKinds image objects o

-- a number names an object of just this contract
pub record IsObjectOf (objects : List Object) (contract : ContractId) (n : ℕ) : Type 0 where
  pub object : Object
  pub there : object_at objects n ≡ Some object
  pub of : object.contract ≡ contract

-- Slots.

-- a slot is set
pub record IsSet (slots : Slots) (k : ℕ) : Type 0 where
  pub value : Value
  pub there : value_at slots k ≡ Some value

-- a slot holds a value of a kind
pub record Holds (image : Image) (objects : List Object) (slots : Slots) (k : ℕ) (x : Kind) : Type 0 where
  pub value : Value
  pub there : value_at slots k ≡ Some value
  pub kind : IsOfKind image objects x value

-- a slot refers to an object that is there
pub record HoldsReference (objects : List Object) (slots : Slots) (k : ℕ) : Type 0 where
  pub number : ℕ
  pub there : value_at slots k ≡ Some (reference number)
  pub object : Object
  pub found : object_at objects number ≡ Some object

-- two slots hold values of one kind, which is no reference's
pub record HoldAlike (image : Image) (objects : List Object) (slots : Slots) (k l : ℕ) : Type 0 where
  pub kind : Kind
  pub plain : is_reference kind ≡ false
  pub left : Holds image objects slots k kind
  pub right : Holds image objects slots l kind

-- what slots hold meets a need
abbrev pub AreMet : Image → List Object → Slots → Need → Type 0
AreMet image objects slots (of_kind k wanted) = Holds image objects slots k wanted
AreMet image objects slots (any_value k) = IsSet slots k
AreMet image objects slots (any_reference k) = HoldsReference objects slots k
AreMet image objects slots (alike k l) = HoldAlike image objects slots k l
