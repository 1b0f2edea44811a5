-- What instructions name is there, and what slots hold may be of kinds that take the place of those that are known.
use Rattle.std.specs.Prelude.{◌≡◌, ℕ, ◌<◌, List, length, Option, Some, None, true, false, find, slice_get, Contains}
use Rattle.ob_base.specs.declared.id.ContractId.{ContractId}
use Rattle.ob_base.specs.declared.id.FieldId.{FieldId}
use Rattle.ob_base.specs.declared.id.StateId.{StateId}
use Rattle.ob_base.specs.declared.id.TxId.{TxId}
use Rattle.ob_table.specs.declared.seen.Kind.{Kind}
use Rattle.ob_code.specs.declared.image.TypeCode.{TypeCode}
use Rattle.ob_code.specs.declared.image.BodyCode.{BodyCode}
use Rattle.ob_code.specs.declared.image.ContractCode.{ContractCode}
use Rattle.ob_code.specs.declared.image.Image.{Image}
use Rattle.ob_code.specs.declared.instruction.Instruction.{Instruction}
use Rattle.ob_code.specs.declared.instruction.Instruction.TheVariants as is
use Rattle.ob_code.specs.Code.{is_interface, is_private, is_constructor, contract_code, body_code, is_transaction_named}
use Rattle.ob_verify_spec.specs.Kinds.{implements_number, fits}
use Rattle.ob_verify_spec.specs.Frames.{CodeFrame, constructor_code, kinds_of_params, kind_of_result}
use Rattle.ob_verify_spec.specs.Instructions.{KindsOfSlots, fields_named, slot_of_result, Need, slots_needed, meets}
use Rattle.ob_verify_spec.specs.Ways.{IsAt}

-- a body is a transaction's, takes so many arguments, and has a result where a slot gets one
pub record TakesCall (count : ℕ) (slot : Option ℕ) (b : BodyCode) : Type 0 where
  pub transaction : is_constructor b ≡ false
  pub counted : count ≡ length b.params
  pub result : (k : ℕ) → slot ≡ Some k → (given : TypeCode) × (b.result ≡ Some given)

-- A contract answers for a transaction of an interface: its first transaction of that name isn't private, and has parameters of the
-- same kinds, and the same kind of result or none.
pub record Answers (asked : BodyCode) (own : ContractCode) : Type 0 where
  pub body : BodyCode
  pub first : find (is_transaction_named asked.name) own.bodies ≡ Some body
  pub open_to_all : is_private body ≡ false
  pub params : kinds_of_params asked ≡ kinds_of_params body
  pub result : kind_of_result asked ≡ kind_of_result body

-- each contract that implements an interface answers for this transaction of it
abbrev pub AllAnswer : Image → ContractId → BodyCode → Type 0
AllAnswer m c asked = (interface own : ContractCode) (d : ContractId) → contract_code m c ≡ Some interface → is_interface interface ≡ true
    → contract_code m d ≡ Some own → is_interface own ≡ false → implements_number c own ≡ true → Answers asked own

-- what a `new` names is there
pub record MakesObject (m : Image) (c : ContractId) (count : ℕ) : Type 0 where
  pub own : ContractCode
  pub contract : contract_code m c ≡ Some own
  pub code : is_interface own ≡ false
  pub body : BodyCode
  pub constructor : constructor_code m c ≡ Some body
  pub counted : count ≡ length body.params

-- the contracts, states, fields and bodies that a body's instructions name are there, and it returns a result exactly where it has one
pub record NamesWhatIsThere (f : CodeFrame) : Type 0 where
  pub fields : (i : ℕ) (x : Instruction) (field : FieldId) → IsAt f i x → Contains (fields_named x) field → field.0 < length f.own.fields
  pub tests : (i a : ℕ) (c : ContractId) (s : StateId) (t : ℕ) → IsAt f i (is.Test a c s t) → (own : ContractCode) × (contract_code f.image c ≡ Some own) × (s.0 < length own.states)
  pub changes : (i : ℕ) (s : StateId) (given : List (FieldId × ℕ)) → IsAt f i (is.Change s given) → s.0 < length f.own.states
  pub makes : (i k : ℕ) (c : ContractId) (args : List ℕ) → IsAt f i (is.New k c args) → MakesObject f.image c (length args)
  pub calls : (i k a : ℕ) (c : ContractId) (tx : TxId) (args : List ℕ) → IsAt f i (is.Call k a c tx args)
      → (b : BodyCode) × (body_code f.image c tx ≡ Some b) × TakesCall (length args) (slot_of_result k) b × AllAnswer f.image c b
  pub calls_itself : (i k : ℕ) (tx : TxId) (args : List ℕ) → IsAt f i (is.SelfCall k tx args)
      → (b : BodyCode) × (slice_get f.own.bodies tx.0 ≡ Some b) × TakesCall (length args) (slot_of_result k) b
  pub returns_none : (i : ℕ) → IsAt f i is.Ret → f.body.result ≡ None
  pub returns_one : (i a : ℕ) → IsAt f i (is.RetValue a) → (given : TypeCode) × (f.body.result ≡ Some given)

-- only interfaces are implemented in an image, and no interface implements one
pub record ImplementsInterfacesAlone (m : Image) : Type 0 where
  pub interfaces : (c d : ContractId) (own other : ContractCode) → contract_code m c ≡ Some own
      → implements_number d own ≡ true → contract_code m d ≡ Some other → is_interface other ≡ true
  pub contracts : (c d : ContractId) (own : ContractCode) → contract_code m c ≡ Some own → is_interface own ≡ true → implements_number d own ≡ false

-- what a contract of an image implements is there
abbrev pub ImplementsWhatIsThere : Image → Type 0
ImplementsWhatIsThere m =
    (c d : ContractId) (own : ContractCode) → contract_code m c ≡ Some own → implements_number d own ≡ true
    → (other : ContractCode) × (contract_code m d ≡ Some other)

-- each of so many slots of which a kind is known holds a value of that kind, or of one that may take the place of it
abbrev pub FitKnown : Image → ℕ → KindsOfSlots → KindsOfSlots → Type 0
FitKnown m count known s = (k : ℕ) (x : Kind) → k < count → known k ≡ Some x → (y : Kind) × (s k ≡ Some y) × (fits m y x ≡ true)

-- a need that kinds meet, slots that fit them meet too
abbrev pub MeetToo : Image → Type 0
MeetToo m = (count : ℕ) (known s : KindsOfSlots) (n : Need) → FitKnown m count known s → ((k : ℕ) → Contains (slots_needed n) k → k < count) → meets m known n ≡ true → meets m s n ≡ true
