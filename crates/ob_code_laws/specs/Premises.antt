-- When verified code may be run: what has to be so of the image, of the objects, and of the entry (this project's own).
use Rattle.std.specs.Prelude.{◌≡◌, ℕ, Bool, true, false, not, ◌&&◌, List, [], ◌∷◌, Some, None, is_some, slice_get}
use Rattle.ob_base.specs.declared.id.ContractId.{ContractId}
use Rattle.ob_table.specs.declared.seen.Kind.{Kind}
use Rattle.ob_table.specs.declared.seen.Kind.TheVariants as kind
use Rattle.ob_heap_spec.specs.Values.{Value, int_value, bool_value, text_value, reference}
use Rattle.ob_heap_spec.specs.Objects.{Object}
use Rattle.ob_heap_spec.specs.Contents.{Content, IsContent, object_at}
use Rattle.ob_code.specs.declared.image.BodyCode.{BodyCode}
use Rattle.ob_code.specs.declared.image.ContractCode.{ContractCode}
use Rattle.ob_code.specs.declared.image.FieldCode.{FieldCode}
use Rattle.ob_code.specs.declared.image.Image.{Image}
use Rattle.ob_code_table.specs.ImageTables.{table_of_image}
use Rattle.ob_machine_steps.specs.Entries.{MachineEntry}
use Rattle.ob_code.specs.Code.{is_interface, is_constructor, contract_code, body_code}
use Rattle.ob_verify_spec.specs.Kinds.{kind_of_type}
use Rattle.ob_verify_spec.specs.Frames.{kinds_of_params}
use Rattle.ob_verify_spec.specs.Verified.{IsVerified}
use Rattle.ob_verify_spec.specs.Calling.{ImplementsInterfacesAlone}
use Rattle.ob_verify_spec.specs.Laws.{HasBody, SlotsFitByte}
use Rattle.ob_code_laws.specs.Kinds.{NamesObject}

-- The objects.

-- each reference in a field names an object of the contract that the field declares, or of one that implements it
pub record RefersAsDeclared (image : Image) (objects : List Object) : Type 0 where
  pub each : (n k m : ℕ) (o : Object) (own : ContractCode) (field : FieldCode) (c : ContractId) → object_at objects n ≡ Some o → contract_code image o.contract ≡ Some own
      → slice_get own.fields k ≡ Some field → kind_of_type field.of ≡ kind.Reference c → o.fields k ≡ Some (reference m) → NamesObject image objects c m

-- The entry.

-- whether a value is of a kind, whichever object a reference names
abbrev pub is_of : Kind → Value → Bool
is_of kind.Int (int_value z) = true
is_of kind.Bool (bool_value b) = true
is_of kind.Text (text_value bytes) = true
is_of (kind.Reference c) (reference n) = true
is_of x v = false

-- whether there are as many values as kinds, each of its kind
abbrev pub are_of : List Kind → List Value → Bool
are_of [] [] = true
are_of (x ∷ xs) (v ∷ vs) = is_of x v && are_of xs vs
are_of xs vs = false

-- An entry can be started: the image has its body, not of an interface, with as many parameters as arguments and of their kinds;
-- there is a receiver exactly where the body isn't a constructor.
pub record CanStart (image : Image) (e : MachineEntry) : Type 0 where
  pub own : ContractCode
  pub body : BodyCode
  pub there : HasBody image e.contract own e.tx body
  pub contract : is_interface own ≡ false
  pub args : are_of (kinds_of_params body) e.args ≡ true
  pub receiver : is_some e.receiver ≡ not (is_constructor body)
  pub lock : e.receiver ≡ None → e.lock ≡ false

-- The receiver of an entry names an object of its contract, and each reference among the arguments one of the contract that the
-- parameter declares; or one of a contract that implements it.
pub record NamesObjects (image : Image) (objects : List Object) (e : MachineEntry) : Type 0 where
  pub receiver : (n : ℕ) → e.receiver ≡ Some n → NamesObject image objects e.contract n
  pub args : (k n : ℕ) (b : BodyCode) (c : ContractId) → body_code image e.contract e.tx ≡ Some b → slice_get (kinds_of_params b) k ≡ Some (kind.Reference c)
      → slice_get e.args k ≡ Some (reference n) → NamesObject image objects c n

-- A verified image may be run on a content from an entry.
pub record MayRun (image : Image) (content : Content) (e : MachineEntry) : Type 0 where
  pub verified : IsVerified image
  pub implements : ImplementsInterfacesAlone image
  pub slots : SlotsFitByte image
  pub objects : IsContent (table_of_image image) content
  pub refers : RefersAsDeclared image content.objects
  pub starts : CanStart image e
  pub names : NamesObjects image content.objects e
