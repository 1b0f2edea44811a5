-- What is so of a value, of an object and of a store while a run lasts (Coblenz et al., TOPLAS 42(3), 2020, "Silica", for
-- types and permissions of references; notes beside the world are this project's own).
use Rattle.std.specs.Prelude.{◌≡◌, ℕ, ◌<◌, Bool, true, false, List, [], ◌∷◌, length, Option, Some, None, slice_get, IsTrue, IsSomeAnd, IfSome, ⊤}
use Rattle.ob_base.specs.Numbers.{is_int}
use Rattle.ob_base.specs.Names.{is_text}
use Rattle.ob_base.specs.declared.id.ContractId.{ContractId}
use Rattle.ob_perm.specs.States.{States}
use Rattle.ob_perm.specs.Permissions.{owned, shared}
use Rattle.ob_table.specs.Tables.{ClassTable, contract_at}
use Rattle.ob_table.specs.declared.contract.Contract.{Contract}
use Rattle.ob_table.specs.declared.contract.Field.{Field}
use Rattle.ob_table.specs.declared.seen.Kind.{Kind}
use Rattle.ob_table.specs.declared.seen.Kind.TheVariants.{Int, Bool as BoolKind, Text, Reference}
use Rattle.ob_table_spec.specs.WellFormed.{kind_of_resolved, serves_as}
use Rattle.ob_heap_spec.specs.Values.{Value, int_value, bool_value, text_value, reference}
use Rattle.ob_heap_spec.specs.Objects.{Object, has_field, seen_state}
use Rattle.ob_heap_spec.specs.Contents.{IsStateOf}
use Rattle.ob_silica_steps.specs.Cells.{Cell}
use Rattle.ob_silica_steps.specs.Configurations.{HandleNote, Notes}
use Rattle.ob_flow_spec.specs.Contexts.{is_asset}
use Rattle.ob_coherent_spec.specs.Counting.{nth_object, field_cell}

-- Values.

-- a value is one of a kind: an `int`, a `bool`, a text of at most the longest length, or a reference to an object that
-- serves as one of this kind
abbrev pub IsOfKind : ClassTable → List Object → Kind → Value → Type 0
IsOfKind table objects Int (int_value z) = IsTrue (is_int z)
IsOfKind table objects BoolKind (bool_value b) = ⊤
IsOfKind table objects Text (text_value bytes) = IsTrue (is_text bytes)
IsOfKind table objects (Reference id) (reference n) =
    (n < length objects) × (serves_as table (Reference id) (Reference (nth_object objects n).contract) ≡ true)
IsOfKind table objects kind v = ⊥

-- a value refers to an object that is marked as shared
abbrev pub RefersToShared : List Object → Value → Type 0
RefersToShared objects (reference n) = (nth_object objects n).shared ≡ true
RefersToShared objects v = ⊥

-- whether an object is in one of these states of a kind
abbrev pub is_in : ClassTable → Kind → States → Object → Bool
is_in table (Reference id) a o = a (seen_state table id o)
is_in table kind a o = false

-- a value refers to an object that is in one of these states of a kind
abbrev pub RefersToIn : ClassTable → List Object → Kind → States → Value → Type 0
RefersToIn table objects kind a (reference n) = is_in table kind a (nth_object objects n) ≡ true
RefersToIn table objects kind a v = ⊥

-- What is noted of a value is so: it is of the kind; an object held as Shared is marked so; one that is owned is in one of
-- the states.
pub record Stands (table : ClassTable) (objects : List Object) (x : Cell) : Type 0 where
  pub kind : IsOfKind table objects x.note.kind x.value
  pub marked : x.note.permission ≡ shared → RefersToShared objects x.value
  pub states : (a : States) → x.note.permission ≡ owned a → RefersToIn table objects x.note.kind a x.value

-- it is so of each of these places
abbrev pub AllStand : ClassTable → List Object → (ℕ → Option Cell) → Type 0
AllStand table objects cells = (k : ℕ) (x : Cell) → cells k ≡ Some x → Stands table objects x

-- Objects.

-- the state of an object is one of its contract
abbrev pub HasItsState : ClassTable → Object → Type 0
HasItsState table o = IsSomeAnd (contract_at table o.contract) (λ c. IsStateOf c o.state)

-- An object while a run lasts: its contract is no interface; it's in one of the states, or in none before its constructor
-- has put it in one; it has values in available fields alone, and what is noted of each of them has the declared kind.
pub record IsObjectInRun (table : ClassTable) (notes : Notes) (n : ℕ) (o : Object) : Type 0 where
  pub own : Contract
  pub contract : contract_at table o.contract ≡ Some own
  pub class : own.interface ≡ false
  pub state : IfSome o.state (λ s. s.0 < length own.states)
  pub fields : (k : ℕ) → has_field own o.state k ≡ false → o.fields k ≡ None
  pub kinds : (k : ℕ) (f : Field) (v : Value) → slice_get own.fields k ≡ Some f → o.fields k ≡ Some v
      → (notes.fields n k).kind ≡ kind_of_resolved f.of

-- An object that must have an owner: an asset that is marked neither shared nor disowned.
pub record NeedsOwner (table : ClassTable) (objects : List Object) (n : ℕ) : Type 0 where
  pub there : n < length objects
  pub asset : is_asset table (Reference (nth_object objects n).contract) ≡ true
  pub unshared : (nth_object objects n).shared ≡ false
  pub kept : (nth_object objects n).disowned ≡ false

-- Handles.

-- What is noted of a handle is so: it is on an object that there is; an object held as Shared is marked so.
pub record IsHandleInRun (objects : List Object) (h : HandleNote) : Type 0 where
  pub there : h.object < length objects
  pub marked : h.permission ≡ shared → RefersToShared objects (reference h.object)

-- it is so of each of these handles
abbrev pub HandlesStand : List Object → List HandleNote → Type 0
HandlesStand objects [] = ⊤
HandlesStand objects (h ∷ hs) = IsHandleInRun objects h × HandlesStand objects hs
