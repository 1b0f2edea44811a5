-- What a store holds, and when it is of a class table (this project's own; Coblenz et al., TOPLAS 42(3), 2020, for what
-- an object has).
use Rattle.std.specs.Prelude.{◌≡◌, ℕ, ◌<◌, false, List, [], length, Option, Some, None, slice_get, is_some, IsTrue, IsSomeAnd, IfSome, All, AllPairs, ⊤}
use Rattle.std.specs.Ordering.{nat_cmp, ordering_then}
use Rattle.std.specs.Cmp.Lexicographic.{slice_cmp}
use Rattle.std.specs.declared.cmp.Ordering.{Ordering}
use Rattle.std.specs.declared.cmp.Ordering.TheVariants.{Less}
use Rattle.ob_base.specs.Numbers.{is_int}
use Rattle.ob_base.specs.Names.{is_label, is_text}
use Rattle.ob_base.specs.declared.id.StateId.{StateId}
use Rattle.ob_base.specs.declared.permission.Mode.{Mode}
use Rattle.ob_table.specs.Tables.{ClassTable, contract_at}
use Rattle.ob_table.specs.declared.contract.Contract.{Contract}
use Rattle.ob_table.specs.declared.contract.ResolvedType.{ResolvedType}
use Rattle.ob_table.specs.declared.contract.ResolvedType.TheVariants.{Int, Bool as BoolKind, Text, Reference}
use Rattle.ob_heap_spec.specs.Values.{Value, int_value, bool_value, text_value, reference}
use Rattle.ob_heap_spec.specs.Objects.{Object, has_field}

-- what names a handle: the client's name, and the client's name for the handle
pub record HandleName : Type 0 where
  pub who : List ℕ
  pub name : List ℕ

-- a client's hold on the object of a number
pub record Handle : Type 0 where
  pub object : ℕ
  pub mode : Mode

-- the objects, the place of each being its number, and the handles by name
pub record Content : Type 0 where
  pub objects : List Object
  pub handles : List (HandleName × Handle)

-- the store at the start
abbrev pub empty_content : Content
empty_content = record { objects = []; handles = [] }

-- the object of a number, if there is one
abbrev pub object_at : List Object → ℕ → Option Object
object_at objects n = slice_get objects n

-- the order of names of handles: by the client's bytes, and then by the name's
abbrev pub name_order : HandleName → HandleName → Ordering
name_order a b = ordering_then (slice_cmp nat_cmp a.who b.who) (slice_cmp nat_cmp a.name b.name)

-- a value has the form of its type: an `int`, a `bool`, a text of at most `longest_string` bytes, or a reference to one of the
-- objects, of whichever contract
abbrev pub IsValueOf : List Object → ResolvedType → Value → Type 0
IsValueOf objects Int (int_value z) = IsTrue (is_int z)
IsValueOf objects BoolKind (bool_value b) = ⊤
IsValueOf objects Text (text_value bytes) = IsTrue (is_text bytes)
IsValueOf objects (Reference id p) (reference n) = n < length objects
IsValueOf objects kind value = ⊥

-- an object of a contract with states is in one of them, and any other in none
abbrev pub IsStateOf : Contract → Option StateId → Type 0
IsStateOf c None = c.states ≡ []
IsStateOf c (Some s) = s.0 < length c.states

-- an object is one of a contract: it has a state where it has states, and a value of its kind in each field that is
-- available, and in no other
pub record IsObjectOf (objects : List Object) (c : Contract) (o : Object) : Type 0 where
  pub contract : c.interface ≡ false
  pub state : IsStateOf c o.state
  pub fields : (k : ℕ) → is_some (o.fields k) ≡ has_field c o.state k
  pub values : (k : ℕ) → IfSome (o.fields k) (λ v. IsSomeAnd (slice_get c.fields k) (λ f. IsValueOf objects f.of v))

-- an object is one of the contract of the table that it names
abbrev pub IsObject : ClassTable → List Object → Object → Type 0
IsObject table objects o = IsSomeAnd (contract_at table o.contract) (λ c. IsObjectOf objects c o)

-- a handle with its name is one on these objects: the name is two labels, and the object is one of them
pub record IsHandle (objects : List Object) (h : HandleName × Handle) : Type 0 where
  pub who : IsTrue (is_label h.0.who)
  pub name : IsTrue (is_label h.0.name)
  pub object : h.1.object < length objects

-- a content is one of a class table: its objects are, and its handles stand in the order of their names, each once
pub record IsContent (table : ClassTable) (content : Content) : Type 0 where
  pub objects : All (IsObject table content.objects) content.objects
  pub handles : All (IsHandle content.objects) content.handles
  pub order : AllPairs (λ a b. name_order a.0 b.0 ≡ Less) content.handles
