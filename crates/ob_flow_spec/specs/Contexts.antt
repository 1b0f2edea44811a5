-- What the permission rules know at a point of a body: of `this`, of each slot and of each field its kind and the
-- permission on it, or that it is unset (Coblenz et al., TOPLAS 42(3), 2020, "Silica"; that fields stand in the context
-- beside slots is this project's own).
use Rattle.std.specs.Prelude.{ℕ, ◌+◌, Bool, true, false, ◌&&◌, ◌||◌, nat_eq, List, [], ◌∷◌, length, Option, Some, None, option_map, slice_get, if◌then◌else◌}
use Rattle.std.specs.Option.{option_map_or}
use Rattle.ob_base.specs.declared.id.ContractId.{ContractId}
use Rattle.ob_base.specs.declared.id.TxId.{TxId}
use Rattle.ob_perm.specs.States.{States, no_states, only, stateless, subset, meets}
use Rattle.ob_perm.specs.Permissions.{Permission, owned, unowned, owns, possible, matches}
use Rattle.ob_perm.specs.Masks.{states_of, permission_of}
use Rattle.ob_table.specs.Tables.{ClassTable, contract_at}
use Rattle.ob_table.specs.declared.contract.Contract.{Contract}
use Rattle.ob_table.specs.declared.contract.Field.{Field}
use Rattle.ob_table.specs.declared.contract.ResolvedType.{ResolvedType}
use Rattle.ob_table.specs.declared.contract.ResolvedType.TheVariants.{Int as IntType}
use Rattle.ob_table.specs.declared.contract.Listed.{Listed}
use Rattle.ob_table.specs.declared.contract.Param.{Param}
use Rattle.ob_table.specs.declared.contract.Signature.{Signature}
use Rattle.ob_table.specs.declared.seen.Kind.{Kind}
use Rattle.ob_table.specs.declared.seen.Kind.TheVariants.{Reference}
use Rattle.ob_table_spec.specs.WellFormed.{kind_of_resolved, StaticFrame, frame_of}
use Rattle.ob_silica_places.specs.Known.{Known, known, permission_of_type}
use Rattle.ob_silica_places.specs.Places.{Location, slot, field, this, same_location}
use Rattle.ob_silica_places.specs.Known.{unowned_under}

-- Bodies.

-- the body that is checked: the class table, the number of its contract, the contract, the number of the transaction or
-- constructor, its signature, and how many slots it has
pub record BodyFrame : Type 0 where
  pub table : ClassTable
  pub here : ContractId
  pub own : Contract
  pub tx : TxId
  pub signature : Signature
  pub slots : ℕ

-- the same body, as well-formed terms see it
abbrev pub static_of : BodyFrame → StaticFrame
static_of b = frame_of b.table b.here b.own b.signature

-- whether it is a constructor's, which has the number 0
abbrev pub constructs : BodyFrame → Bool
constructs b = nat_eq b.tx.0 0

-- how many fields the contract has
abbrev pub field_count : BodyFrame → ℕ
field_count b = length b.own.fields

-- the states in which a field is there; one that the contract doesn't have is in none
abbrev pub available : BodyFrame → ℕ → States
available b f = option_map_or (λ (x : Field). states_of x.available) (slice_get b.own.fields f) no_states

-- the type of a field; that of one that the contract doesn't have is no reference's
abbrev pub type_of_field : BodyFrame → ℕ → ResolvedType
type_of_field b f = option_map_or (λ (x : Field). x.of) (slice_get b.own.fields f) IntType

-- the declared permission of a field, which is Unowned if it is no reference
abbrev pub declared_permission : BodyFrame → ℕ → Permission
declared_permission b f = permission_of_type (type_of_field b f)

-- what a type says of a place: its kind and the permission on it
abbrev pub known_as : ResolvedType → Known
known_as of = known (kind_of_resolved of) (permission_of_type of)

-- what is declared of a field
abbrev pub declared_known : BodyFrame → ℕ → Known
declared_known b f = known_as (type_of_field b f)

-- the listed field of this number, if it is listed
abbrev pub listed_at : List Listed → ℕ → Option Listed
listed_at [] f = None
listed_at (l ∷ ls) f = if nat_eq l.field.0 f then Some l else listed_at ls f

-- the permission with which a field is entered: the listed one, or else the declared one
abbrev pub entry_of_field : BodyFrame → Signature → ℕ → Permission
entry_of_field b s f = option_map_or (λ (l : Listed). permission_of l.entry) (listed_at s.listed f) (declared_permission b f)

-- the permission with which a field is left
abbrev pub exit_of_field : BodyFrame → Signature → ℕ → Permission
exit_of_field b s f = option_map_or (λ (l : Listed). permission_of l.exit) (listed_at s.listed f) (declared_permission b f)

-- Contexts.

-- what is known of each place; None: the place is unset
abbrev pub Context : Type 0
Context = Location → Option Known

-- a context with something else at one place
abbrev pub put : Context → Location → Option Known → Context
put g p x = λ q. if same_location q p then x else g q

-- the same kind with another permission
abbrev pub with_permission : Permission → Option Known → Option Known
with_permission w x = option_map (λ (k : Known). known k.kind w) x

-- the place has another permission
abbrev pub now : Context → Location → Permission → Context
now g p w = put g p (with_permission w (g p))

-- the permission on a place, which is Unowned where the place is unset
abbrev pub permission_on : Option Known → Permission
permission_on x = option_map_or (λ (k : Known). k.permission) x unowned

-- the permission on a place of a context
abbrev pub permission_at : Context → Location → Permission
permission_at g p = permission_on (g p)

-- a permission as it counts: an owner's on a field counts as Unowned while `this` is Unowned
abbrev pub counted : Context → Location → Permission
counted g (slot k) = permission_at g (slot k)
counted g (field f) = unowned_under (permission_at g this) (permission_at g (field f))

-- whether a place is set
abbrev pub is_set : Option Known → Bool
is_set None = false
is_set (Some x) = true

-- whether what is known matches a permission
abbrev pub is_held_as : Option Known → Permission → Bool
is_held_as None w = false
is_held_as (Some x) w = matches x.permission w

-- whether a kind is that of a reference to an asset
abbrev pub is_asset : ClassTable → Kind → Bool
is_asset table (Reference c) = option_map_or (λ (x : Contract). x.asset) (contract_at table c) false
is_asset table kind = false

-- whether something is known to own an asset
abbrev pub is_owned_asset : ClassTable → Option Known → Bool
is_owned_asset table None = false
is_owned_asset table (Some x) = owns x.permission && is_asset table x.kind

-- whether a place owns an asset
abbrev pub owns_asset : BodyFrame → Context → Location → Bool
owns_asset b g p = is_owned_asset b.table (g p)

-- States.

-- the states in which `this` can be under this permission
abbrev pub possible_under : BodyFrame → Permission → States
possible_under b p = possible (length b.own.states) p

-- whether a field is there in each state in which `this` can be under a permission
abbrev pub accessible_under : BodyFrame → Permission → ℕ → Bool
accessible_under b p f = subset (possible_under b p) (available b f)

-- whether a field is there in each state in which `this` can be
abbrev pub accessible : BodyFrame → Context → ℕ → Bool
accessible b g f = accessible_under b (permission_at g this) f

-- whether a field is there in some state in which `this` can be
abbrev pub maybe_there : BodyFrame → Context → ℕ → Bool
maybe_there b g f = meets (possible_under b (permission_at g this)) (available b f)

-- Tests.

-- The places under test: those of the tests around a form, the innermost first.
abbrev pub TestedPlaces : Type 0
TestedPlaces = List Location

-- whether a place is under test
abbrev pub is_tested : TestedPlaces → Location → Bool
is_tested [] p = false
is_tested (q ∷ qs) p = same_location p q || is_tested qs p

-- whether a place is a field
abbrev pub is_field : Location → Bool
is_field (slot k) = false
is_field (field f) = true

-- whether some field is under test
abbrev pub tests_field : TestedPlaces → Bool
tests_field [] = false
tests_field (q ∷ qs) = is_field q || tests_field qs

-- Beginnings.

-- what is known of the slots of parameters, from this number on
abbrev pub params_known : ℕ → List Param → ℕ → Option Known
params_known n [] k = None
params_known n (p ∷ ps) k = if nat_eq k n then Some (known_as p.of) else params_known (n + 1) ps k

-- what is known of `this` where a body begins: in a constructor it is an owner's, in no state
abbrev pub this_known : BodyFrame → Known
this_known b =
    known (Reference b.here) (if constructs b then owned (only stateless) else permission_of b.signature.entry)

-- what is known of a field where a body begins: a constructor has the fields at the top of its contract still to set
abbrev pub field_known : BodyFrame → ℕ → Option Known
field_known b f =
    if constructs b && available b f stateless then None
    else option_map (λ (x : Field). known (kind_of_resolved x.of) (entry_of_field b b.signature f)) (slice_get b.own.fields f)

-- the context in which a body begins
abbrev pub beginning : BodyFrame → Context
beginning b (slot k) = if nat_eq k 0 then Some (this_known b) else params_known 1 b.signature.params k
beginning b (field f) = field_known b f
