-- What a contract or an interface declares, member by member in the order of the text (Coblenz et al., TOPLAS 42(3), 2020,
-- "Contracts"; the Obsidian language documentation, "States", "Fields" and "Transactions").
use Rattle.std.specs.Prelude.{ℕ, Bool, List, [], ◌∷◌, map, flat_map, filter, Option, slice_get, unwrap_or}
use Rattle.ob_base.specs.declared.permission.Mode.TheVariants.{Owned}
use Rattle.ob_tree.specs.Names.{Named, bare_name, name_with, TypeExpr}
use Rattle.ob_tree.specs.Stmts.{Block, block_with, no_stmts}
use Rattle.ob_tree.specs.Members.{Field, Formal, Listed, Member, state_member, field_member, constructor_member, transaction_member, Contract}
use Rattle.ob_tree.specs.declared.name.NamePart.{NamePart}
use Rattle.ob_tree.specs.declared.name.PermNode.{PermNode}
use Rattle.ob_tree.specs.declared.name.PermNode.TheVariants.{Mode}
use Rattle.ob_tree.specs.declared.name.Subject.{Subject}
use Rattle.ob_tree.specs.declared.name.Subject.TheVariants.{This, Name as NameSubject}
use Rattle.ob_table_spec.specs.Names.{Name, same, first_named, number_of}

-- the contracts and interfaces of a program
abbrev pub Program : Type 0
Program = List Contract

-- the name of a contract, and its place
abbrev pub contract_name : Contract → NamePart
contract_name c = record { name = c.name; span = c.span }

-- a name without the argument after it
abbrev pub part_of_named : Named → NamePart
part_of_named (bare_name name span) = record { name = name; span = span }
part_of_named (name_with name argument span) = record { name = name; span = span }

-- Contracts by name and by number.

-- the number of the contract of this name: contracts and interfaces are numbered from 0 in their order
abbrev pub number_of_contract : Program → Name → Option ℕ
number_of_contract program name = number_of name (map (λ c. c.name) program)

-- the contract of this number
abbrev pub declared_contract : Program → ℕ → Option Contract
declared_contract program n = slice_get program n

-- States.

-- the state that a member names
abbrev pub states_of_member : Member → List NamePart
states_of_member (state_member name fields span) = name ∷ []
states_of_member (field_member field) = []
states_of_member (constructor_member of perm params body span) = []
states_of_member (transaction_member private listed name params result body span) = []

-- the states that a contract names
abbrev pub states_of : Contract → List NamePart
states_of c = flat_map states_of_member c.members

-- their names
abbrev pub state_names : Contract → List Name
state_names c = map (λ s. s.name) (states_of c)

-- Fields.

-- in which states there is a field: in all and in none, or in some
pub data Availability : Type 0 where
  always : Availability
  in_states : List Name → Availability

-- a field, and in which states it is there
pub record FieldDeclaration : Type 0 where
  pub field : Field
  pub available : Availability

-- a field inside a state is there in that state
abbrev pub field_inside : Name → Field → FieldDeclaration
field_inside state field = record { field = field; available = in_states (state ∷ []) }

-- what stands after `available in`; nothing means always
abbrev pub availability : List NamePart → Availability
availability [] = always
availability (state ∷ states) = in_states (map (λ s. s.name) (state ∷ states))

-- a field at the top of a contract is always there, unless `available in` says where
abbrev pub field_at_top : Field → FieldDeclaration
field_at_top field = record { field = field; available = availability field.available }

-- the fields that a member declares: a field, or those inside a state
abbrev pub fields_of_member : Member → List FieldDeclaration
fields_of_member (state_member name fields span) = map (field_inside name.name) fields
fields_of_member (field_member field) = field_at_top field ∷ []
fields_of_member (constructor_member of perm params body span) = []
fields_of_member (transaction_member private listed name params result body span) = []

-- the fields of a contract, those inside its states too
abbrev pub fields_of : Contract → List FieldDeclaration
fields_of c = flat_map fields_of_member c.members

-- their names
abbrev pub field_names : Contract → List Name
field_names c = map (λ f. f.field.name.name) (fields_of c)

-- the field of this name
abbrev pub field_named : Contract → Name → Option Field
field_named c name = first_named (λ f. f.name.name) name (map (λ f. f.field) (fields_of c))

-- Parameters.

-- a parameter other than `this`
pub record Param : Type 0 where
  pub of : TypeExpr
  pub exit : Option PermNode
  pub name : NamePart

-- the parameter of this type, unless it is `this`
abbrev pub param_named : TypeExpr → Option PermNode → Subject → List Param
param_named of exit (This span) = []
param_named of exit (NameSubject name) = record { of = of; exit = exit; name = name } ∷ []

-- the parameters beside `this`
abbrev pub params_of : List Formal → List Param
params_of formals = flat_map (λ f. param_named f.of f.exit f.name) formals

-- Transactions and constructors.

-- a transaction with its parts
pub record Transaction : Type 0 where
  pub private : Bool
  pub listed : List Listed
  pub name : NamePart
  pub params : List Formal
  pub result : Option TypeExpr
  pub body : Option Block

-- the transaction that a member is
abbrev pub transactions_of_member : Member → List Transaction
transactions_of_member (state_member name fields span) = []
transactions_of_member (field_member field) = []
transactions_of_member (constructor_member of perm params body span) = []
transactions_of_member (transaction_member private listed name params result body span) =
    record { private = private; listed = listed; name = name; params = params; result = result; body = body } ∷ []

-- the transactions of a contract
abbrev pub transactions_of : Contract → List Transaction
transactions_of c = flat_map transactions_of_member c.members

-- the transaction of this name
abbrev pub transaction_named : Contract → Name → Option Transaction
transaction_named c name = first_named (λ t. t.name.name) name (transactions_of c)

-- a member of a constructor's form
pub record Constructor : Type 0 where
  pub of : Named
  pub perm : PermNode
  pub params : List Formal
  pub body : Block

-- the member, if it has a constructor's form
abbrev pub constructors_of_member : Member → List Constructor
constructors_of_member (state_member name fields span) = []
constructors_of_member (field_member field) = []
constructors_of_member (constructor_member of perm params body span) =
    record { of = of; perm = perm; params = params; body = body } ∷ []
constructors_of_member (transaction_member private listed name params result body span) = []

-- the members of a constructor's form, whatever their name
abbrev pub constructor_forms : Contract → List Constructor
constructor_forms c = flat_map constructors_of_member c.members

-- the constructors: those that have the contract's name
abbrev pub constructors_of : Contract → List Constructor
constructors_of c = filter (λ m. same c.name (part_of_named m.of).name) (constructor_forms c)

-- the constructor of a contract that declares none: without parameters, with an empty body, and it gives Owned
abbrev pub default_constructor : Contract → Constructor
default_constructor c =
    record { of = bare_name c.name c.span; perm = Mode Owned c.span; params = []; body = block_with no_stmts c.span }

-- the constructor of a contract
abbrev pub constructor_of : Contract → Constructor
constructor_of c = unwrap_or (slice_get (constructors_of c) 0) (default_constructor c)
