-- What names denote at a place (this project's own).
use Rattle.std.specs.Prelude.{Bool, false, not, ◌||◌, List, [], is_some}
use Rattle.std.specs.Option.{option_map_or}
use Rattle.ob_tree.specs.Members.{Contract}
use Rattle.ob_table_spec.specs.Names.{Name, same, is_among}
use Rattle.ob_resolve_spec.specs.Declarations.{Program, number_of_contract, state_names, field_names, transaction_named}
use Rattle.ob_resolve_spec.specs.Kinds.{contract_of_name}

-- the names at a place: those of the program's contracts and interfaces, of the states, fields and transactions of one
-- contract, and of variables, which are locals and parameters
pub record Visible : Type 0 where
  pub program : Program
  pub own : Contract
  pub variables : List Name

-- among the members of a contract, outside of bodies
abbrev pub visible_in : Program → Contract → Visible
visible_in program own = record { program = program; own = own; variables = [] }

-- after a receiver's dot: what its contract declares, and nothing else
abbrev pub visible_after_dot : Contract → Visible
visible_after_dot c = record { program = []; own = c; variables = [] }

-- what the place of a name needs
pub data NameNeed : Type 0 where
  -- a contract or an interface
  a_contract : NameNeed
  -- an interface, after `implements`
  an_interface : NameNeed
  -- a contract of which there are objects, after `new`
  an_object : NameNeed
  -- the contract itself, in a constructor
  itself : NameNeed
  -- a local, a parameter or a field
  a_variable : NameNeed
  -- a transaction
  a_transaction : NameNeed
  -- a transaction that isn't private, after a dot
  a_public_transaction : NameNeed

-- whether the name denotes something that is visible
abbrev pub is_visible : Visible → Name → Bool
is_visible v name =
    is_some (number_of_contract v.program name) || is_among name (state_names v.own) || is_among name (field_names v.own)
    || is_some (transaction_named v.own name) || is_among name v.variables

-- whether the name denotes what is needed
abbrev pub means : NameNeed → Visible → Name → Bool
means a_contract v name = is_some (number_of_contract v.program name)
means an_interface v name = option_map_or (λ c. c.interface) (contract_of_name v.program name) false
means an_object v name = option_map_or (λ c. not c.interface) (contract_of_name v.program name) false
means itself v name = same v.own.name name
means a_variable v name = is_among name v.variables || is_among name (field_names v.own)
means a_transaction v name = is_some (transaction_named v.own name)
means a_public_transaction v name = option_map_or (λ t. not t.private) (transaction_named v.own name) false
