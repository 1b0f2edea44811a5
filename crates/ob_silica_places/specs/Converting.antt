-- Permissions between a contract and its interface, and what a place gets (this project's own).
use Rattle.std.specs.Prelude.{nat_eq, Option, Some, if◌then◌else◌}
use Rattle.ob_base.specs.declared.id.ContractId.{ContractId}
use Rattle.ob_perm.specs.Naming.{for_interface, for_contract}
use Rattle.ob_perm.specs.Permissions.{Permission, owned, shared, unowned}
use Rattle.ob_table.specs.Tables.{ClassTable, contract_at}
use Rattle.ob_table.specs.declared.contract.Contract.{Contract}
use Rattle.ob_table.specs.declared.seen.Kind.{Kind}
use Rattle.ob_table.specs.declared.seen.Kind.TheVariants.{Reference}
use Rattle.ob_table_spec.specs.Conditions.{naming}
use Rattle.ob_table_spec.specs.WellFormed.{is_implemented}

-- a permission on a contract said for its interface
abbrev pub said_up : Option Contract → Option Contract → Permission → Permission
said_up (Some c) (Some interface) p = for_interface (naming interface c) p
said_up c interface p = p

-- a permission on an interface said for a contract that implements it
abbrev pub said_down : Option Contract → Option Contract → Permission → Permission
said_down (Some interface) (Some c) p = for_contract (naming interface c) p
said_down interface c p = p

-- a permission on a contract or interface, said for another one
abbrev pub said_for : ClassTable → ContractId → ContractId → Permission → Permission
said_for table from to p =
    if nat_eq from.0 to.0 then p
    else if is_implemented table from to then said_up (contract_at table from) (contract_at table to) p
    else if is_implemented table to from then said_down (contract_at table from) (contract_at table to) p
    else p

-- the permission on a place of one kind, said for a place of another
abbrev pub converted : ClassTable → Kind → Kind → Permission → Permission
converted table (Reference from) (Reference to) p = said_for table from to p
converted table from to p = p

-- the permission that a place gets of a value: the value's own where the place is declared an owner, and else the
-- declared one
abbrev pub gotten : Permission → Permission → Permission
gotten (owned a) p = p
gotten shared p = shared
gotten unowned p = unowned
