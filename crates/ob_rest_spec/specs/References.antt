-- The references that stand in the fields of a store's objects (this project's own).
use Rattle.std.specs.Prelude.{ℕ, List, [], Option, Some, None, filter_map, flat_map, if◌then◌else◌}
use Rattle.std.specs.Option.{option_map_or}
use Rattle.std.specs.List.{enumerate_from}
use Rattle.ob_base.specs.declared.id.ContractId.{ContractId}
use Rattle.ob_base.specs.declared.permission.Perm.{Perm}
use Rattle.ob_table.specs.Tables.{ClassTable, contract_at}
use Rattle.ob_table.specs.declared.contract.ResolvedType.{ResolvedType}
use Rattle.ob_table.specs.declared.contract.ResolvedType.TheVariants.{Reference}
use Rattle.ob_table.specs.declared.contract.Contract.{Contract}
use Rattle.ob_heap_spec.specs.Values.{Value, reference}
use Rattle.ob_heap_spec.specs.Objects.{Object, has_field}

-- A reference that stands in a field: the numbers of the object and of its field, the contract and the permission with
-- which the field is declared, and the number of the object to which it refers.
pub record FieldReference : Type 0 where
  pub holder : ℕ
  pub field : ℕ
  pub contract : ContractId
  pub perm : Perm
  pub object : ℕ

-- the reference that is the value of a field of this type, if it has one
abbrev pub reference_of : ℕ → ℕ → ResolvedType → Option Value → Option FieldReference
reference_of holder k (Reference contract p) (Some (reference n)) =
    Some (record { holder = holder; field = k; contract = contract; perm = p; object = n })
reference_of holder k kind value = None

-- the value of a field that is available in the object's state
abbrev pub available_value : Contract → Object → ℕ → Option Value
available_value c o k = if has_field c o.state k then o.fields k else None

-- the references in the available fields of an object, by the fields' numbers
abbrev pub references_of : ClassTable → ℕ → Object → List FieldReference
references_of table holder o =
    option_map_or
    (λ c. filter_map (λ f. reference_of holder f.0 f.1.of (available_value c o f.0)) (enumerate_from 0 c.fields))
    (contract_at table o.contract) []

-- the references in the available fields of all objects, by the numbers of the objects and then of the fields
abbrev pub field_references : ClassTable → List Object → List FieldReference
field_references table objects = flat_map (λ o. references_of table o.0 o.1) (enumerate_from 0 objects)
