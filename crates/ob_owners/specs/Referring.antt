-- References in fields, as the code has them (this project's own).
use Rattle.std.specs.Prelude.{ℕ, List, Option, Some, None, filter_map}
use Rattle.std.specs.List.{enumerate_from}
use Rattle.ob_base.specs.declared.id.ObjectId.{ObjectId}
use Rattle.ob_heap_spec.specs.Objects.{Object}
use Rattle.ob_heap_spec.specs.Values.{Value, reference}
use Rattle.ob_code_table.specs.ImageTables.{perm_of_code}
use Rattle.ob_rest_spec.specs.References.{FieldReference, reference_of, available_value}
use Rattle.ob_table.specs.declared.contract.Contract.{Contract}
use Rattle.ob_owners.specs.declared.references.FieldReference.{FieldReference as ReferenceCode}

-- the number of an object
abbrev pub number_of_object : ObjectId → ℕ
number_of_object id = id.0

-- the number of the object to which a value refers
abbrev pub object_referred : Value → Option ℕ
object_referred (reference n) = Some n
object_referred value = None

-- a reference as that in the field of an object, by their numbers
abbrev pub field_reference_of : ℕ → ℕ → ReferenceCode → FieldReference
field_reference_of holder k r =
    record { holder = holder; field = k; contract = r.contract; perm = perm_of_code r.perm; object = r.object.0 }

-- the references in the available fields of an object of a contract
abbrev pub references_by : Contract → ℕ → Object → List FieldReference
references_by c holder o =
    filter_map (λ f. reference_of holder f.0 f.1.of (available_value c o f.0)) (enumerate_from 0 c.fields)
