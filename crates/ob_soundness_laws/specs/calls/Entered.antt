-- What a body begins with (Coblenz et al., TOPLAS 42(3), 2020, "Silica"; the statements are this project's own).
use Rattle.std.specs.Prelude.{◌≡◌, ℕ, ◌<◌, List, length, Some, None}
use Rattle.ob_perm.specs.Permissions.{Permission}
use Rattle.ob_table.specs.Tables.{ClassTable}
use Rattle.ob_table.specs.declared.contract.Signature.{Signature}
use Rattle.ob_table.specs.declared.seen.Kind.TheVariants.{Reference}
use Rattle.ob_heap_spec.specs.Values.{reference}
use Rattle.ob_heap_spec.specs.Objects.{Object}
use Rattle.ob_silica_places.specs.Parameters.{parameters}
use Rattle.ob_silica_steps.specs.Cells.{cell}
use Rattle.ob_silica_steps.specs.Configurations.{SilicaFrame}
use Rattle.ob_coherent_spec.specs.Standing.{Stands}
use Rattle.ob_soundness_laws.specs.calls.Bound.{AreBound}

-- A frame begins the body of a signature on the object of a number: slot 0 has `this` with a permission, the slots
-- after it
-- have the parameters, and no other slot is set.
pub record BeginsOn (table : ClassTable) (objects : List Object) (f : SilicaFrame) (s : Signature) (q : Permission)
    (n : ℕ)
    : Type 0 where
  pub this : f.slots 0 ≡ Some (cell (reference n) (Reference f.contract) q)
  pub stands : Stands table objects (cell (reference n) (Reference f.contract) q)
  pub bound : AreBound table objects f.slots 1 (parameters s)
  pub unset : (k : ℕ) → length s.params < k → f.slots k ≡ None
