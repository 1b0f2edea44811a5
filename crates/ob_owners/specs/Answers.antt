-- What is answered of a store that is asked whether it is at rest (this project's own).
use Rattle.std.specs.Prelude.{◌≡◌, ⊤, Some, Ok, Err, Result}
use Rattle.ob_table.specs.Tables.{ClassTable}
use Rattle.ob_heap_spec.specs.Contents.{Content}
use Rattle.ob_rest_spec.specs.AtRest.{IsAtRest, first_failing_object}
use Rattle.ob_owners.specs.declared.error.RestError.{RestError}
use Rattle.ob_owners.specs.declared.error.RestError.TheVariants.{NotAtRest, Memory}

-- it is at rest, or this is the first object that fails; memory may run out in either case
abbrev pub IsRestAnswer : ClassTable → Content → Result (Unit {0}) RestError → Type 0
IsRestAnswer table content (Ok done) = IsAtRest table content
IsRestAnswer table content (Err (NotAtRest id)) = first_failing_object table content ≡ Some id.0
IsRestAnswer table content (Err Memory) = ⊤
