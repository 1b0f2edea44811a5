-- What a run does to an object (this project's own).
use Rattle.std.specs.Prelude.{◌≡◌, ℕ, true, List, slice_get, slice_set, Some}
use Rattle.ob_heap.specs.declared.edit.Edit.{Edit}
use Rattle.ob_heap.specs.declared.edit.Edit.TheVariants.{Field, State, Shared, Disowned}
use Rattle.ob_heap.specs.declared.object.Object.{Object}
use Rattle.ob_heap.specs.Fields.{with_value}

-- the object after this was done to it
abbrev pub with_edit : Edit → Object → Object
with_edit (Field k v) o = record o { fields = with_value k v o.fields }
with_edit (State s fields) o = record o { state = Some s; fields = fields }
with_edit Shared o = record o { shared = true }
with_edit Disowned o = record o { disowned = true }

-- this was done to the object of a number, and the others are the same
abbrev pub IsEdited : ℕ → Edit → List Object → List Object → Type 0
IsEdited n e old new = (o : Object) → slice_get old n ≡ Some o → new ≡ slice_set old n (with_edit e o)
