-- What the code makes of an object that it changes (this project's own).
use Rattle.std.specs.Prelude.{true, Some}
use Rattle.ob_base.specs.declared.id.StateId.{StateId}
use Rattle.ob_heap_spec.specs.Values.{Value, Numbered}
use Rattle.ob_heap_spec.specs.Objects.{Object}

-- an object in a state, with these fields
abbrev pub with_state : StateId → Numbered Value → Object → Object
with_state state fields o = record o { state = Some state; fields = fields }

-- an object that is marked as shared
abbrev pub shared_now : Object → Object
shared_now o = record o { shared = true }

-- an object that is marked as disowned
abbrev pub disowned_now : Object → Object
disowned_now o = record o { disowned = true }
