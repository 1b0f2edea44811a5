-- What values and objects represent: the plain data of a store.
use Rattle.std.specs.Prelude.{List}
use Rattle.std.specs.Option.{option_map}
use Rattle.ob_base.specs.declared.id.FieldId.{FieldId}
use Rattle.ob_heap.specs.declared.value.Value.{Value}
use Rattle.ob_heap.specs.declared.value.Value.TheVariants.{Int, Bool, Text, Object as Reference}
use Rattle.ob_heap.specs.declared.object.Object.{Object}
use Rattle.ob_heap.specs.declared.object.Handle.{Handle}
use Rattle.ob_heap.specs.Fields.{value_at}
use Rattle.ob_heap_spec.specs.Values.{Value as PlainValue, int_value, bool_value, text_value, reference, Numbered}
use Rattle.ob_heap_spec.specs.Objects.{Object as PlainObject}
use Rattle.ob_heap_spec.specs.Contents.{Handle as PlainHandle}

-- a value
abbrev pub value_of : Value → PlainValue
value_of (Int z) = int_value z
value_of (Bool b) = bool_value b
value_of (Text bytes) = text_value bytes
value_of (Reference id) = reference id.0

-- values by the numbers of their fields
abbrev pub fields_of : List (FieldId × Value) → Numbered PlainValue
fields_of es = λ k. option_map value_of (value_at (record { 0 = k }) es)

-- an object
abbrev pub object_of : Object → PlainObject
object_of o = record {
  contract = o.contract;
  state = o.state;
  fields = fields_of o.fields;
  shared = o.shared;
  disowned = o.disowned;
}

-- a hold on an object
abbrev pub handle_of : Handle → PlainHandle
handle_of h = record { object = h.object.0; mode = h.mode }
