-- Whether what bytes say may be said of a content (this project's own).
use Rattle.std.specs.Prelude.{ℕ, ◌+◌, ◌-◌, Bool, true, false, not, nat_lt, nat_le, ◌&&◌, List, length, Option, Some, None}
use Rattle.std.specs.List.{list_all, enumerate_from}
use Rattle.std.specs.Option.{option_map_or}
use Rattle.std.specs.FinMap.Entries.{is_sorted}
use Rattle.ob_base.specs.Limits.{most_handles, most_objects}
use Rattle.ob_base.specs.Names.{is_label, is_text}
use Rattle.ob_base.specs.Numbers.{is_int}
use Rattle.ob_base.specs.declared.id.StateId.{StateId}
use Rattle.ob_base.specs.declared.name.Label.{Label}
use Rattle.ob_table.specs.Tables.{ClassTable, contract_at}
use Rattle.ob_table.specs.declared.contract.Contract.{Contract}
use Rattle.ob_table.specs.declared.contract.Field.{Field}
use Rattle.ob_table.specs.declared.contract.ResolvedType.{ResolvedType}
use Rattle.ob_table.specs.declared.contract.ResolvedType.TheVariants.{Int, Bool as BoolKind, Text, Reference}
use Rattle.ob_heap.specs.Deltas.{label_order, with_handles}
use Rattle.ob_heap.specs.Plain.{object_of}
use Rattle.ob_heap.specs.declared.delta.Delta.{Delta}
use Rattle.ob_heap.specs.declared.object.Handle.{Handle}
use Rattle.ob_heap_spec.specs.Contents.{HandleName, Handle as PlainHandle}
use Rattle.ob_heap_spec.specs.Objects.{Object}
use Rattle.ob_heap_spec.specs.Values.{Value, int_value, bool_value, text_value, reference}
use Rattle.ob_rest_spec.specs.References.{available_value}
use Rattle.ob_store_laws.specs.Recorded.{handle_change}

-- whether a value is one of a kind, where there are so many objects
abbrev pub is_value_of : ℕ → ResolvedType → Value → Bool
is_value_of count Int (int_value z) = is_int z
is_value_of count BoolKind (bool_value b) = true
is_value_of count Text (text_value bytes) = is_text bytes
is_value_of count (Reference id p) (reference n) = nat_lt n count
is_value_of count kind value = false

-- whether the field of a number isn't available, or its value is one of its kind
abbrev pub is_field_value : ℕ → Contract → Object → (ℕ × Field) → Bool
is_field_value count c o f = option_map_or (is_value_of count f.1.of) (available_value c o f.0) true

-- whether an object of a contract may be in a state, or in none
abbrev pub is_state_of : Contract → Option StateId → Bool
is_state_of c state = option_map_or (λ (s : StateId). nat_lt s.0 (length c.states)) state (not (nat_lt 0 (length c.states)))

-- whether an object with values in just its available fields is one of a contract
abbrev pub is_object_of : ℕ → Object → Contract → Bool
is_object_of count o c = not c.interface && (is_state_of c o.state && list_all (is_field_value count c o) (enumerate_from 0 c.fields))

-- whether such an object is one of the contract that it names
abbrev pub is_object : ClassTable → ℕ → Object → Bool
is_object table count o = option_map_or (is_object_of count o) (contract_at table o.contract) false

-- whether a handle's name is two labels, and it is on one of so many objects, if it is there
abbrev pub is_handle_change : ℕ → HandleName × Option PlainHandle → Bool
is_handle_change count h = is_label h.0.who && is_label h.0.name && option_map_or (λ (x : PlainHandle). nat_lt x.object count) h.1 true

-- whether changes of handles stand in the order of their names, each once
abbrev pub are_in_order : List ((Label × Label) × Option Handle) → Bool
are_in_order handles = is_sorted label_order handles

-- how many there are after one that was there before, or not, is there, or not
abbrev pub counted_with : {A : Type 0} → Option A → Option A → ℕ → ℕ
counted_with None (Some after) count = count + 1
counted_with (Some before) None count = count - 1
counted_with before after count = count

-- whether changes of handles may be said where there are these handles, and so many objects
abbrev pub are_handles : List ((Label × Label) × Handle) → ℕ → List ((Label × Label) × Option Handle) → Bool
are_handles before count handles =
    (are_in_order handles && list_all (λ e. is_handle_change count (handle_change e)) handles) && nat_le (length (with_handles before handles)) most_handles

-- whether a delta whose objects come to so many may be said where there are these handles
abbrev pub may_be_said : ClassTable → List ((Label × Label) × Handle) → ℕ → Delta → Bool
may_be_said table before count delta =
    (nat_le count most_objects && list_all (λ e. is_object table count (object_of e.1)) delta.objects) && are_handles before count delta.handles
