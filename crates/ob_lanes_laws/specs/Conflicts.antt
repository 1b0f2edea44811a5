-- What conflicts: whether something that was read of a content differs in another content (Kung and Robinson, "On optimistic methods for
-- concurrency control", ACM TODS 6(2), 1981, "validation"; what can be read is this project's own).
use Rattle.std.specs.Prelude.{ℕ, Bool, true, false, not, ◌&&◌, nat_eq, bytes_eq, List, length}
use Rattle.std.specs.Ordering.{int_eq}
use Rattle.std.specs.Option.{option_map_or, option_eq}
use Rattle.std.specs.List.{list_any}
use Rattle.ob_base.specs.declared.id.ContractId.{ContractId}
use Rattle.ob_base.specs.declared.id.StateId.{StateId}
use Rattle.ob_base.specs.declared.permission.Mode.{Mode}
use Rattle.ob_base.specs.declared.permission.Mode.TheVariants.{Owned, Shared, Unowned}
use Rattle.ob_perm.specs.States.{all_below}
use Rattle.ob_table.specs.Tables.{ClassTable, contract_at}
use Rattle.ob_heap_spec.specs.Values.{Value, int_value, bool_value, text_value, reference, Numbered}
use Rattle.ob_heap_spec.specs.Operations.{same_truth}
use Rattle.ob_heap_spec.specs.Objects.{Object}
use Rattle.ob_heap_spec.specs.Contents.{Handle, Content, object_at}
use Rattle.ob_heap_spec.specs.Handles.{handle_at}
use Rattle.ob_heap_spec.specs.Worlds.{ReadItem, object_item, next_item, handle_item, handles_full_item}
use Rattle.ob_invocation_spec.specs.Handles.{are_handles_full}

-- whether two values are the same
abbrev pub same_value : Value → Value → Bool
same_value (int_value x) (int_value y) = int_eq x y
same_value (bool_value x) (bool_value y) = same_truth x y
same_value (text_value x) (text_value y) = bytes_eq x y
same_value (reference x) (reference y) = nat_eq x y
same_value x y = false

-- whether two states are the same
abbrev pub same_state : StateId → StateId → Bool
same_state x y = nat_eq x.0 y.0

-- whether the same fields have the same values, of so many fields
abbrev pub same_values : ℕ → Numbered Value → Numbered Value → Bool
same_values count xs ys = all_below count (λ k. option_eq same_value (xs k) (ys k))

-- how many fields a contract has
abbrev pub field_count : ClassTable → ContractId → ℕ
field_count table id = option_map_or (λ c. length c.fields) (contract_at table id) 0

-- whether two objects are the same: of one contract, in one state, with the same marks and values
abbrev pub same_object : ClassTable → Object → Object → Bool
same_object table a b =
    nat_eq a.contract.0 b.contract.0 && (option_eq same_state a.state b.state && (same_truth a.shared b.shared
    && (same_truth a.disowned b.disowned && same_values (field_count table a.contract) a.fields b.fields)))

-- whether two modes are the same
abbrev pub same_mode : Mode → Mode → Bool
same_mode Owned Owned = true
same_mode Shared Shared = true
same_mode Unowned Unowned = true
same_mode a b = false

-- whether two handles are the same
abbrev pub same_handle : Handle → Handle → Bool
same_handle a b = nat_eq a.object b.object && same_mode a.mode b.mode

-- whether an item is the same in two contents
abbrev pub is_same_item : ClassTable → Content → Content → ReadItem → Bool
is_same_item table c d (object_item n) = option_eq (same_object table) (object_at c.objects n) (object_at d.objects n)
is_same_item table c d next_item = nat_eq (length c.objects) (length d.objects)
is_same_item table c d (handle_item name) = option_eq same_handle (handle_at c name) (handle_at d name)
is_same_item table c d handles_full_item = same_truth (are_handles_full c) (are_handles_full d)

-- whether one of these items differs between two contents
abbrev pub conflicts : ClassTable → Content → Content → List ReadItem → Bool
conflicts table c d items = list_any (λ item. not (is_same_item table c d item)) items
