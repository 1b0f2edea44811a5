-- Values that operators give, copies and moves (Coblenz et al., TOPLAS 42(3), 2020, "Silica"; overflow is this project's
-- own).
use Rattle.std.specs.Prelude.{ℕ, true, false, List, Option, Some, None, option_and_then, if◌then◌else◌}
use Rattle.ob_base.specs.declared.id.ContractId.{ContractId}
use Rattle.ob_perm.specs.Permissions.{unowned, kept}
use Rattle.ob_table.specs.Tables.{ClassTable}
use Rattle.ob_table.specs.declared.contract.Field.{Field}
use Rattle.ob_table.specs.declared.seen.Kind.TheVariants.{Reference}
use Rattle.ob_table_spec.specs.WellFormed.{kind_of_resolved}
use Rattle.ob_heap_spec.specs.Values.{Value, bool_value, text_value, referred}
use Rattle.ob_heap_spec.specs.Objects.{is_available}
use Rattle.ob_heap_spec.specs.Operations.{Operated, operated, overflows, other_kinds, between, before}
use Rattle.ob_heap_spec.specs.Worlds.{World, by_overflow}
use Rattle.ob_heap_spec.specs.Marks.{mark_disowned}
use Rattle.ob_silica.specs.declared.term.SilicaOperator.{SilicaOperator}
use Rattle.ob_silica.specs.declared.term.SilicaOperator.TheVariants.{Unary, Binary}
use Rattle.ob_silica_steps.specs.Cells.{Cell, cell, plain_cell}
use Rattle.ob_silica_places.specs.Places.{Location, slot, field}
use Rattle.ob_silica_steps.specs.Configurations.{NextStep, abort_step, stuck}
use Rattle.ob_silica_steps.specs.Here.{Here, if_there, self, field_of, counted, set_slot, set_field, set_permission, hand}
use Rattle.ob_silica_steps.specs.Getting.{got_from}
use Rattle.ob_silica_places.specs.Converting.{converted}

-- Values.

-- what an operator gives of its operands; of one operand the second is the first again
abbrev pub operate : SilicaOperator → Value → Value → Operated
operate (Unary operator) x y = before operator x
operate (Binary operator) x y = between operator x y

-- what follows an operation; where its result is no `int`, the run aborts with this line
abbrev pub with_operated : ℕ → World → Operated → (Value → NextStep) → NextStep
with_operated line w (operated v) go = go v
with_operated line w overflows go = abort_step (by_overflow line) w
with_operated line w other_kinds go = stuck

-- which of two follows, by a `bool`; on another value there is no step
abbrev pub with_truth : Value → NextStep → NextStep → NextStep
with_truth (bool_value true) x y = x
with_truth (bool_value false) x y = y
with_truth value x y = stuck

-- what follows with the bytes of a text; on another value there is no step
abbrev pub with_text : Value → (List ℕ → NextStep) → NextStep
with_text (text_value bytes) go = go bytes
with_text value go = stuck

-- Copies and moves.

-- the field of `this` that has this number, where it is available
abbrev pub available_field : ClassTable → Here → ℕ → Option Field
available_field table h k =
    option_and_then (λ o.
    option_and_then (λ f. if is_available o.state f then Some f else None) (field_of table o k)) (self h)

-- a value that is no reference is copied
abbrev pub copy_to : ClassTable → Location → Cell → Here → (Here → NextStep) → NextStep
copy_to table (slot k) x h go = go (set_slot k (Some (plain_cell x.value x.note.kind)) h)
copy_to table (field k) x h go =
    if_there (available_field table h k) (λ f. go (set_field k (plain_cell x.value (kind_of_resolved f.of)) h))

-- a reference is moved to a slot, which has this contract; an owner's permission goes over
abbrev pub move_to_slot : ClassTable → ℕ → Option ContractId → Location → Cell → Here → (Here → NextStep) → NextStep
move_to_slot table k None place x h go = stuck
move_to_slot table k (Some id) place x h go = go
    (set_slot k (Some (cell x.value (Reference id) (converted table x.note.kind (Reference id) (counted h place x))))
    (set_permission place (kept x.note.permission (counted h place x)) h))

-- a reference is moved; a field gets what it declares
abbrev pub move_to : ClassTable → Location → Option ContractId → Location → Cell → Here → (Here → NextStep) → NextStep
move_to table (slot k) contract place x h go = move_to_slot table k contract place x h go
move_to table (field k) contract place x h go =
    if_there (available_field table h k) (λ f. go (set_field k (got_from table f.of h place x) (hand f.of place x h)))

-- an object is disowned: it is marked, and the place is Unowned
abbrev pub disowns_object : Location → Cell → Here → (Here → NextStep) → NextStep
disowns_object place x h go = if_there (referred x.value) (λ n.
    go (set_permission place unowned (record h { world = mark_disowned n h.world })))
