-- What the names of a body denote while it runs (the Obsidian language documentation, "Expressions"; that the name
-- of a reference is read last is this project's own).
use Rattle.std.specs.Prelude.{ℕ, false, List, [], ◌∷◌, Option, Some, None, option_map, if◌then◌else◌}
use Rattle.std.specs.Option.{option_map_or, option_and_then}
use Rattle.ob_base.specs.declared.id.ContractId.{ContractId}
use Rattle.ob_table.specs.Expressions.{Expression, resolved_seen}
use Rattle.ob_table.specs.Tables.{field_at}
use Rattle.ob_table.specs.declared.seen.Seen.{Seen}
use Rattle.ob_table.specs.declared.seen.Seen.TheVariants.{This, Local, Field as FieldSeen}
use Rattle.ob_table.specs.declared.seen.Kind.{Kind}
use Rattle.ob_table.specs.declared.seen.Kind.TheVariants.{Reference}
use Rattle.ob_table_spec.specs.WellFormed.{kind_of_resolved, is_reference}
use Rattle.ob_heap_spec.specs.Values.{Value, reference, referred}
use Rattle.ob_heap_spec.specs.Contents.{object_at}
use Rattle.ob_heap_spec.specs.Worlds.{World, RunOutcome, gives, with_some}
use Rattle.ob_source_meaning.specs.Frames.{SourceFrame, SourceOperand, known, named, SourceGiven, Locals}
use Rattle.ob_heap_spec.specs.GoingWrong.{is_readable}

-- the value of a field of `this`, if it can be read
abbrev pub value_of_field : SourceFrame → World → ℕ → Option Value
value_of_field f w k =
    option_and_then (λ o. if is_readable f.own o k then o.fields k else None) (object_at w.objects f.this)

-- the value for which a name stands, if there is one
abbrev pub value_seen : SourceFrame → Locals → World → Seen → Option Value
value_seen f ls w This = Some (reference f.this)
value_seen f ls w (Local n) = option_map (λ x. x.value) (ls.variables n)
value_seen f ls w (FieldSeen id) = value_of_field f w id.0

-- the object for whose reference a name stands, if it is one
abbrev pub object_seen : SourceFrame → Locals → World → Seen → Option ℕ
object_seen f ls w seen = option_and_then referred (value_seen f ls w seen)

-- a name is read; where it denotes nothing the run goes wrong
abbrev pub read : SourceFrame → Locals → Seen → World → RunOutcome Value
read f ls seen w = with_some (value_seen f ls w seen) (λ v. gives v w)

-- the declared kind of a name
abbrev pub kind_seen : SourceFrame → Locals → Seen → Option Kind
kind_seen f ls This = Some (Reference f.here)
kind_seen f ls (Local n) = option_map (λ x. x.kind) (ls.variables n)
kind_seen f ls (FieldSeen id) = option_map (λ field. kind_of_resolved field.of) (field_at f.own id)

-- the declared contract or interface of a reference's kind
abbrev pub contract_of_kind : Kind → Option ContractId
contract_of_kind (Reference id) = Some id
contract_of_kind kind = None

-- the declared contract or interface of a name, if it is that of a reference
abbrev pub contract_seen : SourceFrame → Locals → Seen → Option ContractId
contract_seen f ls seen = option_and_then contract_of_kind (kind_seen f ls seen)

-- the name that an expression is, if it is that of a reference
abbrev pub reference_name : SourceFrame → Locals → Expression → Option Seen
reference_name f ls (resolved_seen seen span) =
    if option_map_or is_reference (kind_seen f ls seen.of) false then Some seen.of else None
reference_name f ls e = None

-- the value of an operand, whose name is read now
abbrev pub value_of_operand : SourceFrame → Locals → World → SourceOperand → Option Value
value_of_operand f ls w (known v) = Some v
value_of_operand f ls w (named seen) = value_seen f ls w seen

-- the values of operands, if each has one
abbrev pub values_of_operands : SourceFrame → Locals → World → List SourceOperand → Option (List Value)
values_of_operands f ls w [] = Some []
values_of_operands f ls w (x ∷ xs) =
    option_and_then (λ v. option_map (λ vs. v ∷ vs) (values_of_operands f ls w xs)) (value_of_operand f ls w x)

-- the values that fields are given, if each has one
abbrev pub values_given : SourceFrame → Locals → World → List SourceGiven → Option (List (ℕ × Value))
values_given f ls w [] = Some []
values_given f ls w (g ∷ gs) =
    option_and_then (λ v. option_map (λ vs. (g.0, v) ∷ vs) (values_given f ls w gs)) (value_of_operand f ls w g.1)
