-- How fields are assigned, and how the state of `this` changes (Coblenz et al., TOPLAS 42(3), 2020, "State changes";
-- marks and locks are this project's own).
use Rattle.std.specs.Prelude.{ℕ, ◌&&◌, List, [], ◌∷◌, Some, None, slice_get, if◌then◌else◌}
use Rattle.std.specs.Option.{option_map_or}
use Rattle.std.specs.List.{list_all}
use Rattle.ob_base.specs.declared.id.StateId.{StateId}
use Rattle.ob_table.specs.Statements.{GivenField}
use Rattle.ob_table.specs.declared.contract.Contract.{Contract}
use Rattle.ob_heap_spec.specs.Values.{Value, Numbered, put}
use Rattle.ob_heap_spec.specs.Objects.{Object, has_field, has_all_values, with_field}
use Rattle.ob_heap_spec.specs.Worlds.{World, by_state, RunOutcome, gives, ◌>>=◌, if_right, with_some, unless_aborted, edit_object, with_object}
use Rattle.ob_heap_spec.specs.Marks.{comes_into, is_locked}
use Rattle.ob_source_meaning.specs.Frames.{SourceFrame, SourceGiven, Locals, Calls, Flow, goes_on}
use Rattle.ob_heap_spec.specs.GoingWrong.{is_assignable, is_givable}
use Rattle.ob_source_meaning.specs.Naming.{values_given}
use Rattle.ob_source_meaning.specs.Expressions.{operand_of}

-- a value comes into a field of a contract: a reference in one declared Shared marks its object
abbrev pub comes_into_field : Contract → ℕ → Value → World → World
comes_into_field c k v w = option_map_or (λ field. comes_into field.of v w) (slice_get c.fields k) w

-- a field of `this` is assigned
abbrev pub assign_field : SourceFrame → ℕ → Value → Locals → World → RunOutcome Flow
assign_field f k v ls w =
    with_object w f.this
    (λ o. if_right (is_assignable f.own o k)
    (gives (goes_on ls) (edit_object (with_field k v) f.this (comes_into_field f.own k v w))))

-- the fields that are given, evaluated in their order
abbrev pub given_of : Calls → SourceFrame → List GivenField → Locals → World → RunOutcome (List SourceGiven)
given_of calls f [] ls w = gives [] w
given_of calls f (g ∷ gs) ls w =
    operand_of calls f g.value ls w
    >>= (λ x w1. given_of calls f gs ls w1 >>= (λ xs w2. gives ((g.field.0, x) ∷ xs) w2))

-- the values of fields, cut to those that are available in a state
abbrev pub cut_to : Contract → StateId → Numbered Value → Numbered Value
cut_to c s values = λ k. if has_field c (Some s) k then values k else None

-- the values of fields, with those that are given put in, in their order
abbrev pub put_all : Numbered Value → List (ℕ × Value) → Numbered Value
put_all values [] = values
put_all values ((k, v) ∷ given) = put_all (put values k v) given

-- an object after a change of its state
abbrev pub moved_to : Contract → StateId → List (ℕ × Value) → Object → Object
moved_to c s given o = record o { state = Some s; fields = put_all (cut_to c s o.fields) given }

-- given values come into their fields, one after another
abbrev pub come_into_fields : Contract → List (ℕ × Value) → World → World
come_into_fields c [] w = w
come_into_fields c ((k, v) ∷ given) w = come_into_fields c given (comes_into_field c k v w)

-- `this` changes its state: each field that is given is one of the new state, and each of its fields has a value then
abbrev pub move_this : SourceFrame → StateId → List (ℕ × Value) → Locals → World → RunOutcome Flow
move_this f s given ls w =
    let w1 = edit_object (moved_to f.own s given) f.this (come_into_fields f.own given w) in
    if_right (list_all (λ g. is_givable f.own s g.0) given)
    (with_object w1 f.this
    (λ o. if_right (has_all_values f.own o) (gives (goes_on (record ls { staged = [] })) w1)))

-- A state change starts: the names among what is given are read. In a share-entered body it aborts where `this` is
-- locked.
abbrev pub change_state : SourceFrame → StateId → List SourceGiven → Locals → World → RunOutcome Flow
change_state f s given ls w =
    with_some (values_given f ls w given)
    (λ values. unless_aborted (f.share_entered && is_locked w f.this) (by_state f.this None) w
    (move_this f s values ls w))
