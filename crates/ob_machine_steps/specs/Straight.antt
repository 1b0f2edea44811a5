-- Instructions that take a unit, set a slot, go to a place, mark an object, or abort (this project's own).
use Rattle.std.specs.Prelude.{ℕ, ℤ, Bool, ◌==◌, ◌&&◌, ◌||◌, List, Option, Some, None, if◌then◌else◌}
use Rattle.ob_base.specs.Optional.{◌>>=◌}
use Rattle.ob_base.specs.declared.id.FieldId.{FieldId}
use Rattle.ob_base.specs.declared.operator.Operator.{Operator}
use Rattle.ob_base.specs.declared.operator.Operator.TheVariants.{Add, Sub, Mul, Div, Rem, Equal, NotEqual, Less, LessEqual, Greater, GreaterEqual, And, Or, Not, Negate}
use Rattle.ob_table.specs.declared.operator.UnaryOperator.TheVariants as unary
use Rattle.ob_table.specs.declared.operator.BinaryOperator.TheVariants as binary
use Rattle.ob_heap_spec.specs.Values.{Value, int_value, bool_value, text_value}
use Rattle.ob_heap_spec.specs.Contents.{object_at}
use Rattle.ob_heap_spec.specs.Operations.{Operated, operated, overflows, other_kinds, as_bool, between, before}
use Rattle.ob_heap_spec.specs.Worlds.{World, by_revert, by_overflow}
use Rattle.ob_heap_spec.specs.Marks.{mark_shared, mark_disowned}
use Rattle.ob_machine_steps.specs.Slots.{Slots, value_at, truth_at, text_at, reference_at}
use Rattle.ob_machine_steps.specs.Configurations.{Configuration, Next, abort}
use Rattle.ob_machine_steps.specs.Parts.{with_world, goes_on, goes_to, sets, this_object, with_unit}

-- Units.

-- `unit`: a unit is taken, or the run aborts
abbrev pub unit_step : Configuration → Option Next
unit_step c = with_unit c.world (λ w. goes_on (with_world w c))

-- Slots.

-- `int`: a slot gets a whole number
abbrev pub int_step : ℕ → ℤ → Configuration → Option Next
int_step k z c = sets k (int_value z) c

-- `bool`: a slot gets a truth value: true for 1, false for any other number
abbrev pub bool_step : ℕ → ℕ → Configuration → Option Next
bool_step k b c = sets k (bool_value (b == 1)) c

-- `text`: a slot gets a text
abbrev pub text_step : ℕ → List ℕ → Configuration → Option Next
text_step k bytes c = sets k (text_value bytes) c

-- `copy`: a slot gets what another holds
abbrev pub copy_step : ℕ → ℕ → Configuration → Option Next
copy_step k a c = value_at c.top.slots a >>= λ v. sets k v c

-- `load`: a slot gets the value of a field of `this`; nothing is read of the store, since `this` was read when it was called or
-- made
abbrev pub load_step : ℕ → FieldId → Configuration → Option Next
load_step k field c = this_object c >>= λ o. o.fields field.0 >>= λ v. sets k v c

-- Operators.

-- an operator between two truth values that has asked both
abbrev pub between_truths : (Bool → Bool → Bool) → Value → Value → Operated
between_truths f (bool_value x) (bool_value y) = as_bool (f x y)
between_truths f x y = other_kinds

-- what an operator of two operands gives of them
abbrev pub of_two : Operator → Value → Value → Operated
of_two Add x y = between binary.Add x y
of_two Sub x y = between binary.Sub x y
of_two Mul x y = between binary.Mul x y
of_two Div x y = between binary.Div x y
of_two Rem x y = between binary.Rem x y
of_two Equal x y = between binary.Equal x y
of_two NotEqual x y = between binary.NotEqual x y
of_two Less x y = between binary.Less x y
of_two LessEqual x y = between binary.LessEqual x y
of_two Greater x y = between binary.Greater x y
of_two GreaterEqual x y = between binary.GreaterEqual x y
of_two And x y = between_truths (λ p q. p && q) x y
of_two Or x y = between_truths (λ p q. p || q) x y
of_two Not x y = other_kinds
of_two Negate x y = other_kinds

-- what an operator gives of what two slots hold; one of one operand looks at the first alone
abbrev pub operation : Operator → Slots → ℕ → ℕ → Option Operated
operation Not slots a b = value_at slots a >>= λ x. Some (before unary.Not x)
operation Negate slots a b = value_at slots a >>= λ x. Some (before unary.Negate x)
operation operator slots a b = value_at slots a >>= λ x. value_at slots b >>= λ y. Some (of_two operator x y)

-- what follows an operation; where its result is no `int`, the run aborts with this line
abbrev pub with_operated : ℕ → World → Operated → (Value → Option Next) → Option Next
with_operated line w (operated v) go = go v
with_operated line w overflows go = Some (abort (by_overflow line) w)
with_operated line w other_kinds go = None

-- `op`: a slot gets what an operator gives
abbrev pub op_step : ℕ → Operator → ℕ → ℕ → ℕ → Configuration → Option Next
op_step k operator a b line c =
    operation operator c.top.slots a b >>= λ x. with_operated line c.world x (λ v. sets k v c)

-- Places.

-- `jump`: goes to a place
abbrev pub jump_step : ℕ → Configuration → Option Next
jump_step target c = goes_to target c

-- `unless`: goes to a place where a slot holds false
abbrev pub unless_step : ℕ → ℕ → Configuration → Option Next
unless_step a target c = truth_at c.top.slots a >>= λ b. if b then goes_on c else goes_to target c

-- Marks.

-- an object that is there is marked, and is read
abbrev pub marks_object : (ℕ → World → World) → ℕ → Configuration → Option Next
marks_object mark a c =
    reference_at c.top.slots a >>= λ n.
    object_at c.world.objects n >>= λ o. goes_on (with_world (mark n c.world) c)

-- `share`: the object of a slot is marked as shared
abbrev pub share_step : ℕ → Configuration → Option Next
share_step a c = marks_object mark_shared a c

-- `disown`: the object of a slot is marked as disowned
abbrev pub disown_step : ℕ → Configuration → Option Next
disown_step a c = marks_object mark_disowned a c

-- Aborts.

-- `revert`: the run aborts with the text of a slot
abbrev pub revert_step : ℕ → Configuration → Option Next
revert_step a c = text_at c.top.slots a >>= λ bytes. Some (abort (by_revert bytes) c.world)
