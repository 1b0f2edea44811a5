-- What operators give is of the kind that the verifier knows.
use Rattle.std.proofs.Common.{◌≡◌, ℕ, ℤ, List, Some, Bool, true, false, subst, ◌+ℤ◌, ◌-ℤ◌, ◌*ℤ◌, neg_ℤ}
use Rattle.std.specs.Prelude.{if◌then◌else◌, pos, int_div, int_rem, ◌&&◌, ◌||◌}
use Rattle.std.specs.Ordering.{int_eq}
use Rattle.ob_base.specs.Optional.{◌>>=◌}
use Rattle.ob_base.specs.Numbers.{is_int}
use Rattle.ob_base.specs.declared.operator.Operator.{Operator}
use Rattle.ob_base.specs.declared.operator.Operator.TheVariants as operator
use Rattle.ob_table.specs.declared.operator.UnaryOperator.TheVariants as unary
use Rattle.ob_table.specs.declared.operator.BinaryOperator.{BinaryOperator}
use Rattle.ob_table.specs.declared.operator.BinaryOperator.TheVariants as binary
use Rattle.ob_table.specs.declared.seen.Kind.{Kind}
use Rattle.ob_table.specs.declared.seen.Kind.TheVariants as kind
use Rattle.ob_heap_spec.specs.Values.{Value, int_value, bool_value, text_value}
use Rattle.ob_heap_spec.specs.Objects.{Object}
use Rattle.ob_heap_spec.specs.Operations.{Operated, operated, overflows, other_kinds, as_int, divided, between_ints, between_bools, between_texts, between, before}
use Rattle.ob_code.specs.declared.image.Image.{Image}
use Rattle.ob_machine_steps.specs.Slots.{Slots, value_at}
use Rattle.ob_machine_steps.specs.Straight.{between_truths, of_two, operation}
use Rattle.ob_verify_spec.specs.Instructions.{kind_given}
use Rattle.ob_verify_spec.proofs.Cells.{some_same}
use Rattle.ob_code_laws.specs.Kinds.{IsOfKind}
use Rattle.ob_code_laws.proofs.Basics.{then_some}

-- an operation comes to a value of a kind, or to none
abbrev pub Gives : Image → List Object → Kind → Operated → Type 0
Gives image objects x (operated v) = IsOfKind image objects x v
Gives image objects x overflows = Unit {0}
Gives image objects x other_kinds = Unit {0}

gives_if : (image : Image) (objects : List Object) (x : Kind) (b : Bool) (p q : Operated) → Gives image objects x p → Gives image objects x q → Gives image objects x (if b then p else q)
gives_if image objects x true p q h k = h
gives_if image objects x false p q h k = k

int_gives : (image : Image) (objects : List Object) (z : ℤ) → Gives image objects kind.Int (as_int z)
int_gives image objects z = gives_if image objects kind.Int (is_int z) (operated (int_value z)) overflows tt tt

divided_gives : (image : Image) (objects : List Object) (d z : ℤ) → Gives image objects kind.Int (divided d z)
divided_gives image objects d z = gives_if image objects kind.Int (int_eq d (pos 0)) overflows (as_int z) tt (int_gives image objects z)

-- the kind of what an operator between two gives
abbrev kind_between : BinaryOperator → Kind
kind_between binary.Add = kind.Int
kind_between binary.Sub = kind.Int
kind_between binary.Mul = kind.Int
kind_between binary.Div = kind.Int
kind_between binary.Rem = kind.Int
kind_between o = kind.Bool

ints_give : (image : Image) (objects : List Object) (o : BinaryOperator) (x y : ℤ) → Gives image objects (kind_between o) (between_ints o x y)
ints_give image objects binary.Add x y = int_gives image objects (x +ℤ y)
ints_give image objects binary.Sub x y = int_gives image objects (x -ℤ y)
ints_give image objects binary.Mul x y = int_gives image objects (x *ℤ y)
ints_give image objects binary.Div x y = divided_gives image objects y (int_div x y)
ints_give image objects binary.Rem x y = divided_gives image objects y (int_rem x y)
ints_give image objects o x y = tt

bools_give : (image : Image) (objects : List Object) (o : BinaryOperator) (x y : Bool) → Gives image objects (kind_between o) (between_bools o x y)
bools_give image objects o x y = elim o as (λ z. Gives image objects (kind_between z) (between_bools z x y)) [
  | binary.Add ↦ tt
  | binary.Sub ↦ tt
  | binary.Mul ↦ tt
  | binary.Div ↦ tt
  | binary.Rem ↦ tt
  | binary.Equal ↦ tt
  | binary.NotEqual ↦ tt
  | binary.Less ↦ tt
  | binary.LessEqual ↦ tt
  | binary.Greater ↦ tt
  | binary.GreaterEqual ↦ tt
]

texts_give : (image : Image) (objects : List Object) (o : BinaryOperator) (x y : List ℕ) → Gives image objects (kind_between o) (between_texts o x y)
texts_give image objects o x y = elim o as (λ z. Gives image objects (kind_between z) (between_texts z x y)) [
  | binary.Add ↦ tt
  | binary.Sub ↦ tt
  | binary.Mul ↦ tt
  | binary.Div ↦ tt
  | binary.Rem ↦ tt
  | binary.Equal ↦ tt
  | binary.NotEqual ↦ tt
  | binary.Less ↦ tt
  | binary.LessEqual ↦ tt
  | binary.Greater ↦ tt
  | binary.GreaterEqual ↦ tt
]

between_gives : (image : Image) (objects : List Object) (o : BinaryOperator) (x y : Value) → Gives image objects (kind_between o) (between o x y)
between_gives image objects o (int_value x) (int_value y) = ints_give image objects o x y
between_gives image objects o (bool_value x) (bool_value y) = bools_give image objects o x y
between_gives image objects o (text_value x) (text_value y) = texts_give image objects o x y
between_gives image objects o x y = tt

truths_give : (image : Image) (objects : List Object) (f : Bool → Bool → Bool) (x y : Value) → Gives image objects kind.Bool (between_truths f x y)
truths_give image objects f (bool_value x) (bool_value y) = tt
truths_give image objects f x y = tt

two_give : (image : Image) (objects : List Object) (o : Operator) (x y : Value) → Gives image objects (kind_given o) (of_two o x y)
two_give image objects operator.Add x y = between_gives image objects binary.Add x y
two_give image objects operator.Sub x y = between_gives image objects binary.Sub x y
two_give image objects operator.Mul x y = between_gives image objects binary.Mul x y
two_give image objects operator.Div x y = between_gives image objects binary.Div x y
two_give image objects operator.Rem x y = between_gives image objects binary.Rem x y
two_give image objects operator.Equal x y = between_gives image objects binary.Equal x y
two_give image objects operator.NotEqual x y = between_gives image objects binary.NotEqual x y
two_give image objects operator.Less x y = between_gives image objects binary.Less x y
two_give image objects operator.LessEqual x y = between_gives image objects binary.LessEqual x y
two_give image objects operator.Greater x y = between_gives image objects binary.Greater x y
two_give image objects operator.GreaterEqual x y = between_gives image objects binary.GreaterEqual x y
two_give image objects operator.And x y = truths_give image objects (λ p q. p && q) x y
two_give image objects operator.Or x y = truths_give image objects (λ p q. p || q) x y
two_give image objects operator.Not x y = tt
two_give image objects operator.Negate x y = tt

not_gives : (image : Image) (objects : List Object) (x : Value) → Gives image objects kind.Bool (before unary.Not x)
not_gives image objects (bool_value x) = tt
not_gives image objects x = tt

negate_gives : (image : Image) (objects : List Object) (x : Value) → Gives image objects kind.Int (before unary.Negate x)
negate_gives image objects (int_value x) = int_gives image objects (neg_ℤ x)
negate_gives image objects x = tt

pair_gives : (image : Image) (objects : List Object) (o : Operator) (slots : Slots) (a b : ℕ) (z : Operated)
    → (value_at slots a >>= λ x. value_at slots b >>= λ y. Some (of_two o x y)) ≡ Some z → Gives image objects (kind_given o) z
pair_gives image objects o slots a b z e =
    let f = then_some (value_at slots a) (λ x. value_at slots b >>= λ y. Some (of_two o x y)) z e in
    let s = then_some (value_at slots b) (λ y. Some (of_two o f.0 y)) z f.2 in
    subst (Gives image objects (kind_given o)) (some_same s.2) (two_give image objects o f.0 s.0)

pub operation_gives : (image : Image) (objects : List Object) (o : Operator) (slots : Slots) (a b : ℕ) (z : Operated) → operation o slots a b ≡ Some z → Gives image objects (kind_given o) z
operation_gives image objects operator.Not slots a b z e =
    let f = then_some (value_at slots a) (λ x. Some (before unary.Not x)) z e in subst (Gives image objects kind.Bool) (some_same f.2) (not_gives image objects f.0)
operation_gives image objects operator.Negate slots a b z e =
    let f = then_some (value_at slots a) (λ x. Some (before unary.Negate x)) z e in subst (Gives image objects kind.Int) (some_same f.2) (negate_gives image objects f.0)
operation_gives image objects o slots a b z e = pair_gives image objects o slots a b z e
