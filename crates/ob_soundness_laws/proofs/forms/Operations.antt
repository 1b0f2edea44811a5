-- What an operator gives of operands of its kinds: a value of its kind, or no result that is an `int`.
use Rattle.std.proofs.Common.{◌≡◌, ℕ, ℤ, Bool, true, false, List, refl, sym, ⊎_elim, true≢false}
use Rattle.std.specs.Prelude.{pos, ◌+ℤ◌, ◌-ℤ◌, ◌*ℤ◌, neg_ℤ, int_div, int_rem}
use Rattle.std.specs.Ordering.{int_eq}
use Rattle.std.proofs.lemmas.Bool.{cases_Bool}
use Rattle.ob_base.specs.Numbers.{is_int}
use Rattle.ob_table.specs.Tables.{ClassTable}
use Rattle.ob_table.specs.declared.operator.UnaryOperator.{UnaryOperator}
use Rattle.ob_table.specs.declared.operator.UnaryOperator.TheVariants.{Not, Negate}
use Rattle.ob_table.specs.declared.operator.BinaryOperator.{BinaryOperator}
use Rattle.ob_table.specs.declared.operator.BinaryOperator.TheVariants.{Add, Sub, Mul, Div, Rem, Equal, NotEqual, Less, LessEqual, Greater, GreaterEqual}
use Rattle.ob_table.specs.declared.seen.Kind.{Kind}
use Rattle.ob_table.specs.declared.seen.Kind.TheVariants.{Int, Bool as BoolKind, Text, Reference}
use Rattle.ob_table_spec.specs.WellFormed.{kind_of_unary, kind_of_binary, is_reference, serves_as}
use Rattle.ob_heap_spec.specs.Values.{Value, int_value, bool_value, text_value, reference}
use Rattle.ob_heap_spec.specs.Objects.{Object}
use Rattle.ob_heap_spec.specs.Operations.{Operated, operated, overflows, other_kinds, as_int, divided, before, between}
use Rattle.ob_coherent_spec.specs.Standing.{IsOfKind}

-- what an operation comes to is a value of this kind, or no value
abbrev pub Gives : ClassTable → List Object → Kind → Operated → Type 0
Gives table objects kind (operated v) = IsOfKind table objects kind v
Gives table objects kind overflows = Unit {0}
Gives table objects kind other_kinds = ⊥

-- what serves where a kind is wanted that is no reference's is of that kind
pub plain_serves : (table : ClassTable) (wanted has : Kind) → is_reference wanted ≡ false
    → serves_as table wanted has ≡ true → has ≡ wanted
plain_serves table (Reference i) has e s = absurd (true≢false e)
plain_serves table Int Int e s = refl
plain_serves table Int (Reference c) e s = absurd (true≢false (sym s))
plain_serves table Int BoolKind e s = absurd (true≢false (sym s))
plain_serves table Int Text e s = absurd (true≢false (sym s))
plain_serves table BoolKind BoolKind e s = refl
plain_serves table BoolKind (Reference c) e s = absurd (true≢false (sym s))
plain_serves table BoolKind Int e s = absurd (true≢false (sym s))
plain_serves table BoolKind Text e s = absurd (true≢false (sym s))
plain_serves table Text Text e s = refl
plain_serves table Text (Reference c) e s = absurd (true≢false (sym s))
plain_serves table Text Int e s = absurd (true≢false (sym s))
plain_serves table Text BoolKind e s = absurd (true≢false (sym s))

pub unary_plain : (operator : UnaryOperator) → is_reference (kind_of_unary operator) ≡ false
unary_plain Not = refl
unary_plain Negate = refl

pub binary_plain : (operator : BinaryOperator) → is_reference (kind_of_binary operator) ≡ false
binary_plain Add = refl
binary_plain Sub = refl
binary_plain Mul = refl
binary_plain Div = refl
binary_plain Rem = refl
binary_plain Equal = refl
binary_plain NotEqual = refl
binary_plain Less = refl
binary_plain LessEqual = refl
binary_plain Greater = refl
binary_plain GreaterEqual = refl

module _ (table : ClassTable) (objects : List Object) where
  int_given : (z : ℤ) → Gives table objects Int (as_int z)
  int_given z = ⊎_elim (λ e. rw e e) (λ e. rw e tt) (cases_Bool (is_int z))

  divided_given : (y z : ℤ) → Gives table objects Int (divided y z)
  divided_given y z = ⊎_elim (λ e. rw e tt) (λ e. rw e (int_given z)) (cases_Bool (int_eq y (pos 0)))

  pub unary_given : (operator : UnaryOperator) (x : Value) → IsOfKind table objects (kind_of_unary operator) x
      → Gives table objects (kind_of_unary operator) (before operator x)
  unary_given Not (bool_value b) is = tt
  unary_given Not (int_value z) is = absurd is
  unary_given Not (text_value bytes) is = absurd is
  unary_given Not (reference n) is = absurd is
  unary_given Negate (int_value z) is = int_given (neg_ℤ z)
  unary_given Negate (bool_value b) is = absurd is
  unary_given Negate (text_value bytes) is = absurd is
  unary_given Negate (reference n) is = absurd is

  -- two values of one kind that is no reference's are compared
  compared : (operator : BinaryOperator) (kind : Kind) (x y : Value) → is_reference kind ≡ false
      → IsOfKind table objects kind x
      → IsOfKind table objects kind y → ((a b : ℤ)
      → Gives table objects BoolKind (between operator (int_value a) (int_value b)))
      → ((a b : Bool) → Gives table objects BoolKind (between operator (bool_value a) (bool_value b)))
      → ((a b : List ℕ) → Gives table objects BoolKind (between operator (text_value a) (text_value b)))
      → Gives table objects BoolKind (between operator x y)
  compared operator (Reference id) x y e is js i b s = absurd (true≢false e)
  compared operator Int (int_value x) (int_value y) e is js i b s = i x y
  compared operator Int (int_value x) (bool_value y) e is js i b s = absurd js
  compared operator Int (int_value x) (text_value y) e is js i b s = absurd js
  compared operator Int (int_value x) (reference y) e is js i b s = absurd js
  compared operator Int (bool_value x) y e is js i b s = absurd is
  compared operator Int (text_value x) y e is js i b s = absurd is
  compared operator Int (reference x) y e is js i b s = absurd is
  compared operator BoolKind (bool_value x) (bool_value y) e is js i b s = b x y
  compared operator BoolKind (bool_value x) (int_value y) e is js i b s = absurd js
  compared operator BoolKind (bool_value x) (text_value y) e is js i b s = absurd js
  compared operator BoolKind (bool_value x) (reference y) e is js i b s = absurd js
  compared operator BoolKind (int_value x) y e is js i b s = absurd is
  compared operator BoolKind (text_value x) y e is js i b s = absurd is
  compared operator BoolKind (reference x) y e is js i b s = absurd is
  compared operator Text (text_value x) (text_value y) e is js i b s = s x y
  compared operator Text (text_value x) (int_value y) e is js i b s = absurd js
  compared operator Text (text_value x) (bool_value y) e is js i b s = absurd js
  compared operator Text (text_value x) (reference y) e is js i b s = absurd js
  compared operator Text (int_value x) y e is js i b s = absurd is
  compared operator Text (bool_value x) y e is js i b s = absurd is
  compared operator Text (reference x) y e is js i b s = absurd is

  pub equal_given : (kind : Kind) (x y : Value) → is_reference kind ≡ false → IsOfKind table objects kind x
      → IsOfKind table objects kind y
      → Gives table objects BoolKind (between Equal x y)
  equal_given kind x y e is js = compared Equal kind x y e is js (λ a b. tt) (λ a b. tt) (λ a b. tt)

  pub not_equal_given : (kind : Kind) (x y : Value) → is_reference kind ≡ false → IsOfKind table objects kind x
      → IsOfKind table objects kind y
      → Gives table objects BoolKind (between NotEqual x y)
  not_equal_given kind x y e is js = compared NotEqual kind x y e is js (λ a b. tt) (λ a b. tt) (λ a b. tt)

  between_numbers : (operator : BinaryOperator) (x y : ℤ)
      → Gives table objects (kind_of_binary operator) (between operator (int_value x) (int_value y))
  between_numbers Add x y = int_given (x +ℤ y)
  between_numbers Sub x y = int_given (x -ℤ y)
  between_numbers Mul x y = int_given (x *ℤ y)
  between_numbers Div x y = divided_given y (int_div x y)
  between_numbers Rem x y = divided_given y (int_rem x y)
  between_numbers Equal x y = tt
  between_numbers NotEqual x y = tt
  between_numbers Less x y = tt
  between_numbers LessEqual x y = tt
  between_numbers Greater x y = tt
  between_numbers GreaterEqual x y = tt

  pub binary_given : (operator : BinaryOperator) (x y : Value) → IsOfKind table objects Int x
      → IsOfKind table objects Int y
      → Gives table objects (kind_of_binary operator) (between operator x y)
  binary_given operator (int_value x) (int_value y) is js = between_numbers operator x y
  binary_given operator (int_value x) (bool_value y) is js = absurd js
  binary_given operator (int_value x) (text_value y) is js = absurd js
  binary_given operator (int_value x) (reference y) is js = absurd js
  binary_given operator (bool_value x) y is js = absurd is
  binary_given operator (text_value x) y is js = absurd is
  binary_given operator (reference x) y is js = absurd is
