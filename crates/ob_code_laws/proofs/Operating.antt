-- Operators whose operands are of the kinds that they need come to a value, or to none that is an `int`.
use Rattle.std.proofs.Common.{◌≡◌, ℕ, ℤ, List, [], ◌∷◌, Option, Some, Bool, true, false, Contains, refl, sym, ap, ◌∙◌, subst}
use Rattle.std.specs.Prelude.{if◌then◌else◌, pos, ◌+ℤ◌, ◌-ℤ◌, ◌*ℤ◌, neg_ℤ, int_div, int_rem, ◌&&◌, ◌||◌}
use Rattle.std.specs.Ordering.{int_eq}
use Rattle.std.proofs.lemmas.Bool.{true≢false}
use Rattle.ob_base.specs.Optional.{◌>>=◌}
use Rattle.ob_base.specs.Numbers.{is_int}
use Rattle.ob_base.specs.declared.operator.Operator.{Operator}
use Rattle.ob_base.specs.declared.operator.Operator.TheVariants as operator
use Rattle.ob_table.specs.declared.operator.UnaryOperator.TheVariants as unary
use Rattle.ob_table.specs.declared.operator.BinaryOperator.{BinaryOperator}
use Rattle.ob_table.specs.declared.operator.BinaryOperator.TheVariants as binary
use Rattle.ob_table.specs.declared.seen.Kind.{Kind}
use Rattle.ob_table.specs.declared.seen.Kind.TheVariants as kind
use Rattle.ob_heap_spec.specs.Values.{Value, int_value, bool_value, text_value}
use Rattle.ob_heap_spec.specs.Objects.{Object}
use Rattle.ob_heap_spec.specs.Operations.{Operated, operated, overflows, other_kinds, as_int, divided, between_ints, between, before}
use Rattle.ob_code.specs.declared.image.Image.{Image}
use Rattle.ob_machine_steps.specs.Slots.{Slots, value_at}
use Rattle.ob_machine_steps.specs.Straight.{between_truths, operation}
use Rattle.ob_verify_spec.specs.Kinds.{is_reference}
use Rattle.ob_verify_spec.specs.Instructions.{Need, of_kind, alike, needs_of_operator}
use Rattle.ob_verify_spec.proofs.Listed.{head, behind}
use Rattle.ob_code_laws.specs.Kinds.{IsOfKind, Holds, HoldAlike, AreMet}

-- Values of a kind.

pub int_of : (image : Image) (objects : List Object) (v : Value) → IsOfKind image objects kind.Int v → (z : ℤ) × (v ≡ int_value z)
int_of image objects (int_value z) h = (z, refl)
int_of image objects v h = absurd h

pub bool_of : (image : Image) (objects : List Object) (v : Value) → IsOfKind image objects kind.Bool v → (b : Bool) × (v ≡ bool_value b)
bool_of image objects (bool_value b) h = (b, refl)
bool_of image objects v h = absurd h

pub bytes_of : (image : Image) (objects : List Object) (v : Value) → IsOfKind image objects kind.Text v → (bytes : List ℕ) × (v ≡ text_value bytes)
bytes_of image objects (text_value bytes) h = (bytes, refl)
bytes_of image objects v h = absurd h

-- Operands of the kinds.

-- the operands are of the kinds that an operator takes
abbrev pub Operates : Operated → Type 0
Operates (operated v) = Unit {0}
Operates overflows = Unit {0}
Operates other_kinds = ⊥

operates_if : (b : Bool) (p q : Operated) → Operates p → Operates q → Operates (if b then p else q)
operates_if true p q h k = h
operates_if false p q h k = k

int_operates : (z : ℤ) → Operates (as_int z)
int_operates z = operates_if (is_int z) (operated (int_value z)) overflows tt tt

divided_operates : (d z : ℤ) → Operates (divided d z)
divided_operates d z = operates_if (int_eq d (pos 0)) overflows (as_int z) tt (int_operates z)

ints_operate : (o : BinaryOperator) (x y : ℤ) → Operates (between_ints o x y)
ints_operate binary.Add x y = int_operates (x +ℤ y)
ints_operate binary.Sub x y = int_operates (x -ℤ y)
ints_operate binary.Mul x y = int_operates (x *ℤ y)
ints_operate binary.Div x y = divided_operates y (int_div x y)
ints_operate binary.Rem x y = divided_operates y (int_rem x y)
ints_operate o x y = tt

-- an operation on slots comes to something
pub record Comes (o : Option Operated) : Type 0 where
  pub to : Operated
  pub is : o ≡ Some to
  pub operates : Operates to

two_come : (slots : Slots) (a b : ℕ) (f : Value → Value → Operated) (v w : Value) → value_at slots a ≡ Some v → value_at slots b ≡ Some w → Operates (f v w)
    → Comes (value_at slots a >>= λ x. value_at slots b >>= λ y. Some (f x y))
two_come slots a b f v w e g h = record {
  to = f v w;
  is = ap (λ (z : Option Value). z >>= λ x. value_at slots b >>= λ y. Some (f x y)) e ∙ ap (λ (z : Option Value). z >>= λ y. Some (f v y)) g;
  operates = h;
}

one_comes : (slots : Slots) (a : ℕ) (f : Value → Operated) (v : Value) → value_at slots a ≡ Some v → Operates (f v) → Comes (value_at slots a >>= λ x. Some (f x))
one_comes slots a f v e h = record { to = f v; is = ap (λ (z : Option Value). z >>= λ x. Some (f x)) e; operates = h }

ints_come : (image : Image) (objects : List Object) (slots : Slots) (a b : ℕ) (o : BinaryOperator) → Holds image objects slots a kind.Int → Holds image objects slots b kind.Int
    → Comes (value_at slots a >>= λ x. value_at slots b >>= λ y. Some (between o x y))
ints_come image objects slots a b o h k =
    let x = int_of image objects h.value h.kind in
    let y = int_of image objects k.value k.kind in
    two_come slots a b (between o) (int_value x.0) (int_value y.0) (h.there ∙ ap Some x.1) (k.there ∙ ap Some y.1) (ints_operate o x.0 y.0)

truths_come : (image : Image) (objects : List Object) (slots : Slots) (a b : ℕ) (f : Bool → Bool → Bool) → Holds image objects slots a kind.Bool → Holds image objects slots b kind.Bool
    → Comes (value_at slots a >>= λ x. value_at slots b >>= λ y. Some (between_truths f x y))
truths_come image objects slots a b f h k =
    let x = bool_of image objects h.value h.kind in
    let y = bool_of image objects k.value k.kind in
    two_come slots a b (between_truths f) (bool_value x.0) (bool_value y.0) (h.there ∙ ap Some x.1) (k.there ∙ ap Some y.1) tt

-- an operator that compares two values of one kind that is no reference's
abbrev Compares : BinaryOperator → Type 0
Compares o = ((x y : ℤ) → Operates (between o (int_value x) (int_value y))) × ((x y : Bool) → Operates (between o (bool_value x) (bool_value y)))
    × ((x y : List ℕ) → Operates (between o (text_value x) (text_value y)))

alike_operate : (image : Image) (objects : List Object) (o : BinaryOperator) → Compares o → (x : Kind) (v w : Value) → is_reference x ≡ false → IsOfKind image objects x v
    → IsOfKind image objects x w → Operates (between o v w)
alike_operate image objects o c kind.Int v w plain h k =
    let x = int_of image objects v h in let y = int_of image objects w k in
    subst (λ z. Operates (between o z w)) (sym x.1) (subst (λ z. Operates (between o (int_value x.0) z)) (sym y.1) (c.0 x.0 y.0))
alike_operate image objects o c kind.Bool v w plain h k =
    let x = bool_of image objects v h in let y = bool_of image objects w k in
    subst (λ z. Operates (between o z w)) (sym x.1) (subst (λ z. Operates (between o (bool_value x.0) z)) (sym y.1) (c.1 x.0 y.0))
alike_operate image objects o c kind.Text v w plain h k =
    let x = bytes_of image objects v h in let y = bytes_of image objects w k in
    subst (λ z. Operates (between o z w)) (sym x.1) (subst (λ z. Operates (between o (text_value x.0) z)) (sym y.1) (c.2 x.0 y.0))
alike_operate image objects o c (kind.Reference d) v w plain h k = absurd (true≢false plain)

alike_come : (image : Image) (objects : List Object) (slots : Slots) (a b : ℕ) (o : BinaryOperator) → Compares o → HoldAlike image objects slots a b
    → Comes (value_at slots a >>= λ x. value_at slots b >>= λ y. Some (between o x y))
alike_come image objects slots a b o c h =
    two_come slots a b (between o) h.left.value h.right.value h.left.there h.right.there (alike_operate image objects o c h.kind h.left.value h.right.value h.plain h.left.kind h.right.kind)

-- both operands are of a kind
pair_come : (image : Image) (objects : List Object) (slots : Slots) (a b : ℕ) (o : BinaryOperator)
    → ((n : Need) → Contains (of_kind a kind.Int ∷ of_kind b kind.Int ∷ []) n → AreMet image objects slots n)
    → Comes (value_at slots a >>= λ x. value_at slots b >>= λ y. Some (between o x y))
pair_come image objects slots a b o met =
    ints_come image objects slots a b o (met (of_kind a kind.Int) (head (of_kind a kind.Int) (of_kind b kind.Int ∷ [])))
    (met (of_kind b kind.Int) (behind (of_kind a kind.Int) (of_kind b kind.Int) (of_kind b kind.Int ∷ []) (head (of_kind b kind.Int) [])))

both_come : (image : Image) (objects : List Object) (slots : Slots) (a b : ℕ) (f : Bool → Bool → Bool)
    → ((n : Need) → Contains (of_kind a kind.Bool ∷ of_kind b kind.Bool ∷ []) n → AreMet image objects slots n)
    → Comes (value_at slots a >>= λ x. value_at slots b >>= λ y. Some (between_truths f x y))
both_come image objects slots a b f met =
    truths_come image objects slots a b f (met (of_kind a kind.Bool) (head (of_kind a kind.Bool) (of_kind b kind.Bool ∷ [])))
    (met (of_kind b kind.Bool) (behind (of_kind a kind.Bool) (of_kind b kind.Bool) (of_kind b kind.Bool ∷ []) (head (of_kind b kind.Bool) [])))

pub operation_comes : (image : Image) (objects : List Object) (slots : Slots) (o : Operator) (a b : ℕ) → ((n : Need) → Contains (needs_of_operator o a b) n → AreMet image objects slots n)
    → Comes (operation o slots a b)
operation_comes image objects slots operator.Add a b met = pair_come image objects slots a b binary.Add met
operation_comes image objects slots operator.Sub a b met = pair_come image objects slots a b binary.Sub met
operation_comes image objects slots operator.Mul a b met = pair_come image objects slots a b binary.Mul met
operation_comes image objects slots operator.Div a b met = pair_come image objects slots a b binary.Div met
operation_comes image objects slots operator.Rem a b met = pair_come image objects slots a b binary.Rem met
operation_comes image objects slots operator.Equal a b met = alike_come image objects slots a b binary.Equal (λ x y. tt, λ x y. tt, λ x y. tt) (met (alike a b) (head (alike a b) []))
operation_comes image objects slots operator.NotEqual a b met = alike_come image objects slots a b binary.NotEqual (λ x y. tt, λ x y. tt, λ x y. tt) (met (alike a b) (head (alike a b) []))
operation_comes image objects slots operator.Less a b met = pair_come image objects slots a b binary.Less met
operation_comes image objects slots operator.LessEqual a b met = pair_come image objects slots a b binary.LessEqual met
operation_comes image objects slots operator.Greater a b met = pair_come image objects slots a b binary.Greater met
operation_comes image objects slots operator.GreaterEqual a b met = pair_come image objects slots a b binary.GreaterEqual met
operation_comes image objects slots operator.And a b met = both_come image objects slots a b (λ p q. p && q) met
operation_comes image objects slots operator.Or a b met = both_come image objects slots a b (λ p q. p || q) met
operation_comes image objects slots operator.Not a b met =
    let h : Holds image objects slots a kind.Bool = met (of_kind a kind.Bool) (head (of_kind a kind.Bool) (of_kind b kind.Bool ∷ [])) in
    let x = bool_of image objects h.value h.kind in one_comes slots a (before unary.Not) (bool_value x.0) (h.there ∙ ap Some x.1) tt
operation_comes image objects slots operator.Negate a b met =
    let h : Holds image objects slots a kind.Int = met (of_kind a kind.Int) (head (of_kind a kind.Int) (of_kind b kind.Int ∷ [])) in
    let x = int_of image objects h.value h.kind in one_comes slots a (before unary.Negate) (int_value x.0) (h.there ∙ ap Some x.1) (int_operates (neg_ℤ x.0))
