-- The spellings of modes and operators.
use Rattle.std.proofs.Common.{◌≡◌, refl}
use Rattle.ob_base.specs.Bytes.{u8_bytes}
use Rattle.ob_base.specs.declared.permission.Mode.{Mode}
use Rattle.ob_base.specs.declared.permission.Mode.TheVariants.{Owned, Shared, Unowned}
use Rattle.ob_base.specs.declared.operator.Operator.{Operator}
use Rattle.ob_base.specs.declared.operator.Operator.TheVariants.{Add, Sub, Mul, Div, Rem, Equal, NotEqual, Less, LessEqual, Greater, GreaterEqual, And, Or, Not, Negate}
use Rattle.ob_code.specs.Images.{number_of_mode, mode}
use Rattle.ob_code.specs.Instructions.{number_of_operator, operator}

pub mode_bytes : (m : Mode) → mode.bytes m ≡ u8_bytes (number_of_mode m)
unfolding mode
mode_bytes Owned = refl
mode_bytes Shared = refl
mode_bytes Unowned = refl

pub operator_bytes : (o : Operator) → operator.bytes o ≡ u8_bytes (number_of_operator o)
unfolding operator
operator_bytes Add = refl
operator_bytes Sub = refl
operator_bytes Mul = refl
operator_bytes Div = refl
operator_bytes Rem = refl
operator_bytes Equal = refl
operator_bytes NotEqual = refl
operator_bytes Less = refl
operator_bytes LessEqual = refl
operator_bytes Greater = refl
operator_bytes GreaterEqual = refl
operator_bytes And = refl
operator_bytes Or = refl
operator_bytes Not = refl
operator_bytes Negate = refl
