-- Why a row isn't read: as what it begins with.
use Rattle.std.proofs.Common.{List}
use Rattle.ob_lexer.specs.declared.token.Token.{Token}
use Rattle.ob_parser_spec.specs.Readers.{Read, done, stop, deep, ◌>>=◌}
use Rattle.ob_parser_expressions.specs.Answering.{Halts}
use Rattle.ob_parser_expressions.specs.declared.halt.Halt.{Halt}
use Rattle.ob_parser_expressions.specs.declared.halt.Halt.TheVariants as halt

-- why it ends
pub halts_bind : {A B : Type 0} (e : Halt) (r : Read A) (f : A → List Token → Read B) → Halts e r → Halts e (r >>= f)
halts_bind (halt.Expected left) (stop rest) f is = is
halts_bind (halt.Expected left) (done x rest) f is = absurd cc
halts_bind (halt.Expected left) (deep rest) f is = absurd cc
halts_bind (halt.TooDeep left) (deep rest) f is = is
halts_bind (halt.TooDeep left) (done x rest) f is = absurd cc
halts_bind (halt.TooDeep left) (stop rest) f is = absurd cc
halts_bind halt.Memory r f is = tt
