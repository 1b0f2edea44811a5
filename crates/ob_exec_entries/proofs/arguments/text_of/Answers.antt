use Rattle.std.proofs.Common.{◌≡◌, List, ℕ, IsTrue, true, sym, subst, arith}
use Rattle.std.specs.Str.{IsUtf8, is_utf8}
use Rattle.std.proofs.lemmas.Str.{IsUtf8-from_is_utf8}
use Rattle.std.proofs.lemmas.Bool.Decides.{nat_tests}
use Rattle.ob_base.specs.Names.{is_text}
use Rattle.ob_exec_entries.proofs.arguments.text_of.Goals as goal

text_is_utf8 : (bytes : List ℕ) → IsTrue (is_text bytes) → is_utf8 bytes ≡ true
text_is_utf8 bytes is = grind (arith, nat_tests)

pub unreachable-requires : goal.unreachable-requires
unreachable-requires c = c.in-Err.ensures.cases.0 (subst IsUtf8 (sym c.as_bytes.ensures.bytes) (IsUtf8-from_is_utf8 _ (text_is_utf8 _ c.as_bytes.ensures.form)))
