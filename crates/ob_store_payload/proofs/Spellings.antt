-- The spellings of marks and truth values, and which texts have one.
use Rattle.std.proofs.Common.{◌≡◌, ℕ, ◌<◌, ◌≤◌, ◌^◌, Bool, true, false, List, length, refl, arith}
use Rattle.std.specs.Prelude.{nat_le, ◌&&◌, IsTrue}
use Rattle.std.specs.Str.{IsUtf8, is_utf8}
use Rattle.std.proofs.lemmas.Str.{IsUtf8-from_is_utf8}
use Rattle.ob_base.specs.Bytes.{u8_bytes}
use Rattle.ob_base.specs.Limits.{longest_name}
use Rattle.ob_base.specs.Names.{is_label}
use Rattle.ob_base.proofs.OptionalLemmas.{both_true}
use Rattle.ob_format_spec.specs.Texts.{text}
use Rattle.ob_store_spec.specs.Payloads.{number_of_marks, marks, number_of_truth, truth}

pub marks_bytes : (m : Bool × Bool) → marks.bytes m ≡ u8_bytes (number_of_marks m)
unfolding marks
marks_bytes (false, false) = refl
marks_bytes (true, false) = refl
marks_bytes (false, true) = refl
marks_bytes (true, true) = refl

pub truth_bytes : (b : Bool) → truth.bytes b ≡ u8_bytes (number_of_truth b)
unfolding truth
truth_bytes false = refl
truth_bytes true = refl

pub text_fits : (bytes : List ℕ) → length bytes < 2 ^ 32 → IsUtf8 bytes → text.fits bytes
unfolding text
text_fits bytes few utf8 = (few, (refl, utf8))

at_most : (m n : ℕ) → nat_le m n ≡ true → m ≤ n
at_most m n h = grind arith

pub label_fits : (name : List ℕ) → IsTrue (is_label name) → text.fits name
label_fits name is =
    let parts = both_true (nat_le 1 (length name) && nat_le (length name) longest_name) (is_utf8 name) is in
    let lengths = both_true (nat_le 1 (length name)) (nat_le (length name) longest_name) parts.0 in
    let short = at_most (length name) longest_name lengths.1 in
    text_fits name (omega (arith, short)) (IsUtf8-from_is_utf8 name parts.1)
