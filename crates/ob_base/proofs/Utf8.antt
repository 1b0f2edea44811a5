-- The test of UTF-8, by the result of the conversion.
use Rattle.std.proofs.Common.{ℕ, ◌≡◌, Bool, true, false, List, Result, Ok, Err, refl, sym}
use Rattle.std.specs.Prelude.{is_ok, MatchResult}
use Rattle.std.specs.Str.{IsUtf8, is_utf8}
use Rattle.std.proofs.lemmas.Str.{is_utf8-from_IsUtf8, IsUtf8-from_is_utf8}

isnt : (bytes : List ℕ) (b : Bool) → is_utf8 bytes ≡ b → ¬ (IsUtf8 bytes) → false ≡ b
isnt bytes true is none = absurd (none (IsUtf8-from_is_utf8 bytes is))
isnt bytes false is none = refl

pub by_conversion : {A E : Type 0} (r : Result A E) (bytes : List ℕ) (P : A → Type 0) (Q : E → Type 0) → MatchResult r (λ s. P s × IsUtf8 bytes) (λ e. ¬ (IsUtf8 bytes) × Q e) → is_ok r ≡ is_utf8 bytes
by_conversion (Ok s) bytes P Q h = sym (is_utf8-from_IsUtf8 bytes h.1)
by_conversion (Err e) bytes P Q h = isnt bytes (is_utf8 bytes) refl h.0
