-- Numbers of what may be missing.
use Rattle.std.proofs.Common.{◌≡◌, ℕ, Option, Some, None, refl}
use Rattle.std.specs.Prelude.{option_and_then, unwrap_or}
use Rattle.std.specs.Option.{option_map_or}

pub unwrap_or_and_then : {A : Type 0} (f : A → Option ℕ) (o : Option A)
    → unwrap_or (option_and_then f o) 0 ≡ option_map_or (λ x. unwrap_or (f x) 0) o 0
unwrap_or_and_then f None = refl
unwrap_or_and_then f (Some x) = refl
