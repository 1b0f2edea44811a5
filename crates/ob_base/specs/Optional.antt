-- Values that may be missing, one after another.
use Rattle.std.specs.Prelude.{Bool, Option, Some, None, if◌then◌else◌}

infixl 10 ◌>>=◌
-- what follows a value, if there is one
abbrev pub ◌>>=◌ : {A B : Type 0} → Option A → (A → Option B) → Option B
None >>= f = None
(Some x) >>= f = f x

-- a value that has to pass a test
abbrev pub where_true : {A : Type 0} → Bool → A → Option A
where_true b x = if b then Some x else None
