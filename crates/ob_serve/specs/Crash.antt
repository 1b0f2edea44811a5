-- The stores that what a crash leaves may represent: those after a prefix of the items of a session (this project's own).
use Rattle.std.specs.Prelude.{ℕ, List, take}
use Rattle.ob_serve.specs.Session.{SessionItem, state_after}

-- the bytes represent the store after all of these items
abbrev pub AfterAll : {S : Type 0} → (S → List ℕ → Type 0) → S → List (SessionItem S) → List ℕ → Type 0
AfterAll stands start items bytes = stands (state_after start items) bytes

-- the bytes represent the store after a prefix of the items, whose length has P
abbrev pub AfterFirst : {S : Type 0} → (S → List ℕ → Type 0) → S → List (SessionItem S) → (ℕ → Type 0) → List ℕ → Type 0
AfterFirst stands start items P bytes = (j : ℕ) × P j × AfterAll stands start (take j items) bytes

-- the bytes represent the store after a prefix of the items
abbrev pub AfterSome : {S : Type 0} → (S → List ℕ → Type 0) → S → List (SessionItem S) → List ℕ → Type 0
AfterSome stands start items bytes = (j : ℕ) × AfterAll stands start (take j items) bytes
