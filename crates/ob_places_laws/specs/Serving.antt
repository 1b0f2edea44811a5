-- Which permission serves where another is said, and which states it lets an object be in (Coblenz et al., TOPLAS
-- 42(3), 2020, "Permissions"; the statements are this project's own).
use Rattle.std.specs.Prelude.{◌≡◌, ℕ, ◌<◌, true, ⊤}
use Rattle.ob_perm.specs.States.{States, states_max}
use Rattle.ob_perm.specs.Permissions.{Permission, owned, shared, unowned}

-- each state of the first set that has a number is in the second
abbrev pub AreAmong : States → States → Type 0
AreAmong a b = (i : ℕ) → i < states_max → a i ≡ true → b i ≡ true

-- The second permission, which a place carries, serves where the first is said of it: an owner's, whose states are
-- among the first one's, where that is an owner's; Shared where it is Shared; any where it is Unowned.
abbrev pub Allows : Permission → Permission → Type 0
Allows (owned a) q = (b : States) × (q ≡ owned b) × AreAmong b a
Allows shared q = q ≡ shared
Allows unowned q = ⊤

-- an owner's permission lets its object be in this state; of another one nothing is said
abbrev pub AllowsState : Permission → ℕ → Type 0
AllowsState (owned a) s = a s ≡ true
AllowsState shared s = ⊤
AllowsState unowned s = ⊤
