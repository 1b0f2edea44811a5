-- Which sets and permissions the numbers of the code represent: bit i of a set's number is 1 where state i is in it.
use Rattle.std.specs.Prelude.{ℕ, zero, suc, ◌≡◌, ◌+◌, ◌^◌, ◌≢◌, ◌==◌, if◌then◌else◌}
use Rattle.std.specs.Int.{bit_at}
use Rattle.ob_base.specs.declared.permission.Mode.{Mode}
use Rattle.ob_base.specs.declared.permission.Mode.TheVariants.{Owned, Shared, Unowned}
use Rattle.ob_base.specs.declared.permission.Perm.{Perm}
use Rattle.ob_perm.specs.States.{States, states_max}
use Rattle.ob_perm.specs.Permissions.{Permission, owned, shared, unowned}

-- the set that a number represents
unfoldable pub states_of : ℕ → States
states_of mask = λ i. bit_at mask i == 1

-- how an object is held, and by its owner in which states
abbrev pub held : Mode → States → Permission
held Owned a = owned a
held Shared a = shared
held Unowned a = unowned

-- the permission that one of the code represents
abbrev pub permission_of : Perm → Permission
permission_of p = held p.mode (states_of p.states)

-- One that isn't the owner's says nothing of states.
abbrev pub IsCanonical : Perm → Type 0
IsCanonical p = p.mode ≢ Owned → p.states ≡ 0

-- the number of the states of a set below a bound: the sum of their bits
abbrev pub mask_below : ℕ → States → ℕ
mask_below zero a = 0
mask_below (suc n) a = mask_below n a + (if a n then 2 ^ n else 0)

-- the number that represents a set
abbrev pub mask_of : States → ℕ
mask_of a = mask_below states_max a

-- what represents a permission in the code
abbrev pub perm_of : Permission → Perm
perm_of (owned a) = record { mode = Owned; states = mask_of a }
perm_of shared = record { mode = Shared; states = 0 }
perm_of unowned = record { mode = Unowned; states = 0 }
