-- By which names a disk was taken, as long as each was noted.
use Rattle.std.proofs.Common.{◌≡◌, Bool, true, false, ℕ, List, [], ◌∷◌, ◌++◌, None, Some, refl}
use Rattle.ob_disk_spec.specs.Disk.{Attach}
use Rattle.ob_disk.specs.Memory.{attaches_told}

-- a name was noted
pub attached_told : (told : Bool) (was now : List Attach) (name : List ℕ) (calls : ℕ) (all : List Attach) → now ≡ was ++ record { name = name; calls = calls } ∷ [] → attaches_told told now ≡ Some all
    → (before : List Attach) × (attaches_told told was ≡ Some before) × (all ≡ before ++ record { name = name; calls = calls } ∷ [])
attached_told true was now name calls all noted is = (was, refl, cc)
attached_told false was now name calls all noted is = let none : ⊥ = cc in absurd none

-- one wasn't
pub untold : {A : Type 0} (all : List Attach) → None ≡ Some all → A
untold all is = let none : ⊥ = cc in absurd none
