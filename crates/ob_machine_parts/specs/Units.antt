-- Units of fuel (this project's own).
use Rattle.std.specs.Prelude.{◌≡◌, ℕ, suc, Bool, true, false}

-- how many units a run has left, and how many it has taken
pub record Metered : Type 0 where
  pub fuel : ℕ
  pub taken : ℕ

-- a unit was taken, or there was none
abbrev pub IsTaken : Bool → Metered → Metered → Type 0
IsTaken true old new = (old.fuel ≡ suc new.fuel) × (new.taken ≡ suc old.taken)
IsTaken false old new = (old.fuel ≡ 0) × (new ≡ old)
