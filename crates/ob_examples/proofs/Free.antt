-- Which slots are free.
use Rattle.std.proofs.Common.{◌≡◌, ◌≢◌, ℕ, Bool, true, false, List, [], ◌∷◌, refl, sym, ◌∙◌, nat_eq, eq-eqb, true≢false}
use Rattle.std.specs.Prelude.{if◌then◌else◌}
use Rattle.ob_lower_spec.specs.Points.{IsFree}

-- whether a slot isn't in use
abbrev pub is_free : ℕ → List ℕ → Bool
is_free k [] = true
is_free k (u ∷ used) = if nat_eq k u then false else is_free k used

free_from : (k u : ℕ) (b : Bool) (used : List ℕ) → nat_eq k u ≡ b → ((is_free k used ≡ true) → IsFree k used) → (if b then false else is_free k used) ≡ true → (k ≢ u) × IsFree k used
free_from k u true used e rest held = absurd (true≢false (sym held))
free_from k u false used e rest held = ((λ same. true≢false (sym (eq-eqb k u same) ∙ e)), rest held)

pub free : (k : ℕ) (used : List ℕ) → is_free k used ≡ true → IsFree k used
free k [] held = tt
free k (u ∷ used) held = free_from k u (nat_eq k u) used refl (free k used) held
