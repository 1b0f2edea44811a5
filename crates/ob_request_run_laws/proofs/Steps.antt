-- Steps one after another, and slices as steps.
use Rattle.std.proofs.Common.{◌≡◌, ℕ, zero, suc, ◌+◌, Bool, true, false, Option, Some, None, refl, sym, ap, ◌∙◌, subst, arith}
use Rattle.std.specs.Prelude.{⊤, if◌then◌else◌}
use Rattle.ob_code.specs.declared.image.Image.{Image}
use Rattle.ob_machine_steps.specs.Configurations.{End, Next, goes, stops}
use Rattle.ob_machine_steps.specs.Entries.{Phase, running, next_step}
use Rattle.ob_machine_steps.specs.Runs.{Stop, paused, over, after_step, after_steps, pays, waits, left_after, run_in}
use Rattle.ob_machine_laws.proofs.Slicing.{none_paused, over_paused, paused_same}
use Rattle.ob_request_run_laws.proofs.Lists.{none_is_some}

abbrev IsOver : Option Stop → Type 0
IsOver None = ⊥
IsOver (Some (paused p)) = ⊥
IsOver (Some (over end)) = ⊤

paused_over : {p : Phase} {end : End} → Some (paused p) ≡ Some (over end) → ⊥
paused_over e = subst IsOver (sym e) tt

abbrev pub IsSome : {A : Type 0} → Option A → Type 0
IsSome None = ⊥
IsSome (Some a) = ⊤

-- steps from where steps led
steps_by : (image : Image) (k j : ℕ) (p q : Phase) (s : Stop) (r : Option Next) → next_step image p ≡ r → after_step r (after_steps image k) ≡ Some (paused q) → after_steps image j q ≡ Some s
    → ((x : Phase) → after_steps image k x ≡ Some (paused q) → after_steps image (k + j) x ≡ Some s) → after_steps image (suc (k + j)) p ≡ Some s
steps_by image k j p q s None e f g ih = absurd (none_paused f)
steps_by image k j p q s (Some (goes c)) e f g ih = rw e (ih (running c) f)
steps_by image k j p q s (Some (stops end)) e f g ih = absurd (over_paused f)

pub steps_add : (image : Image) (k j : ℕ) (p q : Phase) (s : Stop) → after_steps image k p ≡ Some (paused q) → after_steps image j q ≡ Some s → after_steps image (k + j) p ≡ Some s
steps_add image zero j p q s f g = ap (λ n. after_steps image n p) (let e : zero + j ≡ j = omega arith in e) ∙ ap (after_steps image j) (paused_same f) ∙ g
steps_add image (suc k) j p q s f g =
    ap (λ n. after_steps image n p) (let e : suc k + j ≡ suc (k + j) = omega arith in e) ∙ steps_by image k j p q s (next_step image p) refl f g (λ x h. steps_add image k j x q s h g)

-- what is over later is over some steps from where it was in between
rest_by : (image : Image) (k n : ℕ) (p q : Phase) (end : End) (r : Option Next) → next_step image p ≡ r → after_step r (after_steps image k) ≡ Some (paused q) → after_step r (after_steps image n) ≡ Some (over end)
    → ((x : Phase) → after_steps image k x ≡ Some (paused q) → after_steps image n x ≡ Some (over end) → (j : ℕ) × (after_steps image j q ≡ Some (over end)))
    → (j : ℕ) × (after_steps image j q ≡ Some (over end))
rest_by image k n p q end None e f g ih = absurd (none_paused f)
rest_by image k n p q end (Some (goes c)) e f g ih = ih (running c) f g
rest_by image k n p q end (Some (stops x)) e f g ih = absurd (over_paused f)

pub rest_over : (image : Image) (k n : ℕ) (p q : Phase) (end : End) → after_steps image k p ≡ Some (paused q) → after_steps image n p ≡ Some (over end) → (j : ℕ) × (after_steps image j q ≡ Some (over end))
rest_over image zero n p q end f g = (n, ap (after_steps image n) (sym (paused_same f)) ∙ g)
rest_over image (suc k) zero p q end f g = absurd (paused_over g)
rest_over image (suc k) (suc n) p q end f g = rest_by image k n p q end (next_step image p) refl f g (λ x h i. rest_over image k n x q end h i)

-- a slice is some steps
in_by : (image : Image) (n units : ℕ) (p : Phase) (s : Stop) (b : Bool) (r : Option Next) → next_step image p ≡ r → (if b then Some (paused p) else after_step r (run_in image n units)) ≡ Some s
    → ((x : Phase) → run_in image n units x ≡ Some s → (j : ℕ) × (after_steps image j x ≡ Some s)) → (j : ℕ) × (after_steps image j p ≡ Some s)
in_by image n units p s true r e f ih = (0, f)
in_by image n units p s false None e f ih = absurd (none_is_some f)
in_by image n units p s false (Some (goes c)) e f ih = let k = ih (running c) f in (suc k.0, ap (λ x. after_step x (after_steps image k.0)) e ∙ k.1)
in_by image n units p s false (Some (stops end)) e f ih = (1, ap (λ x. after_step x (after_steps image 0)) e ∙ f)

pub in_steps : (image : Image) (n units : ℕ) (p : Phase) (s : Stop) → run_in image n units p ≡ Some s → (j : ℕ) × (after_steps image j p ≡ Some s)
in_steps image zero units p s f = absurd (none_is_some f)
in_steps image (suc n) units p s f = in_by image n (left_after (pays image p) units) p s (waits image units p) (next_step image p) refl f (λ x g. in_steps image n (left_after (pays image p) units) x s g)

-- a slice of a run that is over within so many steps stops within as many
some_by : (image : Image) (n units : ℕ) (p : Phase) (end : End) (b : Bool) (r : Option Next) → next_step image p ≡ r → after_step r (after_steps image n) ≡ Some (over end)
    → ((x : Phase) → after_steps image n x ≡ Some (over end) → IsSome (run_in image n units x)) → IsSome (if b then Some (paused p) else after_step r (run_in image n units))
some_by image n units p end true r e f ih = tt
some_by image n units p end false None e f ih = absurd (none_is_some f)
some_by image n units p end false (Some (goes c)) e f ih = ih (running c) f
some_by image n units p end false (Some (stops x)) e f ih = tt

pub slice_some : (image : Image) (n units : ℕ) (p : Phase) (end : End) → after_steps image n p ≡ Some (over end) → IsSome (run_in image n units p)
slice_some image zero units p end f = absurd (paused_over f)
slice_some image (suc n) units p end f =
    some_by image n (left_after (pays image p) units) p end (waits image units p) (next_step image p) refl f (λ x g. slice_some image n (left_after (pays image p) units) x end g)
