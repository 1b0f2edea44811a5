-- A run that is over has had a next step wherever it was, and comes to its end in as many steps as it can last.
use Rattle.std.proofs.Common.{◌≡◌, ℕ, zero, suc, Option, Some, None, refl, sym, ap, subst, ◌∙◌}
use Rattle.std.specs.Prelude.{IsTrue, is_some}
use Rattle.ob_code.specs.declared.image.Image.{Image}
use Rattle.ob_machine_steps.specs.Configurations.{Configuration, Next, goes, stops, End}
use Rattle.ob_machine_steps.specs.Entries.{Phase, running, next_step, HasStep}
use Rattle.ob_machine_steps.specs.Measures.{LeadsAheadOrToUnit, steps_left}
use Rattle.ob_machine_steps.specs.Outcomes.{outcome, outcome_at, outcome_of}
use Rattle.ob_machine_steps.specs.Runs.{paused, over, after_step, after_steps}
use Rattle.ob_machine_laws.specs.Laws.{IsSoundRun}
use Rattle.ob_machine_laws.proofs.Ending.{run_ends}

-- the next step of a run that is over after one more step, by what it is
over_on : (image : Image) (n m : ℕ) (p q : Phase) (end : End) (r : Option Next) → next_step image p ≡ r
    → ((c : Configuration) → after_steps image n (running c) ≡ Some (over end) → after_steps image m (running c) ≡ Some (paused q) → HasStep image q)
    → after_step r (after_steps image n) ≡ Some (over end) → after_step r (after_steps image m) ≡ Some (paused q) → HasStep image q
over_on image n m p q end None at more e is = absurd cc
over_on image n m p q end (Some (goes c)) at more e is = more c e is
over_on image n m p q end (Some (stops x)) at more e is = absurd cc

over_now : (image : Image) (n : ℕ) (p : Phase) (end : End) (r : Option Next) → next_step image p ≡ r
    → after_step r (after_steps image n) ≡ Some (over end) → HasStep image p
over_now image n p end None at e = absurd cc
over_now image n p end (Some next) at e = subst (λ r. IsTrue (is_some r)) (sym at) refl

same_paused : (p q : Phase) → Some (paused p) ≡ Some (paused q) → p ≡ q
same_paused p q e = cc

same_over : (x y : End) → Some (over x) ≡ Some (over y) → x ≡ y
same_over x y e = cc

-- where a run is over after some steps, it has a next step wherever it is paused
over_has_steps : (image : Image) (n m : ℕ) (p q : Phase) (end : End)
    → after_steps image n p ≡ Some (over end) → after_steps image m p ≡ Some (paused q) → HasStep image q
over_has_steps image zero m p q end e is = absurd cc
over_has_steps image (suc n) zero p q end e is =
    subst (λ x. HasStep image x) (same_paused p q is) (over_now image n p end (next_step image p) refl e)
over_has_steps image (suc n) (suc m) p q end e is =
    over_on image n m p q end (next_step image p) refl (λ c f s. over_has_steps image n m (running c) q end f s) e is

pub over_is_sound : (image : Image) (n : ℕ) (p : Phase) (end : End) → after_steps image n p ≡ Some (over end) → IsSoundRun image p
over_is_sound image n p end e = record { at = λ m q is. over_has_steps image n m p q end e is }

-- two ends after one more step, by what the next step is
ends_on : (image : Image) (n m : ℕ) (x y : End) (r : Option Next)
    → ((c : Configuration) → after_steps image n (running c) ≡ Some (over x) → after_steps image m (running c) ≡ Some (over y) → x ≡ y)
    → after_step r (after_steps image n) ≡ Some (over x) → after_step r (after_steps image m) ≡ Some (over y) → x ≡ y
ends_on image n m x y None more e f = absurd cc
ends_on image n m x y (Some (goes c)) more e f = more c e f
ends_on image n m x y (Some (stops z)) more e f = sym (same_over z x e) ∙ same_over z y f

-- a run has one end
one_end : (image : Image) (n m : ℕ) (p : Phase) (x y : End) → after_steps image n p ≡ Some (over x) → after_steps image m p ≡ Some (over y) → x ≡ y
one_end image zero m p x y e f = absurd cc
one_end image (suc n) zero p x y e f = absurd cc
one_end image (suc n) (suc m) p x y e f = ends_on image n m x y (next_step image p) (λ c g h. one_end image n m (running c) x y g h) e f

-- what a run comes to that is over after some steps
pub outcome_is : (image : Image) (n : ℕ) (p : Phase) (end : End) → LeadsAheadOrToUnit image → after_steps image n p ≡ Some (over end)
    → outcome image p ≡ outcome_of end
outcome_is image n p end ahead e =
    let last = run_ends image p ahead (over_is_sound image n p end e) in
    ap outcome_at last.by ∙ ap outcome_of (one_end image (steps_left image p) n p last.end end last.by e)
