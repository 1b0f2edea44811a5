-- How numbers of steps add up.
use Rattle.std.proofs.Common.{◌≡◌, ℕ, zero, suc, ◌+◌, refl, ap, ◌∙◌, arith}
use Rattle.ob_silica_steps.specs.Configurations.{SilicaProgram, Configuration, NextStep, goes, ended, aborted, stuck}
use Rattle.ob_silica_steps.specs.Steps.{step, then_steps, steps}
use Rattle.ob_silica_laws.specs.Laws.{IsOver}

then_all : (program : SilicaProgram) (n m : ℕ) (next : NextStep) → ((c : Configuration) → steps program (n + m) c ≡ then_steps (steps program n c) (steps program m)) → then_steps next (steps program (n + m)) ≡ then_steps (then_steps next (steps program n)) (steps program m)
then_all program n m (goes c) each = each c
then_all program n m (ended result w) each = refl
then_all program n m (aborted cause s) each = refl
then_all program n m stuck each = refl

no_more : (m : ℕ) → 0 + m ≡ m
no_more m = omega arith

one_more : (n m : ℕ) → suc n + m ≡ suc (n + m)
one_more n m = omega arith

pub steps_add : (program : SilicaProgram) (n m : ℕ) (c : Configuration) → steps program (n + m) c ≡ then_steps (steps program n c) (steps program m)
steps_add program zero m c = ap (λ k. steps program k c) (no_more m)
steps_add program (suc n) m c = ap (λ k. steps program k c) (one_more n m) ∙ then_all program n m (step program c) (steps_add program n m)

then_none : (next : NextStep) (go : Configuration → NextStep) → IsOver next → then_steps next go ≡ next
then_none (goes c) go over = absurd over
then_none (ended result w) go over = refl
then_none (aborted cause s) go over = refl
then_none stuck go over = refl

pub steps_over : (program : SilicaProgram) (n m : ℕ) (c : Configuration) → IsOver (steps program n c) → steps program (n + m) c ≡ steps program n c
steps_over program n m c over = steps_add program n m c ∙ then_none (steps program n c) (steps program m) over
