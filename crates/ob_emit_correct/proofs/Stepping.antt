-- Steps of the machine: one alone, and some after others.
use Rattle.std.proofs.Common.{◌≡◌, ℕ, zero, suc, ◌+◌, Option, Some, None, refl, sym, ap, ◌∙◌, subst, zero-add, suc-add}
use Rattle.std.specs.Prelude.{⊤}
use Rattle.ob_base.specs.Optional.{◌>>=◌}
use Rattle.ob_heap_spec.specs.Worlds.{World, AbortCause, spent, SameWorld, SameSpent}
use Rattle.ob_silica_steps.specs.Configurations.{SilicaProgram, NextStep, goes, ended, aborted, stuck, abort_step}
use Rattle.ob_silica_steps.specs.Here.{if_there}
use Rattle.ob_code.specs.declared.image.Image.{Image}
use Rattle.ob_code.specs.declared.instruction.Instruction.{Instruction}
use Rattle.ob_machine_steps.specs.Configurations as machine
use Rattle.ob_machine_steps.specs.Configurations.{Configuration, Next}
use Rattle.ob_machine_steps.specs.Entries.{Phase, running, next_step}
use Rattle.ob_machine_steps.specs.Runs.{Stop, paused, over, after_step, after_steps}
use Rattle.ob_machine_steps.specs.Steps.{act, next_instruction, step_of}
use Rattle.ob_emit_correct.specs.Law.{code_of}
use Rattle.ob_emit_correct.proofs.Matching.{Does}

-- Whole steps.

-- a run is paused
abbrev IsPaused : Option Stop → Type 0
IsPaused None = ⊥
IsPaused (Some (paused p)) = ⊤
IsPaused (Some (over end)) = ⊥

-- where a run is paused, or else another phase
abbrev paused_at : Phase → Option Stop → Phase
paused_at q None = q
paused_at q (Some (paused p)) = p
paused_at q (Some (over end)) = q

-- what follows a step that pauses at last
step_then : (o : Option Next) (f g : Phase → Option Stop) (q : Phase) (s : Option Stop) → after_step o f ≡ Some (paused q)
    → ((r : Phase) → f r ≡ Some (paused q) → g r ≡ s) → after_step o g ≡ s
step_then None f g q s e go = absurd (subst IsPaused (sym e) tt)
step_then (Some (machine.goes c)) f g q s e go = go (running c) e
step_then (Some (machine.stops end)) f g q s e go = absurd (subst IsPaused (sym e) tt)

-- some steps, and then others
pub after_more : (image : Image) (i j : ℕ) (p q : Phase) (s : Option Stop) → after_steps image i p ≡ Some (paused q)
    → after_steps image j q ≡ s
    → after_steps image (i + j) p ≡ s
after_more image zero j p q s e f =
    ap (λ n. after_steps image n p) (zero-add j) ∙ ap (after_steps image j) (ap (paused_at p) e) ∙ f
after_more image (suc i) j p q s e f =
    ap (λ n. after_steps image n p) (suc-add i j)
    ∙ step_then (next_step image p) (after_steps image i) (after_steps image (i + j)) q s e
    (λ r h. after_more image i j r q s h f)

-- the step of the instruction that is next
pub one_step : (image : Image) (m : Configuration) (i : Instruction) (next : Option Next) → next_instruction image m ≡ Some i
    → act image i m ≡ next
    → step_of image m ≡ next
one_step image m i next e a = ap (λ o. o >>= λ j. act image j m) e ∙ a

-- What the code comes to.

-- in some steps the machine comes from one configuration to another
pub record Reaches (program : SilicaProgram) (m n : Configuration) : Type 0 where
  pub steps : ℕ
  pub by : after_steps (code_of program) steps (running m) ≡ Some (paused (running n))

pub reaches_here : (program : SilicaProgram) (m : Configuration) → Reaches program m m
reaches_here program m = record { steps = 0; by = refl }

pub reaches_then : {program : SilicaProgram} {l m n : Configuration} → Reaches program l m → Reaches program m n
    → Reaches program l n
reaches_then {program} {l} {m} {n} a b = record {
  steps = a.steps + b.steps;
  by = after_more (code_of program) a.steps b.steps (running l) (running m) _ a.by b.by;
}

-- one instruction
pub reaches_by : (program : SilicaProgram) (m n : Configuration) (i : Instruction) → next_instruction (code_of program) m ≡ Some i
    → act (code_of program) i m ≡ Some (machine.goes n) → Reaches program m n
reaches_by program m n i e a = record {
  steps = 1;
  by = ap (λ o. after_step o (after_steps (code_of program) 0)) (one_step (code_of program) m i (Some (machine.goes n)) e a);
}

pub does_after : (program : SilicaProgram) (m m1 : Configuration) (n : ℕ) (next : NextStep)
    → after_steps (code_of program) n (running m) ≡ Some (paused (running m1))
    → Does program m1 next → Does program m next
does_after program m m1 n (goes d) e a = record {
  by = (n + a.by.0, a.by.1, after_more (code_of program) n a.by.0 (running m) (running m1) _ e a.by.2, a.by.3);
}
does_after program m m1 n (ended result w) e a = record {
  by = (n + a.by.0, a.by.1, after_more (code_of program) n a.by.0 (running m) (running m1) _ e a.by.2, a.by.3);
}
does_after program m m1 n (aborted cause s) e a = record {
  by = (n + a.by.0, a.by.1, after_more (code_of program) n a.by.0 (running m) (running m1) _ e a.by.2, a.by.3);
}
does_after program m m1 n stuck e a = record { by = tt }

-- what is done from a configuration that is reached is done
pub does_reached : {program : SilicaProgram} {m n : Configuration} {next : NextStep} → Reaches program m n → Does program n next
    → Does program m next
does_reached {program} {m} {n} {next} r d = does_after program m n r.steps next r.by d

pub same_spent : {w v : World} → SameWorld w v → SameSpent (spent w) (spent v)
same_spent s = record { taken = s.taken; reads = s.reads }

-- an instruction aborts
pub does_abort : (program : SilicaProgram) (m : Configuration) (i : Instruction) (cause : AbortCause) (w v : World)
    → next_instruction (code_of program) m ≡ Some i
    → act (code_of program) i m ≡ Some (machine.abort cause v) → SameWorld w v → Does program m (abort_step cause w)
does_abort program m i cause w v e a s = record {
  by = (
    1,
    spent v,
    ap (λ o. after_step o (after_steps (code_of program) 0))
        (one_step (code_of program) m i (Some (machine.abort cause v)) e a),
    same_spent s,
  );
}

-- where there is no step nothing is to be done
pub does_there : (program : SilicaProgram) (m : Configuration) {A : Type 0} (o : Option A) (go : A → NextStep)
    → ((a : A) → o ≡ Some a → Does program m (go a))
    → Does program m (if_there o go)
does_there program m None go h = record { by = tt }
does_there program m (Some a) go h = h a refl
