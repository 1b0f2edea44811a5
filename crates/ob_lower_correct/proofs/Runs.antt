-- How the steps come from one configuration to what follows.
use Rattle.std.proofs.Common.{◌≡◌, ℕ, suc, ◌≤◌, refl, ap, ◌∙◌, arith}
use Rattle.ob_silica.specs.Terms.{SilicaTerms, no_terms, and_term, then_terms}
use Rattle.ob_heap_spec.specs.Worlds.{World, RunOutcome, gives, aborts, wrong, ◌>>=◌}
use Rattle.ob_silica_steps.specs.Configurations.{SilicaProgram, Configuration, NextStep, goes, aborted, stuck}
use Rattle.ob_silica_steps.specs.Steps.{step, then_steps, steps}

-- after some steps the run goes on as from there, or has ended so
pub record Leads (program : SilicaProgram) (c : Configuration) (next : NextStep) : Type 0 where
  pub by : (k : ℕ) → (j : ℕ) × (k ≤ j) × (steps program j c ≡ then_steps next (steps program k))

-- where a part of a run gives something, this holds of it, of the world after it and of the configuration from which
-- the steps do that part; where it aborts, the steps do, and where it goes wrong, they are stuck
abbrev pub EndsAs : SilicaProgram → {A : Type 0} → (A → World → Configuration → Type 0) → Configuration → RunOutcome A → Type 0
EndsAs program R c (gives v w) = R v w c
EndsAs program R c (aborts cause s) = Leads program c (aborted cause s)
EndsAs program R c wrong = Leads program c stuck

pub record Ends (program : SilicaProgram) {A : Type 0} (R : A → World → Configuration → Type 0) (c : Configuration) (o : RunOutcome A) : Type 0 where
  pub by : EndsAs program R c o

module _ (program : SilicaProgram) where
  pub stays : (c : Configuration) → Leads program c (goes c)
  stays c = record { by = λ k. (k, omega arith, refl) }

  pub leads_on : {c d : Configuration} {n : NextStep} → Leads program c (goes d) → Leads program d n → Leads program c n
  leads_on a b = record { by = λ k. let y = b.by k in let x = a.by y.0 in (x.0, omega (arith, x.1, y.1), x.2 ∙ y.2) }

  pub one_step : {c : Configuration} {n : NextStep} → step program c ≡ n → Leads program c n
  one_step e = record { by = λ k. (suc k, omega arith, ap (λ n. then_steps n (steps program k)) e) }

  -- what holds where steps lead holds before them
  abbrev pub Closed : {A : Type 0} → (A → World → Configuration → Type 0) → Type 0
  Closed {A} R = (v : A) (w : World) (c d : Configuration) → Leads program c (goes d) → R v w d → R v w c

  pub ends_later : {A : Type 0} {R : A → World → Configuration → Type 0} {c d : Configuration} (o : RunOutcome A)
      → Closed R → Leads program c (goes d) → Ends program R d o → Ends program R c o
  ends_later {c = c} {d = d} (gives v w) closed l e = record { by = closed v w c d l e.by }
  ends_later (aborts cause s) closed l e = record { by = leads_on l e.by }
  ends_later wrong closed l e = record { by = leads_on l e.by }

  pub ends_map : {A : Type 0} {R S : A → World → Configuration → Type 0} {c : Configuration} (o : RunOutcome A)
      → ((v : A) (w : World) → R v w c → S v w c) → Ends program R c o → Ends program S c o
  ends_map (gives v w) f e = record { by = f v w e.by }
  ends_map (aborts cause s) f e = record { by = e.by }
  ends_map wrong f e = record { by = e.by }

  pub ends_then : {A B : Type 0} {R : A → World → Configuration → Type 0} {S : B → World → Configuration → Type 0}
      {c : Configuration} (o : RunOutcome A) (go : A → World → RunOutcome B)
      → Ends program R c o → ((v : A) (w : World) → R v w c → Ends program S c (go v w)) → Ends program S c (o >>= go)
  ends_then (gives v w) go e next = next v w e.by
  ends_then (aborts cause s) go e next = record { by = e.by }
  ends_then wrong go e next = record { by = e.by }

pub join : (a b c : SilicaTerms) → then_terms (then_terms a b) c ≡ then_terms a (then_terms b c)
join no_terms b c = refl
join (and_term form span a) b c = ap (and_term form span) (join a b c)

pub none_after : (ts : SilicaTerms) → then_terms ts no_terms ≡ ts
none_after no_terms = refl
none_after (and_term form span ts) = ap (and_term form span) (none_after ts)
