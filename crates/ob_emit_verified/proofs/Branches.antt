-- The code of branches is certified, from that of each branch.
use Rattle.std.proofs.Common.{◌≡◌, ℕ, ◌+◌, List, [], ◌∷◌, ◌++◌, length, Option, Some, None, Bool, true, false, ◌&&◌, refl, sym, ap, ◌∙◌, subst, arith, if◌then◌else◌}
use Rattle.std.proofs.lemmas.Bool.{true≢false, eqb-true, eq-eqb}
use Rattle.std.proofs.lemmas.List.{append_assoc, append-nil}
use Rattle.ob_base.specs.declared.id.ContractId.{ContractId}
use Rattle.ob_table.specs.declared.seen.Kind.{Kind}
use Rattle.ob_table.specs.declared.seen.Kind.TheVariants as kind
use Rattle.ob_silica_formed.specs.Holdings.{Holdings, kinds_equal, common_kind, either_way, joined}
use Rattle.ob_code.specs.declared.instruction.Instruction.{Instruction}
use Rattle.ob_code.specs.declared.instruction.Instruction.TheVariants as is
use Rattle.ob_verify_spec.specs.Frames.{CodeFrame}
use Rattle.ob_verify_spec.specs.Instructions.{KindsOfSlots}
use Rattle.ob_verify_spec.proofs.Cells.{none_some}
use Rattle.ob_emit_spec.specs.Emission.{EmissionFrame, after_branch, choice_code}
use Rattle.ob_verify_spec.proofs.Fitting.{fits_self}
use Rattle.ob_emit_verified.proofs.Flows.{Fit, fit_self, fit_each, IsSound, IsCertified, certified_none, certified_one, certified_both}
use Rattle.ob_emit_verified.proofs.Choices.{IsChoice, certified_choice, certified_jump}
use Rattle.ob_emit_verified.proofs.Operands.{known_of, knows_itself, known_fits, none_needed, IsCodeOf}

-- What is known after two ways.

kinds_same : (a b : Kind) → kinds_equal a b ≡ true → a ≡ b
kinds_same kind.Int kind.Int e = refl
kinds_same kind.Bool kind.Bool e = refl
kinds_same kind.Text kind.Text e = refl
kinds_same (kind.Reference c) (kind.Reference d) e = ap (λ n. let made : ContractId = record { 0 = n } in kind.Reference made) (eqb-true c.0 d.0 e)
kinds_same a b e = absurd (true≢false (sym e))

kinds_self : (a : Kind) → kinds_equal a a ≡ true
kinds_self kind.Int = refl
kinds_self kind.Bool = refl
kinds_self kind.Text = refl
kinds_self (kind.Reference c) = eq-eqb c.0 c.0 refl

common_of : (same : Bool) (a b x : Kind) → kinds_equal a b ≡ same → (if same then Some a else None) ≡ Some x
    → (◌≡◌ {A = Option Kind} (Some a) (Some x)) × (◌≡◌ {A = Option Kind} (Some b) (Some x))
common_of true a b x e g = (g, ap Some (sym (kinds_same a b e)) ∙ g)
common_of false a b x e g = absurd (none_some g)

common_parts : (p q : Option Kind) (x : Kind) → common_kind p q ≡ Some x → (p ≡ Some x) × (q ≡ Some x)
common_parts None q x e = absurd (none_some e)
common_parts (Some a) None x e = absurd (none_some e)
common_parts (Some a) (Some b) x e = common_of (kinds_equal a b) a b x refl e

-- what is known on both ways is known
pub common_self : (p q : Option Kind) (x : Kind) → p ≡ Some x → q ≡ Some x → common_kind p q ≡ Some x
common_self p q x e g = ap (λ z. common_kind z q) e ∙ ap (common_kind (Some x)) g ∙ rw (kinds_self x) refl

abbrev either : Holdings → Holdings → Holdings
either a b = λ k. either_way (a k) (b k)

pub fits_first : (c : CodeFrame) (scratch : ℕ) (a b : Holdings) → Fit c.image (known_of scratch (either a b)) (known_of scratch a)
fits_first c scratch a b = known_fits c scratch (either a b) (known_of scratch a)
    (λ k x lt e. (x, knows_itself scratch a k lt ∙ (common_parts (a k).kind (b k).kind x e).0, fits_self c.image x))

fits_second : (c : CodeFrame) (scratch : ℕ) (a b : Holdings) → Fit c.image (known_of scratch (either a b)) (known_of scratch b)
fits_second c scratch a b = known_fits c scratch (either a b) (known_of scratch b)
    (λ k x lt e. (x, knows_itself scratch b k lt ∙ (common_parts (a k).kind (b k).kind x e).1, fits_self c.image x))

-- The end of a test.

-- a branch of a test ends the test, where its end is reached
pub certified_tested : (c : CodeFrame) (at : ℕ) (code : List Instruction) (before after : KindsOfSlots) (ended : Bool)
    → IsCertified c at code before ended after
    → IsCertified c at (code ++ (if ended then [] else is.EndTest ∷ [])) before ended after
certified_tested c at code before after true h = subst (λ z. IsCertified c at z before true after) (sym (append-nil code)) h
certified_tested c at code before after false h =
    certified_both c at code (is.EndTest ∷ []) before after after false h
    (certified_one c (at + length code) is.EndTest after (refl, λ i. refl) (record { slots = refl; fields = refl; calls = refl; met = none_needed c after }))

-- Choices.

-- an instruction that chooses between the next place and one that it names
pub record Chooses (c : CodeFrame) (x : ℕ → Instruction) (known : KindsOfSlots) : Type 0 where
  pub choice : (to : ℕ) → IsChoice c (x to) to
  pub sound : (to : ℕ) → IsSound c known (x to)

-- Where a branch has no jump behind it, its end isn't reached, or the other one has no code and leaves what was before.
pub record IsEmpty (h b : Holdings) (other : ℕ → List Instruction) (ended : Bool) : Type 0 where
  pub none : (at : ℕ) → other at ≡ []
  pub reached : ended ≡ false
  pub same : b ≡ h

-- code without a jump, grouped as a choice's
as_plain : (c : CodeFrame) (at : ℕ) (x : ℕ → Instruction) (branch : List Instruction) (other : ℕ → List Instruction)
    (before after : KindsOfSlots) (ended : Bool)
    → IsCertified c at (x (at + 1 + length branch) ∷ branch ++ other (at + 1 + length branch)) before ended after
    → IsCertified c at (choice_code at x false branch (other (after_branch (at + 1) branch false))) before ended after
as_plain c at x branch other before after ended h =
    let e : at + 1 + length branch ≡ at + 1 + length branch + 0 = omega arith in
    subst (λ z. IsCertified c at (x z ∷ branch ++ [] ++ other z) before ended after) e
    (subst (λ z. IsCertified c at (x (at + 1 + length branch) ∷ z ++ other (at + 1 + length branch)) before ended after) (sym (append-nil branch)) h)

-- code with a jump
as_jump : (c : CodeFrame) (at : ℕ) (x : ℕ → Instruction) (branch other : List Instruction) (before after : KindsOfSlots)
    (ended : Bool)
    → IsCertified c at (x (at + 1 + length branch + 1) ∷ branch ++ is.Jump (at + 1 + length branch + 1 + length other) ∷ other) before ended after
    → IsCertified c at (choice_code at x true branch other) before ended after
as_jump c at x branch other before after ended h =
    subst (λ z. IsCertified c at (x (at + 1 + length branch + 1) ∷ z) before ended after)
    (sym (append_assoc branch (is.Jump (at + 1 + length branch + 1 + length other) ∷ []) other)) h

jumped : (c : CodeFrame) (f : EmissionFrame) → IsCodeOf c f
    → (h a b : Holdings) (at : ℕ) (x : ℕ → Instruction) (branch : List Instruction) (other : ℕ → List Instruction)
    (known : KindsOfSlots) (ended : Bool) → Chooses c x known → Fit c.image (known_of f.scratch h) known
    → IsCertified c (at + 1) branch (known_of f.scratch h) false (known_of f.scratch a)
    → ((to : ℕ) → IsCertified c to (other to) (known_of f.scratch h) ended (known_of f.scratch b))
    → IsCertified c at (choice_code at x true branch (other (after_branch (at + 1) branch true))) known false (known_of f.scratch (joined false ended a b))
jumped c f of h a b at x branch other known true chooses fit first second =
    let to = at + 1 + length branch + 1 in
    as_jump c at x branch (other to) known (known_of f.scratch a) false
    (certified_jump c of.says.alone at (x to) branch (other to) known (known_of f.scratch h) (known_of f.scratch a) (known_of f.scratch h) (known_of f.scratch b) (known_of f.scratch a) true
    (chooses.choice to) (chooses.sound to) fit fit (fit_self c.image (known_of f.scratch a)) (λ e. absurd (true≢false e)) first (second to))
jumped c f of h a b at x branch other known false chooses fit first second =
    let to = at + 1 + length branch + 1 in
    let after = known_of f.scratch (either a b) in
    as_jump c at x branch (other to) known after false
    (certified_jump c of.says.alone at (x to) branch (other to) known (known_of f.scratch h) (known_of f.scratch a) (known_of f.scratch h) (known_of f.scratch b) after false
    (chooses.choice to) (chooses.sound to) fit fit (fits_first c f.scratch a b) (λ e. fits_second c f.scratch a b) first (second to))

ended_first : (c : CodeFrame) (f : EmissionFrame) → IsCodeOf c f
    → (h a b : Holdings) (at : ℕ) (x : ℕ → Instruction) (branch : List Instruction) (other : ℕ → List Instruction)
    (known : KindsOfSlots) (ended : Bool) → Chooses c x known → Fit c.image (known_of f.scratch h) known
    → IsCertified c (at + 1) branch (known_of f.scratch h) true (known_of f.scratch a)
    → ((to : ℕ) → IsCertified c to (other to) (known_of f.scratch h) ended (known_of f.scratch b))
    → IsCertified c at (choice_code at x false branch (other (after_branch (at + 1) branch false))) known ended (known_of f.scratch b)
ended_first c f of h a b at x branch other known ended chooses fit first second =
    let to = at + 1 + length branch in
    as_plain c at x branch other known (known_of f.scratch b) ended
    (certified_choice c of.says.alone at (x to) branch (other to) known (known_of f.scratch h) (known_of f.scratch a) (known_of f.scratch h) (known_of f.scratch b) true ended
    (chooses.choice to) (chooses.sound to) fit fit (λ e. absurd (true≢false e)) first (second to))

one_branch : (c : CodeFrame) (f : EmissionFrame) → IsCodeOf c f
    → (h a : Holdings) (at : ℕ) (x : ℕ → Instruction) (branch : List Instruction) (other : ℕ → List Instruction)
    (known : KindsOfSlots) → ((to : ℕ) → other to ≡ []) → Chooses c x known → Fit c.image (known_of f.scratch h) known
    → IsCertified c (at + 1) branch (known_of f.scratch h) false (known_of f.scratch a)
    → IsCertified c at (choice_code at x false branch (other (after_branch (at + 1) branch false))) known false (known_of f.scratch (either a h))
one_branch c f of h a at x branch other known none chooses fit first =
    let to = at + 1 + length branch in
    let after = known_of f.scratch (either a h) in
    as_plain c at x branch other known after false
    (certified_choice c of.says.alone at (x to) branch (other to) known (known_of f.scratch h) (known_of f.scratch a) after after false false
    (chooses.choice to) (chooses.sound to) fit (fit_each c.image of.says.alone after (known_of f.scratch h) known (fits_second c f.scratch a h) fit) (λ e. fits_first c f.scratch a h) first
    (subst (λ z. IsCertified c to z after false after) (sym (none to)) (certified_none c of.says.alone to after after (fit_self c.image after))))

pub certified_branches : (c : CodeFrame) (f : EmissionFrame) → IsCodeOf c f
    → (h a b : Holdings) (at : ℕ) (x : ℕ → Instruction) (branch : List Instruction) (other : ℕ → List Instruction)
    (known : KindsOfSlots) (jumps first_ended second_ended : Bool) → (jumps ≡ true → first_ended ≡ false) → (jumps ≡ false → first_ended ≡ false → IsEmpty h b other second_ended)
    → Chooses c x known → Fit c.image (known_of f.scratch h) known
    → IsCertified c (at + 1) branch (known_of f.scratch h) first_ended (known_of f.scratch a)
    → ((to : ℕ) → IsCertified c to (other to) (known_of f.scratch h) second_ended (known_of f.scratch b))
    → IsCertified c at (choice_code at x jumps branch (other (after_branch (at + 1) branch jumps))) known (first_ended && second_ended) (known_of f.scratch (joined first_ended second_ended a b))
certified_branches c f of h a b at x branch other known true true ended over empty chooses fit first second = absurd (true≢false (over refl))
certified_branches c f of h a b at x branch other known true false ended over empty chooses fit first second = jumped c f of h a b at x branch other known ended chooses fit first second
certified_branches c f of h a b at x branch other known false true ended over empty chooses fit first second = ended_first c f of h a b at x branch other known ended chooses fit first second
certified_branches c f of h a b at x branch other known false false true over empty chooses fit first second = absurd (true≢false (empty refl refl).reached)
certified_branches c f of h a b at x branch other known false false false over empty chooses fit first second =
    let none = empty refl refl in
    subst (λ z. IsCertified c at (choice_code at x false branch (other (after_branch (at + 1) branch false))) known false (known_of f.scratch (either a z))) (sym none.same)
    (one_branch c f of h a at x branch other known none.none chooses fit first)
