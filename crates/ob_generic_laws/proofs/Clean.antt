-- At a site of a program without faults of types no condition holds.
use Rattle.std.proofs.Common.{◌≡◌, ℕ, Bool, true, false, [], ◌∷◌, refl}
use Rattle.std.specs.Prelude.{if◌then◌else◌}
use Rattle.ob_base.specs.Faults as faults
use Rattle.ob_base.specs.declared.fault.ProgramFault.{ProgramFault}
use Rattle.ob_resolve_spec.specs.Declarations.{Program}
use Rattle.ob_generic_spec.specs.TypeSites.{TypeSite, type_sites_of}
use Rattle.ob_generic_spec.specs.TypeFaults.{is_unknown_type, is_duplicate_generic, is_no_argument_state, is_out_of_bound, is_too_many, is_param_count, type_conditions, type_fault_at, type_faults_at, HasNoTypeFault}
use Rattle.ob_resolve_laws.proofs.Each.{Each, each_weaker}
use Rattle.ob_generic_laws.proofs.Lists.{none_of_each}

pub record IsClean (s : TypeSite) : Type 0 where
  pub unknown_type : is_unknown_type s ≡ false
  pub duplicate_generic : is_duplicate_generic s ≡ false
  pub no_argument_state : is_no_argument_state s ≡ false
  pub out_of_bound : is_out_of_bound s ≡ false
  pub too_many : is_too_many s ≡ false
  pub param_count : is_param_count s ≡ false

refuted : (b : Bool) (f : ProgramFault) → (if b then f ∷ [] else []) ≡ [] → b ≡ false
refuted true f e = absurd (cc e)
refuted false f e = refl

clean_at : (s : TypeSite) → type_faults_at s ≡ [] → IsClean s
clean_at s e =
    let none = none_of_each (λ (c : ℕ × (TypeSite → Bool)). if c.1 s then type_fault_at c.0 s ∷ [] else []) type_conditions e in
    record {
      unknown_type = refuted (is_unknown_type s) (type_fault_at faults.unknown_name s) none.0;
      duplicate_generic = refuted (is_duplicate_generic s) (type_fault_at faults.duplicate s) none.1.0;
      no_argument_state = refuted (is_no_argument_state s) (type_fault_at faults.no_state s) none.1.1.0;
      out_of_bound = refuted (is_out_of_bound s) (type_fault_at faults.bound s) none.1.1.1.0;
      too_many = refuted (is_too_many s) (type_fault_at faults.too_many_instances s) none.1.1.1.1.0;
      param_count = refuted (is_param_count s) (type_fault_at faults.param_count s) none.1.1.1.1.1.0;
    }

pub clean_sites : (program : Program) → HasNoTypeFault program → Each IsClean (type_sites_of program)
clean_sites program none =
    each_weaker (λ s. type_faults_at s ≡ []) IsClean clean_at (type_sites_of program)
    (none_of_each type_faults_at (type_sites_of program) none)

-- no fault where no condition holds
pub no_fault_at : (s : TypeSite) → is_unknown_type s ≡ false → is_duplicate_generic s ≡ false
    → is_no_argument_state s ≡ false → is_out_of_bound s ≡ false → is_too_many s ≡ false → is_param_count s ≡ false
    → type_faults_at s ≡ []
no_fault_at s a b c d e f = rw (a, b, c, d, e, f) refl
