-- At a site of a program without faults no condition holds.
use Rattle.std.proofs.Common.{◌≡◌, ℕ, Bool, true, false, List, [], ◌∷◌, refl}
use Rattle.std.specs.Prelude.{◌++◌, if◌then◌else◌}
use Rattle.std.specs.List.{flat_map}
use Rattle.ob_base.specs.declared.fault.ProgramFault.{ProgramFault}
use Rattle.ob_resolve_spec.specs.Declarations.{Program}
use Rattle.ob_resolve_spec.specs.Sites.{Site}
use Rattle.ob_resolve_spec.specs.MemberSites.{sites_of}
use Rattle.ob_resolve_spec.specs.Faults.{conditions, fault_at, faults_at, HasNoFault, is_unknown_name, is_duplicate, is_wrong_kind, is_no_state, is_not_field, is_type_mismatch, is_arg_count, is_bad_exit, is_non_asset_owner, is_interface_mismatch, is_past_limit, is_missing_return, is_unreachable, is_second_main, is_assigned_parameter}
use Rattle.ob_resolve_laws.proofs.Each.{Each, each_weaker}
use Rattle.ob_base.specs.Faults as faults

pub record Clean (s : Site) : Type 0 where
  pub unknown_name : is_unknown_name s ≡ false
  pub duplicate : is_duplicate s ≡ false
  pub wrong_kind : is_wrong_kind s ≡ false
  pub no_state : is_no_state s ≡ false
  pub not_field : is_not_field s ≡ false
  pub type_mismatch : is_type_mismatch s ≡ false
  pub arg_count : is_arg_count s ≡ false
  pub bad_exit : is_bad_exit s ≡ false
  pub non_asset_owner : is_non_asset_owner s ≡ false
  pub interface_mismatch : is_interface_mismatch s ≡ false
  pub past_limit : is_past_limit s ≡ false
  pub missing_return : is_missing_return s ≡ false
  pub unreachable : is_unreachable s ≡ false
  pub second_main : is_second_main s ≡ false
  pub assigned_parameter : is_assigned_parameter s ≡ false

-- where no list of a row has an element
none_left : {A : Type 0} (xs ys : List A) → xs ++ ys ≡ [] → xs ≡ []
none_left [] ys h = refl
none_left (x ∷ xs) ys h = absurd cc

none_right : {A : Type 0} (xs ys : List A) → xs ++ ys ≡ [] → ys ≡ []
none_right [] ys h = h
none_right (x ∷ xs) ys h = absurd cc

none_at : {A B : Type 0} (f : A → List B) (xs : List A) → flat_map f xs ≡ [] → Each (λ x. f x ≡ []) xs
none_at f [] h = tt
none_at f (x ∷ xs) h = (none_left (f x) (flat_map f xs) h, none_at f xs (none_right (f x) (flat_map f xs) h))

refuted : (b : Bool) (f : ProgramFault) → (if b then f ∷ [] else []) ≡ [] → b ≡ false
refuted true f h = absurd cc
refuted false f h = refl

clean_at : (s : Site) → faults_at s ≡ [] → Clean s
clean_at s h =
    let none = none_at (λ (c : ℕ × (Site → Bool)). if c.1 s then fault_at c.0 s ∷ [] else []) conditions h in
    record {
      unknown_name = refuted (is_unknown_name s) (fault_at faults.unknown_name s) none.0;
      duplicate = refuted (is_duplicate s) (fault_at faults.duplicate s) none.1.0;
      wrong_kind = refuted (is_wrong_kind s) (fault_at faults.wrong_kind s) none.1.1.0;
      no_state = refuted (is_no_state s) (fault_at faults.no_state s) none.1.1.1.0;
      not_field = refuted (is_not_field s) (fault_at faults.not_field s) none.1.1.1.1.0;
      type_mismatch = refuted (is_type_mismatch s) (fault_at faults.type_mismatch s) none.1.1.1.1.1.0;
      arg_count = refuted (is_arg_count s) (fault_at faults.arg_count s) none.1.1.1.1.1.1.0;
      bad_exit = refuted (is_bad_exit s) (fault_at faults.bad_exit s) none.1.1.1.1.1.1.1.0;
      non_asset_owner = refuted (is_non_asset_owner s) (fault_at faults.non_asset_owner s) none.1.1.1.1.1.1.1.1.0;
      interface_mismatch = refuted (is_interface_mismatch s) (fault_at faults.interface_mismatch s) none.1.1.1.1.1.1.1.1.1.0;
      past_limit = refuted (is_past_limit s) (fault_at faults.limit s) none.1.1.1.1.1.1.1.1.1.1.0;
      missing_return = refuted (is_missing_return s) (fault_at faults.missing_return s) none.1.1.1.1.1.1.1.1.1.1.1.0;
      unreachable = refuted (is_unreachable s) (fault_at faults.unreachable s) none.1.1.1.1.1.1.1.1.1.1.1.1.0;
      second_main = refuted (is_second_main s) (fault_at faults.two_mains s) none.1.1.1.1.1.1.1.1.1.1.1.1.1.0;
      assigned_parameter = refuted (is_assigned_parameter s) (fault_at faults.assign_parameter s) none.1.1.1.1.1.1.1.1.1.1.1.1.1.1.0;
    }

pub clean_sites : (program : Program) → HasNoFault program → Each Clean (sites_of program)
clean_sites program none =
    each_weaker (λ s. faults_at s ≡ []) Clean clean_at (sites_of program) (none_at faults_at (sites_of program) none)
