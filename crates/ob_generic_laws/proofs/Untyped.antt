-- A program without type parameters and type arguments has no fault of these.
use Rattle.std.proofs.Common.{◌≡◌, Bool, true, false, ◌&&◌, ◌||◌, List, [], ◌∷◌, ◌++◌, Some, None, cond, is_some, find, refl, sym, ap, ◌∙◌, subst}
use Rattle.std.specs.List.{flat_map, list_any}
use Rattle.std.specs.Option.{option_map_or}
use Rattle.ob_tree.specs.Names.{bare_name, name_with}
use Rattle.ob_tree.specs.Members.{Contract}
use Rattle.ob_table_spec.specs.Names.{Name, same, in_order, in_order_after}
use Rattle.ob_resolve_spec.specs.Declarations.{Program}
use Rattle.ob_resolve_spec.specs.Generics.{HasNoGenerics}
use Rattle.ob_generic_spec.specs.Heads.{head_of, heads_of, head_named}
use Rattle.ob_generic_spec.specs.Uses.{Use, used, uses_in_contract}
use Rattle.ob_generic_spec.specs.Instances.{visits_at, around_plain, visits, instances_of}
use Rattle.ob_generic_spec.specs.TypeSites.{TypeSite, declares_contract, names_type, bound_sites, head_sites, visits_sites, type_sites_of}
use Rattle.ob_generic_spec.specs.TypeFaults.{is_nothing, is_second_generic, type_faults_at, HasNoTypeFault}
use Rattle.ob_generic_spec.specs.declared.instance.Instance.{Instance}
use Rattle.ob_resolve_laws.proofs.Each.{Each, each_both}
use Rattle.ob_generic_laws.proofs.Lists.{none_of_all}
use Rattle.ob_generic_laws.proofs.Clean.{no_fault_at}
use Rattle.ob_generic_laws.proofs.Bare.{IsBare}
use Rattle.ob_generic_laws.proofs.MetTypes.{AreBareUses, bare_visits}
use Rattle.ob_generic_laws.proofs.Same.{bare_contracts, visits_are, no_instances}

abbrev HasNoFaultAt : TypeSite → Type 0
HasNoFaultAt s = type_faults_at s ≡ []

and_false : (b : Bool) → (b && false) ≡ false
and_false true = refl
and_false false = refl

-- The heads.

none_second : (c : Contract) → c.param ≡ None → (before : List Contract) → Each IsBare before
    → list_any (is_second_generic c) before ≡ false
none_second c e [] h = refl
none_second c e (d ∷ ds) h =
    ap (λ p. same c.name d.name && (is_some p || is_some d.param) || list_any (is_second_generic c) ds) e
    ∙ ap (λ p. same c.name d.name && is_some p || list_any (is_second_generic c) ds) h.0.no_parameter
    ∙ ap (λ b. b || list_any (is_second_generic c) ds) (and_false (same c.name d.name))
    ∙ none_second c e ds h.1

head_right : (before : List Contract) (c : Contract) → Each IsBare before → IsBare c → Each HasNoFaultAt (head_sites before c)
head_right before c h k = (
  no_fault_at (declares_contract before c) refl (none_second c k.no_parameter before h) refl refl refl
      (ap (λ p. c.main && is_some p) k.no_parameter ∙ and_false c.main),
  subst (λ p. Each HasNoFaultAt (option_map_or bound_sites p [])) (sym k.no_parameter) tt,
)

heads_right : (before program : List Contract) → Each IsBare before → Each IsBare program
    → Each HasNoFaultAt (in_order_after head_sites before program)
heads_right before [] h k = tt
heads_right before (c ∷ cs) h k =
    each_both HasNoFaultAt (head_sites before c) (in_order_after head_sites (before ++ c ∷ []) cs)
    (head_right before c h k.0)
    (heads_right (before ++ c ∷ []) cs (each_both IsBare before (c ∷ []) h (k.0, tt)) k.1)

-- The types.

none_generic : (program : Program) → Each IsBare program → (name : Name)
    → option_map_or (λ h. is_some h.param) (head_named (heads_of program) name) false ≡ false
none_generic [] h name = refl
none_generic (c ∷ cs) h name = by (same name c.name) (none_generic cs h.1 name)
  where
    by : (b : Bool) → option_map_or (λ x. is_some x.param) (head_named (heads_of cs) name) false ≡ false
        → option_map_or (λ h. is_some h.param)
        (cond b (Some (head_of c)) (find (λ x. same name x.name) (heads_of cs))) false ≡ false
    by true rest = ap is_some h.0.no_parameter
    by false rest = rest

uses_right : (program : Program) → Each IsBare program → (known : List Instance) (us : List Use) → AreBareUses us
    → Each HasNoFaultAt (visits_sites known (visits_at (around_plain (heads_of program)) us))
uses_right program h known [] k = tt
uses_right program h known (used role (bare_name name span) ∷ us) k = (
  no_fault_at (names_type (around_plain (heads_of program)) known (used role (bare_name name span)))
      (ap (λ b. b && is_nothing (around_plain (heads_of program)) name) k.0) refl refl refl refl
      (ap (λ b. b && true) (none_generic program h name)),
  uses_right program h known us k.1,
)
uses_right program h known (used role (name_with name argument span) ∷ us) k = absurd k.0

types_right : (program : Program) → Each IsBare program
    → Each HasNoFaultAt (visits_sites [] (visits program (instances_of program)))
types_right program h =
    subst (λ vs. Each HasNoFaultAt (visits_sites [] vs))
    (sym (ap (visits program) (no_instances program h) ∙ visits_are program h))
    (uses_right program h [] (flat_map uses_in_contract program) (bare_visits program h))

pub no_type_fault : (program : Program) → HasNoGenerics program → HasNoTypeFault program
no_type_fault program h =
    let bare = bare_contracts program h in
    none_of_all type_faults_at (type_sites_of program)
    (each_both HasNoFaultAt (in_order head_sites program) (visits_sites [] (visits program (instances_of program)))
    (heads_right [] program tt bare) (types_right program bare))
