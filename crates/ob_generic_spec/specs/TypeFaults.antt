-- The faults of a program's type parameters and type arguments: one condition each, on its sites (Coblenz et al., TOPLAS
-- 42(3), 2020, on generics; the numbers, and which fault comes first, are this project's own).
use Rattle.std.specs.Prelude.{◌≡◌, ℕ, Bool, true, false, not, ◌&&◌, ◌||◌, nat_eq, List, [], ◌∷◌, length, Option, Some, None, is_some, flat_map, Contains, if◌then◌else◌}
use Rattle.std.specs.Option.{option_map_or}
use Rattle.std.specs.List.{list_any}
use Rattle.ob_base.specs.Faults as faults
use Rattle.ob_base.specs.Limits.{most_instances}
use Rattle.ob_base.specs.declared.fault.ProgramFault.{ProgramFault}
use Rattle.ob_tree.specs.Names.{bare_name, name_with}
use Rattle.ob_tree.specs.Members.{Contract}
use Rattle.ob_table_spec.specs.Names.{Name, same, is_among}
use Rattle.ob_resolve_spec.specs.Declarations.{Program}
use Rattle.ob_resolve_spec.specs.Faults.{Comes}
use Rattle.ob_resolve_spec.specs.Least.{least_from}
use Rattle.ob_generic_spec.specs.Heads.{head_named}
use Rattle.ob_generic_spec.specs.Substitution.{Own, is_param, argument_in}
use Rattle.ob_generic_spec.specs.Arguments.{Around, refuses, is_faulty_argument}
use Rattle.ob_generic_spec.specs.Uses.{used}
use Rattle.ob_generic_spec.specs.Instances.{instance_of, is_long, is_known}
use Rattle.ob_generic_spec.specs.TypeSites.{TypeSite, declares_contract, bounds_permission, names_type, passes_argument, names_argument_state, span_at_type, type_sites_of}
use Rattle.ob_generic_spec.specs.declared.instance.Argument.{Argument}
use Rattle.ob_generic_spec.specs.declared.instance.Instance.{Instance}
use Rattle.ob_generic_spec.specs.declared.role.Role.{Role}
use Rattle.ob_generic_spec.specs.declared.role.Role.TheVariants.{OfOwn, InArgument}

-- What a name denotes.

-- whether it denotes nothing: it is neither the type parameter nor a contract's or interface's
abbrev pub is_nothing : Around → Name → Bool
is_nothing a name = not (is_param a.own name) && not (is_some (head_named a.heads name))

-- whether it is a generic contract's or interface's, and not the type parameter
abbrev pub is_generic : Around → Name → Bool
is_generic a name =
    not (is_param a.own name) && option_map_or (λ h. is_some h.param) (head_named a.heads name) false

-- whether it is the type parameter, or of a contract or an interface that isn't generic
abbrev pub takes_nothing : Around → Name → Bool
takes_nothing a name =
    is_param a.own name || option_map_or (λ h. not (is_some h.param)) (head_named a.heads name) false

-- whether it is that of the generic contract around, and no parameter's
abbrev pub is_own_name : Own → Name → Bool
is_own_name o name = same o.name name && not (same o.param.name.name name)

-- whether it denotes the instance around: the contract's own name, as the type of `this` or as a constructor's name
abbrev pub is_own : Option Own → Role → Name → Bool
is_own (Some o) OfOwn name = is_own_name o name
is_own own role name = false

-- whether a type stands in an argument
abbrev pub is_in_argument : Role → Bool
is_in_argument InArgument = true
is_in_argument role = false

-- The conditions.

-- `unknown_name`: a name in an argument, or before one, that denotes nothing; a bound of another name than the permission
-- parameter's
abbrev pub is_unknown_type : TypeSite → Bool
is_unknown_type (bounds_permission p name) = not (same p.perm.name name.name)
is_unknown_type (names_type a known (used role (bare_name name span))) = is_in_argument role && is_nothing a name
is_unknown_type (names_type a known (used role (name_with name argument span))) = is_nothing a name
is_unknown_type site = false

-- whether two contracts or interfaces have one name, and one of them is generic
abbrev pub is_second_generic : Contract → Contract → Bool
is_second_generic c before = same c.name before.name && (is_some c.param || is_some before.param)

-- `duplicate`: a second contract or interface of one name, where it or one before it of that name is generic
abbrev pub is_duplicate_generic : TypeSite → Bool
is_duplicate_generic (declares_contract before c) = list_any (is_second_generic c) before
is_duplicate_generic site = false

-- `no_state`: a state in an argument's permission that its contract or interface doesn't have
abbrev pub is_no_argument_state : TypeSite → Bool
is_no_argument_state (names_argument_state (Some head) name) = not (is_among name.name head.states)
is_no_argument_state site = false

-- whether a contract or an interface of this name refuses an argument; of one with a fault nothing is said
abbrev pub is_refused : Around → Name → Bool → Argument → Bool
is_refused a name inner argument =
    not (is_param a.own name) && not inner
    && option_map_or (λ h. option_map_or (λ p. refuses a.heads p argument) h.param false) (head_named a.heads name) false

-- `bound`: an argument that its parameter doesn't take
abbrev pub is_out_of_bound : TypeSite → Bool
is_out_of_bound (passes_argument a name argument) =
    is_refused a name (is_faulty_argument a argument) (argument_in a.own argument)
is_out_of_bound site = false

-- whether an instance is one too many after these: the first past the limit, or one with too long a name
abbrev pub is_one_too_many : List Instance → Option Instance → Bool
is_one_too_many known None = false
is_one_too_many known (Some x) =
    is_long x || not (is_known known x.name) && nat_eq (length known) most_instances

-- `too_many_instances`: a type that needs an instance too many
abbrev pub is_too_many : TypeSite → Bool
is_too_many (names_type a known (used role type)) = is_one_too_many known (instance_of a type)
is_too_many site = false

-- `param_count`: a generic contract or interface without an argument, an argument after another name, or a generic main contract
abbrev pub is_param_count : TypeSite → Bool
is_param_count (declares_contract before c) = c.main && is_some c.param
is_param_count (names_type a known (used role (bare_name name span))) = is_generic a name && not (is_own a.own role name)
is_param_count (names_type a known (used role (name_with name argument span))) = takes_nothing a name
is_param_count site = false

-- the faults with their numbers
abbrev pub type_conditions : List (ℕ × (TypeSite → Bool))
type_conditions =
    (faults.unknown_name, is_unknown_type) ∷ (faults.duplicate, is_duplicate_generic)
    ∷ (faults.no_state, is_no_argument_state) ∷ (faults.bound, is_out_of_bound)
    ∷ (faults.too_many_instances, is_too_many) ∷ (faults.param_count, is_param_count) ∷ []

-- the fault of this number at a site
abbrev pub type_fault_at : ℕ → TypeSite → ProgramFault
type_fault_at number site = record { number = number; span = span_at_type site }

-- the faults at a site: those whose condition holds there
abbrev pub type_faults_at : TypeSite → List ProgramFault
type_faults_at site = flat_map (λ c. if c.1 site then type_fault_at c.0 site ∷ [] else []) type_conditions

-- the faults of a program's type parameters and type arguments
abbrev pub type_faults_of : Program → List ProgramFault
type_faults_of program = flat_map type_faults_at (type_sites_of program)

-- the program has the fault
abbrev pub HasTypeFault : Program → ProgramFault → Type 0
HasTypeFault program f = Contains (type_faults_of program) f

-- the program has no such fault
abbrev pub HasNoTypeFault : Program → Type 0
HasNoTypeFault program = type_faults_of program ≡ []

-- the fault of the least place, and of the least number at that place
pub record IsLeastTypeFault (program : Program) (f : ProgramFault) : Type 0 where
  pub has : HasTypeFault program f
  pub least : (g : ProgramFault) → HasTypeFault program g → Comes f g

-- the least fault, computed site by site
abbrev pub least_type_fault : Program → Option ProgramFault
least_type_fault program = least_from None (type_faults_of program)

-- it is the least fault, or there is none
abbrev pub IsLeastTypeFaultOrNone : Program → Option ProgramFault → Type 0
IsLeastTypeFaultOrNone program None = HasNoTypeFault program
IsLeastTypeFaultOrNone program (Some f) = IsLeastTypeFault program f

-- The fault that is told of a program: none has a lesser place, or at its place a lesser number. Of several with this place
-- and number it is that of the first site.
pub record IsFirstTypeFault (program : Program) (f : ProgramFault) : Type 0 where
  pub least : IsLeastTypeFault program f
  pub first : least_type_fault program ≡ Some f
