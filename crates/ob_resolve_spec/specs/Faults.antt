-- The faults that a program has: one condition each, on its sites (the Obsidian language documentation; the numbers, and
-- which fault comes first, are this project's own).
use Rattle.std.specs.Prelude.{◌≡◌, ℕ, ◌≤◌, ◌<◌, ◌⊎◌, Bool, true, false, not, ◌&&◌, ◌||◌, nat_eq, nat_lt, List, [], ◌∷◌, Option, Some, None, is_some, flat_map, Contains, if◌then◌else◌}
use Rattle.ob_base.specs.declared.fault.ProgramFault.{ProgramFault}
use Rattle.ob_table_spec.specs.Names.{same, is_among}
use Rattle.ob_resolve_spec.specs.Declarations.{Program, state_names, field_names}
use Rattle.ob_resolve_spec.specs.Permissions.{as_unowned, same_mode, is_owning, may_leave}
use Rattle.ob_resolve_spec.specs.declared.kind.InferredKind.{InferredKind}
use Rattle.ob_resolve_spec.specs.declared.kind.InferredKind.TheVariants.{Nothing as nothing, Unknown as unknown}
use Rattle.ob_resolve_spec.specs.Kinds.{is_value_type, differs, is_no_reference, is_no_value, same_kind}
use Rattle.ob_resolve_spec.specs.Interfaces.{meets}
use Rattle.ob_resolve_spec.specs.Visible.{is_visible, means}
use Rattle.ob_resolve_spec.specs.Sites.{Site, declares_name, counts_against_limit, is_main, names_thing, names_state, names_field, is_inside_state, has_exit, takes_this, types_this, has_kind, needs_reference, needs_plain_value, returns_from_body, lists_field, passes_arguments, leaves_permission, gives_object, holds_object, implements_interface, closes_body, follows_statement, assigns_variable, span_at}
use Rattle.ob_resolve_spec.specs.MemberSites.{sites_of}
use Rattle.ob_base.specs.Faults as faults

-- `unknown_name`: the name is nothing visible
abbrev pub is_unknown_name : Site → Bool
is_unknown_name (names_thing need visible name) = not (is_visible visible name.name)
is_unknown_name site = false

-- `duplicate`: a second thing of one name
abbrev pub is_duplicate : Site → Bool
is_duplicate (declares_name taken name) = is_among name.name taken
is_duplicate site = false

-- whether there is something in a list
abbrev pub is_not_empty : {A : Type 0} → List A → Bool
is_not_empty [] = false
is_not_empty (x ∷ xs) = true

-- whether a kind is known
abbrev pub is_known : InferredKind → Bool
is_known unknown = false
is_known kind = true

-- `wrong_kind`: the name is a visible thing of another kind; `available in` inside a state; `>>` after a value's type; `this`
-- after another parameter, of a constructor, of a value's type or of another contract's
abbrev pub is_wrong_kind : Site → Bool
is_wrong_kind (names_thing need visible name) = is_visible visible name.name && not (means need visible name.name)
is_wrong_kind (is_inside_state available span) = is_not_empty available
is_wrong_kind (has_exit of exit span) = is_value_type of && is_some exit
is_wrong_kind (takes_this before constructor of span) = nat_lt 0 before || constructor || is_value_type of
is_wrong_kind (types_this own kind name) = is_known kind && not (same own name.name)
is_wrong_kind site = false

-- `no_state`: a state that the contract doesn't have
abbrev pub is_no_state : Site → Bool
is_no_state (names_state c name) = not (is_among name.name (state_names c))
is_no_state site = false

-- `not_field`: a field that the contract doesn't have
abbrev pub is_not_field : Site → Bool
is_not_field (names_field c name) = not (is_among name.name (field_names c))
is_not_field site = false

-- a return of a value where there is no result, or the reverse, or of a value that isn't the result's
abbrev pub returns_other : Program → InferredKind → Option InferredKind → Bool
returns_other program nothing None = false
returns_other program nothing (Some kind) = true
returns_other program result None = true
returns_other program result (Some kind) = differs program result kind

-- `type_mismatch`: a value of another type than is needed, or a listed field of another than it has
abbrev pub is_type_mismatch : Site → Bool
is_type_mismatch (has_kind program wanted has span) = differs program wanted has
is_type_mismatch (needs_reference kind span) = is_no_reference kind
is_type_mismatch (needs_plain_value kind span) = is_no_value kind
is_type_mismatch (returns_from_body program result value span) = returns_other program result value
is_type_mismatch (lists_field field written span) = not (same_kind field written)
is_type_mismatch site = false

-- `arg_count`: another number of arguments than of parameters
abbrev pub is_arg_count : Site → Bool
is_arg_count (passes_arguments args params span) = not (nat_eq args params)
is_arg_count site = false

-- `bad_exit`: an exit that can't follow its entry, or a constructor that gives Unowned
abbrev pub is_bad_exit : Site → Bool
is_bad_exit (leaves_permission (Some entry) (Some exit) span) = not (may_leave entry exit)
is_bad_exit (gives_object (Some perm) span) = same_mode as_unowned perm
is_bad_exit site = false

-- `non_asset_owner`: a contract that is no asset owns one
abbrev pub is_non_asset_owner : Site → Bool
is_non_asset_owner (holds_object own of perm span) = not own.asset && of.asset && is_owning perm
is_non_asset_owner site = false

-- `interface_mismatch`: a contract doesn't have what its interface asks
abbrev pub is_interface_mismatch : Site → Bool
is_interface_mismatch (implements_interface program interface own span) = not (meets program interface own)
is_interface_mismatch site = false

-- `limit`: the first thing past a limit
abbrev pub is_past_limit : Site → Bool
is_past_limit (counts_against_limit before most span) = nat_eq before most
is_past_limit site = false

-- `missing_return`: the end of a body with a result is reached
abbrev pub is_missing_return : Site → Bool
is_missing_return (closes_body nothing ended span) = false
is_missing_return (closes_body result ended span) = not ended
is_missing_return site = false

-- `unreachable`: a statement that isn't reached
abbrev pub is_unreachable : Site → Bool
is_unreachable (follows_statement ended span) = ended
is_unreachable site = false

-- `two_mains`: a second main contract
abbrev pub is_second_main : Site → Bool
is_second_main (is_main before span) = is_not_empty before
is_second_main site = false

-- `assign_parameter`: a parameter is assigned
abbrev pub is_assigned_parameter : Site → Bool
is_assigned_parameter (assigns_variable (Some variable) span) = variable.is_param
is_assigned_parameter site = false

-- the faults with their numbers
abbrev pub conditions : List (ℕ × (Site → Bool))
conditions =
    (faults.unknown_name, is_unknown_name) ∷ (faults.duplicate, is_duplicate) ∷ (faults.wrong_kind, is_wrong_kind) ∷ (faults.no_state, is_no_state) ∷ (faults.not_field, is_not_field)
    ∷ (faults.type_mismatch, is_type_mismatch) ∷ (faults.arg_count, is_arg_count) ∷ (faults.bad_exit, is_bad_exit) ∷ (faults.non_asset_owner, is_non_asset_owner)
    ∷ (faults.interface_mismatch, is_interface_mismatch) ∷ (faults.limit, is_past_limit) ∷ (faults.missing_return, is_missing_return) ∷ (faults.unreachable, is_unreachable)
    ∷ (faults.two_mains, is_second_main) ∷ (faults.assign_parameter, is_assigned_parameter) ∷ []

-- the fault of this number at a site
abbrev pub fault_at : ℕ → Site → ProgramFault
fault_at number site = record { number = number; span = span_at site }

-- the faults at a site: those whose condition holds there
abbrev pub faults_at : Site → List ProgramFault
faults_at site = flat_map (λ c. if c.1 site then fault_at c.0 site ∷ [] else []) conditions

-- the faults of a program
abbrev pub faults_of : Program → List ProgramFault
faults_of program = flat_map faults_at (sites_of program)

-- the program has the fault
abbrev pub HasFault : Program → ProgramFault → Type 0
HasFault program f = Contains (faults_of program) f

-- the program has no fault
abbrev pub HasNoFault : Program → Type 0
HasNoFault program = faults_of program ≡ []

-- the first fault stands before the second, or at its place with no greater number
abbrev pub Comes : ProgramFault → ProgramFault → Type 0
Comes f g = (f.span.start < g.span.start) ⊎ ((f.span.start ≡ g.span.start) × (f.number ≤ g.number))

-- the fault of the least place, and of the least number at that place
pub record IsLeast (program : Program) (f : ProgramFault) : Type 0 where
  pub has : HasFault program f
  pub least : (g : ProgramFault) → HasFault program g → Comes f g
