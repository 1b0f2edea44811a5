-- Types and permissions in an instance, where the argument takes the place of the parameters (Coblenz et al., TOPLAS 42(3), 2020,
-- on generics; that tokens stand in the place of a token, and how names are printed, is this project's own).
use Rattle.std.specs.Prelude.{ℕ, Bool, false, List, [], ◌∷◌, ◌++◌, Option, Some, None, map, flat_map, codes, if◌then◌else◌}
use Rattle.std.specs.Option.{option_map_or}
use Rattle.ob_base.specs.declared.fault.Span.{Span}
use Rattle.ob_base.specs.declared.permission.Mode as modes
use Rattle.ob_base.specs.declared.permission.Mode.TheVariants.{Owned, Shared, Unowned}
use Rattle.ob_tree.specs.Names.{Named, bare_name, name_with, Ref, ref_with}
use Rattle.ob_tree.specs.declared.name.NamePart.{NamePart}
use Rattle.ob_tree.specs.declared.name.PermNode.{PermNode}
use Rattle.ob_tree.specs.declared.name.PermNode.TheVariants.{Mode, States}
use Rattle.ob_tree.specs.declared.contract.ParamNode.{ParamNode}
use Rattle.ob_table_spec.specs.Names.{Name, same}
use Rattle.ob_generic_spec.specs.declared.instance.Written.{Written}
use Rattle.ob_generic_spec.specs.declared.instance.Argument.{Argument}
use Rattle.ob_generic_spec.specs.declared.instance.Instance.{Instance}

-- an instance from within: the instance, the name of the generic contract or interface, and its parameter
pub record Own : Type 0 where
  pub instance : Instance
  pub name : Name
  pub param : ParamNode

-- whether the name is that of the type parameter
abbrev pub is_param : Option Own → Name → Bool
is_param own name = option_map_or (λ o. same o.param.name.name name) own false

-- the word of a mode
abbrev pub printed_mode : modes.Mode → List ℕ
printed_mode Owned = codes "Owned"
printed_mode Shared = codes "Shared"
printed_mode Unowned = codes "Unowned"

-- Permissions: the argument's, at the place of the permission parameter.

-- states at another place
abbrev pub states_at : Span → List NamePart → List NamePart
states_at span = map (λ n. record { name = n.name; span = span })

-- a permission at another place
abbrev pub perm_at : Span → PermNode → PermNode
perm_at span (Mode mode old) = Mode mode span
perm_at span (States states) = States (states_at span states)

-- what a permission gives in the place of one of several states: its states, or the word of its mode, which is the name of no
-- state
abbrev pub states_given : Span → PermNode → List NamePart
states_given span (Mode mode old) = record { name = printed_mode mode; span = span } ∷ []
states_given span (States states) = states_at span states

-- one of several states
abbrev pub state_in : Own → NamePart → List NamePart
state_in o name =
    if same o.param.perm.name name.name then states_given name.span o.instance.argument.perm else name ∷ []

-- states: the permission parameter alone is any permission
abbrev pub states_in : Own → List NamePart → PermNode
states_in o [] = States []
states_in o (name ∷ []) =
    if same o.param.perm.name name.name then perm_at name.span o.instance.argument.perm else States (name ∷ [])
states_in o (name ∷ next ∷ names) = States (flat_map (state_in o) (name ∷ next ∷ names))

-- a permission, in an instance or outside of one
abbrev pub perm_in : Option Own → PermNode → PermNode
perm_in None perm = perm
perm_in (Some o) (Mode mode span) = Mode mode span
perm_in (Some o) (States states) = states_in o states

-- Printed names: the tokens of a type, without blanks between them.

-- states after the first, each after its `|`
abbrev pub printed_more : List NamePart → List ℕ
printed_more [] = []
printed_more (name ∷ names) = codes "|" ++ name.name ++ printed_more names

-- a permission
abbrev pub printed_perm : PermNode → List ℕ
printed_perm (Mode mode span) = printed_mode mode
printed_perm (States []) = []
printed_perm (States (name ∷ names)) = name.name ++ printed_more names

-- a name with its argument: `name[of@perm]`
abbrev pub printed_name : Name → Argument → List ℕ
printed_name name argument =
    name ++ codes "[" ++ argument.of.name ++ codes "@" ++ printed_perm argument.perm ++ codes "]"

-- Types: the argument's, in the place of the type parameter.

-- a name that denotes itself
abbrev pub written_itself : Name → Written
written_itself name = record { base = name; name = name }

-- a name without an argument
abbrev pub written_bare : Option Own → Name → Written
written_bare None name = written_itself name
written_bare (Some o) name = if same o.param.name.name name then o.instance.argument.of else written_itself name

abbrev mutual
  -- a type, in an instance or outside of one
  pub written_in : Option Own → Named → Written
  written_in own (bare_name name span) = written_bare own name
  written_in own (name_with name argument span) =
      record { base = name; name = printed_name name (argument_in own argument) }

  -- a type argument, in an instance or outside of one
  pub argument_in : Option Own → Ref → Argument
  argument_in own (ref_with of perm) = record { of = written_in own of; perm = perm_in own perm }
