-- The places at which something is asked of type parameters and type arguments, with what is there (this project's own).
use Rattle.std.specs.Prelude.{List, [], ◌∷◌, ◌++◌, map, Option}
use Rattle.std.specs.Option.{option_map_or}
use Rattle.ob_base.specs.declared.fault.Span.{Span}
use Rattle.ob_tree.specs.Names.{Named, bare_name, name_with, Ref, ref_with}
use Rattle.ob_tree.specs.Members.{Contract}
use Rattle.ob_tree.specs.declared.name.NamePart.{NamePart}
use Rattle.ob_tree.specs.declared.name.PermNode.{PermNode}
use Rattle.ob_tree.specs.declared.name.PermNode.TheVariants.{Mode, States}
use Rattle.ob_tree.specs.declared.contract.ParamNode.{ParamNode}
use Rattle.ob_table_spec.specs.Names.{Name, in_order}
use Rattle.ob_resolve_spec.specs.Declarations.{Program, part_of_named}
use Rattle.ob_generic_spec.specs.Heads.{head_named}
use Rattle.ob_generic_spec.specs.Substitution.{argument_in}
use Rattle.ob_generic_spec.specs.Arguments.{Around}
use Rattle.ob_generic_spec.specs.Uses.{Use, used}
use Rattle.ob_generic_spec.specs.Instances.{Visit, after_visit, visits, instances_of}
use Rattle.ob_generic_spec.specs.declared.head.Head.{Head}
use Rattle.ob_generic_spec.specs.declared.instance.Argument.{Argument}
use Rattle.ob_generic_spec.specs.declared.instance.Instance.{Instance}

-- a place, and what is there
pub data TypeSite : Type 0 where
  -- a contract or an interface stands after these
  declares_contract : List Contract → Contract → TypeSite
  -- the bound of a parameter is one of this name
  bounds_permission : ParamNode → NamePart → TypeSite
  -- a type stands there, and these instances are needed before it
  names_type : Around → List Instance → Use → TypeSite
  -- the contract or interface of this name has this argument
  passes_argument : Around → Name → Ref → TypeSite
  -- a name denotes a state in the permission of an argument whose contract or interface, if there is one, asks this
  names_argument_state : Option Head → NamePart → TypeSite

-- the place of a type
abbrev pub span_of_named : Named → Span
span_of_named of = (part_of_named of).span

-- the place of an argument: that of its name
abbrev pub span_of_argument : Ref → Span
span_of_argument (ref_with of perm) = span_of_named of

-- where a site is
abbrev pub span_at_type : TypeSite → Span
span_at_type (declares_contract before c) = c.span
span_at_type (bounds_permission p name) = name.span
span_at_type (names_type a known (used role type)) = span_of_named type
span_at_type (passes_argument a name argument) = span_of_argument argument
span_at_type (names_argument_state head name) = name.span

-- The sites of heads.

-- the bound of a parameter, if there is one
abbrev pub bound_sites : ParamNode → List TypeSite
bound_sites p = option_map_or (λ b. bounds_permission p b.0 ∷ []) p.bound []

-- a contract or an interface after these, without what stands in it
abbrev pub head_sites : List Contract → Contract → List TypeSite
head_sites before c = declares_contract before c ∷ option_map_or bound_sites c.param []

-- The sites of types.

-- the states of a permission of an argument
abbrev pub argument_state_sites : Option Head → PermNode → List TypeSite
argument_state_sites head (Mode mode span) = []
argument_state_sites head (States states) = map (names_argument_state head) states

-- an argument's permission, where the argument around takes the place of the parameters
abbrev pub argument_perm_sites : Around → Argument → List TypeSite
argument_perm_sites a argument = argument_state_sites (head_named a.heads argument.of.base) argument.perm

-- what stands after a name
abbrev pub argument_sites : Around → Named → List TypeSite
argument_sites a (bare_name name span) = []
argument_sites a (name_with name argument span) =
    passes_argument a name argument ∷ argument_perm_sites a (argument_in a.own argument)

-- a type, with these instances needed before it; its argument's type is a use of its own
abbrev pub use_sites : Around → List Instance → Use → List TypeSite
use_sites a known (used role type) = names_type a known (used role type) ∷ argument_sites a type

-- the types that are met, one after another, with these instances needed before them
abbrev pub visits_sites : List Instance → List Visit → List TypeSite
visits_sites known [] = []
visits_sites known (v ∷ vs) = use_sites v.around known v.of ++ visits_sites (after_visit known v) vs

-- all sites of a program: its heads, and the types of its contracts and of its instances
abbrev pub type_sites_of : Program → List TypeSite
type_sites_of program = in_order head_sites program ++ visits_sites [] (visits program (instances_of program))
