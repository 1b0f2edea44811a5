-- Which type arguments a parameter takes, and which types in arguments have a fault (Coblenz et al., TOPLAS 42(3), 2020, on
-- generics; that a type with a fault needs no instance is this project's own).
use Rattle.std.specs.Prelude.{Bool, true, false, not, ◌&&◌, ◌||◌, List, Option, Some, None, option_and_then, is_some, if◌then◌else◌}
use Rattle.std.specs.Option.{option_map_or}
use Rattle.std.specs.List.{list_any}
use Rattle.ob_base.specs.declared.permission.Mode as modes
use Rattle.ob_base.specs.declared.permission.Mode.TheVariants.{Owned, Shared, Unowned}
use Rattle.ob_tree.specs.Names.{Named, bare_name, name_with, Ref, ref_with}
use Rattle.ob_tree.specs.declared.name.PermNode.{PermNode}
use Rattle.ob_tree.specs.declared.name.PermNode.TheVariants.{Mode, States}
use Rattle.ob_tree.specs.declared.contract.ParamNode.{ParamNode}
use Rattle.ob_table_spec.specs.Names.{Name, same, is_among}
use Rattle.ob_generic_spec.specs.Heads.{head_named}
use Rattle.ob_generic_spec.specs.Substitution.{Own, is_param, argument_in}
use Rattle.ob_generic_spec.specs.declared.head.Head.{Head}
use Rattle.ob_generic_spec.specs.declared.instance.Argument.{Argument}

-- what stands around a type: the heads of the program, and the instance, unless the contract around isn't generic
pub record Around : Type 0 where
  pub heads : List Head
  pub own : Option Own

-- the mode that a parameter asks for: its bound, if that is of its own permission parameter
abbrev pub bound_of : ParamNode → Option modes.Mode
bound_of p = option_and_then (λ b. if same p.perm.name b.0.name then Some b.1 else None) p.bound

-- whether a permission is outside a bound: Owned takes one that owns, Shared takes Shared, Unowned takes each
abbrev pub is_outside : Option modes.Mode → PermNode → Bool
is_outside (Some Owned) (Mode Shared span) = true
is_outside (Some Owned) (Mode Unowned span) = true
is_outside (Some Shared) (Mode Owned span) = true
is_outside (Some Shared) (Mode Unowned span) = true
is_outside (Some Shared) (States states) = true
is_outside bound perm = false

-- whether the contract or interface of this name is an asset
abbrev pub is_asset : List Head → Name → Bool
is_asset heads name = option_map_or (λ h. h.asset) (head_named heads name) false

-- whether a parameter doesn't take an argument: an asset where it isn't one, or a permission outside its bound
abbrev pub refuses : List Head → ParamNode → Argument → Bool
refuses heads p argument =
    is_asset heads argument.of.base && not p.asset || is_outside (bound_of p) argument.perm

-- whether a permission names a state that isn't one of these
abbrev pub names_other_state : List Name → PermNode → Bool
names_other_state states (Mode mode span) = false
names_other_state states (States names) = list_any (λ n. not (is_among n.name states)) names

-- whether an argument's permission names a state that its contract or interface doesn't have
abbrev pub lacks_state : List Head → Argument → Bool
lacks_state heads argument =
    option_map_or (λ h. names_other_state h.states argument.perm) (head_named heads argument.of.base) false

-- whether a name without an argument has a fault in an argument: it denotes nothing, or something generic
abbrev pub is_faulty_bare : Around → Name → Bool
is_faulty_bare a name =
    not (is_param a.own name) && option_map_or (λ h. is_some h.param) (head_named a.heads name) true

-- whether a parameter's argument has a fault of its own, or the parameter refuses it
abbrev pub is_faulty_for : Around → Bool → Argument → ParamNode → Bool
is_faulty_for a inner argument p = inner || refuses a.heads p argument

-- whether a name with an argument has a fault: it is no generic contract's or interface's, or the argument is wrong. The
-- second `Bool` is whether the argument has a fault of its own.
abbrev pub is_faulty_with : Around → Name → Bool → Argument → Bool
is_faulty_with a name inner argument =
    is_param a.own name
    || option_map_or (λ h. option_map_or (is_faulty_for a inner argument) h.param true) (head_named a.heads name) true

abbrev mutual
  -- whether a type in an argument has a fault of its own, or one in its argument
  pub is_faulty : Around → Named → Bool
  is_faulty a (bare_name name span) = is_faulty_bare a name
  is_faulty a (name_with name argument span) =
      is_faulty_with a name (is_faulty_argument a argument) (argument_in a.own argument)

  -- whether an argument has a fault of its own: its type has one, or its permission names no state
  pub is_faulty_argument : Around → Ref → Bool
  is_faulty_argument a (ref_with of perm) =
      is_faulty a of || lacks_state a.heads (argument_in a.own (ref_with of perm))
