-- Types in the tree of the instances: printed names in the place of names with arguments (this project's own).
use Rattle.std.specs.Prelude.{ℕ, List, [], Option, Some, None, if◌then◌else◌}
use Rattle.ob_base.specs.Names.{is_text}
use Rattle.ob_tree.specs.Names.{Named, bare_name, name_with, Ref, ref_with, TypeExpr, int_type, bool_type, text_type, ref_type}
use Rattle.ob_tree.specs.Stmts.{Local, int_local, bool_local, text_local, named_local}
use Rattle.ob_table_spec.specs.Names.{Name, same}
use Rattle.ob_generic_spec.specs.Substitution.{Own, perm_in, printed_name, argument_in}
use Rattle.ob_generic_spec.specs.TypeSites.{span_of_named}
use Rattle.ob_generic_spec.specs.TypeFaults.{is_own}
use Rattle.ob_generic_spec.specs.declared.role.Role.{Role}
use Rattle.ob_generic_spec.specs.declared.role.Role.TheVariants.{Anywhere}

-- A printed name as a name in a tree, which is a text. Bytes that are none become the empty text: no such tree is handed out.
abbrev pub text_of : List ℕ → Name
text_of bytes = if is_text bytes then bytes else []

-- the name of a contract: in an instance the instance's
abbrev pub own_name : Option Own → Name → Name
own_name None name = name
own_name (Some o) name = text_of o.instance.name

-- a name in which the argument takes the place of the type parameter
abbrev pub param_name : Option Own → Name → Name
param_name None name = name
param_name (Some o) name = if same o.param.name.name name then text_of o.instance.argument.of.name else name

-- the name of a type
abbrev pub name_in : Option Own → Role → Named → Name
name_in own role (bare_name name span) = if is_own own role name then own_name own name else param_name own name
name_in own role (name_with name argument span) = text_of (printed_name name (argument_in own argument))

-- a name without an argument, at its place
abbrev pub named_in : Option Own → Role → Named → Named
named_in own role of = bare_name (name_in own role of) (span_of_named of)

-- the type of a reference
abbrev pub ref_in : Option Own → Role → Ref → Ref
ref_in own role (ref_with of perm) = ref_with (named_in own role of) (perm_in own perm)

-- a type
abbrev pub type_in : Option Own → Role → TypeExpr → TypeExpr
type_in own role (int_type span) = int_type span
type_in own role (bool_type span) = bool_type span
type_in own role (text_type span) = text_type span
type_in own role (ref_type of) = ref_type (ref_in own role of)

-- the type of a local variable
abbrev pub local_in : Option Own → Local → Local
local_in own (int_local span) = int_local span
local_in own (bool_local span) = bool_local span
local_in own (text_local span) = text_local span
local_in own (named_local of) = named_local (named_in own Anywhere of)
