-- The names and types of a tree, as plain data.
use Rattle.std.specs.Prelude.{◌≡◌, ℕ, List, Option, Some, None, option_map}
use Rattle.std.proofs.Common.{ap, sym, ◌∙◌}
use Rattle.ob_base.specs.declared.fault.Span.{Span}
use Rattle.ob_tree.specs.Names.{Named, bare_name, name_with, Ref, ref_with, TypeExpr, int_type, bool_type, text_type, ref_type}
use Rattle.ob_tree.specs.declared.name.NamedNode.{NamedNode, NamedNode-F, fold-NamedNode, fold-roll-NamedNode, roll-NamedNode, out-NamedNode, roll-out-NamedNode}
use Rattle.ob_tree.specs.declared.name.RefNode.{RefNode, RefNode-F, fold-RefNode, fold-roll-RefNode, fold_out-RefNode, roll-RefNode, out-RefNode}
use Rattle.ob_tree.specs.declared.name.TypeNode.{TypeNode}
use Rattle.ob_tree.specs.declared.name.TypeNode.TheVariants.{Int, Bool, Text, Reference}

-- a name with the argument that it may have
abbrev pub named_with : List ℕ → Option Ref → Span → Named
named_with name None span = bare_name name span
named_with name (Some argument) span = name_with name argument span

-- a name whose argument is plain data already
abbrev pub named_step : NamedNode-F Named Ref → Named
named_step node = named_with node.name node.argument node.span

-- a reference's type whose name is plain data already
abbrev pub ref_step : RefNode-F Named Ref → Ref
ref_step node = ref_with node.of node.perm

-- a name with its argument
abbrev pub named_of : NamedNode → Named
named_of = fold-NamedNode Named Ref named_step ref_step

-- a reference's type
abbrev pub ref_of : RefNode → Ref
ref_of = fold-RefNode Named Ref named_step ref_step

-- a type
abbrev pub type_of : TypeNode → TypeExpr
type_of (Int span) = int_type span
type_of (Bool span) = bool_type span
type_of (Text span) = text_type span
type_of (Reference of) = ref_type (ref_of of)

-- equations: of a name that is put together, and of one that is taken apart
rolled : (name : List ℕ) (argument : Option RefNode) (span : Span) → named_of (roll-NamedNode (record { name = name; argument = argument; span = span })) ≡ named_with name (option_map ref_of argument) span
rolled name None span = fold-roll-NamedNode Named Ref named_step ref_step (record { name = name; argument = None; span = span })
rolled name (Some of) span = fold-roll-NamedNode Named Ref named_step ref_step (record { name = name; argument = Some of; span = span })

pub named_of-roll : (node : NamedNode-F NamedNode RefNode) → named_of (roll-NamedNode node) ≡ named_with node.name (option_map ref_of node.argument) node.span
named_of-roll node = rolled node.name node.argument node.span

pub named_of-out : (node : NamedNode) → named_of node ≡ named_with (out-NamedNode node).name (option_map ref_of (out-NamedNode node).argument) (out-NamedNode node).span
named_of-out node = ap named_of (sym (roll-out-NamedNode node)) ∙ named_of-roll (out-NamedNode node)

pub ref_of-roll : (node : RefNode-F NamedNode RefNode) → ref_of (roll-RefNode node) ≡ ref_with (named_of node.of) node.perm
ref_of-roll = fold-roll-RefNode Named Ref named_step ref_step

pub ref_of-out : (node : RefNode) → ref_of node ≡ ref_with (named_of (out-RefNode node).of) (out-RefNode node).perm
ref_of-out = fold_out-RefNode Named Ref named_step ref_step

pub ruleset name_views = (named_of-roll, named_of-out, ref_of-roll, ref_of-out)
