-- Permissions in which each state stands once, and what an interface asks with these.
use Rattle.std.specs.Prelude.{List, Option, map, option_map}
use Rattle.ob_tree.specs.Names.{TypeExpr, ref_with, ref_type}
use Rattle.ob_tree.specs.Members.{Formal}
use Rattle.ob_tree.specs.declared.name.PermNode.{PermNode}
use Rattle.ob_tree.specs.declared.name.PermNode.TheVariants.{Mode, States}
use Rattle.ob_table_spec.specs.Names.{firsts}
use Rattle.ob_tree.specs.NamesView.{type_of}
use Rattle.ob_tree.specs.MembersView.{formal_of}
use Rattle.ob_resolve_spec.specs.Declarations.{Transaction}
use Rattle.ob_resolve_scope.specs.declared.asked.Asked.{Asked}

-- the permission with each of its states once
abbrev pub perm_once : PermNode → PermNode
perm_once (Mode mode span) = Mode mode span
perm_once (States states) = States (firsts (λ s. s.name) states)

-- the type with each state of its permission once
abbrev pub type_once : TypeExpr → TypeExpr
type_once (ref_type (ref_with of perm)) = ref_type (ref_with of (perm_once perm))
type_once type = type

-- the parameter with each state of its permissions once
abbrev pub formal_once : Formal → Formal
formal_once f = record { of = type_once f.of; exit = option_map perm_once f.exit; name = f.name }

-- the parameters and the result of a transaction
pub record AskedParts : Type 0 where
  pub params : List Formal
  pub result : Option TypeExpr

-- those of this transaction, with each state of a permission once
abbrev pub asked_of : Transaction → AskedParts
asked_of t = record { params = map formal_once t.params; result = option_map type_once t.result }

-- the same as plain data
abbrev pub parts_of : Asked → AskedParts
parts_of a = record { params = map formal_of a.params; result = option_map type_of a.result }
