-- Members and contracts as plain data, with each part and place of the tree, in its order (the Obsidian language
-- documentation, "Contracts").
use Rattle.std.specs.Prelude.{ℕ, Bool, Option, List}
use Rattle.ob_base.specs.declared.fault.Span.{Span}
use Rattle.ob_tree.specs.Names.{Named, Ref, TypeExpr}
use Rattle.ob_tree.specs.Stmts.{Block}
use Rattle.ob_tree.specs.declared.name.NamePart.{NamePart}
use Rattle.ob_tree.specs.declared.name.PermNode.{PermNode}
use Rattle.ob_tree.specs.declared.name.Subject.{Subject}
use Rattle.ob_tree.specs.declared.contract.ParamNode.{ParamNode}

-- a field, and the states after `available in`
pub record Field : Type 0 where
  pub of : TypeExpr
  pub name : NamePart
  pub available : List NamePart

-- a parameter, with the permission after `>>`
pub record Formal : Type 0 where
  pub of : TypeExpr
  pub exit : Option PermNode
  pub name : Subject

-- a field in the list of a private transaction, with the permission after `>>`
pub record Listed : Type 0 where
  pub of : Ref
  pub exit : Option PermNode
  pub name : NamePart

-- a member; the last place is that of the whole
pub data Member : Type 0 where
  state_member : NamePart → List Field → Span → Member
  field_member : Field → Member
  constructor_member : Named → PermNode → List Formal → Block → Span → Member
  transaction_member : Bool → List Listed → NamePart → List Formal → Option TypeExpr → Option Block → Span → Member

-- a contract or an interface, with the places of its name and of its closing brace
pub record Contract : Type 0 where
  pub main : Bool
  pub asset : Bool
  pub interface : Bool
  pub name : List ℕ
  pub param : Option ParamNode
  pub implements : Option Named
  pub members : List Member
  pub span : Span
  pub end : Span
