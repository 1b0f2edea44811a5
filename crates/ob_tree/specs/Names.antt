-- Names and types as plain data, with each part and place of the tree, in its order (the Obsidian language
-- documentation, "Types" and "Permissions").
use Rattle.std.specs.Prelude.{ℕ, List}
use Rattle.ob_base.specs.declared.fault.Span.{Span}
use Rattle.ob_tree.specs.declared.name.PermNode.{PermNode}

mutual
  -- a name, alone or with the argument in brackets after it
  pub data Named : Type 0 where
    bare_name : List ℕ → Span → Named
    name_with : List ℕ → Ref → Span → Named

  -- the type of a reference: a name and a permission
  pub data Ref : Type 0 where
    ref_with : Named → PermNode → Ref

-- `int`, `bool`, `string` or a reference
pub data TypeExpr : Type 0 where
  int_type : Span → TypeExpr
  bool_type : Span → TypeExpr
  text_type : Span → TypeExpr
  ref_type : Ref → TypeExpr
