-- What is after a statement, on a walk over the statements of a block.
use Rattle.std.specs.Prelude.{ℕ, List, [], length}
use Rattle.ob_tree.specs.Stmts.{Stmt, stage_stmt, Stmts, no_stmts, and_stmt}
use Rattle.ob_table_spec.specs.Names.{Name}
use Rattle.ob_resolve_spec.specs.Scopes.{AroundBody, Scope, after_stmt}
use Rattle.ob_resolve_scope.specs.Numbered.{added}

-- the scope after statements, with the locals that are declared among them
abbrev pub after_stmts : AroundBody → Scope → Stmts → Scope
after_stmts a s no_stmts = s
after_stmts a s (and_stmt x xs) = after_stmts a (after_stmt a s x) xs

-- a row of staged statements with one more, by the names of their fields
abbrev pub row_with : List (Name × ℕ) → Name → List (Name × ℕ)
row_with row name = added row name (length row)

-- the row of staged statements after a statement
abbrev pub rest_of_row : List (Name × ℕ) → Stmt → List (Name × ℕ)
rest_of_row row (stage_stmt state field value span) = row_with row field.name
rest_of_row row x = []

-- a row that goes on after a staged statement, and after no other
abbrev pub row_kept : List (Name × ℕ) → Stmt → List (Name × ℕ)
row_kept row (stage_stmt state field value span) = row
row_kept row x = []
