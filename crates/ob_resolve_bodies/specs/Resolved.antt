-- Bodies with numbers in place of names, part by part (this project's own).
use Rattle.std.specs.Prelude.{List, [], ◌∷◌}
use Rattle.ob_tree.specs.Stmts.{Stmts, no_stmts, and_stmt}
use Rattle.ob_table.specs.Expressions.{Expression, Arguments, and_argument}
use Rattle.ob_table.specs.Statements.{Statement, Statements, and_statement}
use Rattle.ob_resolve_spec.specs.Scopes.{AroundBody, Scope, after_stmt}

-- these expressions, and then the arguments
abbrev pub before_arguments : List Expression → Arguments → Arguments
before_arguments [] args = args
before_arguments (e ∷ es) args = and_argument e (before_arguments es args)

-- these, and then the statements
abbrev pub before_statements : List Statement → Statements → Statements
before_statements [] rest = rest
before_statements (x ∷ xs) rest = and_statement x (before_statements xs rest)

-- the scope after these statements
abbrev pub after_stmts : AroundBody → Scope → Stmts → Scope
after_stmts a s no_stmts = s
after_stmts a s (and_stmt x xs) = after_stmts a (after_stmt a s x) xs
