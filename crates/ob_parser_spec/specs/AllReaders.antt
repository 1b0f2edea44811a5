-- Readers deep enough for every room that a byte can count.
use Rattle.std.specs.Prelude.{ℕ, List}
use Rattle.ob_tree.specs.Names.{Ref}
use Rattle.ob_tree.specs.Exprs.{Expr}
use Rattle.ob_tree.specs.Stmts.{Stmts, Block}
use Rattle.ob_tree.specs.Members.{Contract}
use Rattle.ob_parser_spec.specs.Readers.{Reader, read_as}
use Rattle.ob_parser_spec.specs.NameReaders.{read_named, read_ref}
use Rattle.ob_parser_spec.specs.Chains.{Counted}
use Rattle.ob_parser_spec.specs.ExprReaders.{read_row_1}
use Rattle.ob_parser_spec.specs.Primaries.{uncounted}
use Rattle.ob_parser_spec.specs.Expressions.{read_unary}
use Rattle.ob_parser_spec.specs.StmtReaders.{Branches, Loop, read_stmts, read_after_if, read_after_while, read_block}
use Rattle.ob_parser_spec.specs.ContractReaders.{read_program}

-- types of references
unfoldable pub all_refs : ℕ → Reader Ref
all_refs room = read_ref 256 room

-- operands of operators, and expressions
unfoldable pub all_unary : ℕ → Reader Counted
all_unary room = read_unary 256 room

-- expressions, each with the count of the binary operators that are read in it
abbrev pub all_counted : ℕ → Reader Counted
all_counted room = read_row_1 all_unary room

-- expressions without the count of their operators
abbrev pub all_exprs : ℕ → Reader Expr
all_exprs room = read_as uncounted (all_counted room)

-- what stands after `if` and after `while`, statements and blocks
unfoldable pub all_branches : ℕ → Reader Branches
all_branches room = read_after_if all_refs all_counted 256 room

-- what stands after `while`: the condition and the block
unfoldable pub all_loops : ℕ → Reader Loop
all_loops room = read_after_while all_refs all_counted 256 room

-- statements, as many as there are
abbrev pub all_stmts : ℕ → Reader Stmts
all_stmts room = read_stmts all_refs all_counted all_branches all_loops room

-- blocks: statements in braces
abbrev pub all_blocks : ℕ → Reader Block
all_blocks room = read_block all_stmts room

-- programs
abbrev pub all_programs : ℕ → Reader (List Contract)
all_programs room = read_program (read_named all_refs room) (all_refs room) (all_blocks room)
