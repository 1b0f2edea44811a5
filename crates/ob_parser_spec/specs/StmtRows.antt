-- Which tokens spell statements and blocks (the Obsidian language documentation, "Statements").
use Rattle.std.specs.Prelude.{◌≡◌, List, [], ◌∷◌}
use Rattle.ob_base.specs.declared.fault.Span.{Span}
use Rattle.ob_lexer.specs.declared.token.TokenKind.TheVariants as kind
use Rattle.ob_lexer.specs.declared.token.Word.TheVariants as word'
use Rattle.ob_lexer.specs.declared.token.Sign.TheVariants as sign'
use Rattle.ob_tree.specs.Exprs.{Expr, call_expr, new_expr}
use Rattle.ob_tree.specs.Stmts.{Local, int_local, bool_local, text_local, named_local, GivenExpr, Stmt, declare_stmt, assign_stmt, stage_stmt, change_stmt, call_stmt, test_stmt, if_stmt, while_stmt, return_stmt, revert_stmt, disown_stmt, assert_stmt, Block, block_with, Else, no_else, else_with, Stmts, no_stmts, and_stmt}
use Rattle.ob_parser_spec.specs.Rows.{Row, never, nothing, either, provided, ◌⨟◌, token_at, word, sign, name, opening, raised, maybe, parted, spanning}
use Rattle.ob_parser_spec.specs.NameRows.{subject, perm, named}
use Rattle.ob_parser_spec.specs.ExprRows.{spelled, expr}

-- "int" | "bool" | "string" | named
abbrev pub local : Local → Row
local (int_local span) = token_at (kind.Word word'.Int) span
local (bool_local span) = token_at (kind.Word word'.Bool) span
local (text_local span) = token_at (kind.Word word'.String) span
local (named_local of) = named of

-- NAME "=" expr
abbrev pub given : GivenExpr → Row
given g = name g.field ⨟ sign sign'.Equals ⨟ expr g.value

-- ["(" [NAME "=" expr {"," NAME "=" expr}] ")"]
abbrev pub all_given : List GivenExpr → Row
all_given [] = either nothing (sign sign'.OpenParen ⨟ sign sign'.CloseParen)
all_given (g ∷ gs) = sign sign'.OpenParen ⨟ parted sign'.Comma given (g ∷ gs) ⨟ sign sign'.CloseParen

-- a call or a `new`
abbrev pub call_or_new : Expr → Row
call_or_new (call_expr c span) = spanning span (spelled (call_expr c span) 0)
call_or_new (new_expr of args span) = spanning span (spelled (new_expr of args span) 0)
call_or_new e = never

-- the place of the brace that closes a block
abbrev pub end_of_block : Block → Span
end_of_block (block_with body end) = end

-- and of the one that closes the last block of an `if`
abbrev pub end_of_else : Block → Else → Span
end_of_else then no_else = end_of_block then
end_of_else then (else_with block) = end_of_block block

-- what stands in braces that count, and the place of the closing one
abbrev pub braced : Span → Row → Row
braced end row = opening sign'.OpenBrace ⨟ raised 1 row ⨟ token_at (kind.Sign sign'.CloseBrace) end

abbrev mutual
  pub stmt : Stmt → Row
  -- ("int" | "bool" | "string" | named) NAME "=" expr ";"
  stmt (declare_stmt of part value span) = spanning span (local of ⨟ name part ⨟ sign sign'.Equals ⨟ expr value ⨟ sign sign'.Semicolon)
  -- NAME "=" expr ";"
  stmt (assign_stmt part value span) = spanning span (name part ⨟ sign sign'.Equals ⨟ expr value ⨟ sign sign'.Semicolon)
  -- NAME "::" NAME "=" expr ";"
  stmt (stage_stmt state field value span) = spanning span (name state ⨟ sign sign'.DoubleColon ⨟ name field ⨟ sign sign'.Equals ⨟ expr value ⨟ sign sign'.Semicolon)
  -- "->" NAME ["(" [NAME "=" expr {"," NAME "=" expr}] ")"] ";"
  stmt (change_stmt state values span) = spanning span (sign sign'.Arrow ⨟ name state ⨟ all_given values ⨟ sign sign'.Semicolon)
  -- (call | new) ";"
  stmt (call_stmt value span) = spanning span (call_or_new value ⨟ sign sign'.Semicolon)
  -- "if" "(" (NAME | "this") "in" NAME ")" block ["else" (block | if)]
  stmt (test_stmt of state then otherwise span) = spanning span (word word'.If ⨟ sign sign'.OpenParen ⨟ subject of ⨟ word word'.In ⨟ name state ⨟ sign sign'.CloseParen ⨟ block then ⨟ alternative otherwise)
  -- "if" "(" expr ")" block ["else" (block | if)]
  stmt (if_stmt condition then otherwise span) = spanning span (word word'.If ⨟ sign sign'.OpenParen ⨟ expr condition ⨟ sign sign'.CloseParen ⨟ block then ⨟ alternative otherwise)
  -- "while" "(" expr ")" block
  stmt (while_stmt condition body span) = spanning span (word word'.While ⨟ sign sign'.OpenParen ⨟ expr condition ⨟ sign sign'.CloseParen ⨟ block body)
  -- "return" [expr] ";"
  stmt (return_stmt value span) = spanning span (word word'.Return ⨟ maybe expr value ⨟ sign sign'.Semicolon)
  -- "revert" [expr] ";"
  stmt (revert_stmt text span) = spanning span (word word'.Revert ⨟ maybe expr text ⨟ sign sign'.Semicolon)
  -- "disown" NAME ";"
  stmt (disown_stmt part span) = spanning span (word word'.Disown ⨟ name part ⨟ sign sign'.Semicolon)
  -- "[" (NAME | "this") "@" perm "]" ";"
  stmt (assert_stmt of with span) = spanning span (sign sign'.OpenBracket ⨟ subject of ⨟ sign sign'.At ⨟ perm with ⨟ sign sign'.CloseBracket ⨟ sign sign'.Semicolon)

  -- {stmt}
  pub stmts : Stmts → Row
  stmts no_stmts = nothing
  stmts (and_stmt s ss) = stmt s ⨟ stmts ss

  -- "{" {stmt} "}"
  pub block : Block → Row
  block (block_with body end) = braced end (stmts body)

  -- ["else" (block | if)]
  pub alternative : Else → Row
  alternative no_else = nothing
  alternative (else_with (block_with body end)) = word word'.Else ⨟ either (braced end (stmts body)) (chained body end)

  -- The `if` after an `else` is the only statement of a block, which it opens and ends.
  pub chained : Stmts → Span → Row
  chained (and_stmt (test_stmt of state then otherwise span) no_stmts) end = provided (end ≡ end_of_else then otherwise) (raised 1 (stmt (test_stmt of state then otherwise span)))
  chained (and_stmt (if_stmt condition then otherwise span) no_stmts) end = provided (end ≡ end_of_else then otherwise) (raised 1 (stmt (if_stmt condition then otherwise span)))
  chained body end = never
