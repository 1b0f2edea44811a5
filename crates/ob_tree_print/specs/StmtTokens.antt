-- The tokens of statements, in order.
use Rattle.std.specs.Prelude.{Bool, true, false, List, [], ◌∷◌, ◌++◌, Option, Some, None}
use Rattle.ob_lexer.specs.declared.token.TokenKind.{TokenKind}
use Rattle.ob_lexer.specs.declared.token.TokenKind.TheVariants as kind
use Rattle.ob_lexer.specs.declared.token.Word.TheVariants as word
use Rattle.ob_lexer.specs.declared.token.Sign.TheVariants as sign
use Rattle.ob_tree.specs.Exprs.{Expr}
use Rattle.ob_tree.specs.Stmts.{Local, int_local, bool_local, text_local, named_local, GivenExpr, Stmt, declare_stmt, assign_stmt, stage_stmt, change_stmt, call_stmt, test_stmt, if_stmt, while_stmt, return_stmt, revert_stmt, disown_stmt, assert_stmt, Block, block_with, Else, no_else, else_with, Stmts, no_stmts, and_stmt}
use Rattle.ob_tree_print.specs.NameTokens.{sign_unless, if_empty, token_of_name, token_of_subject, tokens_of_named, tokens_of_perm}
use Rattle.ob_tree_print.specs.ExprTokens.{tokens_of_expr}
use Rattle.ob_tree.specs.declared.name.NamePart.{NamePart}
use Rattle.ob_tree.specs.declared.name.PermNode.{PermNode}
use Rattle.ob_tree.specs.declared.name.Subject.{Subject}

-- the type of a local variable
abbrev pub tokens_of_local : Local → List TokenKind
tokens_of_local (int_local span) = kind.Word word.Int ∷ []
tokens_of_local (bool_local span) = kind.Word word.Bool ∷ []
tokens_of_local (text_local span) = kind.Word word.String ∷ []
tokens_of_local (named_local of) = tokens_of_named of

-- "=" expr ";"
abbrev pub tokens_of_setting : Expr → List TokenKind
tokens_of_setting value = kind.Sign sign.Equals ∷ (tokens_of_expr value ++ (kind.Sign sign.Semicolon ∷ []))

-- an expression, if there is one
abbrev pub tokens_of_value : Option Expr → List TokenKind
tokens_of_value None = []
tokens_of_value (Some value) = tokens_of_expr value

-- NAME "=" expr {"," NAME "=" expr}; `first` says that none stands in front
abbrev pub tokens_of_given : Bool → List GivenExpr → List TokenKind
tokens_of_given first [] = []
tokens_of_given first (g ∷ gs) = sign_unless first sign.Comma ++ (token_of_name g.field ∷ kind.Sign sign.Equals ∷ (tokens_of_expr g.value ++ tokens_of_given false gs))

-- `->S()` is printed as `->S`
abbrev pub tokens_of_change : List GivenExpr → List TokenKind
tokens_of_change given = if_empty given [] (kind.Sign sign.OpenParen ∷ (tokens_of_given true given ++ (kind.Sign sign.CloseParen ∷ [])))

-- (NAME|"this") "in" NAME
unfoldable pub tokens_of_membership : Subject → NamePart → List TokenKind
tokens_of_membership subject state = token_of_subject subject ∷ kind.Word word.In ∷ token_of_name state ∷ []

-- "if" "(" (NAME|"this") "in" NAME ")"
unfoldable pub tokens_of_test : Subject → NamePart → List TokenKind
tokens_of_test subject state = kind.Word word.If ∷ kind.Sign sign.OpenParen ∷ (tokens_of_membership subject state ++ (kind.Sign sign.CloseParen ∷ []))

-- "if" "(" expr ")"
unfoldable pub tokens_of_condition : Expr → List TokenKind
tokens_of_condition condition = kind.Word word.If ∷ kind.Sign sign.OpenParen ∷ (tokens_of_expr condition ++ (kind.Sign sign.CloseParen ∷ []))

-- "while" "(" expr ")"
unfoldable pub tokens_of_while : Expr → List TokenKind
tokens_of_while condition = kind.Word word.While ∷ kind.Sign sign.OpenParen ∷ (tokens_of_expr condition ++ (kind.Sign sign.CloseParen ∷ []))

-- "[" (NAME|"this") "@" perm "]"
unfoldable pub tokens_of_claim : Subject → PermNode → List TokenKind
tokens_of_claim subject perm = kind.Sign sign.OpenBracket ∷ token_of_subject subject ∷ kind.Sign sign.At ∷ (tokens_of_perm perm ++ (kind.Sign sign.CloseBracket ∷ []))

abbrev mutual
  pub tokens_of_stmt : Stmt → List TokenKind
  tokens_of_stmt (declare_stmt of name value span) = tokens_of_local of ++ (token_of_name name ∷ tokens_of_setting value)
  tokens_of_stmt (assign_stmt name value span) = token_of_name name ∷ tokens_of_setting value
  tokens_of_stmt (stage_stmt state field value span) = token_of_name state ∷ kind.Sign sign.DoubleColon ∷ token_of_name field ∷ tokens_of_setting value
  tokens_of_stmt (change_stmt state given span) = kind.Sign sign.Arrow ∷ token_of_name state ∷ (tokens_of_change given ++ (kind.Sign sign.Semicolon ∷ []))
  tokens_of_stmt (call_stmt value span) = tokens_of_expr value ++ (kind.Sign sign.Semicolon ∷ [])
  tokens_of_stmt (test_stmt subject state then otherwise span) = tokens_of_test subject state ++ (tokens_of_block then ++ tokens_of_else otherwise)
  tokens_of_stmt (if_stmt condition then otherwise span) = tokens_of_condition condition ++ (tokens_of_block then ++ tokens_of_else otherwise)
  tokens_of_stmt (while_stmt condition body span) = tokens_of_while condition ++ tokens_of_block body
  tokens_of_stmt (return_stmt value span) = kind.Word word.Return ∷ (tokens_of_value value ++ (kind.Sign sign.Semicolon ∷ []))
  tokens_of_stmt (revert_stmt text span) = kind.Word word.Revert ∷ (tokens_of_value text ++ (kind.Sign sign.Semicolon ∷ []))
  tokens_of_stmt (disown_stmt name span) = kind.Word word.Disown ∷ token_of_name name ∷ kind.Sign sign.Semicolon ∷ []
  tokens_of_stmt (assert_stmt subject perm span) = tokens_of_claim subject perm ++ (kind.Sign sign.Semicolon ∷ [])

  -- block = "{" {stmt} "}"
  pub tokens_of_block : Block → List TokenKind
  tokens_of_block (block_with statements end) = kind.Sign sign.OpenBrace ∷ (tokens_of_stmts statements ++ (kind.Sign sign.CloseBrace ∷ []))

  -- "else" block: an `if` after `else` stands in braces too
  pub tokens_of_else : Else → List TokenKind
  tokens_of_else no_else = []
  tokens_of_else (else_with block) = kind.Word word.Else ∷ tokens_of_block block

  pub tokens_of_stmts : Stmts → List TokenKind
  tokens_of_stmts no_stmts = []
  tokens_of_stmts (and_stmt s ss) = tokens_of_stmt s ++ tokens_of_stmts ss
