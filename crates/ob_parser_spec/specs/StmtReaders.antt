-- What the parser computes of statements and blocks, a reader for each row.
use Rattle.std.specs.Prelude.{ℕ, zero, suc, Option, Some, None, List, [], ◌∷◌, ◌++◌}
use Rattle.ob_base.specs.declared.fault.Span.{Span}
use Rattle.ob_lexer.specs.declared.token.Token.{Token}
use Rattle.ob_lexer.specs.declared.token.TokenKind.{TokenKind}
use Rattle.ob_lexer.specs.declared.token.TokenKind.TheVariants as kind
use Rattle.ob_lexer.specs.declared.token.Word.{Word}
use Rattle.ob_lexer.specs.declared.token.Word.TheVariants as word'
use Rattle.ob_lexer.specs.declared.token.Sign.{Sign}
use Rattle.ob_lexer.specs.declared.token.Sign.TheVariants as sign'
use Rattle.ob_tree.specs.Names.{Ref}
use Rattle.ob_tree.specs.Exprs.{Expr, call_expr, call_with, Exprs}
use Rattle.ob_tree.specs.Stmts.{Local, int_local, bool_local, text_local, named_local, GivenExpr, Stmt, declare_stmt, assign_stmt, stage_stmt, change_stmt, call_stmt, test_stmt, if_stmt, while_stmt, return_stmt, revert_stmt, disown_stmt, assert_stmt, Block, block_with, Else, no_else, else_with, Stmts, no_stmts, and_stmt, stmts}
use Rattle.ob_tree.specs.declared.name.NamePart.{NamePart}
use Rattle.ob_tree.specs.declared.name.PermNode.{PermNode}
use Rattle.ob_tree.specs.declared.name.Subject.{Subject}
use Rattle.ob_tree.specs.declared.name.Subject.TheVariants as subject'
use Rattle.ob_parser_spec.specs.StmtRows.{end_of_else}
use Rattle.ob_parser_spec.specs.Symbols.{a_name, a_word, a_sign, number}
use Rattle.ob_parser_spec.specs.Readers.{Reader, stop, span_if, name_if, read_token, read_both, read_either, read_ahead, read_as, read_opened, read_maybe, read_spanned, read_many}
use Rattle.ob_parser_spec.specs.NameReaders.{on, second, read_named, read_perm}
use Rattle.ob_parser_spec.specs.Chains.{Counted}
use Rattle.ob_parser_spec.specs.Primaries.{expr_first, uncounted, Tail, name_with_tail, read_tail, read_method, read_new}
use Rattle.ob_parser_spec.specs.MemberReaders.{value_types, subject_if, subjects, list_of, read_maybe_parted}

-- reads a word
abbrev pub read_word : Word → Reader Span
read_word w = read_token (span_if (a_word w))

-- reads a sign
abbrev pub read_sign : Sign → Reader Span
read_sign s = read_token (span_if (a_sign s))

-- what is made of the parts of: "int" | "bool" | "string" | named
abbrev pub value_local_of : TokenKind → Span → Option Local
value_local_of (kind.Word word'.Int) span = Some (int_local span)
value_local_of (kind.Word word'.Bool) span = Some (bool_local span)
value_local_of (kind.Word word'.String) span = Some (text_local span)
value_local_of k span = None

-- the type `int`, `bool` or `string` of a local variable that a token is, with its place
abbrev pub value_local_if : Token → Option Local
value_local_if t = value_local_of t.kind t.span

-- what is made of the parts of: "=" expr ";"
abbrev pub assigned_of : Span × (Expr × Span) → Expr
assigned_of parts = parts.1.0

-- the reader of the value in a declaration or an assignment, from `=` to `;`
abbrev pub read_assigned : Reader Expr → Reader Expr
read_assigned expr = read_as assigned_of (read_both (read_sign sign'.Equals) (read_both expr (read_sign sign'.Semicolon)))

-- what is made of the parts of: ("int" | "bool" | "string" | named) NAME "=" expr ";"
abbrev pub declare_of : (Local × (NamePart × Expr)) × Span → Stmt
declare_of parts = declare_stmt parts.0.0 parts.0.1.0 parts.0.1.1 parts.1

-- the reader of a declaration, given the readers of its type and of its value
abbrev pub read_declare : Reader Local → Reader Expr → Reader Stmt
read_declare local expr = read_as declare_of (read_spanned (read_both local (read_both (read_token name_if) (read_assigned expr))))

-- what is made of the parts of: NAME "=" expr ";"
abbrev pub assign_of : (NamePart × Expr) × Span → Stmt
assign_of parts = assign_stmt parts.0.0 parts.0.1 parts.1

-- the reader of an assignment to a name
abbrev pub read_assign : Reader Expr → Reader Stmt
read_assign expr = read_as assign_of (read_spanned (read_both (read_token name_if) (read_assigned expr)))

-- what is made of the parts of: NAME "::" NAME "=" expr ";"
abbrev pub stage_of : (NamePart × (Span × (NamePart × Expr))) × Span → Stmt
stage_of parts = stage_stmt parts.0.0 parts.0.1.1.0 parts.0.1.1.1 parts.1

-- the reader of an assignment to a field of a state, both of them named
abbrev pub read_stage : Reader Expr → Reader Stmt
read_stage expr = read_as stage_of (read_spanned (read_both (read_token name_if) (read_both (read_sign sign'.DoubleColon) (read_both (read_token name_if) (read_assigned expr)))))

-- what is made of the parts of: NAME "=" expr
abbrev pub given_of : NamePart × (Span × Expr) → GivenExpr
given_of parts = record { field = parts.0; value = parts.1.1 }

-- the reader of a field's name and the value that it is given
abbrev pub read_given : Reader Expr → Reader GivenExpr
read_given expr = read_as given_of (read_both (read_token name_if) (read_both (read_sign sign'.Equals) expr))

-- what stands between two signs that don't count
abbrev pub between : {A : Type 0} → Span × (A × Span) → A
between parts = parts.1.0

-- "(" [NAME "=" expr {"," NAME "=" expr}] ")"
abbrev pub read_enclosed_given : Reader Expr → Reader (List GivenExpr)
read_enclosed_given expr = read_as between (read_both (read_sign sign'.OpenParen) (read_both (read_maybe_parted (number a_name ∷ []) sign'.Comma (read_given expr)) (read_sign sign'.CloseParen)))

-- ["(" [NAME "=" expr {"," NAME "=" expr}] ")"]
abbrev pub read_all_given : Reader Expr → Reader (List GivenExpr)
read_all_given expr = read_as list_of (read_maybe (on sign'.OpenParen) (read_enclosed_given expr))

-- what is made of the parts of: "->" NAME ["(" [NAME "=" expr {"," NAME "=" expr}] ")"] ";"
abbrev pub change_of : (Span × (NamePart × (List GivenExpr × Span))) × Span → Stmt
change_of parts = change_stmt parts.0.1.0 parts.0.1.1.0 parts.1

-- the reader of a change of state, with the values that fields are given
abbrev pub read_change : Reader Expr → Reader Stmt
read_change expr = read_as change_of (read_spanned (read_both (read_sign sign'.Arrow) (read_both (read_token name_if) (read_both (read_all_given expr) (read_sign sign'.Semicolon)))))

-- a call that begins with a name
abbrev pub called_name : (NamePart × Tail) × Span → Expr
called_name parts = uncounted (name_with_tail ((parts.0.0, Some parts.0.1), parts.1))

-- the reader of a call that begins with a name
abbrev pub read_called_name : (ℕ → Reader Counted) → ℕ → Reader Expr
read_called_name exprs room = read_as called_name (read_spanned (read_both (read_token name_if) (read_tail exprs room)))

-- a call of `this`
abbrev pub called_this : (Span × (Span × (NamePart × Exprs))) × Span → Expr
called_this parts = call_expr (call_with (Some (subject'.This parts.0.0)) parts.0.1.1.0 parts.0.1.1.1) parts.1

-- the reader of a call of `this`
abbrev pub read_called_this : (ℕ → Reader Counted) → ℕ → Reader Expr
read_called_this exprs room = read_as called_this (read_spanned (read_both (read_word word'.This) (read_method exprs room)))

-- what is made of the parts of: (call | new) ";"
abbrev pub call_of : (Expr × Span) × Span → Stmt
call_of parts = call_stmt parts.0.0 parts.1

-- the reader of a statement that is a call or a `new`, given the reader of that expression
abbrev pub read_call : Reader Expr → Reader Stmt
read_call called = read_as call_of (read_spanned (read_both called (read_sign sign'.Semicolon)))

-- a word, an expression that may be left out, and ";"
abbrev pub read_with_value : Word → Reader Expr → Reader ((Span × (Option Expr × Span)) × Span)
read_with_value w expr = read_spanned (read_both (read_word w) (read_both (read_maybe expr_first expr) (read_sign sign'.Semicolon)))

-- what is made of the parts of: "return" [expr] ";"
abbrev pub return_of : (Span × (Option Expr × Span)) × Span → Stmt
return_of parts = return_stmt parts.0.1.0 parts.1

-- the reader of a `return`, with or without a value
abbrev pub read_return : Reader Expr → Reader Stmt
read_return expr = read_as return_of (read_with_value word'.Return expr)

-- what is made of the parts of: "revert" [expr] ";"
abbrev pub revert_of : (Span × (Option Expr × Span)) × Span → Stmt
revert_of parts = revert_stmt parts.0.1.0 parts.1

-- the reader of a `revert`, with or without a value
abbrev pub read_revert : Reader Expr → Reader Stmt
read_revert expr = read_as revert_of (read_with_value word'.Revert expr)

-- what is made of the parts of: "disown" NAME ";"
abbrev pub disown_of : (Span × (NamePart × Span)) × Span → Stmt
disown_of parts = disown_stmt parts.0.1.0 parts.1

-- the reader of a `disown`
abbrev pub read_disown : Reader Stmt
read_disown = read_as disown_of (read_spanned (read_both (read_word word'.Disown) (read_both (read_token name_if) (read_sign sign'.Semicolon))))

-- what is made of the parts of: "[" (NAME | "this") "@" perm "]" ";"
abbrev pub assert_of : (Span × (Subject × (Span × (PermNode × (Span × Span))))) × Span → Stmt
assert_of parts = assert_stmt parts.0.1.0 parts.0.1.1.1.0 parts.1

-- the reader of an assertion of the permission that a name or `this` has
abbrev pub read_assert : Reader Stmt
read_assert =
    read_as assert_of (read_spanned (read_both (read_sign sign'.OpenBracket) (read_both (read_token subject_if) (read_both (read_sign sign'.At)
    (read_both read_perm (read_both (read_sign sign'.CloseBracket) (read_sign sign'.Semicolon)))))))

-- the signs after a name that begins a call
abbrev pub call_signs : List ℕ
call_signs = number (a_sign sign'.Dot) ∷ number (a_sign sign'.OpenParen) ∷ []

-- reads a statement that begins with a name: what is after the name says which
abbrev pub read_after_name : (ℕ → Reader Ref) → (ℕ → Reader Counted) → ℕ → Reader Stmt
read_after_name refs exprs room =
    read_ahead (number a_name ∷ []) (on sign'.Equals) (read_assign (read_as uncounted (exprs room)))
    (read_ahead (number a_name ∷ []) (on sign'.DoubleColon) (read_stage (read_as uncounted (exprs room)))
    (read_ahead (number a_name ∷ []) call_signs (read_call (read_called_name exprs room))
    (read_declare (read_as named_local (read_named refs room)) (read_as uncounted (exprs room)))))

-- a statement without blocks
abbrev pub read_simple : (ℕ → Reader Ref) → (ℕ → Reader Counted) → ℕ → Reader Stmt
read_simple refs exprs room =
    read_either (number a_name ∷ []) (read_after_name refs exprs room)
    (read_either value_types (read_declare (read_token value_local_if) (read_as uncounted (exprs room)))
    (read_either (number (a_word word'.This) ∷ []) (read_call (read_called_this exprs room))
    (read_either (number (a_word word'.New) ∷ []) (read_call (read_as uncounted (read_new refs exprs room)))
    (read_either (on sign'.Arrow) (read_change (read_as uncounted (exprs room)))
    (read_either (number (a_word word'.Return) ∷ []) (read_return (read_as uncounted (exprs room)))
    (read_either (number (a_word word'.Revert) ∷ []) (read_revert (read_as uncounted (exprs room)))
    (read_either (number (a_word word'.Disown) ∷ []) read_disown read_assert)))))))

-- what stands between the parentheses after `if`
pub data Question : Type 0 where
  tested : Subject → NamePart → Question
  asked : Expr → Question

-- what is made of the parts of: (NAME | "this") "in" NAME
abbrev pub tested_of : Subject × (Span × NamePart) → Question
tested_of parts = tested parts.0 parts.1.1

-- the reader of a test of whether a name or `this` is in a state
abbrev pub read_tested : Reader Question
read_tested = read_as tested_of (read_both (read_token subject_if) (read_both (read_word word'.In) (read_token name_if)))

-- (NAME | "this") "in" NAME | expr
abbrev pub read_question : Reader Expr → Reader Question
read_question expr = read_ahead subjects (number (a_word word'.In) ∷ []) read_tested (read_as asked expr)

-- what is made of the parts of: "{" {stmt} "}", and the place of the closing brace
abbrev pub block_of : (Span × Stmts) × Span → Block
block_of parts = block_with parts.0.1 parts.1

-- the reader of a block: statements in braces that count
abbrev pub read_block : (ℕ → Reader Stmts) → ℕ → Reader Block
read_block body room = read_as block_of (read_both (read_opened (span_if (a_sign sign'.OpenBrace)) 1 room body) (read_sign sign'.CloseBrace))

-- what stands after `if`: the question and the blocks
abbrev pub Branches : Type 0
Branches = Question × (Block × Else)

-- an `if` at this place
abbrev pub if_with : Question → Block → Else → Span → Stmt
if_with (tested of state) then otherwise span = test_stmt of state then otherwise span
if_with (asked condition) then otherwise span = if_stmt condition then otherwise span

-- after its first word, with the place of the whole
abbrev pub if_of : (Span × Branches) × Span → Stmt
if_of parts = if_with parts.0.1.0 parts.0.1.1.0 parts.0.1.1.1 parts.1

-- the reader of an `if`, given the reader of what stands after that word
abbrev pub read_if : (ℕ → Reader Branches) → ℕ → Reader Stmt
read_if after room = read_as if_of (read_spanned (read_both (read_word word'.If) (after room)))

-- the `if` after an `else`: it opens a block, and ends it
abbrev pub chained_of : (Span × Branches) × Span → Block
chained_of parts = block_with (and_stmt (if_of parts) no_stmts) (end_of_else parts.0.1.1.0 parts.0.1.1.1)

-- the reader of the `if` after an `else`, which counts as a block does
abbrev pub read_chained : (ℕ → Reader Branches) → ℕ → Reader Block
read_chained after room = read_as chained_of (read_spanned (read_opened (span_if (a_word word'.If)) 1 room after))

-- block | if
abbrev pub read_block_or_if : (ℕ → Reader Stmts) → (ℕ → Reader Branches) → ℕ → Reader Block
read_block_or_if body after room = read_either (on sign'.OpenBrace) (read_block body room) (read_chained after room)

-- what is made of the parts of: ["else" (block | if)]
abbrev pub else_of : Option Block → Else
else_of None = no_else
else_of (Some block) = else_with block

-- the reader of an `else` and the block or `if` after it, which may be left out
abbrev pub read_alternative : (ℕ → Reader Stmts) → (ℕ → Reader Branches) → ℕ → Reader Else
read_alternative body after room =
    read_as else_of (read_maybe (number (a_word word'.Else) ∷ [])
    (read_as second (read_both (read_word word'.Else) (read_block_or_if body after room))))

-- what is made of the parts of: "(" question ")" block ["else" (block | if)]
abbrev pub branches_of : Span × (Question × (Span × (Block × Else))) → Branches
branches_of parts = (parts.1.0, parts.1.1.1)

-- the reader of what stands after `if`: the question and the blocks
abbrev pub read_branches : Reader Expr → (ℕ → Reader Stmts) → (ℕ → Reader Branches) → ℕ → Reader Branches
read_branches expr body after room =
    read_as branches_of (read_both (read_sign sign'.OpenParen) (read_both (read_question expr) (read_both (read_sign sign'.CloseParen)
    (read_both (read_block body room) (read_alternative body after room)))))

-- what stands after `while`: the condition and the block
abbrev pub Loop : Type 0
Loop = Expr × Block

-- a `while`, after its first word, with the place of the whole
abbrev pub while_of : (Span × Loop) × Span → Stmt
while_of parts = while_stmt parts.0.1.0 parts.0.1.1 parts.1

-- the reader of a `while`, given the reader of what stands after that word
abbrev pub read_while : (ℕ → Reader Loop) → ℕ → Reader Stmt
read_while after room = read_as while_of (read_spanned (read_both (read_word word'.While) (after room)))

-- what is made of the parts of: "(" expr ")" block
abbrev pub loop_of : Span × (Expr × (Span × Block)) → Loop
loop_of parts = (parts.1.0, parts.1.1.1)

-- the reader of what stands after `while`: the condition and the block
abbrev pub read_loop : Reader Expr → (ℕ → Reader Stmts) → ℕ → Reader Loop
read_loop expr body room = read_as loop_of (read_both (read_sign sign'.OpenParen) (read_both expr (read_both (read_sign sign'.CloseParen) (read_block body room))))

-- what a statement without blocks begins with
abbrev pub simple_first : List ℕ
simple_first =
    number a_name ∷ value_types ++ (number (a_word word'.This) ∷ number (a_word word'.New) ∷ number (a_sign sign'.Arrow) ∷ number (a_word word'.Return)
    ∷ number (a_word word'.Revert) ∷ number (a_word word'.Disown) ∷ number (a_sign sign'.OpenBracket) ∷ [])

-- what a statement begins with
abbrev pub stmt_first : List ℕ
stmt_first = number (a_word word'.If) ∷ number (a_word word'.While) ∷ simple_first

-- a statement
abbrev pub read_stmt : (ℕ → Reader Ref) → (ℕ → Reader Counted) → (ℕ → Reader Branches) → (ℕ → Reader Loop) → ℕ → Reader Stmt
read_stmt refs exprs after_if after_while room =
    read_either (number (a_word word'.If) ∷ []) (read_if after_if room)
    (read_either (number (a_word word'.While) ∷ []) (read_while after_while room) (read_simple refs exprs room))

-- {stmt}
abbrev pub read_stmts : (ℕ → Reader Ref) → (ℕ → Reader Counted) → (ℕ → Reader Branches) → (ℕ → Reader Loop) → ℕ → Reader Stmts
read_stmts refs exprs after_if after_while room = read_as stmts (read_many stmt_first (read_stmt refs exprs after_if after_while room))

abbrev mutual
  -- what stands after `if`, with at most so many blocks inside one another
  pub read_after_if : (ℕ → Reader Ref) → (ℕ → Reader Counted) → ℕ → ℕ → Reader Branches
  read_after_if refs exprs zero room = λ ts. stop ts
  read_after_if refs exprs (suc depth) room =
      read_branches (read_as uncounted (exprs room)) (read_stmts refs exprs (read_after_if refs exprs depth) (read_after_while refs exprs depth))
      (read_after_if refs exprs depth) room

  -- what stands after `while`
  pub read_after_while : (ℕ → Reader Ref) → (ℕ → Reader Counted) → ℕ → ℕ → Reader Loop
  read_after_while refs exprs zero room = λ ts. stop ts
  read_after_while refs exprs (suc depth) room =
      read_loop (read_as uncounted (exprs room)) (read_stmts refs exprs (read_after_if refs exprs depth) (read_after_while refs exprs depth)) room
