-- What the parser computes of expressions with no operator outside of parentheses.
use Rattle.std.specs.Prelude.{ℕ, true, false, Option, Some, None, List, [], ◌∷◌, ◌++◌}
use Rattle.ob_base.specs.declared.fault.Span.{Span}
use Rattle.ob_lexer.specs.declared.token.Token.{Token}
use Rattle.ob_lexer.specs.declared.token.TokenKind.{TokenKind}
use Rattle.ob_lexer.specs.declared.token.TokenKind.TheVariants as kind
use Rattle.ob_lexer.specs.declared.token.Word.TheVariants as word'
use Rattle.ob_lexer.specs.declared.token.Sign.TheVariants as sign'
use Rattle.ob_tree.specs.Names.{Named, Ref}
use Rattle.ob_tree.specs.Exprs.{Expr, number_expr, text_expr, bool_expr, name_expr, this_expr, unary_expr, binary_expr, call_expr, new_expr, call_with, Exprs, no_exprs, exprs}
use Rattle.ob_tree.specs.declared.name.NamePart.{NamePart}
use Rattle.ob_tree.specs.declared.name.Subject.TheVariants as subject'
use Rattle.ob_parser_spec.specs.Symbols.{a_name, a_number, a_text, a_word, a_sign, number}
use Rattle.ob_parser_spec.specs.Readers.{Reader, span_if, name_if, read_token, read_both, read_either, read_as, read_maybe, read_spanned}
use Rattle.ob_parser_spec.specs.NameReaders.{on, read_parted, read_counted, read_named}
use Rattle.ob_parser_spec.specs.Chains.{Counted}
use Rattle.ob_parser_spec.specs.ExprReaders.{unary_signs}

-- the same expression at another place
abbrev pub moved : Span → Expr → Expr
moved span (number_expr value place) = number_expr value span
moved span (text_expr value place) = text_expr value span
moved span (bool_expr value place) = bool_expr value span
moved span (name_expr part place) = name_expr part span
moved span (this_expr token place) = this_expr token span
moved span (unary_expr o sign operand place) = unary_expr o sign operand span
moved span (binary_expr o sign left right place) = binary_expr o sign left right span
moved span (call_expr call place) = call_expr call span
moved span (new_expr of args place) = new_expr of args span

-- an expression in parentheses has their place, and no operator of it counts after them
abbrev pub grouped : Counted × Span → Counted
grouped parts = (moved parts.1 parts.0.0, 0)

-- the reader of an expression in parentheses
abbrev pub read_group : (ℕ → Reader Counted) → ℕ → Reader Counted
read_group inner room = read_as grouped (read_spanned (read_counted sign'.OpenParen room inner sign'.CloseParen))

-- an expression that is one token, other than a name and `this`
abbrev pub literal_of : TokenKind → Span → Option Counted
literal_of (kind.Number value) span = Some (number_expr value span, 0)
literal_of (kind.Text value) span = Some (text_expr value span, 0)
literal_of (kind.Word word'.True) span = Some (bool_expr true span, 0)
literal_of (kind.Word word'.False) span = Some (bool_expr false span, 0)
literal_of k span = None

-- the literal that a token is, at its place
abbrev pub literal_if : Token → Option Counted
literal_if t = literal_of t.kind t.span

-- the kinds of the literals
abbrev pub literals : List ℕ
literals = number a_number ∷ number a_text ∷ number (a_word word'.True) ∷ number (a_word word'.False) ∷ []

-- what an expression begins with
abbrev pub expr_first : List ℕ
expr_first = unary_signs ++ (number (a_sign sign'.OpenParen) ∷ number (a_word word'.New) ∷ number a_name ∷ number (a_word word'.This) ∷ literals)

-- an expression, without the count of its operators
abbrev pub uncounted : Counted → Expr
uncounted c = c.0

-- what is made of the parts of: [expr {"," expr}]
abbrev pub arguments_of : Option (List Expr) → Exprs
arguments_of None = no_exprs
arguments_of (Some es) = exprs es

-- the reader of arguments with commas between them, of which there may be none
abbrev pub read_arguments : Reader Counted → Reader Exprs
read_arguments inner = read_as arguments_of (read_maybe expr_first (read_parted sign'.Comma (read_as uncounted inner)))

-- "(" [expr {"," expr}] ")"
abbrev pub read_applied : (ℕ → Reader Counted) → ℕ → Reader Exprs
read_applied inner room = read_counted sign'.OpenParen room (λ r. read_arguments (inner r)) sign'.CloseParen

-- what is made of the parts of: "new" named "(" [expr {"," expr}] ")"
abbrev pub new_of : (Span × (Named × Exprs)) × Span → Counted
new_of parts = (new_expr parts.0.1.0 parts.0.1.1 parts.1, 0)

-- the reader of a `new`, with its arguments
abbrev pub read_new : (ℕ → Reader Ref) → (ℕ → Reader Counted) → ℕ → Reader Counted
read_new refs inner room = read_as new_of (read_spanned (read_both (read_token (span_if (a_word word'.New))) (read_both (read_named refs room) (read_applied inner room))))

-- "." NAME "(" [expr {"," expr}] ")"
abbrev pub read_method : (ℕ → Reader Counted) → ℕ → Reader (Span × (NamePart × Exprs))
read_method inner room = read_both (read_token (span_if (a_sign sign'.Dot))) (read_both (read_token name_if) (read_applied inner room))

-- what is made of the parts of: "this", or a call of it
abbrev pub this_of : (Span × Option (Span × (NamePart × Exprs))) × Span → Counted
this_of ((token, None), span) = (this_expr token span, 0)
this_of ((token, Some (dot, (part, args))), span) = (call_expr (call_with (Some (subject'.This token)) part args) span, 0)

-- the reader of an expression that begins with `this`: the word alone, or a call of it
abbrev pub read_this : (ℕ → Reader Counted) → ℕ → Reader Counted
read_this inner room = read_as this_of (read_spanned (read_both (read_token (span_if (a_word word'.This))) (read_maybe (on sign'.Dot) (read_method inner room))))

-- what stands after a name: a method with its arguments, or arguments
pub data Tail : Type 0 where
  method : NamePart → Exprs → Tail
  applied : Exprs → Tail

-- what is made of the parts of: "." NAME "(" [expr {"," expr}] ")"
abbrev pub method_of : Span × (NamePart × Exprs) → Tail
method_of parts = method parts.1.0 parts.1.1

-- NAME, or a call
abbrev pub name_with_tail : (NamePart × Option Tail) × Span → Counted
name_with_tail ((part, None), span) = (name_expr part span, 0)
name_with_tail ((part, Some (method called args)), span) = (call_expr (call_with (Some (subject'.Name part)) called args) span, 0)
name_with_tail ((part, Some (applied args)), span) = (call_expr (call_with None part args) span, 0)

-- the reader of what stands after a name in a call
abbrev pub read_tail : (ℕ → Reader Counted) → ℕ → Reader Tail
read_tail inner room = read_either (on sign'.Dot) (read_as method_of (read_method inner room)) (read_as applied (read_applied inner room))

-- the reader of an expression that begins with a name: the name alone, or a call
abbrev pub read_name : (ℕ → Reader Counted) → ℕ → Reader Counted
read_name inner room = read_as name_with_tail (read_spanned (read_both (read_token name_if) (read_maybe (number (a_sign sign'.Dot) ∷ number (a_sign sign'.OpenParen) ∷ []) (read_tail inner room))))

-- NUMBER | STRING | "true" | "false" | NAME | "this" | call | new | "(" expr ")"
abbrev pub read_primary : (ℕ → Reader Ref) → (ℕ → Reader Counted) → ℕ → Reader Counted
read_primary refs inner room =
    read_either (on sign'.OpenParen) (read_group inner room)
    (read_either (number (a_word word'.New) ∷ []) (read_new refs inner room)
    (read_either (number a_name ∷ []) (read_name inner room)
    (read_either (number (a_word word'.This) ∷ []) (read_this inner room) (read_token literal_if))))
