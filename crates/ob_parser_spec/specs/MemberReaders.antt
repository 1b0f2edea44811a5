-- What the parser computes of parameters and of what stands before a transaction's block, a reader for each row.
use Rattle.std.specs.Prelude.{ℕ, Option, Some, None, List, [], ◌∷◌, ◌++◌}
use Rattle.ob_base.specs.declared.fault.Span.{Span}
use Rattle.ob_lexer.specs.declared.token.Token.{Token}
use Rattle.ob_lexer.specs.declared.token.TokenKind.{TokenKind}
use Rattle.ob_lexer.specs.declared.token.TokenKind.TheVariants as kind
use Rattle.ob_lexer.specs.declared.token.Word.TheVariants as word'
use Rattle.ob_lexer.specs.declared.token.Sign.{Sign}
use Rattle.ob_lexer.specs.declared.token.Sign.TheVariants as sign'
use Rattle.ob_tree.specs.Names.{Ref, TypeExpr, int_type, bool_type, text_type, ref_type}
use Rattle.ob_tree.specs.Members.{Field, Formal, Listed}
use Rattle.ob_tree.specs.declared.name.NamePart.{NamePart}
use Rattle.ob_tree.specs.declared.name.PermNode.{PermNode}
use Rattle.ob_tree.specs.declared.name.Subject.{Subject}
use Rattle.ob_tree.specs.declared.name.Subject.TheVariants as subject'
use Rattle.ob_parser_spec.specs.Symbols.{a_name, a_word, a_sign, number}
use Rattle.ob_parser_spec.specs.Readers.{Reader, span_if, name_if, read_token, read_both, read_either, read_as, read_maybe}
use Rattle.ob_parser_spec.specs.NameReaders.{on, second, read_parted, read_perm}

-- `int`, `bool` or `string`
abbrev pub value_type_of : TokenKind → Span → Option TypeExpr
value_type_of (kind.Word word'.Int) span = Some (int_type span)
value_type_of (kind.Word word'.Bool) span = Some (bool_type span)
value_type_of (kind.Word word'.String) span = Some (text_type span)
value_type_of k span = None

-- the type `int`, `bool` or `string` that a token is, with its place
abbrev pub value_type_if : Token → Option TypeExpr
value_type_if t = value_type_of t.kind t.span

-- the kinds of `int`, `bool` and `string`
abbrev pub value_types : List ℕ
value_types = number (a_word word'.Int) ∷ number (a_word word'.Bool) ∷ number (a_word word'.String) ∷ []

-- a type
abbrev pub read_type : Reader Ref → Reader TypeExpr
read_type refs = read_either value_types (read_token value_type_if) (read_as ref_type refs)

-- what is made of the parts of: NAME | "this"
abbrev pub subject_of : TokenKind → Span → Option Subject
subject_of (kind.Word word'.This) span = Some (subject'.This span)
subject_of (kind.Name n) span = Some (subject'.Name (record { name = n; span = span }))
subject_of k span = None

-- the name or `this` that a token is, with its place
abbrev pub subject_if : Token → Option Subject
subject_if t = subject_of t.kind t.span

-- the kinds of a name and of `this`
abbrev pub subjects : List ℕ
subjects = number a_name ∷ number (a_word word'.This) ∷ []

-- [">>" perm]
abbrev pub read_exit : Reader (Option PermNode)
read_exit = read_maybe (on sign'.DoubleGreater) (read_as second (read_both (read_token (span_if (a_sign sign'.DoubleGreater))) read_perm))

-- what is made of the parts of: type [">>" perm] (NAME | "this")
abbrev pub formal_of : TypeExpr × (Option PermNode × Subject) → Formal
formal_of parts = record { of = parts.0; exit = parts.1.0; name = parts.1.1 }

-- the reader of a parameter, with the permission after `>>`
abbrev pub read_param : Reader Ref → Reader Formal
read_param refs = read_as formal_of (read_both (read_type refs) (read_both read_exit (read_token subject_if)))

-- what is made of the parts of: ref [">>" perm] NAME
abbrev pub listed_of : Ref × (Option PermNode × NamePart) → Listed
listed_of parts = record { of = parts.0; exit = parts.1.0; name = parts.1.1 }

-- the reader of a field in the list of a private transaction, with the permission after `>>`
abbrev pub read_listed : Reader Ref → Reader Listed
read_listed refs = read_as listed_of (read_both refs (read_both read_exit (read_token name_if)))

-- a list that may be left out
abbrev pub list_of : {A : Type 0} → Option (List A) → List A
list_of None = []
list_of (Some xs) = xs

-- [row {"s" row}]
abbrev pub read_maybe_parted : {A : Type 0} → List ℕ → Sign → Reader A → Reader (List A)
read_maybe_parted kinds s p = read_as list_of (read_maybe kinds (read_parted s p))

-- what is made of the parts of: "available" "in" NAME {"," NAME}
abbrev pub states_of : Span × (Span × List NamePart) → List NamePart
states_of parts = parts.1.1

-- the reader of the states where a field is available, from the word `available` on
abbrev pub read_states : Reader (List NamePart)
read_states = read_as states_of (read_both (read_token (span_if (a_word word'.Available))) (read_both (read_token (span_if (a_word word'.In))) (read_parted sign'.Comma (read_token name_if))))

-- ["available" "in" NAME {"," NAME}]
abbrev pub read_available : Reader (List NamePart)
read_available = read_as list_of (read_maybe (number (a_word word'.Available) ∷ []) read_states)

-- what is made of the parts of: type NAME ["available" "in" NAME {"," NAME}] ";"
abbrev pub field_of : TypeExpr × (NamePart × (List NamePart × Span)) → Field
field_of parts = record { of = parts.0; name = parts.1.0; available = parts.1.1.0 }

-- the reader of a field, with the states where it is available
abbrev pub read_field : Reader Ref → Reader Field
read_field refs = read_as field_of (read_both (read_type refs) (read_both (read_token name_if) (read_both read_available (read_token (span_if (a_sign sign'.Semicolon))))))

-- "transaction" NAME "(" [params] ")" ["returns" type]: its name, parameters and result
abbrev pub Head : Type 0
Head = NamePart × (List Formal × Option TypeExpr)

-- what is made of the parts of: "transaction" NAME "(" [params] ")" ["returns" type]
abbrev pub head_of : Span × (NamePart × (Span × (List Formal × (Span × Option TypeExpr)))) → Head
head_of parts = (parts.1.0, (parts.1.1.1.0, parts.1.1.1.1.1))

-- what a type begins with
abbrev pub types : List ℕ
types = value_types ++ number a_name ∷ []

-- the reader of the type of a transaction's result, which may be left out
abbrev pub read_result : Reader Ref → Reader (Option TypeExpr)
read_result refs = read_maybe (number (a_word word'.Returns) ∷ []) (read_as second (read_both (read_token (span_if (a_word word'.Returns))) (read_type refs)))

-- the reader of a transaction's head: its name, parameters and result
abbrev pub read_head : Reader Ref → Reader Head
read_head refs =
    read_as head_of (read_both (read_token (span_if (a_word word'.Transaction))) (read_both (read_token name_if) (read_both (read_token (span_if (a_sign sign'.OpenParen)))
    (read_both (read_maybe_parted types sign'.Comma (read_param refs)) (read_both (read_token (span_if (a_sign sign'.CloseParen))) (read_result refs))))))
