-- What the parser computes of names, permissions and types, a reader for each row.
use Rattle.std.specs.Prelude.{ℕ, zero, suc, Option, List, [], ◌∷◌}
use Rattle.ob_base.specs.declared.fault.Span.{Span}
use Rattle.ob_base.specs.declared.permission.Mode.{Mode}
use Rattle.ob_lexer.specs.declared.token.Token.{Token}
use Rattle.ob_lexer.specs.declared.token.Sign.{Sign}
use Rattle.ob_lexer.specs.declared.token.Sign.TheVariants.{OpenBracket, CloseBracket, At, Bar}
use Rattle.ob_tree.specs.Names.{Named, Ref, ref_with}
use Rattle.ob_tree.specs.NamesView.{named_with}
use Rattle.ob_tree.specs.Words.{modes, word_of_mode}
use Rattle.ob_tree.specs.declared.name.NamePart.{NamePart}
use Rattle.ob_tree.specs.declared.name.PermNode.{PermNode}
use Rattle.ob_tree.specs.declared.name.PermNode.TheVariants as perm'
use Rattle.ob_parser_spec.specs.Symbols.{Symbol, a_word, a_sign, number}
use Rattle.ob_parser_spec.specs.Readers.{stop, Reader, span_if, one_if, kinds_among, name_if, read_token, read_both, read_either, read_as, read_opened, read_maybe, read_spanned, put_before, read_many}

-- the kind that a sign is
abbrev pub on : Sign → List ℕ
on s = number (a_sign s) ∷ []

-- the second of two
abbrev pub second : {A B : Type 0} → A × B → B
second pair = pair.1

-- "s" row
abbrev pub read_item : {A : Type 0} → Sign → Reader A → Reader A
read_item s p = read_as second (read_both (read_token (span_if (a_sign s))) p)

-- row {"s" row}
abbrev pub read_parted : {A : Type 0} → Sign → Reader A → Reader (List A)
read_parted s p = read_as put_before (read_both p (read_many (on s) (read_item s p)))

-- what stands between the two signs
abbrev pub inner : {A : Type 0} → (Span × A) × Span → A
inner parts = parts.0.1

-- a row between two signs that count
abbrev pub read_counted : {A : Type 0} → Sign → ℕ → (ℕ → Reader A) → Sign → Reader A
read_counted left room p right = read_as inner (read_both (read_opened (span_if (a_sign left)) 1 room p) (read_token (span_if (a_sign right))))

-- a name, what stands in brackets after it, and the place of both
abbrev pub named_parts : (NamePart × Option Ref) × Span → Named
named_parts parts = named_with parts.0.0.name parts.0.1 parts.1

-- the reader of the reference in brackets after a name, which may be left out
abbrev pub read_argument : (ℕ → Reader Ref) → ℕ → Reader (Option Ref)
read_argument p room = read_maybe (on OpenBracket) (read_counted OpenBracket room p CloseBracket)

-- the reader of a name, with the reference in brackets after it
abbrev pub read_named : (ℕ → Reader Ref) → ℕ → Reader Named
read_named p room = read_as named_parts (read_spanned (read_both (read_token name_if) (read_argument p room)))

-- the symbol of a mode
abbrev pub symbol_of_mode : Mode → Symbol
symbol_of_mode m = a_word (word_of_mode m)

-- a mode with its place
abbrev pub mode_with_span : Mode → Span → Mode × Span
mode_with_span m span = (m, span)

-- the mode that a token is, with its place
abbrev pub mode_if : Token → Option (Mode × Span)
mode_if = one_if symbol_of_mode modes

-- the kinds of the modes
abbrev pub kinds_of_modes : List ℕ
kinds_of_modes = kinds_among symbol_of_mode modes

-- the permission that is a mode, at its place
abbrev pub mode_perm : Mode × Span → PermNode
mode_perm parts = perm'.Mode parts.0 parts.1

-- the reader of a permission: a mode, or states with `|` between them
abbrev pub read_perm : Reader PermNode
read_perm = read_either kinds_of_modes (read_as mode_perm (read_token mode_if)) (read_as perm'.States (read_parted Bar (read_token name_if)))

-- a name, the sign `@` and a permission
abbrev pub ref_parts : Named × (Span × PermNode) → Ref
ref_parts parts = ref_with parts.0 parts.1.1

-- the reader of a reference, given the reader of the one in its brackets
abbrev pub read_ref_with : (ℕ → Reader Ref) → ℕ → Reader Ref
read_ref_with p room = read_as ref_parts (read_both (read_named p room) (read_both (read_token (span_if (a_sign At))) read_perm))

-- a reference with at most so many brackets inside one another
abbrev pub read_ref : ℕ → ℕ → Reader Ref
read_ref zero room = λ ts. stop ts
read_ref (suc depth) room = read_ref_with (read_ref depth) room
