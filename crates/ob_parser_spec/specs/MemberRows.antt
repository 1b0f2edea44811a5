-- Which tokens spell members, contracts and programs (the Obsidian language documentation, "Contracts"; Coblenz et al.,
-- TOPLAS 42(3), 2020).
use Rattle.std.specs.Prelude.{Bool, true, false, Option, Some, None, List, [], ◌∷◌}
use Rattle.ob_base.specs.declared.permission.Mode.{Mode}
use Rattle.ob_lexer.specs.declared.token.TokenKind.TheVariants as kind
use Rattle.ob_lexer.specs.declared.token.Word.TheVariants as word'
use Rattle.ob_lexer.specs.declared.token.Sign.TheVariants.{OpenBrace, CloseBrace, OpenParen, CloseParen, OpenBracket, CloseBracket, Semicolon, Comma, At, DoubleGreater}
use Rattle.ob_tree.specs.Names.{Named, TypeExpr}
use Rattle.ob_tree.specs.Members.{Field, Formal, Listed, Member, state_member, field_member, constructor_member, transaction_member, Contract}
use Rattle.ob_tree.specs.Words.{word_of_mode}
use Rattle.ob_tree.specs.declared.name.NamePart.{NamePart}
use Rattle.ob_tree.specs.declared.name.PermNode.{PermNode}
use Rattle.ob_tree.specs.declared.contract.ParamNode.{ParamNode}
use Rattle.ob_parser_spec.specs.Rows.{Row, never, nothing, either, ◌⨟◌, token_at, word, sign, name, flag, maybe, each, parted, maybe_parted, spanning}
use Rattle.ob_parser_spec.specs.NameRows.{subject, perm, named, ref, type}
use Rattle.ob_parser_spec.specs.StmtRows.{block}

-- ["available" "in" NAME {"," NAME}]
abbrev pub available : List NamePart → Row
available [] = nothing
available (state ∷ states) = word word'.Available ⨟ word word'.In ⨟ parted Comma name (state ∷ states)

-- type NAME ["available" "in" NAME {"," NAME}] ";"
abbrev pub field : Field → Row
field f = type f.of ⨟ name f.name ⨟ available f.available ⨟ sign Semicolon

-- [">>" perm]
abbrev pub exit : Option PermNode → Row
exit with = maybe (λ p. sign DoubleGreater ⨟ perm p) with

-- type [">>" perm] (NAME | "this")
abbrev pub param : Formal → Row
param f = type f.of ⨟ exit f.exit ⨟ subject f.name

-- ref [">>" perm] NAME
abbrev pub listed : Listed → Row
listed l = ref l.of ⨟ exit l.exit ⨟ name l.name

-- ["private" ["(" listed {"," listed} ")"]]
abbrev pub privacy : Bool → List Listed → Row
privacy false [] = nothing
privacy false (l ∷ ls) = never
privacy true [] = word word'.Private
privacy true (l ∷ ls) = word word'.Private ⨟ sign OpenParen ⨟ parted Comma listed (l ∷ ls) ⨟ sign CloseParen

-- "transaction" NAME "(" [params] ")" ["returns" type]
abbrev pub head : NamePart → List Formal → Option TypeExpr → Row
head part params result = word word'.Transaction ⨟ name part ⨟ sign OpenParen ⨟ maybe_parted Comma param params ⨟ sign CloseParen ⨟ maybe (λ t. word word'.Returns ⨟ type t) result

-- what stands after the name of a state: ";", or "{" {field} "}"
abbrev pub fields_of_state : List Field → Row
fields_of_state [] = either (sign Semicolon) (sign OpenBrace ⨟ sign CloseBrace)
fields_of_state (f ∷ fs) = sign OpenBrace ⨟ each field (f ∷ fs) ⨟ sign CloseBrace

-- the row of the grammar for a contract's member: a state, a field, a constructor or a transaction
abbrev pub member : Member → Row
-- "state" NAME (";" | "{" {field} "}")
member (state_member part fields span) = spanning span (word word'.State ⨟ name part ⨟ fields_of_state fields)
-- field
member (field_member f) = field f
-- named "@" perm "(" [params] ")" block
member (constructor_member of with params body span) = spanning span (named of ⨟ sign At ⨟ perm with ⨟ sign OpenParen ⨟ maybe_parted Comma param params ⨟ sign CloseParen ⨟ block body)
-- ["private" ["(" listed {"," listed} ")"]] head block
member (transaction_member private lists part params result (Some body) span) = spanning span (privacy private lists ⨟ head part params result ⨟ block body)
member (transaction_member private lists part params result None span) = never

-- "state" NAME ";" | head ";"
abbrev pub interface_member : Member → Row
interface_member (state_member part [] span) = spanning span (word word'.State ⨟ name part ⨟ sign Semicolon)
interface_member (transaction_member false [] part params result None span) = spanning span (head part params result ⨟ sign Semicolon)
interface_member m = never

-- ["where" NAME "is" mode]
abbrev pub bound : Option (NamePart × Mode) → Row
bound None = nothing
bound (Some b) = word word'.Where ⨟ name b.0 ⨟ word word'.Is ⨟ word (word_of_mode b.1)

-- "[" ["asset"] NAME "@" NAME ["where" NAME "is" mode] "]"
abbrev pub generic : ParamNode → Row
generic p = spanning p.span (sign OpenBracket ⨟ flag word'.Asset p.asset ⨟ name p.name ⨟ sign At ⨟ name p.perm ⨟ bound p.bound ⨟ sign CloseBracket)

-- its name and what is in brackets after it
abbrev pub title : Contract → Row
title c = token_at (kind.Name c.name) c.span ⨟ maybe generic c.param

-- what stands in the braces, and the closing one
abbrev pub body : (Member → Row) → Contract → Row
body row c = sign OpenBrace ⨟ each row c.members ⨟ token_at (kind.Sign CloseBrace) c.end

-- an interface isn't main, and implements none
abbrev pub of_interface : Bool → Option Named → Row → Row
of_interface false None row = row
of_interface main implements row = never

-- the row of the grammar for a contract, or for an interface if the flag is true
abbrev pub contract_kind : Bool → Contract → Row
-- ["main"] ["asset"] "contract" NAME [generic] ["implements" named] "{" {member} "}"
contract_kind false c = flag word'.Main c.main ⨟ flag word'.Asset c.asset ⨟ word word'.Contract ⨟ title c ⨟ maybe (λ of. word word'.Implements ⨟ named of) c.implements ⨟ body member c
-- ["asset"] "interface" NAME [generic] "{" { "state" NAME ";" | head ";" } "}"
contract_kind true c = of_interface c.main c.implements (flag word'.Asset c.asset ⨟ word word'.Interface ⨟ title c ⨟ body interface_member c)

-- contract | interface
abbrev pub contract : Contract → Row
contract c = contract_kind c.interface c

-- {contract | interface}
abbrev pub program : List Contract → Row
program cs = each contract cs
