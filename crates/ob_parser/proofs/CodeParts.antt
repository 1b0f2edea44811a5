-- What rows answer that end with a row after what has been read.
use Rattle.std.proofs.Common.{◌≡◌, refl, List, Result}
use Rattle.std.specs.Borrow.{Bor}
use Rattle.ob_base.specs.declared.fault.Span.{Span}
use Rattle.ob_lexer.specs.declared.token.Token.{Token}
use Rattle.ob_lexer.specs.declared.token.Sign.TheVariants.{OpenBrace, CloseBrace, Semicolon}
use Rattle.ob_tree.specs.Names.{TypeExpr}
use Rattle.ob_tree.specs.MembersView.{field_of}
use Rattle.ob_tree.specs.declared.member.FieldNode.{FieldNode}
use Rattle.ob_tree.specs.declared.name.NamePart.{NamePart}
use Rattle.ob_parser_spec.specs.Readers.{Read, done, stop, deep, Reader, ◌>>=◌, name_if, read_token, read_both, read_as}
use Rattle.ob_parser_spec.specs.MemberReaders.{field_of as made_field, read_available}
use Rattle.ob_parser_spec.specs.StmtReaders.{read_sign}
use Rattle.ob_parser_spec.specs.ContractReaders.{members_of}
use Rattle.ob_tree.specs.Members.{Member}
use Rattle.ob_tree.specs.declared.member.Member.{Member as MemberNode}
use Rattle.ob_parser.specs.Parts.{body_parts}
use Rattle.ob_parser_expressions.specs.Answering.{Answers}
use Rattle.ob_parser_expressions.specs.declared.halt.Halt.{Halt}

module _ {A B D : Type 0} (x : B) (make : B × A → D) where
  -- a row after what has been read
  made_after : (r : Read A) → ((r >>= (λ y rest. done (x, y) rest)) >>= (λ z rest. done (make z) rest)) ≡ (r >>= (λ y rest. done (make (x, y)) rest))
  made_after (done y rest) = refl
  made_after (stop rest) = refl
  made_after (deep rest) = refl

-- what stands after the type of a field
abbrev named : Reader (NamePart × (List NamePart × Span))
named = read_both (read_token name_if) (read_both read_available (read_sign Semicolon))

-- a field, of what stands after its type
pub field_answer : (type : Reader TypeExpr) (r : Result (FieldNode × Bor (List Token)) Halt) (ts mid : List Token) (of : TypeExpr) → type ts ≡ done of mid → Answers field_of r (named mid >>= (λ parts left. done (made_field (of, parts)) left)) → Answers field_of r (read_as made_field (read_both type named) ts)
field_answer type r ts mid of begins is = rw begins (rw (made_after of made_field (named mid)) is)

module _ {A B D : Type 0} (place : D) (x : A) where
  body_closed : (r : Read B) → (((r >>= (λ y rest. done (x, y) rest)) >>= (λ y rest. done (place, y) rest)) >>= (λ (z : D × (A × B)) rest. done z.1 rest)) ≡ (r >>= (λ y rest. done (x, y) rest))
  body_closed (done y rest) = refl
  body_closed (stop rest) = refl
  body_closed (deep rest) = refl

-- members in braces, of what closes them
pub body_answer : (many : Reader (List Member)) (r : Result ((List MemberNode × Span) × Bor (List Token)) Halt) (ts mid after : List Token) (place : Span) (members : List Member) → read_sign OpenBrace ts ≡ done place mid → many mid ≡ done members after → Answers body_parts r (read_as (λ end. (members, end)) (read_sign CloseBrace) after) → Answers body_parts r (read_as members_of (read_both (read_sign OpenBrace) (read_both many (read_sign CloseBrace))) ts)
body_answer many r ts mid after place members opens reads is = rw (opens, reads) (rw (body_closed place members (read_sign CloseBrace after)) is)
