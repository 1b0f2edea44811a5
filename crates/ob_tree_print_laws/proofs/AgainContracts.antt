-- The layouts of contracts and of programs are read again.
use Rattle.std.proofs.Common.{◌≡◌, Bool, true, false, List, ◌∷◌, Option, Some, None, option_map, map, refl, sym, ap, append_assoc}
use Rattle.ob_lexer.specs.declared.token.Token.{Token}
use Rattle.ob_lexer.specs.declared.token.TokenKind.{TokenKind}
use Rattle.ob_lexer.specs.declared.token.TokenKind.TheVariants as kind
use Rattle.ob_lexer.specs.declared.token.Word.{Word}
use Rattle.ob_lexer.specs.declared.token.Word.TheVariants as word'
use Rattle.ob_lexer.specs.declared.token.Sign.{Sign}
use Rattle.ob_lexer.specs.declared.token.Sign.TheVariants.{OpenBrace, CloseBrace, OpenBracket, CloseBracket, At}
use Rattle.ob_tree.specs.Names.{Named}
use Rattle.ob_tree.specs.Members.{Contract}
use Rattle.ob_tree.specs.Words.{word_of_mode}
use Rattle.ob_tree_print.specs.NameTokens.{tokens_of_named}
use Rattle.ob_tree_print.specs.MemberTokens.{tokens_of_member, tokens_of_bound, tokens_of_parameter, tokens_of_generic, tokens_of_implements, tokens_of_kinds, tokens_of_members, tokens_of_contract, tokens_of as kinds_of}
use Rattle.ob_tree.specs.declared.name.NamePart.{NamePart}
use Rattle.ob_tree.specs.declared.contract.ParamNode.{ParamNode}
use Rattle.ob_parser_spec.specs.Rows.{Row, Loaded, ◌⨟◌, token, word, sign, flag, maybe, each}
use Rattle.ob_parser_spec.specs.NameRows.{named}
use Rattle.ob_parser_spec.specs.MemberRows.{member, interface_member, bound, generic, title, body, of_interface, contract_kind, contract, program}
use Rattle.ob_parser_spec.specs.Grammar.{tokens_of}
use Rattle.ob_tree_print_laws.specs.Unplaced.{nowhere, unplaced_named, unplaced_member, unplaced_bound, unplaced_param, unplaced_contract, unplaced}
use Rattle.ob_tree_print_laws.proofs.AgainRows.{AllKinds, Laid, alike, Again, option_kinds, ◌before◌, span_laid, word_laid, sign_laid, nothing_laid, never_laid, said_laid, layout_laid, spanned_laid, flag_laid, maybe_laid, each_laid}
use Rattle.ob_tree_print_laws.proofs.AgainNames.{name_again, named_again}
use Rattle.ob_tree_print_laws.proofs.AgainMembers.{member_again, interface_member_again}

-- ---- generic parameters

bound_again : Again bound (option_map unplaced_bound) tokens_of_bound
bound_again None = said_laid (λ read is. (None, is, refl)) nothing_laid
bound_again (Some x) = said_laid (λ read (f, b, e, where', (f₁, b₁, e₁, (p, is, same), (f₂, b₂, e₂, is', m))). (Some (p, x.1), (f, b, e, where', (f₁, b₁, e₁, is, (f₂, b₂, e₂, is', m))), ap (λ (q : NamePart). Some (q, x.1)) same)) (word_laid word'.Where before name_again x.0 before word_laid word'.Is before word_laid (word_of_mode x.1))

-- the layout of a generic parameter
abbrev kinds_of_generic : ParamNode → List TokenKind
kinds_of_generic p = tokens_of_generic (Some p)

generic_again : Again generic unplaced_param kinds_of_generic
unfolding tokens_of_parameter
generic_again x = said_laid (λ read (s, (c, (f, b, e, left, (f₁, b₁, e₁, asset, (f₂, b₂, e₂, (p, is, same), (f₃, b₃, e₃, at, (f₄, b₄, e₄, (q, is₁, same₁), (f₅, b₅, e₅, (w, is₂, same₂), right)))))))). (record { asset = x.asset; name = p; perm = q; bound = w; span = s }, (c, (f, b, e, left, (f₁, b₁, e₁, asset, (f₂, b₂, e₂, is, (f₃, b₃, e₃, at, (f₄, b₄, e₄, is₁, (f₅, b₅, e₅, is₂, right))))))), λ i. record { asset = x.asset; name = same i; perm = same₁ i; bound = same₂ i; span = nowhere })) (spanned_laid x.span tt (layout_laid (simp append_assoc) (sign_laid OpenBracket before flag_laid word'.Asset x.asset before name_again x.name before sign_laid At before name_again x.perm before bound_again x.bound before sign_laid CloseBracket)))

generics_again : Again (maybe generic) (option_map unplaced_param) tokens_of_generic
generics_again None = maybe_laid generic unplaced_param kinds_of_generic generic_again None
generics_again (Some p) = maybe_laid generic unplaced_param kinds_of_generic generic_again (Some p)

-- what a contract implements
abbrev implements_row : Named → Row
implements_row of = word word'.Implements ⨟ named of

implements_again : Again (maybe implements_row) (option_map unplaced_named) tokens_of_implements
implements_again implements = layout_laid (same implements) (maybe_laid implements_row unplaced_named (λ of. kind.Word word'.Implements ∷ tokens_of_named of) after implements)
  where
    same : (o : Option Named) → option_kinds (λ of. kind.Word word'.Implements ∷ tokens_of_named of) o ≡ tokens_of_implements o
    same None = refl
    same (Some of) = refl

    after : Again implements_row unplaced_named (λ of. kind.Word word'.Implements ∷ tokens_of_named of)
    after of = said_laid (λ read (f, b, e, first, (n, is, alike)). (n, (f, b, e, first, is), alike)) (word_laid word'.Implements before named_again of)

-- ---- contracts

contract_laid : (c : Contract) → c.interface ≡ false → Laid (contract_kind false c) (alike contract unplaced_contract c) (tokens_of_contract c)
unfolding tokens_of_kinds tokens_of_members
contract_laid c kind_is = said_laid says (layout_laid (simp (kind_is, append_assoc)) (flag_laid word'.Main c.main before flag_laid word'.Asset c.asset before word_laid word'.Contract before (span_laid (kind.Name c.name) c.span 0 before generics_again c.param) before implements_again c.implements before (sign_laid OpenBrace before each_laid member unplaced_member tokens_of_member member_again c.members before span_laid (kind.Sign CloseBrace) c.end 0)))
  where
    says : (read : List Loaded) → (flag word'.Main c.main ⨟ flag word'.Asset c.asset ⨟ word word'.Contract ⨟ (token (kind.Name c.name) ⨟ alike (maybe generic) (option_map unplaced_param) c.param) ⨟ alike (maybe implements_row) (option_map unplaced_named) c.implements ⨟ (sign OpenBrace ⨟ alike (each member) (map unplaced_member) c.members ⨟ sign CloseBrace)) read → alike contract unplaced_contract c read
    says read (f, b, e, main, (f₁, b₁, e₁, asset, (f₂, b₂, e₂, first, (f₃, b₃, e₃, (f₄, b₄, e₄, (s, name), (g, is, same)), (f₅, b₅, e₅, (i, is₁, same₁), (f₆, b₆, e₆, left, (f₇, b₇, e₇, (ms, is₂, same₂), (t, right)))))))) = (
      record { main = c.main; asset = c.asset; interface = false; name = c.name; param = g; implements = i; members = ms; span = s; end = t },
      (f, b, e, main, (f₁, b₁, e₁, asset, (f₂, b₂, e₂, first, (f₃, b₃, e₃, (f₄, b₄, e₄, name, is), (f₅, b₅, e₅, is₁, (f₆, b₆, e₆, left, (f₇, b₇, e₇, is₂, right))))))),
      λ j. record { main = c.main; asset = c.asset; interface = sym kind_is j; name = c.name; param = same j; implements = same₁ j; members = same₂ j; span = nowhere; end = nowhere },
    )

-- what an interface is spelled by
abbrev interface_row : Contract → Row
interface_row c = flag word'.Asset c.asset ⨟ word word'.Interface ⨟ title c ⨟ body interface_member c

interface_laid : (c : Contract) → c.interface ≡ true → (main : Bool) → c.main ≡ main → (implements : Option Named) → c.implements ≡ implements → Laid (of_interface main implements (interface_row c)) (alike contract unplaced_contract c) (tokens_of_contract c)
unfolding tokens_of_kinds tokens_of_members
interface_laid c kind_is false main_is None none_is = said_laid says (layout_laid (simp (kind_is, main_is, none_is, append_assoc)) (flag_laid word'.Asset c.asset before word_laid word'.Interface before (span_laid (kind.Name c.name) c.span 0 before generics_again c.param) before (sign_laid OpenBrace before each_laid interface_member unplaced_member tokens_of_member interface_member_again c.members before span_laid (kind.Sign CloseBrace) c.end 0)))
  where
    says : (read : List Loaded) → (flag word'.Asset c.asset ⨟ word word'.Interface ⨟ (token (kind.Name c.name) ⨟ alike (maybe generic) (option_map unplaced_param) c.param) ⨟ (sign OpenBrace ⨟ alike (each interface_member) (map unplaced_member) c.members ⨟ sign CloseBrace)) read → alike contract unplaced_contract c read
    says read (f, b, e, asset, (f₁, b₁, e₁, first, (f₂, b₂, e₂, (f₃, b₃, e₃, (s, name), (g, is, same)), (f₄, b₄, e₄, left, (f₅, b₅, e₅, (ms, is₁, same₁), (t, right)))))) = (
      record { main = false; asset = c.asset; interface = true; name = c.name; param = g; implements = None; members = ms; span = s; end = t },
      (f, b, e, asset, (f₁, b₁, e₁, first, (f₂, b₂, e₂, (f₃, b₃, e₃, name, is), (f₄, b₄, e₄, left, (f₅, b₅, e₅, is₁, right))))),
      λ j. record { main = sym main_is j; asset = c.asset; interface = sym kind_is j; name = c.name; param = same j; implements = option_map unplaced_named (sym none_is j); members = same₁ j; span = nowhere; end = nowhere },
    )
interface_laid c kind_is main main_is implements none_is = never_laid

kind_laid : (c : Contract) (interface : Bool) → c.interface ≡ interface → Laid (contract_kind interface c) (alike contract unplaced_contract c) (tokens_of_contract c)
kind_laid c false is = contract_laid c is
kind_laid c true is = interface_laid c is c.main refl c.implements refl

pub contract_again : Again contract unplaced_contract tokens_of_contract
contract_again c = kind_laid c c.interface refl

-- ---- programs

program_laid : Again program unplaced kinds_of
program_laid tree = each_laid contract unplaced_contract tokens_of_contract contract_again tree

-- what is laid out is spelled again: tokens of these kinds spell a tree that is the same but for places
pub program_again : (tree : List Contract) (read : List Loaded) → program tree read → (ts : List Token) → map (λ (t : Token). t.kind) ts ≡ kinds_of tree → (other : List Contract) × (loads : List Loaded) × (tokens_of loads ≡ ts) × program other loads × (unplaced other ≡ unplaced tree)
program_again tree read is ts e = let r = (program_laid tree).can read is ts e in (r.2.0, r.0, r.1, r.2.1, r.2.2)

-- each kind of the layout is a word, a sign or the kind of a token that was read
pub kinds_within : (P : TokenKind → Type 0) → ((w : Word) → P (kind.Word w)) → ((s : Sign) → P (kind.Sign s)) → (tree : List Contract) (read : List Loaded) → program tree read → AllKinds P (map (λ (t : Token). t.kind) (tokens_of read)) → AllKinds P (kinds_of tree)
kinds_within P words signs tree read is = (program_laid tree).within read is P words signs
