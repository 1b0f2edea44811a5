-- The laws of contracts and programs.
use Rattle.std.proofs.Common.{ℕ, ◌≡◌, Bool, true, false, List, [], ◌++◌, Option, Some, None, inl, inr, refl}
use Rattle.ob_base.specs.declared.fault.Span.{Span}
use Rattle.ob_lexer.specs.declared.token.Word.TheVariants as word'
use Rattle.ob_lexer.specs.declared.token.Sign.TheVariants as sign'
use Rattle.ob_tree.specs.Names.{Named, Ref}
use Rattle.ob_tree.specs.Stmts.{Block}
use Rattle.ob_tree.specs.Members.{Member, Contract}
use Rattle.ob_parser_spec.specs.Rows.{Row, Loaded, never, ◌⨟◌, word, flag, maybe}
use Rattle.ob_parser_spec.specs.NameRows.{ref, named as named_row}
use Rattle.ob_parser_spec.specs.StmtRows.{block}
use Rattle.ob_parser_spec.specs.MemberRows.{member, interface_member, title, body, of_interface, contract, program}
use Rattle.ob_parser_spec.specs.Readers.{Reader}
use Rattle.ob_parser_spec.specs.NameReaders.{on}
use Rattle.ob_parser_spec.specs.ContractReaders.{member_first, read_member, promise_first, read_interface_member, Title, ContractForm, contract_kind, read_contract_kind, interface_kind, read_interface_kind, read_kind, contract_of, main_of, read_main, contract_first, read_contract, read_program}
use Rattle.ob_parser_spec.proofs.Laws.{SpellsAsWell, Laws}
use Rattle.ob_parser_spec.proofs.Both.{both}
use Rattle.ob_parser_spec.proofs.Mapped.{Makes}
use Rattle.ob_parser_spec.proofs.Either.{one_of}
use Rattle.ob_parser_spec.proofs.RowLaws.{word_at, at_word, at_name, word_laws, after_laws, choice_laws, made, makes_laws, alike_laws, nothing_before, with_nothing_before}
use Rattle.ob_parser_spec.proofs.Each.{many_laws}
use Rattle.ob_parser_spec.proofs.MemberLaws.{member_laws, interface_member_laws}
use Rattle.ob_parser_spec.proofs.GenericLaws.{flag_laws, title_row, title_laws, body_row, body_laws, implementing, implements_laws}

-- ---- contracts and interfaces, from that word on

-- what stands after `contract`
abbrev Rest : Type 0
Rest = Title × (Option Named × (List Member × Span))

abbrev contract_rest : Rest → Row
contract_rest = both title_row (both (maybe implementing) (body_row member))

-- and after `interface`
abbrev interface_rest : Title × (List Member × Span) → Row
interface_rest = both title_row (body_row interface_member)

abbrev pub only_contract_kind : ContractForm → Row
only_contract_kind (false, rest) = word word'.Contract ⨟ contract_rest rest
only_contract_kind (true, rest) = never

abbrev pub only_interface_kind : ContractForm → Row
only_interface_kind (true, (name, (None, end))) = word word'.Interface ⨟ interface_rest (name, end)
only_interface_kind (true, (name, (Some of, end))) = never
only_interface_kind (false, rest) = never

abbrev pub kind_row : ContractForm → Row
kind_row = one_of only_contract_kind only_interface_kind

contract_kind_from : SpellsAsWell only_contract_kind (made contract_kind (both (word_at word'.Contract) contract_rest))
contract_kind_from (false, rest) read is = ((is.3.0, rest), refl, (is.0, is.1, is.2, is.3.1, is.4))
contract_kind_from (true, rest) read is = elim is [ ]

contract_kind_makes : Makes contract_kind (both (word_at word'.Contract) contract_rest) only_contract_kind
contract_kind_makes = record { to = λ parts read is. (is.0, is.1, is.2, (parts.0, is.3), is.4); from = contract_kind_from }

interface_kind_from : SpellsAsWell only_interface_kind (made interface_kind (both (word_at word'.Interface) interface_rest))
interface_kind_from (true, (name, (None, end))) read is = ((is.3.0, (name, end)), refl, (is.0, is.1, is.2, is.3.1, is.4))
interface_kind_from k read is = elim is [ ]

interface_kind_makes : Makes interface_kind (both (word_at word'.Interface) interface_rest) only_interface_kind
interface_kind_makes = record { to = λ parts read is. (is.0, is.1, is.2, (parts.0, is.3), is.4); from = interface_kind_from }

-- ---- main contracts, and all others

-- the tokens of a contract from `asset` on
abbrev from_asset : Contract → Row
from_asset c = flag word'.Asset c.asset ⨟ word word'.Contract ⨟ title c ⨟ maybe implementing c.implements ⨟ body member c

abbrev main_row : Bool → Bool → Contract → Row
main_row true false c = word word'.Main ⨟ from_asset c
main_row true true c = never
main_row false interface c = never

abbrev pub only_main : Contract → Row
only_main c = main_row c.main c.interface c

abbrev other_row : Bool → Bool → Contract → Row
other_row false false c = from_asset c
other_row false true c = of_interface false c.implements (flag word'.Asset c.asset ⨟ word word'.Interface ⨟ title c ⨟ body interface_member c)
other_row true interface c = never

abbrev pub only_other : Contract → Row
only_other c = other_row c.main c.interface c

-- a contract with these in place of its own
abbrev with_kind : Bool → Bool → Option Named → Contract → Contract
with_kind main interface of c = record c { main = main; interface = interface; implements = of }

-- what spells one spells the other, as is seen of each kind of contract
abbrev ByKind : (Contract → Row) → (Contract → Row) → Type 0
ByKind reads others = (main interface : Bool) (of : Option Named) (c : Contract) (read : List Loaded) → reads (with_kind main interface of c) read → others (with_kind main interface of c) read

by_kind : (reads others : Contract → Row) → ByKind reads others → SpellsAsWell reads others
by_kind reads others gives c = gives c.main c.interface c.implements c

-- its parts
abbrev title_of : Contract → Title
title_of c = (record { name = c.name; span = c.span }, c.param)

abbrev kind_of : Contract → ContractForm
kind_of c = (c.interface, (title_of c, (c.implements, (c.members, c.end))))

abbrev main_parts : Span × (Bool × ContractForm) → Row
main_parts = both (word_at word'.Main) (both (flag word'.Asset) only_contract_kind)

main_to : (place : Span) (asset : Bool) (k : ContractForm) (read : List Loaded) → main_parts (place, (asset, k)) read → only_main (main_of (place, (asset, k))) read
main_to place asset (false, rest) read is = (is.0, is.1, is.2, (place, is.3), is.4)
main_to place asset (true, rest) read is = elim is.4.4 [ ]

main_from : ByKind only_main (made main_of main_parts)
main_from true false of c read is = ((is.3.0, (c.asset, kind_of (with_kind true false of c))), refl, (is.0, is.1, is.2, is.3.1, is.4))
main_from main interface of c read is = elim is [ ]

main_makes : Makes main_of main_parts only_main
main_makes = record { to = λ parts. main_to parts.0 parts.1.0 parts.1.1; from = by_kind only_main (made main_of main_parts) main_from }

abbrev other_parts : Bool × ContractForm → Row
other_parts = both (flag word'.Asset) kind_row

other_to : (asset : Bool) (k : ContractForm) (read front back : List Loaded) → read ≡ front ++ back → flag word'.Asset asset front → kind_row k back → only_other (contract_of false (asset, k)) read
other_to asset (false, rest) read front back parts there (inl is) = (front, back, parts, there, is)
other_to asset (true, (name, (None, end))) read front back parts there (inr is) = (front, back, parts, there, is)
other_to asset k read front back parts there (inl is) = elim is [ ]
other_to asset k read front back parts there (inr is) = elim is [ ]

other_from : ByKind only_other (made (contract_of false) other_parts)
other_from false false of c read is = ((c.asset, kind_of (with_kind false false of c)), refl, (is.0, is.1, is.2, is.3, inl is.4))
other_from false true None c read is = ((c.asset, kind_of (with_kind false true None c)), refl, (is.0, is.1, is.2, is.3, inr is.4))
other_from main interface of c read is = elim is [ ]

other_makes : Makes (contract_of false) other_parts only_other
other_makes = record { to = λ parts read is. other_to parts.0 parts.1 read is.0 is.1 is.2 is.3 is.4; from = by_kind only_other (made (contract_of false) other_parts) other_from }

-- ---- contracts

contract_to : ByKind (one_of only_main only_other) contract
contract_to true false of c read (inl is) = is
contract_to false false of c read (inr is) = with_nothing_before is
contract_to false true of c read (inr is) = is
contract_to main interface of c read (inl is) = elim is [ ]
contract_to main interface of c read (inr is) = elim is [ ]

contract_from : ByKind contract (one_of only_main only_other)
contract_from true false of c read is = inl is
contract_from true true of c read is = elim is [ ]
contract_from false false of c read is = inr (nothing_before is)
contract_from false true of c read is = inr is

module _ (room : ℕ) (named : Reader Named) (refs : Reader Ref) (blocks : Reader Block)
    (n : Laws room named_row named at_name (on sign'.OpenBracket) false) (r : Laws room ref refs at_name (on sign'.Bar) false)
    (b : Laws room block blocks (on sign'.OpenBrace) [] false) where
  pub contract_kind_laws : Laws room only_contract_kind (read_contract_kind named refs blocks) (at_word word'.Contract) [] false
  contract_kind_laws =
      let end = body_laws room member (read_member refs blocks) member_first (member_laws room refs blocks r b) refl in
      let rest = after_laws (title_laws room) (after_laws (implements_laws room named n) end refl) refl in
      makes_laws contract_kind_makes (after_laws (word_laws room word'.Contract) rest refl)

  pub interface_kind_laws : Laws room only_interface_kind (read_interface_kind refs) (at_word word'.Interface) [] false
  interface_kind_laws =
      let end = body_laws room interface_member (read_interface_member refs) promise_first (interface_member_laws room refs r) refl in
      makes_laws interface_kind_makes (after_laws (word_laws room word'.Interface) (after_laws (title_laws room) end refl) refl)

  pub kind_laws : Laws room kind_row (read_kind named refs blocks) (at_word word'.Contract ++ at_word word'.Interface) [] false
  kind_laws = choice_laws contract_kind_laws interface_kind_laws refl

  pub main_laws : Laws room only_main (read_main named refs blocks) (at_word word'.Main) [] false
  main_laws = makes_laws main_makes (after_laws (word_laws room word'.Main) (after_laws (flag_laws word'.Asset room) contract_kind_laws refl) refl)

  pub contract_laws : Laws room contract (read_contract named refs blocks) contract_first [] false
  contract_laws =
      let other = makes_laws other_makes (after_laws (flag_laws word'.Asset room) kind_laws refl) in
      let to = by_kind (one_of only_main only_other) contract contract_to in
      let from = by_kind contract (one_of only_main only_other) contract_from in
      alike_laws contract to from (choice_laws main_laws other refl)

  pub program_laws : Laws room program (read_program named refs blocks) contract_first contract_first true
  program_laws = many_laws room contract (read_contract named refs blocks) contract_first [] contract_laws refl refl refl
