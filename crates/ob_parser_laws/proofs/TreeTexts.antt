-- The names in the types of members and contracts that tokens spell are texts, and so those of the whole tree.
use Rattle.std.proofs.Common.{ℕ, ◌≡◌, Bool, true, false, List, [], ◌∷◌, ◌++◌, flat_map, Option, Some, None, refl, sym, subst}
use Rattle.std.specs.Prelude.{All}
use Rattle.std.specs.Option.{option_map_or}
use Rattle.std.proofs.lemmas.List.Elements.{All-from_recursion}
use Rattle.ob_lexer.specs.Lexis.{HasTokens}
use Rattle.ob_lexer.specs.declared.lexer.Lexed.{Lexed}
use Rattle.ob_lexer.specs.declared.token.Word.TheVariants as word'
use Rattle.ob_lexer.specs.declared.token.Sign.TheVariants.{Comma}
use Rattle.ob_tree.specs.Names.{Named, TypeExpr}
use Rattle.ob_tree.specs.Members.{Field, Formal, Listed, Member, state_member, field_member, constructor_member, transaction_member, Contract}
use Rattle.ob_tree.specs.declared.name.NamePart.{NamePart}
use Rattle.ob_parser_spec.specs.Rows.{Row, ◌⨟◌, word, flag, maybe, maybe_parted}
use Rattle.ob_parser_spec.specs.NameRows.{named, type}
use Rattle.ob_parser_spec.specs.MemberRows.{field, param, listed, privacy, head, fields_of_state, member, interface_member, title, body, of_interface, contract_kind, contract}
use Rattle.ob_parser_spec.specs.Grammar.{HasTree}
use Rattle.ob_generic_spec.specs.Uses.{Use, used, types_in_type, types_in_field, role_of_param, types_in_formal, types_in_listed, types_in_block, types_in_member, types_in_contract}
use Rattle.ob_generic_spec.specs.TextNames.{IsTextUse, HaveTextNames}
use Rattle.ob_generic_spec.specs.declared.role.Role.TheVariants.{Anywhere}
use Rattle.ob_parser_laws.proofs.TokenValues.{AreInRange, text_in_range}
use Rattle.ob_parser_laws.proofs.RowFacts.{Says, never_says, holds, both_say, so_says, first_says, then_says, spanning_says, each_says, tokens_in_range}
use Rattle.ob_parser_laws.proofs.TypeTexts.{AreTexts, both_say_texts, AreTextsIn, all_texts, parted_says, named_says, ref_says_texts, type_says_texts}
use Rattle.ob_parser_laws.proofs.BodyTexts.{block_says}

-- ---- members

abbrev formal_types : List Formal → List Use
formal_types params = flat_map types_in_formal params

abbrev listed_types : List Listed → List Use
listed_types lists = flat_map types_in_listed lists

abbrev result_types : Option TypeExpr → List Use
result_types result = option_map_or (types_in_type Anywhere) result []

field_says : (f : Field) → Says (field f) (AreTextsIn types_in_field f)
field_says f = first_says (type_says_texts Anywhere f.of)

formal_says : (f : Formal) → Says (param f) (AreTextsIn types_in_formal f)
formal_says f = first_says (type_says_texts (role_of_param f.name) f.of)

listed_says : (l : Listed) → Says (listed l) (AreTextsIn types_in_listed l)
listed_says l = first_says (ref_says_texts Anywhere l.of)

fields_say : (fields : List Field) → Says (fields_of_state fields) (AreTexts (flat_map types_in_field fields))
fields_say [] = holds tt
fields_say (f ∷ fs) =
    then_says (first_says (so_says (all_texts types_in_field (f ∷ fs))
    (each_says field (AreTextsIn types_in_field) field_says (f ∷ fs))))

formals_say : (params : List Formal)
    → Says (maybe_parted Comma param params) (AreTexts (formal_types params))
formals_say [] = holds tt
formals_say (f ∷ fs) =
    so_says (all_texts types_in_formal (f ∷ fs))
    (parted_says Comma param (AreTextsIn types_in_formal) formal_says (f ∷ fs))

privacy_says : (private : Bool) (lists : List Listed)
    → Says (privacy private lists) (AreTexts (listed_types lists))
privacy_says private [] = holds tt
privacy_says false (l ∷ ls) = never_says
privacy_says true (l ∷ ls) =
    then_says (then_says (first_says (so_says (all_texts types_in_listed (l ∷ ls))
    (parted_says Comma listed (AreTextsIn types_in_listed) listed_says (l ∷ ls)))))

result_says : (result : Option TypeExpr)
    → Says (maybe (λ t. word word'.Returns ⨟ type t) result) (AreTexts (result_types result))
result_says None = holds tt
result_says (Some t) = then_says (type_says_texts Anywhere t)

head_params : (part : NamePart) (params : List Formal) (result : Option TypeExpr)
    → Says (head part params result) (AreTexts (formal_types params))
head_params part params result = then_says (then_says (then_says (first_says (formals_say params))))

head_result : (part : NamePart) (params : List Formal) (result : Option TypeExpr)
    → Says (head part params result) (AreTexts (result_types result))
head_result part params result = then_says (then_says (then_says (then_says (then_says (result_says result)))))

member_says : (m : Member) → Says (member m) (AreTextsIn types_in_member m)
member_says (state_member part fields span) = spanning_says (then_says (then_says (fields_say fields)))
member_says (field_member f) = field_says f
member_says (constructor_member of with params body span) =
    spanning_says (both_say (first_says (named_says of))
    (then_says (then_says (then_says (then_says
    (both_say_texts (formal_types params) (types_in_block body) (first_says (formals_say params))
    (then_says (then_says (block_says body)))))))))
member_says (transaction_member private lists part params result (Some body) span) =
    spanning_says (both_say_texts (listed_types lists ++ formal_types params ++ result_types result) (types_in_block body)
    (both_say_texts (listed_types lists ++ formal_types params) (result_types result)
    (both_say_texts (listed_types lists) (formal_types params)
    (first_says (privacy_says private lists)) (then_says (first_says (head_params part params result))))
    (then_says (first_says (head_result part params result))))
    (then_says (then_says (block_says body))))
member_says (transaction_member private lists part params result None span) = never_says

interface_member_says : (m : Member) → Says (interface_member m) (AreTextsIn types_in_member m)
interface_member_says (state_member part [] span) = holds tt
interface_member_says (transaction_member false [] part params result None span) =
    spanning_says (first_says (both_say_texts (formal_types params ++ result_types result) []
    (both_say_texts (formal_types params) (result_types result)
    (head_params part params result) (head_result part params result)) (holds tt)))
interface_member_says m = never_says

-- ---- contracts

abbrev implemented : Option Named → List Use
implemented implements = option_map_or (λ of. used Anywhere of ∷ []) implements []

implements_says : (implements : Option Named)
    → Says (maybe (λ of. word word'.Implements ⨟ named of) implements) (AreTexts (implemented implements))
implements_says None = holds tt
implements_says (Some of) = so_says (λ known. (known, tt)) (then_says (named_says of))

body_says : (row : Member → Row) → ((m : Member) → Says (row m) (AreTextsIn types_in_member m)) → (c : Contract)
    → Says (body row c) (AreTexts (flat_map types_in_member c.members))
body_says row all c =
    then_says (first_says (so_says (all_texts types_in_member c.members)
    (each_says row (AreTextsIn types_in_member) all c.members)))

interface_says : (c : Contract) (main : Bool) (implements : Option Named) → c.implements ≡ implements
    → Says (of_interface main implements
    (flag word'.Asset c.asset ⨟ word word'.Interface ⨟ title c ⨟ body interface_member c)) (AreTextsIn types_in_contract c)
interface_says c false None none =
    both_say_texts (implemented c.implements) (flat_map types_in_member c.members)
    (holds (subst (λ o. AreTexts (implemented o)) (sym none) tt))
    (then_says (then_says (then_says (body_says interface_member interface_member_says c))))
interface_says c main implements is = never_says

kind_says : (c : Contract) (interface : Bool) → Says (contract_kind interface c) (AreTextsIn types_in_contract c)
kind_says c false =
    then_says (then_says (then_says (then_says
    (both_say_texts (implemented c.implements) (flat_map types_in_member c.members)
    (first_says (implements_says c.implements)) (then_says (body_says member member_says c))))))
kind_says c true = interface_says c c.main c.implements refl

abbrev HasTextTypes : Contract → Type 0
HasTextTypes c = All IsTextUse (types_in_contract c)

contract_says : (c : Contract) → Says (contract c) (HasTextTypes c)
contract_says c = so_says (All-from_recursion IsTextUse (types_in_contract c)) (kind_says c c.interface)

pub tree_texts : (text : List ℕ) (lexed : Lexed) (tree : List Contract) → HasTokens text lexed
    → HasTree lexed.tokens tree → HaveTextNames tree
tree_texts text lexed tree spelled has =
    let ranges = tokens_in_range has.read (subst AreInRange has.all (text_in_range text lexed spelled)) in
    All-from_recursion HasTextTypes tree ((each_says contract HasTextTypes contract_says tree).says has.read ranges has.spelled)
