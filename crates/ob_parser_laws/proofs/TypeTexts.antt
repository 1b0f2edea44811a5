-- The names in the types that tokens spell are texts.
use Rattle.std.proofs.Common.{ℕ, List, [], ◌∷◌, ◌++◌, flat_map, IsTrue}
use Rattle.std.specs.List.{AllByRecursion}
use Rattle.std.proofs.lemmas.List.Elements.{All-from_recursion}
use Rattle.ob_base.specs.Names.{is_text}
use Rattle.ob_base.specs.declared.fault.Span.{Span}
use Rattle.ob_lexer.specs.declared.token.Sign.{Sign}
use Rattle.ob_lexer.specs.declared.token.Sign.TheVariants.{Bar}
use Rattle.ob_lexer.specs.declared.token.TokenKind.TheVariants as kind
use Rattle.ob_tree.specs.Names.{Named, bare_name, name_with, Ref, ref_with, TypeExpr, int_type, bool_type, text_type, ref_type}
use Rattle.ob_tree.specs.declared.name.NamePart.{NamePart}
use Rattle.ob_tree.specs.declared.name.PermNode.{PermNode}
use Rattle.ob_tree.specs.declared.name.PermNode.TheVariants.{Mode, States}
use Rattle.ob_parser_spec.specs.Rows.{Row, ◌⨟◌, token, token_at, sign, name, parted}
use Rattle.ob_parser_spec.specs.NameRows.{perm, named, ref, type}
use Rattle.ob_generic_spec.specs.Uses.{Use, types_in_ref, types_in_type}
use Rattle.ob_generic_spec.specs.TextNames.{HasTextStates, HasTextNames, HasTextArgument, IsTextUse}
use Rattle.ob_generic_spec.specs.declared.role.Role.{Role}
use Rattle.ob_parser_laws.proofs.TokenValues.{name_is_text}
use Rattle.ob_parser_laws.proofs.RowFacts.{Says, never_says, holds, both_say, so_says, name_says, token_says, first_says, then_says, spanning_says, counted_says, each_says}

-- ---- types one after another

-- the names in these types are texts
abbrev pub AreTexts : List Use → Type 0
AreTexts uses = AllByRecursion IsTextUse uses

pub both_texts : (front back : List Use) → AreTexts front → AreTexts back → AreTexts (front ++ back)
both_texts [] back texts others = others
both_texts (u ∷ front) back texts others = (texts.0, both_texts front back texts.1 others)

pub both_say_texts : {row : Row} (front back : List Use) → Says row (AreTexts front) → Says row (AreTexts back)
    → Says row (AreTexts (front ++ back))
both_say_texts front back a b = so_says (λ known. both_texts front back known.0 known.1) (both_say a b)

-- the names in the types of each of these
abbrev pub AreTextsIn : {A : Type 0} → (A → List Use) → A → Type 0
AreTextsIn types x = AreTexts (types x)

pub all_texts : {A : Type 0} (types : A → List Use) (xs : List A) → AllByRecursion (AreTextsIn types) xs
    → AreTexts (flat_map types xs)
all_texts types [] all = tt
all_texts types (x ∷ xs) all = both_texts (types x) (flat_map types xs) all.0 (all_texts types xs all.1)

pub parted_says : {A : Type 0} (s : Sign) (row : A → Row) (Holds : A → Type 0) → ((x : A) → Says (row x) (Holds x))
    → (xs : List A) → Says (parted s row xs) (AllByRecursion Holds xs)
parted_says s row Holds all [] = never_says
parted_says s row Holds all (x ∷ xs) =
    both_say (first_says (all x)) (then_says (each_says (λ y. sign s ⨟ row y) Holds (λ y. then_says (all y)) xs))

-- ---- names and types

name_says_text : {n : List ℕ} {span : Span} → Says (token_at (kind.Name n) span) (IsTrue (is_text n))
name_says_text {n} = so_says (name_is_text n) name_says

token_says_text : {n : List ℕ} → Says (token (kind.Name n)) (IsTrue (is_text n))
token_says_text {n} = so_says (name_is_text n) token_says

abbrev IsTextPart : NamePart → Type 0
IsTextPart n = IsTrue (is_text n.name)

perm_says : (p : PermNode) → Says (perm p) (HasTextStates p)
perm_says (Mode mode span) = holds tt
perm_says (States states) =
    so_says (All-from_recursion IsTextPart states) (parted_says Bar name IsTextPart (λ n. name_says_text) states)

mutual
  pub named_says : (of : Named) → Says (named of) (HasTextNames of)
  named_says (bare_name n span) = name_says_text
  named_says (name_with n argument span) =
      spanning_says (both_say (first_says token_says_text) (then_says (counted_says (ref_says argument))))

  ref_says : (r : Ref) → Says (ref r) (HasTextArgument r)
  ref_says (ref_with of p) = both_say (first_says (named_says of)) (then_says (then_says (perm_says p)))

pub ref_says_texts : (role : Role) (r : Ref) → Says (ref r) (AreTexts (types_in_ref role r))
ref_says_texts role (ref_with of p) = so_says (λ known. (known, tt)) (first_says (named_says of))

pub type_says_texts : (role : Role) (t : TypeExpr) → Says (type t) (AreTexts (types_in_type role t))
type_says_texts role (int_type span) = holds tt
type_says_texts role (bool_type span) = holds tt
type_says_texts role (text_type span) = holds tt
type_says_texts role (ref_type of) = ref_says_texts role of
