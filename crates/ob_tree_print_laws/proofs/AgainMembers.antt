-- The layouts of members are read again.
use Rattle.std.proofs.Common.{◌≡◌, Bool, true, false, List, [], ◌∷◌, ◌++◌, Option, Some, None, option_map, flat_map, map, inl, refl, ap, ap₂, append_assoc}
use Rattle.ob_lexer.specs.declared.token.TokenKind.TheVariants as kind
use Rattle.ob_lexer.specs.declared.token.Word.TheVariants as word'
use Rattle.ob_lexer.specs.declared.token.Sign.TheVariants.{OpenBrace, CloseBrace, OpenParen, CloseParen, Semicolon, Comma, At, DoubleGreater}
use Rattle.ob_tree.specs.Names.{TypeExpr}
use Rattle.ob_tree.specs.Members.{Field, Formal, Listed, state_member, field_member, constructor_member, transaction_member}
use Rattle.ob_tree_print.specs.NameTokens.{if_empty, tokens_of_perm, tokens_of_exit, tokens_of_type}
use Rattle.ob_tree_print.specs.MemberTokens.{tokens_of_available, tokens_of_field, tokens_of_fields, tokens_of_formal, tokens_of_formals, tokens_of_listed, tokens_of_list, tokens_of_result, tokens_of_constructor, tokens_of_access, tokens_of_head, tokens_of_member}
use Rattle.ob_tree.specs.declared.name.NamePart.{NamePart}
use Rattle.ob_tree.specs.declared.name.PermNode.{PermNode}
use Rattle.ob_parser_spec.specs.Rows.{Row, Loaded, ◌⨟◌, word, sign, name, maybe, each, parted, maybe_parted}
use Rattle.ob_parser_spec.specs.NameRows.{perm, type}
use Rattle.ob_parser_spec.specs.MemberRows.{available, field, exit, param, listed, privacy, head, fields_of_state, member, interface_member}
use Rattle.ob_tree_print_laws.specs.Unplaced.{nowhere, unplaced_name, unplaced_perm, unplaced_type, unplaced_field, unplaced_formal, unplaced_listed, unplaced_member}
use Rattle.ob_tree_print_laws.proofs.AgainRows.{Laid, alike, Again, ◌before◌, word_laid, sign_laid, put_laid, nothing_laid, never_laid, said_laid, layout_laid, filled_after, spanned_laid, separated, option_kinds, maybe_laid, each_laid, parted_laid, maybe_parted_laid}
use Rattle.ob_tree_print_laws.proofs.AgainNames.{name_again, subject_again, names_again, perm_again, named_again, ref_again, type_again}
use Rattle.ob_tree_print_laws.proofs.AgainStmts.{block_again}

-- ---- fields

available_again : Again available (map unplaced_name) tokens_of_available
unfolding if_empty
available_again [] = said_laid (λ read is. ([], is, refl)) nothing_laid
available_again (p ∷ ps) = said_laid says (word_laid word'.Available before word_laid word'.In before names_again Comma (p ∷ ps))
  where
    some : (qs : List NamePart) (read : List Loaded) → (word word'.Available ⨟ word word'.In ⨟ parted Comma name qs) read → available qs read
    some [] read is = elim is.4.4 [ ]
    some (q ∷ qs) read is = is

    says : (read : List Loaded) → (word word'.Available ⨟ word word'.In ⨟ alike (parted Comma name) (map unplaced_name) (p ∷ ps)) read → alike available (map unplaced_name) (p ∷ ps) read
    says read (f, b, e, first, (f₁, b₁, e₁, second, (qs, is, same))) = (qs, some qs read (f, b, e, first, (f₁, b₁, e₁, second, is)), same)

pub field_again : Again field unplaced_field tokens_of_field
field_again x = said_laid (λ read (f, b, e, (t, is, same), (f₁, b₁, e₁, (p, is₁, same₁), (f₂, b₂, e₂, (ps, is₂, same₂), end))). (record { of = t; name = p; available = ps }, (f, b, e, is, (f₁, b₁, e₁, is₁, (f₂, b₂, e₂, is₂, end))), λ i. record { of = same i; name = same₁ i; available = same₂ i })) (type_again x.of before name_again x.name before available_again x.available before sign_laid Semicolon)

fields_again : Again fields_of_state (map unplaced_field) tokens_of_fields
unfolding if_empty
fields_again [] = said_laid (λ read is. ([], inl is, refl)) (put_laid Semicolon 0)
fields_again (x ∷ xs) = said_laid says (sign_laid OpenBrace before each_laid field unplaced_field tokens_of_field field_again (x ∷ xs) before sign_laid CloseBrace)
  where
    not_none : {A : Type 0} (same : map unplaced_field [] ≡ map unplaced_field (x ∷ xs)) → A
    not_none same = absurd cc

    some : (ys : List Field) → map unplaced_field ys ≡ map unplaced_field (x ∷ xs) → (read : List Loaded) → (sign OpenBrace ⨟ each field ys ⨟ sign CloseBrace) read → fields_of_state ys read
    some [] same read is = not_none same
    some (y ∷ ys) same read is = is

    says : (read : List Loaded) → (sign OpenBrace ⨟ alike (each field) (map unplaced_field) (x ∷ xs) ⨟ sign CloseBrace) read → alike fields_of_state (map unplaced_field) (x ∷ xs) read
    says read (f, b, e, left, (f₁, b₁, e₁, (ys, is, same), right)) = (ys, some ys same read (f, b, e, left, (f₁, b₁, e₁, is, right)), same)

-- ---- parameters

exit_again : Again exit (option_map unplaced_perm) tokens_of_exit
exit_again with = layout_laid (same with) (maybe_laid (λ p. sign DoubleGreater ⨟ perm p) unplaced_perm (λ p. kind.Sign DoubleGreater ∷ tokens_of_perm p) after with)
  where
    same : (o : Option PermNode) → option_kinds (λ p. kind.Sign DoubleGreater ∷ tokens_of_perm p) o ≡ tokens_of_exit o
    same None = refl
    same (Some p) = refl

    after : Again (λ p. sign DoubleGreater ⨟ perm p) unplaced_perm (λ p. kind.Sign DoubleGreater ∷ tokens_of_perm p)
    after p = said_laid (λ read (f, b, e, arrow, (q, is, alike)). (q, (f, b, e, arrow, is), alike)) (sign_laid DoubleGreater before perm_again p)

param_again : Again param unplaced_formal tokens_of_formal
param_again x = said_laid (λ read (f, b, e, (t, is, same), (f₁, b₁, e₁, (with, is₁, same₁), (p, is₂, same₂))). (record { of = t; exit = with; name = p }, (f, b, e, is, (f₁, b₁, e₁, is₁, is₂)), λ i. record { of = same i; exit = same₁ i; name = same₂ i })) (type_again x.of before exit_again x.exit before subject_again x.name)

more_formals : (xs : List Formal) → flat_map (λ x. kind.Sign Comma ∷ tokens_of_formal x) xs ≡ tokens_of_formals false xs
more_formals [] = refl
more_formals (x ∷ xs) = ap (λ ks. kind.Sign Comma ∷ (tokens_of_formal x ++ ks)) (more_formals xs)

all_formals : (xs : List Formal) → separated Comma tokens_of_formal xs ≡ tokens_of_formals true xs
all_formals [] = refl
all_formals (x ∷ xs) = ap (λ ks. tokens_of_formal x ++ ks) (more_formals xs)

params_again : Again (maybe_parted Comma param) (map unplaced_formal) (tokens_of_formals true)
params_again xs = layout_laid (all_formals xs) (maybe_parted_laid Comma param unplaced_formal tokens_of_formal param_again xs)

-- ---- private transactions

listed_again : Again listed unplaced_listed tokens_of_listed
listed_again x = said_laid (λ read (f, b, e, (t, is, same), (f₁, b₁, e₁, (with, is₁, same₁), (p, is₂, same₂))). (record { of = t; exit = with; name = p }, (f, b, e, is, (f₁, b₁, e₁, is₁, is₂)), λ i. record { of = same i; exit = same₁ i; name = same₂ i })) (ref_again x.of before exit_again x.exit before name_again x.name)

more_listed : (xs : List Listed) → flat_map (λ x. kind.Sign Comma ∷ tokens_of_listed x) xs ≡ tokens_of_list false xs
more_listed [] = refl
more_listed (x ∷ xs) = ap (λ ks. kind.Sign Comma ∷ (tokens_of_listed x ++ ks)) (more_listed xs)

all_listed : (xs : List Listed) → separated Comma tokens_of_listed xs ≡ tokens_of_list true xs
all_listed [] = refl
all_listed (x ∷ xs) = ap (λ ks. tokens_of_listed x ++ ks) (more_listed xs)

privacy_again : (private : Bool) → Again (privacy private) (map unplaced_listed) (tokens_of_access private)
unfolding tokens_of_access if_empty
privacy_again false [] = said_laid (λ read is. ([], is, refl)) nothing_laid
privacy_again false (x ∷ xs) = never_laid
privacy_again true [] = said_laid (λ read is. ([], is, refl)) (word_laid word'.Private)
privacy_again true (x ∷ xs) = said_laid says (word_laid word'.Private before sign_laid OpenParen before layout_laid (all_listed (x ∷ xs)) (parted_laid Comma listed unplaced_listed tokens_of_listed listed_again (x ∷ xs)) before sign_laid CloseParen)
  where
    some : (ys : List Listed) (read : List Loaded) → (word word'.Private ⨟ sign OpenParen ⨟ parted Comma listed ys ⨟ sign CloseParen) read → privacy true ys read
    some [] read is = elim is.4.4.3 [ ]
    some (y ∷ ys) read is = is

    says : (read : List Loaded) → (word word'.Private ⨟ sign OpenParen ⨟ alike (parted Comma listed) (map unplaced_listed) (x ∷ xs) ⨟ sign CloseParen) read → alike (privacy true) (map unplaced_listed) (x ∷ xs) read
    says read (f, b, e, first, (f₁, b₁, e₁, left, (f₂, b₂, e₂, (ys, is, same), right))) = (ys, some ys read (f, b, e, first, (f₁, b₁, e₁, left, (f₂, b₂, e₂, is, right))), same)

-- ---- the head of a transaction

result_again : Again (maybe (λ t. word word'.Returns ⨟ type t)) (option_map unplaced_type) tokens_of_result
result_again result = layout_laid (same result) (maybe_laid (λ t. word word'.Returns ⨟ type t) unplaced_type (λ t. kind.Word word'.Returns ∷ tokens_of_type t) after result)
  where
    same : (o : Option TypeExpr) → option_kinds (λ t. kind.Word word'.Returns ∷ tokens_of_type t) o ≡ tokens_of_result o
    same None = refl
    same (Some t) = refl

    after : Again (λ t. word word'.Returns ⨟ type t) unplaced_type (λ t. kind.Word word'.Returns ∷ tokens_of_type t)
    after t = said_laid (λ read (f, b, e, returns, (u, is, alike)). (u, (f, b, e, returns, is), alike)) (word_laid word'.Returns before type_again t)

-- a head that is the same as this but for places
abbrev alike_head : NamePart → List Formal → Option TypeExpr → Row
alike_head part params result read =
    (p : NamePart) × (ps : List Formal) × (r : Option TypeExpr) × head p ps r read × (unplaced_name p ≡ unplaced_name part) × (map unplaced_formal ps ≡ map unplaced_formal params) × (option_map unplaced_type r ≡ option_map unplaced_type result)

head_again : (part : NamePart) (params : List Formal) (result : Option TypeExpr) → Laid (head part params result) (alike_head part params result) (tokens_of_head part params result)
unfolding tokens_of_head
head_again part params result = said_laid (λ read (f, b, e, first, (f₁, b₁, e₁, (p, is, same), (f₂, b₂, e₂, left, (f₃, b₃, e₃, (ps, is₁, same₁), (f₄, b₄, e₄, right, (r, is₂, same₂)))))). (p, ps, r, (f, b, e, first, (f₁, b₁, e₁, is, (f₂, b₂, e₂, left, (f₃, b₃, e₃, is₁, (f₄, b₄, e₄, right, is₂))))), same, same₁, same₂)) (layout_laid (simp append_assoc) (word_laid word'.Transaction before name_again part before sign_laid OpenParen before params_again params before sign_laid CloseParen before result_again result))

-- ---- members

pub member_again : Again member unplaced_member tokens_of_member
unfolding tokens_of_constructor tokens_of_head
member_again (state_member part fields span) = said_laid (λ read (s, (c, (f, b, e, first, (f₁, b₁, e₁, (p, is, same), (xs, is₁, same₁))))). (state_member p xs s, (c, (f, b, e, first, (f₁, b₁, e₁, is, is₁))), ap₂ (λ x y. state_member x y nowhere) same same₁)) (spanned_laid span tt (word_laid word'.State before name_again part before fields_again fields))
member_again (field_member x) = said_laid (λ read is. (field_member is.0, is.1, ap field_member is.2)) (field_again x)
member_again (constructor_member of with params body span) = said_laid (λ read (s, (c, (f, b, e, (n, is, same), (f₁, b₁, e₁, at, (f₂, b₂, e₂, (p, is₁, same₁), (f₃, b₃, e₃, left, (f₄, b₄, e₄, (ps, is₂, same₂), (f₅, b₅, e₅, right, (d, is₃, same₃))))))))). (constructor_member n p ps d s, (c, (f, b, e, is, (f₁, b₁, e₁, at, (f₂, b₂, e₂, is₁, (f₃, b₃, e₃, left, (f₄, b₄, e₄, is₂, (f₅, b₅, e₅, right, is₃))))))), cc)) (layout_laid (simp append_assoc) (spanned_laid span (filled_after _ _ _) (named_again of before sign_laid At before perm_again with before sign_laid OpenParen before params_again params before sign_laid CloseParen before block_again body)))
member_again (transaction_member private lists part params result (Some body) span) = said_laid (λ read (s, (c, (f, b, e, (ls, is, same), (f₁, b₁, e₁, (p, ps, r, is₁, same₁, same₂, same₃), (d, is₂, same₄))))). (transaction_member private ls p ps r (Some d) s, (c, (f, b, e, is, (f₁, b₁, e₁, is₁, is₂))), cc)) (spanned_laid span (filled_after _ _ _) (privacy_again private lists before head_again part params result before block_again body))
member_again (transaction_member private lists part params result None span) = never_laid

pub interface_member_again : Again interface_member unplaced_member tokens_of_member
unfolding tokens_of_access tokens_of_head if_empty
interface_member_again (state_member part [] span) = said_laid (λ read (s, (c, (f, b, e, first, (f₁, b₁, e₁, (p, is, same), end)))). (state_member p [] s, (c, (f, b, e, first, (f₁, b₁, e₁, is, end))), ap (λ x. state_member x [] nowhere) same)) (spanned_laid span tt (word_laid word'.State before name_again part before sign_laid Semicolon))
interface_member_again (transaction_member false [] part params result None span) = said_laid (λ read (s, (c, (f, b, e, (p, ps, r, is, same, same₁, same₂), end))). (transaction_member false [] p ps r None s, (c, (f, b, e, is, end)), cc)) (spanned_laid span tt (head_again part params result before sign_laid Semicolon))
interface_member_again m = never_laid
