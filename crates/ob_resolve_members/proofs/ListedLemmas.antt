-- What is noted of listed fields, one after another.
use Rattle.std.proofs.Common.{◌≡◌, ℕ, Bool, true, false, List, [], ◌∷◌, ◌++◌, Option, is_some, if◌then◌else◌, map, flat_map, length, take, drop, get_or, refl, sym, ap, ◌∙◌, ◌<◌, ◌+◌}
use Rattle.ob_base.specs.declared.fault.ProgramFault.{ProgramFault}
use Rattle.ob_tree.specs.NamesView.{named_of, ref_of, ref_of-out}
use Rattle.ob_tree.specs.Members.{Listed, Contract}
use Rattle.ob_tree.specs.MembersView.{listed_of}
use Rattle.ob_tree.specs.declared.name.NamePart.{NamePart}
use Rattle.ob_tree.specs.declared.name.RefNode.{RefNode, out-RefNode}
use Rattle.ob_tree.specs.declared.member.ListedNode.{ListedNode}
use Rattle.ob_table_spec.specs.Names.{Name, is_among, in_order_after, firsts}
use Rattle.ob_resolve_spec.specs.Declarations.{Program, part_of_named}
use Rattle.ob_resolve_spec.specs.Kinds.{kind_of_ref}
use Rattle.ob_resolve_spec.specs.Scopes.{kind_of_field}
use Rattle.ob_resolve_spec.specs.Sites.{Site, lists_field}
use Rattle.ob_resolve_spec.specs.TypeSites.{declared_sites}
use Rattle.ob_resolve_spec.specs.MemberSites.{listed_type_site, listed_sites}
use Rattle.ob_resolve_scope.specs.Numbered.{find, added, numbered}
use Rattle.ob_resolve_sites.specs.Noted.{noted, noted-append}
use Rattle.ob_resolve_members.specs.Parts.{listed_field_sites, listed_types_sites}
use Rattle.ob_resolve_sites.proofs.NamingLemmas.{naming, part_of_node}
use Rattle.ob_resolve_scope.proofs.BuildLemmas.{taken}
use Rattle.ob_resolve_members.proofs.WrittenLemmas.{name_in}
use Rattle.ob_resolve_members.proofs.ListTurns.{turn, flat_map-turn}
use Rattle.ob_resolve_members.proofs.SeenLemmas.{found-numbered, seen-turn}
use Rattle.ob_resolve_members.proofs.DistinctLists.{declared-map}

pub listed_fields_turn : (program : Program) (own : Contract) (l : Option ProgramFault) (xs : List ListedNode) (i : ℕ)
    (x : ListedNode)
    → i < length xs → x ≡ get_or xs i x
    → noted (noted l (listed_field_sites program own (listed_of x)))
    (flat_map (listed_field_sites program own) (map listed_of (drop (i + 1) xs)))
    ≡ noted l (flat_map (listed_field_sites program own) (map listed_of (drop i xs)))
listed_fields_turn program own l xs i x h is = flat_map-turn (listed_field_sites program own) listed_of l xs i x h is

-- the type of a listed field that is taken apart
pub listed_type_apart : (program : Program) (own : Contract) (field : NamePart) (node : RefNode)
    → listed_type_site program own field (ref_of node)
    ≡ lists_field (kind_of_field program own field.name) (kind_of_ref program (ref_of node)) (name_in node).span
listed_type_apart program own field node =
    let of = (out-RefNode node).of in
    let kind = kind_of_field program own field.name in
    ap (listed_type_site program own field) (ref_of-out node)
    ∙ ap (λ r. lists_field kind (kind_of_ref program r) (part_of_named (named_of of)).span) (sym (ref_of-out node))
    ∙ ap (λ name. lists_field kind (kind_of_ref program (ref_of node)) name.span) (part_of_node of)

-- a listed field whose name none before it has
abbrev pub first_listed : List Listed → Listed → List Listed
first_listed before x = if is_among x.name.name (map (λ l. l.name.name) before) then [] else x ∷ []

-- the types of such ones from a place on
abbrev pub rest_of_types : Program → Contract → List ListedNode → ℕ → List Site
rest_of_types program own xs i =
    listed_types_sites program own (in_order_after first_listed (map listed_of (take i xs)) (map listed_of (drop i xs)))

plain_names : (xs : List ListedNode) → map (λ l. l.name.name) (map listed_of xs) ≡ map (λ x. x.name.name) xs
plain_names [] = refl
plain_names (x ∷ xs) = ap (λ r. x.name.name ∷ r) (plain_names xs)

pub listed_seen_turn : (xs : List ListedNode) (i : ℕ) (x : ListedNode) → i < length xs → x ≡ get_or xs i x
    → added (numbered (map (λ x. x.name.name) (take i xs))) x.name.name i
    ≡ numbered (map (λ x. x.name.name) (take (i + 1) xs))
listed_seen_turn xs i x h is = seen-turn (λ x. x.name.name) xs i x h is

pub listed_types_turn : (program : Program) (own : Contract) (seen : List (Name × ℕ)) (l : Option ProgramFault)
    (xs : List ListedNode) (i : ℕ) (x : ListedNode)
    → i < length xs → x ≡ get_or xs i x → seen ≡ numbered (map (λ x. x.name.name) (take i xs))
    → (let site = listed_type_site program own x.name (ref_of x.of) in
    noted (noted l (if is_some (find x.name.name seen) then [] else site ∷ [])) (rest_of_types program own xs (i + 1))
    ≡ noted l (rest_of_types program own xs i))
listed_types_turn program own seen l xs i x h is e =
    let site = listed_type_site program own x.name (ref_of x.of) in
    let types = listed_types_sites program own in
    let before = map listed_of (take i xs) in
    let after = map listed_of (drop (i + 1) xs) in
    let rest = in_order_after first_listed (before ++ listed_of x ∷ []) after in
    let found = is_some (find x.name.name seen) in
    let among = is_among x.name.name (map (λ l. l.name.name) before) in
    let b : found ≡ among =
    ap (λ s. is_some (find x.name.name s)) e
    ∙ found-numbered x.name.name (map (λ x. x.name.name) (take i xs))
    ∙ ap (is_among x.name.name) (sym (plain_names (take i xs))) in
    ap (λ ls. noted (noted l (if found then [] else site ∷ [])) (types (in_order_after first_listed ls after)))
    (taken listed_of xs i x h is)
    ∙ ap (λ c. noted (noted l (if c then [] else site ∷ [])) (types rest)) b
    ∙ by among rest
    ∙ ap (λ r. noted l (types (in_order_after first_listed before (map listed_of r)))) (sym (turn xs i x h is))
  where
    by : (c : Bool) (rest : List Listed)
        → noted (noted l (if c then [] else listed_type_site program own x.name (ref_of x.of) ∷ []))
        (listed_types_sites program own rest)
        ≡ noted l (listed_types_sites program own ((if c then [] else listed_of x ∷ []) ++ rest))
    by true rest = refl
    by false rest = refl

-- the list, with its names gathered first
pub listed_noted : (l : Option ProgramFault) (program : Program) (own : Contract) (xs : List Listed)
    (names : List NamePart)
    → names ≡ map (λ l. l.name) xs
    → noted (noted (noted l (flat_map (listed_field_sites program own) xs)) (declared_sites (λ p. p) [] names))
    (listed_types_sites program own (firsts (λ l. l.name.name) xs))
    ≡ noted l (listed_sites program own xs)
listed_noted l program own xs names e =
    let fields = flat_map (listed_field_sites program own) xs in
    let declared = declared_sites (λ l. l.name) [] xs in
    let types = listed_types_sites program own (firsts (λ l. l.name.name) xs) in
    ap (λ ns. noted (noted (noted l fields) (declared_sites (λ p. p) [] ns)) types) e
    ∙ ap (λ ss. noted (noted (noted l fields) ss) types) (declared-map (λ (l : Listed). l.name) [] xs)
    ∙ ap (λ m. noted m types) (sym (noted-append l fields declared))
    ∙ sym (noted-append l (fields ++ declared) types)

pub ruleset listed = (
  naming,
  listed_fields_turn,
  listed_type_apart,
  listed_seen_turn,
  listed_types_turn,
  listed_noted,
)
