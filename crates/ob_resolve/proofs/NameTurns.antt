-- A loop's turn over contracts or members: the names that were gathered before a place, and those of the part there.
use Rattle.std.proofs.Common.{◌≡◌, ℕ, List, [], ◌∷◌, ◌++◌, map, flat_map, filter, refl, sym, ap, ◌∙◌, length, take, get_or, ◌<◌, ◌+◌, append_assoc}
use Rattle.std.proofs.lemmas.List.{map-append}
use Rattle.std.proofs.lemmas.List.Elements.{filter-append}
use Rattle.ob_tree.specs.MembersView.{field_of, member_of, contract_of}
use Rattle.ob_tree.specs.declared.name.NamePart.{NamePart}
use Rattle.ob_tree.specs.declared.member.FieldNode.{FieldNode}
use Rattle.ob_tree.specs.declared.member.Member.{Member}
use Rattle.ob_tree.specs.declared.contract.ContractNode.{ContractNode}
use Rattle.ob_table_spec.specs.Names.{Name, same}
use Rattle.ob_resolve_spec.specs.Declarations.{contract_name, part_of_named, states_of_member, FieldDeclaration, field_inside, fields_of_member, Constructor, constructors_of_member, transactions_of_member}
use Rattle.ob_resolve_scope.proofs.BuildLemmas.{taken, taken_parts}

pub contract_names_turn : (xs : List ContractNode) (i : ℕ) (x : ContractNode) → i < length xs → x ≡ get_or xs i x
    → map contract_name (map contract_of (take i xs)) ++ record { name = x.name; span = x.span } ∷ []
    ≡ map contract_name (map contract_of (take (i + 1) xs))
contract_names_turn xs i x h is =
    sym
    (ap (map contract_name) (taken contract_of xs i x h is)
    ∙ map-append contract_name (map contract_of (take i xs)) (contract_of x ∷ []))

pub states_turn : (xs : List Member) (i : ℕ) (x : Member) → i < length xs → x ≡ get_or xs i x
    → flat_map states_of_member (map member_of (take i xs)) ++ states_of_member (member_of x)
    ≡ flat_map states_of_member (map member_of (take (i + 1) xs))
states_turn xs i x h is = sym (taken_parts states_of_member member_of xs i x h is)

-- the names of fields inside a state are the fields' own
pub inside_names : (state : Name) (fs : List FieldNode)
    → map (λ f. f.field.name) (map (field_inside state) (map field_of fs)) ≡ map (λ f. f.name) fs
inside_names state [] = refl
inside_names state (f ∷ fs) = ap (λ r. f.name ∷ r) (inside_names state fs)

pub field_parts_turn : (out : List NamePart) (xs : List FieldNode) (i : ℕ) (x : FieldNode) → i < length xs
    → x ≡ get_or xs i x
    → (out ++ map (λ f. f.name) (take i xs)) ++ x.name ∷ [] ≡ out ++ map (λ f. f.name) (take (i + 1) xs)
field_parts_turn out xs i x h is =
    append_assoc out (map (λ f. f.name) (take i xs)) (x.name ∷ [])
    ∙ ap (λ r. out ++ r) (sym (taken (λ f. f.name) xs i x h is))

-- the fields that members declare
abbrev fields_in : List Member → List FieldDeclaration
fields_in xs = flat_map fields_of_member (map member_of xs)

pub fields_turn : (xs : List Member) (i : ℕ) (x : Member) → i < length xs → x ≡ get_or xs i x
    → map (λ f. f.field.name) (fields_in (take i xs)) ++ map (λ f. f.field.name) (fields_of_member (member_of x))
    ≡ map (λ f. f.field.name) (fields_in (take (i + 1) xs))
fields_turn xs i x h is =
    sym
    (ap (map (λ f. f.field.name)) (taken_parts fields_of_member member_of xs i x h is)
    ∙ map-append (λ f. f.field.name) (fields_in (take i xs)) (fields_of_member (member_of x)))

-- the names of those that are constructors of the contract of this name
abbrev names_of_own : Name → List Constructor → List NamePart
names_of_own own ms = map (λ m. part_of_named m.of) (filter (λ m. same own (part_of_named m.of).name) ms)

names_of_own-append : (own : Name) (xs ys : List Constructor)
    → names_of_own own (xs ++ ys) ≡ names_of_own own xs ++ names_of_own own ys
names_of_own-append own xs ys =
    let p = λ (m : Constructor). same own (part_of_named m.of).name in
    ap (map (λ m. part_of_named m.of)) (filter-append p xs ys)
    ∙ map-append (λ m. part_of_named m.of) (filter p xs) (filter p ys)

pub constructors_turn : (own : Name) (xs : List Member) (i : ℕ) (x : Member) → i < length xs → x ≡ get_or xs i x
    → names_of_own own (flat_map constructors_of_member (map member_of (take i xs)))
    ++ names_of_own own (constructors_of_member (member_of x))
    ≡ names_of_own own (flat_map constructors_of_member (map member_of (take (i + 1) xs)))
constructors_turn own xs i x h is =
    let before = flat_map constructors_of_member (map member_of (take i xs)) in
    sym
    (ap (names_of_own own) (taken_parts constructors_of_member member_of xs i x h is)
    ∙ names_of_own-append own before (constructors_of_member (member_of x)))

pub transactions_turn : (xs : List Member) (i : ℕ) (x : Member) → i < length xs → x ≡ get_or xs i x
    → map (λ t. t.name) (flat_map transactions_of_member (map member_of (take i xs)))
    ++ map (λ t. t.name) (transactions_of_member (member_of x))
    ≡ map (λ t. t.name) (flat_map transactions_of_member (map member_of (take (i + 1) xs)))
transactions_turn xs i x h is =
    let before = flat_map transactions_of_member (map member_of (take i xs)) in
    sym
    (ap (map (λ t. t.name)) (taken_parts transactions_of_member member_of xs i x h is)
    ∙ map-append (λ t. t.name) before (transactions_of_member (member_of x)))

pub ruleset name_turns = (
  contract_names_turn,
  states_turn,
  inside_names,
  field_parts_turn,
  fields_turn,
  constructors_turn,
  transactions_turn,
)
