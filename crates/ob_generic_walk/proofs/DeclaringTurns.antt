-- A loop's turn, in the lists of what contracts declare.
use Rattle.std.proofs.Common.{◌≡◌, ℕ, ◌<◌, ◌+◌, List, [], ◌∷◌, ◌++◌, map, length, take, get_or, sym, ap, ◌∙◌, append-nil}
use Rattle.std.specs.List.{flat_map}
use Rattle.std.proofs.lemmas.List.{take_more, map-append}
use Rattle.ob_tree.specs.MembersView.{member_of, contract_of}
use Rattle.ob_tree.specs.declared.contract.ContractNode.{ContractNode}
use Rattle.ob_tree.specs.declared.member.Member.{Member}
use Rattle.ob_tree.specs.declared.name.NamePart.{NamePart}
use Rattle.ob_table_spec.specs.Names.{Name}
use Rattle.ob_resolve_spec.specs.Declarations.{states_of_member}
use Rattle.ob_generic_spec.specs.Heads.{head_of, heads_of}
use Rattle.ob_generic_laws.proofs.Lists.{flat_map-append}

taken : {X Y : Type 0} (f : X → Y) (xs : List X) (i : ℕ) (x : X) → i < length xs → x ≡ get_or xs i x
    → map f (take (i + 1) xs) ≡ map f (take i xs) ++ f x ∷ []
taken f xs i x h is =
    ap (map f) (take_more xs i x h) ∙ map-append f (take i xs) (get_or xs i x ∷ [])
    ∙ ap (λ y. map f (take i xs) ++ f y ∷ []) (sym is)

abbrev name_of_part : NamePart → Name
name_of_part s = s.name

pub states_turn : (xs : List Member) (i : ℕ) (x : Member) → i < length xs → x ≡ get_or xs i x
    → map (λ s. s.name) (flat_map states_of_member (map member_of (take (i + 1) xs)))
    ≡ map (λ s. s.name) (flat_map states_of_member (map member_of (take i xs)))
    ++ map (λ s. s.name) (states_of_member (member_of x))
states_turn xs i x h is =
    let before = map member_of (take i xs) in
    ap (λ ms. map name_of_part (flat_map states_of_member ms)) (taken member_of xs i x h is)
    ∙ ap (map name_of_part) (flat_map-append states_of_member before (member_of x ∷ [])
    ∙ ap (λ l. flat_map states_of_member before ++ l) (append-nil (states_of_member (member_of x))))
    ∙ map-append name_of_part (flat_map states_of_member before) (states_of_member (member_of x))

pub heads_turn : (xs : List ContractNode) (i : ℕ) (x : ContractNode) → i < length xs → x ≡ get_or xs i x
    → heads_of (map contract_of (take (i + 1) xs)) ≡ heads_of (map contract_of (take i xs)) ++ head_of (contract_of x) ∷ []
heads_turn xs i x h is =
    ap heads_of (taken contract_of xs i x h is) ∙ map-append head_of (map contract_of (take i xs)) (contract_of x ∷ [])

pub ruleset turns = (states_turn, heads_turn)
