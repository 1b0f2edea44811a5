-- What is noted of a program: its contracts, one after another.
use Rattle.std.proofs.Common.{◌≡◌, ℕ, zero, suc, Bool, true, false, ◌&&◌, ◌||◌, List, [], ◌∷◌, ◌++◌, Option, Some, None, option_map, if◌then◌else◌, map, flat_map, filter, length, take, drop, get_or, refl, sym, ap, ◌∙◌, ◌<◌, ◌+◌, arith}
use Rattle.std.specs.Prelude.{slice_get}
use Rattle.std.specs.Option.{option_map_or}
use Rattle.std.proofs.lemmas.List.{append-nil}
use Rattle.std.proofs.lemmas.List.Elements.{filter-append}
use Rattle.ob_base.specs.Limits.{most_contracts}
use Rattle.ob_base.specs.declared.fault.ProgramFault.{ProgramFault}
use Rattle.ob_tree.specs.Members.{Contract}
use Rattle.ob_tree.specs.MembersView.{contract_of}
use Rattle.ob_tree.specs.declared.name.NamePart.{NamePart}
use Rattle.ob_tree.specs.declared.contract.ContractNode.{ContractNode}
use Rattle.ob_table_spec.specs.Names.{in_order_after}
use Rattle.ob_resolve_spec.specs.Declarations.{Program, contract_name, declared_contract}
use Rattle.ob_resolve_spec.specs.Sites.{Site, is_main}
use Rattle.ob_resolve_spec.specs.Faults.{is_not_empty}
use Rattle.ob_resolve_spec.specs.TypeSites.{declared_sites, limit_sites}
use Rattle.ob_resolve_spec.specs.MemberSites.{contract_sites, main_sites, sites_of}
use Rattle.ob_resolve_scope.specs.Types.{program_of}
use Rattle.ob_resolve_sites.specs.Noted.{noted_if, noted, noted-append}
use Rattle.ob_resolve_scope.proofs.BuildLemmas.{taken}
use Rattle.ob_resolve_members.proofs.ListTurns.{turn, flat_map-turn}
use Rattle.ob_resolve.proofs.ContractLemmas.{gathered}
use Rattle.ob_resolve_sites.proofs.NamingLemmas.{node_at}
use Rattle.ob_base.specs.Faults as faults

-- a main contract after others
abbrev pub main_site : List Contract → Contract → List Site
main_site before c = is_main before c.span ∷ []

-- the main contracts before a place
abbrev pub mains_before : List ContractNode → ℕ → List Contract
mains_before xs i = filter (λ c. c.main) (program_of (take i xs))

-- the main contracts from a place on
abbrev pub rest_of_mains : List ContractNode → ℕ → List Site
rest_of_mains xs i = in_order_after main_site (mains_before xs i) (filter (λ c. c.main) (program_of (drop i xs)))

-- one more, if it is one
abbrev with_main : List Contract → ContractNode → List Contract
with_main before x = before ++ (if x.main then contract_of x ∷ [] else [])

mains-taken : (xs : List ContractNode) (i : ℕ) (x : ContractNode) → i < length xs → x ≡ get_or xs i x
    → mains_before xs (i + 1) ≡ with_main (mains_before xs i) x
mains-taken xs i x h is =
    ap (filter (λ c. c.main)) (taken contract_of xs i x h is)
    ∙ filter-append (λ (c : Contract). c.main) (program_of (take i xs)) (contract_of x ∷ [])

more : {A : Type 0} (xs : List A) (x : A) (b : Bool)
    → is_not_empty (xs ++ (if b then x ∷ [] else [])) ≡ (is_not_empty xs || b)
more [] x true = refl
more [] x false = refl
more (y ∷ xs) x true = refl
more (y ∷ xs) x false = refl

pub seen_main_turn : (xs : List ContractNode) (i : ℕ) (x : ContractNode) → i < length xs → x ≡ get_or xs i x
    → (is_not_empty (mains_before xs i) || x.main) ≡ is_not_empty (mains_before xs (i + 1))
seen_main_turn xs i x h is =
    sym (ap is_not_empty (mains-taken xs i x h is) ∙ more (mains_before xs i) (contract_of x) x.main)

pub mains_turn : (seen : Bool) (l : Option ProgramFault) (xs : List ContractNode) (i : ℕ) (x : ContractNode)
    → i < length xs → x ≡ get_or xs i x → seen ≡ is_not_empty (mains_before xs i)
    → noted (noted_if l (x.main && seen) faults.two_mains x.span) (rest_of_mains xs (i + 1)) ≡ noted l (rest_of_mains xs i)
mains_turn seen l xs i x h is e =
    let before = mains_before xs i in
    let after = filter (λ c. c.main) (program_of (drop (i + 1) xs)) in
    let one = noted_if l (x.main && is_not_empty before) faults.two_mains x.span in
    ap (λ s. noted (noted_if l (x.main && s) faults.two_mains x.span) (rest_of_mains xs (i + 1))) e
    ∙ ap (λ b. noted one (in_order_after main_site b after)) (mains-taken xs i x h is)
    ∙ by x.main before after
    ∙ ap (λ r. noted l (in_order_after main_site before (filter (λ c. c.main) (program_of r)))) (sym (turn xs i x h is))
  where
    by : (m : Bool) (before after : List Contract)
        → noted (noted_if l (m && is_not_empty before) faults.two_mains x.span)
        (in_order_after main_site (before ++ (if m then contract_of x ∷ [] else [])) after)
        ≡ noted l (in_order_after main_site before (if m then contract_of x ∷ after else after))
    by true before after = refl
    by false before after = ap (λ b. noted l (in_order_after main_site b after)) (append-nil before)

slice_get_within : {A : Type 0} (xs : List A) (n : ℕ) → n < length xs
    → (x : A) × (slice_get xs n ≡ Some x) × (x ≡ get_or xs n x)
slice_get_within [] n l = absurd (omega arith)
slice_get_within (x ∷ xs) zero l = (x, refl, refl)
slice_get_within (x ∷ xs) (suc n) l = slice_get_within xs n (omega arith)

pub contracts_turn : (nodes : List ContractNode) (l : Option ProgramFault) (i : ℕ) → i < length nodes
    → (let sites = contract_sites (program_of nodes) in
    noted (noted l (option_map_or sites (declared_contract (program_of nodes) i) []))
    (flat_map sites (program_of (drop (i + 1) nodes)))
    ≡ noted l (flat_map sites (program_of (drop i nodes))))
contracts_turn nodes l i h =
    let sites = contract_sites (program_of nodes) in
    let w = slice_get_within nodes i h in
    ap (λ o. noted (noted l (option_map_or sites o [])) (flat_map sites (program_of (drop (i + 1) nodes))))
    (node_at nodes i ∙ ap (option_map contract_of) w.1)
    ∙ flat_map-turn sites contract_of l nodes i w.0 h w.2

-- a program, with the names of its contracts gathered first
pub program_noted : (l : Option ProgramFault) (program : Program) (names : List NamePart)
    → names ≡ map contract_name program
    → noted (noted (noted l (declared_sites (λ p. p) [] names ++ limit_sites (λ p. p) most_contracts names))
    (main_sites program))
    (flat_map (contract_sites program) program)
    ≡ noted l (sites_of program)
program_noted l program names e =
    let named = declared_sites contract_name [] program ++ limit_sites contract_name most_contracts program in
    let mains = main_sites program in
    let rest = flat_map (contract_sites program) program in
    ap (λ ss. noted (noted (noted l ss) mains) rest) (gathered contract_name most_contracts program names e)
    ∙ ap (λ m. noted m rest) (sym (noted-append l named mains))
    ∙ sym (noted-append l (named ++ mains) rest)

pub ruleset programs = (seen_main_turn, mains_turn, node_at, contracts_turn, program_noted)
