-- A loop's turn, where the table is made.
use Rattle.std.proofs.Common.{◌≡◌, ℕ, zero, suc, ◌+◌, ◌<◌, Bool, true, false, List, [], ◌∷◌, ◌++◌, map, length, take, drop, get_or, Option, Some, None, refl, sym, ap, ◌∙◌, append_assoc, length-append, add-zero, arith}
use Rattle.std.specs.Prelude.{flat_map, filter, option_map, slice_get, is_some, unwrap_or, if◌then◌else◌}
use Rattle.std.specs.Option.{option_map_or}
use Rattle.std.proofs.lemmas.List.{map-append, append-nil, drop_more}
use Rattle.std.proofs.lemmas.Option.{slice_get_within, get_or_from_slice_get}
use Rattle.ob_tree.specs.Members.{Contract, Formal, Member}
use Rattle.ob_tree.specs.MembersView.{field_of, formal_of, listed_of, member_of, contract_of}
use Rattle.ob_tree.specs.declared.contract.ContractNode.{ContractNode}
use Rattle.ob_tree.specs.declared.name.NamePart.{NamePart}
use Rattle.ob_tree.specs.declared.member.FieldNode.{FieldNode}
use Rattle.ob_tree.specs.declared.member.FormalNode.{FormalNode}
use Rattle.ob_tree.specs.declared.member.ListedNode.{ListedNode}
use Rattle.ob_tree.specs.declared.member.Member.{Member as MemberNode}
use Rattle.ob_perm.specs.States.{anywhere}
use Rattle.ob_perm.specs.Masks.{states_of}
use Rattle.ob_table.specs.Statements.{ResolvedBody}
use Rattle.ob_table.specs.StatementsView.{resolved_body_of}
use Rattle.ob_table.specs.declared.body.Body.{Body}
use Rattle.ob_table.specs.declared.contract.Field.{Field}
use Rattle.ob_table.specs.declared.contract.Signature.{Signature}
use Rattle.ob_table.specs.declared.contract.Contract.{Contract as TableContract}
use Rattle.ob_resolve_spec.specs.declared.kind.InferredKind.{InferredKind}
use Rattle.ob_table_spec.specs.Names.{Name, same, in_order_after, in_order}
use Rattle.ob_resolve_spec.specs.Declarations.{Program, part_of_named, Constructor, constructors_of_member, constructors_of, default_constructor, constructor_of, states_of_member, availability, field_inside, fields_of_member, param_named, params_of, Transaction, transactions_of_member, transactions_of}
use Rattle.ob_resolve_spec.specs.Kinds.{kind_of_result}
use Rattle.ob_resolve_spec.specs.TableOf.{available_in, field_in_table, param_in_table, listed_in_table, transaction_in_table, body_with, constructor_body, transaction_bodies, bodies_of, contract_in_table}
use Rattle.ob_resolve_scope.specs.Types.{program_of}
use Rattle.ob_resolve_scope.specs.Around.{Standing}
use Rattle.ob_resolve_scope.proofs.BuildLemmas.{taken, taken_parts}
use Rattle.ob_resolve_bodies.proofs.StatesLemmas.{mask_anywhere}
use Rattle.ob_resolve_table.specs.Parts.{field_in_state, first_constructor, bodies_from}

-- The constructor.

filter-append : {X : Type 0} (p : X → Bool) (xs ys : List X) → filter p (xs ++ ys) ≡ filter p xs ++ filter p ys
filter-append p [] ys = refl
filter-append {X} p (x ∷ xs) ys = by (p x) (filter-append p xs ys)
  where
    by : (b : Bool) → filter p (xs ++ ys) ≡ filter p xs ++ filter p ys
        → (if b then x ∷ filter p (xs ++ ys) else filter p (xs ++ ys)) ≡ (if b then x ∷ filter p xs else filter p xs)
        ++ filter p ys
    by true e = ap (λ r. x ∷ r) e
    by false e = e

first_of_both : {X : Type 0} (xs ys : List X)
    → slice_get (xs ++ ys) 0 ≡ (if is_some (slice_get xs 0) then slice_get xs 0 else slice_get ys 0)
first_of_both [] ys = refl
first_of_both (x ∷ xs) ys = refl

pub constructors_turn : (name : Name) (xs : List MemberNode) (i : ℕ) (x : MemberNode) → i < length xs
    → x ≡ get_or xs i x
    → first_constructor name (flat_map constructors_of_member (map member_of (drop i xs)))
    ≡ (if is_some (first_constructor name (constructors_of_member (member_of x)))
    then first_constructor name (constructors_of_member (member_of x))
    else first_constructor name (flat_map constructors_of_member (map member_of (drop (i + 1) xs))))
constructors_turn name xs i x h is =
    let own : Constructor → Bool = λ m. same name (part_of_named m.of).name in
    ap (λ ys. first_constructor name (flat_map constructors_of_member (map member_of ys)))
    (drop_more xs i x h ∙ ap (λ y. y ∷ drop (i + 1) xs) (sym is))
    ∙ ap (λ cs. slice_get cs 0) (filter-append own (constructors_of_member (member_of x))
    (flat_map constructors_of_member (map member_of (drop (i + 1) xs))))
    ∙ first_of_both (filter own (constructors_of_member (member_of x)))
    (filter own (flat_map constructors_of_member (map member_of (drop (i + 1) xs))))

-- the constructor that is written is the contract's
pub constructor_found : (c : Contract) (m : Constructor) → Some m ≡ slice_get (constructors_of c) 0
    → m ≡ constructor_of c
constructor_found c m e = ap (λ o. unwrap_or o (default_constructor c)) e

-- States and fields.

-- what is said of each part of members, one member more
said_of : {X A : Type 0} (say : X → A) (parts : Member → List X) (xs : List MemberNode) (i : ℕ) (x : MemberNode)
    → i < length xs → x ≡ get_or xs i x
    → map say (flat_map parts (map member_of (take (i + 1) xs)))
    ≡ map say (flat_map parts (map member_of (take i xs))) ++ map say (parts (member_of x))
said_of say parts xs i x h is =
    ap (map say) (taken_parts parts member_of xs i x h is)
    ∙ map-append say (flat_map parts (map member_of (take i xs))) (parts (member_of x))

pub states_turn : (xs : List MemberNode) (i : ℕ) (x : MemberNode) → i < length xs → x ≡ get_or xs i x
    → map (λ s. s.name) (flat_map states_of_member (map member_of (take (i + 1) xs)))
    ≡ map (λ s. s.name) (flat_map states_of_member (map member_of (take i xs)))
    ++ map (λ s. s.name) (states_of_member (member_of x))
states_turn xs i x h is = said_of (λ s. s.name) states_of_member xs i x h is

pub inside_turn : (program : Program) (own : Contract) (state : Name) (ys : List Field) (xs : List FieldNode) (i : ℕ)
    (x : FieldNode)
    → i < length xs → x ≡ get_or xs i x
    → ys ++ map (field_in_state program own state) (take (i + 1) xs)
    ≡ (ys ++ map (field_in_state program own state) (take i xs)) ++ field_in_state program own state x ∷ []
inside_turn program own state ys xs i x h is =
    ap (λ r. ys ++ r) (taken (field_in_state program own state) xs i x h is)
    ∙ sym (append_assoc ys (map (field_in_state program own state) (take i xs))
    (field_in_state program own state x ∷ []))

pub fields_turn : (program : Program) (own : Contract) (xs : List MemberNode) (i : ℕ) (x : MemberNode) → i < length xs
    → x ≡ get_or xs i x
    → map (field_in_table program own) (flat_map fields_of_member (map member_of (take (i + 1) xs)))
    ≡ map (field_in_table program own) (flat_map fields_of_member (map member_of (take i xs)))
    ++ map (field_in_table program own) (fields_of_member (member_of x))
fields_turn program own xs i x h is = said_of (field_in_table program own) fields_of_member xs i x h is

-- the fields inside a state
pub fields_inside : (program : Program) (own : Contract) (state : Name) (xs : List FieldNode)
    → map (field_in_table program own) (map (field_inside state) (map field_of xs))
    ≡ map (field_in_state program own state) xs
fields_inside program own state [] = refl
fields_inside program own state (x ∷ xs) = ap (λ r. field_in_state program own state x ∷ r)
    (fields_inside program own state xs)

-- a field at the top without `available in`
pub always_available : (names : List Name) (states : List NamePart) (m : ℕ) → length states < 1 → states_of m ≡ anywhere
    → m ≡ available_in names (availability states)
always_available names [] m none e = mask_anywhere m e
always_available names (x ∷ states) m none e = absurd (omega arith)

-- Signatures.

params_of-push : (fs : List Formal) (f : Formal) → params_of (fs ++ f ∷ []) ≡ params_of fs
    ++ param_named f.of f.exit f.name
params_of-push [] f = append-nil (param_named f.of f.exit f.name)
params_of-push (g ∷ fs) f =
    ap (λ r. param_named g.of g.exit g.name ++ r) (params_of-push fs f)
    ∙ sym (append_assoc (param_named g.of g.exit g.name) (params_of fs) (param_named f.of f.exit f.name))

pub params_turn : (program : Program) (xs : List FormalNode) (i : ℕ) (x : FormalNode) → i < length xs
    → x ≡ get_or xs i x
    → map (param_in_table program) (params_of (map formal_of (take (i + 1) xs)))
    ≡ map (param_in_table program) (params_of (map formal_of (take i xs)))
    ++ map (param_in_table program) (param_named (formal_of x).of (formal_of x).exit (formal_of x).name)
params_turn program xs i x h is =
    ap (λ fs. map (param_in_table program) (params_of fs)) (taken formal_of xs i x h is)
    ∙ ap (map (param_in_table program)) (params_of-push (map formal_of (take i xs)) (formal_of x))
    ∙ map-append (param_in_table program) (params_of (map formal_of (take i xs)))
    (param_named (formal_of x).of (formal_of x).exit (formal_of x).name)

pub listed_turn : (program : Program) (own : Contract) (xs : List ListedNode) (i : ℕ) (x : ListedNode) → i < length xs
    → x ≡ get_or xs i x
    → map (listed_in_table program own) (map listed_of (take (i + 1) xs))
    ≡ map (listed_in_table program own) (map listed_of (take i xs)) ++ listed_in_table program own (listed_of x) ∷ []
listed_turn program own xs i x h is =
    ap (map (listed_in_table program own)) (taken listed_of xs i x h is)
    ∙ map-append (listed_in_table program own) (map listed_of (take i xs)) (listed_of x ∷ [])

pub transactions_turn : (program : Program) (own : Contract) (ys : List Signature) (xs : List MemberNode) (i : ℕ)
    (x : MemberNode)
    → i < length xs → x ≡ get_or xs i x
    → ys ++ map (transaction_in_table program own) (flat_map transactions_of_member (map member_of (take (i + 1) xs)))
    ≡ (ys ++ map (transaction_in_table program own) (flat_map transactions_of_member (map member_of (take i xs))))
    ++ map (transaction_in_table program own) (transactions_of_member (member_of x))
transactions_turn program own ys xs i x h is =
    ap (λ r. ys ++ r) (said_of (transaction_in_table program own) transactions_of_member xs i x h is)
    ∙ sym (append_assoc ys (map (transaction_in_table program own)
    (flat_map transactions_of_member (map member_of (take i xs))))
    (map (transaction_in_table program own) (transactions_of_member (member_of x))))

-- Bodies.

bodies_from-append : (program : Program) (own : Contract) (n : ℕ) (ts us : List Transaction)
    → bodies_from program own n (ts ++ us) ≡ bodies_from program own n ts ++ bodies_from program own (n + length ts) us
bodies_from-append program own n [] us = ap (λ k. bodies_from program own k us) (sym (add-zero n))
bodies_from-append program own n (t ∷ ts) us =
    let first = option_map_or (λ body. body_with program own n (kind_of_result program t.result) t.params body ∷ [])
    t.body [] in
    ap (λ r. first ++ r) (bodies_from-append program own (n + 1) ts us)
    ∙ sym (append_assoc first (bodies_from program own (n + 1) ts) (bodies_from program own (n + 1 + length ts) us))
    ∙ ap (λ k. (first ++ bodies_from program own (n + 1) ts) ++ bodies_from program own k us) (omega arith)

pub bodies_turn : (program : Program) (own : Contract) (ys : List ResolvedBody) (n : ℕ) (xs : List MemberNode) (i : ℕ)
    (x : MemberNode)
    → i < length xs → x ≡ get_or xs i x
    → ys ++ bodies_from program own n (flat_map transactions_of_member (map member_of (take (i + 1) xs)))
    ≡ (ys ++ bodies_from program own n (flat_map transactions_of_member (map member_of (take i xs))))
    ++ bodies_from program own (n + length (flat_map transactions_of_member (map member_of (take i xs))))
    (transactions_of_member (member_of x))
bodies_turn program own ys n xs i x h is =
    let before = flat_map transactions_of_member (map member_of (take i xs)) in
    ap (λ ts. ys ++ bodies_from program own n ts) (taken_parts transactions_of_member member_of xs i x h is)
    ∙ ap (λ r. ys ++ r) (bodies_from-append program own n before (transactions_of_member (member_of x)))
    ∙ sym (append_assoc ys (bodies_from program own n before)
    (bodies_from program own (n + length before) (transactions_of_member (member_of x))))

pub count_turn : (n : ℕ) (xs : List MemberNode) (i : ℕ) (x : MemberNode) → i < length xs → x ≡ get_or xs i x
    → n + length (flat_map transactions_of_member (map member_of (take (i + 1) xs)))
    ≡ n + length (flat_map transactions_of_member (map member_of (take i xs)))
    + length (transactions_of_member (member_of x))
count_turn n xs i x h is =
    ap (λ ts. n + length ts) (taken_parts transactions_of_member member_of xs i x h is)
    ∙ ap (λ k. n + k) (length-append (flat_map transactions_of_member (map member_of (take i xs)))
    (transactions_of_member (member_of x)))
    ∙ omega arith

-- bodies by the place of their transactions are those in order
from_place : (program : Program) (own : Contract) (before ts : List Transaction)
    → bodies_from program own (length before + 1) ts ≡ in_order_after (transaction_bodies program own) before ts
from_place program own before [] = refl
from_place program own before (t ∷ ts) =
    ap (λ r. transaction_bodies program own before t ++ r)
    (ap (λ k. bodies_from program own (k + 1) ts) (sym (length-append before (t ∷ [])))
    ∙ from_place program own (before ++ t ∷ []) ts)

bodies_in_order : (program : Program) (own : Contract) (ts : List Transaction)
    → bodies_from program own 1 ts ≡ in_order (transaction_bodies program own) ts
bodies_in_order program own ts = from_place program own [] ts

-- the constructor's body, and those of the transactions
pub bodies_made : (program : Program) (own : ContractNode) (old : List Body) (b : Body) (members : List MemberNode)
    → own.interface ≡ false → members ≡ own.members
    → resolved_body_of b ≡ constructor_body program (contract_of own) (constructor_of (contract_of own))
    → map resolved_body_of (old ++ b ∷ []) ++ bodies_from program (contract_of own) 1
    (flat_map transactions_of_member (map member_of members))
    ≡ map resolved_body_of old ++ bodies_of program (contract_of own)
bodies_made program own old b members object is made =
    let c = contract_of own in
    let first = constructor_body program c (constructor_of c) in
    let others = in_order (transaction_bodies program c) (transactions_of c) in
    ap (λ r. r ++ bodies_from program c 1 (flat_map transactions_of_member (map member_of members)))
    (map-append resolved_body_of old (b ∷ []))
    ∙ append_assoc (map resolved_body_of old) (resolved_body_of b ∷ [])
    (bodies_from program c 1 (flat_map transactions_of_member (map member_of members)))
    ∙ ap (λ r. map resolved_body_of old ++ resolved_body_of b ∷ r)
    (ap (λ ms. bodies_from program c 1 (flat_map transactions_of_member (map member_of ms))) is
    ∙ bodies_in_order program c (transactions_of c))
    ∙ ap (λ r. map resolved_body_of old ++ r ∷ others) made
    ∙ ap (λ i. map resolved_body_of old ++ (if i then [] else first ∷ others)) (sym object)

-- The whole table.

-- what stands around a body of the contract of a number
abbrev around_with : List ContractNode → ContractNode → InferredKind → Standing
around_with nodes own gives = record { program = nodes; own = own; result = gives }

pub around_at : (nodes : List ContractNode) (n : ℕ) (gives : InferredKind) (a : Standing)
    → Some a ≡ option_map (λ c. around_with nodes c gives) (slice_get nodes n)
    → (a.program ≡ nodes) × (slice_get nodes n ≡ Some a.own)
around_at nodes n gives a e = by (slice_get nodes n) e
  where
    by : (o : Option ContractNode) → Some a ≡ option_map (λ c. around_with nodes c gives) o
        → (a.program ≡ nodes) × (o ≡ Some a.own)
    by None e = absurd cc
    by (Some c) e = let is : a ≡ around_with nodes c gives = cc in
        (ap (λ (s : Standing). s.program) is, ap (λ (s : Standing). Some s.own) (sym is))

pub contracts_turn : (nodes : List ContractNode) (n : ℕ) (node : ContractNode) → slice_get nodes n ≡ Some node
    → program_of (take (n + 1) nodes) ≡ program_of (take n nodes) ++ contract_of node ∷ []
contracts_turn nodes n node at =
    taken contract_of nodes n node (slice_get_within nodes n node at) (sym (get_or_from_slice_get nodes n node node at))

-- the table's contracts and bodies, one contract more
pub table_turn : (program : Program) (nodes : List ContractNode) (n : ℕ) (node : ContractNode)
    (contracts made : List TableContract)
    → slice_get nodes n ≡ Some node → contracts ≡ map (contract_in_table program) (program_of (take n nodes))
    → made ≡ contracts ++ contract_in_table program (contract_of node) ∷ []
    → made ≡ map (contract_in_table program) (program_of (take (n + 1) nodes))
table_turn program nodes n node contracts made at before is =
    is ∙ ap (λ cs. cs ++ contract_in_table program (contract_of node) ∷ []) before
    ∙ sym (ap (map (contract_in_table program)) (contracts_turn nodes n node at)
    ∙ map-append (contract_in_table program) (program_of (take n nodes)) (contract_of node ∷ []))

flat_map-push : {X Y : Type 0} (f : X → List Y) (xs : List X) (x : X) → flat_map f (xs ++ x ∷ []) ≡ flat_map f xs ++ f x
flat_map-push f [] x = append-nil (f x)
flat_map-push f (y ∷ xs) x = ap (λ r. f y ++ r) (flat_map-push f xs x) ∙ sym (append_assoc (f y) (flat_map f xs) (f x))

pub all_bodies_turn : (program : Program) (nodes : List ContractNode) (n : ℕ) (node : ContractNode)
    (bodies made : List ResolvedBody)
    → slice_get nodes n ≡ Some node → bodies ≡ flat_map (bodies_of program) (program_of (take n nodes))
    → made ≡ bodies ++ bodies_of program (contract_of node)
    → made ≡ flat_map (bodies_of program) (program_of (take (n + 1) nodes))
all_bodies_turn program nodes n node bodies made at before is =
    is ∙ ap (λ bs. bs ++ bodies_of program (contract_of node)) before
    ∙ sym (ap (flat_map (bodies_of program)) (contracts_turn nodes n node at)
    ∙ flat_map-push (bodies_of program) (program_of (take n nodes)) (contract_of node))

pub no_contract : (nodes : List ContractNode) (n : ℕ) (gives : InferredKind) → n < length nodes
    → None ≡ option_map (λ c. around_with nodes c gives) (slice_get nodes n) → ⊥
no_contract nodes n gives within e = missing (slice_get nodes n) e (there nodes n within)
  where
    there : (xs : List ContractNode) (n : ℕ) → n < length xs → is_some (slice_get xs n) ≡ true
    there [] n within = absurd (omega arith)
    there (x ∷ xs) zero within = refl
    there (x ∷ xs) (suc n) within = there xs n (omega arith)

    missing : (o : Option ContractNode) → None ≡ option_map (λ c. around_with nodes c gives) o → is_some o ≡ true → ⊥
    missing None e s = absurd cc
    missing (Some c) e s = absurd cc

pub ruleset turns = (
  constructors_turn,
  states_turn,
  inside_turn,
  fields_turn,
  params_turn,
  listed_turn,
  transactions_turn,
  append-nil,
)
