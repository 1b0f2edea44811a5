-- A loop's turn, in each list of a program: what stands before the next place is one part more.
use Rattle.std.proofs.Common.{◌≡◌, ℕ, ◌+◌, ◌<◌, Bool, true, false, List, [], ◌∷◌, ◌++◌, map, length, take, drop, get_or, Option, Some, None, refl, sym, ap, arith, ◌∙◌, append_assoc, length-append}
use Rattle.std.specs.Prelude.{flat_map, filter, option_map, slice_get, is_some, unwrap_or, if◌then◌else◌}
use Rattle.std.proofs.lemmas.List.{map-append, append-nil, length-map, length-take-le, take_more, drop_more}
use Rattle.ob_tree.specs.Members.{Contract, Formal, Member}
use Rattle.ob_tree.specs.MembersView.{field_of, formal_of, member_of, contract_of}
use Rattle.ob_tree.specs.declared.member.FieldNode.{FieldNode}
use Rattle.ob_tree.specs.declared.member.FormalNode.{FormalNode}
use Rattle.ob_tree.specs.declared.member.Member.{Member as MemberNode}
use Rattle.ob_tree.specs.declared.contract.ContractNode.{ContractNode}
use Rattle.ob_table_spec.specs.Names.{Name, same}
use Rattle.ob_resolve_spec.specs.Declarations.{Program, part_of_named, Constructor, constructors_of_member, constructor_forms, constructors_of, default_constructor, constructor_of, states_of_member, state_names, FieldDeclaration, field_inside, fields_of_member, Transaction, transactions_of_member, param_named, params_of}
use Rattle.ob_resolve_spec.specs.Kinds.{kind_of_type, kinds_of_params}
use Rattle.ob_resolve_spec.specs.declared.kind.InferredKind.{InferredKind}
use Rattle.ob_resolve_scope.specs.Numbered.{added, numbered_from, numbered}
use Rattle.ob_resolve_scope.specs.Types.{program_of, states_named, with_states}
use Rattle.ob_resolve_scope.specs.Members.{kind_of_declaration, kind_of_node, members_of, heading_of, position_in, positions_from, params_of_first}
use Rattle.ob_resolve_scope.proofs.TypesLemmas.{part_of-out}
use Rattle.ob_resolve_scope.proofs.NumberedLemmas.{numbered_from-push, numbered-push, numbered-append}

pub taken : {X Y : Type 0} (f : X → Y) (xs : List X) (i : ℕ) (x : X) → i < length xs → x ≡ get_or xs i x
    → map f (take (i + 1) xs) ≡ map f (take i xs) ++ f x ∷ []
taken f xs i x h is =
    ap (map f) (take_more xs i x h ∙ ap (λ y. take i xs ++ y ∷ []) (sym is)) ∙ map-append f (take i xs) (x ∷ [])

flat_map-push : {X Y : Type 0} (f : X → List Y) (xs : List X) (x : X)
    → flat_map f (xs ++ x ∷ []) ≡ flat_map f xs ++ f x
flat_map-push f [] x = append-nil (f x)
flat_map-push f (y ∷ xs) x =
    ap (λ r. f y ++ r) (flat_map-push f xs x) ∙ sym (append_assoc (f y) (flat_map f xs) (f x))

pub taken_parts : {X Y Z : Type 0} (f : Y → List Z) (g : X → Y) (xs : List X) (i : ℕ) (x : X) → i < length xs
    → x ≡ get_or xs i x → flat_map f (map g (take (i + 1) xs)) ≡ flat_map f (map g (take i xs)) ++ f (g x)
taken_parts f g xs i x h is =
    ap (flat_map f) (taken g xs i x h is) ∙ flat_map-push f (map g (take i xs)) (g x)

-- Contracts and states.

abbrev names_of : List ContractNode → List Name
names_of nodes = map (λ c. c.name) (program_of nodes)

pub contracts_turn : (xs : List ContractNode) (i : ℕ) (x : ContractNode) → i < length xs → x ≡ get_or xs i x
    → numbered (names_of (take (i + 1) xs)) ≡ added (numbered (names_of (take i xs))) x.name i
contracts_turn xs i x h is =
    ap (λ cs. numbered (map (λ (c : Contract). c.name) cs)) (taken contract_of xs i x h is)
    ∙ ap numbered (map-append (λ (c : Contract). c.name) (program_of (take i xs)) (contract_of x ∷ []))
    ∙ numbered-push (names_of (take i xs)) x.name
    ∙ ap (added (numbered (names_of (take i xs))) x.name)
    (length-map (program_of (take i xs)) (λ (c : Contract). c.name) ∙ length-map (take i xs) contract_of
    ∙ length-take-le i xs (omega arith))

abbrev names_in : List MemberNode → List Name
names_in members = map (λ s. s.name) (flat_map states_of_member (map member_of members))

pub states_turn : (xs : List MemberNode) (i : ℕ) (x : MemberNode) → i < length xs → x ≡ get_or xs i x
    → states_named (names_in (take (i + 1) xs))
    ≡ with_states (states_named (names_in (take i xs))) (map (λ s. s.name) (states_of_member (member_of x)))
states_turn xs i x h is =
    let before = names_in (take i xs) in
    let more = map (λ s. s.name) (states_of_member (member_of x)) in
    let e : names_in (take (i + 1) xs) ≡ before ++ more = ap (map (λ s. s.name))
    (taken_parts states_of_member member_of xs i x h is)
    ∙ map-append (λ s. s.name) (flat_map states_of_member (map member_of (take i xs)))
    (states_of_member (member_of x)) in
    ap states_named e
    ∙ ap (λ ns. record { names = ns; count = length (before ++ more) }) (numbered-append before more)
    ∙ ap (λ k. record { names = numbered_from (numbered before) (length before) more; count = k })
    (length-append before more)

pub all_states_turn : (xs : List ContractNode) (i : ℕ) (x : ContractNode) → i < length xs → x ≡ get_or xs i x
    → map (λ c. states_named (state_names c)) (program_of (take (i + 1) xs))
    ≡ map (λ c. states_named (state_names c)) (program_of (take i xs)) ++ states_named (names_in x.members) ∷ []
all_states_turn xs i x h is =
    ap (map (λ c. states_named (state_names c))) (taken contract_of xs i x h is)
    ∙ map-append (λ c. states_named (state_names c)) (program_of (take i xs)) (contract_of x ∷ [])

-- Parameters.

pub kinds_turn : (program : Program) (xs : List FormalNode) (i : ℕ) (x : FormalNode) → i < length xs → x ≡ get_or xs i x
    → kinds_of_params program (map formal_of (take (i + 1) xs))
    ≡ kinds_of_params program (map formal_of (take i xs)) ++ kinds_of_params program (formal_of x ∷ [])
kinds_turn program xs i x h is =
    ap (λ ps. map (λ p. kind_of_type program p.of) ps)
    (taken_parts (λ (f : Formal). param_named f.of f.exit f.name) formal_of xs i x h is)
    ∙ map-append (λ p. kind_of_type program p.of) (params_of (map formal_of (take i xs)))
    (param_named (formal_of x).of (formal_of x).exit (formal_of x).name)
    ∙ ap (λ ps. kinds_of_params program (map formal_of (take i xs)) ++ map (λ p. kind_of_type program p.of) ps)
    (sym (append-nil (param_named (formal_of x).of (formal_of x).exit (formal_of x).name)))

-- Fields.

abbrev kinds_in : Program → List FieldNode → List InferredKind
kinds_in program fields = map (kind_of_node program) fields

pub field_names_turn : (program : Program) (es : List (Name × ℕ)) (ks : List InferredKind) (xs : List FieldNode) (i : ℕ)
    (x : FieldNode)
    → i < length xs → x ≡ get_or xs i x
    → numbered_from es (length ks) (map (λ f. f.name.name) (take (i + 1) xs))
    ≡ added (numbered_from es (length ks) (map (λ f. f.name.name) (take i xs))) x.name.name
    (length (ks ++ kinds_in program (take i xs)))
field_names_turn program es ks xs i x h is =
    ap (numbered_from es (length ks)) (taken (λ (f : FieldNode). f.name.name) xs i x h is)
    ∙ numbered_from-push es (length ks) (map (λ (f : FieldNode). f.name.name) (take i xs)) x.name.name
    ∙ ap (added (numbered_from es (length ks) (map (λ (f : FieldNode). f.name.name) (take i xs))) x.name.name)
    (ap (λ k. length ks + k) (length-map (take i xs) (λ (f : FieldNode). f.name.name)
    ∙ sym (length-map (take i xs) (kind_of_node program)))
    ∙ sym (length-append ks (kinds_in program (take i xs))))

pub field_kinds_turn : (program : Program) (ks : List InferredKind) (xs : List FieldNode) (i : ℕ) (x : FieldNode)
    → i < length xs → x ≡ get_or xs i x
    → ks ++ kinds_in program (take (i + 1) xs) ≡ (ks ++ kinds_in program (take i xs)) ++ kind_of_node program x ∷ []
field_kinds_turn program ks xs i x h is =
    ap (λ r. ks ++ r) (taken (kind_of_node program) xs i x h is)
    ∙ sym (append_assoc ks (kinds_in program (take i xs)) (kind_of_node program x ∷ []))

-- names and what is said of each, after those of the members before
names_and : {X A : Type 0} (name_of : X → Name) (say : X → A) (parts : Member → List X) (xs : List MemberNode) (i : ℕ)
    (x : MemberNode)
    → i < length xs → x ≡ get_or xs i x
    → numbered (map name_of (flat_map parts (map member_of (take (i + 1) xs))))
    ≡ numbered_from (numbered (map name_of (flat_map parts (map member_of (take i xs)))))
    (length (map say (flat_map parts (map member_of (take i xs))))) (map name_of (parts (member_of x)))
names_and name_of say parts xs i x h is =
    let before = flat_map parts (map member_of (take i xs)) in
    ap (λ ys. numbered (map name_of ys)) (taken_parts parts member_of xs i x h is)
    ∙ ap numbered (map-append name_of before (parts (member_of x)))
    ∙ numbered-append (map name_of before) (map name_of (parts (member_of x)))
    ∙ ap (λ k. numbered_from (numbered (map name_of before)) k (map name_of (parts (member_of x))))
    (length-map before name_of ∙ sym (length-map before say))

said_of : {X A : Type 0} (say : X → A) (parts : Member → List X) (xs : List MemberNode) (i : ℕ) (x : MemberNode)
    → i < length xs → x ≡ get_or xs i x
    → map say (flat_map parts (map member_of (take (i + 1) xs)))
    ≡ map say (flat_map parts (map member_of (take i xs))) ++ map say (parts (member_of x))
said_of say parts xs i x h is =
    ap (map say) (taken_parts parts member_of xs i x h is)
    ∙ map-append say (flat_map parts (map member_of (take i xs))) (parts (member_of x))

abbrev fields_in : List MemberNode → List FieldDeclaration
fields_in members = flat_map fields_of_member (map member_of members)

pub fields_names_turn : (program : Program) (xs : List MemberNode) (i : ℕ) (x : MemberNode) → i < length xs → x
    ≡ get_or xs i x
    → numbered (map (λ f. f.field.name.name) (fields_in (take (i + 1) xs)))
    ≡ numbered_from (numbered (map (λ f. f.field.name.name) (fields_in (take i xs))))
    (length (map (kind_of_declaration program) (fields_in (take i xs))))
    (map (λ f. f.field.name.name) (fields_of_member (member_of x)))
fields_names_turn program xs i x h is =
    names_and (λ (f : FieldDeclaration). f.field.name.name) (kind_of_declaration program) fields_of_member xs i x h is

pub fields_kinds_turn : (program : Program) (xs : List MemberNode) (i : ℕ) (x : MemberNode) → i < length xs → x
    ≡ get_or xs i x
    → map (kind_of_declaration program) (fields_in (take (i + 1) xs))
    ≡ map (kind_of_declaration program) (fields_in (take i xs))
    ++ map (kind_of_declaration program) (fields_of_member (member_of x))
fields_kinds_turn program xs i x h is =
    said_of (kind_of_declaration program) fields_of_member xs i x h is

-- the fields inside a state
pub inside_names : (state : Name) (xs : List FieldNode)
    → map (λ f. f.field.name.name) (map (field_inside state) (map field_of xs)) ≡ map (λ f. f.name.name) xs
inside_names state [] = refl
inside_names state (x ∷ xs) = ap (λ r. x.name.name ∷ r) (inside_names state xs)

pub inside_kinds : (program : Program) (state : Name) (xs : List FieldNode)
    → map (kind_of_declaration program) (map (field_inside state) (map field_of xs)) ≡ kinds_in program xs
inside_kinds program state [] = refl
inside_kinds program state (x ∷ xs) = ap (λ r. kind_of_node program x ∷ r) (inside_kinds program state xs)

-- Transactions.

abbrev transactions_in : List MemberNode → List Transaction
transactions_in members = flat_map transactions_of_member (map member_of members)

pub transactions_names_turn : (program : Program) (xs : List MemberNode) (i : ℕ) (x : MemberNode) → i < length xs → x
    ≡ get_or xs i x
    → numbered (map (λ t. t.name.name) (transactions_in (take (i + 1) xs)))
    ≡ numbered_from (numbered (map (λ t. t.name.name) (transactions_in (take i xs))))
    (length (map (heading_of program) (transactions_in (take i xs))))
    (map (λ t. t.name.name) (transactions_of_member (member_of x)))
transactions_names_turn program xs i x h is =
    names_and (λ (t : Transaction). t.name.name) (heading_of program) transactions_of_member xs i x h is

pub headings_turn : (program : Program) (xs : List MemberNode) (i : ℕ) (x : MemberNode) → i < length xs → x
    ≡ get_or xs i x
    → map (heading_of program) (transactions_in (take (i + 1) xs))
    ≡ map (heading_of program) (transactions_in (take i xs)) ++ map (heading_of program)
    (transactions_of_member (member_of x))
headings_turn program xs i x h is = said_of (heading_of program) transactions_of_member xs i x h is

places-push : (n : ℕ) (ms : List Member) (m : Member)
    → positions_from n (ms ++ m ∷ []) ≡ positions_from n ms ++ position_in (n + length ms) m
places-push n [] m = append-nil (position_in n m) ∙ ap (λ k. position_in k m) (omega arith)
places-push n (k ∷ ms) m =
    ap (λ r. position_in n k ++ r) (places-push (n + 1) ms m
    ∙ ap (λ j. positions_from (n + 1) ms ++ position_in j m) (omega arith))
    ∙ sym (append_assoc (position_in n k) (positions_from (n + 1) ms) (position_in (n + length (k ∷ ms)) m))

pub places_turn : (xs : List MemberNode) (i : ℕ) (x : MemberNode) → i < length xs → x ≡ get_or xs i x
    → positions_from 0 (map member_of (take (i + 1) xs))
    ≡ positions_from 0 (map member_of (take i xs)) ++ position_in i (member_of x)
places_turn xs i x h is =
    ap (positions_from 0) (taken member_of xs i x h is)
    ∙ places-push 0 (map member_of (take i xs)) (member_of x)
    ∙ ap (λ k. positions_from 0 (map member_of (take i xs)) ++ position_in k (member_of x))
    (ap (λ k. 0 + k) (length-map (take i xs) member_of ∙ length-take-le i xs (omega arith)) ∙ omega arith)

-- Constructors.

filter-append : {X : Type 0} (p : X → Bool) (xs ys : List X) → filter p (xs ++ ys) ≡ filter p xs ++ filter p ys
filter-append p [] ys = refl
filter-append {X} p (x ∷ xs) ys = by (p x) (filter-append p xs ys)
  where
    by : (b : Bool) → filter p (xs ++ ys) ≡ filter p xs ++ filter p ys
        → (if b then x ∷ filter p (xs ++ ys) else filter p (xs ++ ys))
        ≡ (if b then x ∷ filter p xs else filter p xs) ++ filter p ys
    by true e = ap (λ r. x ∷ r) e
    by false e = e

first_of_both : {X : Type 0} (xs ys : List X) → slice_get (xs ++ ys) 0
    ≡ (if is_some (slice_get xs 0) then slice_get xs 0 else slice_get ys 0)
first_of_both [] ys = refl
first_of_both (x ∷ xs) ys = refl

some_params : (o : Option Constructor) → is_some (option_map (λ m. m.params) o) ≡ is_some o
some_params None = refl
some_params (Some m) = refl

params_if : (b : Bool) (o p : Option Constructor) → option_map (λ m. m.params) (if b then o else p)
    ≡ (if b then option_map (λ m. m.params) o else option_map (λ m. m.params) p)
params_if true o p = refl
params_if false o p = refl

-- the first of two rows of constructors that has one of the name
pub params_of_first-append : (name : Name) (xs ys : List Constructor)
    → params_of_first name (xs ++ ys) ≡ (if is_some
    (params_of_first name xs) then params_of_first name xs else params_of_first name ys)
params_of_first-append name xs ys =
    let own : Constructor → Bool = λ m. same name (part_of_named m.of).name in
    ap (λ cs. option_map (λ (m : Constructor). m.params) (slice_get cs 0)) (filter-append own xs ys)
    ∙ ap (option_map (λ (m : Constructor). m.params)) (first_of_both (filter own xs) (filter own ys))
    ∙ params_if (is_some (slice_get (filter own xs) 0)) (slice_get (filter own xs) 0) (slice_get (filter own ys) 0)
    ∙ ap (λ b. if b then params_of_first name xs else params_of_first name ys)
    (sym (some_params (slice_get (filter own xs) 0)))

pub constructors_turn : (name : Name) (xs : List MemberNode) (i : ℕ) (x : MemberNode) → i < length xs → x
    ≡ get_or xs i x
    → params_of_first name (flat_map constructors_of_member (map member_of (drop i xs)))
    ≡ (if is_some (params_of_first name (constructors_of_member (member_of x))) then params_of_first name
    (constructors_of_member (member_of x))
    else params_of_first name (flat_map constructors_of_member (map member_of (drop (i + 1) xs))))
constructors_turn name xs i x h is =
    ap (λ ys. params_of_first name (flat_map constructors_of_member (map member_of ys)))
    (drop_more xs i x h ∙ ap (λ y. y ∷ drop (i + 1) xs) (sym is))
    ∙ params_of_first-append name (constructors_of_member (member_of x))
    (flat_map constructors_of_member (map member_of (drop (i + 1) xs)))

-- without a constructor of its own a contract has one without parameters
pub constructor-params : (c : Contract) → (constructor_of c).params
    ≡ unwrap_or (params_of_first c.name (constructor_forms c)) []
constructor-params c = by (slice_get (constructors_of c) 0)
  where
    by : (o : Option Constructor) → (unwrap_or o (default_constructor c)).params
        ≡ unwrap_or (option_map (λ m. m.params) o) []
    by None = refl
    by (Some m) = refl

pub all_members_turn : (program : Program) (xs : List ContractNode) (i : ℕ) (x : ContractNode) → i < length xs → x
    ≡ get_or xs i x
    → map (members_of program) (program_of (take (i + 1) xs))
    ≡ map (members_of program) (program_of (take i xs)) ++ members_of program (contract_of x) ∷ []
all_members_turn program xs i x h is =
    ap (map (members_of program)) (taken contract_of xs i x h is)
    ∙ map-append (members_of program) (program_of (take i xs)) (contract_of x ∷ [])

pub ruleset turns = (contracts_turn, states_turn, all_states_turn, kinds_turn, field_names_turn, field_kinds_turn, fields_names_turn, fields_kinds_turn, transactions_names_turn, headings_turn, places_turn, constructors_turn, all_members_turn, append-nil)

pub ruleset parts = (append-nil, inside_names, inside_kinds, part_of-out, constructor-params)
