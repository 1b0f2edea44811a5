-- A loop's turn, in each list of what an instance is made of.
use Rattle.std.proofs.Common.{◌≡◌, ℕ, ◌<◌, ◌+◌, List, [], ◌∷◌, ◌++◌, Option, Some, None, map, length, take, drop, get_or, suc, refl, ap, sym, ◌∙◌, add-one, drop-cons, append_assoc, append-nil}
use Rattle.std.specs.Prelude.{option_map, slice_get}
use Rattle.std.specs.List.{flat_map}
use Rattle.std.specs.Option.{option_map_or}
use Rattle.std.proofs.lemmas.Option.{slice_get-map}
use Rattle.std.proofs.lemmas.List.{take_more, map-append}
use Rattle.ob_base.specs.declared.fault.Span.{Span}
use Rattle.ob_tree.specs.Names.{Ref}
use Rattle.ob_tree.specs.Exprs as plain
use Rattle.ob_tree.specs.Exprs.{exprs}
use Rattle.ob_tree.specs.Stmts as plain_stmts
use Rattle.ob_tree.specs.Stmts.{stmts}
use Rattle.ob_tree.specs.Members.{Contract}
use Rattle.ob_tree.specs.NamesView.{named_of, named_with, ref_of, named_of-out, name_views}
use Rattle.ob_tree.specs.ExprsView.{expr_of}
use Rattle.ob_tree.specs.StmtsView.{given_of, stmt_of}
use Rattle.ob_tree.specs.MembersView.{field_of, formal_of, listed_of, member_of, contract_of}
use Rattle.ob_tree.specs.declared.name.NamedNode.{NamedNode, out-NamedNode}
use Rattle.ob_tree.specs.declared.expr.Expr.{Expr}
use Rattle.ob_tree.specs.declared.stmt.GivenNode.{GivenNode}
use Rattle.ob_tree.specs.declared.stmt.Stmt.{Stmt}
use Rattle.ob_tree.specs.declared.member.FieldNode.{FieldNode}
use Rattle.ob_tree.specs.declared.member.FormalNode.{FormalNode}
use Rattle.ob_tree.specs.declared.member.ListedNode.{ListedNode}
use Rattle.ob_tree.specs.declared.member.Member.{Member}
use Rattle.ob_tree.specs.declared.contract.ContractNode.{ContractNode}
use Rattle.ob_generic_spec.specs.Substitution.{Own}
use Rattle.ob_generic_spec.specs.Instances.{own_of}
use Rattle.ob_generic_spec.specs.TypeSites.{span_of_named}
use Rattle.ob_generic_spec.specs.InstanceBodies.{expr_in, exprs_in, given_in, stmt_in, stmts_in}
use Rattle.ob_generic_spec.specs.InstanceTrees.{field_in, formal_in, listed_in, member_in, contract_in, plain_contracts, instance_contracts}
use Rattle.ob_generic_spec.specs.declared.instance.Instance.{Instance}

-- The place of a name.

named_with-span : (name : List ℕ) (argument : Option Ref) (span : Span) → span_of_named (named_with name argument span) ≡ span
named_with-span name None span = refl
named_with-span name (Some argument) span = refl

pub named_of-span : (node : NamedNode) → span_of_named (named_of node) ≡ (out-NamedNode node).span
named_of-span node =
    ap span_of_named (named_of-out node)
    ∙ named_with-span (out-NamedNode node).name (option_map ref_of (out-NamedNode node).argument) (out-NamedNode node).span

pub ruleset places = (name_views, named_of-span)

-- Each part in its place.

taken : {X Y : Type 0} (f : X → Y) (xs : List X) (i : ℕ) (x : X) → i < length xs → x ≡ get_or xs i x
    → map f (take (i + 1) xs) ≡ map f (take i xs) ++ f x ∷ []
taken f xs i x h is =
    ap (map f) (take_more xs i x h) ∙ map-append f (take i xs) (get_or xs i x ∷ [])
    ∙ ap (λ y. map f (take i xs) ++ f y ∷ []) (sym is)

made_turn : {X Y Z : Type 0} (g : Y → Z) (f : X → Y) (xs : List X) (i : ℕ) (x : X) → i < length xs → x ≡ get_or xs i x
    → map g (map f (take (i + 1) xs)) ≡ map g (map f (take i xs)) ++ g (f x) ∷ []
made_turn g f xs i x h is = ap (map g) (taken f xs i x h is) ∙ map-append g (map f (take i xs)) (f x ∷ [])

pub args_turn : (own : Option Own) (xs : List Expr) (i : ℕ) (x : Expr) → i < length xs → x ≡ get_or xs i x
    → map (expr_in own) (map expr_of (take (i + 1) xs))
    ≡ map (expr_in own) (map expr_of (take i xs)) ++ expr_in own (expr_of x) ∷ []
args_turn own = made_turn (expr_in own) expr_of

pub args_more : (xs : List Expr) (x : Expr) → map expr_of (xs ++ x ∷ []) ≡ map expr_of xs ++ expr_of x ∷ []
args_more xs x = map-append expr_of xs (x ∷ [])

pub givens_turn : (own : Option Own) (xs : List GivenNode) (i : ℕ) (x : GivenNode) → i < length xs → x ≡ get_or xs i x
    → map (given_in own) (map given_of (take (i + 1) xs))
    ≡ map (given_in own) (map given_of (take i xs)) ++ given_in own (given_of x) ∷ []
givens_turn own = made_turn (given_in own) given_of

pub givens_more : (xs : List GivenNode) (x : GivenNode) → map given_of (xs ++ x ∷ []) ≡ map given_of xs ++ given_of x ∷ []
givens_more xs x = map-append given_of xs (x ∷ [])

pub stmts_turn : (own : Option Own) (xs : List Stmt) (i : ℕ) (x : Stmt) → i < length xs → x ≡ get_or xs i x
    → map (stmt_in own) (map stmt_of (take (i + 1) xs))
    ≡ map (stmt_in own) (map stmt_of (take i xs)) ++ stmt_in own (stmt_of x) ∷ []
stmts_turn own = made_turn (stmt_in own) stmt_of

pub stmts_more : (xs : List Stmt) (x : Stmt) → map stmt_of (xs ++ x ∷ []) ≡ map stmt_of xs ++ stmt_of x ∷ []
stmts_more xs x = map-append stmt_of xs (x ∷ [])

pub fields_turn : (own : Option Own) (xs : List FieldNode) (i : ℕ) (x : FieldNode) → i < length xs → x ≡ get_or xs i x
    → map (field_in own) (map field_of (take (i + 1) xs))
    ≡ map (field_in own) (map field_of (take i xs)) ++ field_in own (field_of x) ∷ []
fields_turn own = made_turn (field_in own) field_of

pub fields_more : (xs : List FieldNode) (x : FieldNode) → map field_of (xs ++ x ∷ []) ≡ map field_of xs ++ field_of x ∷ []
fields_more xs x = map-append field_of xs (x ∷ [])

pub formals_turn : (own : Option Own) (xs : List FormalNode) (i : ℕ) (x : FormalNode) → i < length xs → x ≡ get_or xs i x
    → map (formal_in own) (map formal_of (take (i + 1) xs))
    ≡ map (formal_in own) (map formal_of (take i xs)) ++ formal_in own (formal_of x) ∷ []
formals_turn own = made_turn (formal_in own) formal_of

pub formals_more : (xs : List FormalNode) (x : FormalNode)
    → map formal_of (xs ++ x ∷ []) ≡ map formal_of xs ++ formal_of x ∷ []
formals_more xs x = map-append formal_of xs (x ∷ [])

pub listed_turn : (own : Option Own) (xs : List ListedNode) (i : ℕ) (x : ListedNode) → i < length xs → x ≡ get_or xs i x
    → map (listed_in own) (map listed_of (take (i + 1) xs))
    ≡ map (listed_in own) (map listed_of (take i xs)) ++ listed_in own (listed_of x) ∷ []
listed_turn own = made_turn (listed_in own) listed_of

pub listed_more : (xs : List ListedNode) (x : ListedNode)
    → map listed_of (xs ++ x ∷ []) ≡ map listed_of xs ++ listed_of x ∷ []
listed_more xs x = map-append listed_of xs (x ∷ [])

pub members_turn : (own : Option Own) (xs : List Member) (i : ℕ) (x : Member) → i < length xs → x ≡ get_or xs i x
    → map (member_in own) (map member_of (take (i + 1) xs))
    ≡ map (member_in own) (map member_of (take i xs)) ++ member_in own (member_of x) ∷ []
members_turn own = made_turn (member_in own) member_of

pub members_more : (xs : List Member) (x : Member) → map member_of (xs ++ x ∷ []) ≡ map member_of xs ++ member_of x ∷ []
members_more xs x = map-append member_of xs (x ∷ [])

-- Expressions and statements as chains.

pub exprs_made : (own : Option Own) (es : List plain.Expr) → exprs_in own (exprs es) ≡ exprs (map (expr_in own) es)
exprs_made own [] = refl
exprs_made own (e ∷ es) = ap (plain.and_expr (expr_in own e)) (exprs_made own es)

pub stmts_made : (own : Option Own) (ss : List plain_stmts.Stmt) → stmts_in own (stmts ss) ≡ stmts (map (stmt_in own) ss)
stmts_made own [] = refl
stmts_made own (s ∷ ss) = ap (plain_stmts.and_stmt (stmt_in own s)) (stmts_made own ss)

pub ruleset turns = (
  args_turn,
  args_more,
  givens_turn,
  givens_more,
  stmts_turn,
  stmts_more,
  fields_turn,
  fields_more,
  formals_turn,
  formals_more,
  listed_turn,
  listed_more,
  members_turn,
  members_more,
  exprs_made,
  stmts_made,
)

-- Contracts.

turn : {X : Type 0} (xs : List X) (i : ℕ) (x : X) → i < length xs → x ≡ get_or xs i x
    → drop i xs ≡ x ∷ drop (i + 1) xs
turn xs i x h is = rw (add-one, drop-cons xs i x) (ap (λ y. y ∷ drop (suc i) xs) (sym is))

pub contracts_more : (xs : List ContractNode) (x : ContractNode)
    → map contract_of (xs ++ x ∷ []) ≡ map contract_of xs ++ contract_of x ∷ []
contracts_more xs x = map-append contract_of xs (x ∷ [])

pub plains_turn : (out : List Contract) (xs : List ContractNode) (i : ℕ) (x : ContractNode) → i < length xs
    → x ≡ get_or xs i x
    → (out ++ plain_contracts (contract_of x)) ++ flat_map plain_contracts (map contract_of (drop (i + 1) xs))
    ≡ out ++ flat_map plain_contracts (map contract_of (drop i xs))
plains_turn out xs i x h is =
    append_assoc out (plain_contracts (contract_of x)) (flat_map plain_contracts (map contract_of (drop (i + 1) xs)))
    ∙ ap (λ ys. out ++ flat_map plain_contracts (map contract_of ys)) (sym (turn xs i x h is))

pub instances_turn : (program out : List Contract) (xs : List Instance) (i : ℕ) (x : Instance) → i < length xs
    → x ≡ get_or xs i x
    → (out ++ instance_contracts program x) ++ flat_map (instance_contracts program) (drop (i + 1) xs)
    ≡ out ++ flat_map (instance_contracts program) (drop i xs)
instances_turn program out xs i x h is =
    append_assoc out (instance_contracts program x) (flat_map (instance_contracts program) (drop (i + 1) xs))
    ∙ ap (λ ys. out ++ flat_map (instance_contracts program) ys) (sym (turn xs i x h is))

at_number : (xs : List ContractNode) (n : ℕ) → slice_get (map contract_of xs) n ≡ option_map contract_of (slice_get xs n)
at_number = slice_get-map contract_of

pub none_contract : (xs : List ContractNode) (x : Instance) → None ≡ slice_get xs x.contract
    → instance_contracts (map contract_of xs) x ≡ []
none_contract xs x e =
    ap (λ o. option_map_or (λ c. contract_in (own_of c x) c ∷ []) o [])
    (at_number xs x.contract ∙ ap (option_map contract_of) (sym e))

pub some_contract : (xs : List ContractNode) (x : Instance) (node : ContractNode) → Some node ≡ slice_get xs x.contract
    → instance_contracts (map contract_of xs) x ≡ contract_in (own_of (contract_of node) x) (contract_of node) ∷ []
some_contract xs x node e =
    ap (λ o. option_map_or (λ c. contract_in (own_of c x) c ∷ []) o [])
    (at_number xs x.contract ∙ ap (option_map contract_of) (sym e))

pub ruleset contracts = (contracts_more, plains_turn, instances_turn, append-nil)
