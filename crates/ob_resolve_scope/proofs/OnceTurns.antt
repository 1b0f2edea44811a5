-- A loop's turn where each state of a permission is kept once.
use Rattle.std.proofs.Common.{◌≡◌, ℕ, ◌+◌, ◌<◌, List, [], ◌∷◌, ◌++◌, map, length, take, get_or, Some, sym, ap, arith, ◌∙◌, append_assoc}
use Rattle.std.specs.Prelude.{flat_map, option_map, slice_get, is_some, if◌then◌else◌}
use Rattle.std.proofs.lemmas.List.{map-append, append-nil, length-map, length-take-le, take_more}
use Rattle.std.proofs.lemmas.Option.{slice_get-map, same_Some}
use Rattle.ob_tree.specs.Names.{Ref, ref_with, ref_type}
use Rattle.ob_tree.specs.NamesView.{named_of, ref_of, ref_of-roll, ref_of-out}
use Rattle.ob_tree.specs.MembersView.{formal_of, member_of, contract_of}
use Rattle.ob_tree.specs.Members.{Contract}
use Rattle.ob_tree.specs.declared.name.NamePart.{NamePart}
use Rattle.ob_tree.specs.declared.name.RefNode.{RefNode, out-RefNode}
use Rattle.ob_tree.specs.declared.member.FormalNode.{FormalNode}
use Rattle.ob_tree.specs.declared.member.Member.{Member as MemberNode}
use Rattle.ob_tree.specs.declared.contract.ContractNode.{ContractNode}
use Rattle.ob_table_spec.specs.Names.{Name, is_among, in_order_after, firsts}
use Rattle.ob_resolve_spec.specs.Declarations.{Program, declared_contract, transactions_of_member, transactions_of}
use Rattle.ob_resolve_scope.specs.Numbered.{find, added, numbered}
use Rattle.ob_resolve_scope.specs.Types.{program_of}
use Rattle.ob_resolve_scope.specs.Once.{perm_once, type_once, formal_once, asked_of, parts_of}
use Rattle.ob_resolve_scope.specs.declared.asked.Asked.{Asked}
use Rattle.ob_resolve_scope.proofs.NumberedLemmas.{find-numbered, number_of-is_some, numbered-push}
use Rattle.ob_resolve_scope.proofs.BuildLemmas.{taken, taken_parts}

-- States.

-- what is said of one thing more after others
in_order-push : {A B : Type 0} (f : List A → A → List B) (before xs : List A) (x : A)
    → in_order_after f before (xs ++ x ∷ []) ≡ in_order_after f before xs ++ f (before ++ xs) x
in_order-push f before [] x = append-nil (f before x) ∙ ap (λ ys. f ys x) (sym (append-nil before))
in_order-push f before (y ∷ xs) x =
    ap (λ r. f before y ++ r) (in_order-push f (before ++ y ∷ []) xs x)
    ∙ ap (λ ys. f before y ++ (in_order_after f (before ++ y ∷ []) xs ++ f ys x)) (append_assoc before (y ∷ []) xs)
    ∙ sym (append_assoc (f before y) (in_order_after f (before ++ y ∷ []) xs) (f (before ++ y ∷ xs) x))

abbrev names_in : List NamePart → List Name
names_in states = map (λ s. s.name) states

found : (x : Name) (xs : List Name) → is_some (find x (numbered xs)) ≡ is_among x xs
found x xs = ap is_some (find-numbered x xs) ∙ number_of-is_some x xs

pub seen_turn : (xs : List NamePart) (i : ℕ) (x : NamePart) → i < length xs → x ≡ get_or xs i x
    → numbered (names_in (take (i + 1) xs)) ≡ added (numbered (names_in (take i xs))) x.name i
seen_turn xs i x h is =
    ap numbered (taken (λ (s : NamePart). s.name) xs i x h is)
    ∙ numbered-push (names_in (take i xs)) x.name
    ∙ ap (added (numbered (names_in (take i xs))) x.name)
    (length-map (take i xs) (λ (s : NamePart). s.name) ∙ length-take-le i xs (omega arith))

pub once_turn : (xs : List NamePart) (i : ℕ) (x : NamePart) → i < length xs → x ≡ get_or xs i x
    → firsts (λ s. s.name) (take (i + 1) xs)
    ≡ firsts (λ s. s.name) (take i xs) ++ (if is_some (find x.name (numbered (names_in (take i xs)))) then [] else x ∷ [])
once_turn xs i x h is =
    ap (firsts (λ s. s.name)) (take_more xs i x h ∙ ap (λ y. take i xs ++ y ∷ []) (sym is))
    ∙ in_order-push (λ before y. if is_among y.name (map (λ s. s.name) before) then [] else y ∷ []) [] (take i xs) x
    ∙ ap (λ b. firsts (λ s. s.name) (take i xs) ++ (if b then [] else x ∷ [])) (sym (found x.name (names_in (take i xs))))

pub ruleset states = (seen_turn, once_turn)

-- Types.

pub once-parts : (node : RefNode) → type_once (ref_type (ref_of node))
    ≡ ref_type (ref_with (named_of (out-RefNode node).of) (perm_once (out-RefNode node).perm))
once-parts node = ap (λ (r : Ref). type_once (ref_type r)) (ref_of-out node)

pub ruleset types = (once-parts, ref_of-roll)

-- Parameters and transactions.

pub formals_turn : (xs ys : List FormalNode) (i : ℕ) (x y : FormalNode) → i < length xs → x ≡ get_or xs i x
    → map formal_of ys ≡ map formal_once (map formal_of (take i xs)) → formal_of y ≡ formal_once (formal_of x)
    → map formal_of (ys ++ y ∷ []) ≡ map formal_once (map formal_of (take (i + 1) xs))
formals_turn xs ys i x y h is before here =
    map-append formal_of ys (y ∷ [])
    ∙ ap (λ fs. fs ++ formal_of y ∷ []) before
    ∙ ap (λ f. map formal_once (map formal_of (take i xs)) ++ f ∷ []) here
    ∙ sym
    (ap (map formal_once) (taken formal_of xs i x h is)
    ∙ map-append formal_once (map formal_of (take i xs)) (formal_of x ∷ []))

pub asked_turn : (xs : List MemberNode) (i : ℕ) (x : MemberNode) → i < length xs → x ≡ get_or xs i x
    → map asked_of (flat_map transactions_of_member (map member_of (take (i + 1) xs)))
    ≡ map asked_of (flat_map transactions_of_member (map member_of (take i xs)))
    ++ map asked_of (transactions_of_member (member_of x))
asked_turn xs i x h is =
    ap (map asked_of) (taken_parts transactions_of_member member_of xs i x h is)
    ∙ map-append asked_of (flat_map transactions_of_member (map member_of (take i xs))) (transactions_of_member (member_of x))

pub asked_push : (asked : List Asked) (one : Asked) → map parts_of (asked ++ one ∷ []) ≡ map parts_of asked ++ parts_of one ∷ []
asked_push asked one = map-append parts_of asked (one ∷ [])

pub all_asked_turn : (xs : List ContractNode) (all : List (List Asked)) (one : List Asked) (i : ℕ) (x : ContractNode)
    → i < length xs → x ≡ get_or xs i x
    → map (map parts_of) all ≡ map (λ c. map asked_of (transactions_of c)) (program_of (take i xs))
    → map parts_of one ≡ map asked_of (flat_map transactions_of_member (map member_of x.members))
    → map (map parts_of) (all ++ one ∷ []) ≡ map (λ c. map asked_of (transactions_of c)) (program_of (take (i + 1) xs))
all_asked_turn xs all one i x h is before here =
    map-append (map parts_of) all (one ∷ [])
    ∙ ap (λ r. r ++ map parts_of one ∷ []) before
    ∙ ap (λ r. map (λ c. map asked_of (transactions_of c)) (program_of (take i xs)) ++ r ∷ []) here
    ∙ sym
    (ap (map (λ c. map asked_of (transactions_of c))) (taken contract_of xs i x h is)
    ∙ map-append (λ c. map asked_of (transactions_of c)) (program_of (take i xs)) (contract_of x ∷ []))

-- what the contract of this number asks
pub asked_at : (program : Program) (asked : List (List Asked)) (n : ℕ)
    → map (map parts_of) asked ≡ map (λ c. map asked_of (transactions_of c)) program
    → option_map (map parts_of) (slice_get asked n)
    ≡ option_map (λ c. map asked_of (transactions_of c)) (declared_contract program n)
asked_at program asked n is =
    sym (slice_get-map (map parts_of) asked n)
    ∙ ap (λ xs. slice_get xs n) is
    ∙ slice_get-map (λ c. map asked_of (transactions_of c)) program n

-- what its transaction of this number asks
pub asked_one : (c : Contract) (asked : List Asked) (n : ℕ) → Some (map parts_of asked) ≡ Some (map asked_of (transactions_of c))
    → option_map parts_of (slice_get asked n) ≡ option_map asked_of (slice_get (transactions_of c) n)
asked_one c asked n is =
    sym (slice_get-map parts_of asked n)
    ∙ ap (λ xs. slice_get xs n) (same_Some _ _ is)
    ∙ slice_get-map asked_of (transactions_of c) n

pub ruleset asking = (asked_at)
