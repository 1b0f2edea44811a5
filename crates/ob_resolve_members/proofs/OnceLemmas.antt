-- What an interface asks stays the same where each state of a permission stands once.
use Rattle.std.proofs.Common.{◌≡◌, Bool, true, false, List, [], ◌∷◌, ◌++◌, map, Option, Some, None, refl, sym, ap, ◌∙◌}
use Rattle.std.specs.Prelude.{◌&&◌, ◌||◌, not, option_map, if◌then◌else◌}
use Rattle.std.specs.Option.{option_map_or}
use Rattle.std.specs.List.{list_all, list_any}
use Rattle.std.specs.Cmp.Lexicographic.{pointwise}
use Rattle.std.proofs.lemmas.List.{map-append}
use Rattle.std.proofs.lemmas.List.Folds.{list_all-append}
use Rattle.ob_tree.specs.Names.{ref_with, TypeExpr, int_type, bool_type, text_type, ref_type}
use Rattle.ob_tree.specs.Members.{Contract, Formal}
use Rattle.ob_tree.specs.declared.name.NamePart.{NamePart}
use Rattle.ob_tree.specs.declared.name.PermNode.{PermNode}
use Rattle.ob_tree.specs.declared.name.PermNode.TheVariants.{Mode, States}
use Rattle.ob_tree.specs.declared.name.Subject.{Subject}
use Rattle.ob_tree.specs.declared.name.Subject.TheVariants.{This, Name as NameSubject}
use Rattle.ob_table_spec.specs.Names.{Name, same, is_among, in_order_after, firsts}
use Rattle.ob_resolve_spec.specs.Declarations.{Program, part_of_named, declared_contract, Param, param_named, params_of, Transaction, transaction_named, state_names}
use Rattle.ob_resolve_spec.specs.Permissions.{WrittenPermission, as_shared, as_unowned, as_owner, as_owner_in, written_permission, is_of, known_permission, known_exit, Situation, in_state, in_other_state, in_no_state, situations, allows, same_mode, same_answer, agree, agree_if_known}
use Rattle.ob_resolve_spec.specs.declared.kind.InferredKind.{InferredKind}
use Rattle.ob_resolve_spec.specs.declared.kind.InferredKind.TheVariants.{Int as an_int, Bool as a_bool, Text as a_text, Reference as a_reference, Nothing as nothing, Unknown as unknown}
use Rattle.ob_resolve_spec.specs.Kinds.{contract_of_name, kind_of_name, kind_of_type, permission_in, same_kind}
use Rattle.ob_resolve_spec.specs.Interfaces.{is_this, EntryAndExit, held_unknown, held_by_type, held_of_this, where_both_refer, same_type, exit_in, same_param, same_result, same_held, has_answer}
use Rattle.ob_resolve_scope.specs.Once.{perm_once, type_once, formal_once, AskedParts, asked_of}
use Rattle.ob_resolve_members.specs.Asked.{answers_with, has_answer_with}
use Rattle.ob_resolve_members.proofs.AgreeLemmas.{all_same, all_at}

-- Names.

abbrev names_in : List NamePart → List Name
names_in states = map (λ s. s.name) states

abbrev first_state : List NamePart → NamePart → List NamePart
first_state before x = if is_among x.name (names_in before) then [] else x ∷ []

named_all : (q : Name → Bool) (xs : List NamePart) → list_all q (names_in xs) ≡ list_all (λ x. q x.name) xs
named_all q [] = refl
named_all q (x ∷ xs) = ap (λ b. q x.name && b) (named_all q xs)

-- a state that is there already adds nothing
seen : (b q r a : Bool) → (b ≡ true → q ≡ true) → ((b && (q && true)) && r) ≡ ((b && (q && true)) && a)
    → (b && r) ≡ (b && (q && a))
seen false q r a h e = refl
seen true true r a h e = e
seen true false r a h e = let no : false ≡ true = h refl in absurd cc

-- one that isn't there is one more
fresh : (b q r a : Bool) → ((b && (q && true)) && r) ≡ ((b && (q && true)) && a) → (b && (q && r)) ≡ (b && (q && a))
fresh false q r a e = refl
fresh true true r a e = e
fresh true false r a e = refl

-- one state more, after those before it
all_step : (q : Name → Bool) (before xs rest : List NamePart) (x : NamePart)
    → (list_all (λ y. q y.name) (before ++ x ∷ []) && list_all (λ y. q y.name) rest)
    ≡ (list_all (λ y. q y.name) (before ++ x ∷ []) && list_all (λ y. q y.name) xs)
    → (b : Bool) → is_among x.name (names_in before) ≡ b
    → (list_all (λ y. q y.name) before && list_all (λ y. q y.name) ((if b then [] else x ∷ []) ++ rest))
    ≡ (list_all (λ y. q y.name) before && (q x.name && list_all (λ y. q y.name) xs))
all_step q before xs rest x later = by
  where
    all : List NamePart → Bool
    all = list_all (λ y. q y.name)

    more : ((all before && (q x.name && true)) && all rest) ≡ ((all before && (q x.name && true)) && all xs)
    more =
        ap (λ b. b && all rest) (sym (list_all-append (λ y. q y.name) before (x ∷ [])))
        ∙ later
        ∙ ap (λ b. b && all xs) (list_all-append (λ y. q y.name) before (x ∷ []))

    by : (b : Bool) → is_among x.name (names_in before) ≡ b
        → (all before && all ((if b then [] else x ∷ []) ++ rest)) ≡ (all before && (q x.name && all xs))
    by true e = seen (all before) (q x.name) (all rest) (all xs) (λ h. all_at q (names_in before) x.name (named_all q before ∙ h) e) more
    by false e = fresh (all before) (q x.name) (all rest) (all xs) more

all_after : (q : Name → Bool) (before xs : List NamePart)
    → (list_all (λ x. q x.name) before && list_all (λ x. q x.name) (in_order_after first_state before xs))
    ≡ (list_all (λ x. q x.name) before && list_all (λ x. q x.name) xs)
all_after q before [] = refl
all_after q before (x ∷ xs) =
    all_step q before xs (in_order_after first_state (before ++ x ∷ []) xs) x (all_after q (before ++ x ∷ []) xs)
    (is_among x.name (names_in before)) refl

all_once : (q : Name → Bool) (xs : List NamePart)
    → list_all (λ x. q x.name) (firsts (λ s. s.name) xs) ≡ list_all (λ x. q x.name) xs
all_once q xs = all_after q [] xs

any_not_all : (p : Name → Bool) (xs : List NamePart)
    → list_any p (names_in xs) ≡ not (list_all (λ x. not (p x.name)) xs)
any_not_all p [] = refl
any_not_all p (x ∷ xs) = by (p x.name) (any_not_all p xs)
  where
    by : (b : Bool) → list_any p (names_in xs) ≡ not (list_all (λ x. not (p x.name)) xs)
        → (b || list_any p (names_in xs)) ≡ not (not b && list_all (λ x. not (p x.name)) xs)
    by true e = refl
    by false e = e

among_once : (s : Name) (xs : List NamePart) → is_among s (names_in (firsts (λ x. x.name) xs)) ≡ is_among s (names_in xs)
among_once s xs =
    any_not_all (same s) (firsts (λ x. x.name) xs)
    ∙ ap not (all_once (λ n. not (same s n)) xs)
    ∙ sym (any_not_all (same s) xs)

-- Permissions.

of-once : (c : Contract) (perm : PermNode) → is_of c (perm_once perm) ≡ is_of c perm
of-once c (Mode mode span) = refl
of-once c (States states) = all_once (λ n. is_among n (state_names c)) states

allows-once : (perm : PermNode) (s : Situation)
    → allows (written_permission (perm_once perm)) s ≡ allows (written_permission perm) s
allows-once (Mode mode span) s = refl
allows-once (States states) (in_state state) = among_once state states
allows-once (States states) in_other_state = refl
allows-once (States states) in_no_state = refl

mode-once : (p : WrittenPermission) (perm : PermNode)
    → same_mode p (written_permission (perm_once perm)) ≡ same_mode p (written_permission perm)
mode-once p (Mode mode span) = refl
mode-once as_shared (States states) = refl
mode-once as_unowned (States states) = refl
mode-once as_owner (States states) = refl
mode-once (as_owner_in xs) (States states) = refl

agree-once : (c : Contract) (p : WrittenPermission) (perm : PermNode)
    → agree c p (written_permission (perm_once perm)) ≡ agree c p (written_permission perm)
agree-once c p perm =
    ap (λ b. b && list_all (λ s. same_answer (allows p s) (allows (written_permission (perm_once perm)) s)) (situations c))
    (mode-once p perm)
    ∙ ap (λ b. same_mode p (written_permission perm) && b)
    (all_same (λ s. same_answer (allows p s) (allows (written_permission (perm_once perm)) s))
    (λ s. same_answer (allows p s) (allows (written_permission perm) s)) (situations c)
    (λ s. ap (same_answer (allows p s)) (allows-once perm s)))

known-once : (c d : Contract) (o : Option WrittenPermission) (perm : PermNode)
    → agree_if_known c o (known_permission d (perm_once perm)) ≡ agree_if_known c o (known_permission d perm)
known-once c d o perm =
    ap (λ b. agree_if_known c o (if b then Some (written_permission (perm_once perm)) else None)) (of-once d perm)
    ∙ by (is_of d perm) o
  where
    by : (b : Bool) (o : Option WrittenPermission)
        → agree_if_known c o (if b then Some (written_permission (perm_once perm)) else None)
        ≡ agree_if_known c o (if b then Some (written_permission perm) else None)
    by true (Some p) = agree-once c p perm
    by true None = refl
    by false o = refl

exit-once : (c d : Contract) (o : Option WrittenPermission) (perm : PermNode) (exit : Option PermNode)
    → agree_if_known c o (known_exit d (perm_once perm) (option_map perm_once exit))
    ≡ agree_if_known c o (known_exit d perm exit)
exit-once c d o perm None = known-once c d o perm
exit-once c d o perm (Some exit) = known-once c d o exit

-- Types.

of_known : (perm : PermNode) (o : Option Contract)
    → option_map_or (λ c. is_of c (perm_once perm)) o false ≡ option_map_or (λ c. is_of c perm) o false
of_known perm None = refl
of_known perm (Some c) = of-once c perm

kind-once : (program : Program) (t : TypeExpr) → kind_of_type program (type_once t) ≡ kind_of_type program t
kind-once program (int_type span) = refl
kind-once program (bool_type span) = refl
kind-once program (text_type span) = refl
kind-once program (ref_type (ref_with of perm)) =
    ap (λ b. if b then kind_of_name program (part_of_named of).name else unknown)
    (of_known perm (contract_of_name program (part_of_named of).name))

-- two tests that say the same of the contract to which both refer
where_same : (program : Program) (a b : InferredKind) (p q : Contract → Bool) → ((c : Contract) → p c ≡ q c)
    → where_both_refer program a b p ≡ where_both_refer program a b q
where_same program (a_reference m) (a_reference n) p q h = by (declared_contract program m)
  where
    by : (o : Option Contract) → option_map_or p o true ≡ option_map_or q o true
    by None = refl
    by (Some c) = h c
where_same program (a_reference m) an_int p q h = refl
where_same program (a_reference m) a_bool p q h = refl
where_same program (a_reference m) a_text p q h = refl
where_same program (a_reference m) nothing p q h = refl
where_same program (a_reference m) unknown p q h = refl
where_same program an_int b p q h = refl
where_same program a_bool b p q h = refl
where_same program a_text b p q h = refl
where_same program nothing b p q h = refl
where_same program unknown b p q h = refl

agree_types : (s t : TypeExpr) (c : Contract)
    → agree c (permission_in s) (permission_in (type_once t)) ≡ agree c (permission_in s) (permission_in t)
agree_types s (int_type span) c = refl
agree_types s (bool_type span) c = refl
agree_types s (text_type span) c = refl
agree_types s (ref_type (ref_with of perm)) c = agree-once c (permission_in s) perm

type-once : (program : Program) (s t : TypeExpr) → same_type program s (type_once t) ≡ same_type program s t
type-once program s t =
    let a = kind_of_type program s in
    ap (λ b. same_kind a b && where_both_refer program a b (λ c. agree c (permission_in s) (permission_in (type_once t))))
    (kind-once program t)
    ∙ ap (λ r. same_kind a (kind_of_type program t) && r)
    (where_same program a (kind_of_type program t) (λ c. agree c (permission_in s) (permission_in (type_once t)))
    (λ c. agree c (permission_in s) (permission_in t)) (agree_types s t))

exit_types : (o : Contract → Option WrittenPermission) (t : TypeExpr) (exit : Option PermNode) (c : Contract)
    → agree_if_known c (o c) (exit_in c (type_once t) (option_map perm_once exit))
    ≡ agree_if_known c (o c) (exit_in c t exit)
exit_types o (int_type span) exit c = refl
exit_types o (bool_type span) exit c = refl
exit_types o (text_type span) exit c = refl
exit_types o (ref_type (ref_with of perm)) exit c = exit-once c c (o c) perm exit

-- Parameters and results.

abbrev param_once : Param → Param
param_once p = record { of = type_once p.of; exit = option_map perm_once p.exit; name = p.name }

param-once : (program : Program) (p q : Param) → same_param program p (param_once q) ≡ same_param program p q
param-once program p q =
    let a = kind_of_type program p.of in
    let ends : Contract → Bool = λ c. agree_if_known c (exit_in c p.of p.exit)
    (exit_in c (type_once q.of) (option_map perm_once q.exit)) in
    ap (λ b. b && where_both_refer program a (kind_of_type program (type_once q.of)) ends) (type-once program p.of q.of)
    ∙ ap (λ k. same_type program p.of q.of && where_both_refer program a k ends) (kind-once program q.of)
    ∙ ap (λ r. same_type program p.of q.of && r)
    (where_same program a (kind_of_type program q.of) ends
    (λ c. agree_if_known c (exit_in c p.of p.exit) (exit_in c q.of q.exit))
    (exit_types (λ c. exit_in c p.of p.exit) q.of q.exit))

pointwise-once : (program : Program) (ps qs : List Param)
    → pointwise (same_param program) ps (map param_once qs) ≡ pointwise (same_param program) ps qs
pointwise-once program [] [] = refl
pointwise-once program [] (q ∷ qs) = refl
pointwise-once program (p ∷ ps) [] = refl
pointwise-once program (p ∷ ps) (q ∷ qs) =
    ap (λ b. b && pointwise (same_param program) ps (map param_once qs)) (param-once program p q)
    ∙ ap (λ b. same_param program p q && b) (pointwise-once program ps qs)

named-once : (of : TypeExpr) (exit : Option PermNode) (name : Subject)
    → param_named (type_once of) (option_map perm_once exit) name ≡ map param_once (param_named of exit name)
named-once of exit (This span) = refl
named-once of exit (NameSubject name) = refl

params-once : (formals : List Formal) → params_of (map formal_once formals) ≡ map param_once (params_of formals)
params-once [] = refl
params-once (f ∷ fs) =
    ap (λ r. param_named (type_once f.of) (option_map perm_once f.exit) f.name ++ r) (params-once fs)
    ∙ ap (λ ps. ps ++ map param_once (params_of fs)) (named-once f.of f.exit f.name)
    ∙ sym (map-append param_once (param_named f.of f.exit f.name) (params_of fs))

result-once : (program : Program) (s t : Option TypeExpr)
    → same_result program s (option_map type_once t) ≡ same_result program s t
result-once program None None = refl
result-once program None (Some t) = refl
result-once program (Some s) None = refl
result-once program (Some s) (Some t) = type-once program s t

-- What is held of `this`.

this-once : (fs : List Formal) → list_any is_this (map formal_once fs) ≡ list_any is_this fs
this-once [] = refl
this-once (f ∷ fs) = ap (λ b. is_this f || b) (this-once fs)

by_type-once : (c own : Contract) (a b : Option WrittenPermission) (t : TypeExpr) (exit : Option PermNode)
    → (agree_if_known c a (held_by_type own (type_once t) (option_map perm_once exit)).entry
    && agree_if_known c b (held_by_type own (type_once t) (option_map perm_once exit)).exit)
    ≡ (agree_if_known c a (held_by_type own t exit).entry && agree_if_known c b (held_by_type own t exit).exit)
by_type-once c own a b (int_type span) exit = refl
by_type-once c own a b (bool_type span) exit = refl
by_type-once c own a b (text_type span) exit = refl
by_type-once c own a b (ref_type (ref_with of perm)) exit =
    ap (λ k. two (same own.name (part_of_named of).name && k) (known_permission own (perm_once perm))
    (known_exit own (perm_once perm) (option_map perm_once exit))) (of-once own perm)
    ∙ by (same own.name (part_of_named of).name && is_of own perm)
  where
    two : Bool → Option WrittenPermission → Option WrittenPermission → Bool
    two k entry exit =
        agree_if_known c a (if k then record { entry = entry; exit = exit } else held_unknown).entry
        && agree_if_known c b (if k then record { entry = entry; exit = exit } else held_unknown).exit

    by : (k : Bool)
        → two k (known_permission own (perm_once perm)) (known_exit own (perm_once perm) (option_map perm_once exit))
        ≡ two k (known_permission own perm) (known_exit own perm exit)
    by true =
        ap (λ r. r && agree_if_known c b (known_exit own (perm_once perm) (option_map perm_once exit))) (known-once c own a perm)
        ∙ ap (λ r. agree_if_known c a (known_permission own perm) && r) (exit-once c own b perm exit)
    by false = refl

held-once : (own interface : Contract) (h : EntryAndExit) (fs : List Formal)
    → same_held own h (held_of_this interface (map formal_once fs)) ≡ same_held own h (held_of_this interface fs)
held-once own interface h [] = refl
held-once own interface h (f ∷ fs) =
    ap (λ b. same_held own h (held b (formal_once f))) (this-once fs) ∙ by (list_any is_this fs) (is_this f)
  where
    held : Bool → Formal → EntryAndExit
    held b g =
        if b then held_unknown else if is_this g then held_by_type interface g.of g.exit
        else record { entry = Some as_unowned; exit = Some as_unowned }

    with_this : Bool → Bool → Formal → EntryAndExit
    with_this b k g =
        if b then held_unknown else if k then held_by_type interface g.of g.exit
        else record { entry = Some as_unowned; exit = Some as_unowned }

    by : (b k : Bool) → same_held own h (with_this b k (formal_once f)) ≡ same_held own h (with_this b k f)
    by true k = refl
    by false true = by_type-once own interface h.entry h.exit f.of f.exit
    by false false = refl

-- a transaction answers what is asked with each state once where it answers what is asked
answers-once : (program : Program) (interface own : Contract) (params : List Formal) (result : Option TypeExpr) (t : Transaction)
    → answers_with program interface own (map formal_once params) (option_map type_once result) t
    ≡ answers_with program interface own params result t
answers-once program interface own params result t =
    rw (
      params-once params,
      pointwise-once program (params_of t.params) (params_of params),
      result-once program t.result result,
      held-once own interface (held_of_this own t.params) params,
    ) refl

answer-once : (program : Program) (interface own : Contract) (params : List Formal) (result : Option TypeExpr) (o : Option Transaction)
    → option_map_or (answers_with program interface own (map formal_once params) (option_map type_once result)) o false
    ≡ option_map_or (answers_with program interface own params result) o false
answer-once program interface own params result None = refl
answer-once program interface own params result (Some t) = answers-once program interface own params result t

-- whether a contract has what is asked, by the parts of what is asked
pub asked_parts : (program : Program) (interface own : Contract) (asked : AskedParts) (t : Transaction) → asked ≡ asked_of t
    → has_answer_with program interface own t.name.name asked.params asked.result ≡ has_answer program interface own t
asked_parts program interface own asked t is =
    ap (λ (a : AskedParts). has_answer_with program interface own t.name.name a.params a.result) is
    ∙ answer-once program interface own t.params t.result (transaction_named own t.name.name)

-- the same of the transaction of a number
pub asked_there : (program : Program) (interface own : Contract) (o : Option Transaction) (asked : AskedParts) (t : Transaction)
    → Some t ≡ o → Some asked ≡ option_map asked_of o
    → has_answer_with program interface own t.name.name asked.params asked.result
    ≡ option_map_or (has_answer program interface own) o true
asked_there program interface own None asked t e is = cc
asked_there program interface own (Some u) asked t e is =
    let same : t ≡ u = cc in
    let parts : asked ≡ asked_of u = cc in
    ap (λ (v : Transaction). has_answer_with program interface own v.name.name asked.params asked.result) same
    ∙ asked_parts program interface own asked u parts

-- a transaction that is there asks something
pub asked_gone : (o : Option Transaction) (t : Transaction) → Some t ≡ o → None ≡ option_map asked_of o → ⊥
asked_gone None t e is = cc
asked_gone (Some u) t e is = cc
