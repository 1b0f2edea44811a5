-- Variables, by name.
use Rattle.std.proofs.Common.{◌≡◌, ℕ, ◌+◌, ◌-◌, ◌<◌, ◌≤◌, Bool, true, List, [], ◌∷◌, ◌++◌, map, length, take, get_or, Option, Some, None, refl, sym, ap, arith, ◌∙◌, append_assoc, length-append}
use Rattle.std.specs.Prelude.{option_and_then, slice_get}
use Rattle.std.proofs.lemmas.List.{map-append, append-nil, length-map, length-take, take-take, take_all, take_at, take_more}
use Rattle.ob_tree.specs.Names.{TypeExpr}
use Rattle.ob_tree.specs.Members.{Formal}
use Rattle.ob_tree.specs.MembersView.{formal_of}
use Rattle.ob_tree.specs.declared.member.FormalNode.{FormalNode}
use Rattle.ob_tree.specs.declared.name.PermNode.{PermNode}
use Rattle.ob_tree.specs.declared.name.Subject.{Subject}
use Rattle.ob_tree.specs.declared.name.Subject.TheVariants.{This, Name as NameSubject}
use Rattle.ob_table_spec.specs.Names.{Name, first_named, in_order_after, in_order}
use Rattle.ob_resolve_spec.specs.Declarations.{Program, Param, params_of, param_named}
use Rattle.ob_resolve_spec.specs.Scopes.{Scope, scope_of_params, param_variable}
use Rattle.ob_resolve_spec.specs.declared.variable.ScopeVariable.{ScopeVariable}
use Rattle.ob_resolve_scope.specs.Numbered.{find, added, numbered}
use Rattle.ob_resolve_scope.specs.Params.{with_subject, with_param}
use Rattle.ob_resolve_scope.proofs.NumberedLemmas.{find-numbered, numbered-push, first_named-number, taken_back, kept_back}

abbrev names_of : List ScopeVariable → List Name
names_of vs = map (λ v. v.name) vs

-- the variable of a name stands at its number
pub variable-found : (vs : List ScopeVariable) (name : Name)
    → first_named (λ v. v.name) name vs ≡ option_and_then (slice_get vs) (find name (numbered (names_of vs)))
variable-found vs name =
    first_named-number (λ (v : ScopeVariable). v.name) name vs
    ∙ ap (option_and_then (slice_get vs)) (sym (find-numbered name (names_of vs)))

-- one more name after the variables
pub names-push : (vs : List ScopeVariable) (v : ScopeVariable) (name : Name) → v.name ≡ name
    → numbered (names_of (vs ++ v ∷ [])) ≡ added (numbered (names_of vs)) name (length vs)
names-push vs v name e =
    ap numbered (map-append (λ (v : ScopeVariable). v.name) vs (v ∷ []))
    ∙ numbered-push (names_of vs) v.name
    ∙ ap (added (numbered (names_of vs)) v.name) (length-map vs (λ (v : ScopeVariable). v.name))
    ∙ ap (λ x. added (numbered (names_of vs)) x (length vs)) e

-- the last variable goes: what is left of the names where its number is its place, and where it is another
pub last_taken : (es : List (Name × ℕ)) (vs : List ScopeVariable) (v : ScopeVariable) → es ≡ numbered (names_of (vs ++ v ∷ []))
    → find v.name es ≡ Some (length vs) → take (length es - 1) es ≡ numbered (names_of vs)
last_taken es vs v is at =
    taken_back es (names_of vs) v.name (is ∙ ap numbered (map-append (λ (v : ScopeVariable). v.name) vs (v ∷ [])))
    (at ∙ ap Some (sym (length-map vs (λ (v : ScopeVariable). v.name))))

pub last_kept : (es : List (Name × ℕ)) (vs : List ScopeVariable) (v : ScopeVariable) → es ≡ numbered (names_of (vs ++ v ∷ []))
    → (find v.name es ≡ Some (length vs) → ⊥) → es ≡ numbered (names_of vs)
last_kept es vs v is other =
    kept_back es (names_of vs) v.name (is ∙ ap numbered (map-append (λ (v : ScopeVariable). v.name) vs (v ∷ [])))
    (λ at. other (at ∙ ap Some (length-map vs (λ (v : ScopeVariable). v.name))))

-- Parameters.

in_order_after-push : {A B : Type 0} (f : List A → A → List B) (before xs : List A) (x : A)
    → in_order_after f before (xs ++ x ∷ []) ≡ in_order_after f before xs ++ f (before ++ xs) x
in_order_after-push f before [] x = append-nil (f before x) ∙ ap (λ b. f b x) (sym (append-nil before))
in_order_after-push f before (y ∷ xs) x =
    ap (λ r. f before y ++ r) (in_order_after-push f (before ++ y ∷ []) xs x)
    ∙ sym (append_assoc (f before y) (in_order_after f (before ++ y ∷ []) xs) (f ((before ++ y ∷ []) ++ xs) x))
    ∙ ap (λ b. (f before y ++ in_order_after f (before ++ y ∷ []) xs) ++ f b x) (append_assoc before (y ∷ []) xs)

pub in_order-push : {A B : Type 0} (f : List A → A → List B) (xs : List A) (x : A)
    → in_order f (xs ++ x ∷ []) ≡ in_order f xs ++ f xs x
in_order-push f xs x = in_order_after-push f [] xs x

pub params_of-push : (fs : List Formal) (f : Formal)
    → params_of (fs ++ f ∷ []) ≡ params_of fs ++ param_named f.of f.exit f.name
params_of-push [] f = append-nil (param_named f.of f.exit f.name)
params_of-push (g ∷ fs) f =
    ap (λ r. param_named g.of g.exit g.name ++ r) (params_of-push fs f)
    ∙ sym (append_assoc (param_named g.of g.exit g.name) (params_of fs) (param_named f.of f.exit f.name))

abbrev scope_of : Program → List Param → Scope
scope_of program ps = record { variables = in_order (param_variable program) ps; count = length ps }

scope_of-push : (program : Program) (ps : List Param) (of : TypeExpr) (exit : Option PermNode) (s : Subject)
    → scope_of program (ps ++ param_named of exit s) ≡ with_subject program (scope_of program ps) of s
scope_of-push program ps of exit (This span) = ap (scope_of program) (append-nil ps)
scope_of-push program ps of exit (NameSubject name) =
    let p : Param = record { of = of; exit = exit; name = name } in
    let vs = in_order-push (param_variable program) ps p in
    let n : length (ps ++ p ∷ []) ≡ length ps + 1 = length-append ps (p ∷ []) in
    ap (λ (ws : List ScopeVariable). record { variables = ws; count = length (ps ++ p ∷ []) }) vs
    ∙ ap (λ k. record { variables = in_order (param_variable program) ps ++ param_variable program ps p; count = k }) n

-- one more parameter after the others
pub param_turn : (program : Program) (xs : List FormalNode) (i : ℕ) (x : FormalNode) → i < length xs → x ≡ get_or xs i x
    → scope_of_params program (map formal_of (take (i + 1) xs))
    ≡ with_param program (scope_of_params program (map formal_of (take i xs))) (formal_of x)
param_turn program xs i x h is =
    ap (λ ys. scope_of_params program (map formal_of ys)) (take_more xs i x h ∙ ap (λ y. take i xs ++ y ∷ []) (sym is))
    ∙ ap (scope_of_params program) (map-append formal_of (take i xs) (x ∷ []))
    ∙ ap (scope_of program) (params_of-push (map formal_of (take i xs)) (formal_of x))
    ∙ scope_of-push program (params_of (map formal_of (take i xs))) (formal_of x).of (formal_of x).exit
    (formal_of x).name

pub ruleset scopes = (variable-found, names-push, last_taken, last_kept, param_turn, take-take, take_all)
