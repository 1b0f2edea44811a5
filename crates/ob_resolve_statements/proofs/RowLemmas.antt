-- Rows of names: what is asked of a thing that gets a name beside others depends only on which names they are.
use Rattle.std.proofs.Common.{◌≡◌, ℕ, Bool, true, false, ◌||◌, List, [], ◌∷◌, ◌++◌, length, get_or, drop, ◌<◌, ◌+◌, Option, is_some, if◌then◌else◌, map, suc, refl, ap, sym, ◌∙◌, add-one, drop-cons, append_assoc}
use Rattle.std.proofs.lemmas.List.{append-nil, map-append}
use Rattle.std.proofs.lemmas.List.Folds.{list_any-append}
use Rattle.std.specs.Cmp.Lexicographic.{same_text}
use Rattle.ob_base.specs.declared.fault.ProgramFault.{ProgramFault}
use Rattle.ob_tree.specs.Exprs.{Expr}
use Rattle.ob_tree.specs.ExprsView.{expr_of}
use Rattle.ob_tree.specs.Stmts.{GivenExpr, Stmt, declare_stmt, assign_stmt, stage_stmt, change_stmt, call_stmt, test_stmt, if_stmt, while_stmt, return_stmt, revert_stmt, disown_stmt, assert_stmt, Stmts, no_stmts, and_stmt}
use Rattle.ob_tree.specs.StmtsView.{given_of}
use Rattle.ob_tree.specs.declared.name.NamePart.{NamePart}
use Rattle.ob_tree.specs.declared.stmt.GivenNode.{GivenNode}
use Rattle.ob_table_spec.specs.Names.{Name, same, is_among, in_order_after}
use Rattle.ob_resolve_spec.specs.Scopes.{AroundBody, Scope, after_stmt, kind_of_field}
use Rattle.ob_resolve_spec.specs.Reached.{ends}
use Rattle.ob_resolve_spec.specs.Sites.{Site, declares_name, names_state, names_field, follows_statement}
use Rattle.ob_resolve_spec.specs.ExpressionSites.{value_sites}
use Rattle.ob_resolve_spec.specs.StatementSites.{span_of_stmt, given_sites, change_sites, row_after, stmt_sites, stmts_sites}
use Rattle.ob_resolve_scope.specs.Numbered.{find}
use Rattle.ob_resolve_sites.specs.Noted.{noted, noted_at, noted_if, noted-append, names_in}
use Rattle.ob_resolve_statements.specs.Walked.{row_with, rest_of_row}
use Rattle.ob_resolve_sites.proofs.NamingLemmas.{find-is_some}
use Rattle.ob_base.specs.Faults as faults

-- the same names stand in both lists
abbrev pub SameNames : List Name → List Name → Type 0
SameNames xs ys = (name : Name) → is_among name xs ≡ is_among name ys

same_of : (xs ys : List Name) → xs ≡ ys → SameNames xs ys
same_of xs ys e = λ name. ap (is_among name) e

same_trans : (xs ys zs : List Name) → SameNames xs ys → SameNames ys zs → SameNames xs zs
same_trans xs ys zs p q = λ name. p name ∙ q name

same_push : (xs ys : List Name) (n : Name) → SameNames xs ys → SameNames (xs ++ n ∷ []) (ys ++ n ∷ [])
same_push xs ys n e = λ name. list_any-append (same name) xs (n ∷ []) ∙ ap (λ b. b || is_among name (n ∷ [])) (e name)
    ∙ sym (list_any-append (same name) ys (n ∷ []))

-- a name that is there already adds none
same_again : (xs : List Name) (n : Name) → is_among n xs ≡ true → SameNames xs (xs ++ n ∷ [])
same_again xs n e = λ name. by name (same name n) refl ∙ sym (list_any-append (same name) xs (n ∷ []))
  where
    by : (name : Name) (b : Bool) → same name n ≡ b → is_among name xs ≡ (is_among name xs || (b || false))
    by name true h =
        let there : is_among name xs ≡ true = ap (λ m. is_among m xs) (same_text name n (sym h)) ∙ e in rw there refl
    by name false h = none (is_among name xs)
      where
        none : (a : Bool) → a ≡ (a || false)
        none true = refl
        none false = refl

same_with : (row : List (Name × ℕ)) (n : Name) → SameNames (names_in (row_with row n)) (names_in row ++ n ∷ [])
same_with row n = by (is_some (find n row)) refl
  where
    by : (b : Bool) → is_some (find n row) ≡ b
        → SameNames (names_in (if b then row else row ++ (n, length row) ∷ [])) (names_in row ++ n ∷ [])
    by true e = same_again (names_in row) n (sym (find-is_some n row) ∙ e)
    by false e = same_of (names_in (row ++ (n, length row) ∷ [])) (names_in row ++ n ∷ [])
        (map-append (λ e. e.0) row ((n, length row) ∷ []))

pub declares_same : (xs ys : List Name) (l : Option ProgramFault) (name : NamePart) → SameNames xs ys
    → noted_at l (declares_name xs name) ≡ noted_at l (declares_name ys name)
declares_same xs ys l name e = ap (λ b. noted_if l b faults.duplicate name.span) (e name.name)

given_same : (a : AroundBody) (s : Scope) (xs ys : List Name) (l : Option ProgramFault) (field : NamePart) (value : Expr)
    → SameNames xs ys → noted l (given_sites a s xs field value) ≡ noted l (given_sites a s ys field value)
given_same a s xs ys l field value e =
    ap (λ m. noted m (names_field a.own field ∷ value_sites a s (kind_of_field a.program a.own field.name) value))
    (declares_same xs ys l field e)

-- the names of given fields
abbrev fields_in : List GivenExpr → List Name
fields_in gs = map (λ g. g.field.name) gs

abbrev given_after : AroundBody → Scope → List Name → List GivenExpr → GivenExpr → List Site
given_after a s row before g = given_sites a s (row ++ fields_in before) g.field g.value

after_push : (xs : List Name) (before : List GivenExpr) (g : GivenExpr)
    → xs ++ fields_in (before ++ g ∷ []) ≡ (xs ++ fields_in before) ++ g.field.name ∷ []
after_push xs before g = ap (λ ys. xs ++ ys) (map-append (λ g. g.field.name) before (g ∷ []))
    ∙ sym (append_assoc xs (fields_in before) (g.field.name ∷ []))

change_same : (a : AroundBody) (s : Scope) (xs ys : List Name) (bs cs gs : List GivenExpr) (l : Option ProgramFault)
    → SameNames (xs ++ fields_in bs) (ys ++ fields_in cs)
    → noted l (in_order_after (given_after a s xs) bs gs) ≡ noted l (in_order_after (given_after a s ys) cs gs)
change_same a s xs ys bs cs [] l e = refl
change_same a s xs ys bs cs (g ∷ gs) l e =
    noted-append l (given_after a s xs bs g) (in_order_after (given_after a s xs) (bs ++ g ∷ []) gs)
    ∙ ap (λ m. noted m (in_order_after (given_after a s xs) (bs ++ g ∷ []) gs))
    (given_same a s (xs ++ fields_in bs) (ys ++ fields_in cs) l g.field g.value e)
    ∙ change_same a s xs ys (bs ++ g ∷ []) (cs ++ g ∷ []) gs (noted l (given_after a s ys cs g)) more
    ∙ sym (noted-append l (given_after a s ys cs g) (in_order_after (given_after a s ys) (cs ++ g ∷ []) gs))
  where
    more : SameNames (xs ++ fields_in (bs ++ g ∷ [])) (ys ++ fields_in (cs ++ g ∷ []))
    more = λ name. ap (is_among name) (after_push xs bs g)
        ∙ same_push (xs ++ fields_in bs) (ys ++ fields_in cs) g.field.name e name
        ∙ sym (ap (is_among name) (after_push ys cs g))

-- one field is given, and the others after it
change_step : (a : AroundBody) (s : Scope) (row : List (Name × ℕ)) (l : Option ProgramFault) (g : GivenExpr) (gs : List GivenExpr)
    → noted (noted l (given_sites a s (names_in row) g.field g.value))
    (change_sites a s (names_in (row_with row g.field.name)) gs) ≡ noted l (change_sites a s (names_in row) (g ∷ gs))
change_step a s row l g gs =
    ap (λ m. noted m (change_sites a s (names_in (row_with row g.field.name)) gs))
    (given_same a s (names_in row) (names_in row ++ []) l g.field g.value
    (same_of (names_in row) (names_in row ++ []) (sym (append-nil (names_in row)))))
    ∙ change_same a s (names_in (row_with row g.field.name)) (names_in row) [] (g ∷ []) gs
    (noted l (given_after a s (names_in row) [] g))
    (λ name. ap (is_among name) (append-nil (names_in (row_with row g.field.name)))
    ∙ same_with row g.field.name name)
    ∙ sym (noted-append l (given_after a s (names_in row) [] g)
    (in_order_after (given_after a s (names_in row)) (g ∷ []) gs))

-- a loop's turn, over given fields
pub change_turn : (a : AroundBody) (s : Scope) (row : List (Name × ℕ)) (l : Option ProgramFault) (gs : List GivenNode)
    (i : ℕ) (g : GivenNode) → i < length gs → g ≡ get_or gs i g
    → noted (noted l (given_sites a s (names_in row) g.field (expr_of g.value)))
    (change_sites a s (names_in (row_with row g.field.name)) (map given_of (drop (i + 1) gs)))
    ≡ noted l (change_sites a s (names_in row) (map given_of (drop i gs)))
change_turn a s row l gs i g h is =
    change_step a s row l (given_of g) (map given_of (drop (i + 1) gs))
    ∙ ap (λ xs. noted l (change_sites a s (names_in row) xs)) (sym (drops gs i g h is))
  where
    drops : (gs : List GivenNode) (i : ℕ) (g : GivenNode) → i < length gs → g ≡ get_or gs i g
        → map given_of (drop i gs) ≡ given_of g ∷ map given_of (drop (i + 1) gs)
    drops gs i g h is = rw (add-one, drop-cons gs i g) (ap (λ y. given_of y ∷ map given_of (drop (suc i) gs)) (sym is))

stmt_same : (a : AroundBody) (s : Scope) (xs ys : List Name) (l : Option ProgramFault) (x : Stmt) → SameNames xs ys
    → noted l (stmt_sites a s xs x) ≡ noted l (stmt_sites a s ys x)
stmt_same a s xs ys l (stage_stmt state field value span) e =
    given_same a s xs ys (noted_at l (names_state a.own state)) field value e
stmt_same a s xs ys l (change_stmt state given span) e =
    change_same a s xs ys [] [] given (noted_at l (names_state a.own state))
    (λ name. ap (is_among name) (append-nil xs) ∙ e name ∙ sym (ap (is_among name) (append-nil ys)))
stmt_same a s xs ys l (declare_stmt of name value span) e = refl
stmt_same a s xs ys l (assign_stmt name value span) e = refl
stmt_same a s xs ys l (call_stmt value span) e = refl
stmt_same a s xs ys l (test_stmt subject state branch otherwise span) e = refl
stmt_same a s xs ys l (if_stmt condition branch otherwise span) e = refl
stmt_same a s xs ys l (while_stmt condition body span) e = refl
stmt_same a s xs ys l (return_stmt value span) e = refl
stmt_same a s xs ys l (revert_stmt text span) e = refl
stmt_same a s xs ys l (disown_stmt name span) e = refl
stmt_same a s xs ys l (assert_stmt subject perm span) e = refl

after_same : (xs ys : List Name) (x : Stmt) → SameNames xs ys → SameNames (row_after xs x) (row_after ys x)
after_same xs ys (stage_stmt state field value span) e = same_push xs ys field.name e
after_same xs ys (change_stmt state given span) e = λ name. refl
after_same xs ys (declare_stmt of name value span) e = λ name. refl
after_same xs ys (assign_stmt name value span) e = λ name. refl
after_same xs ys (call_stmt value span) e = λ name. refl
after_same xs ys (test_stmt subject state branch otherwise span) e = λ name. refl
after_same xs ys (if_stmt condition branch otherwise span) e = λ name. refl
after_same xs ys (while_stmt condition body span) e = λ name. refl
after_same xs ys (return_stmt value span) e = λ name. refl
after_same xs ys (revert_stmt text span) e = λ name. refl
after_same xs ys (disown_stmt name span) e = λ name. refl
after_same xs ys (assert_stmt subject perm span) e = λ name. refl

pub stmts_same : (a : AroundBody) (s : Scope) (xs ys : List Name) (ended : Bool) (l : Option ProgramFault) (ss : Stmts)
    → SameNames xs ys → noted l (stmts_sites a s xs ended ss) ≡ noted l (stmts_sites a s ys ended ss)
stmts_same a s xs ys ended l no_stmts e = refl
stmts_same a s xs ys ended l (and_stmt x ss) e =
    noted-append m (stmt_sites a s xs x) (stmts_sites a (after_stmt a s x) (row_after xs x) (ended || ends x) ss)
    ∙ ap (λ k. noted k (stmts_sites a (after_stmt a s x) (row_after xs x) (ended || ends x) ss))
    (stmt_same a s xs ys m x e)
    ∙ stmts_same a (after_stmt a s x) (row_after xs x) (row_after ys x) (ended || ends x)
    (noted m (stmt_sites a s ys x)) ss (after_same xs ys x e)
    ∙ sym (noted-append m (stmt_sites a s ys x)
    (stmts_sites a (after_stmt a s x) (row_after ys x) (ended || ends x) ss))
  where
    m : Option ProgramFault
    m = noted_at l (follows_statement ended (span_of_stmt x))

pub same_after : (row : List (Name × ℕ)) (x : Stmt)
    → SameNames (names_in (rest_of_row row x)) (row_after (names_in row) x)
same_after row (stage_stmt state field value span) = same_with row field.name
same_after row (change_stmt state given span) = λ name. refl
same_after row (declare_stmt of name value span) = λ name. refl
same_after row (assign_stmt name value span) = λ name. refl
same_after row (call_stmt value span) = λ name. refl
same_after row (test_stmt subject state branch otherwise span) = λ name. refl
same_after row (if_stmt condition branch otherwise span) = λ name. refl
same_after row (while_stmt condition body span) = λ name. refl
same_after row (return_stmt value span) = λ name. refl
same_after row (revert_stmt text span) = λ name. refl
same_after row (disown_stmt name span) = λ name. refl
same_after row (assert_stmt subject perm span) = λ name. refl
