-- The statements of a program without faults are well-formed.
use Rattle.std.proofs.Common.{◌≡◌, ◌≢◌, ℕ, zero, suc, ◌+◌, ◌<◌, Bool, true, false, List, [], ◌∷◌, ◌++◌, map, length, get_or, Option, Some, None, refl, sym, ap, subst, arith, ◌∙◌, append_assoc}
use Rattle.std.proofs.lemmas.List.{map-append, append-nil}
use Rattle.std.specs.Prelude.{◌||◌, option_map, slice_get, unwrap_or, IsTrue, IsSome, IsSomeAnd}
use Rattle.std.specs.Option.{option_map_or}
use Rattle.ob_base.specs.declared.fault.Span.{Span}
use Rattle.ob_tree.specs.Names.{Named}
use Rattle.ob_tree.specs.Exprs.{Expr}
use Rattle.ob_tree.specs.Stmts.{Local, int_local, bool_local, text_local, named_local, GivenExpr, Stmt, declare_stmt, assign_stmt, stage_stmt, change_stmt, call_stmt, test_stmt, if_stmt, while_stmt, return_stmt, revert_stmt, disown_stmt, assert_stmt, Block, block_with, Else, no_else, else_with, Stmts, no_stmts, and_stmt}
use Rattle.ob_tree.specs.Members.{Contract}
use Rattle.ob_tree.specs.declared.name.NamePart.{NamePart}
use Rattle.ob_tree.specs.declared.name.PermNode.{PermNode}
use Rattle.ob_tree.specs.declared.name.Subject.{Subject}
use Rattle.ob_tree.specs.declared.name.Subject.TheVariants.{This, Name as NameSubject}
use Rattle.ob_table.specs.Statements.{no_statements}
use Rattle.ob_table.specs.declared.seen.Kind.TheVariants.{Reference}
use Rattle.ob_table.specs.declared.contract.Contract.{Contract as TableContract}
use Rattle.ob_table.specs.declared.contract.Field.{Field as TableField}
use Rattle.ob_table_spec.specs.Names.{Name, same, is_among, in_order_after}
use Rattle.ob_resolve_spec.specs.Declarations.{part_of_named, number_of_contract, declared_contract, state_names, field_names, fields_of}
use Rattle.ob_resolve_spec.specs.declared.kind.InferredKind.{InferredKind}
use Rattle.ob_resolve_spec.specs.declared.kind.InferredKind.TheVariants.{Int as an_int, Bool as a_bool, Text as a_text, Reference as a_reference, Nothing as nothing, Unknown as unknown}
use Rattle.ob_resolve_spec.specs.Kinds.{contract_of_kind, kind_of_name, kind_of_type, kind_of_local, differs}
use Rattle.ob_resolve_spec.specs.Visible.{a_contract, a_variable}
use Rattle.ob_resolve_spec.specs.declared.variable.ScopeVariable.{ScopeVariable}
use Rattle.ob_resolve_spec.specs.Scopes.{Scope, variable_named, visible_at, locals_in, locals_in_block, past, after_stmt, kind_of_field, kind_of_variable, kind_of_subject, kind_of}
use Rattle.ob_resolve_spec.specs.Reached.{ends}
use Rattle.ob_resolve_spec.specs.Sites.{declares_name, names_thing, names_state, assigns_variable}
use Rattle.ob_resolve_spec.specs.TypeSites.{local_sites}
use Rattle.ob_resolve_spec.specs.ExpressionSites.{expr_sites, value_sites}
use Rattle.ob_resolve_spec.specs.StatementSites.{span_of_subject, on_contract, subject_sites, assigned, kind_of_target, given_sites, change_sites, row_after, returned_sites, stmt_sites, block_sites, else_sites, stmts_sites}
use Rattle.ob_resolve_spec.specs.Faults.{returns_other}
use Rattle.ob_resolve_spec.specs.Numbers.{state_id, field_id, perm_on}
use Rattle.ob_resolve_spec.specs.Bodies.{resolved_local, seen_name, seen_subject, resolved_expr, resolved_given, resolved_stmt, block_resolved, else_resolved, resolved_stmts}
use Rattle.ob_resolve_spec.specs.Shape.{HasExprShape, HaveGivenShapes, HasShapeIf, HasStmtShape, HasBlockShape, HasElseShape, HaveStmtShapes}
use Rattle.ob_resolve_spec.specs.TableOf.{field_in_table, contract_in_table, table_of}
use Rattle.ob_table_spec.specs.Conditions.{IsPermOn}
use Rattle.ob_table_spec.specs.WellFormed.{kind_of_seen, kind_of_resolved, IsTarget, IsGiven, AreGiven, IsLocalKind, IsValue, serves_as, RefersTo, Refers, IsReturned, rest_of_row, locals_after, IsStatement, IsBlock, IsOtherwise, AreStatements}
use Rattle.ob_resolve_laws.proofs.Each.{Each, each_left, each_right, each_both, each_at}
use Rattle.ob_resolve_laws.proofs.Clean.{Clean}
use Rattle.ob_resolve_laws.proofs.NameFacts.{not_among}
use Rattle.ob_resolve_laws.proofs.LookUps.{some_value, slice_get-map, among_number, number_at, slice_get_bound, contract_found, named_at}
use Rattle.ob_resolve_laws.proofs.TypeFacts.{true_from_not, name_means, some_and, in_table, perm_in_table}
use Rattle.ob_resolve_laws.proofs.SignatureFacts.{field_found, same_field}
use Rattle.ob_resolve_laws.proofs.KindFacts.{IsValueKind, IsKnownKind, as_local, serves_there}
use Rattle.ob_resolve_laws.proofs.ScopeFacts.{GoodScope, by_number, no_number, good_with, good_past, by_number-with, this_known, KnownName, name_known, Denotes, for_variable, for_field, denotes}
use Rattle.ob_resolve_laws.proofs.EndFacts.{ends_same}
use Rattle.ob_resolve_laws.proofs.ExpressionFacts.{Here, frame, program, expr_fact, value_fact, KnownReference, reference_known}

-- Locals.

pub record KnownLocal (h : Here) (of : Local) : Type 0 where
  pub value : IsValueKind (program h) (kind_of_local (program h) of)
  pub there : IsLocalKind (table_of (program h)) (resolved_local (kind_of_local (program h) of))

named_known : (h : Here) (of : Named) (n : ℕ) (c : Contract)
    → number_of_contract (program h) (part_of_named of).name ≡ Some n → declared_contract (program h) n ≡ Some c
    → KnownLocal h (named_local of)
named_known h of n c e at =
    let k : kind_of_name (program h) (part_of_named of).name ≡ a_reference n =
    ap (λ o. option_map_or a_reference o unknown) e in
    record {
      value = subst (IsValueKind (program h)) (sym k) (c, at);
      there = subst (λ k. IsLocalKind (table_of (program h)) (resolved_local k)) (sym k)
          (subst IsSome (sym (in_table (program h) n c at)) refl);
    }

local_known : (h : Here) (s : Scope) (of : Local) → Each Clean (local_sites (visible_at h.around s) of)
    → KnownLocal h of
local_known h s (int_local span) c = record { value = tt; there = tt }
local_known h s (bool_local span) c = record { value = tt; there = tt }
local_known h s (text_local span) c = record { value = tt; there = tt }
local_known h s (named_local of) c =
    let n = some_value (number_of_contract (program h) (part_of_named of).name)
    (name_means a_contract (visible_at h.around s) (part_of_named of) c.0) in
    let f = contract_found (program h) (part_of_named of).name n.0 n.1 in
    named_known h of n.0 f.0 n.1 f.1

-- Assigned names.

pub record KnownTarget (h : Here) (s : Scope) (name : Name) : Type 0 where
  pub target : IsTarget (frame h) (seen_name h.around s name)
  pub kind : kind_of_target h.around s name ≡ kind_of_variable h.around s name
  pub known : KnownName h.around s (frame h) name

target_known : (h : Here) (s : Scope) (name : NamePart) → GoodScope (program h) h.params s
    → Clean (names_thing a_variable (visible_at h.around s) name) → Clean (assigns_variable (variable_named s name.name) name.span)
    → KnownTarget h s name.name
target_known h s name g c d =
    let m = name_means a_variable (visible_at h.around s) name c in
    at (denotes h.around s name.name m) (name_known h.around h.world s h.world.number h.params h.result name.name g
    m)
  where
    at : Denotes h.around s name.name → KnownName h.around s (frame h) name.name → KnownTarget h s name.name
    at (for_field n e f) k = record { target = subst (IsTarget (frame h)) (sym f) tt; kind = rw e refl; known = k }
    at (for_variable v e f) k =
        let no_param : v.is_param ≡ false = (subst (λ o. Clean (assigns_variable o name.span)) e d).assigned_parameter in
        let place = named_at (λ (v : ScopeVariable). v.name) name.name s.variables v e in
        let above = each_at _ s.variables place.0 v g.locals place.1 no_param in
        let t : kind_of_target h.around s name.name ≡ v.of =
        ap (λ o. assigned o (kind_of_field (program h) h.around.own name.name)) e ∙ (rw no_param refl) in
        let u : kind_of_variable h.around s name.name ≡ v.of =
        ap (λ o. option_map_or (λ (v : ScopeVariable). v.of) o (kind_of_field (program h) h.around.own name.name)) e in
        record { target = subst (IsTarget (frame h)) (sym f) above; kind = t ∙ sym u; known = k }

-- States and fields.

state_within : (c : Contract) (name : Name) → is_among name (state_names c) ≡ true
    → (state_id (Some c) name).0 < length (state_names c)
state_within c name m =
    let n = among_number name (state_names c) m in
    let b = slice_get_bound (state_names c) n.0 name (number_at name (state_names c) n.0 n.1) in
    subst (λ o. unwrap_or o 0 < length (state_names c)) (sym n.1) b

named_state : (c : Contract) (name : NamePart) → Clean (names_state c name)
    → (state_id (Some c) name.name).0 < length (state_names c)
named_state c name h = state_within c name.name (true_from_not (is_among name.name (state_names c)) h.no_state)

-- the fields of a row by number
abbrev row_ids : Contract → List Name → List ℕ
row_ids own row = map (λ name. (field_id own name).0) row

not_in_row : (own : Contract) (row : List Name) (name : Name) → Each (λ n. is_among n (field_names own) ≡ true) row
    → is_among name (field_names own) ≡ true → is_among name row ≡ false
    → (k : ℕ) (d : ℕ) → k < length (row_ids own row) → get_or (row_ids own row) k d ≢ (field_id own name).0
not_in_row own [] name r f m k d l e = absurd (omega arith)
not_in_row own (n ∷ row) name r f m zero d l e =
    not_among name (n ∷ row) m 0 name (omega arith) (same_field (field_names own) n name r.0 f e)
not_in_row own (n ∷ row) name r f m (suc k) d l e =
    not_in_row own row name r.1 f (rest (same name n) m) k d (omega arith) e
  where
    rest : (b : Bool) → (b || is_among name row) ≡ false → is_among name row ≡ false
    rest true h = absurd cc
    rest false h = h

given_fact : (h : Here) (s : Scope) (row : List Name) (field : NamePart) (value : Expr) → HasExprShape value
    → GoodScope (program h) h.params s → Each (λ n. is_among n (field_names h.around.own) ≡ true) row
    → Each Clean (given_sites h.around s row field value)
    → IsGiven (frame h) (by_number s.variables) (row_ids h.around.own row) (resolved_given h.around s field value)
given_fact h s row field value shape g r c =
    let own = h.around.own in
    let f = true_from_not (is_among field.name (field_names own)) c.1.0.not_field in
    let n = field_found (program h) own field.name f in
    let t = each_at _ (fields_of own) n.number n.field h.world.fields n.at in
    let at : slice_get (map (field_in_table (program h) own) (fields_of own)) n.number
    ≡ Some (field_in_table (program h) own n.field) = slice_get-map (field_in_table (program h) own) (fields_of own)
    n.number ∙ ap (option_map (field_in_table (program h) own)) n.at in
    let v = value_fact h s (kind_of_type (program h) n.field.field.of) value t.value shape g
    (subst (λ k. Each Clean (value_sites h.around s k value)) n.kind c.1.1) in
    let P = λ (x : TableField). IsValue (frame h) (by_number s.variables) (kind_of_resolved x.of)
    (resolved_expr h.around s value) in (
      not_in_row own row field.name r f c.0.duplicate,
      subst (λ o. IsSomeAnd (slice_get (map (field_in_table (program h) own) (fields_of own)) (unwrap_or o 0)) P)
          (sym n.numbered)
          (some_and _ (field_in_table (program h) own n.field) P at
          (subst (λ k. IsValue (frame h) (by_number s.variables) k (resolved_expr h.around s value))
          (sym t.in_table_as) v)),
    )

push_row : (own : Contract) (row : List Name) (name : Name)
    → row_ids own (row ++ name ∷ []) ≡ row_ids own row ++ (field_id own name).0 ∷ []
push_row own row name = map-append (λ name. (field_id own name).0) row (name ∷ [])

-- names of fields, one after another
abbrev AreFields : Contract → List Name → Type 0
AreFields own row = Each (λ n. is_among n (field_names own) ≡ true) row

field_named_there : (h : Here) (s : Scope) (row : List Name) (field : NamePart) (value : Expr)
    → Each Clean (given_sites h.around s row field value) → is_among field.name (field_names h.around.own) ≡ true
field_named_there h s row field value c = true_from_not (is_among field.name (field_names h.around.own)) c.1.0.not_field

abbrev names_given : List GivenExpr → List Name
names_given before = map (λ b. b.field.name) before

one_more_given : (row : List Name) (before : List GivenExpr) (g : GivenExpr)
    → row ++ names_given (before ++ g ∷ []) ≡ (row ++ names_given before) ++ g.field.name ∷ []
one_more_given row before g =
    ap (λ ns. row ++ ns) (map-append (λ (b : GivenExpr). b.field.name) before (g ∷ []))
    ∙ sym (append_assoc row (names_given before) (g.field.name ∷ []))

changed : (h : Here) (s : Scope) (row : List Name) (before given : List GivenExpr) → HaveGivenShapes given
    → GoodScope (program h) h.params s
    → AreFields h.around.own (row ++ names_given before)
    → Each Clean (in_order_after (λ before g. given_sites h.around s (row ++ map (λ b. b.field.name) before) g.field
    g.value) before given)
    → AreGiven (frame h) (by_number s.variables) (row_ids h.around.own (row ++ names_given before))
    (map (λ g. resolved_given h.around s g.field g.value) given)
changed h s row before [] shape g r c = tt
changed h s row before (x ∷ given) shape g r c =
    let own = h.around.own in
    let here = each_left Clean (given_sites h.around s (row ++ names_given before) x.field x.value) _ c in
    let rest = each_right Clean (given_sites h.around s (row ++ names_given before) x.field x.value)
    (in_order_after (λ before g. given_sites h.around s (row ++ map (λ b. b.field.name) before) g.field g.value)
    (before ++ x ∷ []) given) c in
    let more = one_more_given row before x in
    let r' = subst (AreFields own) (sym more)
    (each_both (λ n. is_among n (field_names own) ≡ true) (row ++ names_given before) (x.field.name ∷ []) r
    (field_named_there h s (row ++ names_given before) x.field x.value here, tt)) in (
      given_fact h s (row ++ names_given before) x.field x.value shape.0 g r here,
      subst (λ ids. AreGiven (frame h) (by_number s.variables) ids
          (map (λ g. resolved_given h.around s g.field g.value) given)) (ap (row_ids own) more
          ∙ push_row own (row ++ names_given before) x.field.name)
          (changed h s row (before ++ x ∷ []) given shape.1 g r' rest),
    )

no_names : (row : List Name) → row ++ names_given [] ≡ row
no_names row = append-nil row

change_fact : (h : Here) (s : Scope) (row : List Name) (given : List GivenExpr) → HaveGivenShapes given
    → GoodScope (program h) h.params s → AreFields h.around.own row → Each Clean (change_sites h.around s row given)
    → AreGiven (frame h) (by_number s.variables) (row_ids h.around.own row)
    (map (λ g. resolved_given h.around s g.field g.value) given)
change_fact h s row given shape g r c =
    subst (λ ns. AreGiven (frame h) (by_number s.variables) (row_ids h.around.own ns)
    (map (λ g. resolved_given h.around s g.field g.value) given)) (no_names row)
    (changed h s row [] given shape g (subst (AreFields h.around.own) (sym (no_names row)) r) c)

-- References.

pub record KnownSubject (h : Here) (s : Scope) (subject : Subject) : Type 0 where
  pub number : ℕ
  pub contract : Contract
  pub kind : kind_of_subject h.around s subject ≡ a_reference number
  pub at : declared_contract (program h) number ≡ Some contract
  pub seen : kind_of_seen (frame h) (by_number s.variables) (seen_subject h.around s subject).of
      ≡ Some (Reference (record { 0 = number }))

from_reference : (h : Here) (s : Scope) (name : NamePart) → KnownReference h s name.name
    → KnownSubject h s (NameSubject name)
from_reference h s name r = record {
  number = r.number;
  contract = r.contract;
  kind = r.kind;
  at = r.at;
  seen =
      r.seen.seen ∙ ap (λ k. Some (resolved_local k)) r.kind;
}

subject_known : (h : Here) (s : Scope) (subject : Subject) (span : Span) → GoodScope (program h) h.params s
    → Each Clean (subject_sites h.around s subject span) → KnownSubject h s subject
subject_known h s (This token) span g c =
    record {
      number = h.world.number;
      contract = h.around.own;
      kind = this_known h.around h.world;
      at = h.world.at;
      seen = refl;
    }
subject_known h s (NameSubject name) span g c = from_reference h s name (reference_known h s name span g c)

refers_there : (h : Here) (s : Scope) (subject : Subject) (P : TableContract → Type 0) (k : KnownSubject h s subject)
    → P (contract_in_table (program h) k.contract)
    → Refers (frame h) (by_number s.variables) (seen_subject h.around s subject).of P
refers_there h s subject P k p =
    some_and _ (Reference (record { 0 = k.number })) (RefersTo (table_of (program h)) P) k.seen
    (some_and _ (contract_in_table (program h) k.contract) P (in_table (program h) k.number k.contract k.at) p)

contract_of_subject : (h : Here) (s : Scope) (subject : Subject) (k : KnownSubject h s subject)
    → contract_of_kind (program h) (kind_of_subject h.around s subject) ≡ Some k.contract
contract_of_subject h s subject k = ap (contract_of_kind (program h)) k.kind ∙ k.at

tested : (h : Here) (s : Scope) (subject : Subject) (state : NamePart) (k : KnownSubject h s subject)
    → Each Clean (on_contract h.around (kind_of_subject h.around s subject) (λ c. names_state c state ∷ []))
    → Refers (frame h) (by_number s.variables) (seen_subject h.around s subject).of
    (λ c. (state_id (contract_of_kind (program h) (kind_of_subject h.around s subject)) state.name).0 < length
    c.states)
tested h s subject state k c =
    let e = contract_of_subject h s subject k in
    let d = subst (λ o. Each Clean (option_map_or (λ c. names_state c state ∷ []) o [])) e c in
    subst (λ o. Refers (frame h) (by_number s.variables) (seen_subject h.around s subject).of
    (λ c. (state_id o state.name).0 < length c.states)) (sym e)
    (refers_there h s subject (λ c. (state_id (Some k.contract) state.name).0 < length c.states) k
    (named_state k.contract state d.0))

asserted : (h : Here) (s : Scope) (subject : Subject) (perm : PermNode) (k : KnownSubject h s subject)
    → Refers (frame h) (by_number s.variables) (seen_subject h.around s subject).of
    (λ c. IsPermOn c (perm_on (contract_of_kind (program h) (kind_of_subject h.around s subject)) perm))
asserted h s subject perm k =
    refers_there h s subject (λ c. IsPermOn c
    (perm_on (contract_of_kind (program h) (kind_of_subject h.around s subject)) perm)) k
    (perm_in_table (program h) (contract_of_kind (program h) (kind_of_subject h.around s subject)) k.contract perm
    (contract_of_subject h s subject k))

-- Results.

-- what a body returns, as it is written and with numbers
pub record Result (h : Here) : Type 0 where
  pub known : IsKnownKind (program h) h.around.result
  pub there : h.result ≡ as_local h.around.result

given_back : (h : Here) (s : Scope) (wanted : InferredKind) (v : Expr) → IsValueKind (program h) wanted
    → HasExprShape v → GoodScope (program h) h.params s → differs (program h) wanted (kind_of h.around s v) ≡ false
    → Each Clean (expr_sites h.around s v)
    → IsValue (frame h) (by_number s.variables) (resolved_local wanted) (resolved_expr h.around s v)
given_back h s wanted v w shape g d c =
    let f = expr_fact h s v shape g c in (
      f.made,
      subst (λ o. IsSomeAnd o (λ has. IsTrue (serves_as (table_of (program h)) (resolved_local wanted) has)))
          (sym f.there) (serves_there (program h) wanted (kind_of h.around s v) w f.known d),
    )

returned : (h : Here) (s : Scope) (value : Option Expr) (span : Span) (k : InferredKind) → h.around.result ≡ k
    → IsKnownKind (program h) k → HasShapeIf value → GoodScope (program h) h.params s
    → Each Clean (returned_sites h.around s value span)
    → IsReturned (frame h) (by_number s.variables) (as_local k) (option_map (resolved_expr h.around s) value)
returned h s None span nothing e w shape g c = tt
returned h s (Some v) span nothing e w shape g c = let f : returns_other (program h) nothing (Some (kind_of h.around s v))
    ≡ false = subst (λ k. returns_other (program h) k (Some (kind_of h.around s v)) ≡ false) e c.0.type_mismatch in
    absurd (cc)
returned h s None span unknown e w shape g c = absurd w
returned h s (Some v) span unknown e w shape g c = absurd w
returned h s None span an_int e w shape g c = let f : true ≡ false =
    subst (λ k. returns_other (program h) k None ≡ false) e c.0.type_mismatch in absurd (cc)
returned h s None span a_bool e w shape g c = let f : true ≡ false =
    subst (λ k. returns_other (program h) k None ≡ false) e c.0.type_mismatch in absurd (cc)
returned h s None span a_text e w shape g c = let f : true ≡ false =
    subst (λ k. returns_other (program h) k None ≡ false) e c.0.type_mismatch in absurd (cc)
returned h s None span (a_reference n) e w shape g c = let f : true ≡ false =
    subst (λ k. returns_other (program h) k None ≡ false) e c.0.type_mismatch in absurd (cc)
returned h s (Some v) span an_int e w shape g c =
    given_back h s an_int v tt shape g (subst (λ k. returns_other (program h) k (Some (kind_of h.around s v)) ≡ false) e
    c.0.type_mismatch) c.1
returned h s (Some v) span a_bool e w shape g c =
    given_back h s a_bool v tt shape g (subst (λ k. returns_other (program h) k (Some (kind_of h.around s v)) ≡ false) e
    c.0.type_mismatch) c.1
returned h s (Some v) span a_text e w shape g c =
    given_back h s a_text v tt shape g (subst (λ k. returns_other (program h) k (Some (kind_of h.around s v)) ≡ false) e
    c.0.type_mismatch) c.1
returned h s (Some v) span (a_reference n) e w shape g c =
    given_back h s (a_reference n) v w shape g (subst (λ k. returns_other (program h) k (Some (kind_of h.around s v)) ≡ false)
    e c.0.type_mismatch) c.1

-- After a statement.

pub record After (h : Here) (s : Scope) (x : Stmt) : Type 0 where
  pub good : GoodScope (program h) h.params (after_stmt h.around s x)
  pub there : by_number (after_stmt h.around s x).variables
      ≡ locals_after (by_number s.variables) (resolved_stmt h.around s x)

after_fact : (h : Here) (s : Scope) (row : List Name) (x : Stmt) → GoodScope (program h) h.params s
    → Each Clean (stmt_sites h.around s row x) → After h s x
after_fact h s row (declare_stmt of name value span) g c =
    let k = local_known h s of (each_left Clean (local_sites (visible_at h.around s) of) _ c) in
    record {
      good = good_with (program h) h.params s name.name (kind_of_local (program h) of) g k.value;
      there =
          by_number-with s name.name (kind_of_local (program h) of);
    }
after_fact h s row x g c = record { good = good_past (program h) h.params s (locals_in x) g; there = refl }

pub record NextRow (h : Here) (s : Scope) (row : List Name) (x : Stmt) : Type 0 where
  pub fields : AreFields h.around.own (row_after row x)
  pub there : row_ids h.around.own (row_after row x)
      ≡ rest_of_row (row_ids h.around.own row) (resolved_stmt h.around s x)

next_row : (h : Here) (s : Scope) (row : List Name) (x : Stmt) → AreFields h.around.own row
    → Each Clean (stmt_sites h.around s row x) → NextRow h s row x
next_row h s row (stage_stmt state field value span) r c = record {
  fields = each_both (λ n. is_among n (field_names h.around.own) ≡ true) row (field.name ∷ []) r
      (field_named_there h s row field value c.1, tt);
  there = push_row h.around.own row field.name;
}
next_row h s row x r c = record { fields = tt; there = refl }

-- nothing stands after a statement that ends
nothing_after : (h : Here) (s : Scope) (row : List Name) (ended : Bool) (x : Stmt) (xs : Stmts) → ends x ≡ true
    → Each Clean (stmts_sites h.around (after_stmt h.around s x) row (ended || ends x) xs)
    → resolved_stmts h.around (after_stmt h.around s x) xs ≡ no_statements
nothing_after h s row ended x no_stmts e c = refl
nothing_after h s row ended x (and_stmt y ys) e c =
    let f : (ended || ends x) ≡ false = c.0.unreachable in
    let t = either_true ended e in absurd (cc)
  where
    either_true : (b : Bool) → ends x ≡ true → (b || ends x) ≡ true
    either_true true k = refl
    either_true false k = k

-- Statements.

mutual
  stmt_fact : (h : Here) (q : Result h) (s : Scope) (row : List Name) (x : Stmt) → HasStmtShape x
      → GoodScope (program h) h.params s
      → AreFields h.around.own row → Each Clean (stmt_sites h.around s row x)
      → IsStatement (frame h) (by_number s.variables) (row_ids h.around.own row) (resolved_stmt h.around s x)
  stmt_fact h q s row (declare_stmt of name value span) shape g r c =
      let L = local_sites (visible_at h.around s) of in
      let k = local_known h s of (each_left Clean L _ c) in
      let rest = each_right Clean L (declares_name (map (λ v. v.name) s.variables ++ field_names h.around.own) name
      ∷ value_sites h.around s (kind_of_local (program h) of) value) c in
      let first = g.params_first in (
        k.there,
        omega (arith, first),
        no_number s.count s.variables (s.count + 1) g.within (omega arith),
        value_fact h s (kind_of_local (program h) of) value k.value shape g rest.1,
      )
  stmt_fact h q s row (assign_stmt name value span) shape g r c =
      let t = target_known h s name g c.0 c.1.0 in
      let v = value_fact h s (kind_of_variable h.around s name.name) value t.known.kind shape g
      (subst (λ k. Each Clean (value_sites h.around s k value)) t.kind c.1.1) in (
        t.target,
        some_and _ (resolved_local (kind_of_variable h.around s name.name))
            (λ kind. IsValue (frame h) (by_number s.variables) kind (resolved_expr h.around s value)) t.known.seen v,
      )
  stmt_fact h q s row (stage_stmt state field value span) shape g r c =
      (named_state h.around.own state c.0, given_fact h s row field value shape g r c.1)
  stmt_fact h q s row (change_stmt state given span) shape g r c =
      (named_state h.around.own state c.0, change_fact h s row given shape g r c.1)
  stmt_fact h q s row (call_stmt value span) shape g r c = (expr_fact h s value shape g c).made
  stmt_fact h q s row (test_stmt subject state branch otherwise span) shape g r c =
      let S = subject_sites h.around s subject span in
      let O = on_contract h.around (kind_of_subject h.around s subject) (λ c. names_state c state ∷ []) in
      let B = block_sites h.around s branch in
      let E = else_sites h.around (past s (locals_in_block branch)) otherwise in
      let sob = each_left Clean (S ++ O ++ B) E c in
      let so = each_left Clean (S ++ O) B sob in
      let k = subject_known h s subject span g (each_left Clean S O so) in (
        tested h s subject state k (each_right Clean S O so),
        block_fact h q s branch shape.0 g (each_right Clean (S ++ O) B sob),
        else_fact h q (past s (locals_in_block branch)) otherwise shape.1
            (good_past (program h) h.params s (locals_in_block branch) g) (each_right Clean (S ++ O ++ B) E c),
      )
  stmt_fact h q s row (if_stmt condition branch otherwise span) shape g r c =
      let V = value_sites h.around s a_bool condition in
      let B = block_sites h.around s branch in
      let E = else_sites h.around (past s (locals_in_block branch)) otherwise in
      let vb = each_left Clean (V ++ B) E c in (
        value_fact h s a_bool condition tt shape.0 g (each_left Clean V B vb),
        block_fact h q s branch shape.1 g (each_right Clean V B vb),
        else_fact h q (past s (locals_in_block branch)) otherwise shape.2
            (good_past (program h) h.params s (locals_in_block branch) g) (each_right Clean (V ++ B) E c),
      )
  stmt_fact h q s row (while_stmt condition body span) shape g r c =
      let V = value_sites h.around s a_bool condition in
      let B = block_sites h.around s body in (
        value_fact h s a_bool condition tt shape.0 g (each_left Clean V B c),
        block_fact h q s body shape.1 g (each_right Clean V B c),
      )
  stmt_fact h q s row (return_stmt value span) shape g r c =
      subst (λ k. IsReturned (frame h) (by_number s.variables) k (option_map (resolved_expr h.around s) value))
      (sym q.there) (returned h s value span h.around.result refl q.known shape g c)
  stmt_fact h q s row (revert_stmt None span) shape g r c = tt
  stmt_fact h q s row (revert_stmt (Some text) span) shape g r c = value_fact h s a_text text tt shape g c
  stmt_fact h q s row (disown_stmt name span) shape g r c =
      refers_there h s (NameSubject name) (λ c. Unit {0})
      (from_reference h s name (reference_known h s name name.span g c)) tt
  stmt_fact h q s row (assert_stmt subject perm span) shape g r c =
      asserted h s subject perm (subject_known h s subject (span_of_subject subject) g
      (each_left Clean (subject_sites h.around s subject (span_of_subject subject)) _ c))

  block_fact : (h : Here) (q : Result h) (s : Scope) (b : Block) → HasBlockShape b → GoodScope (program h) h.params s
      → Each Clean (block_sites h.around s b) → IsBlock (frame h) (by_number s.variables) (block_resolved h.around s b)
  block_fact h q s (block_with statements end) shape g c = stmts_fact h q s [] false statements shape g tt c

  else_fact : (h : Here) (q : Result h) (s : Scope) (e : Else) → HasElseShape e → GoodScope (program h) h.params s
      → Each Clean (else_sites h.around s e) → IsOtherwise (frame h) (by_number s.variables)
      (else_resolved h.around s e)
  else_fact h q s no_else shape g c = tt
  else_fact h q s (else_with block) shape g c = block_fact h q s block shape g c

  stmts_fact : (h : Here) (q : Result h) (s : Scope) (row : List Name) (ended : Bool) (xs : Stmts)
      → HaveStmtShapes xs → GoodScope (program h) h.params s → AreFields h.around.own row
      → Each Clean (stmts_sites h.around s row ended xs)
      → AreStatements (frame h) (by_number s.variables) (row_ids h.around.own row) (resolved_stmts h.around s xs)
  stmts_fact h q s row ended no_stmts shape g r c = tt
  stmts_fact h q s row ended (and_stmt x xs) shape g r c =
      let X = stmt_sites h.around s row x in
      let one = each_left Clean X (stmts_sites h.around (after_stmt h.around s x) (row_after row x) (ended || ends x)
      xs) c.1 in
      let a = after_fact h s row x g one in
      let n = next_row h s row x r one in
      let rest = stmts_fact h q (after_stmt h.around s x) (row_after row x) (ended || ends x) xs shape.1 a.good n.fields
      (each_right Clean X _ c.1) in (
        stmt_fact h q s row x shape.0 g r one,
        λ e. nothing_after h s (row_after row x) ended x xs (sym (ends_same h.around s x) ∙ e) (each_right Clean X _ c.1),
        subst (λ ids. AreStatements (frame h) (locals_after (by_number s.variables) (resolved_stmt h.around s x)) ids
            (resolved_stmts h.around (after_stmt h.around s x) xs)) n.there
            (subst (λ ls. AreStatements (frame h) ls (row_ids h.around.own (row_after row x))
            (resolved_stmts h.around (after_stmt h.around s x) xs)) a.there rest),
      )

-- whole bodies
pub body_fact : (h : Here) (q : Result h) (s : Scope) (statements : Stmts) → HaveStmtShapes statements
    → GoodScope (program h) h.params s → Each Clean (stmts_sites h.around s [] false statements)
    → AreStatements (frame h) (by_number s.variables) [] (resolved_stmts h.around s statements)
body_fact h q s statements shape g c = stmts_fact h q s [] false statements shape g tt c
