-- The expressions of a program without faults are well-formed.
use Rattle.std.proofs.Common.{◌≡◌, ℕ, Bool, true, false, List, [], ◌∷◌, ◌++◌, map, length, Option, Some, None, refl, sym, ap, subst, arith, ◌∙◌}
use Rattle.std.proofs.lemmas.Bool.Decides.{nat_tests}
use Rattle.std.specs.Prelude.{not, option_map, option_and_then, IsTrue, IsSome, IsSomeAnd, if◌then◌else◌}
use Rattle.std.specs.Option.{option_map_or}
use Rattle.ob_base.specs.declared.fault.Span.{Span}
use Rattle.ob_base.specs.declared.operator.Operator.{Operator}
use Rattle.ob_base.specs.declared.operator.Operator.TheVariants.{Add, Sub, Mul, Div, Rem, Equal, NotEqual, And, Or, Not}
use Rattle.ob_table.specs.Expressions.{Expression}
use Rattle.ob_tree.specs.Names.{Named}
use Rattle.ob_tree.specs.Exprs.{Expr, number_expr, text_expr, bool_expr, name_expr, this_expr, unary_expr, binary_expr, call_expr, new_expr, Call, call_with, Exprs, no_exprs, and_expr}
use Rattle.ob_tree.specs.Members.{Formal, Contract}
use Rattle.ob_tree.specs.declared.name.NamePart.{NamePart}
use Rattle.ob_tree.specs.declared.name.Subject.{Subject}
use Rattle.ob_tree.specs.declared.name.Subject.TheVariants.{This, Name as NameSubject}
use Rattle.ob_table.specs.declared.seen.Kind.{Kind}
use Rattle.ob_table.specs.declared.seen.Kind.TheVariants.{Reference}
use Rattle.ob_table_spec.specs.Names.{Name}
use Rattle.ob_resolve_spec.specs.Declarations.{Program, part_of_named, number_of_contract, declared_contract, Param, params_of, Transaction, transaction_named, constructor_of}
use Rattle.ob_resolve_spec.specs.declared.kind.InferredKind.{InferredKind}
use Rattle.ob_resolve_spec.specs.declared.kind.InferredKind.TheVariants.{Int as an_int, Bool as a_bool, Text as a_text, Reference as a_reference, Nothing as nothing, Unknown as unknown}
use Rattle.ob_resolve_spec.specs.Kinds.{contract_of_name, contract_of_kind, kind_of_name, kind_of_type, kind_of_result, is_no_reference, is_no_value}
use Rattle.ob_resolve_spec.specs.Visible.{a_variable, a_transaction, a_public_transaction, an_object, visible_after_dot}
use Rattle.ob_resolve_spec.specs.Scopes.{AroundBody, Scope, visible_at, kind_of_this, kind_of_variable, public_transaction, called_transaction, constructed, kind_of_unary, kind_of_binary, kind_of}
use Rattle.ob_resolve_spec.specs.Sites.{names_thing}
use Rattle.ob_resolve_spec.specs.ExpressionSites.{needs, operand_sites, reference_sites, callee_sites, count_args, needed_args, passing_sites, expr_sites, call_sites, args_sites, value_sites}
use Rattle.ob_resolve_spec.specs.Numbers.{contract_id}
use Rattle.ob_resolve_spec.specs.Bodies.{resolved_local, seen_at, resolved_receiver, kind_of_receiver, id_of_kind, resolved_expr, resolved_call_at, resolved_args}
use Rattle.ob_resolve_spec.specs.Operators.{unary_operator, resolved_between}
use Rattle.ob_resolve_spec.specs.Shape.{HasExprShape, HasCallShape, HaveExprShapes}
use Rattle.ob_resolve_spec.specs.TableOf.{param_in_table, transaction_in_table, constructor_in_table, table_of}
use Rattle.ob_table_spec.specs.WellFormed.{StaticFrame, LocalKinds, kind_of_unary as unary_there, kind_of_seen, kind_of_expression, serves_as, ServesAs, is_reference, PassTo, IsCalled, constructor_at, IsWellFormedExpression, AreWellFormedArguments, IsValue, kind_of_resolved}
use Rattle.ob_resolve_laws.proofs.Each.{Each, each_left, each_right, each_at}
use Rattle.ob_resolve_laws.proofs.Clean.{Clean}
use Rattle.ob_resolve_laws.proofs.LookUps.{some_value}
use Rattle.ob_resolve_laws.proofs.TypeFacts.{name_means, some_and}
use Rattle.ob_resolve_laws.proofs.TableFacts.{Sound, Clear}
use Rattle.ob_resolve_laws.proofs.KindFacts.{IsValueKind, IsKnownKind, known_value, as_local, value_as_local, KnownType, serves_there}
use Rattle.ob_resolve_laws.proofs.ScopeFacts.{GoodScope, by_number, World, this_known, frame_in, KnownName, name_known}
use Rattle.ob_resolve_laws.proofs.CallFacts.{callee_is, constructor_params, made_at}

-- where an expression stands
pub record Here : Type 0 where
  pub around : AroundBody
  pub clear : Clear around.program
  pub world : World around.program around.own
  pub params : ℕ
  pub result : Option Kind

abbrev pub frame : Here → StaticFrame
frame h = frame_in h.around h.world.number h.params h.result

abbrev pub program : Here → Program
program h = h.around.program

-- an expression, as it is written and with numbers
pub record ExprFact (h : Here) (s : Scope) (e : Expr) : Type 0 where
  pub made : IsWellFormedExpression (frame h) (by_number s.variables) (resolved_expr h.around s e)
  pub known : IsKnownKind (program h) (kind_of h.around s e)
  pub there : kind_of_expression (frame h) (by_number s.variables) (resolved_expr h.around s e)
      ≡ as_local (kind_of h.around s e)

abbrev pub ArgsFact : Here → Scope → Exprs → Type 0
ArgsFact h s no_exprs = Unit {0}
ArgsFact h s (and_expr e es) = ExprFact h s e × ArgsFact h s es

pub args_made : (h : Here) (s : Scope) (es : Exprs) → ArgsFact h s es
    → AreWellFormedArguments (frame h) (by_number s.variables) (resolved_args h.around s es)
args_made h s no_exprs f = tt
args_made h s (and_expr e es) f = (f.0.made, args_made h s es f.1)

-- where the needed kind is known, the value serves
pub serves_here : (h : Here) (s : Scope) (wanted : InferredKind) (e : Expr) → IsValueKind (program h) wanted → ExprFact h s e
    → Clean (needs h.around s wanted e)
    → ServesAs (frame h) (by_number s.variables) (resolved_local wanted) (resolved_expr h.around s e)
serves_here h s wanted e w f c =
    subst (λ o. IsSomeAnd o
    (λ has. IsTrue (serves_as (table_of (program h)) (resolved_local wanted) has))) (sym f.there) (serves_there (program h)
    wanted (kind_of h.around s e) w f.known c.type_mismatch)

-- Operators.

unary_same : (operator : Operator) → resolved_local (kind_of_unary operator) ≡ unary_there (unary_operator operator)
unary_same Not = refl
unary_same operator = refl

unary_value : (program : Program) (operator : Operator) → IsValueKind program (kind_of_unary operator)
unary_value program Not = tt
unary_value program operator = tt

binary_value : (program : Program) (operator : Operator) → IsValueKind program (kind_of_binary operator)
binary_value program Add = tt
binary_value program Sub = tt
binary_value program Mul = tt
binary_value program Div = tt
binary_value program Rem = tt
binary_value program operator = tt

between_same : (f : StaticFrame) (ls : LocalKinds) (operator : Operator) (sign : Span) (left right : Expression) (span : Span)
    → kind_of_expression f ls (resolved_between operator sign left right span) ≡ as_local (kind_of_binary operator)
between_same f ls Add sign left right span = refl
between_same f ls Sub sign left right span = refl
between_same f ls Mul sign left right span = refl
between_same f ls Div sign left right span = refl
between_same f ls Rem sign left right span = refl
between_same f ls operator sign left right span = refl

compared : (h : Here) (s : Scope) (left right : Expr) (k : InferredKind) → kind_of h.around s left ≡ k → ExprFact h s left
    → ExprFact h s right → is_no_value (kind_of h.around s left) ≡ false
    → Clean (needs h.around s (kind_of h.around s left) right)
    → IsSomeAnd (as_local k) (λ kind. (is_reference kind ≡ false)
    × ServesAs (frame h) (by_number s.variables) kind (resolved_expr h.around s right))
compared h s left right an_int e l r v c =
    (refl, serves_here h s an_int right tt r (subst (λ k. Clean (needs h.around s k right)) e c))
compared h s left right a_bool e l r v c =
    (refl, serves_here h s a_bool right tt r (subst (λ k. Clean (needs h.around s k right)) e c))
compared h s left right a_text e l r v c =
    (refl, serves_here h s a_text right tt r (subst (λ k. Clean (needs h.around s k right)) e c))
compared h s left right (a_reference n) e l r v c = let f : true ≡ false = subst (λ k. is_no_value k ≡ false) e v
    in absurd (cc)
compared h s left right nothing e l r v c = let f : true ≡ false = subst (λ k. is_no_value k ≡ false) e v in absurd (cc)
compared h s left right unknown e l r v c = absurd (subst (IsKnownKind (program h)) e l.known)

comparing : (h : Here) (s : Scope) (left right : Expr) → ExprFact h s left → ExprFact h s right
    → Each Clean (operand_sites h.around s Equal left right)
    → IsSomeAnd (kind_of_expression (frame h) (by_number s.variables) (resolved_expr h.around s left))
    (λ kind. (is_reference kind ≡ false) × ServesAs (frame h) (by_number s.variables) kind
    (resolved_expr h.around s right))
comparing h s left right l r c =
    subst (λ o. IsSomeAnd o
    (λ kind. (is_reference kind ≡ false) × ServesAs (frame h) (by_number s.variables) kind
    (resolved_expr h.around s right))) (sym l.there)
    (compared h s left right (kind_of h.around s left) refl l r c.0.type_mismatch c.1.1.0)

between_made : (h : Here) (s : Scope) (operator : Operator) (sign : Span) (left right : Expr) (span : Span) → ExprFact h s left
    → ExprFact h s right → Each Clean (operand_sites h.around s operator left right)
    → IsWellFormedExpression (frame h) (by_number s.variables) (resolved_between operator sign (resolved_expr h.around s left)
    (resolved_expr h.around s right) span)
between_made h s And sign left right span l r c =
    (l.made, r.made, serves_here h s a_bool left tt l c.0, serves_here h s a_bool right tt r c.1.0)
between_made h s Or sign left right span l r c =
    (l.made, r.made, serves_here h s a_bool left tt l c.0, serves_here h s a_bool right tt r c.1.0)
between_made h s Equal sign left right span l r c = (l.made, r.made, comparing h s left right l r c)
between_made h s NotEqual sign left right span l r c = (l.made, r.made, comparing h s left right l r c)
between_made h s operator sign left right span l r c =
    (l.made, r.made, (serves_here h s an_int left tt l c.0, serves_here h s an_int right tt r c.1.0))

-- Arguments.

passed : (h : Here) (s : Scope) (ps : List Param) (es : Exprs) → Each (λ p. KnownType (program h) p.of) ps
    → ArgsFact h s es → count_args es ≡ length ps
    → Each Clean (needed_args h.around s (map (λ p. kind_of_type (program h) p.of) ps) es)
    → PassTo (frame h) (by_number s.variables) (map (param_in_table (program h)) ps) (resolved_args h.around s es)
passed h s [] no_exprs k f n c = tt
passed h s [] (and_expr e es) k f n c = absurd (omega (arith, n))
passed h s (p ∷ ps) no_exprs k f n c = absurd (omega (arith, n))
passed h s (p ∷ ps) (and_expr e es) k f n c = (
  subst (λ x. ServesAs (frame h) (by_number s.variables) x (resolved_expr h.around s e)) (sym k.0.in_table_as)
      (serves_here h s (kind_of_type (program h) p.of) e k.0.value f.0 c.0),
  passed h s ps es k.1 f.1 (omega (arith, n)) c.1,
)

passing : (h : Here) (s : Scope) (span : Span) (formals : List Formal) (es : Exprs)
    → Each (λ p. KnownType (program h) p.of) (params_of formals) → ArgsFact h s es
    → Each Clean (passing_sites h.around s span (Some formals) es)
    → PassTo (frame h) (by_number s.variables) (map (param_in_table (program h)) (params_of formals))
    (resolved_args h.around s es)
passing h s span formals es k f c =
    let n : count_args es ≡ length (params_of formals) = grind (arith, nat_tests, c.0.arg_count) in
    passed h s (params_of formals) es k f n c.1

-- Names and calls.

seen_some : (h : Here) (s : Scope) (name : NamePart) → KnownName h.around s (frame h) name.name
    → IsSome (kind_of_seen (frame h) (by_number s.variables) (seen_at h.around s name).of)
seen_some h s name k = subst IsSome (sym k.seen) refl

-- a reference is known to be one
some_reference : (program : Program) (k : InferredKind) → IsValueKind program k → is_no_reference k ≡ false
    → (n : ℕ) × (c : Contract) × (k ≡ a_reference n) × (declared_contract program n ≡ Some c)
some_reference program an_int v h = absurd cc
some_reference program a_bool v h = absurd cc
some_reference program a_text v h = absurd cc
some_reference program (a_reference n) v h = (n, v.0, refl, v.1)
some_reference program nothing v h = absurd v
some_reference program unknown v h = absurd v

-- a name that is used as a reference
pub record KnownReference (h : Here) (s : Scope) (name : Name) : Type 0 where
  pub number : ℕ
  pub contract : Contract
  pub kind : kind_of_variable h.around s name ≡ a_reference number
  pub at : declared_contract (program h) number ≡ Some contract
  pub seen : KnownName h.around s (frame h) name

pub reference_known : (h : Here) (s : Scope) (name : NamePart) (span : Span) → GoodScope (program h) h.params s
    → Each Clean (reference_sites h.around s name span) → KnownReference h s name.name
reference_known h s name span g c =
    let k = name_known h.around h.world s h.world.number h.params h.result name.name g
    (name_means a_variable (visible_at h.around s) name c.0) in
    let r = some_reference (program h) (kind_of_variable h.around s name.name) k.kind c.1.0.type_mismatch in
    record { number = r.0; contract = r.1; kind = r.2; at = r.3; seen = k }

pub record CallFact (h : Here) (s : Scope) (c : Call) (span : Span) : Type 0 where
  pub made : IsWellFormedExpression (frame h) (by_number s.variables) (resolved_call_at h.around s c span)
  pub known : IsKnownKind (program h) (kind_of h.around s (call_expr c span))
  pub there : kind_of_expression (frame h) (by_number s.variables) (resolved_call_at h.around s c span)
      ≡ as_local (kind_of h.around s (call_expr c span))

-- the call of a transaction that is found
called_fact : (h : Here) (s : Scope) (receiver : Option Subject) (name : NamePart) (args : Exprs) (span : Span) (n : ℕ)
    (c : Contract) (t : Transaction)
    → kind_of_receiver h.around s receiver ≡ a_reference n → declared_contract (program h) n ≡ Some c
    → transaction_named c name.name ≡ Some t → called_transaction h.around s receiver name.name ≡ Some t
    → IsCalled (frame h) (by_number s.variables) (resolved_receiver h.around s receiver) (record { 0 = n })
    (transaction_in_table (program h) c t)
    → ArgsFact h s args → Each Clean (passing_sites h.around s name.span
    (option_map (λ t. t.params) (called_transaction h.around s receiver name.name)) args)
    → CallFact h s (call_with receiver name args) span
called_fact h s receiver name args span n c t kind at named found is f sites =
    let callee = callee_is (program h) h.clear n c at name.name t named in
    let pass = passing h s name.span t.params args callee.params f
    (subst (λ o. Each Clean (passing_sites h.around s name.span (option_map (λ t. t.params) o) args)) found sites)
    in
    let id : id_of_kind (kind_of_receiver h.around s receiver) ≡ record { 0 = n } = ap id_of_kind kind in
    let of : contract_of_kind (program h) (kind_of_receiver h.around s receiver) ≡ Some c =
    ap (contract_of_kind (program h)) kind ∙ at in
    let result : kind_of h.around s (call_expr (call_with receiver name args) span)
    ≡ kind_of_result (program h) t.result = ap
    (λ o. option_map_or (λ t. kind_of_result (program h) t.result) o unknown) found in
    record {
      made = rw (id, of) (
        args_made h s args f,
        callee.no_constructor,
        some_and _ (transaction_in_table (program h) c t) _ callee.signature (is, pass),
      );
      known = subst (IsKnownKind (program h)) (sym result) callee.result.kind;
      there = rw (id, of) (ap (option_and_then (λ s. option_map kind_of_resolved s.result)) callee.signature
          ∙ callee.result.in_table_as ∙ ap as_local (sym result));
    }

-- a call on `this`
own_call : (h : Here) (s : Scope) (receiver : Option Subject) (name : NamePart) (args : Exprs) (span : Span)
    → kind_of_receiver h.around s receiver ≡ kind_of_this h.around
    → called_transaction h.around s receiver name.name ≡ transaction_named h.around.own name.name
    → resolved_receiver h.around s receiver ≡ None
    → Clean (names_thing a_transaction (visible_at h.around s) name) → ArgsFact h s args
    → Each Clean (passing_sites h.around s name.span
    (option_map (λ t. t.params) (called_transaction h.around s receiver name.name)) args)
    → CallFact h s (call_with receiver name args) span
own_call h s receiver name args span kind found none c f sites =
    let t = some_value (transaction_named h.around.own name.name)
    (name_means a_transaction (visible_at h.around s) name c) in
    called_fact h s receiver name args span h.world.number h.around.own t.0 (kind ∙ this_known h.around h.world)
    h.world.at t.1 (found ∙ t.1)
    (subst (λ r. IsCalled (frame h) (by_number s.variables) r (record { 0 = h.world.number })
    (transaction_in_table (program h) h.around.own t.0)) (sym none) refl) f sites

public_is : (name : Name) (c : Contract) → option_map_or (λ t. not t.private) (transaction_named c name) false ≡ true
    → (t : Transaction) × (transaction_named c name ≡ Some t) × (public_transaction name c ≡ Some t)
    × (t.private ≡ false)
public_is name c h = at (transaction_named c name) refl h
  where
    private_or : (t : Transaction) (b : Bool) → t.private ≡ b → not b ≡ true → (if b then None else Some t) ≡ Some t
    private_or t true e k = absurd cc
    private_or t false e k = refl

    not_private : (b : Bool) → not b ≡ true → b ≡ false
    not_private true k = absurd cc
    not_private false k = refl

    at : (o : Option Transaction) → transaction_named c name ≡ o → option_map_or (λ t. not t.private) o false ≡ true
        → (t : Transaction) × (transaction_named c name ≡ Some t) × (public_transaction name c ≡ Some t)
        × (t.private ≡ false)
    at None e k = absurd cc
    at (Some t) e k = (
      t,
      e,
      ap (option_and_then (λ t. if t.private then None else Some t)) e
          ∙ private_or t t.private refl k,
      not_private t.private k,
    )

call_fact : (h : Here) (s : Scope) (receiver : Option Subject) (name : NamePart) (args : Exprs) (span : Span)
    → GoodScope (program h) h.params s → Each Clean (callee_sites h.around s receiver name)
    → ArgsFact h s args → Each Clean (passing_sites h.around s name.span
    (option_map (λ t. t.params) (called_transaction h.around s receiver name.name)) args)
    → CallFact h s (call_with receiver name args) span
call_fact h s None name args span g c f sites = own_call h s None name args span refl refl refl c.0 f sites
call_fact h s (Some (This token)) name args span g c f sites =
    own_call h s (Some (This token)) name args span refl refl refl c.0 f sites
call_fact h s (Some (NameSubject receiver)) name args span g c f sites =
    let R = reference_sites h.around s receiver receiver.span in
    let D = option_map_or (λ c. names_thing a_public_transaction (visible_after_dot c) name ∷ [])
    (contract_of_kind (program h) (kind_of_variable h.around s receiver.name)) [] in
    let r = reference_known h s receiver receiver.span g (each_left Clean R D c) in
    let of : contract_of_kind (program h) (kind_of_variable h.around s receiver.name) ≡ Some r.contract =
    ap (contract_of_kind (program h)) r.kind ∙ r.at in
    let d = subst (λ o. Each Clean (option_map_or (λ c. names_thing a_public_transaction (visible_after_dot c) name ∷ []) o
    [])) of (each_right Clean R D c) in
    let t = public_is name.name r.contract (name_means a_public_transaction (visible_after_dot r.contract) name d.0) in
    let found : called_transaction h.around s (Some (NameSubject receiver)) name.name ≡ Some t.0 =
    ap (option_and_then (public_transaction name.name)) of ∙ t.2 in
    let seen : kind_of_seen (frame h) (by_number s.variables) (seen_at h.around s receiver).of
    ≡ Some (Reference (record { 0 = r.number })) = r.seen.seen ∙ ap (λ k. Some (resolved_local k)) r.kind in
    called_fact h s (Some (NameSubject receiver)) name args span r.number r.contract t.0 r.kind r.at t.1 found
    (seen, t.3) f sites

new_fact : (h : Here) (s : Scope) (of : Named) (args : Exprs) (span : Span)
    → Clean (names_thing an_object (visible_at h.around s) (part_of_named of)) → ArgsFact h s args
    → Each Clean (passing_sites h.around s (part_of_named of).span
    (option_map (λ constructor. constructor.params) (constructed (program h) of)) args)
    → ExprFact h s (new_expr of args span)
new_fact h s of args span c f sites =
    at (number_of_contract (program h) (part_of_named of).name) refl
    (name_means an_object (visible_at h.around s) (part_of_named of) c)
  where
    not_interface : (b : Bool) → not b ≡ true → b ≡ false
    not_interface true k = absurd cc
    not_interface false k = refl

    made : (n : ℕ) (c : Contract) → number_of_contract (program h) (part_of_named of).name ≡ Some n
        → declared_contract (program h) n ≡ Some c → c.interface ≡ false → ExprFact h s (new_expr of args span)
    made n c named at is =
        let by_name : contract_of_name (program h) (part_of_named of).name ≡ Some c =
        ap (option_and_then (declared_contract (program h))) named ∙ at in
        let con : constructed (program h) of ≡ Some (constructor_of c) =
        ap (option_and_then (λ c. if c.interface then None else Some (constructor_of c))) by_name ∙ (rw is refl) in
        let kind : kind_of h.around s (new_expr of args span) ≡ a_reference n =
        ap (λ o. option_map_or (λ constructor. kind_of_name (program h) (part_of_named of).name) o unknown) con
        ∙ ap (λ o. option_map_or a_reference o unknown) named in
        let sound = each_at (Sound (program h)) (program h) n c h.clear.all at in
        let pass = passing h s (part_of_named of).span (constructor_of c).params args
        (constructor_params (program h) c sound.members) f
        (subst (λ o. Each Clean (passing_sites h.around s (part_of_named of).span
        (option_map (λ constructor. constructor.params) o) args)) con sites) in
        record {
          made = (
            args_made h s args f,
            subst (λ o. IsSomeAnd (constructor_at (table_of (program h)) (contract_id o))
                (λ s'. PassTo (frame h) (by_number s.variables) s'.params (resolved_args h.around s args))) (sym named)
                (some_and _ (constructor_in_table (program h) c (constructor_of c)) _ (made_at (program h) n c at is)
                pass),
          );
          known = subst (IsKnownKind (program h)) (sym kind) (c, at);
          there = ap (λ o. Some (Reference (contract_id o))) named ∙ ap as_local (sym kind);
        }

    inner : (n : ℕ) → number_of_contract (program h) (part_of_named of).name ≡ Some n → (o : Option Contract)
        → declared_contract (program h) n ≡ o → option_map_or (λ c. not c.interface) o false ≡ true
        → ExprFact h s (new_expr of args span)
    inner n e None k t = absurd cc
    inner n e (Some c) k t = made n c e k (not_interface c.interface t)

    at : (o : Option ℕ) → number_of_contract (program h) (part_of_named of).name ≡ o
        → option_map_or (λ c. not c.interface) (option_and_then (declared_contract (program h)) o) false ≡ true
        → ExprFact h s (new_expr of args span)
    at None e t = absurd cc
    at (Some n) e t = inner n e (declared_contract (program h) n) refl t

-- Expressions.

from_call : (h : Here) (s : Scope) (c : Call) (span : Span) → CallFact h s c span → ExprFact h s (call_expr c span)
from_call h s c span f = record { made = f.made; known = f.known; there = f.there }

mutual
  pub expr_fact : (h : Here) (s : Scope) (e : Expr) → HasExprShape e → GoodScope (program h) h.params s
      → Each Clean (expr_sites h.around s e) → ExprFact h s e
  expr_fact h s (number_expr value span) shape g c = record { made = shape; known = tt; there = refl }
  expr_fact h s (text_expr value span) shape g c = record { made = shape; known = tt; there = refl }
  expr_fact h s (bool_expr value span) shape g c = record { made = tt; known = tt; there = refl }
  expr_fact h s (name_expr name span) shape g c =
      let k = name_known h.around h.world s h.world.number h.params h.result name.name g
      (name_means a_variable (visible_at h.around s) name c.0) in
      record {
        made = seen_some h s name k;
        known =
            known_value (program h) (kind_of_variable h.around s name.name) k.kind;
        there = k.seen
            ∙ sym (value_as_local (program h) (kind_of_variable h.around s name.name) k.kind);
      }
  expr_fact h s (this_expr token span) shape g c =
      let k = this_known h.around h.world in
      record {
        made = refl;
        known = subst (IsKnownKind (program h)) (sym k) (h.around.own, h.world.at);
        there =
            ap as_local (sym k);
      }
  expr_fact h s (unary_expr operator sign operand span) shape g c =
      let f = expr_fact h s operand shape.0 g c.1 in
      record {
        made = (
          f.made,
          subst (λ k. ServesAs (frame h) (by_number s.variables) k (resolved_expr h.around s operand))
              (unary_same operator) (serves_here h s (kind_of_unary operator) operand (unary_value (program h) operator) f
              c.0),
        );
        known = known_value (program h) (kind_of_unary operator) (unary_value (program h) operator);
        there = ap Some (sym (unary_same operator))
            ∙ sym (value_as_local (program h) (kind_of_unary operator) (unary_value (program h) operator));
      }
  expr_fact h s (binary_expr operator sign left right span) shape g c =
      let O = operand_sites h.around s operator left right in
      let L = expr_sites h.around s left in
      let R = expr_sites h.around s right in
      let both = each_left Clean (O ++ L) R c in
      let l = expr_fact h s left shape.0 g (each_right Clean O L both) in
      let r = expr_fact h s right shape.1 g (each_right Clean (O ++ L) R c) in
      record {
        made = between_made h s operator sign left right span l r (each_left Clean O L both);
        known = known_value (program h) (kind_of_binary operator) (binary_value (program h) operator);
        there = between_same (frame h) (by_number s.variables) operator sign (resolved_expr h.around s left)
            (resolved_expr h.around s right) span;
      }
  expr_fact h s (call_expr call span) shape g c = from_call h s call span (call_is h s call span shape g c)
  expr_fact h s (new_expr of args span) shape g c =
      let P = passing_sites h.around s (part_of_named of).span
      (option_map (λ constructor. constructor.params) (constructed (program h) of)) args in
      new_fact h s of args span c.0 (args_facts h s args shape g (each_right Clean P (args_sites h.around s args) c.1))
      (each_left Clean P (args_sites h.around s args) c.1)

  call_is : (h : Here) (s : Scope) (call : Call) (span : Span) → HasCallShape call → GoodScope (program h) h.params s
      → Each Clean (call_sites h.around s call) → CallFact h s call span
  call_is h s (call_with receiver name args) span shape g c =
      let C = callee_sites h.around s receiver name in
      let P = passing_sites h.around s name.span (option_map (λ t. t.params) (called_transaction h.around s receiver name.name))
      args in
      let A = args_sites h.around s args in
      let both = each_left Clean (C ++ P) A c in
      call_fact h s receiver name args span g (each_left Clean C P both)
      (args_facts h s args shape g (each_right Clean (C ++ P) A c)) (each_right Clean C P both)

  args_facts : (h : Here) (s : Scope) (es : Exprs) → HaveExprShapes es → GoodScope (program h) h.params s
      → Each Clean (args_sites h.around s es) → ArgsFact h s es
  args_facts h s no_exprs shape g c = tt
  args_facts h s (and_expr e es) shape g c = (
    expr_fact h s e shape.0 g (each_left Clean (expr_sites h.around s e) (args_sites h.around s es) c),
    args_facts h s es shape.1 g (each_right Clean (expr_sites h.around s e) (args_sites h.around s es) c),
  )

-- a value where one of this kind is needed
pub value_fact : (h : Here) (s : Scope) (wanted : InferredKind) (e : Expr) → IsValueKind (program h) wanted
    → HasExprShape e → GoodScope (program h) h.params s → Each Clean (value_sites h.around s wanted e)
    → IsValue (frame h) (by_number s.variables) (resolved_local wanted) (resolved_expr h.around s e)
value_fact h s wanted e w shape g c = let f = expr_fact h s e shape g c.1 in (f.made, serves_here h s wanted e w f c.0)
