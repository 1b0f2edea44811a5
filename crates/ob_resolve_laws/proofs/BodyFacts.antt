-- The bodies of a program without faults are well-formed.
use Rattle.std.proofs.Common.{◌≡◌, ℕ, suc, ◌+◌, ◌<◌, ◌≤◌, Bool, true, false, List, [], ◌∷◌, ◌++◌, map, length, Option, Some, None, refl, sym, ap, subst, arith, ◌∙◌, cond, append_assoc, length-append}
use Rattle.std.proofs.lemmas.List.{map-append, length-map}
use Rattle.std.specs.Prelude.{option_map, slice_get, unwrap_or, is_some, IsSome, IfSome, if◌then◌else◌}
use Rattle.std.specs.Option.{option_map_or}
use Rattle.std.specs.List.{flat_map, range_with_len}
use Rattle.std.proofs.lemmas.List.Elements.{recursion_from_All}
use Rattle.ob_base.specs.declared.fault.Span.{Span}
use Rattle.ob_base.specs.declared.id.ContractId.{ContractId}
use Rattle.ob_tree.specs.Stmts.{Block, block_with, Stmts, no_stmts}
use Rattle.ob_tree.specs.Members.{Formal, Member, state_member, field_member, constructor_member, transaction_member, Contract}
use Rattle.ob_table.specs.Statements.{ResolvedBody}
use Rattle.ob_table.specs.declared.contract.Param.{Param as TableParam}
use Rattle.ob_table.specs.declared.contract.Signature.{Signature}
use Rattle.ob_table.specs.declared.seen.Kind.{Kind}
use Rattle.ob_table_spec.specs.Names.{same, in_order_after, in_order}
use Rattle.ob_resolve_spec.specs.Declarations.{Program, part_of_named, declared_contract, Param, params_of, Transaction, transactions_of_member, transactions_of, Constructor, constructors_of_member, constructor_forms, constructors_of, default_constructor, constructor_of}
use Rattle.ob_resolve_spec.specs.declared.kind.InferredKind.{InferredKind}
use Rattle.ob_resolve_spec.specs.declared.kind.InferredKind.TheVariants.{Nothing as nothing, Unknown as unknown}
use Rattle.ob_resolve_spec.specs.Kinds.{kind_of_type, kind_of_result}
use Rattle.ob_resolve_spec.specs.Visible.{visible_in}
use Rattle.ob_resolve_spec.specs.declared.variable.ScopeVariable.{ScopeVariable}
use Rattle.ob_resolve_spec.specs.Scopes.{param_variable, scope_of_params}
use Rattle.ob_resolve_spec.specs.Reached.{one_ends}
use Rattle.ob_resolve_spec.specs.Sites.{closes_body}
use Rattle.ob_resolve_spec.specs.TypeSites.{perm_sites, result_sites}
use Rattle.ob_resolve_spec.specs.StatementSites.{stmts_sites}
use Rattle.ob_resolve_spec.specs.MemberSites.{around, formals_sites, listed_sites, body_of_params_sites, member_sites}
use Rattle.ob_resolve_spec.specs.Bodies.{resolved_local, resolved_stmts}
use Rattle.ob_resolve_spec.specs.Numbers.{contract_id}
use Rattle.ob_resolve_spec.specs.TableOf.{param_in_table, transaction_in_table, constructor_in_table, signatures_of, contract_in_table, body_with, constructor_body, transaction_bodies, bodies_of, table_of}
use Rattle.ob_resolve_spec.specs.Shape.{HasBlockShape, HaveStmtShapes, HasMemberShape, HasContractShape}
use Rattle.ob_table_spec.specs.WellFormed.{kind_of_resolved, one_ends_there, params_from, frame_of, AreStatements, IsWellFormed, place_of_body, places_from, HasBodies}
use Rattle.ob_resolve_laws.proofs.Each.{Each, each_left, each_right, each_both, each_weaker, each_of_flat_map, each_flat_map, each_filter, each_of_both, each_at}
use Rattle.ob_resolve_laws.proofs.Clean.{Clean}
use Rattle.ob_resolve_laws.proofs.LookUps.{slice_get-map}
use Rattle.ob_resolve_laws.proofs.TypeFacts.{true_from_not, some_and, in_table}
use Rattle.ob_resolve_laws.proofs.TableFacts.{Sound, Clear}
use Rattle.ob_resolve_laws.proofs.KindFacts.{IsValueKind, IsKnownKind, as_local, KnownType, result_known}
use Rattle.ob_resolve_laws.proofs.ScopeFacts.{Rising, GoodScope, by_number, World}
use Rattle.ob_resolve_laws.proofs.CallFacts.{world_of, world_number, params_known}
use Rattle.ob_resolve_laws.proofs.ExpressionFacts.{Here}
use Rattle.ob_resolve_laws.proofs.EndFacts.{one_ends_same}
use Rattle.ob_resolve_laws.proofs.StatementFacts.{Result, body_fact}

-- Parameters are the first variables.

abbrev variables_of : Program → List Param → List Param → List ScopeVariable
variables_of program before ps = in_order_after (param_variable program) before ps

more_before : (before : List Param) (p : Param) → length (before ++ p ∷ []) ≡ length before + 1
more_before before p = length-append before (p ∷ []) ∙ omega arith

params_rise : (program : Program) (before ps : List Param) (low : ℕ) → low ≡ length before
    → Rising low (variables_of program before ps)
params_rise program before [] low e = tt
params_rise program before (p ∷ ps) low e =
    (omega (arith, e), params_rise program (before ++ p ∷ []) ps (length before + 1) (sym (more_before before p)))

params_within : (program : Program) (before ps : List Param) (count : ℕ) → count ≡ length before + length ps
    → Each (λ v. v.number ≤ count) (variables_of program before ps)
params_within program before [] count e = tt
params_within program before (p ∷ ps) count e =
    (omega (arith, e), params_within program (before ++ p ∷ []) ps count (omega (arith, e, more_before before p)))

params_kinds : (program : Program) (before ps : List Param) → Each (λ p. KnownType program p.of) ps
    → Each (λ v. IsValueKind program v.of) (variables_of program before ps)
params_kinds program before [] h = tt
params_kinds program before (p ∷ ps) h = (h.0.value, params_kinds program (before ++ p ∷ []) ps h.1)

params_marked : (program : Program) (n : ℕ) (before ps : List Param)
    → Each (λ v. v.is_param ≡ false → n < v.number) (variables_of program before ps)
params_marked program n before [] = tt
params_marked program n before (p ∷ ps) = ((λ e. absurd (cc)), params_marked program n (before ++ p ∷ []) ps)

params_numbered : (program : Program) (before ps : List Param) (n : ℕ) → n ≡ length before + 1
    → Each (λ p. KnownType program p.of) ps → by_number (variables_of program before ps)
    ≡ params_from n (map (param_in_table program) ps)
params_numbered program before [] n e h = refl
params_numbered program before (p ∷ ps) n e h =
    let rest = params_numbered program (before ++ p ∷ []) ps (n + 1) (omega (arith, e, more_before before p)) h.1 in
    let k = h.0.in_table_as in
    rw (← e, k) (ap (λ ls. (n, resolved_local (kind_of_type program p.of)) ∷ ls) rest)

params_scope : (program : Program) (formals : List Formal) → Each (λ p. KnownType program p.of) (params_of formals)
    → GoodScope program (length (map (param_in_table program) (params_of formals))) (scope_of_params program formals)
params_scope program formals h =
    let n = length-map (params_of formals) (param_in_table program) in
    record {
      kinds = params_kinds program [] (params_of formals) h;
      rising = params_rise program [] (params_of formals) 0 refl;
      within = params_within program [] (params_of formals) (length (params_of formals)) (omega arith);
      locals = params_marked program (length (map (param_in_table program) (params_of formals))) [] (params_of formals);
      params_first = omega (arith, n);
    }

-- One body.

closed : (k : InferredKind) (result : Option Kind) (ended : Bool) (span : Span) → result ≡ as_local k
    → Clean (closes_body k ended span) → IsSome result → ended ≡ true
closed nothing result ended span e c h = let f : is_some (as_local nothing) ≡ true = subst IsSome e h in absurd (cc)
closed unknown result ended span e c h = let f : is_some (as_local unknown) ≡ true = subst IsSome e h in absurd (cc)
closed k result ended span e c h = true_from_not ended c.missing_return

-- the statements of a body, and its end
pub record BodyFact (program : Program) (own : Contract) (w : World program own) (s : Signature) (k : InferredKind)
    (formals : List Formal) (statements : Stmts) : Type 0 where
  pub made : AreStatements (frame_of (table_of program) (record { 0 = w.number }) (contract_in_table program own) s)
      (params_from 1 s.params) [] (resolved_stmts (around program own k) (scope_of_params program formals) statements)
  pub ends : IsSome s.result → one_ends_there
      (resolved_stmts (around program own k) (scope_of_params program formals) statements) ≡ true

one_body : (program : Program) (clear : Clear program) (own : Contract) (w : World program own) (s : Signature)
    (k : InferredKind) (formals : List Formal) (statements : Stmts) (end : Span)
    → HaveStmtShapes statements → Each (λ p. KnownType program p.of) (params_of formals)
    → s.params ≡ map (param_in_table program) (params_of formals) → IsKnownKind program k
    → option_map kind_of_resolved s.result ≡ as_local k
    → Each Clean (body_of_params_sites program own k formals (block_with statements end))
    → BodyFact program own w s k formals statements
one_body program clear own w s k formals statements end shape params e known there c =
    let A = around program own k in
    let S = scope_of_params program formals in
    let h : Here = record {
      around = A;
      clear = clear;
      world = w;
      params = length s.params;
      result =
          option_map kind_of_resolved s.result;
    } in
    let q : Result h = record { known = known; there = there } in
    let good = subst (λ (ps : List TableParam). GoodScope program (length ps) S) (sym e)
    (params_scope program formals params) in
    let sites = stmts_sites A S [] false statements in
    let f = body_fact h q S statements shape good (each_left Clean sites _ c) in
    let numbered = params_numbered program [] (params_of formals) 1 (omega arith) params ∙ ap (params_from 1) (sym e) in
    record {
      made = subst (λ ls. AreStatements (frame_of (table_of program) (record { 0 = w.number })
          (contract_in_table program own) s) ls [] (resolved_stmts A S statements)) numbered f;
      ends = λ some. one_ends_same A S statements
          ∙ closed k (option_map kind_of_resolved s.result) (one_ends statements) end there
          (each_right Clean sites (closes_body k (one_ends statements) end ∷ []) c).0 (mapped s.result some);
    }
  where
    mapped : (o : Option _) → IsSome o → IsSome (option_map kind_of_resolved o)
    mapped None h = h
    mapped (Some x) h = refl

-- a body at the number of its transaction
well_formed_at : (program : Program) (own : Contract) (w : World program own) (tx : ℕ) (s : Signature) (k : InferredKind)
    (formals : List Formal) (b : Block) → own.interface ≡ false → slice_get (signatures_of program own) tx ≡ Some s
    → (statements : Stmts) (end : Span) → b ≡ block_with statements end → BodyFact program own w s k formals statements
    → IsWellFormed (table_of program) (body_with program own tx k formals b)
well_formed_at program own w tx s k formals b is at statements end e f =
    subst (λ b. IsWellFormed (table_of program) (body_with program own tx k formals b)) (sym e)
    (subst (λ o. WellFormedWith (contract_id o)) (sym w.numbered)
    (some_and _ (contract_in_table program own) _ (in_table program w.number own w.at)
    (some_and _ s _ at (record { contract = is; statements = f.made; returns = f.ends }))))
  where
    body_at : ContractId → ResolvedBody
    body_at id = record {
      contract = id;
      tx = record { 0 = tx };
      statements =
          resolved_stmts (around program own k) (scope_of_params program formals) statements;
      end = end;
    }

    WellFormedWith : ContractId → Type 0
    WellFormedWith id = IsWellFormed (table_of program) (body_at id)

-- Transactions.

-- the sites of a transaction with a body
pub record BodySites (program : Program) (own : Contract) (t : Transaction) : Type 0 where
  pub formals : Each Clean (formals_sites program own false t.params)
  pub result : Each Clean (result_sites (visible_in program own) t.result)
  pub body : Each Clean (option_map_or (body_of_params_sites program own (kind_of_result program t.result) t.params)
      t.body [])
  pub whole : own.interface ≡ false → IsSome t.body
  pub shape : IfSome t.body HasBlockShape

body_sites_of_member : (program : Program) (own : Contract) (m : Member) → HasMemberShape own.interface m
    → Each Clean (member_sites program own m) → Each (BodySites program own) (transactions_of_member m)
body_sites_of_member program own (state_member name fields span) shape h = tt
body_sites_of_member program own (field_member field) shape h = tt
body_sites_of_member program own (constructor_member of perm params body span) shape h = tt
body_sites_of_member program own (transaction_member private listed name params result body span) shape h =
    let L = listed_sites program own listed in
    let F = formals_sites program own false params in
    let R = result_sites (visible_in program own) result in
    let B = option_map_or (body_of_params_sites program own (kind_of_result program result) params) body [] in
    let lfr = each_left Clean (L ++ F ++ R) B h in (
      record {
        formals = each_right Clean L F (each_left Clean (L ++ F) R lfr);
        result = each_right Clean (L ++ F) R lfr;
        body = each_right Clean (L ++ F ++ R) B h;
        whole = shape.whole;
        shape = shape.operators;
      },
      tt,
    )

body_sites_are : (program : Program) (own : Contract) → Each (HasMemberShape own.interface) own.members
    → Each Clean (flat_map (member_sites program own) own.members) → Each (BodySites program own) (transactions_of own)
body_sites_are program own shape h =
    each_flat_map _ transactions_of_member own.members
    (each_of_both _ _ _ (body_sites_of_member program own) own.members shape
    (each_of_flat_map Clean (member_sites program own) own.members h))

slice_get_middle : {A : Type 0} (before xs : List A) (x : A) → slice_get (before ++ x ∷ xs) (length before) ≡ Some x
slice_get_middle [] xs x = refl
slice_get_middle (y ∷ before) xs x = slice_get_middle before xs x

-- the constructor stands before the transactions
after : (program : Program) (own : Contract) (k : ℕ) (t : Transaction) → own.interface ≡ false
    → slice_get (transactions_of own) k ≡ Some t
    → slice_get (signatures_of program own) (k + 1) ≡ Some (transaction_in_table program own t)
after program own k t is e =
    let z : k + 1 ≡ suc k = omega arith in
    let ts = map (transaction_in_table program own) (transactions_of own) in
    let f : slice_get ts k ≡ Some (transaction_in_table program own t) =
    slice_get-map (transaction_in_table program own) (transactions_of own) k
    ∙ ap (option_map (transaction_in_table program own)) e in
    subst (λ b. slice_get (cond b [] (constructor_in_table program own (constructor_of own) ∷ []) ++ ts) (k + 1)
    ≡ Some (transaction_in_table program own t)) (sym is) (rw z f)

transaction_made : (program : Program) (clear : Clear program) (own : Contract) (w : World program own)
    (t : Transaction) (k : ℕ) (o : Option Block) → t.body ≡ o → own.interface ≡ false
    → slice_get (transactions_of own) k ≡ Some t → BodySites program own t
    → Each (IsWellFormed (table_of program)) (option_map_or
    (λ body. body_with program own (k + 1) (kind_of_result program t.result) t.params body ∷ []) o [])
transaction_made program clear own w t k None e is at sites = tt
transaction_made program clear own w t k (Some (block_with statements end)) e is at sites =
    let r = result_known (visible_in program own) t.result sites.result in
    let c = subst (λ o. Each Clean (option_map_or
    (body_of_params_sites program own (kind_of_result program t.result) t.params) o [])) e sites.body in
    let s = transaction_in_table program own t in (
      well_formed_at program own w (k + 1) s (kind_of_result program t.result) t.params (block_with statements end) is
          (after program own k t is at) statements end refl
          (one_body program clear own w s (kind_of_result program t.result) t.params statements end
          (subst (λ o. IfSome o HasBlockShape) e sites.shape)
          (params_known program own false t.params sites.formals) refl r.kind r.in_table_as c),
      tt,
    )

transactions_made : (program : Program) (clear : Clear program) (own : Contract) (w : World program own)
    (before ts : List Transaction) → own.interface ≡ false → before ++ ts ≡ transactions_of own
    → Each (BodySites program own) ts
    → Each (IsWellFormed (table_of program)) (in_order_after (transaction_bodies program own) before ts)
transactions_made program clear own w before [] is e h = tt
transactions_made program clear own w before (t ∷ ts) is e h =
    let at : slice_get (transactions_of own) (length before) ≡ Some t =
    subst (λ xs. slice_get xs (length before) ≡ Some t) e (slice_get_middle before ts t) in
    each_both _ (transaction_bodies program own before t) _
    (transaction_made program clear own w t (length before) t.body refl is at h.0)
    (transactions_made program clear own w (before ++ t ∷ []) ts is (append_assoc before (t ∷ []) ts ∙ e) h.1)

-- Constructors.

abbrev CleanConstructor : Program → Contract → Constructor → Type 0
CleanConstructor program own m =
    Each Clean (formals_sites program own true m.params)
    × Each Clean (body_of_params_sites program own nothing m.params m.body) × HasBlockShape m.body

constructors_of_member_made : (program : Program) (own : Contract) (m : Member) → HasMemberShape own.interface m
    → Each Clean (member_sites program own m) → Each (CleanConstructor program own) (constructors_of_member m)
constructors_of_member_made program own (state_member name fields span) shape h = tt
constructors_of_member_made program own (field_member field) shape h = tt
constructors_of_member_made program own (constructor_member of perm params body span) shape h =
    let P = perm_sites own perm in
    let F = formals_sites program own true params in
    let B = body_of_params_sites program own nothing params body in
    ((each_right Clean P F (each_left Clean (P ++ F) B h.1.1), each_right Clean (P ++ F) B h.1.1, shape.1), tt)
constructors_of_member_made program own (transaction_member private listed name params result body span) shape h = tt

constructor_made : (program : Program) (clear : Clear program) (own : Contract) (w : World program own)
    (m : Constructor) (b : Block) → m.body ≡ b → own.interface ≡ false → constructor_of own ≡ m
    → CleanConstructor program own m
    → IsWellFormed (table_of program) (body_with program own 0 nothing m.params b)
constructor_made program clear own w m (block_with statements end) e is made h =
    let s = constructor_in_table program own m in
    let at : slice_get (signatures_of program own) 0 ≡ Some s = rw (is, made) refl in
    let c = subst (λ b. Each Clean (body_of_params_sites program own nothing m.params b)) e h.1 in
    well_formed_at program own w 0 s nothing m.params (block_with statements end) is at statements end refl
    (one_body program clear own w s nothing m.params statements end (subst HasBlockShape e h.2)
    (params_known program own true m.params h.0)
    refl tt refl c)

default_made : (program : Program) (own : Contract) (w : World program own) → own.interface ≡ false
    → constructor_of own ≡ default_constructor own
    → IsWellFormed (table_of program) (constructor_body program own (default_constructor own))
default_made program own w is made =
    let s = constructor_in_table program own (default_constructor own) in
    let at : slice_get (signatures_of program own) 0 ≡ Some s = rw (is, made) refl in
    well_formed_at program own w 0 s nothing [] (block_with no_stmts own.span) is at no_stmts own.span refl
    (record { made = tt; ends = λ h. absurd (cc) })

first_made : (program : Program) (clear : Clear program) (own : Contract) (w : World program own)
    (ms : List Constructor) → constructors_of own ≡ ms → own.interface ≡ false → Each (CleanConstructor program own) ms
    → IsWellFormed (table_of program) (constructor_body program own (constructor_of own))
first_made program clear own w [] e is h =
    let d : constructor_of own ≡ default_constructor own =
    ap (λ ms. unwrap_or (slice_get ms 0) (default_constructor own)) e in
    subst (λ m. IsWellFormed (table_of program) (constructor_body program own m)) (sym d)
    (default_made program own w is d)
first_made program clear own w (m ∷ ms) e is h =
    let d : constructor_of own ≡ m = ap (λ ms. unwrap_or (slice_get ms 0) (default_constructor own)) e in
    subst (λ m. IsWellFormed (table_of program) (constructor_body program own m)) (sym d)
    (constructor_made program clear own w m m.body refl is d h.0)

-- Contracts.

bodies_made : (program : Program) (clear : Clear program) (own : Contract) (w : World program own)
    → Each (HasMemberShape own.interface) own.members → Each Clean (flat_map (member_sites program own) own.members)
    → Each (IsWellFormed (table_of program)) (bodies_of program own)
bodies_made program clear own w shape h = at own.interface refl
  where
    constructors : Each (CleanConstructor program own) (constructors_of own)
    constructors =
        each_filter _ (λ m. same own.name (part_of_named m.of).name) (constructor_forms own)
        (each_flat_map _ constructors_of_member own.members
        (each_of_both _ _ _ (constructors_of_member_made program own) own.members shape
        (each_of_flat_map Clean (member_sites program own) own.members h)))

    at : (b : Bool) → own.interface ≡ b → Each (IsWellFormed (table_of program))
        (cond b [] (constructor_body program own (constructor_of own)
        ∷ in_order (transaction_bodies program own) (transactions_of own)))
    at true e = tt
    at false e = (
      first_made program clear own w (constructors_of own) refl e constructors,
      transactions_made program clear own w [] (transactions_of own) e refl (body_sites_are program own shape h),
    )

-- all bodies of a program
pub all_bodies_made : (program : Program) (clear : Clear program) → Each HasContractShape program
    → Each (λ c. (k : ℕ) × (declared_contract program k ≡ Some c)) program
    → Each (IsWellFormed (table_of program)) (flat_map (bodies_of program) program)
all_bodies_made program clear shapes places =
    each_flat_map _ (bodies_of program) program
    (each_of_both _ _ _ (λ c shape k. bodies_made program clear c (world_of program clear k.0 c k.1)
    (recursion_from_All (HasMemberShape c.interface) c.members shape.members)
    (each_at (Sound program) program k.0 c clear.all k.1).members) program shapes places)

-- Which bodies there are.

place_with : (program : Program) (own : Contract) (w : World program own) (tx : ℕ) (k : InferredKind) (formals : List Formal)
    (b : Block) → place_of_body (body_with program own tx k formals b) ≡ (w.number, tx)
place_with program own w tx k formals (block_with statements end) = ap (λ o. ((contract_id o).0, tx)) w.numbered

transaction_place : (program : Program) (own : Contract) (w : World program own) (t : Transaction) (n : ℕ)
    (o : Option Block) → IsSome o
    → map place_of_body (option_map_or (λ body. body_with program own n (kind_of_result program t.result) t.params body
    ∷ []) o []) ≡ (w.number, n) ∷ []
transaction_place program own w t n None h = absurd (cc)
transaction_place program own w t n (Some b) h =
    ap (λ p. p ∷ []) (place_with program own w n (kind_of_result program t.result) t.params b)

transaction_places : (program : Program) (own : Contract) (w : World program own) (before ts : List Transaction) (n : ℕ)
    → n ≡ length before + 1 → Each (λ (t : Transaction). IsSome t.body) ts
    → map place_of_body (in_order_after (transaction_bodies program own) before ts)
    ≡ map (λ tx. (w.number, tx)) (range_with_len n (length ts))
transaction_places program own w before [] n e h = refl
transaction_places program own w before (t ∷ ts) n e h =
    let more : length (before ++ t ∷ []) ≡ length before + 1 = length-append before (t ∷ []) ∙ omega arith in
    let rest = transaction_places program own w (before ++ t ∷ []) ts (n + 1) (omega (arith, e, more)) h.1 in
    map-append place_of_body (transaction_bodies program own before t)
    (in_order_after (transaction_bodies program own) (before ++ t ∷ []) ts)
    ∙ ap (λ ps. ps ++ map place_of_body (in_order_after (transaction_bodies program own) (before ++ t ∷ []) ts))
    (transaction_place program own w t (length before + 1) t.body h.0)
    ∙ ap (λ m. (w.number, m) ∷ map place_of_body
    (in_order_after (transaction_bodies program own) (before ++ t ∷ []) ts)) (sym e)
    ∙ ap (λ ps. (w.number, n) ∷ ps) rest

whole_of_member : (m : Member) → HasMemberShape false m
    → Each (λ (t : Transaction). IsSome t.body) (transactions_of_member m)
whole_of_member (state_member name fields span) shape = tt
whole_of_member (field_member field) shape = tt
whole_of_member (constructor_member of perm params body span) shape = tt
whole_of_member (transaction_member private listed name params result body span) shape = (shape.whole refl, tt)

contract_places : (program : Program) (own : Contract) (w : World program own)
    → Each (HasMemberShape own.interface) own.members
    → map place_of_body (bodies_of program own)
    ≡ (if own.interface then [] else map (λ tx. (w.number, tx))
    (range_with_len 0 (length (signatures_of program own))))
contract_places program own w shape = at own.interface shape
  where
    at : (b : Bool) → Each (HasMemberShape b) own.members
        → map place_of_body (cond b [] (constructor_body program own (constructor_of own)
        ∷ in_order (transaction_bodies program own) (transactions_of own)))
        ≡ cond b [] (map (λ tx. (w.number, tx)) (range_with_len 0
        (length (cond b [] (constructor_in_table program own (constructor_of own) ∷ [])
        ++ map (transaction_in_table program own) (transactions_of own)))))
    at true h = refl
    at false h =
        let whole = each_flat_map _ transactions_of_member own.members (each_weaker _ _ whole_of_member own.members h)
        in
        let rest = transaction_places program own w [] (transactions_of own) 1 refl whole in
        let n = sym (length-map (transactions_of own) (transaction_in_table program own)) in
        ap (λ p. p ∷ map place_of_body (in_order (transaction_bodies program own) (transactions_of own)))
        (place_with program own w 0 nothing (constructor_of own).params (constructor_of own).body)
        ∙ ap (λ ps. (w.number, 0) ∷ ps) (rest ∙ ap (λ k. map (λ tx. (w.number, tx)) (range_with_len 1 k)) n)

places_are : (program : Program) (clear : Clear program) (xs : List Contract) (before : ℕ)
    → ((n : ℕ) → slice_get program (before + n) ≡ slice_get xs n) → Each HasContractShape xs
    → map place_of_body (flat_map (bodies_of program) xs) ≡ places_from before (map (contract_in_table program) xs)
places_are program clear [] before at shapes = refl
places_are program clear (c ∷ xs) before at shapes =
    let z : before + 0 ≡ before = omega arith in
    let here : declared_contract program before ≡ Some c = ap (slice_get program) (sym z) ∙ at 0 in
    let w = world_of program clear before c here in
    let one = subst (λ k. map place_of_body (bodies_of program c)
    ≡ (if c.interface then [] else map (λ tx. (k, tx)) (range_with_len 0 (length (signatures_of program c)))))
    (world_number program clear before c here)
    (contract_places program c w (recursion_from_All (HasMemberShape c.interface) c.members shapes.0.members))
    in
    let rest = places_are program clear xs (before + 1)
    (λ n. let f : before + 1 + n ≡ before + suc n = omega arith in ap (slice_get program) f ∙ at (suc n)) shapes.1
    in
    map-append place_of_body (bodies_of program c) (flat_map (bodies_of program) xs)
    ∙ ap (λ ps. ps ++ map place_of_body (flat_map (bodies_of program) xs)) one
    ∙ ap (λ ps. (if c.interface then [] else map (λ tx. (before, tx))
    (range_with_len 0 (length (signatures_of program c)))) ++ ps) rest

pub bodies_there : (program : Program) (clear : Clear program) → Each HasContractShape program
    → HasBodies (table_of program)
bodies_there program clear shapes =
    places_are program clear program 0 (λ n. let e : 0 + n ≡ n = omega arith in ap (slice_get program) e) shapes
