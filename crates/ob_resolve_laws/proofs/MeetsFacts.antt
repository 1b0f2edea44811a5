-- What a contract without faults has of its interface, in the table.
use Rattle.std.proofs.Common.{◌≡◌, ℕ, ◌≤◌, Bool, true, false, List, [], ◌∷◌, map, length, Option, Some, None, refl, sym, ap, subst, ◌∙◌}
use Rattle.std.specs.Prelude.{◌||◌, ◌&&◌, not, option_map, slice_get}
use Rattle.std.specs.Option.{option_map_or}
use Rattle.std.specs.List.{list_all, All, Contains}
use Rattle.std.proofs.lemmas.List.Elements.{All-from_recursion}
use Rattle.std.specs.Cmp.Lexicographic.{pointwise}
use Rattle.ob_base.specs.declared.fault.Span.{Span}
use Rattle.ob_base.specs.declared.permission.Perm.{Perm}
use Rattle.ob_perm.specs.Masks.{permission_of, perm_of}
use Rattle.ob_perm.specs.Naming.{for_contract}
use Rattle.ob_table.specs.declared.contract.ResolvedType.{ResolvedType as TableKind}
use Rattle.ob_table.specs.declared.contract.ResolvedType.TheVariants.{Reference}
use Rattle.ob_table.specs.declared.contract.Signature.{Signature}
use Rattle.ob_tree.specs.Names.{Named, ref_with, TypeExpr, int_type, bool_type, text_type, ref_type}
use Rattle.ob_tree.specs.Members.{Formal, Contract}
use Rattle.ob_tree.specs.declared.name.PermNode.{PermNode}
use Rattle.ob_tree.specs.declared.name.Subject.{Subject}
use Rattle.ob_tree.specs.declared.name.Subject.TheVariants.{This, Name as NameSubject}
use Rattle.ob_table_spec.specs.Names.{Name, same, is_among, firsts}
use Rattle.ob_resolve_spec.specs.Declarations.{Program, declared_contract, state_names, Param, param_named, params_of, Transaction, transactions_of, transaction_named}
use Rattle.ob_resolve_spec.specs.Permissions.{WrittenPermission, written_permission, is_of, known_exit, agree, agree_if_known}
use Rattle.ob_resolve_spec.specs.declared.kind.InferredKind.{InferredKind}
use Rattle.ob_resolve_spec.specs.declared.kind.InferredKind.TheVariants.{Int as an_int, Bool as a_bool, Text as a_text, Reference as a_reference}
use Rattle.ob_resolve_spec.specs.Kinds.{is_value_type, kind_of_ref, kind_of_type, same_kind, permission_in}
use Rattle.ob_resolve_spec.specs.Interfaces.{EntryAndExit, where_both_refer, same_type, exit_in, same_param, same_result, same_held, answers, meets}
use Rattle.ob_resolve_spec.specs.Visible.{Visible, visible_in}
use Rattle.ob_resolve_spec.specs.Sites.{has_exit as exits_site}
use Rattle.ob_resolve_spec.specs.TypeSites.{type_sites, result_sites}
use Rattle.ob_resolve_spec.specs.MemberSites.{formal_type_sites, formals_sites}
use Rattle.ob_resolve_spec.specs.StatementSites.{span_of_subject}
use Rattle.ob_resolve_spec.specs.Numbers.{perm_on, permission_on}
use Rattle.ob_resolve_spec.specs.TableOf.{resolved_type, reference_of, exit_of_type, written_at_end, param_in_table, transaction_in_table, contract_in_table}
use Rattle.ob_table_spec.specs.Conditions.{asked_of, AnswersInterface, transactions_in, MeetsInterface}
use Rattle.ob_resolve_laws.proofs.Each.{Each, each_weaker, each_flat_map, each_at}
use Rattle.ob_resolve_laws.proofs.Clean.{Clean}
use Rattle.ob_resolve_laws.proofs.TypeFacts.{and_left, and_right, Known, KnownExit, ref_known, known_kind}
use Rattle.ob_resolve_laws.proofs.LookUps.{slice_get-map, slice_get_bound, among_number, number_at, get_or_at, named_at}
use Rattle.ob_resolve_laws.proofs.TransactionFacts.{HeadSites, in_contract}
use Rattle.ob_resolve_laws.proofs.SignatureFacts.{formal_types, same_number}
use Rattle.ob_resolve_laws.proofs.AgreeFacts.{agree_same}
use Rattle.ob_resolve_laws.proofs.SaidFacts.{names_between, Between, said_same}
use Rattle.ob_resolve_laws.proofs.HeldFacts.{IsFirst, held_known, some_same, known_exit_is}

-- Types.

abbrev in_table_as : Program → (of : Named) (perm : PermNode) → ℕ → Contract → TableKind
in_table_as program of perm n c = Reference (record { 0 = n }) (perm_of (permission_on c (written_permission perm)))

reference_as : (program : Program) (of : Named) (perm : PermNode) (k : Known program of perm)
    → reference_of program of perm ≡ in_table_as program of perm k.number k.contract
reference_as program of perm k = rw (k.named, k.at) refl

one_contract : (program : Program) (m n : ℕ) (a b : Contract) → m ≡ n → declared_contract program m ≡ Some a
    → declared_contract program n ≡ Some b → a ≡ b
one_contract program m n a b e p q = some_same a b (sym p ∙ ap (declared_contract program) e ∙ q)

-- two known references that are the same
pub record SameRefs (program : Program) (of : Named) (perm : PermNode) (of' : Named) (perm' : PermNode)
    (k : Known program of perm) (k' : Known program of' perm') : Type 0 where
  pub number : k.number ≡ k'.number
  pub contract : k.contract ≡ k'.contract

same_refs : (program : Program) (of : Named) (perm : PermNode) (of' : Named) (perm' : PermNode)
    (k : Known program of perm) (k' : Known program of' perm')
    → same_kind (kind_of_ref program (ref_with of perm)) (kind_of_ref program (ref_with of' perm')) ≡ true
    → SameRefs program of perm of' perm' k k'
same_refs program of perm of' perm' k k' h =
    let n = same_number k.number k'.number (rw (known_kind program of perm k, known_kind program of' perm' k') at h) in
    record { number = n; contract = one_contract program k.number k'.number k.contract k'.contract n k.at k'.at }

-- a test where both refer is a test of their contract
test_of_contract : (program : Program) (of : Named) (perm : PermNode) (of' : Named) (perm' : PermNode)
    (k : Known program of perm) (k' : Known program of' perm') (test : Contract → Bool)
    → where_both_refer program (kind_of_ref program (ref_with of perm)) (kind_of_ref program (ref_with of' perm')) test
    ≡ true → test k.contract ≡ true
test_of_contract program of perm of' perm' k k' test h =
    rw (known_kind program of perm k, known_kind program of' perm' k', k.at) at h

same_references : (program : Program) (of : Named) (perm : PermNode) (of' : Named) (perm' : PermNode)
    (k : Known program of perm) (k' : Known program of' perm')
    → SameRefs program of perm of' perm' k k'
    → agree k.contract (written_permission perm) (written_permission perm') ≡ true
    → reference_of program of perm ≡ reference_of program of' perm'
same_references program of perm of' perm' k k' s a =
    reference_as program of perm k
    ∙ ap (λ (p : Perm). Reference (record { 0 = k.number }) p)
    (agree_same k.contract (written_permission perm) (written_permission perm') a)
    ∙ ap (λ n. Reference (record { 0 = n }) (perm_of (permission_on k.contract (written_permission perm')))) s.number
    ∙ ap (λ c. Reference (record { 0 = k'.number }) (perm_of (permission_on c (written_permission perm')))) s.contract
    ∙ sym (reference_as program of' perm' k')

-- exits of known references that agree are the same
same_exits : (program : Program) (of : Named) (perm : PermNode) (exit : Option PermNode) (of' : Named)
    (perm' : PermNode) (exit' : Option PermNode) (k : Known program of perm) (k' : Known program of' perm')
    → SameRefs program of perm of' perm' k k' → KnownExit k.contract perm exit → KnownExit k'.contract perm' exit'
    → agree_if_known k.contract (known_exit k.contract perm exit) (known_exit k.contract perm' exit') ≡ true
    → exit_of_type program (ref_type (ref_with of perm)) exit
    ≡ exit_of_type program (ref_type (ref_with of' perm')) exit'
same_exits program of perm exit of' perm' exit' k k' s x x' a =
    let e = known_exit_is k.contract perm exit x.is_of in
    let e' = known_exit_is k.contract perm' exit'
    (subst (λ c. is_of c (written_at_end perm' exit') ≡ true) (sym s.contract) x'.is_of) in
    let b : agree k.contract (written_permission (written_at_end perm exit))
    (written_permission (written_at_end perm' exit')) ≡ true = rw (e, e') at a in
    ap (λ o. perm_on o (written_at_end perm exit)) k.by_name
    ∙ agree_same k.contract _ _ b
    ∙ ap (λ c. perm_of (permission_on c (written_permission (written_at_end perm' exit')))) s.contract
    ∙ sym (ap (λ o. perm_on o (written_at_end perm' exit')) k'.by_name)

-- types and exits without faults that are the same have one form in the table
pub record TypedSame (program : Program) (s t : TypeExpr) (x y : Option PermNode) : Type 0 where
  pub kinds : resolved_type program s ≡ resolved_type program t
  pub exits : exit_of_type program s x ≡ exit_of_type program t y

known_differs : (program : Program) (of : Named) (perm : PermNode) (k : Known program of perm) (a : InferredKind)
    → same_kind (a_reference k.number) a ≡ false → same_kind (kind_of_ref program (ref_with of perm)) a ≡ true → ⊥
known_differs program of perm k a f h = let t : same_kind (a_reference k.number) a ≡ true =
    rw (known_kind program of perm k) at h in absurd (cc)

differs_known : (program : Program) (of : Named) (perm : PermNode) (k : Known program of perm) (a : InferredKind)
    → same_kind a (a_reference k.number) ≡ false → same_kind a (kind_of_ref program (ref_with of perm)) ≡ true → ⊥
differs_known program of perm k a f h = let t : same_kind a (a_reference k.number) ≡ true =
    rw (known_kind program of perm k) at h in absurd (cc)

typed_same : (program : Program) (own other : Contract) (s t : TypeExpr) (x y : Option PermNode) (a b : Span)
    → Each Clean (formal_type_sites (visible_in program own) s x a)
    → Each Clean (formal_type_sites (visible_in program other) t y b)
    → same_kind (kind_of_type program s) (kind_of_type program t) ≡ true
    → where_both_refer program (kind_of_type program s) (kind_of_type program t)
    (λ c. agree c (permission_in s) (permission_in t)) ≡ true
    → where_both_refer program (kind_of_type program s) (kind_of_type program t)
    (λ c. agree_if_known c (exit_in c s x) (exit_in c t y)) ≡ true
    → TypedSame program s t x y
typed_same program own other (int_type m) (int_type n) x y a b h k same perms exits =
    record { kinds = refl; exits = refl }
typed_same program own other (bool_type m) (bool_type n) x y a b h k same perms exits =
    record { kinds = refl; exits = refl }
typed_same program own other (text_type m) (text_type n) x y a b h k same perms exits =
    record { kinds = refl; exits = refl }
typed_same program own other (ref_type (ref_with of perm)) (ref_type (ref_with of' perm')) x y a b h k same perms exits
    =
    let l = ref_known (visible_in program own) of perm x h in
    let r = ref_known (visible_in program other) of' perm' y k in
    let s = same_refs program of perm of' perm' l.0 r.0 same in
    record {
      kinds = same_references program of perm of' perm' l.0 r.0 s
          (test_of_contract program of perm of' perm' l.0 r.0
          (λ c. agree c (written_permission perm) (written_permission perm')) perms);
      exits = same_exits program of perm x of' perm' y l.0 r.0 s l.1 r.1
          (test_of_contract program of perm of' perm' l.0 r.0
          (λ c. agree_if_known c (known_exit c perm x) (known_exit c perm' y)) exits);
    }
typed_same program own other (int_type m) (bool_type n) x y a b h k same perms exits = absurd cc
typed_same program own other (int_type m) (text_type n) x y a b h k same perms exits = absurd cc
typed_same program own other (bool_type m) (int_type n) x y a b h k same perms exits = absurd cc
typed_same program own other (bool_type m) (text_type n) x y a b h k same perms exits = absurd cc
typed_same program own other (text_type m) (int_type n) x y a b h k same perms exits = absurd cc
typed_same program own other (text_type m) (bool_type n) x y a b h k same perms exits = absurd cc
typed_same program own other (int_type m) (ref_type (ref_with of perm)) x y a b h k same perms exits =
    absurd (differs_known program of perm (ref_known (visible_in program other) of perm y k).0 an_int refl same)
typed_same program own other (bool_type m) (ref_type (ref_with of perm)) x y a b h k same perms exits =
    absurd (differs_known program of perm (ref_known (visible_in program other) of perm y k).0 a_bool refl same)
typed_same program own other (text_type m) (ref_type (ref_with of perm)) x y a b h k same perms exits =
    absurd (differs_known program of perm (ref_known (visible_in program other) of perm y k).0 a_text refl same)
typed_same program own other (ref_type (ref_with of perm)) (int_type n) x y a b h k same perms exits =
    absurd (known_differs program of perm (ref_known (visible_in program own) of perm x h).0 an_int refl same)
typed_same program own other (ref_type (ref_with of perm)) (bool_type n) x y a b h k same perms exits =
    absurd (known_differs program of perm (ref_known (visible_in program own) of perm x h).0 a_bool refl same)
typed_same program own other (ref_type (ref_with of perm)) (text_type n) x y a b h k same perms exits =
    absurd (known_differs program of perm (ref_known (visible_in program own) of perm x h).0 a_text refl same)

-- Parameters.

abbrev IsParamOf : Program → Contract → Param → Type 0
IsParamOf program own p = (span : Span) × Each Clean (formal_type_sites (visible_in program own) p.of p.exit span)

param_sites : (program : Program) (own : Contract) (t : TypeExpr) (exit : Option PermNode) (s : Subject)
    → Each Clean (formal_type_sites (visible_in program own) t exit (span_of_subject s))
    → Each (IsParamOf program own) (param_named t exit s)
param_sites program own t exit (This span) h = tt
param_sites program own t exit (NameSubject name) h = ((name.span, h), tt)

params_sound : (program : Program) (own : Contract) (formals : List Formal)
    → Each Clean (formals_sites program own false formals) → Each (IsParamOf program own) (params_of formals)
params_sound program own formals h =
    each_flat_map _ (λ f. param_named f.of f.exit f.name) formals
    (each_weaker _ _ (λ f c. param_sites program own f.of f.exit f.name c) formals
    (formal_types program own false formals h))

same_params_in_table : (program : Program) (own other : Contract) (ps qs : List Param) → Each (IsParamOf program own) ps
    → Each (IsParamOf program other) qs → pointwise (same_param program) ps qs ≡ true
    → map asked_of (map (param_in_table program) ps) ≡ map asked_of (map (param_in_table program) qs)
same_params_in_table program own other [] [] a b h = refl
same_params_in_table program own other [] (q ∷ qs) a b h = absurd cc
same_params_in_table program own other (p ∷ ps) [] a b h = absurd cc
same_params_in_table program own other (p ∷ ps) (q ∷ qs) a b h =
    let one = and_left (same_param program p q) _ h in
    let types = and_left (same_type program p.of q.of) _ one in
    let exits = and_right (same_type program p.of q.of) _ one in
    let kinds = and_left (same_kind (kind_of_type program p.of) (kind_of_type program q.of)) _ types in
    let perms = and_right (same_kind (kind_of_type program p.of) (kind_of_type program q.of)) _ types in
    let t = typed_same program own other p.of q.of p.exit q.exit a.0.0 b.0.0 a.0.1 b.0.1 kinds perms exits in
    let rest = same_params_in_table program own other ps qs a.1 b.1 (and_right (same_param program p q) _ h) in
    both t.kinds t.exits rest
  where
    both : resolved_type program p.of ≡ resolved_type program q.of
        → exit_of_type program p.of p.exit ≡ exit_of_type program q.of q.exit
        → map asked_of (map (param_in_table program) ps) ≡ map asked_of (map (param_in_table program) qs)
        → map asked_of (map (param_in_table program) (p ∷ ps)) ≡ map asked_of (map (param_in_table program) (q ∷ qs))
    both k e r = rw (k, e, r) refl

-- Results.

no_exit : (t : TypeExpr) (span : Span) → is_value_type t ≡ true → Clean (exits_site t None span)
no_exit t span h = record {
  unknown_name = refl;
  duplicate = refl;
  wrong_kind = rw h refl;
  no_state = refl;
  not_field = refl;
  type_mismatch =
      refl;
  arg_count = refl;
  bad_exit = refl;
  non_asset_owner = refl;
  interface_mismatch = refl;
  past_limit = refl;
  missing_return = refl;
  unreachable = refl;
  second_main = refl;
  assigned_parameter = refl;
}

as_formal : (v : Visible) (t : TypeExpr) (span : Span) → Each Clean (type_sites v t)
    → Each Clean (formal_type_sites v t None span)
as_formal v (int_type s) span h = (no_exit (int_type s) span refl, tt)
as_formal v (bool_type s) span h = (no_exit (bool_type s) span refl, tt)
as_formal v (text_type s) span h = (no_exit (text_type s) span refl, tt)
as_formal v (ref_type of) span h = h

known_refers : (program : Program) (of : Named) (perm : PermNode) (k : Known program of perm) (b : InferredKind)
    (test : Contract → Bool) → where_both_refer program (a_reference k.number) b test ≡ true
    → where_both_refer program (kind_of_ref program (ref_with of perm)) b test ≡ true
known_refers program of perm k b test h = rw (known_kind program of perm k) h

-- what agrees on a contract agrees at the end, where nothing stands after `>>`
exits_agree : (program : Program) (own other : Contract) (s t : TypeExpr)
    → Each Clean (type_sites (visible_in program own) s) → Each Clean (type_sites (visible_in program other) t)
    → same_kind (kind_of_type program s) (kind_of_type program t) ≡ true
    → where_both_refer program (kind_of_type program s) (kind_of_type program t)
    (λ c. agree c (permission_in s) (permission_in t)) ≡ true
    → where_both_refer program (kind_of_type program s) (kind_of_type program t)
    (λ c. agree_if_known c (exit_in c s None) (exit_in c t None)) ≡ true
exits_agree program own other (int_type m) t a b k h = refl
exits_agree program own other (bool_type m) t a b k h = refl
exits_agree program own other (text_type m) t a b k h = refl
exits_agree program own other (ref_type (ref_with of perm)) (int_type n) a b k h =
    known_refers program of perm (ref_known (visible_in program own) of perm None a).0 an_int _ refl
exits_agree program own other (ref_type (ref_with of perm)) (bool_type n) a b k h =
    known_refers program of perm (ref_known (visible_in program own) of perm None a).0 a_bool _ refl
exits_agree program own other (ref_type (ref_with of perm)) (text_type n) a b k h =
    known_refers program of perm (ref_known (visible_in program own) of perm None a).0 a_text _ refl
exits_agree program own other (ref_type (ref_with of perm)) (ref_type (ref_with of' perm')) a b k h =
    let l = (ref_known (visible_in program own) of perm None a).0 in
    let r = (ref_known (visible_in program other) of' perm' None b).0 in
    let s = same_refs program of perm of' perm' l r k in
    let e = known_exit_is l.contract perm None l.is_of in
    let e' = known_exit_is l.contract perm' None (subst (λ c. is_of c perm' ≡ true) (sym s.contract) r.is_of) in
    let g = test_of_contract program of perm of' perm' l r
    (λ c. agree c (written_permission perm) (written_permission perm')) h in
    rw (known_kind program of perm l, known_kind program of' perm' r, l.at, e, e') g

same_results : (program : Program) (own other : Contract) (a b : Option TypeExpr)
    → Each Clean (result_sites (visible_in program own) a) → Each Clean (result_sites (visible_in program other) b)
    → same_result program a b ≡ true → option_map (resolved_type program) a ≡ option_map (resolved_type program) b
same_results program own other None None h k same = refl
same_results program own other None (Some t) h k same = absurd cc
same_results program own other (Some s) None h k same = absurd cc
same_results program own other (Some s) (Some t) h k same =
    let kinds = and_left (same_kind (kind_of_type program s) (kind_of_type program t)) _ same in
    let perms = and_right (same_kind (kind_of_type program s) (kind_of_type program t)) _ same in
    let span = own.span in
    ap Some (typed_same program own other s t None None span span (as_formal (visible_in program own) s span h)
    (as_formal (visible_in program other) t span k) kinds perms
    (exits_agree program own other s t h k kinds perms)).kinds

-- Transactions.

held_agrees : (own : Contract) (a b : EntryAndExit) (p q x y : WrittenPermission) → a ≡ record { entry = Some p; exit = Some x }
    → b ≡ record { entry = Some q; exit = Some y } → same_held own a b ≡ true
    → (agree own p q ≡ true) × (agree own x y ≡ true)
held_agrees own a b p q x y e f h =
    let g : (agree own p q && agree own x y) ≡ true = rw (e, f) at h in
    (and_left (agree own p q) _ g, and_right (agree own p q) _ g)

and_parts : (a b c d : Bool) → (a && b && c && d) ≡ true → (a ≡ true) × (b ≡ true) × (c ≡ true) × (d ≡ true)
and_parts true true true true h = (refl, refl, refl, refl)
and_parts false b c d h = absurd cc
and_parts true false c d h = absurd cc
and_parts true true false d h = absurd cc
and_parts true true true false h = absurd cc

not_true : (b : Bool) → not b ≡ true → b ≡ false
not_true true h = absurd cc
not_true false h = refl

pub answers_in_table : (program : Program) (interface own : Contract) (asked t : Transaction)
    → IsFirst program interface → IsFirst program own → Between interface own
    → HeadSites program interface asked → HeadSites program own t → t.name.name ≡ asked.name.name
    → answers program interface own asked t ≡ true
    → AnswersInterface (contract_in_table program interface) (contract_in_table program own)
    (transaction_in_table program interface asked) (transaction_in_table program own t)
answers_in_table program interface own asked t first_i first_o between heads_i heads_o name h =
    let parts = and_parts (not t.private) (pointwise (same_param program) (params_of t.params) (params_of asked.params))
    (same_result program t.result asked.result) _ h in
    let k = held_known program own t.params first_o heads_o.formals in
    let k' = held_known program interface asked.params first_i heads_i.formals in
    let a = held_agrees own _ _ k.entry k'.entry k.exit k'.exit k.held k'.held parts.3 in
    record {
      name = name;
      public = not_true t.private parts.0;
      params = same_params_in_table program own interface (params_of t.params) (params_of asked.params)
          (params_sound program own t.params heads_o.formals)
          (params_sound program interface asked.params heads_i.formals) parts.1;
      result = same_results program own interface t.result asked.result heads_o.result heads_i.result parts.2;
      entry = k.entry_perm ∙ said_same interface own k.entry k'.entry between k'.entry_states a.0
          ∙ sym (ap (λ p. perm_of (for_contract (names_between (state_names interface) (state_names own))
          (permission_of p))) k'.entry_perm);
      exit = k.exit_perm ∙ said_same interface own k.exit k'.exit between k'.exit_states a.1
          ∙ sym (ap (λ p. perm_of (for_contract (names_between (state_names interface) (state_names own))
          (permission_of p))) k'.exit_perm);
    }

-- Contracts.

among_contains : (xs : List Name) (x : Name) → is_among x xs ≡ true → Contains xs x
among_contains xs x h =
    let n = among_number x xs h in
    let at = number_at x xs n.0 n.1 in
    (n.0, slice_get_bound xs n.0 x at, get_or_at xs n.0 x x at)

each_named : (xs ys : List Name) → list_all (λ y. is_among y xs) ys ≡ true → Each (Contains xs) ys
each_named xs [] h = tt
each_named xs (y ∷ ys) h = (
  among_contains xs y (and_left (is_among y xs) _ h),
  each_named xs ys (and_right (is_among y xs) _ h),
)

some_of : {A : Type 0} (o : Option A) (test : A → Bool) → option_map_or test o false ≡ true
    → (x : A) × (o ≡ Some x) × (test x ≡ true)
some_of None test h = absurd cc
some_of (Some x) test h = (x, refl, h)

answered : (program : Program) (interface own : Contract) → IsFirst program interface → IsFirst program own
    → Between interface own → Each (HeadSites program own) (transactions_of own)
    → (ts : List Transaction) → Each (HeadSites program interface) ts
    → list_all (λ asked. option_map_or (answers program interface own asked) (transaction_named own asked.name.name)
    false) ts ≡ true
    → Each (λ asked. (s : Signature) × Contains (transactions_in (contract_in_table program own)) s
    × AnswersInterface (contract_in_table program interface) (contract_in_table program own) asked s) (map
    (transaction_in_table program interface) ts)
answered program interface own first_i first_o between heads [] heads_i h = tt
answered program interface own first_i first_o between heads (asked ∷ ts) heads_i h =
    let one = some_of (transaction_named own asked.name.name) (answers program interface own asked)
    (and_left (option_map_or (answers program interface own asked) (transaction_named own asked.name.name) false) _
    h) in
    let at = named_at (λ (t : Transaction). t.name.name) asked.name.name (transactions_of own) one.0 one.1 in
    let there : slice_get (transactions_in (contract_in_table program own)) at.0
    ≡ Some (transaction_in_table program own one.0) =
    ap (λ ts. slice_get ts at.0) (in_contract program own)
    ∙ slice_get-map (transaction_in_table program own) (transactions_of own) at.0
    ∙ ap (option_map (transaction_in_table program own)) at.1 in (
      (
        transaction_in_table program own one.0,
        (at.0, slice_get_bound _ at.0 _ there, get_or_at _ at.0 _ _ there),
        answers_in_table program interface own asked one.0 first_i first_o between heads_i.0
            (each_at _ (transactions_of own) at.0 one.0 heads at.1) at.2 one.2,
      ),
      answered program interface own first_i first_o between heads ts heads_i.1
          (and_right (option_map_or (answers program interface own asked) (transaction_named own asked.name.name) false)
          _ h),
    )

imply : (a b : Bool) → (not a || b) ≡ true → a ≡ true → b ≡ true
imply true b h e = h
imply false b h e = absurd cc

three_parts : (a b c : Bool) → (a && b && c) ≡ true → (a ≡ true) × (b ≡ true) × (c ≡ true)
three_parts true true true h = (refl, refl, refl)
three_parts false b c h = absurd cc
three_parts true false c h = absurd cc
three_parts true true false h = absurd cc

pub meets_in_table : (program : Program) (interface own : Contract) → IsFirst program interface → IsFirst program own
    → interface.interface ≡ true → own.interface ≡ false
    → length (state_names own) ≤ 32 → length (state_names interface) ≤ 32
    → firsts (λ t. t.name.name) (transactions_of interface) ≡ transactions_of interface
    → Each (HeadSites program interface) (transactions_of interface)
    → Each (HeadSites program own) (transactions_of own)
    → meets program interface own ≡ true → MeetsInterface (contract_in_table program interface) (contract_in_table program own)
meets_in_table program interface own first_i first_o is_i is_o few few_i all heads_i heads_o h =
    let parts = three_parts (not own.asset || interface.asset)
    (list_all (λ state. is_among state (state_names own)) (state_names interface)) _ h in
    let between : Between interface own = record
    { is_interface = is_i; is_contract = is_o; few = few; few_theirs = few_i; states = parts.1 } in
    let test = subst (λ (ts : List Transaction). list_all
    (λ asked. option_map_or (answers program interface own asked) (transaction_named own asked.name.name) false) ts
    ≡ true) all parts.2 in
    let no_constructor : (contract_in_table program interface).transactions
    ≡ map (transaction_in_table program interface) (transactions_of interface) = rw is_i refl in
    let P = λ (asked : Signature). (s : Signature) × Contains (transactions_in (contract_in_table program own)) s
    × AnswersInterface (contract_in_table program interface) (contract_in_table program own) asked s in
    record {
      asset = imply own.asset interface.asset parts.0;
      states = All-from_recursion _ (state_names interface)
          (each_named (state_names own) (state_names interface) parts.1);
      transactions = subst (All P) (sym no_constructor)
          (All-from_recursion P (map (transaction_in_table program interface) (transactions_of interface))
          (answered program interface own first_i first_o between heads_o (transactions_of interface) heads_i test));
    }
