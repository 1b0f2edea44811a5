-- What is called in a program without faults.
use Rattle.std.proofs.Common.{◌≡◌, ℕ, suc, ◌+◌, Bool, true, false, List, [], ◌∷◌, ◌++◌, map, Option, Some, None, refl, ap, arith, ◌∙◌, cond}
use Rattle.std.proofs.lemmas.Bool.Decides.{nat_tests}
use Rattle.std.specs.Prelude.{not, ◌&&◌, nat_eq, option_map, option_and_then, slice_get, unwrap_or, if◌then◌else◌}
use Rattle.std.specs.Option.{option_map_or}
use Rattle.std.specs.List.{flat_map}
use Rattle.ob_base.specs.declared.fault.Span.{Span}
use Rattle.ob_tree.specs.Names.{ref_with, TypeExpr, int_type, bool_type, text_type, ref_type}
use Rattle.ob_tree.specs.Members.{Formal, Member, state_member, field_member, constructor_member, transaction_member, Contract}
use Rattle.ob_tree.specs.declared.name.PermNode.{PermNode}
use Rattle.ob_tree.specs.declared.name.Subject.{Subject}
use Rattle.ob_tree.specs.declared.name.Subject.TheVariants.{This, Name as NameSubject}
use Rattle.ob_table.specs.Tables.{signature_of}
use Rattle.ob_table_spec.specs.Names.{Name, same}
use Rattle.ob_resolve_spec.specs.Declarations.{Program, part_of_named, declared_contract, fields_of, param_named, params_of, Transaction, transactions_of, transaction_named, Constructor, constructors_of_member, constructor_forms, constructors_of, default_constructor, constructor_of}
use Rattle.ob_resolve_spec.specs.Visible.{Visible, visible_in}
use Rattle.ob_resolve_spec.specs.StatementSites.{span_of_subject}
use Rattle.ob_resolve_spec.specs.MemberSites.{formal_type_sites, formals_sites, member_sites}
use Rattle.ob_resolve_spec.specs.TypeSites.{perm_sites}
use Rattle.ob_resolve_spec.specs.Numbers.{first_transaction, transaction_id}
use Rattle.ob_resolve_spec.specs.TableOf.{constructor_in_table, transaction_in_table, signatures_of, table_of}
use Rattle.ob_table_spec.specs.WellFormed.{constructor_at, is_constructor}
use Rattle.ob_resolve_laws.proofs.Each.{Each, each_left, each_right, each_weaker, each_of_flat_map, each_flat_map, each_filter, each_at}
use Rattle.ob_resolve_laws.proofs.Clean.{Clean}
use Rattle.ob_resolve_laws.proofs.LookUps.{slice_get-map, first_number}
use Rattle.ob_resolve_laws.proofs.TypeFacts.{ref_known, in_table}
use Rattle.ob_resolve_laws.proofs.FieldFacts.{field_types}
use Rattle.ob_resolve_laws.proofs.SignatureFacts.{formal_types}
use Rattle.ob_resolve_laws.proofs.TransactionFacts.{HeadSites, heads_are}
use Rattle.ob_resolve_laws.proofs.HeldFacts.{first_of_name}
use Rattle.ob_resolve_laws.proofs.TableFacts.{Sound, Clear}
use Rattle.ob_resolve_laws.proofs.KindFacts.{KnownType, reference_known, type_known, KnownResult, result_known}
use Rattle.ob_resolve_laws.proofs.ScopeFacts.{World}

pub world_of : (program : Program) → Clear program → (n : ℕ) (own : Contract) → declared_contract program n ≡ Some own
    → World program own
world_of program clear n own at =
    let s = each_at (Sound program) program n own clear.all at in
    record {
      number = n;
      numbered = (first_of_name program clear.distinct n own at).0;
      at = at;
      fields = each_weaker _ _ (λ f c. type_known (visible_in program own) f.field.of c) (fields_of own)
          (field_types program own s.members);
    }

pub world_number : (program : Program) (clear : Clear program) (n : ℕ) (own : Contract)
    (at : declared_contract program n ≡ Some own) → (world_of program clear n own at).number ≡ n
unfolding world_of
world_number program clear n own at = refl

-- Parameters.

formal_known : (v : Visible) (t : TypeExpr) (exit : Option PermNode) (span : Span)
    → Each Clean (formal_type_sites v t exit span) → KnownType v.program t
formal_known v (int_type s) exit span h = record { value = tt; in_table_as = refl }
formal_known v (bool_type s) exit span h = record { value = tt; in_table_as = refl }
formal_known v (text_type s) exit span h = record { value = tt; in_table_as = refl }
formal_known v (ref_type (ref_with of perm)) exit span h =
    reference_known v.program of perm (ref_known v of perm exit h).0

subject_known : (v : Visible) (t : TypeExpr) (exit : Option PermNode) (s : Subject) → KnownType v.program t
    → Each (λ p. KnownType v.program p.of) (param_named t exit s)
subject_known v t exit (This span) k = tt
subject_known v t exit (NameSubject name) k = (k, tt)

pub params_known : (program : Program) (own : Contract) (constructor : Bool) (formals : List Formal)
    → Each Clean (formals_sites program own constructor formals)
    → Each (λ p. KnownType program p.of) (params_of formals)
params_known program own constructor formals h =
    each_flat_map _ (λ f. param_named f.of f.exit f.name) formals
    (each_weaker _ _ (λ f c. subject_known (visible_in program own) f.of f.exit f.name
    (formal_known (visible_in program own) f.of f.exit (span_of_subject f.name) c)) formals (formal_types
    program own constructor formals h))

-- Transactions.

-- a transaction of a contract, by its name and in the table
pub record Callee (program : Program) (n : ℕ) (c : Contract) (name : Name) (t : Transaction) : Type 0 where
  pub signature : signature_of (table_of program) (record { 0 = n }) (transaction_id (Some c) name)
      ≡ Some (transaction_in_table program c t)
  pub no_constructor : is_constructor (table_of program) (record { 0 = n }) (transaction_id (Some c) name).0 ≡ false
  pub params : Each (λ p. KnownType program p.of) (params_of t.params)
  pub result : KnownResult program t.result

signature_after : (program : Program) (c : Contract) (k : ℕ) (t : Transaction)
    → slice_get (transactions_of c) k ≡ Some t
    → slice_get (signatures_of program c) (k + first_transaction c) ≡ Some (transaction_in_table program c t)
signature_after program c k t e =
    at c.interface
    (slice_get-map (transaction_in_table program c) (transactions_of c) k
    ∙ ap (option_map (transaction_in_table program c)) e)
  where
    at : (b : Bool) → slice_get (map (transaction_in_table program c) (transactions_of c)) k
        ≡ Some (transaction_in_table program c t)
        → slice_get (cond b [] (constructor_in_table program c (constructor_of c) ∷ [])
        ++ map (transaction_in_table program c) (transactions_of c)) (k + cond b 0 1)
        ≡ Some (transaction_in_table program c t)
    at true h = let z : k + 0 ≡ k = omega arith in rw z h
    at false h = let z : k + 1 ≡ suc k = omega arith in rw z h

after_constructor : (interface : Bool) (k : ℕ) → (not interface && nat_eq (k + (if interface then 0 else 1)) 0) ≡ false
after_constructor true k = refl
after_constructor false k = grind (arith, nat_tests)

pub callee_is : (program : Program) → Clear program → (n : ℕ) (c : Contract) → declared_contract program n ≡ Some c
    → (name : Name) (t : Transaction) → transaction_named c name ≡ Some t → Callee program n c name t
callee_is program clear n c at name t e =
    let k = first_number (λ (t : Transaction). t.name.name) name (transactions_of c) t e in
    let id : (transaction_id (Some c) name).0 ≡ k.0 + first_transaction c =
    ap (λ o. unwrap_or o 0 + first_transaction c) k.1 in
    let s = each_at (Sound program) program n c clear.all at in
    let head = each_at (HeadSites program c) (transactions_of c) k.0 t (heads_are program c s.members) k.2 in
    record {
      signature = ap (option_and_then (λ found. slice_get found.transactions (transaction_id (Some c) name).0))
          (in_table program n c at) ∙ ap (slice_get (signatures_of program c)) id
          ∙ signature_after program c k.0 t k.2;
      no_constructor = ap (λ o. option_map_or (λ found. not found.interface
          && nat_eq (transaction_id (Some c) name).0 0) o false) (in_table program n c at)
          ∙ ap (λ x. not c.interface && nat_eq x 0) id ∙ after_constructor c.interface k.0;
      params = params_known program c false t.params head.formals;
      result = result_known (visible_in program c) t.result head.result;
    }

-- Constructors.

formals_of_member : (program : Program) (own : Contract) (m : Member) → Each Clean (member_sites program own m)
    → Each (λ k. Each Clean (formals_sites program own true k.params)) (constructors_of_member m)
formals_of_member program own (state_member name fields span) h = tt
formals_of_member program own (field_member field) h = tt
formals_of_member program own (constructor_member of perm params body span) h =
    let both = each_left Clean (perm_sites own perm ++ formals_sites program own true params) _ h.1.1 in
    (each_right Clean (perm_sites own perm) (formals_sites program own true params) both, tt)
formals_of_member program own (transaction_member private listed name params result body span) h = tt

first_params : (program : Program) (own : Contract) (ms : List Constructor)
    → Each (λ k. Each Clean (formals_sites program own true k.params)) ms
    → Each (λ p. KnownType program p.of) (params_of (unwrap_or (slice_get ms 0) (default_constructor own)).params)
first_params program own [] h = tt
first_params program own (m ∷ ms) h = params_known program own true m.params h.0

pub constructor_params : (program : Program) (own : Contract)
    → Each Clean (flat_map (member_sites program own) own.members)
    → Each (λ p. KnownType program p.of) (params_of (constructor_of own).params)
constructor_params program own h =
    first_params program own (constructors_of own)
    (each_filter _ (λ m. same own.name (part_of_named m.of).name) (constructor_forms own)
    (each_flat_map _ constructors_of_member own.members
    (each_weaker _ _ (formals_of_member program own) own.members
    (each_of_flat_map Clean (member_sites program own) own.members h))))

pub made_at : (program : Program) (n : ℕ) (c : Contract) → declared_contract program n ≡ Some c → c.interface ≡ false
    → constructor_at (table_of program) (record { 0 = n }) ≡ Some (constructor_in_table program c (constructor_of c))
made_at program n c at e =
    ap (option_and_then (λ c. if c.interface then None else slice_get c.transactions 0))
    (in_table program n c at) ∙ (rw e refl)
