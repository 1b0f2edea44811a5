-- The constructors and transactions of a program without faults.
use Rattle.std.proofs.Common.{◌≡◌, ◌≢◌, Bool, true, false, List, [], ◌∷◌, ◌++◌, map, Some, None, refl, ap, arith, cond}
use Rattle.std.specs.Prelude.{slice_get, unwrap_or, IsTrue, IsSomeAnd, MatchBool, drop, if◌then◌else◌}
use Rattle.std.specs.List.{flat_map}
use Rattle.std.proofs.lemmas.List.Elements.{All-from_recursion}
use Rattle.ob_base.specs.Names.{is_name}
use Rattle.ob_base.specs.declared.fault.Span.{Span}
use Rattle.ob_base.specs.declared.id.TxId.{TxId}
use Rattle.ob_base.specs.declared.permission.Mode.TheVariants.{Unowned}
use Rattle.ob_perm.specs.Masks.{perm_of}
use Rattle.ob_table.specs.declared.contract.Signature.{Signature}
use Rattle.ob_tree.specs.Members.{Member, state_member, field_member, constructor_member, transaction_member, Contract}
use Rattle.ob_table_spec.specs.Names.{same}
use Rattle.ob_resolve_spec.specs.Declarations.{Program, part_of_named, fields_of, Transaction, transactions_of_member, transactions_of, Constructor, constructors_of_member, constructor_forms, constructors_of, default_constructor, constructor_of, params_of}
use Rattle.ob_resolve_spec.specs.Permissions.{WrittenPermission, as_shared, as_unowned, as_owner, as_owner_in, written_permission, known_permission, same_mode}
use Rattle.ob_resolve_spec.specs.declared.kind.InferredKind.TheVariants.{Nothing as nothing}
use Rattle.ob_resolve_spec.specs.Visible.{visible_in}
use Rattle.ob_resolve_spec.specs.Sites.{gives_object}
use Rattle.ob_resolve_spec.specs.TypeSites.{perm_sites, span_of_perm, type_sites, result_sites}
use Rattle.ob_resolve_spec.specs.MemberSites.{formals_sites, listed_sites, body_of_params_sites, member_sites}
use Rattle.ob_resolve_spec.specs.Numbers.{permission_on}
use Rattle.ob_resolve_spec.specs.TableOf.{constructor_in_table, transaction_in_table, contract_in_table, table_of, param_in_table, listed_in_table}
use Rattle.ob_table_spec.specs.Conditions.{IsConstructor, IsTransaction, transactions_in, HasConstructor}
use Rattle.ob_resolve_spec.specs.Shape.{HasMemberShape}
use Rattle.ob_resolve_laws.proofs.Each.{Each, each_left, each_right, each_map, each_of_flat_map, each_flat_map, each_of_both, each_weaker, each_filter}
use Rattle.ob_resolve_laws.proofs.Clean.{Clean}
use Rattle.ob_resolve_laws.proofs.PermFacts.{perm_is_on}
use Rattle.ob_resolve_laws.proofs.TypeFacts.{perm_named, perm_in_table}
use Rattle.ob_resolve_laws.proofs.FieldFacts.{field_types}
use Rattle.ob_resolve_laws.proofs.SignatureFacts.{params_are, few_params, this_is_held, result_is, listed_are, listed_distinct}

-- Constructors.

gives_some : (own : Contract) (p : WrittenPermission) → same_mode as_unowned p ≡ false
    → (perm_of (permission_on own p)).mode ≢ Unowned
gives_some own as_shared h e = absurd cc
gives_some own as_unowned h e = absurd cc
gives_some own as_owner h e = absurd cc
gives_some own (as_owner_in states) h e = absurd cc

abbrev IsWellFormedConstructor : Program → Contract → Constructor → Type 0
IsWellFormedConstructor program own m =
    IsConstructor (table_of program) (contract_in_table program own) (constructor_in_table program own m)

default_is_well_formed : (program : Program) (own : Contract) → IsWellFormedConstructor program own (default_constructor own)
default_is_well_formed program own = record {
  signature = record {
    few = omega arith;
    params = All-from_recursion _ [] tt;
    result = tt;
    entry =
        perm_is_on program own as_unowned;
    exit = perm_is_on program own as_owner;
  };
  name = refl;
  public = refl;
  result = refl;
  listed = refl;
  exit_not_unowned = gives_some own as_owner refl;
}

constructor_is_well_formed : (program : Program) (own : Contract) (m : Constructor) (span : Span)
    → Clean (gives_object (known_permission own m.perm) span) → Each Clean (perm_sites own m.perm)
    → Each Clean (formals_sites program own true m.params) → IsWellFormedConstructor program own m
constructor_is_well_formed program own m span g p f =
    let k = perm_named own m.perm p in
    let u : same_mode as_unowned (written_permission m.perm) ≡ false = rw k at g.bad_exit in
    record {
      signature = record {
        few = few_params program own true m.params f;
        params = All-from_recursion _ (map (param_in_table program) (params_of m.params))
            (params_are program own true m.params f);
        result = tt;
        entry = perm_is_on program own as_unowned;
        exit = perm_in_table program (Some own) own m.perm refl;
      };
      name = refl;
      public = refl;
      result = refl;
      listed = refl;
      exit_not_unowned = gives_some own (written_permission m.perm) u;
    }

well_formed_of_member : (program : Program) (own : Contract) (m : Member) → Each Clean (member_sites program own m)
    → Each (IsWellFormedConstructor program own) (constructors_of_member m)
well_formed_of_member program own (state_member name fields span) h = tt
well_formed_of_member program own (field_member field) h = tt
well_formed_of_member program own (constructor_member of perm params body span) h =
    let both = each_left Clean (perm_sites own perm ++ formals_sites program own true params)
    (body_of_params_sites program own nothing params body) h.1.1 in (
      constructor_is_well_formed program own (record { of = of; perm = perm; params = params; body = body })
          (span_of_perm span perm) h.1.0
          (each_left Clean (perm_sites own perm) _ both)
          (each_right Clean (perm_sites own perm) (formals_sites program own true params) both),
      tt,
    )
well_formed_of_member program own (transaction_member private listed name params result body span) h = tt

first_or : (program : Program) (own : Contract) (ms : List Constructor) → Each (IsWellFormedConstructor program own) ms
    → IsWellFormedConstructor program own (unwrap_or (slice_get ms 0) (default_constructor own))
first_or program own [] h = default_is_well_formed program own
first_or program own (m ∷ ms) h = h.0

pub constructor_is : (program : Program) (own : Contract) → Each Clean (flat_map (member_sites program own) own.members)
    → IsWellFormedConstructor program own (constructor_of own)
constructor_is program own h =
    first_or program own (constructors_of own)
    (each_filter _ (λ m. same own.name (part_of_named m.of).name) (constructor_forms own)
    (each_flat_map _ constructors_of_member own.members
    (each_weaker _ _ (well_formed_of_member program own) own.members
    (each_of_flat_map Clean (member_sites program own) own.members h))))

pub has_constructor : (program : Program) (own : Contract)
    → Each Clean (flat_map (member_sites program own) own.members)
    → HasConstructor (table_of program) (contract_in_table program own)
has_constructor program own h = at own.interface
  where
    number : TxId
    number = record { 0 = 0 }

    at : (b : Bool) → MatchBool b (cond b None (Some number) ≡ None)
        ((cond b None (Some number) ≡ Some number)
        × IsSomeAnd (slice_get (cond b [] (constructor_in_table program own (constructor_of own) ∷ [])
        ++ map (transaction_in_table program own) (transactions_of own)) 0)
        (IsConstructor (table_of program) (contract_in_table program own)))
    at true = refl
    at false = (refl, constructor_is program own h)

-- Transactions.

transaction_is : (program : Program) (own : Contract) (t : Transaction) → IsTrue (is_name t.name.name)
    → (t.private ≡ false → t.listed ≡ [])
    → Each (λ f. Each Clean (type_sites (visible_in program own) f.field.of)) (fields_of own)
    → Each Clean (listed_sites program own t.listed) → Each Clean (formals_sites program own false t.params)
    → Each Clean (result_sites (visible_in program own) t.result)
    → IsTransaction (table_of program) (contract_in_table program own) (transaction_in_table program own t)
transaction_is program own t name private types l f r =
    let held = this_is_held program own false t.params f in
    record {
      signature = record {
        few = few_params program own false t.params f;
        params = All-from_recursion _ (map (param_in_table program) (params_of t.params))
            (params_are program own false t.params f);
        result = result_is (visible_in program own) t.result r;
        entry = held.at_entry;
        exit = held.at_exit;
      };
      name = name;
      exit_may_follow = held.exit_may_follow;
      listed = All-from_recursion _ (map (listed_in_table program own) t.listed)
          (listed_are program own t.listed types l);
      distinct = listed_distinct program own t.listed l;
      private = λ h. ap (map (listed_in_table program own)) (private h);
    }

transaction_of_member_is : (program : Program) (own : Contract)
    → Each (λ f. Each Clean (type_sites (visible_in program own) f.field.of)) (fields_of own) → (m : Member)
    → HasMemberShape own.interface m → Each Clean (member_sites program own m)
    → Each (λ t. IsTransaction (table_of program) (contract_in_table program own) (transaction_in_table program own t))
    (transactions_of_member m)
transaction_of_member_is program own types (state_member name fields span) shape h = tt
transaction_of_member_is program own types (field_member field) shape h = tt
transaction_of_member_is program own types (constructor_member of perm params body span) shape h = tt
transaction_of_member_is program own types (transaction_member private listed name params result body span) shape h =
    let L = listed_sites program own listed in
    let F = formals_sites program own false params in
    let R = result_sites (visible_in program own) result in
    let lfr = each_left Clean (L ++ F ++ R) _ h in
    let lf = each_left Clean (L ++ F) R lfr in (
      transaction_is program own (record {
        private = private;
        listed = listed;
        name = name;
        params = params;
        result =
            result;
        body = body;
      }) shape.name_form shape.lists types
          (each_left Clean L F lf) (each_right Clean L F lf) (each_right Clean (L ++ F) R lfr),
      tt,
    )

pub transactions_are : (program : Program) (own : Contract) → Each (HasMemberShape own.interface) own.members
    → Each Clean (flat_map (member_sites program own) own.members)
    → Each (IsTransaction (table_of program) (contract_in_table program own))
    (map (transaction_in_table program own) (transactions_of own))
transactions_are program own shape h =
    each_map _ (transaction_in_table program own) (transactions_of own)
    (each_flat_map _ transactions_of_member own.members
    (each_of_both _ _ _ (transaction_of_member_is program own (field_types program own h)) own.members shape
    (each_of_flat_map Clean (member_sites program own) own.members h)))

-- the sites of a transaction's parameters and result
pub record HeadSites (program : Program) (own : Contract) (t : Transaction) : Type 0 where
  pub formals : Each Clean (formals_sites program own false t.params)
  pub result : Each Clean (result_sites (visible_in program own) t.result)

heads_of_member : (program : Program) (own : Contract) (m : Member) → Each Clean (member_sites program own m)
    → Each (HeadSites program own) (transactions_of_member m)
heads_of_member program own (state_member name fields span) h = tt
heads_of_member program own (field_member field) h = tt
heads_of_member program own (constructor_member of perm params body span) h = tt
heads_of_member program own (transaction_member private listed name params result body span) h =
    let L = listed_sites program own listed in
    let F = formals_sites program own false params in
    let R = result_sites (visible_in program own) result in
    let lfr = each_left Clean (L ++ F ++ R) _ h in (
      record {
        formals = each_right Clean L F (each_left Clean (L ++ F) R lfr);
        result =
            each_right Clean (L ++ F) R lfr;
      },
      tt,
    )

pub heads_are : (program : Program) (own : Contract) → Each Clean (flat_map (member_sites program own) own.members)
    → Each (HeadSites program own) (transactions_of own)
heads_are program own h =
    each_flat_map _ transactions_of_member own.members
    (each_weaker _ _ (heads_of_member program own) own.members
    (each_of_flat_map Clean (member_sites program own) own.members h))

-- the transactions of a contract in the table
pub in_contract : (program : Program) (own : Contract)
    → transactions_in (contract_in_table program own) ≡ map (transaction_in_table program own) (transactions_of own)
in_contract program own = at own.interface
  where
    at : (b : Bool) → (let s : List Signature =
        (if b then [] else constructor_in_table program own (constructor_of own) ∷ [])
        ++ map (transaction_in_table program own) (transactions_of own) in
        (if b then s else drop 1 s)) ≡ map (transaction_in_table program own) (transactions_of own)
    at true = refl
    at false = refl
