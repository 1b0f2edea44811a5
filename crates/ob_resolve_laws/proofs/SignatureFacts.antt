-- The parameters, results and listed fields of a program without faults.
use Rattle.std.proofs.Common.{◌≡◌, ◌≢◌, ℕ, ◌<◌, ◌≤◌, Bool, true, false, List, [], ◌∷◌, ◌++◌, map, length, Option, Some, None, refl, sym, ap, subst, arith, ◌∙◌, cond}
use Rattle.std.specs.Prelude.{option_map, slice_get, unwrap_or, IsSomeAnd, IfSome}
use Rattle.std.specs.Option.{option_map_or}
use Rattle.std.specs.List.{flat_map, AllPairs}
use Rattle.std.proofs.lemmas.List.{length-map}
use Rattle.ob_base.specs.Limits.{most_params}
use Rattle.ob_base.specs.declared.fault.Span.{Span}
use Rattle.ob_base.specs.declared.id.FieldId.{FieldId}
use Rattle.ob_base.specs.declared.permission.Perm.{Perm}
use Rattle.ob_perm.specs.Permissions.{unowned}
use Rattle.ob_perm.specs.Masks.{perm_of}
use Rattle.ob_tree.specs.Names.{Named, Ref, ref_with, TypeExpr, int_type, bool_type, text_type, ref_type}
use Rattle.ob_tree.specs.Members.{Formal, Listed, Contract}
use Rattle.ob_tree.specs.declared.name.NamePart.{NamePart}
use Rattle.ob_tree.specs.declared.name.PermNode.{PermNode}
use Rattle.ob_tree.specs.declared.name.Subject.{Subject}
use Rattle.ob_tree.specs.declared.name.Subject.TheVariants.{This, Name as NameSubject}
use Rattle.ob_table.specs.declared.contract.Field.{Field as TableField}
use Rattle.ob_table_spec.specs.Names.{Name, same, is_among, number_of, first_named, in_order, firsts}
use Rattle.ob_resolve_spec.specs.Declarations.{Program, part_of_named, declared_contract, FieldDeclaration, fields_of, field_names, param_named, params_of}
use Rattle.ob_resolve_spec.specs.Permissions.{as_unowned}
use Rattle.ob_resolve_spec.specs.declared.kind.InferredKind.TheVariants.{Reference as a_reference, Unknown as unknown}
use Rattle.ob_resolve_spec.specs.Kinds.{same_kind, contract_of_name, kind_of_ref, kind_of_type}
use Rattle.ob_resolve_spec.specs.Scopes.{kind_of_field}
use Rattle.ob_resolve_spec.specs.Visible.{visible_in, Visible}
use Rattle.ob_resolve_spec.specs.Sites.{Site, names_field}
use Rattle.ob_resolve_spec.specs.TypeSites.{declared_sites, limit_sites, ref_sites, type_sites, result_sites}
use Rattle.ob_resolve_spec.specs.StatementSites.{span_of_subject}
use Rattle.ob_resolve_spec.specs.MemberSites.{formal_type_sites, formal_sites, formals_sites, listed_type_site, listed_sites}
use Rattle.ob_resolve_spec.specs.Numbers.{contract_id, field_id, perm_on}
use Rattle.ob_resolve_spec.specs.TableOf.{resolved_type, param_in_table, listed_with, listed_in_table, perms_by_type, perms_by_subject, perms_of_this, contract_in_table, table_of, field_in_table, written_at_end}
use Rattle.ob_table_spec.specs.Conditions.{IsPermOn, IsType, MayLeave, IsParam, IsListedAs, IsListed}
use Rattle.ob_resolve_laws.proofs.Each.{Each, each_left, each_right, each_of_map, each_map, each_of_flat_map, each_flat_map, each_of_both, each_weaker, each_of_after, each_at}
use Rattle.ob_resolve_laws.proofs.Clean.{Clean}
use Rattle.ob_resolve_laws.proofs.NameFacts.{within_limit, declared_distinct, all_firsts}
use Rattle.ob_resolve_laws.proofs.LookUps.{among_number, number_at, slice_get-map, first_at, slice_get_within, get_or_at}
use Rattle.ob_resolve_laws.proofs.PermFacts.{perm_is_on}
use Rattle.ob_resolve_laws.proofs.TypeFacts.{true_from_not, Known, ref_known, perm_in_table, reference_is_kind, exit_is_of, exit_leaves, leaves_in_table, type_is_kind, some_and, in_table, known_kind}

-- Parameters.

param_is : (v : Visible) (t : TypeExpr) (exit : Option PermNode) (name : NamePart) (span : Span)
    → Each Clean (formal_type_sites v t exit span)
    → IsParam (table_of v.program) (param_in_table v.program (record { of = t; exit = exit; name = name }))
param_is v (int_type s) exit name span h = record { kind = tt; exit = refl }
param_is v (bool_type s) exit name span h = record { kind = tt; exit = refl }
param_is v (text_type s) exit name span h = record { kind = tt; exit = refl }
param_is v (ref_type (ref_with of perm)) exit name span h =
    let k = ref_known v of perm exit h in
    record { kind = reference_is_kind v.program of perm k.0; exit = exit_is_of v.program of perm exit k.0 k.1 }

param_of_subject_is : (v : Visible) (t : TypeExpr) (exit : Option PermNode) (subject : Subject)
    → Each Clean (formal_type_sites v t exit (span_of_subject subject))
    → Each (λ p. IsParam (table_of v.program) (param_in_table v.program p)) (param_named t exit subject)
param_of_subject_is v t exit (This span) h = tt
param_of_subject_is v t exit (NameSubject name) h = (param_is v t exit name name.span h, tt)

pub formals_first : (program : Program) (own : Contract) (constructor : Bool) (formals : List Formal)
    → Each Clean (formals_sites program own constructor formals)
    → Each Clean (in_order (formal_sites (visible_in program own) constructor) formals)
formals_first program own constructor formals h =
    each_left Clean (in_order (formal_sites (visible_in program own) constructor) formals) _
    (each_left Clean _ (limit_sites (λ p. p.name) most_params (params_of formals)) h)

pub formal_types : (program : Program) (own : Contract) (constructor : Bool) (formals : List Formal)
    → Each Clean (formals_sites program own constructor formals)
    → Each (λ f. Each Clean (formal_type_sites (visible_in program own) f.of f.exit (span_of_subject f.name))) formals
formal_types program own constructor formals h =
    each_weaker _ _ (λ f w. each_left Clean (formal_type_sites (visible_in program own) f.of f.exit
    (span_of_subject f.name)) _ w.1) formals
    (each_of_after Clean (formal_sites (visible_in program own) constructor) [] formals
    (formals_first program own constructor formals h))

pub params_are : (program : Program) (own : Contract) (constructor : Bool) (formals : List Formal)
    → Each Clean (formals_sites program own constructor formals)
    → Each (IsParam (table_of program)) (map (param_in_table program) (params_of formals))
params_are program own constructor formals h =
    each_map _ (param_in_table program) (params_of formals)
    (each_flat_map _ (λ f. param_named f.of f.exit f.name) formals
    (each_weaker _ _ (λ f c. param_of_subject_is (visible_in program own) f.of f.exit f.name c) formals
    (formal_types program own constructor formals h)))

pub few_params : (program : Program) (own : Contract) (constructor : Bool) (formals : List Formal)
    → Each Clean (formals_sites program own constructor formals)
    → length (map (param_in_table program) (params_of formals)) ≤ most_params
few_params program own constructor formals h =
    let first = in_order (formal_sites (visible_in program own) constructor) formals in
    let names = declared_sites (λ p. p.name) (field_names own) (params_of formals) in
    let declared = each_right Clean first names (each_left Clean (first ++ names) _ h) in
    let limits = each_right Clean (first ++ names) (limit_sites (λ p. p.name) most_params (params_of formals)) h in
    subst (λ n. n ≤ most_params) (sym (length-map (params_of formals) (param_in_table program)))
    (within_limit (λ p. p.name) (field_names own) most_params (params_of formals) declared limits)

-- What is held of `this`.

pub record IsHeld (program : Program) (own : Contract) (entry exit : Perm) : Type 0 where
  pub at_entry : IsPermOn (contract_in_table program own) entry
  pub at_exit : IsPermOn (contract_in_table program own) exit
  pub exit_may_follow : MayLeave entry exit

unowned_held : (program : Program) (own : Contract) → IsHeld program own (perm_of unowned) (perm_of unowned)
unowned_held program own = record {
  at_entry = perm_is_on program own as_unowned;
  at_exit =
      perm_is_on program own as_unowned;
  exit_may_follow = λ h. refl;
}

held_by_type : (v : Visible) (t : TypeExpr) (exit : Option PermNode) (span : Span)
    → Each Clean (formal_type_sites v t exit span)
    → IsHeld v.program v.own (perms_by_type v.own t exit).0 (perms_by_type v.own t exit).1
held_by_type v (int_type s) exit span h = unowned_held v.program v.own
held_by_type v (bool_type s) exit span h = unowned_held v.program v.own
held_by_type v (text_type s) exit span h = unowned_held v.program v.own
held_by_type v (ref_type (ref_with of perm)) exit span h =
    let k = ref_known v of perm exit h in
    record {
      at_entry = perm_in_table v.program (Some v.own) v.own perm refl;
      at_exit = perm_in_table v.program (Some v.own) v.own (written_at_end perm exit) refl;
      exit_may_follow = leaves_in_table v.program (Some v.own) v.own perm (written_at_end perm exit) refl k.1.leaves;
    }

held_by_subject : (v : Visible) (t : TypeExpr) (exit : Option PermNode) (subject : Subject)
    → Each Clean (formal_type_sites v t exit (span_of_subject subject))
    → IsHeld v.program v.own (perms_by_subject v.own t exit subject).0 (perms_by_subject v.own t exit subject).1
held_by_subject v t exit (This span) h = held_by_type v t exit span h
held_by_subject v t exit (NameSubject name) h = unowned_held v.program v.own

held_of_formals : (program : Program) (own : Contract) (formals : List Formal)
    → Each (λ f. Each Clean (formal_type_sites (visible_in program own) f.of f.exit (span_of_subject f.name))) formals
    → IsHeld program own (perms_of_this own formals).0 (perms_of_this own formals).1
held_of_formals program own [] h = unowned_held program own
held_of_formals program own (f ∷ formals) h = held_by_subject (visible_in program own) f.of f.exit f.name h.0

pub this_is_held : (program : Program) (own : Contract) (constructor : Bool) (formals : List Formal)
    → Each Clean (formals_sites program own constructor formals)
    → IsHeld program own (perms_of_this own formals).0 (perms_of_this own formals).1
this_is_held program own constructor formals h =
    held_of_formals program own formals (formal_types program own constructor formals h)

-- Results.

pub result_is : (v : Visible) (result : Option TypeExpr) → Each Clean (result_sites v result)
    → IfSome (option_map (resolved_type v.program) result) (IsType (table_of v.program))
result_is v None h = tt
result_is v (Some t) h = type_is_kind v t h

-- Listed fields.

-- a field that is named, at its number
pub record NamedField (program : Program) (own : Contract) (name : Name) : Type 0 where
  pub number : ℕ
  pub field : FieldDeclaration
  pub numbered : number_of name (field_names own) ≡ Some number
  pub at : slice_get (fields_of own) number ≡ Some field
  pub kind : kind_of_field program own name ≡ kind_of_type program field.field.of

first_field : (name : Name) (fs : List FieldDeclaration) (f : FieldDeclaration)
    → first_named (λ f. f.field.name.name) name fs ≡ Some f
    → first_named (λ f. f.name.name) name (map (λ f. f.field) fs) ≡ Some f.field
first_field name [] f e = absurd cc
first_field name (g ∷ fs) f e = at (same name g.field.name.name) (first_field name fs f) e
  where
    at : (b : Bool) → (first_named (λ f. f.field.name.name) name fs ≡ Some f
        → first_named (λ f. f.name.name) name (map (λ f. f.field) fs) ≡ Some f.field)
        → cond b (Some g) (first_named (λ f. f.field.name.name) name fs) ≡ Some f
        → cond b (Some g.field) (first_named (λ f. f.name.name) name (map (λ f. f.field) fs)) ≡ Some f.field
    at true r e = let x : g ≡ f = cc in ap (λ g. Some g.field) x
    at false r e = r e

pub field_found : (program : Program) (own : Contract) (name : Name) → is_among name (field_names own) ≡ true
    → NamedField program own name
field_found program own name h =
    let n = among_number name (field_names own) h in
    let f = first_at (λ f. f.field.name.name) name (fields_of own) n.0 n.1 in
    record {
      number = n.0;
      field = f.0;
      numbered = n.1;
      at = f.1;
      kind =
          ap (λ o. option_map_or (λ f. kind_of_type program f.of) o unknown) (first_field name (fields_of own) f.0 f.2);
    }

pub same_number : (m n : ℕ) → same_kind (a_reference m) (a_reference n) ≡ true → m ≡ n
same_number m n h = grind (arith, h)

listed_as : (program : Program) (own : Contract) (of : Named) (perm last : PermNode) (k : Known program of perm)
    (t : TypeExpr) → Each Clean (type_sites (visible_in program own) t)
    → same_kind (kind_of_type program t) (a_reference k.number) ≡ true
    → IsListedAs (table_of program) (perm_on (contract_of_name program (part_of_named of).name) perm)
    (perm_on (contract_of_name program (part_of_named of).name) last) (resolved_type program t)
listed_as program own of perm last k (int_type s) c h = absurd cc
listed_as program own of perm last k (bool_type s) c h = absurd cc
listed_as program own of perm last k (text_type s) c h = absurd cc
listed_as program own of perm last k (ref_type (ref_with of' perm')) c h =
    let k' = (ref_known (visible_in program own) of' perm' None c).0 in
    let m = same_number k'.number k.number (subst (λ x. same_kind x (a_reference k.number) ≡ true)
    (known_kind program of' perm' k') h) in
    subst (λ o. IsSomeAnd (slice_get (map (contract_in_table program) program) (contract_id o).0)
    (λ c. IsPermOn c (perm_on (contract_of_name program (part_of_named of).name) perm)
    × IsPermOn c (perm_on (contract_of_name program (part_of_named of).name) last)))
    (sym k'.named)
    (some_and _ (contract_in_table program k.contract) _
    (in_table program k'.number k.contract (ap (declared_contract program) m ∙ k.at))
    (perm_in_table program _ k.contract perm k.by_name, perm_in_table program _ k.contract last k.by_name))

listed_is : (program : Program) (own : Contract) (name : NamePart) (of : Named) (perm : PermNode)
    (exit : Option PermNode)
    → Each (λ f. Each Clean (type_sites (visible_in program own) f.field.of)) (fields_of own)
    → Each Clean (ref_sites (visible_in program own) (ref_with of perm) exit ++ names_field own name ∷ [])
    → Clean (listed_type_site program own name (ref_with of perm))
    → IsListed (table_of program) (contract_in_table program own)
    (listed_with program own name.name (ref_with of perm) exit)
listed_is program own name of perm exit types a b =
    let ks = ref_known (visible_in program own) of perm exit
    (each_left Clean (ref_sites (visible_in program own) (ref_with of perm) exit) _ a) in
    let k = ks.0 in
    let named = true_from_not (is_among name.name (field_names own))
    (each_right Clean (ref_sites (visible_in program own) (ref_with of perm) exit) (names_field own name ∷ [])
    a).0.not_field in
    let f = field_found program own name.name named in
    let s = true_from_not (same_kind (kind_of_field program own name.name) (kind_of_ref program (ref_with of perm)))
    b.type_mismatch in
    let s' : same_kind (kind_of_type program f.field.field.of) (a_reference k.number) ≡ true =
    rw (f.kind, known_kind program of perm k) at s in
    let P = λ (x : TableField). IsListedAs (table_of program)
    (perm_on (contract_of_name program (part_of_named of).name) perm)
    (perm_on (contract_of_name program (part_of_named of).name) (written_at_end perm exit)) x.of in
    record {
      field = subst (λ o. IsSomeAnd (slice_get (map (field_in_table program own) (fields_of own)) (unwrap_or o 0)) P)
          (sym f.numbered)
          (some_and _ (field_in_table program own f.field) P
          (slice_get-map (field_in_table program own) (fields_of own) f.number
          ∙ ap (option_map (field_in_table program own)) f.at)
          (listed_as program own of perm (written_at_end perm exit) k f.field.field.of
          (each_at _ (fields_of own) f.number f.field types f.at) s'));
      exit_may_follow = exit_leaves program of perm exit k ks.1;
    }

listed_of_ref : (program : Program) (own : Contract) (name : NamePart) (of : Ref) (exit : Option PermNode)
    → Each (λ f. Each Clean (type_sites (visible_in program own) f.field.of)) (fields_of own)
    → Each Clean (ref_sites (visible_in program own) of exit ++ names_field own name ∷ [])
    → Clean (listed_type_site program own name of)
    → IsListed (table_of program) (contract_in_table program own) (listed_with program own name.name of exit)
listed_of_ref program own name (ref_with of perm) exit types a b = listed_is program own name of perm exit types a b

abbrev listed_first : Program → Contract → List Listed → List Site
listed_first program own listed =
    flat_map (λ l. ref_sites (visible_in program own) l.of l.exit ++ names_field own l.name ∷ []) listed

abbrev listed_names : List Listed → List Site
listed_names listed = declared_sites (λ l. l.name) [] listed

listed_declared : (program : Program) (own : Contract) (listed : List Listed)
    → Each Clean (listed_sites program own listed) → Each Clean (listed_names listed)
listed_declared program own listed h =
    each_right Clean (listed_first program own listed) (listed_names listed)
    (each_left Clean (listed_first program own listed ++ listed_names listed) _ h)

listed_fields : (program : Program) (own : Contract) (listed : List Listed)
    → Each Clean (listed_sites program own listed)
    → Each (λ l. Each Clean (ref_sites (visible_in program own) l.of l.exit ++ names_field own l.name ∷ [])) listed
listed_fields program own listed h =
    each_of_flat_map Clean (λ l. ref_sites (visible_in program own) l.of l.exit ++ names_field own l.name ∷ []) listed
    (each_left Clean (listed_first program own listed) (listed_names listed)
    (each_left Clean (listed_first program own listed ++ listed_names listed) _ h))

-- the listed fields of a transaction
pub listed_are : (program : Program) (own : Contract) (listed : List Listed)
    → Each (λ f. Each Clean (type_sites (visible_in program own) f.field.of)) (fields_of own)
    → Each Clean (listed_sites program own listed)
    → Each (IsListed (table_of program) (contract_in_table program own)) (map (listed_in_table program own) listed)
listed_are program own listed types h =
    let third = each_right Clean (listed_first program own listed ++ listed_names listed)
    (map (λ l. listed_type_site program own l.name l.of) (firsts (λ l. l.name.name) listed)) h in
    let all = all_firsts (λ l. l.name) [] listed (listed_declared program own listed h) in
    let third' = subst (λ ls. Each Clean (map (λ l. listed_type_site program own l.name l.of) ls)) all third in
    each_map _ (listed_in_table program own) listed
    (each_of_both _ _ _ (λ l a b. listed_of_ref program own l.name l.of l.exit types a b) listed
    (listed_fields program own listed h)
    (each_of_map Clean (λ l. listed_type_site program own l.name l.of) listed third'))

abbrev pub number_in : List Name → Name → FieldId
number_in names name = record { 0 = unwrap_or (number_of name names) 0 }

field_of_listed : (program : Program) (own : Contract) (field : Name) (of : Ref) (exit : Option PermNode)
    → (listed_with program own field of exit).field ≡ field_id own field
field_of_listed program own field (ref_with of perm) exit = refl

-- names with one number are one name
pub same_field : (names : List Name) (a b : Name) → is_among a names ≡ true → is_among b names ≡ true
    → (number_in names a).0 ≡ (number_in names b).0 → a ≡ b
same_field names a b h k e =
    let m = among_number a names h in
    let n = among_number b names k in
    let x = number_at a names m.0 m.1 in
    let y = number_at b names n.0 n.1 in
    let p : unwrap_or (number_of a names) 0 ≡ m.0 = ap (λ o. unwrap_or o 0) m.1 in
    let q : unwrap_or (number_of b names) 0 ≡ n.0 = ap (λ o. unwrap_or o 0) n.1 in
    let s : m.0 ≡ n.0 = sym p ∙ e ∙ q in
    let t : Some a ≡ Some b = sym x ∙ ap (slice_get names) s ∙ y in cc

-- no field is listed twice
pub listed_distinct : (program : Program) (own : Contract) (listed : List Listed)
    → Each Clean (listed_sites program own listed)
    → AllPairs (λ (a b : FieldId). a.0 ≢ b.0) (map (λ l. l.field) (map (listed_in_table program own) listed))
listed_distinct program own listed h i j d before within e =
    let bound : j < length listed = omega (
      arith,
      length-map (map (listed_in_table program own) listed) (λ l. l.field),
      length-map listed (listed_in_table program own),
    ) in
    let x = slice_get_within listed i (omega arith) in
    let y = slice_get_within listed j bound in
    let distinct = declared_distinct (λ l. l.name) [] listed (listed_declared program own listed h) in
    let named = each_weaker _ (λ (l : Listed). is_among l.name.name (field_names own) ≡ true)
    (λ l c. true_from_not (is_among l.name.name (field_names own))
    (each_right Clean (ref_sites (visible_in program own) l.of l.exit) (names_field own l.name ∷ [])
    c).0.not_field) listed (listed_fields program own listed h) in
    let fx = get_or_at (map (λ l. l.field) (map (listed_in_table program own) listed)) i
    (listed_in_table program own x.0).field d
    (slice_get-map (λ l. l.field) (map (listed_in_table program own) listed) i
    ∙ ap (option_map (λ l. l.field)) (slice_get-map (listed_in_table program own) listed i)
    ∙ ap (λ o. option_map (λ l. l.field) (option_map (listed_in_table program own) o)) x.1) in
    let fy = get_or_at (map (λ l. l.field) (map (listed_in_table program own) listed)) j
    (listed_in_table program own y.0).field d
    (slice_get-map (λ l. l.field) (map (listed_in_table program own) listed) j
    ∙ ap (option_map (λ l. l.field)) (slice_get-map (listed_in_table program own) listed j)
    ∙ ap (λ o. option_map (λ l. l.field) (option_map (listed_in_table program own) o)) y.1) in
    let gx = ap (λ (f : FieldId). f.0) (fx ∙ field_of_listed program own x.0.name.name x.0.of x.0.exit) in
    let gy = ap (λ (f : FieldId). f.0) (fy ∙ field_of_listed program own y.0.name.name y.0.of y.0.exit) in
    let same = same_field (field_names own) x.0.name.name y.0.name.name (each_at _ listed i x.0 named x.1)
    (each_at _ listed j y.0 named y.1) (sym gx ∙ e ∙ gy) in
    let nx = get_or_at (map (λ (l : Listed). l.name.name) listed) i x.0.name.name []
    (slice_get-map (λ (l : Listed). l.name.name) listed i ∙ ap (option_map (λ (l : Listed). l.name.name)) x.1) in
    let ny = get_or_at (map (λ (l : Listed). l.name.name) listed) j y.0.name.name []
    (slice_get-map (λ (l : Listed). l.name.name) listed j ∙ ap (option_map (λ (l : Listed). l.name.name)) y.1) in
    distinct i j [] before (omega (arith, length-map listed (λ (l : Listed). l.name.name))) (nx ∙ same ∙ sym ny)
