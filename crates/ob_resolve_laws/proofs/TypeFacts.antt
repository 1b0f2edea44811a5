-- The types and permissions of a program without faults.
use Rattle.std.proofs.Common.{◌≡◌, ℕ, Bool, true, false, List, [], ◌∷◌, ◌++◌, map, Option, Some, None, refl, sym, ap, subst, ◌∙◌}
use Rattle.std.specs.Prelude.{◌&&◌, not, option_map, slice_get, IsSomeAnd}
use Rattle.std.specs.Option.{option_map_or}
use Rattle.std.specs.List.{list_all}
use Rattle.ob_base.specs.declared.fault.Span.{Span}
use Rattle.ob_tree.specs.Names.{Named, ref_with, TypeExpr, int_type, bool_type, text_type, ref_type}
use Rattle.ob_tree.specs.Members.{Contract}
use Rattle.ob_tree.specs.declared.name.NamePart.{NamePart}
use Rattle.ob_tree.specs.declared.name.PermNode.{PermNode}
use Rattle.ob_tree.specs.declared.name.PermNode.TheVariants.{Mode, States}
use Rattle.ob_base.specs.declared.permission.Mode.TheVariants.{Owned, Shared, Unowned}
use Rattle.ob_perm.specs.Masks.{perm_of}
use Rattle.ob_table_spec.specs.Names.{is_among}
use Rattle.ob_resolve_spec.specs.Declarations.{Program, part_of_named, number_of_contract, declared_contract, state_names}
use Rattle.ob_resolve_spec.specs.Permissions.{written_permission, is_of, known_permission, may_leave}
use Rattle.ob_resolve_spec.specs.declared.kind.InferredKind.TheVariants.{Reference as a_reference}
use Rattle.ob_resolve_spec.specs.Kinds.{contract_of_name, kind_of_ref}
use Rattle.ob_resolve_spec.specs.Visible.{NameNeed, a_contract, Visible, is_visible, means}
use Rattle.ob_resolve_spec.specs.Sites.{names_thing, names_state, leaves_permission}
use Rattle.ob_resolve_spec.specs.TypeSites.{perm_sites, exit_sites, ref_sites, type_sites, span_of_perm}
use Rattle.ob_resolve_spec.specs.Numbers.{contract_id, permission_on, perm_on}
use Rattle.ob_resolve_spec.specs.TableOf.{contract_in_table, table_of, reference_of, resolved_type, written_at_end, exit_of_type}
use Rattle.ob_table_spec.specs.Conditions.{IsPermOn, IsType, MayLeave, IsExitOf}
use Rattle.ob_resolve_laws.proofs.Each.{Each, each_left, each_right}
use Rattle.ob_resolve_laws.proofs.Clean.{Clean}
use Rattle.ob_resolve_laws.proofs.LookUps.{some_value, slice_get-map, contract_found}
use Rattle.ob_resolve_laws.proofs.PermFacts.{perm_is_on, may_leave_in_table}

pub true_from_not : (b : Bool) → not b ≡ false → b ≡ true
true_from_not true h = refl
true_from_not false h = absurd cc

pub and_left : (a b : Bool) → (a && b) ≡ true → a ≡ true
and_left true b h = refl
and_left false b h = absurd cc

pub and_right : (a b : Bool) → (a && b) ≡ true → b ≡ true
and_right true b h = h
and_right false b h = absurd cc

meant : (a b : Bool) → not a ≡ false → (a && not b) ≡ false → b ≡ true
meant true b h k = true_from_not b k
meant false b h k = absurd cc

-- a name denotes what is needed
pub name_means : (need : NameNeed) (v : Visible) (name : NamePart) → Clean (names_thing need v name)
    → means need v name.name ≡ true
name_means need v name h = meant (is_visible v name.name) (means need v name.name) h.unknown_name h.wrong_kind

-- the states of a permission are the contract's
states_named : (c : Contract) (states : List NamePart) → Each Clean (map (names_state c) states)
    → list_all (λ s. is_among s.name (state_names c)) states ≡ true
states_named c [] h = refl
states_named c (s ∷ states) h =
    rw (true_from_not (is_among s.name (state_names c)) h.0.no_state) (states_named c states h.1)

pub perm_named : (c : Contract) (perm : PermNode) → Each Clean (perm_sites c perm) → is_of c perm ≡ true
perm_named c (Mode mode span) h = refl
perm_named c (States states) h = states_named c states h

-- what is known of a reference's type
pub record Known (program : Program) (of : Named) (perm : PermNode) : Type 0 where
  pub number : ℕ
  pub contract : Contract
  pub named : number_of_contract program (part_of_named of).name ≡ Some number
  pub at : declared_contract program number ≡ Some contract
  pub by_name : contract_of_name program (part_of_named of).name ≡ Some contract
  pub is_of : is_of contract perm ≡ true

-- and of what stands after `>>`
pub record KnownExit (c : Contract) (perm : PermNode) (exit : Option PermNode) : Type 0 where
  pub is_of : is_of c (written_at_end perm exit) ≡ true
  pub leaves : may_leave (written_permission perm) (written_permission (written_at_end perm exit)) ≡ true

same_mode_itself : (perm : PermNode) → may_leave (written_permission perm) (written_permission perm) ≡ true
same_mode_itself (Mode Owned span) = refl
same_mode_itself (Mode Shared span) = refl
same_mode_itself (Mode Unowned span) = refl
same_mode_itself (States states) = refl

exit_known : (c : Contract) (perm : PermNode) (exit : Option PermNode) (span : Span) → is_of c perm ≡ true
    → Each Clean (exit_sites c perm exit span) → KnownExit c perm exit
exit_known c perm None span k h = record { is_of = k; leaves = same_mode_itself perm }
exit_known c perm (Some exit) span k h =
    let e = perm_named c exit (each_left Clean (perm_sites c exit) _ h) in
    let l = (each_right Clean (perm_sites c exit)
    (leaves_permission (known_permission c perm) (known_permission c exit) (span_of_perm span exit) ∷ []) h).0.bad_exit in
    record {
      is_of = e;
      leaves = true_from_not (may_leave (written_permission perm) (written_permission exit))
          (rw (k, e) at l);
    }

pub ref_known : (v : Visible) (of : Named) (perm : PermNode) (exit : Option PermNode)
    → Each Clean (ref_sites v (ref_with of perm) exit) → (k : Known v.program of perm) × KnownExit k.contract perm exit
ref_known v of perm exit h =
    let m = name_means a_contract v (part_of_named of) h.0 in
    let n = some_value (number_of_contract v.program (part_of_named of).name) m in
    let c = contract_found v.program (part_of_named of).name n.0 n.1 in
    let inner = subst (λ o. Each Clean (option_map_or
    (λ c. perm_sites c perm ++ exit_sites c perm exit (part_of_named of).span) o [])) c.3 h.1 in
    let is = perm_named c.0 perm (each_left Clean (perm_sites c.0 perm) _ inner) in (
      record { number = n.0; contract = c.0; named = n.1; at = c.1; by_name = c.3; is_of = is },
      exit_known c.0 perm exit (part_of_named of).span is
          (each_right Clean (perm_sites c.0 perm) (exit_sites c.0 perm exit (part_of_named of).span) inner),
    )

-- in the table

pub some_and : {A : Type 0} (o : Option A) (x : A) (P : A → Type 0) → o ≡ Some x → P x → IsSomeAnd o P
some_and o x P e p = subst (λ o. IsSomeAnd o P) (sym e) p

pub in_table : (program : Program) (n : ℕ) (c : Contract) → declared_contract program n ≡ Some c
    → slice_get (map (contract_in_table program) program) n ≡ Some (contract_in_table program c)
in_table program n c e =
    slice_get-map (contract_in_table program) program n ∙ ap (option_map (contract_in_table program)) e

perm_on_known : (o : Option Contract) (c : Contract) (perm : PermNode) → o ≡ Some c
    → perm_on o perm ≡ perm_of (permission_on c (written_permission perm))
perm_on_known o c perm e = ap (λ o. perm_on o perm) e

-- a written permission of a known contract, in the table
pub perm_in_table : (program : Program) (o : Option Contract) (c : Contract) (perm : PermNode) → o ≡ Some c
    → IsPermOn (contract_in_table program c) (perm_on o perm)
perm_in_table program o c perm e =
    subst (IsPermOn (contract_in_table program c)) (sym (perm_on_known o c perm e))
    (perm_is_on program c (written_permission perm))

-- a known reference is a type of the table
pub reference_is_kind : (program : Program) (of : Named) (perm : PermNode) → Known program of perm
    → IsType (table_of program) (reference_of program of perm)
reference_is_kind program of perm k =
    subst (λ o. IsSomeAnd (slice_get (map (contract_in_table program) program) (contract_id o).0)
    (λ c. IsPermOn c (perm_on (contract_of_name program (part_of_named of).name) perm)))
    (sym k.named)
    (some_and _ (contract_in_table program k.contract) _ (in_table program k.number k.contract k.at)
    (perm_in_table program _ k.contract perm k.by_name))

pub leaves_in_table : (program : Program) (o : Option Contract) (c : Contract) (perm exit : PermNode) → o ≡ Some c
    → may_leave (written_permission perm) (written_permission exit) ≡ true → MayLeave (perm_on o perm) (perm_on o exit)
leaves_in_table program o c perm exit e h =
    subst (λ o. MayLeave (perm_on o perm) (perm_on o exit)) (sym e)
    (may_leave_in_table c (written_permission perm) (written_permission exit) h)

pub exit_leaves : (program : Program) (of : Named) (perm : PermNode) (exit : Option PermNode)
    (k : Known program of perm) → KnownExit k.contract perm exit
    → MayLeave (perm_on (contract_of_name program (part_of_named of).name) perm)
    (perm_on (contract_of_name program (part_of_named of).name) (written_at_end perm exit))
exit_leaves program of perm exit k x =
    leaves_in_table program _ k.contract perm (written_at_end perm exit) k.by_name x.leaves

-- the permission at the end of a known reference
pub exit_is_of : (program : Program) (of : Named) (perm : PermNode) (exit : Option PermNode) (k : Known program of perm)
    → KnownExit k.contract perm exit
    → IsExitOf (table_of program) (reference_of program of perm)
    (exit_of_type program (ref_type (ref_with of perm)) exit)
exit_is_of program of perm exit k x = (
  subst (λ o. IsSomeAnd (slice_get (map (contract_in_table program) program) (contract_id o).0)
      (λ c. IsPermOn c (perm_on (contract_of_name program (part_of_named of).name) (written_at_end perm exit))))
      (sym k.named)
      (some_and _ (contract_in_table program k.contract) _ (in_table program k.number k.contract k.at)
      (perm_in_table program _ k.contract (written_at_end perm exit) k.by_name)),
  exit_leaves program of perm exit k x,
)

-- a type without faults is a type of the table
pub type_is_kind : (v : Visible) (t : TypeExpr) → Each Clean (type_sites v t)
    → IsType (table_of v.program) (resolved_type v.program t)
type_is_kind v (int_type span) h = tt
type_is_kind v (bool_type span) h = tt
type_is_kind v (text_type span) h = tt
type_is_kind v (ref_type (ref_with of perm)) h = reference_is_kind v.program of perm (ref_known v of perm None h).0

-- the kind of a known reference
pub known_kind : (program : Program) (of : Named) (perm : PermNode) (k : Known program of perm)
    → kind_of_ref program (ref_with of perm) ≡ a_reference k.number
known_kind program of perm k = rw (k.by_name, k.is_of, k.named) refl
