-- The kinds of a program without faults, as they are written and in the table.
use Rattle.std.proofs.Common.{◌≡◌, ℕ, false, Option, Some, None, refl, sym, ap, subst, ◌∙◌}
use Rattle.std.specs.Prelude.{◌||◌, nat_eq, option_map, option_and_then, IsTrue, IsSomeAnd}
use Rattle.std.specs.Option.{option_map_or}
use Rattle.ob_base.specs.declared.id.ContractId.{ContractId}
use Rattle.ob_tree.specs.Names.{Named, ref_with, TypeExpr, int_type, bool_type, text_type, ref_type}
use Rattle.ob_tree.specs.Members.{Contract}
use Rattle.ob_tree.specs.declared.name.PermNode.{PermNode}
use Rattle.ob_table.specs.declared.seen.Kind.{Kind}
use Rattle.ob_resolve_spec.specs.Declarations.{Program, declared_contract}
use Rattle.ob_resolve_spec.specs.declared.kind.InferredKind.{InferredKind}
use Rattle.ob_resolve_spec.specs.declared.kind.InferredKind.TheVariants.{Int as an_int, Bool as a_bool, Text as a_text, Reference as a_reference, Nothing as nothing, Unknown as unknown}
use Rattle.ob_resolve_spec.specs.Kinds.{kind_of_type, kind_of_result, interface_of, implements, differs}
use Rattle.ob_resolve_spec.specs.Visible.{Visible}
use Rattle.ob_resolve_spec.specs.TypeSites.{type_sites, result_sites}
use Rattle.ob_resolve_spec.specs.Bodies.{resolved_local}
use Rattle.ob_resolve_spec.specs.TableOf.{resolved_type, contract_in_table, table_of}
use Rattle.ob_table_spec.specs.WellFormed.{kind_of_resolved, is_implemented, serves_as}
use Rattle.ob_resolve_laws.proofs.Each.{Each}
use Rattle.ob_resolve_laws.proofs.Clean.{Clean}
use Rattle.ob_resolve_laws.proofs.LookUps.{slice_get-map}
use Rattle.ob_resolve_laws.proofs.TypeFacts.{true_from_not, Known, ref_known, known_kind}

-- a kind of values, which for a reference is that of a contract of the program
abbrev pub IsValueKind : Program → InferredKind → Type 0
IsValueKind program an_int = Unit {0}
IsValueKind program a_bool = Unit {0}
IsValueKind program a_text = Unit {0}
IsValueKind program (a_reference n) = (c : Contract) × (declared_contract program n ≡ Some c)
IsValueKind program nothing = ⊥
IsValueKind program unknown = ⊥

-- the same, or no value
abbrev pub IsKnownKind : Program → InferredKind → Type 0
IsKnownKind program nothing = Unit {0}
IsKnownKind program kind = IsValueKind program kind

pub known_value : (program : Program) (k : InferredKind) → IsValueKind program k → IsKnownKind program k
known_value program an_int h = tt
known_value program a_bool h = tt
known_value program a_text h = tt
known_value program (a_reference n) h = h
known_value program nothing h = absurd h
known_value program unknown h = absurd h

-- the kind of a value in the table; of no value there is none
abbrev pub as_local : InferredKind → Option Kind
as_local nothing = None
as_local unknown = None
as_local k = Some (resolved_local k)

pub value_as_local : (program : Program) (k : InferredKind) → IsValueKind program k → as_local k ≡ Some (resolved_local k)
value_as_local program an_int h = refl
value_as_local program a_bool h = refl
value_as_local program a_text h = refl
value_as_local program (a_reference n) h = refl
value_as_local program nothing h = absurd h
value_as_local program unknown h = absurd h

-- a type without faults
pub record KnownType (program : Program) (t : TypeExpr) : Type 0 where
  pub value : IsValueKind program (kind_of_type program t)
  pub in_table_as : kind_of_resolved (resolved_type program t) ≡ resolved_local (kind_of_type program t)

pub reference_known : (program : Program) (of : Named) (perm : PermNode) → Known program of perm
    → KnownType program (ref_type (ref_with of perm))
reference_known program of perm k = record {
  value = subst (IsValueKind program) (sym (known_kind program of perm k)) (k.contract, k.at);
  in_table_as = rw (known_kind program of perm k, k.named) refl;
}

pub type_known : (v : Visible) (t : TypeExpr) → Each Clean (type_sites v t) → KnownType v.program t
type_known v (int_type span) h = record { value = tt; in_table_as = refl }
type_known v (bool_type span) h = record { value = tt; in_table_as = refl }
type_known v (text_type span) h = record { value = tt; in_table_as = refl }
type_known v (ref_type (ref_with of perm)) h = reference_known v.program of perm (ref_known v of perm None h).0

-- a result without faults, or none
pub record KnownResult (program : Program) (result : Option TypeExpr) : Type 0 where
  pub kind : IsKnownKind program (kind_of_result program result)
  pub in_table_as : option_map kind_of_resolved (option_map (resolved_type program) result)
      ≡ as_local (kind_of_result program result)

pub result_known : (v : Visible) (result : Option TypeExpr) → Each Clean (result_sites v result)
    → KnownResult v.program result
result_known v None h = record { kind = tt; in_table_as = refl }
result_known v (Some t) h =
    let k = type_known v t h in
    record {
      kind = known_value v.program (kind_of_type v.program t) k.value;
      in_table_as = ap Some k.in_table_as
          ∙ sym (value_as_local v.program (kind_of_type v.program t) k.value);
    }

-- what implements what is the same in the table
implements_in_table : (program : Program) (n m : ℕ)
    → implements program n m ≡ is_implemented (table_of program) (record { 0 = n }) (record { 0 = m })
implements_in_table program n m =
    through (declared_contract program n)
    ∙ sym (ap (λ o. option_map_or (λ found. option_map_or (λ (k : ContractId). nat_eq m k.0) found.implements false) o
    false) (slice_get-map (contract_in_table program) program n))
  where
    inner : (o : Option ℕ) → option_map_or (nat_eq m) o false
        ≡ option_map_or (λ (k : ContractId). nat_eq m k.0) (option_map (λ n. record { 0 = n }) o) false
    inner None = refl
    inner (Some i) = refl

    through : (o : Option Contract) → option_map_or (nat_eq m) (option_and_then (interface_of program) o) false
        ≡ option_map_or (λ found. option_map_or (λ (k : ContractId). nat_eq m k.0) found.implements false)
        (option_map (contract_in_table program) o) false
    through None = refl
    through (Some c) = inner (interface_of program c)

-- what fits as it is written serves in the table
pub serves_there : (program : Program) (wanted has : InferredKind) → IsValueKind program wanted → IsKnownKind program has
    → differs program wanted has ≡ false
    → IsSomeAnd (as_local has) (λ h. IsTrue (serves_as (table_of program) (resolved_local wanted) h))
serves_there program an_int an_int w h d = refl
serves_there program an_int a_bool w h d = absurd cc
serves_there program an_int a_text w h d = absurd cc
serves_there program an_int (a_reference n) w h d = absurd cc
serves_there program an_int nothing w h d = absurd cc
serves_there program an_int unknown w h d = absurd h
serves_there program a_bool an_int w h d = absurd cc
serves_there program a_bool a_bool w h d = refl
serves_there program a_bool a_text w h d = absurd cc
serves_there program a_bool (a_reference n) w h d = absurd cc
serves_there program a_bool nothing w h d = absurd cc
serves_there program a_bool unknown w h d = absurd h
serves_there program a_text an_int w h d = absurd cc
serves_there program a_text a_bool w h d = absurd cc
serves_there program a_text a_text w h d = refl
serves_there program a_text (a_reference n) w h d = absurd cc
serves_there program a_text nothing w h d = absurd cc
serves_there program a_text unknown w h d = absurd h
serves_there program (a_reference m) an_int w h d = absurd cc
serves_there program (a_reference m) a_bool w h d = absurd cc
serves_there program (a_reference m) a_text w h d = absurd cc
serves_there program (a_reference m) (a_reference n) w h d =
    ap (λ b. nat_eq m n || b) (sym (implements_in_table program n m))
    ∙ true_from_not (nat_eq m n || implements program n m) d
serves_there program (a_reference m) nothing w h d = absurd cc
serves_there program (a_reference m) unknown w h d = absurd h
serves_there program nothing has w h d = absurd w
serves_there program unknown has w h d = absurd w
