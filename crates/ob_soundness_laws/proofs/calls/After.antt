-- What the context after a call says.
use Rattle.std.proofs.Common.{◌≡◌, ◌≢◌, ℕ, suc, true, false, ◌&&◌, ◌||◌, List, [], ◌∷◌, Option, Some, None, refl, sym, ap, subst, ◌∙◌, ⊎_elim, true≢false}
use Rattle.std.proofs.lemmas.Bool.{or_parts, not-true}
use Rattle.ob_base.specs.declared.id.ContractId.{ContractId}
use Rattle.ob_perm.specs.Permissions.{Permission, owned, shared, unowned, owns, is_unowned, kept}
use Rattle.ob_table.specs.Tables.{ClassTable}
use Rattle.ob_table.specs.declared.contract.ResolvedType.{ResolvedType}
use Rattle.ob_table.specs.declared.seen.Kind.TheVariants.{Reference}
use Rattle.ob_table_spec.specs.WellFormed.{kind_of_resolved}
use Rattle.ob_heap_spec.specs.Values.{Value, int_value, bool_value, text_value, reference}
use Rattle.ob_heap_spec.specs.Objects.{Object}
use Rattle.ob_silica_places.specs.Known.{permission_of_type}
use Rattle.ob_silica_places.specs.Places.{Location, slot}
use Rattle.ob_silica_places.specs.Parameters.{Parameter}
use Rattle.ob_silica_steps.specs.Cells.{Cell}
use Rattle.ob_silica_steps.specs.Configurations.{How, Waiting}
use Rattle.ob_silica_steps.specs.Binding.{Bound, bound_cell}
use Rattle.ob_flow_spec.specs.Contexts.{Context, permission_at, is_set, known_as, is_field, permission_on}
use Rattle.ob_flow_spec.specs.Uses.{Read, kind_known, given_to}
use Rattle.ob_flow_spec.specs.Binding.{given_all, with_result}
use Rattle.ob_coherent_spec.specs.Standing.{IsOfKind, AllStand}
use Rattle.ob_coherent_spec.specs.Waiting.{is_lent, is_result, is_on_this, is_settled}
use Rattle.ob_soundness_laws.specs.places.Placed.{cell_at}
use Rattle.ob_soundness_laws.proofs.places.Keeping.{put_other}
use Rattle.ob_soundness_laws.proofs.places.Reading.{place_is}
use Rattle.ob_soundness_laws.specs.calls.Binds.{AreLent}
use Rattle.ob_soundness_laws.specs.calls.Lending.{AreBack}
use Rattle.ob_soundness_laws.proofs.calls.BindingAll.{kind_now, set_now}
use Rattle.ob_soundness_laws.proofs.calls.Giving.{say_type}

-- Kinds, and what is known to be set, stay while places are given.

pub kinds_given : (g : Context) (rs : List Read) (ps : List Parameter) (q : Location)
    → kind_known (given_all g rs ps q) ≡ kind_known (g q)
kinds_given g [] ps q = refl
kinds_given g (r ∷ rs) [] q = refl
kinds_given g (r ∷ rs) (p ∷ ps) q = kinds_given (given_to g r.location p) rs ps q
    ∙ kind_now g r.location (kept (permission_at g r.location) (permission_of_type p.of)) q

pub sets_given : (g : Context) (rs : List Read) (ps : List Parameter) (q : Location)
    → is_set (given_all g rs ps q) ≡ is_set (g q)
sets_given g [] ps q = refl
sets_given g (r ∷ rs) [] q = refl
sets_given g (r ∷ rs) (p ∷ ps) q = sets_given (given_to g r.location p) rs ps q
    ∙ set_now g r.location (kept (permission_at g r.location) (permission_of_type p.of)) q

-- The result is in its slot alone.

pub result_other : (g : Context) (result : Option ℕ) (of : Option ResolvedType) (q : Location)
    → is_result result q ≡ false
    → with_result g result of q ≡ g q
result_other g None of q e = refl
result_other g (Some j) None q e = refl
result_other g (Some j) (Some of) q e = put_other g (slot j) (Some (known_as of)) q e

-- a place that stays settled is none that is lent, and doesn't get the result
pub settled_parts : (how : How) (h : Waiting) (q : Location) → is_settled how h q ≡ true
    → (is_lent h.loans q ≡ false) × (is_result h.result q ≡ false) × ((is_on_this how && is_field q) ≡ false)
settled_parts how h q e =
    let all = not-true (is_lent h.loans q || (is_result h.result q || (is_on_this how && is_field q))) e in
    let one = or_parts (is_lent h.loans q) (is_result h.result q || (is_on_this how && is_field q)) all in
    let two = or_parts (is_result h.result q) (is_on_this how && is_field q) one.1 in
    (one.0, two.0, two.1)

-- a value that is an owner's is a reference
owner_refers : (table : ClassTable) (objects : List Object) (of : ResolvedType) (v : Value)
    → owns (permission_of_type of) ≡ true
    → IsOfKind table objects (kind_of_resolved of) v → (n : ℕ) × (v ≡ reference n)
owner_refers table objects of v e h =
    let r = say_type of (has_say (permission_of_type of) e) in
    refers r.0 v (subst (λ (t : ResolvedType). IsOfKind table objects (kind_of_resolved t) v) r.2 h)
  where
    has_say : (p : Permission) → owns p ≡ true → is_unowned p ≡ false
    has_say (owned a) e = refl
    has_say shared e = refl
    has_say unowned e = absurd (true≢false (sym e))

    refers : (id : ContractId) (v : Value) → IsOfKind table objects (Reference id) v → (n : ℕ) × (v ≡ reference n)
    refers id (reference n) h = (n, refl)
    refers id (int_value z) h = absurd h
    refers id (bool_value z) h = absurd h
    refers id (text_value z) h = absurd h

-- What places get back stands also beside the result, whose slot holds no reference.
pub backs_beside : (table : ClassTable) (objects : List Object) (known g : Context) (b : Bound) (result : Option ℕ)
    (of : Option ResolvedType) (rs : List Read) (ps : List Parameter) (n : ℕ) → AllStand table objects b.slots
    → ((j : ℕ) (x : Cell) → result ≡ Some j → b.from.slots j ≡ Some x → (m : ℕ) → x.value ≢ reference m)
    → AreLent known b rs ps n → AreBack table known g rs ps → AreBack table known (with_result g result of) rs ps
backs_beside table objects known g b result of [] ps n stand plain lent back = tt
backs_beside table objects known g b result of (r ∷ rs) [] n stand plain lent back = tt
backs_beside table objects known g b result of (r ∷ rs) (p ∷ ps) n stand plain lent back = (
  λ wants.
      let l = lent.0 wants in
      let refers = owner_refers table objects p.of l.cell.value wants
      (stand n (bound_cell p.of l.cell.value) l.given).kind in
      let other = apart result refl r.location l.cell l.is refers.0 refers.1 in
      let same = result_other g result of r.location other in
      record {
        permission = ap permission_on same ∙ (back.0 wants).permission;
        kind = ap kind_known same ∙ (back.0 wants).kind;
      },
  backs_beside table objects known g b result of rs ps (suc n) stand plain lent.1 back.1,
)
  where
    apart : (z : Option ℕ) → result ≡ z → (q : Location) (x : Cell) → cell_at b.from q ≡ Some x → (m : ℕ)
        → x.value ≡ reference m
        → is_result result q ≡ false
    apart None e q x is m refers = ap (λ y. is_result y q) e
    apart (Some j) e q x is m refers = ap (λ y. is_result y q) e ∙ ⊎_elim
        (λ same. absurd (plain j x e (sym (ap (cell_at b.from) same) ∙ is) m refers))
        (λ other. other)
        (place_is q (slot j))
