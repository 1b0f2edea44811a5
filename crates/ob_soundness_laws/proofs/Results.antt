-- What a run gives back where it has ended is what the handle on it owns.
use Rattle.std.proofs.Common.{◌≡◌, ℕ, zero, suc, ◌+◌, ◌<◌, ◌≤◌, Bool, true, false, ◌&&◌, ◌||◌, List, Option, Some, None, refl, sym, ap, subst, ◌∙◌, arith, eq-eqb, ⊎_elim}
use Rattle.std.specs.Prelude.{nat_eq, is_some, is_none, if◌then◌else◌}
use Rattle.std.proofs.lemmas.Bool.Decides.{nat_tests}
use Rattle.std.proofs.lemmas.Option.{same_Some}
use Rattle.ob_base.specs.declared.permission.Mode.{Mode}
use Rattle.ob_base.specs.declared.permission.Mode.TheVariants.{Owned, Shared, Unowned}
use Rattle.ob_base.specs.declared.permission.Perm.{Perm}
use Rattle.ob_perm.specs.States.{States}
use Rattle.ob_perm.specs.Permissions.{owns}
use Rattle.ob_perm.specs.Masks.{held, permission_of, states_of}
use Rattle.ob_table.specs.declared.contract.ResolvedType.{ResolvedType}
use Rattle.ob_table.specs.declared.contract.ResolvedType.TheVariants.{Int, Bool as BoolKind, Text, Reference}
use Rattle.ob_heap_spec.specs.Values.{Value, reference}
use Rattle.ob_silica_steps.specs.Cells.{Cell, value_in}
use Rattle.ob_places_laws.specs.Serving.{Allows}
use Rattle.ob_table.specs.Tables.{ClassTable}
use Rattle.ob_heap_spec.specs.Objects.{Object}
use Rattle.ob_coherent_spec.specs.Counting.{nth_object, in_cell}
use Rattle.ob_coherent_spec.specs.Standing.{RefersToShared, Stands}
use Rattle.ob_rest_laws.specs.Laws.{is_shared_by_handle}
use Rattle.ob_coherent_spec.specs.Coherent.{IsGivenBack}
use Rattle.ob_soundness_laws.proofs.counting.Cells.{cell_counted, counted_cell, cell_most}
use Rattle.ob_rest_spec.specs.Modes.{is_owned, is_shared}
use Rattle.ob_invocation_spec.specs.Entries.{Entry, mode_of_result}
use Rattle.ob_invocation_spec.specs.Entering.{put_into}
use Rattle.ob_invocation_spec.specs.Refusals.{lacks_into}
use Rattle.ob_invocation_laws.specs.Laws.{put_owners}
use Rattle.ob_invocation_laws.proofs.Used.{IntoPut, into_put}

module _ (N : ℕ → Type 0) (e : Entry) (given : Option ResolvedType) (is_given : e.given ≡ mode_of_result given)
    (cell : Option Cell) (back : IsGivenBack N cell given) where
  -- what is given of a mode is held so
  held_so : (of : Option ResolvedType) (x : Option Cell) → IsGivenBack N x of → (m : Mode) → mode_of_result of ≡ Some m
      → (y : Cell) × (x ≡ Some y) × (a : States) × Allows (held m a) y.note.permission
  held_so (Some (Reference id p)) (Some y) b m is = (
    y,
    refl,
    states_of p.states,
    subst (λ (q : Mode). Allows (held q (states_of p.states)) y.note.permission) (same_Some p.mode m is) b.known.1,
  )
  held_so (Some (Reference id p)) None b m is = absurd b
  held_so (Some Int) x b m is = absurd cc
  held_so (Some BoolKind) x b m is = absurd cc
  held_so (Some Text) x b m is = absurd cc
  held_so None x b m is = absurd cc

  module _ (result : Option Value) (gives : result ≡ value_in cell) (n : ℕ) where
    pub into_less : put_owners (put_into e result) n ≤ in_cell owns n cell
    into_less = ⊎_elim (λ none. rw none (omega arith)) some (into_put e result)
      where
        some : IntoPut e result → put_owners (put_into e result) n ≤ in_cell owns n cell
        some i = rw i.is (by_mode i.mode refl (nat_eq i.object n) refl)
          where
            owner : i.mode ≡ Owned → i.object ≡ n → in_cell owns n cell ≡ 1
            owner m o =
                let h = held_so given cell back Owned (sym is_given ∙ i.given ∙ ap (λ (m : Mode). Some m) m) in
                let value : Some h.0.value ≡ Some (reference i.object) = sym (ap value_in h.1) ∙ sym gives ∙ i.gives in
                ap (in_cell owns n) h.1 ∙ cell_counted owns n h.0 (ap owns h.3.1) (same_Some h.0.value (reference i.object) value ∙ ap reference o)

            by_mode : (m : Mode) → i.mode ≡ m → (b : Bool) → nat_eq i.object n ≡ b
                → (if b && is_owned m then 1 else 0) + 0 ≤ in_cell owns n cell
            by_mode Owned m true o = let z = owner m (let y : i.object ≡ n = grind (arith, nat_tests, o) in y) in omega (arith, z)
            by_mode Owned m false o = omega arith
            by_mode Shared m true o = omega arith
            by_mode Shared m false o = omega arith
            by_mode Unowned m true o = omega arith
            by_mode Unowned m false o = omega arith

    pub into_more : N n → lacks_into e ≡ false → in_cell owns n cell ≤ put_owners (put_into e result) n
    into_more needs into = by_count (in_cell owns n cell) refl
      where
        mode_owned : (p : Perm) (m : Mode) → p.mode ≡ m → owns (permission_of p) ≡ true → p.mode ≡ Owned
        mode_owned p Owned is o = is
        mode_owned p Shared is o = absurd (let z : false ≡ true = ap (λ (m : Mode). owns (held m (states_of p.states))) (sym is) ∙ o in cc)
        mode_owned p Unowned is o = absurd (let z : false ≡ true = ap (λ (m : Mode). owns (held m (states_of p.states))) (sym is) ∙ o in cc)

        owned_given : (of : Option ResolvedType) (x : Option Cell) → IsGivenBack N x of → 0 < in_cell owns n x
            → (mode_of_result of ≡ Some Owned) × (value_in x ≡ Some (reference n))
        owned_given of None b some = absurd (omega arith)
        owned_given None (Some y) b some = absurd b
        owned_given (Some (Reference id p)) (Some y) b some =
            (ap (λ (m : Mode). Some m) (mode_owned p p.mode refl (b.owner n needs some)), ap (λ (v : Value). Some v) (counted_cell owns n y some).1)
        owned_given (Some Int) (Some y) b some = absurd (let z : false ≡ true = b.owner n needs some in cc)
        owned_given (Some BoolKind) (Some y) b some = absurd (let z : false ≡ true = b.owner n needs some in cc)
        owned_given (Some Text) (Some y) b some = absurd (let z : false ≡ true = b.owner n needs some in cc)

        named : (into : Option (List ℕ)) → e.into ≡ into → e.given ≡ Some Owned → result ≡ Some (reference n)
            → put_owners (put_into e result) n ≡ 1
        named None i g r = absurd (let z : true ≡ false = ap (λ (x : Option (List ℕ)). true && is_none x) (sym i)
            ∙ ap (λ (x : Option Mode). is_some x && is_none e.into) (sym g) ∙ into in cc)
        named (Some into) i g r = rw (i, g, r, eq-eqb n n refl) (omega arith)

        by_count : (m : ℕ) → in_cell owns n cell ≡ m → m ≤ put_owners (put_into e result) n
        by_count zero is = omega arith
        by_count (suc m) is =
            let o = owned_given given cell back (omega (arith, is)) in
            let z = named e.into refl (is_given ∙ o.0) (gives ∙ o.1) in
            let most = cell_most owns n cell in omega (arith, most, is, z)

    -- where a Shared handle is put on what is given, its object is marked
    pub into_marked : (table : ClassTable) (objects : List Object) → ((x : Cell) → cell ≡ Some x → Stands table objects x)
        → is_shared_by_handle (put_into e result) n ≡ true → (nth_object objects n).shared ≡ true
    into_marked table objects stands is = ⊎_elim (λ none. absurd (let z : false ≡ true = ap (λ ps. is_shared_by_handle ps n) (sym none) ∙ is in cc)) some (into_put e result)
      where
        some : IntoPut e result → (nth_object objects n).shared ≡ true
        some i = by_mode i.mode refl (nat_eq i.object n) refl (ap (λ ps. is_shared_by_handle ps n) (sym i.is) ∙ is)
          where
            shared_at : i.mode ≡ Shared → i.object ≡ n → (nth_object objects n).shared ≡ true
            shared_at m o =
                let h = held_so given cell back Shared (sym is_given ∙ i.given ∙ ap (λ (m : Mode). Some m) m) in
                let value : Some h.0.value ≡ Some (reference i.object) = sym (ap value_in h.1) ∙ sym gives ∙ i.gives in
                subst (RefersToShared objects) (same_Some h.0.value (reference i.object) value ∙ ap reference o) ((stands h.0 h.1).marked h.3)

            by_mode : (m : Mode) → i.mode ≡ m → (b : Bool) → nat_eq i.object n ≡ b
                → ((nat_eq i.object n && is_shared i.mode) || false) ≡ true → (nth_object objects n).shared ≡ true
            by_mode Shared m true o e = shared_at m (let y : i.object ≡ n = grind (arith, nat_tests, o) in y)
            by_mode Shared m false o e = absurd (let z = rw o at e in cc)
            by_mode Owned m b o e = absurd (none (nat_eq i.object n) (rw m at e))
              where
                none : (b : Bool) → ((b && false) || false) ≡ true → ⊥
                none true e = absurd cc
                none false e = absurd cc
            by_mode Unowned m b o e = absurd (none (nat_eq i.object n) (rw m at e))
              where
                none : (b : Bool) → ((b && false) || false) ≡ true → ⊥
                none true e = absurd cc
                none false e = absurd cc
