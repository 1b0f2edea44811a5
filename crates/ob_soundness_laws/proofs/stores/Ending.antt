-- Where fields are held as they are declared, a store that is left counts its owning fields as the run does.
use Rattle.std.proofs.Common.{◌≡◌, ℕ, zero, suc, ◌<◌, ◌≤◌, true, false, List, [], length, Option, Some, None, option_map, slice_get, refl, sym, ap, ◌∙◌, subst, arith, true≢false, ⊎_elim}
use Rattle.std.specs.Option.{option_map_or, option_and_then}
use Rattle.std.proofs.lemmas.Bool.{cases_Bool}
use Rattle.std.proofs.lemmas.Option.{none-some}
use Rattle.ob_perm.specs.Permissions.{Permission, owned, shared, unowned, owns}
use Rattle.ob_table.specs.Tables.{ClassTable}
use Rattle.ob_table.specs.declared.contract.Field.{Field}
use Rattle.ob_table.specs.declared.contract.ResolvedType.{ResolvedType}
use Rattle.ob_table_spec.specs.Conditions.{IsClassTable}
use Rattle.ob_heap_spec.specs.Values.{Value}
use Rattle.ob_heap_spec.specs.Objects.{Object, is_available, has_field}
use Rattle.ob_silica_steps.specs.Cells.{Cell}
use Rattle.ob_silica_steps.specs.Configurations.{Notes}
use Rattle.ob_silica_steps.specs.Here.{field_of}
use Rattle.ob_silica_steps.specs.Starting.{declared_note, first_notes}
use Rattle.ob_places_laws.specs.Serving.{Allows}
use Rattle.ob_coherent_spec.specs.Counting.{nth_object, field_cell, fields_counted, in_cell, in_fields, in_objects}
use Rattle.ob_coherent_spec.specs.Saying.{SaysOf}
use Rattle.ob_soundness_laws.proofs.counting.Sums.{sum_same, sum_at_most}
use Rattle.ob_soundness_laws.proofs.counting.Cells.{cell_less}
use Rattle.ob_rest_spec.specs.References.{field_references}
use Rattle.ob_soundness_laws.proofs.stores.Fields.{owning, HasOwnFields, first_declared, objects_owning}

-- what allows an owner as it is known, is one
allows_owner : (p q : Permission) → Allows p q → owns p ≡ true → owns q ≡ true
allows_owner (owned a) q (b, is, within) e = ap owns is
allows_owner shared q allowed e = absurd (true≢false (sym e))
allows_owner unowned q allowed e = absurd (true≢false (sym e))

-- a cell with the note that its field declares
abbrev pub as_declared : ResolvedType → Cell → Cell
as_declared of x = record { value = x.value; note = declared_note of }

module _ (N : ℕ → Type 0) (of : ResolvedType) (x : Cell) (says : SaysOf N (Some (declared_note of)) (Some x))
    (n : ℕ) where
  pub declared_less : in_cell owns n (Some (as_declared of x)) ≤ in_cell owns n (Some x)
  declared_less = cell_less owns n (as_declared of x) x refl
      (allows_owner (declared_note of).permission x.note.permission says.known.1)

  pub declared_same : N n → in_cell owns n (Some (as_declared of x)) ≡ in_cell owns n (Some x)
  declared_same needs = go (in_cell owns n (Some x)) refl
    where
      more : 0 < in_cell owns n (Some x) → in_cell owns n (Some x) ≤ in_cell owns n (Some (as_declared of x))
      more some = cell_less owns n x (as_declared of x) refl (λ e. says.owner n needs some)

      go : (m : ℕ) → in_cell owns n (Some x) ≡ m → in_cell owns n (Some (as_declared of x)) ≡ in_cell owns n (Some x)
      go zero e = omega (arith, declared_less)
      go (suc m) e = omega (arith, declared_less, more (omega arith))

-- each available field of each object is held as it is declared
abbrev pub HeldAsDeclared : ClassTable → (ℕ → Type 0) → Notes → List Object → Type 0
HeldAsDeclared table N notes objects = (i k : ℕ) (f : Field) → i < length objects
    → field_of table (nth_object objects i) k ≡ Some f
    → is_available (nth_object objects i).state f ≡ true
    → SaysOf N (Some (declared_note f.of)) (field_cell notes objects i k)

module _ (table : ClassTable) (conditions : IsClassTable table) (objects : List Object) (notes : Notes) (N : ℕ → Type 0)
    (held : HeldAsDeclared table N notes objects) (has : (i : ℕ) → i < length objects
    → HasOwnFields table (nth_object objects i)) (n : ℕ) where
  -- the notes of a run that would begin from this store
  abbrev anew : Notes
  anew = first_notes table objects []

  -- the field of a value, which is held as it is declared
  field_with_value : (i k : ℕ) (v : Value) → i < length objects → (nth_object objects i).fields k ≡ Some v
      → (f : Field) × (anew.fields i k ≡ declared_note f.of)
      × SaysOf N (Some (declared_note f.of)) (Some (record { value = v; note = notes.fields i k }))
  field_with_value i k v below e =
      let own = has i below in
      let f = some_field (slice_get own.own.fields k)
      (⊎_elim (λ y. y) (λ z. absurd (none-some v (sym (own.fields k z) ∙ e)))
      (cases_Bool (has_field own.own (nth_object objects i).state k))) in
      let at : field_of table (nth_object objects i) k ≡ Some f.0 =
      ap (option_and_then (λ c. slice_get c.fields k)) own.contract ∙ f.1 in (
        f.0,
        first_declared table objects [] i k f.0 below at,
        subst (λ y. SaysOf N (Some (declared_note f.0.of)) (option_map {U =
            Cell} (λ v. record { value = v; note = notes.fields i k }) y)) e
            (held i k f.0 below at f.2),
      )
    where
      some_field : (x : Option Field) → option_map_or (is_available (nth_object objects i).state) x false ≡ true
          → (f : Field) × (x ≡ Some f) × (is_available (nth_object objects i).state f ≡ true)
      some_field None e = absurd (true≢false (sym e))
      some_field (Some f) e = (f, refl, e)

  cell_less_anew : (i k : ℕ) → i < length objects → in_cell owns n (field_cell anew objects i k)
      ≤ in_cell owns n (field_cell notes objects i k)
  cell_less_anew i k below = go ((nth_object objects i).fields k) refl
    where
      go : (v : Option Value) → (nth_object objects i).fields k ≡ v
          → in_cell owns n (field_cell anew objects i k) ≤ in_cell owns n (field_cell notes objects i k)
      go None e = rw e (omega arith)
      go (Some v) e = let f = field_with_value i k v below e in
          rw (e, f.1) (declared_less N f.0.of (record { value = v; note = notes.fields i k }) f.2 n)

  cell_same_anew : N n → (i k : ℕ) → i < length objects → in_cell owns n (field_cell anew objects i k)
      ≡ in_cell owns n (field_cell notes objects i k)
  cell_same_anew needs i k below = go ((nth_object objects i).fields k) refl
    where
      go : (v : Option Value) → (nth_object objects i).fields k ≡ v
          → in_cell owns n (field_cell anew objects i k) ≡ in_cell owns n (field_cell notes objects i k)
      go None e = rw e refl
      go (Some v) e = let f = field_with_value i k v below e in
          rw (e, f.1) (declared_same N f.0.of (record { value = v; note = notes.fields i k }) f.2 n needs)

  -- the store has no more owning fields than the run
  pub ended_owning_less : owning n (field_references table objects) ≤ in_objects owns n notes objects
  ended_owning_less = omega (
    arith,
    objects_owning table conditions objects anew (first_declared table objects []) n has,
    sum_at_most (length objects) (λ i. in_fields owns n anew objects i) (λ i. in_fields owns n notes objects i)
        (λ i below. sum_at_most fields_counted (λ k. in_cell owns n (field_cell anew objects i k))
        (λ k. in_cell owns n (field_cell notes objects i k))
        (λ k few. cell_less_anew i k below)),
  )

  -- and as many of an object that must have an owner
  pub ended_owning_same : N n → owning n (field_references table objects) ≡ in_objects owns n notes objects
  ended_owning_same needs = omega (
    arith,
    objects_owning table conditions objects anew (first_declared table objects []) n has,
    sum_same (length objects) (λ i. in_fields owns n anew objects i) (λ i. in_fields owns n notes objects i)
        (λ i below. sum_same fields_counted (λ k. in_cell owns n (field_cell anew objects i k))
        (λ k. in_cell owns n (field_cell notes objects i k))
        (λ k few. cell_same_anew needs i k below)),
  )
