-- The owning fields of a store are counted as a run counts them whose notes are as the fields are declared.
use Rattle.std.proofs.Common.{◌≡◌, ℕ, ◌+◌, ◌<◌, ◌≤◌, Bool, true, false, nat_eq, ◌&&◌, List, [], ◌∷◌, ◌++◌, length, map, filter, filter_map, flat_map, Option, Some, None, option_map, slice_get, is_some, refl, sym, ap, ◌∙◌, arith, true≢false, ⊎_elim}
use Rattle.std.specs.Prelude.{IsSomeAnd}
use Rattle.std.specs.Option.{option_map_or, option_and_then}
use Rattle.std.specs.List.{enumerate_from, cons_option}
use Rattle.std.proofs.lemmas.Bool.{cases_Bool}
use Rattle.std.proofs.lemmas.Option.{slice_get_past, slice_get_cases}
use Rattle.ob_base.specs.Limits.{most_fields}
use Rattle.ob_base.specs.declared.permission.Mode.{Mode}
use Rattle.ob_base.specs.declared.permission.Mode.TheVariants.{Owned, Shared, Unowned}
use Rattle.ob_perm.specs.States.{States}
use Rattle.ob_perm.specs.Permissions.{owns}
use Rattle.ob_perm.specs.Masks.{held, states_of}
use Rattle.ob_table.specs.Tables.{ClassTable, contract_at}
use Rattle.ob_table.specs.declared.contract.Contract.{Contract}
use Rattle.ob_table.specs.declared.contract.Field.{Field}
use Rattle.ob_table.specs.declared.contract.ResolvedType.{ResolvedType}
use Rattle.ob_table.specs.declared.contract.ResolvedType.TheVariants.{Int, Bool as BoolKind, Text, Reference}
use Rattle.ob_table_spec.specs.Conditions.{IsClassTable}
use Rattle.ob_heap_spec.specs.Values.{Value, int_value, bool_value, text_value, reference}
use Rattle.ob_heap_spec.specs.Objects.{Object, is_available, has_field}
use Rattle.ob_heap_spec.specs.Contents.{IsObject, IsObjectOf}
use Rattle.ob_silica_steps.specs.Cells.{Cell}
use Rattle.ob_silica_steps.specs.Configurations.{Notes, HandleNote}
use Rattle.ob_silica_steps.specs.Here.{field_of}
use Rattle.ob_silica_steps.specs.Starting.{declared_note, no_note, first_notes}
use Rattle.ob_coherent_spec.specs.Counting.{nth_object, field_cell, fields_counted, one_if, in_cell, in_fields, in_objects}
use Rattle.ob_coherent_spec.specs.Standing.{IsObjectInRun}
use Rattle.ob_soundness_laws.proofs.counting.Sums.{sum_same}
use Rattle.ob_soundness_laws.proofs.counting.Cells.{cell_plain}
use Rattle.ob_soundness_laws.proofs.counting.Objects.{object_there, no_field_cell}
use Rattle.ob_soundness_laws.proofs.counting.Low.{contract_fields}
use Rattle.ob_rest_spec.specs.Modes.{is_owned}
use Rattle.ob_rest_spec.specs.References.{FieldReference, reference_of, available_value, references_of, field_references}
use Rattle.ob_rest_spec.specs.Incoming.{incoming_by_field}
use Rattle.ob_soundness_laws.proofs.stores.Lists.{sum_further, sum_each, sum_each_below}

-- how many of these references own the object of a number
abbrev pub owning : ℕ → List FieldReference → ℕ
owning n rs = length (filter (λ r. is_owned r.mode) (map incoming_by_field (filter (λ r. nat_eq r.object n) rs)))

-- whether one of them does
abbrev pub owning_one : ℕ → Option FieldReference → ℕ
owning_one n None = 0
owning_one n (Some r) = one_if (is_owned r.perm.mode && nat_eq r.object n)

module _ (n : ℕ) where
  pub owning_more : (r : FieldReference) (rs : List FieldReference) → owning n (r ∷ rs)
      ≡ owning_one n (Some r) + owning n rs
  owning_more r rs = go (nat_eq r.object n) (is_owned r.perm.mode) refl refl
    where
      go : (a b : Bool) → nat_eq r.object n ≡ a → is_owned r.perm.mode ≡ b → owning n (r ∷ rs)
          ≡ owning_one n (Some r) + owning n rs
      go true true e f = rw (e, f) (omega arith)
      go true false e f = rw (e, f) (omega arith)
      go false true e f = rw (e, f) (omega arith)
      go false false e f = rw (e, f) (omega arith)

  owning_option : (o : Option FieldReference) (rs : List FieldReference) → owning n (cons_option o rs)
      ≡ owning_one n o + owning n rs
  owning_option None rs = omega arith
  owning_option (Some r) rs = owning_more r rs

  pub owning_append : (rs ss : List FieldReference) → owning n (rs ++ ss) ≡ owning n rs + owning n ss
  owning_append [] ss = omega arith
  owning_append (r ∷ rs) ss = omega (arith, owning_more r (rs ++ ss), owning_more r rs, owning_append rs ss)

  owned_mode : (m : Mode) (a : States) → owns (held m a) ≡ is_owned m
  owned_mode Owned a = refl
  owned_mode Shared a = refl
  owned_mode Unowned a = refl

  -- a value of a declared type counts as its reference does
  value_counts : (holder k : ℕ) (of : ResolvedType) (v : Option Value)
      → owning_one n (reference_of holder k of v) ≡ in_cell owns n
      (option_map {U = Cell} (λ v. record { value = v; note = declared_note of }) v)
  value_counts holder k (Reference c p) (Some (reference m)) =
      ap (λ b. one_if (b && nat_eq m n)) (sym (owned_mode p.mode (states_of p.states)))
  value_counts holder k (Reference c p) (Some (int_value z)) =
      sym (cell_plain owns n (record { value = int_value z; note = declared_note (Reference c p) }) refl)
  value_counts holder k (Reference c p) (Some (bool_value b)) =
      sym (cell_plain owns n (record { value = bool_value b; note = declared_note (Reference c p) }) refl)
  value_counts holder k (Reference c p) (Some (text_value bytes)) =
      sym (cell_plain owns n (record { value = text_value bytes; note = declared_note (Reference c p) }) refl)
  value_counts holder k (Reference c p) None = refl
  value_counts holder k Int None = refl
  value_counts holder k Int (Some v) = refl
  value_counts holder k BoolKind None = refl
  value_counts holder k BoolKind (Some v) = refl
  value_counts holder k Text None = refl
  value_counts holder k Text (Some v) = refl

  -- what a field counts, by its value
  abbrev field_counts : (ℕ → Option Value) → ℕ → Field → ℕ
  field_counts values k f =
      in_cell owns n (option_map {U = Cell} (λ v. record { value = v; note = declared_note f.of }) (values k))

  fields_counts : (holder : ℕ) (values : ℕ → Option Value) (i : ℕ) (fs : List Field)
      → owning n (filter_map (λ (f : ℕ × Field). reference_of holder f.0 f.1.of (values f.0)) (enumerate_from i fs))
      ≡ sum_each (field_counts values) i fs
  fields_counts holder values i [] = refl
  fields_counts holder values i (f ∷ fs) = omega (
    arith,
    owning_option (reference_of holder i f.of (values i))
        (filter_map (λ (f : ℕ × Field). reference_of holder f.0 f.1.of (values f.0)) (enumerate_from (i + 1) fs)),
    value_counts holder i f.of (values i),
    fields_counts holder values (i + 1) fs,
  )

  -- references of all objects
  objects_counts : (refs : ℕ → Object → List FieldReference) (i : ℕ) (objects : List Object)
      → owning n (flat_map (λ (o : ℕ × Object). refs o.0 o.1) (enumerate_from i objects))
      ≡ sum_each (λ j o. owning n (refs j o)) i objects
  objects_counts refs i [] = refl
  objects_counts refs i (o ∷ objects) = omega (
    arith,
    owning_append (refs i o) (flat_map (λ (o : ℕ × Object). refs o.0 o.1) (enumerate_from (i + 1) objects)),
    objects_counts refs (i + 1) objects,
  )

fields_few : (m : ℕ) → m ≤ most_fields → m ≤ fields_counted
unfolding fields_counted
fields_few m few = few

-- An object of a contract of the table that has values in available fields alone.
pub record HasOwnFields (table : ClassTable) (o : Object) : Type 0 where
  pub own : Contract
  pub contract : contract_at table o.contract ≡ Some own
  pub fields : (k : ℕ) → has_field own o.state k ≡ false → o.fields k ≡ None

pub in_run_fields : (table : ClassTable) (notes : Notes) (n : ℕ) (o : Object) → IsObjectInRun table notes n o
    → HasOwnFields table o
in_run_fields table notes n o run = record { own = run.own; contract = run.contract; fields = run.fields }

pub stored_fields : (table : ClassTable) (objects : List Object) (o : Object) → IsObject table objects o
    → HasOwnFields table o
stored_fields table objects o is = go (contract_at table o.contract) refl is
  where
    none_at : (x : Option Value) (b : Bool) → is_some x ≡ b → b ≡ false → x ≡ None
    none_at None b e f = refl
    none_at (Some v) b e f = absurd (true≢false (e ∙ f))

    go : (c : Option Contract) → contract_at table o.contract ≡ c → IsSomeAnd c (λ c. IsObjectOf objects c o)
        → HasOwnFields table o
    go None e s = absurd s
    go (Some c) e s = record {
      own = c;
      contract = e;
      fields =
          λ k none. none_at (o.fields k) (has_field c o.state k) (s.fields k) none;
    }

-- notes are as fields are declared, where they have values
abbrev pub AreDeclared : ClassTable → Notes → List Object → Type 0
AreDeclared table notes objects = (n k : ℕ) (f : Field) → n < length objects → field_of table (nth_object objects n) k
    ≡ Some f
    → notes.fields n k ≡ declared_note f.of

-- the notes with which a run begins
pub first_declared : (table : ClassTable) (objects : List Object) (handles : List HandleNote)
    → AreDeclared table (first_notes table objects handles) objects
first_declared table objects handles n k f below e =
    ap (λ x. option_map_or (λ o. option_map_or (λ f. declared_note f.of) (field_of table o k) no_note) x no_note)
    (object_there objects n below)
    ∙ ap (λ x. option_map_or (λ f. declared_note f.of) x no_note) e

module _ (table : ClassTable) (conditions : IsClassTable table) (objects : List Object) (notes : Notes)
    (declared : AreDeclared table notes objects)
    (n : ℕ) where
  -- the references of an object
  pub object_owning : (i : ℕ) → i < length objects → HasOwnFields table (nth_object objects i)
      → owning n (references_of table i (nth_object objects i)) ≡ in_fields owns n notes objects i
  object_owning i there has =
      ap
      (λ x. owning n (option_map_or (λ c. filter_map (λ f. reference_of i f.0 f.1.of
      (available_value c (nth_object objects i) f.0)) (enumerate_from 0 c.fields)) x []))
      has.contract
      ∙ fields_counts n i (available_value has.own (nth_object objects i)) 0 has.own.fields
      ∙ sum_each_below (field_counts n (available_value has.own (nth_object objects i))) 0 has.own.fields
      ∙ sum_same (length has.own.fields) _ (λ k. in_cell owns n (field_cell notes objects i k)) inside
      ∙ sym (sum_further fields_counted (length has.own.fields) (λ k. in_cell owns n (field_cell notes objects i k))
      few outside)
    where
      few : length has.own.fields ≤ fields_counted
      few = fields_few (length has.own.fields) (contract_fields table conditions
          (nth_object objects i).contract has.own has.contract)

      outside : (k : ℕ) → length has.own.fields ≤ k → k < fields_counted
          → in_cell owns n (field_cell notes objects i k) ≡ 0
      outside k past below = ap (in_cell owns n) (no_field_cell notes objects i k
          (has.fields k (ap (λ x. option_map_or (is_available (nth_object objects i).state) x false)
          (slice_get_past has.own.fields k past))))

      value_is : (k : ℕ) → available_value has.own (nth_object objects i) k ≡ (nth_object objects i).fields k
      value_is k = ⊎_elim (λ e. rw e refl) (λ e. rw e (sym (has.fields k e)))
          (cases_Bool (has_field has.own (nth_object objects i).state k))

      at_field : (k : ℕ) (f : Field) → slice_get has.own.fields k ≡ Some f
          → field_counts n (available_value has.own (nth_object objects i)) k f
          ≡ in_cell owns n (field_cell notes objects i k)
      at_field k f e =
          ap (λ v. in_cell owns n (option_map {U = Cell} (λ v. record { value = v; note = declared_note f.of }) v))
          (value_is k)
          ∙ ap (λ y. in_cell owns n (option_map {U = Cell} (λ v. record { value = v; note = y })
          ((nth_object objects i).fields k)))
          (sym (declared i k f there (ap (option_and_then (λ c. slice_get c.fields k)) has.contract ∙ e)))

      inside : (k : ℕ) → k < length has.own.fields
          → option_map_or (field_counts n (available_value has.own (nth_object objects i)) (0 + k))
          (slice_get has.own.fields k) 0
          ≡ in_cell owns n (field_cell notes objects i k)
      inside k below = ⊎_elim
          (λ f. ap (λ x. option_map_or (field_counts n (available_value has.own (nth_object objects i)) (0 + k)) x 0)
          f.2
          ∙ ap (λ j. field_counts n (available_value has.own (nth_object objects i)) j f.0) (let z : 0 + k ≡ k =
          omega arith in z) ∙ at_field k f.0 f.2)
          (λ past. absurd (omega (arith, past.0, below)))
          (slice_get_cases has.own.fields k).1

  -- the references of all objects
  pub objects_owning : ((i : ℕ) → i < length objects → HasOwnFields table (nth_object objects i))
      → owning n (field_references table objects) ≡ in_objects owns n notes objects
  objects_owning has =
      objects_counts n (references_of table) 0 objects
      ∙ sum_each_below (λ j o. owning n (references_of table j o)) 0 objects
      ∙ sum_same (length objects) _ (λ i. in_fields owns n notes objects i)
      (λ i below. ap (λ x. option_map_or (λ o. owning n (references_of table (0 + i) o)) x 0)
      (object_there objects i below)
      ∙ ap (λ j. owning n (references_of table j (nth_object objects i))) (let z : 0 + i ≡ i = omega arith in z)
      ∙ object_owning i below (has i below))
