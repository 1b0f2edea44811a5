-- Objects other than the one that changes: their fields stand, and they are as declared.
use Rattle.std.proofs.Common.{◌≡◌, ◌≢◌, ℕ, ◌<◌, ◌≤◌, ◌⊎◌, inl, inr, ⊎_elim, List, length, Some, None, slice_get, refl, sym, ap, ◌∙◌, subst}
use Rattle.std.specs.Option.{option_and_then}
use Rattle.std.specs.Prelude.{IfSome}
use Rattle.std.proofs.lemmas.Option.{slice_get_past}
use Rattle.ob_base.specs.declared.id.StateId.{StateId}
use Rattle.ob_perm.specs.Permissions.{owns}
use Rattle.ob_table.specs.Tables.{ClassTable, contract_at}
use Rattle.ob_table.specs.declared.contract.Contract.{Contract}
use Rattle.ob_table_spec.specs.Conditions.{IsClassTable}
use Rattle.ob_heap_spec.specs.Objects.{Object, is_available, has_field}
use Rattle.ob_heap_spec.specs.Contents.{object_at}
use Rattle.ob_silica_places.specs.Known.{Known}
use Rattle.ob_silica_steps.specs.Configurations.{Notes, Configuration}
use Rattle.ob_silica_steps.specs.Starting.{declared_note}
use Rattle.ob_coherent_spec.specs.Counting.{nth_object, fields_counted, field_cell, in_cell, in_fields}
use Rattle.ob_coherent_spec.specs.Standing.{AllStand, IsObjectInRun}
use Rattle.ob_coherent_spec.specs.Coherent.{IsAsDeclared}
use Rattle.ob_soundness_laws.proofs.counting.Sums.{terms_zero}
use Rattle.ob_soundness_laws.proofs.counting.Low.{field_low}
use Rattle.ob_soundness_laws.proofs.frames.Cells.{same_has_state}
use Rattle.ob_soundness_laws.proofs.frames.Near.{IsNear, field_near, stands_near, says_field_near}

-- where there is no object there is no field
pub no_field : (table : ClassTable) (objects : List Object) (n : ℕ) (notes : Notes) → length objects ≤ n
    → AllStand table objects (field_cell notes objects n)
no_field table objects n notes past k x e = absurd (unset (slice_get_past objects n past))
  where
    unset : object_at objects n ≡ None → ⊥
    unset none = let z : field_cell notes objects n k ≡ None = rw none refl in cc

module _ (table : ClassTable) (i : ℕ) (stays : ℕ → Type 0) (N M : ℕ → Type 0) (c d : Configuration)
    (near : IsNear table i stays N M c d) where
  -- the fields of another object stand, unless they own the object whose state changes
  pub fields_near : IsClassTable table → (n : ℕ) → n < length c.world.objects → n ≢ i
      → IsObjectInRun table c.notes n (nth_object c.world.objects n)
      → ((nth_object d.world.objects i).state ≡ (nth_object c.world.objects i).state)
      ⊎ (in_fields owns i c.notes c.world.objects n ≡ 0)
      → AllStand table d.world.objects (field_cell d.notes d.world.objects n)
  fields_near t n below ne o free j x e = stands_near table i stays N M c d near x
      (⊎_elim (λ same. inl same)
      (λ none. inr (subst (λ y. in_cell owns i y ≡ 0) was
      (terms_zero fields_counted (λ l. in_cell owns i (field_cell c.notes c.world.objects n l))
      none j (field_low table t c.notes c.world.objects n o j x was))))
      free)
      (near.stand n j x was)
    where
      was : field_cell c.notes c.world.objects n j ≡ Some x
      was = sym (field_near table i stays N M c d near n j below ne) ∙ e

  -- another object is one in a run
  pub object_near : (n : ℕ) → n < length c.world.objects → n ≢ i
      → IsObjectInRun table c.notes n (nth_object c.world.objects n)
      → IsObjectInRun table d.notes n (nth_object d.world.objects n)
  object_near n below ne o = record {
    own = o.own;
    contract = ap (contract_at table) (near.contracts n below) ∙ o.contract;
    class = o.class;
    state = subst (λ s. IfSome s (λ (x : StateId). x.0 < length o.own.states)) (sym (near.states n below ne)) o.state;
    fields = λ j none. near.fields n j below ne
        ∙ o.fields j (ap (λ s. has_field o.own s j) (sym (near.states n below ne)) ∙ none);
    kinds = λ j f v e set. ap (λ (y : Known). y.kind) (near.notes n j below ne)
        ∙ o.kinds j f v e (sym (near.fields n j below ne) ∙ set);
  }

  -- another object that was as declared still is
  pub declared_near : (n : ℕ) → n < length c.world.objects → n ≢ i → IsAsDeclared table N c.notes c.world.objects n
      → IsAsDeclared table M d.notes d.world.objects n
  declared_near n below ne a = record {
    placed = same_has_state table (nth_object c.world.objects n) (nth_object d.world.objects n) (near.contracts n below)
        (near.states n below ne) a.placed;
    fields = λ j f e there. says_field_near table i stays N M c d near (Some (declared_note f.of)) n j below ne
        (a.fields j f
        (ap (λ id. option_and_then (λ (x : Contract). slice_get x.fields j) (contract_at table id))
        (sym (near.contracts n below)) ∙ e)
        (ap (λ s. is_available s f) (sym (near.states n below ne)) ∙ there));
  }
