-- What the places count where the state of `this` changes.
use Rattle.std.proofs.Common.{◌≡◌, ◌≢◌, ℕ, zero, suc, ◌+◌, ◌<◌, Bool, true, false, length, Option, Some, None, option_map, refl, sym, ap, ◌∙◌, arith, ⊎_elim, if◌then◌else◌}
use Rattle.std.proofs.lemmas.Bool.{cases_Bool}
use Rattle.ob_base.specs.Limits.{most_slots}
use Rattle.ob_base.specs.declared.id.StateId.{StateId}
use Rattle.ob_perm.specs.Permissions.{owned, owns}
use Rattle.ob_perm.specs.States.{only}
use Rattle.ob_table.specs.declared.contract.Contract.{Contract}
use Rattle.ob_heap_spec.specs.Values.{Value, Numbered}
use Rattle.ob_heap_spec.specs.Objects.{has_field}
use Rattle.ob_silica_places.specs.Known.{Known}
use Rattle.ob_silica_steps.specs.Cells.{Cell, noted}
use Rattle.ob_silica_steps.specs.Here.{Here, self_of}
use Rattle.ob_silica_steps.specs.Changing.{value_after, values_after, changed_object, note_after, notes_after, narrowed_this, changed_here}
use Rattle.ob_coherent_spec.specs.Counting.{nth_object, field_cell, fields_counted, sum_below, Counted, any, in_cell, in_fields, in_objects}
use Rattle.ob_soundness_laws.proofs.counting.Sums.{at_same, at_other}
use Rattle.ob_soundness_laws.proofs.counting.Cells.{cell_noted}
use Rattle.ob_soundness_laws.proofs.counting.Objects.{field_cell_same, edit_length, edit_same, edit_other}
use Rattle.ob_soundness_laws.proofs.counting.Places.{slots_at, objects_but_one}
use Rattle.ob_soundness_laws.proofs.counting.Writing.{in_here}

-- sums, term by term
pub sums_balanced : (n : ℕ) (f g h e : ℕ → ℕ) → ((k : ℕ) → k < n → f k + g k ≡ h k + e k)
    → sum_below n f + sum_below n g ≡ sum_below n h + sum_below n e
sums_balanced zero f g h e same = refl
sums_balanced (suc n) f g h e same =
    omega (arith, same n (omega arith), sums_balanced n f g h e (λ k below. same k (omega arith)))

-- The cells of the changed object.

-- what a field has after a change: what it got, or what it had if the new state has it
abbrev pub cell_after : Option Cell → Bool → Option Cell → Option Cell
cell_after None true old = old
cell_after None false old = None
cell_after (Some x) has old = Some x

-- what goes where a field gets another value, or the new state lacks it
abbrev pub cell_lost : Option Cell → Bool → Option Cell → Option Cell
cell_lost None true old = None
cell_lost None false old = old
cell_lost (Some x) has old = old

pub cells_balanced : (counts : Counted) (n : ℕ) (got : Option Cell) (has : Bool) (old : Option Cell)
    → in_cell counts n (cell_after got has old) + in_cell counts n (cell_lost got has old)
    ≡ in_cell counts n got + in_cell counts n old
cells_balanced counts n None true old = omega arith
cells_balanced counts n None false old = omega arith
cells_balanced counts n (Some x) has old = refl

module _ (c : Contract) (state : StateId) (got : Numbered Cell) (h : Here) where
  -- this is what each field of the object has
  pub field_after : self_of h.slots < length h.world.objects → (k : ℕ)
      → field_cell (changed_here c state got h).notes (changed_here c state got h).world.objects (self_of h.slots) k
      ≡ cell_after (got k) (has_field c (Some state) k) (field_cell h.notes h.world.objects (self_of h.slots) k)
  field_after there k =
      ap (λ o. option_map {U = Cell} (λ (v : Value). record {
        value = v;
        note =
            (notes_after (self_of h.slots) got h.notes).fields (self_of h.slots) k;
      }) (o.fields k))
      (edit_same (changed_object c state got) (self_of h.slots) h.world there)
      ∙ ap (λ (y : ℕ → Known). option_map {U = Cell} (λ (v : Value). record { value = v; note = y k })
      (values_after c state got (nth_object h.world.objects (self_of h.slots)).fields k))
      (at_same h.notes.fields (self_of h.slots) (λ k. note_after (got k) (h.notes.fields (self_of h.slots) k)))
      ∙ go (got k) (has_field c (Some state) k) ((nth_object h.world.objects (self_of h.slots)).fields k)
    where
      go : (x : Option Cell) (has : Bool) (v : Option Value)
          → option_map {U = Cell} (λ (v : Value). record {
            value = v;
            note =
                note_after x (h.notes.fields (self_of h.slots) k);
          }) (value_after x (if has then v else None))
          ≡ cell_after x has (option_map {U = Cell} (λ (v : Value). record {
            value = v;
            note =
                h.notes.fields (self_of h.slots) k;
          }) v)
      go None true v = refl
      go None false v = refl
      go (Some x) has v = refl

  -- fields of other objects stay
  pub other_after : (m k : ℕ) → m ≢ self_of h.slots
      → field_cell (changed_here c state got h).notes (changed_here c state got h).world.objects m k
      ≡ field_cell h.notes h.world.objects m k
  other_after m k other = field_cell_same h.notes (changed_here c state got h).notes h.world.objects
      (changed_here c state got h).world.objects m k
      (ap (λ o. o.fields k) (edit_other (changed_object c state got) (self_of h.slots) h.world m other))
      (ap (λ (y : ℕ → Known). y k) (at_other h.notes.fields (self_of h.slots)
      (λ k. note_after (got k) (h.notes.fields (self_of h.slots) k)) m other))

  module _ (counts : Counted) (n : ℕ) where
    -- in what was given, and in what went
    abbrev pub in_got : ℕ
    in_got = sum_below fields_counted (λ k. in_cell counts n (got k))

    abbrev pub in_lost : ℕ
    in_lost = sum_below fields_counted
        (λ k. in_cell counts n (cell_lost (got k) (has_field c (Some state) k)
        (field_cell h.notes h.world.objects (self_of h.slots) k)))

    pub fields_after : self_of h.slots < length h.world.objects
        → in_fields counts n (changed_here c state got h).notes (changed_here c state got h).world.objects
        (self_of h.slots) + in_lost
        ≡ in_got + in_fields counts n h.notes h.world.objects (self_of h.slots)
    fields_after there = sums_balanced fields_counted _ _ _ _
        (λ k below. ap (λ y. in_cell counts n y
        + in_cell counts n (cell_lost (got k) (has_field c (Some state) k)
        (field_cell h.notes h.world.objects (self_of h.slots) k)))
        (field_after there k)
        ∙ cells_balanced counts n (got k) (has_field c (Some state) k)
        (field_cell h.notes h.world.objects (self_of h.slots) k))

    pub objects_after : self_of h.slots < length h.world.objects
        → in_objects counts n (changed_here c state got h).notes (changed_here c state got h).world.objects + in_lost
        ≡ in_got + in_objects counts n h.notes h.world.objects
    objects_after there = omega (
      arith,
      fields_after there,
      objects_but_one counts n (changed_here c state got h).notes h.notes
          (changed_here c state got h).world.objects h.world.objects (self_of h.slots)
          (edit_length (changed_object c state got) (self_of h.slots) h.world)
          (omega (arith, there, edit_length (changed_object c state got) (self_of h.slots) h.world))
          (λ j k other. ap (in_cell counts n) (other_after j k other)),
    )

  -- `this` counts as it did
  pub narrowed_owns : (n : ℕ) (x : Option Cell) → in_cell owns n (option_map (narrowed_this state) x) ≡ in_cell owns n x
  narrowed_owns n None = refl
  narrowed_owns n (Some x) = go (owns x.note.permission) refl
    where
      go : (b : Bool) → owns x.note.permission ≡ b
          → in_cell owns n (Some (if b then noted (owned (only state.0)) x else x)) ≡ in_cell owns n (Some x)
      go true e = cell_noted owns n (owned (only state.0)) x (sym e)
      go false e = refl

  pub narrowed_refers : (n : ℕ) (x : Option Cell) → in_cell any n (option_map (narrowed_this state) x) ≡ in_cell any n x
  narrowed_refers n None = refl
  narrowed_refers n (Some x) = ⊎_elim (λ e. rw e refl) (λ e. rw e refl) (cases_Bool (owns x.note.permission))

  pub owners_after : (n : ℕ) → self_of h.slots < length h.world.objects → 0 < most_slots
      → in_here owns n (changed_here c state got h) + in_lost owns n ≡ in_got owns n + in_here owns n h
  owners_after n there some = omega (
    arith,
    objects_after owns n there,
    slots_at owns n h.slots 0 (option_map (narrowed_this state) (h.slots 0)) some,
    narrowed_owns n (h.slots 0),
  )

  pub references_after : (n : ℕ) → self_of h.slots < length h.world.objects → 0 < most_slots
      → in_here any n (changed_here c state got h) + in_lost any n ≡ in_got any n + in_here any n h
  references_after n there some = omega (
    arith,
    objects_after any n there,
    slots_at any n h.slots 0 (option_map (narrowed_this state) (h.slots 0)) some,
    narrowed_refers n (h.slots 0),
  )
