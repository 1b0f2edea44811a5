-- What the places of a run count together, and where one of them changes.
use Rattle.std.proofs.Common.{◌≡◌, ◌≢◌, ℕ, ◌+◌, ◌<◌, ◌≤◌, ⊎_elim, nat_eq, ◌&&◌, List, [], ◌∷◌, length, Option, Some, None, option_map, refl, sym, ap, ◌∙◌, subst, arith, add-one}
use Rattle.std.proofs.lemmas.Bool.{cases_lt, and_parts}
use Rattle.ob_base.specs.Limits.{most_slots, most_fields}
use Rattle.ob_perm.specs.Permissions.{Permission}
use Rattle.ob_heap_spec.specs.Objects.{Object, with_field}
use Rattle.ob_heap_spec.specs.Worlds.{World, edit_object, make_object}
use Rattle.ob_silica_places.specs.Known.{known, at}
use Rattle.ob_silica_steps.specs.Cells.{Cell, noted}
use Rattle.ob_silica_steps.specs.Configurations.{SlotCells, Waiting, Control, runs, leaves, HandleNote, Notes, Configuration}
use Rattle.ob_silica_steps.specs.Here.{with_field_note}
use Rattle.ob_coherent_spec.specs.Counting.{field_cell, sum_below, fields_counted, Counted, any, in_cell, in_slots, in_fields, in_objects, in_handles, in_waiting, in_control, in_all}
use Rattle.ob_soundness_laws.proofs.counting.Sums.{sum_same, sum_at_most, sum_but_one, sum_at, sum_zero, term_at_most, terms_at_most, term_of}
use Rattle.ob_soundness_laws.proofs.counting.Objects.{no_object, no_field_cell, field_cell_same, set_field_same, set_field_other_field, set_field_other_object, set_permission_same, renoted_other_field, renoted_other_object, edit_length, make_length, make_same, make_other}
use Rattle.ob_soundness_laws.proofs.counting.Cells.{counts_refers, one_if_less}

-- Slots.

module _ (counts : Counted) (n : ℕ) where
  -- a slot is set, or unset
  pub slots_at : (slots : SlotCells) (k : ℕ) (x : Option Cell) → k < most_slots
      → in_slots counts n (at slots k x) + in_cell counts n (slots k) ≡ in_slots counts n slots + in_cell counts n x
  slots_at slots k x below = sum_at (in_cell counts n) most_slots k slots x below

  pub slots_same : (slots more : SlotCells) → ((k : ℕ) → in_cell counts n (slots k) ≡ in_cell counts n (more k))
      → in_slots counts n slots ≡ in_slots counts n more
  slots_same slots more same = sum_same most_slots _ _ (λ k below. same k)

  -- slots that are the same but for one
  pub slots_but_one : (slots more : SlotCells) (k : ℕ) → k < most_slots
      → ((i : ℕ) → i ≢ k → in_cell counts n (slots i) ≡ in_cell counts n (more i))
      → in_slots counts n slots + in_cell counts n (more k) ≡ in_slots counts n more + in_cell counts n (slots k)
  slots_but_one slots more k below same = sum_but_one most_slots k _ _ below (λ i less other. same i other)

  pub in_slot : (slots : SlotCells) (k : ℕ) → k < most_slots → in_cell counts n (slots k) ≤ in_slots counts n slots
  in_slot slots k below = term_at_most most_slots (λ i. in_cell counts n (slots i)) k below

  pub in_two_slots : (slots : SlotCells) (j k : ℕ) → j < most_slots → k < most_slots → j ≢ k
      → in_cell counts n (slots j) + in_cell counts n (slots k) ≤ in_slots counts n slots
  in_two_slots slots j k bj bk other = terms_at_most most_slots (λ i. in_cell counts n (slots i)) j k bj bk other

  pub no_slots : (slots : SlotCells) → ((k : ℕ) → in_cell counts n (slots k) ≡ 0) → in_slots counts n slots ≡ 0
  no_slots slots none = sum_zero most_slots _ (λ k below. none k)

  pub slot_of : (slots : SlotCells) → 0 < in_slots counts n slots → (k : ℕ) × (k < most_slots)
      × (0 < in_cell counts n (slots k))
  slot_of slots some = term_of most_slots (λ i. in_cell counts n (slots i)) some

-- Fields and objects.

-- more than these fields no object has
pub few_fields : (k : ℕ) → k < most_fields → k < fields_counted
unfolding fields_counted
few_fields k below = below

module _ (counts : Counted) (n : ℕ) where
  pub fields_same : (notes more : Notes) (objects others : List Object) (i j : ℕ)
      → ((k : ℕ) → in_cell counts n (field_cell notes objects i k) ≡ in_cell counts n (field_cell more others j k))
      → in_fields counts n notes objects i ≡ in_fields counts n more others j
  fields_same notes more objects others i j same = sum_same fields_counted _ _ (λ k below. same k)

  -- fields of an object that are the same but for one
  pub fields_but_one : (notes more : Notes) (objects others : List Object) (i k : ℕ) → k < fields_counted
      → ((j : ℕ) → j ≢ k → in_cell counts n (field_cell notes objects i j)
      ≡ in_cell counts n (field_cell more others i j))
      → in_fields counts n notes objects i + in_cell counts n (field_cell more others i k)
      ≡ in_fields counts n more others i + in_cell counts n (field_cell notes objects i k)
  fields_but_one notes more objects others i k below same =
      sum_but_one fields_counted k _ _ below (λ j less other. same j other)

  pub in_field : (notes : Notes) (objects : List Object) (i k : ℕ) → k < fields_counted
      → in_cell counts n (field_cell notes objects i k) ≤ in_fields counts n notes objects i
  in_field notes objects i k below = term_at_most fields_counted (λ k. in_cell counts n (field_cell notes objects i k))
      k below

  pub in_two_fields : (notes : Notes) (objects : List Object) (i j k : ℕ) → j < fields_counted → k < fields_counted
      → j ≢ k
      → in_cell counts n (field_cell notes objects i j) + in_cell counts n (field_cell notes objects i k)
      ≤ in_fields counts n notes objects i
  in_two_fields notes objects i j k bj bk other =
      terms_at_most fields_counted (λ k. in_cell counts n (field_cell notes objects i k)) j k bj bk other

  pub no_fields : (notes : Notes) (objects : List Object) (i : ℕ)
      → ((k : ℕ) → in_cell counts n (field_cell notes objects i k) ≡ 0)
      → in_fields counts n notes objects i ≡ 0
  no_fields notes objects i none = sum_zero fields_counted _ (λ k below. none k)

  pub field_with : (notes : Notes) (objects : List Object) (i : ℕ) → 0 < in_fields counts n notes objects i
      → (k : ℕ) × (k < fields_counted) × (0 < in_cell counts n (field_cell notes objects i k))
  field_with notes objects i some = term_of fields_counted (λ k. in_cell counts n (field_cell notes objects i k)) some

  -- where there is no object no field counts
  pub past_fields : (notes : Notes) (objects : List Object) (i : ℕ) → length objects ≤ i
      → in_fields counts n notes objects i ≡ 0
  past_fields notes objects i past =
      no_fields notes objects i (λ k. ap (in_cell counts n)
      (no_field_cell notes objects i k (ap (λ o. o.fields k) (no_object objects i past))))

  pub in_object : (notes : Notes) (objects : List Object) (i : ℕ) → i < length objects
      → in_fields counts n notes objects i ≤ in_objects counts n notes objects
  in_object notes objects i below = term_at_most (length objects) (λ i. in_fields counts n notes objects i) i below

  pub in_two_objects : (notes : Notes) (objects : List Object) (i j : ℕ) → i < length objects → j < length objects
      → i ≢ j
      → in_fields counts n notes objects i + in_fields counts n notes objects j ≤ in_objects counts n notes objects
  in_two_objects notes objects i j bi bj other =
      terms_at_most (length objects) (λ i. in_fields counts n notes objects i) i j bi bj other

  -- a field of any object is among them
  pub in_field_of : (notes : Notes) (objects : List Object) (i k : ℕ) → k < fields_counted
      → in_cell counts n (field_cell notes objects i k) ≤ in_objects counts n notes objects
  in_field_of notes objects i k below = ⊎_elim
      (λ there. omega (arith, in_field notes objects i k below, in_object notes objects i there))
      (λ past. omega (arith, in_field notes objects i k below, past_fields notes objects i past))
      (cases_lt i (length objects))

  pub no_objects : (notes : Notes) (objects : List Object)
      → ((i k : ℕ) → in_cell counts n (field_cell notes objects i k) ≡ 0)
      → in_objects counts n notes objects ≡ 0
  no_objects notes objects none = sum_zero (length objects) _ (λ i below. no_fields notes objects i (none i))

  pub object_with : (notes : Notes) (objects : List Object) → 0 < in_objects counts n notes objects
      → (i : ℕ) × (i < length objects) × (0 < in_fields counts n notes objects i)
  object_with notes objects some = term_of (length objects) (λ i. in_fields counts n notes objects i) some

  -- where only marks and states differ
  pub objects_same : (notes more : Notes) (objects others : List Object) → length objects ≡ length others
      → ((i k : ℕ) → in_cell counts n (field_cell notes objects i k) ≡ in_cell counts n (field_cell more others i k))
      → in_objects counts n notes objects ≡ in_objects counts n more others
  objects_same notes more objects others long same =
      ap (λ m. sum_below m (λ i. in_fields counts n notes objects i)) long
      ∙ sum_same (length others) _ _ (λ i below. fields_same notes more objects others i i (same i))

  -- the fields of one object differ
  pub objects_but_one : (notes more : Notes) (objects others : List Object) (i : ℕ) → length objects
      ≡ length others → i < length objects
      → ((j k : ℕ) → j ≢ i → in_cell counts n (field_cell notes objects j k)
      ≡ in_cell counts n (field_cell more others j k))
      → in_objects counts n notes objects + in_fields counts n more others i
      ≡ in_objects counts n more others + in_fields counts n notes objects i
  objects_but_one notes more objects others i long below same =
      subst (λ m. sum_below (length objects) (λ i. in_fields counts n notes objects i) + in_fields counts n more others
      i
      ≡ sum_below m (λ i. in_fields counts n more others i) + in_fields counts n notes objects i) long
      (sum_but_one (length objects) i _ _ below (λ j less other. fields_same notes more objects others j j
      (λ k. same j k other)))

  -- one field of one object differs
  pub objects_but_one_field : (notes more : Notes) (objects others : List Object) (i k : ℕ) → length objects
      ≡ length others
      → i < length objects → k < fields_counted
      → ((j l : ℕ) → j ≢ i → in_cell counts n (field_cell notes objects j l)
      ≡ in_cell counts n (field_cell more others j l))
      → ((l : ℕ) → l ≢ k → in_cell counts n (field_cell notes objects i l)
      ≡ in_cell counts n (field_cell more others i l))
      → in_objects counts n notes objects + in_cell counts n (field_cell more others i k)
      ≡ in_objects counts n more others + in_cell counts n (field_cell notes objects i k)
  objects_but_one_field notes more objects others i k long below few other_objects other_fields =
      omega (
        arith,
        objects_but_one notes more objects others i long below other_objects,
        fields_but_one notes more objects others i k few other_fields,
      )

  -- a field is set
  pub objects_set_field : (notes : Notes) (w : World) (i k : ℕ) (x : Cell) → i < length w.objects → k < fields_counted
      → in_objects counts n (with_field_note notes i k x.note) (edit_object (with_field k x.value) i w).objects
      + in_cell counts n (field_cell notes w.objects i k)
      ≡ in_objects counts n notes w.objects + in_cell counts n (Some x)
  objects_set_field notes w i k x below few =
      subst (λ y. in_objects counts n (with_field_note notes i k x.note)
      (edit_object (with_field k x.value) i w).objects
      + in_cell counts n (field_cell notes w.objects i k) ≡ in_objects counts n notes w.objects + in_cell counts n y)
      (set_field_same notes w i k x below)
      (objects_but_one_field (with_field_note notes i k x.note) notes
      (edit_object (with_field k x.value) i w).objects w.objects i k
      (edit_length (with_field k x.value) i w) (omega (arith, below, edit_length (with_field k x.value) i w)) few
      (λ j l other. ap (in_cell counts n) (set_field_other_object notes w i k x j l other))
      (λ l other. ap (in_cell counts n) (set_field_other_field notes w i k x l other)))

  -- the permission on a field changes
  pub objects_set_permission : (notes : Notes) (objects : List Object) (i k : ℕ) (p : Permission) → i < length objects
      → k < fields_counted
      → in_objects counts n (with_field_note notes i k (known (notes.fields i k).kind p)) objects
      + in_cell counts n (field_cell notes objects i k)
      ≡ in_objects counts n notes objects + in_cell counts n (option_map (noted p) (field_cell notes objects i k))
  objects_set_permission notes objects i k p below few =
      subst (λ y. in_objects counts n (with_field_note notes i k (known (notes.fields i k).kind p)) objects
      + in_cell counts n (field_cell notes objects i k) ≡ in_objects counts n notes objects + in_cell counts n y)
      (set_permission_same notes objects i k p)
      (objects_but_one_field (with_field_note notes i k (known (notes.fields i k).kind p)) notes objects objects i k
      refl below few
      (λ j l other. ap (in_cell counts n) (renoted_other_object notes objects i k
      (known (notes.fields i k).kind p) j l other))
      (λ l other. ap (in_cell counts n) (renoted_other_field notes objects i k
      (known (notes.fields i k).kind p) l other)))

  -- an object that has no value yet is made
  pub objects_make : (notes : Notes) (w : World) (o : Object) → ((k : ℕ) → o.fields k ≡ None)
      → in_objects counts n notes (make_object w o).objects ≡ in_objects counts n notes w.objects
  objects_make notes w o bare =
      subst (λ m. sum_below m (λ i. in_fields counts n notes (make_object w o).objects i)
      ≡ in_objects counts n notes w.objects)
      (sym (make_length w o ∙ add-one (length w.objects))) (omega (
        arith,
        no_fields notes (make_object w o).objects (length w.objects)
            (λ k. ap (in_cell counts n) (no_field_cell notes (make_object w o).objects (length w.objects) k
            (ap (λ x. x.fields k) (make_same w o) ∙ bare k))),
        sum_same (length w.objects) (λ i. in_fields counts n notes (make_object w o).objects i)
            (λ i. in_fields counts n notes w.objects i)
            (λ i below. fields_same notes notes (make_object w o).objects w.objects i i
            (λ k. ap (in_cell counts n) (field_cell_same notes notes w.objects (make_object w o).objects i k
            (ap (λ x. x.fields k) (make_other w o i below)) refl))),
      ))

-- Frames that wait, and handles.

module _ (counts : Counted) (n : ℕ) where
  -- a count is at most that of references
  pub slots_refer : (slots : SlotCells) → in_slots counts n slots ≤ in_slots any n slots
  slots_refer slots = sum_at_most most_slots _ _ (λ k below. counts_refers n counts (slots k))

  pub waiting_refer : (hs : List Waiting) → in_waiting counts n hs ≤ in_waiting any n hs
  waiting_refer [] = omega arith
  waiting_refer (h ∷ hs) = omega (arith, slots_refer h.frame.slots, waiting_refer hs)

  pub objects_refer : (notes : Notes) (objects : List Object) → in_objects counts n notes objects
      ≤ in_objects any n notes objects
  objects_refer notes objects = sum_at_most (length objects) _ _
      (λ i below. sum_at_most fields_counted _ _ (λ k less. counts_refers n counts (field_cell notes objects i k)))

  pub handles_refer : (hs : List HandleNote) → in_handles counts n hs ≤ in_handles any n hs
  handles_refer [] = omega arith
  handles_refer (h ∷ hs) = omega (
    arith,
    handles_refer hs,
    one_if_less (counts h.permission && nat_eq h.object n) (nat_eq h.object n)
        (λ e. (and_parts (counts h.permission) (nat_eq h.object n) e).1),
  )

  pub control_refer : (control : Control) → in_control counts n control ≤ in_control any n control
  control_refer (runs terms outer) = omega arith
  control_refer (leaves result outer) = counts_refers n counts result

  pub all_refer : (c : Configuration) → in_all counts n c ≤ in_all any n c
  all_refer c = omega (
    arith,
    slots_refer c.frame.slots,
    waiting_refer c.stack,
    objects_refer c.notes c.world.objects,
    handles_refer c.notes.handles,
    control_refer c.control,
  )
