-- What all places of a configuration count.
use Rattle.std.proofs.Common.{◌≡◌, ◌≢◌, ℕ, zero, suc, ◌+◌, ◌<◌, ◌≤◌, nat_eq, ◌&&◌, List, [], ◌∷◌, length, Option, Some, slice_get, refl, ap, subst, arith}
use Rattle.std.proofs.lemmas.Option.{none-some, same_Some}
use Rattle.ob_base.specs.Limits.{most_slots}
use Rattle.ob_silica.specs.Terms.{SilicaTerms}
use Rattle.ob_silica_places.specs.Places.{Location}
use Rattle.ob_silica_steps.specs.Cells.{Cell}
use Rattle.ob_silica_steps.specs.Configurations.{Rest, Waiting, runs, leaves, HandleNote, Configuration}
use Rattle.ob_silica_steps.specs.Here.{here}
use Rattle.ob_coherent_spec.specs.Counting.{field_cell, fields_counted, one_if, Counted, in_cell, in_slots, in_fields, in_objects, in_handles, in_waiting, in_control, in_all}
use Rattle.ob_soundness_laws.proofs.counting.Places.{in_slot, in_field_of, in_object, in_two_slots}
use Rattle.ob_soundness_laws.proofs.counting.Writing.{IsLow, cell_at, in_here, in_place}

-- Frames that wait, by their place among them.

module _ (counts : Counted) (n : ℕ) where
  pub in_waiting_frame : (hs : List Waiting) (i : ℕ) (h : Waiting) → slice_get hs i ≡ Some h
      → in_slots counts n h.frame.slots ≤ in_waiting counts n hs
  in_waiting_frame [] i h is = absurd (none-some h is)
  in_waiting_frame (g ∷ hs) zero h is = subst (λ (x : Waiting). in_slots counts n x.frame.slots
      ≤ in_slots counts n g.frame.slots + in_waiting counts n hs)
      (same_Some g h is) (omega arith)
  in_waiting_frame (g ∷ hs) (suc i) h is = omega (arith, in_waiting_frame hs i h is)

  pub in_waiting_slot : (hs : List Waiting) (i : ℕ) (h : Waiting) (k : ℕ) → slice_get hs i ≡ Some h → k < most_slots
      → in_cell counts n (h.frame.slots k) ≤ in_waiting counts n hs
  in_waiting_slot hs i h k is low = omega (arith, in_waiting_frame hs i h is, in_slot counts n h.frame.slots k low)

  -- a frame that waits has a slot that counts, where they count together
  pub waiting_of : (hs : List Waiting) → 0 < in_waiting counts n hs
      → (i : ℕ) × (h : Waiting) × (slice_get hs i ≡ Some h) × (0 < in_slots counts n h.frame.slots)
  waiting_of [] some = absurd (omega arith)
  waiting_of (g ∷ hs) some = go (in_slots counts n g.frame.slots) refl
      (λ rest. let r = waiting_of hs rest in (suc r.0, r.1, r.2, r.3))
    where
      go : (m : ℕ) → in_slots counts n g.frame.slots ≡ m
          → (0 < in_waiting counts n hs → (i : ℕ) × (h : Waiting) × (slice_get (g ∷ hs) i ≡ Some h)
          × (0 < in_slots counts n h.frame.slots))
          → (i : ℕ) × (h : Waiting) × (slice_get (g ∷ hs) i ≡ Some h) × (0 < in_slots counts n h.frame.slots)
      go zero e more = more (omega arith)
      go (suc m) e more = (zero, g, refl, omega arith)

  pub in_handle : (hs : List HandleNote) (i : ℕ) (h : HandleNote) → slice_get hs i ≡ Some h
      → one_if (counts h.permission && nat_eq h.object n) ≤ in_handles counts n hs
  in_handle [] i h is = absurd (none-some h is)
  in_handle (g ∷ hs) zero h is =
      subst (λ (x : HandleNote). one_if (counts x.permission && nat_eq x.object n)
      ≤ one_if (counts g.permission && nat_eq g.object n) + in_handles counts n hs)
      (same_Some g h is) (omega arith)
  in_handle (g ∷ hs) (suc i) h is = omega (arith, in_handle hs i h is)

-- All places.

module _ (counts : Counted) (n : ℕ) where
  -- all of them but the slots of the innermost frame and the fields
  abbrev pub elsewhere : Configuration → ℕ
  elsewhere c = in_control counts n c.control + in_waiting counts n c.stack + in_handles counts n c.notes.handles

  pub all_parts : (c : Configuration) → in_all counts n c ≡ in_here counts n (here c) + elsewhere c
  all_parts c = refl

  -- two configurations with the same frames that wait and the same handles
  pub all_but_here : (c d : Configuration) → d.stack ≡ c.stack → d.notes.handles ≡ c.notes.handles
      → in_all counts n d + (in_here counts n (here c) + in_control counts n c.control)
      ≡ in_all counts n c + (in_here counts n (here d) + in_control counts n d.control)
  all_but_here c d stack handles = omega (arith, ap (in_waiting counts n) stack, ap (in_handles counts n) handles)

  -- and where both run
  pub all_but_running : (c d : Configuration) (terms more : SilicaTerms) (outer around : List Rest)
      → c.control ≡ runs terms outer → d.control ≡ runs more around → d.stack ≡ c.stack → d.notes.handles
      ≡ c.notes.handles
      → in_all counts n d + in_here counts n (here c) ≡ in_all counts n c + in_here counts n (here d)
  all_but_running c d terms more outer around first second stack handles =
      omega (arith, all_but_here c d stack handles, ap (in_control counts n) first, ap (in_control counts n) second)

  pub running_none : (c : Configuration) (terms : SilicaTerms) (outer : List Rest) → c.control ≡ runs terms outer
      → in_control counts n c.control ≡ 0
  running_none c terms outer so = ap (in_control counts n) so

  pub leaving_counts : (c : Configuration) (result : Option Cell) (outer : List Rest) → c.control ≡ leaves result outer
      → in_control counts n c.control ≡ in_cell counts n result
  leaving_counts c result outer so = ap (in_control counts n) so

  -- Each single place is at most all of them.

  pub here_whole : (c : Configuration) → in_here counts n (here c) ≤ in_all counts n c
  here_whole c = omega arith

  pub place_whole : (c : Configuration) (p : Location) → IsLow p → in_cell counts n (cell_at (here c) p)
      ≤ in_all counts n c
  place_whole c p low = omega (arith, in_place counts n p (here c) low)

  pub slots_whole : (c : Configuration) → in_slots counts n c.frame.slots ≤ in_all counts n c
  slots_whole c = omega arith

  pub slot_whole : (c : Configuration) (k : ℕ) → k < most_slots → in_cell counts n (c.frame.slots k) ≤ in_all counts n c
  slot_whole c k low = omega (arith, in_slot counts n c.frame.slots k low)

  pub objects_whole : (c : Configuration) → in_objects counts n c.notes c.world.objects ≤ in_all counts n c
  objects_whole c = omega arith

  pub fields_whole : (c : Configuration) (i : ℕ) → i < length c.world.objects
      → in_fields counts n c.notes c.world.objects i ≤ in_all counts n c
  fields_whole c i there = omega (arith, in_object counts n c.notes c.world.objects i there)

  pub field_whole : (c : Configuration) (i k : ℕ) → k < fields_counted
      → in_cell counts n (field_cell c.notes c.world.objects i k) ≤ in_all counts n c
  field_whole c i k low = omega (arith, in_field_of counts n c.notes c.world.objects i k low)

  pub waiting_whole : (c : Configuration) → in_waiting counts n c.stack ≤ in_all counts n c
  waiting_whole c = omega arith

  pub waiting_slot_whole : (c : Configuration) (i : ℕ) (h : Waiting) (k : ℕ) → slice_get c.stack i
      ≡ Some h → k < most_slots
      → in_cell counts n (h.frame.slots k) ≤ in_all counts n c
  waiting_slot_whole c i h k is low = omega (arith, in_waiting_slot counts n c.stack i h k is low)

  pub result_whole : (c : Configuration) (result : Option Cell) (outer : List Rest) → c.control ≡ leaves result outer
      → in_cell counts n result ≤ in_all counts n c
  result_whole c result outer so = omega (arith, leaving_counts c result outer so)

  pub handle_whole : (c : Configuration) (i : ℕ) (h : HandleNote) → slice_get c.notes.handles i ≡ Some h
      → one_if (counts h.permission && nat_eq h.object n) ≤ in_all counts n c
  handle_whole c i h is = omega (arith, in_handle counts n c.notes.handles i h is)

  -- Two places of different parts are at most all of them together.

  pub slot_and_field : (c : Configuration) (k i f : ℕ) → k < most_slots → f < fields_counted
      → in_cell counts n (c.frame.slots k) + in_cell counts n (field_cell c.notes c.world.objects i f)
      ≤ in_all counts n c
  slot_and_field c k i f low few =
      omega (arith, in_slot counts n c.frame.slots k low, in_field_of counts n c.notes c.world.objects i f few)

  pub place_and_waiting : (c : Configuration) (p : Location) → IsLow p
      → in_cell counts n (cell_at (here c) p) + in_waiting counts n c.stack ≤ in_all counts n c
  place_and_waiting c p low = omega (arith, in_place counts n p (here c) low)

  -- a slot counts, and so nothing beside the slots does, where at most one place counts
  pub slot_alone : (c : Configuration) (k : ℕ) → k < most_slots → in_all counts n c ≤ 1
      → 0 < in_cell counts n (c.frame.slots k)
      → (in_objects counts n c.notes c.world.objects ≡ 0) × (in_control counts n c.control ≡ 0)
      × (in_waiting counts n c.stack ≡ 0)
      × (in_handles counts n c.notes.handles ≡ 0) × ((j : ℕ) → j < most_slots → k ≢ j
      → in_cell counts n (c.frame.slots j) ≡ 0)
  slot_alone c k low one some =
      let here = in_slot counts n c.frame.slots k low in (
        omega arith,
        omega arith,
        omega arith,
        omega arith,
        λ j less other. omega (arith, in_two_slots counts n c.frame.slots k j low less other),
      )

  -- the same of a field of the objects
  pub field_alone : (c : Configuration) (i k : ℕ) → k < fields_counted → in_all counts n c ≤ 1
      → 0 < in_cell counts n (field_cell c.notes c.world.objects i k)
      → (in_slots counts n c.frame.slots ≡ 0) × (in_control counts n c.control ≡ 0) × (in_waiting counts n c.stack ≡ 0)
      × (in_handles counts n c.notes.handles ≡ 0)
  field_alone c i k low one some =
      let there = in_field_of counts n c.notes c.world.objects i k low in
      (omega arith, omega arith, omega arith, omega arith)
