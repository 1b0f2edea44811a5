-- What the places of the innermost frame and of all objects count, where the frame writes one of them.
use Rattle.std.proofs.Common.{◌≡◌, ℕ, ◌+◌, ◌<◌, ◌≤◌, Option, Some, option_map, length, refl, sym, ap, ◌∙◌, subst, arith}
use Rattle.ob_base.specs.Limits.{most_slots}
use Rattle.ob_perm.specs.Permissions.{Permission, kept}
use Rattle.ob_table.specs.declared.contract.ResolvedType.{ResolvedType}
use Rattle.ob_heap_spec.specs.Worlds.{World}
use Rattle.ob_heap_spec.specs.Marks.{comes_into}
use Rattle.ob_silica_places.specs.Known.{permission_of_type}
use Rattle.ob_silica_places.specs.Places.{Location, slot, field}
use Rattle.ob_silica_steps.specs.Cells.{Cell, noted}
use Rattle.ob_silica_steps.specs.Configurations.{Notes}
use Rattle.ob_silica_steps.specs.Here.{Here, self_of, set_slot, set_field, set_permission, hand}
use Rattle.ob_coherent_spec.specs.Counting.{field_cell, fields_counted, Counted, in_cell, in_slots, in_objects}
use Rattle.ob_soundness_laws.proofs.counting.Objects.{field_cell_same}
use Rattle.ob_soundness_laws.proofs.counting.Marking.{Keeps, comes_keeps}
use Rattle.ob_soundness_laws.proofs.counting.Places.{slots_at, objects_same, objects_set_field, objects_set_permission, in_slot, in_field_of}

-- in the slots of a frame and in the fields of all objects
abbrev pub in_here : Counted → ℕ → Here → ℕ
in_here counts n h = in_slots counts n h.slots + in_objects counts n h.notes h.world.objects

-- the place of a frame is one of those that are counted
abbrev pub IsLow : Location → Type 0
IsLow (slot k) = k < most_slots
IsLow (field k) = k < fields_counted

-- what stands at a place, whether or not a field is available
abbrev pub cell_at : Here → Location → Option Cell
cell_at h (slot k) = h.slots k
cell_at h (field k) = field_cell h.notes h.world.objects (self_of h.slots) k

module _ (counts : Counted) (n : ℕ) where
  pub here_slot : (k : ℕ) (x : Option Cell) (h : Here) → k < most_slots
      → in_here counts n (set_slot k x h) + in_cell counts n (h.slots k) ≡ in_here counts n h + in_cell counts n x
  here_slot k x h low = omega (arith, slots_at counts n h.slots k x low)

  pub here_field : (k : ℕ) (x : Cell) (h : Here) → k < fields_counted → self_of h.slots < length h.world.objects
      → in_here counts n (set_field k x h) + in_cell counts n (cell_at h (field k))
      ≡ in_here counts n h + in_cell counts n (Some x)
  here_field k x h low there = omega (arith, objects_set_field counts n h.notes h.world (self_of h.slots) k x there low)

  pub here_permission : (p : Location) (q : Permission) (h : Here) → IsLow p → self_of h.slots < length h.world.objects
      → in_here counts n (set_permission p q h) + in_cell counts n (cell_at h p)
      ≡ in_here counts n h + in_cell counts n (option_map (noted q) (cell_at h p))
  here_permission (slot k) q h low there =
      omega (arith, slots_at counts n h.slots k (option_map (noted q) (h.slots k)) low)
  here_permission (field k) q h low there =
      omega (arith, objects_set_permission counts n h.notes h.world.objects (self_of h.slots) k q there low)

  -- marks don't count
  pub kept_objects : (notes : Notes) (w v : World) → Keeps w v → in_objects counts n notes v.objects
      ≡ in_objects counts n notes w.objects
  kept_objects notes w v keeps = objects_same counts n notes notes v.objects w.objects keeps.count
      (λ i k. ap (in_cell counts n) (field_cell_same notes notes w.objects v.objects i k
      (ap (λ f. f k) (keeps.fields i)) refl))

  pub here_kept : (h : Here) (w : World) → Keeps h.world w → in_here counts n (record h { world = w })
      ≡ in_here counts n h
  here_kept h w keeps = omega (arith, kept_objects h.notes h.world w keeps)

  -- a place hands its value over
  pub here_hand : (of : ResolvedType) (p : Location) (x : Cell) (h : Here) → IsLow p
      → self_of h.slots < length h.world.objects
      → in_here counts n (hand of p x h) + in_cell counts n (cell_at h p)
      ≡ in_here counts n h + in_cell counts n (option_map (noted (kept x.note.permission (permission_of_type of)))
      (cell_at h p))
  here_hand of p x h low there =
      let keeps = comes_keeps of x.value h.world in
      subst (λ y. in_here counts n (hand of p x h) + in_cell counts n y ≡ in_here counts n h
      + in_cell counts n (option_map (noted (kept x.note.permission (permission_of_type of))) y))
      (same p)
      (here_permission p (kept x.note.permission (permission_of_type of))
      (record h { world = comes_into of x.value h.world }) low
      (subst (λ m. self_of h.slots < m) (sym keeps.count) there)
      ∙ ap (λ m. m + in_cell counts n (option_map (noted (kept x.note.permission (permission_of_type of)))
      (cell_at (record h { world = comes_into of x.value h.world }) p)))
      (here_kept h (comes_into of x.value h.world) keeps))
    where
      same : (p : Location) → cell_at (record h { world = comes_into of x.value h.world }) p ≡ cell_at h p
      same (slot k) = refl
      same (field k) = field_cell_same h.notes h.notes h.world.objects (comes_into of x.value h.world).objects
          (self_of h.slots) k
          (ap (λ f. f k) ((comes_keeps of x.value h.world).fields (self_of h.slots))) refl

  -- one place is at most all of them
  pub in_place : (p : Location) (h : Here) → IsLow p → in_cell counts n (cell_at h p) ≤ in_here counts n h
  in_place (slot k) h low = omega (arith, in_slot counts n h.slots k low)
  in_place (field k) h low = omega (arith, in_field_of counts n h.notes h.world.objects (self_of h.slots) k low)
