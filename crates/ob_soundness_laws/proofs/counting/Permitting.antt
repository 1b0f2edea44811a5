-- What the places count where one of them gets another permission.
use Rattle.std.proofs.Common.{◌≡◌, ◌≢◌, ℕ, ◌+◌, ◌<◌, ◌≤◌, true, false, length, Option, Some, None, option_map, refl, sym, ap, ◌∙◌, subst, arith, ⊎_elim}
use Rattle.std.proofs.lemmas.Bool.Decides.{eqb_tells}
use Rattle.ob_perm.specs.Permissions.{Permission, owned, shared, unowned, owns, kept}
use Rattle.ob_table.specs.declared.seen.Kind.{Kind}
use Rattle.ob_table.specs.declared.contract.ResolvedType.{ResolvedType}
use Rattle.ob_heap_spec.specs.Values.{Value, reference}
use Rattle.ob_silica_places.specs.Known.{known, permission_of_type, at}
use Rattle.ob_silica_places.specs.Places.{Location, slot, field}
use Rattle.ob_silica_steps.specs.Cells.{Cell, noted, object_in}
use Rattle.ob_silica_steps.specs.Configurations.{SlotCells}
use Rattle.ob_silica_steps.specs.Here.{Here, self_of, set_permission, hand}
use Rattle.ob_coherent_spec.specs.Counting.{Counted, any, in_cell}
use Rattle.ob_soundness_laws.proofs.counting.Sums.{at_same, at_other}
use Rattle.ob_soundness_laws.proofs.counting.Cells.{cell_other, cell_counted, cell_uncounted, cell_noted, cell_noted_less, cell_less}
use Rattle.ob_soundness_laws.proofs.counting.Frames.{self_same}
use Rattle.ob_soundness_laws.proofs.counting.Writing.{IsLow, cell_at, in_here, here_permission, here_hand}

-- a slot with another permission refers to the same object
pub noted_refers_same : (q : Permission) (slots : SlotCells) (k : ℕ)
    → self_of (at slots k (option_map (noted q) (slots k))) ≡ self_of slots
noted_refers_same q slots k = ⊎_elim
    (λ e. self_same slots (at slots k (option_map (noted q) (slots k)))
    (ap object_in (ap (at slots k (option_map (noted q) (slots k))) e.1
    ∙ at_same slots k (option_map (noted q) (slots k)))
    ∙ go (slots k) ∙ ap (λ i. object_in (slots i)) (sym e.1)))
    (λ e. self_same slots (at slots k (option_map (noted q) (slots k)))
    (ap object_in (at_other slots k (option_map (noted q) (slots k)) 0 e.1)))
    (eqb_tells 0 k)
  where
    go : (x : Option Cell) → object_in (option_map (noted q) x) ≡ object_in x
    go None = refl
    go (Some x) = refl

pub self_permission : (p : Location) (q : Permission) (h : Here) → self_of (set_permission p q h).slots
    ≡ self_of h.slots
self_permission (slot k) q h = noted_refers_same q h.slots k
self_permission (field k) q h = refl

pub permission_handles : (p : Location) (q : Permission) (h : Here) → (set_permission p q h).notes.handles
    ≡ h.notes.handles
permission_handles (slot k) q h = refl
permission_handles (field k) q h = refl

pub permission_world : (p : Location) (q : Permission) (h : Here) → (set_permission p q h).world ≡ h.world
permission_world (slot k) q h = refl
permission_world (field k) q h = refl

-- A place with this cell gets a permission.

module _ (p : Location) (q : Permission) (h : Here) (low : IsLow p) (there : self_of h.slots < length h.world.objects)
    (x : Cell) (found : cell_at h p ≡ Some x) where
  pub permission_counts : (counts : Counted) (n : ℕ) → in_here counts n (set_permission p q h) + in_cell counts n
      (Some x)
      ≡ in_here counts n h + in_cell counts n (Some (noted q x))
  permission_counts counts n =
      subst (λ y. in_here counts n (set_permission p q h) + in_cell counts n y
      ≡ in_here counts n h + in_cell counts n (option_map (noted q) y))
      found (here_permission counts n p q h low there)

  -- of another object nothing changes
  pub permission_other : (counts : Counted) (n : ℕ) → x.value ≢ reference n
      → in_here counts n (set_permission p q h) ≡ in_here counts n h
  permission_other counts n other =
      omega (arith, permission_counts counts n, cell_other counts n x other, cell_other counts n (noted q x) other)

  -- permissions that count alike
  pub permission_alike : (counts : Counted) (n : ℕ) → counts q ≡ counts x.note.permission
      → in_here counts n (set_permission p q h) ≡ in_here counts n h
  permission_alike counts n alike = omega (arith, permission_counts counts n, cell_noted counts n q x alike)

  pub permission_less : (counts : Counted) (n : ℕ) → (counts q ≡ true → counts x.note.permission ≡ true)
      → in_here counts n (set_permission p q h) ≤ in_here counts n h
  permission_less counts n less = omega (arith, permission_counts counts n, cell_noted_less counts n q x less)

  -- no reference comes or goes
  pub permission_refers : (n : ℕ) → in_here any n (set_permission p q h) ≡ in_here any n h
  permission_refers n = permission_alike any n refl

  -- what counted counts no more
  pub permission_gone : (counts : Counted) (n : ℕ) → x.value ≡ reference n → counts x.note.permission ≡ true → counts q
      ≡ false
      → in_here counts n (set_permission p q h) + 1 ≡ in_here counts n h
  permission_gone counts n value so not = omega (
    arith,
    permission_counts counts n,
    cell_counted counts n x so value,
    cell_uncounted counts n (noted q x) not,
  )

  -- what didn't count counts
  pub permission_come : (counts : Counted) (n : ℕ) → x.value ≡ reference n → counts x.note.permission
      ≡ false → counts q ≡ true
      → in_here counts n (set_permission p q h) ≡ in_here counts n h + 1
  permission_come counts n value not so = omega (
    arith,
    permission_counts counts n,
    cell_uncounted counts n x not,
    cell_counted counts n (noted q x) so value,
  )

-- A place with this cell is handed over.

-- what a giver keeps, and what is got, count together at most what the place had, where it owns what an owner gets
pub handed_owners : (v : Value) (k l : Kind) (p q : Permission) (n : ℕ) → (owns q ≡ true → owns p ≡ true)
    → in_cell owns n (Some (record { value = v; note = known k (kept p q) })) + in_cell owns n
    (Some (record { value = v; note = known l q }))
    ≤ in_cell owns n (Some (record { value = v; note = known k p }))
handed_owners v k l p unowned n less = omega arith
handed_owners v k l p shared n less = omega arith
handed_owners v k l p (owned b) n less = omega (
  arith,
  cell_less owns n (record { value = v; note = known l (owned b) }) (record { value = v; note = known k p }) refl less,
)

-- and as much as the place had, unless it owned what comes into a place declared Shared
pub handed_same : (v : Value) (k l : Kind) (p q : Permission) (n : ℕ) → (owns q ≡ true → owns p ≡ true)
    → (q ≡ shared → owns p ≡ false)
    → in_cell owns n (Some (record { value = v; note = known k (kept p q) })) + in_cell owns n
    (Some (record { value = v; note = known l q }))
    ≡ in_cell owns n (Some (record { value = v; note = known k p }))
handed_same v k l p unowned n less unless = omega arith
handed_same v k l p shared n less unless =
    omega (arith, cell_uncounted owns n (record { value = v; note = known k p }) (unless refl))
handed_same v k l p (owned b) n less unless = omega (
  arith,
  cell_less owns n (record { value = v; note = known l (owned b) }) (record { value = v; note = known k p }) refl less,
  cell_less owns n (record { value = v; note = known k p }) (record { value = v; note = known l (owned b) }) refl
      (λ e. refl),
)

module _ (of : ResolvedType) (p : Location) (h : Here) (low : IsLow p)
    (there : self_of h.slots < length h.world.objects)
    (x : Cell) (found : cell_at h p ≡ Some x) where
  pub hand_counts : (counts : Counted) (n : ℕ) → in_here counts n (hand of p x h) + in_cell counts n (Some x)
      ≡ in_here counts n h + in_cell counts n (Some (noted (kept x.note.permission (permission_of_type of)) x))
  hand_counts counts n =
      subst (λ y. in_here counts n (hand of p x h) + in_cell counts n y
      ≡ in_here counts n h + in_cell counts n (option_map (noted (kept x.note.permission (permission_of_type of))) y))
      found (here_hand counts n of p x h low there)

  pub hand_refers : (n : ℕ) → in_here any n (hand of p x h) ≡ in_here any n h
  hand_refers n = omega (arith, hand_counts any n)

  -- with what is got there are no more owners than before
  pub hand_owners : (k : Kind) (n : ℕ) → (owns (permission_of_type of) ≡ true → owns x.note.permission ≡ true)
      → in_here owns n (hand of p x h) + in_cell owns n
      (Some (record { value = x.value; note = known k (permission_of_type of) }))
      ≤ in_here owns n h
  hand_owners k n less = omega (
    arith,
    hand_counts owns n,
    handed_owners x.value x.note.kind k x.note.permission (permission_of_type of) n less,
  )

  -- and as many, unless an owner comes into a place declared Shared
  pub hand_owners_same : (k : Kind) (n : ℕ) → (owns (permission_of_type of) ≡ true → owns x.note.permission ≡ true)
      → (permission_of_type of ≡ shared → owns x.note.permission ≡ false)
      → in_here owns n (hand of p x h) + in_cell owns n
      (Some (record { value = x.value; note = known k (permission_of_type of) }))
      ≡ in_here owns n h
  hand_owners_same k n less unless = omega (
    arith,
    hand_counts owns n,
    handed_same x.value x.note.kind k x.note.permission (permission_of_type of) n less unless,
  )
