-- What the places count while a call hands values over, and where its body begins.
use Rattle.std.proofs.Common.{◌≡◌, ℕ, ◌+◌, ◌<◌, ◌≤◌, true, false, List, ◌∷◌, length, Option, Some, None, refl, ap, arith}
use Rattle.ob_base.specs.Limits.{most_slots}
use Rattle.ob_base.specs.declared.id.ContractId.{ContractId}
use Rattle.ob_perm.specs.Permissions.{shared, owns}
use Rattle.ob_table.specs.Tables.{ClassTable}
use Rattle.ob_table.specs.declared.contract.ResolvedType.{ResolvedType}
use Rattle.ob_table_spec.specs.WellFormed.{kind_of_resolved}
use Rattle.ob_heap_spec.specs.Values.{nothing}
use Rattle.ob_heap_spec.specs.Objects.{unfinished}
use Rattle.ob_heap_spec.specs.Worlds.{World, make_object}
use Rattle.ob_silica_places.specs.Known.{at, permission_of_type}
use Rattle.ob_silica_places.specs.Places.{Location}
use Rattle.ob_silica_places.specs.Parameters.{Parameter}
use Rattle.ob_silica_steps.specs.Cells.{Cell}
use Rattle.ob_silica_steps.specs.Configurations.{SlotCells, Waiting, Notes, Configuration}
use Rattle.ob_silica_steps.specs.Here.{Here, self_of, hand}
use Rattle.ob_silica_steps.specs.Binding.{bound_cell, Bound, bind_one}
use Rattle.ob_coherent_spec.specs.Counting.{Counted, any, in_cell, in_slots, in_objects, in_waiting}
use Rattle.ob_coherent_spec.specs.Runs.{around, entered_among, entries, constructing_among, constructions, locks_around, locks_among, locks_entry, locks, tests_in, tests_among, open_tests}
use Rattle.ob_soundness_laws.proofs.counting.Cells.{cell_alike}
use Rattle.ob_soundness_laws.proofs.counting.Places.{slots_at, no_slots, objects_make}
use Rattle.ob_soundness_laws.proofs.counting.Frames.{entered_at_same, constructing_at_same, tests_in_same}
use Rattle.ob_soundness_laws.proofs.counting.Writing.{IsLow, cell_at, in_here}
use Rattle.ob_soundness_laws.proofs.counting.Permitting.{hand_refers, hand_owners, hand_owners_same, self_permission, permission_handles}

-- Values are handed over.

-- slots of which none is set
pub nothing_counts : (counts : Counted) (n : ℕ) → in_slots counts n nothing ≡ 0
nothing_counts counts n = no_slots counts n nothing (λ k. refl)

-- what the caller is left with and what is bound so far
abbrev pub in_bound : Counted → ℕ → Bound → ℕ
in_bound counts n b = in_here counts n b.from + in_slots counts n b.slots

pub hand_self : (of : ResolvedType) (p : Location) (x : Cell) (h : Here) → self_of (hand of p x h).slots
    ≡ self_of h.slots
hand_self of p x h = self_permission p _ _

pub hand_handles : (of : ResolvedType) (p : Location) (x : Cell) (h : Here) → (hand of p x h).notes.handles
    ≡ h.notes.handles
hand_handles of p x h = permission_handles p _ _

module _ (table : ClassTable) (b : Bound) (place : Location) (x : Cell) (k : ℕ) (p : Parameter) (low : IsLow place)
    (there : self_of b.from.slots < length b.from.world.objects) (found : cell_at b.from place ≡ Some x)
    (few : k < most_slots) (unset : b.slots k ≡ None) where
  bound_more : (counts : Counted) (n : ℕ) → in_slots counts n (at b.slots k (Some (bound_cell p.of x.value)))
      ≡ in_slots counts n b.slots + in_cell counts n (Some (bound_cell p.of x.value))
  bound_more counts n = omega (
    arith,
    slots_at counts n b.slots k (Some (bound_cell p.of x.value)) few,
    ap (in_cell counts n) unset,
  )

  -- there are no more owners than before
  pub bind_owners : (n : ℕ) → (owns (permission_of_type p.of) ≡ true → owns x.note.permission ≡ true)
      → in_bound owns n (bind_one table b place x k p) ≤ in_bound owns n b
  bind_owners n less = omega (
    arith,
    bound_more owns n,
    hand_owners p.of place b.from low there x found (kind_of_resolved p.of) n less,
  )

  -- and as many, unless an owner comes into a parameter declared Shared
  pub bind_owners_same : (n : ℕ) → (owns (permission_of_type p.of) ≡ true → owns x.note.permission ≡ true)
      → (permission_of_type p.of ≡ shared → owns x.note.permission ≡ false)
      → in_bound owns n (bind_one table b place x k p) ≡ in_bound owns n b
  bind_owners_same n less unless = omega (
    arith,
    bound_more owns n,
    hand_owners_same p.of place b.from low there x found (kind_of_resolved p.of) n less unless,
  )

  pub bind_refers : (n : ℕ) → in_bound any n (bind_one table b place x k p) ≡ in_bound any n b + in_cell any n (Some x)
  bind_refers n = omega (arith, bound_more any n, hand_refers p.of place b.from low there x found n)

-- The body begins.

-- a caller that waits above others
pub waiting_more : (counts : Counted) (n : ℕ) (h : Waiting) (hs : List Waiting)
    → in_waiting counts n (h ∷ hs) ≡ in_slots counts n h.frame.slots + in_waiting counts n hs
waiting_more counts n h hs = refl

-- slot 0 holds the same value with another note
pub this_alike : (counts : Counted) (n : ℕ) (slots : SlotCells) (x y : Cell) → slots 0 ≡ Some x → y.value ≡ x.value
    → counts y.note.permission ≡ counts x.note.permission → 0 < most_slots
    → in_slots counts n (at slots 0 (Some y)) ≡ in_slots counts n slots
this_alike counts n slots x y set value alike some = omega (
  arith,
  slots_at counts n slots 0 (Some y) some,
  ap (in_cell counts n) set,
  cell_alike counts n y x value alike,
)

-- slot 0 was unset
pub this_more : (counts : Counted) (n : ℕ) (slots : SlotCells) (y : Cell) → slots 0 ≡ None → 0 < most_slots
    → in_slots counts n (at slots 0 (Some y)) ≡ in_slots counts n slots + in_cell counts n (Some y)
this_more counts n slots y unset some =
    omega (arith, slots_at counts n slots 0 (Some y) some, ap (in_cell counts n) unset)

pub some_slots : 0 < most_slots
unfolding most_slots
some_slots = omega arith

-- a new object has no values
pub unfinished_counts : (counts : Counted) (n : ℕ) (notes : Notes) (w : World) (contract : ContractId)
    → in_objects counts n notes (make_object w (unfinished contract)).objects ≡ in_objects counts n notes w.objects
unfinished_counts counts n notes w contract = objects_make counts n notes w (unfinished contract) (λ k. refl)

-- What the frames of a caller that waits are among the others.

module _ (n : ℕ) (c : Configuration) (h : Waiting) (how : h.frame.how ≡ c.frame.how)
    (self : self_of h.frame.slots ≡ self_of c.frame.slots) where
  pub entered_below : entered_among n (h ∷ c.stack) ≡ entries n c
  entered_below = omega (arith, entered_at_same n c.frame.how h.frame.how c.frame.slots h.frame.slots how self)

  pub constructing_below : constructing_among n (h ∷ c.stack) ≡ constructions n c
  constructing_below =
      omega (arith, constructing_at_same n c.frame.how h.frame.how c.frame.slots h.frame.slots how self)

  pub tests_below : h.outer ≡ around c.control → tests_among n (h ∷ c.stack) ≡ open_tests n c
  tests_below outer = omega (
    arith,
    ap (tests_in n h.frame.slots) outer,
    tests_in_same n c.frame.slots h.frame.slots (around c.control) self,
  )

  pub locks_below : (entry : Option ℕ) → h.outer ≡ around c.control → locks_among n (h ∷ c.stack) + locks_entry entry n
      ≡ locks entry n c
  locks_below entry outer = omega (arith, ap (locks_around n) outer)
