-- No place refers to an object that isn't there.
use Rattle.std.proofs.Common.{◌≡◌, ℕ, zero, suc, ◌+◌, ◌<◌, ◌≤◌, List, [], ◌∷◌, length, Option, Some, refl, subst, arith}
use Rattle.ob_perm.specs.Permissions.{owns}
use Rattle.ob_table.specs.Tables.{ClassTable}
use Rattle.ob_table.specs.declared.seen.Kind.{Kind}
use Rattle.ob_table.specs.declared.seen.Kind.TheVariants.{Int, Bool as BoolKind, Text, Reference}
use Rattle.ob_heap_spec.specs.Values.{reference}
use Rattle.ob_heap_spec.specs.Objects.{Object}
use Rattle.ob_silica_steps.specs.Cells.{Cell}
use Rattle.ob_silica_steps.specs.Configurations.{SlotCells, SilicaFrame, Waiting, HandleNote, Notes, Configuration}
use Rattle.ob_silica_steps.specs.Here.{self_of}
use Rattle.ob_coherent_spec.specs.Counting.{field_cell, any, in_cell, in_slots, in_objects, in_handles, in_waiting, in_control, owners, references}
use Rattle.ob_coherent_spec.specs.Runs.{around}
use Rattle.ob_coherent_spec.specs.Standing.{IsOfKind, Stands, AllStand, HandlesStand, NeedsOwner}
use Rattle.ob_coherent_spec.specs.Remaining.{BodyParts}
use Rattle.ob_coherent_spec.specs.Waiting.{AllWait, tests_of}
use Rattle.ob_coherent_spec.specs.Coherent.{Beginning, Holds}
use Rattle.ob_soundness_laws.proofs.counting.Cells.{counted_place}
use Rattle.ob_soundness_laws.proofs.counting.Places.{no_slots, no_objects, all_refer}
use Rattle.ob_soundness_laws.proofs.counting.Numbers.{one_other}

-- a reference of a kind is to an object that is there
pub refers_there : (table : ClassTable) (objects : List Object) (kind : Kind) (n : ℕ)
    → IsOfKind table objects kind (reference n)
    → n < length objects
refers_there table objects Int n of = absurd of
refers_there table objects BoolKind n of = absurd of
refers_there table objects Text n of = absurd of
refers_there table objects (Reference id) n of = of.0

-- a cell that stands refers to an object that is there
pub stands_there : (table : ClassTable) (objects : List Object) (x : Cell) (n : ℕ) → Stands table objects x → x.value
    ≡ reference n
    → n < length objects
stands_there table objects x n stands value =
    refers_there table objects x.note.kind n (subst (IsOfKind table objects x.note.kind) value stands.kind)

module _ (table : ClassTable) (objects : List Object) (n : ℕ) (past : length objects ≤ n) where
  pub cell_past : (x : Option Cell) → ((y : Cell) → x ≡ Some y → Stands table objects y) → in_cell any n x ≡ 0
  cell_past x stands = go (in_cell any n x) refl
    where
      go : (m : ℕ) → in_cell any n x ≡ m → m ≡ 0
      go zero e = refl
      go (suc m) e = let r = counted_place any n x (omega arith) in
          absurd (omega (arith, stands_there table objects r.0 n (stands r.0 r.1) r.3))

  pub slots_past : (slots : SlotCells) → AllStand table objects slots → in_slots any n slots ≡ 0
  slots_past slots stand = no_slots any n slots (λ k. cell_past (slots k) (stand k))

  pub objects_past : (notes : Notes) → ((i : ℕ) → AllStand table objects (field_cell notes objects i))
      → in_objects any n notes objects ≡ 0
  objects_past notes stand = no_objects any n notes objects
      (λ i k. cell_past (field_cell notes objects i k) (stand i k))

  pub handles_past : (hs : List HandleNote) → HandlesStand objects hs → in_handles any n hs ≡ 0
  handles_past [] stand = refl
  handles_past (h ∷ hs) stand =
      omega (arith, handles_past hs stand.1, one_other h.object n (λ e. absurd (omega (arith, stand.0.there, e))))

  pub waiting_past : (N : ℕ → Type 0) (c : Configuration) → c.world.objects ≡ objects
      → (callee : SilicaFrame) (called : BodyParts) (above : List ℕ) (tests : ℕ → ℕ) (hs : List Waiting)
      → AllWait table N c callee called above tests hs → in_waiting any n hs ≡ 0
  waiting_past N c same callee called above tests [] waits = refl
  waiting_past N c same callee called above tests (h ∷ hs) waits =
      omega (
        arith,
        slots_past h.frame.slots (subst (λ l. AllStand table l h.frame.slots) same waits.0.cells),
        waiting_past N c same h.frame waits.0.parts (self_of h.frame.slots ∷ above)
            (λ n. tests_of n h.frame.slots h.outer + tests n) hs waits.1,
      )

-- Nothing refers to the next object, or owns it.

module _ (table : ClassTable) (entry : Option ℕ) (beginning : Beginning) (c : Configuration)
    (holds : Holds table entry beginning c)
    (n : ℕ) (past : length c.world.objects ≤ n) where
  pub references_past : in_control any n c.control ≡ 0 → references n c ≡ 0
  references_past none = omega (
    arith,
    none,
    slots_past table c.world.objects n past c.frame.slots holds.slots,
    objects_past table c.world.objects n past c.notes holds.fields,
    handles_past table c.world.objects n past c.notes.handles holds.handles,
    waiting_past table c.world.objects n past (NeedsOwner table c.world.objects) c refl c.frame holds.parts
        (self_of c.frame.slots ∷ [])
        (λ n. tests_of n c.frame.slots (around c.control)) c.stack holds.waiting,
  )

  pub owners_past : in_control any n c.control ≡ 0 → owners n c ≡ 0
  owners_past none = omega (arith, references_past none, all_refer owns n c)
