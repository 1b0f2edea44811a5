-- Where the objects of a world stay, and locks, units or what was read change, a frame's places are as they were.
use Rattle.std.proofs.Common.{◌≡◌, ℕ, Bool, refl, sym, ap, subst}
use Rattle.ob_table.specs.Tables.{ClassTable}
use Rattle.ob_heap_spec.specs.Worlds.{World}
use Rattle.ob_silica_places.specs.Places.{Location, slot, field}
use Rattle.ob_silica_steps.specs.Configurations.{SilicaFrame}
use Rattle.ob_silica_steps.specs.Here.{Here, read}
use Rattle.ob_flow_spec.specs.Contexts.{BodyFrame, Context}
use Rattle.ob_coherent_spec.specs.Saying.{Says}
use Rattle.ob_coherent_spec.specs.Remaining.{BodyParts}
use Rattle.ob_soundness_laws.specs.places.Placed.{cell_at, Sits}

module _ (h : Here) (w : World) (same : w.objects ≡ h.world.objects) where
  pub sits_alike : (table : ClassTable) (f : SilicaFrame) (parts : BodyParts) (g : Context) → Sits table f parts h g
      → Sits table f parts (record h { world = w }) g
  sits_alike table f parts g k = subst (λ os. Sits table f parts (record h { world = record w { objects = os } }) g)
      (sym same) (record {
        frame = k.frame;
        slots = k.slots;
        fields = k.fields;
        object = k.object;
        says = record { slots = k.says.slots; fields = k.says.fields; mode = k.says.mode };
        placed = k.placed;
        owns_made = k.owns_made;
      })

  pub says_alike : (b : BodyFrame) (N : ℕ → Type 0) (g : Context) (free : Location → Bool) → Says b N g h free
      → Says b N g (record h { world = w }) free
  says_alike b N g free k = subst (λ os. Says b N g (record h { world = record w { objects = os } }) free) (sym same)
      (record { slots = k.slots; fields = k.fields; mode = k.mode })

  pub cells_alike : (p : Location) → cell_at (record h { world = w }) p ≡ cell_at h p
  cells_alike (slot k) = refl
  cells_alike (field k) = ap (λ os. cell_at (record h { world = record w { objects = os } }) (field k)) same

  pub reads_alike : (table : ClassTable) (p : Location) → read table (record h { world = w }) p ≡ read table h p
  reads_alike table (slot k) = refl
  reads_alike table (field k) = ap (λ os. read table (record h { world = record w { objects = os } }) (field k)) same
