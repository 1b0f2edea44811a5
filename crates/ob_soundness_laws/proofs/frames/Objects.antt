-- What is so of all objects, where one changes and others are new.
use Rattle.std.proofs.Common.{◌≡◌, ◌≢◌, ℕ, ◌<◌, ◌≤◌, ◌⊎◌, inl, inr, ⊎_elim, true, List, [], ◌∷◌, length, Option, sym, subst, arith}
use Rattle.std.proofs.lemmas.Bool.{cases_lt}
use Rattle.std.proofs.lemmas.Bool.Decides.{eqb_tells}
use Rattle.ob_perm.specs.Permissions.{owns}
use Rattle.ob_table.specs.Tables.{ClassTable}
use Rattle.ob_table_spec.specs.Conditions.{IsClassTable}
use Rattle.ob_heap_spec.specs.Objects.{Object}
use Rattle.ob_silica_steps.specs.Configurations.{HandleNote, Configuration}
use Rattle.ob_coherent_spec.specs.Counting.{nth_object, field_cell, in_fields}
use Rattle.ob_coherent_spec.specs.Runs.{entries, constructions}
use Rattle.ob_coherent_spec.specs.Standing.{AllStand, IsObjectInRun, NeedsOwner, HandlesStand}
use Rattle.ob_coherent_spec.specs.Coherent.{Beginning, IsAsDeclared, Holds}
use Rattle.ob_soundness_laws.proofs.frames.Near.{IsNear}
use Rattle.ob_soundness_laws.proofs.frames.Others.{no_field, fields_near, object_near, declared_near}

-- What is so of an object in a configuration: its fields stand, it is one in a run, and it is as declared where no
-- frame
-- has it.
pub record ObjectHolds (table : ClassTable) (d : Configuration) (n : ℕ) : Type 0 where
  pub stand : AllStand table d.world.objects (field_cell d.notes d.world.objects n)
  pub object : IsObjectInRun table d.notes n (nth_object d.world.objects n)
  pub declared : entries n d ≡ 0 → constructions n d ≡ 0
      → IsAsDeclared table (NeedsOwner table d.world.objects) d.notes d.world.objects n

-- The same of all objects, and that handles stand.
pub record ObjectsHold (table : ClassTable) (d : Configuration) : Type 0 where
  pub fields : (n : ℕ) → AllStand table d.world.objects (field_cell d.notes d.world.objects n)
  pub handles : HandlesStand d.world.objects d.notes.handles
  pub objects : (n : ℕ) → n < length d.world.objects → IsObjectInRun table d.notes n (nth_object d.world.objects n)
  pub declared : (n : ℕ) → n < length d.world.objects → entries n d ≡ 0 → constructions n d ≡ 0
      → IsAsDeclared table (NeedsOwner table d.world.objects) d.notes d.world.objects n

-- handles stand where there are no fewer objects and no fewer marks
pub handles_near : (before after : List Object) (hs : List HandleNote) → length before ≤ length after
    → ((n : ℕ) → (nth_object before n).shared ≡ true → (nth_object after n).shared ≡ true)
    → HandlesStand before hs → HandlesStand after hs
handles_near before after [] more marks a = tt
handles_near before after (h ∷ hs) more marks a = (
  record {
    there = let below = a.0.there in omega (arith, below, more);
    marked = λ e. marks h.object (a.0.marked e);
  },
  handles_near before after hs more marks a.1,
)

-- All objects hold where the one that changes and the new ones do, and where each other one that no frame has was
-- had by
-- none before. No field of another object owns the one whose state changes.
pub objects_hold : (table : ClassTable) (entry : Option ℕ) (beginning : Beginning) (i : ℕ) (stays : ℕ → Type 0)
    (c d : Configuration)
    → IsNear table i stays (NeedsOwner table c.world.objects) (NeedsOwner table d.world.objects) c d
    → IsClassTable table
    → Holds table entry beginning c → d.notes.handles ≡ c.notes.handles
    → ((n : ℕ) → n ≢ i → ((nth_object d.world.objects i).state ≡ (nth_object c.world.objects i).state)
    ⊎ (in_fields owns i c.notes c.world.objects n ≡ 0))
    → ((n : ℕ) → (n ≡ i) ⊎ (length c.world.objects ≤ n) → n < length d.world.objects → ObjectHolds table d n)
    → ((n : ℕ) → n < length c.world.objects → n ≢ i → entries n d ≡ 0 → constructions n d ≡ 0
    → (entries n c ≡ 0) × (constructions n c ≡ 0))
    → ObjectsHold table d
objects_hold table entry beginning i stays c d near t k handles free changed idle = record {
  fields = λ n. ⊎_elim (λ below. (each n below).stand) (λ past. no_field table d.world.objects n d.notes past)
      (cases_lt n (length d.world.objects));
  handles = subst (HandlesStand d.world.objects) (sym handles)
      (handles_near c.world.objects d.world.objects c.notes.handles near.count near.shared k.handles);
  objects = λ n below. (each n below).object;
  declared = λ n below. (each n below).declared;
}
  where
    each : (n : ℕ) → n < length d.world.objects → ObjectHolds table d n
    each n below = ⊎_elim
        (λ e. changed n (inl e.1) below)
        (λ e. ⊎_elim (λ there. other there e.1) (λ past. changed n (inr past) below)
        (cases_lt n (length c.world.objects)))
        (eqb_tells n i)
      where
        other : n < length c.world.objects → n ≢ i → ObjectHolds table d n
        other there ne = record {
          stand = fields_near table i stays _ _ c d near t n there ne (k.objects n there) (free n ne);
          object = object_near table i stays _ _ c d near n there ne (k.objects n there);
          declared = λ none new. let was = idle n there ne none new in
              declared_near table i stays _ _ c d near n there ne (k.declared n there was.0 was.1);
        }
