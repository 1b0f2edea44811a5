-- What a running frame finds at a place that its body may read.
use Rattle.std.proofs.Common.{◌≡◌, ℕ, Option, Some, ◌∙◌}
use Rattle.ob_table.specs.Tables.{ClassTable}
use Rattle.ob_table_spec.specs.Conditions.{IsClassTable}
use Rattle.ob_silica_places.specs.Places.{Location}
use Rattle.ob_silica_steps.specs.Cells.{Cell}
use Rattle.ob_silica_steps.specs.Configurations.{Configuration}
use Rattle.ob_silica_steps.specs.Here.{here, self_of, read}
use Rattle.ob_flow_laws.specs.Uses.{CanRead}
use Rattle.ob_coherent_spec.specs.Counting.{nth_object}
use Rattle.ob_coherent_spec.specs.Standing.{Stands, IsObjectInRun, NeedsOwner}
use Rattle.ob_coherent_spec.specs.Remaining.{body_of}
use Rattle.ob_coherent_spec.specs.Coherent.{Beginning, IsRunning}
use Rattle.ob_soundness_laws.specs.places.Placed.{cell_at, Found}
use Rattle.ob_soundness_laws.proofs.places.Finding.{sits_read, cell_stands, found_at as found_in}
use Rattle.ob_soundness_laws.proofs.places.Handing.{sits_holding}

module _ (table : ClassTable) (t : IsClassTable table) (entry : Option ℕ) (beginning : Beginning) (c : Configuration)
    (k : IsRunning table entry beginning c) where
  -- `this` is an object in run
  pub own_in_run : IsObjectInRun table c.notes (self_of c.frame.slots)
      (nth_object c.world.objects (self_of c.frame.slots))
  own_in_run = k.whole.objects (self_of c.frame.slots) k.whole.frame.there

  -- what a place that can be read has
  pub found_at : (p : Location) → CanRead (body_of table c.frame k.whole.parts) k.context p
      → Found (NeedsOwner table c.world.objects) (k.context p) (cell_at (here c) p)
  found_at = found_in table t c.frame k.whole.parts (here c) k.context (sits_holding table entry beginning c k)

  -- a frame reads what stands at a place
  pub reads_it : (p : Location) (x : Cell) → cell_at (here c) p ≡ Some x → read table (here c) p ≡ Some x
  reads_it p x e = sits_read table t c.frame k.whole.parts (here c) k.context (sits_holding table entry beginning c k) p
      ∙ e

  -- what is noted of it is so
  pub stands_at : (p : Location) (x : Cell) → cell_at (here c) p ≡ Some x → Stands table c.world.objects x
  stands_at = cell_stands table t c.frame k.whole.parts (here c) k.context (sits_holding table entry beginning c k)
