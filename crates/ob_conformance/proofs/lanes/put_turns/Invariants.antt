use Rattle.std.proofs.Common.{ℕ, List, Option}
use Rattle.ob_code_table.specs.ImageTables.{table_of_image}
use Rattle.ob_heap.specs.Contents.{content_of}
use Rattle.ob_rest_spec.specs.AtRest.{IsStoreAtRest}
use Rattle.ob_store_spec.specs.Stores.{StoreState}
use Rattle.ob_store.specs.Stores.{StandsOn, kept_of, program_of}
use Rattle.ob_wire.specs.declared.request.Request.{Request}
use Rattle.ob_serve.specs.Turning.{batch_on, CanBeAnswered, AreAsFar}
use Rattle.ob_conformance.proofs.lanes.put_turns.Given as goal

-- the store may have a further turn of the batch
abbrev pub invariant-turns : goal.invariant-turns
invariant-turns g l = record {
  at_rest : IsStoreAtRest (table_of_image l.code) (content_of (kept_of l.store));
  stands : StandsOn (program_of l.code) l.store (g.D.Disk.view l.disk);
  far : (area : Option ℕ) × (start : StoreState) × (requests : List Request) × (turns : ℕ)
      × CanBeAnswered (batch_on l.code l.limits area start requests) × AreAsFar (batch_on l.code l.limits area start requests) turns l.store l.lanes;
}
