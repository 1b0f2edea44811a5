-- When a batch is answered in its own order (this project's own).
use Rattle.std.specs.Prelude.{◌≡◌, ◌⊎◌, ℕ, List, length, map, slice_get, Option, Some, Ok as Fine}
use Rattle.std.specs.List.{range_with_len}
use Rattle.ob_code.specs.declared.image.Image.{Image}
use Rattle.ob_invocation_spec.specs.Requests as asked
use Rattle.ob_rest_spec.specs.AtRest.{IsStoreAtRest}
use Rattle.ob_store.specs.Stores.{program_of}
use Rattle.ob_store_spec.specs.Stores.{StoreProgram, StoreState}
use Rattle.ob_wire.specs.Meanings.{request_of}
use Rattle.ob_wire.specs.declared.request.Incoming.TheVariants.{Batch}
use Rattle.ob_wire.specs.declared.request.Request.{Request}
use Rattle.ob_serve.specs.Asked.{asked_by}
use Rattle.ob_serve.specs.Batches.{commit_order}
use Rattle.ob_serve.specs.declared.limits.Limits.{Limits}

-- all requests of a batch are of one client
abbrev pub AreOfOneClient : List asked.Request → Type 0
AreOfOneClient batch = (n m : ℕ) (p q : asked.Request) → slice_get batch n ≡ Some p → slice_get batch m ≡ Some q → p.who ≡ q.who

-- Where there is one lane, or all its requests are of one client, each batch that a line asks is answered in its own order, on whatever store
-- at rest, and wherever the store is kept.
abbrev pub KeepsOrderOfBatches : StoreProgram → Image → Limits → Type 0
KeepsOrderOfBatches program code limits =
    (area : Option ℕ) (s : StoreState) (line : List ℕ) (batch : List Request) → IsStoreAtRest program.table s.content
    → asked_by line ≡ Fine (Batch batch) → (limits.lanes ≡ 1) ⊎ AreOfOneClient (map request_of batch)
    → commit_order (program_of code) code limits area s (map request_of batch) ≡ range_with_len 0 (length batch)
