-- The invocation by emitted code (this project's own).
use Rattle.std.specs.Prelude.{◌≡◌, ℕ, List}
use Rattle.ob_table.specs.Tables.{ClassTable}
use Rattle.ob_table_spec.specs.Conditions.{IsClassTable}
use Rattle.ob_heap_spec.specs.Contents.{Content}
use Rattle.ob_invocation_spec.specs.Invocation.{invoke}
use Rattle.ob_invocation_spec.specs.Requests.{Request}
use Rattle.ob_silica.specs.Terms.{SilicaBody}
use Rattle.ob_machine_meaning.specs.Meanings.{machine_meaning, machine_invocation}
use Rattle.ob_emit_spec.specs.EmittedImages.{image_of}

-- the invocation by emitted code is that by its program's class table, where a `new` and a `call` run the code
abbrev pub InvocationsByEmittedCode : Type 0
InvocationsByEmittedCode =
    (table : ClassTable) (bodies : List SilicaBody) → IsClassTable table → (content : Content) (request : Request) (fuel : ℕ)
    → machine_invocation (image_of table bodies) content request fuel
    ≡ invoke (machine_meaning (image_of table bodies)) table content request fuel
