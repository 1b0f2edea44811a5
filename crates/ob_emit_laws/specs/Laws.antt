-- What an emitted image says of its program, and that an invocation asks for no more (this project's own).
use Rattle.std.specs.Prelude.{◌≡◌, ℕ, List, All}
use Rattle.ob_table.specs.Tables.{ClassTable}
use Rattle.ob_table_spec.specs.Conditions.{IsClassTable}
use Rattle.ob_heap_spec.specs.Contents.{Content}
use Rattle.ob_invocation_spec.specs.Entering.{Meaning}
use Rattle.ob_invocation_spec.specs.Invocation.{invoke}
use Rattle.ob_invocation_spec.specs.Requests.{Request}
use Rattle.ob_silica.specs.Terms.{SilicaBody}
use Rattle.ob_silica_formed.specs.WellFormedTerms.{IsWellFormedTerms}
use Rattle.ob_code_table.specs.ImageTables.{table_of_image}
use Rattle.ob_machine_steps.specs.Measures.{LeadsAheadOrToUnit}
use Rattle.ob_emit_spec.specs.EmittedImages.{image_of}
use Rattle.ob_emit_laws.specs.Names.{without_names}

-- the class table of an emitted image is that of its program, but for what no image has
abbrev pub EmittedTablesAgree : Type 0
EmittedTablesAgree =
    (table : ClassTable) (bodies : List SilicaBody) → IsClassTable table
    → table_of_image (image_of table bodies) ≡ without_names table

-- an invocation, by whatever meaning, comes to the same without what no image has
abbrev pub InvocationsIgnoreNames : Type 0
InvocationsIgnoreNames =
    (meaning : Meaning) (table : ClassTable) (content : Content) (request : Request) (fuel : ℕ)
    → invoke meaning (without_names table) content request fuel ≡ invoke meaning table content request fuel

-- each jump of an emitted image leads ahead, or to the `unit` with which a turn of a loop begins, where the terms are well-formed
abbrev pub EmittedJumpsLeadAheadOrToUnit : Type 0
EmittedJumpsLeadAheadOrToUnit =
    (table : ClassTable) (bodies : List SilicaBody) → All (IsWellFormedTerms table) bodies → LeadsAheadOrToUnit (image_of table bodies)
