-- Sound code: what is so of the image of each program whose terms are well-formed and derive (this project's own).
use Rattle.std.specs.Prelude.{◌≡◌, ℕ, List, All, ⊤}
use Rattle.ob_table.specs.Tables.{ClassTable}
use Rattle.ob_table_spec.specs.WellFormed.{HasBodies}
use Rattle.ob_heap_spec.specs.Contents.{Content}
use Rattle.ob_heap_spec.specs.Worlds.{ReadSame}
use Rattle.ob_silica.specs.Terms.{SilicaBody}
use Rattle.ob_silica_steps.specs.Configurations.{SilicaProgram}
use Rattle.ob_lower_correct.specs.Law.{IsLoweredProgram}
use Rattle.ob_rest_spec.specs.AtRest.{IsStoreAtRest}
use Rattle.ob_invocation_spec.specs.Requests.{Request, HasLabels}
use Rattle.ob_invocation_spec.specs.Replies.{Invoked, Invocation, invoked, goes_wrong}
use Rattle.ob_invocation_spec.specs.Entries.{Entry}
use Rattle.ob_invocation_spec.specs.SourceInvocation.{source_invocation}
use Rattle.ob_invocation_laws.specs.Laws.{KeepsStoreAtRest}
use Rattle.ob_coherent_spec.specs.Remaining.{IsCheckedBody, IsCheckedProgram}
use Rattle.ob_soundness_laws.specs.Requests.{IsEntered}
use Rattle.ob_code.specs.declared.image.Image.{Image}
use Rattle.ob_machine_steps.specs.Entries.{started}
use Rattle.ob_machine_steps.specs.Measures.{LeadsAheadOrToUnit}
use Rattle.ob_code_table.specs.ImageTables.{table_of_image}
use Rattle.ob_machine_meaning.specs.Meanings.{machine_invocation, entry_of_request}
use Rattle.ob_machine_laws.specs.Laws.{IsSoundRun}
use Rattle.ob_emit_spec.specs.EmittedImages.{image_of}

-- a request has come to the same twice: to the same reply and the same content, with as many units taken, and the same items read
pub record SameInvoked (a b : Invoked) : Type 0 where
  pub reply : b.reply ≡ a.reply
  pub content : b.content ≡ a.content
  pub taken : b.taken ≡ a.taken
  pub reads : ReadSame a.reads b.reads

-- the same, or it went wrong twice
abbrev pub SameInvocation : Invocation → Invocation → Type 0
SameInvocation (invoked a) (invoked b) = SameInvoked a b
SameInvocation goes_wrong goes_wrong = ⊤
SameInvocation a b = ⊥

-- Code is sound, where what is at rest and what is entered are said with this class table.
pub record IsSoundBy (table : ClassTable) (image : Image) : Type 0 where
  -- the run of what a request enters in a store at rest, with any number of units, has a next step wherever it isn't over
  pub runs : (content : Content) (fuel : ℕ) (e : Entry) → IsStoreAtRest table content → IsEntered table content e
      → IsSoundRun image (started image (entry_of_request content e) content.objects fuel)
  -- no request on a store at rest goes wrong, and each leaves the store at rest
  pub rests : (content : Content) (request : Request) (fuel : ℕ) → IsStoreAtRest table content → HasLabels request
      → KeepsStoreAtRest table (machine_invocation image content request fuel)

-- Sound code, said of an image alone: with the class table that the image gives.
abbrev pub IsSoundImage : Image → Type 0
IsSoundImage image = IsSoundBy (table_of_image image) image

-- Code goes as its source means: each request on a store at rest comes by it to what it comes to by the source meaning.
pub record GoesAsItsSource (program : SilicaProgram) (image : Image) : Type 0 where
  pub requests : (content : Content) (request : Request) (fuel : ℕ) → IsStoreAtRest program.table content → HasLabels request
      → SameInvocation (source_invocation program.table content request fuel) (machine_invocation image content request fuel)

-- Sound code of a program: its image is sound, and so it is with the class table of the program, and it goes as the program means.
pub record IsSoundCode (program : SilicaProgram) (image : Image) : Type 0 where
  pub alone : IsSoundImage image
  pub by_table : IsSoundBy program.table image
  pub source : GoesAsItsSource program image
  -- each of its jumps leads ahead, or to a `unit`
  pub ahead : LeadsAheadOrToUnit image

-- The image of a class table that meets the conditions and of terms, one for each constructor and transaction, that are well-formed
-- and derive, is sound. Nothing is asked of a source: neither bodies nor a meaning.
abbrev pub CheckedImagesAreSound : Type 0
CheckedImagesAreSound = (program : SilicaProgram) → IsCheckedProgram program → IsSoundImage (image_of program.table program.bodies)

-- So it is with the class table from which it is made, whose names no image has.
abbrev pub CheckedCodeIsSound : Type 0
CheckedCodeIsSound = (program : SilicaProgram) → IsCheckedProgram program → IsSoundBy program.table (image_of program.table program.bodies)

-- Where the terms are also those of well-formed bodies of the class table, one for each constructor and transaction, the code is sound
-- code of the program.
abbrev pub CompiledCodeIsSound : Type 0
CompiledCodeIsSound =
    (table : ClassTable) (bodies : List SilicaBody) → IsLoweredProgram (record { table = table; bodies = bodies })
    → HasBodies table → All (IsCheckedBody table) bodies
    → IsSoundCode (record { table = table; bodies = bodies }) (image_of table bodies)
