-- What each item of a session keeps (Coblenz et al., TOPLAS 42(3), 2020, for assets and their owners; the rest is this project's own).
use Rattle.std.specs.Prelude.{◌≡◌, ℕ, ◌<◌, Bool, true, false, ⊤, List, [], ◌∷◌, map, Option, Some, None, IsSome, Ok as Fine}
use Rattle.ob_table.specs.Tables.{ClassTable}
use Rattle.ob_table_spec.specs.Conditions.{IsClassTable}
use Rattle.ob_code.specs.declared.image.Image.{Image}
use Rattle.ob_code_table.specs.ImageTables.{table_of_image}
use Rattle.ob_emit_spec.specs.EmittedImages.{image_of}
use Rattle.ob_rest_spec.specs.AtRest.{IsStoreAtRest, EachAssetHasOneOwner}
use Rattle.ob_silica_steps.specs.Configurations.{SilicaProgram}
use Rattle.ob_sound_code.specs.SoundCode.{IsSoundImage, IsSoundCode}
use Rattle.ob_store_laws.specs.Recorded.{IsStorable}
use Rattle.ob_store_spec.specs.Stores.{StoreProgram, StoreState}
use Rattle.ob_wire.specs.declared.reply.Answer.{Answer}
use Rattle.ob_wire.specs.declared.reply.Answer.TheVariants.{Ok, Abort, Refused}
use Rattle.ob_wire.specs.declared.reply.Reply.{Reply}
use Rattle.ob_wire.specs.Meanings.{request_of}
use Rattle.ob_wire.specs.declared.request.Incoming.TheVariants.{Batch}
use Rattle.ob_wire.specs.declared.request.Request.{Request}
use Rattle.ob_store.specs.Stores.{program_of}
use Rattle.ob_serve.specs.Asked.{asked_by}
use Rattle.ob_serve.specs.Session.{SessionItem}
use Rattle.ob_serve.specs.declared.limits.Limits.{Limits}
use Rattle.ob_serve.specs.Batches.{commit_order, IsOrderOf}
use Rattle.ob_serve.specs.Items.{by_source, by_machine, items_of}
use Rattle.ob_serve.specs.Standing.{source_program}

-- whether an answer says that a request was done: it was neither refused nor aborted
abbrev pub says_done : Answer → Bool
says_done (Ok outcome) = true
says_done (Abort cause) = false
says_done (Refused refusal) = false

-- whether a request was done
abbrev pub was_done : Option Reply → Bool
was_done None = false
was_done (Some reply) = says_done reply.answer

-- What an item keeps: it doesn't go wrong, the store after it is at rest, each stored asset that is marked neither as shared nor as
-- disowned has exactly one owner, and a line that is refused or aborted changes nothing.
pub record IsKept (table : ClassTable) (before : StoreState) (item : SessionItem StoreState) : Type 0 where
  pub answered : IsSome item.reply
  pub at_rest : IsStoreAtRest table item.after.content
  pub one_owner : EachAssetHasOneOwner table item.after.content
  pub unchanged : was_done item.reply ≡ false → item.after ≡ before

-- each item keeps this, from the store at first on
abbrev pub AreKept : ClassTable → StoreState → List (SessionItem StoreState) → Type 0
AreKept table before [] = ⊤
AreKept table before (item ∷ items) = IsKept table before item × AreKept table item.after items

-- each session of a program keeps this, on whatever store at rest it begins, on whatever lines, and wherever the store is kept
abbrev pub KeepsSessions : StoreProgram → Image → Limits → Type 0
KeepsSessions program code limits =
    (area : Option ℕ) (start : StoreState) (lines : List (List ℕ)) → IsStoreAtRest program.table start.content
    → AreKept program.table start (items_of (by_source program code limits area) start lines)

-- limits under which a batch ends: there is a lane, and a slice has a unit
pub record AreLimits (limits : Limits) : Type 0 where
  pub lanes : 0 < limits.lanes
  pub slice : 0 < limits.slice

-- Each batch that a line asks is answered in an order of its requests, on whatever store at rest, and wherever the store is kept: each
-- once, and those of a client as they stand in it.
abbrev pub KeepsOrders : StoreProgram → Image → Limits → Type 0
KeepsOrders program code limits =
    (area : Option ℕ) (s : StoreState) (line : List ℕ) (batch : List Request) → IsStoreAtRest program.table s.content
    → asked_by line ≡ Fine (Batch batch) → IsOrderOf (map request_of batch) (commit_order (program_of code) code limits area s (map request_of batch))

-- code may be served: its image is sound, and payloads can distinguish its contracts and states
pub record IsServable (image : Image) : Type 0 where
  pub sound : IsSoundImage image
  pub storable : IsStorable (table_of_image image)

-- code is sound for a program: it is that program's code
pub record IsSoundFor (program : SilicaProgram) (image : Image) : Type 0 where
  pub sound : IsSoundCode program image
  pub emitted : image ≡ image_of program.table program.bodies
  pub table : IsClassTable program.table

-- each session goes by the code as by the source meaning: the replies are the same, and so is the store after each
abbrev pub GoesAsSource : SilicaProgram → Image → Limits → Type 0
GoesAsSource program image limits =
    (area : Option ℕ) (start : StoreState) (lines : List (List ℕ)) → IsStoreAtRest program.table start.content
    → items_of (by_machine image limits area) start lines ≡ items_of (by_source (source_program program.table image) image limits area) start lines
