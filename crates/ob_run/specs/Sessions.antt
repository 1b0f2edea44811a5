-- The sessions of a program that is served (this project's own).
use Rattle.std.specs.Prelude.{ℕ, pos, ◌+◌, ◌≡◌, ◌≢◌, List, Option, Some, None}
use Rattle.ob_base.specs.Limits.{most_taken, area_bytes}
use Rattle.ob_table.specs.Tables.{ClassTable}
use Rattle.ob_silica.specs.Terms.{SilicaBody}
use Rattle.ob_code.specs.Images.{image}
use Rattle.ob_emit_spec.specs.EmittedImages.{image_of}
use Rattle.ob_disk_spec.specs.Disk.{DiskView, Reads}
use Rattle.ob_disk_spec.specs.Calls.{IsUntouched}
use Rattle.ob_front.specs.Programs.{IsProgram}
use Rattle.ob_heap_spec.specs.Contents.{empty_content}
use Rattle.ob_io.specs.Told.{TakesAtMost}
use Rattle.ob_rest_spec.specs.AtRest.{IsStoreAtRest}
use Rattle.ob_store_spec.specs.Stores.{StoreProgram, StoreState, IsStoreOf}
use Rattle.ob_serve.specs.Items.{by_source, items_of_line}
use Rattle.ob_serve.specs.Kept.{KeepsSessions, KeepsOrders}
use Rattle.ob_serve.specs.Session.{SessionItem, items_from}
use Rattle.ob_serve.specs.Served.{Ends}
use Rattle.ob_outside.specs.Devices.{Devices}
use Rattle.ob_serve.specs.Standing.{RepresentsStore}
use Rattle.ob_serve.specs.declared.limits.Limits.{Limits}
use Rattle.ob_serve.specs.declared.serving.Served.{Served}
use Rattle.ob_serve.specs.declared.serving.Served.TheVariants.{DiskFault}
use Rattle.ob_words.specs.Asked.{Command, check, serve, serve_stored, audit, trial, Asked}
use Rattle.ob_run.specs.Survival.{Survives}

-- how many bytes both areas of a store have on a disk
abbrev pub both_areas : ℕ
both_areas = area_bytes + area_bytes

-- the size of the areas in which a command's store is kept: one in memory has none
abbrev pub area_for : Command → Option ℕ
area_for (check name) = None
area_for (serve name) = None
area_for (serve_stored name store) = Some area_bytes
area_for (audit name store) = Some area_bytes
area_for (trial length) = None

-- a program, as a store knows it: by its class table, and the bytes of its image
abbrev pub program_with : ClassTable → List SilicaBody → StoreProgram
program_with table bodies = record { table = table; image = image.bytes (image_of table bodies) }

-- a store in memory, at first
abbrev pub store_in_memory : StoreState
store_in_memory = record { content = empty_content; gate = 0; serial = pos 0 }

-- the store on which a command's session begins: an empty one in memory, or the one, at rest, that the disk represents
abbrev pub BeginsAt : Command → StoreProgram → DiskView → StoreState → Type 0
BeginsAt (check name) program disk start = ⊥
BeginsAt (serve name) program disk start = start ≡ store_in_memory
BeginsAt (serve_stored name store) program disk start =
    IsStoreAtRest program.table start.content × ((c : List ℕ) → Reads disk c → IsStoreOf program area_bytes c start)
BeginsAt (audit name store) program disk start = ⊥
BeginsAt (trial length) program disk start = ⊥

-- the limits of a session, as the words have them
abbrev pub session_limits : Asked → Limits
session_limits asked = record { fuel = asked.limits.fuel; lanes = asked.limits.lanes; slice = asked.limits.slice }

-- The items of a line: it is answered by the source meaning of a program, with the limits that are asked for, on the store that the line
-- before left.
abbrev pub source_items : Asked → ClassTable → List SilicaBody → StoreState → List ℕ → List (SessionItem StoreState)
source_items asked table bodies =
    items_of_line (by_source (program_with table bodies) (image_of table bodies) (session_limits asked) (area_for asked.command))

-- bytes of a disk represent the store of a command's session
abbrev pub StandsOnDisk : Command → ClassTable → List SilicaBody → StoreState → List ℕ → Type 0
StandsOnDisk command table bodies = RepresentsStore (program_with table bodies) (area_for command)

-- No item of any lines goes wrong; after each the store is at rest, and each stored asset that was never shared nor disowned has exactly
-- one owner; and a request or line that is refused or aborted changes nothing.
abbrev pub IsKeptAlways : ClassTable → List SilicaBody → Limits → Type 0
IsKeptAlways table bodies limits = KeepsSessions (program_with table bodies) (image_of table bodies) limits

-- Each batch is answered in an order of its requests: each once, and those of a client as they stand in it.
abbrev pub IsOrderedAlways : ClassTable → List SilicaBody → Limits → Type 0
IsOrderedAlways table bodies limits = KeepsOrders (program_with table bodies) (image_of table bodies) limits

-- The text is a program, and a session of it ended so.
pub record ServesProgram (asked : Asked) (text : List ℕ) (before after : Devices) (served : Served) : Type 0 where
  pub table : ClassTable
  pub bodies : List SilicaBody
  pub program : IsProgram text table bodies
  -- the store at which it began
  pub start : StoreState
  pub begins : BeginsAt asked.command (program_with table bodies) before.disk start
  -- of which lines the end speaks, how many were answered, what was written, and what the disk represents
  pub ends : Ends (source_items asked table bodies) (StandsOnDisk asked.command table bodies) start before after served
  -- of the same lines and the same bytes: a crash loses no item of whose reply a byte was written
  pub crash : Survives (StandsOnDisk asked.command table bodies) start (items_from (source_items asked table bodies) start ends.lines) ends.given before.disk after.disk
  -- what each item keeps, whatever the lines are
  pub kept : IsKeptAlways table bodies (session_limits asked)
  -- in which order the requests of a batch are answered
  pub ordered : IsOrderedAlways table bodies (session_limits asked)
  -- over a store in memory no call of the disk was made, so none failed
  pub spared : area_for asked.command ≡ None → IsUntouched before.disk after.disk × (served ≢ DiskFault)
  -- however it ended, at most `most_taken` bytes of input were taken
  pub few : TakesAtMost before.input after.input most_taken
