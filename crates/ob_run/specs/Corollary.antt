-- The theorem in short: `serve P STORE`, where all bytes are observable (this project's own).
use Rattle.std.specs.Prelude.{ℕ, ◌≡◌, ◌<◌, ◌⊎◌, List, [], ◌++◌, length, Option, Some}
use Rattle.ob_base.specs.Limits.{most_taken, area_bytes}
use Rattle.ob_table.specs.Tables.{ClassTable}
use Rattle.ob_silica.specs.Terms.{SilicaBody}
use Rattle.ob_disk_spec.specs.Disk.{Reads}
use Rattle.ob_front.specs.Programs.{IsProgram}
use Rattle.ob_io.specs.Causes.{Rose}
use Rattle.ob_io.specs.LinesOfText.{lines_of}
use Rattle.ob_store_spec.specs.Stores.{StoreProgram, StoreState, IsStoreOf}
use Rattle.ob_outside.specs.Devices.{Devices}
use Rattle.ob_serve.specs.Session.{SessionItem, items_from, state_after, replies}
use Rattle.ob_words.specs.Asked.{serve_stored, Limits, Asked}
use Rattle.ob_outside.specs.Outside.{OutsideView, devices}
use Rattle.ob_run.specs.Sessions.{program_with, source_items}
use Rattle.ob_outside.specs.declared.exit.Exit.{Exit}
use Rattle.ob_outside.specs.declared.exit.Exit.TheVariants.{Done, Memory}

-- `serve P STORE` with these settings
abbrev pub serving : List ℕ → List ℕ → Limits → Asked
serving name store limits = record { command = serve_stored name store; limits = limits }

-- the bytes that are left of the input, those that the output got, and those that a read of the disk gives
pub record DeviceBytes : Type 0 where
  pub input : List ℕ
  pub output : List ℕ
  pub disk : List ℕ

-- they are observable, and are these
pub record HasBytes (found : Devices) (bytes : DeviceBytes) : Type 0 where
  pub input : found.input.left ≡ Some bytes.input
  pub output : found.output.written ≡ Some bytes.output
  pub disk : Reads found.disk bytes.disk

-- What is given: all bytes are observable, the text is accepted, and STORE represents a store of it.
pub record IsObservable (words : Option Asked) (before after : OutsideView) : Type 0 where
  -- the words ask for `serve P STORE`
  pub name : List ℕ
  pub store : List ℕ
  pub limits : Limits
  pub asks : words ≡ Some (serving name store limits)
  -- P contains this text, and the text is this program
  pub text : List ℕ
  pub contains : before.files.content name ≡ Some text
  pub table : ClassTable
  pub bodies : List SilicaBody
  pub program : IsProgram text table bodies
  -- the streams and the disk have these bytes before the run and after it
  pub old : DeviceBytes
  pub had : HasBytes (devices before) old
  pub new : DeviceBytes
  pub has : HasBytes (devices after) new
  -- STORE represents this store of the program; a blank disk represents the empty one
  pub start : StoreState
  pub represents : IsStoreOf (program_with table bodies) area_bytes old.disk start

-- All items are answered and stored, each on the store that the one before it left.
pub record ServesAll (program : StoreProgram) (start : StoreState) (items : List (SessionItem StoreState)) (old new : DeviceBytes)
    (crash_images : List ℕ → Type 0) : Type 0 where
  -- the input was read to its end
  pub input : new.input ≡ []
  -- the output is what it was, and then the replies of all items
  pub output : new.output ≡ old.output ++ replies items
  -- the disk, as it reads and in each crash image, represents the store after all items
  pub disk : IsStoreOf program area_bytes new.disk (state_after start items)
  pub images : (image : List ℕ) → crash_images image → IsStoreOf program area_bytes image (state_after start items)

-- no call of the files, the streams or the disk failed, and the input has fewer than `most_taken` bytes
pub record IsUndisturbed (before after : OutsideView) (input : List ℕ) : Type 0 where
  pub files : ¬ (Rose before.files.faults after.files.faults)
  pub reads : ¬ (Rose before.input.faults after.input.faults)
  pub writes : ¬ (Rose before.output.faults after.output.faults)
  pub disk : ¬ (Rose before.disk.faults after.disk.faults)
  pub few : length input < most_taken

-- The corollary: what a run comes to where all bytes are observable, the text is accepted, and STORE represents a store of it.
pub record ServesObservable (words : Option Asked) (before after : OutsideView) (exit : Exit) : Type 0 where
  -- If it is Done, then it has served all lines of the input but the blank ones, by the source meaning of the text.
  pub done : (given : IsObservable words before after) → exit ≡ Done
      → ServesAll (program_with given.table given.bodies) given.start
      (items_from (source_items (serving given.name given.store given.limits) given.table given.bodies) given.start (lines_of given.old.input))
      given.old given.new after.disk.now
  -- If nothing disturbed it, then it is Done, or memory ran out.
  pub undisturbed : (given : IsObservable words before after) → IsUndisturbed before after given.old.input → (exit ≡ Done) ⊎ (exit ≡ Memory)
