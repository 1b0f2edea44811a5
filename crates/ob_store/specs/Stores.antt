-- A store as it is kept, and when a disk represents it (this project's own).
use Rattle.std.specs.Prelude.{ℕ, ℤ, pos, ◌≡◌, ⊤, List, [], Option, Some, None, option_map}
use Rattle.ob_code.specs.Images.{image}
use Rattle.ob_code.specs.declared.image.Image.{Image}
use Rattle.ob_disk_spec.specs.Disk.{DiskView}
use Rattle.ob_heap.specs.Contents.{Stored, content_of}
use Rattle.ob_heap_spec.specs.Contents.{Content, empty_content}
use Rattle.ob_journal_spec.specs.Areas.{Journaled}
use Rattle.ob_journal.specs.Journals.{journaled, area_size, image_of, gate_of as gate_in, Holds}
use Rattle.ob_journal.specs.declared.journal.Journal.{Journal}
use Rattle.ob_code_table.specs.ImageTables.{table_of_image}
use Rattle.ob_owners.specs.Indexes.{IsIndexOf}
use Rattle.ob_store_spec.specs.Changes.{LeadFrom}
use Rattle.ob_store_spec.specs.Stores.{StoreProgram, StoreState}
use Rattle.ob_store.specs.declared.store.Store.{Store}

-- a program by its image, as a store knows it
abbrev pub program_of : Image → StoreProgram
program_of code = record { table = table_of_image code; image = image.bytes code }

-- the size of each area of a store; one in memory has none
abbrev pub area_of_store : Store → Option ℕ
area_of_store store = option_map area_size store.journal

-- the offset of the next gate from its area's start, which a store in memory hasn't
abbrev pub gate_of : Option Journal → ℕ
gate_of None = 0
gate_of (Some journal) = gate_in journal

-- the serial of the area
abbrev pub serial_of : Option Journal → ℤ
serial_of None = pos 0
serial_of (Some journal) = (journaled journal []).serial

-- what is kept of the objects and handles
abbrev pub kept_of : Store → Stored
kept_of store = store.content

-- the store, as plain data
abbrev pub state_of : Store → StoreState
state_of store = record { content = content_of store.content; gate = gate_of store.journal; serial = serial_of store.journal }

-- a journal has the image of this program, where there is one
abbrev pub HasImageIn : StoreProgram → Option Journal → Type 0
HasImageIn program None = ⊤
HasImageIn program (Some journal) = image_of journal ≡ program.image

-- a store is one of this program, or in memory
abbrev pub HasImage : StoreProgram → Store → Type 0
HasImage program store = HasImageIn program store.journal

-- an area says the image of this program, and payloads that lead to this content
pub record IsKeptAs (program : StoreProgram) (content : Content) (j : Journaled) : Type 0 where
  pub image : j.image ≡ program.image
  pub content_is : LeadFrom program.table empty_content j.payloads content

-- The disk and each image of it hold a journal for this program, whose payloads lead to this content.
pub record IsKeptBy (program : StoreProgram) (content : Content) (journal : Journal) (v : DiskView) : Type 0 where
  pub payloads : List (List ℕ)
  pub holds : Holds journal payloads v
  pub kept : IsKeptAs program content (journaled journal payloads)

-- that, or there is no journal
abbrev pub IsKeptIn : StoreProgram → Content → Option Journal → DiskView → Type 0
IsKeptIn program content None v = ⊤
IsKeptIn program content (Some journal) v = IsKeptBy program content journal v

-- a store was made for a program: its index tells the owners of its content by the program's class table
abbrev pub TellsOwners : StoreProgram → Store → Type 0
TellsOwners program store = IsIndexOf program.table (content_of store.content) store.owners

-- A store was made for a program, and the disk and each image of it represent it; one in memory has no disk.
pub record StandsOn (program : StoreProgram) (store : Store) (v : DiskView) : Type 0 where
  pub owners : TellsOwners program store
  pub kept : IsKeptIn program (content_of store.content) store.journal v

-- two stores are the same but for the memory that they have taken
pub record IsSameStore (a b : Store) : Type 0 where
  pub objects : b.content.objects ≡ a.content.objects
  pub handles : b.content.handles ≡ a.content.handles
  pub journal : b.journal ≡ a.journal
