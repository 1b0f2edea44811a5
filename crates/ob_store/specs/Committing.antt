-- How a store goes from one content to another (this project's own).
use Rattle.std.specs.Prelude.{ℕ, ◌≡◌, ◌⊎◌, ◌+◌, ⊤, List, Option, Some, None, Ok}
use Rattle.ob_disk_spec.specs.Disk.{DiskView}
use Rattle.ob_disk_spec.specs.Durable.{KeepsBehind}
use Rattle.ob_heap.specs.Contents.{content_of}
use Rattle.ob_heap_spec.specs.Contents.{Content}
use Rattle.ob_journal_spec.specs.Disks.{IsJournalAt}
use Rattle.ob_journal.specs.Journals.{journaled, area_size, place_of, Holds}
use Rattle.ob_journal.specs.declared.journal.Journal.{Journal}
use Rattle.ob_rest_spec.specs.AtRest.{IsStoreAtRest}
use Rattle.ob_store_spec.specs.Settling.{settled}
use Rattle.ob_store_spec.specs.Stores.{StoreProgram, StoreState, IsStoreOf}
use Rattle.ob_store_laws.specs.Recorded.{content_with, IsStorable}
use Rattle.ob_store.specs.Preparing.{IsPrepared}
use Rattle.ob_store.specs.Writing.{payloads_with, IsWritten, StandsWithOrWithout}
use Rattle.ob_store.specs.declared.store.Store.{Store}
use Rattle.ob_store.specs.declared.store.Prepared.{Prepared}
use Rattle.ob_store.specs.declared.writing.BuiltChange.{BuiltChange}

-- It was made ready for this store of a program, and leads from a store at rest to one.
pub record IsReady (program : StoreProgram) (store : Store) (prepared : Prepared) : Type 0 where
  pub storable : IsStorable program.table
  pub before : IsStoreAtRest program.table (content_of store.content)
  pub after : IsStoreAtRest program.table (content_with store.content prepared.delta)
  pub is_prepared : IsPrepared program store prepared

-- the disk represents a store, or what becomes of it with another content
abbrev pub StandsBeforeOrAfter : StoreProgram → ℕ → StoreState → Content → List ℕ → Type 0
StandsBeforeOrAfter program size s content c =
    IsStoreOf program size c s
    ⊎ ((t : StoreState) × (settled program (Some size) s content ≡ Ok t) × IsStoreOf program size c t)

-- the disk and each image of it hold a journal with these payloads, where there is one
abbrev pub HoldsIn : Option Journal → List (List ℕ) → DiskView → Type 0
HoldsIn None payloads v = ⊤
HoldsIn (Some journal) payloads v = Holds journal payloads v

-- what follows both areas of a journal stays, where there is one
abbrev pub KeepsBehindIn : Option Journal → DiskView → DiskView → Type 0
KeepsBehindIn None old new = ⊤
KeepsBehindIn (Some journal) old new = KeepsBehind (area_size journal + area_size journal) old new

-- the payloads after a record of this one is written, where one is
abbrev pub payloads_in : List (List ℕ) → List ℕ → Option BuiltChange → List (List ℕ)
payloads_in payloads payload None = payloads
payloads_in payloads payload (Some built) = payloads_with payloads payload built

-- the record was written, where one was built
abbrev pub IsWrittenTo : Option Journal → List ℕ → Option BuiltChange → Option Journal → Type 0
IsWrittenTo before payload None after = after ≡ before
IsWrittenTo None payload (Some built) after = ⊥
IsWrittenTo (Some before) payload (Some built) None = ⊥
IsWrittenTo (Some before) payload (Some built) (Some after) = IsWritten before payload built after

-- the disk represents a journal, with the record or without it, where one was built
abbrev pub StandsIn : Option Journal → List (List ℕ) → List ℕ → Option BuiltChange → List ℕ → Type 0
StandsIn None payloads payload built c = ⊤
StandsIn (Some journal) payloads payload None c = IsJournalAt (area_size journal) (place_of journal) (journaled journal payloads) c
StandsIn (Some journal) payloads payload (Some built) c = StandsWithOrWithout journal payloads payload built c
