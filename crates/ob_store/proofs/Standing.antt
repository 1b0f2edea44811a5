-- A disk represents a store.
use Rattle.std.proofs.Common.{◌≡◌, ℕ, ◌+◌, inr, List, Option, Some, None, option_map, refl, subst}
use Rattle.ob_disk_spec.specs.Disk.{DiskView}
use Rattle.ob_disk_spec.specs.Durable.{Throughout, KeepsBehind}
use Rattle.ob_disk_spec.proofs.Behind.{behind_none}
use Rattle.ob_disk_spec.proofs.Moments.{throughout_to}
use Rattle.ob_heap.specs.Contents.{content_of}
use Rattle.ob_heap_spec.specs.Contents.{Content}
use Rattle.ob_journal_spec.specs.Areas.{Journaled, next_gate}
use Rattle.ob_journal_spec.specs.Disks.{Place, IsJournalAt}
use Rattle.ob_journal.specs.Journals.{journaled, area_size, place_of, gate_of as gate_in}
use Rattle.ob_journal.specs.declared.journal.Journal.{Journal}
use Rattle.ob_rest_spec.specs.AtRest.{IsAtRest, IsStoreAtRest}
use Rattle.ob_store_spec.specs.Stores.{StoreProgram, StoreState, IsStoreOf}
use Rattle.ob_store.specs.Stores.{gate_of, serial_of, state_of, area_of_store, HasImageIn, HasImage, IsKeptAs, IsKeptIn, StandsOn}
use Rattle.ob_store.specs.Committing.{KeepsBehindIn}
use Rattle.ob_store.specs.declared.store.Store.{Store}

-- the store of a content that is kept in a journal
abbrev pub state_by : Content → Option Journal → StoreState
state_by content journal = record { content = content; gate = gate_of journal; serial = serial_of journal }

-- a disk that represents what is kept of a store represents the store
pub open_store_of : (program : StoreProgram) (content : Content) (size : ℕ) (place : Place) (j : Journaled) (gate : ℕ) (bytes : List ℕ) → IsKeptAs program content j → IsAtRest program.table content
    → gate ≡ next_gate j → IsJournalAt size place j bytes → IsStoreOf program size bytes (record { content = content; gate = gate; serial = j.serial })
open_store_of program content size place j gate bytes kept rest is stands = inr (record {
  place = place;
  says = j;
  opened = record { stands = stands; image = kept.image; content_is = kept.content_is };
  at_rest = rest;
  gate = is;
  serial = refl;
})

pub unsome_number : (m n : ℕ) → Some m ≡ Some n → m ≡ n
unsome_number m n is = cc

stands_by : (program : StoreProgram) (content : Content) (journal : Option Journal) (size : ℕ) (v : DiskView) → option_map area_size journal ≡ Some size
    → IsKeptIn program content journal v → IsAtRest program.table content → Throughout v (λ c. IsStoreOf program size c (state_by content journal))
stands_by program content None size v is kept rest = let none : ⊥ = cc in absurd none
stands_by program content (Some j) size v is kept rest =
    throughout_to v _ _ kept.holds.whole (λ c stands.
    subst (λ (n : ℕ). IsStoreOf program n c (state_by content (Some j))) (unsome_number (area_size j) size is)
    (open_store_of program content (area_size j) (place_of j) (journaled j kept.payloads) (gate_in j) c kept.kept rest kept.holds.gate stands))

-- a disk that represents a store at rest is one, as it reads and in each image
pub stores_stand : (program : StoreProgram) (store : Store) (size : ℕ) (v : DiskView) → area_of_store store ≡ Some size → StandsOn program store v
    → IsStoreAtRest program.table (content_of store.content) → Throughout v (λ c. IsStoreOf program size c (state_of store))
stores_stand program store size v area stands rest = stands_by program (content_of store.content) store.journal size v area stands.kept rest.at_rest

image_in : (program : StoreProgram) (content : Content) (journal : Option Journal) (v : DiskView) → IsKeptIn program content journal v → HasImageIn program journal
image_in program content None v kept = tt
image_in program content (Some j) v kept = kept.kept.image

-- a store that a disk represents is one of the program
pub stands_image : (program : StoreProgram) (store : Store) (v : DiskView) → StandsOn program store v → HasImage program store
stands_image program store v stands = image_in program (content_of store.content) store.journal v stands.kept

-- where no call of the disk is made
pub behind_in : (journal : Option Journal) (v : DiskView) → KeepsBehindIn journal v v
behind_in None v = tt
behind_in (Some journal) v = behind_none (area_size journal + area_size journal) v

-- what follows both areas of a store stays
pub behind_areas : (journal : Option Journal) (old new : DiskView) (size : ℕ) → KeepsBehindIn journal old new → option_map area_size journal ≡ Some size → KeepsBehind (size + size) old new
behind_areas None old new size kept is = let none : ⊥ = cc in absurd none
behind_areas (Some journal) old new size kept is = subst (λ (n : ℕ). KeepsBehind (n + n) old new) (unsome_number (area_size journal) size is) kept
