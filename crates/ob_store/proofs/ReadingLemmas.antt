-- What is read of a store: the content of one that could be opened, or the same refusal.
use Rattle.std.proofs.Common.{◌≡◌, ℕ, List, pos, Result, Ok, Err, IfOk, inl, refl, sym, ap, subst}
use Rattle.ob_heap.specs.Contents.{Stored, content_of}
use Rattle.ob_heap_spec.specs.Contents.{Content, empty_content}
use Rattle.ob_journal_spec.specs.Areas.{next_gate, begun}
use Rattle.ob_journal_spec.specs.Disks.{IsBlankDisk}
use Rattle.ob_journal.specs.Rooms.{NeedsNoRoom}
use Rattle.ob_journal.specs.declared.error.JournalError.{JournalError}
use Rattle.ob_journal.specs.declared.error.JournalError.TheVariants as of_journal
use Rattle.ob_journal.specs.declared.journal.Journal.{Journal}
use Rattle.ob_rest_spec.specs.AtRest.{IsStoreAtRest}
use Rattle.ob_store_spec.specs.Stores.{StoreProgram}
use Rattle.ob_store.specs.Opening.{Opens, FaultsAs, refused_by, Rebuilds}
use Rattle.ob_store.specs.Reading.{IsContentOf, ReadsStore, NeedsNoArea, HoldsAs}
use Rattle.ob_store.specs.Stores.{state_of}
use Rattle.ob_store.specs.declared.store.Store.{Store}
use Rattle.ob_store.specs.declared.error.OpenError.{OpenError}
use Rattle.ob_store.specs.declared.error.OpenError.TheVariants.{NotStore, Damaged, OtherProgram, NotAtRest, Room, DiskFault, Memory}

-- a blank disk represents the empty store
pub blank_reads : (program : StoreProgram) (size : ℕ) (bytes : List ℕ) (content : Content) → content ≡ empty_content → IsBlankDisk size bytes → IsContentOf program size bytes content
blank_reads program size bytes content is blank = record {
  store = record { content = content; gate = next_gate (begun program.image); serial = pos 1 };
  represents = inl (record { blank = blank; content = is; gate = refl; serial = refl });
  content_is = refl;
}

-- ---- no store

pub refused : (program : StoreProgram) (size : ℕ) (bytes : List ℕ) (e : OpenError) → Opens program size (Err e) bytes → NeedsNoArea (Err e) → ReadsStore program size (Err e) bytes
refused program size bytes NotStore is none = is
refused program size bytes (Damaged offset) is none = is
refused program size bytes (OtherProgram offset) is none = is
refused program size bytes (NotAtRest object) is none = is
refused program size bytes (Room need limit) is none = none
refused program size bytes DiskFault is none = tt
refused program size bytes Memory is none = tt

pub faults : (e : OpenError) (before now : ℕ) → FaultsAs {T = Store} (Err e) before now → FaultsAs {T = Stored} (Err e) before now
faults NotStore before now is = is
faults (Damaged offset) before now is = is
faults (OtherProgram offset) before now is = is
faults (NotAtRest object) before now is = is
faults (Room need limit) before now is = is
faults DiskFault before now is = is
faults Memory before now is = is

needs_none : (program : StoreProgram) (journal : Journal) (payloads : List (List ℕ)) (e : OpenError) → Rebuilds program journal payloads (Err e) → NeedsNoArea (Err e)
needs_none program journal payloads NotStore is = tt
needs_none program journal payloads (Damaged offset) is = tt
needs_none program journal payloads (OtherProgram offset) is = tt
needs_none program journal payloads (NotAtRest object) is = tt
needs_none program journal payloads (Room need limit) is = absurd is
needs_none program journal payloads DiskFault is = tt
needs_none program journal payloads Memory is = tt

-- ---- a journal was found, and its store opened

pub held_needs : (program : StoreProgram) (journal : Journal) (payloads : List (List ℕ)) (r : Result Store OpenError) (q : Result Stored OpenError) → HoldsAs r q → Rebuilds program journal payloads r → NeedsNoArea q
held_needs program journal payloads (Ok store) (Ok stored) held is = tt
held_needs program journal payloads (Ok store) (Err e) held is = absurd held
held_needs program journal payloads (Err e) (Ok stored) held is = absurd held
held_needs program journal payloads (Err e) (Err f) held is =
    let P : OpenError → Type 0 = λ x. NeedsNoArea (Err x) in subst P (sym held) (needs_none program journal payloads e is)

pub held_reads : (program : StoreProgram) (size : ℕ) (bytes : List ℕ) (r : Result Store OpenError) (q : Result Stored OpenError) → HoldsAs r q → Opens program size r bytes → NeedsNoArea q → ReadsStore program size q bytes
held_reads program size bytes (Ok store) (Ok stored) held is none = record { store = state_of store; represents = is; content_is = ap content_of (sym held) }
held_reads program size bytes (Ok store) (Err e) held is none = absurd held
held_reads program size bytes (Err e) (Ok stored) held is none = absurd held
held_reads program size bytes (Err e) (Err f) held is none =
    let P : OpenError → Type 0 = λ x. Opens program size (Err x) bytes in refused program size bytes f (subst P (sym held) is) none

pub held_rests : (program : StoreProgram) (r : Result Store OpenError) (q : Result Stored OpenError) → HoldsAs r q → IfOk r (λ store. IsStoreAtRest program.table (content_of store.content))
    → IfOk q (λ stored. IsStoreAtRest program.table (content_of stored))
held_rests program (Ok store) (Ok stored) held is = let P : Stored → Type 0 = λ s. IsStoreAtRest program.table (content_of s) in subst P (sym held) is
held_rests program (Ok store) (Err e) held is = absurd held
held_rests program (Err e) (Ok stored) held is = absurd held
held_rests program (Err e) (Err f) held is = tt

pub held_faults : (r : Result Store OpenError) (q : Result Stored OpenError) (before now : ℕ) → HoldsAs r q → FaultsAs r before now → FaultsAs q before now
held_faults (Ok store) (Ok stored) before now held is = is
held_faults (Ok store) (Err e) before now held is = absurd held
held_faults (Err e) (Ok stored) before now held is = absurd held
held_faults (Err e) (Err f) before now held is =
    let P : OpenError → Type 0 = λ x. FaultsAs {T = Stored} (Err x) before now in subst P (sym held) (faults e before now is)

-- ---- no journal was found

pub not_found_needs : (e : JournalError) → NeedsNoRoom (Err e) → NeedsNoArea (Err (refused_by e))
not_found_needs of_journal.NotStore none = tt
not_found_needs (of_journal.Damaged offset) none = tt
not_found_needs (of_journal.Room need limit) none = absurd none
not_found_needs of_journal.DiskFault none = tt
not_found_needs of_journal.Memory none = tt
