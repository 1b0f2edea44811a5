-- What is read of a store without a write (this project's own).
use Rattle.std.specs.Prelude.{ℕ, ◌≡◌, ⊤, List, Result, Ok, Err}
use Rattle.ob_heap.specs.Contents.{Stored, content_of}
use Rattle.ob_heap_spec.specs.Contents.{Content}
use Rattle.ob_store_spec.specs.Stores.{StoreProgram, StoreState, IsStoreOf, IsRefused, not_store, damaged, other_program, not_at_rest}
use Rattle.ob_store.specs.declared.store.Store.{Store}
use Rattle.ob_store.specs.declared.error.OpenError.{OpenError}
use Rattle.ob_store.specs.declared.error.OpenError.TheVariants.{NotStore, Damaged, OtherProgram, NotAtRest, Room, DiskFault, Memory}

-- the content of the store that the bytes of a disk with areas of a size represent
pub record IsContentOf (program : StoreProgram) (size : ℕ) (bytes : List ℕ) (content : Content) : Type 0 where
  pub store : StoreState
  pub represents : IsStoreOf program size bytes store
  pub content_is : store.content ≡ content

-- The answer is the content of the store that a disk represents, or why it represents none. Nothing is begun, so `Room` never comes.
abbrev pub ReadsStore : StoreProgram → ℕ → Result Stored OpenError → List ℕ → Type 0
ReadsStore program size (Ok stored) bytes = IsContentOf program size bytes (content_of stored)
ReadsStore program size (Err NotStore) bytes = IsRefused program size bytes not_store
ReadsStore program size (Err (Damaged offset)) bytes = IsRefused program size bytes (damaged offset)
ReadsStore program size (Err (OtherProgram offset)) bytes = IsRefused program size bytes (other_program offset)
ReadsStore program size (Err (NotAtRest object)) bytes = IsRefused program size bytes (not_at_rest object.0)
ReadsStore program size (Err (Room need limit)) bytes = ⊥
ReadsStore program size (Err DiskFault) bytes = ⊤
ReadsStore program size (Err Memory) bytes = ⊤

-- `Room` never comes
abbrev pub NeedsNoArea : Result Stored OpenError → Type 0
NeedsNoArea (Err (Room need limit)) = ⊥
NeedsNoArea answer = ⊤

-- the content of a store that was opened, or the same refusal
abbrev pub HoldsAs : Result Store OpenError → Result Stored OpenError → Type 0
HoldsAs (Ok store) (Ok stored) = stored ≡ store.content
HoldsAs (Err error) (Err same) = same ≡ error
HoldsAs opened answer = ⊥
