-- What each disk is to a program (this project's own).
use Rattle.std.specs.Prelude.{◌≡◌, ◌⊎◌, ℕ, List}
use Rattle.ob_format_spec.specs.Lawful.{AreBytes}
use Rattle.ob_store_spec.specs.Stores.{StoreProgram, StoreState, StoreRefusal, IsStoreOf, IsRefused}

-- the bytes of a disk with areas of a size represent one store, and aren't refused
pub record IsOneStore (program : StoreProgram) (size : ℕ) (bytes : List ℕ) : Type 0 where
  pub store : StoreState
  pub represents : IsStoreOf program size bytes store
  pub only : (s : StoreState) → IsStoreOf program size bytes s → s ≡ store
  pub not_refused : (r : StoreRefusal) → ¬ (IsRefused program size bytes r)

-- they are refused for one cause, and represent no store
pub record IsOneRefusal (program : StoreProgram) (size : ℕ) (bytes : List ℕ) : Type 0 where
  pub refusal : StoreRefusal
  pub refused : IsRefused program size bytes refusal
  pub only : (r : StoreRefusal) → IsRefused program size bytes r → r ≡ refusal
  pub no_store : (s : StoreState) → ¬ (IsStoreOf program size bytes s)

-- Whatever bytes a disk has, and whatever the size of its areas: they represent one store of a program, or are refused for one cause.
abbrev pub EachDiskIsStoreOrRefused : Type 0
EachDiskIsStoreOrRefused =
    (program : StoreProgram) (size : ℕ) (bytes : List ℕ) → AreBytes bytes → IsOneStore program size bytes ⊎ IsOneRefusal program size bytes
