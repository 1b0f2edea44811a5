-- Which store a disk's bytes represent, for a program: the content, the next gate and the serial; or why they are refused (this
-- project's own). The conditions stand in the order in which they are asked: each supposes that none before it holds.
use Rattle.std.specs.Prelude.{ℕ, ℤ, pos, ◌≡◌, ◌+◌, ◌⊎◌, List, ◌∷◌, ◌++◌, length, Some}
use Rattle.ob_table.specs.Tables.{ClassTable}
use Rattle.ob_heap_spec.specs.Contents.{Content, empty_content}
use Rattle.ob_rest_spec.specs.AtRest.{IsAtRest, first_failing_object}
use Rattle.ob_journal_spec.specs.Areas.{Journaled, size_of, next_gate, begun}
use Rattle.ob_journal_spec.specs.Disks.{Place, start_of, IsJournalAt, IsBlankDisk, IsNoStoreDisk, IsDamagedDisk}
use Rattle.ob_journal_spec.specs.Differing.{DifferAt}
use Rattle.ob_store_spec.specs.Payloads.{Changes}
use Rattle.ob_store_spec.specs.Changes.{SaysChanges, LeadFrom}

-- a program, as a store knows it: its class table, and the bytes of its image
pub record StoreProgram : Type 0 where
  pub table : ClassTable
  pub image : List ℕ

-- what a store is: its content, the offset of the next gate from its area's start, and the serial of its area
pub record StoreState : Type 0 where
  pub content : Content
  pub gate : ℕ
  pub serial : ℤ

-- the disk represents records of this program by the area of this place, which lead to this content
pub record IsOpened (program : StoreProgram) (size : ℕ) (place : Place) (bytes : List ℕ) (j : Journaled) (content : Content) : Type 0 where
  pub stands : IsJournalAt size place j bytes
  pub image : j.image ≡ program.image
  pub content_is : LeadFrom program.table empty_content j.payloads content

-- a blank disk represents the empty store, with the gate and the serial that it will begin with
pub record IsBlankStore (program : StoreProgram) (size : ℕ) (bytes : List ℕ) (s : StoreState) : Type 0 where
  pub blank : IsBlankDisk size bytes
  pub content : s.content ≡ empty_content
  pub gate : s.gate ≡ next_gate (begun program.image)
  pub serial : s.serial ≡ pos 1

-- a disk with a current area represents the content to which its payloads lead, which is at rest
pub record IsOpenStore (program : StoreProgram) (size : ℕ) (bytes : List ℕ) (s : StoreState) : Type 0 where
  pub place : Place
  pub says : Journaled
  pub opened : IsOpened program size place bytes says s.content
  pub at_rest : IsAtRest program.table s.content
  pub gate : s.gate ≡ next_gate says
  pub serial : s.serial ≡ says.serial

-- the store that the bytes of a disk with areas of a size represent
abbrev pub IsStoreOf : StoreProgram → ℕ → List ℕ → StoreState → Type 0
IsStoreOf program size bytes s = IsBlankStore program size bytes s ⊎ IsOpenStore program size bytes s

-- the stored image isn't the program's: they first differ at this offset, or one ends there
pub record IsOtherProgram (program : StoreProgram) (size : ℕ) (bytes : List ℕ) (offset : ℕ) : Type 0 where
  pub place : Place
  pub says : Journaled
  pub stands : IsJournalAt size place says bytes
  pub differ : DifferAt offset says.image program.image

-- The payload of the record whose gate is at this offset from the disk's start says no changes of the content before it, and each before
-- it does.
pub record IsBadPayload (program : StoreProgram) (size : ℕ) (bytes : List ℕ) (offset : ℕ) : Type 0 where
  pub place : Place
  pub says : Journaled
  pub stands : IsJournalAt size place says bytes
  pub image : says.image ≡ program.image
  pub before : List (List ℕ)
  pub bad : List ℕ
  pub after : List (List ℕ)
  pub payloads : says.payloads ≡ before ++ bad ∷ after
  pub content : Content
  pub content_is : LeadFrom program.table empty_content before content
  pub says_none : (changes : Changes) → ¬ (SaysChanges program.table content changes bad)
  pub at : offset ≡ start_of size place + (17 + length says.image + size_of before)

-- the store isn't at rest: this is its first object that fails
pub record IsNotAtRest (program : StoreProgram) (size : ℕ) (bytes : List ℕ) (object : ℕ) : Type 0 where
  pub place : Place
  pub says : Journaled
  pub content : Content
  pub opened : IsOpened program size place bytes says content
  pub fails : first_failing_object program.table content ≡ Some object

-- why a disk is refused
pub data StoreRefusal : Type 0 where
  not_store : StoreRefusal
  damaged : ℕ → StoreRefusal
  other_program : ℕ → StoreRefusal
  not_at_rest : ℕ → StoreRefusal

-- when it is
abbrev pub IsRefused : StoreProgram → ℕ → List ℕ → StoreRefusal → Type 0
IsRefused program size bytes not_store = IsNoStoreDisk size bytes
IsRefused program size bytes (damaged offset) = IsDamagedDisk size offset bytes ⊎ IsBadPayload program size bytes offset
IsRefused program size bytes (other_program offset) = IsOtherProgram program size bytes offset
IsRefused program size bytes (not_at_rest object) = IsNotAtRest program size bytes object
