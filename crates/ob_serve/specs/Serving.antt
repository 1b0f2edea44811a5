-- What a part of a session does: it answers and stores its items, or it stops in one of them; for private clauses.
use Rattle.std.specs.Prelude.{ℕ, ◌≡◌, ◌≢◌, ◌+◌, ◌≤◌, ⊤, List, [], length, Option, Some, None, Result, Ok, Err, if◌then◌else◌}
use Rattle.ob_code.specs.declared.image.Image.{Image}
use Rattle.ob_code_table.specs.ImageTables.{table_of_image}
use Rattle.ob_disk_spec.specs.Calls.{IsUntouched}
use Rattle.ob_disk_spec.specs.Disk.{DiskView, LeavesOnly}
use Rattle.ob_disk_spec.specs.Durable.{Throughout, KeepsBehind}
use Rattle.ob_heap.specs.Contents.{content_of}
use Rattle.ob_io.specs.Causes.{Rose}
use Rattle.ob_io.specs.Told.{Gives}
use Rattle.ob_io.specs.Views.{SinkView}
use Rattle.ob_rest_spec.specs.AtRest.{IsStoreAtRest}
use Rattle.ob_store_spec.specs.Stores.{StoreState}
use Rattle.ob_store.specs.Stores.{program_of, area_of_store, kept_of, state_of, StandsOn}
use Rattle.ob_store.specs.declared.store.Store.{Store}
use Rattle.ob_serve.specs.Crash.{AfterFirst, AfterSome}
use Rattle.ob_serve.specs.Served.{IsAnswered, IsGiven, IsStored}
use Rattle.ob_serve.specs.Session.{SessionItem, is_blank_line, state_after, replies}
use Rattle.ob_serve.specs.Standing.{RepresentsStore}
use Rattle.ob_serve.specs.declared.serving.Served.{Served}
use Rattle.ob_serve.specs.declared.serving.Served.TheVariants.{Done, ReadFault, WriteFault, DiskFault, Memory, Long}

-- the store, the output and the disk at a moment
pub record Moment : Type 1 where
  pub store : Store
  pub output : SinkView
  pub disk : DiskView

-- the items of a line, where this says those of one that isn't blank; a blank one has none
abbrev pub items_shown : {S : Type 0} → (S → List ℕ → List (SessionItem S)) → S → List ℕ → List (SessionItem S)
items_shown items s line = if is_blank_line line then [] else items s line

-- the store is at rest, and the disk represents it
pub record IsServing (code : Image) (m : Moment) : Type 0 where
  pub at_rest : IsStoreAtRest (table_of_image code) (content_of (kept_of m.store))
  pub stands : StandsOn (program_of code) m.store m.disk

-- No call of the disk is made for a store in memory. What follows the two areas of another stays, and no other disk is taken.
pub record StaysIn (area : Option ℕ) (old new : DiskView) : Type 0 where
  pub untouched : area ≡ None → IsUntouched old new
  pub behind : (size : ℕ) → area ≡ Some size → KeepsBehind (size + size) old new
  pub attaches : new.attaches ≡ old.attaches

-- when bytes represent a store that is kept where this one is
abbrev pub stands_where : Image → Store → StoreState → List ℕ → Type 0
stands_where code store = RepresentsStore (program_of code) (area_of_store store)

-- These items are answered and stored, and nothing failed.
pub record Answered (code : Image) (items : List (SessionItem StoreState)) (old new : Moment) : Type 0 where
  pub area : area_of_store new.store ≡ area_of_store old.store
  pub state : state_of new.store ≡ state_after (state_of old.store) items
  pub serving : IsServing code new
  pub given : Gives old.output.written new.output.written (replies items)
  pub since : LeavesOnly old.disk new.disk (AfterSome (stands_where code old.store) (state_of old.store) items)
  pub stays : StaysIn (area_of_store old.store) old.disk new.disk
  pub calm_write : new.output.faults ≡ old.output.faults
  pub calm_disk : new.disk.faults ≡ old.disk.faults

-- there was one fault
pub record RoseOnce (before now : ℕ) : Type 0 where
  pub rose : Rose before now
  pub later : before ≤ now
  pub once : now ≤ before + 1

-- the fault that a stop has for its cause; there was no other
abbrev pub HasFault : Served → Moment → Moment → Type 0
HasFault WriteFault old new = RoseOnce old.output.faults new.output.faults × (new.disk.faults ≡ old.disk.faults)
HasFault DiskFault old new = (new.output.faults ≡ old.output.faults) × RoseOnce old.disk.faults new.disk.faults
HasFault Memory old new = (new.output.faults ≡ old.output.faults) × (new.disk.faults ≡ old.disk.faults)
HasFault Done old new = ⊥
HasFault ReadFault old new = ⊥
HasFault Long old new = ⊥

-- It stopped in one of these items, or before it: the row of that stop.
pub record Stopped (code : Image) (served : Served) (items : List (SessionItem StoreState)) (old new : Moment) : Type 0 where
  pub k : ℕ
  pub answered : IsAnswered served (length items) k
  pub given : List ℕ
  pub written : Gives old.output.written new.output.written given
  pub given_is : IsGiven served items k given
  pub stored : Throughout new.disk (AfterFirst (stands_where code old.store) (state_of old.store) items (IsStored served k))
  pub since : LeavesOnly old.disk new.disk (AfterSome (stands_where code old.store) (state_of old.store) items)
  pub stays : StaysIn (area_of_store old.store) old.disk new.disk
  pub sure : area_of_store old.store ≡ None → served ≢ DiskFault
  pub cause : HasFault served old new

-- what a part with these items answers
abbrev pub Answers : Image → List (SessionItem StoreState) → Moment → Moment → Result ⊤ Served → Type 0
Answers code items old new (Ok done) = Answered code items old new
Answers code items old new (Err served) = Stopped code served items old new
