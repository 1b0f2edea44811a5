-- What a run has changed of the objects of a store, and what it has read (this project's own).
use Rattle.std.specs.List.{list_any}
use Rattle.std.specs.Prelude.{◌≡◌, ◌≢◌, ◌<◌, ◌≤◌, ◌⊎◌, ℕ, suc, ◌+◌, Bool, true, false, nat_eq, nat_lt, length, map, slice_get, List, [], ◌∷◌, ◌++◌, Option, Some, None, if◌then◌else◌}
use Rattle.std.specs.Option.{unwrap_or}
use Rattle.ob_heap.specs.declared.object.Object.{Object}
use Rattle.ob_heap.specs.declared.edit.Edit.{Edit}
use Rattle.ob_heap.specs.Edits.{with_edit}
use Rattle.ob_heap.specs.Plain.{object_of}
use Rattle.ob_heap_spec.specs.Objects.{Object as PlainObject}

-- the object that represents a number, if one does
abbrev pub changed_at : ℕ → List (ℕ × Object) → Option Object
changed_at n [] = None
changed_at n (e ∷ es) = if nat_eq n e.0 then Some e.1 else changed_at n es

-- at one number there is this object, and at the others what there was
abbrev pub IsPut : ℕ → Object → List (ℕ × Object) → List (ℕ × Object) → Type 0
IsPut n o old new = (m : ℕ) → changed_at m new ≡ (if nat_eq n m then Some o else changed_at m old)

-- this was done to the object of a number, which is that of the base if it wasn't changed before; at the others there is what there
-- was
abbrev pub IsEditedOver : List Object → ℕ → Edit → List (ℕ × Object) → List (ℕ × Object) → Type 0
IsEditedOver base n e old new = (o : Object) → slice_get base n ≡ Some o → IsPut n (with_edit e (unwrap_or (changed_at n old) o)) old new

-- this is a number with the object that the base has there, to which this was done
abbrev pub IsEditedCopy : List Object → ℕ → Edit → ℕ × Object → Type 0
IsEditedCopy base n e item = (item.0 ≡ n) × ((o : Object) → slice_get base n ≡ Some o → item.1 ≡ with_edit e o)

-- What a run has changed and read: objects of the base by their numbers, as they are now; the objects that it has made;
-- the numbers of the objects of the base that it has read, each once; whether it has read which number is the next.
pub record Changes : Type 0 where
  pub changed : List (ℕ × Object)
  pub made : List Object
  pub reads : List ℕ
  pub next : Bool

-- nothing is changed, made or read
abbrev pub no_changes : Changes
no_changes = record { changed = []; made = []; reads = []; next = false }

-- objects, numbered from this number on, with the changes laid over them
abbrev pub laid_from : List (ℕ × Object) → ℕ → List Object → List Object
laid_from changed n [] = []
laid_from changed n (o ∷ os) = unwrap_or (changed_at n changed) o ∷ laid_from changed (suc n) os

-- the objects of a base with the changes laid over them, and then those that were made
abbrev pub laid_over : List Object → Changes → List Object
laid_over base c = laid_from c.changed 0 base ++ c.made

-- a number is among these, behind the others if it wasn't
abbrev pub with_number : ℕ → List ℕ → List ℕ
with_number n ns = if list_any (nat_eq n) ns then ns else ns ++ n ∷ []

-- an object of a base of so many objects is read; one that the run has made counts for nothing
abbrev pub noted : ℕ → ℕ → Changes → Changes
noted count n c = if nat_lt n count then record c { reads = with_number n c.reads } else c

-- The entries of all numbers but one are as they were, over a base of so many objects: of the base what was changed is changed to
-- the same, and what wasn't isn't; those that were made are the same.
pub record KeepsOthers (count n : ℕ) (old new : Changes) : Type 0 where
  pub changed : (m : ℕ) → (m ≢ n) ⊎ (count ≤ m) → changed_at m new.changed ≡ changed_at m old.changed
  pub made : (m : ℕ) → count + m ≢ n → slice_get new.made m ≡ slice_get old.made m

-- whether the object of a number was read
abbrev pub is_read : ℕ → Changes → Bool
is_read n c = list_any (nat_eq n) c.reads

-- What was read stays read, and the entry of each object of the base that isn't read in the end is as it was, but for the objects that
-- are exempt.
pub record KeepsUnread (exempt : ℕ → Type 0) (old new : Changes) : Type 0 where
  pub reads : (m : ℕ) → is_read m old ≡ true → is_read m new ≡ true
  pub entries : (m : ℕ) → (exempt m → ⊥) → is_read m new ≡ false → changed_at m new.changed ≡ changed_at m old.changed

-- no object is exempt
abbrev pub no_object : ℕ → Type 0
no_object n = ⊥

-- this object alone is exempt, if it is of a base of so many objects
abbrev pub only : ℕ → ℕ → ℕ → Type 0
only count n m = (m ≡ n) × (m < count)

-- each object of the base that was changed was read
abbrev pub AreChangesRead : Changes → Type 0
AreChangesRead c = (n : ℕ) → is_read n c ≡ false → changed_at n c.changed ≡ None

-- as many objects were made, and the same was read
pub record IsSameBeside (old new : Changes) : Type 0 where
  pub made : length new.made ≡ length old.made
  pub reads : new.reads ≡ old.reads
  pub next : new.next ≡ old.next

-- the objects of a base with the changes laid over them, as plain data
abbrev pub objects_over : List Object → Changes → List PlainObject
objects_over base c = map object_of (laid_over base c)
