-- Which lanes have read an object, and how that tells what a commit makes stale (this project's own).
use Rattle.std.specs.Prelude.{◌≡◌, ℕ, zero, suc, ◌^◌, ◌<◌, nat_eq, Bool, true, false, List, [], ◌∷◌, map, length, slice_index_or, Option, Some, None, IfSome, IfNone, if◌then◌else◌}
use Rattle.std.specs.List.{list_any, cons_option}
use Rattle.ob_base.specs.declared.id.ObjectId.{ObjectId}
use Rattle.ob_heap_spec.specs.Marks.{is_among}
use Rattle.ob_heap_spec.specs.Worlds.{ReadItem, object_item}
use Rattle.ob_heap.specs.Contents.{Stored}
use Rattle.ob_heap.specs.declared.object.Object.{Object}
use Rattle.ob_heap.specs.declared.delta.Delta.{Delta}
use Rattle.ob_links.specs.declared.node.NodeId.{NodeId}
use Rattle.ob_links.specs.Lists.{Pair, Linked, joined}
use Rattle.ob_exec.specs.declared.runs.Run.{Run}
use Rattle.ob_lanes.specs.declared.batch.Busy.{Busy}
use Rattle.ob_lanes.specs.Committing.{is_changed}

-- Lists of lanes.

-- the numbers of pairs, list by list
abbrev pub items_of : Linked → List (List ℕ)
items_of links = map (map (λ (x : Pair). x.1)) links.lists

-- the first node of a list whose number is that of a lane
abbrev pub node_with : ℕ → List Pair → Option NodeId
node_with lane [] = None
node_with lane (x ∷ xs) = if nat_eq lane x.1 then Some x.0 else node_with lane xs

-- whether a lane is in the list of a number
abbrev pub is_at : List (List ℕ) → ℕ → ℕ → Bool
is_at lists lane n = is_among lane (slice_index_or lists n [])

-- Which lanes are in which lists is as it was, but for one lane and one list.
abbrev pub SameBut : ℕ → ℕ → (ℕ → ℕ → Bool) → (ℕ → ℕ → Bool) → Type 0
SameBut lane n old new = (k m : ℕ) → ¬ ((k ≡ lane) × (m ≡ n)) → new k m ≡ old k m

-- Objects that have a list each, and the lanes of each list.
pub record Listing : Type 0 where
  pub objects : List ℕ
  pub lanes : List (List ℕ)

-- the place of a number among these, or their count
abbrev pub place_in : ℕ → List ℕ → ℕ
place_in n [] = zero
place_in n (k ∷ ks) = if nat_eq n k then zero else suc (place_in n ks)

-- The number of an object's list.
pub record IsListOf (object : ℕ) (l : Listing) (list : ℕ) : Type 0 where
  pub is : list ≡ place_in object l.objects
  pub among : list < length l.objects
  pub within : list < length l.lanes

-- whether a lane is in the list of an object
abbrev pub is_listed : Listing → ℕ → ℕ → Bool
is_listed l lane n = is_at l.lanes lane (place_in n l.objects)

-- There is a list for each of these objects, of which there are fewer than 2^32, and so many pairs.
pub record AreCounted (objects : List ℕ) (links : Linked) (count : ℕ) : Type 0 where
  pub lists : length links.lists ≡ length objects
  pub few_lists : length objects < 2 ^ 32
  pub pairs : count ≡ length (joined links.lists)

-- What lanes have read.

-- a lane is in the lists of these objects and in no others
abbrev pub IsTied : Listing → ℕ → List ℕ → Type 0
IsTied l lane objects = (n : ℕ) → is_listed l lane n ≡ is_among n objects

-- a lane is in the lists of none but these
abbrev pub IsWithin : Listing → ℕ → List ℕ → Type 0
IsWithin l lane objects = (n : ℕ) → is_listed l lane n ≡ true → is_among n objects ≡ true

-- each lane is in the lists of its objects, which stand here by lane, and in no others
abbrev pub AreTied : Listing → List (List ℕ) → Type 0
AreTied l entered = (k : ℕ) → IsTied l k (slice_index_or entered k [])

-- each other lane is in the lists as it was
abbrev pub OthersStay : ℕ → Listing → Listing → Type 0
OthersStay lane old new = (k n : ℕ) → ¬ (k ≡ lane) → is_listed new k n ≡ is_listed old k n

-- A lane that has read an object, if there is one, where these are the objects that each has read.
pub record IsReader (object : ℕ) (readers : List (List ℕ)) (lane : Option ℕ) : Type 0 where
  pub within : IfSome lane (λ k. k < length readers)
  pub reads : IfSome lane (λ k. is_among object (slice_index_or readers k []) ≡ true)
  pub none : IfNone lane ((k : ℕ) → is_among object (slice_index_or readers k []) ≡ false)

-- the object that an item is, if it is one
abbrev pub object_in : ReadItem → Option ℕ
object_in (object_item n) = Some n
object_in item = None

-- the objects among items
abbrev pub objects_of : List ReadItem → List ℕ
objects_of [] = []
objects_of (x ∷ xs) = cons_option (object_in x) (objects_of xs)

-- the run of a lane, if it is busy and was sliced
abbrev pub run_in : Option Busy → Option Run
run_in None = None
run_in (Some b) = b.run

-- what a run has read, if there is one
abbrev pub items_read : Option Run → List ReadItem
items_read None = []
items_read (Some run) = run.state.reads

-- the objects that the run of a lane has read
abbrev pub objects_read : Option Busy → List ℕ
objects_read lane = objects_of (items_read (run_in lane))

-- whether it has read the object of a number
abbrev pub has_read : Option Busy → ℕ → Bool
has_read lane n = is_among n (objects_read lane)

-- What a commit makes stale.

-- a lane whose request is opened again
abbrev pub freed : Option Busy → Option Busy
freed None = None
freed (Some b) = Some (record b { run = None })

-- the same where a test holds
abbrev pub freed_if : Bool → Option Busy → Option Busy
freed_if test lane = if test then freed lane else lane

-- a lane after the object of a number has changed
abbrev pub freed_by : ℕ → Option Busy → Option Busy
freed_by n lane = freed_if (has_read lane n) lane

-- and after all of these have
abbrev pub freed_by_all : List (ObjectId × Object) → Option Busy → Option Busy
freed_by_all es lane = freed_if (list_any (λ (e : ObjectId × Object). has_read lane e.0.0) es) lane

-- whether a delta that has just what differs changes an item that is no object
abbrev pub is_other_changed : Stored → Delta → ReadItem → Bool
is_other_changed base delta (object_item n) = false
is_other_changed base delta item = is_changed base delta item

-- whether it changes such an item that a run has read
abbrev pub is_other_stale : Stored → Delta → Option Run → Bool
is_other_stale base delta None = false
is_other_stale base delta (Some run) = list_any (is_other_changed base delta) run.state.reads

-- a lane after such items have changed
abbrev pub freed_by_others : Stored → Delta → Option Busy → Option Busy
freed_by_others base delta lane = freed_if (is_other_stale base delta (run_in lane)) lane
