-- What the laws of the runs of requests say (this project's own).
use Rattle.std.specs.Prelude.{◌≡◌, ◌<◌, ◌≤◌, ℕ, List, ◌++◌, length, Contains, Some, None, ⊤}
use Rattle.std.specs.List.{AllByRecursion}
use Rattle.ob_table.specs.Tables.{ClassTable}
use Rattle.ob_heap_spec.specs.Contents.{HandleName, Handle, Content, object_at}
use Rattle.ob_heap_spec.specs.Objects.{Object}
use Rattle.ob_heap_spec.specs.Worlds.{ReadItem, object_item, next_item, handle_item, handles_full_item}
use Rattle.ob_heap_spec.specs.Handles.{handle_at}
use Rattle.ob_rest_spec.specs.AtRest.{IsStoreAtRest}
use Rattle.ob_rest_spec.specs.Incoming.{owner_of}
use Rattle.ob_invocation_spec.specs.Handles.{handle_name, are_handles_full}
use Rattle.ob_invocation_spec.specs.Replies.{Invocation, Invoked, invoked, goes_wrong}
use Rattle.ob_invocation_spec.specs.Requests.{Operation, owner_request, Request}
use Rattle.ob_invocation_laws.specs.Laws.{KeepsStoreAtRest}
use Rattle.ob_code.specs.declared.image.Image.{Image}
use Rattle.ob_machine_steps.specs.Measures.{LeadsAheadOrToUnit}
use Rattle.ob_machine_meaning.specs.Meanings.{machine_invocation}
use Rattle.ob_code_table.specs.ImageTables.{table_of_image}
use Rattle.ob_machine_steps.specs.Runs.{world_of}
use Rattle.ob_request_run_laws.specs.Locality.{Agree}
use Rattle.ob_request_run_laws.specs.Held.{Held, found}
use Rattle.ob_request_run_laws.specs.Runs.{NameChange, Answer, Run, opened, paused, answered, lost, reads_of_run, content_after, invoked_by}
use Rattle.ob_request_run_laws.specs.Slices.{slice, slices}

-- a run that has been answered comes to this invocation on a content, and one that is lost goes wrong there
abbrev pub ComesTo : Content → Invocation → Run → Type 0
ComesTo c i (opened q) = ⊤
ComesTo c i (paused q reads p h) = ⊤
ComesTo c i (answered a) = i ≡ invoked (invoked_by c a)
ComesTo c i lost = i ≡ goes_wrong

-- A run that is taken to its end in any slices is the invocation of its request on that content: with its reply, the content after it,
-- its units and its reads. It is lost only where that goes wrong.
abbrev pub SlicesComeToTheInvocation : Type 0
SlicesComeToTheInvocation =
    (image : Image) (fuel : ℕ) (c : Content) (q : Request) (units : List ℕ) → LeadsAheadOrToUnit image
    → ComesTo c (machine_invocation image c q fuel) (slices image fuel c units (opened q))

-- a run has ended: it has been answered, or is lost
abbrev pub HasEnded : Run → Type 0
HasEnded (opened q) = ⊥
HasEnded (paused q reads p h) = ⊥
HasEnded (answered a) = ⊤
HasEnded lost = ⊤

-- One slice of all the units that a request has ends its run.
abbrev pub WholeSlicesEnd : Type 0
WholeSlicesEnd =
    (image : Image) (fuel : ℕ) (c : Content) (q : Request) (units : ℕ) → fuel ≤ units → HasEnded (slice image fuel c units (opened q))

-- Two contents.

-- two contents agree on items: on objects, on what each name denotes, and on whether the handles are full
pub record AgreeOn (items : List ReadItem) (c d : Content) : Type 0 where
  pub objects : Agree items c.objects d.objects
  pub handles : (name : HandleName) → Contains items (handle_item name) → handle_at d name ≡ handle_at c name
  pub full : Contains items handles_full_item → are_handles_full d ≡ are_handles_full c

-- Where an `owner` is asked of an object that has none on the first content, the other content is at rest too, and it has none there.
-- If it has one, agreement on its place is enough.
abbrev pub OwnsAlike : ClassTable → Content → Content → List ℕ → Operation → Type 0
OwnsAlike table c d who (owner_request on) =
    IsStoreAtRest table d
    × ((h : Handle) → handle_at c (handle_name who on) ≡ Some h → owner_of table c h.object ≡ None → owner_of table d h.object ≡ None)
OwnsAlike table c d who operation = ⊤

-- A run of a request that was opened on a content at rest, and was given these units, is the same run on each content that agrees with
-- that one on the items read so far: it is as far, has read, taken and changed the same, and where it has ended it has the same reply.
-- The request doesn't go wrong on the first content, and leaves it at rest.
abbrev pub RequestsAreLocal : Type 0
RequestsAreLocal =
    (image : Image) (fuel : ℕ) (c d : Content) (q : Request) (units : List ℕ)
    → LeadsAheadOrToUnit image → IsStoreAtRest (table_of_image image) c → KeepsStoreAtRest (table_of_image image) (machine_invocation image c q fuel)
    → AgreeOn (reads_of_run (slices image fuel c units (opened q))) c d → OwnsAlike (table_of_image image) c d q.who q.operation
    → slices image fuel d units (opened q) ≡ slices image fuel c units (opened q)

-- What a run has of a content it has read: each object that it has and didn't make, and the next number where it has made an object.
pub record IsReadAs (items : List ReadItem) (h : Held) : Type 0 where
  pub objects : (n : ℕ) (o : Object) → found n h.read ≡ Some o → Contains items (object_item n)
  pub next : 0 < length h.made → Contains items next_item

-- What a request changes it has read: so is what it has of the content, and so is each name that denotes another handle or none.
pub record HasRead (a : Answer) : Type 0 where
  pub held : IsReadAs a.reads a.held
  pub handles : AllByRecursion (λ (change : NameChange). Contains a.reads (handle_item change.0)) a.handles

-- the same of a run, as far as it has come
abbrev pub HasReadChanges : Run → Type 0
HasReadChanges (opened q) = ⊤
HasReadChanges (paused q reads p h) = IsReadAs ((world_of p).reads ++ reads) h
HasReadChanges (answered a) = HasRead a
HasReadChanges lost = ⊤

-- So has each run of a request on one content, in any slices.
abbrev pub RequestsReadChanges : Type 0
RequestsReadChanges =
    (image : Image) (fuel : ℕ) (c : Content) (q : Request) (units : List ℕ) → LeadsAheadOrToUnit image
    → HasReadChanges (slices image fuel c units (opened q))

-- What differs between a content and one after a request is among these items: objects of the first, the next number, handles.
pub record DifferOn (items : List ReadItem) (c after : Content) : Type 0 where
  pub objects : (n : ℕ) → n < length c.objects → ¬ (Contains items (object_item n)) → object_at after.objects n ≡ object_at c.objects n
  pub next : ¬ (Contains items next_item) → length after.objects ≡ length c.objects
  pub handles : (name : HandleName) → ¬ (Contains items (handle_item name)) → handle_at after name ≡ handle_at c name

-- What an answer that has read its changes makes of a content differs from it on what was read.
abbrev pub AnswersDifferOnReads : Type 0
AnswersDifferOnReads = (c : Content) (a : Answer) → HasRead a → DifferOn a.reads c (content_after c a)

-- So does what a request makes of it that doesn't go wrong there: an object that it changes, the next number where it makes one, and each
-- name that it gives another handle or none it has read.
abbrev pub RequestsDifferOnReads : Type 0
RequestsDifferOnReads =
    (image : Image) (fuel : ℕ) (c : Content) (q : Request) (i : Invoked) → LeadsAheadOrToUnit image
    → machine_invocation image c q fuel ≡ invoked i → DifferOn i.reads c i.content
