-- What a step of the innermost frame changes, and what it leaves (this project's own).
use Rattle.std.specs.Prelude.{◌≡◌, ◌≢◌, ℕ, ◌+◌, ◌<◌, ◌≤◌, ◌⊎◌, true, false, List, length, Option, Some, None}
use Rattle.ob_perm.specs.Permissions.{shared, owns}
use Rattle.ob_table.specs.Tables.{ClassTable}
use Rattle.ob_heap_spec.specs.Values.{reference}
use Rattle.ob_silica.specs.Terms.{SilicaTerms}
use Rattle.ob_silica_steps.specs.Cells.{Cell, permission_in}
use Rattle.ob_silica_steps.specs.Configurations.{by_new, Rest, Control, runs, Configuration}
use Rattle.ob_silica_steps.specs.Here.{Here, self_of}
use Rattle.ob_coherent_spec.specs.Counting.{nth_object, field_cell, in_fields, in_waiting, owners, references}
use Rattle.ob_coherent_spec.specs.Runs.{times, around, constructions, tests_in, locks, open_tests}
use Rattle.ob_coherent_spec.specs.Standing.{AllStand, HasItsState, IsObjectInRun, NeedsOwner}
use Rattle.ob_coherent_spec.specs.Remaining.{BodyParts, body_of}
use Rattle.ob_coherent_spec.specs.OpenTests.{AreOpen}
use Rattle.ob_coherent_spec.specs.Waiting.{OwnsMade, tests_of, SharesThis}

-- the configuration after a step of the innermost frame, which then works on this and does what the control says
abbrev pub moved_to : Configuration → Here → Control → Configuration
moved_to c h control = record {
  frame = record c.frame { slots = h.slots };
  control = control;
  stack = c.stack;
  notes = h.notes;
  world = h.world;
}

-- the same, where it has these terms to run
abbrev pub moved : Configuration → Here → SilicaTerms → List Rest → Configuration
moved c h terms outer = moved_to c h (runs terms outer)

-- A slot keeps its value and kind. Where it's Shared afterwards it was so before, or no place owns its object any more.
abbrev pub KeepsArgument : (ℕ → ℕ) → Cell → Option Cell → Type 0
KeepsArgument left x None = ⊥
KeepsArgument left x (Some y) = (y.value ≡ x.value) × (y.note.kind ≡ x.note.kind)
    × (y.note.permission ≡ shared → (x.note.permission ≡ shared) ⊎ ((n : ℕ) → x.value ≡ reference n → left n ≡ 0))

-- A step of the innermost frame keeps the number of objects, their contracts, and the states and fields of all but its own;
-- marks stay; and handles and transactions in progress are as they were.
pub record LeavesOthers (c : Configuration) (h : Here) : Type 0 where
  pub count : length h.world.objects ≡ length c.world.objects
  pub contracts : (n : ℕ) → (nth_object h.world.objects n).contract ≡ (nth_object c.world.objects n).contract
  pub states : (n : ℕ) → n ≢ self_of c.frame.slots
      → (nth_object h.world.objects n).state ≡ (nth_object c.world.objects n).state
  pub fields : (n k : ℕ) → n ≢ self_of c.frame.slots
      → (nth_object h.world.objects n).fields k ≡ (nth_object c.world.objects n).fields k
  pub notes : (n k : ℕ) → n ≢ self_of c.frame.slots → h.notes.fields n k ≡ c.notes.fields n k
  pub shared : (n : ℕ) → (nth_object c.world.objects n).shared ≡ true → (nth_object h.world.objects n).shared ≡ true
  pub disowned : (n : ℕ) → (nth_object c.world.objects n).disowned ≡ true → (nth_object h.world.objects n).disowned ≡ true
  pub handles : h.notes.handles ≡ c.notes.handles
  pub progress : h.world.progress ≡ c.world.progress

-- the state of the frame's object stays, or no other frame and no other object owns it
abbrev pub FreeToChange : Configuration → Here → Type 0
FreeToChange c h =
    ((nth_object h.world.objects (self_of c.frame.slots)).state ≡ (nth_object c.world.objects (self_of c.frame.slots)).state)
    ⊎ ((in_waiting owns (self_of c.frame.slots) c.stack ≡ 0)
    × ((n : ℕ) → n ≢ self_of c.frame.slots → in_fields owns (self_of c.frame.slots) c.notes c.world.objects n ≡ 0))

-- What a step of the innermost frame leaves of the whole, whatever the frame is about to do then.
pub record KeepsWhole (table : ClassTable) (entry : Option ℕ) (c : Configuration) (parts : BodyParts) (h : Here)
    (control : Control) : Type 0 where
  pub others : LeavesOthers c h
  pub free : FreeToChange c h
  pub this : self_of h.slots ≡ self_of c.frame.slots
  pub arguments : (k : ℕ) (x : Cell) → k ≤ length parts.signature.params → c.frame.slots k ≡ Some x
      → KeepsArgument (λ n. owners n (moved_to c h control)) x (h.slots k)
  pub unset : (k : ℕ) → parts.slots ≤ k → h.slots k ≡ None
  pub slots : AllStand table h.world.objects h.slots
  pub fields : AllStand table h.world.objects (field_cell h.notes h.world.objects (self_of c.frame.slots))
  pub object : IsObjectInRun table h.notes (self_of c.frame.slots) (nth_object h.world.objects (self_of c.frame.slots))
  pub one_owner : (n : ℕ) → owners n (moved_to c h control) ≤ 1
  pub disowned : (n : ℕ) → (nth_object h.world.objects n).disowned ≡ true → (nth_object h.world.objects n).shared ≡ false
      → owners n (moved_to c h control) ≡ 0
  pub shared : (n : ℕ) → (nth_object h.world.objects n).shared ≡ true → 0 < owners n (moved_to c h control)
      → (0 < times n h.world.locked) ⊎ (0 < open_tests n (moved_to c h control))
  pub assets : (n : ℕ) → NeedsOwner table h.world.objects n → 0 < owners n (moved_to c h control)
  -- an object gains an owner only where a test of it begins
  pub balanced : (n : ℕ) → owners n (moved_to c h control) + tests_of n c.frame.slots (around c.control)
      ≤ owners n c + tests_of n h.slots (around control)
  -- where a lock ends no place owns the object
  pub lock_ends : (n : ℕ) → 0 < times n c.world.locked
      → (0 < times n h.world.locked) ⊎ (owners n (moved_to c h control) ≡ 0)
  pub tested : (n : ℕ) → 0 < tests_in n h.slots (around control) → 0 < times n c.world.progress
  pub locked : (n : ℕ) → locks entry n (moved_to c h control) ≡ times n h.world.locked
  pub locked_once : (n : ℕ) → locks entry n (moved_to c h control) ≤ 1

-- What a step leaves that opens and ends no test, whatever the frame is about to do then: no object gains an owner, and
-- one that must have an owner keeps it.
pub record KeepsQuietly (table : ClassTable) (c : Configuration) (parts : BodyParts) (h : Here) (control : Control)
    : Type 0 where
  pub others : LeavesOthers c h
  pub state : (nth_object h.world.objects (self_of c.frame.slots)).state
      ≡ (nth_object c.world.objects (self_of c.frame.slots)).state
  pub locks : h.world.locked ≡ c.world.locked
  pub this : self_of h.slots ≡ self_of c.frame.slots
  pub arguments : (k : ℕ) (x : Cell) → k ≤ length parts.signature.params → c.frame.slots k ≡ Some x
      → KeepsArgument (λ n. owners n (moved_to c h control)) x (h.slots k)
  pub unset : (k : ℕ) → parts.slots ≤ k → h.slots k ≡ None
  pub slots : AllStand table h.world.objects h.slots
  pub fields : AllStand table h.world.objects (field_cell h.notes h.world.objects (self_of c.frame.slots))
  pub object : IsObjectInRun table h.notes (self_of c.frame.slots) (nth_object h.world.objects (self_of c.frame.slots))
  pub fewer : (n : ℕ) → owners n (moved_to c h control) ≤ owners n c
  pub keeps_owner : (n : ℕ) → NeedsOwner table h.world.objects n → owners n c ≤ owners n (moved_to c h control)
  pub newly_shared : (n : ℕ) → (nth_object c.world.objects n).shared ≡ false → (nth_object h.world.objects n).shared ≡ true
      → owners n (moved_to c h control) ≡ 0
  pub newly_disowned : (n : ℕ) → (nth_object c.world.objects n).disowned ≡ false
      → (nth_object h.world.objects n).disowned ≡ true → owners n (moved_to c h control) ≡ 0

-- What a step of the innermost frame leaves, after which these lists are around, so that the configuration is coherent again.
pub record IsOwnStep (table : ClassTable) (entry : Option ℕ) (c : Configuration) (parts : BodyParts) (h : Here)
    (terms : SilicaTerms) (outer : List Rest) : Type 0 where
  pub others : LeavesOthers c h
  pub free : FreeToChange c h
  -- the frame and its object
  pub this : self_of h.slots ≡ self_of c.frame.slots
  pub arguments : (k : ℕ) (x : Cell) → k ≤ length parts.signature.params → c.frame.slots k ≡ Some x
      → KeepsArgument (λ n. owners n (moved c h terms outer)) x (h.slots k)
  pub unset : (k : ℕ) → parts.slots ≤ k → h.slots k ≡ None
  pub slots : AllStand table h.world.objects h.slots
  pub fields : AllStand table h.world.objects (field_cell h.notes h.world.objects (self_of c.frame.slots))
  pub object : IsObjectInRun table h.notes (self_of c.frame.slots) (nth_object h.world.objects (self_of c.frame.slots))
  pub placed : c.frame.how ≢ by_new → HasItsState table (nth_object h.world.objects (self_of c.frame.slots))
  pub opens : AreOpen (body_of table c.frame parts) h outer
  pub shares : SharesThis (record c.frame { slots = h.slots }) (moved c h terms outer) 0
  pub owns_made : OwnsMade (record c.frame { slots = h.slots })
  -- owners
  pub one_owner : (n : ℕ) → owners n (moved c h terms outer) ≤ 1
  pub disowned : (n : ℕ) → (nth_object h.world.objects n).disowned ≡ true → (nth_object h.world.objects n).shared ≡ false
      → owners n (moved c h terms outer) ≡ 0
  pub shared : (n : ℕ) → (nth_object h.world.objects n).shared ≡ true → 0 < owners n (moved c h terms outer)
      → (0 < times n h.world.locked) ⊎ (0 < open_tests n (moved c h terms outer))
  pub assets : (n : ℕ) → NeedsOwner table h.world.objects n → 0 < owners n (moved c h terms outer)
  -- an object gains an owner only where a test of it begins
  pub balanced : (n : ℕ) → owners n (moved c h terms outer) + tests_of n c.frame.slots (around c.control)
      ≤ owners n c + tests_of n h.slots outer
  -- where a lock ends no place owns the object
  pub lock_ends : (n : ℕ) → 0 < times n c.world.locked
      → (0 < times n h.world.locked) ⊎ (owners n (moved c h terms outer) ≡ 0)
  pub tested : (n : ℕ) → 0 < tests_in n h.slots outer → 0 < times n c.world.progress
  pub locked : (n : ℕ) → locks entry n (moved c h terms outer) ≡ times n h.world.locked
  pub locked_once : (n : ℕ) → locks entry n (moved c h terms outer) ≤ 1
  pub unreferred : (n : ℕ) → 0 < constructions n c → references n (moved c h terms outer) ≤ references n c

-- The same of a step that opens and ends no test: no object gains an owner, and one that must have an owner keeps it.
pub record IsQuietStep (table : ClassTable) (c : Configuration) (parts : BodyParts) (h : Here) (terms : SilicaTerms)
    (outer : List Rest) : Type 0 where
  pub others : LeavesOthers c h
  pub state : (nth_object h.world.objects (self_of c.frame.slots)).state
      ≡ (nth_object c.world.objects (self_of c.frame.slots)).state
  pub locks : h.world.locked ≡ c.world.locked
  pub this : self_of h.slots ≡ self_of c.frame.slots
  pub arguments : (k : ℕ) (x : Cell) → k ≤ length parts.signature.params → c.frame.slots k ≡ Some x
      → KeepsArgument (λ n. owners n (moved c h terms outer)) x (h.slots k)
  pub unset : (k : ℕ) → parts.slots ≤ k → h.slots k ≡ None
  pub slots : AllStand table h.world.objects h.slots
  pub fields : AllStand table h.world.objects (field_cell h.notes h.world.objects (self_of c.frame.slots))
  pub object : IsObjectInRun table h.notes (self_of c.frame.slots) (nth_object h.world.objects (self_of c.frame.slots))
  pub opens : AreOpen (body_of table c.frame parts) h outer
  pub owns_made : OwnsMade (record c.frame { slots = h.slots })
  pub fewer : (n : ℕ) → owners n (moved c h terms outer) ≤ owners n c
  pub keeps_owner : (n : ℕ) → NeedsOwner table h.world.objects n → owners n c ≤ owners n (moved c h terms outer)
  pub newly_shared : (n : ℕ) → (nth_object c.world.objects n).shared ≡ false → (nth_object h.world.objects n).shared ≡ true
      → owners n (moved c h terms outer) ≡ 0
  pub newly_disowned : (n : ℕ) → (nth_object c.world.objects n).disowned ≡ false
      → (nth_object h.world.objects n).disowned ≡ true → owners n (moved c h terms outer) ≡ 0
  -- where `this` is Shared afterwards it was so before, or its object is in progress and no place owns it
  pub shares : permission_in (h.slots 0) ≡ shared → (permission_in (c.frame.slots 0) ≡ shared)
      ⊎ ((0 < times (self_of c.frame.slots) c.world.progress) × (owners (self_of c.frame.slots) (moved c h terms outer) ≡ 0))
  pub unreferred : (n : ℕ) → 0 < constructions n c → references n (moved c h terms outer) ≤ references n c
