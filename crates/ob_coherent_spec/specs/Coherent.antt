-- Coherent configurations (Coblenz et al., TOPLAS 42(3), 2020, "Silica", where a configuration is consistent; locks, calls on
-- `this`, marks and the steps of a return are this project's own).
use Rattle.std.specs.Prelude.{◌≡◌, ◌≢◌, ℕ, suc, ◌+◌, ◌<◌, ◌≤◌, ◌⊎◌, Bool, true, false, List, [], ◌∷◌, length, Option, Some, None, slice_get, ⊤}
use Rattle.ob_base.specs.declared.id.ContractId.{ContractId}
use Rattle.ob_base.specs.declared.id.TxId.{TxId}
use Rattle.ob_perm.specs.States.{States}
use Rattle.ob_perm.specs.Permissions.{Permission, owned, shared, unowned, owns}
use Rattle.ob_perm.specs.Masks.{permission_of}
use Rattle.ob_table.specs.Tables.{ClassTable, contract_at, signature_at}
use Rattle.ob_table.specs.declared.contract.Contract.{Contract}
use Rattle.ob_table.specs.declared.contract.Field.{Field}
use Rattle.ob_table.specs.declared.contract.Param.{Param}
use Rattle.ob_table.specs.declared.contract.ResolvedType.{ResolvedType}
use Rattle.ob_table.specs.declared.contract.Signature.{Signature}
use Rattle.ob_table.specs.declared.seen.Kind.{Kind}
use Rattle.ob_table_spec.specs.WellFormed.{kind_of_resolved}
use Rattle.ob_heap_spec.specs.Values.{Value}
use Rattle.ob_heap_spec.specs.Objects.{Object, state_number, is_available}
use Rattle.ob_heap_spec.specs.Worlds.{World}
use Rattle.ob_silica.specs.Terms.{SilicaTerms}
use Rattle.ob_silica_places.specs.Known.{Known, known}
use Rattle.ob_silica_places.specs.Places.{Location, slot, field, this}
use Rattle.ob_silica_steps.specs.Cells.{Cell, permission_in, value_in}
use Rattle.ob_silica_steps.specs.Configurations.{How, by_receiver, by_this, by_new, SilicaFrame, Rest, Waiting, runs, leaves, Notes, Configuration, NextStep, goes, ended, aborted, stuck}
use Rattle.ob_silica_steps.specs.Here.{Here, here, self_of, field_of}
use Rattle.ob_silica_steps.specs.Returning.{left_world}
use Rattle.ob_silica_steps.specs.Starting.{declared_note}
use Rattle.ob_silica_formed.specs.Holdings.{Holdings}
use Rattle.ob_flow_spec.specs.Contexts.{BodyFrame, available, exit_of_field, Context, permission_at, known_as, is_held_as, owns_asset, is_tested}
use Rattle.ob_flow_spec.specs.Returning.{tests_ended}
use Rattle.ob_flow_laws.specs.Laws.{MeetsExit}
use Rattle.ob_places_laws.specs.Serving.{Allows}
use Rattle.ob_silica_places.specs.Parameters.{Parameter, all_parameters}
use Rattle.ob_coherent_spec.specs.Counting.{nth_object, field_cell, in_cell, owners, references}
use Rattle.ob_coherent_spec.specs.Runs.{times, around, entries, constructions, constructing_at, constructing_among, locks, open_tests, tested_places}
use Rattle.ob_coherent_spec.specs.Standing.{AllStand, Stands, is_in, HasItsState, IsObjectInRun, NeedsOwner, HandlesStand}
use Rattle.ob_coherent_spec.specs.Saying.{SaysOf, Says, own_cell, every}
use Rattle.ob_coherent_spec.specs.Remaining.{BodyParts, body_of, AreHeld, Remains}
use Rattle.ob_coherent_spec.specs.OpenTests.{AreOpen}
use Rattle.ob_coherent_spec.specs.Waiting.{IsFrame, OwnsMade, tests_of, SharesThis, has_lent, gives_back_as, AllLend, AllWait}

-- How a run began: the body that it entered from outside, and the values that stand in its slots from one number on.
pub record Beginning : Type 0 where
  pub contract : ContractId
  pub tx : TxId
  pub how : How
  pub from : ℕ
  pub values : List Value

-- the outermost frame
abbrev pub outermost : SilicaFrame → List Waiting → SilicaFrame
outermost f [] = f
outermost f (h ∷ hs) = outermost h.frame hs

-- A frame runs the body with which the run began, and its parameters have the values with which it began: no slot past them
-- has one.
pub record BeganSo (table : ClassTable) (beginning : Beginning) (f : SilicaFrame) : Type 0 where
  pub contract : f.contract ≡ beginning.contract
  pub tx : f.tx ≡ beginning.tx
  pub how : f.how ≡ beginning.how
  pub within : (own : Contract) (s : Signature) → contract_at table f.contract ≡ Some own → signature_at own f.tx ≡ Some s
      → beginning.from + length beginning.values ≤ suc (length s.params)
  pub values : (k : ℕ) (v : Value) → slice_get beginning.values k ≡ Some v
      → value_in (f.slots (beginning.from + k)) ≡ Some v

-- An object that no frame runs on: it's in one of its states, and each available field is as it is declared.
pub record IsAsDeclared (table : ClassTable) (N : ℕ → Type 0) (notes : Notes) (objects : List Object) (n : ℕ) : Type 0 where
  pub placed : HasItsState table (nth_object objects n)
  pub fields : (k : ℕ) (f : Field) → field_of table (nth_object objects n) k ≡ Some f
      → is_available (nth_object objects n).state f ≡ true
      → SaysOf N (Some (declared_note f.of)) (field_cell notes objects n k)

-- What is so of the whole of a configuration, whatever its innermost frame is about to do.
pub record Holds (table : ClassTable) (entry : Option ℕ) (beginning : Beginning) (c : Configuration) : Type 0 where
  -- each object has one owning place at most, and none where it is marked disowned and not shared
  pub one_owner : (n : ℕ) → owners n c ≤ 1
  pub disowned : (n : ℕ) → (nth_object c.world.objects n).disowned ≡ true → (nth_object c.world.objects n).shared ≡ false
      → owners n c ≡ 0
  -- one that is marked as shared has an owning place only while it is locked, or while a test of its `this` is open
  pub shared : (n : ℕ) → (nth_object c.world.objects n).shared ≡ true → 0 < owners n c
      → (0 < times n c.world.locked) ⊎ (0 < open_tests n c)
  pub tested : (n : ℕ) → 0 < open_tests n c → 0 < times n c.world.progress
  -- an asset that must have an owner has one
  pub assets : (n : ℕ) → NeedsOwner table c.world.objects n → 0 < owners n c
  -- what is noted of slots, fields and handles is so
  pub slots : AllStand table c.world.objects c.frame.slots
  pub fields : (n : ℕ) → AllStand table c.world.objects (field_cell c.notes c.world.objects n)
  pub handles : HandlesStand c.world.objects c.notes.handles
  pub objects : (n : ℕ) → n < length c.world.objects → IsObjectInRun table c.notes n (nth_object c.world.objects n)
  pub declared : (n : ℕ) → n < length c.world.objects → entries n c ≡ 0 → constructions n c ≡ 0
      → IsAsDeclared table (NeedsOwner table c.world.objects) c.notes c.world.objects n
  -- an object has a transaction in progress while a frame was entered by a call of it, and there is one such frame at most
  pub progress : (n : ℕ) → entries n c ≡ times n c.world.progress
  pub entered_once : (n : ℕ) → entries n c ≤ 1
  -- the locked objects are those of the open tests that lock, and the one that is locked for the whole call, each once
  pub locked : (n : ℕ) → locks entry n c ≡ times n c.world.locked
  pub locked_once : (n : ℕ) → locks entry n c ≤ 1
  -- the innermost frame
  pub parts : BodyParts
  pub frame : IsFrame table c.world.objects c.frame parts
  pub waiting : AllWait table (NeedsOwner table c.world.objects) c c.frame parts (self_of c.frame.slots ∷ [])
      (λ n. tests_of n c.frame.slots (around c.control)) c.stack
  pub began : BeganSo table beginning (outermost c.frame c.stack)

-- A configuration whose innermost frame runs terms.
pub record IsRunning (table : ClassTable) (entry : Option ℕ) (beginning : Beginning) (c : Configuration) : Type 0 where
  pub whole : Holds table entry beginning c
  pub terms : SilicaTerms
  pub outer : List Rest
  pub control : c.control ≡ runs terms outer
  pub context : Context
  pub says : Says (body_of table c.frame whole.parts) (NeedsOwner table c.world.objects) context (here c) every
  pub holdings : Holdings
  pub held : AreHeld holdings c.frame.slots every
  pub remains : Remains (body_of table c.frame whole.parts) holdings context terms outer
  pub opens : AreOpen (body_of table c.frame whole.parts) (here c) outer
  pub placed : c.frame.how ≢ by_new → HasItsState table (nth_object c.world.objects (self_of c.frame.slots))
  pub shares : SharesThis c.frame c 0
  pub owns_made : OwnsMade c.frame
  -- an object under construction is referred to by its own frame alone
  pub unreferred : (n : ℕ) → 0 < constructions n c → references n c ≤ 1
  pub lends : AllLend table c.frame.contract c.frame.tx c.frame.how c.stack

-- What the innermost frame has given back: as its body declares.
abbrev pub IsGivenBack : (ℕ → Type 0) → Option Cell → Option ResolvedType → Type 0
IsGivenBack N None None = ⊤
IsGivenBack N (Some x) (Some of) = SaysOf N (Some (known_as of)) (Some x)
IsGivenBack N result of = ⊥

-- What a context says where a frame leaves, once the places under test are Shared again: parameters and `this` meet their
-- exits, no other slot owns an asset, and each field that is there is held as the body leaves it.
pub record LeavesSo (b : BodyFrame) (how : How) (g : Context) (state : ℕ) : Type 0 where
  pub params : (k : ℕ) (p : Param) → slice_get b.signature.params k ≡ Some p
      → MeetsExit b g (slot (k + 1)) (permission_of p.exit)
  pub itself : how ≢ by_new → MeetsExit b g this (permission_of b.signature.exit)
  pub given : how ≡ by_new → owns (permission_at g this) ≡ false
  pub others : (k : ℕ) → length b.signature.params < k → owns_asset b g (slot k) ≡ false
  pub fields : (k : ℕ) → available b k state ≡ true → is_held_as (g (field k)) (exit_of_field b b.signature k) ≡ true

-- A configuration whose innermost frame leaves, and has still to end the lists around.
pub record IsLeaving (table : ClassTable) (entry : Option ℕ) (beginning : Beginning) (c : Configuration) : Type 0 where
  pub whole : Holds table entry beginning c
  pub result : Option Cell
  pub outer : List Rest
  pub control : c.control ≡ leaves result outer
  pub returned : (x : Cell) → result ≡ Some x → Stands table c.world.objects x
  pub given : IsGivenBack (NeedsOwner table c.world.objects) result (gives_back_as c.frame whole.parts)
  pub context : Context
  pub says : Says (body_of table c.frame whole.parts) (NeedsOwner table c.world.objects) context (here c) every
  pub opens : AreOpen (body_of table c.frame whole.parts) (here c) outer
  pub still : (p : Location) → is_tested (tested_places outer) p ≡ true → owns (permission_at context p) ≡ true
  pub leaves_so : LeavesSo (body_of table c.frame whole.parts) c.frame.how (tests_ended (tested_places outer) context)
      (state_number (nth_object c.world.objects (self_of c.frame.slots)).state)
  pub placed : HasItsState table (nth_object c.world.objects (self_of c.frame.slots))
  pub shares : c.frame.how ≢ by_new → SharesThis c.frame c 0
  pub unreferred : (n : ℕ) → 0 < constructing_among n c.stack → references n c ≤ 1
  pub lends : AllLend table c.frame.contract c.frame.tx c.frame.how c.stack

-- What a callee leaves in the slot of a loan meets the exit: an owner's and a Shared one are held so, and where there is no
-- say no object is owned that must have an owner.
abbrev pub LeavesWith : (ℕ → Type 0) → Permission → Cell → Type 0
LeavesWith N (owned a) x = Allows (owned a) x.note.permission
LeavesWith N shared x = x.note.permission ≡ shared
LeavesWith N unowned x = (n : ℕ) → N n → in_cell owns n (Some x) ≡ 0

-- A configuration whose innermost frame leaves, all of whose tests have ended, while loans go back to the frame below.
pub record IsReturning (table : ClassTable) (entry : Option ℕ) (beginning : Beginning) (c : Configuration) : Type 0 where
  pub whole : Holds table entry beginning c
  pub result : Option Cell
  pub control : c.control ≡ leaves result []
  pub below : Waiting
  pub others : List Waiting
  pub stack : c.stack ≡ below ∷ others
  pub returned : (x : Cell) → result ≡ Some x → Stands table c.world.objects x
  pub given : IsGivenBack (NeedsOwner table c.world.objects) result (gives_back_as c.frame whole.parts)
  -- no slot but those of loans owns an object that must have an owner, and those meet the exits
  pub none : (k : ℕ) → has_lent below.loans k ≡ false → (n : ℕ) → NeedsOwner table c.world.objects n
      → in_cell owns n (c.frame.slots k) ≡ 0
  pub exits : (k : ℕ) (p : Parameter) (x : Cell) → has_lent below.loans k ≡ true
      → slice_get (all_parameters c.frame.contract whole.parts.signature) k ≡ Some p → c.frame.slots k ≡ Some x
      → LeavesWith (NeedsOwner table c.world.objects) (permission_of p.exit) x
  -- the object of the frame is in one of its states, and its fields are as the body leaves them
  pub placed : HasItsState table (nth_object c.world.objects (self_of c.frame.slots))
  pub fields : (k : ℕ) (f : Field) → slice_get whole.parts.own.fields k ≡ Some f
      → is_available (nth_object c.world.objects (self_of c.frame.slots)).state f ≡ true
      → SaysOf (NeedsOwner table c.world.objects)
      (Some (known (kind_of_resolved f.of) (exit_of_field (body_of table c.frame whole.parts) whole.parts.signature k)))
      (own_cell (here c) k)
  pub shares : c.frame.how ≢ by_new → SharesThis c.frame c 0
  pub unreferred : (n : ℕ) → 0 < constructing_among n c.stack → references n c ≤ 1
  pub lends : AllLend table below.frame.contract below.frame.tx below.frame.how others

-- A coherent configuration: one that runs, that leaves, or that returns.
pub data IsCoherent (table : ClassTable) (entry : Option ℕ) (beginning : Beginning) (c : Configuration) : Type 0 where
  running : IsRunning table entry beginning c → IsCoherent table entry beginning c
  leaving : IsLeaving table entry beginning c → IsCoherent table entry beginning c
  returning : IsReturning table entry beginning c → IsCoherent table entry beginning c

-- The end of a run: its last configuration leaves, and no frame waits for it.
pub record HasEnded (table : ClassTable) (entry : Option ℕ) (beginning : Beginning) (result : Option Value) (w : World)
    : Type 0 where
  pub last : Configuration
  pub leaving : IsLeaving table entry beginning last
  pub outer : leaving.outer ≡ []
  pub alone : last.stack ≡ []
  pub gives : result ≡ value_in leaving.result
  pub world : w ≡ left_world last

-- What a step comes to from a coherent configuration: another one, an end, or an abort; it isn't stuck.
abbrev pub StepsSo : ClassTable → Option ℕ → Beginning → NextStep → Type 0
StepsSo table entry beginning (goes c) = IsCoherent table entry beginning c
StepsSo table entry beginning (ended result w) = HasEnded table entry beginning result w
StepsSo table entry beginning (aborted cause s) = ⊤
StepsSo table entry beginning stuck = ⊥
