-- Worked examples of steps and of a run (this project's own).
use Rattle.std.specs.Prelude.{◌≡◌, ℕ, ℤ, pos, true, false, List, [], ◌∷◌, Option, Some, None, option_map}
use Rattle.std.specs.Option.{option_and_then}
use Rattle.ob_base.specs.declared.id.ContractId.{ContractId}
use Rattle.ob_base.specs.declared.id.StateId.{StateId}
use Rattle.ob_base.specs.declared.operator.Operator.TheVariants.{Add}
use Rattle.ob_base.specs.declared.permission.Mode.TheVariants.{Shared}
use Rattle.ob_heap_spec.specs.Values.{Value, int_value, reference, nothing, put}
use Rattle.ob_heap_spec.specs.Objects.{Object}
use Rattle.ob_heap_spec.specs.Contents.{object_at}
use Rattle.ob_heap_spec.specs.Worlds.{ReadItem, object_item, World, AbortCause, by_state, by_reentry, by_fuel, by_overflow, RunOutcome, gives, aborts}
use Rattle.ob_code.specs.declared.image.BodyCode.{BodyCode}
use Rattle.ob_code.specs.declared.image.ContractCode.{ContractCode}
use Rattle.ob_code.specs.declared.image.Image.{Image}
use Rattle.ob_code.specs.declared.image.ParamCode.TheVariants as param
use Rattle.ob_code.specs.declared.image.PermCode.{PermCode}
use Rattle.ob_code.specs.declared.image.TypeCode.TheVariants as type
use Rattle.ob_code.specs.declared.instruction.Instruction.{Instruction}
use Rattle.ob_code.specs.declared.instruction.Instruction.TheVariants as instruction
use Rattle.ob_machine_steps.specs.Configurations.{on_receiver, MachineFrame, Configuration, aborted, Next, goes, stops}
use Rattle.ob_machine_steps.specs.Steps.{act}
use Rattle.ob_machine_steps.specs.Entries.{MachineEntry, Phase, started}
use Rattle.ob_machine_steps.specs.Runs.{paused, run_in}
use Rattle.ob_machine_steps.specs.Outcomes.{outcome}

-- An image of one contract. It has the states S and T, a field `n` in both of them and in no state, and a field `m` in S alone.

-- what is held of an object by a Shared reference
abbrev pub shared_perm : PermCode
shared_perm = record { mode = Shared; states = pos 0 }

-- a transaction without parameters, of this name, whose `this` is Shared
abbrev pub shared_body : List ℕ → List Instruction → BodyCode
shared_body name instructions = record {
  name = name;
  flags = 4;
  entry = shared_perm;
  exit = shared_perm;
  params = [];
  result = None;
  slots = 4;
  instructions = instructions;
}

-- the constructor of `C@Shared() { n = 7; ->T; }`
abbrev pub constructor_body : BodyCode
constructor_body = record {
  name = [];
  flags = 2;
  entry = shared_perm;
  exit = shared_perm;
  params = [];
  result = None;
  slots = 2;
  instructions =
      instruction.Unit
      ∷ instruction.Int 1 (pos 7)
      ∷ instruction.Store (record { 0 = 0 }) 1
      ∷ instruction.Unit
      ∷ instruction.Change (record { 0 = 1 }) []
      ∷ instruction.Share 0
      ∷ instruction.Ret
      ∷ [];
}

-- a transaction that adds a number to `n` and gives the sum: `int add(C@Shared this, int a) { n = n + a; return n; }`
abbrev pub add_body : BodyCode
add_body = record {
  name = 97 ∷ [];
  flags = 4;
  entry = shared_perm;
  exit = shared_perm;
  params = param.Int ∷ [];
  result = Some type.Int;
  slots = 4;
  instructions =
      instruction.Share 0
      ∷ instruction.Unit
      ∷ instruction.Load 2 (record { 0 = 0 })
      ∷ instruction.Op 2 Add 2 1 5
      ∷ instruction.Store (record { 0 = 0 }) 2
      ∷ instruction.Unit
      ∷ instruction.Load 3 (record { 0 = 0 })
      ∷ instruction.RetValue 3
      ∷ [];
}

-- a transaction that goes round: it calls itself on the object that is its own
abbrev pub round_body : BodyCode
round_body = shared_body (114 ∷ []) (instruction.Unit ∷ instruction.Call 255 0 (record { 0 = 0 }) (record { 0 = 2 }) [] ∷ instruction.Ret ∷ [])

-- the contract
abbrev pub example_contract : ContractCode
example_contract = record {
  name = 67 ∷ [];
  flags = 2;
  implements = 0;
  states = (83 ∷ []) ∷ (84 ∷ []) ∷ [];
  fields =
      record { name = 110 ∷ []; of = type.Int; available = pos 4294967299 }
      ∷ record { name = 109 ∷ []; of = type.Int; available = pos 1 }
      ∷ [];
  bodies = constructor_body ∷ add_body ∷ round_body ∷ [];
}

-- the image
abbrev pub example : Image
example = record { contracts = example_contract ∷ [] }

-- its contract's number, and those of its states
abbrev pub the_contract : ContractId
the_contract = record { 0 = 0 }

-- its first state
abbrev pub state_s : StateId
state_s = record { 0 = 0 }

-- its second state
abbrev pub state_t : StateId
state_t = record { 0 = 1 }

-- a shared object in S, with 3 in `n` and 4 in `m`
abbrev pub object_in_s : Object
object_in_s = record {
  contract = the_contract;
  state = Some state_s;
  fields = put (put nothing 0 (int_value (pos 3))) 1 (int_value (pos 4));
  shared = true;
  disowned = false;
}

-- a world of two such objects, with these locked, and these in progress, and so many units
abbrev pub two_objects : List ℕ → List ℕ → ℕ → World
two_objects locked progress fuel = record {
  objects = object_in_s ∷ object_in_s ∷ [];
  made = 0;
  locked = locked;
  progress = progress;
  fuel = fuel;
  taken = 0;
  reads = [];
}

-- a share-entered frame of `round` on object 0, whose slot 1 refers to object 1, with these tests noted
abbrev pub frame_on_0 : List (Option ℕ) → MachineFrame
frame_on_0 tests = record {
  this = 0;
  contract = the_contract;
  tx = record { 0 = 2 };
  at = 0;
  slots = Some (reference 0) ∷ Some (reference 1) ∷ None ∷ None ∷ [];
  entered = on_receiver;
  share_entered = true;
  tests = tests;
  into = 255;
}

-- this frame alone, in such a world
abbrev pub on_0 : List (Option ℕ) → List ℕ → ℕ → Configuration
on_0 tests locked fuel = record { top = frame_on_0 tests; below = []; world = two_objects locked (0 ∷ []) fuel }

-- What a step leads to.

-- the configuration of a step that goes on
abbrev pub next_of : Option Next → Option Configuration
next_of (Some (goes c)) = Some c
next_of next = None

-- the place, the noted tests, what is locked and what was read after a step that goes on
abbrev pub told : Option Next → Option (ℕ × List (Option ℕ) × List ℕ × List ReadItem)
told next = option_map (λ (c : Configuration). (c.top.at, c.top.tests, c.world.locked, c.world.reads)) (next_of next)

-- the cause of an abort, with the units taken and what was read
abbrev pub told_abort : Option Next → Option (AbortCause × ℕ × List ReadItem)
told_abort (Some (stops (aborted cause s))) = Some (cause, s.taken, s.reads)
told_abort next = None

-- the state and the values of the two fields of object 0 after a step that goes on
abbrev pub told_object : Option Next → Option (Option StateId × Option Value × Option Value)
told_object next = option_and_then (λ (c : Configuration). option_map (λ (o : Object). (o.state, o.fields 0, o.fields 1)) (object_at c.world.objects 0)) (next_of next)

-- Tests.

-- A test of a shared object that is in the state locks it, and is noted with its lock; the object is read.
abbrev pub TestLocks : Type 0
TestLocks =
    told (act example (instruction.Test 1 the_contract state_s 9) (on_0 [] [] 5))
    ≡ Some (1, Some 1 ∷ [], 1 ∷ [], object_item 1 ∷ [])

-- Where it is in another state the instruction at the target follows, and nothing is locked or noted.
abbrev pub TestFails : Type 0
TestFails =
    told (act example (instruction.Test 1 the_contract state_t 9) (on_0 [] [] 5)) ≡ Some (9, [], [], object_item 1 ∷ [])

-- It aborts where the object is locked.
abbrev pub TestAborts : Type 0
TestAborts =
    told_abort (act example (instruction.Test 1 the_contract state_s 9) (on_0 [] (1 ∷ []) 5))
    ≡ Some (by_state 1 None, 0, object_item 1 ∷ [])

-- A test of `this` takes no lock; in a share-entered body it aborts where `this` is locked.
abbrev pub TestOfThis : Type 0
TestOfThis =
    told (act example (instruction.Test 0 the_contract state_s 9) (on_0 [] [] 5)) ≡ Some (1, None ∷ [], [], object_item 0 ∷ [])

-- in a share-entered body a test of `this` aborts while the object is locked
abbrev pub TestOfThisAborts : Type 0
TestOfThisAborts =
    told_abort (act example (instruction.Test 0 the_contract state_s 9) (on_0 [] (0 ∷ []) 5))
    ≡ Some (by_state 0 None, 0, object_item 0 ∷ [])

-- The end of a test takes its lock off.
abbrev pub TestEnds : Type 0
TestEnds = told (act example instruction.EndTest (on_0 (Some 1 ∷ None ∷ []) (1 ∷ []) 5)) ≡ Some (1, None ∷ [], [], [])

-- Changes.

-- A change to T keeps `n`, which is available there, and drops `m`, which isn't.
abbrev pub ChangeKeeps : Type 0
ChangeKeeps =
    told_object (act example (instruction.Change state_t []) (on_0 [] [] 5))
    ≡ Some (Some state_t, Some (int_value (pos 3)), None)

-- In a share-entered body it aborts where `this` is locked.
abbrev pub ChangeAborts : Type 0
ChangeAborts =
    told_abort (act example (instruction.Change state_t []) (on_0 [] (0 ∷ []) 5)) ≡ Some (by_state 0 None, 0, [])

-- Without a step: a field that T doesn't have can't be given, and a slot that is unset can't be copied.
abbrev pub NoField : Type 0
NoField = act example (instruction.Change state_t ((record { 0 = 1 }, 1) ∷ [])) (on_0 [] [] 5) ≡ None

-- a copy of a slot that is unset has no step
abbrev pub NoValue : Type 0
NoValue = act example (instruction.Copy 2 3) (on_0 [] [] 5) ≡ None

-- Calls.

-- A call of an object that has a transaction in progress takes its unit and then aborts; the object was read.
abbrev pub CallAborts : Type 0
CallAborts =
    told_abort (act example (instruction.Call 255 0 the_contract (record { 0 = 2 }) []) (on_0 [] [] 5))
    ≡ Some (by_reentry 0, 1, object_item 0 ∷ [])

-- Where no unit is left it aborts for want of one, before anything is read.
abbrev pub CallWithoutFuel : Type 0
CallWithoutFuel =
    told_abort (act example (instruction.Call 255 0 the_contract (record { 0 = 2 }) []) (on_0 [] [] 0)) ≡ Some (by_fuel, 0, [])

-- Runs.

-- the result and the units left and taken of a run that gives one
abbrev pub told_run : RunOutcome (Option Value) → Option (Option Value × ℕ × ℕ)
told_run (gives result w) = Some (result, w.fuel, w.taken)
told_run other = None

-- the cause of a run that aborts, with the units taken
abbrev pub told_cause : RunOutcome (Option Value) → Option (AbortCause × ℕ)
told_cause (aborts cause s) = Some (cause, s.taken)
told_cause other = None

-- the entry of a call of `add` on object 0
abbrev pub add_entry : ℤ → MachineEntry
add_entry z = record {
  receiver = Some 0;
  contract = the_contract;
  tx = record { 0 = 1 };
  args = int_value z ∷ [];
  lock = false;
}

-- the run of it on one object, with so many units
abbrev pub add_run : ℤ → ℕ → Phase
add_run z fuel = started example (add_entry z) (object_in_s ∷ []) fuel

-- `add` of 5 gives 8, and takes three units: of its call, and of its two statements.
abbrev pub AddGives : Type 0
AddGives = told_run (outcome example (add_run (pos 5) 4)) ≡ Some (Some (int_value (pos 8)), 1, 3)

-- A sum that is no `int` aborts with the operator's line.
abbrev pub AddOverflows : Type 0
AddOverflows = told_cause (outcome example (add_run (pos 9223372036854775807) 4)) ≡ Some (by_overflow 5, 2)

-- With two units it aborts at its second statement.
abbrev pub AddWithoutFuel : Type 0
AddWithoutFuel = told_cause (outcome example (add_run (pos 5) 2)) ≡ Some (by_fuel, 2)

-- A `new` of the contract gives its object, the first.
abbrev pub NewGives : Type 0
NewGives =
    told_run (outcome example (started example (record {
      receiver = None;
      contract = the_contract;
      tx = record { 0 = 0 };
      args = [];
      lock = false;
    }) [] 3))
    ≡ Some (Some (reference 0), 0, 3)

-- `round` calls the object that is its own, and aborts by re-entry with the third unit.
abbrev pub RoundAborts : Type 0
RoundAborts =
    told_cause (outcome example (started example (record {
      receiver = Some 0;
      contract = the_contract;
      tx = record { 0 = 2 };
      args = [];
      lock = false;
    }) (object_in_s ∷ []) 9))
    ≡ Some (by_reentry 0, 3)

-- A slice without units waits before the entry's own unit.
abbrev pub SliceWaits : Type 0
SliceWaits = run_in example 1 0 (add_run (pos 5) 4) ≡ Some (paused (add_run (pos 5) 4))
