-- How a run starts from an entry (this project's own): its own call or `new` takes its unit and enters its body as any other does.
use Rattle.std.specs.Prelude.{ℕ, Bool, List, [], ◌∷◌, Option, Some, None, is_some, IsTrue, if◌then◌else◌}
use Rattle.ob_base.specs.declared.id.ContractId.{ContractId}
use Rattle.ob_base.specs.declared.id.TxId.{TxId}
use Rattle.ob_table.specs.declared.contract.ResolvedType.TheVariants.{Reference}
use Rattle.ob_heap_spec.specs.Values.{Value, reference}
use Rattle.ob_heap_spec.specs.Objects.{Object}
use Rattle.ob_heap_spec.specs.Worlds.{World, first_world}
use Rattle.ob_heap_spec.specs.Marks.{comes_into, lock}
use Rattle.ob_code.specs.declared.image.BodyCode.{BodyCode}
use Rattle.ob_code.specs.declared.image.Image.{Image}
use Rattle.ob_code.specs.declared.image.ParamCode.{ParamCode}
use Rattle.ob_code.specs.Code.{body_code, no_result}
use Rattle.ob_code_table.specs.ImageTables.{perm_of_code, type_of_param}
use Rattle.ob_machine_steps.specs.Configurations.{Configuration, Next}
use Rattle.ob_machine_steps.specs.Parts.{with_unit}
use Rattle.ob_machine_steps.specs.Calling.{Caller, calls_object, makes_object}
use Rattle.ob_machine_steps.specs.Steps.{step_of}

-- An entry: the number of the object on which a transaction is called, which a constructor hasn't; the contract and the number of
-- the body there; the arguments; and whether the object is locked for the whole run.
pub record MachineEntry : Type 0 where
  pub receiver : Option ℕ
  pub contract : ContractId
  pub tx : TxId
  pub args : List Value
  pub lock : Bool

-- Before the run.

-- the world with the lock of an entry, if it has one
abbrev pub lock_receiver : Bool → Option ℕ → World → World
lock_receiver locked None w = w
lock_receiver locked (Some n) w = if locked then lock n w else w

-- arguments come into parameters, one after another: where one is declared Shared, its object is marked
abbrev pub args_come_in : List ParamCode → List Value → World → World
args_come_in [] args w = w
args_come_in (p ∷ params) [] w = w
args_come_in (p ∷ params) (v ∷ args) w = args_come_in params args (comes_into (type_of_param p) v w)

-- a receiver comes in: where the body declares `this` Shared, it is marked
abbrev pub receiver_comes_in : ContractId → BodyCode → Option ℕ → World → World
receiver_comes_in contract b None w = w
receiver_comes_in contract b (Some n) w = comes_into (Reference contract (perm_of_code b.entry)) (reference n) w

-- what comes into a body: the receiver, and then the arguments; where there is no such body nothing does
abbrev pub comes_into_body : ContractId → Option BodyCode → Option ℕ → List Value → World → World
comes_into_body contract None receiver args w = w
comes_into_body contract (Some b) receiver args w = args_come_in b.params args (receiver_comes_in contract b receiver w)

-- the world of an entry once what comes in was marked, before the unit of its call or `new`
abbrev pub marked_world : Image → MachineEntry → World → World
marked_world image e w = comes_into_body e.contract (body_code image e.contract e.tx) e.receiver e.args w

-- the world in which the run of an entry begins, on these objects and with so many units
abbrev pub entry_world : Image → MachineEntry → List Object → ℕ → World
entry_world image e objects fuel = marked_world image e (lock_receiver e.lock e.receiver (first_world objects fuel))

-- The start.

-- where a run is: it is still to enter its body, in this world; it is in a configuration
pub data Phase : Type 0 where
  starting : MachineEntry → World → Phase
  running : Configuration → Phase

-- the start of the run of an entry, on these objects and with so many units
abbrev pub started : Image → MachineEntry → List Object → ℕ → Phase
started image e objects fuel = starting e (entry_world image e objects fuel)

-- no frame waits for the body of an entry
abbrev pub nobody : Caller
nobody = record { frames = []; into = no_result }

-- what an entry's run does once its unit is taken: it calls the object, or makes one
abbrev pub enters : Image → MachineEntry → Option ℕ → World → Option Next
enters image e None w = makes_object image nobody e.contract (Some e.tx) e.args w
enters image e (Some n) w = calls_object image nobody e.contract e.tx n e.args w

-- the next step of a run, if it has one; the first takes a unit
abbrev pub next_step : Image → Phase → Option Next
next_step image (starting e w) = with_unit w (enters image e e.receiver)
next_step image (running c) = step_of image c

-- A run has a next step where it is.
abbrev pub HasStep : Image → Phase → Type 0
HasStep image p = IsTrue (is_some (next_step image p))
