-- Instructions that call a transaction or make an object (Coblenz et al., TOPLAS 42(3), 2020, "Silica"; re-entry, shared entry and
-- units are this project's own).
use Rattle.std.specs.Prelude.{ℕ, Bool, false, nat_le, List, [], length, Option, Some, if◌then◌else◌}
use Rattle.ob_base.specs.Limits.{most_objects}
use Rattle.ob_base.specs.Optional.{◌>>=◌}
use Rattle.ob_base.specs.declared.id.ContractId.{ContractId}
use Rattle.ob_base.specs.declared.id.TxId.{TxId}
use Rattle.ob_heap_spec.specs.Values.{Value}
use Rattle.ob_heap_spec.specs.Objects.{unfinished}
use Rattle.ob_heap_spec.specs.Contents.{object_at}
use Rattle.ob_heap_spec.specs.Worlds.{World, next_item, with_read, read_object, make_object, by_reentry, by_full}
use Rattle.ob_heap_spec.specs.Marks.{is_in_progress, enter}
use Rattle.ob_code.specs.declared.image.BodyCode.{BodyCode}
use Rattle.ob_code.specs.declared.image.Image.{Image}
use Rattle.ob_code.specs.Code.{body_code, is_shared_at_entry}
use Rattle.ob_code_table.specs.Images.{constructor_of, CalleeId, callee}
use Rattle.ob_machine_steps.specs.Slots.{reference_at, values_at, first_slots}
use Rattle.ob_machine_steps.specs.Configurations.{Entered, on_receiver, on_this, on_new, MachineFrame, Configuration, Next, goes, abort}
use Rattle.ob_machine_steps.specs.Parts.{with_unit, waiting}

-- what waits for a body: the frames around it, and the slot of the innermost of them that gets its result
pub record Caller : Type 0 where
  pub frames : List MachineFrame
  pub into : ℕ

-- the innermost frame waits, and this slot of it gets the result
abbrev pub caller : Configuration → ℕ → Caller
caller c into = record { frames = waiting c; into = into }

-- a body begins on an object, with these arguments
abbrev pub begun : Caller → CalleeId → BodyCode → ℕ → List Value → Entered → Bool → World → Configuration
begun by id b this args entered share_entered w = record {
  top = record {
    this = this;
    contract = id.0;
    tx = id.1;
    at = 0;
    slots = first_slots b.slots this args;
    entered = entered;
    share_entered = share_entered;
    tests = [];
    into = by.into;
  };
  below = by.frames;
  world = w;
}

-- Calls with a receiver.

-- the body that answers begins, and from then on its object has a transaction in progress; it is share-entered where it declares
-- `this` Shared
abbrev pub answers : Image → Caller → ℕ → List Value → World → CalleeId → Option Next
answers image by n args w id =
    body_code image id.0 id.1 >>= λ (b : BodyCode).
    Some (goes (begun by id b n args on_receiver (is_shared_at_entry b) (enter n w)))

-- a call of an object, once its unit is taken: the object is read, and the run aborts if it has a transaction in progress
abbrev pub calls_object : Image → Caller → ContractId → TxId → ℕ → List Value → World → Option Next
calls_object image by contract tx n args w =
    let v = read_object w n in
    if is_in_progress v n then Some (abort (by_reentry n) v)
    else object_at v.objects n >>= λ o. callee image contract tx o >>= answers image by n args v

-- `call`: a transaction of a contract or interface is called on the object of a slot
abbrev pub call_step : Image → ℕ → ℕ → ContractId → TxId → List ℕ → Configuration → Option Next
call_step image k a contract tx args c =
    reference_at c.top.slots a >>= λ n.
    values_at c.top.slots args >>= λ vs.
    with_unit c.world (calls_object image (caller c k) contract tx n vs)

-- Calls on `this`.

-- a call on `this`, once its unit is taken: it isn't tested for re-entry, and is share-entered as its caller is
abbrev pub calls_this : Image → ℕ → TxId → List Value → Configuration → World → Option Next
calls_this image k tx args c w =
    body_code image c.top.contract tx >>= λ (b : BodyCode).
    Some (goes (begun (caller c k) (c.top.contract, tx) b c.top.this args on_this c.top.share_entered w))

-- `self`: a transaction is called on `this`
abbrev pub self_step : Image → ℕ → TxId → List ℕ → Configuration → Option Next
self_step image k tx args c =
    values_at c.top.slots args >>= λ vs. with_unit c.world (calls_this image k tx vs c)

-- `new`.

-- a constructor begins on a new object, which has the next number
abbrev pub constructs : Image → Caller → ContractId → List Value → World → TxId → Option Next
constructs image by contract args w tx =
    body_code image contract tx >>= λ (b : BodyCode).
    Some (goes (begun by (contract, tx) b (length w.objects) args on_new false (make_object w (unfinished contract))))

-- a `new` by a constructor, once its unit is taken: the next number is read, and there must be one
abbrev pub makes_object : Image → Caller → ContractId → Option TxId → List Value → World → Option Next
makes_object image by contract constructor args w =
    let v = with_read w next_item in
    if nat_le most_objects (length v.objects) then Some (abort by_full v)
    else constructor >>= constructs image by contract args v

-- `new`: an object of a contract is made, and its constructor runs
abbrev pub new_step : Image → ℕ → ContractId → List ℕ → Configuration → Option Next
new_step image k contract args c =
    values_at c.top.slots args >>= λ vs.
    with_unit c.world (makes_object image (caller c k) contract (constructor_of image contract) vs)
