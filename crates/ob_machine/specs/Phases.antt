-- Where a run is for which a machine stands (this project's own).
use Rattle.std.specs.Prelude.{◌≡◌, ℕ, false, List, length, map, Option, Some, None, option_map}
use Rattle.ob_base.specs.Optional.{◌>>=◌}
use Rattle.ob_heap_spec.specs.Values.{Value}
use Rattle.ob_heap_spec.specs.Worlds.{World, first_world}
use Rattle.ob_heap.specs.declared.object.Object.{Object}
use Rattle.ob_heap.specs.Overlays.{Changes, objects_over}
use Rattle.ob_heap.specs.Plain.{value_of}
use Rattle.ob_code.specs.declared.image.BodyCode.{BodyCode}
use Rattle.ob_code.specs.declared.image.Image.{Image}
use Rattle.ob_code.specs.Code.{body_code}
use Rattle.ob_code_table.specs.Images.{CalleeId}
use Rattle.ob_machine_steps.specs.Configurations.{Entered, Configuration, Next, goes}
use Rattle.ob_machine_steps.specs.Calling.{begun}
use Rattle.ob_machine_steps.specs.Entries.{MachineEntry, Phase, starting, running, nobody, lock_receiver}
use Rattle.ob_machine_parts.specs.Arguments.{is_shared_in}
use Rattle.ob_machine_parts.specs.Shown.{number_of, reads_of}
use Rattle.ob_machine.specs.Shown.{shown}
use Rattle.ob_machine.specs.declared.entry.Entry.{Entry}
use Rattle.ob_machine.specs.declared.machine.Machine.{Machine}

-- an entry
abbrev pub entry_of : Entry → MachineEntry
entry_of e = record {
  receiver = option_map number_of e.receiver;
  contract = e.contract;
  tx = e.tx;
  args = map value_of e.args;
  lock = e.lock;
}

-- where a run is: it has still to enter its body, or it is in a configuration
abbrev pub phase_at : Option Entry → Configuration → Phase
phase_at None c = running c
phase_at (Some e) c = starting (entry_of e) c.world

-- where the run is for which a machine stands, on the objects of a store with the changes laid over them
abbrev pub phase_of : Machine → List Object → Changes → Phase
phase_of m base o = phase_at m.entry (shown m.run base o)

-- A machine has made its first step.
abbrev pub HasBegun : Machine → Type 0
HasBegun m = m.entry ≡ None

-- the world in which a machine starts: its receiver is locked, if the entry says so
abbrev pub world_at_start : Entry → List Object → Changes → ℕ → World
world_at_start e base o fuel =
    record (lock_receiver e.lock (option_map number_of e.receiver) (first_world (objects_over base o) fuel)) { made = length o.made; reads = reads_of o }

-- the body of an entry begins on an object
abbrev pub enters_body : Image → CalleeId → ℕ → Entered → List Value → World → Option Next
enters_body image id this entered args w =
    body_code image id.0 id.1 >>= λ (b : BodyCode).
    Some (goes (begun nobody id b this args entered (is_shared_in entered b false) w))
