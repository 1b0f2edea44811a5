-- What a `new` and a `call` from outside come to by code, for the invocation that is written for any meaning of them (this
-- project's own).
use Rattle.std.specs.Prelude.{ℕ, false, option_map}
use Rattle.std.specs.Option.{option_map_or}
use Rattle.ob_heap_spec.specs.Contents.{Content}
use Rattle.ob_invocation_spec.specs.Entries.{HandleUse, values_of}
use Rattle.ob_invocation_spec.specs.Entries as invocation
use Rattle.ob_invocation_spec.specs.Entering.{Meaning, is_locked_at_entry}
use Rattle.ob_invocation_spec.specs.Invocation.{invoke}
use Rattle.ob_invocation_spec.specs.Replies.{Invocation}
use Rattle.ob_invocation_spec.specs.Requests.{Request}
use Rattle.ob_code.specs.declared.image.Image.{Image}
use Rattle.ob_code_table.specs.ImageTables.{table_of_image}
use Rattle.ob_machine_steps.specs.Entries.{MachineEntry}
use Rattle.ob_machine_steps.specs.Outcomes.{machine_new, machine_call}

-- what a `new` and a `call` come to by an image; their world has the lock of the entry already
abbrev pub machine_meaning : Image → Meaning
machine_meaning image = record { new = machine_new image; call = machine_call image }

-- the invocation by code
abbrev pub machine_invocation : Image → Content → Request → ℕ → Invocation
machine_invocation image content request fuel =
    invoke (machine_meaning image) (table_of_image image) content request fuel

-- The entry of a request.

-- the entry of what a request enters, with the lock of its receiver
abbrev pub entry_of_request : Content → invocation.Entry → MachineEntry
entry_of_request content e = record {
  receiver = option_map (λ (u : HandleUse). u.handle.object) e.receiver;
  contract = e.contract;
  tx = e.tx;
  args = values_of content e;
  lock = option_map_or is_locked_at_entry e.receiver false;
}
