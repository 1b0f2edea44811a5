-- What a request enters, as the code keeps it (this project's own).
use Rattle.std.specs.Prelude.{◌≡◌, ℕ, List, map, Option, Some, None, option_map, ⊤}
use Rattle.ob_heap_spec.specs.Contents.{Content}
use Rattle.ob_heap.specs.Plain.{value_of, handle_of}
use Rattle.ob_invocation_spec.specs.Checks.{Check, refusal_of}
use Rattle.ob_invocation_spec.specs.Entries.{Entry, handle_uses}
use Rattle.ob_invocation_spec.specs.Entries as invocation
use Rattle.ob_invocation_spec.specs.Handles.{handle_name}
use Rattle.ob_machine_steps.specs.Entries.{MachineEntry}
use Rattle.ob_code_table.specs.ImageTables.{perm_of_code}
use Rattle.ob_machine_meaning.specs.Meanings.{entry_of_request}
use Rattle.ob_wire.specs.Refusals.{refusal_told}
use Rattle.ob_exec_entries.specs.declared.entered.HandleUse.{HandleUse}
use Rattle.ob_exec_entries.specs.declared.entered.Entered.{Entered}
use Rattle.ob_exec_entries.specs.declared.entered.EnterError.{EnterError}
use Rattle.ob_exec_entries.specs.declared.entered.EnterError.TheVariants.{Refused, Memory}

-- a use of a handle of this client
abbrev pub use_of : List ℕ → HandleUse → invocation.HandleUse
use_of who u = record {
  name = handle_name who u.name;
  handle = handle_of u.handle;
  contract = u.contract;
  entry = perm_of_code u.entry;
  exit = perm_of_code u.exit;
}

-- what the machine enters
abbrev pub machine_entry : Entered → MachineEntry
machine_entry e = record {
  receiver = option_map (λ id. id.0) e.receiver;
  contract = e.contract;
  tx = e.tx;
  args = map value_of e.args;
  lock = e.lock;
}

-- A request of this client passes its checks and enters this.
pub record EntersSo (content : Content) (checks : List Check) (found : Option Entry) (who : List ℕ) (entered : Entered) : Type 0 where
  pub entry : Entry
  pub is : found ≡ Some entry
  pub passed : refusal_of checks ≡ None
  pub machine : machine_entry entered ≡ entry_of_request content entry
  pub uses : map (use_of who) entered.uses ≡ handle_uses content entry
  pub given : entered.given ≡ entry.given

-- why a request enters nothing: it is refused by the first check that holds
abbrev pub IsRefusedBy : List Check → EnterError → Type 0
IsRefusedBy checks (Refused refusal) = option_map refusal_told (refusal_of checks) ≡ Some refusal
IsRefusedBy checks Memory = ⊤
