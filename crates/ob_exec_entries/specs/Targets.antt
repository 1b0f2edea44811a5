-- What a request would enter, as the code keeps it (this project's own).
use Rattle.std.specs.Prelude.{ℕ, not, List, map, Option, Some, None, option_map}
use Rattle.ob_base.specs.Optional.{◌>>=◌, where_true}
use Rattle.ob_base.specs.declared.id.ContractId.{ContractId}
use Rattle.ob_base.specs.declared.id.TxId.{TxId}
use Rattle.ob_base.specs.declared.permission.Mode.{Mode}
use Rattle.ob_code.specs.declared.image.BodyCode.{BodyCode}
use Rattle.ob_heap.specs.Plain.{handle_of}
use Rattle.ob_heap.specs.declared.object.Handle.{Handle}
use Rattle.ob_heap_spec.specs.Contents.{Handle as PlainHandle}
use Rattle.ob_invocation_spec.specs.Entries.{Entry, HandleUse, used_as_receiver, mode_of_result}
use Rattle.ob_invocation_spec.specs.Handles.{handle_name}
use Rattle.ob_code_table.specs.ImageTables.{signature_of_code}
use Rattle.ob_table.specs.Tables.{ClassTable, signature_of}
use Rattle.ob_table.specs.declared.contract.Signature.{Signature}
use Rattle.ob_table_spec.specs.WellFormed.{constructor_at}
use Rattle.ob_wire.specs.Meanings.{argument_meant}
use Rattle.ob_wire.specs.declared.request.Arg.{Arg}

-- the use of a client's handle as the receiver of a transaction
abbrev pub receiver_seen : List ℕ → ContractId → BodyCode → List ℕ × Handle → HandleUse
receiver_seen who contract b r =
    used_as_receiver (handle_name who r.0) (handle_of r.1) contract (signature_of_code b)

-- what is entered, by the code of its body
abbrev pub entry_seen : List ℕ → ContractId → TxId → BodyCode → Option (List ℕ × Handle) → Option Mode → List Arg → Option (List ℕ) → Entry
entry_seen who contract tx b receiver given args into = record {
  who = who;
  contract = contract;
  tx = tx;
  signature = signature_of_code b;
  receiver = option_map (receiver_seen who contract b) receiver;
  given = given;
  args = map argument_meant args;
  into = into;
}

-- what a `new` of a contract enters, by the signature of its constructor
abbrev pub made : List ℕ → ContractId → Signature → List Arg → Option (List ℕ) → Entry
made who contract s args into = record {
  who = who;
  contract = contract;
  tx = record { 0 = 0 };
  signature = s;
  receiver = None;
  given = Some s.exit.mode;
  args = map argument_meant args;
  into = into;
}

-- what a call of a transaction of a contract enters, by its signature, unless it is private
abbrev pub called : List ℕ → ContractId → TxId → Signature → List ℕ → PlainHandle → List Arg → Option (List ℕ) → Option Entry
called who contract tx s on h args into = where_true (not s.private) (record {
  who = who;
  contract = contract;
  tx = tx;
  signature = s;
  receiver = Some (used_as_receiver (handle_name who on) h contract s);
  given = mode_of_result s.result;
  args = map argument_meant args;
  into = into;
})

-- what a `new` of the contract of a number enters, if that has a constructor
abbrev pub made_by : ClassTable → List ℕ → ContractId → List Arg → Option (List ℕ) → Option Entry
made_by table who contract args into =
    constructor_at table contract >>= λ s. Some (made who contract s args into)

-- what a call of the transaction of a number enters, if the contract has one that isn't private
abbrev pub called_by : ClassTable → List ℕ → ContractId → TxId → List ℕ → PlainHandle → List Arg → Option (List ℕ) → Option Entry
called_by table who contract tx on h args into =
    signature_of table contract tx >>= λ s. called who contract tx s on h args into
