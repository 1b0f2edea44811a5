-- What a `new` or a `call` enters: a constructor or a transaction, with the handles that are used there and the values
-- of the arguments (this project's own).
use Rattle.std.specs.Prelude.{ℕ, not, List, ◌++◌, zip, filter_map, Option, Some, None, option_map, option_to_list}
use Rattle.ob_base.specs.Optional.{◌>>=◌, where_true}
use Rattle.ob_base.specs.declared.id.ContractId.{ContractId}
use Rattle.ob_base.specs.declared.id.TxId.{TxId}
use Rattle.ob_base.specs.declared.permission.Mode.{Mode}
use Rattle.ob_base.specs.declared.permission.Perm.{Perm}
use Rattle.ob_table.specs.Tables.{ClassTable, contract_at, contract_named, signature_at}
use Rattle.ob_table.specs.declared.contract.ResolvedType.{ResolvedType}
use Rattle.ob_table.specs.declared.contract.ResolvedType.TheVariants.{Reference}
use Rattle.ob_table.specs.declared.contract.Param.{Param}
use Rattle.ob_table.specs.declared.contract.Signature.{Signature}
use Rattle.ob_table_spec.specs.WellFormed.{constructor_at}
use Rattle.ob_heap_spec.specs.Values.{Value, int_value, bool_value, text_value, reference}
use Rattle.ob_heap_spec.specs.Contents.{HandleName, Handle, Content, object_at}
use Rattle.ob_heap_spec.specs.Dispatch.{transaction_named}
use Rattle.ob_heap_spec.specs.Handles.{handle_at}
use Rattle.ob_invocation_spec.specs.Requests.{Argument, int_argument, bool_argument, text_argument, handle_argument, other_argument, NewRequest, CallRequest}
use Rattle.ob_invocation_spec.specs.Handles.{handle_name}

-- The use of a handle for a receiver or an argument: its name, the handle, the contract that is declared, and the
-- permissions at the entry and at the exit.
pub record HandleUse : Type 0 where
  pub name : HandleName
  pub handle : Handle
  pub contract : ContractId
  pub entry : Perm
  pub exit : Perm

-- What is entered: for which client; the contract; the constructor or transaction, by its number and without its body;
-- the use of the receiver's handle, which a `new` hasn't; the mode of the reference that it gives, if it gives one; the
-- arguments; the name of the handle on what it gives.
pub record Entry : Type 0 where
  pub who : List ℕ
  pub contract : ContractId
  pub tx : TxId
  pub signature : Signature
  pub receiver : Option HandleUse
  pub given : Option Mode
  pub args : List Argument
  pub into : Option (List ℕ)

-- the mode of the reference that a result of this type is, if it is one
abbrev pub mode_of_result : Option ResolvedType → Option Mode
mode_of_result (Some (Reference contract p)) = Some p.mode
mode_of_result result = None

-- what a `new` enters: the constructor of the contract of its name
abbrev pub entry_of_new : ClassTable → List ℕ → NewRequest → Option Entry
entry_of_new table who r =
    contract_named table.contracts r.contract >>= λ contract.
    constructor_at table contract >>= λ s.
    Some (record {
      who = who;
      contract = contract;
      tx = record { 0 = 0 };
      signature = s;
      receiver = None;
      given = Some s.exit.mode;
      args = r.args;
      into = r.into;
    })

-- the use of a handle as the receiver of a transaction
abbrev pub used_as_receiver : HandleName → Handle → ContractId → Signature → HandleUse
used_as_receiver name h contract s =
    record { name = name; handle = h; contract = contract; entry = s.entry; exit = s.exit }

-- what a `call` enters: the transaction of its name of the contract of the object of `on`, unless that is private
abbrev pub entry_of_call : ClassTable → Content → List ℕ → CallRequest → Option Entry
entry_of_call table content who r =
    handle_at content (handle_name who r.on) >>= λ h.
    object_at content.objects h.object >>= λ o.
    contract_at table o.contract >>= λ own.
    transaction_named own r.tx >>= λ tx.
    signature_at own tx >>= λ s.
    where_true (not s.private) (record {
      who = who;
      contract = o.contract;
      tx = tx;
      signature = s;
      receiver = Some (used_as_receiver (handle_name who r.on) h o.contract s);
      given = mode_of_result s.result;
      args = r.args;
      into = r.into;
    })

-- the value of an argument: of a handle, a reference to its object; one of no kind has none
abbrev pub value_of : Content → List ℕ → Argument → Option Value
value_of content who (int_argument z) = Some (int_value z)
value_of content who (bool_argument b) = Some (bool_value b)
value_of content who (text_argument bytes) = Some (text_value bytes)
value_of content who (handle_argument name) =
    option_map (λ h. reference h.object) (handle_at content (handle_name who name))
value_of content who other_argument = None

-- the values of the arguments
abbrev pub values_of : Content → Entry → List Value
values_of content e = filter_map (value_of content e.who) e.args

-- the use of a handle for a parameter of this type
abbrev pub used_for : ResolvedType → Perm → HandleName → Handle → Option HandleUse
used_for (Reference contract entry) exit name h =
    Some (record { name = name; handle = h; contract = contract; entry = entry; exit = exit })
used_for kind exit name h = None

-- the use of the handle that an argument names, if it names one
abbrev pub use_of_argument : Content → List ℕ → Param → Argument → Option HandleUse
use_of_argument content who p (handle_argument name) =
    handle_at content (handle_name who name) >>= used_for p.of p.exit (handle_name who name)
use_of_argument content who p arg = None

-- the uses of handles for arguments
abbrev pub argument_uses : Content → Entry → List HandleUse
argument_uses content e =
    filter_map (λ pair. use_of_argument content e.who pair.0 pair.1) (zip e.signature.params e.args)

-- the uses of handles: for the receiver, and then for the arguments in their order
abbrev pub handle_uses : Content → Entry → List HandleUse
handle_uses content e = option_to_list e.receiver ++ argument_uses content e
