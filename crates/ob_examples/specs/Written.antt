-- Words for class tables and bodies that are written by hand, and what is told of a run.
use Rattle.std.specs.Prelude.{ℕ, zero, suc, Bool, true, false, List, [], ◌∷◌, ◌++◌, map, length, Option, None}
use Rattle.std.specs.Option.{option_map_or}
use Rattle.ob_base.specs.declared.fault.Span.{Span}
use Rattle.ob_base.specs.declared.id.ContractId.{ContractId}
use Rattle.ob_base.specs.declared.id.FieldId.{FieldId}
use Rattle.ob_base.specs.declared.id.StateId.{StateId}
use Rattle.ob_base.specs.declared.id.TxId.{TxId}
use Rattle.ob_base.specs.declared.permission.Mode.TheVariants.{Owned, Shared, Unowned}
use Rattle.ob_base.specs.declared.permission.Perm.{Perm}
use Rattle.ob_table.specs.Expressions.{Expression, resolved_seen}
use Rattle.ob_table.specs.Statements.{Statement, statements, ResolvedBody}
use Rattle.ob_table.specs.Tables.{ClassTable, contract_at}
use Rattle.ob_table.specs.declared.seen.Seen.TheVariants.{This, Local, Field as FieldSeen}
use Rattle.ob_table.specs.declared.seen.SeenAt.{SeenAt}
use Rattle.ob_table.specs.declared.contract.ResolvedType.{ResolvedType}
use Rattle.ob_table.specs.declared.contract.Param.{Param}
use Rattle.ob_table.specs.declared.contract.Signature.{Signature}
use Rattle.ob_heap_spec.specs.Values.{Value}
use Rattle.ob_heap_spec.specs.Objects.{Object, state_number}
use Rattle.ob_heap_spec.specs.Worlds.{AbortCause, ReadItem, Spent, spent, RunOutcome, gives, aborts, wrong, first_world}
use Rattle.ob_source_meaning.specs.Frames.{of_object, of_new}
use Rattle.ob_source_meaning.specs.Calls.{call_at}

-- a place on a line
abbrev pub on_line : ℕ → Span
on_line n = record { start = 0; end = 0; line = n; column = 1 }

-- a number as that of a contract
abbrev pub contract_number : ℕ → ContractId
contract_number n = record { 0 = n }

-- a number as that of a field
abbrev pub field_number : ℕ → FieldId
field_number n = record { 0 = n }

-- a number as that of a state
abbrev pub state_of_number : ℕ → StateId
state_of_number n = record { 0 = n }

-- a number as that of a transaction
abbrev pub transaction_number : ℕ → TxId
transaction_number n = record { 0 = n }

-- the permission of an owner, with states as bits
abbrev pub owner_in : ℕ → Perm
owner_in states = record { mode = Owned; states = states }

-- the permission of one that shares
abbrev pub as_shared : Perm
as_shared = record { mode = Shared; states = 0 }

-- the permission of one without a say
abbrev pub as_unowned : Perm
as_unowned = record { mode = Unowned; states = 0 }

-- the bit of no state, in which objects of contracts without states are
abbrev pub stateless_bit : ℕ
stateless_bit = 4294967296

-- the bits of each state and of none, in which the fields at the top of a contract are available
abbrev pub anywhere_bits : ℕ
anywhere_bits = 8589934591

-- `this` on a line
abbrev pub this_at : ℕ → SeenAt
this_at n = record { of = This; span = on_line n }

-- a variable on a line
abbrev pub local_at : ℕ → ℕ → SeenAt
local_at k n = record { of = Local k; span = on_line n }

-- a field on a line
abbrev pub field_at_line : ℕ → ℕ → SeenAt
field_at_line k n = record { of = FieldSeen (field_number k); span = on_line n }

-- the value of a name
abbrev pub value_at : SeenAt → Expression
value_at seen = resolved_seen seen seen.span

-- a parameter; its name doesn't count
abbrev pub param : ResolvedType → Perm → Param
param of exit = record { name = 120 ∷ []; of = of; exit = exit }

-- a public transaction or a constructor
abbrev pub signature : List ℕ → Perm → Perm → List Param → Option ResolvedType → Signature
signature name entry exit params result =
    record { name = name; private = false; entry = entry; exit = exit; params = params; result = result; listed = [] }

-- the constructor that a contract without states has where none is written
abbrev pub default_constructor : Signature
default_constructor = signature [] as_unowned (owner_in stateless_bit) [] None

-- the body of a transaction of a contract
abbrev pub body : ℕ → ℕ → List Statement → ResolvedBody
body contract tx ss =
    record {
      contract = contract_number contract;
      tx = transaction_number tx;
      statements = statements ss;
      end = on_line 1;
    }

-- the numbers below a bound
abbrev pub below : ℕ → List ℕ
below zero = []
below (suc n) = below n ++ n ∷ []

-- what is told of an object: its contract, its state (32 for none), its values field by field, its two marks
pub record ToldObject : Type 0 where
  pub contract : ℕ
  pub state : ℕ
  pub fields : List (Option Value)
  pub shared : Bool
  pub disowned : Bool

-- an object of a class table as it is told
abbrev pub told_object : ClassTable → Object → ToldObject
told_object table o = record {
  contract = o.contract.0;
  state = state_number o.state;
  fields = map o.fields (below (option_map_or (λ c. length c.fields) (contract_at table o.contract) 0));
  shared = o.shared;
  disowned = o.disowned;
}

-- what is told of a run: the result, the objects and what was spent, or the cause and what was spent
pub data Told : Type 0 where
  tells : Option Value → List ToldObject → Spent → Told
  tells_abort : AbortCause → Spent → Told
  tells_wrong : Told

-- a run on a class table as it is told
abbrev pub told : ClassTable → RunOutcome (Option Value) → Told
told table (gives result w) = tells result (map (told_object table) w.objects) (spent w)
told table (aborts cause s) = tells_abort cause s
told table wrong = tells_wrong

-- whether a run returns, as it is told
abbrev pub has_returned : Told → Bool
has_returned (tells result objects s) = true
has_returned (tells_abort cause s) = false
has_returned tells_wrong = false

-- so many units, and these reads, the latest first
abbrev pub spending : ℕ → List ReadItem → Spent
spending units reads = record { taken = units; reads = reads }

-- a transaction of an object of a contract on a store, with so many units
abbrev pub run_on_store : ClassTable → ℕ → List Object → ℕ → ℕ → ℕ → List Value → RunOutcome (Option Value)
run_on_store table units objects contract n tx args =
    call_at table units (of_object n (contract_number contract) (transaction_number tx)) args
    (first_world objects units)

-- a `new` of a contract on a store, with so many units
abbrev pub new_on_store : ClassTable → ℕ → List Object → ℕ → List Value → RunOutcome (Option Value)
new_on_store table units objects contract args =
    call_at table units (of_new (contract_number contract)) args (first_world objects units)
