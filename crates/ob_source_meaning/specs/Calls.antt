-- What calls and `new` do (Coblenz et al., TOPLAS 42(3), 2020, "Dynamic semantics"; marks, units, re-entry and the
-- numbers of objects are this project's own).
use Rattle.std.specs.Prelude.{ℕ, zero, suc, false, nat_le, List, length, Option, Some}
use Rattle.ob_base.specs.Limits.{most_objects}
use Rattle.ob_base.specs.declared.id.ContractId.{ContractId}
use Rattle.ob_base.specs.declared.id.TxId.{TxId}
use Rattle.ob_perm.specs.Permissions.{is_shared}
use Rattle.ob_perm.specs.Masks.{permission_of}
use Rattle.ob_table.specs.Tables.{ClassTable, contract_at, signature_at, signature_of}
use Rattle.ob_table.specs.declared.contract.Signature.{Signature}
use Rattle.ob_table.specs.declared.contract.Contract.{Contract}
use Rattle.ob_table_spec.specs.WellFormed.{constructor_at}
use Rattle.ob_heap_spec.specs.Values.{Value, reference}
use Rattle.ob_heap_spec.specs.Objects.{Object, unfinished}
use Rattle.ob_heap_spec.specs.Worlds.{World, next_item, by_reentry, by_fuel, by_full, RunOutcome, gives, abort, ◌>>=◌, if_right, with_some, unless_aborted, unit, with_read, read_object, make_object, with_object}
use Rattle.ob_heap_spec.specs.Marks.{is_in_progress, enter, leave}
use Rattle.ob_source_meaning.specs.Frames.{SourceFrame, of_object, of_this, of_new, Calls}
use Rattle.ob_heap_spec.specs.GoingWrong.{is_finished, may_pass, may_begin}
use Rattle.ob_source_meaning.specs.Bodies.{args_come, this_comes, comes_in, run_body, run_transaction}
use Rattle.ob_heap_spec.specs.Dispatch.{answering}

-- Calls with a receiver.

-- a transaction of an object's contract runs on it; it is in progress until it returns
abbrev pub run_on : Calls → SourceFrame → TxId → Signature → List Value → World → RunOutcome (Option Value)
run_on calls f tx s args w =
    if_right (may_begin f.table w.objects f.here s f.this args)
    (run_transaction calls f tx s args (enter f.this w) >>= (λ result w1. gives result (leave f.this w1)))

-- the frame of a transaction that is called with a receiver: it is share-entered where it declares `this` Shared
abbrev pub entered : ClassTable → ℕ → Object → Contract → Signature → SourceFrame
entered table n o own s =
    record { table = table; this = n; here = o.contract; own = own; share_entered = is_shared (permission_of s.entry) }

-- the transaction of the object's contract is found, and runs
abbrev pub dispatch : ClassTable → Calls → ℕ → ContractId → TxId → Signature → List Value → World
    → RunOutcome (Option Value)
dispatch table calls n declared tx asked args w =
    with_object w n
    (λ o. with_some (contract_at table o.contract)
    (λ own. with_some (answering declared tx asked o.contract own)
    (λ t. with_some (signature_at own t) (λ s. run_on calls (entered table n o own s) t s args w))))

-- a call with a receiver after its unit: the receiver is read, and the run aborts if it has a transaction in progress
abbrev pub call_after_unit : ClassTable → Calls → ℕ → ContractId → TxId → Signature → List Value → World
    → RunOutcome (Option Value)
call_after_unit table calls n declared tx asked args w =
    let w1 = read_object w n in
    unless_aborted (is_in_progress w1 n) (by_reentry n) w1 (dispatch table calls n declared tx asked args w1)

-- Calls on `this`.

-- a call on `this` after its unit: it isn't tested for re-entry, and is share-entered where its caller is
abbrev pub call_on_this : Calls → SourceFrame → TxId → Signature → List Value → World → RunOutcome (Option Value)
call_on_this calls f tx s args w =
    if_right (may_begin f.table w.objects f.here s f.this args) (run_transaction calls f tx s args w)

-- `new`.

-- the frame of a constructor
abbrev pub constructing : ClassTable → ℕ → ContractId → Contract → SourceFrame
constructing table n contract own =
    record { table = table; this = n; here = contract; own = own; share_entered = false }

-- a constructor runs on its object, which is finished then; a result declared Shared is marked
abbrev pub construct : Calls → SourceFrame → Signature → List Value → World → RunOutcome (Option Value)
construct calls f s args w =
    run_body calls f (record { 0 = 0 }) s args w
    >>= (λ result w1. with_object w1 f.this
    (λ o. if_right (is_finished f.own o) (gives (Some (reference f.this)) (this_comes f.here s.exit f.this w1))))

-- a `new` after its unit: the next number is read, and the run aborts if there are as many objects as there may be
abbrev pub new_after_unit : ClassTable → Calls → ContractId → Contract → Signature → List Value → World
    → RunOutcome (Option Value)
new_after_unit table calls contract own s args w =
    let n = length w.objects in
    let w1 = with_read w next_item in
    unless_aborted (nat_le most_objects n) by_full w1
    (if_right (may_pass table w1.objects s.params args)
    (construct calls (constructing table n contract own) s args (make_object w1 (unfinished contract))))

-- All calls.

-- a call, given what the calls in its body mean: what comes in is marked, and then it takes its unit
abbrev pub call_with : ClassTable → Calls → Calls
call_with table calls (of_object n declared tx) args w =
    with_some (signature_of table declared tx)
    (λ asked. unit (comes_in declared asked n args w)
    (λ w1. call_after_unit table calls n declared tx asked args w1))
call_with table calls (of_this f tx) args w =
    with_some (signature_at f.own tx)
    (λ s. unit (comes_in f.here s f.this args w) (λ w1. call_on_this calls f tx s args w1))
call_with table calls (of_new contract) args w =
    with_some (contract_at table contract)
    (λ own. with_some (constructor_at table contract)
    (λ s. unit (args_come s.params args w) (λ w1. new_after_unit table calls contract own s args w1)))

-- the meaning of calls that lie too deep: they abort for want of units, since each call around them took one
abbrev pub no_calls : Calls
no_calls callee args w = abort by_fuel w

-- the meaning of calls, down to this depth of calls within calls
abbrev pub call_at : ClassTable → ℕ → Calls
call_at table zero = call_with table no_calls
call_at table (suc depth) = call_with table (call_at table depth)
