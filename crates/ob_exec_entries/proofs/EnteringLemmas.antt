-- What is asked of a `new` or a `call`, step by step.
use Rattle.std.proofs.Common.{◌≡◌, ℕ, Bool, true, false, List, map, Option, Some, None, refl, ap, ◌∙◌}
use Rattle.std.specs.Prelude.{◌||◌, is_none, not, if◌then◌else◌}
use Rattle.std.specs.Option.{option_map_or}
use Rattle.std.specs.List.{list_any}
use Rattle.ob_base.specs.declared.id.ContractId.{ContractId}
use Rattle.ob_table.specs.Tables.{ClassTable, contract_at, contract_named}
use Rattle.ob_table.specs.declared.contract.Contract.{Contract}
use Rattle.ob_heap_spec.specs.Contents.{Content}
use Rattle.ob_invocation_spec.specs.Checks.{refusal_of}
use Rattle.ob_invocation_spec.specs.Entries.{Entry, entry_of_new, entry_of_call}
use Rattle.ob_invocation_spec.specs.Handles.{handle_name}
use Rattle.ob_invocation_spec.specs.Refusals.{is_no_handle, is_no_contract, is_not_main, entry_checks, found_checks, new_checks, call_checks}
use Rattle.ob_invocation_spec.specs.Replies.{Refusal, no_handle, no_contract, not_main, no_transaction}
use Rattle.ob_invocation_spec.specs.Requests.{NewRequest, CallRequest}
use Rattle.ob_wire.specs.Meanings.{argument_meant}
use Rattle.ob_wire.specs.declared.request.Arg.{Arg}
use Rattle.ob_exec_entries.specs.Arguments.{names_no_handle}
use Rattle.ob_exec_entries.proofs.CheckLemmas.{found_some, call_refusal, new_refusal}

-- a `new` with these parts
abbrev pub new_asked : List ℕ → List Arg → Option (List ℕ) → NewRequest
new_asked name args into = record { contract = name; args = map argument_meant args; into = into }

-- a `call` with these parts
abbrev pub call_asked : List ℕ → List ℕ → List Arg → Option (List ℕ) → CallRequest
call_asked on name args into = record { on = on; tx = name; args = map argument_meant args; into = into }

-- whether a `call` names a handle that isn't there
abbrev pub lacks_handles : Content → List ℕ → List ℕ → List Arg → Bool
lacks_handles content who on args = is_no_handle content (handle_name who on) || list_any (names_no_handle content who) args

-- the refusal of a `call` by the first of its own checks, and else by what follows
abbrev call_then : Bool → Bool → Option Refusal → Option Refusal
call_then lost none rest = if lost then Some no_handle else if none then Some no_transaction else rest

pub call_lost : (table : ClassTable) (content : Content) (who on name : List ℕ) (args : List Arg) (into : Option (List ℕ))
    → lacks_handles content who on args ≡ true
    → refusal_of (call_checks table content who (call_asked on name args into)) ≡ Some no_handle
call_lost table content who on name args into h =
    let found = entry_of_call table content who (call_asked on name args into) in
    call_refusal table content who on name args into
    ∙ ap (λ b. call_then b (is_none found) (refusal_of (found_checks table content found))) h

pub call_nothing : (table : ClassTable) (content : Content) (who on name : List ℕ) (args : List Arg) (into : Option (List ℕ))
    → lacks_handles content who on args ≡ false → entry_of_call table content who (call_asked on name args into) ≡ None
    → refusal_of (call_checks table content who (call_asked on name args into)) ≡ Some no_transaction
call_nothing table content who on name args into h g =
    let found = entry_of_call table content who (call_asked on name args into) in
    call_refusal table content who on name args into
    ∙ ap (λ b. call_then b (is_none found) (refusal_of (found_checks table content found))) h
    ∙ ap (λ (f : Option Entry). call_then false (is_none f) (refusal_of (found_checks table content f))) g

pub call_entered : (table : ClassTable) (content : Content) (who on name : List ℕ) (args : List Arg) (into : Option (List ℕ)) (e : Entry)
    → lacks_handles content who on args ≡ false → entry_of_call table content who (call_asked on name args into) ≡ Some e
    → refusal_of (call_checks table content who (call_asked on name args into)) ≡ refusal_of (entry_checks table content e)
call_entered table content who on name args into e h g =
    let found = entry_of_call table content who (call_asked on name args into) in
    call_refusal table content who on name args into
    ∙ ap (λ b. call_then b (is_none found) (refusal_of (found_checks table content found))) h
    ∙ ap (λ (f : Option Entry). call_then false (is_none f) (refusal_of (found_checks table content f))) g
    ∙ found_some table content (Some e) e refl

-- the refusal of a `new` by the first of its own checks, and else by what follows
abbrev new_then : Bool → Bool → Bool → Option Refusal → Option Refusal
new_then lost none other rest = if lost then Some no_handle else if none then Some no_contract else if other then Some not_main else rest

-- whether the contract of a number isn't the main contract
abbrev pub is_other : ClassTable → ContractId → Bool
is_other table id = option_map_or (λ (c : Contract). not c.main) (contract_at table id) false

pub new_lost : (table : ClassTable) (content : Content) (who name : List ℕ) (args : List Arg) (into : Option (List ℕ))
    → list_any (names_no_handle content who) args ≡ true
    → refusal_of (new_checks table content who (new_asked name args into)) ≡ Some no_handle
new_lost table content who name args into h =
    let rest = refusal_of (found_checks table content (entry_of_new table who (new_asked name args into))) in
    new_refusal table content who name args into
    ∙ ap (λ b. new_then b (is_no_contract table name) (is_not_main table name) rest) h

pub new_unnamed : (table : ClassTable) (content : Content) (who name : List ℕ) (args : List Arg) (into : Option (List ℕ))
    → list_any (names_no_handle content who) args ≡ false → contract_named table.contracts name ≡ None
    → refusal_of (new_checks table content who (new_asked name args into)) ≡ Some no_contract
new_unnamed table content who name args into h g =
    let rest = refusal_of (found_checks table content (entry_of_new table who (new_asked name args into))) in
    new_refusal table content who name args into
    ∙ ap (λ b. new_then b (is_no_contract table name) (is_not_main table name) rest) h
    ∙ ap (λ (o : Option ContractId). new_then false (is_none o) (is_not_main table name) rest) g

not_main_at : (table : ClassTable) (name : List ℕ) (id : ContractId) → contract_named table.contracts name ≡ Some id
    → is_not_main table name ≡ is_other table id
not_main_at table name id g = ap (λ (o : Option ContractId). option_map_or (is_other table) o false) g

pub new_other : (table : ClassTable) (content : Content) (who name : List ℕ) (args : List Arg) (into : Option (List ℕ)) (id : ContractId)
    → list_any (names_no_handle content who) args ≡ false → contract_named table.contracts name ≡ Some id → is_other table id ≡ true
    → refusal_of (new_checks table content who (new_asked name args into)) ≡ Some not_main
new_other table content who name args into id h g f =
    let rest = refusal_of (found_checks table content (entry_of_new table who (new_asked name args into))) in
    new_refusal table content who name args into
    ∙ ap (λ b. new_then b (is_no_contract table name) (is_not_main table name) rest) h
    ∙ ap (λ (o : Option ContractId). new_then false (is_none o) (is_not_main table name) rest) g
    ∙ ap (λ b. new_then false false b rest) (not_main_at table name id g ∙ f)

pub new_entered : (table : ClassTable) (content : Content) (who name : List ℕ) (args : List Arg) (into : Option (List ℕ)) (id : ContractId) (e : Entry)
    → list_any (names_no_handle content who) args ≡ false → contract_named table.contracts name ≡ Some id → is_other table id ≡ false
    → entry_of_new table who (new_asked name args into) ≡ Some e
    → refusal_of (new_checks table content who (new_asked name args into)) ≡ refusal_of (entry_checks table content e)
new_entered table content who name args into id e h g f d =
    let rest = refusal_of (found_checks table content (entry_of_new table who (new_asked name args into))) in
    new_refusal table content who name args into
    ∙ ap (λ b. new_then b (is_no_contract table name) (is_not_main table name) rest) h
    ∙ ap (λ (o : Option ContractId). new_then false (is_none o) (is_not_main table name) rest) g
    ∙ ap (λ b. new_then false false b rest) (not_main_at table name id g ∙ f)
    ∙ found_some table content (entry_of_new table who (new_asked name args into)) e d
