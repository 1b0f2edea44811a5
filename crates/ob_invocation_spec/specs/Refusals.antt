-- When a request is refused, and why (Coblenz et al., TOPLAS 42(3), 2020, "Permissions", for modes; the rest is this
-- project's own).
use Rattle.std.specs.Prelude.{ℕ, map, Bool, false, not, ◌&&◌, ◌||◌, ◌==◌, nat_eq, nat_lt, List, [], ◌∷◌, ◌++◌, length, zip, flat_map, count_by, option_to_list, true, Option, is_some, is_none}
use Rattle.std.specs.Option.{option_map_or}
use Rattle.std.specs.List.{list_all, list_any}
use Rattle.ob_base.specs.Names.{is_text}
use Rattle.ob_base.specs.Numbers.{is_int}
use Rattle.ob_base.specs.declared.permission.Mode.{Mode}
use Rattle.ob_table.specs.Tables.{ClassTable, contract_at, contract_named}
use Rattle.ob_table.specs.declared.contract.ResolvedType.{ResolvedType}
use Rattle.ob_table.specs.declared.contract.ResolvedType.TheVariants.{Int, Bool as BoolKind, Text, Reference}
use Rattle.ob_table.specs.declared.contract.Param.{Param}
use Rattle.ob_table.specs.declared.seen.Kind.TheVariants as kind
use Rattle.ob_table_spec.specs.WellFormed.{serves_as}
use Rattle.ob_heap_spec.specs.Values.{Value, int_value, bool_value, text_value, reference}
use Rattle.ob_heap_spec.specs.Objects.{Object}
use Rattle.ob_heap_spec.specs.Contents.{HandleName, Content, object_at}
use Rattle.ob_heap_spec.specs.Worlds.{handle_item, handles_full_item}
use Rattle.ob_heap_spec.specs.Handles.{handle_at}
use Rattle.ob_rest_spec.specs.Modes.{is_owned, is_shared, is_unowned}
use Rattle.ob_invocation_spec.specs.Requests.{Argument, argument_names, NewRequest, CallRequest, GiveRequest}
use Rattle.ob_invocation_spec.specs.Replies.{no_handle, no_contract, not_main, no_transaction, arg_count, arg_kind, permission, repeated, into_missing, into_needless, into_taken, handles_full}
use Rattle.ob_invocation_spec.specs.Handles.{handle_name, handle_reads, are_handles_full, serves}
use Rattle.ob_invocation_spec.specs.Entries.{HandleUse, Entry, entry_of_new, entry_of_call, value_of, argument_uses, handle_uses}
use Rattle.ob_invocation_spec.specs.Checks.{Check, check}

-- NoHandle.

-- whether there is no handle of a name
abbrev pub is_no_handle : Content → HandleName → Bool
is_no_handle content name = is_none (handle_at content name)

-- a name has to be that of a handle
abbrev pub handle_check : Content → HandleName → Check
handle_check content name =
    record { refusal = no_handle; holds = is_no_handle content name; reads = handle_reads content name }

-- each handle that the arguments name has to be there
abbrev pub argument_checks : Content → List ℕ → List Argument → List Check
argument_checks content who args = map (λ name. handle_check content (handle_name who name)) (argument_names args)

-- NoContract, NotMain and NoTransaction.

-- whether there is no contract or interface of a name
abbrev pub is_no_contract : ClassTable → List ℕ → Bool
is_no_contract table name = is_none (contract_named table.contracts name)

-- whether the contract of a name isn't the main contract
abbrev pub is_not_main : ClassTable → List ℕ → Bool
is_not_main table name =
    option_map_or (λ contract. option_map_or (λ c. not c.main) (contract_at table contract) false)
    (contract_named table.contracts name) false

-- whether the object's contract has no transaction of that name, or a private one: then nothing was found to enter
abbrev pub is_no_transaction : Option Entry → Bool
is_no_transaction found = is_none found

-- ArgCount.

-- whether the number of arguments isn't that of parameters
abbrev pub has_other_count : Entry → Bool
has_other_count e = not (length e.args == length e.signature.params)

-- ArgKind.

-- whether a value is of a parameter's type: an `int`, a `bool`, a text of at most 1,024 bytes, or a reference to an
-- object whose contract is the declared one or implements it
abbrev pub is_of_type : ClassTable → List Object → ResolvedType → Value → Bool
is_of_type table objects Int (int_value z) = is_int z
is_of_type table objects BoolKind (bool_value b) = true
is_of_type table objects Text (text_value bytes) = is_text bytes
is_of_type table objects (Reference declared p) (reference n) =
    option_map_or (λ o. serves_as table (kind.Reference declared) (kind.Reference o.contract))
    (object_at objects n) false
is_of_type table objects of value = false

-- whether an argument is of a parameter's type
abbrev pub is_argument_for : ClassTable → Content → List ℕ → Param → Argument → Bool
is_argument_for table content who p arg =
    option_map_or (is_of_type table content.objects p.of) (value_of content who arg) false

-- whether an argument isn't of its parameter's type
abbrev pub has_other_kind : ClassTable → Content → Entry → Bool
has_other_kind table content e =
    list_any (λ pair. not (is_argument_for table content e.who pair.0 pair.1)) (zip e.signature.params e.args)

-- Permission.

-- whether a handle's mode serves where it is used
abbrev pub use_serves : HandleUse → Bool
use_serves u = serves u.handle.mode u.entry.mode

-- whether a Shared handle calls a transaction that owns `this` at its entry and doesn't leave it Unowned
abbrev pub is_shared_entry : HandleUse → Bool
is_shared_entry u = is_shared u.handle.mode && is_owned u.entry.mode && not (is_unowned u.exit.mode)

-- whether the receiver's mode serves, or it is such a Shared handle
abbrev pub receiver_serves : HandleUse → Bool
receiver_serves u = use_serves u || is_shared_entry u

-- whether the mode of a handle doesn't serve where it is used
abbrev pub lacks_permission : Content → Entry → Bool
lacks_permission content e =
    not (list_all receiver_serves (option_to_list e.receiver)) || not (list_all use_serves (argument_uses content e))

-- Repeated.

-- how many uses there are of the object that is used here
abbrev pub times_used : List HandleUse → HandleUse → ℕ
times_used uses u = count_by (λ v. nat_eq v.handle.object u.handle.object) uses

-- whether an object is used twice, and this use of it owns it at the entry
abbrev pub is_repeated : List HandleUse → HandleUse → Bool
is_repeated uses u = is_owned u.entry.mode && nat_lt 1 (times_used uses u)

-- whether one object is used twice among receiver and arguments, and some use of it owns it at the entry
abbrev pub repeats_object : Content → Entry → Bool
repeats_object content e = let uses = handle_uses content e in list_any (is_repeated uses) uses

-- IntoMissing, IntoNeedless, IntoTaken and HandlesFull.

-- whether a reference is given, and there is no name for the handle on it
abbrev pub lacks_into : Entry → Bool
lacks_into e = is_some e.given && is_none e.into

-- whether there is a name for a handle, and no reference is given
abbrev pub has_needless_into : Entry → Bool
has_needless_into e = is_none e.given && is_some e.into

-- whether the client that would get a handle has one of that name
abbrev pub is_taken : Content → HandleName → Bool
is_taken content name = is_some (handle_at content name)

-- what is asked where a handle is to be made: that its name isn't taken, and that there may be one more
abbrev pub making_checks : Content → HandleName → List Check
making_checks content name =
    record { refusal = into_taken; holds = is_taken content name; reads = handle_item name ∷ [] }
    ∷ record { refusal = handles_full; holds = are_handles_full content; reads = handles_full_item ∷ [] }
    ∷ []

-- the same of the handle on what is given, where the request has a name for one
abbrev pub into_checks : Content → Entry → List Check
into_checks content e = flat_map (λ into. making_checks content (handle_name e.who into)) (option_to_list e.into)

-- The checks of each request.

-- what is asked of a `new` or a `call`, once it is known what it enters
abbrev pub entry_checks : ClassTable → Content → Entry → List Check
entry_checks table content e =
    check arg_count (has_other_count e)
    ∷ check arg_kind (has_other_kind table content e)
    ∷ check permission (lacks_permission content e)
    ∷ check repeated (repeats_object content e)
    ∷ check into_missing (lacks_into e)
    ∷ check into_needless (has_needless_into e)
    ∷ into_checks content e

-- what is asked of what is entered, if there is such
abbrev pub found_checks : ClassTable → Content → Option Entry → List Check
found_checks table content found = flat_map (entry_checks table content) (option_to_list found)

-- what is asked of a `new`
abbrev pub new_checks : ClassTable → Content → List ℕ → NewRequest → List Check
new_checks table content who r =
    argument_checks content who r.args
    ++ check no_contract (is_no_contract table r.contract)
    ∷ check not_main (is_not_main table r.contract)
    ∷ found_checks table content (entry_of_new table who r)

-- what is asked of a `call`
abbrev pub call_checks : ClassTable → Content → List ℕ → CallRequest → List Check
call_checks table content who r =
    handle_check content (handle_name who r.on)
    ∷ argument_checks content who r.args
    ++ check no_transaction (is_no_transaction (entry_of_call table content who r))
    ∷ found_checks table content (entry_of_call table content who r)

-- whether the mode of a handle doesn't serve where another is made from it in this mode
abbrev pub gives_too_much : Content → HandleName → Mode → Bool
gives_too_much content name mode = option_map_or (λ h. not (serves h.mode mode)) (handle_at content name) false

-- what is asked of a `give`
abbrev pub give_checks : Content → List ℕ → GiveRequest → List Check
give_checks content who r =
    handle_check content (handle_name who r.on)
    ∷ check permission (gives_too_much content (handle_name who r.on) r.mode)
    ∷ making_checks content (handle_name r.to r.into)
