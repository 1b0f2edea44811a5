-- What a request changes it has read.
use Rattle.std.proofs.Common.{◌≡◌, ℕ, ◌+◌, ◌⊎◌, inl, inr, Bool, true, false, ◌&&◌, List, [], ◌∷◌, ◌++◌, length, Contains, Option, Some, None, refl, sym, subst, arith}
use Rattle.std.proofs.lemmas.List.Elements.{Contains-append_left, Contains-append_right}
use Rattle.std.specs.Prelude.{⊤, not, map, zip, filter_map, flat_map, option_to_list, if◌then◌else◌}
use Rattle.std.specs.List.{AllByRecursion, cons_option}
use Rattle.ob_base.specs.Optional.{◌>>=◌}
use Rattle.ob_base.specs.declared.permission.Mode.{Mode}
use Rattle.ob_base.specs.declared.permission.Mode.TheVariants.{Owned, Shared, Unowned}
use Rattle.ob_base.specs.declared.permission.Perm.{Perm}
use Rattle.ob_table.specs.Tables.{ClassTable, contract_at, contract_named, signature_at}
use Rattle.ob_table.specs.declared.contract.Param.{Param}
use Rattle.ob_table.specs.declared.contract.ResolvedType.{ResolvedType}
use Rattle.ob_table.specs.declared.contract.ResolvedType.TheVariants.{Int, Bool as BoolKind, Text, Reference}
use Rattle.ob_table_spec.specs.WellFormed.{constructor_at}
use Rattle.ob_heap_spec.specs.Dispatch.{transaction_named}
use Rattle.ob_heap_spec.specs.Values.{Value}
use Rattle.ob_heap_spec.specs.Objects.{Object}
use Rattle.ob_heap_spec.specs.Contents.{HandleName, Handle, Content, object_at}
use Rattle.ob_heap_spec.specs.Worlds.{ReadItem, object_item, next_item, handle_item, World, AllRead}
use Rattle.ob_heap_spec.specs.Handles.{NamedHandle, handle_at}
use Rattle.ob_rest_spec.specs.Incoming.{IncomingReference, owner_of}
use Rattle.ob_rest_spec.specs.Modes.{is_owned, is_shared}
use Rattle.ob_invocation_spec.specs.Checks.{Check, check, refusal_of, reads_of}
use Rattle.ob_invocation_spec.specs.Entering.{handle_in, put_after_use, put_into, puts_after, first_outside_use}
use Rattle.ob_invocation_spec.specs.Entries.{HandleUse, Entry, entry_of_new, entry_of_call, used_for, use_of_argument, argument_uses, handle_uses}
use Rattle.ob_invocation_spec.specs.Handles.{handle_name, mark_puts}
use Rattle.ob_invocation_spec.specs.Invocation.{still_world, disowned_world, giver_after, puts_of_give}
use Rattle.ob_invocation_spec.specs.Refusals.{handle_check, is_no_contract, is_not_main, is_no_transaction, has_other_count, has_other_kind, lacks_permission, repeats_object, lacks_into, has_needless_into, making_checks, into_checks, found_checks, new_checks, call_checks, gives_too_much, give_checks}
use Rattle.ob_invocation_spec.specs.Replies.{Refusal, no_contract, not_main, no_transaction, arg_count, arg_kind, permission, repeated, into_missing, into_needless, Reply, ok_nothing}
use Rattle.ob_invocation_spec.specs.Requests.{Argument, int_argument, bool_argument, text_argument, handle_argument, other_argument, argument_names, Operation, new_request, call_request, disown_request, give_request, see_request, owner_request, NewRequest, CallRequest, GiveRequest, Request}
use Rattle.ob_invocation_spec.specs.Showing.{shown_at, shown_place, reply_of_result}
use Rattle.ob_invocation_laws.proofs.Used.{IntoPut, into_put}
use Rattle.ob_code.specs.declared.image.Image.{Image}
use Rattle.ob_machine_steps.specs.Configurations.{ended, aborted}
use Rattle.ob_machine_steps.specs.Entries.{MachineEntry, Phase, started}
use Rattle.ob_code_table.specs.ImageTables.{table_of_image}
use Rattle.ob_machine_meaning.specs.Meanings.{machine_invocation}
use Rattle.ob_machine_steps.specs.Measures.{steps_left, LeadsAheadOrToUnit}
use Rattle.ob_machine_steps.specs.Runs.{Stop, over, run_in, after_steps, world_of}
use Rattle.ob_machine_steps.specs.Runs as steps
use Rattle.ob_request_run_laws.specs.Locality.{phase_onto}
use Rattle.ob_request_run_laws.proofs.Lists.{none_is_some, some_is, all_read_self}
use Rattle.ob_request_run_laws.specs.Held.{Held, laid_over, held_by}
use Rattle.ob_request_run_laws.specs.Runs.{NameChange, Run, opened, paused, answered, lost, done_in, puts_in, put_of, unchanged}
use Rattle.ob_request_run_laws.specs.Slices.{stops_so, sliced, with_thing, refused_or, unless_refused, entered, after_entry_test, enters, begins, disowns, sees, shows_owner, asks_owner, opens, slice, slices}
use Rattle.ob_request_run_laws.specs.Laws.{IsReadAs, HasReadChanges}
use Rattle.ob_request_run_laws.proofs.Checks.{read_left, first_passed, rest_read}
use Rattle.ob_request_run_laws.proofs.Found.{then_each, where_each}
use Rattle.ob_request_run_laws.proofs.Laid.{IsHeld, held_is}
use Rattle.ob_request_run_laws.proofs.Standing.{Stands, first_stands, puts_stand, disown_stands, paused_stands, ended_stands}
use Rattle.ob_request_run_laws.proofs.Steps.{steps_add, in_steps}
use Rattle.ob_request_run_laws.proofs.Whole.{phase_reads, IsAsked, IsPause, IsSoFar, slice_so}

-- Names that are read.

abbrev IsRead : List ReadItem → HandleName → Type 0
IsRead items name = Contains items (handle_item name)

-- the names of handles that are put
abbrev ArePutsRead : List ReadItem → List NamedHandle → Type 0
ArePutsRead items [] = ⊤
ArePutsRead items (p ∷ puts) = IsRead items p.0 × ArePutsRead items puts

changes_read : (items : List ReadItem) (puts : List NamedHandle) → ArePutsRead items puts → AllByRecursion (λ (change : NameChange). Contains items (handle_item change.0)) (map put_of puts)
changes_read items [] h = tt
changes_read items (p ∷ puts) h = (h.0, changes_read items puts h.1)

puts_on : (a b : List ReadItem) (puts : List NamedHandle) → AllRead a b → ArePutsRead a puts → ArePutsRead b puts
puts_on a b [] all h = tt
puts_on a b (p ∷ puts) all h = (all (handle_item p.0) h.0, puts_on a b puts all h.1)

puts_both : (items : List ReadItem) (xs ys : List NamedHandle) → ArePutsRead items xs → ArePutsRead items ys → ArePutsRead items (xs ++ ys)
puts_both items [] ys h k = k
puts_both items (x ∷ xs) ys h k = (h.0, puts_both items xs ys h.1 k)

-- the names of uses
abbrev AreUsesRead : List ReadItem → List HandleUse → Type 0
AreUsesRead items [] = ⊤
AreUsesRead items (u ∷ uses) = IsRead items u.name × AreUsesRead items uses

use_read : (items : List ReadItem) (u : HandleUse) → IsRead items u.name → ArePutsRead items (put_after_use u)
use_read items u h = by (is_owned u.handle.mode && is_owned u.entry.mode) (is_shared u.entry.mode)
  where
    by : (a b : Bool) → ArePutsRead items (if a then handle_in u.name u.handle.object u.exit.mode ∷ [] else if b then handle_in u.name u.handle.object Shared ∷ [] else [])
    by true b = (h, tt)
    by false true = (h, tt)
    by false false = tt

uses_read : (items : List ReadItem) (uses : List HandleUse) → AreUsesRead items uses → ArePutsRead items (flat_map put_after_use uses)
uses_read items [] h = tt
uses_read items (u ∷ uses) h = puts_both items (put_after_use u) (flat_map put_after_use uses) (use_read items u h.0) (uses_read items uses h.1)

uses_both : (items : List ReadItem) (xs ys : List HandleUse) → AreUsesRead items xs → AreUsesRead items ys → AreUsesRead items (xs ++ ys)
uses_both items [] ys h k = k
uses_both items (x ∷ xs) ys h k = (h.0, uses_both items xs ys h.1 k)

-- the names of arguments
abbrev AreNamesRead : List ReadItem → List ℕ → List (List ℕ) → Type 0
AreNamesRead items who [] = ⊤
AreNamesRead items who (n ∷ names) = IsRead items (handle_name who n) × AreNamesRead items who names

cons_read : (items : List ReadItem) (x : Option HandleUse) (uses : List HandleUse) → ((u : HandleUse) → x ≡ Some u → IsRead items u.name) → AreUsesRead items uses → AreUsesRead items (cons_option x uses)
cons_read items None uses h k = k
cons_read items (Some u) uses h k = (h u refl, k)

for_read : (items : List ReadItem) (of : ResolvedType) (exit : Perm) (name : HandleName) (x : Option Handle) → IsRead items name → (u : HandleUse) → (x >>= used_for of exit name) ≡ Some u → IsRead items u.name
for_read items of exit name None h u e = absurd (none_is_some e)
for_read items (Reference contract entry) exit name (Some k) h u e = subst (λ (v : HandleUse). IsRead items v.name) (some_is _ u e) h
for_read items Int exit name (Some k) h u e = absurd (none_is_some e)
for_read items BoolKind exit name (Some k) h u e = absurd (none_is_some e)
for_read items Text exit name (Some k) h u e = absurd (none_is_some e)

arguments_read : (items : List ReadItem) (c : Content) (who : List ℕ) (params : List Param) (args : List Argument) → AreNamesRead items who (argument_names args)
    → AreUsesRead items (filter_map (λ pair. use_of_argument c who pair.0 pair.1) (zip params args))
arguments_read items c who [] args h = tt
arguments_read items c who (p ∷ params) [] h = tt
arguments_read items c who (p ∷ params) (handle_argument name ∷ args) h =
    cons_read items (use_of_argument c who p (handle_argument name)) _ (for_read items p.of p.exit (handle_name who name) (handle_at c (handle_name who name)) h.0) (arguments_read items c who params args h.1)
arguments_read items c who (p ∷ params) (int_argument z ∷ args) h = arguments_read items c who params args h
arguments_read items c who (p ∷ params) (bool_argument b ∷ args) h = arguments_read items c who params args h
arguments_read items c who (p ∷ params) (text_argument bytes ∷ args) h = arguments_read items c who params args h
arguments_read items c who (p ∷ params) (other_argument ∷ args) h = arguments_read items c who params args h

-- what an entry names is read
record IsEntryRead (items : List ReadItem) (e : Entry) : Type 0 where
  args : AreNamesRead items e.who (argument_names e.args)
  receiver : AreUsesRead items (option_to_list e.receiver)
  into : (name : List ℕ) → e.into ≡ Some name → IsRead items (handle_name e.who name)

into_read : (items : List ReadItem) (e : Entry) (result : Option Value) → IsEntryRead items e → ArePutsRead items (put_into e result)
into_read items e result h = by (into_put e result)
  where
    by : (put_into e result ≡ []) ⊎ IntoPut e result → ArePutsRead items (put_into e result)
    by (inl none) = subst (ArePutsRead items) (sym none) tt
    by (inr put) = subst (ArePutsRead items) (sym put.is) (h.into put.into put.named, tt)

puts_read : (items : List ReadItem) (c : Content) (e : Entry) (result : Option Value) → IsEntryRead items e → ArePutsRead items (puts_after c e result)
puts_read items c e result h =
    puts_both items (flat_map put_after_use (handle_uses c e)) (put_into e result)
    (uses_read items (handle_uses c e) (uses_both items (option_to_list e.receiver) (argument_uses c e) h.receiver (arguments_read items c e.who e.signature.params e.args h.args))) (into_read items e result h)

-- By the checks.

name_in : (c : Content) (name : HandleName) (cs : List Check) (items : List ReadItem) → AllRead (reads_of (handle_check c name ∷ cs)) items → IsRead items name
name_in c name cs items all = read_left (handle_check c name).reads (if (handle_check c name).holds then [] else reads_of cs) items all (handle_item name) (0, omega arith, refl)

-- the names that checks look up are read, and so is what the checks behind them read
record ReadOn (items : List ReadItem) (who : List ℕ) (names : List (List ℕ)) (cs : List Check) : Type 0 where
  looked_up : AreNamesRead items who names
  passed : refusal_of cs ≡ None
  read : AllRead (reads_of cs) items

names_in : (items : List ReadItem) (c : Content) (who : List ℕ) (names : List (List ℕ)) (cs : List Check) → refusal_of (map (λ name. handle_check c (handle_name who name)) names ++ cs) ≡ None
    → AllRead (reads_of (map (λ name. handle_check c (handle_name who name)) names ++ cs)) items → ReadOn items who names cs
names_in items c who [] cs passed all = record { looked_up = tt; passed = passed; read = all }
names_in items c who (n ∷ names) cs passed all =
    let k = handle_check c (handle_name who n) in
    let ks = map (λ name. handle_check c (handle_name who name)) names ++ cs in
    let later = names_in items c who names cs (first_passed k ks passed).1 (rest_read k ks items passed all) in
    record { looked_up = (name_in c (handle_name who n) ks items all, later.looked_up); passed = later.passed; read = later.read }

into_in : (items : List ReadItem) (c : Content) (who : List ℕ) (x : Option (List ℕ)) → AllRead (reads_of (flat_map (λ name. making_checks c (handle_name who name)) (option_to_list x) ++ [])) items → (name : List ℕ) → x ≡ Some name
    → IsRead items (handle_name who name)
into_in items c who None all name e = absurd (none_is_some e)
into_in items c who (Some n) all name e = subst (λ m. IsRead items (handle_name who m)) (some_is n name e) (read_left (handle_item (handle_name who n) ∷ []) _ items all (handle_item (handle_name who n)) (0, omega arith, refl))

-- What is entered.

entry_in : (items : List ReadItem) (table : ClassTable) (c : Content) (e : Entry) → refusal_of (found_checks table c (Some e)) ≡ None → AllRead (reads_of (found_checks table c (Some e))) items → (name : List ℕ) → e.into ≡ Some name
    → IsRead items (handle_name e.who name)
entry_in items table c e passed all =
    let k0 = check arg_count (has_other_count e) in
    let k1 = check arg_kind (has_other_kind table c e) in
    let k2 = check permission (lacks_permission c e) in
    let k3 = check repeated (repeats_object c e) in
    let k4 = check into_missing (lacks_into e) in
    let k5 = check into_needless (has_needless_into e) in
    let t5 : List Check = into_checks c e ++ [] in
    let t4 : List Check = k5 ∷ t5 in
    let t3 : List Check = k4 ∷ t4 in
    let t2 : List Check = k3 ∷ t3 in
    let t1 : List Check = k2 ∷ t2 in
    let t0 : List Check = k1 ∷ t1 in
    let p0 = (first_passed k0 t0 passed).1 in
    let r0 = rest_read k0 t0 items passed all in
    let p1 = (first_passed k1 t1 p0).1 in
    let r1 = rest_read k1 t1 items p0 r0 in
    let p2 = (first_passed k2 t2 p1).1 in
    let r2 = rest_read k2 t2 items p1 r1 in
    let p3 = (first_passed k3 t3 p2).1 in
    let r3 = rest_read k3 t3 items p2 r2 in
    let p4 = (first_passed k4 t4 p3).1 in
    let r4 = rest_read k4 t4 items p3 r3 in
    into_in items c e.who e.into (rest_read k5 t5 items p4 r4)

found_in : (items : List ReadItem) (table : ClassTable) (c : Content) (o : Option Entry) (e : Entry) → o ≡ Some e → refusal_of (found_checks table c o) ≡ None → AllRead (reads_of (found_checks table c o)) items → (name : List ℕ)
    → e.into ≡ Some name → IsRead items (handle_name e.who name)
found_in items table c None e is passed all = absurd (none_is_some is)
found_in items table c (Some f) e is passed all = subst (λ (x : Entry). (name : List ℕ) → x.into ≡ Some name → IsRead items (handle_name x.who name)) (some_is f e is) (entry_in items table c f passed all)

-- the names of arguments and of a receiver
abbrev AreNamed : List ReadItem → Entry → Type 0
AreNamed items e = AreNamesRead items e.who (argument_names e.args) × AreUsesRead items (option_to_list e.receiver)

new_named : (items : List ReadItem) (table : ClassTable) (who : List ℕ) (r : NewRequest) (e : Entry) → AreNamesRead items who (argument_names r.args) → entry_of_new table who r ≡ Some e → AreNamed items e
new_named items table who r e h = then_each (AreNamed items) (contract_named table.contracts r.contract) _ e (λ contract is. then_each (AreNamed items) (constructor_at table contract) _ e (λ s has got.
    subst (AreNamed items) (some_is _ e got) (h, tt)))

call_named : (items : List ReadItem) (table : ClassTable) (c : Content) (who : List ℕ) (r : CallRequest) (e : Entry) → IsRead items (handle_name who r.on) → AreNamesRead items who (argument_names r.args) → entry_of_call table c who r ≡ Some e → AreNamed items e
call_named items table c who r e on h = then_each (AreNamed items) (handle_at c (handle_name who r.on)) _ e (λ k is. then_each (AreNamed items) (object_at c.objects k.object) _ e (λ o there.
    then_each (AreNamed items) (contract_at table o.contract) _ e (λ own has. then_each (AreNamed items) (transaction_named own r.tx) _ e (λ tx named. then_each (AreNamed items) (signature_at own tx) _ e (λ s signed.
    where_each (AreNamed items) (not s.private) _ e (h, (on, tt)))))))

new_read : (items : List ReadItem) (table : ClassTable) (c : Content) (who : List ℕ) (r : NewRequest) (e : Entry) → refusal_of (new_checks table c who r) ≡ None → AllRead (reads_of (new_checks table c who r)) items
    → entry_of_new table who r ≡ Some e → IsEntryRead items e
new_read items table c who r e passed all is =
    let t1 : List Check = found_checks table c (entry_of_new table who r) in
    let k1 = check not_main (is_not_main table r.contract) in
    let k0 = check no_contract (is_no_contract table r.contract) in
    let t0 : List Check = k1 ∷ t1 in
    let a = names_in items c who (argument_names r.args) (k0 ∷ t0) passed all in
    let p0 = (first_passed k0 t0 a.passed).1 in
    let r0 = rest_read k0 t0 items a.passed a.read in
    let n = new_named items table who r e a.looked_up is in
    record { args = n.0; receiver = n.1; into = found_in items table c (entry_of_new table who r) e is (first_passed k1 t1 p0).1 (rest_read k1 t1 items p0 r0) }

call_read : (items : List ReadItem) (table : ClassTable) (c : Content) (who : List ℕ) (r : CallRequest) (e : Entry) → refusal_of (call_checks table c who r) ≡ None → AllRead (reads_of (call_checks table c who r)) items
    → entry_of_call table c who r ≡ Some e → IsEntryRead items e
call_read items table c who r e passed all is =
    let t1 : List Check = found_checks table c (entry_of_call table c who r) in
    let k1 = check no_transaction (is_no_transaction (entry_of_call table c who r)) in
    let k0 = handle_check c (handle_name who r.on) in
    let t0 : List Check = map (λ name. handle_check c (handle_name who name)) (argument_names r.args) ++ k1 ∷ t1 in
    let a = names_in items c who (argument_names r.args) (k1 ∷ t1) (first_passed k0 t0 passed).1 (rest_read k0 t0 items passed all) in
    let n = call_named items table c who r e (name_in c (handle_name who r.on) t0 items all) a.looked_up is in
    record { args = n.0; receiver = n.1; into = found_in items table c (entry_of_call table c who r) e is (first_passed k1 t1 a.passed).1 (rest_read k1 t1 items a.passed a.read) }

asked_read : (image : Image) (c : Content) (who : List ℕ) (operation : Operation) (reads : List ReadItem) (e : Entry) → IsAsked image c (record { who = who; operation = operation }) reads e → IsEntryRead reads e
asked_read image c who (new_request r) reads e a =
    subst (λ x. IsEntryRead x e) (sym a.told) (new_read (reads_of (new_checks (table_of_image image) c who r)) (table_of_image image) c who r e a.passed (all_read_self (reads_of (new_checks (table_of_image image) c who r))) a.found)
asked_read image c who (call_request r) reads e a =
    subst (λ x. IsEntryRead x e) (sym a.told) (call_read (reads_of (call_checks (table_of_image image) c who r)) (table_of_image image) c who r e a.passed (all_read_self (reads_of (call_checks (table_of_image image) c who r))) a.found)
asked_read image c who (disown_request on) reads e a = absurd (none_is_some a.found)
asked_read image c who (give_request r) reads e a = absurd (none_is_some a.found)
asked_read image c who (see_request on) reads e a = absurd (none_is_some a.found)
asked_read image c who (owner_request on) reads e a = absurd (none_is_some a.found)

-- Answers.

-- what is held was read, also where more was read before
held_on : (items more : List ReadItem) (h : Held) → IsHeld items h → IsReadAs (items ++ more) h
held_on items more h held = record {
  objects = λ n o e. Contains-append_left items more (object_item n) (held.read n o e);
  next = λ l. Contains-append_left items more next_item (held.made l);
}

done_read : (xs : List Object) (reply : Reply) (changes : List NameChange) (w : World) (reads : List ReadItem) → Stands xs w → AllByRecursion (λ (change : NameChange). Contains (w.reads ++ reads) (handle_item change.0)) changes
    → HasReadChanges (done_in reply changes w reads)
done_read xs reply changes w reads s h = record { held = held_on w.reads reads (held_by w) (held_is (length xs) w s.good); handles = h }

put_read : (xs : List Object) (reply : Reply) (puts : List NamedHandle) (w : World) (reads : List ReadItem) → Stands xs w → ArePutsRead reads puts → HasReadChanges (puts_in reply puts w reads)
put_read xs reply puts w reads s h = done_read xs reply (map put_of puts) (mark_puts w puts) reads (puts_stand xs puts w s)
    (changes_read ((mark_puts w puts).reads ++ reads) puts (puts_on reads ((mark_puts w puts).reads ++ reads) puts (λ i c. Contains-append_right (mark_puts w puts).reads reads i c) h))

unchanged_read : (reply : Reply) (taken : ℕ) (reads : List ReadItem) → HasReadChanges (unchanged reply taken reads)
unchanged_read reply taken reads = record { held = record { objects = λ n o e. absurd (none_is_some e); next = λ l. absurd (omega (arith, l)) }; handles = tt }

stops_read : (image : Image) (fuel : ℕ) (c : Content) (q : Request) (e : Entry) (m : MachineEntry) (reads : List ReadItem) (n units k : ℕ) (p : Phase) → IsEntryRead reads e → after_steps image k (started image m c.objects fuel) ≡ Some (steps.paused p)
    → (o : Option Stop) → run_in image n units p ≡ o → HasReadChanges (stops_so (table_of_image image) c q e reads o)
stops_read image fuel c q e m reads n units k p h reached None f = tt
stops_read image fuel c q e m reads n units k p h reached (Some (steps.paused x)) f =
    let j = in_steps image n units p (steps.paused x) f in
    let s = (paused_stands image m c.objects fuel (k + j.0) x (steps_add image k j.0 (started image m c.objects fuel) p (steps.paused x) reached j.1)).1 in
    subst (λ r. IsReadAs (r ++ reads) (held_by (world_of x))) (sym (phase_reads x [])) (held_on (world_of x).reads reads (held_by (world_of x)) (held_is (length c.objects) (world_of x) s.good))
stops_read image fuel c q e m reads n units k p h reached (Some (over (aborted cause t))) f = unchanged_read _ t.taken (t.reads ++ reads)
stops_read image fuel c q e m reads n units k p h reached (Some (over (ended result w))) f =
    let j = in_steps image n units p (over (ended result w)) f in
    put_read c.objects (reply_of_result result) (puts_after c e result) w reads
    (ended_stands image m c.objects fuel (k + j.0) result w (steps_add image k j.0 (started image m c.objects fuel) p (over (ended result w)) reached j.1)) (puts_read reads c e result h)

-- Requests.

thing_read : {A : Type 0} (o : Option A) (f : A → Run) → ((a : A) → o ≡ Some a → HasReadChanges (f a)) → HasReadChanges (with_thing o f)
thing_read None f h = tt
thing_read (Some a) f h = h a refl

refused_read : (o : Option Refusal) (reads : List ReadItem) (f : List ReadItem → Run) → (o ≡ None → HasReadChanges (f reads)) → HasReadChanges (refused_or o reads f)
refused_read (Some refusal) reads f h = unchanged_read _ 0 reads
refused_read None reads f h = h refl

unless_read : (cs : List Check) (f : List ReadItem → Run) → (refusal_of cs ≡ None → HasReadChanges (f (reads_of cs))) → HasReadChanges (unless_refused cs f)
unless_read cs f h = refused_read (refusal_of cs) (reads_of cs) f h

tested_read : (image : Image) (fuel : ℕ) (c : Content) (units : ℕ) (q : Request) (e : Entry) (reads : List ReadItem) → IsEntryRead reads e → (o : Option HandleUse) → HasReadChanges (after_entry_test image fuel c units q e reads o)
tested_read image fuel c units q e reads h (Some u) = unchanged_read _ 0 reads
tested_read image fuel c units q e reads h None = thing_read (entered image c e) (λ m. sliced image c units q e reads (started image m c.objects fuel)) (λ m is.
    stops_read image fuel c q e m reads (steps_left image (started image m c.objects fuel)) units 0 (started image m c.objects fuel) h refl _ refl)

begins_read : (image : Image) (fuel : ℕ) (c : Content) (units : ℕ) (q : Request) (cs : List Check) (o : Option Entry) → (refusal_of cs ≡ None → (e : Entry) → o ≡ Some e → IsEntryRead (reads_of cs) e) → HasReadChanges (begins image fuel c units q cs o)
begins_read image fuel c units q cs o h = unless_read cs (λ reads. with_thing o (enters image fuel c units q reads)) (λ passed. thing_read o (enters image fuel c units q (reads_of cs)) (λ e is.
    tested_read image fuel c units q e (reads_of cs) (h passed e is) (first_outside_use (table_of_image image) c e)))

owner_read : (table : ClassTable) (c : Content) (reads : List ReadItem) (o : Option IncomingReference) → HasReadChanges (shows_owner table c reads o)
owner_read table c reads None = unchanged_read _ 0 reads
owner_read table c reads (Some r) = thing_read (shown_place table c.objects r.place) _ (λ place is. unchanged_read _ 0 _)

give_read : (items : List ReadItem) (who : List ℕ) (r : GiveRequest) (h : Handle) → IsRead items (handle_name who r.on) → IsRead items (handle_name r.to r.into) → ArePutsRead items (puts_of_give who r h)
give_read items who r h on into = by r.mode
  where
    by : (mode : Mode) → ArePutsRead items (giver_after (handle_name who r.on) h.object mode ++ handle_in (handle_name r.to r.into) h.object r.mode ∷ [])
    by Owned = (on, (into, tt))
    by Shared = (on, (into, tt))
    by Unowned = (into, tt)

-- the name of the new handle is read where a `give` isn't refused
given_in : (c : Content) (who : List ℕ) (r : GiveRequest) → refusal_of (give_checks c who r) ≡ None → IsRead (reads_of (give_checks c who r)) (handle_name r.to r.into)
given_in c who r passed =
    let items = reads_of (give_checks c who r) in
    let t1 : List Check = making_checks c (handle_name r.to r.into) in
    let k1 = check permission (gives_too_much c (handle_name who r.on) r.mode) in
    let k0 = handle_check c (handle_name who r.on) in
    let t0 : List Check = k1 ∷ t1 in
    let p0 = (first_passed k0 t0 passed).1 in
    let r0 = rest_read k0 t0 items passed (all_read_self items) in
    read_left (handle_item (handle_name r.to r.into) ∷ []) _ items (rest_read k1 t1 items p0 r0) (handle_item (handle_name r.to r.into)) (0, omega arith, refl)

opens_read : (image : Image) (fuel : ℕ) (c : Content) (units : ℕ) (who : List ℕ) (operation : Operation) → HasReadChanges (opens image fuel c units (record { who = who; operation = operation }) operation)
opens_read image fuel c units who (new_request r) =
    begins_read image fuel c units (record { who = who; operation = new_request r }) (new_checks (table_of_image image) c who r) (entry_of_new (table_of_image image) who r)
    (λ passed e is. new_read (reads_of (new_checks (table_of_image image) c who r)) (table_of_image image) c who r e passed (all_read_self (reads_of (new_checks (table_of_image image) c who r))) is)
opens_read image fuel c units who (call_request r) =
    begins_read image fuel c units (record { who = who; operation = call_request r }) (call_checks (table_of_image image) c who r) (entry_of_call (table_of_image image) c who r)
    (λ passed e is. call_read (reads_of (call_checks (table_of_image image) c who r)) (table_of_image image) c who r e passed (all_read_self (reads_of (call_checks (table_of_image image) c who r))) is)
opens_read image fuel c units who (disown_request on) =
    let name = handle_name who on in
    let cs : List Check = handle_check c name ∷ [] in
    unless_read cs (λ reads. with_thing (handle_at c name) (λ h. disowns c name h reads)) (λ passed. thing_read (handle_at c name) (λ h. disowns c name h (reads_of cs)) (λ h is.
    done_read c.objects ok_nothing ((name, None) ∷ []) (disowned_world c h) (reads_of cs) (disown_stands c h)
    (Contains-append_right (disowned_world c h).reads (reads_of cs) (handle_item name) (name_in c name [] (reads_of cs) (all_read_self (reads_of cs))), tt)))
opens_read image fuel c units who (give_request r) =
    let cs = give_checks c who r in
    unless_read cs (λ reads. with_thing (handle_at c (handle_name who r.on)) (λ h. puts_in ok_nothing (puts_of_give who r h) (still_world c) reads)) (λ passed.
    thing_read (handle_at c (handle_name who r.on)) (λ h. puts_in ok_nothing (puts_of_give who r h) (still_world c) (reads_of cs)) (λ h is.
    put_read c.objects ok_nothing (puts_of_give who r h) (still_world c) (reads_of cs) (first_stands c.objects 0)
    (give_read (reads_of cs) who r h (name_in c (handle_name who r.on) (check permission (gives_too_much c (handle_name who r.on) r.mode) ∷ making_checks c (handle_name r.to r.into)) (reads_of cs) (all_read_self (reads_of cs))) (given_in c who r passed))))
opens_read image fuel c units who (see_request on) =
    let name = handle_name who on in
    let cs : List Check = handle_check c name ∷ [] in
    unless_read cs (λ reads. with_thing (handle_at c name) (λ h. sees (table_of_image image) c h reads)) (λ passed. thing_read (handle_at c name) (λ h. sees (table_of_image image) c h (reads_of cs)) (λ h is.
    thing_read (shown_at (table_of_image image) c.objects h.object) _ (λ shown has. unchanged_read _ 0 (reads_of cs))))
opens_read image fuel c units who (owner_request on) =
    let name = handle_name who on in
    let cs : List Check = handle_check c name ∷ [] in
    unless_read cs (λ reads. with_thing (handle_at c name) (λ h. asks_owner (table_of_image image) c h reads)) (λ passed. thing_read (handle_at c name) (λ h. asks_owner (table_of_image image) c h (reads_of cs)) (λ h is.
    owner_read (table_of_image image) c (reads_of cs) (owner_of (table_of_image image) c h.object)))

-- Slices.

goes_on_read : (image : Image) (fuel : ℕ) (c : Content) (units : ℕ) (q : Request) (reads : List ReadItem) (p : Phase) (l : Held) (x : IsPause image fuel c q (machine_invocation image c q fuel) q reads p l)
    → HasReadChanges (slice image fuel c units (paused q reads p l))
goes_on_read image fuel c units q reads p l x =
    subst (λ o. HasReadChanges (with_thing o (λ e. sliced image c units q e reads (phase_onto (laid_over c.objects l) p)))) (sym x.asked.found)
    (stops_read image fuel c q x.entry x.start reads (steps_left image (phase_onto (laid_over c.objects l) p)) units x.number (phase_onto (laid_over c.objects l) p) (asked_read image c q.who q.operation reads x.entry x.asked) x.reaches _ refl)

slice_read : (image : Image) (fuel : ℕ) (c : Content) (q : Request) (units : ℕ) (r : Run) → IsSoFar image fuel c q (machine_invocation image c q fuel) r → HasReadChanges r → HasReadChanges (slice image fuel c units r)
slice_read image fuel c q units (opened r) so h = subst (λ x. HasReadChanges (opens image fuel c units x x.operation)) (sym so.0) (opens_read image fuel c units q.who q.operation)
slice_read image fuel c q units (paused r reads p l) so h =
    subst (λ x. HasReadChanges (slice image fuel c units (paused x reads p l))) (sym so.request)
    (goes_on_read image fuel c units q reads p l (subst (λ x. IsPause image fuel c q (machine_invocation image c q fuel) x reads p l) so.request so))
slice_read image fuel c q units (answered a) so h = h
slice_read image fuel c q units lost so h = h

slices_read : (image : Image) (fuel : ℕ) (c : Content) (q : Request) (units : List ℕ) (r : Run) → LeadsAheadOrToUnit image → IsSoFar image fuel c q (machine_invocation image c q fuel) r → HasReadChanges r → HasReadChanges (slices image fuel c units r)
slices_read image fuel c q [] r ahead so h = h
slices_read image fuel c q (u ∷ units) r ahead so h =
    slices_read image fuel c q units (slice image fuel c u r) ahead (slice_so image fuel c q (machine_invocation image c q fuel) u r ahead so) (slice_read image fuel c q u r so h)

pub requests_read_changes : (image : Image) (fuel : ℕ) (c : Content) (q : Request) (units : List ℕ) → LeadsAheadOrToUnit image → HasReadChanges (slices image fuel c units (opened q))
requests_read_changes image fuel c q units ahead = slices_read image fuel c q units (opened q) ahead (refl, refl) tt
