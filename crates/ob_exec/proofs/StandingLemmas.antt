-- The handles of the uses of what is entered stand under their names.
use Rattle.std.proofs.Common.{◌≡◌, ℕ, ◌<◌, List, [], ◌∷◌, length, map, get_or, Option, Some, None, refl, sym, ap, subst}
use Rattle.std.specs.Prelude.{not, zip, filter_map, option_to_list, IfSome}
use Rattle.std.specs.List.{AllByRecursion, cons_option}
use Rattle.std.proofs.lemmas.List.{get_or-map, length-map}
use Rattle.std.proofs.lemmas.List.Elements.{All-append, All-from_recursion, All-get_or}
use Rattle.ob_base.proofs.OptionalLemmas.{bind_some, where_some}
use Rattle.ob_base.specs.Optional.{◌>>=◌, where_true}
use Rattle.ob_base.specs.declared.id.ContractId.{ContractId}
use Rattle.ob_base.specs.declared.id.TxId.{TxId}
use Rattle.ob_base.specs.declared.permission.Perm.{Perm}
use Rattle.ob_verify_spec.proofs.Cells.{some_same}
use Rattle.ob_table.specs.Tables.{ClassTable, contract_at, contract_named, signature_at}
use Rattle.ob_table.specs.declared.contract.Contract.{Contract}
use Rattle.ob_table.specs.declared.contract.Signature.{Signature}
use Rattle.ob_table_spec.specs.WellFormed.{constructor_at}
use Rattle.ob_table.specs.declared.contract.Param.{Param}
use Rattle.ob_table.specs.declared.contract.ResolvedType.{ResolvedType}
use Rattle.ob_table.specs.declared.contract.ResolvedType.TheVariants.{Int, Bool, Text, Reference}
use Rattle.ob_heap_spec.specs.Contents.{Content, Handle, HandleName, object_at}
use Rattle.ob_heap_spec.specs.Dispatch.{transaction_named}
use Rattle.ob_heap_spec.specs.Objects.{Object}
use Rattle.ob_heap_spec.specs.Handles.{handle_at}
use Rattle.ob_invocation_spec.specs.Entries.{Entry, HandleUse, mode_of_result, used_as_receiver, used_for, use_of_argument, argument_uses, handle_uses, entry_of_new, entry_of_call}
use Rattle.ob_invocation_spec.specs.Handles.{handle_name}
use Rattle.ob_invocation_spec.specs.Requests.{Argument, int_argument, bool_argument, text_argument, handle_argument, other_argument, NewRequest, CallRequest}
use Rattle.ob_exec.specs.Putting.{AllStand}

abbrev Stands : Content → HandleUse → Type 0
Stands content u = handle_at content u.name ≡ Some u.handle

-- The uses for the arguments.

used_stands : (content : Content) (kind : ResolvedType) (exit : Perm) (name : HandleName) (h : Handle) → handle_at content name ≡ Some h
    → IfSome (used_for kind exit name h) (Stands content)
used_stands content (Reference contract entry) exit name h is = is
used_stands content Int exit name h is = tt
used_stands content Bool exit name h is = tt
used_stands content Text exit name h is = tt

named_stands : (content : Content) (kind : ResolvedType) (exit : Perm) (name : HandleName) (found : Option Handle) → handle_at content name ≡ found
    → IfSome (found >>= used_for kind exit name) (Stands content)
named_stands content kind exit name None is = tt
named_stands content kind exit name (Some h) is = used_stands content kind exit name h is

argument_stands : (content : Content) (who : List ℕ) (p : Param) (a : Argument) → IfSome (use_of_argument content who p a) (Stands content)
argument_stands content who p (handle_argument name) =
    named_stands content p.of p.exit (handle_name who name) (handle_at content (handle_name who name)) refl
argument_stands content who p (int_argument z) = tt
argument_stands content who p (bool_argument b) = tt
argument_stands content who p (text_argument bytes) = tt
argument_stands content who p other_argument = tt

one_more : (content : Content) (found : Option HandleUse) (uses : List HandleUse) → IfSome found (Stands content)
    → AllByRecursion (Stands content) uses → AllByRecursion (Stands content) (cons_option found uses)
one_more content None uses h rest = rest
one_more content (Some u) uses h rest = (h, rest)

each_stands : (content : Content) (who : List ℕ) (pairs : List (Param × Argument))
    → AllByRecursion (Stands content) (filter_map (λ (pair : Param × Argument). use_of_argument content who pair.0 pair.1) pairs)
each_stands content who [] = tt
each_stands content who (pair ∷ pairs) =
    one_more content (use_of_argument content who pair.0 pair.1) (filter_map (λ (pair : Param × Argument). use_of_argument content who pair.0 pair.1) pairs)
    (argument_stands content who pair.0 pair.1) (each_stands content who pairs)

-- The use of the receiver.

of_receiver : (content : Content) (found : Option HandleUse) → IfSome found (Stands content) → AllByRecursion (Stands content) (option_to_list found)
of_receiver content None h = tt
of_receiver content (Some u) h = (h, tt)

entry_stands : (content : Content) (e : Entry) → IfSome e.receiver (Stands content) → AllStand content (handle_uses content e)
entry_stands content e h =
    All-append (Stands content) (option_to_list e.receiver) (argument_uses content e)
    (All-from_recursion (Stands content) (option_to_list e.receiver) (of_receiver content e.receiver h))
    (All-from_recursion (Stands content) (argument_uses content e) (each_stands content e.who (zip e.signature.params e.args)))

-- a `new` has no receiver

abbrev pub made : List ℕ → NewRequest → ContractId → Signature → Entry
made who r contract s = record {
  who = who;
  contract = contract;
  tx = record { 0 = 0 };
  signature = s;
  receiver = None;
  given = Some s.exit.mode;
  args = r.args;
  into = r.into;
}

pub new_stands : (table : ClassTable) (content : Content) (who : List ℕ) (r : NewRequest) (e : Entry) → entry_of_new table who r ≡ Some e
    → AllStand content (handle_uses content e)
new_stands table content who r e is =
    let contract = bind_some (contract_named table.contracts r.contract) (λ (id : ContractId). constructor_at table id >>= λ s. Some (made who r id s)) e is in
    let s = bind_some (constructor_at table contract.0) (λ s. Some (made who r contract.0 s)) e contract.2 in
    entry_stands content e (subst (λ (x : Entry). IfSome x.receiver (Stands content)) (some_same s.2) tt)

-- it is the client's, with its name for the handle on what is made
pub new_of : (table : ClassTable) (who : List ℕ) (r : NewRequest) (e : Entry) → entry_of_new table who r ≡ Some e → (e.who ≡ who) × (e.into ≡ r.into)
new_of table who r e is =
    let contract = bind_some (contract_named table.contracts r.contract) (λ (id : ContractId). constructor_at table id >>= λ s. Some (made who r id s)) e is in
    let s = bind_some (constructor_at table contract.0) (λ s. Some (made who r contract.0 s)) e contract.2 in
    let same : made who r contract.0 s.0 ≡ e = some_same s.2 in
    (sym (ap (λ (x : Entry). x.who) same), sym (ap (λ (x : Entry). x.into) same))

-- the receiver of a `call` is found by its name

abbrev pub called : List ℕ → CallRequest → Handle → Object → TxId → Signature → Entry
called who r h o tx s = record {
  who = who;
  contract = o.contract;
  tx = tx;
  signature = s;
  receiver = Some (used_as_receiver (handle_name who r.on) h o.contract s);
  given = mode_of_result s.result;
  args = r.args;
  into = r.into;
}

abbrev pub by_signature : List ℕ → CallRequest → Handle → Object → TxId → Signature → Option Entry
by_signature who r h o tx s = where_true (not s.private) (called who r h o tx s)

abbrev pub by_transaction : List ℕ → CallRequest → Handle → Object → Contract → TxId → Option Entry
by_transaction who r h o own tx = signature_at own tx >>= by_signature who r h o tx

abbrev pub by_contract : List ℕ → CallRequest → Handle → Object → Contract → Option Entry
by_contract who r h o own = transaction_named own r.tx >>= by_transaction who r h o own

abbrev pub by_object : ClassTable → List ℕ → CallRequest → Handle → Object → Option Entry
by_object table who r h o = contract_at table o.contract >>= by_contract who r h o

abbrev pub by_handle : ClassTable → Content → List ℕ → CallRequest → Handle → Option Entry
by_handle table content who r h = object_at content.objects h.object >>= by_object table who r h

pub call_stands : (table : ClassTable) (content : Content) (who : List ℕ) (r : CallRequest) (e : Entry) → entry_of_call table content who r ≡ Some e
    → AllStand content (handle_uses content e)
call_stands table content who r e is =
    let h = bind_some (handle_at content (handle_name who r.on)) (by_handle table content who r) e is in
    let o = bind_some (object_at content.objects h.0.object) (by_object table who r h.0) e h.2 in
    let own = bind_some (contract_at table o.0.contract) (by_contract who r h.0 o.0) e o.2 in
    let tx = bind_some (transaction_named own.0 r.tx) (by_transaction who r h.0 o.0 own.0) e own.2 in
    let s = bind_some (signature_at own.0 tx.0) (by_signature who r h.0 o.0 tx.0) e tx.2 in
    let same = where_some (not s.0.private) (called who r h.0 o.0 tx.0 s.0) e s.2 in
    entry_stands content e (subst (λ (x : Entry). IfSome x.receiver (Stands content)) same.1 h.1)

pub call_of : (table : ClassTable) (content : Content) (who : List ℕ) (r : CallRequest) (e : Entry) → entry_of_call table content who r ≡ Some e
    → (e.who ≡ who) × (e.into ≡ r.into)
call_of table content who r e is =
    let h = bind_some (handle_at content (handle_name who r.on)) (by_handle table content who r) e is in
    let o = bind_some (object_at content.objects h.0.object) (by_object table who r h.0) e h.2 in
    let own = bind_some (contract_at table o.0.contract) (by_contract who r h.0 o.0) e o.2 in
    let tx = bind_some (transaction_named own.0 r.tx) (by_transaction who r h.0 o.0 own.0) e own.2 in
    let s = bind_some (signature_at own.0 tx.0) (by_signature who r h.0 o.0 tx.0) e tx.2 in
    let same = where_some (not s.0.private) (called who r h.0 o.0 tx.0 s.0) e s.2 in
    (sym (ap (λ (x : Entry). x.who) same.1), sym (ap (λ (x : Entry). x.into) same.1))

-- The same of the uses as the code keeps them, place by place.
pub stands_at : {A : Type 0} (content : Content) (f : A → HandleUse) (xs : List A) (i : ℕ) (x : A) → AllStand content (map f xs) → i < length xs
    → x ≡ get_or xs i x → handle_at content (f x).name ≡ Some (f x).handle
stands_at content f xs i x all h is =
    subst (λ u. Stands content (f u)) (sym is)
    (subst (Stands content) (get_or-map f xs i x (f x) h)
    (All-get_or (Stands content) (map f xs) i (f x) (simp length-map (h)) all))
