-- What the checks of a `new` or a `call` read.
use Rattle.std.proofs.Common.{◌≡◌, ℕ, suc, ◌+◌, ◌<◌, ◌≤◌, Bool, true, false, List, [], ◌∷◌, ◌++◌, length, map, drop, get_or, Option, Some, None, Result, refl, sym, ap, subst, ◌∙◌, append-nil, append_assoc, add-one, drop-cons}
use Rattle.std.specs.Prelude.{IfOk, OnOk, not, ◌||◌, is_none, zip, filter_map, flat_map, option_map, option_to_list, if◌then◌else◌}
use Rattle.std.specs.List.{list_any, cons_option}
use Rattle.std.specs.Option.{option_map_or}
use Rattle.std.proofs.Math.ListN.{drop_of_length-le}
use Rattle.ob_base.proofs.OptionalLemmas.{bind_some, where_some}
use Rattle.ob_base.specs.Optional.{◌>>=◌}
use Rattle.ob_base.specs.declared.id.ContractId.{ContractId}
use Rattle.ob_base.specs.declared.permission.Perm.{Perm}
use Rattle.ob_verify_spec.proofs.Cells.{none_some, some_same}
use Rattle.ob_table.specs.Tables.{ClassTable, contract_at, contract_named, signature_at}
use Rattle.ob_table.specs.declared.contract.Param.{Param}
use Rattle.ob_table.specs.declared.contract.ResolvedType.{ResolvedType}
use Rattle.ob_table.specs.declared.contract.ResolvedType.TheVariants.{Int, Bool as BoolKind, Text, Reference}
use Rattle.ob_table_spec.specs.WellFormed.{constructor_at}
use Rattle.ob_heap_spec.specs.Contents.{HandleName, Handle, Content, object_at}
use Rattle.ob_heap_spec.specs.Dispatch.{transaction_named}
use Rattle.ob_heap_spec.specs.Worlds.{ReadItem, object_item, handle_item, handles_full_item, AllRead}
use Rattle.ob_heap_spec.specs.Handles.{handle_at}
use Rattle.ob_invocation_spec.specs.Checks.{Check, check, refusal_of, reads_of, refused_or, unless_refused}
use Rattle.ob_invocation_spec.specs.Entries.{HandleUse, Entry, used_for, use_of_argument, argument_uses, handle_uses, entry_of_new, entry_of_call}
use Rattle.ob_invocation_spec.specs.Handles.{handle_name, handle_reads, are_handles_full}
use Rattle.ob_invocation_spec.specs.Refusals.{is_no_handle, is_taken, argument_checks, is_no_contract, is_not_main, has_other_count, has_other_kind, lacks_permission, repeats_object, lacks_into, has_needless_into, making_checks, into_checks, entry_checks, found_checks, new_checks, call_checks}
use Rattle.ob_invocation_spec.specs.Replies.{Refusal, Invocation, no_handle, no_contract, not_main, no_transaction, arg_count, arg_kind, permission, repeated, into_missing, into_needless, into_taken, handles_full}
use Rattle.ob_invocation_spec.specs.Requests.{argument_name, Argument, int_argument, bool_argument, text_argument, handle_argument, other_argument, NewRequest, CallRequest}
use Rattle.ob_wire.specs.Meanings.{argument_meant}
use Rattle.ob_wire.specs.Refusals.{refusal_told}
use Rattle.ob_wire.specs.declared.refusal.Refusal.{Refusal as TheRefusal}
use Rattle.ob_wire.specs.declared.request.Arg.{Arg}
use Rattle.ob_wire.specs.declared.request.Arg.TheVariants as arg
use Rattle.ob_exec_entries.specs.Arguments.{names_no_handle}
use Rattle.ob_exec_entries.proofs.CheckLemmas.{handles_first}
use Rattle.ob_exec_entries.proofs.EnteringLemmas.{new_asked, call_asked}
use Rattle.ob_exec_handles.specs.Spending.{item_of, SpendsSo, name_reads}
use Rattle.ob_exec_handles.specs.declared.spent.Spent.{Spent}
use Rattle.ob_exec_handles.proofs.SpendingLemmas.{second_item, all_itself, all_right, same_items}
use Rattle.ob_exec.specs.Reading.{argument_reads, read_then, into_reads, new_reads, call_reads}
use Rattle.ob_exec.specs.Standing.{AreUsesRead}
use Rattle.ob_exec.proofs.StandingLemmas.{made, called, by_signature, by_transaction, by_contract, by_object, by_handle, new_of, call_of}

-- The arguments.

-- what is read of the arguments, and then by other checks
then_reads : (content : Content) (who : List ℕ) (args : List Arg) (cs : List Check)
    → read_then content who args (reads_of cs) ≡ reads_of (argument_checks content who (map argument_meant args) ++ cs)
then_reads content who [] cs = refl
then_reads content who (arg.Int z ∷ args) cs = then_reads content who args cs
then_reads content who (arg.Bool b ∷ args) cs = then_reads content who args cs
then_reads content who (arg.Text text ∷ args) cs = then_reads content who args cs
then_reads content who (arg.Other ∷ args) cs = then_reads content who args cs
then_reads content who (arg.Handle name ∷ args) cs =
    ap (λ rs. handle_reads content (handle_name who name) ++ (if is_no_handle content (handle_name who name) then [] else rs)) (then_reads content who args cs)

-- where a handle is missing nothing is read then
lost_then : (content : Content) (who : List ℕ) (args : List Arg) (xs ys : List ReadItem) → list_any (names_no_handle content who) args ≡ true
    → read_then content who args xs ≡ read_then content who args ys
lost_then content who [] xs ys e = absurd cc
lost_then content who (a ∷ args) xs ys e = by (names_no_handle content who a) e (λ f. lost_then content who args xs ys f)
  where
    by : (b : Bool) → (b || list_any (names_no_handle content who) args) ≡ true
        → (list_any (names_no_handle content who) args ≡ true → read_then content who args xs ≡ read_then content who args ys)
        → argument_reads content who a ++ (if b then [] else read_then content who args xs) ≡ argument_reads content who a ++ (if b then [] else read_then content who args ys)
    by true f h = refl
    by false f h = ap (λ rs. argument_reads content who a ++ rs) (h f)

-- The name.

-- what the checks read is told by why they refuse
abbrev Told : List ℕ → Option (List ℕ) → List Check → Type 0
Told who into cs = reads_of cs ≡ into_reads who into (option_map refusal_told (refusal_of cs))

none_read : (into : Option (List ℕ)) → ◌≡◌ {A = List ReadItem} (option_map_or (λ (name : List ℕ). []) into []) []
none_read None = refl
none_read (Some name) = refl

one_more : (who : List ℕ) (into : Option (List ℕ)) (x : Refusal) (b : Bool) (cs : List Check) → into_reads who into (Some (refusal_told x)) ≡ []
    → (b ≡ false → Told who into cs) → Told who into (check x b ∷ cs)
one_more who into x true cs none h = sym none
one_more who into x false cs none h = h refl

into_told : (content : Content) (who : List ℕ) (into : Option (List ℕ))
    → Told who into (flat_map (λ i. making_checks content (handle_name who i)) (option_to_list into))
into_told content who None = refl
into_told content who (Some i) = by (is_taken content (handle_name who i)) (are_handles_full content)
  where
    by : (taken full : Bool)
        → (handle_item (handle_name who i) ∷ []) ++ (if taken then [] else ((handles_full_item ∷ []) ++ (if full then [] else [])))
        ≡ name_reads (handle_name who i) (option_map refusal_told (if taken then Some into_taken else (if full then Some handles_full else None)))
    by true full = refl
    by false true = refl
    by false false = refl

entry_told : (table : ClassTable) (content : Content) (e : Entry) → Told e.who e.into (entry_checks table content e)
entry_told table content e =
    let needless = check into_needless (has_needless_into e) ∷ into_checks content e in
    let missing = check into_missing (lacks_into e) ∷ needless in
    let twice = check repeated (repeats_object content e) ∷ missing in
    let permitted = check permission (lacks_permission content e) ∷ twice in
    let kinds = check arg_kind (has_other_kind table content e) ∷ permitted in
    one_more e.who e.into arg_count (has_other_count e) kinds (none_read e.into)
    (λ a. one_more e.who e.into arg_kind (has_other_kind table content e) permitted (none_read e.into)
    (λ b. one_more e.who e.into permission (lacks_permission content e) twice (none_read e.into)
    (λ c. one_more e.who e.into repeated (repeats_object content e) missing (none_read e.into)
    (λ d. one_more e.who e.into into_missing (lacks_into e) needless (none_read e.into)
    (λ f. one_more e.who e.into into_needless (has_needless_into e) (into_checks content e) (none_read e.into)
    (λ g. into_told content e.who e.into))))))

-- of what is found, for this client and with this name
found_told : (table : ClassTable) (content : Content) (found : Option Entry) (e : Entry) (who : List ℕ) (into : Option (List ℕ)) → found ≡ Some e
    → e.who ≡ who → e.into ≡ into → Told who into (found_checks table content found)
found_told table content found e who into is f g =
    subst (λ o. Told who into (found_checks table content o)) (sym is)
    (subst (λ i. Told who i (entry_checks table content e ++ [])) g
    (subst (λ w. Told w e.into (entry_checks table content e ++ [])) f
    (subst (Told e.who e.into) (sym (append-nil (entry_checks table content e))) (entry_told table content e))))

-- Both.

asked_told : (content : Content) (who : List ℕ) (args : List Arg) (into : Option (List ℕ)) (rest : List Check)
    → (list_any (names_no_handle content who) args ≡ false → Told who into rest)
    → reads_of (argument_checks content who (map argument_meant args) ++ rest)
    ≡ new_reads content who args into (option_map refusal_told (refusal_of (argument_checks content who (map argument_meant args) ++ rest)))
asked_told content who args into rest told = by (list_any (names_no_handle content who) args) refl
  where
    by : (b : Bool) → list_any (names_no_handle content who) args ≡ b
        → reads_of (argument_checks content who (map argument_meant args) ++ rest)
        ≡ new_reads content who args into (option_map refusal_told (refusal_of (argument_checks content who (map argument_meant args) ++ rest)))
    by true e =
        sym (then_reads content who args rest)
        ∙ lost_then content who args (reads_of rest)
        (into_reads who into (option_map refusal_told (refusal_of (argument_checks content who (map argument_meant args) ++ rest)))) e
    by false e =
        sym (then_reads content who args rest)
        ∙ ap (read_then content who args)
        (told e ∙ ap (λ (x : Option Refusal). into_reads who into (option_map refusal_told x))
        (sym (handles_first content who args rest ∙ ap (λ (b : Bool). if b then Some no_handle else refusal_of rest) e)))

-- the checks of a `new`, unless they find nothing and refuse nothing
pub new_told : (table : ClassTable) (content : Content) (who name : List ℕ) (args : List Arg) (into : Option (List ℕ))
    → (entry_of_new table who (new_asked name args into) ≡ None → refusal_of (new_checks table content who (new_asked name args into)) ≡ None → ⊥)
    → reads_of (new_checks table content who (new_asked name args into))
    ≡ new_reads content who args into (option_map refusal_told (refusal_of (new_checks table content who (new_asked name args into))))
new_told table content who name args into apart =
    asked_told content who args into
    (check no_contract (is_no_contract table name) ∷ check not_main (is_not_main table name)
    ∷ found_checks table content (entry_of_new table who (new_asked name args into)))
    (λ there. one_more who into no_contract (is_no_contract table name)
    (check not_main (is_not_main table name) ∷ found_checks table content (entry_of_new table who (new_asked name args into))) (none_read into)
    (λ named. one_more who into not_main (is_not_main table name) (found_checks table content (entry_of_new table who (new_asked name args into))) (none_read into)
    (λ main. by (entry_of_new table who (new_asked name args into)) refl there named main)))
  where
    by : (found : Option Entry) → entry_of_new table who (new_asked name args into) ≡ found → list_any (names_no_handle content who) args ≡ false
        → is_no_contract table name ≡ false → is_not_main table name ≡ false
        → Told who into (found_checks table content (entry_of_new table who (new_asked name args into)))
    by (Some e) is there named main =
        let of = new_of table who (new_asked name args into) e is in
        found_told table content (entry_of_new table who (new_asked name args into)) e who into is of.0 of.1
    by None is there named main =
        absurd (apart is
        (handles_first content who args
        (check no_contract (is_no_contract table name) ∷ check not_main (is_not_main table name)
        ∷ found_checks table content (entry_of_new table who (new_asked name args into)))
        ∙ ap (λ (b : Bool). if b then Some no_handle else (if is_no_contract table name then Some no_contract
        else (if is_not_main table name then Some not_main
        else refusal_of (found_checks table content (entry_of_new table who (new_asked name args into)))))) there
        ∙ ap (λ (b : Bool). if b then Some no_contract else (if is_not_main table name then Some not_main
        else refusal_of (found_checks table content (entry_of_new table who (new_asked name args into))))) named
        ∙ ap (λ (b : Bool). if b then Some not_main
        else refusal_of (found_checks table content (entry_of_new table who (new_asked name args into)))) main
        ∙ ap (λ (o : Option Entry). refusal_of (found_checks table content o)) is))

-- what is asked of what a `call` finds
call_found : (table : ClassTable) (content : Content) (who on name : List ℕ) (args : List Arg) (into : Option (List ℕ)) (found : Option Entry)
    → entry_of_call table content who (call_asked on name args into) ≡ found
    → Told who into (check no_transaction (is_none found) ∷ found_checks table content found)
call_found table content who on name args into None is = sym (none_read into)
call_found table content who on name args into (Some e) is =
    let of = call_of table content who (call_asked on name args into) e is in
    found_told table content (Some e) e who into refl of.0 of.1

-- the checks of a `call`
pub call_told : (table : ClassTable) (content : Content) (who on name : List ℕ) (args : List Arg) (into : Option (List ℕ))
    → reads_of (call_checks table content who (call_asked on name args into))
    ≡ call_reads content who on args into (option_map refusal_told (refusal_of (call_checks table content who (call_asked on name args into))))
call_told table content who on name args into =
    by (check no_transaction (is_none (entry_of_call table content who (call_asked on name args into)))
    ∷ found_checks table content (entry_of_call table content who (call_asked on name args into)))
    (is_no_handle content (handle_name who on))
    (call_found table content who on name args into (entry_of_call table content who (call_asked on name args into)) refl)
  where
    by : (rest : List Check) (b : Bool) → Told who into rest
        → handle_reads content (handle_name who on) ++ (if b then [] else reads_of (argument_checks content who (map argument_meant args) ++ rest))
        ≡ handle_reads content (handle_name who on)
        ++ (if b then [] else new_reads content who args into (option_map refusal_told
        (if b then Some no_handle else refusal_of (argument_checks content who (map argument_meant args) ++ rest))))
    by rest true told = refl
    by rest false told = ap (λ rs. handle_reads content (handle_name who on) ++ rs) (asked_told content who args into rest (λ there. told))

-- The objects of the uses.

pub uses_more : (uses : List HandleUse) (xs ys : List ReadItem) → AllRead xs ys → AreUsesRead xs uses → AreUsesRead ys uses
uses_more [] xs ys all read = tt
uses_more (u ∷ uses) xs ys all read = (all (object_item u.handle.object) read.0, uses_more uses xs ys all read.1)

-- the handle of a name is used for a parameter of this type, once it is looked up
kind_read : (kind : ResolvedType) (exit : Perm) (n : HandleName) (h : Handle) (rest : List ReadItem) (uses : List HandleUse) → AreUsesRead rest uses
    → AreUsesRead (handle_item n ∷ object_item h.object ∷ rest) (cons_option (used_for kind exit n h) uses)
kind_read (Reference contract entry) exit n h rest uses read = (
  second_item (handle_item n) (object_item h.object) rest,
  uses_more uses rest (handle_item n ∷ object_item h.object ∷ rest) (all_right (handle_item n ∷ object_item h.object ∷ []) rest rest (all_itself rest)) read,
)
kind_read Int exit n h rest uses read =
    uses_more uses rest (handle_item n ∷ object_item h.object ∷ rest) (all_right (handle_item n ∷ object_item h.object ∷ []) rest rest (all_itself rest)) read
kind_read BoolKind exit n h rest uses read =
    uses_more uses rest (handle_item n ∷ object_item h.object ∷ rest) (all_right (handle_item n ∷ object_item h.object ∷ []) rest rest (all_itself rest)) read
kind_read Text exit n h rest uses read =
    uses_more uses rest (handle_item n ∷ object_item h.object ∷ rest) (all_right (handle_item n ∷ object_item h.object ∷ []) rest rest (all_itself rest)) read

-- what is read of a name, by the handle that is found, and then
abbrev found_then : HandleName → Option Handle → List ReadItem → List ReadItem
found_then n found rest =
    (handle_item n ∷ option_to_list (option_map (λ (h : Handle). object_item h.object) found)) ++ (if is_none found then [] else rest)

handle_read : (n : HandleName) (p : Param) (found : Option Handle) (refusal : Option Refusal) (rest : List ReadItem) (uses : List HandleUse)
    → (if is_none found then Some no_handle else refusal) ≡ None → (refusal ≡ None → AreUsesRead rest uses)
    → AreUsesRead (found_then n found rest) (cons_option (found >>= used_for p.of p.exit n) uses)
handle_read n p None refusal rest uses e read = absurd (none_some (sym e))
handle_read n p (Some h) refusal rest uses e read = kind_read p.of p.exit n h rest uses (read e)

arguments_read : (content : Content) (who : List ℕ) (ps : List Param) (args : List Argument) (rest : List Check)
    → refusal_of (argument_checks content who args ++ rest) ≡ None
    → AreUsesRead (reads_of (argument_checks content who args ++ rest))
    (filter_map (λ (pair : Param × Argument). use_of_argument content who pair.0 pair.1) (zip ps args))
arguments_read content who [] args rest e = tt
arguments_read content who (p ∷ ps) [] rest e = tt
arguments_read content who (p ∷ ps) (int_argument z ∷ args) rest e = arguments_read content who ps args rest e
arguments_read content who (p ∷ ps) (bool_argument b ∷ args) rest e = arguments_read content who ps args rest e
arguments_read content who (p ∷ ps) (text_argument bytes ∷ args) rest e = arguments_read content who ps args rest e
arguments_read content who (p ∷ ps) (other_argument ∷ args) rest e = arguments_read content who ps args rest e
arguments_read content who (p ∷ ps) (handle_argument name ∷ args) rest e =
    handle_read (handle_name who name) p (handle_at content (handle_name who name)) (refusal_of (argument_checks content who args ++ rest))
    (reads_of (argument_checks content who args ++ rest))
    (filter_map (λ (pair : Param × Argument). use_of_argument content who pair.0 pair.1) (zip ps args)) e
    (λ f. arguments_read content who ps args rest f)

pub new_uses : (table : ClassTable) (content : Content) (who : List ℕ) (r : NewRequest) (e : Entry) → entry_of_new table who r ≡ Some e
    → refusal_of (new_checks table content who r) ≡ None → AreUsesRead (reads_of (new_checks table content who r)) (handle_uses content e)
new_uses table content who r e is passed =
    let contract = bind_some (contract_named table.contracts r.contract) (λ (id : ContractId). constructor_at table id >>= λ s. Some (made who r id s)) e is in
    let s = bind_some (constructor_at table contract.0) (λ s. Some (made who r contract.0 s)) e contract.2 in
    let same : made who r contract.0 s.0 ≡ e = some_same s.2 in
    subst (λ (x : Entry). AreUsesRead (reads_of (new_checks table content who r)) (handle_uses content x)) same
    (arguments_read content who s.0.params r.args
    (check no_contract (is_no_contract table r.contract) ∷ check not_main (is_not_main table r.contract)
    ∷ found_checks table content (entry_of_new table who r)) passed)

pub call_uses : (table : ClassTable) (content : Content) (who : List ℕ) (r : CallRequest) (e : Entry) → entry_of_call table content who r ≡ Some e
    → refusal_of (call_checks table content who r) ≡ None → AreUsesRead (reads_of (call_checks table content who r)) (handle_uses content e)
call_uses table content who r e is passed =
    let n = handle_name who r.on in
    let h = bind_some (handle_at content n) (by_handle table content who r) e is in
    let o = bind_some (object_at content.objects h.0.object) (by_object table who r h.0) e h.2 in
    let own = bind_some (contract_at table o.0.contract) (by_contract who r h.0 o.0) e o.2 in
    let tx = bind_some (transaction_named own.0 r.tx) (by_transaction who r h.0 o.0 own.0) e own.2 in
    let s = bind_some (signature_at own.0 tx.0) (by_signature who r h.0 o.0 tx.0) e tx.2 in
    let same = where_some (not s.0.private) (called who r h.0 o.0 tx.0 s.0) e s.2 in
    let rest = check no_transaction (is_none (entry_of_call table content who r)) ∷ found_checks table content (entry_of_call table content who r) in
    let inner = argument_checks content who r.args ++ rest in
    let uses = argument_uses content (called who r h.0 o.0 tx.0 s.0) in
    let there : refusal_of inner ≡ None =
    subst (λ (f : Option Handle). (if is_none f then Some no_handle else refusal_of inner) ≡ None) h.1 passed in
    subst (λ (x : Entry). AreUsesRead (reads_of (call_checks table content who r)) (handle_uses content x)) same.1
    (subst (λ (f : Option Handle). AreUsesRead (found_then n f (reads_of inner)) (handle_uses content (called who r h.0 o.0 tx.0 s.0))) (sym h.1) (
      second_item (handle_item n) (object_item h.0.object) (reads_of inner),
      uses_more uses (reads_of inner) (handle_item n ∷ object_item h.0.object ∷ reads_of inner)
          (all_right (handle_item n ∷ object_item h.0.object ∷ []) (reads_of inner) (reads_of inner) (all_itself (reads_of inner)))
          (arguments_read content who s.0.params r.args rest there),
    ))

-- a request that is refused takes nothing, and reads what its checks do
pub refused_spends : (content : Content) (checks : List Check) (go : List ReadItem → Invocation) (s : Spent) (refusal : TheRefusal)
    → option_map refusal_told (refusal_of checks) ≡ Some refusal → s.taken ≡ 0 → map item_of s.reads ≡ reads_of checks
    → SpendsSo (unless_refused content checks go) s
refused_spends content checks go s refusal why taken told = by (refusal_of checks) why
  where
    by : (found : Option Refusal) → option_map refusal_told found ≡ Some refusal → SpendsSo (refused_or content found (reads_of checks) go) s
    by None e = absurd (none_some e)
    by (Some x) e = (taken, same_items (reads_of checks) (map item_of s.reads) (sym told))

-- Arguments, one after another.

drop_here : {A : Type 0} (xs : List A) (i : ℕ) (x : A) → i < length xs → x ≡ get_or xs i x → drop i xs ≡ x ∷ drop (i + 1) xs
drop_here xs i x l is = rw add-one (drop-cons xs i x l ∙ ap (λ y. y ∷ drop (suc i) xs) (sym is))

is_missing : (b there held : Bool) → there ≡ not b → not there ≡ held → b ≡ held
is_missing true there held e f = sym (ap not e) ∙ f
is_missing false there held e f = sym (ap not e) ∙ f

-- what is left to read where an argument is next
next_argument : (content : Content) (who : List ℕ) (args : List Arg) (i : ℕ) (a : Arg) (there held : Bool) (now rest : List ReadItem)
    → i < length args → a ≡ get_or args i a → there ≡ not (names_no_handle content who a) → not there ≡ held
    → now ++ read_then content who (drop i args) rest
    ≡ (now ++ argument_reads content who a) ++ (if held then [] else read_then content who (drop (i + 1) args) rest)
next_argument content who args i a there held now rest l is e f =
    ap (λ ys. now ++ read_then content who ys rest) (drop_here args i a l is)
    ∙ ap (λ (b : Bool). now ++ (argument_reads content who a ++ (if b then [] else read_then content who (drop (i + 1) args) rest)))
    (is_missing (names_no_handle content who a) there held e f)
    ∙ sym (append_assoc now (argument_reads content who a) (if held then [] else read_then content who (drop (i + 1) args) rest))

pub arguments_turn : (content : Content) (who : List ℕ) (args : List Arg) (i : ℕ) (a : Arg) (there : Bool) (now new : List ReadItem) (all : List ReadItem → List ReadItem)
    → i < length args → a ≡ get_or args i a → there ≡ not (names_no_handle content who a) → not there ≡ false → new ≡ now ++ argument_reads content who a
    → ((rest : List ReadItem) → now ++ read_then content who (drop i args) rest ≡ all rest)
    → (rest : List ReadItem) → new ++ read_then content who (drop (i + 1) args) rest ≡ all rest
arguments_turn content who args i a there now new all l is e f g h rest =
    ap (λ rs. rs ++ read_then content who (drop (i + 1) args) rest) g
    ∙ sym (next_argument content who args i a there false now rest l is e f) ∙ h rest

pub arguments_stop : (content : Content) (who : List ℕ) (args : List Arg) (i : ℕ) (a : Arg) (there : Bool) (now new : List ReadItem) (all : List ReadItem → List ReadItem)
    → i < length args → a ≡ get_or args i a → there ≡ not (names_no_handle content who a) → not there ≡ true → new ≡ now ++ argument_reads content who a
    → ((rest : List ReadItem) → now ++ read_then content who (drop i args) rest ≡ all rest)
    → (rest : List ReadItem) → new ++ [] ≡ all rest
arguments_stop content who args i a there now new all l is e f g h rest =
    ap (λ rs. rs ++ []) g
    ∙ sym (next_argument content who args i a there true now rest l is e f) ∙ h rest

pub arguments_end : (content : Content) (who : List ℕ) (args : List Arg) (i : ℕ) (now : List ReadItem) (all : List ReadItem → List ReadItem) → length args ≤ i
    → ((rest : List ReadItem) → now ++ read_then content who (drop i args) rest ≡ all rest)
    → (rest : List ReadItem) → now ++ rest ≡ all rest
arguments_end content who args i now all l h rest =
    ap (λ ys. now ++ read_then content who ys rest) (sym (drop_of_length-le args l)) ∙ h rest

-- One argument.

-- it names no handle
pub is_none_missing : (content : Content) (who : List ℕ) (a : Arg) → argument_name (argument_meant a) ≡ None → true ≡ not (names_no_handle content who a)
is_none_missing content who a e = sym (ap (λ n. not (option_map_or (λ name. is_no_handle content (handle_name who name)) n false)) e)

pub none_read_of : (content : Content) (who : List ℕ) (a : Arg) (now : List ReadItem) → argument_name (argument_meant a) ≡ None
    → now ≡ now ++ argument_reads content who a
none_read_of content who a now e =
    sym (append-nil now) ∙ ap (λ n. now ++ option_map_or (λ name. handle_reads content (handle_name who name)) n []) (sym e)

-- it names one
pub is_one_missing : {E : Type 0} (content : Content) (who : List ℕ) (a : Arg) (name : List ℕ) (r : Result Bool E) → argument_name (argument_meant a) ≡ Some name
    → IfOk r (λ there. there ≡ not (is_no_handle content (handle_name who name))) → IfOk r (λ there. there ≡ not (names_no_handle content who a))
is_one_missing content who a name r e h =
    subst (λ n. IfOk r (λ there. there ≡ not (option_map_or (λ m. is_no_handle content (handle_name who m)) n false))) (sym e) h

pub one_read_of : {E : Type 0} (content : Content) (who : List ℕ) (a : Arg) (name : List ℕ) (r : Result Bool E) (now new : List ReadItem)
    → argument_name (argument_meant a) ≡ Some name → OnOk r (new ≡ now ++ handle_reads content (handle_name who name))
    → OnOk r (new ≡ now ++ argument_reads content who a)
one_read_of content who a name r now new e h =
    subst (λ n. OnOk r (new ≡ now ++ option_map_or (λ m. handle_reads content (handle_name who m)) n [])) (sym e) h

-- The handle of a `call`.

pub call_stops : (content : Content) (who on : List ℕ) (args : List Arg) (into : Option (List ℕ)) (why : Option TheRefusal) (there : Bool)
    → there ≡ not (is_no_handle content (handle_name who on)) → not there ≡ true
    → handle_reads content (handle_name who on) ≡ call_reads content who on args into why
call_stops content who on args into why there e f =
    sym (append-nil (handle_reads content (handle_name who on)))
    ∙ ap (λ (b : Bool). handle_reads content (handle_name who on) ++ (if b then [] else new_reads content who args into why))
    (sym (is_missing (is_no_handle content (handle_name who on)) there true e f))

pub call_goes_on : (content : Content) (who on : List ℕ) (args : List Arg) (into : Option (List ℕ)) (why : Option TheRefusal) (there : Bool)
    → there ≡ not (is_no_handle content (handle_name who on)) → not there ≡ false
    → handle_reads content (handle_name who on) ++ new_reads content who args into why ≡ call_reads content who on args into why
call_goes_on content who on args into why there e f =
    ap (λ (b : Bool). handle_reads content (handle_name who on) ++ (if b then [] else new_reads content who args into why))
    (sym (is_missing (is_no_handle content (handle_name who on)) there false e f))
