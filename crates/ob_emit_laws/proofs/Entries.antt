-- What a request enters, and what is asked of it, is the same without the names of parameters and listed fields.
use Rattle.std.proofs.Common.{◌≡◌, ℕ, Bool, true, false, not, List, [], ◌∷◌, ◌++◌, map, length, Option, Some, None, refl, ap, ◌∙◌}
use Rattle.std.proofs.Math.Path.{fun_ext}
use Rattle.std.proofs.lemmas.List.{length-map}
use Rattle.std.specs.Prelude.{◌==◌, ◌||◌, is_none, zip, filter_map, option_map, option_to_list}
use Rattle.std.specs.List.{list_any, list_all, cons_option}
use Rattle.std.specs.Option.{option_map_or}
use Rattle.ob_base.specs.Optional.{◌>>=◌, where_true}
use Rattle.ob_base.specs.declared.id.ContractId.{ContractId}
use Rattle.ob_base.specs.declared.id.TxId.{TxId}
use Rattle.ob_table.specs.Tables.{ClassTable, contract_at, contract_named, signature_at}
use Rattle.ob_table.specs.declared.contract.Contract.{Contract}
use Rattle.ob_table.specs.declared.contract.Param.{Param}
use Rattle.ob_table.specs.declared.contract.ResolvedType.{ResolvedType}
use Rattle.ob_table.specs.declared.contract.ResolvedType.TheVariants as typed
use Rattle.ob_table.specs.declared.contract.Signature.{Signature}
use Rattle.ob_table.specs.declared.seen.Kind.TheVariants as kind
use Rattle.ob_table_spec.specs.WellFormed.{constructor_at}
use Rattle.ob_heap_spec.specs.Values.{Value, int_value, bool_value, text_value, reference}
use Rattle.ob_heap_spec.specs.Objects.{Object}
use Rattle.ob_heap_spec.specs.Contents.{Handle, Content, object_at}
use Rattle.ob_heap_spec.specs.Dispatch.{transaction_named}
use Rattle.ob_heap_spec.specs.Handles.{handle_at}
use Rattle.ob_invocation_spec.specs.Requests.{Argument, int_argument, bool_argument, text_argument, handle_argument, other_argument, NewRequest, CallRequest}
use Rattle.ob_invocation_spec.specs.Replies.{no_contract, not_main, no_transaction, arg_count, arg_kind, permission, repeated}
use Rattle.ob_invocation_spec.specs.Handles.{handle_name}
use Rattle.ob_invocation_spec.specs.Entries.{HandleUse, Entry, entry_of_new, entry_of_call, mode_of_result, used_as_receiver, value_of, use_of_argument, argument_uses, handle_uses}
use Rattle.ob_invocation_spec.specs.Checks.{Check, check}
use Rattle.ob_invocation_spec.specs.Refusals.{handle_check, argument_checks, is_no_contract, is_not_main, is_no_transaction, has_other_count, is_of_type, is_argument_for, use_serves, receiver_serves, lacks_permission, is_repeated, repeats_object, entry_checks, found_checks, new_checks, call_checks}
use Rattle.ob_emit_laws.specs.Names.{param_without_name, signature_without_names, contract_without_names, without_names}
use Rattle.ob_emit_laws.proofs.Unnamed.{said_alike, follows_alike, then_alike, contract_unnamed, named_unnamed, signature_unnamed, transaction_unnamed, constructor_unnamed, serves_unnamed}

-- Entries.

-- what is entered, without the names of parameters and the listed fields
abbrev pub entry_without_names : Entry → Entry
entry_without_names e = record e { signature = signature_without_names e.signature }

pub entry_new_unnamed : (table : ClassTable) (who : List ℕ) (r : NewRequest)
    → entry_of_new (without_names table) who r ≡ option_map entry_without_names (entry_of_new table who r)
entry_new_unnamed table who r =
    ap (λ o. o >>= after (without_names table)) (named_unnamed table r.contract)
    ∙ then_alike entry_without_names (after (without_names table)) (after table)
    (λ contract. ap (λ o. o >>= made contract) (constructor_unnamed table contract)
    ∙ follows_alike signature_without_names entry_without_names (made contract) (made contract) (λ s. refl)
    (constructor_at table contract))
    (contract_named table.contracts r.contract)
  where
    made : ContractId → Signature → Option Entry
    made contract s = Some (record {
      who = who;
      contract = contract;
      tx = record { 0 = 0 };
      signature = s;
      receiver = None;
      given = Some s.exit.mode;
      args = r.args;
      into = r.into;
    })

    after : ClassTable → ContractId → Option Entry
    after table contract = constructor_at table contract >>= made contract

passes_alike : (b : Bool) (e : Entry) → where_true b (entry_without_names e) ≡ option_map entry_without_names (where_true b e)
passes_alike true e = refl
passes_alike false e = refl

pub entry_call_unnamed : (table : ClassTable) (content : Content) (who : List ℕ) (r : CallRequest)
    → entry_of_call (without_names table) content who r ≡ option_map entry_without_names (entry_of_call table content who r)
entry_call_unnamed table content who r =
    then_alike entry_without_names (of_handle (without_names table)) (of_handle table)
    (λ h. then_alike entry_without_names (of_object (without_names table) h) (of_object table h)
    (λ o. ap (λ c. c >>= of_contract h o) (contract_unnamed table o.contract)
    ∙ follows_alike contract_without_names entry_without_names (of_contract h o) (of_contract h o) (in_contract h o)
    (contract_at table o.contract))
    (object_at content.objects h.object)) (handle_at content (handle_name who r.on))
  where
    made : Handle → Object → TxId → Signature → Entry
    made h o tx s = record {
      who = who;
      contract = o.contract;
      tx = tx;
      signature = s;
      receiver = Some (used_as_receiver (handle_name who r.on) h o.contract s);
      given = mode_of_result s.result;
      args = r.args;
      into = r.into;
    }

    of_signature : Handle → Object → TxId → Signature → Option Entry
    of_signature h o tx s = where_true (not s.private) (made h o tx s)

    of_tx : Handle → Object → Contract → TxId → Option Entry
    of_tx h o own tx = signature_at own tx >>= of_signature h o tx

    of_contract : Handle → Object → Contract → Option Entry
    of_contract h o own = transaction_named own r.tx >>= of_tx h o own

    of_object : ClassTable → Handle → Object → Option Entry
    of_object table h o = contract_at table o.contract >>= of_contract h o

    of_handle : ClassTable → Handle → Option Entry
    of_handle table h = object_at content.objects h.object >>= of_object table h

    in_contract : (h : Handle) (o : Object) (own : Contract)
        → of_contract h o (contract_without_names own) ≡ option_map entry_without_names (of_contract h o own)
    in_contract h o own =
        ap (λ t. t >>= of_tx h o (contract_without_names own)) (transaction_unnamed own r.tx)
        ∙ then_alike entry_without_names (of_tx h o (contract_without_names own)) (of_tx h o own)
        (λ tx. ap (λ s. s >>= of_signature h o tx) (signature_unnamed own tx)
        ∙ follows_alike signature_without_names entry_without_names (of_signature h o tx) (of_signature h o tx)
        (λ s. passes_alike (not s.private) (made h o tx s)) (signature_at own tx))
        (transaction_named own r.tx)

-- Uses of handles.

use_unnamed : (content : Content) (who : List ℕ) (p : Param) (arg : Argument)
    → use_of_argument content who (param_without_name p) arg ≡ use_of_argument content who p arg
use_unnamed content who p (int_argument z) = refl
use_unnamed content who p (bool_argument b) = refl
use_unnamed content who p (text_argument bytes) = refl
use_unnamed content who p (handle_argument name) = refl
use_unnamed content who p other_argument = refl

-- the uses for arguments of these parameters
abbrev uses_of : Content → List ℕ → List Param → List Argument → List HandleUse
uses_of content who ps args = filter_map (λ pair. use_of_argument content who pair.0 pair.1) (zip ps args)

uses_alike : (content : Content) (who : List ℕ) (ps : List Param) (args : List Argument)
    → uses_of content who (map param_without_name ps) args ≡ uses_of content who ps args
uses_alike content who [] args = refl
uses_alike content who (p ∷ ps) [] = refl
uses_alike content who (p ∷ ps) (arg ∷ args) =
    ap (λ u. cons_option u (uses_of content who (map param_without_name ps) args)) (use_unnamed content who p arg)
    ∙ ap (cons_option (use_of_argument content who p arg)) (uses_alike content who ps args)

argument_uses_unnamed : (content : Content) (e : Entry) → argument_uses content (entry_without_names e) ≡ argument_uses content e
argument_uses_unnamed content e = uses_alike content e.who e.signature.params e.args

pub uses_unnamed : (content : Content) (e : Entry) → handle_uses content (entry_without_names e) ≡ handle_uses content e
uses_unnamed content e = ap (λ us. option_to_list e.receiver ++ us) (argument_uses_unnamed content e)

-- Kinds of arguments.

type_unnamed : (table : ClassTable) (objects : List Object) (of : ResolvedType) (v : Value)
    → is_of_type (without_names table) objects of v ≡ is_of_type table objects of v
type_unnamed table objects (typed.Reference declared p) (reference n) =
    ap (λ says. option_map_or says (object_at objects n) false)
    (fun_ext (λ (o : Object). serves_unnamed table (kind.Reference declared) (kind.Reference o.contract)))
type_unnamed table objects (typed.Reference declared p) (int_value z) = refl
type_unnamed table objects (typed.Reference declared p) (bool_value b) = refl
type_unnamed table objects (typed.Reference declared p) (text_value bytes) = refl
type_unnamed table objects typed.Int (int_value z) = refl
type_unnamed table objects typed.Int (bool_value b) = refl
type_unnamed table objects typed.Int (text_value bytes) = refl
type_unnamed table objects typed.Int (reference n) = refl
type_unnamed table objects typed.Bool (int_value z) = refl
type_unnamed table objects typed.Bool (bool_value b) = refl
type_unnamed table objects typed.Bool (text_value bytes) = refl
type_unnamed table objects typed.Bool (reference n) = refl
type_unnamed table objects typed.Text (int_value z) = refl
type_unnamed table objects typed.Text (bool_value b) = refl
type_unnamed table objects typed.Text (text_value bytes) = refl
type_unnamed table objects typed.Text (reference n) = refl

argument_unnamed : (table : ClassTable) (content : Content) (who : List ℕ) (p : Param) (arg : Argument)
    → is_argument_for (without_names table) content who (param_without_name p) arg ≡ is_argument_for table content who p arg
argument_unnamed table content who p arg =
    ap (λ says. option_map_or says (value_of content who arg) false) (fun_ext (type_unnamed table content.objects p.of))

-- whether an argument isn't of the type of its parameter, one for one
abbrev other_kinds : ClassTable → Content → List ℕ → List Param → List Argument → Bool
other_kinds table content who ps args = list_any (λ pair. not (is_argument_for table content who pair.0 pair.1)) (zip ps args)

kinds_alike : (table : ClassTable) (content : Content) (who : List ℕ) (ps : List Param) (args : List Argument)
    → other_kinds (without_names table) content who (map param_without_name ps) args ≡ other_kinds table content who ps args
kinds_alike table content who [] args = refl
kinds_alike table content who (p ∷ ps) [] = refl
kinds_alike table content who (p ∷ ps) (arg ∷ args) =
    ap (λ b. not b || other_kinds (without_names table) content who (map param_without_name ps) args)
    (argument_unnamed table content who p arg)
    ∙ ap (λ b. not (is_argument_for table content who p arg) || b) (kinds_alike table content who ps args)

-- Checks.

count_unnamed : (e : Entry) → has_other_count (entry_without_names e) ≡ has_other_count e
count_unnamed e = ap (λ n. not (length e.args == n)) (length-map e.signature.params param_without_name)

permission_unnamed : (content : Content) (e : Entry)
    → lacks_permission content (entry_without_names e) ≡ lacks_permission content e
permission_unnamed content e =
    ap (λ us. not (list_all receiver_serves (option_to_list e.receiver)) || not (list_all use_serves us))
    (argument_uses_unnamed content e)

repeats_unnamed : (content : Content) (e : Entry) → repeats_object content (entry_without_names e) ≡ repeats_object content e
repeats_unnamed content e = ap (λ uses. list_any (is_repeated uses) uses) (uses_unnamed content e)

-- the first four checks, by whether they hold, and the rest
abbrev checks_with : List Check → Bool → Bool → Bool → Bool → List Check
checks_with rest count kinds lacks repeats =
    check arg_count count ∷ check arg_kind kinds ∷ check permission lacks ∷ check repeated repeats ∷ rest

checks_alike : (rest : List Check) (a b c d w x y z : Bool) → a ≡ w → b ≡ x → c ≡ y → d ≡ z
    → checks_with rest a b c d ≡ checks_with rest w x y z
checks_alike rest a b c d w x y z p q r s =
    ap (λ h. checks_with rest h b c d) p ∙ ap (λ h. checks_with rest w h c d) q ∙ ap (λ h. checks_with rest w x h d) r
    ∙ ap (checks_with rest w x y) s

entry_checks_unnamed : (table : ClassTable) (content : Content) (e : Entry)
    → entry_checks (without_names table) content (entry_without_names e) ≡ entry_checks table content e
entry_checks_unnamed table content e =
    checks_alike _ _ _ _ _ _ _ _ _ (count_unnamed e) (kinds_alike table content e.who e.signature.params e.args)
    (permission_unnamed content e) (repeats_unnamed content e)

found_checks_unnamed : (table : ClassTable) (content : Content) (found : Option Entry)
    → found_checks (without_names table) content (option_map entry_without_names found) ≡ found_checks table content found
found_checks_unnamed table content None = refl
found_checks_unnamed table content (Some e) = ap (λ cs. cs ++ []) (entry_checks_unnamed table content e)

main_unnamed : (table : ClassTable) (name : List ℕ) → is_not_main (without_names table) name ≡ is_not_main table name
main_unnamed table name =
    ap (λ o. option_map_or (λ contract. option_map_or (λ (c : Contract). not c.main)
    (contract_at (without_names table) contract) false) o false) (named_unnamed table name)
    ∙ ap (λ says. option_map_or says (contract_named table.contracts name) false)
    (fun_ext (λ contract. ap (λ o. option_map_or (λ (c : Contract). not c.main) o false) (contract_unnamed table contract)
    ∙ said_alike contract_without_names (λ (c : Contract). not c.main) (λ c. not c.main) false (λ c. refl)
    (contract_at table contract)))

pub new_checks_unnamed : (table : ClassTable) (content : Content) (who : List ℕ) (r : NewRequest)
    → new_checks (without_names table) content who r ≡ new_checks table content who r
new_checks_unnamed table content who r =
    ap (λ cs. argument_checks content who r.args ++ cs)
    (ap (λ o. check no_contract (is_none o) ∷ check not_main (is_not_main (without_names table) r.contract) ∷ found_checks
    (without_names table) content (entry_of_new (without_names table) who r)) (named_unnamed table r.contract)
    ∙ ap (λ b. check no_contract (is_no_contract table r.contract) ∷ check not_main b ∷ found_checks
    (without_names table) content (entry_of_new (without_names table) who r)) (main_unnamed table r.contract)
    ∙ ap (λ cs. check no_contract (is_no_contract table r.contract) ∷ check not_main (is_not_main table r.contract) ∷ cs)
    (ap (found_checks (without_names table) content) (entry_new_unnamed table who r)
    ∙ found_checks_unnamed table content (entry_of_new table who r)))

none_unnamed : (found : Option Entry) → is_no_transaction (option_map entry_without_names found) ≡ is_no_transaction found
none_unnamed None = refl
none_unnamed (Some e) = refl

pub call_checks_unnamed : (table : ClassTable) (content : Content) (who : List ℕ) (r : CallRequest)
    → call_checks (without_names table) content who r ≡ call_checks table content who r
call_checks_unnamed table content who r =
    ap (λ cs. handle_check content (handle_name who r.on) ∷ argument_checks content who r.args ++ cs)
    (ap (λ found. check no_transaction (is_no_transaction found) ∷ found_checks (without_names table) content found)
    (entry_call_unnamed table content who r)
    ∙ ap (λ b. check no_transaction b ∷ found_checks (without_names table) content (option_map entry_without_names found))
    (none_unnamed found)
    ∙ ap (λ cs. check no_transaction (is_no_transaction found) ∷ cs) (found_checks_unnamed table content found))
  where
    found : Option Entry
    found = entry_of_call table content who r
