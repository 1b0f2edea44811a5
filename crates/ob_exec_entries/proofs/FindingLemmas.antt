-- What a request enters, found step by step.
use Rattle.std.proofs.Common.{◌≡◌, ℕ, List, map, Option, Some, None, refl, sym, ap, ◌∙◌}
use Rattle.std.specs.Prelude.{option_map}
use Rattle.std.specs.Option.{option_and_then}
use Rattle.ob_base.specs.Optional.{◌>>=◌}
use Rattle.ob_base.specs.declared.id.ContractId.{ContractId}
use Rattle.ob_base.specs.declared.id.TxId.{TxId}
use Rattle.ob_table.specs.Tables.{ClassTable, contract_at, signature_at, signature_of}
use Rattle.ob_table.specs.declared.contract.Contract.{Contract}
use Rattle.ob_table.specs.declared.contract.Signature.{Signature}
use Rattle.ob_table_spec.specs.WellFormed.{constructor_at}
use Rattle.ob_code.specs.declared.image.Image.{Image}
use Rattle.ob_heap_spec.specs.Contents.{Content, Handle, object_at}
use Rattle.ob_heap_spec.specs.Dispatch.{transaction_named}
use Rattle.ob_heap_spec.specs.Objects.{Object}
use Rattle.ob_heap_spec.specs.Handles.{handle_at}
use Rattle.ob_invocation_spec.specs.Entries.{Entry, entry_of_new, entry_of_call}
use Rattle.ob_invocation_spec.specs.Handles.{handle_name}
use Rattle.ob_code_table.specs.ImageTables.{table_of_image}
use Rattle.ob_wire.specs.Meanings.{argument_meant}
use Rattle.ob_wire.specs.declared.request.Arg.{Arg}
use Rattle.ob_exec_entries.specs.Naming.{IsNamesOf, contract_in, transaction_in}
use Rattle.ob_exec_entries.specs.Targets.{made, called, made_by, called_by}
use Rattle.ob_exec_entries.specs.declared.names.Names.{Names}

-- the transaction of a name of a contract, with what follows
named_then : (table : ClassTable) (id : ContractId) (name : List ℕ) (go : TxId → Signature → Option Entry)
    → (contract_at table id >>= λ (own : Contract). transaction_named own name >>= λ tx. signature_at own tx >>= λ s. go tx s)
    ≡ ((contract_at table id >>= λ (own : Contract). transaction_named own name) >>= λ tx. signature_of table id tx >>= λ s. go tx s)
named_then table id name go = by (contract_at table id)
  where
    by : (c : Option Contract) → (c >>= λ (own : Contract). transaction_named own name >>= λ tx. signature_at own tx >>= λ s. go tx s)
        ≡ ((c >>= λ (own : Contract). transaction_named own name) >>= λ tx. option_and_then (λ (k : Contract). signature_at k tx) c >>= λ s. go tx s)
    by None = refl
    by (Some own) = refl

pub call_found : (image : Image) (names : Names) (content : Content) (who on name : List ℕ) (args : List Arg) (into : Option (List ℕ)) → IsNamesOf names image
    → entry_of_call (table_of_image image) content who (record { on = on; tx = name; args = map argument_meant args; into = into })
    ≡ (handle_at content (handle_name who on) >>= λ h. option_map (λ (o : Object). o.contract) (object_at content.objects h.object) >>= λ id.
    transaction_in names id name >>= λ tx. called_by (table_of_image image) who id tx on h args into)
call_found image names content who on name args into of = by (handle_at content (handle_name who on))
  where
    on_object : (h : Handle) (o : Option Object)
        → (o >>= λ (k : Object). contract_at (table_of_image image) k.contract >>= λ (own : Contract). transaction_named own name >>= λ tx.
        signature_at own tx >>= λ s. called who k.contract tx s on h args into)
        ≡ (option_map (λ (k : Object). k.contract) o >>= λ id. transaction_in names id name >>= λ tx. signature_of (table_of_image image) id tx >>= λ s. called who id tx s on h args into)
    on_object h None = refl
    on_object h (Some k) = named_then (table_of_image image) k.contract name (λ tx s. called who k.contract tx s on h args into)
        ∙ ap (λ (t : Option TxId). t >>= λ tx. signature_of (table_of_image image) k.contract tx >>= λ s. called who k.contract tx s on h args into)
        (sym (of.transaction k.contract name))

    by : (h : Option Handle)
        → (h >>= λ (k : Handle). object_at content.objects k.object >>= λ (o : Object). contract_at (table_of_image image) o.contract >>= λ (own : Contract).
        transaction_named own name >>= λ tx. signature_at own tx >>= λ s. called who o.contract tx s on k args into)
        ≡ (h >>= λ (k : Handle). option_map (λ (o : Object). o.contract) (object_at content.objects k.object) >>= λ id. transaction_in names id name >>= λ tx.
        signature_of (table_of_image image) id tx >>= λ s. called who id tx s on k args into)
    by None = refl
    by (Some k) = on_object k (object_at content.objects k.object)

pub new_found : (image : Image) (names : Names) (who name : List ℕ) (args : List Arg) (into : Option (List ℕ)) → IsNamesOf names image
    → entry_of_new (table_of_image image) who (record { contract = name; args = map argument_meant args; into = into })
    ≡ (contract_in names name >>= λ id. made_by (table_of_image image) who id args into)
new_found image names who name args into of =
    ap (λ (c : Option ContractId). c >>= λ id. constructor_at (table_of_image image) id >>= λ s. Some (made who id s args into)) (sym (of.contract name))
