-- What is asked of what a request would enter, as the code has it.
use Rattle.std.proofs.Common.{◌≡◌, ℕ, Bool, false, List, map, Option, sym, ap, ◌∙◌, not}
use Rattle.std.specs.Prelude.{zip, filter_map, option_to_list, nat_eq, nat_lt, ◌&&◌, ◌||◌}
use Rattle.std.specs.List.{list_any, list_all}
use Rattle.ob_base.specs.declared.id.ContractId.{ContractId}
use Rattle.ob_base.specs.declared.id.TxId.{TxId}
use Rattle.ob_base.specs.declared.permission.Mode.{Mode}
use Rattle.ob_code.specs.declared.image.BodyCode.{BodyCode}
use Rattle.ob_code.specs.declared.image.ParamCode.{ParamCode}
use Rattle.ob_heap.specs.declared.object.Handle.{Handle}
use Rattle.ob_heap_spec.specs.Contents.{Content}
use Rattle.ob_invocation_spec.specs.Entries.{Entry, HandleUse as Use, use_of_argument, argument_uses, handle_uses}
use Rattle.ob_invocation_spec.specs.Refusals.{is_argument_for, has_other_kind, use_serves, receiver_serves, lacks_permission, is_repeated, repeats_object}
use Rattle.ob_code_table.specs.ImageTables.{param_of_code}
use Rattle.ob_rest_spec.specs.Modes.{is_owned}
use Rattle.ob_table.specs.Tables.{ClassTable}
use Rattle.ob_wire.specs.Meanings.{argument_meant}
use Rattle.ob_wire.specs.declared.request.Arg.{Arg}
use Rattle.ob_exec_entries.specs.Arguments.{uses_of}
use Rattle.ob_exec_entries.specs.Entering.{use_of}
use Rattle.ob_exec_entries.specs.Later.{is_served, is_used_twice}
use Rattle.ob_exec_entries.specs.Targets.{entry_seen}
use Rattle.ob_exec_entries.specs.declared.entered.HandleUse.{HandleUse}
use Rattle.ob_exec_entries.proofs.ArgumentLemmas.{any-map, all-map, any-alike, zip-map, filter_map-map, count-map}

-- whether an argument isn't of its parameter's type
abbrev pub is_other_kind : ClassTable → Content → List ℕ → ParamCode × Arg → Bool
is_other_kind table content who pair = not (is_argument_for table content who (param_of_code pair.0) (argument_meant pair.1))

pub other_kind_seen : (table : ClassTable) (content : Content) (who : List ℕ) (contract : ContractId) (tx : TxId) (b : BodyCode)
    (receiver : Option (List ℕ × Handle)) (given : Option Mode) (args : List Arg) (into : Option (List ℕ))
    → has_other_kind table content (entry_seen who contract tx b receiver given args into) ≡ list_any (is_other_kind table content who) (zip b.params args)
other_kind_seen table content who contract tx b receiver given args into =
    ap (list_any (λ pair. not (is_argument_for table content who pair.0 pair.1))) (zip-map param_of_code argument_meant b.params args)
    ∙ any-map (λ (pair : ParamCode × Arg). (param_of_code pair.0, argument_meant pair.1)) (λ pair. not (is_argument_for table content who pair.0 pair.1)) (zip b.params args)

pub uses_seen : (content : Content) (who : List ℕ) (contract : ContractId) (tx : TxId) (b : BodyCode)
    (receiver : Option (List ℕ × Handle)) (given : Option Mode) (args : List Arg) (into : Option (List ℕ))
    → argument_uses content (entry_seen who contract tx b receiver given args into) ≡ uses_of content who b.params args
uses_seen content who contract tx b receiver given args into =
    ap (filter_map (λ pair. use_of_argument content who pair.0 pair.1)) (zip-map param_of_code argument_meant b.params args)
    ∙ filter_map-map (λ (pair : ParamCode × Arg). (param_of_code pair.0, argument_meant pair.1)) (λ pair. use_of_argument content who pair.0 pair.1) (zip b.params args)

-- where the receiver's mode serves, the modes of the arguments decide
pub lacking : (content : Content) (e : Entry) (uses : List HandleUse) (r s : Bool) → r ≡ list_all receiver_serves (option_to_list e.receiver)
    → not r ≡ false → s ≡ list_all is_served uses → map (use_of e.who) uses ≡ argument_uses content e → not s ≡ lacks_permission content e
lacking content e uses r s f n g h =
    ap not (g ∙ sym (all-map (use_of e.who) use_serves uses)) ∙ ap (λ (us : List Use). not (list_all use_serves us)) h
    ∙ sym (ap (λ b. b || not (list_all use_serves (argument_uses content e))) (ap not (sym f) ∙ n))

-- an object is used twice by the code's uses as by those that they are
pub twice_seen : (content : Content) (e : Entry) (uses : List HandleUse) → map (use_of e.who) uses ≡ handle_uses content e
    → repeats_object content e ≡ list_any (is_used_twice uses) uses
twice_seen content e uses h =
    sym (ap (λ (us : List Use). list_any (is_repeated us) us) h)
    ∙ any-map (use_of e.who) (is_repeated (map (use_of e.who) uses)) uses
    ∙ any-alike (λ (u : HandleUse). is_repeated (map (use_of e.who) uses) (use_of e.who u)) (is_used_twice uses) uses
    (λ u. ap (λ n. is_owned u.entry.mode && nat_lt 1 n) (count-map (use_of e.who) (λ (v : Use). nat_eq v.handle.object u.handle.object.0) uses))
