-- Checks, one after another.
use Rattle.std.proofs.Common.{◌≡◌, ℕ, Bool, true, false, List, [], ◌∷◌, ◌++◌, map, Option, Some, refl, ap, ◌∙◌, append-nil}
use Rattle.std.specs.Prelude.{◌||◌, is_none, option_map, if◌then◌else◌}
use Rattle.std.specs.List.{list_any}
use Rattle.ob_heap_spec.specs.Contents.{Content}
use Rattle.ob_table.specs.Tables.{ClassTable}
use Rattle.ob_invocation_spec.specs.Checks.{Check, check, refusal_of}
use Rattle.ob_invocation_spec.specs.Entries.{Entry, entry_of_new, entry_of_call}
use Rattle.ob_invocation_spec.specs.Handles.{handle_name}
use Rattle.ob_invocation_spec.specs.Refusals.{is_no_handle, argument_checks, is_no_contract, is_not_main, has_other_count, has_other_kind, lacks_permission, entry_checks, found_checks, new_checks, call_checks}
use Rattle.ob_invocation_spec.specs.Replies.{no_handle, no_contract, not_main, no_transaction, arg_count, arg_kind, permission}
use Rattle.ob_wire.specs.Meanings.{argument_meant}
use Rattle.ob_wire.specs.declared.request.Arg.{Arg}
use Rattle.ob_wire.specs.declared.request.Arg.TheVariants as arg
use Rattle.ob_wire.specs.Refusals.{refusal_told}
use Rattle.ob_exec_entries.specs.Arguments.{names_no_handle}
use Rattle.ob_exec_entries.specs.Entering.{use_of, EntersSo, IsRefusedBy}
use Rattle.ob_exec_entries.specs.Later.{later_checks}
use Rattle.ob_exec_entries.specs.declared.entered.Entered.{Entered}
use Rattle.ob_exec_entries.specs.declared.entered.EnterError.{EnterError}
use Rattle.ob_exec_entries.specs.declared.entered.EnterError.TheVariants.{Refused, Memory}

either_first : {A : Type 0} (b c : Bool) (x : A) (o : Option A) → (if b then Some x else if c then Some x else o) ≡ (if b || c then Some x else o)
either_first true c x o = refl
either_first false c x o = refl

pub held : (c : Check) (cs : List Check) → c.holds ≡ true → refusal_of (c ∷ cs) ≡ Some c.refusal
held c cs h = ap (λ (b : Bool). if b then Some c.refusal else refusal_of cs) h

pub passed : (c : Check) (cs : List Check) → c.holds ≡ false → refusal_of (c ∷ cs) ≡ refusal_of cs
passed c cs h = ap (λ (b : Bool). if b then Some c.refusal else refusal_of cs) h

-- arguments are refused where one of them names a handle that isn't there, and else the next checks decide
pub handles_first : (content : Content) (who : List ℕ) (args : List Arg) (cs : List Check)
    → refusal_of (argument_checks content who (map argument_meant args) ++ cs)
    ≡ (if list_any (names_no_handle content who) args then Some no_handle else refusal_of cs)
handles_first content who [] cs = refl
handles_first content who (arg.Int z ∷ args) cs = handles_first content who args cs
handles_first content who (arg.Bool b ∷ args) cs = handles_first content who args cs
handles_first content who (arg.Text text ∷ args) cs = handles_first content who args cs
handles_first content who (arg.Other ∷ args) cs = handles_first content who args cs
handles_first content who (arg.Handle name ∷ args) cs =
    ap (λ r. if names_no_handle content who (arg.Handle name) then Some no_handle else r) (handles_first content who args cs)
    ∙ either_first (names_no_handle content who (arg.Handle name)) (list_any (names_no_handle content who) args) no_handle (refusal_of cs)

-- the checks of what is found are those of the entry
pub found_some : (table : ClassTable) (content : Content) (found : Option Entry) (e : Entry) → found ≡ Some e
    → refusal_of (found_checks table content found) ≡ refusal_of (entry_checks table content e)
found_some table content found e h =
    ap (λ (f : Option Entry). refusal_of (found_checks table content f)) h ∙ ap refusal_of (append-nil (entry_checks table content e))

pub call_refusal : (table : ClassTable) (content : Content) (who on name : List ℕ) (args : List Arg) (into : Option (List ℕ))
    → refusal_of (call_checks table content who (record { on = on; tx = name; args = map argument_meant args; into = into }))
    ≡ (if is_no_handle content (handle_name who on) || list_any (names_no_handle content who) args then Some no_handle
    else if is_none (entry_of_call table content who (record { on = on; tx = name; args = map argument_meant args; into = into })) then Some no_transaction
    else refusal_of (found_checks table content (entry_of_call table content who (record { on = on; tx = name; args = map argument_meant args; into = into }))))
call_refusal table content who on name args into =
    let found = entry_of_call table content who (record { on = on; tx = name; args = map argument_meant args; into = into }) in
    let rest = check no_transaction (is_none found) ∷ found_checks table content found in
    ap (λ r. if is_no_handle content (handle_name who on) then Some no_handle else r) (handles_first content who args rest)
    ∙ either_first (is_no_handle content (handle_name who on)) (list_any (names_no_handle content who) args) no_handle (refusal_of rest)

pub new_refusal : (table : ClassTable) (content : Content) (who name : List ℕ) (args : List Arg) (into : Option (List ℕ))
    → refusal_of (new_checks table content who (record { contract = name; args = map argument_meant args; into = into }))
    ≡ (if list_any (names_no_handle content who) args then Some no_handle
    else if is_no_contract table name then Some no_contract
    else if is_not_main table name then Some not_main
    else refusal_of (found_checks table content (entry_of_new table who (record { contract = name; args = map argument_meant args; into = into }))))
new_refusal table content who name args into =
    let found = entry_of_new table who (record { contract = name; args = map argument_meant args; into = into }) in
    handles_first content who args
    (check no_contract (is_no_contract table name) ∷ check not_main (is_not_main table name) ∷ found_checks table content found)

-- What holds of checks holds of others that come to the same.

pub enters_alike : (content : Content) (cs ds : List Check) (found same : Option Entry) (who whose : List ℕ) (entered : Entered)
    → refusal_of ds ≡ refusal_of cs → same ≡ found → whose ≡ who → EntersSo content cs found who entered → EntersSo content ds same whose entered
enters_alike content cs ds found same who whose entered e f g h = record {
  entry = h.entry;
  is = f ∙ h.is;
  passed = e ∙ h.passed;
  machine = h.machine;
  uses = ap (λ (w : List ℕ). map (use_of w) entered.uses) g ∙ h.uses;
  given = h.given;
}

pub refused_alike : (cs ds : List Check) (err : EnterError) → refusal_of ds ≡ refusal_of cs → IsRefusedBy cs err → IsRefusedBy ds err
refused_alike cs ds (Refused r) e h = ap (option_map refusal_told) e ∙ h
refused_alike cs ds Memory e h = tt

-- The checks of the arguments come first.

pub refused_count : (table : ClassTable) (content : Content) (e : Entry) → has_other_count e ≡ true
    → refusal_of (entry_checks table content e) ≡ Some arg_count
refused_count table content e h =
    held (check arg_count (has_other_count e))
    (check arg_kind (has_other_kind table content e) ∷ check permission (lacks_permission content e) ∷ later_checks content e) h

after_count : (table : ClassTable) (content : Content) (e : Entry) → has_other_count e ≡ false
    → refusal_of (entry_checks table content e)
    ≡ refusal_of (check arg_kind (has_other_kind table content e) ∷ check permission (lacks_permission content e) ∷ later_checks content e)
after_count table content e h =
    passed (check arg_count (has_other_count e))
    (check arg_kind (has_other_kind table content e) ∷ check permission (lacks_permission content e) ∷ later_checks content e) h

pub refused_kind : (table : ClassTable) (content : Content) (e : Entry) → has_other_count e ≡ false → has_other_kind table content e ≡ true
    → refusal_of (entry_checks table content e) ≡ Some arg_kind
refused_kind table content e g h =
    after_count table content e g
    ∙ held (check arg_kind (has_other_kind table content e)) (check permission (lacks_permission content e) ∷ later_checks content e) h

after_kind : (table : ClassTable) (content : Content) (e : Entry) → has_other_count e ≡ false → has_other_kind table content e ≡ false
    → refusal_of (entry_checks table content e) ≡ refusal_of (check permission (lacks_permission content e) ∷ later_checks content e)
after_kind table content e g h =
    after_count table content e g
    ∙ passed (check arg_kind (has_other_kind table content e)) (check permission (lacks_permission content e) ∷ later_checks content e) h

pub refused_permission : (table : ClassTable) (content : Content) (e : Entry) → has_other_count e ≡ false → has_other_kind table content e ≡ false
    → lacks_permission content e ≡ true → refusal_of (entry_checks table content e) ≡ Some permission
refused_permission table content e f g h =
    after_kind table content e f g ∙ held (check permission (lacks_permission content e)) (later_checks content e) h

pub passed_arguments : (table : ClassTable) (content : Content) (e : Entry) → has_other_count e ≡ false → has_other_kind table content e ≡ false
    → lacks_permission content e ≡ false → refusal_of (entry_checks table content e) ≡ refusal_of (later_checks content e)
passed_arguments table content e f g h =
    after_kind table content e f g ∙ passed (check permission (lacks_permission content e)) (later_checks content e) h
