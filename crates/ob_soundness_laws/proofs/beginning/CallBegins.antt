-- A call of an object from outside begins coherently, or aborts.
use Rattle.std.proofs.Common.{◌≡◌, ◌≢◌, ℕ, zero, suc, ◌<◌, Bool, true, false, not, List, [], ◌∷◌, map, length, Option, Some, None, refl, sym, ap, subst, ◌∙◌, arith, ⊎_elim, inr, true≢false, eq-eqb}
use Rattle.std.specs.Prelude.{◌==◌, slice_get, position, bytes_eq, option_map, if◌then◌else◌}
use Rattle.std.specs.List.{list_any, list_all}
use Rattle.std.proofs.lemmas.Bool.{cases_Bool, or_parts, and_parts, cond-true}
use Rattle.std.proofs.lemmas.List.Quantifiers.{position-Some}
use Rattle.std.proofs.lemmas.Option.{same_Some, get_or_from_slice_get}
use Rattle.ob_base.specs.Optional.{◌>>=◌, where_true}
use Rattle.ob_base.specs.declared.id.ContractId.{ContractId}
use Rattle.ob_base.specs.declared.id.TxId.{TxId}
use Rattle.ob_table.specs.Tables.{ClassTable, contract_at, signature_at}
use Rattle.ob_table.specs.declared.contract.Contract.{Contract}
use Rattle.ob_table.specs.declared.contract.Signature.{Signature}
use Rattle.ob_table.specs.declared.seen.Kind.TheVariants.{Reference}
use Rattle.ob_table_spec.specs.WellFormed.{serves_as}
use Rattle.ob_heap_spec.specs.Values.{Value, reference, nothing}
use Rattle.ob_heap_spec.specs.Objects.{Object}
use Rattle.ob_heap_spec.specs.Contents.{Handle, Content, IsObjectOf, IsObject, object_at}
use Rattle.ob_heap_spec.specs.Worlds.{World, first_world, with_unit_taken, read_object}
use Rattle.ob_heap_spec.specs.Marks.{is_among, enter}
use Rattle.ob_heap_spec.specs.Dispatch.{transaction_named, implements_it}
use Rattle.ob_heap_spec.specs.Handles.{handle_at}
use Rattle.ob_silica_places.specs.Parameters.{parameters, this_parameter}
use Rattle.ob_silica_steps.specs.Configurations.{SilicaProgram, SlotCells, by_receiver, Notes, NextStep}
use Rattle.ob_silica_steps.specs.Here.{if_there, with_fuel_left, with_unit}
use Rattle.ob_silica_steps.specs.Entering.{calls_object}
use Rattle.ob_silica_steps.specs.Starting.{first_notes, pass_all, alone, started_call}
use Rattle.ob_places_laws.proofs.Conversions.{serves_itself}
use Rattle.ob_places_laws.proofs.Tables.{each_at, there_so, contract_is, signature_from, constructor_is, transaction_is}
use Rattle.ob_coherent_spec.specs.Counting.{nth_object}
use Rattle.ob_coherent_spec.specs.Runs.{times, locks_entry}
use Rattle.ob_coherent_spec.specs.Remaining.{IsCheckedProgram}
use Rattle.ob_coherent_spec.specs.Coherent.{Beginning, running, StepsSo}
use Rattle.ob_soundness_laws.proofs.counting.Marking.{read_objects, read_keeps}
use Rattle.ob_soundness_laws.proofs.counting.Objects.{object_there, object_found}
use Rattle.ob_soundness_laws.proofs.counting.Passing.{passed_slots, passed_world, passes, passed_keeps}
use Rattle.ob_soundness_laws.proofs.calls.Stepping.{call_enters}
use Rattle.ob_rest_spec.specs.AtRest.{IsStoreAtRest}
use Rattle.ob_invocation_spec.specs.Requests.{CallRequest}
use Rattle.ob_invocation_spec.specs.Handles.{handle_name}
use Rattle.ob_invocation_spec.specs.Entries.{HandleUse, Entry, mode_of_result, entry_of_call, values_of, used_as_receiver, handle_uses}
use Rattle.ob_invocation_spec.specs.Checks.{refusal_of}
use Rattle.ob_invocation_spec.specs.Refusals.{entry_checks, use_serves, receiver_serves, is_repeated}
use Rattle.ob_invocation_spec.specs.Entering.{is_outside_use, first_outside_use, is_locked_at_entry, with_entry_lock, entry_world}
use Rattle.ob_soundness_laws.specs.beginning.Uses.{sharing_uses, AreUses}
use Rattle.ob_invocation_laws.specs.Laws.{puts_of_uses}
use Rattle.ob_soundness_laws.specs.Requests.{note_in_run, entry_lock}
use Rattle.ob_soundness_laws.specs.beginning.Marked.{AreMarked}
use Rattle.ob_soundness_laws.specs.beginning.Starts.{call_beginning, CallStarts}
use Rattle.ob_soundness_laws.specs.beginning.Passed.{ArePassed, uses_in}
use Rattle.ob_soundness_laws.proofs.beginning.Lists.{find_none}
use Rattle.ob_soundness_laws.proofs.beginning.Passed.{passed_many, passed_newly, passed_marks, passed_marked}
use Rattle.ob_soundness_laws.proofs.beginning.Checked.{IsAllowed, allowed, uses_for, uses_are, args_passed, arguments_used, receiver_used}
use Rattle.ob_soundness_laws.proofs.beginning.Whole.{sharing_there}
use Rattle.ob_soundness_laws.proofs.beginning.Call.{begins, within, called_runs}

-- Where units are left, one is taken.
pub unit_so : (table : ClassTable) (entry : Option ℕ) (beginning : Beginning) (fuel : ℕ) (w : World)
    (go : World → NextStep)
    → ((m : ℕ) → StepsSo table entry beginning (go (with_unit_taken w m)))
    → StepsSo table entry beginning (with_fuel_left fuel w go)
unit_so table entry beginning zero w go so = tt
unit_so table entry beginning (suc m) w go so = so m

-- The world at the entry.

module _ (content : Content) (fuel : ℕ) where
  pub world_objects : (u : Option HandleUse) → (with_entry_lock u (first_world content.objects fuel)).objects
      ≡ content.objects
  world_objects None = refl
  world_objects (Some u) = ⊎_elim (λ e. rw e refl) (λ e. rw e refl) (cases_Bool (is_locked_at_entry u))

  pub world_progress : (u : Option HandleUse) → (with_entry_lock u (first_world content.objects fuel)).progress ≡ []
  world_progress None = refl
  world_progress (Some u) = ⊎_elim (λ e. rw e refl) (λ e. rw e refl) (cases_Bool (is_locked_at_entry u))

  pub world_locked : (u : Option HandleUse) (m : ℕ) → locks_entry (entry_lock u) m
      ≡ times m (with_entry_lock u (first_world content.objects fuel)).locked
  world_locked None m = refl
  world_locked (Some u) m = ⊎_elim
      (λ e. rw e (omega arith))
      (λ e. rw e refl)
      (cases_Bool (is_locked_at_entry u))

-- A call of an object from outside, whose values are passed by uses that serve.
module _ (program : SilicaProgram) (is : IsCheckedProgram program) (content : Content)
    (rest : IsStoreAtRest program.table content) (u : HandleUse) (entry : Option ℕ)
    (entry_is : entry_lock (Some u) ≡ entry)
    (n : ℕ) (there : n < length content.objects) (contract : ContractId) (tx : TxId) (own : Contract) (s : Signature)
    (args : List Value) (xs : List (Option HandleUse))
    (passed : ArePassed program.table content.objects (reference n ∷ args) (this_parameter contract s ∷ parameters s)
    xs)
    (uses : AreUses program.table content entry (uses_in xs))
    (once : list_any (is_repeated (uses_in xs)) (uses_in xs) ≡ false)
    (contract_is : (nth_object content.objects n).contract ≡ contract)
    (ec : contract_at program.table contract ≡ Some own) (class : own.interface ≡ false)
    (es : signature_at own tx ≡ Some s) (no_constructor : tx.0 ≢ 0) (no_list : s.listed ≡ []) (fuel : ℕ) where
  abbrev w0 : World
  w0 = with_entry_lock (Some u) (first_world content.objects fuel)

  abbrev w1 : World
  w1 = passed_world (reference n ∷ args) (this_parameter contract s ∷ parameters s) w0

  abbrev notes : Notes
  notes = first_notes program.table content.objects (map (note_in_run (puts_of_uses (uses_in xs))) content.handles)

  abbrev slots : SlotCells
  slots = passed_slots (reference n ∷ args) 0 (this_parameter contract s ∷ parameters s) nothing

  abbrev begun_with : Beginning
  begun_with = record { contract = contract; tx = tx; how = by_receiver; from = 0; values = reference n ∷ args }

  marked_one : AreMarked content.objects w1.objects
  marked_one = passed_marked (reference n ∷ args) (this_parameter contract s ∷ parameters s) w0 content.objects
      (world_objects content fuel (Some u))

  module _ (m : ℕ) where
    abbrev x : World
    x = with_unit_taken w1 m

    abbrev w : World
    w = enter n (read_object x n)

    same : w.objects ≡ w1.objects
    same = read_objects x n

    more : AreMarked content.objects w.objects
    more = subst (AreMarked content.objects) (sym same) marked_one

    newly : (i : ℕ) → (nth_object content.objects i).shared ≡ false → (nth_object w.objects i).shared ≡ true
        → 0 < sharing_uses i (uses_in xs)
    newly i before after = passed_newly program.table content.objects i (reference n ∷ args)
        (this_parameter contract s ∷ parameters s) xs w0 passed
        (ap (λ os. (nth_object os i).shared) (world_objects content fuel (Some u)) ∙ before)
        (ap (λ os. (nth_object os i).shared) (sym same) ∙ after)

    marks : (i : ℕ) → 0 < sharing_uses i (uses_in xs) → (nth_object w.objects i).shared ≡ true
    marks i some = ap (λ os. (nth_object os i).shared) same
        ∙ passed_marks program.table content.objects i (reference n ∷ args) (this_parameter contract s ∷ parameters s)
        xs w0
        passed (subst (λ os. i < length os) (sym (world_objects content fuel (Some u)))
        (sharing_there program.table content entry (uses_in xs) uses i some)) some

    locked : (i : ℕ) → locks_entry entry i ≡ times i w.locked
    locked i = ap (λ o. locks_entry o i) (sym entry_is) ∙ world_locked content fuel (Some u) i
        ∙ ap (times i) (sym ((read_keeps x n).locked
        ∙ (passed_keeps (reference n ∷ args) (this_parameter contract s ∷ parameters s) w0).locked))

    quiet : (read_object x n).progress ≡ []
    quiet = (read_keeps x n).progress
        ∙ (passed_keeps (reference n ∷ args) (this_parameter contract s ∷ parameters s) w0).progress
        ∙ world_progress content fuel (Some u)

    contract_now : (nth_object w.objects n).contract ≡ contract
    contract_now = more.contract n ∙ contract_is

    enters_so : StepsSo program.table entry begun_with (calls_object program (alone slots notes x) contract tx s n)
    enters_so = subst (StepsSo program.table entry begun_with)
        (sym (call_enters program (alone slots notes x) contract tx s n (nth_object w.objects n) own tx s
        (begins program is content rest entry n there contract tx own s args xs passed uses once contract_is ec class es
        no_constructor no_list w more newly marks locked (ap (λ ns. n ∷ ns) quiet)).terms
        (ap (is_among n) quiet)
        (object_there w.objects n (let e = more.count in omega (arith, e, there)))
        (ap (contract_at program.table) contract_now ∙ ec)
        (cond-true (contract.0 == (nth_object w.objects n).contract.0) (Some tx)
        (if implements_it contract own then transaction_named own s.name else None)
        (eq-eqb contract.0 (nth_object w.objects n).contract.0 (ap (λ (c : ContractId). c.0) (sym contract_now))))
        es
        (within program is content rest entry n there contract tx own s args xs passed uses once contract_is ec class es
        no_constructor no_list w more newly marks locked (ap (λ ns. n ∷ ns) quiet))
        (begins program is content rest entry n there contract tx own s args xs passed uses once contract_is ec class es
        no_constructor no_list w more newly marks locked (ap (λ ns. n ∷ ns) quiet)).found))
        (running (called_runs program is content rest entry n there contract tx own s args xs passed uses once
        contract_is ec
        class es no_constructor no_list w more newly marks locked (ap (λ ns. n ∷ ns) quiet)))

  pub call_starts : StepsSo program.table entry begun_with (started_call program contract tx n args
      (first_notes program.table content.objects (map (note_in_run (puts_of_uses (uses_in xs))) content.handles))
      (with_entry_lock (Some u) (first_world content.objects fuel)))
  call_starts = subst (StepsSo program.table entry begun_with)
      (sym (ap (λ o. if_there o (λ (s : Signature).
      pass_all (reference n ∷ args) 0 (this_parameter contract s ∷ parameters s) nothing w0 (λ slots v.
      with_unit v (λ x. calls_object program (alone slots notes x) contract tx s n))))
      (signature_from program.table contract tx own ec ∙ es)
      ∙ passes (reference n ∷ args) 0 (this_parameter contract s ∷ parameters s) nothing w0 (λ slots v.
      with_unit v (λ x. calls_object program (alone slots notes x) contract tx s n))
      (passed_many program.table content.objects (reference n ∷ args) (this_parameter contract s ∷ parameters s) xs
      passed)))
      (unit_so program.table entry begun_with w1.fuel w1
      (λ x. calls_object program (alone slots notes x) contract tx s n) enters_so)

-- What a call enters.

pub found_then : {A B : Type 0} (o : Option A) (f : A → Option B) (y : B) → (o >>= f) ≡ Some y
    → (x : A) × (o ≡ Some x) × (f x ≡ Some y)
found_then None f y e = absurd (cc)
found_then (Some x) f y e = (x, refl, e)

where_then : {A : Type 0} (b : Bool) (x y : A) → where_true b x ≡ Some y → (b ≡ true) × (x ≡ y)
where_then true x y e = (refl, same_Some x y e)
where_then false x y e = absurd (cc)

not_true : (b : Bool) → not b ≡ true → b ≡ false
not_true true e = absurd (true≢false (sym e))
not_true false e = refl

no_bytes : (xs : List ℕ) → bytes_eq xs [] ≡ true → xs ≡ []
no_bytes [] e = refl
no_bytes (x ∷ xs) e = absurd (true≢false (sym e))

-- a transaction of a name isn't the constructor
named_is : (table : ClassTable) (is : Rattle.ob_table_spec.specs.Conditions.IsClassTable table) (id : ContractId)
    (own : Contract)
    (name : List ℕ) (tx : TxId) (s : Signature) → contract_at table id ≡ Some own → own.interface ≡ false → name ≢ []
    → transaction_named own name ≡ Some tx → signature_at own tx ≡ Some s → tx.0 ≢ 0
named_is table is id own name tx s ec class some found es zero_is =
    some (no_bytes name
    (ap (bytes_eq name) (sym made.name)
    ∙ by_place (position (λ (z : Signature). bytes_eq name z.name) own.transactions) refl))
  where
    made : Rattle.ob_table_spec.specs.Conditions.IsConstructor table own s
    made = constructor_is table own (contract_is table is id own ec) class tx s zero_is es

    by_place : (o : Option ℕ) → position (λ (z : Signature). bytes_eq name z.name) own.transactions ≡ o
        → bytes_eq name s.name ≡ true
    by_place None i = absurd (let z : None ≡ Some tx = sym (ap (option_map (λ n. record { 0 = n })) i) ∙ found in cc)
    by_place (Some k) i =
        let same : record { 0 = k } ≡ tx = same_Some (record { 0 = k }) tx
        (sym (ap (option_map (λ n. record { 0 = n })) i) ∙ found) in
        let at_k : slice_get own.transactions k ≡ Some s = ap (λ (t : TxId). slice_get own.transactions t.0) same
        ∙ es in
        let p = position-Some (λ (z : Signature). bytes_eq name z.name) own.transactions k s i in
        ap (λ (z : Signature). bytes_eq name z.name) (sym (get_or_from_slice_get own.transactions k s s at_k)) ∙ p.1

-- A call of a handle's object, by its parts.

-- what it enters
abbrev pub entered : List ℕ → CallRequest → Handle → Object → TxId → Signature → Entry
entered who r h o tx s = record {
  who = who;
  contract = o.contract;
  tx = tx;
  signature = s;
  receiver = Some (used_as_receiver (handle_name who r.on) h o.contract s);
  given = mode_of_result s.result;
  args = r.args;
  into = r.into;
}

module _ (program : SilicaProgram) (is : IsCheckedProgram program) (content : Content)
    (rest : IsStoreAtRest program.table content) (who : List ℕ) (r : CallRequest) (named : r.tx ≢ []) (h : Handle)
    (eh : handle_at content (handle_name who r.on) ≡ Some h) (o : Object)
    (eo : object_at content.objects h.object ≡ Some o)
    (own : Contract) (ec : contract_at program.table o.contract ≡ Some own) (tx : TxId)
    (et : transaction_named own r.tx ≡ Some tx) (s : Signature) (es : signature_at own tx ≡ Some s)
    (public : s.private ≡ false)
    (passed : refusal_of (entry_checks program.table content (entered who r h o tx s)) ≡ None)
    (inside : first_outside_use program.table content (entered who r h o tx s) ≡ None) where
  abbrev e : Entry
  e = entered who r h o tx s

  abbrev u : HandleUse
  u = used_as_receiver (handle_name who r.on) h o.contract s

  abbrev arg_uses : List (Option HandleUse)
  arg_uses = uses_for program.table content who s.params r.args

  abbrev xs : List (Option HandleUse)
  xs = Some u ∷ arg_uses

  ok : IsAllowed program.table content (entered who r h o tx s)
  ok = allowed program.table content (entered who r h o tx s) passed

  uses_same : handle_uses content (entered who r h o tx s) ≡ uses_in xs
  uses_same = ap (λ us. u ∷ us) (uses_are program.table content who s.params r.args)

  object_is : (h.object < length content.objects) × (nth_object content.objects h.object ≡ o)
  object_is = object_found content.objects h.object o eo

  class : own.interface ≡ false
  class = (there_so (contract_at program.table o.contract) (λ c. IsObjectOf content.objects c o) own ec
      (each_at (IsObject program.table content.objects) content.objects h.object o rest.is_content.objects eo)).contract

  other : tx.0 ≢ 0
  other = named_is program.table is.table o.contract own r.tx tx s ec class named et es

  no_list : s.listed ≡ []
  no_list = (transaction_is program.table own (contract_is program.table is.table o.contract own ec) tx s
      (inr other) es).private public

  all_passed : ArePassed program.table content.objects (reference h.object ∷ values_of content (entered who r h o tx s))
      (this_parameter o.contract s ∷ parameters s) xs
  all_passed = (
    (
      refl,
      refl,
      object_is.0,
      subst (λ (z : Object). serves_as program.table (Reference o.contract) (Reference z.contract) ≡ true)
          (sym object_is.1) (serves_itself program.table (Reference o.contract)),
    ),
    args_passed program.table content who s.params r.args ok.count ok.kinds,
  )

  outside : list_any (is_outside_use program.table content.objects) (uses_in xs) ≡ false
  outside = ap (list_any (is_outside_use program.table content.objects)) (sym uses_same)
      ∙ find_none (is_outside_use program.table content.objects) (handle_uses content (entered who r h o tx s)) inside

  used : AreUses program.table content (entry_lock (Some u)) (uses_in xs)
  used =
      let states = or_parts (is_outside_use program.table content.objects u)
      (list_any (is_outside_use program.table content.objects) (uses_in arg_uses)) outside in (
        receiver_used program.table content rest (entry_lock (Some u)) u eh
            (and_parts (receiver_serves u) true ok.receiver).0 states.0 refl,
        arguments_used program.table content rest (entry_lock (Some u)) who s.params r.args
            (ap (list_all use_serves) (sym (uses_are program.table content who s.params r.args)) ∙ ok.args) states.1,
      )

  once : list_any (is_repeated (uses_in xs)) (uses_in xs) ≡ false
  once = subst (λ us. list_any (is_repeated us) us ≡ false) uses_same ok.once

  pub parts_begin : (fuel : ℕ) → CallStarts program content fuel (entered who r h o tx s)
  parts_begin fuel = (
    u,
    refl,
    subst (λ us. StepsSo program.table (entry_lock (Some u))
        (call_beginning content (entered who r h o tx s) h.object)
        (started_call program o.contract tx h.object (values_of content (entered who r h o tx s))
        (first_notes program.table content.objects (map (note_in_run (puts_of_uses us)) content.handles))
        (entry_world content fuel (entered who r h o tx s)))) (sym uses_same)
        (call_starts program is content rest u (entry_lock (Some u)) refl h.object object_is.0 o.contract tx own s
        (values_of content (entered who r h o tx s)) xs all_passed used once
        (ap (λ (z : Object). z.contract) object_is.1) ec class es other no_list fuel),
  )

-- A call that is found, isn't refused and passes the entry test begins coherently, or aborts.
pub call_begins : (program : SilicaProgram) → IsCheckedProgram program → (content : Content)
    → IsStoreAtRest program.table content → (who : List ℕ) (r : CallRequest) (e : Entry) → r.tx ≢ []
    → entry_of_call program.table content who r ≡ Some e → refusal_of (entry_checks program.table content e) ≡ None
    → first_outside_use program.table content e ≡ None → (fuel : ℕ) → CallStarts program content fuel e
call_begins program is content rest who r e named found =
    let one = found_then (handle_at content (handle_name who r.on)) (λ h.
    object_at content.objects h.object >>= λ o.
    contract_at program.table o.contract >>= λ own.
    transaction_named own r.tx >>= λ tx.
    signature_at own tx >>= λ s.
    where_true (not s.private) (entered who r h o tx s)) e found in
    let two = found_then (object_at content.objects one.0.object) (λ o.
    contract_at program.table o.contract >>= λ own.
    transaction_named own r.tx >>= λ tx.
    signature_at own tx >>= λ s.
    where_true (not s.private) (entered who r one.0 o tx s)) e one.2 in
    let three = found_then (contract_at program.table two.0.contract) (λ own.
    transaction_named own r.tx >>= λ tx.
    signature_at own tx >>= λ s.
    where_true (not s.private) (entered who r one.0 two.0 tx s)) e two.2 in
    let four = found_then (transaction_named three.0 r.tx) (λ tx.
    signature_at three.0 tx >>= λ s.
    where_true (not s.private) (entered who r one.0 two.0 tx s)) e three.2 in
    let five = found_then (signature_at three.0 four.0) (λ s.
    where_true (not s.private) (entered who r one.0 two.0 four.0 s)) e four.2 in
    let six = where_then (not five.0.private) (entered who r one.0 two.0 four.0 five.0) e five.2 in
    from_parts one.0 one.1 two.0 two.1 three.0 three.1 four.0 four.1 five.0 five.1 six.0 six.1
  where
    from_parts : (h : Handle) → handle_at content (handle_name who r.on) ≡ Some h → (o : Object)
        → object_at content.objects h.object ≡ Some o → (own : Contract) → contract_at program.table o.contract ≡ Some own
        → (tx : TxId) → transaction_named own r.tx ≡ Some tx → (s : Signature) → signature_at own tx ≡ Some s
        → not s.private ≡ true → entered who r h o tx s ≡ e
        → refusal_of (entry_checks program.table content e) ≡ None → first_outside_use program.table content e ≡ None
        → (fuel : ℕ) → CallStarts program content fuel e
    from_parts h eh o eo own ec tx et s es public same =
        subst (λ (e : Entry). refusal_of (entry_checks program.table content e) ≡ None
        → first_outside_use program.table content e ≡ None → (fuel : ℕ) → CallStarts program content fuel e) same
        (parts_begin program is content rest who r named h eh o eo own ec tx et s es (not_true s.private public))
