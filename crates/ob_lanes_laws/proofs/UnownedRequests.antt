-- Requests don't look at the mark of a disowned object, but where it is shown.
use Rattle.std.proofs.Common.{◌≡◌, ℕ, zero, suc, ◌+◌, ◌<◌, ◌≤◌, Bool, true, false, List, [], ◌∷◌, ◌++◌, length, map, filter, Option, Some, None, refl, sym, ap, ◌∙◌, subst, arith}
use Rattle.std.specs.Prelude.{⊤, not, ◌||◌, nat_eq, zip, find, option_map, slice_get, if◌then◌else◌}
use Rattle.std.specs.Option.{option_map_or}
use Rattle.std.specs.List.{list_any}
use Rattle.ob_base.specs.Optional.{◌>>=◌, where_true}
use Rattle.ob_base.specs.declared.id.ContractId.{ContractId}
use Rattle.ob_base.specs.declared.id.TxId.{TxId}
use Rattle.ob_base.specs.declared.permission.Perm.{Perm}
use Rattle.ob_perm.specs.Permissions.{owns}
use Rattle.ob_perm.specs.Masks.{permission_of}
use Rattle.ob_table.specs.Tables.{ClassTable, contract_at, signature_at}
use Rattle.ob_table.specs.declared.contract.Contract.{Contract}
use Rattle.ob_table.specs.declared.contract.Field.{Field}
use Rattle.ob_table.specs.declared.contract.Param.{Param}
use Rattle.ob_table.specs.declared.contract.ResolvedType.{ResolvedType}
use Rattle.ob_table.specs.declared.contract.ResolvedType.TheVariants.{Int, Bool as BoolKind, Text, Reference}
use Rattle.ob_table.specs.declared.seen.Kind.TheVariants as kind
use Rattle.ob_table_spec.specs.WellFormed.{serves_as}
use Rattle.ob_heap_spec.specs.Dispatch.{transaction_named}
use Rattle.ob_heap_spec.specs.Values.{Value, int_value, bool_value, text_value, reference}
use Rattle.ob_heap_spec.specs.Objects.{Object, is_in_states}
use Rattle.ob_heap_spec.specs.Contents.{Handle, Content, object_at}
use Rattle.ob_heap_spec.specs.Worlds.{ReadItem, World, RunOutcome, gives, aborts, wrong, first_world}
use Rattle.ob_heap_spec.specs.Marks.{mark_shared, mark_disowned}
use Rattle.ob_heap_spec.specs.Handles.{NamedHandle, handle_at, put_handles, without_handle}
use Rattle.ob_source_laws.proofs.Marking.{follows_mark_disowned}
use Rattle.ob_rest_spec.specs.Incoming.{StorePlace, stored_field, stored_handle, IncomingReference, incoming_by_field, incoming_by_handle, handles_onto, owner_of, owners}
use Rattle.ob_rest_spec.specs.Modes.{is_owned, is_shared}
use Rattle.ob_rest_spec.specs.References.{FieldReference, field_references}
use Rattle.ob_rest_laws.specs.Laws.{AreMarkedFrom}
use Rattle.ob_rest_laws.proofs.Changing.{same_fields}
use Rattle.ob_invocation_spec.specs.Checks.{Check, check, refusal_of, reads_of, refused_or, unless_refused, with_found, left_as_it_was}
use Rattle.ob_invocation_spec.specs.Entering.{is_outside_use, first_outside_use, run_entry, puts_after}
use Rattle.ob_invocation_spec.specs.Entries.{HandleUse, Entry, mode_of_result, used_as_receiver, entry_of_new, entry_of_call, value_of, values_of, handle_uses}
use Rattle.ob_invocation_spec.specs.Handles.{handle_name, mark_put, mark_puts}
use Rattle.ob_invocation_spec.specs.Invocation.{done, done_with, still_world, disowned_world, ended, after_entry_test, enter_entry, puts_of_give, show_object, show_owner, show_owner_of}
use Rattle.ob_invocation_spec.specs.Refusals.{handle_check, argument_checks, is_no_contract, is_not_main, is_no_transaction, has_other_count, is_of_type, is_argument_for, lacks_permission, repeats_object, lacks_into, has_needless_into, into_checks, entry_checks, found_checks, new_checks, call_checks, give_checks}
use Rattle.ob_invocation_spec.specs.Replies.{ShownPlace, shown_field, Refusal, no_contract, not_main, no_transaction, arg_count, arg_kind, permission, repeated, into_missing, into_needless, Reply, ok_nothing, ok_shown, ok_place, Invocation, invoked, goes_wrong}
use Rattle.ob_invocation_spec.specs.Requests.{Argument, int_argument, bool_argument, text_argument, handle_argument, other_argument, Operation, new_request, call_request, disown_request, give_request, see_request, owner_request, NewRequest, CallRequest, Request}
use Rattle.ob_invocation_spec.specs.Showing.{shown_object, shown_place, place_item, reply_of_result}
use Rattle.ob_invocation_laws.proofs.Disowning.{as_they_are}
use Rattle.ob_invocation_laws.proofs.Marking.{same_length, puts_share}
use Rattle.ob_code.specs.declared.image.Image.{Image}
use Rattle.ob_code_table.specs.Images.{constructor_of}
use Rattle.ob_code_table.specs.ImageTables.{table_of_image}
use Rattle.ob_machine_meaning.specs.Meanings.{machine_meaning, machine_invocation, entry_of_request}
use Rattle.ob_machine_steps.specs.Outcomes.{entry_of_constructor, entry_outcome}
use Rattle.ob_lanes_laws.proofs.Blind.{is_same, mark_if, marked, marked_get, hold, if_world, shared_held, disowned_held}
use Rattle.ob_lanes_laws.proofs.UnownedRuns.{outcome_held, IsThere, started_held, started_there}

-- a content in which the object of a number has the mark
abbrev pub content_marked : ℕ → Content → Content
content_marked n c = record c { objects = marked n c.objects }

-- Objects that are looked up.

of_contract : (f : ContractId → Bool) (b : Bool) (x : Option Object) → option_map_or (λ (o : Object). f o.contract) (option_map (mark_if b) x) false ≡ option_map_or (λ (o : Object). f o.contract) x false
of_contract f b None = refl
of_contract f true (Some o) = refl
of_contract f false (Some o) = refl

of_state : (table : ClassTable) (k : ContractId) (p : Perm) (b : Bool) (x : Option Object) → option_map_or (is_in_states table k p) (option_map (mark_if b) x) false ≡ option_map_or (is_in_states table k p) x false
of_state table k p b None = refl
of_state table k p true (Some o) = refl
of_state table k p false (Some o) = refl

-- Arguments.

type_held : (n : ℕ) (table : ClassTable) (xs : List Object) (of : ResolvedType) (v : Value) → is_of_type table (marked n xs) of v ≡ is_of_type table xs of v
type_held n table xs (Reference declared p) (reference m) =
    ap (λ x. option_map_or (λ (o : Object). serves_as table (kind.Reference declared) (kind.Reference o.contract)) x false) (marked_get n m xs)
    ∙ of_contract (λ k. serves_as table (kind.Reference declared) (kind.Reference k)) (is_same n m) (object_at xs m)
type_held n table xs (Reference declared p) (int_value z) = refl
type_held n table xs (Reference declared p) (bool_value b) = refl
type_held n table xs (Reference declared p) (text_value bytes) = refl
type_held n table xs Int (reference m) = refl
type_held n table xs Int (int_value z) = refl
type_held n table xs Int (bool_value b) = refl
type_held n table xs Int (text_value bytes) = refl
type_held n table xs BoolKind (reference m) = refl
type_held n table xs BoolKind (int_value z) = refl
type_held n table xs BoolKind (bool_value b) = refl
type_held n table xs BoolKind (text_value bytes) = refl
type_held n table xs Text (reference m) = refl
type_held n table xs Text (int_value z) = refl
type_held n table xs Text (bool_value b) = refl
type_held n table xs Text (text_value bytes) = refl

value_held : (n : ℕ) (table : ClassTable) (xs : List Object) (of : ResolvedType) (v : Option Value) → option_map_or (is_of_type table (marked n xs) of) v false ≡ option_map_or (is_of_type table xs of) v false
value_held n table xs of None = refl
value_held n table xs of (Some v) = type_held n table xs of v

argument_held : (n : ℕ) (table : ClassTable) (c : Content) (who : List ℕ) (p : Param) (a : Argument) → is_argument_for table (content_marked n c) who p a ≡ is_argument_for table c who p a
argument_held n table c who p (handle_argument name) = value_held n table c.objects p.of (value_of c who (handle_argument name))
argument_held n table c who p (int_argument z) = value_held n table c.objects p.of (Some (int_value z))
argument_held n table c who p (bool_argument b) = value_held n table c.objects p.of (Some (bool_value b))
argument_held n table c who p (text_argument bytes) = value_held n table c.objects p.of (Some (text_value bytes))
argument_held n table c who p other_argument = refl

kinds_held : (n : ℕ) (table : ClassTable) (c : Content) (who : List ℕ) (pairs : List (Param × Argument))
    → list_any (λ (pair : Param × Argument). not (is_argument_for table (content_marked n c) who pair.0 pair.1)) pairs ≡ list_any (λ (pair : Param × Argument). not (is_argument_for table c who pair.0 pair.1)) pairs
kinds_held n table c who [] = refl
kinds_held n table c who (p ∷ pairs) =
    ap (λ b. not b || list_any (λ (pair : Param × Argument). not (is_argument_for table (content_marked n c) who pair.0 pair.1)) pairs) (argument_held n table c who p.0 p.1)
    ∙ ap (λ b. not (is_argument_for table c who p.0 p.1) || b) (kinds_held n table c who pairs)

-- Checks.

entry_held : (n : ℕ) (table : ClassTable) (c : Content) (e : Entry) → entry_checks table (content_marked n c) e ≡ entry_checks table c e
entry_held n table c e = ap (λ b.
    check arg_count (has_other_count e) ∷ check arg_kind b ∷ check permission (lacks_permission c e) ∷ check repeated (repeats_object c e)
    ∷ check into_missing (lacks_into e) ∷ check into_needless (has_needless_into e) ∷ into_checks c e) (kinds_held n table c e.who (zip e.signature.params e.args))

found_held : (n : ℕ) (table : ClassTable) (c : Content) (found : Option Entry) → found_checks table (content_marked n c) found ≡ found_checks table c found
found_held n table c None = refl
found_held n table c (Some e) = ap (λ (ks : List Check). ks ++ []) (entry_held n table c e)

new_held : (n : ℕ) (table : ClassTable) (c : Content) (who : List ℕ) (r : NewRequest) → new_checks table (content_marked n c) who r ≡ new_checks table c who r
new_held n table c who r = ap (λ (ks : List Check). argument_checks c who r.args ++ check no_contract (is_no_contract table r.contract) ∷ check not_main (is_not_main table r.contract) ∷ ks) (found_held n table c (entry_of_new table who r))

-- what a `call` enters on this object
abbrev entry_of_object : ClassTable → List ℕ → CallRequest → Handle → Object → Option Entry
entry_of_object table who r h o =
    contract_at table o.contract >>= λ own.
    transaction_named own r.tx >>= λ tx.
    signature_at own tx >>= λ s.
    where_true (not s.private) (record {
      who = who;
      contract = o.contract;
      tx = tx;
      signature = s;
      receiver = Some (used_as_receiver (handle_name who r.on) h o.contract s);
      given = mode_of_result s.result;
      args = r.args;
      into = r.into;
    })

object_held : (table : ClassTable) (who : List ℕ) (r : CallRequest) (h : Handle) (b : Bool) (x : Option Object) → (option_map (mark_if b) x >>= entry_of_object table who r h) ≡ (x >>= entry_of_object table who r h)
object_held table who r h b None = refl
object_held table who r h true (Some o) = refl
object_held table who r h false (Some o) = refl

handle_held : (n : ℕ) (table : ClassTable) (xs : List Object) (who : List ℕ) (r : CallRequest) (k : Option Handle)
    → (k >>= λ (h : Handle). object_at (marked n xs) h.object >>= entry_of_object table who r h) ≡ (k >>= λ (h : Handle). object_at xs h.object >>= entry_of_object table who r h)
handle_held n table xs who r None = refl
handle_held n table xs who r (Some h) = ap (λ x. x >>= entry_of_object table who r h) (marked_get n h.object xs) ∙ object_held table who r h (is_same n h.object) (object_at xs h.object)

call_held : (n : ℕ) (table : ClassTable) (c : Content) (who : List ℕ) (r : CallRequest) → entry_of_call table (content_marked n c) who r ≡ entry_of_call table c who r
call_held n table c who r = handle_held n table c.objects who r (handle_at c (handle_name who r.on))

-- the checks of a `call` by what it enters, and by what is asked of that
abbrev checks_by : Content → List ℕ → CallRequest → Option Entry → List Check → List Check
checks_by c who r found rest = handle_check c (handle_name who r.on) ∷ argument_checks c who r.args ++ check no_transaction (is_no_transaction found) ∷ rest

call_checks_held : (n : ℕ) (table : ClassTable) (c : Content) (who : List ℕ) (r : CallRequest) → call_checks table (content_marked n c) who r ≡ call_checks table c who r
call_checks_held n table c who r =
    ap (λ found. checks_by c who r found (found_checks table (content_marked n c) found)) (call_held n table c who r)
    ∙ ap (checks_by c who r (entry_of_call table c who r)) (found_held n table c (entry_of_call table c who r))

-- The entry test.

outside_held : (n : ℕ) (table : ClassTable) (xs : List Object) (u : HandleUse) → is_outside_use table (marked n xs) u ≡ is_outside_use table xs u
outside_held n table xs u =
    ap (λ x. not (not (owns (permission_of u.entry)) || option_map_or (is_in_states table u.contract u.entry) x false)) (marked_get n u.handle.object xs)
    ∙ ap (λ b. not (not (owns (permission_of u.entry)) || b)) (of_state table u.contract u.entry (is_same n u.handle.object) (object_at xs u.handle.object))

uses_held : (n : ℕ) (table : ClassTable) (xs : List Object) (uses : List HandleUse) → find (is_outside_use table (marked n xs)) uses ≡ find (is_outside_use table xs) uses
uses_held n table xs [] = refl
uses_held n table xs (u ∷ uses) =
    ap (λ b. if b then Some u else find (is_outside_use table (marked n xs)) uses) (outside_held n table xs u) ∙ ap (λ x. if is_outside_use table xs u then Some u else x) (uses_held n table xs uses)

-- Two invocations.

-- the first leaves what the second does, with the mark, and the object is there
abbrev pub Alike : ℕ → Invocation → Invocation → Type 0
Alike n (invoked j) (invoked i) = (j.content ≡ content_marked n i.content) × (n < length i.content.objects)
Alike n (invoked j) goes_wrong = ⊥
Alike n goes_wrong (invoked i) = ⊥
Alike n goes_wrong goes_wrong = ⊤

module _ (n : ℕ) (c : Content) (low : n < length c.objects) where
  refused_alike : (o : Option Refusal) (reads : List ReadItem) (f g : List ReadItem → Invocation) → Alike n (f reads) (g reads) → Alike n (refused_or (content_marked n c) o reads f) (refused_or c o reads g)
  refused_alike (Some refusal) reads f g h = (refl, low)
  refused_alike None reads f g h = h

  checks_alike : (ks : List Check) (f g : List ReadItem → Invocation) → ((reads : List ReadItem) → Alike n (f reads) (g reads)) → Alike n (unless_refused (content_marked n c) ks f) (unless_refused c ks g)
  checks_alike ks f g h = refused_alike (refusal_of ks) (reads_of ks) f g (h (reads_of ks))

  found_alike : {A : Type 0} (o : Option A) (f g : A → Invocation) → ((a : A) → Alike n (f a) (g a)) → Alike n (with_found o f) (with_found o g)
  found_alike None f g h = tt
  found_alike (Some a) f g h = h a

  done_alike : (reply : Reply) (handles : List NamedHandle) (v w : World) (reads : List ReadItem) → v ≡ hold n w → n < length w.objects → Alike n (done reply handles v reads) (done reply handles w reads)
  done_alike reply handles v w reads e l = (ap (λ (x : World). record { objects = x.objects; handles = handles }) e, l)

  put_held : (w : World) (p : NamedHandle) → mark_put (hold n w) p ≡ hold n (mark_put w p)
  put_held w p = if_world n (is_shared p.1.mode) (mark_shared p.1.object (hold n w)) (hold n w) (mark_shared p.1.object w) w (shared_held n p.1.object w) refl

  puts_held : (w : World) (puts : List NamedHandle) → mark_puts (hold n w) puts ≡ hold n (mark_puts w puts)
  puts_held w [] = refl
  puts_held w (p ∷ puts) = ap (λ v. mark_puts v puts) (put_held w p) ∙ puts_held (mark_put w p) puts

  puts_alike : (reply : Reply) (puts : List NamedHandle) (w : World) (reads : List ReadItem) → n < length w.objects → Alike n (done_with reply (content_marked n c) puts (hold n w) reads) (done_with reply c puts w reads)
  puts_alike reply puts w reads l = done_alike reply (put_handles c.handles puts) (mark_puts (hold n w) puts) (mark_puts w puts) reads (puts_held w puts)
      (subst (λ k. n < k) (sym (same_length w.objects (mark_puts w puts).objects (puts_share w puts).marked)) l)

  -- Runs.

  ended_alike : (table : ClassTable) (e : Entry) (reads : List ReadItem) (o : RunOutcome (Option Value)) → IsThere n o → Alike n (ended table (content_marked n c) e reads (outcome_held n o)) (ended table c e reads o)
  ended_alike table e reads (gives result w) l = puts_alike (reply_of_result result) (puts_after c e result) w reads l
  ended_alike table e reads (aborts cause s) l = (refl, low)
  ended_alike table e reads wrong l = tt

  run_held : (image : Image) (fuel : ℕ) (e : Entry) (receiver : Option HandleUse)
      → run_entry (machine_meaning image) (content_marked n c) fuel (record e { receiver = receiver }) ≡ outcome_held n (run_entry (machine_meaning image) c fuel (record e { receiver = receiver }))
  run_held image fuel e None = by (constructor_of image e.contract)
    where
      by : (o : Option TxId) → option_map_or (λ (tx : TxId). entry_outcome image (entry_of_constructor e.contract (values_of c (record e { receiver = None })) tx) (first_world (marked n c.objects) fuel)) o wrong
          ≡ outcome_held n (option_map_or (λ (tx : TxId). entry_outcome image (entry_of_constructor e.contract (values_of c (record e { receiver = None })) tx) (first_world c.objects fuel)) o wrong)
      by None = refl
      by (Some tx) = started_held n image (entry_of_constructor e.contract (values_of c (record e { receiver = None })) tx) c.objects fuel low
  run_held image fuel e (Some u) = started_held n image (entry_of_request c (record e { receiver = Some u })) c.objects fuel low

  run_there : (image : Image) (fuel : ℕ) (e : Entry) (receiver : Option HandleUse) → IsThere n (run_entry (machine_meaning image) c fuel (record e { receiver = receiver }))
  run_there image fuel e None = by (constructor_of image e.contract)
    where
      by : (o : Option TxId) → IsThere n (option_map_or (λ (tx : TxId). entry_outcome image (entry_of_constructor e.contract (values_of c (record e { receiver = None })) tx) (first_world c.objects fuel)) o wrong)
      by None = tt
      by (Some tx) = started_there n image (entry_of_constructor e.contract (values_of c (record e { receiver = None })) tx) c.objects fuel low
  run_there image fuel e (Some u) = started_there n image (entry_of_request c (record e { receiver = Some u })) c.objects fuel low

  tested_alike : (image : Image) (fuel : ℕ) (e : Entry) (reads : List ReadItem) (o : Option HandleUse)
      → Alike n (after_entry_test (machine_meaning image) (table_of_image image) (content_marked n c) fuel e reads o) (after_entry_test (machine_meaning image) (table_of_image image) c fuel e reads o)
  tested_alike image fuel e reads (Some u) = (refl, low)
  tested_alike image fuel e reads None =
      subst (λ x. Alike n (ended (table_of_image image) (content_marked n c) e reads x) (ended (table_of_image image) c e reads (run_entry (machine_meaning image) c fuel e))) (sym (run_held image fuel e e.receiver))
      (ended_alike (table_of_image image) e reads (run_entry (machine_meaning image) c fuel e) (run_there image fuel e e.receiver))

  enters_alike : (image : Image) (fuel : ℕ) (reads : List ReadItem) (e : Entry)
      → Alike n (enter_entry (machine_meaning image) (table_of_image image) (content_marked n c) fuel reads e) (enter_entry (machine_meaning image) (table_of_image image) c fuel reads e)
  enters_alike image fuel reads e =
      subst (λ x. Alike n (after_entry_test (machine_meaning image) (table_of_image image) (content_marked n c) fuel e reads x) (enter_entry (machine_meaning image) (table_of_image image) c fuel reads e))
      (sym (uses_held n (table_of_image image) c.objects (handle_uses c e))) (tested_alike image fuel e reads (first_outside_use (table_of_image image) c e))

  -- The requests that run nothing.

  more_is : (l m more : ℕ) → m ≡ more + l → l ≤ m
  more_is l m more e = omega (arith, e)

  below_longer : (l m : ℕ) → n < l → l ≤ m → n < m
  below_longer l m a b = omega (arith, a, b)

  disown_there : (h : Handle) → n < length (disowned_world c h).objects
  disown_there h = by (is_owned h.mode)
    where
      by : (b : Bool) → n < length (if b then mark_disowned h.object (still_world c) else still_world c).objects
      by true = let f = follows_mark_disowned {t = None} (still_world c) h.object in
          below_longer (length c.objects) (length (mark_disowned h.object (still_world c)).objects) low (more_is (length c.objects) (length (mark_disowned h.object (still_world c)).objects) f.objects.more f.objects.count)
      by false = low

  seen_alike : (table : ClassTable) (m : ℕ) (reads : List ReadItem) (b : Bool) (x : Option Object)
      → Alike n (with_found (option_map (mark_if b) x >>= λ (o : Object). contract_at table o.contract >>= λ (k : Contract). Some (shown_object k m o)) (λ shown. left_as_it_was (content_marked n c) (ok_shown shown) reads))
      (with_found (x >>= λ (o : Object). contract_at table o.contract >>= λ (k : Contract). Some (shown_object k m o)) (λ shown. left_as_it_was c (ok_shown shown) reads))
  seen_alike table m reads b None = tt
  seen_alike table m reads true (Some o) = by (contract_at table o.contract)
    where
      by : (k : Option Contract) → Alike n (with_found (k >>= λ (k : Contract). Some (shown_object k m (record o { disowned = true }))) (λ shown. left_as_it_was (content_marked n c) (ok_shown shown) reads))
          (with_found (k >>= λ (k : Contract). Some (shown_object k m o)) (λ shown. left_as_it_was c (ok_shown shown) reads))
      by None = tt
      by (Some k) = (refl, low)
  seen_alike table m reads false (Some o) = found_alike (contract_at table o.contract >>= λ (k : Contract). Some (shown_object k m o)) _ _ (λ shown. (refl, low))

  sees_alike : (table : ClassTable) (h : Handle) (reads : List ReadItem) → Alike n (show_object table (content_marked n c) h reads) (show_object table c h reads)
  sees_alike table h reads =
      subst (λ x. Alike n (with_found (x >>= λ (o : Object). contract_at table o.contract >>= λ (k : Contract). Some (shown_object k h.object o)) (λ shown. left_as_it_was (content_marked n c) (ok_shown shown) reads)) (show_object table c h reads))
      (sym (marked_get n h.object c.objects)) (seen_alike table h.object reads (is_same n h.object) (object_at c.objects h.object))

-- Owners.

pub are_marked : (n : ℕ) (xs : List Object) → AreMarkedFrom xs (marked n xs)
are_marked n [] = tt
are_marked zero (o ∷ os) = (record { contract = refl; state = refl; fields = refl; shared = λ is. is; disowned = λ is. refl }, as_they_are os)
are_marked (suc n) (o ∷ os) = (record { contract = refl; state = refl; fields = refl; shared = λ is. is; disowned = λ is. is }, are_marked n os)

pub references_held : (n : ℕ) (table : ClassTable) (xs : List Object) → field_references table (marked n xs) ≡ field_references table xs
references_held n table xs = same_fields table xs (marked n xs) (are_marked n xs)

pub owner_held : (n : ℕ) (table : ClassTable) (c : Content) (m : ℕ) → owner_of table (content_marked n c) m ≡ owner_of table c m
owner_held n table c m =
    ap (λ rs. find (λ (r : IncomingReference). is_owned r.mode) (map incoming_by_field (filter (λ (r : FieldReference). nat_eq r.object m) rs) ++ map incoming_by_handle (handles_onto c.handles m))) (references_held n table c.objects)

pub owners_held : (n : ℕ) (table : ClassTable) (c : Content) (m : ℕ) → owners table (content_marked n c) m ≡ owners table c m
owners_held n table c m =
    ap (λ rs. length (filter (λ (r : IncomingReference). is_owned r.mode) (map incoming_by_field (filter (λ (r : FieldReference). nat_eq r.object m) rs) ++ map incoming_by_handle (handles_onto c.handles m)))) (references_held n table c.objects)

-- what is shown of a field's holder
abbrev field_shown : ClassTable → ℕ → ℕ → Option Object → Option ShownPlace
field_shown table m k x = (x >>= λ (o : Object). contract_at table o.contract) >>= λ (own : Contract). slice_get own.fields k >>= λ (f : Field). Some (shown_field m f.name)

holder_held : (table : ClassTable) (m k : ℕ) (b : Bool) (x : Option Object) → field_shown table m k (option_map (mark_if b) x) ≡ field_shown table m k x
holder_held table m k b None = refl
holder_held table m k true (Some o) = refl
holder_held table m k false (Some o) = refl

place_held : (n : ℕ) (table : ClassTable) (xs : List Object) (place : StorePlace) → shown_place table (marked n xs) place ≡ shown_place table xs place
place_held n table xs (stored_field m k) = ap (field_shown table m k) (marked_get n m xs) ∙ holder_held table m k (is_same n m) (object_at xs m)
place_held n table xs (stored_handle name) = refl

module _ (n : ℕ) (c : Content) (low : n < length c.objects) where
  shown_alike : (table : ClassTable) (reads : List ReadItem) (o : Option IncomingReference) → Alike n (show_owner table (content_marked n c) reads o) (show_owner table c reads o)
  shown_alike table reads None = (refl, low)
  shown_alike table reads (Some r) =
      subst (λ x. Alike n (with_found x (λ place. left_as_it_was (content_marked n c) (ok_place place) (place_item r.place ∷ reads))) (show_owner table c reads (Some r))) (sym (place_held n table c.objects r.place))
      (found_alike n c low (shown_place table c.objects r.place) _ _ (λ place. (refl, low)))

  owner_alike : (table : ClassTable) (h : Handle) (reads : List ReadItem) → Alike n (show_owner_of table (content_marked n c) h reads) (show_owner_of table c h reads)
  owner_alike table h reads =
      subst (λ x. Alike n (show_owner table (content_marked n c) reads x) (show_owner_of table c h reads)) (sym (owner_held n table c h.object)) (shown_alike table reads (owner_of table c h.object))

  -- Requests.

  asked_alike : (image : Image) (fuel : ℕ) (who : List ℕ) (operation : Operation)
      → Alike n (machine_invocation image (content_marked n c) (record { who = who; operation = operation }) fuel) (machine_invocation image c (record { who = who; operation = operation }) fuel)
  asked_alike image fuel who (new_request r) =
      subst (λ ks. Alike n (unless_refused (content_marked n c) ks (λ reads. with_found (entry_of_new (table_of_image image) who r) (enter_entry (machine_meaning image) (table_of_image image) (content_marked n c) fuel reads)))
      (machine_invocation image c (record { who = who; operation = new_request r }) fuel)) (sym (new_held n (table_of_image image) c who r))
      (checks_alike n c low (new_checks (table_of_image image) c who r) _ _ (λ reads. found_alike n c low (entry_of_new (table_of_image image) who r) _ _ (λ e. enters_alike n c low image fuel reads e)))
  asked_alike image fuel who (call_request r) =
      subst (λ ks. Alike n (unless_refused (content_marked n c) ks (λ reads. with_found (entry_of_call (table_of_image image) (content_marked n c) who r) (enter_entry (machine_meaning image) (table_of_image image) (content_marked n c) fuel reads)))
      (machine_invocation image c (record { who = who; operation = call_request r }) fuel)) (sym (call_checks_held n (table_of_image image) c who r))
      (subst (λ o. Alike n (unless_refused (content_marked n c) (call_checks (table_of_image image) c who r) (λ reads. with_found o (enter_entry (machine_meaning image) (table_of_image image) (content_marked n c) fuel reads)))
      (machine_invocation image c (record { who = who; operation = call_request r }) fuel)) (sym (call_held n (table_of_image image) c who r))
      (checks_alike n c low (call_checks (table_of_image image) c who r) _ _ (λ reads. found_alike n c low (entry_of_call (table_of_image image) c who r) _ _ (λ e. enters_alike n c low image fuel reads e))))
  asked_alike image fuel who (disown_request on) = checks_alike n c low (handle_check c (handle_name who on) ∷ []) _ _ (λ reads. found_alike n c low (handle_at c (handle_name who on)) _ _ (λ h.
      done_alike n c low ok_nothing (without_handle c.handles (handle_name who on)) (disowned_world (content_marked n c) h) (disowned_world c h) reads
      (if_world n (is_owned h.mode) (mark_disowned h.object (hold n (still_world c))) (hold n (still_world c)) (mark_disowned h.object (still_world c)) (still_world c) (disowned_held n h.object (still_world c)) refl)
      (disown_there n c low h)))
  asked_alike image fuel who (give_request r) = checks_alike n c low (give_checks c who r) _ _ (λ reads. found_alike n c low (handle_at c (handle_name who r.on)) _ _ (λ h.
      puts_alike n c low ok_nothing (puts_of_give who r h) (still_world c) reads low))
  asked_alike image fuel who (see_request on) = checks_alike n c low (handle_check c (handle_name who on) ∷ []) _ _ (λ reads. found_alike n c low (handle_at c (handle_name who on)) _ _ (λ h.
      sees_alike n c low (table_of_image image) h reads))
  asked_alike image fuel who (owner_request on) = checks_alike n c low (handle_check c (handle_name who on) ∷ []) _ _ (λ reads. found_alike n c low (handle_at c (handle_name who on)) _ _ (λ h.
      owner_alike (table_of_image image) h reads))

  pub invocations_alike : (image : Image) (fuel : ℕ) (q : Request) → Alike n (machine_invocation image (content_marked n c) q fuel) (machine_invocation image c q fuel)
  invocations_alike image fuel q = asked_alike image fuel q.who q.operation
