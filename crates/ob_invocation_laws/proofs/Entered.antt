-- What a `new` or a `call` has that isn't refused: none of its checks holds, and each handle that it uses is there.
use Rattle.std.proofs.Common.{◌≡◌, ℕ, Bool, true, false, List, [], ◌∷◌, ◌++◌, Option, Some, None, refl, sym, subst}
use Rattle.std.specs.Prelude.{not, zip, is_some, filter_map, ⊤}
use Rattle.std.specs.List.{cons_option}
use Rattle.ob_base.specs.Optional.{◌>>=◌, where_true}
use Rattle.ob_base.specs.declared.id.ContractId.{ContractId}
use Rattle.ob_base.specs.declared.id.TxId.{TxId}
use Rattle.ob_base.specs.declared.permission.Perm.{Perm}
use Rattle.ob_table.specs.Tables.{ClassTable, contract_at, contract_named, signature_at}
use Rattle.ob_table.specs.declared.contract.Contract.{Contract}
use Rattle.ob_table.specs.declared.contract.Param.{Param}
use Rattle.ob_table.specs.declared.contract.ResolvedType.{ResolvedType}
use Rattle.ob_table.specs.declared.contract.ResolvedType.TheVariants.{Int, Bool as BoolKind, Text, Reference}
use Rattle.ob_table.specs.declared.contract.Signature.{Signature}
use Rattle.ob_table_spec.specs.WellFormed.{constructor_at}
use Rattle.ob_heap_spec.specs.Objects.{Object}
use Rattle.ob_heap_spec.specs.Contents.{HandleName, Handle, Content, object_at}
use Rattle.ob_heap_spec.specs.Dispatch.{transaction_named}
use Rattle.ob_heap_spec.specs.Worlds.{handle_item, handles_full_item}
use Rattle.ob_heap_spec.specs.Handles.{handle_at}
use Rattle.ob_invocation_spec.specs.Requests.{Argument, int_argument, bool_argument, text_argument, handle_argument, other_argument, NewRequest, CallRequest}
use Rattle.ob_invocation_spec.specs.Replies.{no_contract, not_main, no_transaction, arg_count, arg_kind, permission, repeated, into_missing, into_needless, into_taken, handles_full}
use Rattle.ob_invocation_spec.specs.Handles.{handle_name, are_handles_full}
use Rattle.ob_invocation_spec.specs.Checks.{Check, check, refusal_of}
use Rattle.ob_invocation_spec.specs.Entries.{HandleUse, Entry, mode_of_result, entry_of_new, used_as_receiver, entry_of_call, used_for, use_of_argument, handle_uses}
use Rattle.ob_invocation_spec.specs.Refusals.{handle_check, argument_checks, is_no_contract, is_not_main, is_no_transaction, has_other_count, has_other_kind, lacks_permission, repeats_object, lacks_into, has_needless_into, is_taken, making_checks, into_checks, entry_checks, found_checks, new_checks, call_checks}
use Rattle.ob_invocation_laws.proofs.Giving.{passes}

-- Checks, one after another.

-- where no check holds, none of the first does, and none of the others
pub all_pass : (first others : List Check) → refusal_of (first ++ others) ≡ None
    → (refusal_of first ≡ None) × (refusal_of others ≡ None)
all_pass [] others passed = (refl, passed)
all_pass (c ∷ first) others passed =
    let here = passes c (first ++ others) passed in
    let rest = all_pass first others here.1 in
    (rw here.0 rest.0, rest.1)

-- What an entry has that isn't refused.
pub record MayEnter (table : ClassTable) (content : Content) (e : Entry) : Type 0 where
  pub count : has_other_count e ≡ false
  pub kinds : has_other_kind table content e ≡ false
  pub permission : lacks_permission content e ≡ false
  pub once : repeats_object content e ≡ false
  pub has_into : lacks_into e ≡ false
  pub needs_into : has_needless_into e ≡ false
  pub free : (into : List ℕ) → e.into ≡ Some into → handle_at content (handle_name e.who into) ≡ None
  pub room : (into : List ℕ) → e.into ≡ Some into → are_handles_full content ≡ false

none_there : {X : Type 0} (x : Option X) → is_some x ≡ false → x ≡ None
none_there None is = refl
none_there (Some x) is = absurd cc

pub may_enter : (table : ClassTable) (content : Content) (e : Entry)
    → refusal_of (entry_checks table content e) ≡ None → MayEnter table content e
may_enter table content e passed =
    let into = into_checks content e in
    let needless = check into_needless (has_needless_into e) in
    let missing = check into_missing (lacks_into e) in
    let twice = check repeated (repeats_object content e) in
    let mode = check permission (lacks_permission content e) in
    let kind = check arg_kind (has_other_kind table content e) in
    let number = check arg_count (has_other_count e) in
    let p1 = passes number (kind ∷ mode ∷ twice ∷ missing ∷ needless ∷ into) passed in
    let p2 = passes kind (mode ∷ twice ∷ missing ∷ needless ∷ into) p1.1 in
    let p3 = passes mode (twice ∷ missing ∷ needless ∷ into) p2.1 in
    let p4 = passes twice (missing ∷ needless ∷ into) p3.1 in
    let p5 = passes missing (needless ∷ into) p4.1 in
    let p6 = passes needless into p5.1 in
    record {
      count = p1.0;
      kinds = p2.0;
      permission = p3.0;
      once = p4.0;
      has_into = p5.0;
      needs_into = p6.0;
      free = λ name is. (at_into name (rw is at p6.1)).0;
      room = λ name is. (at_into name (rw is at p6.1)).1;
    }
  where
    at_into : (name : List ℕ) → refusal_of (making_checks content (handle_name e.who name) ++ []) ≡ None
        → (handle_at content (handle_name e.who name) ≡ None) × (are_handles_full content ≡ false)
    at_into name passed =
        let taken : Check = record {
          refusal = into_taken;
          holds = is_taken content (handle_name e.who name);
          reads = handle_item (handle_name e.who name) ∷ [];
        } in
        let full : Check = record {
          refusal = handles_full;
          holds = are_handles_full content;
          reads = handles_full_item ∷ [];
        } in
        let first = passes taken (full ∷ []) passed in
        let second = passes full [] first.1 in
        (none_there (handle_at content (handle_name e.who name)) first.0, second.0)

-- what is asked of what was found
found_passes : (table : ClassTable) (content : Content) (found : Option Entry) (e : Entry) → found ≡ Some e
    → refusal_of (found_checks table content found) ≡ None → MayEnter table content e
found_passes table content None e is passed = absurd cc
found_passes table content (Some f) e is passed =
    let same : f ≡ e = cc in
    subst (MayEnter table content) same
    (may_enter table content f (all_pass (entry_checks table content f) [] passed).0)

pub new_may_enter : (table : ClassTable) (content : Content) (who : List ℕ) (r : NewRequest) (e : Entry)
    → refusal_of (new_checks table content who r) ≡ None → entry_of_new table who r ≡ Some e
    → MayEnter table content e
new_may_enter table content who r e passed is =
    let contract = check no_contract (is_no_contract table r.contract) in
    let main = check not_main (is_not_main table r.contract) in
    let found = found_checks table content (entry_of_new table who r) in
    let rest = (all_pass (argument_checks content who r.args) (contract ∷ main ∷ found) passed).1 in
    found_passes table content (entry_of_new table who r) e is
    (passes main found (passes contract (main ∷ found) rest).1).1

pub call_may_enter : (table : ClassTable) (content : Content) (who : List ℕ) (r : CallRequest) (e : Entry)
    → refusal_of (call_checks table content who r) ≡ None → entry_of_call table content who r ≡ Some e
    → MayEnter table content e
call_may_enter table content who r e passed is =
    let on = handle_check content (handle_name who r.on) in
    let args = argument_checks content who r.args in
    let tx = check no_transaction (is_no_transaction (entry_of_call table content who r)) in
    let found = found_checks table content (entry_of_call table content who r) in
    let first = passes on (args ++ tx ∷ found) passed in
    let rest = (all_pass args (tx ∷ found) first.1).1 in
    found_passes table content (entry_of_call table content who r) e is (passes tx found rest).1

-- What a `new` and a `call` enter.

-- the entry of a `new`, by its contract and constructor
pub record NewEntry (table : ClassTable) (who : List ℕ) (r : NewRequest) (e : Entry) : Type 0 where
  pub contract : ContractId
  pub signature : Signature
  pub named : contract_named table.contracts r.contract ≡ Some contract
  pub constructor : constructor_at table contract ≡ Some signature
  pub is : e ≡ record {
    who = who;
    contract = contract;
    tx = record { 0 = 0 };
    signature = signature;
    receiver = None;
    given = Some signature.exit.mode;
    args = r.args;
    into = r.into;
  }

-- a thing that something follows from is there
pub bound : {A B : Type 0} (x : Option A) (f : A → Option B) (b : B) → (x >>= f) ≡ Some b
    → (a : A) × (x ≡ Some a) × (f a ≡ Some b)
bound None f b is = absurd cc
bound (Some a) f b is = (a, refl, is)

tested : {A : Type 0} (t : Bool) (x y : A) → where_true t x ≡ Some y → (t ≡ true) × (y ≡ x)
tested true x y is = (refl, let same : y ≡ x = cc in same)
tested false x y is = absurd cc

pub some_one : {A : Type 0} (x y : A) → Some x ≡ Some y → y ≡ x
some_one x y is = cc

pub of_new : (table : ClassTable) (who : List ℕ) (r : NewRequest) (e : Entry) → entry_of_new table who r ≡ Some e
    → NewEntry table who r e
of_new table who r e is =
    let contract = bound (contract_named table.contracts r.contract)
    (λ contract. constructor_at table contract >>= λ s.
    Some (record {
      who = who;
      contract = contract;
      tx = record { 0 = 0 };
      signature = s;
      receiver = None;
      given = Some s.exit.mode;
      args = r.args;
      into = r.into;
    })) e is in
    let s = bound (constructor_at table contract.0)
    (λ s. Some (record {
      who = who;
      contract = contract.0;
      tx = record { 0 = 0 };
      signature = s;
      receiver = None;
      given = Some s.exit.mode;
      args = r.args;
      into = r.into;
    })) e contract.2 in
    record {
      contract = contract.0;
      signature = s.0;
      named = contract.1;
      constructor = s.1;
      is = some_one _ e s.2;
    }

-- what a `call` enters of an object
abbrev pub called : List ℕ → CallRequest → Handle → Object → TxId → Signature → Entry
called who r h o tx s = record {
  who = who;
  contract = o.contract;
  tx = tx;
  signature = s;
  receiver = Some (used_as_receiver (handle_name who r.on) h o.contract s);
  given = mode_of_result s.result;
  args = r.args;
  into = r.into;
}

-- the entry of a `call`, by the handle on its object, the object, its contract and the transaction
pub record CallEntry (table : ClassTable) (content : Content) (who : List ℕ) (r : CallRequest) (e : Entry)
    : Type 0 where
  pub handle : Handle
  pub object : Object
  pub own : Contract
  pub tx : TxId
  pub signature : Signature
  pub found : handle_at content (handle_name who r.on) ≡ Some handle
  pub there : object_at content.objects handle.object ≡ Some object
  pub contract : contract_at table object.contract ≡ Some own
  pub named : transaction_named own r.tx ≡ Some tx
  pub signed : signature_at own tx ≡ Some signature
  pub callable : signature.private ≡ false
  pub is : e ≡ called who r handle object tx signature

not_turned : (b : Bool) → not b ≡ true → b ≡ false
not_turned true is = absurd cc
not_turned false is = refl

pub of_call : (table : ClassTable) (content : Content) (who : List ℕ) (r : CallRequest) (e : Entry)
    → entry_of_call table content who r ≡ Some e → CallEntry table content who r e
of_call table content who r e is =
    let made = called who r in
    let at_s = λ (h : Handle) (o : Object) (tx : TxId) (s : Signature). where_true (not s.private) (made h o tx s) in
    let at_tx = λ (h : Handle) (o : Object) (own : Contract) (tx : TxId). (signature_at own tx >>= at_s h o tx) in
    let at_own = λ (h : Handle) (o : Object) (own : Contract). (transaction_named own r.tx >>= at_tx h o own) in
    let at_o = λ (h : Handle) (o : Object). (contract_at table o.contract >>= at_own h o) in
    let at_h = λ (h : Handle). (object_at content.objects h.object >>= at_o h) in
    let h = bound (handle_at content (handle_name who r.on)) at_h e is in
    let o = bound (object_at content.objects h.0.object) (at_o h.0) e h.2 in
    let own = bound (contract_at table o.0.contract) (at_own h.0 o.0) e o.2 in
    let tx = bound (transaction_named own.0 r.tx) (at_tx h.0 o.0 own.0) e own.2 in
    let s = bound (signature_at own.0 tx.0) (at_s h.0 o.0 tx.0) e tx.2 in
    let t = tested (not s.0.private) (made h.0 o.0 tx.0 s.0) e s.2 in
    record {
      handle = h.0;
      object = o.0;
      own = own.0;
      tx = tx.0;
      signature = s.0;
      found = h.1;
      there = o.1;
      contract = own.1;
      named = tx.1;
      signed = s.1;
      callable = not_turned s.0.private t.0;
      is = t.1;
    }

-- Uses of handles that are there.

-- each use is of the handle that its name denotes
abbrev pub AreFound : Content → List HandleUse → Type 0
AreFound content [] = ⊤
AreFound content (u ∷ uses) = (handle_at content u.name ≡ Some u.handle) × AreFound content uses

-- a use of a handle for a parameter is of that handle, under that name
used_so : (of : ResolvedType) (exit : Perm) (name : HandleName) (h : Handle) (u : HandleUse)
    → used_for of exit name h ≡ Some u → (u.name ≡ name) × (u.handle ≡ h)
used_so (Reference c p) exit name h u is =
    let same = some_one (record { name = name; handle = h; contract = c; entry = p; exit = exit }) u is in
    rw same (refl, refl)
used_so Int exit name h u is = absurd cc
used_so BoolKind exit name h u is = absurd cc
used_so Text exit name h u is = absurd cc

argument_found : (content : Content) (who : List ℕ) (p : Param) (arg : Argument) (u : HandleUse)
    → use_of_argument content who p arg ≡ Some u → handle_at content u.name ≡ Some u.handle
argument_found content who p (int_argument z) u is = absurd cc
argument_found content who p (bool_argument b) u is = absurd cc
argument_found content who p (text_argument bytes) u is = absurd cc
argument_found content who p (handle_argument name) u is =
    let h = bound (handle_at content (handle_name who name)) (used_for p.of p.exit (handle_name who name)) u is in
    let same = used_so p.of p.exit (handle_name who name) h.0 u h.2 in
    rw (same.0, same.1) h.1
argument_found content who p other_argument u is = absurd cc

arguments_found : (content : Content) (who : List ℕ) (pairs : List (Param × Argument))
    → AreFound content (filter_map (λ pair. use_of_argument content who pair.0 pair.1) pairs)
arguments_found content who [] = tt
arguments_found content who (pair ∷ pairs) =
    by_use (use_of_argument content who pair.0 pair.1) refl (arguments_found content who pairs)
  where
    by_use : (u : Option HandleUse) → use_of_argument content who pair.0 pair.1 ≡ u
        → AreFound content (filter_map (λ pair. use_of_argument content who pair.0 pair.1) pairs)
        → AreFound content (cons_option u (filter_map (λ pair. use_of_argument content who pair.0 pair.1) pairs))
    by_use None is rest = rest
    by_use (Some u) is rest = (argument_found content who pair.0 pair.1 u is, rest)

-- the uses of a `new` are of handles that are there
pub new_found : (table : ClassTable) (content : Content) (who : List ℕ) (r : NewRequest) (e : Entry)
    → entry_of_new table who r ≡ Some e → AreFound content (handle_uses content e)
new_found table content who r e is =
    let new = of_new table who r e is in
    subst (λ (e : Entry). AreFound content (handle_uses content e)) (sym new.is)
    (arguments_found content who (zip new.signature.params r.args))

-- and so are those of a `call`
pub call_found : (table : ClassTable) (content : Content) (who : List ℕ) (r : CallRequest) (e : Entry)
    → entry_of_call table content who r ≡ Some e → AreFound content (handle_uses content e)
call_found table content who r e is =
    let call = of_call table content who r e is in
    subst (λ (e : Entry). AreFound content (handle_uses content e)) (sym call.is)
    (call.found, arguments_found content who (zip call.signature.params r.args))
