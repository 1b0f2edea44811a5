-- What a request finds by its handles, on two contents.
use Rattle.std.proofs.Common.{◌≡◌, ℕ, Bool, true, false, List, [], ◌∷◌, ◌++◌, Contains, Option, Some, None, refl, sym, ap, ◌∙◌, subst, arith}
use Rattle.std.specs.Prelude.{⊤, not, ◌||◌, zip, find, filter_map, option_map, option_to_list, if◌then◌else◌}
use Rattle.std.specs.Option.{option_map_or}
use Rattle.std.specs.List.{list_any, cons_option}
use Rattle.ob_base.specs.Optional.{◌>>=◌, where_true}
use Rattle.ob_table.specs.Tables.{ClassTable, contract_at, contract_named, signature_at}
use Rattle.ob_table.specs.declared.contract.Param.{Param}
use Rattle.ob_table.specs.declared.contract.ResolvedType.{ResolvedType}
use Rattle.ob_table.specs.declared.contract.ResolvedType.TheVariants.{Int, Bool as BoolKind, Text, Reference}
use Rattle.ob_table.specs.declared.seen.Kind.TheVariants as kind
use Rattle.ob_table_spec.specs.WellFormed.{constructor_at, serves_as}
use Rattle.ob_base.specs.declared.permission.Perm.{Perm}
use Rattle.ob_perm.specs.Permissions.{owns}
use Rattle.ob_perm.specs.Masks.{permission_of}
use Rattle.ob_heap_spec.specs.Values.{int_value, bool_value, text_value, reference}
use Rattle.ob_heap_spec.specs.Objects.{Object, is_in_states}
use Rattle.ob_heap_spec.specs.Contents.{HandleName, Handle, Content, object_at}
use Rattle.ob_heap_spec.specs.Dispatch.{transaction_named}
use Rattle.ob_heap_spec.specs.Worlds.{ReadItem, object_item, handle_item, AllRead}
use Rattle.ob_heap_spec.specs.Handles.{handle_at}
use Rattle.ob_invocation_spec.specs.Entering.{is_outside_use, first_outside_use}
use Rattle.ob_invocation_spec.specs.Entries.{HandleUse, Entry, mode_of_result, used_as_receiver, entry_of_new, entry_of_call, value_of, values_of, used_for, use_of_argument, argument_uses, handle_uses}
use Rattle.ob_invocation_spec.specs.Handles.{handle_name, handle_reads}
use Rattle.ob_invocation_spec.specs.Refusals.{is_of_type, is_argument_for, has_other_kind}
use Rattle.ob_invocation_spec.specs.Requests.{Argument, int_argument, bool_argument, text_argument, handle_argument, other_argument, argument_names, NewRequest, CallRequest}
use Rattle.ob_request_run_laws.proofs.Lists.{none_is_some, some_is}
use Rattle.ob_request_run_laws.specs.Laws.{AgreeOn}

-- A name denotes the same on both, and so does the object.
pub record IsFound (c d : Content) (name : HandleName) : Type 0 where
  pub handle : handle_at d name ≡ handle_at c name
  pub object : (h : Handle) → handle_at c name ≡ Some h → object_at d.objects h.object ≡ object_at c.objects h.object

second_in : (a b : ReadItem) → Contains (a ∷ b ∷ []) b
second_in a b = (1, omega arith, refl)

reads_object : (name : HandleName) (x : Option Handle) (h : Handle) → x ≡ Some h → Contains (handle_item name ∷ option_to_list (option_map (λ (k : Handle). object_item k.object) x)) (object_item h.object)
reads_object name x h e =
    subst (λ y. Contains (handle_item name ∷ option_to_list (option_map (λ (k : Handle). object_item k.object) y)) (object_item h.object)) (sym e) (second_in (handle_item name) (object_item h.object))

pub found_by : (items : List ReadItem) (c d : Content) (name : HandleName) → AgreeOn items c d → AllRead (handle_reads c name) items → IsFound c d name
found_by items c d name a all = record {
  handle = a.handles name (all (handle_item name) (0, omega arith, refl));
  object = λ h e. a.objects.objects h.object (all (object_item h.object) (reads_object name (handle_at c name) h e));
}

-- Arguments.

abbrev pub IsArgumentFound : Content → Content → List ℕ → Argument → Type 0
IsArgumentFound c d who (handle_argument name) = IsFound c d (handle_name who name)
IsArgumentFound c d who (int_argument z) = ⊤
IsArgumentFound c d who (bool_argument b) = ⊤
IsArgumentFound c d who (text_argument bytes) = ⊤
IsArgumentFound c d who other_argument = ⊤

abbrev pub AreArgumentsFound : Content → Content → List ℕ → List Argument → Type 0
AreArgumentsFound c d who [] = ⊤
AreArgumentsFound c d who (a ∷ args) = IsArgumentFound c d who a × AreArgumentsFound c d who args

-- the same of names
abbrev pub AreFound : Content → Content → List ℕ → List (List ℕ) → Type 0
AreFound c d who [] = ⊤
AreFound c d who (n ∷ names) = IsFound c d (handle_name who n) × AreFound c d who names

pub arguments_found : (c d : Content) (who : List ℕ) (args : List Argument) → AreFound c d who (argument_names args) → AreArgumentsFound c d who args
arguments_found c d who [] h = tt
arguments_found c d who (handle_argument name ∷ args) h = (h.0, arguments_found c d who args h.1)
arguments_found c d who (int_argument z ∷ args) h = (tt, arguments_found c d who args h)
arguments_found c d who (bool_argument b ∷ args) h = (tt, arguments_found c d who args h)
arguments_found c d who (text_argument bytes ∷ args) h = (tt, arguments_found c d who args h)
arguments_found c d who (other_argument ∷ args) h = (tt, arguments_found c d who args h)

value_same : (c d : Content) (who : List ℕ) (a : Argument) → IsArgumentFound c d who a → value_of d who a ≡ value_of c who a
value_same c d who (handle_argument name) h = ap (option_map (λ (k : Handle). reference k.object)) h.handle
value_same c d who (int_argument z) h = refl
value_same c d who (bool_argument b) h = refl
value_same c d who (text_argument bytes) h = refl
value_same c d who other_argument h = refl

values_by : (c d : Content) (who : List ℕ) (args : List Argument) → AreArgumentsFound c d who args → filter_map (value_of d who) args ≡ filter_map (value_of c who) args
values_by c d who [] h = refl
values_by c d who (a ∷ args) h = ap (λ x. cons_option x (filter_map (value_of d who) args)) (value_same c d who a h.0) ∙ ap (cons_option (value_of c who a)) (values_by c d who args h.1)

-- Whether an argument is of its parameter's type.

type_same : (table : ClassTable) (xs ys : List Object) (of : ResolvedType) (n : ℕ) → object_at ys n ≡ object_at xs n → is_of_type table ys of (reference n) ≡ is_of_type table xs of (reference n)
type_same table xs ys (Reference declared p) n e = ap (λ x. option_map_or (λ (o : Object). serves_as table (kind.Reference declared) (kind.Reference o.contract)) x false) e
type_same table xs ys Int n e = refl
type_same table xs ys BoolKind n e = refl
type_same table xs ys Text n e = refl

handle_type_same : (table : ClassTable) (xs ys : List Object) (of : ResolvedType) (x : Option Handle) → ((h : Handle) → x ≡ Some h → object_at ys h.object ≡ object_at xs h.object)
    → option_map_or (is_of_type table ys of) (option_map (λ (k : Handle). reference k.object) x) false ≡ option_map_or (is_of_type table xs of) (option_map (λ (k : Handle). reference k.object) x) false
handle_type_same table xs ys of None h = refl
handle_type_same table xs ys of (Some k) h = type_same table xs ys of k.object (h k refl)

plain_type_same : (table : ClassTable) (c d : Content) (who : List ℕ) (p : Param) (a : Argument) → IsArgumentFound c d who a → is_argument_for table d who p a ≡ is_argument_for table c who p a
plain_type_same table c d who p (handle_argument name) h =
    ap (λ x. option_map_or (is_of_type table d.objects p.of) (option_map (λ (k : Handle). reference k.object) x) false) h.handle
    ∙ handle_type_same table c.objects d.objects p.of (handle_at c (handle_name who name)) h.object
plain_type_same table c d who p (int_argument z) h = int_type p.of
  where
    int_type : (of : ResolvedType) → is_of_type table d.objects of (int_value z) ≡ is_of_type table c.objects of (int_value z)
    int_type (Reference declared q) = refl
    int_type Int = refl
    int_type BoolKind = refl
    int_type Text = refl
plain_type_same table c d who p (bool_argument b) h = bool_type p.of
  where
    bool_type : (of : ResolvedType) → is_of_type table d.objects of (bool_value b) ≡ is_of_type table c.objects of (bool_value b)
    bool_type (Reference declared q) = refl
    bool_type Int = refl
    bool_type BoolKind = refl
    bool_type Text = refl
plain_type_same table c d who p (text_argument bytes) h = text_type p.of
  where
    text_type : (of : ResolvedType) → is_of_type table d.objects of (text_value bytes) ≡ is_of_type table c.objects of (text_value bytes)
    text_type (Reference declared q) = refl
    text_type Int = refl
    text_type BoolKind = refl
    text_type Text = refl
plain_type_same table c d who p other_argument h = refl

kinds_by : (table : ClassTable) (c d : Content) (who : List ℕ) (params : List Param) (args : List Argument) → AreArgumentsFound c d who args
    → list_any (λ pair. not (is_argument_for table d who pair.0 pair.1)) (zip params args) ≡ list_any (λ pair. not (is_argument_for table c who pair.0 pair.1)) (zip params args)
kinds_by table c d who [] args h = refl
kinds_by table c d who (p ∷ params) [] h = refl
kinds_by table c d who (p ∷ params) (a ∷ args) h =
    ap (λ b. not b || list_any (λ pair. not (is_argument_for table d who pair.0 pair.1)) (zip params args)) (plain_type_same table c d who p a h.0)
    ∙ ap (λ b. not (is_argument_for table c who p a) || b) (kinds_by table c d who params args h.1)

-- Uses of handles.

-- something holds of the object of each use
abbrev pub AreUses : (ℕ → Type 0) → List HandleUse → Type 0
AreUses P [] = ⊤
AreUses P (u ∷ uses) = P u.handle.object × AreUses P uses

-- the object of a number is the same on both
abbrev pub IsSame : Content → Content → ℕ → Type 0
IsSame c d n = object_at d.objects n ≡ object_at c.objects n

-- something holds of the object of the handle that an argument names
abbrev pub IsArgumentOn : (ℕ → Type 0) → Content → List ℕ → Argument → Type 0
IsArgumentOn P c who (handle_argument name) = (h : Handle) → handle_at c (handle_name who name) ≡ Some h → P h.object
IsArgumentOn P c who (int_argument z) = ⊤
IsArgumentOn P c who (bool_argument b) = ⊤
IsArgumentOn P c who (text_argument bytes) = ⊤
IsArgumentOn P c who other_argument = ⊤

abbrev pub AreArgumentsOn : (ℕ → Type 0) → Content → List ℕ → List Argument → Type 0
AreArgumentsOn P c who [] = ⊤
AreArgumentsOn P c who (a ∷ args) = IsArgumentOn P c who a × AreArgumentsOn P c who args

argument_same : (c d : Content) (who : List ℕ) (a : Argument) → IsArgumentFound c d who a → IsArgumentOn (IsSame c d) c who a
argument_same c d who (handle_argument name) h = h.object
argument_same c d who (int_argument z) h = tt
argument_same c d who (bool_argument b) h = tt
argument_same c d who (text_argument bytes) h = tt
argument_same c d who other_argument h = tt

arguments_same : (c d : Content) (who : List ℕ) (args : List Argument) → AreArgumentsFound c d who args → AreArgumentsOn (IsSame c d) c who args
arguments_same c d who [] h = tt
arguments_same c d who (a ∷ args) h = (argument_same c d who a h.0, arguments_same c d who args h.1)

-- where it holds of the object of each handle
argument_each : (P : ℕ → Type 0) (c : Content) (who : List ℕ) (a : Argument) → ((name : HandleName) (h : Handle) → handle_at c name ≡ Some h → P h.object) → IsArgumentOn P c who a
argument_each P c who (handle_argument name) each = each (handle_name who name)
argument_each P c who (int_argument z) each = tt
argument_each P c who (bool_argument b) each = tt
argument_each P c who (text_argument bytes) each = tt
argument_each P c who other_argument each = tt

pub arguments_each : (P : ℕ → Type 0) (c : Content) (who : List ℕ) (args : List Argument) → ((name : HandleName) (h : Handle) → handle_at c name ≡ Some h → P h.object) → AreArgumentsOn P c who args
arguments_each P c who [] each = tt
arguments_each P c who (a ∷ args) each = (argument_each P c who a each, arguments_each P c who args each)

use_same : (c d : Content) (who : List ℕ) (p : Param) (a : Argument) → IsArgumentFound c d who a → use_of_argument d who p a ≡ use_of_argument c who p a
use_same c d who p (handle_argument name) h = ap (λ x. x >>= used_for p.of p.exit (handle_name who name)) h.handle
use_same c d who p (int_argument z) h = refl
use_same c d who p (bool_argument b) h = refl
use_same c d who p (text_argument bytes) h = refl
use_same c d who p other_argument h = refl

uses_by : (c d : Content) (who : List ℕ) (params : List Param) (args : List Argument) → AreArgumentsFound c d who args
    → filter_map (λ pair. use_of_argument d who pair.0 pair.1) (zip params args) ≡ filter_map (λ pair. use_of_argument c who pair.0 pair.1) (zip params args)
uses_by c d who [] args h = refl
uses_by c d who (p ∷ params) [] h = refl
uses_by c d who (p ∷ params) (a ∷ args) h =
    ap (λ x. cons_option x (filter_map (λ pair. use_of_argument d who pair.0 pair.1) (zip params args))) (use_same c d who p a h.0) ∙ ap (cons_option (use_of_argument c who p a)) (uses_by c d who params args h.1)

cons_on : (P : ℕ → Type 0) (x : Option HandleUse) (uses : List HandleUse) → ((u : HandleUse) → x ≡ Some u → P u.handle.object) → AreUses P uses → AreUses P (cons_option x uses)
cons_on P None uses h k = k
cons_on P (Some u) uses h k = (h u refl, k)

for_on : (P : ℕ → Type 0) (of : ResolvedType) (exit : Perm) (name : HandleName) (x : Option Handle) → ((k : Handle) → x ≡ Some k → P k.object) → (u : HandleUse) → (x >>= used_for of exit name) ≡ Some u → P u.handle.object
for_on P of exit name None h u e = absurd (none_is_some e)
for_on P (Reference contract entry) exit name (Some k) h u e = subst (λ (v : HandleUse). P v.handle.object) (some_is _ u e) (h k refl)
for_on P Int exit name (Some k) h u e = absurd (none_is_some e)
for_on P BoolKind exit name (Some k) h u e = absurd (none_is_some e)
for_on P Text exit name (Some k) h u e = absurd (none_is_some e)

argument_on : (P : ℕ → Type 0) (c : Content) (who : List ℕ) (p : Param) (a : Argument) → IsArgumentOn P c who a → (u : HandleUse) → use_of_argument c who p a ≡ Some u → P u.handle.object
argument_on P c who p (handle_argument name) h u e = for_on P p.of p.exit (handle_name who name) (handle_at c (handle_name who name)) h u e
argument_on P c who p (int_argument z) h u e = absurd (none_is_some e)
argument_on P c who p (bool_argument b) h u e = absurd (none_is_some e)
argument_on P c who p (text_argument bytes) h u e = absurd (none_is_some e)
argument_on P c who p other_argument h u e = absurd (none_is_some e)

argument_uses_on : (P : ℕ → Type 0) (c : Content) (who : List ℕ) (params : List Param) (args : List Argument) → AreArgumentsOn P c who args → AreUses P (filter_map (λ pair. use_of_argument c who pair.0 pair.1) (zip params args))
argument_uses_on P c who [] args h = tt
argument_uses_on P c who (p ∷ params) [] h = tt
argument_uses_on P c who (p ∷ params) (a ∷ args) h = cons_on P (use_of_argument c who p a) _ (argument_on P c who p a h.0) (argument_uses_on P c who params args h.1)

-- What is entered.

-- something holds of the objects of the handles with which an entry comes
pub record IsEntryOn (P : ℕ → Type 0) (c : Content) (e : Entry) : Type 0 where
  pub args : AreArgumentsOn P c e.who e.args
  pub receiver : AreUses P (option_to_list e.receiver)

-- what an entry comes with is found on both
pub record IsEntryFound (c d : Content) (e : Entry) : Type 0 where
  pub args : AreArgumentsFound c d e.who e.args
  pub receiver : AreUses (IsSame c d) (option_to_list e.receiver)

pub values_same : (c d : Content) (e : Entry) → IsEntryFound c d e → values_of d e ≡ values_of c e
values_same c d e h = values_by c d e.who e.args h.args

pub kinds_same : (table : ClassTable) (c d : Content) (e : Entry) → IsEntryFound c d e → has_other_kind table d e ≡ has_other_kind table c e
kinds_same table c d e h = kinds_by table c d e.who e.signature.params e.args h.args

pub argument_uses_same : (c d : Content) (e : Entry) → IsEntryFound c d e → argument_uses d e ≡ argument_uses c e
argument_uses_same c d e h = uses_by c d e.who e.signature.params e.args h.args

pub uses_same : (c d : Content) (e : Entry) → IsEntryFound c d e → handle_uses d e ≡ handle_uses c e
uses_same c d e h = ap (λ uses. option_to_list e.receiver ++ uses) (argument_uses_same c d e h)

both_on : (P : ℕ → Type 0) (xs ys : List HandleUse) → AreUses P xs → AreUses P ys → AreUses P (xs ++ ys)
both_on P [] ys h k = k
both_on P (x ∷ xs) ys h k = (h.0, both_on P xs ys h.1 k)

pub uses_on : (P : ℕ → Type 0) (c : Content) (e : Entry) → IsEntryOn P c e → AreUses P (handle_uses c e)
uses_on P c e h = both_on P (option_to_list e.receiver) (argument_uses c e) h.receiver (argument_uses_on P c e.who e.signature.params e.args h.args)

pub uses_found : (c d : Content) (e : Entry) → IsEntryFound c d e → AreUses (IsSame c d) (handle_uses c e)
uses_found c d e h = uses_on (IsSame c d) c e (record { args = arguments_same c d e.who e.args h.args; receiver = h.receiver })

outside_same : (table : ClassTable) (c d : Content) (u : HandleUse) → object_at d.objects u.handle.object ≡ object_at c.objects u.handle.object → is_outside_use table d.objects u ≡ is_outside_use table c.objects u
outside_same table c d u e = ap (λ x. not (not (owns (permission_of u.entry)) || option_map_or (is_in_states table u.contract u.entry) x false)) e

find_by : (table : ClassTable) (c d : Content) (uses : List HandleUse) → AreUses (IsSame c d) uses → find (is_outside_use table d.objects) uses ≡ find (is_outside_use table c.objects) uses
find_by table c d [] h = refl
find_by table c d (u ∷ uses) h =
    ap (λ b. if b then Some u else find (is_outside_use table d.objects) uses) (outside_same table c d u h.0) ∙ ap (λ x. if is_outside_use table c.objects u then Some u else x) (find_by table c d uses h.1)

pub outside_use_same : (table : ClassTable) (c d : Content) (e : Entry) → IsEntryFound c d e → first_outside_use table d e ≡ first_outside_use table c e
outside_use_same table c d e h = ap (find (is_outside_use table d.objects)) (uses_same c d e h) ∙ find_by table c d (handle_uses c e) (uses_found c d e h)

-- the use that is found outside is one of these
found_if : (c d : Content) (b : Bool) (u v : HandleUse) (x : Option HandleUse) → object_at d.objects u.handle.object ≡ object_at c.objects u.handle.object → (x ≡ Some v → object_at d.objects v.handle.object ≡ object_at c.objects v.handle.object)
    → (if b then Some u else x) ≡ Some v → object_at d.objects v.handle.object ≡ object_at c.objects v.handle.object
found_if c d true u v x e h f = subst (λ (w : HandleUse). object_at d.objects w.handle.object ≡ object_at c.objects w.handle.object) (some_is u v f) e
found_if c d false u v x e h f = h f

found_use : (table : ClassTable) (c d : Content) (uses : List HandleUse) (v : HandleUse) → AreUses (IsSame c d) uses → find (is_outside_use table c.objects) uses ≡ Some v → object_at d.objects v.handle.object ≡ object_at c.objects v.handle.object
found_use table c d [] v h e = absurd (none_is_some e)
found_use table c d (u ∷ uses) v h e = found_if c d (is_outside_use table c.objects u) u v (find (is_outside_use table c.objects) uses) h.0 (found_use table c d uses v h.1) e

pub outside_found : (table : ClassTable) (c d : Content) (e : Entry) (v : HandleUse) → IsEntryFound c d e → first_outside_use table c e ≡ Some v → object_at d.objects v.handle.object ≡ object_at c.objects v.handle.object
outside_found table c d e v h f = found_use table c d (handle_uses c e) v (uses_found c d e h) f

-- By the request.

pub then_each : {A B : Type 0} (P : B → Type 0) (o : Option A) (f : A → Option B) (e : B) → ((a : A) → o ≡ Some a → f a ≡ Some e → P e) → (o >>= f) ≡ Some e → P e
then_each P None f e h g = absurd (none_is_some g)
then_each P (Some a) f e h g = h a refl g

pub where_each : {B : Type 0} (P : B → Type 0) (b : Bool) (x e : B) → P x → where_true b x ≡ Some e → P e
where_each P true x e h g = subst P (some_is x e g) h
where_each P false x e h g = absurd (none_is_some g)

pub new_found : (table : ClassTable) (c d : Content) (who : List ℕ) (r : NewRequest) (e : Entry) → AreArgumentsFound c d who r.args → entry_of_new table who r ≡ Some e → IsEntryFound c d e
new_found table c d who r e h = then_each (IsEntryFound c d) (contract_named table.contracts r.contract) _ e (λ contract is. then_each (IsEntryFound c d) (constructor_at table contract) _ e (λ s has got.
    subst (IsEntryFound c d) (some_is _ e got) (record { args = h; receiver = tt })))

pub call_found : (table : ClassTable) (c d : Content) (who : List ℕ) (r : CallRequest) (e : Entry) → IsFound c d (handle_name who r.on) → AreArgumentsFound c d who r.args → entry_of_call table c who r ≡ Some e → IsEntryFound c d e
call_found table c d who r e on h = then_each (IsEntryFound c d) (handle_at c (handle_name who r.on)) _ e (λ k is. then_each (IsEntryFound c d) (object_at c.objects k.object) _ e (λ o there.
    then_each (IsEntryFound c d) (contract_at table o.contract) _ e (λ own has. then_each (IsEntryFound c d) (transaction_named own r.tx) _ e (λ tx named. then_each (IsEntryFound c d) (signature_at own tx) _ e (λ s signed.
    where_each (IsEntryFound c d) (not s.private) _ e (record { args = h; receiver = (on.object k is, tt) }))))))

-- what a `call` enters on this object
abbrev entry_of_object : ClassTable → List ℕ → CallRequest → Handle → Object → Option Entry
entry_of_object table who r h o =
    contract_at table o.contract >>= λ own.
    transaction_named own r.tx >>= λ tx.
    signature_at own tx >>= λ s.
    where_true (not s.private) (record {
      who = who;
      contract = o.contract;
      tx = tx;
      signature = s;
      receiver = Some (used_as_receiver (handle_name who r.on) h o.contract s);
      given = mode_of_result s.result;
      args = r.args;
      into = r.into;
    })

-- what it enters on the object of a handle
abbrev entry_on : ClassTable → List ℕ → CallRequest → List Object → Handle → Option Entry
entry_on table who r objects h = object_at objects h.object >>= entry_of_object table who r h

on_same : (table : ClassTable) (who : List ℕ) (r : CallRequest) (xs ys : List Object) (x : Option Handle) → ((h : Handle) → x ≡ Some h → object_at ys h.object ≡ object_at xs h.object)
    → (x >>= entry_on table who r ys) ≡ (x >>= entry_on table who r xs)
on_same table who r xs ys None h = refl
on_same table who r xs ys (Some k) h = ap (λ x. x >>= entry_of_object table who r k) (h k refl)

pub call_same : (table : ClassTable) (c d : Content) (who : List ℕ) (r : CallRequest) → IsFound c d (handle_name who r.on) → entry_of_call table d who r ≡ entry_of_call table c who r
call_same table c d who r on = ap (λ x. x >>= entry_on table who r d.objects) on.handle ∙ on_same table who r c.objects d.objects (handle_at c (handle_name who r.on)) on.object

-- the entry of a request comes with objects of which something holds, where that is so of the objects of all handles
pub new_on : (P : ℕ → Type 0) (table : ClassTable) (c : Content) (who : List ℕ) (r : NewRequest) (e : Entry) → ((name : HandleName) (h : Handle) → handle_at c name ≡ Some h → P h.object) → entry_of_new table who r ≡ Some e → IsEntryOn P c e
new_on P table c who r e each = then_each (IsEntryOn P c) (contract_named table.contracts r.contract) _ e (λ contract is. then_each (IsEntryOn P c) (constructor_at table contract) _ e (λ s has got.
    subst (IsEntryOn P c) (some_is _ e got) (record { args = arguments_each P c who r.args each; receiver = tt })))

pub call_on : (P : ℕ → Type 0) (table : ClassTable) (c : Content) (who : List ℕ) (r : CallRequest) (e : Entry) → ((name : HandleName) (h : Handle) → handle_at c name ≡ Some h → P h.object) → entry_of_call table c who r ≡ Some e → IsEntryOn P c e
call_on P table c who r e each = then_each (IsEntryOn P c) (handle_at c (handle_name who r.on)) _ e (λ k is. then_each (IsEntryOn P c) (object_at c.objects k.object) _ e (λ o there.
    then_each (IsEntryOn P c) (contract_at table o.contract) _ e (λ own has. then_each (IsEntryOn P c) (transaction_named own r.tx) _ e (λ tx named. then_each (IsEntryOn P c) (signature_at own tx) _ e (λ s signed.
    where_each (IsEntryOn P c) (not s.private) _ e (record { args = arguments_each P c who r.args each; receiver = (each (handle_name who r.on) k is, tt) }))))))
