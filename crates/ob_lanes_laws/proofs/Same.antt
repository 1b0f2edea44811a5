-- What conflicts is what differs.
use Rattle.std.proofs.Common.{◌≡◌, ℕ, ◌≤◌, Bool, true, false, not, ◌&&◌, ◌||◌, List, [], ◌∷◌, length, Contains, Option, Some, None, refl, sym, ap, ◌∙◌, subst, arith, true≢false}
use Rattle.std.proofs.Math.Path.{fun_ext}
use Rattle.std.proofs.lemmas.Bool.{ltb-true, ltb-false}
use Rattle.std.proofs.lemmas.Bool.Decides.{Decides-eqb, Decides-int_eq}
use Rattle.std.proofs.lemmas.List.Elements.{Contains-append_right}
use Rattle.std.proofs.lemmas.List.Folds.{list_any_at}
use Rattle.std.proofs.lemmas.Option.{slice_get_past}
use Rattle.std.proofs.lemmas.Slice.Eq.{bytes_eq-Decides}
use Rattle.std.specs.Prelude.{nat_eq, nat_lt, is_some, IsSomeAnd}
use Rattle.std.specs.Option.{option_eq, option_map_or}
use Rattle.ob_base.specs.declared.id.StateId.{StateId}
use Rattle.ob_base.specs.declared.permission.Mode.{Mode}
use Rattle.ob_base.specs.declared.permission.Mode.TheVariants.{Owned, Shared, Unowned}
use Rattle.ob_perm.proofs.SetLemmas.{all_below_at, all_below_from}
use Rattle.ob_table.specs.Tables.{ClassTable, contract_at}
use Rattle.ob_table.specs.declared.contract.Contract.{Contract}
use Rattle.ob_heap_spec.specs.Operations.{same_truth}
use Rattle.ob_heap_spec.specs.Values.{Value, int_value, bool_value, text_value, reference}
use Rattle.ob_heap_spec.specs.Objects.{Object, is_available}
use Rattle.ob_heap_spec.specs.Contents.{Handle, Content, IsContent, IsObject, IsObjectOf, object_at}
use Rattle.ob_heap_spec.specs.Handles.{handle_at}
use Rattle.ob_heap_spec.specs.Worlds.{ReadItem, object_item, next_item, handle_item, handles_full_item}
use Rattle.ob_heap_spec.proofs.Items.{item_of}
use Rattle.ob_invocation_spec.specs.Handles.{are_handles_full}
use Rattle.ob_request_run_laws.specs.Laws.{AgreeOn}
use Rattle.ob_lanes_laws.specs.Conflicts.{same_value, same_state, same_values, field_count, same_object, same_mode, same_handle, is_same_item, conflicts}
use Rattle.ob_lanes_laws.proofs.Keeping.{both_true}

-- Values, states and handles.

truth_is : (x y : Bool) → same_truth x y ≡ true → x ≡ y
truth_is true true h = refl
truth_is true false h = absurd (true≢false (sym h))
truth_is false true h = absurd (true≢false (sym h))
truth_is false false h = refl

truth_itself : (x : Bool) → same_truth x x ≡ true
truth_itself true = refl
truth_itself false = refl

value_is : (x y : Value) → same_value x y ≡ true → x ≡ y
value_is (int_value x) (int_value y) h = ap int_value ((Decides-int_eq x y).0 h)
value_is (int_value x) (bool_value y) h = absurd (true≢false (sym h))
value_is (int_value x) (text_value y) h = absurd (true≢false (sym h))
value_is (int_value x) (reference y) h = absurd (true≢false (sym h))
value_is (bool_value x) (int_value y) h = absurd (true≢false (sym h))
value_is (bool_value x) (bool_value y) h = ap bool_value (truth_is x y h)
value_is (bool_value x) (text_value y) h = absurd (true≢false (sym h))
value_is (bool_value x) (reference y) h = absurd (true≢false (sym h))
value_is (text_value x) (int_value y) h = absurd (true≢false (sym h))
value_is (text_value x) (bool_value y) h = absurd (true≢false (sym h))
value_is (text_value x) (text_value y) h = ap text_value ((bytes_eq-Decides x y).0 h)
value_is (text_value x) (reference y) h = absurd (true≢false (sym h))
value_is (reference x) (int_value y) h = absurd (true≢false (sym h))
value_is (reference x) (bool_value y) h = absurd (true≢false (sym h))
value_is (reference x) (text_value y) h = absurd (true≢false (sym h))
value_is (reference x) (reference y) h = ap reference ((Decides-eqb x y).0 h)

value_itself : (x : Value) → same_value x x ≡ true
value_itself (int_value x) = (Decides-int_eq x x).1 refl
value_itself (bool_value x) = truth_itself x
value_itself (text_value x) = (bytes_eq-Decides x x).1 refl
value_itself (reference x) = (Decides-eqb x x).1 refl

state_is : (x y : StateId) → same_state x y ≡ true → x ≡ y
state_is x y h = ap (λ n. record { 0 = n }) ((Decides-eqb x.0 y.0).0 h)

mode_is : (a b : Mode) → same_mode a b ≡ true → a ≡ b
mode_is Owned Owned h = refl
mode_is Owned Shared h = absurd (true≢false (sym h))
mode_is Owned Unowned h = absurd (true≢false (sym h))
mode_is Shared Owned h = absurd (true≢false (sym h))
mode_is Shared Shared h = refl
mode_is Shared Unowned h = absurd (true≢false (sym h))
mode_is Unowned Owned h = absurd (true≢false (sym h))
mode_is Unowned Shared h = absurd (true≢false (sym h))
mode_is Unowned Unowned h = refl

mode_itself : (a : Mode) → same_mode a a ≡ true
mode_itself Owned = refl
mode_itself Shared = refl
mode_itself Unowned = refl

handle_is : (a b : Handle) → same_handle a b ≡ true → a ≡ b
handle_is a b h =
    let two = both_true (nat_eq a.object b.object) (same_mode a.mode b.mode) h in
    ap (λ n. record a { object = n }) ((Decides-eqb a.object b.object).0 two.0) ∙ ap (λ m. record b { mode = m }) (mode_is a.mode b.mode two.1)

handle_itself : (a : Handle) → same_handle a a ≡ true
handle_itself a = ap (λ b. b && same_mode a.mode a.mode) ((Decides-eqb a.object a.object).1 refl) ∙ mode_itself a.mode

option_is : {A : Type 0} (E : A → A → Bool) (x y : Option A) → ((a b : A) → x ≡ Some a → y ≡ Some b → E a b ≡ true → a ≡ b) → option_eq E x y ≡ true → x ≡ y
option_is E None None f h = refl
option_is E None (Some b) f h = absurd (true≢false (sym h))
option_is E (Some a) None f h = absurd (true≢false (sym h))
option_is E (Some a) (Some b) f h = ap Some (f a b refl refl h)

option_itself : {A : Type 0} (E : A → A → Bool) (x : Option A) → ((a : A) → E a a ≡ true) → option_eq E x x ≡ true
option_itself E None f = refl
option_itself E (Some a) f = f a

-- Objects.

not_some : {A : Type 0} (x : Option A) → is_some x ≡ false → x ≡ None
not_some None h = refl
not_some (Some a) h = absurd (true≢false h)

-- an object has no value past the fields of its contract
none_past : (table : ClassTable) (objects : List Object) (o : Object) (k : ℕ) → IsObject table objects o → field_count table o.contract ≤ k → o.fields k ≡ None
none_past table objects o k is past = by (contract_at table o.contract) is past
  where
    by : (x : Option Contract) → IsSomeAnd x (λ c. IsObjectOf objects c o) → option_map_or (λ (c : Contract). length c.fields) x 0 ≤ k → o.fields k ≡ None
    by None is past = absurd is
    by (Some c) is past = not_some (o.fields k) (is.fields k ∙ ap (λ f. option_map_or (is_available o.state) f false) (slice_get_past c.fields k past))

values_are : (table : ClassTable) (xs ys : List Object) (a b : Object) → IsObject table xs a → IsObject table ys b → a.contract ≡ b.contract → same_values (field_count table a.contract) a.fields b.fields ≡ true → a.fields ≡ b.fields
values_are table xs ys a b is also same h = fun_ext (λ k. by k (nat_lt k (field_count table a.contract)) refl)
  where
    by : (k : ℕ) (below : Bool) → nat_lt k (field_count table a.contract) ≡ below → a.fields k ≡ b.fields k
    by k true e = option_is same_value (a.fields k) (b.fields k) (λ x y f g. value_is x y)
        (all_below_at (field_count table a.contract) (λ i. option_eq same_value (a.fields i) (b.fields i)) h k (ltb-true k (field_count table a.contract) e))
    by k false e =
        let past : field_count table a.contract ≤ k = ltb-false k (field_count table a.contract) e in
        none_past table xs a k is past ∙ sym (none_past table ys b k also (subst (λ c. field_count table c ≤ k) same past))

object_is : (table : ClassTable) (xs ys : List Object) (a b : Object) → IsObject table xs a → IsObject table ys b → same_object table a b ≡ true → a ≡ b
object_is table xs ys a b is also h =
    let p = both_true _ _ h in
    let q = both_true _ _ p.1 in
    let r = both_true _ _ q.1 in
    let s = both_true _ _ r.1 in
    let contract : a.contract ≡ b.contract = ap (λ n. record { 0 = n }) ((Decides-eqb a.contract.0 b.contract.0).0 p.0) in
    ap (λ x. record a { contract = x }) contract
    ∙ ap (λ x. record a { contract = b.contract; state = x }) (option_is same_state a.state b.state (λ x y f g. state_is x y) q.0)
    ∙ ap (λ x. record a { contract = b.contract; state = b.state; shared = x }) (truth_is a.shared b.shared r.0)
    ∙ ap (λ x. record a { contract = b.contract; state = b.state; shared = b.shared; disowned = x }) (truth_is a.disowned b.disowned s.0)
    ∙ ap (λ x. record b { fields = x }) (values_are table xs ys a b is also contract s.1)

object_itself : (table : ClassTable) (a : Object) → same_object table a a ≡ true
object_itself table a =
    ap (λ b. b && (option_eq same_state a.state a.state && (same_truth a.shared a.shared && (same_truth a.disowned a.disowned && same_values (field_count table a.contract) a.fields a.fields))))
    ((Decides-eqb a.contract.0 a.contract.0).1 refl)
    ∙ ap (λ b. b && (same_truth a.shared a.shared && (same_truth a.disowned a.disowned && same_values (field_count table a.contract) a.fields a.fields)))
    (option_itself same_state a.state (λ s. (Decides-eqb s.0 s.0).1 refl))
    ∙ ap (λ b. b && (same_truth a.disowned a.disowned && same_values (field_count table a.contract) a.fields a.fields)) (truth_itself a.shared)
    ∙ ap (λ b. b && same_values (field_count table a.contract) a.fields a.fields) (truth_itself a.disowned)
    ∙ all_below_from (field_count table a.contract) (λ i. option_eq same_value (a.fields i) (a.fields i)) (λ i lt. option_itself same_value (a.fields i) value_itself)

-- Items.

-- an item that is the same is one on which the contents agree
item_is : (table : ClassTable) (c d : Content) (n : ℕ) → IsContent table c → IsContent table d → is_same_item table c d (object_item n) ≡ true → object_at d.objects n ≡ object_at c.objects n
item_is table c d n is also h = sym (option_is (same_object table) (object_at c.objects n) (object_at d.objects n) (λ a b e f. object_is table c.objects d.objects a b
    (item_of (IsObject table c.objects) c.objects is.objects n a e) (item_of (IsObject table d.objects) d.objects also.objects n b f)) h)

no_conflict : (table : ClassTable) (c d : Content) (items : List ReadItem) (i : ReadItem) → conflicts table c d items ≡ false → Contains items i → is_same_item table c d i ≡ true
no_conflict table c d items i h has = by (is_same_item table c d i) refl
  where
    by : (b : Bool) → is_same_item table c d i ≡ b → is_same_item table c d i ≡ true
    by true e = e
    by false e = absurd (true≢false (sym (list_any_at (λ item. not (is_same_item table c d item)) items has.0 i has.1 (ap (λ item. not (is_same_item table c d item)) has.2 ∙ ap not e)) ∙ h))

pub agree_if : (table : ClassTable) (c d : Content) (items : List ReadItem) → IsContent table c → IsContent table d → conflicts table c d items ≡ false → AgreeOn items c d
agree_if table c d items is also h = record {
  objects = record {
    objects = λ n has. item_is table c d n is also (no_conflict table c d items (object_item n) h has);
    next = λ has. sym ((Decides-eqb (length c.objects) (length d.objects)).0 (no_conflict table c d items next_item h has));
  };
  handles = λ name has. sym (option_is same_handle (handle_at c name) (handle_at d name) (λ a b e f. handle_is a b) (no_conflict table c d items (handle_item name) h has));
  full = λ has. sym (truth_is (are_handles_full c) (are_handles_full d) (no_conflict table c d items handles_full_item h has));
}

same_if : (table : ClassTable) (c d : Content) (items : List ReadItem) (i : ReadItem) → AgreeOn items c d → Contains items i → is_same_item table c d i ≡ true
same_if table c d items (object_item n) a has = ap (λ x. option_eq (same_object table) (object_at c.objects n) x) (a.objects.objects n has) ∙ option_itself (same_object table) (object_at c.objects n) (object_itself table)
same_if table c d items next_item a has = (Decides-eqb (length c.objects) (length d.objects)).1 (sym (a.objects.next has))
same_if table c d items (handle_item name) a has = ap (λ x. option_eq same_handle (handle_at c name) x) (a.handles name has) ∙ option_itself same_handle (handle_at c name) handle_itself
same_if table c d items handles_full_item a has = ap (same_truth (are_handles_full c)) (a.full has) ∙ truth_itself (are_handles_full c)

none_differs : (table : ClassTable) (c d : Content) (items : List ReadItem) → ((i : ReadItem) → Contains items i → is_same_item table c d i ≡ true) → conflicts table c d items ≡ false
none_differs table c d [] f = refl
none_differs table c d (x ∷ items) f =
    ap (λ b. not b || conflicts table c d items) (f x (0, omega arith, refl)) ∙ none_differs table c d items (λ i has. f i (Contains-append_right (x ∷ []) items i has))

pub conflicts_are_differences : (table : ClassTable) (c d : Content) (items : List ReadItem) → IsContent table c → IsContent table d
    → (conflicts table c d items ≡ false → AgreeOn items c d) × (AgreeOn items c d → conflicts table c d items ≡ false)
conflicts_are_differences table c d items is also = (agree_if table c d items is also, λ a. none_differs table c d items (λ i has. same_if table c d items i a has))
