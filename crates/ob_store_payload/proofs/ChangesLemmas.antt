-- Whether what a delta says are changes of a content, by its parts.
use Rattle.std.proofs.Common.{◌≡◌, ◌∙◌, ℕ, suc, ◌+◌, ◌<◌, ◌≤◌, Bool, true, List, [], ◌∷◌, length, map, Option, Some, None, refl, sym, ap, subst, arith}
use Rattle.std.specs.Prelude.{T, nat_le, nat_lt, ◌&&◌, is_some, IsSomeAnd, IfSome, All, AllPairs, if◌then◌else◌}
use Rattle.std.specs.Option.{option_map_or}
use Rattle.std.specs.List.{list_all}
use Rattle.std.specs.declared.cmp.Ordering.TheVariants.{Less}
use Rattle.std.proofs.lemmas.List.{length-map}
use Rattle.std.proofs.lemmas.List.Elements.{All-cons, All-nil, All-head, All-tail, All-weaker}
use Rattle.std.proofs.lemmas.List.Sums.{AllPass-from_list_all, list_all-from_AllPass}
use Rattle.ob_base.specs.Limits.{most_objects, most_handles}
use Rattle.ob_base.specs.Names.{is_label}
use Rattle.ob_base.proofs.OptionalLemmas.{both_true}
use Rattle.ob_table.specs.Tables.{ClassTable, contract_at}
use Rattle.ob_table.specs.declared.contract.Contract.{Contract}
use Rattle.ob_heap.specs.Ascending.{IsBelowAll}
use Rattle.ob_heap.specs.Contents.{Stored, content_of, name_of, named_of}
use Rattle.ob_heap.specs.Deltas.{label_order, with_handles}
use Rattle.ob_heap.specs.Deltas as kept
use Rattle.ob_heap.specs.Differences.{with_objects}
use Rattle.ob_heap.specs.Plain.{object_of}
use Rattle.ob_heap.specs.declared.delta.Delta.{Delta}
use Rattle.ob_heap_spec.specs.Contents.{HandleName, Handle as PlainHandle, Content, IsObjectOf, IsObject, name_order}
use Rattle.ob_heap_spec.specs.Objects.{Object as PlainObject}
use Rattle.ob_heap_spec.specs.Values.{nothing}
use Rattle.ob_store_spec.specs.Between.{stored_object, values_from}
use Rattle.ob_store_spec.specs.Payloads.{StoredObject}
use Rattle.ob_store_spec.specs.Changes.{with_changes, fields_from, AreNext, IsHandleChange, AreChangesOf}
use Rattle.ob_store_spec.specs.Changes as stored
use Rattle.ob_store_laws.specs.Recorded.{object_change, handle_change, changes_of, content_with, IsDeltaOf}
use Rattle.ob_store_laws.proofs.Again.{fields_again}
use Rattle.ob_store_laws.proofs.Entries.{sorted_of, of_sorted, sorted_map}
use Rattle.ob_store_laws.proofs.Handles.{handles_follow}
use Rattle.ob_store_laws.proofs.Made.{objects_follow}
use Rattle.ob_store_payload.specs.Values.{HasItsValues}
use Rattle.ob_store_payload.specs.Conditions.{is_handle_change, is_object, are_in_order, are_handles, may_be_said}
use Rattle.ob_store_payload.proofs.ConditionLemmas.{Numbered, Ascend, HandleChange, true_of, of_true}
use Rattle.ob_store_payload.proofs.ObjectLemmas.{below, is_below, and_true, object_from, object_to}

-- Handles.

handle_from : (count : ℕ) (h : HandleName × Option PlainHandle) → is_handle_change count h ≡ true → IsHandleChange count h
handle_from count (n, r) e =
    let parts = both_true (is_label n.who && is_label n.name) (option_map_or (λ (x : PlainHandle). nat_lt x.object count) r true) e in
    let labels = both_true (is_label n.who) (is_label n.name) parts.0 in
    record { who = labels.0; name = labels.1; object = by r parts.1 }
  where
    by : (r : Option PlainHandle) → option_map_or (λ (x : PlainHandle). nat_lt x.object count) r true ≡ true → IfSome r (λ x. x.object < count)
    by None e = tt
    by (Some x) e = below x.object count e

handle_to : (count : ℕ) (h : HandleName × Option PlainHandle) → IsHandleChange count h → is_handle_change count h ≡ true
handle_to count (n, r) is =
    and_true (is_label n.who && is_label n.name) (option_map_or (λ (x : PlainHandle). nat_lt x.object count) r true)
    (and_true (is_label n.who) (is_label n.name) is.who is.name) (by r is.object)
  where
    by : (r : Option PlainHandle) → IfSome r (λ x. x.object < count) → option_map_or (λ (x : PlainHandle). nat_lt x.object count) r true ≡ true
    by None l = refl
    by (Some x) l = is_below x.object count l

-- The parts of changes, as the delta has them.

all_of_map : {A B : Type 0} (P : B → Type 0) (f : A → B) (xs : List A) → All P (map f xs) → All (λ x. P (f x)) xs
all_of_map P f [] all = All-nil (λ x. P (f x))
all_of_map P f (x ∷ xs) all = All-cons (λ y. P (f y)) x xs (All-head P (f x) (map f xs) all) (all_of_map P f xs (All-tail P (f x) (map f xs) all))

both_all : {A : Type 0} (P Q R : A → Type 0) → ((x : A) → P x → Q x → R x) → (xs : List A) → All P xs → All Q xs → All R xs
both_all P Q R each xs p q k d inside = each _ (p k d inside) (q k d inside)

module _ (table : ClassTable) where
  below_of : (n : ℕ) (es : List Numbered) → All (λ (o : StoredObject). n < o.number) (map (object_change table) es) → IsBelowAll (λ (e : Numbered). e.0.0) n es
  below_of n [] all = tt
  below_of n (e ∷ es) all = (
    All-head (λ (o : StoredObject). n < o.number) (object_change table e) (map (object_change table) es) all,
    below_of n es (All-tail (λ (o : StoredObject). n < o.number) (object_change table e) (map (object_change table) es) all),
  )

  ascend_of : (es : List Numbered) → AllPairs (λ (a b : StoredObject). a.number < b.number) (map (object_change table) es) → Ascend es
  ascend_of [] up = tt
  ascend_of (e ∷ es) up =
      (below_of e.0.0 es (λ j d inside. up 0 (suc j) d (omega arith) (omega arith)), ascend_of es (λ i j d later inside. up (suc i) (suc j) d (omega arith) (omega arith)))

  next_of : (count : ℕ) (es : List Numbered) → AreNext count (map (object_change table) es) → kept.AreNext count es
  next_of count [] is = tt
  next_of count (e ∷ es) is = (is.0, next_of (if nat_lt e.0.0 count then count else suc count) es is.1)

  -- an object that has its values is again the same, if what is made of it is one of the table
  again : (objects : List PlainObject) (n : ℕ) (o : PlainObject) → IsObject table objects (stored.object_of table (stored_object table n o)) → HasItsValues table o
      → stored.object_of table (stored_object table n o) ≡ o
  again objects n o is have = ap (λ fields. record o { fields = fields }) (by (contract_at table o.contract) refl is)
    where
      by : (r : Option Contract) → contract_at table o.contract ≡ r → IsSomeAnd r (λ c. IsObjectOf objects c (stored.object_of table (stored_object table n o)))
          → option_map_or (λ c. fields_from 0 c.fields o.state (option_map_or (λ c. values_from 0 c.fields o.state o.fields) r [])) r nothing ≡ o.fields
      by None at is = absurd is
      by (Some c) at is =
          fields_again c.fields o.state o.fields (λ i. let same : 0 + i ≡ i = omega arith in ap (λ k. is_some (o.fields k)) same ∙ have c at i)

module _ (table : ClassTable) (base : Stored) (delta : Delta) (have : All (λ (e : Numbered). HasItsValues table (object_of e.1)) delta.objects) where
  abbrev changed : Content
  changed = with_changes table (content_of base) (changes_of table delta)

  -- an object is one of the table where there are these
  abbrev IsOne : List PlainObject → Numbered → Type 0
  IsOne objects e = IsObject table objects (object_of e.1)

  module _ (are : AreChangesOf table (content_of base) (changes_of table delta)) where
    ones : All (IsOne changed.objects) delta.objects
    ones =
        both_all (λ (e : Numbered). IsObject table changed.objects (stored.object_of table (object_change table e))) (λ (e : Numbered). HasItsValues table (object_of e.1)) (IsOne changed.objects)
        (λ e is has. subst (IsObject table changed.objects) (again table changed.objects e.0.0 (object_of e.1) is has) is) delta.objects
        (all_of_map (λ o. IsObject table changed.objects (stored.object_of table o)) (object_change table) delta.objects are.objects) have

    object_count : length changed.objects ≡ length (with_objects base.objects delta.objects)
    object_count = ap length (objects_follow table changed.objects base.objects delta.objects ones) ∙ length-map (with_objects base.objects delta.objects) object_of

    handle_count : length changed.handles ≡ length (with_handles base.handles delta.handles)
    handle_count = sym (ap length (handles_follow base.handles delta.handles)) ∙ length-map (with_handles base.handles delta.handles) named_of

    pub they_follow : Ascend delta.objects × kept.AreNext (length base.objects) delta.objects
    they_follow = (
      ascend_of table delta.objects are.ascending,
      next_of table (length base.objects) delta.objects (subst (λ n. AreNext n (changes_of table delta).objects) (length-map base.objects object_of) are.next),
    )

    in_order : are_in_order delta.handles ≡ true
    in_order = true_of (are_in_order delta.handles) (sorted_of label_order delta.handles (pairs delta.handles are.in_order))
      where
        pairs : (ds : List HandleChange) → AllPairs (λ a b. name_order a.0 b.0 ≡ Less) (map handle_change ds) → AllPairs (λ (a b : HandleChange). label_order a.0 b.0 ≡ Less) ds
        pairs ds all = of_sorted label_order ds (subst T (sym (sorted_map label_order name_order handle_change name_of (λ d. refl) (λ a b. refl) ds)) (sorted_of name_order (map handle_change ds) all))

    pub they_may_be_said : (count : ℕ) → count ≡ length (with_objects base.objects delta.objects) → may_be_said table base.handles count delta ≡ true
    they_may_be_said count is =
        let same : length changed.objects ≡ count = object_count ∙ sym is in
        let few = are.few_objects in
        let few_handles = are.few_handles in
        let handle_long = handle_count in
        let objects = list_all-from_AllPass (λ (e : Numbered). is_object table count (object_of e.1)) delta.objects
        (All-weaker (IsOne changed.objects) (λ (e : Numbered). is_object table count (object_of e.1) ≡ true)
        (λ e one. ap (λ n. is_object table n (object_of e.1)) (sym same) ∙ object_to table changed.objects (object_of e.1) one) delta.objects ones) in
        let handles = list_all-from_AllPass (λ (e : HandleChange). is_handle_change count (handle_change e)) delta.handles
        (All-weaker (λ (e : HandleChange). IsHandleChange (length changed.objects) (handle_change e)) (λ (e : HandleChange). is_handle_change count (handle_change e) ≡ true)
        (λ e one. ap (λ n. is_handle_change n (handle_change e)) (sym same) ∙ handle_to (length changed.objects) (handle_change e) one) delta.handles
        (all_of_map (IsHandleChange (length changed.objects)) handle_change delta.handles are.handles)) in
        and_true (nat_le count most_objects && list_all (λ (e : Numbered). is_object table count (object_of e.1)) delta.objects) (are_handles base.handles count delta.handles)
        (and_true (nat_le count most_objects) (list_all (λ (e : Numbered). is_object table count (object_of e.1)) delta.objects) (at_most count most_objects (omega arith)) objects)
        (and_true (are_in_order delta.handles && list_all (λ (e : HandleChange). is_handle_change count (handle_change e)) delta.handles) (nat_le (length (with_handles base.handles delta.handles)) most_handles)
        (and_true (are_in_order delta.handles) (list_all (λ (e : HandleChange). is_handle_change count (handle_change e)) delta.handles) in_order handles)
        (at_most (length (with_handles base.handles delta.handles)) most_handles (omega arith)))
      where
        at_most : (m n : ℕ) → m ≤ n → nat_le m n ≡ true
        at_most m n l = grind arith

  pub is_delta_of : (items : List Numbered) (count : ℕ) (answer : Bool) → items ≡ delta.objects
      → Ascend items × kept.AreNext (length base.objects) items × (count ≡ length (with_objects base.objects items))
      → answer ≡ may_be_said table base.handles count delta → answer ≡ true → IsDeltaOf table base delta
  is_delta_of items count answer same_objects they is_answer says = record {
    is_delta = record { objects = follow.0; next = follow.1; handles = of_sorted label_order delta.handles (of_true (are_in_order delta.handles) listed.0) };
    objects = both_all (λ (e : Numbered). is_object table count (object_of e.1) ≡ true) (λ (e : Numbered). HasItsValues table (object_of e.1)) (IsOne (content_with base delta).objects)
        (λ e one has. object_from table (content_with base delta).objects (object_of e.1) has (sym (ap (λ n. is_object table n (object_of e.1)) same) ∙ one)) delta.objects
        (AllPass-from_list_all (λ (e : Numbered). is_object table count (object_of e.1)) delta.objects counted.1) have;
    handles = All-weaker (λ (e : HandleChange). is_handle_change count (handle_change e) ≡ true) (λ (e : HandleChange). IsHandleChange (length (content_with base delta).objects) (handle_change e))
        (λ e one. handle_from (length (content_with base delta).objects) (handle_change e) (sym (ap (λ n. is_handle_change n (handle_change e)) same) ∙ one)) delta.handles
        (AllPass-from_list_all (λ (e : HandleChange). is_handle_change count (handle_change e)) delta.handles listed.1);
    few_objects = omega (arith, same, at_least count most_objects counted.0);
    few_handles = omega (arith, length-map (with_handles base.handles delta.handles) named_of, at_least (length (with_handles base.handles delta.handles)) most_handles held.1);
  }
    where
      follow : Ascend delta.objects × kept.AreNext (length base.objects) delta.objects × (count ≡ length (with_objects base.objects delta.objects))
      follow = subst (λ l. Ascend l × kept.AreNext (length base.objects) l × (count ≡ length (with_objects base.objects l))) same_objects they

      same : count ≡ length (content_with base delta).objects
      same = follow.2 ∙ sym (length-map (with_objects base.objects delta.objects) object_of)

      whole : ((nat_le count most_objects && list_all (λ (e : Numbered). is_object table count (object_of e.1)) delta.objects) ≡ true) × (are_handles base.handles count delta.handles ≡ true)
      whole = both_true (nat_le count most_objects && list_all (λ (e : Numbered). is_object table count (object_of e.1)) delta.objects) (are_handles base.handles count delta.handles) (sym is_answer ∙ says)

      counted : (nat_le count most_objects ≡ true) × (list_all (λ (e : Numbered). is_object table count (object_of e.1)) delta.objects ≡ true)
      counted = both_true (nat_le count most_objects) (list_all (λ (e : Numbered). is_object table count (object_of e.1)) delta.objects) whole.0

      held : ((are_in_order delta.handles && list_all (λ (e : HandleChange). is_handle_change count (handle_change e)) delta.handles) ≡ true)
          × (nat_le (length (with_handles base.handles delta.handles)) most_handles ≡ true)
      held = both_true (are_in_order delta.handles && list_all (λ (e : HandleChange). is_handle_change count (handle_change e)) delta.handles)
          (nat_le (length (with_handles base.handles delta.handles)) most_handles) whole.1

      listed : (are_in_order delta.handles ≡ true) × (list_all (λ (e : HandleChange). is_handle_change count (handle_change e)) delta.handles ≡ true)
      listed = both_true (are_in_order delta.handles) (list_all (λ (e : HandleChange). is_handle_change count (handle_change e)) delta.handles) held.0

      at_least : (m n : ℕ) → nat_le m n ≡ true → m ≤ n
      at_least m n e = grind arith
