-- Whether changes that are spelled may be said of a content.
use Rattle.std.proofs.Common.{◌≡◌, ◌⊎◌, inl, inr, ℕ, zero, suc, ◌+◌, ◌<◌, ◌≤◌, Bool, true, false, cond, List, [], ◌∷◌, length, Option, Some, None, refl, sym, ◌∙◌, ap, arith, true≢false}
use Rattle.std.specs.Prelude.{nat_eq, nat_lt, filter, slice_get, is_some, IsSomeAnd, IfSome, if◌then◌else◌}
use Rattle.std.specs.Option.{option_map_or}
use Rattle.std.specs.declared.cmp.Ordering.TheVariants.{Less}
use Rattle.std.proofs.lemmas.Bool.{cases_lt}
use Rattle.ob_base.specs.Limits.{most_objects, most_handles}
use Rattle.ob_base.specs.Names.{is_label, is_text}
use Rattle.ob_base.specs.Numbers.{is_int}
use Rattle.ob_base.specs.declared.id.StateId.{StateId}
use Rattle.ob_table.specs.Tables.{ClassTable, contract_at}
use Rattle.ob_table.specs.declared.contract.Contract.{Contract}
use Rattle.ob_table.specs.declared.contract.Field.{Field}
use Rattle.ob_table.specs.declared.contract.ResolvedType.{ResolvedType}
use Rattle.ob_table.specs.declared.contract.ResolvedType.TheVariants.{Int, Bool as BoolKind, Text, Reference}
use Rattle.ob_format_spec.specs.Combinators.{Each}
use Rattle.ob_heap_spec.specs.Values.{Value, int_value, bool_value, text_value, reference, nothing, put}
use Rattle.ob_heap_spec.specs.Objects.{Object, has_field, is_available}
use Rattle.ob_heap_spec.specs.Contents.{HandleName, Handle, Content, name_order, IsValueOf, IsStateOf, IsObjectOf, IsObject}
use Rattle.ob_store_spec.specs.Payloads.{StoredObject, Changes, available_count, object, payload}
use Rattle.ob_store_spec.specs.Changes.{fields_from, object_of, with_changes, AreNext, IsHandleChange, AreChangesOf}
use Rattle.ob_service_laws.proofs.Deciding.{Decided, decided_as, both_decided, less_decided, at_most_decided, true_decided, false_decided, order_decided, nil_decided, some_decided, if_some_decided, all_decided, each_decided, pairs_decided, AllBelow, below_decided}

-- ---- the values of an object's fields

module _ {X : Type 0} (p : X → Bool) where
  none_by : (x : X) (xs : List X) (b : Bool) → p x ≡ b → 0 ≡ length (cond b (x ∷ filter p xs) (filter p xs)) → ((j : ℕ) → 0 ≡ length (filter p xs) → option_map_or p (slice_get xs j) false ≡ false)
      → (i : ℕ) → option_map_or p (slice_get (x ∷ xs) i) false ≡ false
  none_by x xs true is none later i = absurd (omega (arith, none))
  none_by x xs false is none later zero = is
  none_by x xs false is none later (suc j) = later j none

  -- where a test passes none, no item passes it
  none_pass : (xs : List X) (i : ℕ) → 0 ≡ length (filter p xs) → option_map_or p (slice_get xs i) false ≡ false
  none_pass [] i none = refl
  none_pass (x ∷ xs) i none = none_by x xs (p x) refl none (λ j rest. none_pass xs j rest) i

lower : (j k : ℕ) → j < k → nat_eq j k ≡ false
lower j k less = grind arith

higher : (k i : ℕ) → nat_eq (k + suc i) k ≡ false
higher k i = grind arith

itself : (k : ℕ) → nat_eq (k + 0) k ≡ true
itself k = grind arith

-- fields from a number on have no value below it
none_below : (k : ℕ) (fs : List Field) (state : Option StateId) (vs : List Value) (j : ℕ) → j < k → fields_from k fs state vs j ≡ None
none_below k [] state vs j low = refl
none_below k (f ∷ fs) state [] j low = refl
none_below k (f ∷ fs) state (v ∷ vs) j low =
    by (is_available state f) (none_below (suc k) fs state vs j (omega (arith, low))) (none_below (suc k) fs state (v ∷ vs) j (omega (arith, low)))
  where
    by : (b : Bool) → fields_from (suc k) fs state vs j ≡ None → fields_from (suc k) fs state (v ∷ vs) j ≡ None
        → (if b then put (fields_from (suc k) fs state vs) k v else fields_from (suc k) fs state (v ∷ vs)) j ≡ None
    by true here passed = ap (λ b. if b then Some v else fields_from (suc k) fs state vs j) (lower j k low) ∙ here
    by false here passed = passed

-- a field of these is available in a state
abbrev IsThere : List Field → Option StateId → ℕ → Bool
IsThere fs state i = option_map_or (is_available state) (slice_get fs i) false

-- fields from a number on have values just where they are available
abbrev HaveTheirs : ℕ → List Field → Option StateId → List Value → Type 0
HaveTheirs k fs state vs = length vs ≡ length (filter (is_available state) fs) → (i : ℕ) → is_some (fields_from k fs state vs (k + i)) ≡ IsThere fs state i

theirs_by : (k : ℕ) (f : Field) (fs : List Field) (state : Option StateId) (v : Value) (vs : List Value) (b : Bool) → is_available state f ≡ b
    → suc (length vs) ≡ length (cond b (f ∷ filter (is_available state) fs) (filter (is_available state) fs))
    → HaveTheirs (suc k) fs state vs → HaveTheirs (suc k) fs state (v ∷ vs)
    → (i : ℕ) → is_some ((if b then put (fields_from (suc k) fs state vs) k v else fields_from (suc k) fs state (v ∷ vs)) (k + i)) ≡ IsThere (f ∷ fs) state i
theirs_by k f fs state v vs true is count taken passed zero =
    ap (λ b. is_some (if b then Some v else fields_from (suc k) fs state vs (k + 0))) (itself k) ∙ sym is
theirs_by k f fs state v vs true is count taken passed (suc i) =
    ap (λ b. is_some (if b then Some v else fields_from (suc k) fs state vs (k + suc i))) (higher k i)
    ∙ ap (λ n. is_some (fields_from (suc k) fs state vs n)) (let same : k + suc i ≡ suc k + i = omega arith in same)
    ∙ taken (omega (arith, count)) i
theirs_by k f fs state v vs false is count taken passed zero =
    ap is_some (none_below (suc k) fs state (v ∷ vs) (k + 0) (omega arith)) ∙ sym is
theirs_by k f fs state v vs false is count taken passed (suc i) =
    ap (λ n. is_some (fields_from (suc k) fs state (v ∷ vs) n)) (let same : k + suc i ≡ suc k + i = omega arith in same) ∙ passed count i

have_theirs : (k : ℕ) (fs : List Field) (state : Option StateId) (vs : List Value) → HaveTheirs k fs state vs
have_theirs k [] state vs count i = refl
have_theirs k (f ∷ fs) state [] count i = sym (none_pass (is_available state) (f ∷ fs) i count)
have_theirs k (f ∷ fs) state (v ∷ vs) count i =
    theirs_by k f fs state v vs (is_available state f) refl count (have_theirs (suc k) fs state vs) (have_theirs (suc k) fs state (v ∷ vs)) i

-- ---- objects

value_decided : (objects : List Object) (kind : ResolvedType) (v : Value) → Decided (IsValueOf objects kind v)
value_decided objects Int (int_value z) = true_decided (is_int z)
value_decided objects Int (bool_value b) = inr (λ h. h)
value_decided objects Int (text_value bytes) = inr (λ h. h)
value_decided objects Int (reference n) = inr (λ h. h)
value_decided objects BoolKind (int_value z) = inr (λ h. h)
value_decided objects BoolKind (bool_value b) = inl tt
value_decided objects BoolKind (text_value bytes) = inr (λ h. h)
value_decided objects BoolKind (reference n) = inr (λ h. h)
value_decided objects Text (int_value z) = inr (λ h. h)
value_decided objects Text (bool_value b) = inr (λ h. h)
value_decided objects Text (text_value bytes) = true_decided (is_text bytes)
value_decided objects Text (reference n) = inr (λ h. h)
value_decided objects (Reference id p) (int_value z) = inr (λ h. h)
value_decided objects (Reference id p) (bool_value b) = inr (λ h. h)
value_decided objects (Reference id p) (text_value bytes) = inr (λ h. h)
value_decided objects (Reference id p) (reference n) = less_decided n (length objects)

state_decided : (c : Contract) (state : Option StateId) → Decided (IsStateOf c state)
state_decided c None = nil_decided c.states
state_decided c (Some s) = less_decided s.0 (length c.states)

past_end : {X : Type 0} (xs : List X) (k : ℕ) → length xs ≤ k → slice_get xs k ≡ None
past_end [] k past = refl
past_end (x ∷ xs) zero past = absurd (omega (arith, past))
past_end (x ∷ xs) (suc k) past = past_end xs k (omega (arith, past))

no_value : {X : Type 0} (P : X → Type 0) (o : Option X) → is_some o ≡ false → IfSome o P
no_value P None none = tt
no_value P (Some x) none = absurd (true≢false none)

module _ (objects : List Object) (c : Contract) (o : Object) (has : (k : ℕ) → is_some (o.fields k) ≡ has_field c o.state k) where
  -- the value of a field, if it has one, is of its kind
  abbrev IsOfKind : ℕ → Type 0
  IsOfKind k = IfSome (o.fields k) (λ v. IsSomeAnd (slice_get c.fields k) (λ f. IsValueOf objects f.of v))

  kind_decided : (k : ℕ) → Decided (IsOfKind k)
  kind_decided k =
      if_some_decided (λ v. IsSomeAnd (slice_get c.fields k) (λ f. IsValueOf objects f.of v))
      (λ v. some_decided (λ (f : Field). IsValueOf objects f.of v) (λ f. value_decided objects f.of v) (slice_get c.fields k)) (o.fields k)

  all_kinds : AllBelow IsOfKind (length c.fields) → (k : ℕ) → IsOfKind k
  all_kinds below k = by (cases_lt k (length c.fields))
    where
      by : (k < length c.fields) ⊎ (length c.fields ≤ k) → IsOfKind k
      by (inl within) = below k within
      by (inr past) = no_value _ (o.fields k) (has k ∙ ap (λ f. option_map_or (is_available o.state) f false) (past_end c.fields k past))

  values_decided : Decided ((k : ℕ) → IsOfKind k)
  values_decided = decided_as all_kinds (λ all k within. all k) (below_decided IsOfKind kind_decided (length c.fields))

  object_of_decided : Decided (IsObjectOf objects c o)
  object_of_decided =
      decided_as (λ p. record { contract = p.0; state = p.1.0; fields = has; values = p.1.1 }) (λ is. (is.contract, (is.state, is.values)))
      (both_decided (false_decided c.interface) (both_decided (state_decided c o.state) values_decided))

-- what is spelled of an object has as many values as fields are available
values_counted : (table : ClassTable) (o : StoredObject) → (object table).fits o → length o.values ≡ available_count table o.contract o.state
unfolding object
values_counted table o fits = fits.1.0

object_decided : (table : ClassTable) (objects : List Object) (o : StoredObject) → (object table).fits o → Decided (IsObject table objects (object_of table o))
object_decided table objects o fits = by (contract_at table o.contract) refl
  where
    by : (r : Option Contract) → contract_at table o.contract ≡ r → Decided (IsSomeAnd r (λ c. IsObjectOf objects c (object_of table o)))
    by None is = inr (λ h. h)
    by (Some c) is =
        let count : length o.values ≡ length (filter (is_available o.state) c.fields) =
        values_counted table o fits ∙ ap (λ (r : Option Contract). option_map_or (λ c. length (filter (is_available o.state) c.fields)) r 0) is in
        object_of_decided objects c (object_of table o) (λ k.
        ap (λ (r : Option Contract). is_some (option_map_or (λ c. fields_from 0 c.fields o.state o.values) r nothing k)) is
        ∙ ap (λ n. is_some (fields_from 0 c.fields o.state o.values n)) (let same : k ≡ 0 + k = omega arith in same)
        ∙ have_theirs 0 c.fields o.state o.values count k)

-- ---- changes

next_decided : (count : ℕ) (os : List StoredObject) → Decided (AreNext count os)
next_decided count [] = inl tt
next_decided count (o ∷ os) = both_decided (at_most_decided o.number count) (next_decided (if nat_lt o.number count then count else suc count) os)

handle_decided : (count : ℕ) (h : HandleName × Option Handle) → Decided (IsHandleChange count h)
handle_decided count h =
    decided_as (λ p. record { who = p.0; name = p.1.0; object = p.1.1 }) (λ is. (is.who, (is.name, is.object)))
    (both_decided (true_decided (is_label h.0.who))
    (both_decided (true_decided (is_label h.0.name)) (if_some_decided (λ (x : Handle). x.object < count) (λ x. less_decided x.object count) h.1)))

-- the objects of what is spelled are spelled
objects_fit : (table : ClassTable) (changes : Changes) → (payload table).fits changes → Each (object table).fits changes.objects
unfolding payload
objects_fit table changes fits = fits.0.1.1

pub changes_decided : (table : ClassTable) (content : Content) (changes : Changes) → (payload table).fits changes → Decided (AreChangesOf table content changes)
changes_decided table content changes fits =
    let after = with_changes table content changes in
    decided_as (λ p. record { ascending = p.0; next = p.1.0; objects = p.1.1.0; in_order = p.1.1.1.0; handles = p.1.1.1.1.0; few_objects = p.1.1.1.1.1.0; few_handles = p.1.1.1.1.1.1 })
    (λ are. (are.ascending, (are.next, (are.objects, (are.in_order, (are.handles, (are.few_objects, are.few_handles)))))))
    (both_decided (pairs_decided (λ (a b : StoredObject). a.number < b.number) (λ a b. less_decided a.number b.number) changes.objects)
    (both_decided (next_decided (length content.objects) changes.objects)
    (both_decided (each_decided (λ o. IsObject table after.objects (object_of table o)) (object table).fits (object_decided table after.objects) changes.objects (objects_fit table changes fits))
    (both_decided (pairs_decided (λ (a b : HandleName × Option Handle). name_order a.0 b.0 ≡ Less) (λ a b. order_decided (name_order a.0 b.0)) changes.handles)
    (both_decided (all_decided (IsHandleChange (length after.objects)) (handle_decided (length after.objects)) changes.handles)
    (both_decided (at_most_decided (length after.objects) most_objects) (at_most_decided (length after.handles) most_handles)))))))
