-- An object of a class table is again the same, where it is made of what is stored of it.
use Rattle.std.proofs.Common.{◌≡◌, ◌∙◌, ℕ, zero, suc, ◌+◌, ◌<◌, Bool, true, false, cond, List, [], ◌∷◌, ◌++◌, length, Option, Some, None, refl, sym, ap, arith, true≢false}
use Rattle.std.proofs.Math.Path.{fun_ext}
use Rattle.std.specs.Prelude.{nat_eq, is_some, IsSomeAnd, filter, slice_get, option_to_list, if◌then◌else◌}
use Rattle.std.specs.Option.{option_map_or}
use Rattle.ob_base.specs.declared.id.StateId.{StateId}
use Rattle.ob_table.specs.Tables.{ClassTable, contract_at}
use Rattle.ob_table.specs.declared.contract.Contract.{Contract}
use Rattle.ob_table.specs.declared.contract.Field.{Field}
use Rattle.ob_heap_spec.specs.Values.{Value, Numbered, nothing, put}
use Rattle.ob_heap_spec.specs.Objects.{Object, is_available}
use Rattle.ob_heap_spec.specs.Contents.{IsObjectOf, IsObject}
use Rattle.ob_store_spec.specs.Between.{values_from, stored_object}
use Rattle.ob_store_spec.specs.Changes.{fields_from, object_of}

-- whether the field at a place among these is available
abbrev available_at : List Field → Option StateId → ℕ → Bool
available_at fs state i = option_map_or (is_available state) (slice_get fs i) false

-- just the available ones of these fields, the first of which has this number, have values
abbrev pub HaveValues : ℕ → List Field → Option StateId → Numbered Value → Type 0
HaveValues k fs state values = (i : ℕ) → is_some (values (k + i)) ≡ available_at fs state i

no_value : (r : Option Value) → is_some r ≡ false → r ≡ None
no_value None e = refl
no_value (Some v) e = absurd (true≢false e)

a_value : (r : Option Value) → is_some r ≡ true → (v : Value) × (r ≡ Some v)
a_value None e = absurd (true≢false (sym e))
a_value (Some v) e = (v, refl)

-- the value of the first field
first_value : (k : ℕ) (f : Field) (fs : List Field) (state : Option StateId) (values : Numbered Value) → HaveValues k (f ∷ fs) state values
    → is_some (values k) ≡ is_available state f
first_value k f fs state values have = let same : k ≡ k + 0 = omega arith in ap (λ n. is_some (values n)) same ∙ have 0

rest_values : (k : ℕ) (f : Field) (fs : List Field) (state : Option StateId) (values : Numbered Value) → HaveValues k (f ∷ fs) state values
    → HaveValues (suc k) fs state values
rest_values k f fs state values have i = let same : suc k + i ≡ k + suc i = omega arith in ap (λ n. is_some (values n)) same ∙ have (suc i)

apart : (j k : ℕ) → j < k → nat_eq j k ≡ false
apart j k h = grind arith

after : (k j : ℕ) → k < j → nat_eq j k ≡ false
after k j h = grind arith

itself : (k : ℕ) → nat_eq k k ≡ true
itself k = grind arith

-- no values, no fields
no_fields : (k : ℕ) (fs : List Field) (state : Option StateId) → fields_from k fs state [] ≡ nothing
no_fields k [] state = refl
no_fields k (f ∷ fs) state = refl

-- a field that isn't available takes no value
passed : (k : ℕ) (f : Field) (fs : List Field) (state : Option StateId) (vs : List Value) → is_available state f ≡ false
    → fields_from k (f ∷ fs) state vs ≡ fields_from (suc k) fs state vs
passed k f fs state [] e = sym (no_fields (suc k) fs state)
passed k f fs state (v ∷ vs) e = ap (λ b. if b then put (fields_from (suc k) fs state vs) k v else fields_from (suc k) fs state (v ∷ vs)) e

none_below : (k : ℕ) (fs : List Field) (state : Option StateId) (vs : List Value) (j : ℕ) → j < k → fields_from k fs state vs j ≡ None
none_below k [] state vs j low = refl
none_below k (f ∷ fs) state [] j low = refl
none_below k (f ∷ fs) state (v ∷ vs) j low =
    by (is_available state f) (none_below (suc k) fs state vs j (omega arith)) (none_below (suc k) fs state (v ∷ vs) j (omega arith))
  where
    by : (b : Bool) → fields_from (suc k) fs state vs j ≡ None → fields_from (suc k) fs state (v ∷ vs) j ≡ None
        → (if b then put (fields_from (suc k) fs state vs) k v else fields_from (suc k) fs state (v ∷ vs)) j ≡ None
    by true here passed = ap (λ b. if b then Some v else fields_from (suc k) fs state vs j) (apart j k low) ∙ here
    by false here passed = passed

-- the fields of the values of fields
each_again : (k : ℕ) (fs : List Field) (state : Option StateId) (values : Numbered Value) → HaveValues k fs state values
    → (i : ℕ) → fields_from k fs state (values_from k fs state values) (k + i) ≡ values (k + i)
each_again k [] state values have i = sym (no_value (values (k + i)) (have i))
each_again k (f ∷ fs) state values have i =
    by (is_available state f) refl (each_again (suc k) fs state values (rest_values k f fs state values have)) i
  where
    vs : List Value
    vs = values_from (suc k) fs state values

    by : (b : Bool) → is_available state f ≡ b → ((i : ℕ) → fields_from (suc k) fs state vs (suc k + i) ≡ values (suc k + i)) → (i : ℕ)
        → fields_from k (f ∷ fs) state (if b then option_to_list (values k) ++ vs else vs) (k + i) ≡ values (k + i)
    by true is rest zero = at_value (a_value (values k) (first_value k f fs state values have ∙ is))
      where
        same : k + 0 ≡ k
        same = omega arith

        at_value : (v : Value) × (values k ≡ Some v) → fields_from k (f ∷ fs) state (option_to_list (values k) ++ vs) (k + 0) ≡ values (k + 0)
        at_value (v, there) =
            ap (λ r. fields_from k (f ∷ fs) state (option_to_list r ++ vs) (k + 0)) there
            ∙ ap (λ b. (if b then put (fields_from (suc k) fs state vs) k v else fields_from (suc k) fs state (v ∷ vs)) (k + 0)) is
            ∙ ap (λ n. put (fields_from (suc k) fs state vs) k v n) same
            ∙ ap (λ b. if b then Some v else fields_from (suc k) fs state vs k) (itself k)
            ∙ sym there ∙ ap values (sym same)
    by true is rest (suc i) = at_value (a_value (values k) (first_value k f fs state values have ∙ is))
      where
        same : k + suc i ≡ suc k + i
        same = omega arith

        at_value : (v : Value) × (values k ≡ Some v) → fields_from k (f ∷ fs) state (option_to_list (values k) ++ vs) (k + suc i) ≡ values (k + suc i)
        at_value (v, there) =
            ap (λ r. fields_from k (f ∷ fs) state (option_to_list r ++ vs) (k + suc i)) there
            ∙ ap (λ b. (if b then put (fields_from (suc k) fs state vs) k v else fields_from (suc k) fs state (v ∷ vs)) (k + suc i)) is
            ∙ ap (λ n. put (fields_from (suc k) fs state vs) k v n) same
            ∙ ap (λ b. if b then Some v else fields_from (suc k) fs state vs (suc k + i)) (after k (suc k + i) (omega arith))
            ∙ rest i ∙ ap values (sym same)
    by false is rest zero =
        let same : k + 0 ≡ k = omega arith in
        ap (λ g. g (k + 0)) (passed k f fs state vs is)
        ∙ none_below (suc k) fs state vs (k + 0) (omega arith)
        ∙ sym (no_value (values k) (first_value k f fs state values have ∙ is)) ∙ ap values (sym same)
    by false is rest (suc i) =
        let same : k + suc i ≡ suc k + i = omega arith in
        ap (λ g. g (k + suc i)) (passed k f fs state vs is)
        ∙ ap (fields_from (suc k) fs state vs) same ∙ rest i ∙ ap values (sym same)

-- fields that have just the values of the available ones are again the same
pub fields_again : (fs : List Field) (state : Option StateId) (values : Numbered Value) → HaveValues 0 fs state values
    → fields_from 0 fs state (values_from 0 fs state values) ≡ values
fields_again fs state values have = fun_ext (λ j.
    let same : 0 + j ≡ j = omega arith in
    ap (fields_from 0 fs state (values_from 0 fs state values)) (sym same) ∙ each_again 0 fs state values have j ∙ ap values same)

-- an object of a contract has values in just its available fields
pub have_values : (objects : List Object) (c : Contract) (o : Object) → IsObjectOf objects c o → HaveValues 0 c.fields o.state o.fields
have_values objects c o is i = let same : 0 + i ≡ i = omega arith in ap (λ n. is_some (o.fields n)) same ∙ is.fields i

pub object_again : (table : ClassTable) (objects : List Object) (n : ℕ) (o : Object) → IsObject table objects o
    → object_of table (stored_object table n o) ≡ o
object_again table objects n o is = ap (λ fields. record o { fields = fields }) (by (contract_at table o.contract) is)
  where
    by : (r : Option Contract) → IsSomeAnd r (λ c. IsObjectOf objects c o)
        → option_map_or (λ c. fields_from 0 c.fields o.state (option_map_or (λ c. values_from 0 c.fields o.state o.fields) r [])) r nothing ≡ o.fields
    by None is = absurd is
    by (Some c) is = fields_again c.fields o.state o.fields (have_values objects c o is)

-- there are as many values as available fields
pub length-values : (k : ℕ) (fs : List Field) (state : Option StateId) (values : Numbered Value) → HaveValues k fs state values
    → length (values_from k fs state values) ≡ length (filter (is_available state) fs)
length-values k [] state values have = refl
length-values k (f ∷ fs) state values have = by (is_available state f) refl (length-values (suc k) fs state values (rest_values k f fs state values have))
  where
    vs : List Value
    vs = values_from (suc k) fs state values

    by : (b : Bool) → is_available state f ≡ b → length vs ≡ length (filter (is_available state) fs)
        → length (if b then option_to_list (values k) ++ vs else vs) ≡ length (cond b (f ∷ filter (is_available state) fs) (filter (is_available state) fs))
    by true is rest =
        let v = a_value (values k) (first_value k f fs state values have ∙ is) in
        ap (λ r. length (option_to_list r ++ vs)) v.1 ∙ ap suc rest
    by false is rest = rest
