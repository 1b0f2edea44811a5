-- Whether an object is one of a class table, by its parts.
use Rattle.std.proofs.Common.{◌≡◌, ◌∙◌, ℕ, zero, suc, ◌+◌, ◌<◌, Bool, true, false, List, [], ◌∷◌, length, Option, Some, None, refl, sym, ap, subst, arith, true≢false}
use Rattle.std.specs.Prelude.{not, nat_lt, ◌&&◌, is_some, slice_get, IsSomeAnd, IfSome, if◌then◌else◌}
use Rattle.std.specs.Option.{option_map_or}
use Rattle.std.specs.List.{list_all, enumerate_from}
use Rattle.ob_base.specs.declared.id.StateId.{StateId}
use Rattle.ob_base.proofs.OptionalLemmas.{both_true}
use Rattle.ob_table.specs.Tables.{ClassTable, contract_at}
use Rattle.ob_table.specs.declared.contract.Contract.{Contract}
use Rattle.ob_table.specs.declared.contract.Field.{Field}
use Rattle.ob_table.specs.declared.contract.ResolvedType.{ResolvedType}
use Rattle.ob_table.specs.declared.contract.ResolvedType.TheVariants.{Int, Bool as BoolKind, Text, Reference}
use Rattle.ob_heap_spec.specs.Contents.{IsValueOf, IsStateOf, IsObjectOf, IsObject}
use Rattle.ob_heap_spec.specs.Objects.{Object, has_field, is_available}
use Rattle.ob_heap_spec.specs.Values.{Value, int_value, bool_value, text_value, reference}
use Rattle.ob_rest_spec.specs.References.{available_value}
use Rattle.ob_store_payload.specs.Values.{HasItsValues}
use Rattle.ob_store_payload.specs.Conditions.{is_value_of, is_field_value, is_state_of, is_object_of, is_object}

pub below : (m n : ℕ) → nat_lt m n ≡ true → m < n
below m n e = grind arith

pub is_below : (m n : ℕ) → m < n → nat_lt m n ≡ true
is_below m n l = grind arith

pub and_true : (a b : Bool) → a ≡ true → b ≡ true → (a && b) ≡ true
and_true true b e f = f
and_true false b e f = absurd (true≢false (sym e))

-- Values.

module _ (objects : List Object) where
  value_from : (kind : ResolvedType) (v : Value) → is_value_of (length objects) kind v ≡ true → IsValueOf objects kind v
  value_from Int (int_value z) e = e
  value_from Int (bool_value z) e = absurd (true≢false (sym e))
  value_from Int (text_value z) e = absurd (true≢false (sym e))
  value_from Int (reference n) e = absurd (true≢false (sym e))
  value_from BoolKind (int_value z) e = absurd (true≢false (sym e))
  value_from BoolKind (bool_value z) e = tt
  value_from BoolKind (text_value z) e = absurd (true≢false (sym e))
  value_from BoolKind (reference n) e = absurd (true≢false (sym e))
  value_from Text (int_value z) e = absurd (true≢false (sym e))
  value_from Text (bool_value z) e = absurd (true≢false (sym e))
  value_from Text (text_value z) e = e
  value_from Text (reference n) e = absurd (true≢false (sym e))
  value_from (Reference id p) (int_value z) e = absurd (true≢false (sym e))
  value_from (Reference id p) (bool_value z) e = absurd (true≢false (sym e))
  value_from (Reference id p) (text_value z) e = absurd (true≢false (sym e))
  value_from (Reference id p) (reference n) e = below n (length objects) e

  value_to : (kind : ResolvedType) (v : Value) → IsValueOf objects kind v → is_value_of (length objects) kind v ≡ true
  value_to Int (int_value z) is = is
  value_to Int (bool_value z) is = absurd is
  value_to Int (text_value z) is = absurd is
  value_to Int (reference n) is = absurd is
  value_to BoolKind (int_value z) is = absurd is
  value_to BoolKind (bool_value z) is = refl
  value_to BoolKind (text_value z) is = absurd is
  value_to BoolKind (reference n) is = absurd is
  value_to Text (int_value z) is = absurd is
  value_to Text (bool_value z) is = absurd is
  value_to Text (text_value z) is = is
  value_to Text (reference n) is = absurd is
  value_to (Reference id p) (int_value z) is = absurd is
  value_to (Reference id p) (bool_value z) is = absurd is
  value_to (Reference id p) (text_value z) is = absurd is
  value_to (Reference id p) (reference n) is = is_below n (length objects) is

-- States.

no_less : (n : ℕ) → not (nat_lt 0 (suc n)) ≡ true → true ≡ false
no_less n e = grind arith

state_from : (c : Contract) (s : Option StateId) → is_state_of c s ≡ true → IsStateOf c s
state_from c None e = by c.states e
  where
    by : {A : Type 0} (xs : List A) → not (nat_lt 0 (length xs)) ≡ true → xs ≡ []
    by [] e = refl
    by (x ∷ xs) e = absurd (true≢false (no_less (length xs) e))
state_from c (Some s) e = below s.0 (length c.states) e

state_to : (c : Contract) (s : Option StateId) → IsStateOf c s → is_state_of c s ≡ true
state_to c None is = ap (λ xs. not (nat_lt 0 (length xs))) is
state_to c (Some s) is = is_below s.0 (length c.states) is

-- Fields.

module _ {A : Type 0} (p : (ℕ × A) → Bool) where
  each_passes : (n : ℕ) (xs : List A) (k : ℕ) (x : A) → list_all p (enumerate_from n xs) ≡ true → slice_get xs k ≡ Some x → p (n + k, x) ≡ true
  each_passes n [] k x all at = absurd cc
  each_passes n (y ∷ ys) zero x all at =
      let same : n + 0 ≡ n = omega arith in
      ap (λ m. p (m, x)) same ∙ ap (λ r. option_map_or (λ z. p (n, z)) r true) (sym at) ∙ (both_true (p (n, y)) (list_all p (enumerate_from (n + 1) ys)) all).0
  each_passes n (y ∷ ys) (suc k) x all at =
      let same : n + suc k ≡ n + 1 + k = omega arith in
      ap (λ m. p (m, x)) same ∙ each_passes (n + 1) ys k x (both_true (p (n, y)) (list_all p (enumerate_from (n + 1) ys)) all).1 at

  all_pass : (n : ℕ) (xs : List A) → ((k : ℕ) (x : A) → slice_get xs k ≡ Some x → p (n + k, x) ≡ true) → list_all p (enumerate_from n xs) ≡ true
  all_pass n [] each = refl
  all_pass n (y ∷ ys) each =
      let same : n ≡ n + 0 = omega arith in
      and_true (p (n, y)) (list_all p (enumerate_from (n + 1) ys)) (ap (λ m. p (m, y)) same ∙ each 0 y refl)
      (all_pass (n + 1) ys (λ k x at. let on : n + 1 + k ≡ n + suc k = omega arith in ap (λ m. p (m, x)) on ∙ each (suc k) x at))

module _ (objects : List Object) (c : Contract) (o : Object) where
  -- a value is one of its field, if there is the field
  abbrev IsOfField : Option Field → Value → Type 0
  IsOfField f v = IsSomeAnd f (λ f. IsValueOf objects f.of v)

  values_from_test : ((k : ℕ) → is_some (o.fields k) ≡ has_field c o.state k) → list_all (is_field_value (length objects) c o) (enumerate_from 0 c.fields) ≡ true
      → (k : ℕ) → IfSome (o.fields k) (IsOfField (slice_get c.fields k))
  values_from_test have all k = by (o.fields k) (slice_get c.fields k) refl refl (have k)
    where
      by : (r : Option Value) (f : Option Field) → o.fields k ≡ r → slice_get c.fields k ≡ f → is_some (o.fields k) ≡ has_field c o.state k → IfSome r (IsOfField f)
      by None f at field has = tt
      by (Some v) None at field has = absurd (true≢false (sym (ap is_some at) ∙ has ∙ ap (λ r. option_map_or (is_available o.state) r false) field))
      by (Some v) (Some f) at field has =
          let same : k ≡ 0 + k = omega arith in
          let there : has_field c o.state k ≡ true = sym has ∙ ap is_some at in
          let value : available_value c o k ≡ Some v = ap (λ b. if b then o.fields k else None) there ∙ at in
          value_from objects f.of v (sym (ap (λ r. option_map_or (is_value_of (length objects) f.of) r true) value) ∙ ap (λ m. is_field_value (length objects) c o (m, f)) same ∙ each_passes (is_field_value (length objects) c o) 0 c.fields k f all field)

  test_from_values : IsObjectOf objects c o → list_all (is_field_value (length objects) c o) (enumerate_from 0 c.fields) ≡ true
  test_from_values is = all_pass (is_field_value (length objects) c o) 0 c.fields (λ k f at.
      let same : 0 + k ≡ k = omega arith in
      ap (λ m. is_field_value (length objects) c o (m, f)) same ∙ by k f at (has_field c o.state k) (o.fields k) refl (is.values k))
    where
      value_is : (k : ℕ) (f : Field) (v : Value) → slice_get c.fields k ≡ Some f → IsOfField (slice_get c.fields k) v → is_value_of (length objects) f.of v ≡ true
      value_is k f v at ok = value_to objects f.of v (subst (λ r. IsOfField r v) at ok)

      by : (k : ℕ) (f : Field) → slice_get c.fields k ≡ Some f → (b : Bool) (r : Option Value) → o.fields k ≡ r → IfSome (o.fields k) (IsOfField (slice_get c.fields k))
          → option_map_or (is_value_of (length objects) f.of) (if b then o.fields k else None) true ≡ true
      by k f at false r there ok = refl
      by k f at true None there ok = ap (λ r. option_map_or (is_value_of (length objects) f.of) r true) there
      by k f at true (Some v) there ok =
          ap (λ r. option_map_or (is_value_of (length objects) f.of) r true) there
          ∙ value_is k f v at (subst (λ r. IfSome r (IsOfField (slice_get c.fields k))) there ok)

-- Objects.

not_true : (b : Bool) → not b ≡ true → b ≡ false
not_true false e = refl
not_true true e = absurd (true≢false (sym e))

pub object_from : (table : ClassTable) (objects : List Object) (o : Object) → HasItsValues table o → is_object table (length objects) o ≡ true → IsObject table objects o
object_from table objects o have e = by (contract_at table o.contract) refl e
  where
    by : (r : Option Contract) → contract_at table o.contract ≡ r → option_map_or (is_object_of (length objects) o) r false ≡ true → IsSomeAnd r (λ c. IsObjectOf objects c o)
    by None at e = absurd (true≢false (sym e))
    by (Some c) at e =
        let fields = list_all (is_field_value (length objects) c o) (enumerate_from 0 c.fields) in
        let parts = both_true (not c.interface) (is_state_of c o.state && fields) e in
        let rest = both_true (is_state_of c o.state) fields parts.1 in
        record {
          contract = not_true c.interface parts.0;
          state = state_from c o.state rest.0;
          fields = have c at;
          values = values_from_test objects c o (have c at) rest.1;
        }

pub object_to : (table : ClassTable) (objects : List Object) (o : Object) → IsObject table objects o → is_object table (length objects) o ≡ true
object_to table objects o is = by (contract_at table o.contract) is
  where
    by : (r : Option Contract) → IsSomeAnd r (λ c. IsObjectOf objects c o) → option_map_or (is_object_of (length objects) o) r false ≡ true
    by None is = absurd is
    by (Some c) is =
        and_true (not c.interface) (is_state_of c o.state && list_all (is_field_value (length objects) c o) (enumerate_from 0 c.fields)) (ap not is.contract)
        (and_true (is_state_of c o.state) (list_all (is_field_value (length objects) c o) (enumerate_from 0 c.fields)) (state_to c o.state is.state) (test_from_values objects c o is))
