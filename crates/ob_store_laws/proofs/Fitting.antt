-- What stands in a store of a class table has a spelling, if payloads can tell the contracts and the states from one another.
use Rattle.std.proofs.Common.{◌≡◌, ℕ, suc, ℤ, pos, negsuc, ◌<◌, ◌≤◌, ◌^◌, Bool, true, false, List, [], ◌∷◌, ◌++◌, length, Option, Some, None, refl, ap, arith}
use Rattle.std.specs.Prelude.{nat_eq, nat_le, ◌&&◌, FitsSigned, IsTrue, IfSome, IsSomeAnd, All, filter, slice_get, option_to_list, if◌then◌else◌}
use Rattle.std.specs.Int.{w64}
use Rattle.std.specs.Option.{option_map_or}
use Rattle.std.specs.Str.{is_utf8}
use Rattle.std.proofs.lemmas.Bool.{ltb-true}
use Rattle.std.proofs.lemmas.List.Elements.{All-head, All-tail}
use Rattle.std.proofs.lemmas.Option.{slice_get_within}
use Rattle.std.proofs.lemmas.Str.{IsUtf8-from_is_utf8}
use Rattle.ob_base.specs.Limits.{most_objects, longest_name, longest_string}
use Rattle.ob_base.specs.Names.{is_label}
use Rattle.ob_base.specs.Numbers.{is_int}
use Rattle.ob_base.specs.declared.id.StateId.{StateId}
use Rattle.ob_base.specs.declared.permission.Mode.{Mode}
use Rattle.ob_base.specs.declared.permission.Mode.TheVariants.{Owned, Shared, Unowned}
use Rattle.ob_base.proofs.OptionalLemmas.{both_true}
use Rattle.ob_table.specs.Tables.{ClassTable, contract_at}
use Rattle.ob_table.specs.declared.contract.Contract.{Contract}
use Rattle.ob_table.specs.declared.contract.Field.{Field}
use Rattle.ob_table.specs.declared.contract.ResolvedType.{ResolvedType}
use Rattle.ob_table.specs.declared.contract.ResolvedType.TheVariants.{Int, Bool as BoolKind, Text, Reference}
use Rattle.ob_format_spec.specs.Combinators.{Each}
use Rattle.ob_format_spec.specs.Texts.{text}
use Rattle.ob_code.specs.Images.{mode}
use Rattle.ob_heap_spec.specs.Values.{Value, Numbered, int_value, bool_value, text_value, reference}
use Rattle.ob_heap_spec.specs.Objects.{Object, is_available}
use Rattle.ob_heap_spec.specs.Contents.{HandleName, Handle, IsValueOf, IsStateOf, IsObjectOf, IsObject}
use Rattle.ob_heap_spec.proofs.Items.{item_of}
use Rattle.ob_store_spec.specs.Payloads.{state, marks, truth, value, object_head, object, hold, held, handle}
use Rattle.ob_store_spec.specs.Between.{values_from, stored_object}
use Rattle.ob_store_laws.specs.Recorded.{IsStorable}
use Rattle.ob_store_laws.proofs.Again.{have_values, length-values}

-- Values.

text_fits : (bytes : List ℕ) → length bytes < 2 ^ 32 → is_utf8 bytes ≡ true → text.fits bytes
unfolding text
text_fits bytes few utf8 = (few, (refl, IsUtf8-from_is_utf8 bytes utf8))

int_fits : (z : ℤ) → IsTrue (is_int z) → FitsSigned w64 z
int_fits (pos n) is = record { sfits = ltb-true n (2 ^ 63) is }
int_fits (negsuc n) is = record { sfits = ltb-true n (2 ^ 63) is }

truth_fits : (b : Bool) → truth.fits b
unfolding truth
truth_fits true = (omega arith, refl)
truth_fits false = (omega arith, refl)

at_most : (m n : ℕ) → nat_le m n ≡ true → m ≤ n
at_most m n h = grind arith

value_fits : (objects : List Object) (kind : ResolvedType) (v : Value) → length objects ≤ most_objects → IsValueOf objects kind v → value.fits v
unfolding value
value_fits objects Int (int_value z) few is = (omega arith, int_fits z is)
value_fits objects Int (bool_value b) few is = absurd is
value_fits objects Int (text_value bytes) few is = absurd is
value_fits objects Int (reference n) few is = absurd is
value_fits objects BoolKind (int_value z) few is = absurd is
value_fits objects BoolKind (bool_value b) few is = (omega arith, truth_fits b)
value_fits objects BoolKind (text_value bytes) few is = absurd is
value_fits objects BoolKind (reference n) few is = absurd is
value_fits objects Text (int_value z) few is = absurd is
value_fits objects Text (bool_value b) few is = absurd is
value_fits objects Text (text_value bytes) few is =
    let parts = both_true (nat_le (length bytes) longest_string) (is_utf8 bytes) is in
    let short = at_most (length bytes) longest_string parts.0 in
    (omega arith, text_fits bytes (omega (arith, short)) parts.1)
value_fits objects Text (reference n) few is = absurd is
value_fits objects (Reference id p) (int_value z) few is = absurd is
value_fits objects (Reference id p) (bool_value b) few is = absurd is
value_fits objects (Reference id p) (text_value bytes) few is = absurd is
value_fits objects (Reference id p) (reference n) few is = (omega arith, omega (arith, is, few))

each_value_fits : (k : ℕ) (fs : List Field) (s : Option StateId) (values : Numbered Value) → ((j : ℕ) → IfSome (values j) value.fits)
    → Each value.fits (values_from k fs s values)
each_value_fits k [] s values fits = tt
each_value_fits k (f ∷ fs) s values fits = by (is_available s f) (values k) (fits k) (each_value_fits (suc k) fs s values fits)
  where
    vs : List Value
    vs = values_from (suc k) fs s values

    by : (b : Bool) (r : Option Value) → IfSome r value.fits → Each value.fits vs → Each value.fits (if b then option_to_list r ++ vs else vs)
    by true None fit rest = rest
    by true (Some v) fit rest = (fit, rest)
    by false r fit rest = rest

-- Objects.

state_fits : (c : Contract) (s : Option StateId) → length c.states ≤ 255 → IsStateOf c s → state.fits s
unfolding state
state_fits c None few is = (omega arith, refl)
state_fits c (Some s) few is = (omega (arith, is, few), ap (λ b. if b then None else Some s) (other s.0 (omega (arith, is, few))))
  where
    other : (n : ℕ) → n < 255 → nat_eq n 255 ≡ false
    other n low = grind arith

marks_fit : (m : Bool × Bool) → marks.fits m
unfolding marks
marks_fit (false, false) = (omega arith, refl)
marks_fit (true, false) = (omega arith, refl)
marks_fit (false, true) = (omega arith, refl)
marks_fit (true, true) = (omega arith, refl)

module _ (table : ClassTable) (storable : IsStorable table) where
  pub object_fits : (objects : List Object) (n : ℕ) (o : Object) → length objects ≤ most_objects → n < length objects → IsObject table objects o
      → (object table).fits (stored_object table n o)
  unfolding object object_head
  object_fits objects n o few low is = by (contract_at table o.contract) refl is
    where
      at_field : (v : Value) (r : Option Field) → IsSomeAnd r (λ f. IsValueOf objects f.of v) → value.fits v
      at_field v None is = absurd is
      at_field v (Some f) is = value_fits objects f.of v few is

      at_value : (c : Contract) (k : ℕ) (r : Option Value) → IfSome r (λ v. IsSomeAnd (slice_get c.fields k) (λ f. IsValueOf objects f.of v)) → IfSome r value.fits
      at_value c k None is = tt
      at_value c k (Some v) is = at_field v (slice_get c.fields k) is

      by : (r : Option Contract) → contract_at table o.contract ≡ r → IsSomeAnd r (λ c. IsObjectOf objects c o)
          → ((n < 2 ^ 32) × ((o.contract.0 < 2 ^ 32) × (state.fits o.state × marks.fits (o.shared, o.disowned))))
          × ((length (option_map_or (λ c. values_from 0 c.fields o.state o.fields) r [])
          ≡ option_map_or (λ c. length (filter (is_available o.state) c.fields)) r 0)
          × Each value.fits (option_map_or (λ c. values_from 0 c.fields o.state o.fields) r []))
      by None at is = absurd is
      by (Some c) at is =
          let number = slice_get_within table.contracts o.contract.0 c at in
          let contracts = storable.contracts in
          let states = item_of (λ (d : Contract). length d.states ≤ 255) table.contracts storable.states o.contract.0 c at in (
            (omega (arith, low, few), (omega (arith, number, contracts), (state_fits c o.state states is.state, marks_fit (o.shared, o.disowned)))),
            (
              length-values 0 c.fields o.state o.fields (have_values objects c o is),
              each_value_fits 0 c.fields o.state o.fields (λ k. at_value c k (o.fields k) (is.values k)),
            ),
          )

-- Handles.

mode_fits : (m : Mode) → mode.fits m
unfolding mode
mode_fits Owned = (omega arith, refl)
mode_fits Shared = (omega arith, refl)
mode_fits Unowned = (omega arith, refl)

pub held_fits : (objects : List Object) (h : Option Handle) → length objects ≤ most_objects → IfSome h (λ x. x.object < length objects) → held.fits h
unfolding held hold
held_fits objects None few is = (omega arith, refl)
held_fits objects (Some h) few is = (omega arith, (omega (arith, is, few), mode_fits h.mode))

label_fits : (name : List ℕ) → IsTrue (is_label name) → text.fits name
label_fits name is =
    let parts = both_true (nat_le 1 (length name) && nat_le (length name) longest_name) (is_utf8 name) is in
    let lengths = both_true (nat_le 1 (length name)) (nat_le (length name) longest_name) parts.0 in
    let short = at_most (length name) longest_name lengths.1 in
    text_fits name (omega (arith, short)) parts.1

pub handle_fits : (h : HandleName × Option Handle) → IsTrue (is_label h.0.who) → IsTrue (is_label h.0.name) → held.fits h.1 → handle.fits h
unfolding handle
handle_fits h who name fits = (label_fits h.0.who who, (label_fits h.0.name name, fits))

-- each of those of which all fit
pub each_of : {X : Type 0} (P : X → Type 0) (xs : List X) → All P xs → Each P xs
each_of P [] all = tt
each_of P (x ∷ xs) all = (All-head P x xs all, each_of P xs (All-tail P x xs all))
