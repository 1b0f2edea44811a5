-- An upgraded content is one of the new program, and at rest for it.
use Rattle.std.proofs.Common.{◌≡◌, ◌∙◌, ℕ, zero, suc, ◌<◌, true, true≢false, List, [], ◌∷◌, length, map, Option, Some, None, is_some, IfSome, IsSomeAnd, refl, sym, ap, subst, arith}
use Rattle.std.proofs.lemmas.Bool.{and_parts}
use Rattle.std.proofs.lemmas.List.{length-map}
use Rattle.std.proofs.lemmas.List.Elements.{All-weaker}
use Rattle.std.proofs.lemmas.Option.{slice_get-map, same_Some}
use Rattle.std.specs.Prelude.{slice_get, option_map}
use Rattle.std.specs.Cmp.Lexicographic.{pointwise}
use Rattle.ob_base.specs.declared.id.StateId.{StateId}
use Rattle.ob_table.specs.Tables.{ClassTable, contract_at}
use Rattle.ob_table.specs.declared.contract.Contract.{Contract}
use Rattle.ob_table.specs.declared.contract.Field.{Field}
use Rattle.ob_table.specs.declared.contract.ResolvedType.{ResolvedType}
use Rattle.ob_table.specs.declared.contract.ResolvedType.TheVariants.{Int, Bool as BoolKind, Text, Reference}
use Rattle.ob_heap_spec.specs.Values.{Value, int_value, bool_value, text_value, reference}
use Rattle.ob_heap_spec.specs.Objects.{Object}
use Rattle.ob_heap_spec.specs.Contents.{Content, IsValueOf, IsStateOf, IsObjectOf, IsObject, IsHandle, IsContent}
use Rattle.ob_heap_spec.proofs.Items.{item_of, all_of}
use Rattle.ob_rest_spec.specs.AtRest.{IsStoreAtRest}
use Rattle.ob_upgrade_spec.specs.Matching.{is_same_type, is_same_field, Match}
use Rattle.ob_upgrade_spec.specs.Upgraded.{upgraded_object, upgraded}
use Rattle.ob_upgrade_laws.specs.Laws.{NamesOnce, UpgradedStoresAreAtRest, UpgradedObjectsFailAlike}
use Rattle.ob_upgrade_laws.proofs.Kept.{kept}
use Rattle.ob_upgrade_laws.proofs.Referring.{AreKnown, field_parts, available_alike}
use Rattle.ob_upgrade_laws.proofs.Failing.{failing_alike}

-- an object's contract is there
contract_there : (table : ClassTable) (os : List Object) (o : Object) → IsObject table os o → (c : Contract) × (contract_at table o.contract ≡ Some c)
contract_there table os o is = by (contract_at table o.contract) is refl
  where
    by : (r : Option Contract) → IsSomeAnd r (λ c. IsObjectOf os c o) → contract_at table o.contract ≡ r → (c : Contract) × (contract_at table o.contract ≡ Some c)
    by None is at = absurd is
    by (Some c) is at = (c, at)

state_alike : (c d : Contract) → c.states ≡ d.states → (s : Option StateId) → IsStateOf c s → IsStateOf d s
state_alike c d e None is = sym e ∙ is
state_alike c d e (Some s) is = subst (λ (states : List (List ℕ)). s.0 < length states) e is

if_alike : {A : Type 0} (P Q : A → Type 0) → ((x : A) → P x → Q x) → (r : Option A) → IfSome r P → IfSome r Q
if_alike P Q f None is = is
if_alike P Q f (Some x) is = f x is

module _ (old new : ClassTable) (match : Match old new) (once_old : NamesOnce old) (once_new : NamesOnce new) where
  abbrev becomes : Object → Object
  becomes = upgraded_object old new

  value_alike : (os : List Object) (t u : ResolvedType) → is_same_type old new t u ≡ true → (v : Value) → IsValueOf os t v
      → IsValueOf (map becomes os) u v
  value_alike os Int Int h (int_value z) is = is
  value_alike os Int Int h (bool_value b) is = absurd is
  value_alike os Int Int h (text_value bytes) is = absurd is
  value_alike os Int Int h (reference n) is = absurd is
  value_alike os BoolKind BoolKind h (int_value z) is = absurd is
  value_alike os BoolKind BoolKind h (bool_value b) is = is
  value_alike os BoolKind BoolKind h (text_value bytes) is = absurd is
  value_alike os BoolKind BoolKind h (reference n) is = absurd is
  value_alike os Text Text h (int_value z) is = absurd is
  value_alike os Text Text h (bool_value b) is = absurd is
  value_alike os Text Text h (text_value bytes) is = is
  value_alike os Text Text h (reference n) is = absurd is
  value_alike os (Reference a p) (Reference b q) h (int_value z) is = absurd is
  value_alike os (Reference a p) (Reference b q) h (bool_value z) is = absurd is
  value_alike os (Reference a p) (Reference b q) h (text_value bytes) is = absurd is
  value_alike os (Reference a p) (Reference b q) h (reference n) is = omega (arith, is, length-map os becomes)
  value_alike os Int BoolKind h v is = absurd (true≢false (sym h))
  value_alike os Int Text h v is = absurd (true≢false (sym h))
  value_alike os Int (Reference b q) h v is = absurd (true≢false (sym h))
  value_alike os BoolKind Int h v is = absurd (true≢false (sym h))
  value_alike os BoolKind Text h v is = absurd (true≢false (sym h))
  value_alike os BoolKind (Reference b q) h v is = absurd (true≢false (sym h))
  value_alike os Text Int h v is = absurd (true≢false (sym h))
  value_alike os Text BoolKind h v is = absurd (true≢false (sym h))
  value_alike os Text (Reference b q) h v is = absurd (true≢false (sym h))
  value_alike os (Reference a p) Int h v is = absurd (true≢false (sym h))
  value_alike os (Reference a p) BoolKind h v is = absurd (true≢false (sym h))
  value_alike os (Reference a p) Text h v is = absurd (true≢false (sym h))

  field_value_alike : (os : List Object) (fs gs : List Field) → pointwise (is_same_field old new) fs gs ≡ true → (k : ℕ) (v : Value)
      → IsSomeAnd (slice_get fs k) (λ f. IsValueOf os f.of v) → IsSomeAnd (slice_get gs k) (λ g. IsValueOf (map becomes os) g.of v)
  field_value_alike os [] gs h k v is = absurd is
  field_value_alike os (f ∷ fs) [] h k v is = absurd (true≢false (sym h))
  field_value_alike os (f ∷ fs) (g ∷ gs) h zero v is =
      value_alike os f.of g.of
      (field_parts old new f g (and_parts (is_same_field old new f g) (pointwise (is_same_field old new) fs gs) h).0).0 v is
  field_value_alike os (f ∷ fs) (g ∷ gs) h (suc k) v is =
      field_value_alike os fs gs (and_parts (is_same_field old new f g) (pointwise (is_same_field old new) fs gs) h).1 k v is

  object_of_alike : (os : List Object) (o : Object) (c : Contract) → contract_at old o.contract ≡ Some c → IsObjectOf os c o
      → IsObject new (map becomes os) (becomes o)
  object_of_alike os o c at is =
      let k = kept old new match o.contract c at in
      subst (λ (r : Option Contract). IsSomeAnd r (λ d. IsObjectOf (map becomes os) d (becomes o))) (sym k.there) (record {
        contract = sym k.alike.interface ∙ is.contract;
        state = state_alike c k.contract k.alike.states o.state is.state;
        fields = λ j. is.fields j ∙ sym (available_alike old new match once_old once_new c.fields k.contract.fields k.alike.fields o.state j);
        values = λ j. if_alike (λ v. IsSomeAnd (slice_get c.fields j) (λ f. IsValueOf os f.of v))
            (λ v. IsSomeAnd (slice_get k.contract.fields j) (λ f. IsValueOf (map becomes os) f.of v))
            (field_value_alike os c.fields k.contract.fields k.alike.fields j) (o.fields j) (is.values j);
      })

  object_alike : (os : List Object) (o : Object) → IsObject old os o → IsObject new (map becomes os) (becomes o)
  object_alike os o is =
      let there = contract_there old os o is in
      object_of_alike os o there.0 there.1
      (subst (λ (r : Option Contract). IsSomeAnd r (λ c. IsObjectOf os c o)) there.1 is)

  content_alike : (content : Content) → IsContent old content → IsContent new (upgraded old new content)
  content_alike content is = record {
    objects = all_of (IsObject new (map becomes content.objects)) (map becomes content.objects) each;
    handles = All-weaker (IsHandle content.objects) (IsHandle (map becomes content.objects))
        (λ h is. record { who = is.who; name = is.name; object = omega (arith, is.object, length-map content.objects becomes) })
        content.handles is.handles;
    order = is.order;
  }
    where
      by : (n : ℕ) (q : Option Object) (o : Object) → slice_get content.objects n ≡ q → option_map becomes q ≡ Some o
          → IsObject new (map becomes content.objects) o
      by n None o at e = absurd (true≢false (sym (ap is_some e)))
      by n (Some p) o at e =
          subst (IsObject new (map becomes content.objects)) (same_Some (becomes p) o e)
          (object_alike content.objects p (item_of (IsObject old content.objects) content.objects is.objects n p at))

      each : (n : ℕ) (o : Object) → slice_get (map becomes content.objects) n ≡ Some o → IsObject new (map becomes content.objects) o
      each n o at = by n (slice_get content.objects n) o refl (sym (slice_get-map becomes content.objects n) ∙ at)

  are_known : (content : Content) → IsContent old content → AreKnown old new match once_old once_new content.objects
  are_known content is n o at =
      contract_there old content.objects o (item_of (IsObject old content.objects) content.objects is.objects n o at)

  store_alike : (content : Content) → IsStoreAtRest old content → IsStoreAtRest new (upgraded old new content)
  store_alike content is = record {
    is_content = content_alike content is.is_content;
    at_rest = λ n low.
        failing_alike old new match once_old once_new content (are_known content is.is_content) n
        ∙ is.at_rest n (omega (arith, low, length-map content.objects becomes));
    few_objects = omega (arith, is.few_objects, length-map content.objects becomes);
    few_handles = is.few_handles;
  }

pub stores_at_rest : UpgradedStoresAreAtRest
stores_at_rest old new content once_old once_new match is = store_alike old new match once_old once_new content is

pub objects_alike : UpgradedObjectsFailAlike
objects_alike old new content once_old once_new match is n =
    failing_alike old new match once_old once_new content (are_known old new match once_old once_new content is) n
