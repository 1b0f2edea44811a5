-- A store by one class table is one by another, where objects are and fail alike and payloads are spelled alike.
use Rattle.std.proofs.Common.{◌≡◌, ◌∙◌, ℕ, inl, inr, List, [], ◌∷◌, length, sym, ap, subst}
use Rattle.std.specs.Prelude.{◌≤◌, All}
use Rattle.std.proofs.lemmas.List.Elements.{All-weaker}
use Rattle.ob_base.specs.Limits.{most_objects, most_handles}
use Rattle.ob_table.specs.Tables.{ClassTable}
use Rattle.ob_heap_spec.specs.Objects.{Object}
use Rattle.ob_heap_spec.specs.Contents.{Content, IsObject, IsContent, empty_content}
use Rattle.ob_rest_spec.specs.AtRest.{IsAtRest, IsStoreAtRest, first_failing_object}
use Rattle.ob_rest_spec.specs.Failing.{FailingWay, failing_ways}
use Rattle.ob_format_spec.specs.Formats.{Format, Spells}
use Rattle.ob_store_spec.specs.Payloads.{StoredObject, Changes, payload}
use Rattle.ob_store_spec.specs.Changes.{object_of, with_changes, IsHandleChange, AreChangesOf, SaysChanges, LeadFrom}
use Rattle.ob_store_spec.specs.Stores.{StoreState, StoreRefusal, not_store, damaged, other_program, not_at_rest, IsStoreOf, IsRefused}

-- what is one class table's is another's
pub record Follows (t u : ClassTable) : Type 1 where
  pub objects : (os : List Object) (o : Object) → IsObject t os o → IsObject u os o
  pub made : object_of t ≡ object_of u
  pub leads : (content : Content) (changes : Changes) → with_changes t content changes ≡ with_changes u content changes
  pub payloads : payload t ≡ payload u
  pub failing : (content : Content) → failing_ways t content ≡ failing_ways u content
  pub first : (content : Content) → first_failing_object t content ≡ first_failing_object u content

module _ (t u : ClassTable) (f : Follows t u) where
  pub content_follows : (content : Content) → IsContent t content → IsContent u content
  content_follows content is = record {
    objects = All-weaker (IsObject t content.objects) (IsObject u content.objects) (f.objects content.objects) content.objects is.objects;
    handles = is.handles;
    order = is.order;
  }

  rest_follows : (content : Content) → IsAtRest t content → IsAtRest u content
  rest_follows content rests n low = sym (ap (λ (ways : ℕ → List FailingWay). ways n) (f.failing content)) ∙ rests n low

  pub store_follows : (content : Content) → IsStoreAtRest t content → IsStoreAtRest u content
  store_follows content is = record {
    is_content = content_follows content is.is_content;
    at_rest = rest_follows content is.at_rest;
    few_objects = is.few_objects;
    few_handles = is.few_handles;
  }

  changes_follow : (content : Content) (changes : Changes) → AreChangesOf t content changes → AreChangesOf u content changes
  changes_follow content changes are = record {
    ascending = are.ascending;
    next = are.next;
    objects = All-weaker (λ o. IsObject t (with_changes t content changes).objects (object_of t o))
        (λ o. IsObject u (with_changes u content changes).objects (object_of u o)) each changes.objects are.objects;
    in_order = are.in_order;
    handles = subst (λ c. All (IsHandleChange (length c.objects)) changes.handles) (f.leads content changes) are.handles;
    few_objects = subst (λ c. length c.objects ≤ most_objects) (f.leads content changes) are.few_objects;
    few_handles = subst (λ c. length c.handles ≤ most_handles) (f.leads content changes) are.few_handles;
  }
    where
      each : (o : StoredObject) → IsObject t (with_changes t content changes).objects (object_of t o)
          → IsObject u (with_changes u content changes).objects (object_of u o)
      each o is =
          subst (λ (made : StoredObject → Object). IsObject u (with_changes u content changes).objects (made o)) f.made
          (subst (λ c. IsObject u c.objects (object_of t o)) (f.leads content changes) (f.objects (with_changes t content changes).objects (object_of t o) is))

  pub saying_follows : (content : Content) (changes : Changes) (bytes : List ℕ) → SaysChanges t content changes bytes → SaysChanges u content changes bytes
  saying_follows content changes bytes says = record {
    are_changes = changes_follow content changes says.are_changes;
    spelled = subst (λ (p : Format Changes). Spells p changes bytes) f.payloads says.spelled;
  }

  pub leading_follows : (content : Content) (payloads : List (List ℕ)) (end : Content) → LeadFrom t content payloads end → LeadFrom u content payloads end
  leading_follows content [] end leads = leads
  leading_follows content (bytes ∷ payloads) end leads = (
    leads.0,
    saying_follows content leads.0 bytes leads.1,
    subst (λ c. LeadFrom u c payloads end) (f.leads content leads.0) (leading_follows (with_changes t content leads.0) payloads end leads.2),
  )

  pub area_follows : (image : List ℕ) (size : ℕ) (bytes : List ℕ) (s : StoreState) → IsStoreOf (record { table = t; image = image }) size bytes s
      → IsStoreOf (record { table = u; image = image }) size bytes s
  area_follows image size bytes s (inl blank) = inl (record { blank = blank.blank; content = blank.content; gate = blank.gate; serial = blank.serial })
  area_follows image size bytes s (inr stored) = inr (record {
    place = stored.place;
    says = stored.says;
    opened = record {
      stands = stored.opened.stands;
      image = stored.opened.image;
      content_is = leading_follows empty_content stored.says.payloads s.content stored.opened.content_is;
    };
    at_rest = rest_follows s.content stored.at_rest;
    gate = stored.gate;
    serial = stored.serial;
  })

-- what says nothing by the one says nothing by the other, so a refusal needs both ways
module _ (t u : ClassTable) (f : Follows t u) (back : Follows u t) where
  pub refusal_follows : (image : List ℕ) (size : ℕ) (bytes : List ℕ) (r : StoreRefusal) → IsRefused (record { table = t; image = image }) size bytes r
      → IsRefused (record { table = u; image = image }) size bytes r
  refusal_follows image size bytes not_store is = is
  refusal_follows image size bytes (damaged offset) (inl is) = inl is
  refusal_follows image size bytes (damaged offset) (inr bad) = inr (record {
    place = bad.place;
    says = bad.says;
    stands = bad.stands;
    image = bad.image;
    before = bad.before;
    bad = bad.bad;
    after = bad.after;
    payloads = bad.payloads;
    content = bad.content;
    content_is = leading_follows t u f empty_content bad.before bad.content bad.content_is;
    says_none = λ changes says. bad.says_none changes (saying_follows u t back bad.content changes bad.bad says);
    at = bad.at;
  })
  refusal_follows image size bytes (other_program offset) is = record { place = is.place; says = is.says; stands = is.stands; differ = is.differ }
  refusal_follows image size bytes (not_at_rest n) is = record {
    place = is.place;
    says = is.says;
    content = is.content;
    opened = record {
      stands = is.opened.stands;
      image = is.opened.image;
      content_is = leading_follows t u f empty_content is.says.payloads is.content is.opened.content_is;
    };
    fails = sym (f.first is.content) ∙ is.fails;
  }
