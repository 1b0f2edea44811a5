-- What differs between two stores at rest is changes of the first that lead to the second, and may be spelled.
use Rattle.std.proofs.Common.{◌≡◌, ◌∙◌, ℕ, ◌+◌, ◌<◌, ◌≤◌, Bool, true, false, cond, List, [], ◌∷◌, ◌++◌, length, Some, refl, sym, ap, subst, arith}
use Rattle.std.specs.Prelude.{is_some, filter, slice_get, All, IfSome, IsTrue}
use Rattle.std.specs.Ordering.{eq_by_cmp}
use Rattle.std.specs.FinMap.Entries.{find as find_key, length-put, is_sorted-put}
use Rattle.std.proofs.lemmas.List.{length-map}
use Rattle.std.proofs.lemmas.List.Elements.{All-head, All-tail, All-filter, All-map, All-weaker}
use Rattle.std.proofs.lemmas.List.Kept.{AllPairs-filter}
use Rattle.std.proofs.lemmas.List.Sums.{length-filter, count_by-le-length}
use Rattle.std.proofs.lemmas.Option.{slice_get_within}
use Rattle.ob_base.specs.Limits.{most_objects, most_handles}
use Rattle.ob_base.specs.Names.{is_label}
use Rattle.ob_table.specs.Tables.{ClassTable}
use Rattle.ob_heap_spec.specs.Objects.{Object}
use Rattle.ob_heap_spec.specs.Contents.{HandleName, Content, IsObject, IsHandle, name_order}
use Rattle.ob_rest_spec.specs.AtRest.{IsStoreAtRest}
use Rattle.ob_heap_spec.specs.Handles.{NamedHandle, put_handle, put_handles}
use Rattle.ob_heap_spec.proofs.Names.{names_total}
use Rattle.ob_heap_spec.proofs.Items.{item_of}
use Rattle.ob_store_spec.specs.Payloads.{Changes, object, held, handle, payload}
use Rattle.ob_store_spec.specs.Changes.{object_of, with_changes, IsHandleChange, AreChangesOf}
use Rattle.ob_store_spec.specs.Between.{stored_object, stored_from, changes_between}
use Rattle.ob_store_spec.proofs.Sayings.{object_single, held_lawful}
use Rattle.ob_store_spec.proofs.Single.{lawful_single}
use Rattle.ob_store_laws.specs.Recorded.{IsStorable}
use Rattle.ob_store_laws.specs.Laws.{DifferencesAreSaid}
use Rattle.ob_store_laws.proofs.Again.{object_again}
use Rattle.ob_store_laws.proofs.Entries.{sorted_of, of_sorted, sorted_filter}
use Rattle.ob_store_laws.proofs.Keeping.{all_put}
use Rattle.ob_store_laws.proofs.Handles.{Change, at, InOrder, is_new, of_both, sorted_both}
use Rattle.ob_store_laws.proofs.Fitting.{object_fits, handle_fits, held_fits, each_of}
use Rattle.ob_store_laws.proofs.Differing.{AreTold, differs, changed_lead, next_changed, ascending, length-stored, all_stored, handles_lead}
use Rattle.ob_store_laws.proofs.Tails.{whole_tail}

-- Parts of lists.

fewer : {X : Type 0} (p : X → Bool) (xs : List X) → length (filter p xs) ≤ length xs
fewer p xs = let l = length-filter p xs in let c = count_by-le-length p xs in omega arith

-- a handle that is found is on one of the objects
found_on : (objects : List Object) (hs : List NamedHandle) (k : HandleName) → All (IsHandle objects) hs → IfSome (at k hs) (λ h. h.object < length objects)
found_on objects [] k all = tt
found_on objects (h ∷ hs) k all = by (eq_by_cmp name_order k h.0) (found_on objects hs k (All-tail (IsHandle objects) h hs all))
  where
    by : (b : Bool) → IfSome (at k hs) (λ x. x.object < length objects) → IfSome (cond b (Some h.1) (at k hs)) (λ x. x.object < length objects)
    by true rest = (All-head (IsHandle objects) h hs all).object
    by false rest = rest

-- what holds of all handles of two lists holds of those of both
all_put_among : (P : NamedHandle → Type 0) (hs ps : List NamedHandle) → All P hs → All P ps → All P (put_handles hs ps)
all_put_among P hs [] all these = all
all_put_among P hs (p ∷ ps) all these = all_put_among P (put_handle hs p) ps (all_put P p.0 p.1 hs (All-head P p ps these) all) (All-tail P p ps these)

few_put : (hs ps : List NamedHandle) → InOrder hs → length (put_handles hs ps) ≤ length hs + length ps
few_put hs [] o = omega arith
few_put hs (p ∷ ps) o =
    let rest = few_put (put_handle hs p) ps (is_sorted-put name_order names_total p.0 p.1 hs o) in
    let one = either (is_some (find_key name_order p.0 hs)) (length hs) in
    omega (arith, rest, one, length-put name_order names_total p.0 p.1 hs o)
  where
    either : (b : Bool) (n : ℕ) → cond b n (n + 1) ≤ n + 1
    either true n = omega arith
    either false n = omega arith

-- a handle's name is two labels
record IsLabelled (n : HandleName) : Type 0 where
  who : IsTrue (is_label n.who)
  name : IsTrue (is_label n.name)

named : (objects : List Object) (h : NamedHandle) → IsHandle objects h → IsLabelled h.0
named objects h is = record { who = is.who; name = is.name }

module _ (table : ClassTable) (before after : Content) (storable : IsStorable table) (was : IsStoreAtRest table before) (will : IsStoreAtRest table after)
    (more : length before.objects ≤ length after.objects) where
  abbrev changes : Changes
  changes = changes_between table before after

  object_before : (n : ℕ) (o : Object) → slice_get before.objects n ≡ Some o → IsObject table before.objects o
  object_before n o at = item_of (IsObject table before.objects) before.objects was.is_content.objects n o at

  object_after : (n : ℕ) (o : Object) → slice_get after.objects n ≡ Some o → IsObject table after.objects o
  object_after n o at = item_of (IsObject table after.objects) after.objects will.is_content.objects n o at

  fits_before : (n : ℕ) (o : Object) → slice_get before.objects n ≡ Some o → (object table).fits (stored_object table n o)
  fits_before n o at = object_fits table storable before.objects n o was.few_objects (slice_get_within before.objects n o at) (object_before n o at)

  fits_after : (n : ℕ) (o : Object) → slice_get after.objects n ≡ Some o → (object table).fits (stored_object table n o)
  fits_after n o at = object_fits table storable after.objects n o will.few_objects (slice_get_within after.objects n o at) (object_after n o at)

  told : AreTold table before.objects after.objects
  told = record {
    again = λ n a at. object_again table after.objects n a (object_after n a at);
    same = λ n a b at there bytes.
        let one = (object_single table (stored_object table n b) (stored_object table n a) [] [] (fits_before n b there)
        (fits_after n a at) (ap (λ l. l ++ []) bytes)).0 in
        sym (object_again table before.objects n b (object_before n b there)) ∙ ap (object_of table) one
        ∙ object_again table after.objects n a (object_after n a at);
  }

  ordered_before : InOrder before.handles
  ordered_before = sorted_of name_order before.handles was.is_content.order

  ordered_after : InOrder after.handles
  ordered_after = sorted_of name_order after.handles will.is_content.order

  on_after : (k : HandleName) → IfSome (at k after.handles) (λ h. h.object < length after.objects)
  on_after k = found_on after.objects after.handles k will.is_content.handles

  held_after : (k : HandleName) → held.fits (at k after.handles)
  held_after k = held_fits after.objects (at k after.handles) will.few_objects (on_after k)

  same_held : (k : HandleName) → held.bytes (at k before.handles) ≡ held.bytes (at k after.handles) → at k before.handles ≡ at k after.handles
  same_held k bytes =
      (lawful_single held held_lawful (at k before.handles) (at k after.handles) [] []
      (held_fits before.objects (at k before.handles) was.few_objects (found_on before.objects before.handles k was.is_content.handles))
      (held_after k) (ap (λ l. l ++ []) bytes)).0

  objects_lead_on : (with_changes table before changes).objects ≡ after.objects
  objects_lead_on =
      changed_lead table before.objects after.objects told [] before.objects after.objects 0 refl (whole_tail before.objects) (whole_tail after.objects) more

  leads : with_changes table before changes ≡ after
  leads =
      ap (λ os. record { objects = os; handles = (with_changes table before changes).handles }) objects_lead_on
      ∙ ap (λ hs. record { objects = after.objects; handles = hs }) (handles_lead before after.handles ordered_before ordered_after same_held)

  -- each object that differs is one of the class table, and each handle has a name of two labels
  all_objects : All (λ o. IsObject table (with_changes table before changes).objects (object_of table o)) changes.objects
  all_objects =
      subst (λ os. All (λ o. IsObject table os (object_of table o)) changes.objects) (sym objects_lead_on)
      (All-filter (differs table before.objects after.objects) (λ o. IsObject table after.objects (object_of table o)) (stored_from table 0 after.objects)
      (all_stored table (λ o. IsObject table after.objects (object_of table o)) after.objects
      (λ n o at. subst (IsObject table after.objects) (sym (object_again table after.objects n o (object_after n o at))) (object_after n o at))
      0 after.objects (whole_tail after.objects)))

  all_handles : (P : Change → Type 0) → ((n : HandleName) → IsLabelled n → P (n, at n after.handles)) → All P changes.handles
  all_handles P each =
      All-filter (is_new before) P (of_both before.handles after.handles)
      (All-map P (λ h. (h.0, at h.0 after.handles)) (put_handles before.handles after.handles)
      (All-weaker (λ (h : NamedHandle). IsLabelled h.0) (λ h. P (h.0, at h.0 after.handles)) (λ h. each h.0) (put_handles before.handles after.handles)
      (all_put_among (λ h. IsLabelled h.0) before.handles after.handles
      (All-weaker (IsHandle before.objects) (λ h. IsLabelled h.0) (named before.objects) before.handles was.is_content.handles)
      (All-weaker (IsHandle after.objects) (λ h. IsLabelled h.0) (named after.objects) after.handles will.is_content.handles))))

  are_changes : AreChangesOf table before changes
  are_changes = record {
    ascending = AllPairs-filter (λ a b. a.number < b.number) (differs table before.objects after.objects) (stored_from table 0 after.objects)
        (ascending table 0 after.objects);
    next = next_changed table before.objects after.objects 0 after.objects (omega arith);
    objects = all_objects;
    in_order = of_sorted name_order changes.handles
        (sorted_filter name_order (is_new before) (of_both before.handles after.handles) (sorted_both before.handles after.handles ordered_before));
    handles = subst (λ os. All (IsHandleChange (length os)) changes.handles) (sym objects_lead_on)
        (all_handles (IsHandleChange (length after.objects)) (λ n is. record { who = is.who; name = is.name; object = on_after n }));
    few_objects = subst (λ c. length c.objects ≤ most_objects) (sym leads) will.few_objects;
    few_handles = subst (λ c. length c.handles ≤ most_handles) (sym leads) will.few_handles;
  }

  few_objects : length changes.objects ≤ most_objects
  few_objects =
      let some = fewer (differs table before.objects after.objects) (stored_from table 0 after.objects) in
      let few = will.few_objects in omega (arith, some, length-stored table 0 after.objects, few)

  few_handles : length changes.handles ≤ most_handles + most_handles
  few_handles =
      let some = fewer (is_new before) (of_both before.handles after.handles) in
      let named = length-map {B = Change} (put_handles before.handles after.handles) (λ h. (h.0, at h.0 after.handles)) in
      let put = few_put before.handles after.handles ordered_before in
      let first = was.few_handles in
      let second = will.few_handles in omega (arith, some, named, put, first, second)

  fits : (payload table).fits changes
  unfolding payload
  fits = (
    (
      omega (arith, few_objects),
      (
        refl,
        each_of (object table).fits changes.objects
            (All-filter (differs table before.objects after.objects) (object table).fits (stored_from table 0 after.objects)
            (all_stored table (object table).fits after.objects fits_after 0 after.objects (whole_tail after.objects))),
      ),
    ),
    (
      omega (arith, few_handles),
      (
        refl,
        each_of handle.fits changes.handles
            (all_handles handle.fits (λ n is. handle_fits (n, at n after.handles) is.who is.name (held_after n))),
      ),
    ),
  )

pub differences_are_said : DifferencesAreSaid
differences_are_said table before after storable was will more = record {
  are_changes = are_changes table before after storable was will more;
  leads = leads table before after storable was will more;
  fits = fits table before after storable was will more;
}
