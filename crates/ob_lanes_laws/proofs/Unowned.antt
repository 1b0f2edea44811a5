-- An object without an owner has none after a request.
use Rattle.std.proofs.Common.{◌≡◌, ℕ, zero, suc, ◌<◌, ◌≤◌, inl, Bool, true, false, List, [], ◌∷◌, length, filter, Option, Some, None, refl, sym, ap, ◌∙◌, subst, arith, true≢false}
use Rattle.std.specs.Prelude.{cond, not, ◌&&◌, ◌||◌, ◌==◌, find, option_map}
use Rattle.ob_table.specs.Tables.{ClassTable}
use Rattle.ob_heap_spec.specs.Objects.{Object}
use Rattle.ob_heap_spec.specs.Contents.{Content, object_at}
use Rattle.ob_rest_spec.specs.AtRest.{IsStoreAtRest}
use Rattle.ob_rest_spec.specs.Failing.{is_marked, owned_and_marked}
use Rattle.ob_rest_spec.specs.Incoming.{IncomingReference, incoming_references, owner_of, owners}
use Rattle.ob_rest_spec.specs.Modes.{is_owned}
use Rattle.ob_rest_laws.specs.Laws.{ChangesQuietly}
use Rattle.ob_rest_laws.proofs.Changing.{rests_after}
use Rattle.ob_rest_laws.proofs.Ways.{fails_by_none}
use Rattle.ob_invocation_spec.specs.Replies.{Invocation, invoked, goes_wrong}
use Rattle.ob_invocation_spec.specs.Requests.{Request, HasLabels}
use Rattle.ob_invocation_laws.specs.Laws.{KeepsStoreAtRest}
use Rattle.ob_invocation_laws.proofs.Still.{handles_of, store_stays}
use Rattle.ob_code.specs.declared.image.Image.{Image}
use Rattle.ob_code_table.specs.ImageTables.{table_of_image}
use Rattle.ob_machine_meaning.specs.Meanings.{machine_invocation}
use Rattle.ob_request_run_laws.proofs.Lists.{none_is_some, some_is_none, some_is, there_is}
use Rattle.ob_lanes_laws.specs.UnownedLaws.{KeepsStores, LeavesUnowned}
use Rattle.ob_lanes_laws.proofs.Blind.{is_same, mark_if, marked, marked_get, marked_length}
use Rattle.ob_lanes_laws.proofs.UnownedRequests.{content_marked, Alike, are_marked, owners_held, invocations_alike}

-- None is found where none passes, and the other way round.

none_if : {X : Type 0} (test : X → Bool) (x : X) (xs : List X) (b : Bool) → (find test xs ≡ None → length (filter test xs) ≡ 0) → cond b (Some x) (find test xs) ≡ None → length (cond b (x ∷ filter test xs) (filter test xs)) ≡ 0
none_if test x xs true go e = absurd (some_is_none e)
none_if test x xs false go e = go e

none_passes : {X : Type 0} (test : X → Bool) (xs : List X) → find test xs ≡ None → length (filter test xs) ≡ 0
none_passes test [] e = refl
none_passes test (x ∷ xs) e = none_if test x xs (test x) (none_passes test xs) e

found_if : {X : Type 0} (test : X → Bool) (x : X) (xs : List X) (b : Bool) → (length (filter test xs) ≡ 0 → find test xs ≡ None) → length (cond b (x ∷ filter test xs) (filter test xs)) ≡ 0 → cond b (Some x) (find test xs) ≡ None
found_if test x xs true go e = absurd (omega (arith, e))
found_if test x xs false go e = go e

none_found : {X : Type 0} (test : X → Bool) (xs : List X) → length (filter test xs) ≡ 0 → find test xs ≡ None
none_found test [] e = refl
none_found test (x ∷ xs) e = found_if test x xs (test x) (none_found test xs) e

no_owners : (table : ClassTable) (c : Content) (n : ℕ) → owner_of table c n ≡ None → owners table c n ≡ 0
no_owners table c n e = none_passes (λ (r : IncomingReference). is_owned r.mode) (incoming_references table c n) e

no_owner : (table : ClassTable) (c : Content) (n : ℕ) → owners table c n ≡ 0 → owner_of table c n ≡ None
no_owner table c n e = none_found (λ (r : IncomingReference). is_owned r.mode) (incoming_references table c n) e

-- The store with the mark is at rest.

same_number : (n m : ℕ) → is_same n m ≡ true → n ≡ m
same_number zero zero e = refl
same_number zero (suc m) e = absurd (true≢false (sym e))
same_number (suc n) zero e = absurd (true≢false (sym e))
same_number (suc n) (suc m) e = ap suc (same_number n m e)

own_number : (n : ℕ) → is_same n n ≡ true
own_number zero = refl
own_number (suc n) = own_number n

-- an object that has come to be marked is that of the number
newly_marked : (n m : ℕ) (b : Bool) (o p : Object) → is_same n m ≡ b → Some (mark_if b o) ≡ Some p → is_marked o ≡ false → is_marked p ≡ true → n ≡ m
newly_marked n m true o p e f was is = same_number n m e
newly_marked n m false o p e f was is = absurd (true≢false (sym is ∙ ap is_marked (sym (some_is o p f)) ∙ was))

marked_there : (n m : ℕ) (xs : List Object) (o p : Object) → object_at xs m ≡ Some o → object_at (marked n xs) m ≡ Some p → Some (mark_if (is_same n m) o) ≡ Some p
marked_there n m xs o p there after = sym (marked_get n m xs ∙ ap (option_map (mark_if (is_same n m))) there) ∙ after

no_more : (a b : ℕ) → a ≡ b → a ≤ b
no_more a b e = omega (arith, e)

not_less : (a b : ℕ) → a ≡ b → a < b → ⊥
not_less a b e l = omega (arith, e, l)

marks_quietly : (table : ClassTable) (c : Content) (n : ℕ) → owners table c n ≡ 0 → ChangesQuietly table c (content_marked n c)
marks_quietly table c n none = record {
  objects = are_marked n c.objects;
  owned = λ m. no_more (owners table (content_marked n c) m) (owners table c m) (owners_held n table c m);
  marked = λ m o p there after was is. owners_held n table c m
      ∙ subst (λ k. owners table c k ≡ 0) (newly_marked n m (is_same n m) o p refl (marked_there n m c.objects o p there after) was is) none;
  lost = λ m p after less. absurd (not_less (owners table (content_marked n c) m) (owners table c m) (owners_held n table c m) less);
  shared = λ m p after is. inl is;
}

rests_marked : (table : ClassTable) (c : Content) (n : ℕ) → IsStoreAtRest table c → owners table c n ≡ 0 → IsStoreAtRest table (content_marked n c)
rests_marked table c n rest none =
    store_stays table c (marked n c.objects) c.handles rest (are_marked n c.objects) (handles_of table c rest.is_content) rest.few_handles (rests_after table c (content_marked n c) rest.at_rest (marks_quietly table c n none))

-- After the request.

-- an object that is marked and at rest has no owner
unowned_by : (owned : ℕ) (shared disowned : Bool) → disowned ≡ true → (not (owned == 0) && (shared || disowned)) ≡ false → owned ≡ 0
unowned_by owned shared disowned d e = by (owned == 0) refl shared e
  where
    by : (b : Bool) → (owned == 0) ≡ b → (s : Bool) → (not b && (s || disowned)) ≡ false → owned ≡ 0
    by true is s f = grind (arith, is)
    by false is true f = absurd (true≢false f)
    by false is false f = absurd (true≢false (sym d ∙ f))

has_mark : (n : ℕ) (b : Bool) (x : Option Object) (o : Object) → b ≡ true → option_map (mark_if b) x ≡ Some o → o.disowned ≡ true
has_mark n b None o e f = absurd (none_is_some f)
has_mark n true (Some p) o e f = ap (λ (q : Object). q.disowned) (sym (some_is (record p { disowned = true }) o f))
has_mark n false (Some p) o e f = absurd (true≢false (sym e))

marked_unowned : (table : ClassTable) (c : Content) (n : ℕ) → n < length c.objects → IsStoreAtRest table (content_marked n c) → owner_of table c n ≡ None
marked_unowned table c n low rest =
    let there = there_is (marked n c.objects) n (subst (λ k. n < k) (sym (marked_length n c.objects)) low) in
    let disowned = has_mark n (is_same n n) (object_at c.objects n) there.0 (own_number n) (sym (marked_get n n c.objects) ∙ there.1) in
    no_owner table c n (sym (owners_held n table c n)
    ∙ unowned_by (owners table (content_marked n c) n) there.0.shared there.0.disowned disowned (fails_by_none table (content_marked n c) rest.at_rest n there.0 there.1 owned_and_marked))

leaves : (table : ClassTable) (n : ℕ) (j i : Invocation) → Alike n j i → KeepsStoreAtRest table j → LeavesUnowned table n i
leaves table n (invoked j) (invoked i) alike keeps = marked_unowned table i.content n alike.1 (subst (IsStoreAtRest table) alike.0 keeps)
leaves table n (invoked j) goes_wrong alike keeps = tt
leaves table n goes_wrong i alike keeps = absurd keeps

pub unowned_stay_so : (image : Image) (content : Content) (request : Request) (fuel n : ℕ) → KeepsStores image → IsStoreAtRest (table_of_image image) content → HasLabels request → n < length content.objects
    → owner_of (table_of_image image) content n ≡ None → LeavesUnowned (table_of_image image) n (machine_invocation image content request fuel)
unowned_stay_so image content request fuel n keeps rest labels low none =
    leaves (table_of_image image) n (machine_invocation image (content_marked n content) request fuel) (machine_invocation image content request fuel) (invocations_alike n content low image fuel request)
    (keeps (content_marked n content) request fuel (rests_marked (table_of_image image) content n rest (no_owners (table_of_image image) content n none)) labels)
