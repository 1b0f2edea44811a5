-- The numbers of a store by the tallies of its objects.
use Rattle.std.proofs.Common.{◌≡◌, ℕ, suc, ◌+◌, Bool, cond, not, ◌&&◌, List, [], ◌∷◌, map, length, Option, Some, refl, sym, ap, ◌∙◌, arith}
use Rattle.std.specs.Prelude.{zip, count_by, slice_get, option_map, unwrap_or}
use Rattle.std.specs.List.{enumerate_from}
use Rattle.std.proofs.lemmas.List.{length-map}
use Rattle.std.proofs.lemmas.List.Recursion.{is_count_by}
use Rattle.ob_table.specs.Tables.{ClassTable}
use Rattle.ob_heap.specs.Contents.{Stored, content_of, named_of}
use Rattle.ob_heap.specs.Plain.{object_of}
use Rattle.ob_heap.specs.declared.object.Object.{Object}
use Rattle.ob_heap_spec.specs.Objects.{Object as PlainObject}
use Rattle.ob_rest_spec.specs.Failing.{is_marked, has_no_owner}
use Rattle.ob_rest_spec.specs.Incoming.{owners}
use Rattle.ob_owners.specs.declared.counts.StoreCounts.{StoreCounts}
use Rattle.ob_owners.specs.declared.tally.Tally.{Tally}
use Rattle.ob_owners.specs.Counts.{count_objects, counts_of}
use Rattle.ob_owners.specs.Tallies.{owner_count, tally_of, AreTallies, is_zero}
use Rattle.ob_owners.proofs.TallyLaws.{zero_is}

-- ---- the tallies, one beside each object

head_is : (t u : Tally) → Some t ≡ Some u → t ≡ u
head_is t u e = ap (λ (o : Option Tally). unwrap_or o t) e

listed : (f : ℕ → PlainObject → Tally) (k : ℕ) (os : List PlainObject) (ts : List Tally) → ((n : ℕ) → slice_get ts n ≡ option_map (f (k + n)) (slice_get os n))
    → ts ≡ map (λ o. f o.0 o.1) (enumerate_from k os)
listed f k [] [] are = refl
listed f k [] (t ∷ ts) are = absurd (cc (are 0))
listed f k (o ∷ os) [] are = absurd (cc (are 0))
listed f k (o ∷ os) (t ∷ ts) are =
    let first : t ≡ f k o = head_is t (f k o) (are 0 ∙ ap (λ n. Some (f n o)) (omega arith)) in
    let others : ts ≡ map (λ o. f o.0 o.1) (enumerate_from (k + 1) os) =
    listed f (k + 1) os ts (λ n. are (suc n) ∙ ap (λ m. option_map (f m) (slice_get os n)) (omega arith)) in
    ap (λ x. x ∷ ts) first ∙ ap (λ xs. f k o ∷ xs) others

-- ---- counting

-- the same, by recursion down the list
abbrev counted : {A : Type 0} → (A → Bool) → List A → ℕ
counted p [] = 0
counted p (x ∷ xs) = cond (p x) (1 + counted p xs) (counted p xs)

is_counted : {A : Type 0} (p : A → Bool) (xs : List A) → count_by p xs ≡ counted p xs
is_counted p xs = sym (is_count_by (counted p) p refl (λ x rest. refl) xs)

counted_map : {A B : Type 0} (p : B → Bool) (g : A → B) (xs : List A) → counted p (map g xs) ≡ counted (λ x. p (g x)) xs
counted_map p g [] = refl
counted_map p g (x ∷ xs) = ap (λ n. cond (p (g x)) (1 + n) n) (counted_map p g xs)

counted_same : {A : Type 0} (p q : A → Bool) → ((x : A) → p x ≡ q x) → (xs : List A) → counted p xs ≡ counted q xs
counted_same p q same [] = refl
counted_same p q same (x ∷ xs) =
    ap (λ b. cond b (1 + counted p xs) (counted p xs)) (same x) ∙ ap (λ n. cond (q x) (1 + n) n) (counted_same p q same xs)

-- of each object alone
by_object : (p : PlainObject → Bool) (k : ℕ) (os : List Object) → counted (λ o. p (object_of o)) os ≡ counted (λ o. p o.1) (enumerate_from k (map object_of os))
by_object p k [] = refl
by_object p k (o ∷ os) = ap (λ n. cond (p (object_of o)) (1 + n) n) (by_object p (k + 1) os)

-- of each object and its tally
by_pair : (p : PlainObject → Tally → Bool) (f : ℕ → PlainObject → Tally) (k : ℕ) (os : List Object)
    → counted (λ q. p (object_of q.0) q.1) (zip os (map (λ o. f o.0 o.1) (enumerate_from k (map object_of os))))
    ≡ counted (λ o. p o.1 (f o.0 o.1)) (enumerate_from k (map object_of os))
by_pair p f k [] = refl
by_pair p f k (o ∷ os) = ap (λ n. cond (p (object_of o) (f k (object_of o))) (1 + n) n) (by_pair p f (k + 1) os)

-- ---- the numbers

module _ (table : ClassTable) (content : Stored) (ts : List Tally) (are : AreTallies table (content_of content) ts) where
  -- the objects with their numbers, and the tally of each
  abbrev numbered : List (ℕ × PlainObject)
  numbered = enumerate_from 0 (map object_of content.objects)

  abbrev tally_at : ℕ → PlainObject → Tally
  tally_at = tally_of table (content_of content)

  listed_all : ts ≡ map (λ o. tally_at o.0 o.1) numbered
  listed_all = listed tally_at 0 (map object_of content.objects) ts (λ n. are n ∙ ap (λ m. option_map (tally_at m) (slice_get (map object_of content.objects) n)) (omega arith))

  owned_by_tallies : count_by (λ (t : Tally). not (is_zero t.owners)) ts ≡ count_objects (content_of content) (λ n o. not (has_no_owner table (content_of content) n))
  owned_by_tallies =
      is_counted (λ (t : Tally). not (is_zero t.owners)) ts
      ∙ ap (counted (λ (t : Tally). not (is_zero t.owners))) listed_all
      ∙ counted_map (λ (t : Tally). not (is_zero t.owners)) (λ o. tally_at o.0 o.1) numbered
      ∙ counted_same (λ (o : ℕ × PlainObject). not (is_zero (owner_count (owners table (content_of content) o.0)))) (λ o. not (has_no_owner table (content_of content) o.0))
      (λ o. ap not (zero_is (owners table (content_of content) o.0))) numbered
      ∙ sym (is_counted (λ (o : ℕ × PlainObject). not (has_no_owner table (content_of content) o.0)) numbered)

  loose_by_tallies : count_by (λ (q : Object × Tally). is_zero q.1.owners && not (is_marked (object_of q.0))) (zip content.objects ts)
      ≡ count_objects (content_of content) (λ n o. has_no_owner table (content_of content) n && not (is_marked o))
  loose_by_tallies =
      is_counted (λ (q : Object × Tally). is_zero q.1.owners && not (is_marked (object_of q.0))) (zip content.objects ts)
      ∙ ap (λ (us : List Tally). counted (λ (q : Object × Tally). is_zero q.1.owners && not (is_marked (object_of q.0))) (zip content.objects us)) listed_all
      ∙ by_pair (λ o t. is_zero t.owners && not (is_marked o)) tally_at 0 content.objects
      ∙ counted_same (λ (o : ℕ × PlainObject). is_zero (owner_count (owners table (content_of content) o.0)) && not (is_marked o.1))
      (λ o. has_no_owner table (content_of content) o.0 && not (is_marked o.1)) (λ o. ap (λ b. b && not (is_marked o.1)) (zero_is (owners table (content_of content) o.0))) numbered
      ∙ sym (is_counted (λ (o : ℕ × PlainObject). has_no_owner table (content_of content) o.0 && not (is_marked o.1)) numbered)

marked_by_objects : (p : PlainObject → Bool) (content : Stored) → count_by (λ (o : Object). p (object_of o)) content.objects ≡ count_objects (content_of content) (λ n o. p o)
marked_by_objects p content =
    is_counted (λ (o : Object). p (object_of o)) content.objects ∙ by_object p 0 content.objects
    ∙ sym (is_counted (λ (o : ℕ × PlainObject). p o.1) (enumerate_from 0 (map object_of content.objects)))

abbrev six : ℕ → ℕ → ℕ → ℕ → ℕ → ℕ → StoreCounts
six objects handles owned shared disowned loose =
    record { objects = objects; handles = handles; owned = owned; shared = shared; disowned = disowned; loose = loose }

same_six : (a b c d e f u v w x y z : ℕ) → a ≡ u → b ≡ v → c ≡ w → d ≡ x → e ≡ y → f ≡ z → six a b c d e f ≡ six u v w x y z
same_six a b c d e f u v w x y z au bv cw dx ey fz =
    ap (λ n. six n b c d e f) au ∙ ap (λ n. six u n c d e f) bv ∙ ap (λ n. six u v n d e f) cw ∙ ap (λ n. six u v w n e f) dx
    ∙ ap (λ n. six u v w x n f) ey ∙ ap (λ n. six u v w x y n) fz

-- what is counted over the objects and their tallies is the numbers of the store
pub counts_are : (table : ClassTable) (content : Stored) (items ts us : List Tally) (os : List Object) → AreTallies table (content_of content) items
    → os ≡ content.objects → ts ≡ items → us ≡ items → (handles owned shared disowned loose : ℕ) → handles ≡ length content.handles
    → owned ≡ count_by (λ (t : Tally). not (is_zero t.owners)) ts → shared ≡ count_by (λ (o : Object). o.shared) os
    → disowned ≡ count_by (λ (o : Object). o.disowned) os
    → loose ≡ count_by (λ (q : Object × Tally). is_zero q.1.owners && not (is_marked (object_of q.0))) (zip os us)
    → six (length os) handles owned shared disowned loose ≡ counts_of table (content_of content)
counts_are table content items ts us os are same_os same_ts same_us handles owned shared disowned loose of_handles of_owned of_shared of_disowned of_loose =
    same_six (length os) handles owned shared disowned loose _ _ _ _ _ _
    (ap length same_os ∙ sym (length-map content.objects object_of))
    (of_handles ∙ sym (length-map content.handles named_of))
    (of_owned ∙ ap (count_by (λ (t : Tally). not (is_zero t.owners))) same_ts ∙ owned_by_tallies table content items are)
    (of_shared ∙ ap (count_by (λ (o : Object). o.shared)) same_os ∙ marked_by_objects (λ o. o.shared) content)
    (of_disowned ∙ ap (count_by (λ (o : Object). o.disowned)) same_os ∙ marked_by_objects (λ o. o.disowned) content)
    (of_loose ∙ ap (λ (xs : List Object). count_by (λ (q : Object × Tally). is_zero q.1.owners && not (is_marked (object_of q.0))) (zip xs us)) same_os
    ∙ ap (λ (vs : List Tally). count_by (λ (q : Object × Tally). is_zero q.1.owners && not (is_marked (object_of q.0))) (zip content.objects vs)) same_us
    ∙ loose_by_tallies table content items are)
