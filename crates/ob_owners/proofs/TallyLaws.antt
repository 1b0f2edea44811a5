-- What the tallies of objects come to once all places are noted, and that an object fails exactly where it does by its tally.
use Rattle.std.proofs.Common.{◌≡◌, ◌≢◌, ℕ, zero, suc, ◌+◌, ◌<◌, Bool, true, false, cond, not, ◌&&◌, ◌||◌, List, [], ◌∷◌, ◌++◌, map, length, replicate, get_or, set, Option, Some, None, refl, sym, ap, ◌∙◌, arith}
use Rattle.std.specs.Prelude.{◌==◌, ◌≤◌, nat_eq, nat_lt, slice_get, option_map, filter, if◌then◌else◌}
use Rattle.std.specs.Option.{option_map_or}
use Rattle.std.specs.List.{list_any}
use Rattle.std.proofs.lemmas.Bool.Decides.{Decides-eqb}
use Rattle.std.proofs.lemmas.Grind.{common_steps}
use Rattle.std.proofs.lemmas.List.{length-append}
use Rattle.std.proofs.lemmas.List.Elements.{filter-append}
use Rattle.std.proofs.lemmas.List.Folds.{list_any-append}
use Rattle.ob_table.specs.Tables.{ClassTable}
use Rattle.ob_heap_spec.specs.Contents.{HandleName, Handle, Content, object_at}
use Rattle.ob_heap_spec.specs.Objects.{Object}
use Rattle.ob_rest_spec.specs.AtRest.{fails}
use Rattle.ob_rest_spec.specs.Failing.{fails_by, every_way, is_asset, is_marked, is_outside_declaration, is_outside_states}
use Rattle.ob_rest_spec.specs.Incoming.{IncomingReference, incoming_by_field, incoming_by_handle, incoming_references, fields_onto, handles_onto, owners}
use Rattle.ob_rest_spec.specs.Modes.{is_owned, is_shared}
use Rattle.ob_rest_spec.specs.References.{FieldReference, field_references}
use Rattle.ob_owners.specs.declared.tally.Holding.{Holding}
use Rattle.ob_owners.specs.declared.tally.OwnerCount.{OwnerCount}
use Rattle.ob_owners.specs.declared.tally.OwnerCount.TheVariants.{Zero, Many}
use Rattle.ob_owners.specs.declared.tally.Tally.{Tally}
use Rattle.ob_owners.specs.Noting.{holding_of_field, holding_of_handle, holdings, empty_tally, one_owner_more, with_holding, with_change_at, tallies_with, after_holdings}
use Rattle.ob_owners.specs.Tallies.{owner_count, tally_of, AreTallies, is_zero, is_many, refers_to_other, fails_by_owners, fails_tallied}

-- A list changed at a place.

pub changed_is_set : {A : Type 0} (f : A → A) (xs : List A) (k : ℕ) (d x : A) → k < length xs → x ≡ f (get_or xs k d) → set xs k x ≡ with_change_at k f xs
changed_is_set f [] k d x h e = absurd (omega arith)
changed_is_set f (y ∷ ys) zero d x h e = ap (λ z. z ∷ ys) e
changed_is_set f (y ∷ ys) (suc k) d x h e = ap (λ zs. y ∷ zs) (changed_is_set f ys k d x (omega arith) e)

pub changed_past : {A : Type 0} (f : A → A) (xs : List A) (k : ℕ) → length xs ≤ k → xs ≡ with_change_at k f xs
changed_past f [] k h = refl
changed_past f (y ∷ ys) zero h = absurd (omega arith)
changed_past f (y ∷ ys) (suc k) h = ap (λ zs. y ∷ zs) (changed_past f ys k (omega arith))

changed_same : {A : Type 0} (f : A → A) (xs : List A) (k : ℕ) → slice_get (with_change_at k f xs) k ≡ option_map f (slice_get xs k)
changed_same f [] k = refl
changed_same f (x ∷ xs) zero = refl
changed_same f (x ∷ xs) (suc k) = changed_same f xs k

changed_other : {A : Type 0} (f : A → A) (xs : List A) (k n : ℕ) → k ≢ n → slice_get (with_change_at k f xs) n ≡ slice_get xs n
changed_other f [] k n ne = refl
changed_other f (x ∷ xs) zero zero ne = absurd (ne refl)
changed_other f (x ∷ xs) zero (suc n) ne = refl
changed_other f (x ∷ xs) (suc k) zero ne = refl
changed_other f (x ∷ xs) (suc k) (suc n) ne = changed_other f xs k n (λ e. ne (ap suc e))

changed_there : {A : Type 0} (f : A → A) (xs : List A) (k n : ℕ)
    → slice_get (with_change_at k f xs) n ≡ (if nat_eq k n then option_map f (slice_get xs n) else slice_get xs n)
changed_there {A} f xs k n = by (nat_eq k n) refl
  where
    by : (b : Bool) → nat_eq k n ≡ b → slice_get (with_change_at k f xs) n ≡ (if b then option_map f (slice_get xs n) else slice_get xs n)
    by true is = let same : k ≡ n = (Decides-eqb k n).0 is in ap (λ m. slice_get (with_change_at m f xs) n) same ∙ changed_same f xs n
    by false is = changed_other f xs k n (λ e. absurd (cc (is, (Decides-eqb k n).1 e)))

-- The tally of one object.

abbrev onto : ℕ → Holding → Bool
onto n h = nat_eq h.object.0 n

abbrev tallied : List Holding → Tally → Tally
tallied [] t = t
tallied (h ∷ hs) t = tallied hs (with_holding h t)

after_there : (n : ℕ) (hs : List Holding) (ts : List Tally)
    → slice_get (after_holdings hs ts) n ≡ option_map (tallied (filter (onto n) hs)) (slice_get ts n)
after_there n [] ts = by (slice_get ts n)
  where
    by : (o : Option Tally) → o ≡ option_map (tallied []) o
    by None = refl
    by (Some t) = refl
after_there n (h ∷ hs) ts =
    after_there n hs (tallies_with h ts)
    ∙ ap (option_map (tallied (filter (onto n) hs))) (changed_there (with_holding h) ts h.object.0 n)
    ∙ by (onto n h) (slice_get ts n)
  where
    by : (b : Bool) (o : Option Tally)
        → option_map (tallied (filter (onto n) hs)) (if b then option_map (with_holding h) o else o)
        ≡ option_map (tallied (cond b (h ∷ filter (onto n) hs) (filter (onto n) hs))) o
    by true None = refl
    by true (Some t) = refl
    by false o = refl

pub after_append : (hs ks : List Holding) (ts : List Tally) → after_holdings (hs ++ ks) ts ≡ after_holdings ks (after_holdings hs ts)
after_append [] ks ts = refl
after_append (h ∷ hs) ks ts = after_append hs ks (tallies_with h ts)

-- so many owners more
abbrev more : ℕ → OwnerCount → OwnerCount
more zero c = c
more (suc n) c = more n (one_owner_more c)

more_many : (n : ℕ) → more n Many ≡ Many
more_many zero = refl
more_many (suc n) = more_many n

more_none : (n : ℕ) → more n Zero ≡ owner_count n
more_none zero = refl
more_none (suc zero) = refl
more_none (suc (suc n)) = more_many n

or_false : (b : Bool) → b ≡ (b || false)
or_false true = refl
or_false false = refl

or_assoc : (a b c : Bool) → ((a || b) || c) ≡ (a || (b || c))
or_assoc true b c = refl
or_assoc false b c = refl

abbrev owning : Holding → Bool
owning h = is_owned h.mode

abbrev sharing : Holding → Bool
sharing h = is_shared h.mode

abbrev outside : Holding → Bool
outside h = h.outside

abbrev tally : OwnerCount → Bool → Bool → Tally
tally c s x = record { owners = c; shared = s; outside = x }

same_tally : (c d : OwnerCount) (s r x y : Bool) → c ≡ d → s ≡ r → x ≡ y → tally c s x ≡ tally d r y
same_tally c d s r x y e f g = ap (λ z. tally z s x) e ∙ ap (λ z. tally d z x) f ∙ ap (λ z. tally d r z) g

tallied_is : (hs : List Holding) (t : Tally)
    → tallied hs t ≡ tally (more (length (filter owning hs)) t.owners) (t.shared || list_any sharing hs) (t.outside || list_any outside hs)
tallied_is [] t = same_tally _ _ _ _ _ _ refl (or_false t.shared) (or_false t.outside)
tallied_is (h ∷ hs) t =
    tallied_is hs (with_holding h t)
    ∙ same_tally _ _ _ _ _ _ (by (owning h)) (or_assoc t.shared (sharing h) (list_any sharing hs)) (or_assoc t.outside h.outside (list_any outside hs))
  where
    by : (b : Bool) → more (length (filter owning hs)) (if b then one_owner_more t.owners else t.owners)
        ≡ more (length (cond b (h ∷ filter owning hs) (filter owning hs))) t.owners
    by true = refl
    by false = refl

-- Fields and handles together.

filter_mapped : {A B : Type 0} (p : B → Bool) (f : A → B) (xs : List A) → filter p (map f xs) ≡ map f (filter (λ x. p (f x)) xs)
filter_mapped p f [] = refl
filter_mapped {A} {B} p f (x ∷ xs) = by (p (f x)) (filter_mapped p f xs)
  where
    by : (b : Bool) → filter p (map f xs) ≡ map f (filter (λ y. p (f y)) xs)
        → cond b (f x ∷ filter p (map f xs)) (filter p (map f xs)) ≡ map f (cond b (x ∷ filter (λ y. p (f y)) xs) (filter (λ y. p (f y)) xs))
    by true h = ap (λ ys. f x ∷ ys) h
    by false h = h

length_mapped : {A B : Type 0} (f : A → B) (xs : List A) → length (map f xs) ≡ length xs
length_mapped f [] = refl
length_mapped f (x ∷ xs) = ap suc (length_mapped f xs)

any_mapped : {A B : Type 0} (p : B → Bool) (f : A → B) (xs : List A) → list_any p (map f xs) ≡ list_any (λ x. p (f x)) xs
any_mapped p f [] = refl
any_mapped p f (x ∷ xs) = ap (λ b. p (f x) || b) (any_mapped p f xs)

filter_both : {A B C : Type 0} (p : C → Bool) (f : A → C) (g : B → C) (xs : List A) (ys : List B)
    → filter p (map f xs ++ map g ys) ≡ map f (filter (λ x. p (f x)) xs) ++ map g (filter (λ y. p (g y)) ys)
filter_both p f g xs ys =
    filter-append p (map f xs) (map g ys) ∙ ap (λ l. l ++ filter p (map g ys)) (filter_mapped p f xs)
    ∙ ap (λ l. map f (filter (λ x. p (f x)) xs) ++ l) (filter_mapped p g ys)

count_both : {A B C : Type 0} (p : C → Bool) (f : A → C) (g : B → C) (xs : List A) (ys : List B)
    → length (filter p (map f xs ++ map g ys)) ≡ length (filter (λ x. p (f x)) xs) + length (filter (λ y. p (g y)) ys)
count_both p f g xs ys =
    ap length (filter_both p f g xs ys) ∙ length-append (map f (filter (λ x. p (f x)) xs)) (map g (filter (λ y. p (g y)) ys))
    ∙ ap (λ n. n + length (map g (filter (λ y. p (g y)) ys))) (length_mapped f (filter (λ x. p (f x)) xs))
    ∙ ap (λ n. length (filter (λ x. p (f x)) xs) + n) (length_mapped g (filter (λ y. p (g y)) ys))

any_both : {A B C : Type 0} (p : C → Bool) (f : A → C) (g : B → C) (xs : List A) (ys : List B)
    → list_any p (map f xs ++ map g ys) ≡ (list_any (λ x. p (f x)) xs || list_any (λ y. p (g y)) ys)
any_both p f g xs ys =
    list_any-append p (map f xs) (map g ys) ∙ ap (λ b. b || list_any p (map g ys)) (any_mapped p f xs)
    ∙ ap (λ b. list_any (λ x. p (f x)) xs || b) (any_mapped p g ys)

any_never : {A : Type 0} (xs : List A) → list_any (λ x. false) xs ≡ false
any_never [] = refl
any_never (x ∷ xs) = any_never xs

-- two tests that agree on what is kept
any_kept : {A : Type 0} (keep p q : A → Bool) → ((x : A) → keep x ≡ true → p x ≡ q x) → (xs : List A) → list_any p (filter keep xs) ≡ list_any q (filter keep xs)
any_kept keep p q h [] = refl
any_kept {A} keep p q h (x ∷ xs) = by (keep x) refl (any_kept keep p q h xs)
  where
    by : (b : Bool) → keep x ≡ b → list_any p (filter keep xs) ≡ list_any q (filter keep xs)
        → list_any p (cond b (x ∷ filter keep xs) (filter keep xs)) ≡ list_any q (cond b (x ∷ filter keep xs) (filter keep xs))
    by true is rest = ap (λ b. b || list_any p (filter keep xs)) (h x is) ∙ ap (λ b. q x || b) rest
    by false is rest = rest

module _ (table : ClassTable) (content : Content) (n : ℕ) (o : Object) (there : object_at content.objects n ≡ Some o) where
  abbrev by_field : FieldReference → Holding
  by_field = holding_of_field table content.objects

  abbrev fields : List FieldReference
  fields = fields_onto table content.objects n

  abbrev handles : List (HandleName × Handle)
  handles = handles_onto content.handles n

  owners_are : length (filter owning (map by_field fields ++ map holding_of_handle handles)) ≡ owners table content n
  owners_are =
      count_both owning by_field holding_of_handle fields handles
      ∙ sym (count_both (λ (r : IncomingReference). is_owned r.mode) incoming_by_field incoming_by_handle fields handles)

  shared_is : list_any sharing (map by_field fields ++ map holding_of_handle handles) ≡ list_any (λ r. is_shared r.mode) (incoming_references table content n)
  shared_is =
      any_both sharing by_field holding_of_handle fields handles
      ∙ sym (any_both (λ (r : IncomingReference). is_shared r.mode) incoming_by_field incoming_by_handle fields handles)

  declared_here : (r : FieldReference) → nat_eq r.object n ≡ true → outside (by_field r) ≡ is_outside_declaration table o r
  declared_here r is =
      ap (λ x. option_map_or (λ p. is_outside_declaration table p r) x false)
      (ap (object_at content.objects) ((Decides-eqb r.object n).0 is) ∙ there)

  outside_is : list_any outside (map by_field fields ++ map holding_of_handle handles) ≡ is_outside_states table content n o
  outside_is =
      any_both outside by_field holding_of_handle fields handles
      ∙ ap (λ b. list_any (λ r. outside (by_field r)) fields || b) (any_never handles)
      ∙ sym (or_false (list_any (λ r. outside (by_field r)) fields))
      ∙ any_kept (λ r. nat_eq r.object n) (λ r. outside (by_field r)) (is_outside_declaration table o) declared_here
      (field_references table content.objects)

  pub tally_is : tallied (filter (onto n) (holdings table content)) empty_tally ≡ tally_of table content n o
  tally_is =
      ap (λ hs. tallied hs empty_tally) (filter_both (onto n) by_field holding_of_handle (field_references table content.objects) content.handles)
      ∙ tallied_is (map by_field fields ++ map holding_of_handle handles) empty_tally
      ∙ same_tally _ _ _ _ _ _ (more_none (length (filter owning (map by_field fields ++ map holding_of_handle handles))) ∙ ap owner_count owners_are)
      shared_is outside_is

filled : {A B : Type 0} (b : B) (xs : List A) (n : ℕ) → slice_get (replicate (length xs) b) n ≡ option_map (λ x. b) (slice_get xs n)
filled b [] n = refl
filled b (x ∷ xs) zero = refl
filled b (x ∷ xs) (suc n) = filled b xs n

-- once all places are noted, each object has its tally
pub noted_all : (table : ClassTable) (content : Content)
    → AreTallies table content (after_holdings (holdings table content) (replicate (length content.objects) empty_tally))
noted_all table content n =
    after_there n (holdings table content) (replicate (length content.objects) empty_tally)
    ∙ ap (option_map (tallied (filter (onto n) (holdings table content)))) (filled empty_tally content.objects n)
    ∙ by (object_at content.objects n) refl
  where
    by : (r : Option Object) → object_at content.objects n ≡ r
        → option_map (tallied (filter (onto n) (holdings table content))) (option_map (λ o. empty_tally) r) ≡ option_map (tally_of table content n) r
    by None there = refl
    by (Some o) there = ap Some (tally_is table content n o there)

-- Failing.

any_some : {A : Type 0} (p : A → Bool) (xs : List A) → nat_lt 0 (length (filter p xs)) ≡ list_any p xs
any_some p [] = refl
any_some {A} p (x ∷ xs) = by (p x) (any_some p xs)
  where
    by : (b : Bool) → nat_lt 0 (length (filter p xs)) ≡ list_any p xs → nat_lt 0 (length (cond b (x ∷ filter p xs) (filter p xs))) ≡ (b || list_any p xs)
    by true h = grind (arith, common_steps)
    by false h = h

many_is : (k : ℕ) → is_many (owner_count k) ≡ nat_lt 1 k
many_is zero = refl
many_is (suc zero) = refl
many_is (suc (suc k)) = grind (arith, common_steps)

pub zero_is : (k : ℕ) → is_zero (owner_count k) ≡ (k == 0)
zero_is zero = refl
zero_is (suc zero) = refl
zero_is (suc (suc k)) = grind (arith, common_steps)

six : (a b c d e f : Bool) → (a || (b || (c || (d || (e || (f || false)))))) ≡ (((((a || b) || c) || d) || e) || f)
six true b c d e f = refl
six false true c d e f = refl
six false false true d e f = refl
six false false false true e f = refl
six false false false false true f = refl
six false false false false false f = sym (or_false f)

by_count : (k : ℕ) (asset : Bool) (o : Object)
    → fails_by_owners (owner_count k) asset o ≡ ((nat_lt 1 k || (not (k == 0) && is_marked o)) || (asset && not (is_marked o) && (k == 0)))
by_count k asset o =
    ap (λ b. (b || (not (is_zero (owner_count k)) && is_marked o)) || (asset && not (is_marked o) && is_zero (owner_count k))) (many_is k)
    ∙ ap (λ b. (nat_lt 1 k || (not b && is_marked o)) || (asset && not (is_marked o) && b)) (zero_is k)

-- an object fails exactly where it does by its tally
pub fails_by_tally : (table : ClassTable) (content : Content) (n : ℕ) (o : Object) → object_at content.objects n ≡ Some o
    → fails table content n ≡ fails_tallied table content.objects n o (tally_of table content n o)
fails_by_tally table content n o there =
    ap (λ r. nat_lt 0 (length (option_map_or (λ p. filter (λ way. fails_by way table content n p) every_way) r []))) there
    ∙ any_some (λ way. fails_by way table content n o) every_way
    ∙ six (nat_lt 1 (owners table content n)) (not (owners table content n == 0) && is_marked o)
    (is_asset table o && not (is_marked o) && owners table content n == 0)
    (not o.shared && list_any (λ r. is_shared r.mode) (incoming_references table content n)) (is_outside_states table content n o)
    (refers_to_other table content.objects n o)
    ∙ ap (λ b. ((b || (not o.shared && list_any (λ r. is_shared r.mode) (incoming_references table content n))) || is_outside_states table content n o)
    || refers_to_other table content.objects n o) (sym (by_count (owners table content n) (is_asset table o) o))
