-- A store at rest stays so where objects gain marks, and owners change with them.
use Rattle.std.proofs.Common.{◌≡◌, ◌∙◌, ◌⊎◌, inl, inr, ℕ, zero, suc, ◌+◌, ◌<◌, ◌≤◌, Bool, true, false, List, [], ◌∷◌, ◌++◌, map, Some, refl, ap, arith}
use Rattle.std.specs.Prelude.{cond, not, filter, flat_map, ◌&&◌, ◌||◌, ◌==◌, nat_eq, nat_lt}
use Rattle.std.specs.Option.{option_map_or}
use Rattle.std.specs.List.{list_any, enumerate_from}
use Rattle.ob_table.specs.Tables.{ClassTable}
use Rattle.ob_table.specs.declared.seen.Kind.TheVariants.{Reference}
use Rattle.ob_table_spec.specs.WellFormed.{serves_as}
use Rattle.ob_heap_spec.specs.Objects.{Object}
use Rattle.ob_heap_spec.specs.Contents.{Content, object_at}
use Rattle.ob_rest_spec.specs.Modes.{is_shared}
use Rattle.ob_rest_spec.specs.References.{FieldReference, references_of, field_references}
use Rattle.ob_rest_spec.specs.Incoming.{incoming_by_field, incoming_by_handle, fields_onto, handles_onto, incoming_references, owners}
use Rattle.ob_rest_spec.specs.Failing.{is_marked, is_asset, refers_as_declared, FailingWay, many_owners, owned_and_marked, lost_asset, shared_unmarked, outside_states, other_contract, fails_by}
use Rattle.ob_rest_spec.specs.AtRest.{IsAtRest}
use Rattle.ob_rest_laws.specs.Laws.{FailsInNoWay, is_shared_by_handle, IsMarkedFrom, AreMarkedFrom, ChangesQuietly}
use Rattle.ob_rest_laws.proofs.Ways.{fails_by_none, at_rest}

-- References.

-- marks don't change what an object refers to
same_references : (table : ClassTable) (k : ℕ) (o p : Object) → IsMarkedFrom o p
    → references_of table k p ≡ references_of table k o
same_references table k o p m = rw (m.contract, m.state, m.fields) refl

-- nor what objects refer to
same_references_from : (table : ClassTable) (k : ℕ) (objects after : List Object) → AreMarkedFrom objects after
    → flat_map (λ o. references_of table o.0 o.1) (enumerate_from k after)
    ≡ flat_map (λ o. references_of table o.0 o.1) (enumerate_from k objects)
same_references_from table k [] [] m = refl
same_references_from table k [] (p ∷ after) m = absurd m
same_references_from table k (o ∷ objects) [] m = absurd m
same_references_from table k (o ∷ objects) (p ∷ after) m =
    rw (same_references table k o p m.0, same_references_from table (k + 1) objects after m.1) refl

pub same_fields : (table : ClassTable) (objects after : List Object) → AreMarkedFrom objects after
    → field_references table after ≡ field_references table objects
same_fields table objects after m = same_references_from table 0 objects after m

-- the object of a number was there, but for its marks
pub was_there : (objects after : List Object) (n : ℕ) (p : Object) → AreMarkedFrom objects after
    → object_at after n ≡ Some p → (o : Object) × (object_at objects n ≡ Some o) × IsMarkedFrom o p
was_there [] [] n p m there = absurd cc
was_there [] (q ∷ after) n p m there = absurd m
was_there (o ∷ objects) [] n p m there = absurd m
was_there (o ∷ objects) (q ∷ after) zero p m there = let same : q ≡ p = cc in (o, refl, rw same at m.0)
was_there (o ∷ objects) (q ∷ after) (suc n) p m there = was_there objects after n p m.1 there

-- Ways 5 and 6 ask nothing of marks.

-- whether an object is outside the states of the fields that own it
same_outside : (table : ClassTable) (content after : Content) (n : ℕ) (o p : Object)
    → AreMarkedFrom content.objects after.objects → IsMarkedFrom o p
    → fails_by outside_states table after n p ≡ fails_by outside_states table content n o
same_outside table content after n o p all m =
    rw (same_fields table content.objects after.objects all, m.contract, m.state) refl

-- the contract of the object of a number
same_declared : (table : ClassTable) (r : FieldReference) (objects after : List Object) (n : ℕ)
    → AreMarkedFrom objects after
    → option_map_or (λ o. serves_as table (Reference r.contract) (Reference o.contract)) (object_at after n) false
    ≡ option_map_or (λ o. serves_as table (Reference r.contract) (Reference o.contract)) (object_at objects n) false
same_declared table r [] [] n m = refl
same_declared table r [] (p ∷ after) n m = absurd m
same_declared table r (o ∷ objects) [] n m = absurd m
same_declared table r (o ∷ objects) (p ∷ after) zero m = let it = m.0 in rw it.contract refl
same_declared table r (o ∷ objects) (p ∷ after) (suc n) m = same_declared table r objects after n m.1

-- whether an object refers to one of another contract than is declared
same_others : (table : ClassTable) (content after : Content) (n : ℕ) (o p : Object)
    → AreMarkedFrom content.objects after.objects → IsMarkedFrom o p
    → fails_by other_contract table after n p ≡ fails_by other_contract table content n o
same_others table content after n o p all m =
    (λ i. list_any (λ r. not (same_declared table r content.objects after.objects r.object all i))
    (references_of table n p))
    ∙ ap (λ rs. list_any (λ r. not (refers_as_declared table content.objects r)) rs) (same_references table n o p m)

-- Way 4 asks fields and handles.

-- the same under a test before
any_under : (a b c d : Bool) → b ≡ (c || d) → (a || b) ≡ ((a || c) || d)
any_under true b c d same = refl
any_under false b c d same = same

-- whether one of two lists has what passes
any_of_both : {X : Type 0} (q : X → Bool) (xs ys : List X) → list_any q (xs ++ ys) ≡ (list_any q xs || list_any q ys)
any_of_both q [] ys = refl
any_of_both q (x ∷ xs) ys =
    any_under (q x) (list_any q (xs ++ ys)) (list_any q xs) (list_any q ys) (any_of_both q xs ys)

-- whether what passes a test and is mapped passes another
any_one : {X Y : Type 0} (f : X → Y) (q : Y → Bool) (x : X) (xs : List X) (b : Bool)
    → list_any q (map f (cond b (x ∷ xs) xs)) ≡ ((b && q (f x)) || list_any q (map f xs))
any_one f q x xs true = refl
any_one f q x xs false = refl

any_mapped : {X Y : Type 0} (t : X → Bool) (f : X → Y) (q : Y → Bool) (xs : List X)
    → list_any q (map f (filter t xs)) ≡ list_any (λ x. t x && q (f x)) xs
any_mapped t f q [] = refl
any_mapped t f q (x ∷ xs) =
    any_one f q x (filter t xs) (t x) ∙ ap (λ rest. (t x && q (f x)) || rest) (any_mapped t f q xs)

-- whether an object is referred to as shared by a field
pub is_shared_by_field : ClassTable → List Object → ℕ → Bool
is_shared_by_field table objects n =
    list_any (λ r. nat_eq r.object n && is_shared r.perm.mode) (field_references table objects)

-- marks don't change that
same_shared_fields : (table : ClassTable) (content after : Content) (n : ℕ)
    → AreMarkedFrom content.objects after.objects
    → is_shared_by_field table after.objects n ≡ is_shared_by_field table content.objects n
unfolding is_shared_by_field
same_shared_fields table content after n all = rw (same_fields table content.objects after.objects all) refl

-- whether it is referred to as shared is asked of fields and of handles
pub shared_places : (table : ClassTable) (content : Content) (n : ℕ)
    → list_any (λ r. is_shared r.mode) (incoming_references table content n)
    ≡ (is_shared_by_field table content.objects n || is_shared_by_handle content.handles n)
unfolding is_shared_by_field
shared_places table content n =
    any_of_both (λ r. is_shared r.mode) (map incoming_by_field (fields_onto table content.objects n))
    (map incoming_by_handle (handles_onto content.handles n))
    ∙ (λ i. any_mapped (λ r. nat_eq r.object n) incoming_by_field (λ r. is_shared r.mode)
    (field_references table content.objects) i
    || any_mapped (λ h. nat_eq h.1.object n) incoming_by_handle (λ r. is_shared r.mode) content.handles i)

-- The first four ways, as they follow from those before.

neither : (b : Bool) → (b && false) ≡ false
neither true = refl
neither false = refl

still_few : (a c : ℕ) → a ≤ c → nat_lt 1 c ≡ false → nat_lt 1 a ≡ false
still_few a c fewer before = grind arith

nothing_marked : (a : ℕ) → a ≡ 0 → not (a == 0) ≡ false
nothing_marked a none = rw none refl

still_unmarked : (a c : ℕ) (before after : Bool) → a ≤ c → (not (c == 0) && before) ≡ false
    → (before ≡ false → after ≡ true → a ≡ 0) → (not (a == 0) && after) ≡ false
still_unmarked a c before false fewer was marks = neither (not (a == 0))
still_unmarked a c false true fewer was marks = rw (marks refl refl) refl
still_unmarked a c true true fewer was marks =
    let none : a ≡ 0 = grind arith in rw none refl

still_owned : (asset : Bool) (a c : ℕ) (before after : Bool) → a ≤ c
    → (asset && not before && (c == 0)) ≡ false → (before ≡ true → after ≡ true) → (a < c → after ≡ true)
    → (asset && not after && (a == 0)) ≡ false
still_owned false a c before after fewer was marks lost = refl
still_owned true a c before true fewer was marks lost = refl
still_owned true a c true false fewer was marks lost = absurd (let gone = marks refl in cc)
still_owned true a c false false fewer was marks lost = at_zero (a == 0) refl
  where
    at_zero : (b : Bool) → (a == 0) ≡ b → b ≡ false
    at_zero false is = refl
    at_zero true is = absurd (let gone = lost (grind arith) in cc)

still_shared : (before after field handle handle_after : Bool) → (not before && (field || handle)) ≡ false
    → (before ≡ true → after ≡ true) → (handle_after ≡ true → (handle ≡ true) ⊎ (after ≡ true))
    → (not after && (field || handle_after)) ≡ false
still_shared before true field handle handle_after was marks shares = refl
still_shared true false field handle handle_after was marks shares = absurd (let gone = marks refl in cc)
still_shared false false true handle handle_after was marks shares = absurd cc
still_shared false false false handle false was marks shares = refl
still_shared false false false handle true was marks shares =
    absurd (elim (shares refl) [ inl shared ↦ let gone = rw shared at was in cc | inr marked ↦ cc ])

-- a mark that is gained stays
marks_grow : (o p : Object) → IsMarkedFrom o p → is_marked o ≡ true → is_marked p ≡ true
marks_grow o p m marked = grown o.shared o.disowned p.shared p.disowned m.shared m.disowned marked
  where
    grown : (a b c d : Bool) → (a ≡ true → c ≡ true) → (b ≡ true → d ≡ true) → (a || b) ≡ true → (c || d) ≡ true
    grown a b true d first second either = refl
    grown a b false true first second either = refl
    grown true b false false first second either = absurd (let gone = first refl in cc)
    grown false true false false first second either = absurd (let gone = second refl in cc)
    grown false false false false first second either = absurd cc

-- an asset stays one
same_asset : (table : ClassTable) (o p : Object) → IsMarkedFrom o p → is_asset table p ≡ is_asset table o
same_asset table o p m = rw m.contract refl

-- an object that failed in no way fails in none
fails_in_none_after : (table : ClassTable) (content after : Content) (quiet : ChangesQuietly table content after)
    → FailsInNoWay table content → (n : ℕ) (o p : Object) → object_at content.objects n ≡ Some o
    → object_at after.objects n ≡ Some p → IsMarkedFrom o p → (way : FailingWay)
    → fails_by way table after n p ≡ false
fails_in_none_after table content after quiet none n o p was there m many_owners =
    still_few (owners table after n) (owners table content n) (quiet.owned n) (none n o was many_owners)
fails_in_none_after table content after quiet none n o p was there m owned_and_marked =
    still_unmarked (owners table after n) (owners table content n) (is_marked o) (is_marked p) (quiet.owned n)
    (none n o was owned_and_marked) (quiet.marked n o p was there)
fails_in_none_after table content after quiet none n o p was there m lost_asset =
    rw (same_asset table o p m) (still_owned (is_asset table o) (owners table after n) (owners table content n)
    (is_marked o) (is_marked p) (quiet.owned n) (none n o was lost_asset) (marks_grow o p m) (quiet.lost n p there))
fails_in_none_after table content after quiet none n o p was there m shared_unmarked =
    rw (shared_places table after n, same_shared_fields table content after n quiet.objects)
    (still_shared o.shared p.shared (is_shared_by_field table content.objects n) (is_shared_by_handle content.handles n)
    (is_shared_by_handle after.handles n) (rw (shared_places table content n) at (none n o was shared_unmarked))
    m.shared (quiet.shared n p there))
fails_in_none_after table content after quiet none n o p was there m outside_states =
    same_outside table content after n o p quiet.objects m ∙ none n o was outside_states
fails_in_none_after table content after quiet none n o p was there m other_contract =
    same_others table content after n o p quiet.objects m ∙ none n o was other_contract

pub rests_after : (table : ClassTable) (content after : Content) → IsAtRest table content
    → ChangesQuietly table content after → IsAtRest table after
rests_after table content after rest quiet =
    at_rest table after (λ n p there way.
    let was = was_there content.objects after.objects n p quiet.objects there in
    fails_in_none_after table content after quiet (fails_by_none table content rest) n was.0 p was.1 there was.2 way)
