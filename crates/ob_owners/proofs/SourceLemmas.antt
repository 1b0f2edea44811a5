-- Owning places of objects with their numbers and of handles: their order, and which of them own an object.
use Rattle.std.proofs.Common.{◌≡◌, ◌≢◌, ◌⊎◌, inl, inr, ℕ, suc, ◌+◌, ◌<◌, ◌≤◌, Bool, true, false, cond, List, [], ◌∷◌, ◌++◌, Option, Some, None, refl, sym, ap, subst, ◌∙◌, true≢false, arith}
use Rattle.std.specs.Prelude.{⊤, nat_eq, ◌||◌, filter, flat_map, filter_map, if◌then◌else◌}
use Rattle.std.specs.Option.{option_map_or}
use Rattle.std.specs.List.{enumerate_from, cons_option}
use Rattle.std.specs.Ordering.{nat_cmp, ordering_then, is_eq}
use Rattle.std.specs.declared.cmp.Ordering.{Ordering}
use Rattle.std.specs.declared.cmp.Ordering.TheVariants.{Less, Equal, Greater}
use Rattle.std.proofs.lemmas.Bool.Decides.{Decides-eqb}
use Rattle.std.specs.Cmp.{nat_cmp_is}
use Rattle.ob_table.specs.Tables.{ClassTable, contract_at}
use Rattle.ob_table.specs.declared.contract.Contract.{Contract}
use Rattle.ob_table.specs.declared.contract.Field.{Field}
use Rattle.ob_table.specs.declared.contract.ResolvedType.{ResolvedType}
use Rattle.ob_table.specs.declared.contract.ResolvedType.TheVariants.{Int, Bool as BoolKind, Text, Reference}
use Rattle.ob_heap_spec.specs.Contents.{HandleName, Handle as PlainHandle, name_order}
use Rattle.ob_heap_spec.specs.Objects.{Object as PlainObject}
use Rattle.ob_heap_spec.specs.Values.{Value, int_value, bool_value, text_value, reference}
use Rattle.ob_heap_spec.proofs.Names.{one_name}
use Rattle.ob_rest_spec.specs.Incoming.{StorePlace, stored_field, stored_handle}
use Rattle.ob_rest_spec.specs.Modes.{is_owned}
use Rattle.ob_rest_spec.specs.References.{FieldReference, reference_of, references_of, available_value}
use Rattle.ob_owners.specs.Order.{place_order}
use Rattle.ob_owners.specs.Owning.{OwningPlace, owning_by_field, owning_by_handle, owning_by_object, owning_in}
use Rattle.ob_owners.proofs.OwnersLemmas.{onto, placed, placed_append}
use Rattle.ob_owners.proofs.OrderLemmas.{has, has_append, is_itself, same_place, IsBeforeAll, IsOrdered}

-- Some of a list in order.

before_some : (n : ℕ) (p : StorePlace) (ps : List OwningPlace) → IsBeforeAll p (placed ps) → IsBeforeAll p (placed (filter (onto n) ps))
before_some n p [] b = tt
before_some n p (q ∷ ps) b = by (nat_eq q.object n) (before_some n p ps b.1)
  where
    by : (c : Bool) → IsBeforeAll p (placed (filter (onto n) ps)) → IsBeforeAll p (placed (cond c (q ∷ filter (onto n) ps) (filter (onto n) ps)))
    by true rest = (b.0, rest)
    by false rest = rest

pub ordered_some : (n : ℕ) (ps : List OwningPlace) → IsOrdered (placed ps) → IsOrdered (placed (filter (onto n) ps))
ordered_some n [] o = tt
ordered_some n (p ∷ ps) o = by (nat_eq p.object n) (ordered_some n ps o.1)
  where
    by : (c : Bool) → IsOrdered (placed (filter (onto n) ps)) → IsOrdered (placed (cond c (p ∷ filter (onto n) ps) (filter (onto n) ps)))
    by true rest = (before_some n p.place ps o.0, rest)
    by false rest = rest

-- Fields come one after another.

-- the fields before one of an object come before all of these
abbrev ComesAt : ℕ → ℕ → List StorePlace → Type 0
ComesAt a k ps = (b j : ℕ) → (b < a) ⊎ ((b ≡ a) × (j < k)) → IsBeforeAll (stored_field b j) ps

field_before : (a k b j : ℕ) → (b < a) ⊎ ((b ≡ a) × (j < k)) → place_order (stored_field b j) (stored_field a k) ≡ Less
field_before a k b j (inl h) = ap (λ o. ordering_then o (nat_cmp j k)) (sym (nat_cmp_is b a Less h))
field_before a k b j (inr h) = ap (λ o. ordering_then o (nat_cmp j k)) (sym (nat_cmp_is b a Equal h.0)) ∙ sym (nat_cmp_is j k Less h.1)

later_field : (a k : ℕ) (ps : List StorePlace) → ComesAt a (k + 1) ps → ComesAt a k ps
later_field a k ps c b j (inl h) = c b j (inl h)
later_field a k ps c b j (inr h) = c b j (inr (h.0, omega (arith, h.1)))

later_object : (a k : ℕ) (ps : List StorePlace) → ComesAt (suc a) 0 ps → ComesAt a k ps
later_object a k ps c b j (inl h) = c b j (inl (omega (arith, h)))
later_object a k ps c b j (inr h) = c b j (inl (omega (arith, h.0)))

field_first : (a k : ℕ) (ps : List StorePlace) → ComesAt a (k + 1) ps → ComesAt a k (stored_field a k ∷ ps)
field_first a k ps c b j h = (field_before a k b j h, later_field a k ps c b j h)

abbrev Follows : ℕ → ℕ → List StorePlace → Type 0
Follows a k ps = IsOrdered ps × ComesAt a k ps

-- the place of a reference in a field, before places that follow it
by_reference : (m k : ℕ) (r : FieldReference) (rest : List OwningPlace) → r.holder ≡ m → r.field ≡ k → Follows m (k + 1) (placed rest)
    → Follows m k (placed (owning_by_field r ++ rest))
by_reference m k r rest eh ek f = by (is_owned r.perm.mode)
  where
    here : (a b : ℕ) → a ≡ m → b ≡ k → Follows m k (stored_field a b ∷ placed rest)
    here a b ea eb =
        subst (λ x. Follows m k (stored_field x b ∷ placed rest)) (sym ea)
        (subst (λ y. Follows m k (stored_field m y ∷ placed rest)) (sym eb)
        ((f.1 m k (inr (refl, omega arith)), f.0), field_first m k (placed rest) f.1))

    by : (b : Bool) → Follows m k (placed ((if b then record { object = r.object; place = stored_field r.holder r.field } ∷ [] else []) ++ rest))
    by true = here r.holder r.field eh ek
    by false = (f.0, later_field m k (placed rest) f.1)

-- the numbers that a reference has
abbrev IsAt : ℕ → ℕ → Option FieldReference → Type 0
IsAt h k None = ⊤
IsAt h k (Some r) = (r.holder ≡ h) × (r.field ≡ k)

is_at : (h k : ℕ) (f : Field) (c : Contract) (o : PlainObject) → IsAt h k (reference_of h k f.of (available_value c o k))
is_at h k f c o = by f.of (available_value c o k)
  where
    by : (kind : ResolvedType) (v : Option Value) → IsAt h k (reference_of h k kind v)
    by Int v = tt
    by BoolKind v = tt
    by Text v = tt
    by (Reference d p) None = tt
    by (Reference d p) (Some (int_value z)) = tt
    by (Reference d p) (Some (bool_value b)) = tt
    by (Reference d p) (Some (text_value t)) = tt
    by (Reference d p) (Some (reference n)) = (refl, refl)

append_assoc3 : (xs ys zs : List OwningPlace) → (xs ++ ys) ++ zs ≡ xs ++ (ys ++ zs)
append_assoc3 [] ys zs = refl
append_assoc3 (x ∷ xs) ys zs = ap (λ ws. x ∷ ws) (append_assoc3 xs ys zs)

fields_follow : (c : Contract) (h : ℕ) (o : PlainObject) (s : ℕ) (fs : List Field) (rest : List OwningPlace) → ((k : ℕ) → Follows h k (placed rest))
    → Follows h s (placed (flat_map owning_by_field (filter_map (λ (f : ℕ × Field). reference_of h f.0 f.1.of (available_value c o f.0)) (enumerate_from s fs)) ++ rest))
fields_follow c h o s [] rest f = f s
fields_follow c h o s (g ∷ fs) rest f = by (reference_of h s g.of (available_value c o s)) (is_at h s g c o) (fields_follow c h o (s + 1) fs rest f)
  where
    others : List OwningPlace
    others = flat_map owning_by_field (filter_map (λ (f : ℕ × Field). reference_of h f.0 f.1.of (available_value c o f.0)) (enumerate_from (s + 1) fs))

    by : (r : Option FieldReference) → IsAt h s r → Follows h (s + 1) (placed (others ++ rest))
        → Follows h s (placed (flat_map owning_by_field (cons_option r (filter_map (λ (f : ℕ × Field). reference_of h f.0 f.1.of (available_value c o f.0)) (enumerate_from (s + 1) fs))) ++ rest))
    by None at next = (next.0, later_field h s (placed (others ++ rest)) next.1)
    by (Some r) at next =
        subst (λ ps. Follows h s (placed ps)) (sym (append_assoc3 (owning_by_field r) others rest)) (by_reference h s r (others ++ rest) at.0 at.1 next)

object_follows : (table : ClassTable) (h : ℕ) (o : PlainObject) (rest : List OwningPlace) → Follows (suc h) 0 (placed rest) → Follows h 0 (placed (owning_by_object table (h, o) ++ rest))
object_follows table h o rest f = by (contract_at table o.contract)
  where
    all : (k : ℕ) → Follows h k (placed rest)
    all k = (f.0, later_object h k (placed rest) f.1)

    by : (r : Option Contract) → Follows h 0 (placed (flat_map owning_by_field (option_map_or (λ c. filter_map (λ (f : ℕ × Field). reference_of h f.0 f.1.of (available_value c o f.0)) (enumerate_from 0 c.fields)) r []) ++ rest))
    by None = all 0
    by (Some c) = fields_follow c h o 0 c.fields rest all

-- the numbers of objects ascend, from one on
abbrev pub Ascend : ℕ → List (ℕ × PlainObject) → Type 0
Ascend least [] = ⊤
Ascend least (o ∷ os) = (least ≤ o.0) × Ascend (suc o.0) os

further : (a b : ℕ) (ps : List StorePlace) → a ≤ b → ComesAt b 0 ps → ComesAt a 0 ps
further a b ps h c x j (inl e) = c x j (inl (omega (arith, e, h)))
further a b ps h c x j (inr e) = absurd (omega (arith, e.1))

objects_follow : (table : ClassTable) (least : ℕ) (os : List (ℕ × PlainObject)) (rest : List OwningPlace) → Ascend least os → ((a k : ℕ) → Follows a k (placed rest))
    → Follows least 0 (placed (flat_map (owning_by_object table) os ++ rest))
objects_follow table least [] rest a f = f least 0
objects_follow table least (o ∷ os) rest a f =
    let others = flat_map (owning_by_object table) os in
    let there = object_follows table o.0 o.1 (others ++ rest) (objects_follow table (suc o.0) os rest a.1 f) in
    subst (λ ps. Follows least 0 (placed ps)) (sym (append_assoc3 (owning_by_object table o) others rest))
    (there.0, further least o.0 (placed (owning_by_object table o ++ (others ++ rest))) a.0 there.1)

-- names come before those of all of these handles
abbrev pub NameBefore : HandleName → List (HandleName × PlainHandle) → Type 0
NameBefore m [] = ⊤
NameBefore m (x ∷ xs) = (name_order m x.0 ≡ Less) × NameBefore m xs

abbrev pub InNames : List (HandleName × PlainHandle) → Type 0
InNames [] = ⊤
InNames (x ∷ xs) = NameBefore x.0 xs × InNames xs

handle_first : (m : HandleName) (hs : List (HandleName × PlainHandle)) → NameBefore m hs → IsBeforeAll (stored_handle m) (placed (flat_map owning_by_handle hs))
handle_first m [] b = tt
handle_first m (x ∷ hs) b = by (is_owned x.1.mode) (handle_first m hs b.1)
  where
    by : (c : Bool) → IsBeforeAll (stored_handle m) (placed (flat_map owning_by_handle hs))
        → IsBeforeAll (stored_handle m) (placed ((if c then record { object = x.1.object; place = stored_handle x.0 } ∷ [] else []) ++ flat_map owning_by_handle hs))
    by true rest = (b.0, rest)
    by false rest = rest

field_earlier : (b j : ℕ) (hs : List (HandleName × PlainHandle)) → IsBeforeAll (stored_field b j) (placed (flat_map owning_by_handle hs))
field_earlier b j [] = tt
field_earlier b j (x ∷ hs) = by (is_owned x.1.mode) (field_earlier b j hs)
  where
    by : (c : Bool) → IsBeforeAll (stored_field b j) (placed (flat_map owning_by_handle hs))
        → IsBeforeAll (stored_field b j) (placed ((if c then record { object = x.1.object; place = stored_handle x.0 } ∷ [] else []) ++ flat_map owning_by_handle hs))
    by true rest = (refl, rest)
    by false rest = rest

handles_ordered : (hs : List (HandleName × PlainHandle)) → InNames hs → IsOrdered (placed (flat_map owning_by_handle hs))
handles_ordered [] i = tt
handles_ordered (x ∷ hs) i = by (is_owned x.1.mode) (handles_ordered hs i.1)
  where
    by : (c : Bool) → IsOrdered (placed (flat_map owning_by_handle hs))
        → IsOrdered (placed ((if c then record { object = x.1.object; place = stored_handle x.0 } ∷ [] else []) ++ flat_map owning_by_handle hs))
    by true rest = (handle_first x.0 hs i.0, rest)
    by false rest = rest

pub ordered_in : (table : ClassTable) (n least : ℕ) (os : List (ℕ × PlainObject)) (hs : List (HandleName × PlainHandle)) → Ascend least os → InNames hs
    → IsOrdered (placed (filter (onto n) (owning_in table os hs)))
ordered_in table n least os hs a i =
    ordered_some n (owning_in table os hs)
    (objects_follow table least os (flat_map owning_by_handle hs) a (λ x k. (handles_ordered hs i, λ b j h. field_earlier b j hs))).0

-- Which place owns an object.

-- the object of a number
abbrev pub look : ℕ → List (ℕ × PlainObject) → Option PlainObject
look h [] = None
look h (o ∷ os) = if nat_eq o.0 h then Some o.1 else look h os

-- the handle of a name
abbrev pub look_name : HandleName → List (HandleName × PlainHandle) → Option PlainHandle
look_name m [] = None
look_name m (x ∷ xs) = if is_eq (name_order x.0 m) then Some x.1 else look_name m xs

-- whether a field of an object owns the object of a number
abbrev pub field_owns : ClassTable → ℕ → ℕ → ℕ → PlainObject → Bool
field_owns table n h k o = has (stored_field h k) (placed (filter (onto n) (owning_by_object table (h, o))))

-- whether a handle owns the object of a number
abbrev pub handle_owns : ℕ → HandleName → PlainHandle → Bool
handle_owns n m x = has (stored_handle m) (placed (filter (onto n) (owning_by_handle (m, x))))

-- none of these places is this one
abbrev Lacks : StorePlace → List OwningPlace → Type 0
Lacks p [] = ⊤
Lacks p (q ∷ qs) = (is_eq (place_order p q.place) ≡ false) × Lacks p qs

lacks_both : (p : StorePlace) (xs ys : List OwningPlace) → Lacks p xs → Lacks p ys → Lacks p (xs ++ ys)
lacks_both p [] ys a b = b
lacks_both p (x ∷ xs) ys a b = (a.0, lacks_both p xs ys a.1 b)

lacks_has : (n : ℕ) (p : StorePlace) (xs : List OwningPlace) → Lacks p xs → has p (placed (filter (onto n) xs)) ≡ false
lacks_has n p [] l = refl
lacks_has n p (x ∷ xs) l = by (nat_eq x.object n) (lacks_has n p xs l.1)
  where
    by : (c : Bool) → has p (placed (filter (onto n) xs)) ≡ false → has p (placed (cond c (x ∷ filter (onto n) xs) (filter (onto n) xs))) ≡ false
    by true rest = ap (λ b. b || has p (placed (filter (onto n) xs))) l.0 ∙ rest
    by false rest = rest

equal_order : (o : Ordering) → is_eq o ≡ true → o ≡ Equal
equal_order Less e = absurd (true≢false (sym e))
equal_order Equal e = refl
equal_order Greater e = absurd (true≢false (sym e))

not_equal : (h a k j : ℕ) → h ≢ a → is_eq (place_order (stored_field h k) (stored_field a j)) ≡ false
not_equal h a k j ne = by (is_eq (place_order (stored_field h k) (stored_field a j))) refl
  where
    by : (b : Bool) → is_eq (place_order (stored_field h k) (stored_field a j)) ≡ b → is_eq (place_order (stored_field h k) (stored_field a j)) ≡ false
    by true is =
        let e : stored_field h k ≡ stored_field a j = same_place (stored_field h k) (stored_field a j) is in
        let same : h ≡ a = cc in
        absurd (ne same)
    by false is = is

lacks_fields : (c : Contract) (h k a : ℕ) (o : PlainObject) (s : ℕ) (fs : List Field) → h ≢ a
    → Lacks (stored_field h k) (flat_map owning_by_field (filter_map (λ (f : ℕ × Field). reference_of a f.0 f.1.of (available_value c o f.0)) (enumerate_from s fs)))
lacks_fields c h k a o s [] ne = tt
lacks_fields c h k a o s (g ∷ fs) ne = by (reference_of a s g.of (available_value c o s)) (is_at a s g c o) (lacks_fields c h k a o (s + 1) fs ne)
  where
    others : List FieldReference
    others = filter_map (λ (f : ℕ × Field). reference_of a f.0 f.1.of (available_value c o f.0)) (enumerate_from (s + 1) fs)

    own : (r : FieldReference) (b : Bool) → r.holder ≡ a → Lacks (stored_field h k) (if b then record { object = r.object; place = stored_field r.holder r.field } ∷ [] else [])
    own r true e = (not_equal h r.holder k r.field (λ x. ne (x ∙ e)), tt)
    own r false e = tt

    by : (r : Option FieldReference) → IsAt a s r → Lacks (stored_field h k) (flat_map owning_by_field others) → Lacks (stored_field h k) (flat_map owning_by_field (cons_option r others))
    by None at rest = rest
    by (Some r) at rest = lacks_both (stored_field h k) (owning_by_field r) (flat_map owning_by_field others) (own r (is_owned r.perm.mode) at.0) rest

lacks_object : (table : ClassTable) (h k : ℕ) (o : ℕ × PlainObject) → h ≢ o.0 → Lacks (stored_field h k) (owning_by_object table o)
lacks_object table h k o ne = by (contract_at table o.1.contract)
  where
    by : (r : Option Contract) → Lacks (stored_field h k) (flat_map owning_by_field (option_map_or (λ c. filter_map (λ (f : ℕ × Field). reference_of o.0 f.0 f.1.of (available_value c o.1 f.0)) (enumerate_from 0 c.fields)) r []))
    by None = tt
    by (Some c) = lacks_fields c h k o.0 o.1 0 c.fields ne

lacks_objects : (table : ClassTable) (h k least : ℕ) (os : List (ℕ × PlainObject)) → Ascend least os → h < least → Lacks (stored_field h k) (flat_map (owning_by_object table) os)
lacks_objects table h k least [] a l = tt
lacks_objects table h k least (o ∷ os) a l =
    lacks_both (stored_field h k) (owning_by_object table o) (flat_map (owning_by_object table) os) (lacks_object table h k o (λ e. absurd (omega (arith, e, l, a.0))))
    (lacks_objects table h k (suc o.0) os a.1 (omega (arith, l, a.0)))

lacks_handles : (h k : ℕ) (hs : List (HandleName × PlainHandle)) → Lacks (stored_field h k) (flat_map owning_by_handle hs)
lacks_handles h k [] = tt
lacks_handles h k (x ∷ hs) = by (is_owned x.1.mode) (lacks_handles h k hs)
  where
    by : (c : Bool) → Lacks (stored_field h k) (flat_map owning_by_handle hs)
        → Lacks (stored_field h k) ((if c then record { object = x.1.object; place = stored_handle x.0 } ∷ [] else []) ++ flat_map owning_by_handle hs)
    by true rest = (refl, rest)
    by false rest = rest

or_false : (b : Bool) → (b || false) ≡ b
or_false true = refl
or_false false = refl

in_objects : (table : ClassTable) (n h k least : ℕ) (os : List (ℕ × PlainObject)) → Ascend least os
    → has (stored_field h k) (placed (filter (onto n) (flat_map (owning_by_object table) os))) ≡ option_map_or (field_owns table n h k) (look h os) false
in_objects table n h k least [] a = refl
in_objects table n h k least (o ∷ os) a =
    ap (has (stored_field h k)) (placed_append n (owning_by_object table o) (flat_map (owning_by_object table) os))
    ∙ has_append (stored_field h k) (placed (filter (onto n) (owning_by_object table o))) (placed (filter (onto n) (flat_map (owning_by_object table) os)))
    ∙ by (nat_eq o.0 h) refl (in_objects table n h k (suc o.0) os a.1)
  where
    here : Bool
    here = has (stored_field h k) (placed (filter (onto n) (owning_by_object table o)))

    others : Bool
    others = has (stored_field h k) (placed (filter (onto n) (flat_map (owning_by_object table) os)))

    by : (b : Bool) → nat_eq o.0 h ≡ b → others ≡ option_map_or (field_owns table n h k) (look h os) false
        → (here || others) ≡ option_map_or (field_owns table n h k) (if b then Some o.1 else look h os) false
    by true is rest =
        let same : o.0 ≡ h = (Decides-eqb o.0 h).0 is in
        ap (λ b. here || b) (lacks_has n (stored_field h k) (flat_map (owning_by_object table) os) (lacks_objects table h k (suc o.0) os a.1 (omega (arith, same))))
        ∙ or_false here ∙ ap (λ x. has (stored_field h k) (placed (filter (onto n) (owning_by_object table (x, o.1))))) same
    by false is rest =
        ap (λ b. b || others) (lacks_has n (stored_field h k) (owning_by_object table o) (lacks_object table h k o (λ e. true≢false (sym ((Decides-eqb o.0 h).1 (sym e)) ∙ is))))
        ∙ rest

pub field_told : (table : ClassTable) (n h k least : ℕ) (os : List (ℕ × PlainObject)) (hs : List (HandleName × PlainHandle)) → Ascend least os
    → has (stored_field h k) (placed (filter (onto n) (owning_in table os hs))) ≡ option_map_or (field_owns table n h k) (look h os) false
field_told table n h k least os hs a =
    ap (has (stored_field h k)) (placed_append n (flat_map (owning_by_object table) os) (flat_map owning_by_handle hs))
    ∙ has_append (stored_field h k) (placed (filter (onto n) (flat_map (owning_by_object table) os))) (placed (filter (onto n) (flat_map owning_by_handle hs)))
    ∙ ap (λ b. has (stored_field h k) (placed (filter (onto n) (flat_map (owning_by_object table) os))) || b) (lacks_has n (stored_field h k) (flat_map owning_by_handle hs) (lacks_handles h k hs))
    ∙ or_false (has (stored_field h k) (placed (filter (onto n) (flat_map (owning_by_object table) os))))
    ∙ in_objects table n h k least os a

lacks_all_fields : (m : HandleName) (rs : List FieldReference) → Lacks (stored_handle m) (flat_map owning_by_field rs)
lacks_all_fields m [] = tt
lacks_all_fields m (r ∷ rs) = by (is_owned r.perm.mode) (lacks_all_fields m rs)
  where
    by : (c : Bool) → Lacks (stored_handle m) (flat_map owning_by_field rs)
        → Lacks (stored_handle m) ((if c then record { object = r.object; place = stored_field r.holder r.field } ∷ [] else []) ++ flat_map owning_by_field rs)
    by true rest = (refl, rest)
    by false rest = rest

lacks_all_objects : (table : ClassTable) (m : HandleName) (os : List (ℕ × PlainObject)) → Lacks (stored_handle m) (flat_map (owning_by_object table) os)
lacks_all_objects table m [] = tt
lacks_all_objects table m (o ∷ os) =
    lacks_both (stored_handle m) (owning_by_object table o) (flat_map (owning_by_object table) os) (lacks_all_fields m (references_of table o.0 o.1)) (lacks_all_objects table m os)

lacks_handle : (m : HandleName) (x : HandleName × PlainHandle) → is_eq (name_order m x.0) ≡ false → Lacks (stored_handle m) (owning_by_handle x)
lacks_handle m x ne = by (is_owned x.1.mode)
  where
    by : (c : Bool) → Lacks (stored_handle m) (if c then record { object = x.1.object; place = stored_handle x.0 } ∷ [] else [])
    by true = (ne, tt)
    by false = tt

lacks_later : (m : HandleName) (hs : List (HandleName × PlainHandle)) → NameBefore m hs → Lacks (stored_handle m) (flat_map owning_by_handle hs)
lacks_later m [] b = tt
lacks_later m (x ∷ hs) b = lacks_both (stored_handle m) (owning_by_handle x) (flat_map owning_by_handle hs) (lacks_handle m x (ap is_eq b.0)) (lacks_later m hs b.1)

in_handles : (n : ℕ) (m : HandleName) (hs : List (HandleName × PlainHandle)) → InNames hs
    → has (stored_handle m) (placed (filter (onto n) (flat_map owning_by_handle hs))) ≡ option_map_or (handle_owns n m) (look_name m hs) false
in_handles n m [] i = refl
in_handles n m (x ∷ hs) i =
    ap (has (stored_handle m)) (placed_append n (owning_by_handle x) (flat_map owning_by_handle hs))
    ∙ has_append (stored_handle m) (placed (filter (onto n) (owning_by_handle x))) (placed (filter (onto n) (flat_map owning_by_handle hs)))
    ∙ by (is_eq (name_order x.0 m)) refl (in_handles n m hs i.1)
  where
    here : Bool
    here = has (stored_handle m) (placed (filter (onto n) (owning_by_handle x)))

    others : Bool
    others = has (stored_handle m) (placed (filter (onto n) (flat_map owning_by_handle hs)))

    apart : is_eq (name_order x.0 m) ≡ false → (b : Bool) → is_eq (name_order m x.0) ≡ b → is_eq (name_order m x.0) ≡ false
    apart ne true is =
        let same : m ≡ x.0 = one_name m x.0 (equal_order (name_order m x.0) is) in
        absurd (true≢false (sym (is_itself (stored_handle m)) ∙ ap (λ z. is_eq (name_order z m)) same ∙ ne))
    apart ne false is = is

    by : (b : Bool) → is_eq (name_order x.0 m) ≡ b → others ≡ option_map_or (handle_owns n m) (look_name m hs) false
        → (here || others) ≡ option_map_or (handle_owns n m) (if b then Some x.1 else look_name m hs) false
    by true is rest =
        let same : x.0 ≡ m = one_name x.0 m (equal_order (name_order x.0 m) is) in
        ap (λ b. here || b) (lacks_has n (stored_handle m) (flat_map owning_by_handle hs) (subst (λ z. Lacks (stored_handle z) (flat_map owning_by_handle hs)) same (lacks_later x.0 hs i.0)))
        ∙ or_false here ∙ ap (λ z. has (stored_handle m) (placed (filter (onto n) (owning_by_handle (z, x.1))))) same
    by false is rest =
        ap (λ b. b || others) (lacks_has n (stored_handle m) (owning_by_handle x) (lacks_handle m x (apart is (is_eq (name_order m x.0)) refl))) ∙ rest

pub handle_told : (table : ClassTable) (n : ℕ) (m : HandleName) (os : List (ℕ × PlainObject)) (hs : List (HandleName × PlainHandle)) → InNames hs
    → has (stored_handle m) (placed (filter (onto n) (owning_in table os hs))) ≡ option_map_or (handle_owns n m) (look_name m hs) false
handle_told table n m os hs i =
    ap (has (stored_handle m)) (placed_append n (flat_map (owning_by_object table) os) (flat_map owning_by_handle hs))
    ∙ has_append (stored_handle m) (placed (filter (onto n) (flat_map (owning_by_object table) os))) (placed (filter (onto n) (flat_map owning_by_handle hs)))
    ∙ ap (λ b. b || has (stored_handle m) (placed (filter (onto n) (flat_map owning_by_handle hs)))) (lacks_has n (stored_handle m) (flat_map (owning_by_object table) os) (lacks_all_objects table m os))
    ∙ in_handles n m hs i
