-- The index of a content becomes that of the content with a delta.
use Rattle.std.proofs.Common.{◌≡◌, ◌≢◌, inl, inr, ℕ, zero, suc, ◌+◌, ◌<◌, ◌≤◌, Bool, true, false, List, [], ◌∷◌, ◌++◌, map, length, get_or, Option, Some, None, refl, sym, ap, subst, ◌∙◌, true≢false, arith}
use Rattle.std.specs.Prelude.{⊤, nat_eq, nat_lt, ◌||◌, ◌&&◌, not, is_some, filter, filter_map, flat_map, slice_get, slice_set, option_map, AllPairs, if◌then◌else◌}
use Rattle.std.specs.Option.{option_map_or, option_or, unwrap_or}
use Rattle.std.specs.List.{enumerate_from, cons_option}
use Rattle.std.specs.Ordering.{is_eq}
use Rattle.std.specs.declared.cmp.Ordering.{Ordering}
use Rattle.std.specs.declared.cmp.Ordering.TheVariants.{Less, Equal, Greater}
use Rattle.std.proofs.lemmas.Bool.Decides.{Decides-eqb, Decides-ltb, leb_tells}
use Rattle.std.proofs.lemmas.List.{length-map, get_or_past}
use Rattle.ob_base.specs.declared.id.ObjectId.{ObjectId}
use Rattle.ob_base.specs.declared.name.Label.{Label}
use Rattle.ob_table.specs.Tables.{ClassTable}
use Rattle.ob_heap.specs.declared.delta.Delta.{Delta}
use Rattle.ob_heap.specs.declared.object.Handle.{Handle}
use Rattle.ob_heap.specs.declared.object.Object.{Object}
use Rattle.ob_heap.specs.Ascending.{IsBelowAll, IsAscending}
use Rattle.ob_heap.specs.Contents.{Stored, content_of, handle_at, name_of, named_of}
use Rattle.ob_heap.specs.Deltas.{IsDelta, AreNext, change_at, label_order, with_handles}
use Rattle.ob_heap.specs.Differences.{with_objects}
use Rattle.ob_heap.specs.Plain.{object_of, handle_of}
use Rattle.ob_heap.proofs.LookLemmas.{look_changes}
use Rattle.ob_heap.proofs.PlainLemmas.{slice_get-map}
use Rattle.ob_heap_spec.specs.Contents.{HandleName, Handle as PlainHandle, IsContent, name_order}
use Rattle.ob_heap_spec.specs.Objects.{Object as PlainObject}
use Rattle.ob_heap_spec.proofs.Names.{one_name}
use Rattle.ob_code_table.specs.ImageTables.{table_of_image}
use Rattle.ob_rest_spec.specs.Incoming.{StorePlace, stored_field, stored_handle}
use Rattle.ob_owners.specs.Indexes.{Indexed, IsIndexOf, IsReadyFor, SameReferences, content_after}
use Rattle.ob_owners.specs.Order.{with_place, without_place}
use Rattle.ob_owners.specs.Owning.{OwningPlace, owning_in, owning_by_object, owning_by_field, owning_by_handle, all_owning, places_owning, objects_coming, objects_going, handles_coming, handles_going, coming_places, going_places}
use Rattle.ob_owners.specs.Moving.{changed_by, with_places, without_places}
use Rattle.ob_owners.specs.Noting.{with_change_at}
use Rattle.ob_owners.proofs.OwnersLemmas.{onto, placed, changes_by, list_after, all_owned, within}
use Rattle.ob_owners.proofs.OrderLemmas.{has, is_itself, one_list, IsOrdered, has_puts, ordered_puts, has_takes, ordered_takes}
use Rattle.ob_owners.proofs.SourceLemmas.{Ascend, NameBefore, InNames, look, look_name, field_owns, handle_owns, ordered_in, field_told, handle_told}

-- The objects of a delta.

abbrev at_id : ℕ → List (ObjectId × Object) → Option Object
at_id h [] = None
at_id h (e ∷ es) = if nat_eq e.0.0 h then Some e.1 else at_id h es

lower : (a b : ℕ) (os : List (ℕ × PlainObject)) → a ≤ b → Ascend b os → Ascend a os
lower a b [] h d = tt
lower a b (o ∷ os) h d = (omega (arith, h, d.0), d.1)

abbrev AtLeast : ℕ → List (ObjectId × Object) → Type 0
AtLeast least [] = ⊤
AtLeast least (e ∷ es) = (least ≤ e.0.0) × AtLeast least es

from_zero : (es : List (ObjectId × Object)) → AtLeast 0 es
from_zero [] = tt
from_zero (e ∷ es) = (omega arith, from_zero es)

above : (n : ℕ) (es : List (ObjectId × Object)) → IsBelowAll (λ (e : ObjectId × Object). e.0.0) n es → AtLeast (suc n) es
above n [] b = tt
above n (e ∷ es) b = (omega (arith, b.0), above n es b.1)

coming_ascend : (least : ℕ) (es : List (ObjectId × Object)) → AtLeast least es → IsAscending (λ (e : ObjectId × Object). e.0.0) es → Ascend least (objects_coming es)
coming_ascend least [] l a = tt
coming_ascend least (e ∷ es) l a = (l.0, coming_ascend (suc e.0.0) es (above e.0.0 es a.0) a.1)

going_ascend : (c : Stored) (least : ℕ) (es : List (ObjectId × Object)) → AtLeast least es → IsAscending (λ (e : ObjectId × Object). e.0.0) es → Ascend least (objects_going c es)
going_ascend c least [] l a = tt
going_ascend c least (e ∷ es) l a = by (slice_get c.objects e.0.0) (going_ascend c (suc e.0.0) es (above e.0.0 es a.0) a.1)
  where
    by : (o : Option Object) → Ascend (suc e.0.0) (objects_going c es) → Ascend least (cons_option (option_map (λ x. (e.0.0, object_of x)) o) (objects_going c es))
    by None rest = lower least (suc e.0.0) (objects_going c es) (omega (arith, l.0)) rest
    by (Some o) rest = (l.0, rest)

pub numbered_ascend : (s : ℕ) (os : List PlainObject) → Ascend s (enumerate_from s os)
numbered_ascend s [] = tt
numbered_ascend s (o ∷ os) = (omega arith, let e : s + 1 ≡ suc s = omega arith in subst (λ k. Ascend k (enumerate_from (s + 1) os)) e (numbered_ascend (s + 1) os))

look_coming : (h : ℕ) (es : List (ObjectId × Object)) → look h (objects_coming es) ≡ option_map object_of (at_id h es)
look_coming h [] = refl
look_coming h (e ∷ es) = by (nat_eq e.0.0 h) (look_coming h es)
  where
    by : (b : Bool) → look h (objects_coming es) ≡ option_map object_of (at_id h es)
        → (if b then Some (object_of e.1) else look h (objects_coming es)) ≡ option_map object_of (if b then Some e.1 else at_id h es)
    by true rest = refl
    by false rest = rest

none_lower : (h least : ℕ) (es : List (ObjectId × Object)) → AtLeast least es → h < least → at_id h es ≡ None
none_lower h least [] l b = refl
none_lower h least (e ∷ es) l b = by (nat_eq e.0.0 h) refl (none_lower h least es l.1 b)
  where
    by : (c : Bool) → nat_eq e.0.0 h ≡ c → at_id h es ≡ None → (if nat_eq e.0.0 h then Some e.1 else at_id h es) ≡ None
    by true is rest = let x = (Decides-eqb e.0.0 h).0 is in absurd (omega (arith, x, l.0, b))
    by false is rest = ap (λ c. if c then Some e.1 else at_id h es) is ∙ rest

look_going : (c : Stored) (h : ℕ) (es : List (ObjectId × Object)) → IsAscending (λ (e : ObjectId × Object). e.0.0) es
    → look h (objects_going c es) ≡ (if is_some (at_id h es) then option_map object_of (slice_get c.objects h) else None)
look_going c h [] a = refl
look_going c h (e ∷ es) a = by (nat_eq e.0.0 h) refl (look_going c h es a.1)
  where
    rest_of : List (ℕ × PlainObject)
    rest_of = objects_going c es

    here : (b : Bool) (o : Option Object) → nat_eq e.0.0 h ≡ b → (b ≡ true → look h rest_of ≡ None)
        → look h (cons_option (option_map (λ x. (e.0.0, object_of x)) o) rest_of) ≡ (if b then option_map object_of o else look h rest_of)
    here true None is none = none refl
    here false None is none = refl
    here b (Some o) is none = ap (λ x. if x then Some (object_of o) else look h rest_of) is

    by : (b : Bool) → nat_eq e.0.0 h ≡ b → look h rest_of ≡ (if is_some (at_id h es) then option_map object_of (slice_get c.objects h) else None)
        → look h (objects_going c (e ∷ es)) ≡ (if is_some (if b then Some e.1 else at_id h es) then option_map object_of (slice_get c.objects h) else None)
    by true is rest =
        let same = (Decides-eqb e.0.0 h).0 is in
        let none = rest ∙ ap (λ x. if is_some x then option_map object_of (slice_get c.objects h) else None) (none_lower h (suc e.0.0) es (above e.0.0 es a.0) (omega (arith, same))) in
        here true (slice_get c.objects e.0.0) is (λ x. none) ∙ ap (λ n. option_map object_of (slice_get c.objects n)) same
    by false is rest = here false (slice_get c.objects e.0.0) is (λ x. cc) ∙ rest

differ : (a b : ℕ) → a ≢ b → nat_eq a b ≡ false
differ a b ne = by (nat_eq a b) refl
  where
    by : (c : Bool) → nat_eq a b ≡ c → nat_eq a b ≡ false
    by true is = absurd (ne ((Decides-eqb a b).0 is))
    by false is = is

look_numbered : (s h : ℕ) (os : List PlainObject) → look (s + h) (enumerate_from s os) ≡ slice_get os h
look_numbered s h [] = refl
look_numbered s zero (o ∷ os) =
    let e : s ≡ s + 0 = omega arith in
    ap (λ b. if b then Some o else look (s + 0) (enumerate_from (s + 1) os)) ((Decides-eqb s (s + 0)).1 e)
look_numbered s (suc h) (o ∷ os) =
    let e : s + suc h ≡ s + 1 + h = omega arith in
    ap (λ n. look n (enumerate_from s (o ∷ os))) e
    ∙ ap (λ b. if b then Some o else look (s + 1 + h) (enumerate_from (s + 1) os)) (differ s (s + 1 + h) (λ x. absurd (omega (arith, x))))
    ∙ look_numbered (s + 1) h os

-- the object of a number after a delta
set_same : (os : List Object) (i : ℕ) (o : Object) → i < length os → slice_get (slice_set os i o) i ≡ Some o
set_same [] i o l = absurd (omega arith)
set_same (x ∷ os) zero o l = refl
set_same (x ∷ os) (suc i) o l = set_same os i o (omega arith)

set_other : (os : List Object) (i h : ℕ) (o : Object) → i ≢ h → slice_get (slice_set os i o) h ≡ slice_get os h
set_other [] i h o ne = refl
set_other (x ∷ os) zero zero o ne = absurd (ne refl)
set_other (x ∷ os) zero (suc h) o ne = refl
set_other (x ∷ os) (suc i) zero o ne = refl
set_other (x ∷ os) (suc i) (suc h) o ne = set_other os i h o (λ e. ne (ap suc e))

push_same : (os : List Object) (i : ℕ) (o : Object) → i ≡ length os → slice_get (os ++ o ∷ []) i ≡ Some o
push_same [] zero o e = refl
push_same [] (suc i) o e = cc
push_same (x ∷ os) zero o e = cc
push_same (x ∷ os) (suc i) o e = push_same os i o (omega (arith, e))

push_other : (os : List Object) (i h : ℕ) (o : Object) → i ≡ length os → i ≢ h → slice_get (os ++ o ∷ []) h ≡ slice_get os h
push_other [] i zero o e ne = absurd (ne e)
push_other [] i (suc h) o e ne = refl
push_other (x ∷ os) i zero o e ne = refl
push_other (x ∷ os) zero (suc h) o e ne = cc
push_other (x ∷ os) (suc i) (suc h) o e ne = push_other os i h o (omega (arith, e)) (λ k. ne (ap suc k))

set_at : (os : List Object) (i h : ℕ) (o : Object) → i < length os → slice_get (slice_set os i o) h ≡ (if nat_eq i h then Some o else slice_get os h)
set_at os i h o l = by (nat_eq i h) refl
  where
    by : (b : Bool) → nat_eq i h ≡ b → slice_get (slice_set os i o) h ≡ (if b then Some o else slice_get os h)
    by true is = let e = (Decides-eqb i h).0 is in ap (slice_get (slice_set os i o)) (sym e) ∙ set_same os i o l
    by false is = set_other os i h o (λ e. true≢false (sym ((Decides-eqb i h).1 e) ∙ is))

push_at : (os : List Object) (i h : ℕ) (o : Object) → i ≡ length os → slice_get (os ++ o ∷ []) h ≡ (if nat_eq i h then Some o else slice_get os h)
push_at os i h o e = by (nat_eq i h) refl
  where
    by : (b : Bool) → nat_eq i h ≡ b → slice_get (os ++ o ∷ []) h ≡ (if b then Some o else slice_get os h)
    by true is = let k = (Decides-eqb i h).0 is in ap (slice_get (os ++ o ∷ [])) (sym k) ∙ push_same os i o e
    by false is = push_other os i h o e (λ k. true≢false (sym ((Decides-eqb i h).1 k) ∙ is))

length_set : (os : List Object) (i : ℕ) (o : Object) → length (slice_set os i o) ≡ length os
length_set [] i o = refl
length_set (x ∷ os) zero o = refl
length_set (x ∷ os) (suc i) o = ap suc (length_set os i o)

length_push : (os : List Object) (o : Object) → length (os ++ o ∷ []) ≡ suc (length os)
length_push [] o = refl
length_push (x ∷ os) o = ap suc (length_push os o)

object_after : (h : ℕ) (os : List Object) (es : List (ObjectId × Object)) → IsAscending (λ (e : ObjectId × Object). e.0.0) es → AreNext (length os) es
    → slice_get (with_objects os es) h ≡ option_or (at_id h es) (slice_get os h)
object_after h os [] a n = refl
object_after h os (e ∷ es) a n =
    by (nat_lt e.0.0 (length os)) refl n.1 (λ k. object_after h (slice_set os e.0.0 e.1) es a.1 k) (λ k. object_after h (os ++ e.1 ∷ []) es a.1 k)
  where
    both : (b : Bool) → nat_eq e.0.0 h ≡ b → option_or (at_id h es) (if b then Some e.1 else slice_get os h) ≡ option_or (if b then Some e.1 else at_id h es) (slice_get os h)
    both true is =
        let same = (Decides-eqb e.0.0 h).0 is in
        ap (λ x. option_or x (Some e.1)) (none_lower h (suc e.0.0) es (above e.0.0 es a.0) (omega (arith, same)))
    both false is = refl

    by : (b : Bool) → nat_lt e.0.0 (length os) ≡ b → AreNext (if b then length os else suc (length os)) es
        → (AreNext (length (slice_set os e.0.0 e.1)) es → slice_get (with_objects (slice_set os e.0.0 e.1) es) h ≡ option_or (at_id h es) (slice_get (slice_set os e.0.0 e.1) h))
        → (AreNext (length (os ++ e.1 ∷ [])) es → slice_get (with_objects (os ++ e.1 ∷ []) es) h ≡ option_or (at_id h es) (slice_get (os ++ e.1 ∷ []) h))
        → slice_get (with_objects (if b then slice_set os e.0.0 e.1 else os ++ e.1 ∷ []) es) h ≡ option_or (if nat_eq e.0.0 h then Some e.1 else at_id h es) (slice_get os h)
    by true is next set_on push_on =
        let l : e.0.0 < length os = (Decides-ltb e.0.0 (length os)).0 is in
        set_on (subst (λ k. AreNext k es) (sym (length_set os e.0.0 e.1)) next)
        ∙ ap (option_or (at_id h es)) (set_at os e.0.0 h e.1 l) ∙ both (nat_eq e.0.0 h) refl
    by false is next set_on push_on =
        let least : length os ≤ e.0.0 = elim (leb_tells (suc e.0.0) (length os)) [ inl w ↦ absurd (true≢false (sym w.0 ∙ is)) | inr w ↦ omega (arith, w.1) ] in
        let same : e.0.0 ≡ length os = omega (arith, least, n.0) in
        push_on (subst (λ k. AreNext k es) (sym (length_push os e.1)) next)
        ∙ ap (option_or (at_id h es)) (push_at os e.0.0 h e.1 same) ∙ both (nat_eq e.0.0 h) refl

-- The handles of a delta.

abbrev NamedBefore : HandleName → List ((Label × Label) × Option Handle) → Type 0
NamedBefore m [] = ⊤
NamedBefore m (d ∷ ds) = (name_order m (name_of d.0) ≡ Less) × NamedBefore m ds

abbrev InOrder : List ((Label × Label) × Option Handle) → Type 0
InOrder [] = ⊤
InOrder (d ∷ ds) = NamedBefore (name_of d.0) ds × InOrder ds

before_each : (m : Label × Label) (ds : List ((Label × Label) × Option Handle)) → ((j : ℕ) (x : (Label × Label) × Option Handle) → j < length ds → label_order m (get_or ds j x).0 ≡ Less)
    → NamedBefore (name_of m) ds
before_each m [] h = tt
before_each m (d ∷ ds) h = (h 0 d (omega arith), before_each m ds (λ j x l. h (suc j) x (omega (arith, l))))

in_order : (ds : List ((Label × Label) × Option Handle)) → AllPairs (λ (a b : (Label × Label) × Option Handle). label_order a.0 b.0 ≡ Less) ds → InOrder ds
in_order [] h = tt
in_order (d ∷ ds) h =
    (before_each d.0 ds (λ j x l. h 0 (suc j) x (omega arith) (omega (arith, l))), in_order ds (λ i j x k l. h (suc i) (suc j) x (omega (arith, k)) (omega (arith, l))))

plain_before : (m : HandleName) (hs : List (HandleName × PlainHandle)) → ((j : ℕ) (x : HandleName × PlainHandle) → j < length hs → name_order m (get_or hs j x).0 ≡ Less) → NameBefore m hs
plain_before m [] h = tt
plain_before m (x ∷ hs) h = (h 0 x (omega arith), plain_before m hs (λ j y l. h (suc j) y (omega (arith, l))))

pub plain_names : (hs : List (HandleName × PlainHandle)) → AllPairs (λ a b. name_order a.0 b.0 ≡ Less) hs → InNames hs
plain_names [] h = tt
plain_names (x ∷ hs) h =
    (plain_before x.0 hs (λ j y l. h 0 (suc j) y (omega arith) (omega (arith, l))), plain_names hs (λ i j y k l. h (suc i) (suc j) y (omega (arith, k)) (omega (arith, l))))

-- handles that represent those of a delta, where there are some
abbrev filled : ((Label × Label) × Option Handle → Option Handle) → List ((Label × Label) × Option Handle) → List (HandleName × PlainHandle)
filled go ds = filter_map (λ (d : (Label × Label) × Option Handle). option_map (λ h. (name_of d.0, handle_of h)) (go d)) ds

filled_before : (go : (Label × Label) × Option Handle → Option Handle) (m : HandleName) (ds : List ((Label × Label) × Option Handle)) → NamedBefore m ds → NameBefore m (filled go ds)
filled_before go m [] b = tt
filled_before go m (d ∷ ds) b = by (go d) (filled_before go m ds b.1)
  where
    by : (o : Option Handle) → NameBefore m (filled go ds) → NameBefore m (cons_option (option_map (λ h. (name_of d.0, handle_of h)) o) (filled go ds))
    by None rest = rest
    by (Some h) rest = (b.0, rest)

filled_names : (go : (Label × Label) × Option Handle → Option Handle) (ds : List ((Label × Label) × Option Handle)) → InOrder ds → InNames (filled go ds)
filled_names go [] i = tt
filled_names go (d ∷ ds) i = by (go d) (filled_names go ds i.1)
  where
    by : (o : Option Handle) → InNames (filled go ds) → InNames (cons_option (option_map (λ h. (name_of d.0, handle_of h)) o) (filled go ds))
    by None rest = rest
    by (Some h) rest = (filled_before go (name_of d.0) ds i.0, rest)

equal_order : (o : Ordering) → is_eq o ≡ true → o ≡ Equal
equal_order Less e = absurd (true≢false (sym e))
equal_order Equal e = refl
equal_order Greater e = absurd (true≢false (sym e))

-- a name that comes before all those of a delta has no change
no_change : (m : HandleName) (ds : List ((Label × Label) × Option Handle)) → NamedBefore m ds → change_at m ds ≡ None
no_change m [] b = refl
no_change m (d ∷ ds) b = ap (λ x. option_or x (if is_eq (name_order (name_of d.0) m) then Some d.1 else None)) (no_change m ds b.1) ∙ by (is_eq (name_order (name_of d.0) m)) refl
  where
    by : (c : Bool) → is_eq (name_order (name_of d.0) m) ≡ c → (if is_eq (name_order (name_of d.0) m) then Some d.1 else None) ≡ None
    by true is =
        let same : name_of d.0 ≡ m = one_name (name_of d.0) m (equal_order (name_order (name_of d.0) m) is) in
        absurd (true≢false (sym is ∙ ap (λ z. is_eq (name_order z m)) same ∙ ap (λ z. is_eq (name_order m z)) (sym same) ∙ ap is_eq b.0))
    by false is = ap (λ c. if c then Some d.1 else None) is

no_name : (m : HandleName) (hs : List (HandleName × PlainHandle)) → NameBefore m hs → look_name m hs ≡ None
no_name m [] b = refl
no_name m (x ∷ hs) b = by (is_eq (name_order x.0 m)) refl (no_name m hs b.1)
  where
    by : (c : Bool) → is_eq (name_order x.0 m) ≡ c → look_name m hs ≡ None → (if is_eq (name_order x.0 m) then Some x.1 else look_name m hs) ≡ None
    by true is rest =
        let same : x.0 ≡ m = one_name x.0 m (equal_order (name_order x.0 m) is) in
        absurd (true≢false (sym is ∙ ap (λ z. is_eq (name_order z m)) same ∙ ap (λ z. is_eq (name_order m z)) (sym same) ∙ ap is_eq b.0))
    by false is rest = ap (λ c. if c then Some x.1 else look_name m hs) is ∙ rest

-- the handle of a name among those that represent a delta's
look_filled : (go : (Label × Label) × Option Handle → Option Handle) (found : Option Handle → Option Handle) (m : HandleName) (ds : List ((Label × Label) × Option Handle)) → InOrder ds
    → ((d : (Label × Label) × Option Handle) → name_of d.0 ≡ m → go d ≡ found d.1)
    → look_name m (filled go ds) ≡ option_map_or (λ (c : Option Handle). option_map handle_of (found c)) (change_at m ds) None
look_filled go found m [] i same = refl
look_filled go found m (d ∷ ds) i same = by (is_eq (name_order (name_of d.0) m)) refl (look_filled go found m ds i.1 same)
  where
    here : (b : Bool) (o : Option Handle) → is_eq (name_order (name_of d.0) m) ≡ b → (b ≡ true → look_name m (filled go ds) ≡ None)
        → look_name m (cons_option (option_map (λ h. (name_of d.0, handle_of h)) o) (filled go ds)) ≡ (if b then option_map handle_of o else look_name m (filled go ds))
    here true None is none = none refl
    here false None is none = refl
    here b (Some h) is none = ap (λ x. if x then Some (handle_of h) else look_name m (filled go ds)) is

    by : (b : Bool) → is_eq (name_order (name_of d.0) m) ≡ b
        → look_name m (filled go ds) ≡ option_map_or (λ (c : Option Handle). option_map handle_of (found c)) (change_at m ds) None
        → look_name m (filled go (d ∷ ds)) ≡ option_map_or (λ (c : Option Handle). option_map handle_of (found c)) (option_or (change_at m ds) (if b then Some d.1 else None)) None
    by true is rest =
        let e : name_of d.0 ≡ m = one_name (name_of d.0) m (equal_order (name_order (name_of d.0) m) is) in
        let before : NamedBefore m ds = subst (λ z. NamedBefore z ds) e i.0 in
        here true (go d) is (λ x. no_name m (filled go ds) (filled_before go m ds before))
        ∙ ap (option_map handle_of) (same d e)
        ∙ sym (ap (λ x. option_map_or (λ (c : Option Handle). option_map handle_of (found c)) (option_or x (Some d.1)) None) (no_change m ds before))
    by false is rest = here false (go d) is (λ x. cc) ∙ rest ∙ last (change_at m ds)
      where
        last : (x : Option (Option Handle)) → option_map_or (λ (c : Option Handle). option_map handle_of (found c)) x None
            ≡ option_map_or (λ (c : Option Handle). option_map handle_of (found c)) (option_or x None) None
        last None = refl
        last (Some y) = refl

look_plain : (m : HandleName) (hs : List ((Label × Label) × Handle)) → look_name m (map named_of hs) ≡ option_map handle_of (handle_at m hs)
look_plain m [] = refl
look_plain m (h ∷ hs) = by (is_eq (name_order (name_of h.0) m)) (look_plain m hs)
  where
    by : (b : Bool) → look_name m (map named_of hs) ≡ option_map handle_of (handle_at m hs)
        → (if b then Some (handle_of h.1) else look_name m (map named_of hs)) ≡ option_map handle_of (if b then Some h.1 else handle_at m hs)
    by true rest = refl
    by false rest = rest

-- What was there, what goes, what comes and what is there then, of one place.

record Turns (old going coming new : Bool) : Type 0 where
  all : new ≡ (coming || (not going && old))
  apart : coming ≡ true → (not going && old) ≡ false
  was : going ≡ true → old ≡ true

left_none : (b : Bool) → (not b && b) ≡ false
left_none true = refl
left_none false = refl

replaced : (old new : Bool) → Turns old old new new
replaced old new = record { all = by new ∙ sym (ap (λ b. new || b) (left_none old)); apart = λ e. left_none old; was = λ e. e }
  where
    by : (b : Bool) → b ≡ (b || false)
    by true = refl
    by false = refl

untouched : (old : Bool) → Turns old false false old
untouched old = record { all = refl; apart = λ e. absurd (true≢false (sym e)); was = λ e. absurd (true≢false (sym e)) }

field_is_as_at_head : (owns : PlainObject → Bool) (x y : Option Object) → Turns (option_map_or owns (option_map object_of y) false)
    (option_map_or owns (if is_some x then option_map object_of y else None) false) (option_map_or owns (option_map object_of x) false)
    (option_map_or owns (option_map object_of (option_or x y)) false)
field_is_as_at_head owns None y = untouched (option_map_or owns (option_map object_of y) false)
field_is_as_at_head owns (Some o) y = replaced (option_map_or owns (option_map object_of y) false) (owns (object_of o))

handle_turns : (owns : PlainHandle → Bool) (x : Option (Option Handle)) (y : Option Handle) → Turns (option_map_or owns (option_map handle_of y) false)
    (option_map_or owns (option_map_or (λ (c : Option Handle). option_map handle_of y) x None) false) (option_map_or owns (option_map_or (λ (c : Option Handle). option_map handle_of c) x None) false)
    (option_map_or owns (option_map handle_of (unwrap_or x y)) false)
handle_turns owns None y = untouched (option_map_or owns (option_map handle_of y) false)
handle_turns owns (Some h) y = replaced (option_map_or owns (option_map handle_of y) false) (option_map_or owns (option_map handle_of h) false)

turns_like : (a b c d w x y z : Bool) → w ≡ a → x ≡ b → y ≡ c → z ≡ d → Turns a b c d → Turns w x y z
turns_like a b c d w x y z p q r s t =
    subst (λ i. Turns i x y z) (sym p) (subst (λ i. Turns a i y z) (sym q) (subst (λ i. Turns a b i z) (sym r) (subst (λ i. Turns a b c i) (sym s) t)))

look_all : (h : ℕ) (os : List Object) → look h (enumerate_from 0 (map object_of os)) ≡ option_map object_of (slice_get os h)
look_all h os =
    let e : 0 + h ≡ h = omega arith in
    sym (ap (λ n. look n (enumerate_from 0 (map object_of os))) e) ∙ look_numbered 0 h (map object_of os) ∙ slice_get-map os h

abbrev Of : ℕ → List OwningPlace → List StorePlace
Of n ps = placed (filter (onto n) ps)

turn_of : (table : ClassTable) (c : Stored) (d : Delta) (n : ℕ) → IsDelta c d → InNames (map named_of c.handles) → InNames (map named_of (with_handles c.handles d.handles)) → (p : StorePlace)
    → Turns (has p (Of n (all_owning table (content_of c)))) (has p (Of n (going_places table c d))) (has p (Of n (coming_places table d))) (has p (Of n (all_owning table (content_after c d))))
turn_of table c d n is_delta names names_after (stored_field h k) =
    let owns = field_owns table n h k in
    let es = d.objects in
    let news = with_objects c.objects es in
    turns_like (option_map_or owns (option_map object_of (slice_get c.objects h)) false) (option_map_or owns (if is_some (at_id h es) then option_map object_of (slice_get c.objects h) else None) false)
    (option_map_or owns (option_map object_of (at_id h es)) false) (option_map_or owns (option_map object_of (option_or (at_id h es) (slice_get c.objects h))) false)
    (has (stored_field h k) (Of n (all_owning table (content_of c)))) (has (stored_field h k) (Of n (going_places table c d))) (has (stored_field h k) (Of n (coming_places table d)))
    (has (stored_field h k) (Of n (all_owning table (content_after c d))))
    (field_told table n h k 0 (enumerate_from 0 (map object_of c.objects)) (map named_of c.handles) (numbered_ascend 0 (map object_of c.objects))
    ∙ ap (λ o. option_map_or owns o false) (look_all h c.objects))
    (field_told table n h k 0 (objects_going c es) (handles_going c d.handles) (going_ascend c 0 es (from_zero es) is_delta.objects)
    ∙ ap (λ o. option_map_or owns o false) (look_going c h es is_delta.objects))
    (field_told table n h k 0 (objects_coming es) (handles_coming d.handles) (coming_ascend 0 es (from_zero es) is_delta.objects)
    ∙ ap (λ o. option_map_or owns o false) (look_coming h es))
    (field_told table n h k 0 (enumerate_from 0 (map object_of news)) (map named_of (with_handles c.handles d.handles)) (numbered_ascend 0 (map object_of news))
    ∙ ap (λ o. option_map_or owns o false) (look_all h news ∙ ap (option_map object_of) (object_after h c.objects es is_delta.objects is_delta.next)))
    (field_is_as_at_head owns (at_id h es) (slice_get c.objects h))
turn_of table c d n is_delta names names_after (stored_handle m) =
    let owns = handle_owns n m in
    let ds = d.handles in
    let order = in_order ds is_delta.handles in
    turns_like (option_map_or owns (option_map handle_of (handle_at m c.handles)) false)
    (option_map_or owns (option_map_or (λ (x : Option Handle). option_map handle_of (handle_at m c.handles)) (change_at m ds) None) false)
    (option_map_or owns (option_map_or (λ (x : Option Handle). option_map handle_of x) (change_at m ds) None) false)
    (option_map_or owns (option_map handle_of (unwrap_or (change_at m ds) (handle_at m c.handles))) false)
    (has (stored_handle m) (Of n (all_owning table (content_of c)))) (has (stored_handle m) (Of n (going_places table c d))) (has (stored_handle m) (Of n (coming_places table d)))
    (has (stored_handle m) (Of n (all_owning table (content_after c d))))
    (handle_told table n m (enumerate_from 0 (map object_of c.objects)) (map named_of c.handles) names ∙ ap (λ o. option_map_or owns o false) (look_plain m c.handles))
    (handle_told table n m (objects_going c d.objects) (handles_going c ds) (filled_names (λ x. handle_at (name_of x.0) c.handles) ds order)
    ∙ ap (λ o. option_map_or owns o false)
    (look_filled (λ x. handle_at (name_of x.0) c.handles) (λ x. handle_at m c.handles) m ds order (λ x e. ap (λ z. handle_at z c.handles) e)))
    (handle_told table n m (objects_coming d.objects) (handles_coming ds) (filled_names (λ x. x.1) ds order)
    ∙ ap (λ o. option_map_or owns o false) (look_filled (λ x. x.1) (λ x. x) m ds order (λ x e. refl)))
    (handle_told table n m (enumerate_from 0 (map object_of (with_objects c.objects d.objects))) (map named_of (with_handles c.handles ds)) names_after
    ∙ ap (λ o. option_map_or owns o false) (look_plain m (with_handles c.handles ds) ∙ ap (option_map handle_of) (look_changes m c.handles ds)))
    (handle_turns owns (change_at m ds) (handle_at m c.handles))

-- The lists of the index.

same_owning : (own table : ClassTable) (os : List (ℕ × PlainObject)) (hs : List (HandleName × PlainHandle)) → SameReferences own table → owning_in own os hs ≡ owning_in table os hs
same_owning own table os hs same = ap (λ ps. ps ++ flat_map owning_by_handle hs) (by os)
  where
    by : (xs : List (ℕ × PlainObject)) → flat_map (owning_by_object own) xs ≡ flat_map (owning_by_object table) xs
    by [] = refl
    by (x ∷ xs) = ap (λ rs. flat_map owning_by_field rs ++ flat_map (owning_by_object own) xs) (same x.0 x.1) ∙ ap (λ ps. owning_by_object table x ++ ps) (by xs)

length_changed : (k : ℕ) (f : List StorePlace → List StorePlace) (xs : List (List StorePlace)) → length (with_change_at k f xs) ≡ length xs
length_changed k f [] = refl
length_changed zero f (x ∷ xs) = refl
length_changed (suc k) f (x ∷ xs) = ap suc (length_changed k f xs)

length_by : (change : StorePlace → List StorePlace → List StorePlace) (ps : List OwningPlace) (lists : List (List StorePlace)) → length (changed_by change ps lists) ≡ length lists
length_by change [] lists = refl
length_by change (p ∷ ps) lists = length_changed p.object (change p.place) (changed_by change ps lists) ∙ length_by change ps lists

-- a list that has none of its places has no place
no_places : (n : ℕ) (ps : List OwningPlace) → ((p : StorePlace) → has p (Of n ps) ≡ false) → filter (onto n) ps ≡ []
no_places n ps none = by (filter (onto n) ps) refl
  where
    by : (qs : List OwningPlace) → filter (onto n) ps ≡ qs → filter (onto n) ps ≡ []
    by [] e = e
    by (q ∷ qs) e =
        absurd (true≢false (sym (ap (λ b. b || has q.place (placed qs)) (is_itself q.place)) ∙ sym (ap (λ xs. has q.place (placed xs)) e) ∙ none q.place))

list_becomes : (table : ClassTable) (c : Stored) (d : Delta) (lists : List (List StorePlace)) (n : ℕ) → IsDelta c d → IsContent table (content_of c) → IsContent table (content_after c d)
    → length (with_objects c.objects d.objects) ≤ length lists → get_or lists n [] ≡ places_owning table (content_of c) n
    → get_or (with_places (coming_places table d) (without_places (going_places table c d) lists)) n [] ≡ places_owning table (content_after c d) n
list_becomes table c d lists n is_delta before after enough at =
    list_after with_place n coming (without_places going lists) (λ past. no_places n coming (λ p. none_coming p past))
    ∙ ap (changes_by with_place (filter (onto n) coming))
    (list_after without_place n going lists (λ past. no_places n going (λ p. none_going p past)) ∙ ap (changes_by without_place (filter (onto n) going)) seen)
    ∙ one_list (changes_by with_place (filter (onto n) coming) left) (Of n (all_owning table (content_after c d)))
    (ordered_puts (filter (onto n) coming) left (ordered_in table n 0 (objects_coming d.objects) (handles_coming d.handles) (coming_ascend 0 d.objects (from_zero d.objects) is_delta.objects)
    (filled_names (λ x. x.1) d.handles (in_order d.handles is_delta.handles)))
    (ordered_takes (filter (onto n) going) was order) (λ q h. has_takes q (filter (onto n) going) was order ∙ (turn q).apart h))
    (ordered_in table n 0 (enumerate_from 0 (map object_of (with_objects c.objects d.objects))) (map named_of (with_handles c.handles d.handles))
    (numbered_ascend 0 (map object_of (with_objects c.objects d.objects))) names_after)
    (λ q. has_puts q (filter (onto n) coming) left ∙ ap (λ b. has q (placed (filter (onto n) coming)) || b) (has_takes q (filter (onto n) going) was order) ∙ sym (turn q).all)
    ∙ all_owned table (content_after c d) n
  where
    coming : List OwningPlace
    coming = coming_places table d

    going : List OwningPlace
    going = going_places table c d

    was : List StorePlace
    was = Of n (all_owning table (content_of c))

    left : List StorePlace
    left = changes_by without_place (filter (onto n) going) was

    seen : get_or lists n [] ≡ was
    seen = at ∙ sym (all_owned table (content_of c) n)

    names : InNames (map named_of c.handles)
    names = plain_names (map named_of c.handles) before.order

    names_after : InNames (map named_of (with_handles c.handles d.handles))
    names_after = plain_names (map named_of (with_handles c.handles d.handles)) after.order

    order : IsOrdered was
    order = ordered_in table n 0 (enumerate_from 0 (map object_of c.objects)) (map named_of c.handles) (numbered_ascend 0 (map object_of c.objects)) names

    turn : (p : StorePlace) → Turns (has p was) (has p (Of n going)) (has p (Of n coming)) (has p (Of n (all_owning table (content_after c d))))
    turn p = turn_of table c d n is_delta names names_after p

    none_going : (p : StorePlace) → length lists ≤ n → has p (Of n going) ≡ false
    none_going p past = by (has p (Of n going)) refl
      where
        by : (b : Bool) → has p (Of n going) ≡ b → has p (Of n going) ≡ false
        by true is = absurd (true≢false (sym ((turn p).was is) ∙ sym (ap (has p) seen) ∙ ap (has p) (get_or_past lists n [] past)))
        by false is = is

    none_coming : (p : StorePlace) → length (without_places going lists) ≤ n → has p (Of n coming) ≡ false
    none_coming p past = by (has p (Of n coming)) refl
      where
        nothing : Of n (all_owning table (content_after c d)) ≡ []
        nothing =
            ap placed
            (within table (content_after c d) after n
            (omega (arith, past, enough, length_by without_place going lists, length-map (with_objects c.objects d.objects) object_of)))

        by : (b : Bool) → has p (Of n coming) ≡ b → has p (Of n coming) ≡ false
        by true is =
            absurd (true≢false (sym (ap (λ b. b || (not (has p (Of n going)) && has p was)) is) ∙ sym (turn p).all ∙ ap (has p) nothing))
        by false is = is

-- the index of a content, after what was made ready for a delta, is that of the content with the delta
pub becomes : (table : ClassTable) (c : Stored) (d : Delta) (old new : Indexed) → IsDelta c d → IsReadyFor c d old → IsContent table (content_of c) → IsContent table (content_after c d)
    → IsIndexOf table (content_of c) old → new.declared ≡ old.declared → new.lists ≡ with_places old.coming (without_places old.going old.lists) → IsIndexOf table (content_after c d) new
becomes table c d old new is_delta ready before after index same is = record {
  references = subst (λ image. SameReferences (table_of_image image) table) (sym same) index.references;
  owning = λ n. ap (λ ls. get_or ls n []) from ∙ list_becomes table c d old.lists n is_delta before after ready.lists (index.owning n);
}
  where
    from : new.lists ≡ with_places (coming_places table d) (without_places (going_places table c d) old.lists)
    from =
        is
        ∙ ap (λ ps. with_places ps (without_places old.going old.lists))
        (ready.coming ∙ same_owning (table_of_image old.declared) table (objects_coming d.objects) (handles_coming d.handles) index.references)
        ∙ ap (λ ps. with_places (coming_places table d) (without_places ps old.lists))
        (ready.going ∙ same_owning (table_of_image old.declared) table (objects_going c d.objects) (handles_going c d.handles) index.references)
