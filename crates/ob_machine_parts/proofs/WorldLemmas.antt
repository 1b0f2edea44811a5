-- The world of a machine, as objects are looked up, read and changed.
use Rattle.std.proofs.Common.{◌≡◌, ℕ, zero, suc, ◌+◌, ◌<◌, ◌≤◌, Bool, true, false, List, [], ◌∷◌, ◌++◌, length, map, set, Option, Some, None, Result, Ok, Err, refl, sym, ap, subst, ◌∙◌, arith, length-append, append_assoc, inl, inr, eqb→eq, true≢false}
use lib.Dec.{T}
use Rattle.std.specs.Prelude.{nat_eq, nat_lt, nat_le, slice_get, option_map, Contains, OnOk, ◌||◌, if◌then◌else◌}
use Rattle.std.specs.Option.{option_map_or}
use Rattle.std.specs.List.{list_any}
use Rattle.std.proofs.lemmas.Option.{slice_get-map, slice_get_within}
use Rattle.std.proofs.lemmas.List.{length-map, map-set, map-append}
use Rattle.std.proofs.lemmas.List.Elements.{Contains-append_left, Contains-append_right, Contains-append_cases}
use Rattle.ob_heap_spec.specs.Objects.{Object as PlainObject}
use Rattle.ob_heap_spec.specs.Contents.{object_at}
use Rattle.ob_heap_spec.specs.Marks.{has_mark}
use Rattle.ob_heap_spec.specs.Worlds.{World, ReadItem, object_item, next_item, make_object, is_made, with_read, set_object, read_object, edit_object, SameWorld, ReadSame, AllRead}
use Rattle.ob_heap.specs.declared.object.Object.{Object}
use Rattle.ob_heap.specs.Overlays.{Changes, laid_over, laid_from, objects_over, noted, with_number, IsSameBeside}
use Rattle.ob_heap.specs.declared.edit.Edit.{Edit}
use Rattle.ob_heap.specs.Edits.{with_edit, IsEdited}
use Rattle.ob_heap.specs.Plain.{object_of}
use Rattle.ob_heap.proofs.OverlaysLemmas.{length-laid}
use Rattle.ob_machine_parts.specs.Guards.{Guarded}
use Rattle.ob_machine_parts.specs.Shown.{world_with, next_read}
use Rattle.ob_machine_parts.specs.Units.{Metered}

-- Objects.

-- an object is found where the code looks
pub found : (base : List Object) (o : Changes) (n : ℕ) → object_at (objects_over base o) n ≡ option_map object_of (slice_get (laid_over base o) n)
found base o n = slice_get-map object_of (laid_over base o) n

pub found_within : (base : List Object) (o : Changes) (n : ℕ) (x : Object) → Some x ≡ slice_get (laid_over base o) n → n < length (laid_over base o)
found_within base o n x e = slice_get_within (laid_over base o) n x (sym e)

pub ruleset finding = (found, found_within)

-- how many objects there are
pub count_over : (base : List Object) (o : Changes) → length (objects_over base o) ≡ length base + length o.made
count_over base o =
    length-map (laid_over base o) object_of
    ∙ length-append (laid_from o.changed 0 base) o.made
    ∙ ap (λ n. n + length o.made) (length-laid o.changed 0 base)

-- Reads.

single : (x y : ReadItem) → Contains (x ∷ []) y → x ≡ y
single x y (zero, h, e) = e
single x y (suc k, h, e) = absurd (omega (arith, h))

first : (x : ReadItem) (xs : List ReadItem) → Contains (x ∷ xs) x
first x xs = (0, omega arith, refl)

-- an item before others, or behind them, or among them already
at_front : (x : ReadItem) (xs : List ReadItem) → Contains xs x → AllRead (x ∷ xs) xs
at_front x xs h item c =
    elim (Contains-append_cases (x ∷ []) xs item c) as (λ s. Contains xs item)
    [ inl d ↦ subst (Contains xs) (single x item d) h | inr d ↦ d ]

onward : (x : ReadItem) (xs : List ReadItem) → AllRead xs (x ∷ xs)
onward x xs item c = Contains-append_right (x ∷ []) xs item c

to_back : (x : ReadItem) (xs : List ReadItem) → AllRead (x ∷ xs) (xs ++ x ∷ [])
to_back x xs item c =
    elim (Contains-append_cases (x ∷ []) xs item c) as (λ s. Contains (xs ++ x ∷ []) item)
    [ inl d ↦ Contains-append_right xs (x ∷ []) item d | inr d ↦ Contains-append_left xs (x ∷ []) item d ]

from_back : (x : ReadItem) (xs : List ReadItem) → AllRead (xs ++ x ∷ []) (x ∷ xs)
from_back x xs item c =
    elim (Contains-append_cases xs (x ∷ []) item c) as (λ s. Contains (x ∷ xs) item)
    [ inl d ↦ Contains-append_right (x ∷ []) xs item d | inr d ↦ Contains-append_left (x ∷ []) xs item d ]

same_number : (m n : ℕ) → nat_eq m n ≡ true → m ≡ n
same_number m n e = eqb→eq m n (subst T (sym e) tt)

among_items : (n : ℕ) (ns : List ℕ) → list_any (nat_eq n) ns ≡ true → Contains (map object_item ns) (object_item n)
among_items n [] e = absurd cc
among_items n (m ∷ ns) e = by (nat_eq n m) refl e (λ g. among_items n ns g)
  where
    by : (b : Bool) → nat_eq n m ≡ b → (b || list_any (nat_eq n) ns) ≡ true → (list_any (nat_eq n) ns ≡ true → Contains (map object_item ns) (object_item n))
        → Contains (map object_item (m ∷ ns)) (object_item n)
    by true f e h = subst (λ k. Contains (object_item k ∷ map object_item ns) (object_item n)) (same_number n m f) (first (object_item n) (map object_item ns))
    by false f e h = Contains-append_right (object_item m ∷ []) (map object_item ns) (object_item n) (h e)

-- what is read once more, or for the first time
number_read : (n : ℕ) (before : List ReadItem) (ns : List ℕ) → ReadSame (object_item n ∷ before ++ map object_item ns) (before ++ map object_item (with_number n ns))
number_read n before ns = by (list_any (nat_eq n) ns) refl
  where
    xs : List ReadItem
    xs = before ++ map object_item ns

    behind : before ++ map object_item (ns ++ n ∷ []) ≡ (before ++ map object_item ns) ++ object_item n ∷ []
    behind = ap (λ r. before ++ r) (map-append object_item ns (n ∷ [])) ∙ sym (append_assoc before (map object_item ns) (object_item n ∷ []))

    by : (b : Bool) → list_any (nat_eq n) ns ≡ b
        → ReadSame (object_item n ∷ before ++ map object_item ns) (before ++ map object_item (if b then ns else ns ++ n ∷ []))
    by true e =
        let h : Contains (before ++ map object_item ns) (object_item n) = Contains-append_right before (map object_item ns) (object_item n) (among_items n ns e) in
        (at_front (object_item n) (before ++ map object_item ns) h, onward (object_item n) (before ++ map object_item ns))
    by false e =
        subst (λ r. ReadSame (object_item n ∷ before ++ map object_item ns) r) (sym behind)
        (to_back (object_item n) (before ++ map object_item ns), from_back (object_item n) (before ++ map object_item ns))

made_test : (base : List Object) (o : Changes) (d : Guarded) (u : Metered) (n : ℕ) (b : Bool) → nat_lt n (length base) ≡ b → is_made (world_with d u base o) n ≡ (if b then false else true)
made_test base o d u n b e = ap (λ k. nat_le k (n + length o.made)) (count_over base o) ∙ by b e
  where
    by : (b : Bool) → nat_lt n (length base) ≡ b → nat_le (length base + length o.made) (n + length o.made) ≡ (if b then false else true)
    by true e = grind arith
    by false e = grind arith

pub same_world : (w : World) → SameWorld w w
same_world w = record { objects = refl; made = refl; locked = refl; progress = refl; fuel = refl; taken = refl; reads = (λ item c. c, λ item c. c) }

-- the world after an object was read
pub read_same : (d : Guarded) (u : Metered) (base : List Object) (o : Changes) (n : ℕ) → SameWorld (read_object (world_with d u base o) n) (world_with d u base (noted (length base) n o))
read_same d u base o n = by (nat_lt n (length base)) refl
  where
    w : World
    w = world_with d u base o

    by : (b : Bool) → nat_lt n (length base) ≡ b
        → SameWorld (read_object (world_with d u base o) n) (world_with d u base (if b then record o { reads = with_number n o.reads } else o))
    by true e =
        let P = λ (x : Bool). SameWorld (if x then world_with d u base o else with_read (world_with d u base o) (object_item n)) (world_with d u base (record o { reads = with_number n o.reads })) in
        subst P (sym (made_test base o d u n true e))
        (record { objects = refl; made = refl; locked = refl; progress = refl; fuel = refl; taken = refl; reads = number_read n (next_read o.next) o.reads })
    by false e =
        let P = λ (x : Bool). SameWorld (if x then world_with d u base o else with_read (world_with d u base o) (object_item n)) (world_with d u base o) in
        subst P (sym (made_test base o d u n false e)) (same_world (world_with d u base o))

pub read_ok : {E : Type 0} (r : Result (Unit {0}) E) (base : List Object) (old new : Changes) (n : ℕ) → OnOk r (new ≡ noted (length base) n old)
    → OnOk r ((d : Guarded) (u : Metered) → SameWorld (read_object (world_with d u base old) n) (world_with d u base new))
read_ok (Ok x) base old new n e = λ d u. subst (λ v. SameWorld (read_object (world_with d u base old) n) (world_with d u base v)) (sym e) (read_same d u base old n)
read_ok (Err x) base old new n e = tt

-- Changes of objects.

world_as : (d : Guarded) (u : Metered) (base : List Object) (old new : Changes) (objects : List PlainObject)
    → objects_over base new ≡ objects → IsSameBeside old new → world_with d u base new ≡ record (world_with d u base old) { objects = objects }
world_as d u base old new objects e s =
    ap {B = World} (λ x. record (world_with d u base new) { objects = x }) e
    ∙ ap {B = World} (λ x. record (world_with d u base new) { objects = objects; made = x }) s.made
    ∙ ap {B = World} (λ x. record (world_with d u base old) { objects = objects; reads = next_read new.next ++ map object_item x }) s.reads
    ∙ ap {B = World} (λ x. record (world_with d u base old) { objects = objects; reads = next_read x ++ map object_item old.reads }) s.next

edited : (f : PlainObject → PlainObject) (d : Guarded) (u : Metered) (base : List Object) (old new : Changes) (n : ℕ) (e : Edit) (x : Object)
    → slice_get (laid_over base old) n ≡ Some x → IsEdited n e (laid_over base old) (laid_over base new) → IsSameBeside old new
    → object_of (with_edit e x) ≡ f (object_of x) → world_with d u base new ≡ edit_object f n (world_with d u base old)
edited f d u base old new n e x at by s g =
    let objects : objects_over base new ≡ set (objects_over base old) n (f (object_of x)) =
    ap (map object_of) (by x at) ∙ map-set object_of (laid_over base old) n (with_edit e x) ∙ ap (set (objects_over base old) n) g in
    let there : object_at (objects_over base old) n ≡ Some (object_of x) = found base old n ∙ ap (option_map object_of) at in
    world_as d u base old new (set (objects_over base old) n (f (object_of x))) objects s
    ∙ sym (ap (λ r. option_map_or (λ o. set_object (world_with d u base old) n (f o)) r (world_with d u base old)) there)

there : (xs : List Object) (n : ℕ) → n < length xs → (x : Object) × (slice_get xs n ≡ Some x)
there [] n h = absurd (omega arith)
there (x ∷ xs) zero h = (x, refl)
there (x ∷ xs) (suc n) h = there xs n (omega arith)

-- what is done to an object is done to its plain data
pub edited_ok : {E : Type 0} (f : PlainObject → PlainObject) (r : Result (Unit {0}) E) (base : List Object) (old new : Changes) (n : ℕ) (e : Edit)
    → n < length (laid_over base old) → OnOk r (IsEdited n e (laid_over base old) (laid_over base new)) → OnOk r (IsSameBeside old new)
    → ((x : Object) → object_of (with_edit e x) ≡ f (object_of x))
    → OnOk r ((d : Guarded) (u : Metered) → world_with d u base new ≡ edit_object f n (world_with d u base old))
edited_ok f (Ok y) base old new n e h by s g = λ d u. let x = there (laid_over base old) n h in edited f d u base old new n e x.0 x.1 by s (g x.0)
edited_ok f (Err y) base old new n e h by s g = tt

-- Marks.

pub edit_same : (f : PlainObject → PlainObject) (n : ℕ) (w v : World) → SameWorld w v → SameWorld (edit_object f n w) (edit_object f n v)
edit_same f n w v s =
    subst (λ r. SameWorld (edit_object f n w) (option_map_or (λ o. set_object v n (f o)) r v)) (ap (λ xs. object_at xs n) (sym s.objects))
    (by (object_at w.objects n))
  where
    by : (r : Option PlainObject) → SameWorld (option_map_or (λ o. set_object w n (f o)) r w) (option_map_or (λ o. set_object v n (f o)) r v)
    by None = s
    by (Some o) = record {
      objects = ap (λ xs. set xs n (f o)) s.objects;
      made = s.made;
      locked = s.locked;
      progress = s.progress;
      fuel = s.fuel;
      taken = s.taken;
      reads = s.reads;
    }

-- an object that has a mark keeps it, and any other gets it
pub marked_already : (mark : PlainObject → Bool) (f : PlainObject → PlainObject) (n : ℕ) (w v : World) → SameWorld w v
    → option_map_or mark (object_at v.objects n) true ≡ true → SameWorld (if has_mark mark w n then w else edit_object f n w) v
marked_already mark f n w v s e =
    let h : has_mark mark w n ≡ true = ap (λ xs. option_map_or mark (object_at xs n) true) (sym s.objects) ∙ e in
    subst (λ b. SameWorld (if b then w else edit_object f n w) v) (sym h) s

pub marked_now : (mark : PlainObject → Bool) (f : PlainObject → PlainObject) (n : ℕ) (w v u : World) → SameWorld w v
    → option_map_or mark (object_at v.objects n) true ≡ false → u ≡ edit_object f n v → SameWorld (if has_mark mark w n then w else edit_object f n w) u
marked_now mark f n w v u s e g =
    let h : has_mark mark w n ≡ false = ap (λ xs. option_map_or mark (object_at xs n) true) (sym s.objects) ∙ e in
    subst (λ b. SameWorld (if b then w else edit_object f n w) u) (sym h)
    (subst (λ x. SameWorld (edit_object f n w) x) (sym g) (edit_same f n w v s))

-- an object without a mark is there
pub unmarked_within : (mark : PlainObject → Bool) (base : List Object) (o : Changes) (n : ℕ) → option_map_or mark (object_at (objects_over base o) n) true ≡ false
    → n < length (laid_over base o)
unmarked_within mark base o n e = by (slice_get (laid_over base o) n) refl
  where
    by : (x : Option Object) → slice_get (laid_over base o) n ≡ x → n < length (laid_over base o)
    by (Some x) h = slice_get_within (laid_over base o) n x h
    by None h =
        let at : option_map_or mark (object_at (objects_over base o) n) true ≡ true = ap (λ x. option_map_or mark x true) (found base o n ∙ ap (option_map object_of) h) in
        absurd (true≢false (sym at ∙ e))

pub laid_ok : {E : Type 0} (r : Result (Unit {0}) E) (base : List Object) (old new : Changes) (n : ℕ) → OnOk r (new ≡ noted (length base) n old)
    → OnOk r (laid_over base new ≡ laid_over base old)
laid_ok (Ok x) base old new n e = ap (laid_over base) e ∙ by (nat_lt n (length base))
  where
    by : (b : Bool) → laid_over base (if b then record old { reads = with_number n old.reads } else old) ≡ laid_over base old
    by true = refl
    by false = refl
laid_ok (Err x) base old new n e = tt

-- Objects that are made.

next_same : (b : Bool) (rs : List ReadItem) → ReadSame (next_item ∷ next_read b ++ rs) (next_item ∷ rs)
next_same true rs = (at_front next_item (next_item ∷ rs) (first next_item rs), onward next_item (next_item ∷ rs))
next_same false rs = (λ item c. c, λ item c. c)

pub next_noted : (d : Guarded) (u : Metered) (base : List Object) (old new : Changes) → new ≡ record old { next = true }
    → SameWorld (with_read (world_with d u base old) next_item) (world_with d u base new)
next_noted d u base old new e =
    subst (λ x. SameWorld (with_read (world_with d u base old) next_item) (world_with d u base x)) (sym e)
    (record { objects = refl; made = refl; locked = refl; progress = refl; fuel = refl; taken = refl; reads = next_same old.next (map object_item old.reads) })

more_laid : (base : List Object) (old : Changes) (x : Object)
    → objects_over base (record old { made = old.made ++ x ∷ []; next = true }) ≡ objects_over base old ++ object_of x ∷ []
more_laid base old x =
    ap (map object_of) (sym (append_assoc (laid_from old.changed 0 base) old.made (x ∷ [])))
    ∙ map-append object_of (laid_over base old) (x ∷ [])

more_made : (old : Changes) (x : Object) → length (old.made ++ x ∷ []) ≡ suc (length old.made)
more_made old x = length-append old.made (x ∷ []) ∙ (omega arith)

pub made_same : (d : Guarded) (u : Metered) (base : List Object) (old new : Changes) (x : Object) (o : PlainObject) → object_of x ≡ o
    → new ≡ record old { made = old.made ++ x ∷ []; next = true }
    → SameWorld (make_object (with_read (world_with d u base old) next_item) o) (world_with d u base new)
made_same d u base old new x o h e =
    subst (λ y. SameWorld (make_object (with_read (world_with d u base old) next_item) o) (world_with d u base y)) (sym e)
    (record {
      objects = more_laid base old x ∙ ap (λ y. objects_over base old ++ y ∷ []) h;
      made = more_made old x;
      locked = refl;
      progress = refl;
      fuel = refl;
      taken = refl;
      reads = next_same old.next (map object_item old.reads);
    })

pub count_plain : (base : List Object) (o : Changes) → length (objects_over base o) ≡ length (laid_over base o)
count_plain base o = length-map (laid_over base o) object_of

pub is_below : (n m : ℕ) → (m ≤ n → ⊥) → n < m
is_below n m h = by (nat_lt n m) refl
  where
    by : (b : Bool) → nat_lt n m ≡ b → n < m
    by true e = grind arith
    by false e = let l : m ≤ n = grind arith in absurd (h l)

pub below_most : (n m : ℕ) → n < m → nat_le m n ≡ false
below_most n m h = grind arith

pub from_most : (n m : ℕ) → m ≤ n → nat_le m n ≡ true
from_most n m h = grind arith
