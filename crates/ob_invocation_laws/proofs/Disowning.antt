-- A store at rest stays so by a `disown`.
use Rattle.std.proofs.Common.{◌≡◌, ◌∙◌, ◌⊎◌, inl, inr, ℕ, zero, suc, ◌+◌, Bool, true, false, List, [], ◌∷◌, Option, Some, None, refl, sym, subst, arith}
use Rattle.std.specs.Prelude.{cond, not, filter, ◌&&◌, ◌||◌, nat_eq, nat_lt, slice_set, if◌then◌else◌}
use Rattle.std.specs.Ordering.{eq_by_cmp}
use Rattle.std.specs.Option.{option_map_or}
use Rattle.std.specs.List.{list_any}
use Rattle.ob_table.specs.Tables.{ClassTable}
use Rattle.ob_heap_spec.specs.Objects.{Object}
use Rattle.ob_heap_spec.specs.Contents.{HandleName, Handle, Content, object_at, name_order}
use Rattle.ob_heap_spec.specs.Worlds.{World, object_item, with_read, is_made, read_object, set_object}
use Rattle.ob_heap_spec.specs.Marks.{mark_disowned}
use Rattle.ob_heap_spec.specs.Handles.{NamedHandle, handle_at, without_handle}
use Rattle.ob_rest_spec.specs.Modes.{is_owned, is_shared}
use Rattle.ob_rest_spec.specs.Incoming.{owners}
use Rattle.ob_rest_spec.specs.Failing.{is_marked, many_owners}
use Rattle.ob_rest_spec.specs.AtRest.{IsAtRest}
use Rattle.ob_rest_laws.specs.Laws.{is_shared_by_handle, IsMarkedFrom, AreMarkedFrom, ChangesQuietly}
use Rattle.ob_rest_laws.proofs.Ways.{fails_by_none}
use Rattle.ob_rest_laws.proofs.Counting.{owners_add_up}
use Rattle.ob_rest_laws.proofs.Changing.{same_fields, rests_after}
use Rattle.ob_invocation_spec.specs.Invocation.{still_world, disowned_world}
use Rattle.ob_invocation_laws.specs.Laws.{AreHandles, owners_in}
use Rattle.ob_invocation_laws.proofs.Owners.{gone_counts}

-- Objects and marks.

-- an object as it is
as_it_is : (o : Object) → IsMarkedFrom o o
as_it_is o = record {
  contract = refl;
  state = refl;
  fields = refl;
  shared = λ is. is;
  disowned = λ is. is;
}

-- objects as they are
pub as_they_are : (objects : List Object) → AreMarkedFrom objects objects
as_they_are [] = tt
as_they_are (o ∷ objects) = (as_it_is o, as_they_are objects)

-- an object that another one is set for
pub one_is_marked : (objects : List Object) (n : ℕ) (o p : Object) → object_at objects n ≡ Some o → IsMarkedFrom o p
    → AreMarkedFrom objects (slice_set objects n p)
one_is_marked [] n o p there m = absurd cc
one_is_marked (q ∷ objects) zero o p there m = let same : o ≡ q = cc in (rw same at m, as_they_are objects)
one_is_marked (q ∷ objects) (suc n) o p there m = (as_it_is q, one_is_marked objects n o p there m)

-- what stands at a number once it is set
pub set_there : (objects : List Object) (n : ℕ) (o p : Object) → object_at objects n ≡ Some o
    → object_at (slice_set objects n p) n ≡ Some p
set_there [] n o p there = absurd cc
set_there (q ∷ objects) zero o p there = refl
set_there (q ∷ objects) (suc n) o p there = set_there objects n o p there

-- what stands at another number
pub set_elsewhere : (objects : List Object) (n k : ℕ) (p : Object) → nat_eq k n ≡ false
    → object_at (slice_set objects n p) k ≡ object_at objects k
set_elsewhere [] n k p other = refl
set_elsewhere (q ∷ objects) zero zero p other = absurd (grind arith)
set_elsewhere (q ∷ objects) zero (suc k) p other = refl
set_elsewhere (q ∷ objects) (suc n) zero p other = refl
set_elsewhere (q ∷ objects) (suc n) (suc k) p other = set_elsewhere objects n k p (grind arith)

-- reading changes no object
pub read_objects : (w : World) (n : ℕ) → (read_object w n).objects ≡ w.objects
read_objects w n = either (is_made w n)
  where
    either : (b : Bool) → (if b then w else with_read w (object_item n)).objects ≡ w.objects
    either true = refl
    either false = refl

-- What a mark of disowning leaves: the objects but for their marks, this one marked, the others as they were.
pub record Disowned (objects after : List Object) (n : ℕ) : Type 0 where
  pub marked : AreMarkedFrom objects after
  pub this : (p : Object) → object_at after n ≡ Some p → p.disowned ≡ true
  pub others : (k : ℕ) → nat_eq k n ≡ false → object_at after k ≡ object_at objects k

-- an object that is marked already
already : (objects : List Object) (n : ℕ) (found : Option Object) → object_at objects n ≡ found
    → option_map_or (λ (o : Object). o.disowned) found true ≡ true → Disowned objects objects n
already objects n found is has = record {
  marked = as_they_are objects;
  this = λ p there. (let same : found ≡ Some p = sym is ∙ there in rw same at has);
  others = λ k other. refl;
}

-- an object that isn't
anew : (objects : List Object) (n : ℕ) (o : Object) → object_at objects n ≡ Some o
    → Disowned objects (slice_set objects n (record o { disowned = true })) n
anew objects n o there = record {
  marked = one_is_marked objects n o (record o { disowned = true }) there
      (record { contract = refl; state = refl; fields = refl; shared = λ is. is; disowned = λ is. refl });
  this = λ p is. (let set = set_there objects n o (record o { disowned = true }) there in
      let same : record o { disowned = true } ≡ p = cc in rw (sym same) refl);
  others = λ k other. set_elsewhere objects n k (record o { disowned = true }) other;
}

-- by whether it is marked
by_its_mark : (w : World) (n : ℕ) (o : Object) → object_at w.objects n ≡ Some o → (b : Bool) → o.disowned ≡ b
    → Disowned w.objects (if b then w else set_object w n (record o { disowned = true })).objects n
by_its_mark w n o there true is = already w.objects n (Some o) there is
by_its_mark w n o there false is = anew w.objects n o there

by_mark : (w : World) (n : ℕ) (found : Option Object) → object_at w.objects n ≡ found
    → Disowned w.objects
    (if option_map_or (λ (o : Object). o.disowned) found true then w
    else option_map_or (λ o. set_object w n (record o { disowned = true })) found w).objects n
by_mark w n None there = already w.objects n None there refl
by_mark w n (Some o) there = by_its_mark w n o there o.disowned refl

pub mark_disowns : (w : World) (n : ℕ) → Disowned w.objects (mark_disowned n w).objects n
mark_disowns w n =
    subst (λ objects. Disowned objects (mark_disowned n w).objects n) (read_objects w n)
    (by_mark (read_object w n) n (object_at (read_object w n).objects n) refl)

-- What a handle that goes leaves.

-- what passes among those that are left passes among all
any_left : {X : Type 0} (q : X → Bool) (x : X) (xs left : List X) (b c : Bool) → q x ≡ c
    → list_any q (cond b (x ∷ left) left) ≡ true → (list_any q left ≡ true → list_any q xs ≡ true)
    → (c || list_any q xs) ≡ true
any_left q x xs left b true is has rest = refl
any_left q x xs left true false is has rest = rest (rw is at has)
any_left q x xs left false false is has rest = rest has

-- Shared handles that are left were there
left_shared : (n : ℕ) (test : NamedHandle → Bool) (handles : List NamedHandle)
    → is_shared_by_handle (filter test handles) n ≡ true → is_shared_by_handle handles n ≡ true
left_shared n test [] is = is
left_shared n test (h ∷ handles) is =
    any_left (λ g. nat_eq g.1.object n && is_shared g.1.mode) h handles (filter test handles) (test h)
    (nat_eq h.1.object n && is_shared h.1.mode) refl is (left_shared n test handles)

-- how many owners there are, with those of the handle that goes
owners_left : (table : ClassTable) (content : Content) (objects : List Object) (name : HandleName) (h : Handle) (n : ℕ)
    → AreHandles content.objects content.handles → handle_at content name ≡ Some h
    → AreMarkedFrom content.objects objects
    → owners table (record { objects = objects; handles = without_handle content.handles name }) n
    + owners_in n (Some h) ≡ owners table content n
owners_left table content objects name h n are there marked =
    let after : Content = record { objects = objects; handles = without_handle content.handles name } in
    let before = owners_add_up table content n in
    let later = owners_add_up table after n in
    let fields = same_fields table content.objects objects marked in
    let handles = rw there at (gone_counts n content.handles name are.order) in
    rw (before, later, fields) (omega arith)

-- one, or none
by_test : (b : Bool) → (n : ℕ) → n ≡ (if b then 1 else 0) → (n ≡ 0) ⊎ (n ≡ 1)
by_test true n is = inr is
by_test false n is = inl is

-- a handle is one owner, or none
one_or_none : (n : ℕ) (h : Handle) → (owners_in n (Some h) ≡ 0) ⊎ (owners_in n (Some h) ≡ 1)
one_or_none n h = by_test (nat_eq h.object n && is_owned h.mode) (owners_in n (Some h)) refl

-- A `disown`, by what becomes of the objects.

-- only the object of an Owned handle gains a mark, and it does
pub record Marks (content : Content) (h : Handle) (after : List Object) : Type 0 where
  pub objects : AreMarkedFrom content.objects after
  pub gained : (n : ℕ) (o p : Object) → object_at content.objects n ≡ Some o → object_at after n ≡ Some p
      → is_marked o ≡ false → is_marked p ≡ true → owners_in n (Some h) ≡ 1
  pub owned : (n : ℕ) (p : Object) → object_at after n ≡ Some p → owners_in n (Some h) ≡ 1 → is_marked p ≡ true

-- where there was one owner at most, and one goes, none is left
none_left : (before after gone : ℕ) → nat_lt 1 before ≡ false → after + gone ≡ before → gone ≡ 1 → after ≡ 0
none_left before after gone few left one = grind arith

-- with such marks a handle goes quietly
goes_quietly : (table : ClassTable) (content : Content) (name : HandleName) (h : Handle) (objects : List Object)
    → IsAtRest table content → AreHandles content.objects content.handles → handle_at content name ≡ Some h
    → Marks content h objects
    → ChangesQuietly table content (record { objects = objects; handles = without_handle content.handles name })
goes_quietly table content name h objects rest are there marks = record {
  objects = marks.objects;
  owned = λ n. (let left = owners_left table content objects name h n are there marks.objects in omega arith);
  marked = λ n o p was is unmarked marked. (
      let left = owners_left table content objects name h n are there marks.objects in
      let one = marks.gained n o p was is unmarked marked in
      let few = fails_by_none table content rest n o was many_owners in
      none_left (owners table content n) _ (owners_in n (Some h)) few left one);
  lost = λ n p is fewer. (let left = owners_left table content objects name h n are there marks.objects in
      marks.owned n p is (elim (one_or_none n h) [ inl none ↦ absurd (omega arith) | inr one ↦ one ]));
  shared = λ n p is has. inl (left_shared n (λ g. not (eq_by_cmp name_order name g.0)) content.handles has);
}

-- The objects after a `disown`.

-- an owner under a test that fails
no_owner : (a b : Bool) (n : ℕ) → n ≡ (if a && b then 1 else 0) → (a && b) ≡ false → n ≡ 1 → ⊥
no_owner a b n is fails one = absurd (let none : n ≡ 0 = rw fails at is in omega arith)

pub neither : (a b : Bool) → b ≡ false → (a && b) ≡ false
neither true b is = is
neither false b is = refl

marked_by : (p : Object) → p.disowned ≡ true → is_marked p ≡ true
marked_by p is = rw is (either p.shared)
  where
    either : (b : Bool) → (b || true) ≡ true
    either true = refl
    either false = refl

pub some_same : (o p : Object) → Some o ≡ Some p → o ≡ p
some_same o p same = cc

-- a handle that isn't Owned leaves the objects
marks_of_other : (content : Content) (h : Handle) → is_owned h.mode ≡ false → Marks content h content.objects
marks_of_other content h other = record {
  objects = as_they_are content.objects;
  gained = λ n o p was is unmarked marked. absurd (let same : o ≡ p = some_same o p (sym was ∙ is) in
      let now = rw same at unmarked in cc);
  owned = λ n p is one. absurd (no_owner (nat_eq h.object n) (is_owned h.mode) (owners_in n (Some h)) refl
      (neither (nat_eq h.object n) (is_owned h.mode) other) one);
}

-- an object that the handle owns, or another one
gained_at : (content : Content) (h : Handle) (after : List Object) → is_owned h.mode ≡ true
    → Disowned content.objects after h.object → (n : ℕ) (o p : Object) → object_at content.objects n ≡ Some o
    → object_at after n ≡ Some p → is_marked o ≡ false → is_marked p ≡ true → (b : Bool) → nat_eq n h.object ≡ b
    → owners_in n (Some h) ≡ 1
gained_at content h after owns d n o p was is unmarked marked true here =
    let same : nat_eq h.object n ≡ true = grind arith in rw (same, owns) refl
gained_at content h after owns d n o p was is unmarked marked false here =
    absurd (let same : p ≡ o = some_same p o (sym is ∙ d.others n here ∙ was) in let now = rw same at marked in cc)

owned_at : (h : Handle) (after objects : List Object) → Disowned objects after h.object → (n : ℕ) (p : Object)
    → object_at after n ≡ Some p → owners_in n (Some h) ≡ 1 → (b : Bool) → nat_eq h.object n ≡ b → is_marked p ≡ true
owned_at h after objects d n p is one true here =
    let same : n ≡ h.object = grind arith in marked_by p (d.this p (rw same at is))
owned_at h after objects d n p is one false here =
    absurd (no_owner (nat_eq h.object n) (is_owned h.mode) (owners_in n (Some h)) refl (rw here refl) one)

-- an Owned handle marks its object
marks_of_owned : (content : Content) (h : Handle) (after : List Object) → is_owned h.mode ≡ true
    → Disowned content.objects after h.object → Marks content h after
marks_of_owned content h after owns d = record {
  objects = d.marked;
  gained = λ n o p was is unmarked marked.
      gained_at content h after owns d n o p was is unmarked marked (nat_eq n h.object) refl;
  owned = λ n p is one. owned_at h after content.objects d n p is one (nat_eq h.object n) refl;
}

pub by_mode : (content : Content) (h : Handle) (b : Bool) → is_owned h.mode ≡ b
    → Marks content h (if b then mark_disowned h.object (still_world content) else still_world content).objects
by_mode content h true owns =
    marks_of_owned content h (mark_disowned h.object (still_world content)).objects owns
    (mark_disowns (still_world content) h.object)
by_mode content h false other = marks_of_other content h other

pub disown_rests : (table : ClassTable) (content : Content) (name : HandleName) (h : Handle) → IsAtRest table content
    → AreHandles content.objects content.handles → handle_at content name ≡ Some h
    → IsAtRest table
    (record { objects = (disowned_world content h).objects; handles = without_handle content.handles name })
disown_rests table content name h rest are there =
    rests_after table content _ rest
    (goes_quietly table content name h (disowned_world content h).objects rest are there
    (by_mode content h (is_owned h.mode) refl))
