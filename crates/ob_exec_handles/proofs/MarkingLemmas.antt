-- Marks on objects.
use Rattle.std.proofs.Common.{◌≡◌, ℕ, zero, suc, ◌<◌, Bool, true, false, List, [], ◌∷◌, length, map, set, Option, Some, None, Result, Ok, Err, refl, sym, ap, ◌∙◌, arith}
use Rattle.std.specs.Prelude.{slice_get, slice_set, option_map, OnOk, if◌then◌else◌}
use Rattle.std.specs.Option.{option_map_or}
use Rattle.std.proofs.lemmas.Option.{slice_get-map}
use Rattle.std.proofs.lemmas.List.{length-map, length-set, map-set}
use Rattle.ob_heap_spec.specs.Objects.{Object as PlainObject}
use Rattle.ob_heap_spec.specs.Contents.{object_at}
use Rattle.ob_heap_spec.specs.Marks.{has_mark as has_mark_in, mark_shared, mark_disowned}
use Rattle.ob_heap_spec.specs.Worlds.{World, object_item, is_made, with_read, set_object, read_object, edit_object}
use Rattle.ob_heap_spec.specs.Handles.{NamedHandle}
use Rattle.ob_rest_spec.specs.Modes.{is_shared}
use Rattle.ob_invocation_spec.specs.Handles.{mark_put, mark_puts}
use Rattle.ob_heap.specs.declared.object.Object.{Object}
use Rattle.ob_heap.specs.Overlays.{Changes, laid_over, objects_over}
use Rattle.ob_heap.specs.declared.edit.Edit.{Edit}
use Rattle.ob_heap.specs.Edits.{with_edit, IsEdited}
use Rattle.ob_heap.specs.Plain.{object_of}
use Rattle.ob_exec_handles.specs.Marking.{has_mark, marked, is_marked, with_mark, with_put_mark, with_put_marks}
use Rattle.ob_exec_handles.specs.declared.marking.Mark.{Mark}
use Rattle.ob_exec_handles.specs.declared.marking.Mark.TheVariants.{Shared, Disowned}

-- Of the objects of a world.

read_keeps : (w : World) (n : ℕ) → (read_object w n).objects ≡ w.objects
read_keeps w n = by (is_made w n)
  where
    by : (b : Bool) → (if b then w else with_read w (object_item n)).objects ≡ w.objects
    by true = refl
    by false = refl

edit_objects : (f : PlainObject → PlainObject) (n : ℕ) (w : World)
    → (edit_object f n w).objects ≡ option_map_or (λ o. slice_set w.objects n (f o)) (object_at w.objects n) w.objects
edit_objects f n w = by (object_at w.objects n)
  where
    by : (r : Option PlainObject) → (option_map_or (λ o. set_object w n (f o)) r w).objects ≡ option_map_or (λ o. slice_set w.objects n (f o)) r w.objects
    by None = refl
    by (Some o) = refl

-- the objects of a number with a mark, by the world before
mark_in : (has : PlainObject → Bool) (f : PlainObject → PlainObject) (n : ℕ) (w : World)
    → (if has_mark_in has w n then w else edit_object f n w).objects
    ≡ (if option_map_or has (object_at w.objects n) true then w.objects
    else option_map_or (λ o. slice_set w.objects n (f o)) (object_at w.objects n) w.objects)
mark_in has f n w = by (has_mark_in has w n)
  where
    by : (b : Bool) → (if b then w else edit_object f n w).objects
        ≡ (if b then w.objects else option_map_or (λ o. slice_set w.objects n (f o)) (object_at w.objects n) w.objects)
    by true = refl
    by false = edit_objects f n w

pub shared_objects : (n : ℕ) (w : World) → (mark_shared n w).objects ≡ with_mark Shared n w.objects
shared_objects n w =
    mark_in (has_mark Shared) (marked Shared) n (read_object w n) ∙ ap (with_mark Shared n) (read_keeps w n)

pub disowned_objects : (n : ℕ) (w : World) → (mark_disowned n w).objects ≡ with_mark Disowned n w.objects
disowned_objects n w =
    mark_in (has_mark Disowned) (marked Disowned) n (read_object w n) ∙ ap (with_mark Disowned n) (read_keeps w n)

put_objects : (h : NamedHandle) (w : World) → (mark_put w h).objects ≡ with_put_mark w.objects h
put_objects h w = by (is_shared h.1.mode)
  where
    by : (b : Bool) → (if b then mark_shared h.1.object w else w).objects ≡ (if b then with_mark Shared h.1.object w.objects else w.objects)
    by true = shared_objects h.1.object w
    by false = refl

pub puts_objects : (puts : List NamedHandle) (w : World) → (mark_puts w puts).objects ≡ with_put_marks w.objects puts
puts_objects [] w = refl
puts_objects (h ∷ puts) w = puts_objects puts (mark_put w h) ∙ ap (λ os. with_put_marks os puts) (put_objects h w)

-- How many objects there are stays.

mark_length : (mark : Mark) (n : ℕ) (os : List PlainObject) → length (with_mark mark n os) ≡ length os
mark_length mark n os = by (is_marked mark n os) (object_at os n)
  where
    by : (b : Bool) (r : Option PlainObject) → length (if b then os else option_map_or (λ o. slice_set os n (marked mark o)) r os) ≡ length os
    by true r = refl
    by false None = refl
    by false (Some o) = length-set os n (marked mark o)

put_length : (os : List PlainObject) (h : NamedHandle) → length (with_put_mark os h) ≡ length os
put_length os h = by (is_shared h.1.mode)
  where
    by : (b : Bool) → length (if b then with_mark Shared h.1.object os else os) ≡ length os
    by true = mark_length Shared h.1.object os
    by false = refl

puts_length : (puts : List NamedHandle) (os : List PlainObject) → length (with_put_marks os puts) ≡ length os
puts_length [] os = refl
puts_length (h ∷ puts) os = puts_length puts (with_put_mark os h) ∙ put_length os h

pub still_as_many : (base : List Object) (old new : Changes) (puts : List NamedHandle) → objects_over base new ≡ with_put_marks (objects_over base old) puts
    → length (laid_over base new) ≡ length (laid_over base old)
still_as_many base old new puts e =
    sym (length-map (laid_over base new) object_of) ∙ ap length e ∙ puts_length puts (objects_over base old) ∙ length-map (laid_over base old) object_of

there : (xs : List Object) (n : ℕ) → n < length xs → (x : Object) × (slice_get xs n ≡ Some x)
there [] n h = absurd (omega arith)
there (x ∷ xs) zero h = (x, refl)
there (x ∷ xs) (suc n) h = there xs n (omega arith)

pub marked_now : {E : Type 0} (r : Result (Unit {0}) E) (mark : Mark) (base : List Object) (old new : Changes) (n : ℕ) (e : Edit)
    → n < length (laid_over base old) → OnOk r (IsEdited n e (laid_over base old) (laid_over base new))
    → ((o : Object) → object_of (with_edit e o) ≡ marked mark (object_of o)) → is_marked mark n (objects_over base old) ≡ false
    → OnOk r (objects_over base new ≡ with_mark mark n (objects_over base old))
marked_now (Err u) mark base old new n e h by g other = tt
marked_now (Ok u) mark base old new n e h by g other =
    let x = there (laid_over base old) n h in
    let objects : objects_over base new ≡ set (objects_over base old) n (marked mark (object_of x.0)) =
    ap (map object_of) (by x.0 x.1) ∙ map-set object_of (laid_over base old) n (with_edit e x.0) ∙ ap (set (objects_over base old) n) (g x.0) in
    let there : object_at (objects_over base old) n ≡ Some (object_of x.0) = slice_get-map object_of (laid_over base old) n ∙ ap (option_map object_of) x.1 in
    objects
    ∙ sym (ap (λ r. option_map_or (λ o. set (objects_over base old) n (marked mark o)) r (objects_over base old)) there)
    ∙ sym (ap (λ b. if b then objects_over base old else option_map_or (λ o. set (objects_over base old) n (marked mark o)) (object_at (objects_over base old) n) (objects_over base old)) other)
