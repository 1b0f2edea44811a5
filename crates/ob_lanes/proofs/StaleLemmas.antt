-- Readers tell what a commit makes stale.
use Rattle.std.proofs.Common.{◌≡◌, ℕ, zero, suc, ◌<◌, Bool, true, false, ◌||◌, List, [], ◌∷◌, ◌++◌, map, length, get_or, set, replicate, Option, Some, None, refl, sym, ap, subst, ◌∙◌, arith}
use Rattle.std.specs.Prelude.{nat_eq, not, slice_get, slice_index_or, slice_set, if◌then◌else◌}
use Rattle.std.specs.List.{list_any, sum_by}
use Rattle.std.proofs.Math.ListN.{get_or-map}
use Rattle.std.proofs.Math.Seq.{map-set_same}
use Rattle.std.proofs.lemmas.Bool.Decides.{Decides-eqb}
use Rattle.std.proofs.lemmas.List.{get_or-set_same, map-set}
use Rattle.std.proofs.lemmas.List.Folds.{list_any-append}
use Rattle.std.proofs.lemmas.List.Sums.{sum_by-set}
use Rattle.ob_base.specs.declared.id.ObjectId.{ObjectId}
use Rattle.ob_heap_spec.specs.Marks.{is_among}
use Rattle.ob_heap_spec.specs.Worlds.{ReadItem, object_item, next_item, handle_item, handles_full_item}
use Rattle.ob_heap.specs.Contents.{Stored}
use Rattle.ob_heap.specs.Deltas.{with_handles}
use Rattle.ob_heap_spec.specs.Operations.{same_truth}
use Rattle.ob_heap.specs.declared.object.Object.{Object}
use Rattle.ob_heap.specs.declared.delta.Delta.{Delta}
use Rattle.ob_exec.specs.declared.runs.Run.{Run}
use Rattle.ob_lanes.specs.Committing.{has_new, has_handle, is_full, is_changed, is_stale, reopened, lane_at}
use Rattle.ob_lanes.specs.declared.batch.Busy.{Busy}
use Rattle.ob_lanes.specs.declared.batch.BatchRequest.{BatchRequest}
use Rattle.ob_lanes.specs.Starting.{first_from, opened_busy, begun_with, begun}
use Rattle.ob_lanes.proofs.Standing.{begun_within}
use Rattle.ob_lanes.specs.Readers.{objects_of, run_in, items_read, objects_read, has_read, freed, freed_if, freed_by, freed_by_all, freed_by_others, is_other_changed, is_other_stale}

-- Tests of the items of a list.

none_passes : {A : Type 0} (xs : List A) → list_any (λ x. false) xs ≡ false
none_passes [] = refl
none_passes (x ∷ xs) = none_passes xs

any_same : {A : Type 0} (p q : A → Bool) (xs : List A) → ((x : A) → p x ≡ q x) → list_any p xs ≡ list_any q xs
any_same p q [] h = refl
any_same p q (x ∷ xs) h = ap (λ b. b || list_any p xs) (h x) ∙ ap (λ b. q x || b) (any_same p q xs h)

swapped : (a b c d : Bool) → (a || b) || (c || d) ≡ (a || c) || (b || d)
swapped true b c d = refl
swapped false true true d = refl
swapped false true false d = refl
swapped false false c d = refl

any_either : {A : Type 0} (p q : A → Bool) (xs : List A) → list_any (λ x. p x || q x) xs ≡ list_any p xs || list_any q xs
any_either p q [] = refl
any_either p q (x ∷ xs) = ap (λ b. (p x || q x) || b) (any_either p q xs) ∙ swapped (p x) (q x) (list_any p xs) (list_any q xs)

-- whichever list is gone through first
exchanged : {A B : Type 0} (r : A → B → Bool) (xs : List A) (ys : List B) → list_any (λ x. list_any (r x) ys) xs ≡ list_any (λ y. list_any (λ x. r x y) xs) ys
exchanged r xs [] = none_passes xs
exchanged r xs (y ∷ ys) =
    any_either (λ x. r x y) (λ x. list_any (r x) ys) xs
    ∙ ap (λ b. list_any (λ x. r x y) xs || b) (exchanged r xs ys)

or_false : (b : Bool) → b || false ≡ b
or_false true = refl
or_false false = refl

or_true : (b : Bool) → b || true ≡ true
or_true true = refl
or_true false = refl

-- What a delta changes.

-- whether an item is the object of a number
abbrev is_object : ℕ → ReadItem → Bool
is_object n (object_item m) = nat_eq n m
is_object n item = false

among_objects : (n : ℕ) (xs : List ReadItem) → is_among n (objects_of xs) ≡ list_any (is_object n) xs
among_objects n [] = refl
among_objects n (object_item m ∷ xs) = ap (λ b. nat_eq n m || b) (among_objects n xs)
among_objects n (next_item ∷ xs) = among_objects n xs
among_objects n (handle_item name ∷ xs) = among_objects n xs
among_objects n (handles_full_item ∷ xs) = among_objects n xs

-- an item is one of its objects, or another one that it changes
changed_so : (base : Stored) (delta : Delta) (item : ReadItem) → list_any (λ (e : ObjectId × Object). is_object e.0.0 item) delta.objects || is_other_changed base delta item ≡ is_changed base delta item
changed_so base delta (object_item n) = or_false (list_any (λ (e : ObjectId × Object). is_object e.0.0 (object_item n)) delta.objects)
changed_so base delta next_item = ap (λ b. b || is_changed base delta next_item) (none_passes delta.objects)
changed_so base delta (handle_item name) = ap (λ b. b || is_changed base delta (handle_item name)) (none_passes delta.objects)
changed_so base delta handles_full_item = ap (λ b. b || is_changed base delta handles_full_item) (none_passes delta.objects)

-- whether a run is stale, by its objects and by the other items
stale_so : (base : Stored) (delta : Delta) (run : Option Run)
    → list_any (λ (e : ObjectId × Object). is_among e.0.0 (objects_of (items_read run))) delta.objects || is_other_stale base delta run ≡ is_stale base delta run
stale_so base delta None = ap (λ b. b || false) (none_passes delta.objects)
stale_so base delta (Some run) =
    let reads = run.state.reads in
    let es = delta.objects in
    ap (λ b. b || list_any (is_other_changed base delta) reads)
    (any_same (λ (e : ObjectId × Object). is_among e.0.0 (objects_of reads)) (λ (e : ObjectId × Object). list_any (is_object e.0.0) reads) es (λ e. among_objects e.0.0 reads)
    ∙ exchanged (λ (e : ObjectId × Object) item. is_object e.0.0 item) es reads)
    ∙ sym (any_either (λ item. list_any (λ (e : ObjectId × Object). is_object e.0.0 item) es) (is_other_changed base delta) reads)
    ∙ any_same (λ item. list_any (λ (e : ObjectId × Object). is_object e.0.0 item) es || is_other_changed base delta item) (is_changed base delta) reads (changed_so base delta)

pub no_items : {A : Type 0} (xs : List A) → nat_eq (length xs) 0 ≡ true → xs ≡ []
no_items [] e = refl
no_items (x ∷ xs) e = let none = (Decides-eqb (length (x ∷ xs)) 0).0 e in absurd (omega (arith, none))

-- a delta without handles and without new objects changes no other item
pub no_others : (base : Stored) (delta : Delta) → delta.handles ≡ [] → has_new (length base.objects) delta.objects ≡ false → (run : Option Run) → is_other_stale base delta run ≡ false
no_others base delta none old None = refl
no_others base delta none old (Some run) = any_same (is_other_changed base delta) (λ item. false) run.state.reads each ∙ none_passes run.state.reads
  where
    same : (b : Bool) → not (same_truth b b) ≡ false
    same true = refl
    same false = refl

    each : (item : ReadItem) → is_other_changed base delta item ≡ false
    each (object_item n) = refl
    each next_item = old
    each (handle_item name) = ap (has_handle name) none
    each handles_full_item = ap (λ hs. not (same_truth (is_full base.handles) (is_full (with_handles base.handles hs)))) none ∙ same (is_full base.handles)

-- Lanes that are opened again.

freed_again : (lane : Option Busy) (test : Bool) → freed_if test (freed lane) ≡ freed lane
freed_again None true = refl
freed_again None false = refl
freed_again (Some b) true = refl
freed_again (Some b) false = refl

idle_freed : (test : Bool) → freed_if test None ≡ None
idle_freed true = refl
idle_freed false = refl

busy_freed : (b : Busy) (test : Bool) → freed_if test (Some b) ≡ Some (if test then record b { run = None } else b)
busy_freed b true = refl
busy_freed b false = refl

pub nothing_read : (lane : Option Busy) → objects_read (freed lane) ≡ []
nothing_read None = refl
nothing_read (Some b) = refl

-- by the other items, and then by the objects
pub reopened_so : (base : Stored) (delta : Delta) (lane : Option Busy) → freed_by_all delta.objects (freed_by_others base delta lane) ≡ reopened base delta lane
reopened_so base delta None = idle_freed (list_any (λ (e : ObjectId × Object). has_read None e.0.0) delta.objects)
reopened_so base delta (Some b) =
    both (is_other_stale base delta b.run)
    ∙ ap (λ t. freed_if t (Some b)) (stale_so base delta b.run)
    ∙ busy_freed b (is_stale base delta b.run)
  where
    by_object : Bool
    by_object = list_any (λ (e : ObjectId × Object). has_read (Some b) e.0.0) delta.objects

    both : (other : Bool) → freed_by_all delta.objects (freed_if other (Some b)) ≡ freed_if (by_object || other) (Some b)
    both true = freed_again (Some b) (list_any (λ (e : ObjectId × Object). has_read (freed (Some b)) e.0.0) delta.objects) ∙ sym (ap (λ t. freed_if t (Some b)) (or_true by_object))
    both false = sym (ap (λ t. freed_if t (Some b)) (or_false by_object))

pub mapped_both : {A : Type 0} (f g h : A → A) → ((x : A) → f (g x) ≡ h x) → (xs : List A) → map f (map g xs) ≡ map h xs
mapped_both f g h e [] = refl
mapped_both f g h e (x ∷ xs) = ap (λ y. y ∷ map f (map g xs)) (e x) ∙ ap (λ ys. h x ∷ ys) (mapped_both f g h e xs)

pub mapped_same : {A : Type 0} (f : A → A) → ((x : A) → f x ≡ x) → (xs : List A) → map f xs ≡ xs
mapped_same f e [] = refl
mapped_same f e (x ∷ xs) = ap (λ y. y ∷ map f xs) (e x) ∙ ap (λ ys. x ∷ ys) (mapped_same f e xs)

-- One object after another.

pub freed_next : (es : List (ObjectId × Object)) (e : ObjectId × Object) (lane : Option Busy) → freed_by e.0.0 (freed_by_all es lane) ≡ freed_by_all (es ++ e ∷ []) lane
freed_next es e lane = by (list_any p es) refl
  where
    p : ObjectId × Object → Bool
    p x = has_read lane x.0.0

    by : (b : Bool) → list_any p es ≡ b → freed_by e.0.0 (freed_by_all es lane) ≡ freed_by_all (es ++ e ∷ []) lane
    by true is =
        ap (λ t. freed_by e.0.0 (freed_if t lane)) is
        ∙ freed_again lane (has_read (freed lane) e.0.0)
        ∙ sym (ap (λ t. freed_if t lane) (list_any-append p es (e ∷ []) ∙ ap (λ b. b || list_any p (e ∷ [])) is))
    by false is =
        ap (λ t. freed_by e.0.0 (freed_if t lane)) is
        ∙ sym (ap (λ t. freed_if t lane) (list_any-append p es (e ∷ []) ∙ ap (λ b. b || list_any p (e ∷ [])) is ∙ or_false (has_read lane e.0.0)))

pub read_at : (readers : List (List ℕ)) (lanes : List (Option Busy)) (k : ℕ) → readers ≡ map objects_read lanes → slice_index_or readers k [] ≡ objects_read (lane_at lanes k)
read_at readers lanes k e = ap (λ r. slice_index_or r k []) e ∙ get_or-map objects_read lanes k None

-- a lane that has read an object is opened again, and the object alone tells so
pub freed_one : (readers : List (List ℕ)) (lanes : List (Option Busy)) (object k : ℕ) → readers ≡ map objects_read lanes → is_among object (slice_index_or readers k []) ≡ true
    → map (freed_by object) (slice_set lanes k (freed (lane_at lanes k))) ≡ map (freed_by object) lanes
freed_one readers lanes object k e has =
    let lane = lane_at lanes k in
    let reads : has_read lane object ≡ true = sym (ap (is_among object) (read_at readers lanes k e)) ∙ has in
    map-set_same (freed_by object) lanes k (freed lane) None
    (freed_again lane (has_read (freed lane) object) ∙ sym (ap (λ t. freed_if t lane) reads))

-- where no lane has read it, none is opened again
pub none_freed : (readers : List (List ℕ)) (lanes : List (Option Busy)) (object : ℕ) → readers ≡ map objects_read lanes → ((k : ℕ) → is_among object (slice_index_or readers k []) ≡ false)
    → map (freed_by object) lanes ≡ lanes
none_freed readers lanes object e none = by lanes (λ k. sym (ap (is_among object) (read_at readers lanes k e)) ∙ none k)
  where
    by : (ls : List (Option Busy)) → ((k : ℕ) → has_read (lane_at ls k) object ≡ false) → map (freed_by object) ls ≡ ls
    by [] h = refl
    by (x ∷ xs) h = ap (λ t. freed_if t x ∷ map (freed_by object) xs) (h 0) ∙ ap (λ ys. x ∷ ys) (by xs (λ k. h (suc k)))

-- how many lanes have read an object
abbrev pub one_if : ℕ → List ℕ → ℕ
one_if object ns = if is_among object ns then 1 else 0

pub fewer : (readers after : List (List ℕ)) (lanes : List (Option Busy)) (object k : ℕ) → readers ≡ map objects_read lanes → k < length readers → is_among object (slice_index_or readers k []) ≡ true
    → after ≡ map objects_read (slice_set lanes k (freed (lane_at lanes k))) → sum_by (one_if object) after < sum_by (one_if object) readers
fewer readers after lanes object k e within has is =
    let set_is : after ≡ set readers k [] =
    is ∙ map-set objects_read lanes k (freed (lane_at lanes k)) ∙ ap (set (map objects_read lanes) k) (nothing_read (lane_at lanes k)) ∙ ap (λ r. set r k []) (sym e) in
    let one : one_if object (get_or readers k []) ≡ 1 = ap (λ b. if b then 1 else 0) has in
    let sums = sum_by-set (one_if object) readers k [] [] within in
    let zero_is : one_if object [] ≡ 0 = refl in
    let same : sum_by (one_if object) after ≡ sum_by (one_if object) (set readers k []) = ap (sum_by (one_if object)) set_is in
    omega (arith, sums, one, zero_is, same)

-- Readers of lanes.

pub entered_set : (readers : List (List ℕ)) (lanes : List (Option Busy)) (k : ℕ) (x : Option Busy) (xs : List ℕ) → readers ≡ map objects_read lanes → xs ≡ objects_read x
    → slice_set readers k xs ≡ map objects_read (slice_set lanes k x)
entered_set readers lanes k x xs e is = ap (λ r. slice_set r k xs) e ∙ ap (slice_set (map objects_read lanes) k) is ∙ sym (map-set objects_read lanes k x)

pub set_twice : {A : Type 0} (xs : List A) (k : ℕ) (a b : A) → set (set xs k a) k b ≡ set xs k b
set_twice [] k a b = refl
set_twice (x ∷ xs) zero a b = refl
set_twice (x ∷ xs) (suc k) a b = ap (λ ys. x ∷ ys) (set_twice xs k a b)

-- a lane is made idle, whatever it was
pub entered_else : (readers between : List (List ℕ)) (lanes turned : List (Option Busy)) (k : ℕ) (xs : List ℕ) (x : Option Busy) → readers ≡ map objects_read lanes → between ≡ slice_set readers k xs
    → turned ≡ slice_set lanes k x → slice_set between k [] ≡ map objects_read (slice_set turned k None)
entered_else readers between lanes turned k xs x e is so =
    ap (λ r. slice_set r k []) is ∙ set_twice readers k xs []
    ∙ entered_set readers lanes k None [] e refl
    ∙ sym (ap (map objects_read) (ap (λ ls. slice_set ls k None) so ∙ set_twice lanes k x None))

pub none_set : (lanes : List (Option Busy)) (k : ℕ) → lane_at (slice_set lanes k None) k ≡ None
none_set [] k = refl
none_set (x ∷ xs) zero = refl
none_set (x ∷ xs) (suc k) = none_set xs k

-- and no other lane is changed by it
pub idle_stays : (lanes turned : List (Option Busy)) (k : ℕ) (x : Option Busy) → turned ≡ slice_set lanes k x → slice_set turned k None ≡ slice_set lanes k (lane_at (slice_set turned k None) k)
idle_stays lanes turned k x so =
    ap (λ ls. slice_set ls k None) so ∙ set_twice lanes k x None ∙ ap (slice_set lanes k) (sym (none_set turned k))

-- A turn begins a request in one lane alone.
pub begun_set : (entries : List BatchRequest) (k : ℕ) (lanes : List (Option Busy)) (x : Option Busy) → set (begun entries k lanes) k x ≡ set lanes k x
begun_set entries k lanes x = by (first_from entries lanes 0 entries) (slice_get lanes k)
  where
    by : (n : Option ℕ) (lane : Option (Option Busy)) → set (begun_with k n lane lanes) k x ≡ set lanes k x
    by (Some n) (Some None) = set_twice lanes k (Some (opened_busy n)) x
    by (Some n) (Some (Some b)) = refl
    by (Some n) None = refl
    by None lane = refl

-- Lanes that are idle.
pub entered_idle : (count : ℕ) → replicate count [] ≡ map objects_read (replicate count None)
entered_idle zero = refl
entered_idle (suc count) = ap (λ r. [] ∷ r) (entered_idle count)

-- after its turn just one lane is another one
pub turn_stays : (entries : List BatchRequest) (k : ℕ) (old now : List (Option Busy)) (b : Option Busy) → now ≡ begun entries k old → k < length old → set now k b ≡ set old k (lane_at (set now k b) k)
turn_stays entries k old now b same within =
    ap (λ ls. set ls k b) same ∙ begun_set entries k old b
    ∙ ap (set old k) (sym (get_or-set_same now k b None (subst (λ (ls : List (Option Busy)). k < length ls) (sym same) (begun_within entries k old within))))

-- where no run is stale by other items, no lane is opened again by them
pub none_freed_by_others : (base : Stored) (delta : Delta) (lanes : List (Option Busy)) → ((run : Option Run) → is_other_stale base delta run ≡ false) → lanes ≡ map (freed_by_others base delta) lanes
none_freed_by_others base delta lanes none = sym (mapped_same (freed_by_others base delta) (λ lane. ap (λ t. freed_if t lane) (none (run_in lane))) lanes)
