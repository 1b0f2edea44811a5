-- What is taken and read, in whatever order.
use Rattle.std.proofs.Common.{◌≡◌, ℕ, zero, suc, Bool, true, false, List, [], ◌∷◌, ◌++◌, length, map, Option, Some, None, Result, inl, inr, refl, sym, ap, subst, ◌∙◌, arith, append-nil, append_assoc}
use Rattle.std.specs.Prelude.{Contains, OnOk, not, is_none, option_map, option_to_list, if◌then◌else◌}
use Rattle.std.specs.Option.{option_map_or, option_and_then}
use Rattle.std.specs.List.{AllByRecursion}
use Rattle.std.proofs.lemmas.List.Elements.{Contains-append_left, Contains-append_right, Contains-append_cases}
use Rattle.std.proofs.Math.ListN.{length-set}
use Rattle.ob_base.specs.declared.permission.Mode.{Mode}
use Rattle.ob_base.specs.declared.permission.Mode.TheVariants.{Owned, Shared, Unowned}
use Rattle.ob_heap_spec.specs.Contents.{HandleName, Handle as PlainHandle, Content, object_at}
use Rattle.ob_heap_spec.specs.Objects.{Object}
use Rattle.ob_heap_spec.specs.Worlds.{World, ReadItem as Item, object_item, handle_item, handles_full_item, AllRead, ReadSame, is_made, with_read, read_object, set_object, edit_object}
use Rattle.ob_heap_spec.specs.Marks.{has_mark, mark_shared, mark_disowned}
use Rattle.ob_heap_spec.specs.Handles.{NamedHandle}
use Rattle.ob_heap_spec.specs.Handles as stored
use Rattle.ob_source_meaning.proofs.Same.{read_same}
use Rattle.ob_rest_spec.specs.Incoming.{StorePlace, IncomingReference, owner_of}
use Rattle.ob_rest_spec.specs.Modes.{is_owned, is_shared}
use Rattle.ob_table.specs.Tables.{ClassTable}
use Rattle.ob_invocation_spec.specs.Checks.{Check, refusal_of, reads_of, left_as_it_was, refused_or, with_found}
use Rattle.ob_invocation_spec.specs.Handles.{handle_name, handle_reads, serves, mark_put, mark_puts}
use Rattle.ob_invocation_spec.specs.Handles as asked
use Rattle.ob_invocation_spec.specs.Invocation.{still_world, with_handle, disowned_world, disown_handle, invoke_disown, giver_after, puts_of_give, give_from, invoke_give, show_object, invoke_see, show_owner, show_owner_of, invoke_owner}
use Rattle.ob_invocation_spec.specs.Entering.{handle_in}
use Rattle.ob_invocation_spec.specs.Refusals.{is_no_handle, is_taken, handle_check, making_checks, give_checks}
use Rattle.ob_invocation_spec.specs.Replies.{Refusal, Reply, ok_shown, ok_place, no_handle, permission, into_taken, handles_full}
use Rattle.ob_invocation_spec.specs.Requests.{GiveRequest}
use Rattle.ob_invocation_spec.specs.Showing.{shown_at, shown_place, place_item}
use Rattle.ob_heap.specs.declared.object.Handle.{Handle}
use Rattle.ob_heap.specs.Contents.{Stored, content_of, handle_at}
use Rattle.ob_heap.specs.Plain.{handle_of}
use Rattle.ob_owners.specs.Spots.{owner_place}
use Rattle.ob_wire.specs.Refusals.{refusal_told}
use Rattle.ob_exec_handles.specs.Coming.{IsInLimits}
use Rattle.ob_exec_handles.specs.Spending.{item_of, SpendsSo, HasRead, name_reads}
use Rattle.ob_exec_handles.specs.declared.spent.Spent.{Spent}
use Rattle.ob_exec_handles.proofs.InvokingLemmas.{found_at, missing_is, there_is}

-- Items, as sets.

single : (x y : Item) → Contains (x ∷ []) y → x ≡ y
single x y (zero, h, e) = e
single x y (suc k, h, e) = absurd (omega (arith, h))

pub first_item : (x : Item) (xs : List Item) → Contains (x ∷ xs) x
first_item x xs = (0, omega arith, refl)

pub second_item : (x y : Item) (xs : List Item) → Contains (x ∷ y ∷ xs) y
second_item x y xs = Contains-append_right (x ∷ []) (y ∷ xs) y (first_item y xs)

pub all_itself : (xs : List Item) → AllRead xs xs
all_itself xs item c = c

pub all_none : (zs : List Item) → AllRead [] zs
all_none zs item (k, h, e) = absurd (omega (arith, h))

pub all_on : (xs ys zs : List Item) → AllRead xs ys → AllRead ys zs → AllRead xs zs
all_on xs ys zs f g item c = g item (f item c)

pub all_both : (xs ys zs : List Item) → AllRead xs zs → AllRead ys zs → AllRead (xs ++ ys) zs
all_both xs ys zs f g item c =
    elim (Contains-append_cases xs ys item c) as (λ s. Contains zs item) [ inl d ↦ f item d | inr d ↦ g item d ]

pub all_left : (xs ys zs : List Item) → AllRead zs xs → AllRead zs (xs ++ ys)
all_left xs ys zs f item c = Contains-append_left xs ys item (f item c)

pub all_right : (xs ys zs : List Item) → AllRead zs ys → AllRead zs (xs ++ ys)
all_right xs ys zs f item c = Contains-append_right xs ys item (f item c)

pub all_more : (x : Item) (xs zs : List Item) → Contains zs x → AllRead xs zs → AllRead (x ∷ xs) zs
all_more x xs zs h rest item c =
    elim (Contains-append_cases (x ∷ []) xs item c) as (λ s. Contains zs item)
    [ inl d ↦ subst (Contains zs) (single x item d) h | inr d ↦ rest item d ]

pub same_items : (xs ys : List Item) → xs ≡ ys → ReadSame xs ys
same_items xs ys e = subst (ReadSame xs) e (read_same xs)

-- an item may stand first or last
pub first_last : (x : Item) (xs : List Item) → ReadSame (x ∷ xs) (xs ++ x ∷ [])
first_last x xs = (
  all_more x xs (xs ++ x ∷ []) (Contains-append_right xs (x ∷ []) x (first_item x [])) (all_left xs (x ∷ []) xs (all_itself xs)),
  all_both xs (x ∷ []) (x ∷ xs) (all_right (x ∷ []) xs xs (all_itself xs)) (all_left (x ∷ []) xs (x ∷ []) (all_itself (x ∷ []))),
)

-- Marks.

-- what reading and marking leave of a world: units, what was made, how many objects there are, and what was read
pub record Onward (w v : World) : Type 0 where
  pub taken : v.taken ≡ w.taken
  pub made : v.made ≡ w.made
  pub count : length v.objects ≡ length w.objects
  pub reads : AllRead w.reads v.reads

onward_itself : (w : World) → Onward w w
onward_itself w = record { taken = refl; made = refl; count = refl; reads = all_itself w.reads }

onward_on : (w v u : World) → Onward w v → Onward v u → Onward w u
onward_on w v u a b = record {
  taken = b.taken ∙ a.taken;
  made = b.made ∙ a.made;
  count = b.count ∙ a.count;
  reads = all_on w.reads v.reads u.reads a.reads b.reads;
}

onward_read : (w : World) (n : ℕ) → Onward w (read_object w n)
onward_read w n = by (is_made w n)
  where
    by : (b : Bool) → Onward w (if b then w else with_read w (object_item n))
    by true = onward_itself w
    by false = record { taken = refl; made = refl; count = refl; reads = all_right (object_item n ∷ []) w.reads w.reads (all_itself w.reads) }

onward_edit : (f : Object → Object) (n : ℕ) (w : World) → Onward w (edit_object f n w)
onward_edit f n w = by (object_at w.objects n)
  where
    by : (r : Option Object) → Onward w (option_map_or (λ o. set_object w n (f o)) r w)
    by None = onward_itself w
    by (Some o) = record { taken = refl; made = refl; count = length-set w.objects n (f o); reads = all_itself w.reads }

onward_mark : (has : Object → Bool) (f : Object → Object) (n : ℕ) (w : World) → Onward w (if has_mark has w n then w else edit_object f n w)
onward_mark has f n w = by (has_mark has w n)
  where
    by : (b : Bool) → Onward w (if b then w else edit_object f n w)
    by true = onward_itself w
    by false = onward_edit f n w

onward_shared : (n : ℕ) (w : World) → Onward w (mark_shared n w)
onward_shared n w =
    onward_on w (read_object w n) (mark_shared n w) (onward_read w n)
    (onward_mark (λ o. o.shared) (λ o. record o { shared = true }) n (read_object w n))

onward_disowned : (n : ℕ) (w : World) → Onward w (mark_disowned n w)
onward_disowned n w =
    onward_on w (read_object w n) (mark_disowned n w) (onward_read w n)
    (onward_mark (λ o. o.disowned) (λ o. record o { disowned = true }) n (read_object w n))

onward_put : (w : World) (h : NamedHandle) → Onward w (mark_put w h)
onward_put w h = by (is_shared h.1.mode)
  where
    by : (b : Bool) → Onward w (if b then mark_shared h.1.object w else w)
    by true = onward_shared h.1.object w
    by false = onward_itself w

pub onward_puts : (puts : List NamedHandle) (w : World) → Onward w (mark_puts w puts)
onward_puts [] w = onward_itself w
onward_puts (h ∷ puts) w = onward_on w (mark_put w h) (mark_puts (mark_put w h) puts) (onward_put w h) (onward_puts puts (mark_put w h))

-- what is read where an object is marked
edit_reads : (f : Object → Object) (n : ℕ) (w : World) → (edit_object f n w).reads ≡ w.reads
edit_reads f n w = by (object_at w.objects n)
  where
    by : (r : Option Object) → (option_map_or (λ o. set_object w n (f o)) r w).reads ≡ w.reads
    by None = refl
    by (Some o) = refl

mark_reads : (has : Object → Bool) (f : Object → Object) (n : ℕ) (w : World) → (if has_mark has w n then w else edit_object f n w).reads ≡ w.reads
mark_reads has f n w = by (has_mark has w n)
  where
    by : (b : Bool) → (if b then w else edit_object f n w).reads ≡ w.reads
    by true = refl
    by false = edit_reads f n w

pub shared_reads : (n : ℕ) (w : World) → (mark_shared n w).reads ≡ (read_object w n).reads
shared_reads n w = mark_reads (λ o. o.shared) (λ o. record o { shared = true }) n (read_object w n)

disowned_reads : (n : ℕ) (w : World) → (mark_disowned n w).reads ≡ (read_object w n).reads
disowned_reads n w = mark_reads (λ o. o.disowned) (λ o. record o { disowned = true }) n (read_object w n)

-- it is among these, if the object is
read_within : (n : ℕ) (w : World) (zs : List Item) → Contains zs (object_item n) → AllRead w.reads zs → AllRead (read_object w n).reads zs
read_within n w zs h all = by (is_made w n)
  where
    by : (b : Bool) → AllRead (if b then w else with_read w (object_item n)).reads zs
    by true = all
    by false = all_more (object_item n) w.reads zs h all

shared_within : (n : ℕ) (w : World) (zs : List Item) → Contains zs (object_item n) → AllRead w.reads zs → AllRead (mark_shared n w).reads zs
shared_within n w zs h all = subst (λ rs. AllRead rs zs) (sym (shared_reads n w)) (read_within n w zs h all)

disowned_within : (n : ℕ) (w : World) (zs : List Item) → Contains zs (object_item n) → AllRead w.reads zs → AllRead (mark_disowned n w).reads zs
disowned_within n w zs h all = subst (λ rs. AllRead rs zs) (sym (disowned_reads n w)) (read_within n w zs h all)

put_within : (w : World) (h : NamedHandle) (zs : List Item) → Contains zs (object_item h.1.object) → AllRead w.reads zs → AllRead (mark_put w h).reads zs
put_within w h zs there all = by (is_shared h.1.mode)
  where
    by : (b : Bool) → AllRead (if b then mark_shared h.1.object w else w).reads zs
    by true = shared_within h.1.object w zs there all
    by false = all

pub puts_within : (puts : List NamedHandle) (w : World) (zs : List Item) → AllByRecursion (λ (h : NamedHandle). Contains zs (object_item h.1.object)) puts
    → AllRead w.reads zs → AllRead (mark_puts w puts).reads zs
puts_within [] w zs there all = all
puts_within (h ∷ puts) w zs there all = puts_within puts (mark_put w h) zs there.1 (put_within w h zs there.0 all)

-- Handles that are looked up.

pub found_there : (base : Stored) (n : HandleName) (h : Handle) → handle_at n base.handles ≡ Some h → true ≡ not (is_no_handle (content_of base) n)
found_there base n h at = sym (ap (λ (f : Option PlainHandle). not (is_none f)) (found_at base n (Some h) at))

pub lost_there : (base : Stored) (n : HandleName) → handle_at n base.handles ≡ None → false ≡ not (is_no_handle (content_of base) n)
lost_there base n at = sym (ap (λ (f : Option PlainHandle). not (is_none f)) (found_at base n None at))

pub found_reads : (base : Stored) (n : HandleName) (h : Handle) → handle_at n base.handles ≡ Some h
    → handle_reads (content_of base) n ≡ handle_item n ∷ object_item h.object.0 ∷ []
found_reads base n h at =
    ap (λ (f : Option PlainHandle). handle_item n ∷ option_to_list (option_map (λ (x : PlainHandle). object_item x.object) f)) (found_at base n (Some h) at)

pub lost_reads : (base : Stored) (n : HandleName) → handle_at n base.handles ≡ None → handle_reads (content_of base) n ≡ handle_item n ∷ []
lost_reads base n at =
    ap (λ (f : Option PlainHandle). handle_item n ∷ option_to_list (option_map (λ (x : PlainHandle). object_item x.object) f)) (found_at base n None at)

pub two_read : (old mid new : List Item) (x y : Item) → mid ≡ old ++ x ∷ [] → new ≡ mid ++ y ∷ [] → new ≡ old ++ x ∷ y ∷ []
two_read old mid new x y e f = f ∙ ap (λ m. m ++ y ∷ []) e ∙ append_assoc old (x ∷ []) (y ∷ [])

pub more_read : (old mid new xs ys : List Item) → mid ≡ old ++ xs → new ≡ mid ++ ys → new ≡ old ++ (xs ++ ys)
more_read old mid new xs ys e f = f ∙ ap (λ m. m ++ ys) e ∙ append_assoc old xs ys

-- What is read where a test holds, and where it doesn't.

pub where_held : {A E : Type 0} (r : Result A E) (b : Bool) (now new rest : List Item) → b ≡ true → OnOk r (new ≡ now ++ rest)
    → OnOk r (new ≡ now ++ (if b then rest else []))
where_held r b now new rest e h = subst (λ (x : Bool). OnOk r (new ≡ now ++ (if x then rest else []))) (sym e) h

pub where_not : (b : Bool) (now rest : List Item) → b ≡ false → now ≡ now ++ (if b then rest else [])
where_not b now rest e = sym (append-nil now) ∙ ap (λ (x : Bool). now ++ (if x then rest else [])) (sym e)

one_check : (c : Check) → reads_of (c ∷ []) ≡ c.reads
one_check c = by c.holds
  where
    by : (b : Bool) → c.reads ++ (if b then [] else []) ≡ c.reads
    by true = append-nil c.reads
    by false = append-nil c.reads

-- the object of a handle that is there is among what the check of its name reads
check_has : (base : Stored) (n : HandleName) (h : Handle) → handle_at n base.handles ≡ Some h
    → Contains (reads_of (handle_check (content_of base) n ∷ [])) (object_item h.object.0)
check_has base n h at =
    subst (λ rs. Contains rs (object_item h.object.0)) (sym (one_check (handle_check (content_of base) n) ∙ found_reads base n h at))
    (second_item (handle_item n) (object_item h.object.0) [])

-- Requests.

-- a request that runs nothing and reads nothing else
done_spends : (w : World) (reads : List Item) (s : Spent) → w.taken ≡ 0 → AllRead w.reads reads → s.taken ≡ 0 → reads ≡ map item_of s.reads
    → (s.taken ≡ w.taken) × ReadSame (w.reads ++ reads) (map item_of s.reads)
done_spends w reads s none within taken told = (
  taken ∙ sym none,
  subst (ReadSame (w.reads ++ reads)) told
      (all_both w.reads reads reads within (all_itself reads), all_right w.reads reads reads (all_itself reads)),
)

-- a `disown`

disowned_taken : (content : Content) (h : PlainHandle) → (disowned_world content h).taken ≡ 0
disowned_taken content h = by (is_owned h.mode)
  where
    by : (b : Bool) → (if b then mark_disowned h.object (still_world content) else still_world content).taken ≡ 0
    by true = let on = onward_disowned h.object (still_world content) in on.taken
    by false = refl

disowned_all : (content : Content) (h : PlainHandle) (zs : List Item) → Contains zs (object_item h.object) → AllRead (disowned_world content h).reads zs
disowned_all content h zs there = by (is_owned h.mode)
  where
    by : (b : Bool) → AllRead (if b then mark_disowned h.object (still_world content) else still_world content).reads zs
    by true = disowned_within h.object (still_world content) zs there (all_none zs)
    by false = all_none zs

pub disown_spends : (base : Stored) (n : HandleName) (s : Spent) → HasRead (handle_reads (content_of base) n) s → SpendsSo (invoke_disown (content_of base) n) s
disown_spends base n s h = by (handle_at n base.handles) refl
  where
    told : reads_of (handle_check (content_of base) n ∷ []) ≡ map item_of s.reads
    told = one_check (handle_check (content_of base) n) ∙ sym h.1

    by : (r : Option Handle) → handle_at n base.handles ≡ r → SpendsSo (with_handle (content_of base) n (disown_handle (content_of base) n)) s
    by None at =
        subst (λ i. SpendsSo i s) (sym (missing_is base n (disown_handle (content_of base) n) at))
        (h.0, same_items (reads_of (handle_check (content_of base) n ∷ [])) (map item_of s.reads) told)
    by (Some x) at =
        subst (λ i. SpendsSo i s) (sym (there_is base n (disown_handle (content_of base) n) x at))
        (done_spends (disowned_world (content_of base) (handle_of x)) (reads_of (handle_check (content_of base) n ∷ [])) s
        (disowned_taken (content_of base) (handle_of x))
        (disowned_all (content_of base) (handle_of x) (reads_of (handle_check (content_of base) n ∷ [])) (check_has base n x at)) h.0 told)

-- a `see`

-- what follows from a thing leaves the store as it was
found_spends : {A : Type 0} (found : Option A) (content : Content) (reply : A → Reply) (reads : List Item) (s : Spent)
    → IsInLimits (with_found found (λ x. left_as_it_was content (reply x) reads)) → s.taken ≡ 0 → ReadSame reads (map item_of s.reads)
    → SpendsSo (with_found found (λ x. left_as_it_was content (reply x) reads)) s
found_spends None content reply reads s limits taken same = absurd limits
found_spends (Some x) content reply reads s limits taken same = (taken, same)

pub see_spends : (table : ClassTable) (base : Stored) (n : HandleName) (s : Spent) → HasRead (handle_reads (content_of base) n) s
    → IsInLimits (invoke_see table (content_of base) n) → SpendsSo (invoke_see table (content_of base) n) s
see_spends table base n s h limits = by (handle_at n base.handles) refl
  where
    told : ReadSame (reads_of (handle_check (content_of base) n ∷ [])) (map item_of s.reads)
    told =
        same_items (reads_of (handle_check (content_of base) n ∷ [])) (map item_of s.reads)
        (one_check (handle_check (content_of base) n) ∙ sym h.1)

    by : (r : Option Handle) → handle_at n base.handles ≡ r → SpendsSo (with_handle (content_of base) n (show_object table (content_of base))) s
    by None at = subst (λ i. SpendsSo i s) (sym (missing_is base n (show_object table (content_of base)) at)) (h.0, told)
    by (Some x) at =
        subst (λ i. SpendsSo i s) (sym (there_is base n (show_object table (content_of base)) x at))
        (found_spends (shown_at table (content_of base).objects x.object.0) (content_of base) ok_shown (reads_of (handle_check (content_of base) n ∷ [])) s
        (subst IsInLimits (there_is base n (show_object table (content_of base)) x at) limits) h.0 told)

-- an `owner`

pub owner_spends : (table : ClassTable) (base : Stored) (n : HandleName) (place : Option StorePlace) (s : Spent)
    → place ≡ option_and_then (λ (h : Handle). owner_place table (content_of base) h.object.0) (handle_at n base.handles)
    → HasRead (handle_reads (content_of base) n ++ option_to_list (option_map place_item place)) s
    → IsInLimits (invoke_owner table (content_of base) n) → SpendsSo (invoke_owner table (content_of base) n) s
owner_spends table base n place s is h limits = by (handle_at n base.handles) refl
  where
    told : (p : Option StorePlace) → place ≡ p
        → reads_of (handle_check (content_of base) n ∷ []) ++ option_to_list (option_map place_item p) ≡ map item_of s.reads
    told p e =
        ap (λ rs. rs ++ option_to_list (option_map place_item p)) (one_check (handle_check (content_of base) n))
        ∙ ap (λ q. handle_reads (content_of base) n ++ option_to_list (option_map place_item q)) (sym e) ∙ sym h.1

    nothing : place ≡ None → ReadSame (reads_of (handle_check (content_of base) n ∷ [])) (map item_of s.reads)
    nothing e =
        same_items (reads_of (handle_check (content_of base) n ∷ [])) (map item_of s.reads)
        (sym (append-nil (reads_of (handle_check (content_of base) n ∷ []))) ∙ told None e)

    by_owner : (o : Option IncomingReference) → place ≡ option_map (λ (r : IncomingReference). r.place) o
        → IsInLimits (show_owner table (content_of base) (reads_of (handle_check (content_of base) n ∷ [])) o)
        → SpendsSo (show_owner table (content_of base) (reads_of (handle_check (content_of base) n ∷ [])) o) s
    by_owner None e bound = (h.0, nothing e)
    by_owner (Some r) e bound =
        found_spends (shown_place table (content_of base).objects r.place) (content_of base) ok_place
        (place_item r.place ∷ reads_of (handle_check (content_of base) n ∷ [])) s bound h.0
        (subst (ReadSame (place_item r.place ∷ reads_of (handle_check (content_of base) n ∷ []))) (told (Some r.place) e)
        (first_last (place_item r.place) (reads_of (handle_check (content_of base) n ∷ []))))

    by : (r : Option Handle) → handle_at n base.handles ≡ r → SpendsSo (with_handle (content_of base) n (show_owner_of table (content_of base))) s
    by None at =
        subst (λ i. SpendsSo i s) (sym (missing_is base n (show_owner_of table (content_of base)) at))
        (h.0, nothing (is ∙ ap (λ (r : Option Handle). option_and_then (λ (x : Handle). owner_place table (content_of base) x.object.0) r) at))
    by (Some x) at =
        subst (λ i. SpendsSo i s) (sym (there_is base n (show_owner_of table (content_of base)) x at))
        (by_owner (owner_of table (content_of base) x.object.0)
        (is ∙ ap (λ (r : Option Handle). option_and_then (λ (y : Handle). owner_place table (content_of base) y.object.0) r) at)
        (subst IsInLimits (there_is base n (show_owner_of table (content_of base)) x at) limits))

pub bind_alike : {A B : Type 0} (o : Option A) (f g : A → Option B) → ((a : A) → f a ≡ g a) → option_and_then f o ≡ option_and_then g o
bind_alike None f g same = refl
bind_alike (Some a) f g same = same a

-- a `give`

-- why it is refused, by the handle that is found
abbrev why_by : Content → GiveRequest → Option PlainHandle → Option Refusal
why_by content r f =
    if is_none f then Some no_handle
    else if option_map_or (λ (h : PlainHandle). not (serves h.mode r.mode)) f false then Some permission
    else refusal_of (making_checks content (handle_name r.to r.into))

pub give_why : (base : Stored) (who : List ℕ) (r : GiveRequest) (found : Option Handle) → handle_at (handle_name who r.on) base.handles ≡ found
    → refusal_of (give_checks (content_of base) who r) ≡ why_by (content_of base) r (option_map handle_of found)
give_why base who r found at = ap (why_by (content_of base) r) (found_at base (handle_name who r.on) found at)

-- what the checks after the first read, by what holds of them
name_by : (m : HandleName) (none lacks taken full : Bool)
    → (if none then [] else (if lacks then [] else ((handle_item m ∷ []) ++ (if taken then [] else ((handles_full_item ∷ []) ++ (if full then [] else []))))))
    ≡ name_reads m
    (option_map refusal_told (if none then Some no_handle else if lacks then Some permission else if taken then Some into_taken else if full then Some handles_full else None))
name_by m true lacks taken full = refl
name_by m false true taken full = refl
name_by m false false true full = refl
name_by m false false false true = refl
name_by m false false false false = refl

give_reads : (content : Content) (who : List ℕ) (r : GiveRequest)
    → reads_of (give_checks content who r)
    ≡ handle_reads content (handle_name who r.on) ++ name_reads (handle_name r.to r.into) (option_map refusal_told (refusal_of (give_checks content who r)))
give_reads content who r =
    ap (λ rs. handle_reads content (handle_name who r.on) ++ rs)
    (name_by (handle_name r.to r.into) (is_no_handle content (handle_name who r.on))
    (option_map_or (λ (h : PlainHandle). not (serves h.mode r.mode)) (stored.handle_at content (handle_name who r.on)) false)
    (is_taken content (handle_name r.to r.into)) (asked.are_handles_full content))

-- what is put is put for the object that is given
puts_there : (name into : HandleName) (n : ℕ) (mode : Mode) (zs : List Item) → Contains zs (object_item n)
    → AllByRecursion (λ (h : NamedHandle). Contains zs (object_item h.1.object)) (giver_after name n mode ++ handle_in into n mode ∷ [])
puts_there name into n Owned zs there = (there, (there, tt))
puts_there name into n Shared zs there = (there, (there, tt))
puts_there name into n Unowned zs there = (there, tt)

pub give_spends : (base : Stored) (who : List ℕ) (r : GiveRequest) (s : Spent)
    → HasRead (handle_reads (content_of base) (handle_name who r.on)
    ++ name_reads (handle_name r.to r.into) (option_map refusal_told (refusal_of (give_checks (content_of base) who r)))) s
    → SpendsSo (invoke_give (content_of base) who r) s
give_spends base who r s h =
    subst (λ f. SpendsSo (refused_or (content_of base) (refusal_of (give_checks (content_of base) who r)) (reads_of (give_checks (content_of base) who r))
    (λ reads. with_found f (give_from (content_of base) who r reads))) s)
    (sym (found_at base (handle_name who r.on) (handle_at (handle_name who r.on) base.handles) refl))
    (by (handle_at (handle_name who r.on) base.handles) (refusal_of (give_checks (content_of base) who r)) refl refl)
  where
    told : reads_of (give_checks (content_of base) who r) ≡ map item_of s.reads
    told = give_reads (content_of base) who r ∙ sym h.1

    among : (x : Handle) → handle_at (handle_name who r.on) base.handles ≡ Some x
        → Contains (reads_of (give_checks (content_of base) who r)) (object_item x.object.0)
    among x at =
        subst (λ rs. Contains rs (object_item x.object.0)) (sym (give_reads (content_of base) who r))
        (Contains-append_left (handle_reads (content_of base) (handle_name who r.on))
        (name_reads (handle_name r.to r.into) (option_map refusal_told (refusal_of (give_checks (content_of base) who r)))) (object_item x.object.0)
        (subst (λ rs. Contains rs (object_item x.object.0)) (sym (found_reads base (handle_name who r.on) x at))
        (second_item (handle_item (handle_name who r.on)) (object_item x.object.0) [])))

    by : (found : Option Handle) (why : Option Refusal) → handle_at (handle_name who r.on) base.handles ≡ found
        → refusal_of (give_checks (content_of base) who r) ≡ why
        → SpendsSo (refused_or (content_of base) why (reads_of (give_checks (content_of base) who r))
        (λ reads. with_found (option_map handle_of found) (give_from (content_of base) who r reads))) s
    by found (Some x) at e = (h.0, same_items (reads_of (give_checks (content_of base) who r)) (map item_of s.reads) told)
    by None None at e =
        let lost : ◌≡◌ {A = Option Refusal} None (Some no_handle) = sym e ∙ give_why base who r None at in absurd cc
    by (Some x) None at e =
        let w = mark_puts (still_world (content_of base)) (puts_of_give who r (handle_of x)) in
        let on = onward_puts (puts_of_give who r (handle_of x)) (still_world (content_of base)) in
        done_spends w (reads_of (give_checks (content_of base) who r)) s on.taken
        (puts_within (puts_of_give who r (handle_of x)) (still_world (content_of base)) (reads_of (give_checks (content_of base) who r))
        (puts_there (handle_name who r.on) (handle_name r.to r.into) x.object.0 r.mode (reads_of (give_checks (content_of base) who r)) (among x at))
        (all_none (reads_of (give_checks (content_of base) who r)))) h.0 told
