-- The parts of a world, on two contents.
use Rattle.std.proofs.Common.{◌≡◌, ℕ, zero, suc, ◌+◌, ◌<◌, ◌≤◌, ◌⊎◌, inl, inr, Bool, true, false, ◌||◌, List, [], ◌∷◌, ◌++◌, length, Contains, Option, Some, None, refl, sym, ap, ◌∙◌, subst, arith, length-append, length-set}
use Rattle.std.proofs.lemmas.Bool.{leb-true, eqb-true}
use Rattle.std.specs.Prelude.{nat_eq, nat_le, slice_get, slice_set, if◌then◌else◌}
use Rattle.std.specs.Option.{option_map_or}
use Rattle.ob_heap_spec.specs.Objects.{Object}
use Rattle.ob_heap_spec.specs.Contents.{object_at}
use Rattle.ob_heap_spec.specs.Worlds.{ReadItem, object_item, next_item, World, is_made, with_read, read_object, set_object, edit_object, make_object, AllRead}
use Rattle.ob_heap_spec.specs.Marks.{has_mark, mark_shared, mark_disowned, is_among, without_first, enter, leave}
use Rattle.ob_request_run_laws.specs.Locality.{Setting, IsKnown, Alike, onto, IsGood, IsTold}
use Rattle.ob_request_run_laws.proofs.Lists.{some_is_none, is_below, all_read_self, all_read_on, all_read_more, alike_set, alike_made}

-- Worlds.

-- the objects of a world on the second content, as far as the run reads them
abbrev pub HasAlike : Setting → World → List Object → Type 0
HasAlike s w ys = AllRead w.reads s.items → Alike s w.objects ys

-- what becomes of a world, on the first content and on the second: `r` was read before
pub record Moves (s : Setting) (r : List ReadItem) (w v : World) : Type 0 where
  pub grows : AllRead r w.reads
  pub good : IsGood s.count w
  pub ys : List Object
  pub is : AllRead w.reads s.items → v ≡ onto ys w
  pub alike : AllRead w.reads s.items → Alike s w.objects ys

pub moves_self : (s : Setting) (w : World) (ys : List Object) → IsGood s.count w → HasAlike s w ys → Moves s w.reads w (onto ys w)
moves_self s w ys good alike = record { grows = all_read_self w.reads; good = good; ys = ys; is = λ h. refl; alike = alike }

pub moves_from : (s : Setting) (q r : List ReadItem) (w v : World) → AllRead q r → Moves s r w v → Moves s q w v
moves_from s q r w v h m = record { grows = all_read_on q r w.reads h m.grows; good = m.good; ys = m.ys; is = m.is; alike = m.alike }

-- an object that is there, and is told, is known
pub told_known : (s : Setting) (w : World) (n : ℕ) (o : Object) → IsGood s.count w → object_at w.objects n ≡ Some o → IsTold s.count w.reads n → AllRead w.reads s.items → IsKnown s n
told_known s w n o good e (inl le) all = inr (all next_item (good.next (some_made (length w.objects) s.count w.made n le (is_below w.objects n o e) good.objects)), le)
  where
    some_made : (l count made n : ℕ) → count ≤ n → n < l → l ≡ count + made → 0 < made
    some_made l count made n a b c = omega (arith, a, b, c)
told_known s w n o good e (inr c) all = inl (all (object_item n) c)

-- The object of a number is read.

read_good : (count : ℕ) (w : World) (n : ℕ) (b : Bool) → IsGood count w → IsGood count (if b then w else with_read w (object_item n))
read_good count w n true good = good
read_good count w n false good = record { objects = good.objects; next = λ h. all_read_more (object_item n) w.reads next_item (good.next h); progress = good.progress }

read_grows : (w : World) (n : ℕ) (b : Bool) → AllRead w.reads (if b then w else with_read w (object_item n)).reads
read_grows w n true = all_read_self w.reads
read_grows w n false = all_read_more (object_item n) w.reads

read_told : (count : ℕ) (w : World) (n : ℕ) (b : Bool) → IsGood count w → is_made w n ≡ b → IsTold count (if b then w else with_read w (object_item n)).reads n
read_told count w n true good e = inl (omega (arith, leb-true (length w.objects) (n + w.made) e, good.objects))
read_told count w n false good e = inr (0, omega arith, refl)

-- the object of a number that is read is told then
pub reads_told : (count : ℕ) (w : World) (n : ℕ) → IsGood count w → IsTold count (read_object w n).reads n
reads_told count w n good = read_told count w n (is_made w n) good refl

pub reads_grow : (w : World) (n : ℕ) → AllRead w.reads (read_object w n).reads
reads_grow w n = read_grows w n (is_made w n)

read_objects : (w : World) (n : ℕ) (b : Bool) → (if b then w else with_read w (object_item n)).objects ≡ w.objects
read_objects w n true = refl
read_objects w n false = refl

pub reads_objects : (w : World) (n : ℕ) → (read_object w n).objects ≡ w.objects
reads_objects w n = read_objects w n (is_made w n)

pub reads_good : (count : ℕ) (w : World) (n : ℕ) → IsGood count w → IsGood count (read_object w n)
reads_good count w n good = read_good count w n (is_made w n) good

made_alike : (lx ly n made : ℕ) → n < lx → n < ly → (0 < made → ly ≡ lx) → nat_le ly (n + made) ≡ nat_le lx (n + made)
made_alike lx ly n zero a b h = grind (arith, a, b)
made_alike lx ly n (suc made) a b h = ap (λ l. nat_le l (n + suc made)) (h (omega arith))

made_same : (s : Setting) (w : World) (ys : List Object) (n : ℕ) (o : Object) → IsGood s.count w → Alike s w.objects ys → AllRead w.reads s.items → object_at w.objects n ≡ Some o → IsKnown s n
    → is_made (onto ys w) n ≡ is_made w n
made_same s w ys n o good a all e known =
    made_alike (length w.objects) (length ys) n w.made (is_below w.objects n o e) (is_below ys n o (a.known n known ∙ e)) (λ h. a.next (all next_item (good.next h)))

read_onto : (ys : List Object) (w : World) (n : ℕ) (b c : Bool) → c ≡ b → (if c then onto ys w else with_read (onto ys w) (object_item n)) ≡ onto ys (if b then w else with_read w (object_item n))
read_onto ys w n true c e = rw e refl
read_onto ys w n false c e = rw e refl

-- an object that is there is read in both, or made in both
pub read_moves : (s : Setting) (w : World) (ys : List Object) (n : ℕ) (o : Object) → IsGood s.count w → HasAlike s w ys → object_at w.objects n ≡ Some o
    → Moves s w.reads (read_object w n) (read_object (onto ys w) n)
read_moves s w ys n o good alike e = record {
  grows = reads_grow w n;
  good = reads_good s.count w n good;
  ys = ys;
  is = λ all. read_onto ys w n (is_made w n) (is_made (onto ys w) n) (made_same s w ys n o good (alike (before all)) (before all) e (known all));
  alike = λ all. subst (λ xs. Alike s xs ys) (sym (reads_objects w n)) (alike (before all));
}
  where
    before : AllRead (read_object w n).reads s.items → AllRead w.reads s.items
    before all = all_read_on w.reads (read_object w n).reads s.items (reads_grow w n) all

    known : AllRead (read_object w n).reads s.items → IsKnown s n
    known all = told_known s (read_object w n) n o (reads_good s.count w n good) (ap (λ xs. object_at xs n) (reads_objects w n) ∙ e) (reads_told s.count w n good) all

-- The object of a number is edited.

pub edit_reads : (f : Object → Object) (n : ℕ) (w : World) (x : Option Object) → (option_map_or (λ o. set_object w n (f o)) x w).reads ≡ w.reads
edit_reads f n w None = refl
edit_reads f n w (Some o) = refl

pub edit_good : (count : ℕ) (f : Object → Object) (n : ℕ) (w : World) (x : Option Object) → IsGood count w → IsGood count (option_map_or (λ o. set_object w n (f o)) x w)
edit_good count f n w None good = good
edit_good count f n w (Some o) good = record {
  objects = length-set w.objects n (f o) ∙ good.objects;
  next = good.next;
  progress = λ k h. subst (λ l. k < l) (sym (length-set w.objects n (f o))) (good.progress k h);
}

-- what an edit makes of the second list
abbrev edited : (Object → Object) → ℕ → List Object → Option Object → List Object
edited f n ys None = ys
edited f n ys (Some o) = slice_set ys n (f o)

edit_onto : (f : Object → Object) (n : ℕ) (w : World) (ys : List Object) (x y : Option Object) → y ≡ x
    → option_map_or (λ o. set_object (onto ys w) n (f o)) y (onto ys w) ≡ onto (edited f n ys x) (option_map_or (λ o. set_object w n (f o)) x w)
edit_onto f n w ys None y e = rw e refl
edit_onto f n w ys (Some o) y e = rw e refl

edit_alike : (s : Setting) (f : Object → Object) (n : ℕ) (w : World) (ys : List Object) (x : Option Object) → IsKnown s n → Alike s w.objects ys
    → Alike s (option_map_or (λ o. set_object w n (f o)) x w).objects (edited f n ys x)
edit_alike s f n w ys None known a = a
edit_alike s f n w ys (Some o) known a = alike_set s w.objects ys n (f o) known a

-- an object that is there and told is edited in both
pub edit_moves : (s : Setting) (f : Object → Object) (w : World) (ys : List Object) (n : ℕ) (o : Object) → IsGood s.count w → HasAlike s w ys → object_at w.objects n ≡ Some o
    → IsTold s.count w.reads n → Moves s w.reads (edit_object f n w) (edit_object f n (onto ys w))
edit_moves s f w ys n o good alike e told = record {
  grows = subst (λ r. AllRead w.reads r) (sym (edit_reads f n w (object_at w.objects n))) (all_read_self w.reads);
  good = edit_good s.count f n w (object_at w.objects n) good;
  ys = edited f n ys (object_at w.objects n);
  is = λ all. edit_onto f n w ys (object_at w.objects n) (object_at ys n) ((alike (before all)).known n (known (before all)));
  alike = λ all. edit_alike s f n w ys (object_at w.objects n) (known (before all)) (alike (before all));
}
  where
    before : AllRead (edit_object f n w).reads s.items → AllRead w.reads s.items
    before all = subst (λ r. AllRead r s.items) (edit_reads f n w (object_at w.objects n)) all

    known : AllRead w.reads s.items → IsKnown s n
    known all = told_known s w n o good e told all

-- An object is marked.

mark_if : (s : Setting) (r : List ReadItem) (f : Object → Object) (w v : World) (ys : List Object) (n : ℕ) (o : Object) (b c : Bool) → AllRead r w.reads → IsGood s.count w
    → (AllRead w.reads s.items → v ≡ onto ys w) → HasAlike s w ys → object_at w.objects n ≡ Some o → IsTold s.count w.reads n → (AllRead w.reads s.items → c ≡ b)
    → Moves s r (if b then w else edit_object f n w) (if c then v else edit_object f n v)
mark_if s r f w v ys n o true c grows good is alike e told same = record {
  grows = grows;
  good = good;
  ys = ys;
  is = λ all. rw (same all) (is all);
  alike = alike;
}
mark_if s r f w v ys n o false c grows good is alike e told same =
    let m = edit_moves s f w ys n o good alike e told in
    record {
      grows = all_read_on r w.reads (edit_object f n w).reads grows m.grows;
      good = m.good;
      ys = m.ys;
      is = λ all. let early : AllRead w.reads s.items = all_read_on w.reads (edit_object f n w).reads s.items m.grows all in rw (same early) (ap (edit_object f n) (is early) ∙ m.is all);
      alike = m.alike;
    }

-- a mark, once the object was read
abbrev pub marks_in : (Object → Bool) → (Object → Object) → ℕ → World → World
marks_in mark f n v = if has_mark mark v n then v else edit_object f n v

marks_move : (s : Setting) (mark : Object → Bool) (f : Object → Object) (w : World) (ys : List Object) (n : ℕ) (o : Object) → IsGood s.count w → HasAlike s w ys → object_at w.objects n ≡ Some o
    → Moves s (read_object w n).reads (marks_in mark f n (read_object w n)) (marks_in mark f n (read_object (onto ys w) n))
marks_move s mark f w ys n o good alike e =
    let m = read_moves s w ys n o good alike e in
    mark_if s (read_object w n).reads f (read_object w n) (read_object (onto ys w) n) m.ys n o (has_mark mark (read_object w n) n) (has_mark mark (read_object (onto ys w) n) n)
    (all_read_self (read_object w n).reads) m.good m.is m.alike there (reads_told s.count w n good)
    (λ all. ap (λ v. has_mark mark v n) (m.is all) ∙ ap (λ x. option_map_or mark x true) ((m.alike all).known n (told_known s (read_object w n) n o m.good there (reads_told s.count w n good) all)))
  where
    there : object_at (read_object w n).objects n ≡ Some o
    there = ap (λ xs. object_at xs n) (reads_objects w n) ∙ e

-- an object that is there is marked in both
abbrev pub MarkMoves : (ℕ → World → World) → Type 0
MarkMoves mark =
    (s : Setting) (w : World) (ys : List Object) (n : ℕ) (o : Object) → IsGood s.count w → HasAlike s w ys → object_at w.objects n ≡ Some o
    → Moves s (read_object w n).reads (mark n w) (mark n (onto ys w))

pub shared_moves : MarkMoves mark_shared
shared_moves s w ys n o good alike e = marks_move s (λ o. o.shared) (λ o. record o { shared = true }) w ys n o good alike e

pub disowned_moves : MarkMoves mark_disowned
disowned_moves s w ys n o good alike e = marks_move s (λ o. o.disowned) (λ o. record o { disowned = true }) w ys n o good alike e

-- An object is made.

pub make_moves : (s : Setting) (w : World) (ys : List Object) (o : Object) → IsGood s.count w → HasAlike s w ys → Contains w.reads next_item
    → Moves s w.reads (make_object w o) (make_object (onto ys w) o)
make_moves s w ys o good alike next = record {
  grows = all_read_self w.reads;
  good = record {
    objects = length-append w.objects (o ∷ []) ∙ omega (arith, good.objects);
    next = λ h. next;
    progress = λ n h. let old : n < length w.objects = good.progress n h in let more = length-append w.objects (o ∷ []) in omega (arith, old, more);
  };
  ys = ys ++ o ∷ [];
  is = λ all. refl;
  alike = λ all. alike_made s w.objects ys o (all next_item next) (omega (arith, good.objects)) (alike all);
}

-- Transactions in progress.

either_true : (b c : Bool) → b || c ≡ true → (b ≡ true) ⊎ (c ≡ true)
either_true true c h = inl refl
either_true false c h = inr h

entered_there : (m n l : ℕ) (ns : List ℕ) → n < l → (nat_eq m n ≡ true) ⊎ (is_among m ns ≡ true) → (is_among m ns ≡ true → m < l) → m < l
entered_there m n l ns h (inl e) k = subst (λ x. x < l) (sym (eqb-true m n e)) h
entered_there m n l ns h (inr e) k = k e

pub enter_moves : (s : Setting) (w : World) (ys : List Object) (n : ℕ) → IsGood s.count w → HasAlike s w ys → n < length w.objects
    → Moves s w.reads (enter n w) (enter n (onto ys w))
enter_moves s w ys n good alike there = record {
  grows = all_read_self w.reads;
  good = record {
    objects = good.objects;
    next = good.next;
    progress = λ m h. entered_there m n (length w.objects) w.progress there (either_true (nat_eq m n) (is_among m w.progress) h) (good.progress m);
  };
  ys = ys;
  is = λ all. refl;
  alike = alike;
}

or_more : (b c : Bool) → c ≡ true → b || c ≡ true
or_more true c e = refl
or_more false c e = e

or_on : (b c d : Bool) → (c ≡ true → d ≡ true) → b || c ≡ true → b || d ≡ true
or_on true c d f h = refl
or_on false c d f h = f h

-- what is left without one was there before
without_by : (m n k : ℕ) (ns : List ℕ) (b : Bool) → (is_among m (without_first n ns) ≡ true → is_among m ns ≡ true) → is_among m (if b then ns else k ∷ without_first n ns) ≡ true → is_among m (k ∷ ns) ≡ true
without_by m n k ns true ih h = or_more (nat_eq m k) (is_among m ns) h
without_by m n k ns false ih h = or_on (nat_eq m k) (is_among m (without_first n ns)) (is_among m ns) ih h

without_there : (m n : ℕ) (ns : List ℕ) → is_among m (without_first n ns) ≡ true → is_among m ns ≡ true
without_there m n [] h = h
without_there m n (k ∷ ns) h = without_by m n k ns (nat_eq n k) (without_there m n ns) h

pub leave_moves : (s : Setting) (w : World) (ys : List Object) (n : ℕ) → IsGood s.count w → HasAlike s w ys
    → Moves s w.reads (leave n w) (leave n (onto ys w))
leave_moves s w ys n good alike = record {
  grows = all_read_self w.reads;
  good = record { objects = good.objects; next = good.next; progress = λ m h. good.progress m (without_there m n w.progress h) };
  ys = ys;
  is = λ all. refl;
  alike = alike;
}

-- Locks.

pub locks_move : (s : Setting) (w : World) (ys : List Object) (locked : List ℕ) → IsGood s.count w → HasAlike s w ys → Moves s w.reads (record w { locked = locked }) (record (onto ys w) { locked = locked })
locks_move s w ys locked good alike = record {
  grows = all_read_self w.reads;
  good = record { objects = good.objects; next = good.next; progress = good.progress };
  ys = ys;
  is = λ all. refl;
  alike = alike;
}

-- The next number is read.

abbrev pub next_moves : (s : Setting) (w : World) (ys : List Object) → IsGood s.count w → HasAlike s w ys → Moves s w.reads (with_read w next_item) (with_read (onto ys w) next_item)
next_moves s w ys good alike = record {
  grows = all_read_more next_item w.reads;
  good = record { objects = good.objects; next = λ h. (0, omega arith, refl); progress = good.progress };
  ys = ys;
  is = λ all. refl;
  alike = λ all. alike (all_read_on w.reads (next_item ∷ w.reads) s.items (all_read_more next_item w.reads) all);
}

read_progress : (w : World) (n : ℕ) (b : Bool) → (if b then w else with_read w (object_item n)).progress ≡ w.progress
read_progress w n true = refl
read_progress w n false = refl

pub reads_progress : (w : World) (n : ℕ) → (read_object w n).progress ≡ w.progress
reads_progress w n = read_progress w n (is_made w n)

no_object : {A : Type 0} (xs : List A) (n : ℕ) → slice_get xs n ≡ None → n < length xs → ⊥
no_object [] n e h = omega (arith, h)
no_object (x ∷ xs) zero e h = some_is_none e
no_object (x ∷ xs) (suc n) e h = no_object xs n e (omega (arith, h))

not_there : (b : Bool) → (b ≡ true → ⊥) → b ≡ false
not_there true h = absurd (h refl)
not_there false h = refl

-- what isn't there has no transaction in progress
pub no_progress : (count : ℕ) (w : World) (n : ℕ) → IsGood count w → object_at w.objects n ≡ None → is_among n w.progress ≡ false
no_progress count w n good e = not_there (is_among n w.progress) (λ h. no_object w.objects n e (good.progress n h))
