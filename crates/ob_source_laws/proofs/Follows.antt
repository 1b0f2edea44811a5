-- How the worlds of one run follow one another.
use Rattle.std.proofs.Common.{◌≡◌, ◌≢◌, ℕ, zero, suc, ◌+◌, ◌<◌, ◌≤◌, ◌⊎◌, inl, inr, Bool, true, false, List, [], ◌∷◌, ◌++◌, length, Option, Some, None, refl, sym, subst, ap, ◌∙◌, arith, append_assoc, length-append, length-set, eq-eqb, true≢false}
use Rattle.std.proofs.lemmas.Bool.{leb-true}
use Rattle.std.proofs.lemmas.List.Elements.{Contains-append_right}
use Rattle.std.specs.Prelude.{slice_get, slice_set, is_some, unwrap_or, Contains, IsSomeAnd, if◌then◌else◌}
use Rattle.std.specs.Option.{option_map_or}
use Rattle.ob_heap_spec.specs.Objects.{Object}
use Rattle.ob_heap_spec.specs.Contents.{object_at}
use Rattle.ob_heap_spec.specs.Worlds.{ReadItem, object_item, World, Spent, is_made, with_unit_taken, with_read, read_object, set_object, edit_object, make_object}
use Rattle.ob_heap_spec.specs.Marks.{without_first, lock, unlock, enter, leave}
use Rattle.ob_source_laws.specs.Laws.{Grows, IsSameObject, KeepsObjects, KeepsUnread}

-- all that one world keeps of an earlier one, in a part of a run with this `this`
pub record Follows (t : Option ℕ) (w w1 : World) : Type 0 where
  pub fuel : w1.fuel ≤ w.fuel
  pub units : w1.fuel + w1.taken ≡ w.fuel + w.taken
  pub reads : Grows w.reads w1.reads
  pub objects : KeepsObjects w w1
  pub unread : KeepsUnread t w w1
  pub locked : w1.locked ≡ w.locked
  pub progress : w1.progress ≡ w.progress

-- what an aborted run tells of the world in which it began
pub record Tells (w : World) (s : Spent) : Type 0 where
  pub units : s.taken ≤ w.fuel + w.taken
  pub reads : Grows w.reads s.reads

pub grows_none : {A : Type 0} (xs : List A) → Grows xs xs
grows_none xs = ([], refl)

pub grows_on : {A : Type 0} {xs ys zs : List A} → Grows xs ys → Grows ys zs → Grows xs zs
grows_on {xs = xs} a b = (b.0 ++ a.0, b.1 ∙ ap (λ l. b.0 ++ l) a.1 ∙ sym (append_assoc b.0 a.0 xs))

-- Each object that was there is still there.

same_self : (o : Object) → IsSameObject o o
same_self o = record { contract = refl; shared = λ e. e; disowned = λ e. e }

same_on : {o p q : Object} → IsSameObject o p → IsSameObject p q → IsSameObject o q
same_on a b = record {
  contract = b.contract ∙ a.contract;
  shared = λ e. b.shared (a.shared e);
  disowned = λ e. b.disowned (a.disowned e);
}

none_is_some : {A : Type 0} {a : A} → None ≡ Some a → ⊥
none_is_some e = true≢false (sym (ap is_some e))

still_there : (x : Option Object) (o : Object) → x ≡ Some o → IsSomeAnd x (IsSameObject o)
still_there None o e = none_is_some e
still_there (Some p) o e = subst (λ q. IsSameObject q p) (ap (λ y. unwrap_or y p) e) (same_self p)

later_same : (x : Option Object) (o p : Object) → IsSameObject o p → IsSomeAnd x (IsSameObject p)
    → IsSomeAnd x (IsSameObject o)
later_same None o p a b = b
later_same (Some q) o p a b = same_on a b

still_on : (x y : Option Object) (o : Object) → IsSomeAnd x (IsSameObject o)
    → ((p : Object) → x ≡ Some p → IsSomeAnd y (IsSameObject p)) → IsSomeAnd y (IsSameObject o)
still_on None y o a go = absurd a
still_on (Some p) y o a go = later_same y o p a (go p refl)

-- what was read stays read
still_read : {A : Type 0} {xs ys : List A} {x : A} → Grows xs ys → Contains xs x → Contains ys x
still_read {xs = xs} {x = x} g c = subst (λ l. Contains l x) (sym g.1) (Contains-append_right g.0 xs x c)

-- an object that a run has made or read, by its number
abbrev pub Told : World → ℕ → Type 0
Told w n = (length w.objects ≤ n + w.made) ⊎ Contains w.reads (object_item n)

told_or : (w : World) (n : ℕ) (b : Bool) → is_made w n ≡ b → Told (if b then w else with_read w (object_item n)) n
told_or w n true e = inl (leb-true (length w.objects) (n + w.made) e)
told_or w n false e = inr (0, omega arith, refl)

pub told_read : (w : World) (n : ℕ) → Told (read_object w n) n
told_read w n = told_or w n (is_made w n) refl

pub told_made : (w : World) (o : Object) → Told (make_object w o) (length w.objects)
told_made w o = inl (omega (arith, length-append w.objects (o ∷ [])))

told_not : (w : World) (n m : ℕ) → Told w n → m ≡ n → m + w.made < length w.objects
    → (Contains w.reads (object_item m) → ⊥) → ⊥
told_not w n m (inl le) e old none = omega (arith, le, e, old)
told_not w n m (inr c) e old none = none (subst (λ k. Contains w.reads (object_item k)) (sym e) c)

-- each object that has to stay is another one than that of this number
abbrev pub Spared : Option ℕ → World → ℕ → Type 0
Spared t w k =
    (n : ℕ) → n + w.made < length w.objects → t ≢ Some n → (Contains w.reads (object_item n) → ⊥) → n ≢ k

pub spared_told : (t : Option ℕ) (w : World) (k : ℕ) → Told w k → Spared t w k
spared_told t w k told n old mine none e = told_not w k n told e old none

pub spared_this : (w : World) (k : ℕ) → Spared (Some k) w k
spared_this w k n old mine none e = mine (ap Some (sym e))

pub keeps_all : (w : World) → KeepsObjects w w
keeps_all w = record {
  same = λ n o there. still_there (object_at w.objects n) o there;
  more = 0;
  made = omega arith;
  count = omega arith;
}

pub keeps_on : {w v u : World} → KeepsObjects w v → KeepsObjects v u → KeepsObjects w u
keeps_on {v = v} {u = u} a b = record {
  same = λ n o there. still_on (object_at v.objects n) (object_at u.objects n) o (a.same n o there) (b.same n);
  more = b.more + a.more;
  made = omega (arith, a.made, b.made);
  count = omega (arith, a.count, b.count);
}

pub follows_self : {t : Option ℕ} (w : World) → Follows t w w
follows_self w =
    record {
      fuel = omega arith;
      units = refl;
      reads = grows_none w.reads;
      objects = keeps_all w;
      unread = record { same = λ n old mine none. refl };
      locked = refl;
      progress = refl;
    }

pub follows_on : {t : Option ℕ} {w v u : World} → Follows t w v → Follows t v u → Follows t w u
follows_on {w = w} {v = v} {u = u} a b = record {
  fuel = omega (arith, a.fuel, b.fuel);
  units = b.units ∙ a.units;
  reads = grows_on a.reads b.reads;
  objects = keeps_on a.objects b.objects;
  unread = record {
    same = λ n old mine none.
        b.unread.same n (omega (arith, old, a.objects.made, a.objects.count)) mine none
        ∙ a.unread.same n old mine (λ c. none (still_read b.reads c));
  };
  locked = b.locked ∙ a.locked;
  progress = b.progress ∙ a.progress;
}

pub tells_on : {t : Option ℕ} {w v : World} {s : Spent} → Follows t w v → Tells v s → Tells w s
tells_on a b = record { units = omega (arith, a.units, b.units); reads = grows_on a.reads b.reads }

pub tells_now : (w : World) → Tells w (record { taken = w.taken; reads = w.reads })
tells_now w = record { units = omega arith; reads = grows_none w.reads }

-- what is kept without a `this` is kept with one
pub wider : {t : Option ℕ} {w v : World} → Follows None w v → Follows t w v
wider a = record {
  fuel = a.fuel;
  units = a.units;
  reads = a.reads;
  objects = a.objects;
  unread = record { same = λ n old mine none. a.unread.same n old none_is_some none };
  locked = a.locked;
  progress = a.progress;
}

-- a `this` that was made or read needs no mention
pub narrower : {w v : World} (n : ℕ) → Told w n → Follows (Some n) w v → Follows None w v
narrower {w = w} n told a = record {
  fuel = a.fuel;
  units = a.units;
  reads = a.reads;
  objects = a.objects;
  unread = record {
    same = λ m old mine none.
        a.unread.same m old
        (λ e. told_not w n m told (sym (ap (λ x. unwrap_or x 0) e)) old (λ c. none (still_read a.reads c))) none;
  };
  locked = a.locked;
  progress = a.progress;
}

-- Units and reads.

pub follows_unit : {t : Option ℕ} (w : World) (n : ℕ) → w.fuel ≡ suc n → Follows t w (with_unit_taken w n)
follows_unit w n e = record {
  fuel = omega (arith, e);
  units = omega (arith, e);
  reads = grows_none w.reads;
  objects = record {
    same = λ m o there. still_there (object_at w.objects m) o there;
    more = 0;
    made = omega arith;
    count = omega arith;
  };
  unread = record { same = λ m old mine none. refl };
  locked = refl;
  progress = refl;
}

pub follows_read : {t : Option ℕ} (w : World) (item : ReadItem) → Follows t w (with_read w item)
follows_read w item = record {
  fuel = omega arith;
  units = refl;
  reads = (item ∷ [], refl);
  objects = record {
    same = λ m o there. still_there (object_at w.objects m) o there;
    more = 0;
    made = omega arith;
    count = omega arith;
  };
  unread = record { same = λ m old mine none. refl };
  locked = refl;
  progress = refl;
}

unless_so : {t : Option ℕ} (b : Bool) (w v : World) → Follows t w v → Follows t w (if b then w else v)
unless_so true w v a = follows_self w
unless_so false w v a = a

pub follows_read_object : {t : Option ℕ} (w : World) (n : ℕ) → Follows t w (read_object w n)
follows_read_object w n = unless_so (is_made w n) w (with_read w (object_item n)) (follows_read w (object_item n))

-- Objects.

still_after_set : (xs : List Object) (k n : ℕ) (x o : Object)
    → ((p : Object) → slice_get xs k ≡ Some p → IsSameObject p x) → slice_get xs n ≡ Some o
    → IsSomeAnd (slice_get (slice_set xs k x) n) (IsSameObject o)
still_after_set [] k n x o keeps there = absurd (none_is_some there)
still_after_set (y ∷ ys) zero zero x o keeps there = keeps o there
still_after_set (y ∷ ys) zero (suc n) x o keeps there = still_there (slice_get ys n) o there
still_after_set (y ∷ ys) (suc k) zero x o keeps there = still_there (Some y) o there
still_after_set (y ∷ ys) (suc k) (suc n) x o keeps there = still_after_set ys k n x o keeps there

still_before_end : (xs : List Object) (n : ℕ) (x o : Object) → slice_get xs n ≡ Some o
    → IsSomeAnd (slice_get (xs ++ x ∷ []) n) (IsSameObject o)
still_before_end [] n x o there = absurd (none_is_some there)
still_before_end (y ∷ ys) zero x o there = still_there (Some y) o there
still_before_end (y ∷ ys) (suc n) x o there = still_before_end ys n x o there

set_elsewhere : {A : Type 0} (xs : List A) (k n : ℕ) (x : A) → n ≢ k → slice_get (slice_set xs k x) n ≡ slice_get xs n
set_elsewhere [] k n x h = refl
set_elsewhere (y ∷ ys) zero zero x h = absurd (h refl)
set_elsewhere (y ∷ ys) zero (suc n) x h = refl
set_elsewhere (y ∷ ys) (suc k) zero x h = refl
set_elsewhere (y ∷ ys) (suc k) (suc n) x h = set_elsewhere ys k n x (λ e. h (ap suc e))

before_end : {A : Type 0} (xs : List A) (n : ℕ) (x : A) → n < length xs → slice_get (xs ++ x ∷ []) n ≡ slice_get xs n
before_end [] n x lt = absurd (omega arith)
before_end (y ∷ ys) zero x lt = refl
before_end (y ∷ ys) (suc n) x lt = before_end ys n x (omega arith)

follows_set : {t : Option ℕ} (w : World) (k : ℕ) (o : Object)
    → ((p : Object) → object_at w.objects k ≡ Some p → IsSameObject p o) → Spared t w k → Follows t w (set_object w k o)
follows_set w k o keeps spared = record {
  fuel = omega arith;
  units = refl;
  reads = grows_none w.reads;
  objects = record {
    same = λ n p there. still_after_set w.objects k n o p keeps there;
    more = 0;
    made = omega arith;
    count = length-set w.objects k o ∙ omega arith;
  };
  unread = record { same = λ n old mine none. set_elsewhere w.objects k n o (spared n old mine none) };
  locked = refl;
  progress = refl;
}

edit_some : {t : Option ℕ} (w : World) (f : Object → Object) (n : ℕ) → ((o : Object) → IsSameObject o (f o)) → Spared t w n → (o : Option Object)
    → object_at w.objects n ≡ o → Follows t w (option_map_or (λ x. set_object w n (f x)) o w)
edit_some w f n keeps spared None e = follows_self w
edit_some w f n keeps spared (Some o) e =
    follows_set w n (f o)
    (λ p there. subst (λ q. IsSameObject q (f o)) (ap (λ y. unwrap_or y o) (sym e ∙ there)) (keeps o)) spared

-- an object is edited by what keeps its contract and its marks
pub follows_edit : {t : Option ℕ} (w : World) (f : Object → Object) (n : ℕ) → ((o : Object) → IsSameObject o (f o)) → Spared t w n
    → Follows t w (edit_object f n w)
follows_edit w f n keeps spared = edit_some w f n keeps spared (object_at w.objects n) refl

pub follows_make : {t : Option ℕ} (w : World) (o : Object) → Follows t w (make_object w o)
follows_make w o = record {
  fuel = omega arith;
  units = refl;
  reads = grows_none w.reads;
  objects = record {
    same = λ n p there. still_before_end w.objects n o p there;
    more = 1;
    made = omega arith;
    count = length-append w.objects (o ∷ []) ∙ omega arith;
  };
  unread = record { same = λ n old mine none. before_end w.objects n o (omega (arith, old)) };
  locked = refl;
  progress = refl;
}

-- Locks, and transactions in progress.

without_it : (n : ℕ) (ns : List ℕ) → without_first n (n ∷ ns) ≡ ns
without_it n ns = rw (eq-eqb n n refl) refl

pub lock_ends : {t : Option ℕ} {w v : World} (n : ℕ) → Follows t (lock n w) v → Follows t w (unlock n v)
lock_ends {w = w} n a = record {
  fuel = a.fuel;
  units = a.units;
  reads = a.reads;
  objects =
      record {
        same = a.objects.same;
        more = a.objects.more;
        made = a.objects.made;
        count = a.objects.count;
      };
  unread = record { same = a.unread.same };
  locked = ap (without_first n) a.locked ∙ without_it n w.locked;
  progress = a.progress;
}

pub progress_ends : {t : Option ℕ} {w v : World} (n : ℕ) → Follows t (enter n w) v → Follows t w (leave n v)
progress_ends {w = w} n a = record {
  fuel = a.fuel;
  units = a.units;
  reads = a.reads;
  objects =
      record {
        same = a.objects.same;
        more = a.objects.more;
        made = a.objects.made;
        count = a.objects.count;
      };
  unread = record { same = a.unread.same };
  locked = a.locked;
  progress = ap (without_first n) a.progress ∙ without_it n w.progress;
}
