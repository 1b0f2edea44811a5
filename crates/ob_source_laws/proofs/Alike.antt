-- Two ends of a run that are the same, and whose worlds follow that of its start.
use Rattle.std.proofs.Common.{◌≡◌, ℕ, zero, suc, ◌<◌, ◌≤◌, Bool, true, false, List, Option, Some, None, refl, ap, subst, arith}
use Rattle.ob_heap_spec.specs.Objects.{Object}
use Rattle.ob_heap_spec.specs.Contents.{object_at}
use Rattle.ob_heap_spec.specs.Values.{Value}
use Rattle.ob_heap_spec.specs.Worlds.{World, AbortCause, RunOutcome, gives, aborts, wrong, abort, ◌>>=◌, if_right, with_some, with_object, unless_aborted, with_unit_taken, with_fuel, unit}
use Rattle.ob_heap_spec.specs.Marks.{lock, unlock, enter, leave}
use Rattle.ob_source_meaning.specs.Frames.{Callee, Calls}
use Rattle.ob_source_laws.specs.Laws.{EndsSo, this_of}
use Rattle.ob_source_laws.proofs.Follows.{Follows, Tells, Told, wider, narrower, follows_self, follows_on, tells_on, tells_now, follows_unit, lock_ends, progress_ends}

pub record Alike {A : Type 0} (t : Option ℕ) (w : World) (o p : RunOutcome A) : Type 0 where
  pub follows : EndsSo (Follows t w) (Tells w) o
  pub same : o ≡ p

later_ends : {t : Option ℕ} {A : Type 0} {w v : World} (o : RunOutcome A) → Follows t w v → EndsSo (Follows t v) (Tells v) o
    → EndsSo (Follows t w) (Tells w) o
later_ends (gives a u) f e = follows_on f e
later_ends (aborts cause s) f e = tells_on f e
later_ends wrong f e = tt

-- from a later world
pub later : {t : Option ℕ} {A : Type 0} {w v : World} {o p : RunOutcome A} → Follows t w v → Alike t v o p → Alike t w o p
later {o = o} f a = record { follows = later_ends o f a.follows; same = a.same }

pub alike_gives : {t : Option ℕ} {A : Type 0} {w v : World} (x : A) → Follows t w v → Alike t w (gives x v) (gives x v)
alike_gives x f = record { follows = f; same = refl }

pub alike_here : {t : Option ℕ} {A : Type 0} (w : World) (x : A) → Alike t w (gives x w) (gives x w)
alike_here w x = record { follows = follows_self w; same = refl }

pub alike_aborts : {t : Option ℕ} {A : Type 0} (w : World) (cause : AbortCause) → Alike {A = A} t w (abort cause w) (abort cause w)
alike_aborts w cause = record { follows = tells_now w; same = refl }

pub alike_wrong : {t : Option ℕ} {A : Type 0} (w : World) → Alike {A = A} t w wrong wrong
alike_wrong w = record { follows = tt; same = refl }

pub alike_right : {t : Option ℕ} {A : Type 0} {w : World} (b : Bool) {o p : RunOutcome A} → Alike t w o p
    → Alike t w (if_right b o) (if_right b p)
alike_right true a = a
alike_right {w = w} false a = alike_wrong w

pub alike_some : {t : Option ℕ} {A B : Type 0} {w : World} (x : Option A) (f g : A → RunOutcome B) → ((a : A) → Alike t w (f a) (g a))
    → Alike t w (with_some x f) (with_some x g)
alike_some {w = w} None f g a = alike_wrong w
alike_some (Some x) f g a = a x

pub alike_object : {t : Option ℕ} {A : Type 0} {w : World} (v : World) (n : ℕ) (f g : Object → RunOutcome A)
    → ((o : Object) → Alike t w (f o) (g o)) → Alike t w (with_object v n f) (with_object v n g)
alike_object v n f g a = alike_some (object_at v.objects n) f g a

pub alike_unless : {t : Option ℕ} {A : Type 0} {w : World} (b : Bool) (cause : AbortCause) {o p : RunOutcome A} → Alike t w o p
    → Alike t w (unless_aborted b cause w o) (unless_aborted b cause w p)
alike_unless {w = w} true cause a = alike_aborts w cause
alike_unless false cause a = a

wider_ends : {A : Type 0} (t : Option ℕ) (w : World) (o : RunOutcome A) → EndsSo (Follows None w) (Tells w) o
    → EndsSo (Follows t w) (Tells w) o
wider_ends t w (gives a v) e = wider e
wider_ends t w (aborts cause s) e = e
wider_ends t w wrong e = e

pub alike_wider : {A : Type 0} {t : Option ℕ} {w : World} {o p : RunOutcome A} → Alike None w o p → Alike t w o p
alike_wider {t = t} {w = w} {o = o} a = record { follows = wider_ends t w o a.follows; same = a.same }

narrower_ends : {A : Type 0} (w : World) (n : ℕ) (o : RunOutcome A) → Told w n → EndsSo (Follows (Some n) w) (Tells w) o
    → EndsSo (Follows None w) (Tells w) o
narrower_ends w n (gives a v) told e = narrower n told e
narrower_ends w n (aborts cause s) told e = e
narrower_ends w n wrong told e = e

pub alike_narrower : {A : Type 0} {w : World} {o p : RunOutcome A} (n : ℕ) → Told w n → Alike (Some n) w o p
    → Alike None w o p
alike_narrower {w = w} {o = o} n told a = record { follows = narrower_ends w n o told a.follows; same = a.same }

-- with fewer than m units
module _ (m : ℕ) where
  bind_self : {t : Option ℕ} {A B : Type 0} {w : World} (o : RunOutcome A) (f g : A → World → RunOutcome B)
      → EndsSo (Follows t w) (Tells w) o → w.fuel < m → ((a : A) (v : World) → v.fuel < m → Alike t v (f a v) (g a v))
      → Alike t w (o >>= f) (o >>= g)
  bind_self (gives a v) f g e lt k = later e (k a v (omega (arith, e.fuel, lt)))
  bind_self (aborts cause s) f g e lt k = record { follows = e; same = refl }
  bind_self wrong f g e lt k = record { follows = tt; same = refl }

  -- a part, and then what follows it
  pub alike_then : {t : Option ℕ} {A B : Type 0} {w : World} {o p : RunOutcome A} (f g : A → World → RunOutcome B) → Alike t w o p
      → w.fuel < m → ((a : A) (v : World) → v.fuel < m → Alike t v (f a v) (g a v)) → Alike t w (o >>= f) (p >>= g)
  alike_then {t = t} {w = w} {o = o} f g a lt k = subst (λ p. Alike t w (o >>= f) (p >>= g)) a.same (bind_self o f g a.follows lt k)

  fuel_taken : {t : Option ℕ} {A : Type 0} (w : World) (n : ℕ) (f g : World → RunOutcome A) → w.fuel ≡ n → n ≤ m
      → ((v : World) → v.fuel < m → Alike t v (f v) (g v)) → Alike t w (with_fuel n w f) (with_fuel n w g)
  fuel_taken w zero f g e lt k = alike_aborts w _
  fuel_taken w (suc n) f g e lt k = later (follows_unit w n e) (k (with_unit_taken w n) (omega arith))

  -- a unit, and then what follows it
  pub alike_unit : {t : Option ℕ} {A : Type 0} (w : World) (f g : World → RunOutcome A) → w.fuel < m
      → ((v : World) → v.fuel < m → Alike t v (f v) (g v)) → Alike t w (unit w f) (unit w g)
  alike_unit w f g lt k = fuel_taken w w.fuel f g refl (omega (arith, lt)) k

  -- the same, where m units are left at most
  pub alike_unit_more : {t : Option ℕ} {A : Type 0} (w : World) (f g : World → RunOutcome A) → w.fuel ≤ m
      → ((v : World) → v.fuel < m → Alike t v (f v) (g v)) → Alike t w (unit w f) (unit w g)
  alike_unit_more w f g le k = fuel_taken w w.fuel f g refl le k

-- Locks, and transactions in progress.

unlocked_ends : (t : Option ℕ) {A : Type 0} (w : World) (n : ℕ) (o : RunOutcome A) → EndsSo (Follows t (lock n w)) (Tells (lock n w)) o
    → EndsSo (Follows t w) (Tells w) (o >>= (λ x v. gives x (unlock n v)))
unlocked_ends t w n (gives a v) e = lock_ends n e
unlocked_ends t w n (aborts cause s) e = record { units = e.units; reads = e.reads }
unlocked_ends t w n wrong e = tt

-- a part under a lock, and then its end
pub ends_lock : {t : Option ℕ} {A : Type 0} {w : World} {o p : RunOutcome A} (n : ℕ) → Alike t (lock n w) o p
    → Alike t w (o >>= (λ x v. gives x (unlock n v))) (p >>= (λ x v. gives x (unlock n v)))
ends_lock {t = t} {w = w} {o = o} n a = record {
  follows = unlocked_ends t w n o a.follows;
  same = ap (λ q. q >>= (λ x v. gives x
      (unlock n v))) a.same;
}

left_ends : (t : Option ℕ) {A : Type 0} (w : World) (n : ℕ) (o : RunOutcome A) → EndsSo (Follows t (enter n w)) (Tells (enter n w)) o
    → EndsSo (Follows t w) (Tells w) (o >>= (λ x v. gives x (leave n v)))
left_ends t w n (gives a v) e = progress_ends n e
left_ends t w n (aborts cause s) e = record { units = e.units; reads = e.reads }
left_ends t w n wrong e = tt

-- a transaction in progress, and then its end
pub ends_progress : {t : Option ℕ} {A : Type 0} {w : World} {o p : RunOutcome A} (n : ℕ) → Alike t (enter n w) o p
    → Alike t w (o >>= (λ x v. gives x (leave n v))) (p >>= (λ x v. gives x (leave n v)))
ends_progress {t = t} {w = w} {o = o} n a = record {
  follows = left_ends t w n o a.follows;
  same = ap (λ q. q >>= (λ x v. gives x
      (leave n v))) a.same;
}

-- calls that mean the same, where fewer than m units are left
pub record CallsAlike (m : ℕ) (c d : Calls) : Type 0 where
  pub by : (callee : Callee) (args : List Value) (w : World) → w.fuel < m
      → Alike (this_of callee) w (c callee args w) (d callee args w)
