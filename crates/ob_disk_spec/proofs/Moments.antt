-- How what a crash leaves goes on from call to call.
use Rattle.std.proofs.Common.{inl, inr, ⊎_elim, ℕ, List, arith}
use Rattle.ob_disk_spec.specs.Disk.{DiskView, LeavesOnly, Elapses, IsQuiet, IsWrite}
use Rattle.ob_disk_spec.specs.Durable.{May, Throughout, During, TornFrom}

-- what is said may be weakened
pub weaker : (old new : DiskView) (P Q : List ℕ → Type 0) → LeavesOnly old new P → ((c : List ℕ) → P c → Q c) → LeavesOnly old new Q
weaker old new P Q was to = record { later = was.later; each = λ t c le left. ⊎_elim (λ w. inl w) (λ p. inr (to c p)) (was.each t c le left) }

-- one after another
pub then : (old mid new : DiskView) (P : List ℕ → Type 0) → LeavesOnly old mid P → LeavesOnly mid new P → LeavesOnly old new P
then old mid new P was next = record {
  later = omega (arith, was.later, next.later);
  each = λ t c le left. ⊎_elim (was.each t c le) (λ p. inr p) (next.each t c (omega (arith, le, was.later)) left);
}

-- one call
pub call : (old new : DiskView) (P : List ℕ → Type 0) → Elapses old new → ((c : List ℕ) → new.now c → P c) → LeavesOnly old new P
call old new P time here = weaker old new new.now P time.only here

-- what is said of the disk and each image may be weakened
pub throughout_to : (v : DiskView) (P Q : List ℕ → Type 0) → Throughout v P → ((c : List ℕ) → P c → Q c) → Throughout v Q
throughout_to v P Q was to = record { content = λ c is. to c (was.content c is); images = λ c is. to c (was.images c is) }

-- the same while calls are made
pub during_to : (old new : DiskView) (P Q : List ℕ → Type 0) → During old new P → ((c : List ℕ) → P c → Q c) → During old new Q
during_to old new P Q was to = record { since = weaker old new P Q was.since to; now = throughout_to new P Q was.now to }

pub during_then : (old mid new : DiskView) (P : List ℕ → Type 0) → During old mid P → During mid new P → During old new P
during_then old mid new P was next = record { since = then old mid new P was.since next.since; now = next.now }

-- where nothing is called
pub during_none : (v : DiskView) (P : List ℕ → Type 0) → Throughout v P → During v v P
during_none v P now = record { since = record { later = omega arith; each = λ t c le left. inl left }; now = now }

-- what is said of the disk and each image, of one of them
pub throughout_may : (v : DiskView) (P : List ℕ → Type 0) → Throughout v P → (c : List ℕ) → May v c → P c
throughout_may v P each c may = ⊎_elim (each.content c) (each.images c) may

-- a write
pub written : (old new : DiskView) (at n : ℕ) → IsWrite at n old new → During old new (TornFrom old at n)
written old new at n is = record {
  since = call old new _ is.time (λ c left. let was = is.images c left in (was.0, inr was.1, was.2));
  now = record { content = λ c reads. let was = is.content c reads in (was.0, inl was.1, was.2); images = λ c left. let was = is.images c left in (was.0, inr was.1, was.2) };
}

-- a call that changes no byte
pub quiet : (old new : DiskView) (P : List ℕ → Type 0) → IsQuiet old new → Throughout old P → During old new P
quiet old new P is each = record {
  since = call old new P is.time (λ c left. each.images c (is.images c left));
  now = record { content = λ c reads. each.content c (is.content c reads); images = λ c left. each.images c (is.images c left) };
}
