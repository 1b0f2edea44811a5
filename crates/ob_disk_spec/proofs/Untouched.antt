-- A disk of which no call was made.
use Rattle.std.proofs.Common.{◌≡◌, inl, inr, ℕ, List, refl, sym, ◌∙◌, arith}
use Rattle.ob_disk_spec.specs.Disk.{DiskView}
use Rattle.ob_disk_spec.specs.Durable.{May, During}
use Rattle.ob_disk_spec.specs.Calls.{IsAttached, IsUntouched}

pub untouched_none : (v : DiskView) → IsUntouched v v
untouched_none v = record {
  content = refl;
  images = λ c. (λ left. left, λ left. left);
  since = λ t c. (λ left. left, λ left. left);
  clock = refl;
  faults = refl;
  attaches = refl;
  calls = refl;
}

pub untouched_then : (old mid new : DiskView) → IsUntouched old mid → IsUntouched mid new → IsUntouched old new
untouched_then old mid new was next = record {
  content = next.content ∙ was.content;
  images = λ c. (λ left. (was.images c).0 ((next.images c).0 left), λ left. (next.images c).1 ((was.images c).1 left));
  since = λ t c. (λ left. (was.since t c).0 ((next.since t c).0 left), λ left. (next.since t c).1 ((was.since t c).1 left));
  clock = next.clock ∙ was.clock;
  faults = next.faults ∙ was.faults;
  attaches = next.attaches ∙ was.attaches;
  calls = next.calls ∙ was.calls;
}

-- no byte of it changed
pub untouched_during : (old new : DiskView) → IsUntouched old new → During old new (May old)
untouched_during old new is = record {
  since = record { later = omega (arith, is.clock); each = λ t c le left. inl ((is.since t c).0 left) };
  now = record { content = λ c reads. inl (sym is.content ∙ reads); images = λ c left. inr ((is.images c).0 left) };
}

-- a disk was attached, and none after it
pub attached_then : (old mid new : DiskView) (name : List ℕ) → IsAttached old mid name → new.attaches ≡ mid.attaches → IsAttached old new name
attached_then old mid new name attached same = λ all is. attached all (sym same ∙ is)
