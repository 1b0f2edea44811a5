-- A disk of which no byte changed.
use Rattle.std.proofs.Common.{inl, inr, ℕ, List, sym, ◌∙◌, subst}
use Rattle.ob_disk_spec.specs.Disk.{DiskView, Reads, IsQuiet}
use Rattle.ob_disk_spec.specs.Durable.{May, During, KeepsBehind}
use Rattle.ob_disk_spec.specs.Calls.{IsUntouched}
use Rattle.ob_disk_spec.proofs.Moments.{during_to, during_then, throughout_may, quiet}
use Rattle.ob_disk_spec.proofs.Untouched.{untouched_during}
use Rattle.ob_journal.specs.Moments.{IsFresh}
use Rattle.ob_store.specs.Unchanged.{KeepsBytes}

-- what follows no byte at all stays
pub kept_behind : (old new : DiskView) → KeepsBehind 0 old new → During old new (May old) → KeepsBytes old new
kept_behind old new behind crash = record {
  content = λ c reads. let was = behind.content c reads in subst (λ (x : List ℕ). Reads old x) (sym was.2) was.1;
  crash = crash;
}

-- a call that changes no byte
pub kept_quiet : (old new : DiskView) → IsQuiet old new → KeepsBytes old new
kept_quiet old new is = record {
  content = is.content;
  crash = quiet old new (May old) is (record { content = λ c reads. inl reads; images = λ c left. inr left });
}

-- no call was made
pub kept_untouched : (old new : DiskView) → IsUntouched old new → KeepsBytes old new
kept_untouched old new is = record { content = λ c reads. sym is.content ∙ reads; crash = untouched_during old new is }

-- on a blank disk a read gives what a crash leaves
pub kept_fresh : (size : ℕ) (old new : DiskView) → IsFresh size old → During old new (May old) → KeepsBytes old new
kept_fresh size old new fresh crash = record {
  content = λ c reads. throughout_may old (Reads old) fresh.settled c (crash.now.content c reads);
  crash = crash;
}

-- one after another
pub kept_then : (old mid new : DiskView) → KeepsBytes old mid → KeepsBytes mid new → KeepsBytes old new
kept_then old mid new was next = record {
  content = λ c reads. was.content c (next.content c reads);
  crash = during_then old mid new _ was.crash (during_to mid new _ _ next.crash (throughout_may mid (May old) was.crash.now));
}
