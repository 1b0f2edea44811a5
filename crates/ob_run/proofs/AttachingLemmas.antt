-- Which calls of the disk are made, and what follows the areas of a store.
use Rattle.std.proofs.Common.{◌≡◌, ◌⊎◌, inl, inr, ⊎_elim, ℕ, List, Option, None, Some, Result, Ok, Err, OnOk, refl, sym, ◌∙◌, subst}
use Rattle.ob_disk_spec.specs.Disk.{DiskView, IsQuiet}
use Rattle.ob_disk_spec.specs.Durable.{May, KeepsBehind}
use Rattle.ob_disk_spec.specs.Calls.{IsAttached, IsUntouched}
use Rattle.ob_disk_spec.proofs.Behind.{behind_none, behind_quiet, behind_then}
use Rattle.ob_disk_spec.proofs.Moments.{during_to}
use Rattle.ob_disk_spec.proofs.Untouched.{untouched_none, untouched_during, attached_then}
use Rattle.ob_words.specs.Asked.{Asked}
use Rattle.ob_run.specs.Attaching.{AttachesAtMostOnce, UsesDisk, store_of, store_asked}
use Rattle.ob_run.specs.Sessions.{both_areas}

by_nothing : (store : Option (List ℕ)) (v : DiskView) → AttachesAtMostOnce store v v
by_nothing None v = untouched_none v
by_nothing (Some name) v = inr (record { attaches = refl; calls = refl })

-- where no call was made
pub uses_nothing : (store : Option (List ℕ)) (v : DiskView) → UsesDisk store v v
uses_nothing store v = record { attaches = by_nothing store v; behind = behind_none both_areas v }

-- what follows the areas of a store stays on a disk of which no call was made
behind_untouched : (size : ℕ) (old new : DiskView) → IsUntouched old new → KeepsBehind size old new
behind_untouched size old new is = record {
  content = λ c reads. (c, sym is.content ∙ reads, refl);
  crash = during_to old new (May old) _ (untouched_during old new is) (λ c may. (c, may, refl));
}

-- the same, said by the disk
pub uses_untouched : (old new : DiskView) → IsUntouched old new → UsesDisk None old new
uses_untouched old new is = record { attaches = is; behind = behind_untouched both_areas old new is }

-- the disk of a name was attached, and then used
pub uses_attached : (name : List ℕ) (old mid new : DiskView) → IsAttached old mid name → new.attaches ≡ mid.attaches → KeepsBehind both_areas old mid → KeepsBehind both_areas mid new
    → UsesDisk (Some name) old new
uses_attached name old mid new attached same was next = record {
  attaches = inl (attached_then old mid new name attached same);
  behind = behind_then both_areas old mid new was next;
}

-- attaching it failed
pub uses_failed : (name : List ℕ) (old new : DiskView) → IsAttached old new name ⊎ (new.attaches ≡ old.attaches) → new.calls ≡ old.calls → IsQuiet old new → UsesDisk (Some name) old new
uses_failed name old new either calls quiet = record {
  attaches = ⊎_elim (λ taken. inl taken) (λ same. inr (record { attaches = same; calls = calls })) either;
  behind = behind_quiet both_areas old new quiet;
}

-- what holds anyway
pub on_ok : {T E : Type 0} (r : Result T E) (P : Type 0) → P → OnOk r P
on_ok (Ok value) P p = p
on_ok (Err error) P p = tt

-- the words ask for a command
pub uses_asked : (words : Option Asked) (asked : Asked) (old new : DiskView) → words ≡ Some asked → UsesDisk (store_of asked.command) old new → UsesDisk (store_asked words) old new
uses_asked words asked old new is uses = subst (λ (w : Option Asked). UsesDisk (store_asked w) old new) (sym is) uses
