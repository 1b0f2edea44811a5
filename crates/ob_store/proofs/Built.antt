-- What is built of a delta, and what it makes of the disk.
use Rattle.std.proofs.Common.{◌≡◌, ℕ, ◌+◌, ◌<◌, ◌≤◌, ◌⊎◌, inl, inr, List, [], ◌++◌, Option, Some, Result, Ok, Err, sym, subst, arith}
use Rattle.ob_disk_spec.specs.Disk.{DiskView}
use Rattle.ob_disk_spec.specs.Durable.{During, KeepsBehind}
use Rattle.ob_disk_spec.proofs.Behind.{behind_more}
use Rattle.ob_journal_spec.specs.Disks.{Place, first, second, start_of}
use Rattle.ob_journal_spec.specs.Lasting.{last_serial}
use Rattle.ob_journal.specs.Journals.{journaled, area_size, place_of, image_of, end_offset, need_for_one, Holds, BuildsArea, IsFront, IsDraftOf}
use Rattle.ob_journal.specs.declared.error.BuildError.{BuildError}
use Rattle.ob_journal.specs.declared.error.BuildError.TheVariants as of_build
use Rattle.ob_journal.specs.declared.journal.Journal.{Journal}
use Rattle.ob_journal.specs.declared.journal.AreaDraft.{AreaDraft}
use Rattle.ob_journal.specs.declared.journal.BuiltArea.{BuiltArea}
use Rattle.ob_store.specs.Preparing.{IsRecordIn, BuildsMove}
use Rattle.ob_store.specs.Committing.{HoldsIn, StandsIn}
use Rattle.ob_store.specs.Writing.{IsRecordOf, StandsWithOrWithout}
use Rattle.ob_store.specs.declared.writing.BuiltChange.{BuiltChange}

start_within : (size : ℕ) (place : Place) → start_of size place + size ≤ size + size
start_within size first = omega arith
start_within size second = omega arith

-- what follows both areas stays, where what follows one of them does
pub behind_both : (journal : Journal) (old new : DiskView) → KeepsBehind (end_offset journal) old new → KeepsBehind (area_size journal + area_size journal) old new
behind_both journal old new kept = behind_more (end_offset journal) (area_size journal + area_size journal) old new (start_within (area_size journal) (place_of journal)) kept

lacks_or : (need size m n : ℕ) (P : Type 0) → need ≡ m → size ≡ n → (size < need) ⊎ P → (n < m) ⊎ P
lacks_or need size m n P a b (inl less) = inl (omega (arith, a, b, less))
lacks_or need size m n P a b (inr other) = inr other

-- the payload of all stands behind the front
pub drafted : (journal : Journal) (front all : List ℕ) (draft : AreaDraft) → IsFront journal front → draft.bytes.items ≡ front ++ all → IsDraftOf journal all draft
drafted journal front all draft begins is = record { front = front; begins = begins; is = is }

-- what building a move answered
pub move_built : (journal : Journal) (all : List ℕ) (r : Result BuiltArea BuildError) → BuildsArea journal all r → BuildsMove journal all r
move_built journal all (Ok built) builds = builds
move_built journal all (Err (of_build.Room need size)) builds =
    lacks_or need size (need_for_one (image_of journal) all) (area_size journal) ((journaled journal []).serial ≡ last_serial) builds.0 builds.1 builds.2
move_built journal all (Err of_build.Memory) builds = tt

-- ---- what is written to a journal, where there is one and something is

module _ (i : Journal) (r : BuiltChange) (j : Option Journal) (b : Option BuiltChange) (is : j ≡ Some i) (said : b ≡ Some r) where
  pub crash_in : (v w : DiskView)
      → ((payloads : List (List ℕ)) (payload : List ℕ) → IsRecordOf i payload r → Holds i payloads v → During v w (StandsWithOrWithout i payloads payload r))
      → (payloads : List (List ℕ)) (payload : List ℕ) → IsRecordIn j payload b → HoldsIn j payloads v → During v w (StandsIn j payloads payload b)
  crash_in v w each =
      let P : Option Journal → Option BuiltChange → Type 0 = λ x y. (payloads : List (List ℕ)) (payload : List ℕ) → IsRecordIn x payload y → HoldsIn x payloads v → During v w (StandsIn x payloads payload y) in
      subst (λ (x : Option Journal). P x b) (sym is) (subst (λ (y : Option BuiltChange). P (Some i) y) (sym said) each)
