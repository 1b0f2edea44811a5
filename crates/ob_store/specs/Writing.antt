-- What is written of a delta, and what it makes of a journal (this project's own).
use Rattle.std.specs.Prelude.{ℕ, List, [], ◌∷◌, ◌++◌}
use Rattle.ob_journal_spec.specs.Disks.{IsWithOrWithout, IsMovedOrNot}
use Rattle.ob_journal.specs.Journals.{area_size, place_of, journaled, IsBuilt, IsBuiltArea, IsAppended, IsMoved}
use Rattle.ob_journal.specs.declared.journal.Journal.{Journal}
use Rattle.ob_store.specs.declared.writing.BuiltChange.{BuiltChange}
use Rattle.ob_store.specs.declared.writing.BuiltChange.TheVariants.{Append, Move}

-- it was built of this payload for a journal
abbrev pub IsRecordOf : Journal → List ℕ → BuiltChange → Type 0
IsRecordOf journal payload (Append built) = IsBuilt journal payload built
IsRecordOf journal payload (Move built) = IsBuiltArea journal payload built

-- it was built for a journal
abbrev pub IsRecordFor : Journal → BuiltChange → Type 0
IsRecordFor journal built = (payload : List ℕ) × IsRecordOf journal payload built

-- the payloads of the records after it is written: one more, or it alone
abbrev pub payloads_with : List (List ℕ) → List ℕ → BuiltChange → List (List ℕ)
payloads_with payloads payload (Append built) = payloads ++ payload ∷ []
payloads_with payloads payload (Move built) = payload ∷ []

-- what it makes of a journal
abbrev pub IsWritten : Journal → List ℕ → BuiltChange → Journal → Type 0
IsWritten before payload (Append built) after = IsAppended before payload after
IsWritten before payload (Move built) after = IsMoved before payload after

-- the disk represents a journal without it or with it
abbrev pub StandsWithOrWithout : Journal → List (List ℕ) → List ℕ → BuiltChange → List ℕ → Type 0
StandsWithOrWithout journal payloads payload (Append built) c =
    IsWithOrWithout (area_size journal) (place_of journal) (journaled journal payloads) payload c
StandsWithOrWithout journal payloads payload (Move built) c =
    IsMovedOrNot (area_size journal) (place_of journal) (journaled journal payloads) payload c
