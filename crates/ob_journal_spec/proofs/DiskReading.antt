-- From what is read of each area to what a disk represents.
use Rattle.std.proofs.Common.{ℕ, ℤ, ◌+◌, List, refl, subst}
use Rattle.ob_journal_spec.specs.Areas.{Journaled, AreaRepresents, HasHeader, IsDamaged}
use Rattle.ob_journal_spec.specs.Disks.{Place, other_place, start_of, area_at, IsOlder, IsJournalAt, IsDamagedDisk}
use Rattle.ob_journal_spec.proofs.Older.{stands_header, damaged_header, one_serial}

-- the current area, by its header, represents a journal
pub journal_at : (size : ℕ) (place : Place) (serial : ℤ) (image : List ℕ) (j : Journaled) (c : List ℕ) → HasHeader serial image (area_at size place c) → IsOlder place serial (area_at size (other_place place) c) → AreaRepresents j (area_at size place c) → IsJournalAt size place j c
journal_at size place serial image j c has older stands =
    let same = one_serial (area_at size place c) serial j.serial image j.image has (stands_header j (area_at size place c) stands) in
    record { current = stands; older = subst (λ (s : ℤ). IsOlder place s (area_at size (other_place place) c)) same older }

-- or it is damaged
pub damaged_at : (size : ℕ) (place : Place) (serial : ℤ) (image : List ℕ) (n : ℕ) (c : List ℕ) → HasHeader serial image (area_at size place c) → IsOlder place serial (area_at size (other_place place) c) → IsDamaged n (area_at size place c) → IsDamagedDisk size (start_of size place + n) c
damaged_at size place serial image n c has older damaged =
    let same = one_serial (area_at size place c) serial damaged.before.serial image damaged.before.image has (damaged_header n (area_at size place c) damaged) in
    record { place = place; within = n; damaged = damaged; older = subst (λ (s : ℤ). IsOlder place s (area_at size (other_place place) c)) same older; at = refl }
