-- A disk in whose other area a journal is built, behind a gate that opens last: what each write makes of it. So an area is begun on a blank
-- disk, and so a journal moves.
use Rattle.std.proofs.Common.{◌≡◌, ◌⊎◌, inl, inr, ⊎_elim, ℕ, ◌+◌, ◌≤◌, List, [], ◌∷◌, ◌++◌, length, Option, Some, None, refl, sym, ◌∙◌, ap, subst, arith, append_assoc}
use Rattle.ob_disk_spec.specs.Disk.{Torn, overwritten}
use Rattle.ob_journal_spec.specs.Spellings.{header}
use Rattle.ob_journal_spec.specs.Areas.{Journaled, AreaRepresents, IsBlank}
use Rattle.ob_journal_spec.specs.Disks.{Place, first, second, other_place, start_of, area_at, IsJournalAt, moved}
use Rattle.ob_journal_spec.specs.Building.{IsClosed, IsSpelled, IsBefore, StandsThere, CanFollow, IsClosedBeside, IsShutBeside}
use Rattle.ob_journal_spec.proofs.Beginning.{short_closed, closed_torn, heads, headed_torn, headed_opens}
use Rattle.ob_journal_spec.proofs.Beside.{Grows, torn_written, torn_at, overwritten_at, other_grows, second_same, from_start}
use Rattle.ob_journal_spec.proofs.Older.{stands_header, next_goes_before, older_torn, blank_torn}
use Rattle.ob_journal_spec.proofs.Unique.{blank_or_stands}

-- more bytes behind it change nothing of what an area represents
pub stands_grows : (j : Journaled) (old new : List ℕ) → Grows old new → AreaRepresents j old → AreaRepresents j new
stands_grows j old new more was = record {
  front = was.front;
  behind = was.behind ++ more.0;
  is = more.1 ∙ ap (λ (l : List ℕ). l ++ more.0) was.is ∙ append_assoc was.front (0 ∷ was.behind) more.0;
  open_front = was.open_front;
}

twice : (place : Place) → other_place (other_place place) ≡ place
twice first = refl
twice second = refl

-- a write beside a journal: it stays
pub other_stands : (size : ℕ) (place : Place) (at n : ℕ) (d c : List ℕ) (j : Journaled) → at + n ≤ size → Torn (start_of size (other_place place) + at) n d c → AreaRepresents j (area_at size place d) → AreaRepresents j (area_at size place c)
other_stands size place at n d c j within torn was =
    let grows : Grows (area_at size place d) (area_at size place c) = subst (λ (p : Place). Grows (area_at size p d) (area_at size p c)) (twice place) (other_grows size (other_place place) at n d c within torn) in
    stands_grows j (area_at size place d) (area_at size place c) grows was

-- whatever stands there stays
there_kept : (size : ℕ) (place : Place) (was : Option Journaled) (new : Journaled) → CanFollow was place new → (at n : ℕ) (d c : List ℕ) → at + n ≤ size → Torn (start_of size (other_place place) + at) n d c → StandsThere was (area_at size place d) → StandsThere was (area_at size place c)
there_kept size first None new can at n d c within torn there = absurd can
there_kept size second None new can at n d c within torn there = subst IsBlank (sym (second_same size at n d c within (from_start at n d c torn))) there
there_kept size place (Some j) new can at n d c within torn there = other_stands size place at n d c j within torn there

there_before : (size : ℕ) (place : Place) (was : Option Journaled) (new : Journaled) → CanFollow was place new → (d : List ℕ) → IsBefore size place was d → StandsThere was (area_at size place d)
there_before size first None new can d before = absurd can
there_before size second None new can d before = before.other
there_before size place (Some j) new can d before = before.current

before_closed : (size : ℕ) (place : Place) (was : Option Journaled) (new : Journaled) → CanFollow was place new → (c : List ℕ) → StandsThere was (area_at size place c) → IsClosed (area_at size (other_place place) c) → IsBefore size place was c
before_closed size first None new can c there closed = absurd can
before_closed size second None new can c there closed = record { one = inr closed; other = there }
before_closed size place (Some j) new can c there closed = record { current = there; older = inl (inr closed) }

-- a torn first byte of the other area
before_torn : (size : ℕ) (place : Place) (was : Option Journaled) (new : Journaled) → CanFollow was place new → (d c : List ℕ) → 0 + 1 ≤ size → Torn (start_of size (other_place place) + 0) 1 d c → ((rest : List ℕ) → area_at size (other_place place) d ≡ 0 ∷ rest → ⊥) → IsBefore size place was d → IsBefore size place was c
before_torn size first None new can d c within torn is_open before = absurd can
before_torn size second None new can d c within torn is_open before = record {
  one = blank_torn (area_at size first d) (area_at size first c) before.one is_open (torn_at size first 0 1 d c within torn);
  other = there_kept size second None new can 0 1 d c within torn before.other;
}
before_torn size place (Some j) new can d c within torn is_open before = record {
  current = other_stands size place 0 1 d c j within torn before.current;
  older = older_torn place j.serial (area_at size (other_place place) d) (area_at size (other_place place) c) before.older is_open (torn_at size (other_place place) 0 1 d c within torn);
}

-- the new journal is current, where it stands
new_current : (size : ℕ) (place : Place) (was : Option Journaled) (new : Journaled) → CanFollow was place new → (c : List ℕ) → StandsThere was (area_at size place c) → AreaRepresents new (area_at size (other_place place) c) → IsJournalAt size (other_place place) new c
new_current size first None new can c there stands = absurd can
new_current size second None new can c there stands = record { current = stands; older = inl there }
new_current size first (Some j) new can c there stands = record { current = stands; older = inr (j.serial, j.image, can, stands_header j (area_at size first c) there) }
new_current size second (Some j) new can c there stands = record { current = stands; older = inr (j.serial, j.image, can, stands_header j (area_at size second c) there) }

-- what represents something begins with no closed gate
pub stands_open : (j : Journaled) (area : List ℕ) → AreaRepresents j area → (rest : List ℕ) → area ≡ 0 ∷ rest → ⊥
stands_open j area stands rest is = blank_or_stands area j (inr (rest, is)) stands

-- a journal may move
pub moved_follows : (place : Place) (j : Journaled) (payload : List ℕ) → CanFollow (Some j) place (moved j payload)
moved_follows place j payload = next_goes_before (other_place place) j.serial

module _ (size : ℕ) (place : Place) (was : Option Journaled) (new : Journaled) (can : CanFollow was place new) (p : ℕ) (at : p ≡ start_of size (other_place place)) (some : 1 ≤ size) where
  -- a write of the first byte, and one behind it
  torn_gate : (n : ℕ) (d c : List ℕ) → Torn p n d c → Torn (start_of size (other_place place) + 0) n d c
  torn_gate n d c torn = let same : p ≡ start_of size (other_place place) + 0 = omega (arith, at) in subst (λ (k : ℕ). Torn k n d c) same torn

  torn_rest : (n : ℕ) (d c : List ℕ) → Torn (p + 1) n d c → Torn (start_of size (other_place place) + 1) n d c
  torn_rest n d c torn = let same : p + 1 ≡ start_of size (other_place place) + 1 = omega (arith, at) in subst (λ (k : ℕ). Torn k n d c) same torn

  written_gate : (b : ℕ) (d c : List ℕ) → c ≡ overwritten p (b ∷ []) d → area_at size (other_place place) c ≡ overwritten 0 (b ∷ []) (area_at size (other_place place) d)
  written_gate b d c is =
      let same : p ≡ start_of size (other_place place) + 0 = omega (arith, at) in
      overwritten_at size (other_place place) 0 (b ∷ []) d c (omega (arith, some)) (omega arith) (is ∙ ap (λ (k : ℕ). overwritten k (b ∷ []) d) same)

  kept_by_gate : (b : ℕ) (d c : List ℕ) → c ≡ overwritten p (b ∷ []) d → StandsThere was (area_at size place d) → StandsThere was (area_at size place c)
  kept_by_gate b d c is there = there_kept size place was new can 0 1 d c (omega (arith, some)) (torn_gate 1 d c (torn_written p (b ∷ []) d c is)) there

  -- a closed gate, where there is none: the write of it
  pub close_torn : (d c : List ℕ) → ((rest : List ℕ) → area_at size (other_place place) d ≡ 0 ∷ rest → ⊥) → IsBefore size place was d → Torn p 1 d c → IsBefore size place was c
  close_torn d c is_open before torn = before_torn size place was new can d c (omega (arith, some)) (torn_gate 1 d c torn) is_open before

  pub close_there : (d c : List ℕ) → IsBefore size place was d → c ≡ overwritten p (0 ∷ []) d → IsClosedBeside size place was c
  close_there d c before is = record {
    there = kept_by_gate 0 d c is (there_before size place was new can d before);
    closed = short_closed (area_at size (other_place place) d) (area_at size (other_place place) c) (written_gate 0 d c is);
  }

  -- or there is one
  pub close_looked : (d : List ℕ) → IsBefore size place was d → IsClosed (area_at size (other_place place) d) → IsClosedBeside size place was d
  close_looked d before closed = record { there = there_before size place was new can d before; closed = closed }

  pub closed_before : (c : List ℕ) → IsClosedBeside size place was c → IsBefore size place was c
  closed_before c is = before_closed size place was new can c is.there is.closed

  -- the write behind it
  pub body_torn : (n : ℕ) (d c : List ℕ) → 1 + n ≤ size → IsClosedBeside size place was d → Torn (p + 1) n d c → IsClosedBeside size place was c
  body_torn n d c within is torn =
      let now = torn_rest n d c torn in
      record {
        there = there_kept size place was new can 1 n d c within now is.there;
        closed = closed_torn n (area_at size (other_place place) d) (area_at size (other_place place) c) is.closed (torn_at size (other_place place) 1 n d c within now);
      }

  pub body_there : (records built d c : List ℕ) → 1 + length built ≤ size → built ≡ header.bytes (new.serial, new.image) ++ (records ++ 0 ∷ []) → IsSpelled new records → IsClosedBeside size place was d → c ≡ overwritten (p + 1) built d → IsShutBeside size place was new c
  body_there records built d c within is_built spelled is written =
      let same : p + 1 ≡ start_of size (other_place place) + 1 = omega (arith, at) in
      let area = overwritten_at size (other_place place) 1 built d c within (omega (arith, ap length is.closed.1)) (written ∙ ap (λ (k : ℕ). overwritten k built d) same) in
      record {
        there = there_kept size place was new can 1 (length built) d c within (torn_rest (length built) d c (torn_written (p + 1) built d c written)) is.there;
        records = records;
        spelled = spelled;
        headed = heads new records (area_at size (other_place place) d) (area_at size (other_place place) c) is.closed (area ∙ ap (λ (l : List ℕ). overwritten 1 l (area_at size (other_place place) d)) is_built);
      }

  pub shut_closed : (c : List ℕ) → IsShutBeside size place was new c → IsClosedBeside size place was c
  shut_closed c is = record { there = is.there; closed = (header.bytes (new.serial, new.image) ++ (is.records ++ 0 ∷ is.headed.0), is.headed.1) }

  -- the write of the open gate
  pub open_torn : (d c : List ℕ) → IsShutBeside size place was new d → Torn p 1 d c → IsBefore size place was c ⊎ IsJournalAt size (other_place place) new c
  open_torn d c is torn =
      let now = torn_gate 1 d c torn in
      let there = there_kept size place was new can 0 1 d c (omega (arith, some)) now is.there in
      ⊎_elim (λ closed. inl (before_closed size place was new can c there closed)) (λ stands. inr (new_current size place was new can c there stands))
      (headed_torn new is.records is.spelled (area_at size (other_place place) d) (area_at size (other_place place) c) is.headed (torn_at size (other_place place) 0 1 d c (omega (arith, some)) now))

  pub open_there : (d c : List ℕ) → IsShutBeside size place was new d → c ≡ overwritten p (1 ∷ []) d → IsJournalAt size (other_place place) new c
  open_there d c is written =
      new_current size place was new can c (kept_by_gate 1 d c written is.there)
      (headed_opens new is.records is.spelled (area_at size (other_place place) d) (area_at size (other_place place) c) is.headed (written_gate 1 d c written))

  -- what was there stands there still
  pub open_beside : (d c : List ℕ) → IsShutBeside size place was new d → c ≡ overwritten p (1 ∷ []) d → StandsThere was (area_at size place c)
  open_beside d c is written = kept_by_gate 1 d c written is.there
