-- A record is put on a disk: what each of the two writes leaves.
use Rattle.std.proofs.Common.{◌≡◌, inl, Bool, ℕ, ◌+◌, ◌≤◌, ◌^◌, List, [], ◌∷◌, ◌++◌, length, refl, sym, ap, subst, arith, length-append}
use Rattle.ob_disk_spec.specs.Disk.{DiskView, Reads, WrittenOver}
use Rattle.ob_disk_spec.specs.Durable.{Throughout, During, TornFrom}
use Rattle.ob_disk_spec.proofs.Moments.{throughout_to, throughout_may, during_to, during_then}
use Rattle.ob_journal_spec.specs.Spellings.{sized}
use Rattle.ob_journal_spec.specs.Areas.{Journaled, with_payload, next_gate}
use Rattle.ob_journal_spec.specs.Disks.{Place, start_of, IsWithOrWithout}
use Rattle.ob_journal_spec.proofs.DiskAppending.{IsStagedAt, body_kept, body_staged, gate_torn, gate_opens, append_beside}
use Rattle.ob_journal_spec.proofs.Spelled.{length-sized}
use Rattle.ob_journal.specs.Moments.{IsHeld, IsAppend, LooksClosed}

module _ (size : ℕ) (place : Place) (j : Journaled) (closed : Bool) (payload : List ℕ) (gate : ℕ) (built : List ℕ) (is : IsAppend size place j payload gate built) (v : DiskView) (was : IsHeld size place j closed v) where
  -- the write behind the gate
  pub body_during : (w : DiskView) → During v w (TornFrom v (gate + 1) (length built)) → During v w (IsWithOrWithout size place j payload)
  body_during w put = during_to v w _ _ put (λ c a. inl (body_kept size place j payload gate is.at (length built) a.0 c is.within (throughout_may v _ was.whole a.0 a.1) a.2))

  module _ (w : DiskView) (put : Throughout w (WrittenOver (Reads v) (gate + 1) built)) where
    staged : Throughout w (IsStagedAt size place j payload)
    staged = throughout_to w _ _ put (λ c a. body_staged size place j payload gate is.at built a.0 c is.within is.fits is.is (was.whole.content a.0 a.1) a.2)

    -- the write of the gate
    pub both_during : (x : DiskView) → During v w (TornFrom v (gate + 1) (length built)) → During w x (TornFrom w gate 1) → During v x (IsWithOrWithout size place j payload)
    both_during x one other = during_then v w x _ (body_during w one) (during_to w x _ _ other (λ c a. gate_torn size place j payload gate is.at a.0 c (throughout_may w _ staged a.0 a.1) a.2))

    pub both_held : (x : DiskView) → Throughout x (WrittenOver (Reads w) gate (1 ∷ [])) → IsHeld size place (with_payload j payload) closed x
    both_held x other = record {
      whole = throughout_to x _ _ other (λ c a. gate_opens size place j payload gate is.at a.0 c (staged.content a.0 a.1) a.2);
      other = throughout_to x _ _ other (λ c a.
          let b = put.content a.0 a.1 in
          let same = append_beside size place j payload gate is.at built b.0 a.0 c is.within (was.whole.content b.0 b.1) b.2 a.2 in
          subst (LooksClosed closed) (sym same) (was.other.content b.0 b.1));
    }

-- what was built appends
pub appends : (size : ℕ) (place : Place) (j : Journaled) (payload built : List ℕ) (start gate : ℕ) → start ≡ start_of size place → gate ≡ next_gate j → size ≤ 2 ^ 31 → gate + 6 + length payload ≤ size → built ≡ sized.bytes payload ++ 0 ∷ [] → IsAppend size place j payload (start + gate) built
appends size place j payload built start gate at next small within is = record {
  at = omega (arith, at, next);
  within = omega (arith, next, within, ap (λ (l : List ℕ). length l) is, length-append (sized.bytes payload) (0 ∷ []), length-sized payload);
  fits = (omega (arith, small, within), refl);
  is = is;
}

-- how long it is
pub record_length : (payload built : List ℕ) → built ≡ sized.bytes payload ++ 0 ∷ [] → length built ≡ 5 + length payload
record_length payload built is = omega (arith, ap (λ (l : List ℕ). length l) is, length-append (sized.bytes payload) (0 ∷ []), length-sized payload)
