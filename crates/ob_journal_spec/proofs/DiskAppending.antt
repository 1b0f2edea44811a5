-- An append: what each of its two writes makes of a disk.
use Rattle.std.proofs.Common.{◌≡◌, inl, inr, ⊎_elim, ℕ, ◌+◌, ◌≤◌, ◌<◌, List, [], ◌∷◌, ◌++◌, length, drop, refl, sym, ◌∙◌, ap, subst, arith, length-append, length-take}
use Rattle.ob_disk_spec.specs.Disk.{Torn, overwritten}
use Rattle.ob_journal_spec.specs.Spellings.{sized}
use Rattle.ob_journal_spec.specs.Areas.{Journaled, next_gate, with_payload}
use Rattle.ob_journal_spec.specs.Disks.{Place, other_place, start_of, area_at, IsOlder, IsJournalAt, IsWithOrWithout}
use Rattle.ob_journal_spec.proofs.Bytes.{length-front}
use Rattle.ob_journal_spec.proofs.Appending.{Staged, kept_behind, stages, opens_torn, opens, gate_within}
use Rattle.ob_journal_spec.proofs.Beside.{torn_written, torn_at, overwritten_at, other_same}

-- the record stands whole behind the closed gate of the current area
pub record IsStagedAt (size : ℕ) (place : Place) (j : Journaled) (payload bytes : List ℕ) : Type 0 where
  pub staged : Staged j payload (area_at size place bytes)
  pub older : IsOlder place j.serial (area_at size (other_place place) bytes)

-- the bytes of an area are within its size
area_within : (size : ℕ) (place : Place) (c : List ℕ) → length (area_at size place c) ≤ size
area_within size place c = omega (arith, length-take size (drop (start_of size place) c))

module _ (size : ℕ) (place : Place) (j : Journaled) (payload : List ℕ) (gate : ℕ) (at : gate ≡ start_of size place + next_gate j) where
  -- the offsets of the two writes
  torn_body : (n : ℕ) (d c : List ℕ) → Torn (gate + 1) n d c → Torn (start_of size place + (next_gate j + 1)) n d c
  torn_body n d c torn = let same : gate + 1 ≡ start_of size place + (next_gate j + 1) = omega (arith, at) in subst (λ (k : ℕ). Torn k n d c) same torn

  written_body : (built d c : List ℕ) → c ≡ overwritten (gate + 1) built d → c ≡ overwritten (start_of size place + (next_gate j + 1)) built d
  written_body built d c is = let same : gate + 1 ≡ start_of size place + (next_gate j + 1) = omega (arith, at) in is ∙ ap (λ (k : ℕ). overwritten k built d) same

  some_staged : (c : List ℕ) → Staged j payload (area_at size place c) → next_gate j + 1 ≤ length (area_at size place c)
  some_staged c was = omega (arith, ap length was.is, length-append was.front (0 ∷ (sized.bytes payload ++ 0 ∷ was.behind)), length-front j was.front was.open_front)

  -- the write behind the gate
  pub body_kept : (n : ℕ) (d c : List ℕ) → next_gate j + 1 + n ≤ size → IsJournalAt size place j d → Torn (gate + 1) n d c → IsJournalAt size place j c
  body_kept n d c within was torn =
      let now = torn_body n d c torn in
      let some = gate_within j payload (next_gate j) refl (area_at size place d) was.current in
      record {
        current = kept_behind j payload (next_gate j) refl n (area_at size place d) (area_at size place c) was.current (torn_at size place (next_gate j + 1) n d c within now);
        older = subst (IsOlder place j.serial) (sym (other_same size place (next_gate j + 1) n d c within (omega (arith, some)) now)) was.older;
      }

  pub body_staged : (built d c : List ℕ) → next_gate j + 1 + length built ≤ size → sized.fits payload → built ≡ sized.bytes payload ++ 0 ∷ [] → IsJournalAt size place j d → c ≡ overwritten (gate + 1) built d → IsStagedAt size place j payload c
  body_staged built d c within fits is_built was is =
      let some = gate_within j payload (next_gate j) refl (area_at size place d) was.current in
      let now = torn_body (length built) d c (torn_written (gate + 1) built d c is) in
      record {
        staged = stages j payload (next_gate j) refl built (area_at size place d) (area_at size place c) fits is_built was.current (overwritten_at size place (next_gate j + 1) built d c within some (written_body built d c is));
        older = subst (IsOlder place j.serial) (sym (other_same size place (next_gate j + 1) (length built) d c within (omega (arith, some)) now)) was.older;
      }

  -- the write of the gate
  pub gate_torn : (d c : List ℕ) → IsStagedAt size place j payload d → Torn gate 1 d c → IsWithOrWithout size place j payload c
  gate_torn d c was torn =
      let some = some_staged d was.staged in
      let within : next_gate j + 1 ≤ size = omega (arith, some, area_within size place d) in
      let now = subst (λ (k : ℕ). Torn k 1 d c) at torn in
      let older = subst (IsOlder place j.serial) (sym (other_same size place (next_gate j) 1 d c within (omega (arith, some)) now)) was.older in
      ⊎_elim (λ stands. inl (record { current = stands; older = older })) (λ stands. inr (record { current = stands; older = older }))
      (opens_torn j payload (next_gate j) refl (area_at size place d) (area_at size place c) was.staged (torn_at size place (next_gate j) 1 d c within now))

  pub gate_opens : (d c : List ℕ) → IsStagedAt size place j payload d → c ≡ overwritten gate (1 ∷ []) d → IsJournalAt size place (with_payload j payload) c
  gate_opens d c was is =
      let some = some_staged d was.staged in
      let within : next_gate j + 1 ≤ size = omega (arith, some, area_within size place d) in
      let now = subst (λ (k : ℕ). Torn k 1 d c) at (torn_written gate (1 ∷ []) d c is) in
      record {
        current = opens j payload (next_gate j) refl (area_at size place d) (area_at size place c) was.staged
            (overwritten_at size place (next_gate j) (1 ∷ []) d c within (omega (arith, some)) (is ∙ ap (λ (k : ℕ). overwritten k (1 ∷ []) d) at));
        older = subst (IsOlder place j.serial) (sym (other_same size place (next_gate j) 1 d c within (omega (arith, some)) now)) was.older;
      }

  -- the other area's bytes stay in both
  pub append_beside : (built d m c : List ℕ) → next_gate j + 1 + length built ≤ size → IsJournalAt size place j d → m ≡ overwritten (gate + 1) built d → c ≡ overwritten gate (1 ∷ []) m → area_at size (other_place place) c ≡ area_at size (other_place place) d
  append_beside built d m c within was body opened =
      let some = gate_within j payload (next_gate j) refl (area_at size place d) was.current in
      let one = torn_body (length built) d m (torn_written (gate + 1) built d m body) in
      let two = subst (λ (k : ℕ). Torn k 1 m c) at (torn_written gate (1 ∷ []) m c opened) in
      let still : 0 < length (area_at size place m) = omega (arith, some, (torn_at size place (next_gate j + 1) (length built) d m within one).no_shorter) in
      other_same size place (next_gate j) 1 m c (omega (arith, within)) still two ∙ other_same size place (next_gate j + 1) (length built) d m within (omega (arith, some)) one
