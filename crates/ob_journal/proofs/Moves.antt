-- A journal moves into its other area.
use Rattle.std.proofs.Common.{◌≡◌, Bool, false, ℕ, ℤ, ◌+◌, ◌≤◌, ◌<◌, ◌^◌, List, [], ◌∷◌, ◌++◌, length, Some, refl, sym, ◌∙◌, ap, subst, arith, length-append}
use Rattle.std.proofs.Common.{◌-◌, negsuc, w64, FitsSigned, to_z, of_z}
use Rattle.std.specs.Prelude.{pos, ◌+ℤ◌, ◌≤ℤ◌, ◌<ℤ◌}
use Rattle.std.proofs.lemmas.Int.{ints}
use Rattle.std.proofs.Math.Facts.{to_z-of_z}
use Rattle.ob_disk_spec.specs.Disk.{DiskView, WrittenOver}
use Rattle.ob_disk_spec.specs.Durable.{Throughout}
use Rattle.ob_disk_spec.proofs.Moments.{throughout_to}
use Rattle.ob_journal_spec.specs.Spellings.{sized, header}
use Rattle.ob_journal_spec.specs.Areas.{Journaled}
use Rattle.ob_journal_spec.specs.Disks.{Place, first, second, other_place, start_of, area_at, moved}
use Rattle.ob_journal_spec.specs.Lasting.{last_serial}
use Rattle.ob_journal_spec.proofs.Beginning.{moved_spelled}
use Rattle.ob_journal_spec.proofs.DiskBuilding.{moved_follows, stands_open}
use Rattle.ob_journal_spec.proofs.Spelled.{length-sized, length-header}
use Rattle.ob_journal.specs.Moments.{IsHeld, LooksClosed}
use Rattle.ob_journal.specs.Places.{place_in}
use Rattle.ob_journal.specs.declared.place.AreaPlace.{AreaPlace}
use Rattle.ob_journal.specs.Opening.{Opening, IsOpening, IsNew, IsReady, AreaOver}

-- how long what is written for a move is
pub area_length : (serial : ℤ) (image payload built : List ℕ) → built ≡ header.bytes (serial, image) ++ 1 ∷ (sized.bytes payload ++ 0 ∷ []) → length built ≡ 22 + length image + length payload
area_length serial image payload built is =
    omega (arith, ap (λ (l : List ℕ). length l) is, length-append (header.bytes (serial, image)) (1 ∷ (sized.bytes payload ++ 0 ∷ [])), length-header serial image, length-append (sized.bytes payload) (0 ∷ []), length-sized payload)

twice : (place : Place) → other_place (other_place place) ≡ place
twice first = refl
twice second = refl

-- what is opened for a move
abbrev pub move_opening : ℕ → Place → Journaled → List ℕ → Opening
move_opening size place j payload = record { size = size; place = place; was = Some j; new = moved j payload }

module _ (size : ℕ) (place : Place) (j : Journaled) (payload built : List ℕ) (at : ℕ) (start : at ≡ start_of size (other_place place)) (small : size ≤ 2 ^ 31) (left : j.serial <ℤ last_serial) (from_one : pos 1 ≤ℤ j.serial) (within : 23 + length j.image + length payload ≤ size) (is : built ≡ header.bytes (j.serial +ℤ pos 1, j.image) ++ 1 ∷ (sized.bytes payload ++ 0 ∷ [])) where
  pub move_opens : IsOpening (move_opening size place j payload) at built
  move_opens = record {
    start = record { is = start; some = omega (arith, within); follows = moved_follows place j payload };
    within = omega (arith, within, area_length (j.serial +ℤ pos 1) j.image payload built is);
    records = 1 ∷ sized.bytes payload;
    spelled = moved_spelled j payload left from_one (omega (arith, within, small)) (omega (arith, within, small), refl);
    is = is;
  }

module _ (size : ℕ) (place : Place) (j : Journaled) (payload : List ℕ) where
  pub move_ready : (closed : Bool) (v : DiskView) → IsHeld size place j closed v → Throughout v (IsReady (move_opening size place j payload) closed)
  move_ready closed v held = record {
    content = λ c reads. record { before = held.whole.content c reads; looks = held.other.content c reads };
    images = λ c left. record { before = held.whole.images c left; looks = held.other.images c left };
  }

  -- the area that was left begins with no closed gate
  pub move_held : (v : DiskView) → Throughout v (IsNew (move_opening size place j payload)) → IsHeld size (other_place place) (moved j payload) false v
  move_held v now = record {
    whole = throughout_to v _ _ now (λ c is. is.new);
    other = throughout_to v _ _ now (λ c is.
        subst (λ (p : Place). LooksClosed false (area_at size p c)) (sym (twice place)) (stands_open j (area_at size place c) is.there));
  }

-- the same of where it is held by an equal place
pub held_there : (size : ℕ) (place other : Place) (j : Journaled) (closed : Bool) (v : DiskView) → other ≡ place → IsHeld size place j closed v → IsHeld size other j closed v
held_there size place other j closed v same held = subst (λ (p : Place). IsHeld size p j closed v) (sym same) held

-- the same bytes at the same offset
pub over_there : (closed : Bool) (olds : List ℕ → Type 0) (at to : ℕ) (built bytes : List ℕ) (w : DiskView) → at ≡ to → built ≡ bytes → Throughout w (AreaOver closed olds at built) → Throughout w (AreaOver closed olds to bytes)
over_there closed olds at to built bytes w same is put =
    subst (λ (n : ℕ). Throughout w (AreaOver closed olds n bytes)) same (subst (λ (l : List ℕ). Throughout w (AreaOver closed olds at l)) is put)

pub appended_there : (olds : List ℕ → Type 0) (at to : ℕ) (built bytes : List ℕ) (w : DiskView) → at ≡ to → built ≡ bytes → Throughout w (WrittenOver (WrittenOver olds (at + 1) built) at (1 ∷ [])) → Throughout w (WrittenOver (WrittenOver olds (to + 1) bytes) to (1 ∷ []))
appended_there olds at to built bytes w same is put =
    subst (λ (n : ℕ). Throughout w (WrittenOver (WrittenOver olds (n + 1) bytes) n (1 ∷ []))) same
    (subst (λ (l : List ℕ). Throughout w (WrittenOver (WrittenOver olds (at + 1) l) at (1 ∷ []))) is put)

-- the next serial, as it is computed
this_fits : (s : ℤ) → s <ℤ last_serial → pos 1 ≤ℤ s → FitsSigned w64 s
this_fits (pos n) less from = let small : n < 2 ^ 63 - 1 = omega (arith, ints, less) in omega (arith, small)
this_fits (negsuc n) less from = absurd (omega (arith, ints, from))

next_fits : (s : ℤ) → s <ℤ last_serial → pos 1 ≤ℤ s → FitsSigned w64 (s +ℤ pos 1)
next_fits (pos n) less from = let small : n < 2 ^ 63 - 1 = omega (arith, ints, less) in omega (arith, small)
next_fits (negsuc n) less from = absurd (omega (arith, ints, from))

pub next_read : (s : ℤ) → s <ℤ last_serial → pos 1 ≤ℤ s → to_z w64 (of_z w64 (to_z w64 (of_z w64 s) +ℤ pos 1)) ≡ s +ℤ pos 1
next_read s less from = ap (λ (x : ℤ). to_z w64 (of_z w64 (x +ℤ pos 1))) (to_z-of_z (this_fits s less from)) ∙ to_z-of_z (next_fits s less from)

-- what is held, by an equal serial
pub held_serial : (size : ℕ) (place : Place) (j : Journaled) (payload : List ℕ) (z : ℤ) (closed : Bool) (v : DiskView) → z ≡ j.serial +ℤ pos 1 → IsHeld size place (moved j payload) closed v → IsHeld size place (record { serial = z; image = j.image; payloads = payload ∷ [] }) closed v
held_serial size place j payload z closed v same held =
    subst (λ (x : ℤ). IsHeld size place (record { serial = x; image = j.image; payloads = payload ∷ [] }) closed v) (sym same) held

-- where the other area begins
pub other_start_is : (size : ℕ) (place : Place) (other : AreaPlace) (start : ℕ) → place_in other ≡ other_place place → start ≡ start_of size (place_in other) → start ≡ start_of size (other_place place)
other_start_is size place other start same is = is ∙ ap (start_of size) same
