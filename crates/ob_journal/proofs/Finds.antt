-- What a find answers, from what is read of the disk.
use Rattle.std.proofs.Common.{◌≡◌, Bool, ℕ, ℤ, ◌+◌, ◌-◌, ◌≤◌, ◌<◌, List, length, take, drop, length-take, length-drop, Err, sym, ◌∙◌, ap, subst, arith}
use Rattle.std.specs.Int.{w64}
use Rattle.std.specs.Int.RustNames.{FitsSigned}
use Rattle.ob_disk_spec.specs.Disk.{DiskView, Reads}
use Rattle.ob_disk_spec.specs.Durable.{May, Throughout, During}
use Rattle.ob_disk_spec.proofs.Moments.{throughout_to, throughout_may}
use Rattle.ob_journal_spec.specs.Areas.{Journaled, Records, AreaRepresents, IsDamaged}
use Rattle.ob_journal_spec.specs.Disks.{Place, area_at, start_of, IsJournalAt, IsBlankDisk, IsNoStoreDisk, IsDamagedDisk}
use Rattle.ob_journal_spec.proofs.DiskReading.{journal_at, damaged_at}
use Rattle.ob_journal.specs.Places.{place_in}
use Rattle.ob_journal.specs.Moments.{IsFresh, IsWhole}
use Rattle.ob_journal.specs.Heads.{IsCurrent, Chooses}
use Rattle.ob_journal.specs.Surveys.{IsRead, IsHeadedArea, HasPayloads, Surveys, record_bytes, plain, first_gate}
use Rattle.ob_journal.specs.declared.error.AreaFault.{AreaFault}
use Rattle.ob_journal.specs.declared.error.AreaFault.TheVariants.{NotStore, Damaged}
use Rattle.ob_journal.specs.declared.heads.Current.{Current}
use Rattle.ob_journal.specs.declared.heads.Current.TheVariants.{Nothing, NoStore, At}
use Rattle.ob_journal.specs.declared.place.AreaPlace.{AreaPlace}
use Rattle.ob_journal.specs.declared.recorded.Recorded.{Recorded}
use Rattle.ob_journal.specs.declared.records.ReadArea.{ReadArea}

-- what a read gives is what a crash leaves, also after a look that writes nothing
pub still_settled : (old new : DiskView) → Throughout old (Reads old) → During old new (May old) → new.content ≡ old.content → Throughout new (Reads new)
still_settled old new settled look same = throughout_to new _ _ look.now (λ c may. same ∙ throughout_may old (Reads old) settled c may)

-- nothing is found
pub found_blank : (old mid new : DiskView) → Throughout mid (Reads mid) → mid.content ≡ old.content → new.content ≡ mid.content → During mid new (May mid) → (size : ℕ) → ((c : List ℕ) → Reads mid c → IsBlankDisk size c) → IsFresh size new
found_blank old mid new settled one other look size blank = record { settled = still_settled mid new settled look other; blank = λ c reads. blank c (sym other ∙ reads) }

-- the offset at which the current area begins is within the disk
pub start_within : (size : ℕ) (place : Place) (closed : Bool) (c : List ℕ) → IsCurrent size place closed c → start_of size place ≤ length c
start_within size place closed c is =
    let some : 0 < length (area_at size place c) = omega (arith, ap length is.marked.is_open.is) in
    omega (arith, some, length-take size (drop (start_of size place) c), length-drop (start_of size place) c)

-- what was read of the current area, by its bytes
module _ (size start : ℕ) (place : Place) (at : start ≡ start_of size place) (closed : Bool) (bytes c : List ℕ) (is : bytes ≡ take size (drop start c)) (current : IsCurrent size place closed c) where
  area_is : bytes ≡ area_at size place c
  area_is = is ∙ ap (λ (n : ℕ). take size (drop n c)) at

  pub current_stands : (j : Journaled) → AreaRepresents j bytes → IsJournalAt size place j c
  current_stands j stands = journal_at size place current.serial current.marked.image j c current.marked.has current.older (subst (AreaRepresents j) area_is stands)

  pub current_damaged : (n : ℕ) → IsDamaged n bytes → IsDamagedDisk size (start + n) c
  current_damaged n damaged =
      let found = damaged_at size place current.serial current.marked.image n c current.marked.has current.older (subst (IsDamaged n) area_is damaged) in
      subst (λ (k : ℕ). IsDamagedDisk size (k + n) c) (sym at) found

  pub current_headed : IsHeadedArea bytes
  current_headed = subst IsHeadedArea (sym area_is) (current.marked.is_open, (current.serial, current.marked.image, current.marked.has))

  -- the same with the serial as the code has it
  pub current_read : (read : ReadArea) (serial : ℤ) (there : IsRead read bytes) → serial ≡ read.serial → IsJournalAt size place (record { serial = serial; image = read.image.items; payloads = there.payloads }) c
  current_read read serial there same =
      subst (λ (s : ℤ). IsJournalAt size place (record { serial = s; image = read.image.items; payloads = there.payloads }) c) (sym same) (current_stands (plain read there.payloads) there.stands)

-- the serial that was read fits its type
pub serial_fits : (read : ReadArea) (bytes : List ℕ) → IsRead read bytes → FitsSigned w64 read.serial
serial_fits read bytes there = there.stands.open_front.fits.1.0

-- the records that were read have the payloads
pub has_payloads : (read : ReadArea) (recorded : Recorded) (bytes items : List ℕ) (image : ℕ) (there : IsRead read bytes) → image ≡ length read.image.items → bytes ≡ items → record_bytes recorded ≡ take (read.gate - (17 + image)) (drop (17 + image) items) → HasPayloads recorded there.payloads
has_payloads read recorded bytes items image there counted same is =
    let whole : record_bytes recorded ≡ take (read.gate - first_gate read) (drop (first_gate read) bytes) =
    is ∙ ap (λ (n : ℕ). take (read.gate - (17 + n)) (drop (17 + n) items)) counted ∙ ap (λ (l : List ℕ). take (read.gate - first_gate read) (drop (first_gate read) l)) (sym same) in
    subst (Records there.payloads) (sym whole) there.records

-- why an area says nothing
pub not_headed : (f : AreaFault) (bytes : List ℕ) → f ≡ NotStore → Surveys (Err f) bytes → ¬ (IsHeadedArea bytes)
not_headed f bytes is said = let P : AreaFault → Type 0 = λ f. Surveys (Err f) bytes in subst P is said

pub is_damaged : (f : AreaFault) (offset : ℕ) (bytes : List ℕ) → f ≡ Damaged offset → Surveys (Err f) bytes → IsDamaged offset bytes
is_damaged f offset bytes is said = let P : AreaFault → Type 0 = λ f. Surveys (Err f) bytes in subst P is said

-- what is said of the bytes that are read holds of the disk and of each image, after a look that writes nothing
pub seen_throughout : (old new : DiskView) (P : List ℕ → Type 0) → Throughout old (Reads old) → During old new (May old) → new.content ≡ old.content → ((c : List ℕ) → Reads old c → P c) → Throughout new P
seen_throughout old new P settled look same seen = throughout_to new _ _ (still_settled old new settled look same) (λ c reads. seen c (sym same ∙ reads))

-- the disk and each image of it represent what was read
pub read_whole : (old new : DiskView) → Throughout old (Reads old) → During old new (May old) → new.content ≡ old.content → (size start : ℕ) (place : Place) (closed : Bool) → start ≡ start_of size place → ((c : List ℕ) → Reads old c → IsCurrent size place closed c)
    → (bytes : List ℕ) → ((c : List ℕ) → Reads old c → bytes ≡ take size (drop start c)) → (read : ReadArea) (serial : ℤ) (there : IsRead read bytes) → serial ≡ read.serial
    → IsWhole size place (record { serial = serial; image = read.image.items; payloads = there.payloads }) new
read_whole old new settled look same size start place closed at current bytes is read serial there number =
    seen_throughout old new (IsJournalAt size place (record { serial = serial; image = read.image.items; payloads = there.payloads })) settled look same
    (λ c reads. current_read size start place at closed bytes c (is c reads) (current c reads) read serial there number)

-- ---- which area is current

module _ (x : Current) (size : ℕ) (c : List ℕ) (said : Chooses size x c) where
  pub chosen_nothing : x ≡ Nothing → IsBlankDisk size c
  chosen_nothing is = let P : Current → Type 0 = λ x. Chooses size x c in subst P is said

  pub chosen_none : x ≡ NoStore → IsNoStoreDisk size c
  chosen_none is = let P : Current → Type 0 = λ x. Chooses size x c in subst P is said

  pub chosen_at : (place : AreaPlace) (closed : Bool) → x ≡ At place closed → IsCurrent size (place_in place) closed c
  chosen_at place closed is = let P : Current → Type 0 = λ x. Chooses size x c in subst P is said
