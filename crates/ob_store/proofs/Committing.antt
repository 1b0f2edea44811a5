-- How a store goes from one content to another.
use Rattle.std.proofs.Common.{◌≡◌, inl, inr, ◌⊎◌, ⊎_elim, ℕ, ℤ, ◌+◌, ◌<◌, ◌≤◌, ◌&&◌, T, Bool, true, false, nat_lt, nat_le, int_lt, if◌then◌else◌, List, [], ◌∷◌, length, Option, Some, None, option_map, Result, Ok, Err, refl, sym, ◌∙◌, ap, subst, arith}
use Rattle.std.proofs.lemmas.Bool.Decides.{nat_tests}
use Rattle.ob_disk_spec.specs.Disk.{DiskView}
use Rattle.ob_heap.specs.Contents.{content_of}
use Rattle.ob_heap.specs.Deltas.{IsDelta}
use Rattle.ob_heap.specs.declared.delta.Delta.{Delta}
use Rattle.ob_heap_spec.specs.Contents.{Content, empty_content}
use Rattle.ob_journal_spec.specs.Areas.{Journaled, begun, next_gate, with_payload}
use Rattle.ob_journal_spec.specs.Disks.{other_place, moved}
use Rattle.ob_journal_spec.specs.Lasting.{last_serial}
use Rattle.ob_journal.specs.Journals.{journaled, area_size, place_of, image_of, gate_of as gate_in}
use Rattle.ob_journal.specs.declared.journal.Journal.{Journal}
use Rattle.ob_journal_spec.proofs.Bytes.{next_more}
use Rattle.ob_rest_spec.specs.AtRest.{IsAtRest}
use Rattle.ob_store_spec.specs.Changes.{LeadFrom}
use Rattle.ob_store_spec.specs.Between.{changes_between}
use Rattle.ob_store_spec.specs.Settling.{say_nothing, settled, needed, payload_between, payload_of_all, gate_after_one, may_move, with_record, with_move}
use Rattle.ob_store_spec.specs.Stores.{StoreProgram, StoreState}
use Rattle.ob_store_laws.specs.Laws.{IsSaid}
use Rattle.ob_store_laws.specs.Recorded.{content_with}
use Rattle.ob_store.specs.Stores.{area_of_store, state_of, kept_of, HasImageIn, HasImage, IsKeptAs, IsKeptIn}
use Rattle.ob_store.specs.Writing.{IsWritten, payloads_with}
use Rattle.ob_store.specs.Preparing.{delta_prepared, IsRecordIn, IsBuiltFor, payload_for, SaysWhatDiffers, IsPrepared, LacksRoom, CannotMove, BuildsWhatDiffers, Prepares}
use Rattle.ob_store.specs.Committing.{StandsBeforeOrAfter, HoldsIn, IsWrittenTo, payloads_in, StandsIn}
use Rattle.ob_store.specs.declared.error.PrepareError.{PrepareError}
use Rattle.ob_store.specs.declared.error.PrepareError.TheVariants.{Room, Memory}
use Rattle.ob_store.specs.declared.store.Store.{Store}
use Rattle.ob_store.specs.declared.store.Prepared.{Prepared}
use Rattle.ob_store.specs.declared.writing.BuiltChange.{BuiltChange}
use Rattle.ob_store.specs.declared.writing.BuiltChange.TheVariants.{Append, Move}
use Rattle.ob_store.proofs.Same.{same_parts}
use Rattle.ob_store.proofs.Recording.{leads_more, nothing_differs, bytes_say}
use Rattle.ob_store.proofs.Standing.{state_by, open_store_of, unsome_number}

-- ---- what is written

-- the payload of what is written, where anything is
abbrev pub payload_in : StoreProgram → Content → Content → Option BuiltChange → List ℕ
payload_in program before after None = []
payload_in program before after (Some r) = payload_for program before after r

pub record_in : (program : StoreProgram) (before after : Content) (j : Option Journal) (b : Option BuiltChange) → SaysWhatDiffers program j before after b
    → IsRecordIn j (payload_in program before after b) b
record_in program before after j None says = tt
record_in program before after None (Some r) says = let no : ⊥ = cc in absurd no
record_in program before after (Some j) (Some r) says = says.1

-- where nothing is, there is no record
pub no_record : (j : Option Journal) (b : Option BuiltChange) → IsBuiltFor j b → (option_map area_size j ≡ None) ⊎ (b ≡ None) → b ≡ None
no_record j None built nothing = refl
no_record None (Some x) built nothing = absurd built.1
no_record (Some i) (Some x) built (inl none) = let no : ⊥ = cc in absurd no
no_record (Some i) (Some x) built (inr none) = none

same_size : (i k : Journal) (p : List ℕ) (r : BuiltChange) → IsWritten i p r k → area_size k ≡ area_size i
same_size i k p (Append b) is = is.same.area
same_size i k p (Move b) is = is.same.area

same_image : (i k : Journal) (p : List ℕ) (r : BuiltChange) → IsWritten i p r k → image_of k ≡ image_of i
same_image i k p (Append b) is = is.same.image
same_image i k p (Move b) is = is.same.image

pub area_written : (j k : Option Journal) (p : List ℕ) (b : Option BuiltChange) → IsWrittenTo j p b k → option_map area_size k ≡ option_map area_size j
area_written j k p None written = ap (option_map area_size) written
area_written None k p (Some x) written = absurd written
area_written (Some i) None p (Some x) written = absurd written
area_written (Some i) (Some k) p (Some x) written = ap (λ (n : ℕ). Some n) (same_size i k p x written)

-- ---- what is kept

module _ (program : StoreProgram) (before after : Content) (said : IsSaid program.table before after (changes_between program.table before after))
    (all : LeadFrom program.table empty_content (payload_of_all program after ∷ []) after) where
  -- the payloads lead to the content after
  leads_with : (payloads : List (List ℕ)) (r : BuiltChange) → LeadFrom program.table empty_content payloads before
      → LeadFrom program.table empty_content (payloads_with payloads (payload_for program before after r) r) after
  leads_with payloads (Append b) leads =
      leads_more program.table empty_content before after payloads (payload_between program before after) (changes_between program.table before after) leads
      (bytes_say program.table before after (payload_between program before after) said refl) said.leads
  leads_with payloads (Move b) leads = all

  -- where nothing is written
  kept_still : (j : Journaled) → IsKeptAs program before j → say_nothing (changes_between program.table before after) ≡ true → IsKeptAs program after j
  kept_still j kept none = subst (λ (x : Content). IsKeptAs program x j) (nothing_differs program.table before after said none) kept

  pub kept_after : (j k : Option Journal) (b : Option BuiltChange) (v w : DiskView) → SaysWhatDiffers program j before after b → IsWrittenTo j (payload_in program before after b) b k
      → ((payloads : List (List ℕ)) → HoldsIn j payloads v → HoldsIn k (payloads_in payloads (payload_in program before after b) b) w)
      → IsKeptIn program before j v → IsKeptIn program after k w
  kept_after None k None v w says written holds kept = subst (λ (x : Option Journal). IsKeptIn program after x w) (sym written) tt
  kept_after None k (Some r) v w says written holds kept = absurd written
  kept_after (Some j) k None v w says written holds kept =
      let P : Option Journal → Type 0 = λ x. HoldsIn x kept.payloads w → IsKeptIn program after x w in
      let here : P (Some j) = λ held. record { payloads = kept.payloads; holds = held; kept = kept_still (journaled j kept.payloads) kept.kept says } in
      subst P (sym written) here (holds kept.payloads kept.holds)
  kept_after (Some j) None (Some r) v w says written holds kept = absurd written
  kept_after (Some j) (Some k) (Some r) v w says written holds kept = record {
    payloads = payloads_with kept.payloads (payload_for program before after r) r;
    holds = holds kept.payloads kept.holds;
    kept = record { image = same_image j k (payload_for program before after r) r written ∙ kept.kept.image; content_is = leads_with kept.payloads r kept.kept.content_is };
  }

-- the payloads with which a journal is held, where there is one
abbrev pub payloads_of : (program : StoreProgram) (content : Content) (j : Option Journal) (v : DiskView) → IsKeptIn program content j v → List (List ℕ)
payloads_of program content None v kept = []
payloads_of program content (Some j) v kept = kept.payloads

pub held : (program : StoreProgram) (content : Content) (j : Option Journal) (v : DiskView) (kept : IsKeptIn program content j v) → HoldsIn j (payloads_of program content j v kept) v
held program content None v kept = tt
held program content (Some j) v kept = kept.holds

-- ---- what becomes of a store

fits_so : (m n : ℕ) → m ≤ n → nat_le m n ≡ true
fits_so m n within = grind (arith, nat_tests)

fits_not : (m n : ℕ) → n < m → nat_le m n ≡ false
fits_not m n past = grind (arith, nat_tests)

below_so : (m n : ℕ) → m < n → nat_lt m n ≡ true
below_so m n below = grind (arith, nat_tests)

below_not : (m n : ℕ) → n ≤ m → nat_lt m n ≡ false
below_not m n past = grind (arith, nat_tests)

is_true : (b : Bool) → T b → b ≡ true
is_true true t = refl
is_true false t = absurd t

second_fails : (a b : Bool) → b ≡ false → (a && b) ≡ false
second_fails true b is = is
second_fails false b is = refl

-- what becomes of a store by a record
abbrev pub state_with : StoreProgram → Content → StoreState → Content → BuiltChange → StoreState
state_with program before s after (Append b) = with_record s (payload_between program before after) after
state_with program before s after (Move b) = with_move program s (payload_of_all program after) after

module _ (program : StoreProgram) (before after : Content) (j : Journal) (image : image_of j ≡ program.image) where
  abbrev s : StoreState
  s = state_by before (Some j)

  abbrev bytes : List ℕ
  bytes = payload_between program before after

  abbrev all : List ℕ
  all = payload_of_all program after

  abbrev size : ℕ
  size = area_size j

  -- whether something differs; whether it fits; whether all does
  abbrev by_tests : Bool → Bool → Bool → Result StoreState (ℕ × ℕ)
  by_tests nothing fits moves =
      if nothing then Ok (record s { content = after })
      else if fits then Ok (with_record s bytes after) else if moves then Ok (with_move program s all after) else Err (needed s bytes, size)

  tested : (p q r : Bool) → say_nothing (changes_between program.table before after) ≡ p → nat_le (needed s bytes) size ≡ q → may_move program size s all ≡ r
      → settled program (Some size) s after ≡ by_tests p q r
  tested p q r a b c =
      ap (λ (x : Bool). by_tests x (nat_le (needed s bytes) size) (may_move program size s all)) a ∙ ap (λ (x : Bool). by_tests p x (may_move program size s all)) b
      ∙ ap (λ (x : Bool). by_tests p q x) c

  -- the next gate of the other area, by the journal's image
  one_gate : next_gate (with_payload (begun (image_of j)) all) ≡ gate_after_one program all
  one_gate = ap (λ (l : List ℕ). next_gate (with_payload (begun l) all)) image

  pub settles_to : (r : BuiltChange) → SaysWhatDiffers program (Some j) before after (Some r) → settled program (Some size) s after ≡ Ok (state_with program before s after r)
  settles_to (Append b) says = tested false true (may_move program size s all) says.0 (fits_so (needed s bytes) size says.1.within) refl
  settles_to (Move b) says =
      let moves : may_move program size s all ≡ true =
      ap (λ (x : Bool). x && nat_lt (gate_after_one program all) size) (is_true (int_lt s.serial last_serial) says.1.serial.lt)
      ∙ below_so (gate_after_one program all) size (omega (arith, one_gate, says.1.within)) in
      tested false false true says.0 (fits_not (needed s bytes) size says.2) moves

  pub settles_still : say_nothing (changes_between program.table before after) ≡ true → settled program (Some size) s after ≡ Ok (state_by after (Some j))
  settles_still none = tested true (nat_le (needed s bytes) size) (may_move program size s all) none refl refl

  cannot : CannotMove j all → may_move program size s all ≡ false
  cannot (inl less) = second_fails (int_lt s.serial last_serial) (nat_lt (gate_after_one program all) size) (below_not (gate_after_one program all) size (omega (arith, one_gate, less)))
  cannot (inr last) = ap (λ (z : ℤ). int_lt z last_serial && nat_lt (gate_after_one program all) size) last

  -- there is no room for it
  pub settles_not : (need n : ℕ) → LacksRoom program j before after need n → CannotMove j all → settled program (Some size) s after ≡ Err (need, n)
  settles_not need n lacks fixed =
      let short_by : ℕ → ℕ → Result StoreState (ℕ × ℕ) = λ m n. Err (m, n) in
      let past : size < needed s bytes = omega (arith, lacks.area, lacks.needed, lacks.lacks) in
      tested false false false lacks.some (fits_not (needed s bytes) size past) (cannot fixed)
      ∙ ap (λ (m : ℕ). short_by m size) (sym lacks.needed) ∙ ap (λ (m : ℕ). short_by need m) (sym lacks.area)

  -- what was written says the same of it as what becomes of it
  written_so : (k : Journal) (r : BuiltChange) → IsWritten j (payload_for program before after r) r k → state_with program before s after r ≡ state_by after (Some k)
  written_so k (Append b) is = same_parts after after (gate_in k) (s.gate + 5 + length bytes) (journaled k []).serial s.serial refl (sym is.gate) (sym is.serial)
  written_so k (Move b) is =
      same_parts after after (gate_in k) (gate_after_one program all) (journaled k []).serial (with_move program s all after).serial refl
      (omega (arith, one_gate, is.gate)) (sym is.serial)

pub settles : (program : StoreProgram) (before after : Content) (j k : Option Journal) (b : Option BuiltChange) → HasImageIn program j → SaysWhatDiffers program j before after b
    → IsWrittenTo j (payload_in program before after b) b k → settled program (option_map area_size j) (state_by before j) after ≡ Ok (state_by after k)
settles program before after None k None image says written = subst (λ (x : Option Journal). settled program None (state_by before None) after ≡ Ok (state_by after x)) (sym written) refl
settles program before after None k (Some r) image says written = absurd written
settles program before after (Some j) k None image says written =
    subst (λ (x : Option Journal). settled program (Some (area_size j)) (state_by before (Some j)) after ≡ Ok (state_by after x)) (sym written) (settles_still program before after j image says)
settles program before after (Some j) None (Some r) image says written = absurd written
settles program before after (Some j) (Some k) (Some r) image says written =
    settles_to program before after j image r says ∙ ap (λ (t : StoreState). Ok t) (written_so program before after j image k r written)

settles_some : (program : StoreProgram) (before after : Content) (j : Option Journal) (b : Option BuiltChange) → HasImageIn program j → SaysWhatDiffers program j before after b
    → (t : StoreState) × (settled program (option_map area_size j) (state_by before j) after ≡ Ok t)
settles_some program before after None b image says = (state_by after None, refl)
settles_some program before after (Some j) None image says = (state_by after (Some j), settles_still program before after j image says)
settles_some program before after (Some j) (Some r) image says = (state_with program before (state_by before (Some j)) after r, settles_to program before after j image r says)

-- what was made ready leads on
pub prepared_settles : (program : StoreProgram) (store : Store) (prepared : Prepared) → IsPrepared program store prepared
    → (t : StoreState) × (settled program (area_of_store store) (state_of store) (content_with (kept_of store) (delta_prepared prepared)) ≡ Ok t)
prepared_settles program store prepared is =
    settles_some program (content_of store.content) (content_with store.content prepared.delta) store.journal prepared.built is.image is.says

-- ---- what is made ready

module _ (program : StoreProgram) (store : Store) (delta : Delta) (image : HasImage program store) (is_delta : IsDelta store.content delta) where
  prepared_of : (built : Option BuiltChange) → SaysWhatDiffers program store.journal (content_of store.content) (content_with store.content delta) built
      → IsPrepared program store (record { delta = delta; built = built })
  prepared_of built says = record {
    image = image;
    delta = is_delta;
    built = (payload_in program (content_of store.content) (content_with store.content delta) built, record_in program (content_of store.content) (content_with store.content delta) store.journal built says);
    says = says;
  }

  -- in memory nothing is written
  pub prepared_in_memory : store.journal ≡ None → Prepares program store delta (Ok (record { delta = delta; built = None }))
  prepared_in_memory none =
      let P : Option Journal → Type 0 = λ j. SaysWhatDiffers program j (content_of store.content) (content_with store.content delta) None in
      let here : P None = refl in (refl, prepared_of None (subst P (sym none) here))

  module _ (journal : Journal) (is : store.journal ≡ Some journal) where
    pub prepared_by_record : (r : Result (Option BuiltChange) PrepareError) (built : Option BuiltChange) → r ≡ Ok built
        → BuildsWhatDiffers program journal (content_of store.content) (content_with store.content delta) r → Prepares program store delta (Ok (record { delta = delta; built = built }))
    prepared_by_record r built ok builds =
        let says : SaysWhatDiffers program (Some journal) (content_of store.content) (content_with store.content delta) built =
        subst (λ (x : Result (Option BuiltChange) PrepareError). BuildsWhatDiffers program journal (content_of store.content) (content_with store.content delta) x) ok builds in
        (refl, prepared_of built (subst (λ (j : Option Journal). SaysWhatDiffers program j (content_of store.content) (content_with store.content delta) built) (sym is) says))

    lacks_both : (need size : ℕ) → BuildsWhatDiffers program journal (content_of store.content) (content_with store.content delta) (Err (Room need size))
        → settled program (area_of_store store) (state_of store) (content_with store.content delta) ≡ Err (need, size)
    lacks_both need size builds =
        let there : image_of journal ≡ program.image = subst (λ (j : Option Journal). HasImageIn program j) is image in
        subst (λ (j : Option Journal). settled program (option_map area_size j) (state_by (content_of store.content) j) (content_with store.content delta) ≡ Err (need, size)) (sym is)
        (settles_not program (content_of store.content) (content_with store.content delta) journal there need size builds.0 builds.1)

    pub not_prepared : (r : Result (Option BuiltChange) PrepareError) (e : PrepareError) → r ≡ Err e
        → BuildsWhatDiffers program journal (content_of store.content) (content_with store.content delta) r → Prepares program store delta (Err e)
    not_prepared r (Room need size) not builds =
        lacks_both need size (subst (λ (x : Result (Option BuiltChange) PrepareError). BuildsWhatDiffers program journal (content_of store.content) (content_with store.content delta) x) not builds)
    not_prepared r Memory not builds = tt

-- ---- what a crash leaves

module _ (program : StoreProgram) (before after : Content) (said : IsSaid program.table before after (changes_between program.table before after))
    (all : LeadFrom program.table empty_content (payload_of_all program after ∷ []) after) (was : IsAtRest program.table before) (will : IsAtRest program.table after) where
  -- the disk represents the journal as it was
  left_before : (j : Journal) (v : DiskView) (c : List ℕ) (kept : IsKeptIn program before (Some j) v) → StandsIn (Some j) kept.payloads [] None c
      → StandsBeforeOrAfter program (area_size j) (state_by before (Some j)) after c
  left_before j v c kept stands =
      inl (open_store_of program before (area_size j) (place_of j) (journaled j kept.payloads) (gate_in j) c kept.kept was kept.holds.gate stands)

  left_by : (j : Journal) (r : BuiltChange) (v : DiskView) (c : List ℕ) (kept : IsKeptIn program before (Some j) v) → SaysWhatDiffers program (Some j) before after (Some r)
      → StandsIn (Some j) kept.payloads (payload_for program before after r) (Some r) c → StandsBeforeOrAfter program (area_size j) (state_by before (Some j)) after c
  left_by j (Append b) v c kept says left =
      let p = payload_between program before after in
      let s = state_by before (Some j) in
      let next = with_payload (journaled j kept.payloads) p in
      let gate : s.gate + 5 + length p ≡ next_gate next = omega (arith, kept.holds.gate, next_more (journaled j kept.payloads) p) in
      ⊎_elim (left_before j v c kept) (λ stands. inr (
        with_record s p after,
        settles_to program before after j kept.kept.image (Append b) says,
        open_store_of program after (area_size j) (place_of j) next (s.gate + 5 + length p) c
            (record { image = kept.kept.image; content_is = leads_with program before after said all kept.payloads (Append b) kept.kept.content_is }) will gate stands,
      )) left
  left_by j (Move b) v c kept says left =
      let p = payload_of_all program after in
      let s = state_by before (Some j) in
      let next = moved (journaled j kept.payloads) p in
      let gate : gate_after_one program p ≡ next_gate next = sym (one_gate program before after j kept.kept.image) in
      ⊎_elim (left_before j v c kept) (λ stands. inr (
        with_move program s p after,
        settles_to program before after j kept.kept.image (Move b) says,
        open_store_of program after (area_size j) (other_place (place_of j)) next (gate_after_one program p) c
            (record { image = kept.kept.image; content_is = all }) will gate stands,
      )) left

  pub leaves : (j : Option Journal) (b : Option BuiltChange) (size : ℕ) (v : DiskView) (kept : IsKeptIn program before j v) → SaysWhatDiffers program j before after b
      → option_map area_size j ≡ Some size → (c : List ℕ) → StandsIn j (payloads_of program before j v kept) (payload_in program before after b) b c
      → StandsBeforeOrAfter program size (state_by before j) after c
  leaves None b size v kept says area c left = let none : ⊥ = cc in absurd none
  leaves (Some j) None size v kept says area c left =
      let P : ℕ → Type 0 = λ n. StandsBeforeOrAfter program n (state_by before (Some j)) after c in
      subst P (unsome_number (area_size j) size area) (left_before j v c kept left)
  leaves (Some j) (Some r) size v kept says area c left =
      let P : ℕ → Type 0 = λ n. StandsBeforeOrAfter program n (state_by before (Some j)) after c in
      subst P (unsome_number (area_size j) size area) (left_by j r v c kept says left)
