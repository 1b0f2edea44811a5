-- A store is opened: what is read of its journal, and what the disk represents.
use Rattle.std.proofs.Common.{◌≡◌, inl, inr, ◌⊎◌, ℕ, ◌+◌, ◌-◌, ◌≤◌, List, [], ◌∷◌, ◌++◌, length, All, Option, Some, option_map, Result, Ok, Err, IfOk, refl, sym, ◌∙◌, ap, subst, arith, append_assoc}
use Rattle.std.proofs.lemmas.List.{append-nil, length-map}
use Rattle.ob_table.specs.Tables.{ClassTable}
use Rattle.ob_disk_spec.specs.Disk.{DiskView}
use Rattle.ob_disk_spec.specs.Durable.{May, During}
use Rattle.ob_disk_spec.proofs.Moments.{during_to, during_then}
use Rattle.ob_heap.specs.Contents.{Stored, content_of, named_of}
use Rattle.ob_heap.specs.Deltas.{with_handles}
use Rattle.ob_heap.specs.Differences.{with_objects}
use Rattle.ob_heap.specs.Plain.{object_of}
use Rattle.ob_heap.specs.declared.delta.Delta.{Delta}
use Rattle.ob_heap_spec.specs.Contents.{Content, IsObject, IsContent, empty_content}
use Rattle.ob_journal_spec.specs.Areas.{Journaled, Records, next_gate, size_of}
use Rattle.ob_journal_spec.specs.Disks.{start_of, IsJournalAt, IsBlankDisk, IsBlankOrBegunDisk}
use Rattle.ob_journal_spec.specs.Differing.{DifferAt}
use Rattle.ob_journal_spec.proofs.Bytes.{length-records}
use Rattle.ob_journal.specs.Finding.{Finds, IsRead, IsFoundWith, IsFoundIn, FaultsAs as JournalFaultsAs}
use Rattle.ob_journal.specs.Moments.{IsFresh}
use Rattle.ob_journal.specs.declared.journal.Found.{Found}
use Rattle.ob_journal.specs.declared.journal.Found.TheVariants.{Blank, Current}
use Rattle.ob_journal.specs.Journals.{journaled, area_size, place_of, image_of, gate_of as gate_in, Holds, Begins}
use Rattle.ob_journal.specs.Rooms.{NeedsNoRoom}
use Rattle.ob_journal.specs.Surveys.{IsFirst, HasPayloads, record_bytes}
use Rattle.ob_journal.specs.declared.recorded.Recorded.{Recorded}
use Rattle.ob_journal.specs.declared.error.JournalError.{JournalError}
use Rattle.ob_journal.specs.declared.error.JournalError.TheVariants as of_journal
use Rattle.ob_journal.specs.declared.journal.Journal.{Journal}
use Rattle.ob_rest_spec.specs.AtRest.{IsStoreAtRest, first_failing_object}
use Rattle.ob_store_payload.specs.declared.error.PayloadError.{PayloadError}
use Rattle.ob_store_payload.specs.declared.error.PayloadError.TheVariants as of_payload
use Rattle.ob_store_spec.specs.Payloads.{Changes}
use Rattle.ob_store_spec.specs.Changes.{SaysChanges, LeadFrom, with_changes}
use Rattle.ob_store_spec.specs.Stores.{StoreProgram, IsStoreOf}
use Rattle.ob_store_laws.specs.Recorded.{changes_of, content_with}
use Rattle.ob_store.specs.Stores.{gate_of, serial_of, area_of_store, IsKeptAs, IsKeptIn, StandsOn}
use Rattle.ob_store.specs.Opening.{Opens, FaultsAs, refused_by, IndexesOrLacks, IsKeptContent, IsFollowed, Follows, IsFirstBad, Replays, first_gate, Rebuilds, BeginsStore, LacksArea, StaysUnlessBlank, StaysWithoutRoom}
use Rattle.ob_store.specs.Unchanged.{KeepsBytes}
use Rattle.ob_store.specs.declared.store.Store.{Store}
use Rattle.ob_store.specs.declared.error.OpenError.{OpenError}
use Rattle.ob_store.specs.declared.error.OpenError.TheVariants.{NotStore, Damaged, OtherProgram, NotAtRest, Room, DiskFault, Memory}
use Rattle.ob_owners.specs.Answers.{IsRestAnswer}
use Rattle.ob_owners.specs.declared.error.RestError.{RestError}
use Rattle.ob_owners.specs.declared.error.RestError.TheVariants as of_rest
use Rattle.ob_base.specs.Limits.{most_objects, most_handles}
use Rattle.ob_base.specs.declared.id.ObjectId.{ObjectId}
use Rattle.ob_store_laws.proofs.Keeping.{changes_keep_contents}
use Rattle.ob_store_laws.proofs.Made.{changes_are_made_as_deltas}
use Rattle.ob_store.proofs.Same.{same_by}
use Rattle.ob_store.proofs.Recording.{leads_more}
use Rattle.ob_store.proofs.Standing.{state_by, open_store_of}
use Rattle.ob_store.proofs.Unchanged.{kept_then, kept_fresh}

-- ---- the empty content

pub empty_of : (stored : Stored) → stored.objects ≡ [] → stored.handles ≡ [] → content_of stored ≡ empty_content
empty_of stored objects handles = same_by [] stored.objects [] stored.handles objects handles

empty_kept : (table : ClassTable) → IsKeptContent table empty_content
empty_kept table = record { is_content = record { objects = λ k d below. absurd (omega (arith, below)); handles = λ k d below. absurd (omega (arith, below)); order = λ i j d before below. absurd (omega (arith, below)) }; few_objects = omega arith; few_handles = omega arith }

pub kept_empty : (table : ClassTable) (content : Content) → content ≡ empty_content → IsKeptContent table content
kept_empty table content is = subst (λ (c : Content). IsKeptContent table c) (sym is) (empty_kept table)

pub rest_empty : (table : ClassTable) (content : Content) → content ≡ empty_content → IsStoreAtRest table content
rest_empty table content is =
    let none = empty_kept table in
    subst (λ (c : Content). IsStoreAtRest table c) (sym is) (record {
      is_content = none.is_content;
      at_rest = λ n below. absurd (omega (arith, below));
      few_objects = none.few_objects;
      few_handles = none.few_handles;
    })

-- ---- a payload is followed

pub followed : (table : ClassTable) (before after : Stored) (delta : Delta) (payload : List ℕ) → SaysChanges table (content_of before) (changes_of table delta) payload
    → All (λ e. IsObject table (content_with before delta).objects (object_of e.1)) delta.objects → IsKeptContent table (content_of before)
    → after.objects ≡ with_objects before.objects delta.objects → after.handles ≡ with_handles before.handles delta.handles
    → IsFollowed table (content_of before) payload (content_of after)
followed table before after delta payload says made kept objects handles =
    let changes = changes_of table delta in
    let same : content_of after ≡ content_with before delta =
    same_by (with_objects before.objects delta.objects) after.objects (with_handles before.handles delta.handles) after.handles objects handles in
    let leads : content_of after ≡ with_changes table (content_of before) changes = same ∙ sym (changes_are_made_as_deltas table before delta made) in
    record {
      changes = changes;
      says = says;
      leads = leads;
      kept = subst (λ (c : Content). IsKeptContent table c) (sym leads) (record {
        is_content = changes_keep_contents table (content_of before) changes kept.is_content says.are_changes;
        few_objects = says.are_changes.few_objects;
        few_handles = says.are_changes.few_handles;
      });
    }

pub not_followed : (table : ClassTable) (before after : Content) (payload : List ℕ) (r : Result Delta PayloadError) (e : PayloadError) → r ≡ Err e
    → (r ≡ Err of_payload.Bad → (changes : Changes) → ¬ (SaysChanges table before changes payload)) → Follows table before payload (Err e) after
not_followed table before after payload r of_payload.Bad is bad = bad is
not_followed table before after payload r of_payload.Memory is bad = tt

pub bad_payload : (table : ClassTable) (before after : Content) (payload : List ℕ) (e : PayloadError) → e ≡ of_payload.Bad → Follows table before payload (Err e) after
    → (changes : Changes) → ¬ (SaysChanges table before changes payload)
bad_payload table before after payload e is follows = let P : PayloadError → Type 0 = λ x. Follows table before payload (Err x) after in subst P is follows

-- ---- payloads are replayed

size_between : (ps qs : List (List ℕ)) (p : List ℕ) → size_of (ps ++ p ∷ qs) ≡ size_of ps + (5 + length p + size_of qs)
size_between [] qs p = omega arith
size_between (q ∷ ps) qs p = omega (arith, size_between ps qs p)

-- How far payloads were replayed: those before lead to the content, and the others are those of what is left.
pub record IsReplayed (table : ClassTable) (payloads : List (List ℕ)) (content : Content) (rest : List ℕ) : Type 0 where
  pub before : List (List ℕ)
  pub others : List (List ℕ)
  pub is : payloads ≡ before ++ others
  pub leads : LeadFrom table empty_content before content
  pub left : Records others rest

-- none of them was
pub replayed_none : (table : ClassTable) (payloads : List (List ℕ)) (content : Content) (records : List ℕ) → content ≡ empty_content → Records payloads records
    → IsReplayed table payloads content records
replayed_none table payloads content records none there = record { before = []; others = payloads; is = refl; leads = sym none; left = there }

-- all of them were
pub replayed_all : (table : ClassTable) (payloads : List (List ℕ)) (content : Content) (rest : List ℕ) (r : IsReplayed table payloads content rest) → r.others ≡ []
    → LeadFrom table empty_content payloads content
replayed_all table payloads content rest r none =
    subst (λ (ps : List (List ℕ)). LeadFrom table empty_content ps content) (sym (r.is ∙ ap (λ (ps : List (List ℕ)). r.before ++ ps) none ∙ append-nil r.before)) r.leads

module _ (table : ClassTable) (payloads : List (List ℕ)) (content : Content) (rest payload after : List ℕ) (r : IsReplayed table payloads content rest) (f : IsFirst payload after r.others) where
  split : payloads ≡ r.before ++ payload ∷ f.others
  split = r.is ∙ ap (λ (ps : List (List ℕ)). r.before ++ ps) f.is

  -- one more was
  pub replayed_more : (next : Content) → IsFollowed table content payload next → IsReplayed table payloads next after
  replayed_more next is = record {
    before = r.before ++ payload ∷ [];
    others = f.others;
    is = split ∙ sym (append_assoc r.before (payload ∷ []) f.others);
    leads = leads_more table empty_content content next r.before payload is.changes r.leads is.says (sym is.leads);
    left = f.behind;
  }

  -- this one is bad
  pub first_bad : (gate : ℕ) (records : List ℕ) → Records payloads records → ((changes : Changes) → ¬ (SaysChanges table content changes payload))
      → IsFirstBad table gate payloads (gate + (length records - length rest))
  first_bad gate records there none =
      let all : length records ≡ size_of payloads = length-records payloads records there in
      let left : length rest ≡ size_of r.others = length-records r.others rest r.left in
      record {
        before = r.before;
        bad = payload;
        after = f.others;
        is = split;
        content = content;
        content_is = r.leads;
        says_none = none;
        at = omega (arith, all, left, ap size_of split, ap size_of f.is, size_between r.before f.others payload);
      }

-- ---- a store is rebuilt

module _ (program : StoreProgram) (journal : Journal) (payloads : List (List ℕ)) where
  pub rebuilt_opens : (size : ℕ) (r : Result Store OpenError) (bytes : List ℕ) → Rebuilds program journal payloads r → area_size journal ≡ size
      → gate_in journal ≡ next_gate (journaled journal payloads) → IsJournalAt size (place_of journal) (journaled journal payloads) bytes → Opens program size r bytes
  rebuilt_opens size (Ok store) bytes is same gate stands =
      subst (λ (j : Option Journal). IsStoreOf program size bytes (state_by (content_of store.content) j)) (sym is.journal_is)
      (open_store_of program (content_of store.content) size (place_of journal) (journaled journal payloads) (gate_in journal) bytes is.kept is.at_rest.at_rest gate stands)
  rebuilt_opens size (Err NotStore) bytes is same gate stands = absurd is
  rebuilt_opens size (Err (Damaged offset)) bytes is same gate stands = inr (record {
    place = place_of journal;
    says = journaled journal payloads;
    stands = stands;
    image = is.0;
    before = is.1.before;
    bad = is.1.bad;
    after = is.1.after;
    payloads = is.1.is;
    content = is.1.content;
    content_is = is.1.content_is;
    says_none = is.1.says_none;
    at = omega (arith, is.1.at, ap (λ (n : ℕ). start_of n (place_of journal)) same);
  })
  rebuilt_opens size (Err (OtherProgram offset)) bytes is same gate stands = record { place = place_of journal; says = journaled journal payloads; stands = stands; differ = is }
  rebuilt_opens size (Err (NotAtRest object)) bytes is same gate stands = record {
    place = place_of journal;
    says = journaled journal payloads;
    content = is.content;
    opened = record { stands = stands; image = is.kept.image; content_is = is.kept.content_is };
    fails = is.fails;
  }
  rebuilt_opens size (Err (Room need limit)) bytes is same gate stands = absurd is
  rebuilt_opens size (Err DiskFault) bytes is same gate stands = absurd is
  rebuilt_opens size (Err Memory) bytes is same gate stands = tt

  pub rebuilt_calm : (r : Result Store OpenError) (before now : ℕ) → Rebuilds program journal payloads r → now ≡ before → FaultsAs r before now
  rebuilt_calm (Ok store) before now is same = same
  rebuilt_calm (Err NotStore) before now is same = same
  rebuilt_calm (Err (Damaged offset)) before now is same = same
  rebuilt_calm (Err (OtherProgram offset)) before now is same = same
  rebuilt_calm (Err (NotAtRest object)) before now is same = same
  rebuilt_calm (Err (Room need limit)) before now is same = same
  rebuilt_calm (Err DiskFault) before now is same = absurd is
  rebuilt_calm (Err Memory) before now is same = same

  pub rebuilt_lacks : (size : ℕ) (r : Result Store OpenError) → Rebuilds program journal payloads r → LacksArea program size r
  rebuilt_lacks size (Ok store) is = tt
  rebuilt_lacks size (Err NotStore) is = tt
  rebuilt_lacks size (Err (Damaged offset)) is = tt
  rebuilt_lacks size (Err (OtherProgram offset)) is = tt
  rebuilt_lacks size (Err (NotAtRest object)) is = tt
  rebuilt_lacks size (Err (Room need limit)) is = absurd is
  rebuilt_lacks size (Err DiskFault) is = tt
  rebuilt_lacks size (Err Memory) is = tt

  pub rebuilt_stays : (old new : DiskView) (r : Result Store OpenError) → Rebuilds program journal payloads r → KeepsBytes old new → StaysUnlessBlank program old new r
  rebuilt_stays old new (Ok store) is look = inr look
  rebuilt_stays old new (Err NotStore) is look = look
  rebuilt_stays old new (Err (Damaged offset)) is look = look
  rebuilt_stays old new (Err (OtherProgram offset)) is look = look
  rebuilt_stays old new (Err (NotAtRest object)) is look = look
  rebuilt_stays old new (Err (Room need limit)) is look = look
  rebuilt_stays old new (Err DiskFault) is look = tt
  rebuilt_stays old new (Err Memory) is look = tt

  pub rebuilt_area : (size : ℕ) (r : Result Store OpenError) → Rebuilds program journal payloads r → area_size journal ≡ size → IfOk r (λ store. area_of_store store ≡ Some size)
  rebuilt_area size (Ok store) is same = ap (option_map area_size) is.journal_is ∙ ap (λ (n : ℕ). Some n) same
  rebuilt_area size (Err e) is same = tt

  pub rebuilt_rests : (r : Result Store OpenError) → Rebuilds program journal payloads r → IfOk r (λ store. IsStoreAtRest program.table (content_of store.content))
  rebuilt_rests (Ok store) is = is.at_rest
  rebuilt_rests (Err e) is = tt

  pub rebuilt_stands : (r : Result Store OpenError) (v : DiskView) → Rebuilds program journal payloads r → Holds journal payloads v → IfOk r (λ store. StandsOn program store v)
  rebuilt_stands (Ok store) v is holds = record {
    owners = is.owners;
    kept = subst (λ (j : Option Journal). IsKeptIn program (content_of store.content) j v) (sym is.journal_is) (record { payloads = payloads; holds = holds; kept = is.kept });
  }
  rebuilt_stands (Err e) v is holds = tt

-- a content to which the records lead and their journal became a store
pub rebuilt_by : (program : StoreProgram) (journal : Journal) (payloads : List (List ℕ)) (content : Stored) (r : Result Store OpenError) → IndexesOrLacks program content journal r
    → IsKeptAs program (content_of content) (journaled journal payloads) → IsStoreAtRest program.table (content_of content) → Rebuilds program journal payloads r
rebuilt_by program journal payloads content (Ok store) is kept rests = record {
  journal_is = is.journal_is;
  kept = subst (λ (x : Stored). IsKeptAs program (content_of x) (journaled journal payloads)) (sym is.content_is) kept;
  at_rest = subst (λ (x : Stored). IsStoreAtRest program.table (content_of x)) (sym is.content_is) rests;
  owners = is.owners rests.is_content;
}
rebuilt_by program journal payloads content (Err e) is kept rests = subst (λ (x : OpenError). Rebuilds program journal payloads (Err x)) (sym is) tt

pub not_replayed : (program : StoreProgram) (journal : Journal) (payloads : List (List ℕ)) (e : OpenError) → Replays program.table (first_gate journal) payloads (Err e)
    → image_of journal ≡ program.image → Rebuilds program journal payloads (Err e)
not_replayed program journal payloads NotStore is image = absurd is
not_replayed program journal payloads (Damaged offset) is image = (image, is)
not_replayed program journal payloads (OtherProgram offset) is image = absurd is
not_replayed program journal payloads (NotAtRest object) is image = absurd is
not_replayed program journal payloads (Room need limit) is image = absurd is
not_replayed program journal payloads DiskFault is image = absurd is
not_replayed program journal payloads Memory is image = tt

pub not_rebuilt : (program : StoreProgram) (journal : Journal) (payloads : List (List ℕ)) (r : Result Stored OpenError) (e : OpenError) → r ≡ Err e
    → Replays program.table (first_gate journal) payloads r → image_of journal ≡ program.image → Rebuilds program journal payloads (Err e)
not_rebuilt program journal payloads r e is replays image =
    not_replayed program journal payloads e (subst (λ (x : Result Stored OpenError). Replays program.table (first_gate journal) payloads x) is replays) image

pub differ_so : (offset : ℕ) (a b x y : List ℕ) → a ≡ x → b ≡ y → DifferAt offset a b → DifferAt offset x y
differ_so offset a b x y one other is = subst (λ (l : List ℕ). DifferAt offset x l) other (subst (λ (l : List ℕ). DifferAt offset l b) one is)

pub few_kept : (table : ClassTable) (stored : Stored) → IsKeptContent table (content_of stored) → length stored.objects ≤ most_objects
few_kept table stored kept = omega (arith, length-map stored.objects object_of, kept.few_objects)

-- what is kept and has no object that fails is at rest
pub rests_kept : (table : ClassTable) (stored : Stored) → IsKeptContent table (content_of stored)
    → (IsContent table (content_of stored) → length stored.handles ≤ most_handles → IsStoreAtRest table (content_of stored)) → IsStoreAtRest table (content_of stored)
rests_kept table stored kept rests = rests kept.is_content (omega (arith, length-map stored.handles named_of, kept.few_handles))

pub fails_first : (table : ClassTable) (content : Content) (e : RestError) (id : ObjectId) → e ≡ of_rest.NotAtRest id → IsRestAnswer table content (Err e) → first_failing_object table content ≡ Some id.0
fails_first table content e id is answer = let P : RestError → Type 0 = λ x. IsRestAnswer table content (Err x) in subst P is answer

-- ---- a store is begun

module _ (program : StoreProgram) (size : ℕ) where
  pub begun_opens : (r : Result Store OpenError) (bytes : List ℕ) → BeginsStore program size r → IsBlankDisk size bytes → Opens program size r bytes
  begun_opens (Ok store) bytes is blank = inl (record {
    blank = blank;
    content = is.content;
    gate = ap gate_of is.journal_is ∙ is.gate;
    serial = ap serial_of is.journal_is ∙ ap (λ (j : Journaled). j.serial) is.says;
  })
  begun_opens (Err NotStore) bytes is blank = absurd is
  begun_opens (Err (Damaged offset)) bytes is blank = absurd is
  begun_opens (Err (OtherProgram offset)) bytes is blank = absurd is
  begun_opens (Err (NotAtRest object)) bytes is blank = absurd is
  begun_opens (Err (Room need limit)) bytes is blank = (blank, is.0, is.1, is.2)
  begun_opens (Err DiskFault) bytes is blank = tt
  begun_opens (Err Memory) bytes is blank = tt

  pub begun_area : (r : Result Store OpenError) → BeginsStore program size r → IfOk r (λ store. area_of_store store ≡ Some size)
  begun_area (Ok store) is = ap (option_map area_size) is.journal_is ∙ ap (λ (n : ℕ). Some n) is.area
  begun_area (Err e) is = tt

  pub begun_rests : (r : Result Store OpenError) → BeginsStore program size r → IfOk r (λ store. IsStoreAtRest program.table (content_of store.content))
  begun_rests (Ok store) is = rest_empty program.table (content_of store.content) is.content
  begun_rests (Err e) is = tt

  pub begun_lacks : (r : Result Store OpenError) → BeginsStore program size r → LacksArea program size r
  begun_lacks (Ok store) is = tt
  begun_lacks (Err NotStore) is = tt
  begun_lacks (Err (Damaged offset)) is = tt
  begun_lacks (Err (OtherProgram offset)) is = tt
  begun_lacks (Err (NotAtRest object)) is = tt
  begun_lacks (Err (Room need limit)) is = is
  begun_lacks (Err DiskFault) is = tt
  begun_lacks (Err Memory) is = tt

  pub begun_stays : (old mid new : DiskView) (r : Result Store OpenError) → BeginsStore program size r → KeepsBytes old mid → IsFresh size mid → StaysWithoutRoom mid new r
      → StaysUnlessBlank program old new r
  begun_stays old mid new (Ok store) is look fresh room = inl (record {
    content = is.content;
    gate = ap gate_of is.journal_is ∙ is.gate;
    serial = ap serial_of is.journal_is ∙ ap (λ (j : Journaled). j.serial) is.says;
  })
  begun_stays old mid new (Err NotStore) is look fresh room = absurd is
  begun_stays old mid new (Err (Damaged offset)) is look fresh room = absurd is
  begun_stays old mid new (Err (OtherProgram offset)) is look fresh room = absurd is
  begun_stays old mid new (Err (NotAtRest object)) is look fresh room = absurd is
  begun_stays old mid new (Err (Room need limit)) is look fresh room = kept_then old mid new look (kept_fresh size mid new fresh room)
  begun_stays old mid new (Err DiskFault) is look fresh room = tt
  begun_stays old mid new (Err Memory) is look fresh room = tt

  pub begun_not : (image : List ℕ) (e : JournalError) → Begins size image (Err e) → image ≡ program.image → BeginsStore program size (Err (refused_by e))
  begun_not image of_journal.NotStore is same = absurd is
  begun_not image (of_journal.Damaged offset) is same = absurd is
  begun_not image (of_journal.Room need limit) is same = (is.0 ∙ ap (λ (l : List ℕ). 18 + length l) same, is.1, is.2)
  begun_not image of_journal.DiskFault is same = tt
  begun_not image of_journal.Memory is same = tt

pub if_fresh : (r : Result Store OpenError) (F : Type 0) (P : Store → Type 0) → IfOk r (λ store. F → P store) → F → IfOk r P
if_fresh (Ok store) F P is fresh = is fresh
if_fresh (Err e) F P is fresh = tt

-- ---- what was found

pub blank_found : (size : ℕ) (f : Found) (bytes : List ℕ) → f ≡ Blank → Finds size (Ok f) bytes → IsBlankDisk size bytes
blank_found size f bytes is said = let P : Found → Type 0 = λ x. Finds size (Ok x) bytes in subst P is said

pub blank_in : (size : ℕ) (f : Found) (v : DiskView) → f ≡ Blank → IsFoundIn size f v → IsFresh size v
blank_in size f v is said = let P : Found → Type 0 = λ x. IsFoundIn size x v in subst P is said

pub current_in : (size : ℕ) (f : Found) (journal : Journal) (recorded : Recorded) (v : DiskView) → f ≡ Current journal recorded → IsFoundIn size f v → IsFoundWith size journal recorded v
current_in size f journal recorded v is said = let P : Found → Type 0 = λ x. IsFoundIn size x v in subst P is said

current_found : (size : ℕ) (f : Found) (journal : Journal) (recorded : Recorded) (bytes : List ℕ) → f ≡ Current journal recorded → Finds size (Ok f) bytes → IsRead size journal recorded bytes
current_found size f journal recorded bytes is said = let P : Found → Type 0 = λ x. Finds size (Ok x) bytes in subst P is said

-- the next gate is the same by all payloads that the records have
same_next : (journal : Journal) (recorded : Recorded) (ps qs : List (List ℕ)) → HasPayloads recorded ps → HasPayloads recorded qs → next_gate (journaled journal ps) ≡ next_gate (journaled journal qs)
same_next journal recorded ps qs has other =
    let one : length (record_bytes recorded) ≡ size_of ps = length-records ps (record_bytes recorded) has in
    let two : length (record_bytes recorded) ≡ size_of qs = length-records qs (record_bytes recorded) other in
    omega (arith, one, two)

-- a store that was rebuilt of what was found is what the disk represents
pub found_opens : (program : StoreProgram) (size : ℕ) (f : Found) (journal : Journal) (recorded : Recorded) (r : Result Store OpenError) (v : DiskView) (bytes : List ℕ) → f ≡ Current journal recorded
    → ((payloads : List (List ℕ)) → HasPayloads recorded payloads → Rebuilds program journal payloads r) → IsFoundIn size f v → Finds size (Ok f) bytes → Opens program size r bytes
found_opens program size f journal recorded r v bytes is rebuilt whole found =
    let there = current_in size f journal recorded v is whole in
    let read = current_found size f journal recorded bytes is found in
    rebuilt_opens program journal read.0 size r bytes (rebuilt read.0 read.1) there.area (there.holds.gate ∙ same_next journal recorded there.payloads read.0 there.has read.1) read.2

-- ---- no journal is found or begun

pub not_found : (program : StoreProgram) (size : ℕ) (e : JournalError) (bytes : List ℕ) → Finds size (Err e) bytes → Opens program size (Err (refused_by e)) bytes
not_found program size of_journal.NotStore bytes is = is
not_found program size (of_journal.Damaged offset) bytes is = inl is
not_found program size (of_journal.Room need limit) bytes is = absurd is
not_found program size of_journal.DiskFault bytes is = tt
not_found program size of_journal.Memory bytes is = tt

pub not_found_lacks : (program : StoreProgram) (size : ℕ) (e : JournalError) → NeedsNoRoom (Err e) → LacksArea program size (Err (refused_by e))
not_found_lacks program size of_journal.NotStore none = tt
not_found_lacks program size (of_journal.Damaged offset) none = tt
not_found_lacks program size (of_journal.Room need limit) none = absurd none
not_found_lacks program size of_journal.DiskFault none = tt
not_found_lacks program size of_journal.Memory none = tt

pub not_found_stays : (program : StoreProgram) (old new : DiskView) (e : JournalError) → KeepsBytes old new → StaysUnlessBlank program old new (Err (refused_by e))
not_found_stays program old new of_journal.NotStore look = look
not_found_stays program old new (of_journal.Damaged offset) look = look
not_found_stays program old new (of_journal.Room need limit) look = look
not_found_stays program old new of_journal.DiskFault look = tt
not_found_stays program old new of_journal.Memory look = tt

pub faults_as : (T : Type 0) (e : JournalError) (before now : ℕ) → JournalFaultsAs {T = T} (Err e) before now → FaultsAs {T = Store} (Err (refused_by e)) before now
faults_as T of_journal.NotStore before now is = is
faults_as T (of_journal.Damaged offset) before now is = is
faults_as T (of_journal.Room need limit) before now is = is
faults_as T of_journal.DiskFault before now is = is
faults_as T of_journal.Memory before now is = is

-- ---- what a crash leaves

-- nothing is written
pub unwritten : (old new : DiskView) (size : ℕ) (image : List ℕ) → During old new (May old) → During old new (λ c. May old c ⊎ IsBlankOrBegunDisk size image c)
unwritten old new size image look = during_to old new _ _ look (λ c may. inl may)

-- an area is begun behind a look
pub begun_behind : (old mid new : DiskView) (size : ℕ) (image : List ℕ) → During old mid (May old) → During mid new (IsBlankOrBegunDisk size image)
    → During old new (λ c. May old c ⊎ IsBlankOrBegunDisk size image c)
begun_behind old mid new size image look start = during_then old mid new _ (unwritten old mid size image look) (during_to mid new _ _ start (λ c is. inr is))
