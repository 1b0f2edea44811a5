-- Each disk of bytes represents a store, or is refused.
use Rattle.std.proofs.Common.{◌≡◌, ◌⊎◌, inl, inr, ℕ, suc, ◌<◌, ◌≤◌, pos, List, [], ◌∷◌, ◌++◌, length, take, drop, Option, Some, None, refl, sym, ◌∙◌, ap, subst, arith, take-append-drop}
use Rattle.std.proofs.lemmas.Bool.{cases_lt}
use Rattle.ob_base.specs.Bytes.{u32_bytes}
use Rattle.ob_table.specs.Tables.{ClassTable}
use Rattle.ob_format_spec.specs.Combinators.{Each}
use Rattle.ob_format_spec.specs.Formats.{done, stop, Spells}
use Rattle.ob_format_spec.specs.Lawful.{AreBytes, first}
use Rattle.ob_format_spec.proofs.CombinatorLaws.{rest_bytes, Case, is_done, is_stop, case_of, done_parts}
use Rattle.ob_format_spec.proofs.Failing.{whole, reads}
use Rattle.ob_heap_spec.specs.Contents.{Content, empty_content}
use Rattle.ob_rest_spec.specs.AtRest.{first_failing_object}
use Rattle.ob_rest_spec.proofs.FirstFailing.{told}
use Rattle.ob_journal_spec.specs.Spellings.{sized, header}
use Rattle.ob_journal_spec.specs.Areas.{Journaled, Records, AreaRepresents, next_gate, begun}
use Rattle.ob_journal_spec.specs.Disks.{Place, start_of, area_at, IsJournalAt, IsBlankDisk, IsNoStoreDisk, IsDamagedDisk}
use Rattle.ob_journal_spec.specs.Differing.{DifferAt}
use Rattle.ob_journal_spec.proofs.Complete as journal
use Rattle.ob_store_spec.specs.Payloads.{Changes, payload}
use Rattle.ob_store_spec.specs.Changes.{AreChangesOf, SaysChanges, LeadFrom, with_changes}
use Rattle.ob_store_spec.specs.Stores.{StoreProgram, StoreState, IsStoreOf, IsRefused, StoreRefusal, not_store, damaged, other_program, not_at_rest}
use Rattle.ob_store_spec.proofs.PayloadLaws.{payload_lawful}
use Rattle.ob_store_spec.proofs.Sayings.{one_spelled}
use Rattle.ob_store_spec.proofs.Leading.{one_store}
use Rattle.ob_store_spec.proofs.Refusing.{one_refusal, never_both}
use Rattle.ob_service_laws.specs.Disks.{IsOneStore, IsOneRefusal}
use Rattle.ob_service_laws.proofs.Deciding.{Decided}
use Rattle.ob_service_laws.proofs.Stored.{changes_decided}

-- ---- where images differ

same_or_not : (m n : ℕ) → (m ≡ n) ⊎ (¬ (m ≡ n))
same_or_not m n = by (cases_lt m n) (cases_lt n m)
  where
    by : (m < n) ⊎ (n ≤ m) → (n < m) ⊎ (m ≤ n) → (m ≡ n) ⊎ (¬ (m ≡ n))
    by (inl less) other = inr (λ e. omega (arith, less, e))
    by (inr least) (inl more) = inr (λ e. omega (arith, more, e))
    by (inr least) (inr most) = inl (omega (arith, least, most))

-- two rows of bytes are the same, or differ somewhere
abbrev SameOrDiffer : List ℕ → List ℕ → Type 0
SameOrDiffer xs ys = (xs ≡ ys) ⊎ ((n : ℕ) × DifferAt n xs ys)

differ_here : (xs ys : List ℕ) → ¬ (first xs ≡ first ys) → SameOrDiffer xs ys
differ_here xs ys apart = inr (0, record { within_one = omega arith; within_other = omega arith; before = refl; at = apart })

differ_later : (x y : ℕ) (xs ys : List ℕ) → x ≡ y → SameOrDiffer xs ys → SameOrDiffer (x ∷ xs) (y ∷ ys)
differ_later x y xs ys same (inl rest) = inl (ap (λ (b : ℕ). b ∷ xs) same ∙ ap (λ (l : List ℕ). y ∷ l) rest)
differ_later x y xs ys same (inr (n, d)) = inr (
  suc n,
  record {
    within_one = let w = d.within_one in omega (arith, w);
    within_other = let w = d.within_other in omega (arith, w);
    before = ap (λ (b : ℕ). b ∷ take n xs) same ∙ ap (λ (l : List ℕ). y ∷ l) d.before;
    at = d.at;
  },
)

heads_apart : (x y : ℕ) → ¬ (x ≡ y) → Some x ≡ Some y → ⊥
heads_apart x y other e = other (let same : x ≡ y = cc in same)

differ_by : (x y : ℕ) (xs ys : List ℕ) → (x ≡ y) ⊎ (¬ (x ≡ y)) → SameOrDiffer xs ys → SameOrDiffer (x ∷ xs) (y ∷ ys)
differ_by x y xs ys (inl same) rest = differ_later x y xs ys same rest
differ_by x y xs ys (inr other) rest = differ_here (x ∷ xs) (y ∷ ys) (heads_apart x y other)

one_ends : (y : ℕ) → None ≡ Some y → ⊥
one_ends y e = cc

other_ends : (x : ℕ) → Some x ≡ None → ⊥
other_ends x e = cc

same_or_differ : (xs ys : List ℕ) → SameOrDiffer xs ys
same_or_differ [] [] = inl refl
same_or_differ [] (y ∷ ys) = differ_here [] (y ∷ ys) (one_ends y)
same_or_differ (x ∷ xs) [] = differ_here (x ∷ xs) [] (other_ends x)
same_or_differ (x ∷ xs) (y ∷ ys) = differ_by x y xs ys (same_or_not x y) (same_or_differ xs ys)

-- ---- bytes of payloads

front_bytes : (front rest : List ℕ) → AreBytes (front ++ rest) → AreBytes front
front_bytes [] rest all = tt
front_bytes (b ∷ bs) rest all = (all.0, front_bytes bs rest all.1)

area_bytes : (size : ℕ) (place : Place) (bytes : List ℕ) → AreBytes bytes → AreBytes (area_at size place bytes)
area_bytes size place bytes all =
    let start = start_of size place in
    let behind = rest_bytes (take start bytes) (drop start bytes) (subst AreBytes (sym (take-append-drop start bytes)) all) in
    front_bytes (take size (drop start bytes)) (drop size (drop start bytes)) (subst AreBytes (sym (take-append-drop size (drop start bytes))) behind)

payload_bytes : (payloads : List (List ℕ)) (bytes : List ℕ) → AreBytes bytes → Records payloads bytes → Each AreBytes payloads
payload_bytes [] bytes all is = tt
payload_bytes (p ∷ payloads) bytes all (gate, rest, some, fits, is, more) =
    let record_bytes = subst AreBytes is all in
    (rest_bytes (u32_bytes (length p)) p (front_bytes (sized.bytes p) rest record_bytes.1), payload_bytes payloads rest (rest_bytes (sized.bytes p) rest record_bytes.1) more)

area_payloads : (j : Journaled) (area : List ℕ) → AreBytes area → AreaRepresents j area → Each AreBytes j.payloads
area_payloads j area all stands =
    let f = stands.open_front in
    let front = front_bytes stands.front (0 ∷ stands.behind) (subst AreBytes stands.is all) in
    payload_bytes j.payloads f.records (rest_bytes (header.bytes (j.serial, j.image)) f.records (subst AreBytes f.is front).1) f.payloads

-- ---- what payloads lead to

module _ (table : ClassTable) where
  -- a payload says changes of a content, or says none
  abbrev SaysOrNot : Content → List ℕ → Type 0
  SaysOrNot content p = ((changes : Changes) × SaysChanges table content changes p) ⊎ ((changes : Changes) → ¬ (SaysChanges table content changes p))

  says_if : (content : Content) (p : List ℕ) (changes : Changes) → Spells (payload table) changes p → Decided (AreChangesOf table content changes) → SaysOrNot content p
  says_if content p changes spelled (inl are) = inl (changes, record { are_changes = are; spelled = spelled })
  says_if content p changes spelled (inr none) = inr (λ other says. none (subst (AreChangesOf table content) (one_spelled table other changes p says.spelled spelled) says.are_changes))

  says_or_not : (content : Content) (p : List ℕ) → AreBytes p → SaysOrNot content p
  says_or_not content p all = by (case_of ((payload table).read p))
    where
      by : Case ((payload table).read p) → SaysOrNot content p
      by (is_done changes [] e) =
          let spelled = whole (payload table) (payload_lawful table) p all changes e in
          says_if content p changes spelled (changes_decided table content changes spelled.fits)
      by (is_done changes (b ∷ rest) e) = inr (λ other says.
          let parts = done_parts changes other (b ∷ rest) [] (sym e ∙ reads (payload table) (payload_lawful table) other p says.spelled) in
          let none : b ∷ rest ≡ [] = parts.1 in cc)
      by (is_stop left e) = inr (λ other says.
          let none : stop left ≡ done other [] = sym e ∙ reads (payload table) (payload_lawful table) other p says.spelled in cc)

  -- payloads of which one says nothing of the content to which those before it lead
  record HasBad (start : Content) (payloads : List (List ℕ)) : Type 0 where
    before : List (List ℕ)
    bad : List ℕ
    after : List (List ℕ)
    content : Content
    is : payloads ≡ before ++ bad ∷ after
    leads : LeadFrom table start before content
    none : (changes : Changes) → ¬ (SaysChanges table content changes bad)

  abbrev LeadOrBad : Content → List (List ℕ) → Type 0
  LeadOrBad start payloads = ((end : Content) × LeadFrom table start payloads end) ⊎ HasBad start payloads

  behind_one : (start : Content) (p : List ℕ) (payloads : List (List ℕ)) (changes : Changes) → SaysChanges table start changes p → LeadOrBad (with_changes table start changes) payloads → LeadOrBad start (p ∷ payloads)
  behind_one start p payloads changes says (inl (end, leads)) = inl (end, (changes, says, leads))
  behind_one start p payloads changes says (inr bad) = inr (record {
    before = p ∷ bad.before;
    bad = bad.bad;
    after = bad.after;
    content = bad.content;
    is = ap (λ (l : List (List ℕ)). p ∷ l) bad.is;
    leads = (changes, says, bad.leads);
    none = bad.none;
  })

  lead_by : (start : Content) (p : List ℕ) (payloads : List (List ℕ)) → SaysOrNot start p → ((next : Content) → LeadOrBad next payloads) → LeadOrBad start (p ∷ payloads)
  lead_by start p payloads (inl (changes, says)) later = behind_one start p payloads changes says (later (with_changes table start changes))
  lead_by start p payloads (inr none) later = inr (record { before = []; bad = p; after = payloads; content = start; is = refl; leads = refl; none = none })

  lead_or_bad : (start : Content) (payloads : List (List ℕ)) → Each AreBytes payloads → LeadOrBad start payloads
  lead_or_bad start [] all = inl (start, refl)
  lead_or_bad start (p ∷ payloads) all = lead_by start p payloads (says_or_not start p all.0) (λ next. lead_or_bad next payloads all.1)

-- ---- disks

module _ (program : StoreProgram) (size : ℕ) (bytes : List ℕ) where
  abbrev IsEither : Type 0
  IsEither = IsOneStore program size bytes ⊎ IsOneRefusal program size bytes

  as_store : (s : StoreState) → IsStoreOf program size bytes s → IsEither
  as_store s represents = inl (record {
    store = s;
    represents = represents;
    only = λ t other. one_store program size bytes t s other represents;
    not_refused = λ r refused. never_both program size bytes r s refused represents;
  })

  as_refused : (r : StoreRefusal) → IsRefused program size bytes r → IsEither
  as_refused r refused = inr (record {
    refusal = r;
    refused = refused;
    only = λ q other. one_refusal program size bytes q r other refused;
    no_store = λ s represents. never_both program size bytes r s refused represents;
  })

  module _ (place : Place) (j : Journaled) (stands : IsJournalAt size place j bytes) where
    by_rest : j.image ≡ program.image → (content : Content) → LeadFrom program.table empty_content j.payloads content → (o : Option ℕ) → first_failing_object program.table content ≡ o → IsEither
    by_rest same content leads None rests =
        as_store (record { content = content; gate = next_gate j; serial = j.serial }) (inr (record {
          place = place;
          says = j;
          opened = record { stands = stands; image = same; content_is = leads };
          at_rest = (told program.table content).0 rests;
          gate = refl;
          serial = refl;
        }))
    by_rest same content leads (Some object) fails =
        as_refused (not_at_rest object) (record { place = place; says = j; content = content; opened = record { stands = stands; image = same; content_is = leads }; fails = fails })

    by_payloads : j.image ≡ program.image → LeadOrBad program.table empty_content j.payloads → IsEither
    by_payloads same (inl (content, leads)) = by_rest same content leads (first_failing_object program.table content) refl
    by_payloads same (inr bad) = as_refused (damaged _) (inr (record {
      place = place;
      says = j;
      stands = stands;
      image = same;
      before = bad.before;
      bad = bad.bad;
      after = bad.after;
      payloads = bad.is;
      content = bad.content;
      content_is = bad.leads;
      says_none = bad.none;
      at = refl;
    }))

    by_image : AreBytes bytes → SameOrDiffer j.image program.image → IsEither
    by_image all (inl same) = by_payloads same (lead_or_bad program.table empty_content j.payloads (area_payloads j (area_at size place bytes) (area_bytes size place bytes all) stands.current))
    by_image all (inr (offset, differ)) = as_refused (other_program offset) (record { place = place; says = j; stands = stands; differ = differ })

  by_finding : AreBytes bytes → IsBlankDisk size bytes ⊎ (IsNoStoreDisk size bytes ⊎ (((n : ℕ) × IsDamagedDisk size n bytes) ⊎ ((p : Place) × (j : Journaled) × IsJournalAt size p j bytes))) → IsEither
  by_finding all (inl blank) =
      as_store (record { content = empty_content; gate = next_gate (begun program.image); serial = pos 1 }) (inl (record { blank = blank; content = refl; gate = refl; serial = refl }))
  by_finding all (inr (inl none)) = as_refused not_store none
  by_finding all (inr (inr (inl (offset, is)))) = as_refused (damaged offset) (inl is)
  by_finding all (inr (inr (inr (place, j, stands)))) = by_image place j stands all (same_or_differ j.image program.image)

  pub each_disk : AreBytes bytes → IsEither
  each_disk all = by_finding all (journal.each_disk size bytes all)
