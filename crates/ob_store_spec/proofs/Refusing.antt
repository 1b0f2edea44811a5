-- A disk is refused for one cause at most, and for none where it represents a store.
use Rattle.std.proofs.Common.{◌≡◌, ◌⊎◌, inl, inr, ℕ, zero, suc, ◌<◌, ◌≤◌, List, [], ◌∷◌, ◌++◌, length, take, drop, Option, Some, None, refl, sym, ◌∙◌, ap, subst, arith}
use Rattle.std.proofs.lemmas.Bool.{cases_lt}
use Rattle.ob_format_spec.specs.Lawful.{first}
use Rattle.ob_table.specs.Tables.{ClassTable}
use Rattle.ob_heap_spec.specs.Contents.{Content, empty_content}
use Rattle.ob_rest_spec.specs.AtRest.{first_failing_object}
use Rattle.ob_rest_spec.proofs.FirstFailing.{told}
use Rattle.ob_journal_spec.specs.Areas.{Journaled, size_of}
use Rattle.ob_journal_spec.specs.Disks.{Place, start_of, IsJournalAt}
use Rattle.ob_journal_spec.specs.Differing.{DifferAt}
use Rattle.ob_journal_spec.proofs.UniqueDisks.{one_journal, one_damage_disk, journal_or_damaged_disk, blank_or_journal, blank_or_damaged_disk, blank_or_no_store_disk, no_store_or_journal, no_store_or_damaged_disk}
use Rattle.ob_store_spec.specs.Payloads.{Changes}
use Rattle.ob_store_spec.specs.Changes.{SaysChanges, LeadFrom, with_changes}
use Rattle.ob_store_spec.specs.Stores.{StoreProgram, StoreState, IsStoreOf, IsOpened, IsOtherProgram, IsBadPayload, IsNotAtRest, StoreRefusal, not_store, damaged, other_program, not_at_rest, IsRefused}
use Rattle.ob_store_spec.proofs.Leading.{one_saying, one_content}

-- ---- payloads of which one says nothing

module _ (table : ClassTable) where
  -- where payloads lead on, the one behind a front of them says something
  through : (start end mid : Content) (before after : List (List ℕ)) (bad : List ℕ) → LeadFrom table start (before ++ bad ∷ after) end → LeadFrom table start before mid → (changes : Changes) × SaysChanges table mid changes bad
  through start end mid [] after bad all here = (all.0, subst (λ (c : Content). SaysChanges table c all.0 bad) here all.1)
  through start end mid (p ∷ before) after bad all here =
      let same = one_saying table start all.0 here.0 p all.1 here.1 in
      let rest = subst (λ (c : Changes). LeadFrom table (with_changes table start c) (before ++ bad ∷ after) end) same all.2 in
      through (with_changes table start here.0) end mid before after bad rest here.2

  head : {x y : List ℕ} {xs ys : List (List ℕ)} → x ∷ xs ≡ y ∷ ys → x ≡ y
  head e = cc

  tail : {x y : List ℕ} {xs ys : List (List ℕ)} → x ∷ xs ≡ y ∷ ys → xs ≡ ys
  tail e = cc

  -- two such fronts are one
  same_before : (start m n : Content) (xs ys es fs : List (List ℕ)) (b c : List ℕ) → xs ++ b ∷ es ≡ ys ++ c ∷ fs → LeadFrom table start xs m → LeadFrom table start ys n → ((k : Changes) → ¬ (SaysChanges table m k b)) → ((k : Changes) → ¬ (SaysChanges table n k c)) → xs ≡ ys
  same_before start m n [] [] es fs b c is p q none other = refl
  same_before start m n [] (y ∷ ys) es fs b c is p q none other =
      let says = subst (λ (l : List ℕ). SaysChanges table start q.0 l) (sym (head is)) q.1 in absurd (none q.0 (subst (λ (x : Content). SaysChanges table x q.0 b) p says))
  same_before start m n (x ∷ xs) [] es fs b c is p q none other =
      let says = subst (λ (l : List ℕ). SaysChanges table start p.0 l) (head is) p.1 in absurd (other p.0 (subst (λ (k : Content). SaysChanges table k p.0 c) q says))
  same_before start m n (x ∷ xs) (y ∷ ys) es fs b c is p q none other =
      let says = subst (λ (l : List ℕ). SaysChanges table start q.0 l) (sym (head is)) q.1 in
      let same = one_saying table start p.0 q.0 x p.1 says in
      let rest = subst (λ (k : Changes). LeadFrom table (with_changes table start k) ys n) (sym same) q.2 in
      ap (λ (l : List ℕ). l ∷ xs) (head is) ∙ ap (λ (ls : List (List ℕ)). y ∷ ls) (same_before (with_changes table start p.0) m n xs ys es fs b c (tail is) p.2 rest none other)

-- ---- where images differ

first_within : (m n : ℕ) (xs : List ℕ) → m < n → first (drop m (take n xs)) ≡ first (drop m xs)
first_within zero zero xs less = absurd (omega (arith, less))
first_within zero (suc n) [] less = refl
first_within zero (suc n) (x ∷ xs) less = refl
first_within (suc m) zero xs less = absurd (omega (arith, less))
first_within (suc m) (suc n) [] less = refl
first_within (suc m) (suc n) (x ∷ xs) less = first_within m n xs (omega (arith, less))

not_before : (m n : ℕ) (xs ys : List ℕ) → DifferAt m xs ys → DifferAt n xs ys → m < n → ⊥
not_before m n xs ys p q less = p.at (sym (first_within m n xs less) ∙ ap (λ (l : List ℕ). first (drop m l)) q.before ∙ first_within m n ys less)

differ_once : (m n : ℕ) (xs ys : List ℕ) → DifferAt m xs ys → DifferAt n xs ys → m ≡ n
differ_once m n xs ys p q = by_cases (cases_lt m n) (cases_lt n m) where
  by_cases : (m < n) ⊎ (n ≤ m) → (n < m) ⊎ (m ≤ n) → m ≡ n
  by_cases (inl less) other = absurd (not_before m n xs ys p q less)
  by_cases (inr le) (inl less) = absurd (not_before n m xs ys q p less)
  by_cases (inr le) (inr ge) = omega (arith, le, ge)

never_same : (n : ℕ) (xs ys : List ℕ) → DifferAt n xs ys → xs ≡ ys → ⊥
never_same n xs ys p same = p.at (ap (λ (l : List ℕ). first (drop n l)) same)

-- ---- one cause

module _ (program : StoreProgram) (size : ℕ) (bytes : List ℕ) where
  -- one area is current, and says one thing
  same_says : (p q : Place) (j k : Journaled) → IsJournalAt size p j bytes → IsJournalAt size q k bytes → k ≡ j
  same_says p q j k s t = (one_journal size bytes q p k j t s).1

  bad_or_opened : (n : ℕ) (place : Place) (j : Journaled) (content : Content) → IsBadPayload program size bytes n → IsOpened program size place bytes j content → ⊥
  bad_or_opened n place j content p q =
      let same = same_says p.place place p.says j p.stands q.stands in
      let leads = subst (λ (k : Journaled). LeadFrom program.table empty_content k.payloads content) same q.content_is in
      let all = subst (λ (l : List (List ℕ)). LeadFrom program.table empty_content l content) p.payloads leads in
      let says = through program.table empty_content content p.content p.before p.after p.bad all p.content_is in p.says_none says.0 says.1

  other_or_image : (n : ℕ) (place : Place) (j : Journaled) → IsOtherProgram program size bytes n → IsJournalAt size place j bytes → j.image ≡ program.image → ⊥
  other_or_image n place j p s image =
      let same = same_says p.place place p.says j p.stands s in never_same n p.says.image program.image p.differ (sym (ap (λ (k : Journaled). k.image) same) ∙ image)

  same_bad : (m n : ℕ) → IsBadPayload program size bytes m → IsBadPayload program size bytes n → m ≡ n
  same_bad m n p q =
      let one = one_journal size bytes p.place q.place p.says q.says p.stands q.stands in
      let payloads : p.before ++ p.bad ∷ p.after ≡ q.before ++ q.bad ∷ q.after = sym p.payloads ∙ ap (λ (k : Journaled). k.payloads) one.1 ∙ q.payloads in
      let before = same_before program.table empty_content p.content q.content p.before q.before p.after q.after p.bad q.bad payloads p.content_is q.content_is p.says_none q.says_none in
      let starts : start_of size p.place ≡ start_of size q.place = ap (start_of size) one.0 in
      let images : length p.says.image ≡ length q.says.image = ap (λ (k : Journaled). length k.image) one.1 in
      let sizes : size_of p.before ≡ size_of q.before = ap size_of before in
      omega (arith, p.at, q.at, starts, images, sizes)

  same_other : (m n : ℕ) → IsOtherProgram program size bytes m → IsOtherProgram program size bytes n → m ≡ n
  same_other m n p q =
      let same = same_says p.place q.place p.says q.says p.stands q.stands in
      differ_once m n p.says.image program.image p.differ (subst (λ (k : Journaled). DifferAt n k.image program.image) same q.differ)

  same_content : (p q : Place) (j k : Journaled) (a b : Content) → IsOpened program size p bytes j a → IsOpened program size q bytes k b → a ≡ b
  same_content p q j k a b s t =
      let same = same_says p q j k s.stands t.stands in
      one_content program.table empty_content j.payloads a b s.content_is (subst (λ (i : Journaled). LeadFrom program.table empty_content i.payloads b) same t.content_is)

  same_object : (m n : ℕ) → Some m ≡ Some n → m ≡ n
  same_object m n e = cc

  same_rest : (m n : ℕ) → IsNotAtRest program size bytes m → IsNotAtRest program size bytes n → m ≡ n
  same_rest m n p q =
      let same = same_content p.place q.place p.says q.says p.content q.content p.opened q.opened in
      same_object m n (sym p.fails ∙ ap (first_failing_object program.table) same ∙ q.fails)

  pub one_refusal : (r s : StoreRefusal) → IsRefused program size bytes r → IsRefused program size bytes s → r ≡ s
  one_refusal not_store not_store p q = refl
  one_refusal not_store (damaged n) p (inl q) = absurd (no_store_or_damaged_disk size bytes n p q)
  one_refusal not_store (damaged n) p (inr q) = absurd (no_store_or_journal size bytes q.place q.says p q.stands)
  one_refusal not_store (other_program n) p q = absurd (no_store_or_journal size bytes q.place q.says p q.stands)
  one_refusal not_store (not_at_rest n) p q = absurd (no_store_or_journal size bytes q.place q.says p q.opened.stands)
  one_refusal (damaged m) not_store (inl p) q = absurd (no_store_or_damaged_disk size bytes m q p)
  one_refusal (damaged m) not_store (inr p) q = absurd (no_store_or_journal size bytes p.place p.says q p.stands)
  one_refusal (damaged m) (damaged n) (inl p) (inl q) = ap damaged (one_damage_disk size bytes m n p q)
  one_refusal (damaged m) (damaged n) (inl p) (inr q) = absurd (journal_or_damaged_disk size bytes q.place q.says m q.stands p)
  one_refusal (damaged m) (damaged n) (inr p) (inl q) = absurd (journal_or_damaged_disk size bytes p.place p.says n p.stands q)
  one_refusal (damaged m) (damaged n) (inr p) (inr q) = ap damaged (same_bad m n p q)
  one_refusal (damaged m) (other_program n) (inl p) q = absurd (journal_or_damaged_disk size bytes q.place q.says m q.stands p)
  one_refusal (damaged m) (other_program n) (inr p) q = absurd (other_or_image n p.place p.says q p.stands p.image)
  one_refusal (damaged m) (not_at_rest n) (inl p) q = absurd (journal_or_damaged_disk size bytes q.place q.says m q.opened.stands p)
  one_refusal (damaged m) (not_at_rest n) (inr p) q = absurd (bad_or_opened m q.place q.says q.content p q.opened)
  one_refusal (other_program m) not_store p q = absurd (no_store_or_journal size bytes p.place p.says q p.stands)
  one_refusal (other_program m) (damaged n) p (inl q) = absurd (journal_or_damaged_disk size bytes p.place p.says n p.stands q)
  one_refusal (other_program m) (damaged n) p (inr q) = absurd (other_or_image m q.place q.says p q.stands q.image)
  one_refusal (other_program m) (other_program n) p q = ap other_program (same_other m n p q)
  one_refusal (other_program m) (not_at_rest n) p q = absurd (other_or_image m q.place q.says p q.opened.stands q.opened.image)
  one_refusal (not_at_rest m) not_store p q = absurd (no_store_or_journal size bytes p.place p.says q p.opened.stands)
  one_refusal (not_at_rest m) (damaged n) p (inl q) = absurd (journal_or_damaged_disk size bytes p.place p.says n p.opened.stands q)
  one_refusal (not_at_rest m) (damaged n) p (inr q) = absurd (bad_or_opened n p.place p.says p.content q p.opened)
  one_refusal (not_at_rest m) (other_program n) p q = absurd (other_or_image n p.place p.says q p.opened.stands p.opened.image)
  one_refusal (not_at_rest m) (not_at_rest n) p q = ap not_at_rest (same_rest m n p q)

  none_some : (n : ℕ) (o : Option ℕ) → o ≡ None → o ≡ Some n → ⊥
  none_some n o p q = cc

  pub never_both : (r : StoreRefusal) (s : StoreState) → IsRefused program size bytes r → IsStoreOf program size bytes s → ⊥
  never_both not_store s p (inl q) = blank_or_no_store_disk size bytes q.blank p
  never_both not_store s p (inr q) = no_store_or_journal size bytes q.place q.says p q.opened.stands
  never_both (damaged n) s (inl p) (inl q) = blank_or_damaged_disk size bytes n q.blank p
  never_both (damaged n) s (inr p) (inl q) = blank_or_journal size bytes p.place p.says q.blank p.stands
  never_both (damaged n) s (inl p) (inr q) = journal_or_damaged_disk size bytes q.place q.says n q.opened.stands p
  never_both (damaged n) s (inr p) (inr q) = bad_or_opened n q.place q.says s.content p q.opened
  never_both (other_program n) s p (inl q) = blank_or_journal size bytes p.place p.says q.blank p.stands
  never_both (other_program n) s p (inr q) = other_or_image n q.place q.says p q.opened.stands q.opened.image
  never_both (not_at_rest n) s p (inl q) = blank_or_journal size bytes p.place p.says q.blank p.opened.stands
  never_both (not_at_rest n) s p (inr q) =
      let same = same_content p.place q.place p.says q.says p.content s.content p.opened q.opened in
      let whole = (told program.table s.content).1 q.at_rest in
      none_some n (first_failing_object program.table s.content) whole (sym (ap (first_failing_object program.table) same) ∙ p.fails)
