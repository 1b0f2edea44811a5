-- The laws of rows one after the other.
use Rattle.std.proofs.Common.{ℕ, zero, suc, ◌≡◌, ◌+◌, ◌<◌, ◌≤◌, Bool, true, false, cond, List, [], ◌∷◌, ◌++◌, length, inl, inr, refl, sym, ap, subst, ◌∙◌, append-nil, arith, length-append}
use Rattle.std.proofs.lemmas.Bool.{cases_Bool, false≢true}
use Rattle.std.proofs.lemmas.List.{append_cancel_right, length-map}
use Rattle.ob_lexer.specs.declared.token.Token.{Token}
use Rattle.ob_parser_spec.specs.Rows.{Row, Loaded, never, nothing, ◌⨟◌, each}
use Rattle.ob_parser_spec.specs.Grammar.{tokens_of}
use Rattle.ob_parser_spec.specs.Readers.{Read, done, stop, deep, Reader, ◌>>=◌, begin_with, and_after, put_before, read_each, read_many_from, read_many}
use Rattle.ob_parser_spec.proofs.Laws.{SpellsAsWell, first_token, deep_part, answered, Begin, Ends, Sound, Stopped, Deepened, Laws, starting_for, disjoint, ends-append, ends-both, Case, case_of, is_done, is_stop, is_deep}
use Rattle.ob_parser_spec.proofs.Both.{then, then_laws}
use Rattle.ob_parser_spec.proofs.Mapped.{Makes}
use Rattle.ob_parser_spec.proofs.Either.{one_of}
use Rattle.ob_parser_spec.proofs.Maybe.{is_value, given_laws}
use Rattle.ob_parser_spec.proofs.RowLaws.{choice_laws, made, makes_laws, alike_laws, ends_laws}

-- rows one after the other, each from where those before it lead
abbrev pub each_from : {A S : Type 0} → (S → A → Row) → (S → A → S) → S → List A → Row
each_from reads next s [] = nothing
each_from reads next s (x ∷ xs) = reads s x ⨟ each_from reads next (next s x) xs

-- so many at most
abbrev few : {A S : Type 0} → (S → A → Row) → (S → A → S) → ℕ → S → List A → Row
few reads next n s xs read = (length xs ≤ n) × each_from reads next s xs read

-- one, and so many at most after it
abbrev some_few : {A S : Type 0} → (S → A → Row) → (S → A → S) → ℕ → S → List A → Row
some_few reads next n s [] = never
some_few reads next n s (x ∷ xs) = then (reads s) (λ y. few reads next n (next s y)) (x, xs)

module _ {A S : Type 0} (room : ℕ) (reads : S → A → Row) (p : S → Reader A) (next : S → A → S) (first more : List ℕ) (a : (s : S) → Laws room (reads s) (p s) first more false)
    (apart : disjoint first more ≡ true) (nothing_apart : disjoint [] more ≡ true) (none_apart : disjoint [] first ≡ true) where
  abbrev Few : ℕ → S → List A → Row
  Few = few reads next

  abbrev one_few : ℕ → S → A × List A → Row
  one_few n s = then (reads s) (λ y. few reads next n (next s y))

  abbrev run : ℕ → S → Reader (List A)
  run n s = read_each first p next n s

  some_from : (n : ℕ) (s : S) → SpellsAsWell (some_few reads next n s) (made put_before (one_few n s))
  some_from n s [] read is = elim is [ ]
  some_from n s (x ∷ xs) read is = ((x, xs), refl, is)

  some_makes : (n : ℕ) (s : S) → Makes put_before (one_few n s) (some_few reads next n s)
  some_makes n s = record { to = λ parts read is. is; from = some_from n s }

  to : (n : ℕ) (s : S) → SpellsAsWell (one_of (some_few reads next n s) (is_value [])) (Few (suc n) s)
  to n s [] read (inl is) = elim is [ ]
  to n s [] read (inr is) = (omega arith, is.1)
  to n s (x ∷ xs) read (inl is) = (omega (arith, is.4.0), (is.0, is.1, is.2, is.3, is.4.1))
  to n s (x ∷ xs) read (inr is) = absurd cc

  from : (n : ℕ) (s : S) → SpellsAsWell (Few (suc n) s) (one_of (some_few reads next n s) (is_value []))
  from n s [] read is = inr (refl, is.1)
  from n s (x ∷ xs) read is = inl (is.1.0, is.1.1, is.1.2, is.1.3, (omega (arith, is.0), is.1.4))

  to_none : (s : S) → SpellsAsWell (is_value []) (Few zero s)
  to_none s [] read is = (omega arith, is.1)
  to_none s (x ∷ xs) read is = absurd cc

  from_none : (s : S) → SpellsAsWell (Few zero s) (is_value [])
  from_none s [] read is = (refl, is.1)
  from_none s (x ∷ xs) read is = absurd (omega (arith, is.0))

  none_laws : (s : S) → Laws room (Few zero s) (run zero s) [] [] true
  none_laws s = alike_laws (Few zero s) (to_none s) (from_none s) (given_laws room [])

  none_more : (ts : List Token) → Ends [] ts
  none_more [] = refl
  none_more (t ∷ ts) = refl

  wider : (inner : List ℕ) → ((ts : List Token) → Ends (more ++ first) ts → Ends inner ts) → (ts : List Token) → Ends (more ++ first) ts → Ends (((inner ++ more) ++ []) ++ first) ts
  wider inner within ts ends =
      let parts = ends-append more first ts ends in
      ends-both ((inner ++ more) ++ []) first ts (ends-both (inner ++ more) [] ts (ends-both inner more ts (within ts ends) parts.0) (none_more ts)) parts.1

  one_more : (n : ℕ) (s : S) (starting inner : List ℕ) → ((ts : List Token) → Ends (more ++ first) ts → Ends inner ts) → disjoint starting more ≡ true →
      ((t : S) → Laws room (Few n t) (run n t) starting inner true) → Laws room (Few (suc n) s) (run (suc n) s) first (more ++ first) true
  one_more n s starting inner within apart' b =
      let pair = then_laws room (reads s) (λ y. Few n (next s y)) (p s) (λ x. run n (next s x)) first more starting inner false true (a s) (λ x. b (next s x)) apart' in
      let either = choice_laws (makes_laws (some_makes n s) pair) (given_laws room []) none_apart in
      let laws = alike_laws (Few (suc n) s) (to n s) (from n s) either in
      let begun = subst (λ f. Laws room (Few (suc n) s) (run (suc n) s) f (((inner ++ more) ++ []) ++ first) true) (append-nil first) laws in
      ends_laws (wider inner within) begun

  few_laws : (n : ℕ) (s : S) → Laws room (Few (suc n) s) (run (suc n) s) first (more ++ first) true
  few_laws zero s = one_more zero s [] [] (λ ts ends. none_more ts) nothing_apart none_laws
  few_laws (suc n) s = one_more (suc n) s first (more ++ first) (λ ts ends. ends) apart (few_laws n)

  -- ---- how many are read doesn't depend on how many might be

  some_read : (read : List Loaded) → Begin first false read → 1 ≤ length read
  some_read [] is = absurd (false≢true is)
  some_read (l ∷ ls) is = omega arith

  shorter : (s : S) (ts : List Token) (x : A) (mid : List Token) → Sound room (reads s) (p s) ts x mid → length mid < length ts
  shorter s ts x mid sound =
      let count : length ts ≡ length (tokens_of sound.read) + length mid = ap length sound.parts ∙ length-append (tokens_of sound.read) mid in
      omega (arith, count, length-map sound.read (λ l. l.token), some_read sound.read ((a s).begins x sound.read sound.spelled))

  abbrev put : Read (A × List A) → Read (List A)
  put r = r >>= (λ pair rest. done (put_before pair) rest)

  abbrev onward : ℕ → S → A → List Token → Read (A × List A)
  onward n s = and_after (λ (x : A). read_each first p next n (next s x))

  abbrev choose : ℕ → S → List Token → Bool → Read (List A)
  choose n s ts does = cond does (put (p s ts >>= onward n s)) (done [] ts)

  abbrev Agree : ℕ → ℕ → Type 0
  Agree n m = (s : S) (ts : List Token) → length ts < n → length ts < m → run n s ts ≡ run m s ts

  enough_in : (n m : ℕ) (s : S) (ts : List Token) → Agree n m → length ts < suc n → length ts < suc m → Case (p s ts) → choose n s ts true ≡ choose m s ts true
  enough_in n m s ts agree small less (is_stop left e) = ap (λ r. put (r >>= onward n s)) e ∙ sym (ap (λ r. put (r >>= onward m s)) e)
  enough_in n m s ts agree small less (is_deep left e) = ap (λ r. put (r >>= onward n s)) e ∙ sym (ap (λ r. put (r >>= onward m s)) e)
  enough_in n m s ts agree small less (is_done x mid e) =
      let fewer : length mid < length ts = shorter s ts x mid ((a s).sound ts x mid e) in
      ap (λ r. put (r >>= onward n s)) e
      ∙ ap (λ r. put (r >>= (λ y rest. done (x, y) rest))) (agree (next s x) mid (omega (arith, fewer, small)) (omega (arith, fewer, less)))
      ∙ sym (ap (λ r. put (r >>= onward m s)) e)

  enough : (n m : ℕ) → Agree n m
  enough zero m s ts small less = absurd (omega (arith, small))
  enough (suc n) zero s ts small less = absurd (omega (arith, less))
  enough (suc n) (suc m) s ts small less = elim (cases_Bool (begin_with first ts)) [
    | inl does ↦ ap (choose n s ts) does ∙ enough_in n m s ts (enough n m) small less (case_of (p s ts)) ∙ sym (ap (choose m s ts) does)
    | inr fails ↦ ap (choose n s ts) fails ∙ sym (ap (choose m s ts) fails)
  ]

  -- ---- the laws

  abbrev all : S → List A → Row
  all = each_from reads next

  abbrev many : S → Reader (List A)
  many s = read_many_from first p next s

  -- of so many tokens, each row reads at least one
  each_short : (s : S) (xs : List A) (read : List Loaded) → all s xs read → length xs ≤ length read
  each_short s [] read is = omega arith
  each_short s (x ∷ xs) read is =
      let rest : length xs ≤ length is.1 = each_short (next s x) xs is.1 is.4 in
      let count : length read ≡ length is.0 + length is.1 = ap length is.2 ∙ length-append is.0 is.1 in
      omega (arith, rest, count, some_read is.0 ((a s).begins x is.0 is.3))

  same_tokens : (one other : List Loaded) (ts rest : List Token) → ts ≡ tokens_of one ++ rest → ts ≡ tokens_of other ++ rest → tokens_of one ≡ tokens_of other
  same_tokens one other ts rest q r = append_cancel_right (tokens_of one) (tokens_of other) rest (sym q ∙ r)

  many_at : (n : ℕ) (s : S) (ts : List Token) → length ts < n → many s ts ≡ run n s ts
  many_at n s ts small = enough (suc (length ts)) n s ts (omega arith) small

  sound_local : (s : S) (ts : List Token) (xs : List A) (rest : List Token) → many s ts ≡ done xs rest →
      (u : Sound room (Few (suc (length ts)) s) (run (suc (length ts)) s) ts xs rest) → (new : List Token) → first_token new ≡ first_token rest →
      many s (tokens_of u.read ++ new) ≡ done xs new
  sound_local s ts xs rest is u new e =
      let n : ℕ = length ts + length (tokens_of u.read ++ new) in
      let t = (few_laws n s).sound ts xs rest (sym (many_at (suc n) s ts (omega arith)) ∙ is) in
      let same : tokens_of t.read ≡ tokens_of u.read = same_tokens t.read u.read ts rest t.parts u.parts in
      many_at (suc n) s (tokens_of u.read ++ new) (omega arith) ∙ ap (λ l. run (suc n) s (l ++ new)) (sym same) ∙ t.local new e

  sound : (s : S) (ts : List Token) (xs : List A) (rest : List Token) → many s ts ≡ done xs rest → Sound room (all s) (many s) ts xs rest
  sound s ts xs rest is =
      let u = (few_laws (length ts) s).sound ts xs rest is in
      record {
        read = u.read;
        parts = u.parts;
        spelled = u.spelled.1;
        within = u.within;
        local = λ new e. sound_local s ts xs rest is u new e;
      }

  full : (s : S) (xs : List A) (read : List Loaded) (rest : List Token) → all s xs read → Ends (more ++ first) rest → many s (tokens_of read ++ rest) ≡ answered xs (deep_part room read) rest
  full s xs read rest is ends =
      let n : ℕ = length (tokens_of read ++ rest) + length read in
      many_at (suc n) s (tokens_of read ++ rest) (omega arith) ∙ (few_laws n s).full xs read rest (omega (arith, each_short s xs read is), is) ends

  stopped_local : (s : S) (ts rest : List Token) → many s ts ≡ stop rest → (u : Stopped room (Few (suc (length ts)) s) (run (suc (length ts)) s) ts rest) → (new : List Token) →
      first_token new ≡ first_token rest → many s (tokens_of u.read ++ new) ≡ stop new
  stopped_local s ts rest is u new e =
      let n : ℕ = length ts + length (tokens_of u.read ++ new) in
      let t = (few_laws n s).stopped ts rest (sym (many_at (suc n) s ts (omega arith)) ∙ is) in
      let same : tokens_of t.read ≡ tokens_of u.read = same_tokens t.read u.read ts rest t.parts u.parts in
      many_at (suc n) s (tokens_of u.read ++ new) (omega arith) ∙ ap (λ l. run (suc n) s (l ++ new)) (sym same) ∙ t.local new e

  stopped : (s : S) (ts rest : List Token) → many s ts ≡ stop rest → Stopped room (all s) (many s) ts rest
  stopped s ts rest is =
      let u = (few_laws (length ts) s).stopped ts rest is in
      record {
        value = u.value;
        read = u.read;
        others = u.others;
        parts = u.parts;
        spelled = u.spelled.1;
        within = u.within;
        local = λ new e. stopped_local s ts rest is u new e;
      }

  deepened_local : (s : S) (ts rest : List Token) → many s ts ≡ deep rest → (u : Deepened room (Few (suc (length ts)) s) (run (suc (length ts)) s) ts rest) → (new : List Token) →
      first_token new ≡ first_token rest → many s (tokens_of u.read ++ new) ≡ deep new
  deepened_local s ts rest is u new e =
      let n : ℕ = length ts + length (tokens_of u.read ++ new) in
      let t = (few_laws n s).deepened ts rest (sym (many_at (suc n) s ts (omega arith)) ∙ is) in
      let same : tokens_of t.read ≡ tokens_of u.read = same_tokens t.read u.read ts rest t.parts u.parts in
      many_at (suc n) s (tokens_of u.read ++ new) (omega arith) ∙ ap (λ l. run (suc n) s (l ++ new)) (sym same) ∙ t.local new e

  deepened : (s : S) (ts rest : List Token) → many s ts ≡ deep rest → Deepened room (all s) (many s) ts rest
  deepened s ts rest is =
      let u = (few_laws (length ts) s).deepened ts rest is in
      record {
        value = u.value;
        read = u.read;
        top = u.top;
        others = u.others;
        back = u.back;
        parts = u.parts;
        here = u.here;
        spelled = u.spelled.1;
        within = u.within;
        passes = u.passes;
        local = λ new e. deepened_local s ts rest is u new e;
      }

  pub many_from_laws : (s : S) → Laws room (all s) (many s) first (more ++ first) true
  many_from_laws s = record {
    sound = sound s;
    full = full s;
    stopped = stopped s;
    deepened = deepened s;
    begins = λ xs read is. (few_laws (length xs) s).begins xs read (omega arith, is);
    starts = λ t is. starting_for (λ xs read is. is.1) ((few_laws 0 s).starts t is);
    empty = λ is. ([], refl);
    sample = record { value = []; read = []; spelled = refl };
  }

-- ---- rows that are read alike

abbrev alike : {A : Type 0} → (A → Row) → List A → Row
alike reads = each_from {S = Unit {0}} (λ u. reads) (λ u x. u) tt

alike_to : {A : Type 0} (reads : A → Row) → SpellsAsWell (alike reads) (each reads)
alike_to reads [] read is = is
alike_to reads (x ∷ xs) read is = (is.0, is.1, is.2, is.3, alike_to reads xs is.1 is.4)

alike_from : {A : Type 0} (reads : A → Row) → SpellsAsWell (each reads) (alike reads)
alike_from reads [] read is = is
alike_from reads (x ∷ xs) read is = (is.0, is.1, is.2, is.3, alike_from reads xs is.1 is.4)

module _ {A : Type 0} (room : ℕ) (reads : A → Row) (p : Reader A) (first more : List ℕ) (a : Laws room reads p first more false)
    (apart : disjoint first more ≡ true) (nothing_apart : disjoint [] more ≡ true) (none_apart : disjoint [] first ≡ true) where
  pub many_laws : Laws room (each reads) (read_many first p) first (more ++ first) true
  many_laws =
      alike_laws (each reads) (alike_to reads) (alike_from reads)
      (many_from_laws room (λ u. reads) (λ u. p) (λ u x. u) first more (λ u. a) apart nothing_apart none_apart tt)
