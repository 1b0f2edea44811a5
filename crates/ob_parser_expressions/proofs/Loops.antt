-- Loops that read rows one after the other.
use Rattle.std.proofs.Common.{ℕ, suc, zero, ◌≡◌, ◌<◌, ◌≤◌, ◌+◌, Bool, true, false, cond, List, [], ◌∷◌, ◌++◌, map, length, inl, inr, refl, sym, ap, ◌∙◌, arith, append_assoc, append-nil}
use Rattle.std.proofs.lemmas.Bool.{cases_Bool}
use Rattle.std.proofs.lemmas.List.{length-append, map-append}
use Rattle.ob_lexer.specs.declared.token.Token.{Token}
use Rattle.ob_lexer.specs.declared.token.Sign.{Sign}
use Rattle.ob_parser_spec.specs.Readers.{Read, done, stop, deep, Reader, ◌>>=◌, begin_with, and_after, put_before, read_each, read_many_from, read_many}
use Rattle.ob_parser_spec.specs.NameReaders.{on, read_item, read_parted}
use Rattle.ob_parser_spec.specs.Rows.{Row, Loaded}
use Rattle.ob_parser_spec.specs.Grammar.{tokens_of}
use Rattle.ob_parser_expressions.specs.Answering.{Halts, prefixed}
use Rattle.ob_parser_expressions.specs.declared.halt.Halt.{Halt}
use Rattle.ob_parser_expressions.proofs.Halts.{halts_bind}
use Rattle.ob_parser_spec.proofs.Laws.{Begin, Laws, Case, is_done, is_stop, is_deep, case_of}

-- what is read has a token
pub record Consumes {A : Type 0} (p : Reader A) : Type 0 where
  pub fewer : (ts : List Token) (x : A) (rest : List Token) → p ts ≡ done x rest → length rest < length ts

some_tokens : (first : List ℕ) (read : List Loaded) → Begin first false read → 1 ≤ length (tokens_of read)
some_tokens first [] is = absurd (let wrong : false ≡ true = is in cc)
some_tokens first (l ∷ ls) is = omega arith

pub consumes : {A : Type 0} (room : ℕ) (reads : A → Row) (p : Reader A) (first more : List ℕ) → Laws room reads p first more false → Consumes p
consumes room reads p first more a = record {
  fewer = λ ts x rest is.
      let s = a.sound ts x rest is in
      let count : length ts ≡ length (tokens_of s.read) + length rest = ap length s.parts ∙ length-append (tokens_of s.read) rest in
      omega (arith, count, some_tokens first s.read (a.begins x s.read s.spelled));
}

module _ {A S : Type 0} (kinds : List ℕ) (p : S → Reader A) (next : S → A → S) (c : (s : S) → Consumes (p s)) where
  abbrev rest_of : ℕ → S → A → List Token → Read (A × List A)
  rest_of n s = and_after (λ (x : A). read_each kinds p next n (next s x))

  abbrev put : Read (A × List A) → Read (List A)
  put r = r >>= (λ pair rest. done (put_before pair) rest)

  abbrev choose : ℕ → S → List Token → Bool → Read (List A)
  choose n s ts does = cond does (put (p s ts >>= rest_of n s)) (done [] ts)

  abbrev Agree : ℕ → ℕ → Type 0
  Agree n m = (s : S) (ts : List Token) → length ts < n → length ts < m → read_each kinds p next n s ts ≡ read_each kinds p next m s ts

  enough_in : (n m : ℕ) (s : S) (ts : List Token) → Agree n m → length ts < suc n → length ts < suc m → Case (p s ts) → choose n s ts true ≡ choose m s ts true
  enough_in n m s ts agree small less (is_stop left e) = ap (λ r. put (r >>= rest_of n s)) e ∙ sym (ap (λ r. put (r >>= rest_of m s)) e)
  enough_in n m s ts agree small less (is_deep left e) = ap (λ r. put (r >>= rest_of n s)) e ∙ sym (ap (λ r. put (r >>= rest_of m s)) e)
  enough_in n m s ts agree small less (is_done x mid e) =
      let fewer : length mid < length ts = (c s).fewer ts x mid e in
      ap (λ r. put (r >>= rest_of n s)) e
      ∙ ap (λ r. put (r >>= (λ y rest. done (x, y) rest))) (agree (next s x) mid (omega (arith, fewer, small)) (omega (arith, fewer, less)))
      ∙ sym (ap (λ r. put (r >>= rest_of m s)) e)

  enough : (n m : ℕ) → Agree n m
  enough zero m s ts small less = absurd (omega (arith, small))
  enough (suc n) zero s ts small less = absurd (omega (arith, less))
  enough (suc n) (suc m) s ts small less = elim (cases_Bool (begin_with kinds ts)) [
    | inl does ↦ ap (choose n s ts) does ∙ enough_in n m s ts (enough n m) small less (case_of (p s ts)) ∙ sym (ap (choose m s ts) does)
    | inr fails ↦ ap (choose n s ts) fails ∙ sym (ap (choose m s ts) fails)
  ]

  put_is : (x : A) (r : Read (List A)) → put (r >>= (λ y rest. done (x, y) rest)) ≡ prefixed (x ∷ []) r
  put_is x (done y rest) = refl
  put_is x (stop rest) = refl
  put_is x (deep rest) = refl

  -- one more is read
  pub one_more_from : (s : S) (ts : List Token) (x : A) (rest : List Token) → begin_with kinds ts ≡ true → p s ts ≡ done x rest → read_many_from kinds p next s ts ≡ prefixed (x ∷ []) (read_many_from kinds p next (next s x) rest)
  one_more_from s ts x rest does e =
      let fewer : length rest < length ts = (c s).fewer ts x rest e in
      ap (choose (length ts) s ts) does
      ∙ ap (λ r. put (r >>= rest_of (length ts) s)) e
      ∙ ap (λ r. put (r >>= (λ y left. done (x, y) left))) (enough (length ts) (suc (length rest)) (next s x) rest fewer (omega arith))
      ∙ put_is x (read_many_from kinds p next (next s x) rest)

-- none is left
pub none_from : {A S : Type 0} (kinds : List ℕ) (p : S → Reader A) (next : S → A → S) (s : S) (ts : List Token) → begin_with kinds ts ≡ false → read_many_from kinds p next s ts ≡ done [] ts
none_from kinds p next s ts fails = rw fails refl

pub halts_from : {A S : Type 0} (kinds : List ℕ) (p : S → Reader A) (next : S → A → S) (s : S) (ts : List Token) (e : Halt) → begin_with kinds ts ≡ true → Halts e (p s ts) → Halts e (read_many_from kinds p next s ts)
halts_from kinds p next s ts e does is = rw does (halts_bind e (p s ts >>= and_after (λ x. read_each kinds p next (length ts) (next s x))) (λ pair rest. done (put_before pair) rest) (halts_bind e (p s ts) (and_after (λ x. read_each kinds p next (length ts) (next s x))) is))

-- ---- what has been read before

-- none, before all
pub none_before : {A : Type 0} (r : Read (List A)) → r ≡ prefixed [] r
none_before (done xs rest) = refl
none_before (stop rest) = refl
none_before (deep rest) = refl

prefixed_twice : {A : Type 0} (xs : List A) (x : A) (r : Read (List A)) → prefixed xs (prefixed (x ∷ []) r) ≡ prefixed (xs ++ x ∷ []) r
prefixed_twice xs x (done ys rest) = ap (λ l. done l rest) (sym (append_assoc xs (x ∷ []) ys))
prefixed_twice xs x (stop rest) = refl
prefixed_twice xs x (deep rest) = refl

-- rows that are read alike, after those that have been read
pub one_more : {A : Type 0} (kinds : List ℕ) (p : Reader A) (c : Consumes p) (xs : List A) (ts : List Token) (x : A) (rest : List Token) → begin_with kinds ts ≡ true → p ts ≡ done x rest → prefixed xs (read_many kinds p ts) ≡ prefixed (xs ++ x ∷ []) (read_many kinds p rest)
one_more kinds p c xs ts x rest does e = ap (prefixed xs) (one_more_from {S = Unit {0}} kinds (λ u. p) (λ u x. u) (λ u. c) tt ts x rest does e) ∙ prefixed_twice xs x (read_many kinds p rest)

pub none_more : {A : Type 0} (kinds : List ℕ) (p : Reader A) (xs : List A) (ts : List Token) → begin_with kinds ts ≡ false → prefixed xs (read_many kinds p ts) ≡ done xs ts
none_more kinds p xs ts fails = ap (prefixed xs) (none_from {S = Unit {0}} kinds (λ u. p) (λ u x. u) tt ts fails) ∙ ap (λ l. done l ts) (append-nil xs)

pub halts_more : {A : Type 0} (kinds : List ℕ) (p : Reader A) (xs : List A) (ts : List Token) (e : Halt) → begin_with kinds ts ≡ true → Halts e (p ts) → Halts e (prefixed xs (read_many kinds p ts))
halts_more kinds p xs ts e does is = halts_bind e (read_many kinds p ts) (λ ys rest. done (xs ++ ys) rest) (halts_from {S = Unit {0}} kinds (λ u. p) (λ u x. u) tt ts e does is)

-- what a loop keeps: the whole is what has been read and what the rest gives
pub kept : {A : Type 0} (kinds : List ℕ) (p : Reader A) (xs new : List A) (ts rest : List Token) (x : A) (whole : Read (List A)) → Consumes p → whole ≡ prefixed xs (read_many kinds p ts) → new ≡ xs ++ x ∷ [] → begin_with kinds ts ≡ true → p ts ≡ done x rest → whole ≡ prefixed new (read_many kinds p rest)
kept kinds p xs new ts rest x whole c same pushed does is = same ∙ one_more kinds p c xs ts x rest does is ∙ ap (λ l. prefixed l (read_many kinds p rest)) (sym pushed)

-- the same of what the tree holds
pub kept_as : {T A : Type 0} (kinds : List ℕ) (p : Reader A) (view : T → A) (xs new : List T) (ts rest : List Token) (x : T) (whole : Read (List A)) → Consumes p → whole ≡ prefixed (map view xs) (read_many kinds p ts) → new ≡ xs ++ x ∷ [] → begin_with kinds ts ≡ true → p ts ≡ done (view x) rest → whole ≡ prefixed (map view new) (read_many kinds p rest)
kept_as kinds p view xs new ts rest x whole c same pushed does is = kept kinds p (map view xs) (map view new) ts rest (view x) whole c same (ap (map view) pushed ∙ map-append view xs (x ∷ [])) does is

-- what a list begins with, after which others may follow
put_first : {A : Type 0} (x : A) (r : Read (List A)) → ((r >>= (λ y rest. done (x, y) rest)) >>= (λ pair rest. done (put_before pair) rest)) ≡ prefixed (x ∷ []) r
put_first x (done ys rest) = refl
put_first x (stop rest) = refl
put_first x (deep rest) = refl

pub parted_begins : {A : Type 0} (s : Sign) (p : Reader A) (ts rest : List Token) (x : A) (xs : List A) → p ts ≡ done x rest → xs ≡ x ∷ [] → read_parted s p ts ≡ prefixed xs (read_many (on s) (read_item s p) rest)
parted_begins s p ts rest x xs is first =
    ap (λ r. (r >>= and_after (λ y. read_many (on s) (read_item s p))) >>= (λ pair left. done (put_before pair) left)) is
    ∙ put_first x (read_many (on s) (read_item s p) rest)
    ∙ ap (λ l. prefixed l (read_many (on s) (read_item s p) rest)) (sym first)
