-- The laws of a row with its place.
use Rattle.std.proofs.Common.{ℕ, suc, ◌≡◌, ◌+◌, ◌-◌, false, List, [], ◌∷◌, ◌++◌, length, take, refl, sym, ap, ◌∙◌, arith, length-append}
use Rattle.std.proofs.lemmas.Bool.{false≢true}
use Rattle.std.proofs.Math.Seq.{take-append_seam}
use Rattle.ob_base.specs.declared.fault.Span.{Span}
use Rattle.ob_lexer.specs.declared.token.Token.{Token}
use Rattle.ob_parser_spec.specs.Rows.{Row, Loaded, Covers, joined, spanning}
use Rattle.ob_parser_spec.specs.Grammar.{tokens_of}
use Rattle.ob_parser_spec.specs.Readers.{Read, done, stop, deep, Reader, ◌>>=◌, last_span, span_of_tokens, span_between, read_spanned}
use Rattle.ob_parser_spec.proofs.Laws.{deep_part, answered, Begin, Ends, Sound, Stopped, Deepened, Starting, Laws, Case, case_of, is_done, is_stop, is_deep}

-- ---- places

-- the last of tokens, and those before it
record Last (first : Loaded) (others : List Loaded) : Type 0 where
  before : List Loaded
  last : Loaded
  ends : first ∷ others ≡ before ++ last ∷ []
  place : last_span first.token (tokens_of others) ≡ last.token.span

last_of : (first : Loaded) (others : List Loaded) → Last first others
last_of first [] = record { before = []; last = first; ends = refl; place = refl }
last_of first (l ∷ ls) =
    let r = last_of l ls in
    record { before = first ∷ r.before; last = r.last; ends = ap (λ t. first ∷ t) r.ends; place = r.place }

not_one : (first b : Loaded) (bs : List Loaded) (last : Loaded) → ¬ (first ∷ [] ≡ b ∷ (bs ++ last ∷ []))
not_one first b bs last e =
    let count : 1 ≡ suc (length (bs ++ last ∷ [])) = ap length e in
    omega (arith, count, length-append bs (last ∷ []))

last_is : (first : Loaded) (others before : List Loaded) (last : Loaded) → first ∷ others ≡ before ++ last ∷ [] → last_span first.token (tokens_of others) ≡ last.token.span
last_is first [] [] last e = let same : first ≡ last = cc in ap (λ l. l.token.span) same
last_is first [] (b ∷ bs) last e = absurd (not_one first b bs last e)
last_is first (l ∷ ls) [] last e = absurd cc
last_is first (l ∷ ls) (b ∷ bs) last e = let tail : l ∷ ls ≡ bs ++ last ∷ [] = cc in last_is l ls bs last tail

pub covers : (first : Loaded) (others : List Loaded) → Covers (span_of_tokens (tokens_of (first ∷ others))) (first ∷ others)
covers first others =
    let r = last_of first others in
    record { first = first; others = others; begins = refl; before = r.before; last = r.last; ends = r.ends; whole = ap (joined first.token.span) r.place }

pub covered : (span : Span) (read : List Loaded) → Covers span read → span ≡ span_of_tokens (tokens_of read)
covered span read c =
    let chain : c.first ∷ c.others ≡ c.before ++ c.last ∷ [] = sym c.begins ∙ c.ends in
    c.whole ∙ ap (joined c.first.token.span) (sym (last_is c.first c.others c.before c.last chain)) ∙ ap (λ r. span_of_tokens (tokens_of r)) (sym c.begins)

pub covers_some : (first : List ℕ) (read : List Loaded) → Begin first false read → Covers (span_of_tokens (tokens_of read)) read
covers_some first [] is = absurd (false≢true is)
covers_some first (l ∷ ls) is = covers l ls

-- the place of one token
module _ {t : Loaded} {read : List Loaded} where
  pub covers_one : {span : Span} → read ≡ t ∷ [] → Covers span read → span ≡ t.token.span
  covers_one {span = span} is c = covered span read c ∙ ap (λ r. span_of_tokens (tokens_of r)) is

  pub one_covers : read ≡ t ∷ [] → Covers t.token.span read
  one_covers is = rw is (covers t [])

pub between : (read : List Loaded) (ts rest : List Token) → ts ≡ tokens_of read ++ rest → span_between ts rest ≡ span_of_tokens (tokens_of read)
between read ts rest parts =
    let count : length ts ≡ length (tokens_of read) + length rest = ap length parts ∙ length-append (tokens_of read) rest in
    let so_many : length ts - length rest ≡ length (tokens_of read) = omega (arith, count) in
    ap (λ n. span_of_tokens (take n ts)) so_many ∙ ap (λ l. span_of_tokens (take (length (tokens_of read)) l)) parts ∙ ap span_of_tokens (take-append_seam (tokens_of read) rest)

-- ---- the laws

-- a row and its place
abbrev pub with_span : {A : Type 0} → (A → Row) → A × Span → Row
with_span reads pair = spanning pair.1 (reads pair.0)

not_stop : {A : Type 0} {x : A} {ts rest : List Token} → ¬ (done x ts ≡ stop rest)
not_stop e = cc

not_deep : {A : Type 0} {x : A} {ts rest : List Token} → ¬ (done x ts ≡ deep rest)
not_deep e = cc

module _ {A : Type 0} (room : ℕ) (reads : A → Row) (p : Reader A) (first more : List ℕ) (a : Laws room reads p first more false) where
  abbrev placed : List Token → A → List Token → Read (A × Span)
  placed ts x rest = done (x, span_between ts rest) rest

  sound_done : (ts : List Token) (x : A) (rest : List Token) → Sound room reads p ts x rest → Sound room (with_span reads) (read_spanned p) ts (x, span_between ts rest) rest
  sound_done ts x rest s =
      let place : span_between ts rest ≡ span_of_tokens (tokens_of s.read) = between s.read ts rest s.parts in
      record {
        read = s.read;
        parts = s.parts;
        spelled = rw place (covers_some first s.read (a.begins x s.read s.spelled), s.spelled);
        within = s.within;
        local = λ new e.
            ap (λ r. r >>= placed (tokens_of s.read ++ new)) (s.local new e) ∙ ap (λ l. done (x, l) new) (between s.read (tokens_of s.read ++ new) new refl ∙ sym place);
      }

  sound : (ts : List Token) (pair : A × Span) (rest : List Token) → Case (p ts) → read_spanned p ts ≡ done pair rest → Sound room (with_span reads) (read_spanned p) ts pair rest
  sound ts pair rest (is_done x left e) is =
      let is' : done (x, span_between ts left) left ≡ done pair rest = rw e at is in
      let same : (x, span_between ts left) ≡ pair = cc in
      let end : left ≡ rest = cc in
      rw (← same, ← end) (sound_done ts x left (a.sound ts x left e))
  sound ts pair rest (is_stop left e) is = let is' : stop left ≡ done pair rest = rw e at is in absurd cc
  sound ts pair rest (is_deep left e) is = let is' : deep left ≡ done pair rest = rw e at is in absurd cc

  stopped_at : (ts rest : List Token) → Stopped room reads p ts rest → Stopped room (with_span reads) (read_spanned p) ts rest
  stopped_at ts rest s = record {
    value = (s.value, span_of_tokens (tokens_of (s.read ++ s.others)));
    read = s.read;
    others = s.others;
    parts = s.parts;
    spelled = (covers_some first (s.read ++ s.others) (a.begins s.value (s.read ++ s.others) s.spelled), s.spelled);
    within = s.within;
    local = λ new e. ap (λ r. r >>= placed (tokens_of s.read ++ new)) (s.local new e);
  }

  stopped : (ts rest : List Token) → Case (p ts) → read_spanned p ts ≡ stop rest → Stopped room (with_span reads) (read_spanned p) ts rest
  stopped ts rest (is_stop left e) is =
      let is' : stop left ≡ stop rest = rw e at is in
      let end : left ≡ rest = cc in
      rw (← end) (stopped_at ts left (a.stopped ts left e))
  stopped ts rest (is_done x left e) is = absurd (not_stop (ap (λ r. r >>= placed ts) (sym e) ∙ is))
  stopped ts rest (is_deep left e) is = let is' : deep left ≡ stop rest = rw e at is in absurd cc

  deepened_at : (ts rest : List Token) → Deepened room reads p ts rest → Deepened room (with_span reads) (read_spanned p) ts rest
  deepened_at ts rest s = record {
    value = (s.value, span_of_tokens (tokens_of (s.read ++ s.top ∷ s.others)));
    read = s.read;
    top = s.top;
    others = s.others;
    back = s.back;
    parts = s.parts;
    here = s.here;
    spelled = (covers_some first (s.read ++ s.top ∷ s.others) (a.begins s.value (s.read ++ s.top ∷ s.others) s.spelled), s.spelled);
    within = s.within;
    passes = s.passes;
    local = λ new e. ap (λ r. r >>= placed (tokens_of s.read ++ new)) (s.local new e);
  }

  deepened : (ts rest : List Token) → Case (p ts) → read_spanned p ts ≡ deep rest → Deepened room (with_span reads) (read_spanned p) ts rest
  deepened ts rest (is_deep left e) is =
      let is' : deep left ≡ deep rest = rw e at is in
      let end : left ≡ rest = cc in
      rw (← end) (deepened_at ts left (a.deepened ts left e))
  deepened ts rest (is_done x left e) is = absurd (not_deep (ap (λ r. r >>= placed ts) (sym e) ∙ is))
  deepened ts rest (is_stop left e) is = let is' : stop left ≡ deep rest = rw e at is in absurd cc

  answered-placed : (ts : List Token) (x : A) (read d : List Loaded) (rest : List Token) (span : Span) → ts ≡ tokens_of read ++ rest → span ≡ span_of_tokens (tokens_of read) →
      (answered x d rest >>= placed ts) ≡ answered (x, span) d rest
  answered-placed ts x read [] rest span parts place = ap (λ l. done (x, l) rest) (between read ts rest parts ∙ sym place)
  answered-placed ts x read (l ∷ ls) rest span parts place = refl

  full : (pair : A × Span) (read : List Loaded) (rest : List Token) → with_span reads pair read → Ends more rest → read_spanned p (tokens_of read ++ rest) ≡ answered pair (deep_part room read) rest
  full pair read rest is ends =
      let place = answered-placed (tokens_of read ++ rest) pair.0 read (deep_part room read) rest pair.1 refl (covered pair.1 read is.0) in
      ap (λ r. r >>= placed (tokens_of read ++ rest)) (a.full pair.0 read rest is.1 ends) ∙ place

  starts : (t : Token) → Starting reads t → Starting (with_span reads) t
  starts t s = record {
    value = (s.value, span_of_tokens (tokens_of (s.top ∷ s.others)));
    top = s.top;
    others = s.others;
    is = s.is;
    spelled = (covers s.top s.others, s.spelled);
  }

  pub spanned_laws : Laws room (with_span reads) (read_spanned p) first more false
  spanned_laws = record {
    sound = λ ts pair rest is. sound ts pair rest (case_of (p ts)) is;
    full = full;
    stopped = λ ts rest is. stopped ts rest (case_of (p ts)) is;
    deepened = λ ts rest is. deepened ts rest (case_of (p ts)) is;
    begins = λ pair read is. a.begins pair.0 read is.1;
    starts = λ t is. starts t (a.starts t is);
    empty = λ is. absurd (false≢true is);
    sample = record {
      value = (a.sample.value, span_of_tokens (tokens_of a.sample.read));
      read = a.sample.read;
      spelled = (covers_some first a.sample.read (a.begins a.sample.value a.sample.read a.sample.spelled), a.sample.spelled);
    };
  }
