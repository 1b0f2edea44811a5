-- The laws of one row after another.
use Rattle.std.proofs.Common.{ℕ, ◌≡◌, Bool, true, false, ◌&&◌, List, [], ◌∷◌, ◌++◌, IsTrue, inl, inr, refl, sym, ap, ◌∙◌, append_assoc}
use Rattle.std.proofs.lemmas.Bool.{and_parts, false≢true, or_cases}
use Rattle.std.proofs.lemmas.List.Folds.{list_any-append}
use Rattle.ob_lexer.specs.declared.token.Token.{Token}
use Rattle.ob_parser_spec.specs.Rows.{Row, Loaded, ◌⨟◌}
use Rattle.ob_parser_spec.specs.Grammar.{tokens_of}
use Rattle.ob_parser_spec.specs.Readers.{Read, done, stop, deep, Reader, ◌>>=◌, is_of, and_after, read_then, read_both}
use Rattle.ob_parser_spec.proofs.Laws.{first_token, deep_part, answered, Begin, Ends, Sound, Stopped, Deepened, Starting, Sample, Laws, tokens-append, deep-none, deep-some, answered-map, disjoint, is_of-apart, of_first, of_second, ends-append, Case, case_of, is_done, is_stop, is_deep}

-- what a row and the one that follows spell
abbrev pub then : {A B : Type 0} → (A → Row) → (A → B → Row) → A × B → Row
then first second pair = first pair.0 ⨟ second pair.0 pair.1

-- what both spell
abbrev pub both : {A B : Type 0} → (A → Row) → (B → Row) → A × B → Row
both first second = then first (λ x. second)

-- what a row that may be empty goes on with, and the one before it
abbrev pub more_of : Bool → List ℕ → List ℕ → List ℕ
more_of true before after = after ++ before
more_of false before after = after

-- what a row that may be empty begins with, and the one after it
abbrev pub first_of : Bool → List ℕ → List ℕ → List ℕ
first_of true before after = before ++ after
first_of false before after = before

-- ---- the tokens between them

ends_before : (first more_p more_q : List ℕ) (null : Bool) (back : List Loaded) (rest : List Token) → disjoint first more_p ≡ true → Begin first null back →
    Ends (more_of null more_p more_q) rest → Ends more_p (tokens_of back ++ rest)
ends_before first more_p more_q true [] rest apart begin ends = (ends-append more_q more_p rest ends).1
ends_before first more_p more_q false [] rest apart begin ends = absurd (false≢true begin)
ends_before first more_p more_q null (l ∷ ls) rest apart begin ends = is_of-apart first more_p l.token apart begin

ends_after : (more_p more_q : List ℕ) (null : Bool) (rest : List Token) → Ends (more_of null more_p more_q) rest → Ends more_q rest
ends_after more_p more_q true rest ends = (ends-append more_q more_p rest ends).0
ends_after more_p more_q false rest ends = ends

begin_both : (first_p first_q : List ℕ) (null_p null_q : Bool) (front back : List Loaded) → Begin first_p null_p front → Begin first_q null_q back →
    Begin (first_of null_p first_p first_q) (null_p && null_q) (front ++ back)
begin_both first_p first_q true null_q [] [] is begin = begin
begin_both first_p first_q false null_q [] back is begin = absurd (false≢true is)
begin_both first_p first_q true null_q [] (l ∷ ls) is begin = of_second first_p first_q l.token begin
begin_both first_p first_q true null_q (l ∷ ls) back is begin = of_first first_p first_q l.token is
begin_both first_p first_q false null_q (l ∷ ls) back is begin = is

data Part (first : List ℕ) (second : List ℕ) (null : Bool) (t : Token) : Type 0 where
  in_first : IsTrue (is_of first t) → Part first second null t
  in_second : IsTrue null → IsTrue (is_of second t) → Part first second null t

part_of : (first second : List ℕ) (null : Bool) (t : Token) → IsTrue (is_of (first_of null first second) t) → Part first second null t
part_of first second true t is = elim (or_cases (is_of first t) (is_of second t) (sym (list_any-append _ first second) ∙ is)) [
  | inl is1 ↦ in_first is1
  | inr is2 ↦ in_second refl is2
]
part_of first second false t is = in_first is

-- of tokens that begin with those of a row, the first one depends on the first that is left
pub first_kept : (back : List Loaded) (new rest : List Token) → first_token new ≡ first_token rest → first_token (tokens_of back ++ new) ≡ first_token (tokens_of back ++ rest)
first_kept [] new rest e = e
first_kept (l ∷ ls) new rest e = refl

-- ---- answers

answered-after : {A B : Type 0} (room : ℕ) (second : A → B → Row) (q : A → Reader B) (x : A) (y : B) (front back d : List Loaded) (rest : List Token) → deep_part room front ≡ d →
    q x (tokens_of back ++ rest) ≡ answered y (deep_part room back) rest → (answered x d (tokens_of back ++ rest) >>= and_after q) ≡ answered (x, y) (deep_part room (front ++ back)) rest
answered-after room second q x y front back [] rest e is =
    ap (λ r. r >>= (λ z l. done (x, z) l)) is ∙ answered-map (λ z. (x, z)) y (deep_part room back) rest ∙ ap (λ d. answered (x, y) d rest) (sym (deep-none room front back e))
answered-after room second q x y front back (l ∷ ls) rest e is =
    ap (λ ts. deep ts) (sym (tokens-append (l ∷ ls) back rest)) ∙ ap (λ d. answered (x, y) d rest) (sym (deep-some room front back l ls e))

module _ {A B : Type 0} (room : ℕ) (first : A → Row) (second : A → B → Row) (p : Reader A) (q : A → Reader B) (first_p more_p first_q more_q : List ℕ) (null_p null_q : Bool)
    (a : Laws room first p first_p more_p null_p) (b : (x : A) → Laws room (second x) (q x) first_q more_q null_q) (apart : disjoint first_q more_p ≡ true) where
  full : (pair : A × B) (read : List Loaded) (rest : List Token) → then first second pair read → Ends (more_of null_q more_p more_q) rest →
      read_then p q (tokens_of read ++ rest) ≡ answered pair (deep_part room read) rest
  full pair read rest is ends =
      let front = is.0 in
      let back = is.1 in
      let onward = ends_before first_q more_p more_q null_q back rest apart ((b pair.0).begins pair.1 back is.4) ends in
      let before : p (tokens_of front ++ (tokens_of back ++ rest)) ≡ answered pair.0 (deep_part room front) (tokens_of back ++ rest) = a.full pair.0 front (tokens_of back ++ rest) is.3 onward in
      let after : q pair.0 (tokens_of back ++ rest) ≡ answered pair.1 (deep_part room back) rest = (b pair.0).full pair.1 back rest is.4 (ends_after more_p more_q null_q rest ends) in
      let split : tokens_of read ++ rest ≡ tokens_of front ++ (tokens_of back ++ rest) = ap (λ r. tokens_of r ++ rest) is.2 ∙ tokens-append front back rest in
      let whole = answered-after room second q pair.0 pair.1 front back (deep_part room front) rest refl after in
      ap (read_then p q) split ∙ ap (λ r. r >>= and_after q) before ∙ whole ∙ ap (λ r. answered pair (deep_part room r) rest) (sym is.2)

  sound_at : (ts : List Token) (x : A) (mid : List Token) (y : B) (rest : List Token) → Sound room first p ts x mid → Sound room (second x) (q x) mid y rest →
      Sound room (then first second) (read_then p q) ts (x, y) rest
  sound_at ts x mid y rest s t = record {
    read = s.read ++ t.read;
    parts = s.parts ∙ ap (λ m. tokens_of s.read ++ m) t.parts ∙ sym (tokens-append s.read t.read rest);
    spelled = (s.read, t.read, refl, s.spelled, t.spelled);
    within = deep-none room s.read t.read s.within ∙ t.within;
    local = λ new e.
        let same : first_token (tokens_of t.read ++ new) ≡ first_token mid = first_kept t.read new rest e ∙ ap first_token (sym t.parts) in
        ap (read_then p q) (tokens-append s.read t.read new) ∙ ap (λ r. r >>= and_after q) (s.local (tokens_of t.read ++ new) same) ∙ ap (λ r. r >>= (λ y l. done (x, y) l)) (t.local new e);
  }

  sound_mid : (ts : List Token) (x : A) (mid : List Token) (pair : A × B) (rest : List Token) → Sound room first p ts x mid → Case (q x mid) → and_after q x mid ≡ done pair rest →
      Sound room (then first second) (read_then p q) ts pair rest
  sound_mid ts x mid pair rest s (is_done y left e) is =
      let is' : done (x, y) left ≡ done pair rest = rw e at is in
      let same : (x, y) ≡ pair = cc in
      let end : left ≡ rest = cc in
      rw (← same, ← end) (sound_at ts x mid y left s ((b x).sound mid y left e))
  sound_mid ts x mid pair rest s (is_stop left e) is = let is' : stop left ≡ done pair rest = rw e at is in absurd cc
  sound_mid ts x mid pair rest s (is_deep left e) is = let is' : deep left ≡ done pair rest = rw e at is in absurd cc

  sound : (ts : List Token) (pair : A × B) (rest : List Token) → Case (p ts) → read_then p q ts ≡ done pair rest → Sound room (then first second) (read_then p q) ts pair rest
  sound ts pair rest (is_done x mid e) is = sound_mid ts x mid pair rest (a.sound ts x mid e) (case_of (q x mid)) (rw e at is)
  sound ts pair rest (is_stop left e) is = let is' : stop left ≡ done pair rest = rw e at is in absurd cc
  sound ts pair rest (is_deep left e) is = let is' : deep left ≡ done pair rest = rw e at is in absurd cc

  stopped_first : (ts rest : List Token) → (s : Stopped room first p ts rest) → Sample (second s.value) → Stopped room (then first second) (read_then p q) ts rest
  stopped_first ts rest s y = record {
    value = (s.value, y.value);
    read = s.read;
    others = s.others ++ y.read;
    parts = s.parts;
    spelled = (s.read ++ s.others, y.read, sym (append_assoc s.read s.others y.read), s.spelled, y.spelled);
    within = s.within;
    local = λ new e. ap (λ r. r >>= and_after q) (s.local new e);
  }

  stopped_second : (ts : List Token) (x : A) (mid rest : List Token) → Sound room first p ts x mid → Stopped room (second x) (q x) mid rest → Stopped room (then first second) (read_then p q) ts rest
  stopped_second ts x mid rest s t = record {
    value = (x, t.value);
    read = s.read ++ t.read;
    others = t.others;
    parts = s.parts ∙ ap (λ m. tokens_of s.read ++ m) t.parts ∙ sym (tokens-append s.read t.read rest);
    spelled = (s.read, t.read ++ t.others, append_assoc s.read t.read t.others, s.spelled, t.spelled);
    within = deep-none room s.read t.read s.within ∙ t.within;
    local = λ new e.
        let same : first_token (tokens_of t.read ++ new) ≡ first_token mid = first_kept t.read new rest e ∙ ap first_token (sym t.parts) in
        ap (read_then p q) (tokens-append s.read t.read new) ∙ ap (λ r. r >>= and_after q) (s.local (tokens_of t.read ++ new) same) ∙ ap (λ r. r >>= (λ y l. done (x, y) l)) (t.local new e);
  }

  stopped_mid : (ts : List Token) (x : A) (mid rest : List Token) → Sound room first p ts x mid → Case (q x mid) → and_after q x mid ≡ stop rest → Stopped room (then first second) (read_then p q) ts rest
  stopped_mid ts x mid rest s (is_done y left e) is = let is' : ◌≡◌ {A = Read (A × B)} (done (x, y) left) (stop rest) = rw e at is in absurd cc
  stopped_mid ts x mid rest s (is_stop left e) is =
      let is' : stop left ≡ stop rest = rw e at is in
      let same : left ≡ rest = cc in
      rw (← same) (stopped_second ts x mid left s ((b x).stopped mid left e))
  stopped_mid ts x mid rest s (is_deep left e) is = let is' : deep left ≡ stop rest = rw e at is in absurd cc

  stopped : (ts rest : List Token) → Case (p ts) → read_then p q ts ≡ stop rest → Stopped room (then first second) (read_then p q) ts rest
  stopped ts rest (is_done x mid e) is = stopped_mid ts x mid rest (a.sound ts x mid e) (case_of (q x mid)) (rw e at is)
  stopped ts rest (is_stop left e) is =
      let is' : stop left ≡ stop rest = rw e at is in
      let same : left ≡ rest = cc in
      rw (← same) (stopped_first ts left (a.stopped ts left e) (b (a.stopped ts left e).value).sample)
  stopped ts rest (is_deep left e) is = let is' : deep left ≡ stop rest = rw e at is in absurd cc

  deepened_first : (ts rest : List Token) → (s : Deepened room first p ts rest) → Sample (second s.value) → Deepened room (then first second) (read_then p q) ts rest
  deepened_first ts rest s y = record {
    value = (s.value, y.value);
    read = s.read;
    top = s.top;
    others = s.others ++ y.read;
    back = s.back;
    parts = s.parts;
    here = s.here;
    spelled = (s.read ++ s.top ∷ s.others, y.read, sym (append_assoc s.read (s.top ∷ s.others) y.read), s.spelled, y.spelled);
    within = s.within;
    passes = s.passes;
    local = λ new e. ap (λ r. r >>= and_after q) (s.local new e);
  }

  deepened_second : (ts : List Token) (x : A) (mid rest : List Token) → Sound room first p ts x mid → Deepened room (second x) (q x) mid rest →
      Deepened room (then first second) (read_then p q) ts rest
  deepened_second ts x mid rest s t = record {
    value = (x, t.value);
    read = s.read ++ t.read;
    top = t.top;
    others = t.others;
    back = t.back;
    parts = s.parts ∙ ap (λ m. tokens_of s.read ++ m) t.parts ∙ sym (tokens-append s.read t.read rest);
    here = t.here;
    spelled = (s.read, t.read ++ t.top ∷ t.others, append_assoc s.read t.read (t.top ∷ t.others), s.spelled, t.spelled);
    within = deep-none room s.read t.read s.within ∙ t.within;
    passes = t.passes;
    local = λ new e.
        let same : first_token (tokens_of t.read ++ new) ≡ first_token mid = first_kept t.read new rest e ∙ ap first_token (sym t.parts) in
        ap (read_then p q) (tokens-append s.read t.read new) ∙ ap (λ r. r >>= and_after q) (s.local (tokens_of t.read ++ new) same) ∙ ap (λ r. r >>= (λ y l. done (x, y) l)) (t.local new e);
  }

  deepened_mid : (ts : List Token) (x : A) (mid rest : List Token) → Sound room first p ts x mid → Case (q x mid) → and_after q x mid ≡ deep rest →
      Deepened room (then first second) (read_then p q) ts rest
  deepened_mid ts x mid rest s (is_done y left e) is = let is' : ◌≡◌ {A = Read (A × B)} (done (x, y) left) (deep rest) = rw e at is in absurd cc
  deepened_mid ts x mid rest s (is_deep left e) is =
      let is' : deep left ≡ deep rest = rw e at is in
      let same : left ≡ rest = cc in
      rw (← same) (deepened_second ts x mid left s ((b x).deepened mid left e))
  deepened_mid ts x mid rest s (is_stop left e) is = let is' : stop left ≡ deep rest = rw e at is in absurd cc

  deepened : (ts rest : List Token) → Case (p ts) → read_then p q ts ≡ deep rest → Deepened room (then first second) (read_then p q) ts rest
  deepened ts rest (is_done x mid e) is = deepened_mid ts x mid rest (a.sound ts x mid e) (case_of (q x mid)) (rw e at is)
  deepened ts rest (is_deep left e) is =
      let is' : deep left ≡ deep rest = rw e at is in
      let same : left ≡ rest = cc in
      rw (← same) (deepened_first ts left (a.deepened ts left e) (b (a.deepened ts left e).value).sample)
  deepened ts rest (is_stop left e) is = let is' : stop left ≡ deep rest = rw e at is in absurd cc

  begins : (pair : A × B) (read : List Loaded) → then first second pair read → Begin (first_of null_p first_p first_q) (null_p && null_q) read
  begins pair read is = rw is.2 (begin_both first_p first_q null_p null_q is.0 is.1 (a.begins pair.0 is.0 is.3) ((b pair.0).begins pair.1 is.1 is.4))

  starting_first : (t : Token) → (s : Starting first t) → Sample (second s.value) → Starting (then first second) t
  starting_first t s y = record {
    value = (s.value, y.value);
    top = s.top;
    others = s.others ++ y.read;
    is = s.is;
    spelled = (s.top ∷ s.others, y.read, refl, s.spelled, y.spelled);
  }

  starting_second : (t : Token) → (x : (x : A) × first x []) → Starting (second x.0) t → Starting (then first second) t
  starting_second t x s = record {
    value = (x.0, s.value);
    top = s.top;
    others = s.others;
    is = s.is;
    spelled = ([], s.top ∷ s.others, refl, x.1, s.spelled);
  }

  starts : (t : Token) → Part first_p first_q null_p t → Starting (then first second) t
  starts t (in_first is) = starting_first t (a.starts t is) (b (a.starts t is).value).sample
  starts t (in_second null is) = starting_second t (a.empty null) ((b (a.empty null).0).starts t is)

  empty : IsTrue (null_p && null_q) → (pair : A × B) × then first second pair []
  empty is =
      let nulls = and_parts null_p null_q is in
      let x = a.empty nulls.0 in
      let y = (b x.0).empty nulls.1 in
      ((x.0, y.0), ([], [], refl, x.1, y.1))

  sampled : (x : Sample first) → Sample (second x.value) → Sample (then first second)
  sampled x y = record { value = (x.value, y.value); read = x.read ++ y.read; spelled = (x.read, y.read, refl, x.spelled, y.spelled) }

  pub then_laws : Laws room (then first second) (read_then p q) (first_of null_p first_p first_q) (more_of null_q more_p more_q) (null_p && null_q)
  then_laws = record {
    sound = λ ts pair rest is. sound ts pair rest (case_of (p ts)) is;
    full = full;
    stopped = λ ts rest is. stopped ts rest (case_of (p ts)) is;
    deepened = λ ts rest is. deepened ts rest (case_of (p ts)) is;
    begins = begins;
    starts = λ t is. starts t (part_of first_p first_q null_p t is);
    empty = empty;
    sample = sampled a.sample (b a.sample.value).sample;
  }

module _ {A B : Type 0} (room : ℕ) (first : A → Row) (second : B → Row) (p : Reader A) (q : Reader B) (first_p more_p first_q more_q : List ℕ) (null_p null_q : Bool)
    (a : Laws room first p first_p more_p null_p) (b : Laws room second q first_q more_q null_q) (apart : disjoint first_q more_p ≡ true) where
  pub both_laws : Laws room (both first second) (read_both p q) (first_of null_p first_p first_q) (more_of null_q more_p more_q) (null_p && null_q)
  both_laws = then_laws room first (λ x. second) p (λ x. q) first_p more_p first_q more_q null_p null_q a (λ x. b) apart
