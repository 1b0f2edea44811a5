-- The laws of rows that say the same, of other lists of kinds, and of one of two rows.
use Rattle.std.proofs.Common.{ℕ, ◌≡◌, Bool, true, false, cond, List, [], ◌∷◌, ◌++◌, IsTrue, inl, inr, refl, sym, ap, ◌∙◌}
use Rattle.std.proofs.lemmas.Bool.{cases_Bool, or_cases, false≢true}
use Rattle.std.proofs.lemmas.List.Folds.{list_any-append}
use Rattle.ob_lexer.specs.declared.token.Token.{Token}
use Rattle.ob_parser_spec.specs.Rows.{Row, Loaded, either}
use Rattle.ob_parser_spec.specs.Grammar.{tokens_of}
use Rattle.ob_parser_spec.specs.Readers.{Read, done, stop, deep, Reader, is_of, begin_with, read_either}
use Rattle.ob_parser_spec.proofs.Laws.{SpellsAsWell, first_token, deep_part, answered, Begin, Ends, Sound, Stopped, Deepened, Starting, Laws, AnswerAlike, sound_for, stopped_for, deepened_for, starting_for, disjoint, is_of-apart, of_first, of_second, ends-append}
use Rattle.ob_parser_spec.proofs.Both.{more_of, first_kept}

-- ---- rows that say the same

module _ {A : Type 0} (room : ℕ) (reads others : A → Row) (p : Reader A) (first more : List ℕ) (null : Bool)
    (to : SpellsAsWell reads others) (from : SpellsAsWell others reads) (a : Laws room reads p first more null) where
  pub same_laws : Laws room others p first more null
  same_laws = record {
    sound = λ ts x rest is. sound_for to (a.sound ts x rest is) (λ new e. refl);
    full = λ x read rest is ends. a.full x read rest (from x read is) ends;
    stopped = λ ts rest is. stopped_for to (a.stopped ts rest is) (λ new e. refl);
    deepened = λ ts rest is. deepened_for to (a.deepened ts rest is) (λ new e. refl);
    begins = λ x read is. a.begins x read (from x read is);
    starts = λ t is. starting_for to (a.starts t is);
    empty = λ is. let x = a.empty is in (x.0, to x.0 [] x.1);
    sample = record { value = a.sample.value; read = a.sample.read; spelled = to a.sample.value a.sample.read a.sample.spelled };
  }

-- ---- other lists of kinds

module _ {A : Type 0} (room : ℕ) (reads : A → Row) (p : Reader A) (first first' more more' : List ℕ) (null : Bool)
    (from_first : (t : Token) → IsTrue (is_of first t) → IsTrue (is_of first' t)) (to_first : (t : Token) → IsTrue (is_of first' t) → IsTrue (is_of first t))
    (ends : (ts : List Token) → Ends more' ts → Ends more ts) (a : Laws room reads p first more null) where
  cast_begin : (read : List Loaded) → Begin first null read → Begin first' null read
  cast_begin [] is = is
  cast_begin (l ∷ ls) is = from_first l.token is

  pub cast_laws : Laws room reads p first' more' null
  cast_laws = record {
    sound = a.sound;
    full = λ x read rest is out. a.full x read rest is (ends rest out);
    stopped = a.stopped;
    deepened = a.deepened;
    begins = λ x read is. cast_begin read (a.begins x read is);
    starts = λ t is. a.starts t (to_first t is);
    empty = a.empty;
    sample = a.sample;
  }

-- ---- one of two rows

-- what either spells
abbrev pub one_of : {A : Type 0} → (A → Row) → (A → Row) → A → Row
one_of first second x = either (first x) (second x)

-- the first token alone decides
pub begin_first : (kinds : List ℕ) (a b : List Token) → first_token a ≡ first_token b → begin_with kinds a ≡ begin_with kinds b
begin_first kinds [] [] e = refl
begin_first kinds [] (t ∷ ts) e = absurd cc
begin_first kinds (t ∷ ts) [] e = absurd cc
begin_first kinds (t ∷ ts) (u ∷ us) e = let same : t ≡ u = cc in ap (is_of kinds) same

pub begin_kept : (kinds : List ℕ) (ts : List Token) (read : List Loaded) (new rest : List Token) → ts ≡ tokens_of read ++ rest → first_token new ≡ first_token rest →
    begin_with kinds (tokens_of read ++ new) ≡ begin_with kinds ts
begin_kept kinds ts read new rest parts e = begin_first kinds (tokens_of read ++ new) ts (first_kept read new rest e ∙ ap first_token (sym parts))

chooses_first : (first : List ℕ) (read : List Loaded) (rest : List Token) → Begin first false read → begin_with first (tokens_of read ++ rest) ≡ true
chooses_first first [] rest is = absurd (false≢true is)
chooses_first first (l ∷ ls) rest is = is

chooses_second : (first_p first_q more : List ℕ) (null : Bool) (read : List Loaded) (rest : List Token) → disjoint first_q first_p ≡ true → Begin first_q null read →
    Ends (more_of null first_p more) rest → begin_with first_p (tokens_of read ++ rest) ≡ false
chooses_second first_p first_q more true [] rest apart is ends = (ends-append more first_p rest ends).1
chooses_second first_p first_q more false [] rest apart is ends = absurd (false≢true is)
chooses_second first_p first_q more null (l ∷ ls) rest apart is ends = is_of-apart first_q first_p l.token apart is

ends_of_more : (first more : List ℕ) (null : Bool) (rest : List Token) → Ends (more_of null first more) rest → Ends more rest
ends_of_more first more true rest ends = (ends-append more first rest ends).0
ends_of_more first more false rest ends = ends

pub begin_left : (first_p first_q : List ℕ) (null : Bool) (read : List Loaded) → Begin first_p false read → Begin (first_p ++ first_q) null read
begin_left first_p first_q null [] is = absurd (false≢true is)
begin_left first_p first_q null (l ∷ ls) is = of_first first_p first_q l.token is

begin_right : (first_p first_q : List ℕ) (null : Bool) (read : List Loaded) → Begin first_q null read → Begin (first_p ++ first_q) null read
begin_right first_p first_q null [] is = is
begin_right first_p first_q null (l ∷ ls) is = of_second first_p first_q l.token is

module _ {A : Type 0} (room : ℕ) (first second : A → Row) (p q : Reader A) (first_p more_p first_q more_q : List ℕ) (null_q : Bool) (a : Laws room first p first_p more_p false)
    (b : Laws room second q first_q more_q null_q) (apart : disjoint first_q first_p ≡ true) where
  abbrev choose : Bool → List Token → Read A
  choose does ts = cond does (p ts) (q ts)

  abbrev run : Reader A
  run = read_either first_p p q

  left : SpellsAsWell first (one_of first second)
  left x read is = inl is

  right : SpellsAsWell second (one_of first second)
  right x read is = inr is

  -- the same row is read whatever follows the first token that is left
  kept : (does : Bool) (ts : List Token) → begin_with first_p ts ≡ does → (read : List Loaded) (rest : List Token) → ts ≡ tokens_of read ++ rest →
      AnswerAlike run (choose does) read rest
  kept does ts is read rest parts new e = ap (λ t. choose t (tokens_of read ++ new)) (begin_kept first_p ts read new rest parts e ∙ is)

  sound : (ts : List Token) (x : A) (rest : List Token) → run ts ≡ done x rest → Sound room (one_of first second) run ts x rest
  sound ts x rest is = elim (cases_Bool (begin_with first_p ts)) [
    | inl does ↦ let s = a.sound ts x rest (rw does at is) in sound_for left s (kept true ts does s.read rest s.parts)
    | inr fails ↦ let s = b.sound ts x rest (rw fails at is) in sound_for right s (kept false ts fails s.read rest s.parts)
  ]

  stopped : (ts rest : List Token) → run ts ≡ stop rest → Stopped room (one_of first second) run ts rest
  stopped ts rest is = elim (cases_Bool (begin_with first_p ts)) [
    | inl does ↦ let s = a.stopped ts rest (rw does at is) in stopped_for left s (kept true ts does s.read rest s.parts)
    | inr fails ↦ let s = b.stopped ts rest (rw fails at is) in stopped_for right s (kept false ts fails s.read rest s.parts)
  ]

  deepened : (ts rest : List Token) → run ts ≡ deep rest → Deepened room (one_of first second) run ts rest
  deepened ts rest is = elim (cases_Bool (begin_with first_p ts)) [
    | inl does ↦ let s = a.deepened ts rest (rw does at is) in deepened_for left s (kept true ts does s.read rest s.parts)
    | inr fails ↦ let s = b.deepened ts rest (rw fails at is) in deepened_for right s (kept false ts fails s.read rest s.parts)
  ]

  full : (x : A) (read : List Loaded) (rest : List Token) → one_of first second x read → Ends (more_of null_q first_p (more_p ++ more_q)) rest →
      run (tokens_of read ++ rest) ≡ answered x (deep_part room read) rest
  full x read rest is ends =
      let both = ends-append more_p more_q rest (ends_of_more first_p (more_p ++ more_q) null_q rest ends) in
      elim is [
        | inl one ↦
            let does = chooses_first first_p read rest (a.begins x read one) in
            ap (λ t. choose t (tokens_of read ++ rest)) does ∙ a.full x read rest one both.0
        | inr other ↦
            let fails = chooses_second first_p first_q (more_p ++ more_q) null_q read rest apart (b.begins x read other) ends in
            ap (λ t. choose t (tokens_of read ++ rest)) fails ∙ b.full x read rest other both.1
      ]

  begins : (x : A) (read : List Loaded) → one_of first second x read → Begin (first_p ++ first_q) null_q read
  begins x read is = elim is [
    | inl one ↦ begin_left first_p first_q null_q read (a.begins x read one)
    | inr other ↦ begin_right first_p first_q null_q read (b.begins x read other)
  ]

  starts : (t : Token) → IsTrue (is_of (first_p ++ first_q) t) → Starting (one_of first second) t
  starts t is = elim (or_cases (is_of first_p t) (is_of first_q t) (sym (list_any-append _ first_p first_q) ∙ is)) [
    | inl does ↦ starting_for left (a.starts t does)
    | inr does ↦ starting_for right (b.starts t does)
  ]

  pub either_laws : Laws room (one_of first second) (read_either first_p p q) (first_p ++ first_q) (more_of null_q first_p (more_p ++ more_q)) null_q
  either_laws = record {
    sound = sound;
    full = full;
    stopped = stopped;
    deepened = deepened;
    begins = begins;
    starts = starts;
    empty = λ is. let x = b.empty is in (x.0, inr x.1);
    sample = record { value = a.sample.value; read = a.sample.read; spelled = inl a.sample.spelled };
  }
