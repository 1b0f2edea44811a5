-- The laws of one of two rows, as the first two tokens say.
use Rattle.std.proofs.Common.{ℕ, suc, ◌≡◌, ◌≤◌, nat_le, Bool, true, false, cond, ◌&&◌, List, [], ◌∷◌, ◌++◌, length, Some, IsTrue, inl, inr, refl, sym, ap, subst, ◌∙◌, arith, length-append}
use Rattle.std.proofs.lemmas.Bool.{cases_Bool, le-leb, false≢true}
use Rattle.std.proofs.lemmas.List.{length-map}
use Rattle.ob_lexer.specs.declared.token.Token.{Token}
use Rattle.ob_parser_spec.specs.Rows.{Row, Loaded}
use Rattle.ob_parser_spec.specs.Grammar.{tokens_of}
use Rattle.ob_parser_spec.specs.Readers.{Read, done, stop, deep, Reader, is_of, begin_with, begin_with_both, read_ahead}
use Rattle.ob_parser_spec.proofs.Laws.{SpellsAsWell, first_token, deep_part, answered, Begin, Ends, Sound, Stopped, Deepened, Laws, AnswerAlike, sound_for, stopped_for, deepened_for, starting_for, answered_not_stop, disjoint, is_of-apart, ends-append}
use Rattle.ob_parser_spec.proofs.One.{free}
use Rattle.ob_parser_spec.proofs.Both.{first_kept}
use Rattle.ob_parser_spec.proofs.Either.{one_of, begin_first, begin_kept}

-- the second of these tokens is of one of these kinds
pub record Two (seconds : List ℕ) (read : List Loaded) : Type 0 where
  pub one : Loaded
  pub two : Loaded
  pub others : List Loaded
  pub begins : read ≡ one ∷ two ∷ others
  pub second : IsTrue (is_of seconds two.token)

-- of kinds that these aren't, it isn't
pub not_second : (kinds seconds : List ℕ) (one two : Loaded) (others : List Loaded) → disjoint kinds seconds ≡ true → Two kinds (one ∷ two ∷ others) → is_of seconds two.token ≡ false
not_second kinds seconds one two others apart t =
    let same : two ≡ t.two = let e = t.begins in cc in
    ap (λ l. is_of seconds l.token) same ∙ is_of-apart kinds seconds t.two.token apart t.second

-- ---- a row that begins with a token of no load isn't left at that token

deep_length : (room : ℕ) (ls : List Loaded) → length (deep_part room ls) ≤ length ls
deep_length room [] = omega arith
deep_length room (l ∷ ls) = elim (cases_Bool (nat_le l.load room)) [
  | inl is ↦ let few = deep_length room ls in rw is (omega (arith, few))
  | inr isnt ↦ rw isnt (omega arith)
]

tokens_length : (ls : List Loaded) → length (tokens_of ls ++ []) ≡ length ls
tokens_length ls = let whole = length-append (tokens_of ls) [] in omega (arith, whole, length-map ls (λ l. l.token))

not_deepened : {A : Type 0} (x : A) (d whole : List Loaded) → suc (length d) ≤ length whole → ¬ (answered x d [] ≡ deep (tokens_of whole ++ []))
not_deepened x [] whole fewer e = cc
not_deepened x (l ∷ ls) whole fewer e =
    let same : tokens_of (l ∷ ls) ++ [] ≡ tokens_of whole ++ [] = cc in
    let count : length (tokens_of (l ∷ ls) ++ []) ≡ length (tokens_of whole ++ []) = ap length same in
    omega (arith, count, tokens_length (l ∷ ls), tokens_length whole, fewer)

-- a row that may begin with this token, which has no load
abbrev pub Free : {A : Type 0} → (A → Row) → Token → Type 0
Free {A} reads t = (x : A) × (others : List Loaded) × reads x (free t ∷ others)

-- what is read has a token, or the first one is of none of these kinds
data Settled (firsts : List ℕ) (read : List Loaded) (ts : List Token) : Type 0 where
  some : (l : Loaded) (ls : List Loaded) → read ≡ l ∷ ls → Settled firsts read ts
  other : begin_with firsts ts ≡ false → Settled firsts read ts

module _ {A : Type 0} (room : ℕ) (reads : A → Row) (p : Reader A) (firsts first more : List ℕ) (a : Laws room reads p first more false)
    (frees : (t : Token) → IsTrue (is_of firsts t) → Free reads t) where
  never_stops : (t : Token) → Free reads t → ¬ ((new : List Token) → first_token new ≡ Some t → p new ≡ stop new)
  never_stops t of local =
      let whole = free t ∷ of.1 in
      answered_not_stop of.0 (deep_part room whole) [] (tokens_of whole ++ []) (sym (a.full of.0 whole [] of.2 refl) ∙ local (tokens_of whole ++ []) refl)

  never_deep : (t : Token) → Free reads t → ¬ ((new : List Token) → first_token new ≡ Some t → p new ≡ deep new)
  never_deep t of local =
      let whole = free t ∷ of.1 in
      let fewer : length (deep_part room whole) ≤ length of.1 = rw (le-leb 0 room (omega arith)) (deep_length room of.1) in
      not_deepened of.0 (deep_part room whole) whole (omega (arith, fewer)) (sym (a.full of.0 whole [] of.2 refl) ∙ local (tokens_of whole ++ []) refl)

  settled_begin : (read : List Loaded) (ts : List Token) → Begin first false read → Settled firsts read ts
  settled_begin [] ts is = absurd (false≢true is)
  settled_begin (l ∷ ls) ts is = some l ls refl

  settled_stop : (read : List Loaded) (ts rest : List Token) → ts ≡ tokens_of read ++ rest →
      ((new : List Token) → first_token new ≡ first_token rest → p (tokens_of read ++ new) ≡ stop new) → Settled firsts read ts
  settled_stop (l ∷ ls) ts rest parts local = some l ls refl
  settled_stop [] [] rest parts local = other refl
  settled_stop [] (t ∷ ts) rest parts local = elim (cases_Bool (is_of firsts t)) [
    | inl is ↦ absurd (never_stops t (frees t is) (λ new e. local new (e ∙ ap first_token parts)))
    | inr isnt ↦ other isnt
  ]

  settled_deep : (read : List Loaded) (ts rest : List Token) → ts ≡ tokens_of read ++ rest →
      ((new : List Token) → first_token new ≡ first_token rest → p (tokens_of read ++ new) ≡ deep new) → Settled firsts read ts
  settled_deep (l ∷ ls) ts rest parts local = some l ls refl
  settled_deep [] [] rest parts local = other refl
  settled_deep [] (t ∷ ts) rest parts local = elim (cases_Bool (is_of firsts t)) [
    | inl is ↦ absurd (never_deep t (frees t is) (λ new e. local new (e ∙ ap first_token parts)))
    | inr isnt ↦ other isnt
  ]

-- ---- the laws

module _ {A : Type 0} {room : ℕ} {P Q : A → Row} {p q : Reader A} {firsts first_q more_p more_q : List ℕ} (seconds : List ℕ)
    (a : Laws room P p firsts more_p false) (b : Laws room Q q first_q more_q false) (within : (t : Token) → IsTrue (is_of firsts t) → IsTrue (is_of first_q t))
    (second_p : (x : A) (read : List Loaded) → P x read → Two seconds read)
    (never_q : (x : A) (one two : Loaded) (others : List Loaded) → Q x (one ∷ two ∷ others) → IsTrue (is_of firsts one.token) → is_of seconds two.token ≡ false)
    (free_p : (t : Token) → IsTrue (is_of firsts t) → Free P t) (free_q : (t : Token) → IsTrue (is_of firsts t) → Free Q t) where
  abbrev choose : Bool → List Token → Read A
  choose does ts = cond does (p ts) (q ts)

  abbrev ahead : List Token → Bool
  ahead ts = begin_with_both firsts seconds ts

  abbrev run : Reader A
  run = read_ahead firsts seconds p q

  -- the test sees the second token at most, and that only after a token of the first kinds
  not_first : (ts : List Token) → begin_with firsts ts ≡ false → ahead ts ≡ false
  not_first [] isnt = refl
  not_first (t ∷ ts) isnt = ap (λ b. b && begin_with seconds ts) isnt

  ahead_some : (l : Loaded) (ls : List Loaded) (new rest : List Token) → first_token new ≡ first_token rest → ahead (tokens_of (l ∷ ls) ++ new) ≡ ahead (tokens_of (l ∷ ls) ++ rest)
  ahead_some l ls new rest e = ap (λ b. is_of firsts l.token && b) (begin_first seconds (tokens_of ls ++ new) (tokens_of ls ++ rest) (first_kept ls new rest e))

  ahead_kept : (read : List Loaded) (ts new rest : List Token) → Settled firsts read ts → ts ≡ tokens_of read ++ rest →
      first_token new ≡ first_token rest → ahead (tokens_of read ++ new) ≡ ahead ts
  ahead_kept read ts new rest (some l ls is) parts e =
      ap (λ r. ahead (tokens_of r ++ new)) is ∙ ahead_some l ls new rest e ∙ ap (λ r. ahead (tokens_of r ++ rest)) (sym is) ∙ ap ahead (sym parts)
  ahead_kept read ts new rest (other isnt) parts e =
      not_first (tokens_of read ++ new) (begin_kept firsts ts read new rest parts e ∙ isnt) ∙ sym (not_first ts isnt)

  -- so the same row is read whatever follows the first token that is left
  kept : (does : Bool) (ts : List Token) → ahead ts ≡ does → (read : List Loaded) (rest : List Token) → ts ≡ tokens_of read ++ rest → Settled firsts read ts →
      AnswerAlike run (choose does) read rest
  kept does ts is read rest parts settled new e = ap (λ t. choose t (tokens_of read ++ new)) (ahead_kept read ts new rest settled parts e ∙ is)

  -- ---- what is answered

  one : SpellsAsWell P (one_of P Q)
  one x read is = inl is

  two : SpellsAsWell Q (one_of P Q)
  two x read is = inr is

  sound : (ts : List Token) (x : A) (rest : List Token) → run ts ≡ done x rest → Sound room (one_of P Q) run ts x rest
  sound ts x rest is = elim (cases_Bool (ahead ts)) [
    | inl does ↦
        let s = a.sound ts x rest (rw does at is) in
        sound_for one s (kept true ts does s.read rest s.parts (settled_begin room P p firsts firsts more_p a free_p s.read ts (a.begins x s.read s.spelled)))
    | inr fails ↦
        let s = b.sound ts x rest (rw fails at is) in
        sound_for two s (kept false ts fails s.read rest s.parts (settled_begin room Q q firsts first_q more_q b free_q s.read ts (b.begins x s.read s.spelled)))
  ]

  stopped : (ts rest : List Token) → run ts ≡ stop rest → Stopped room (one_of P Q) run ts rest
  stopped ts rest is = elim (cases_Bool (ahead ts)) [
    | inl does ↦
        let s = a.stopped ts rest (rw does at is) in
        stopped_for one s (kept true ts does s.read rest s.parts (settled_stop room P p firsts firsts more_p a free_p s.read ts rest s.parts s.local))
    | inr fails ↦
        let s = b.stopped ts rest (rw fails at is) in
        stopped_for two s (kept false ts fails s.read rest s.parts (settled_stop room Q q firsts first_q more_q b free_q s.read ts rest s.parts s.local))
  ]

  deepened : (ts rest : List Token) → run ts ≡ deep rest → Deepened room (one_of P Q) run ts rest
  deepened ts rest is = elim (cases_Bool (ahead ts)) [
    | inl does ↦
        let s = a.deepened ts rest (rw does at is) in
        deepened_for one s (kept true ts does s.read rest s.parts (settled_deep room P p firsts firsts more_p a free_p s.read ts rest s.parts s.local))
    | inr fails ↦
        let s = b.deepened ts rest (rw fails at is) in
        deepened_for two s (kept false ts fails s.read rest s.parts (settled_deep room Q q firsts first_q more_q b free_q s.read ts rest s.parts s.local))
  ]

  -- ---- what is spelled

  ahead_true : (one two : Loaded) (others : List Loaded) (rest : List Token) → Begin firsts false (one ∷ two ∷ others) → IsTrue (is_of seconds two.token) →
      ahead (tokens_of (one ∷ two ∷ others) ++ rest) ≡ true
  ahead_true one two others rest is second = rw (is, second) refl

  ahead_p : (x : A) (read : List Loaded) (rest : List Token) → P x read → Two seconds read → ahead (tokens_of read ++ rest) ≡ true
  ahead_p x read rest is two =
      let begins : Begin firsts false (two.one ∷ two.two ∷ two.others) = subst (Begin firsts false) two.begins (a.begins x read is) in
      ap (λ r. ahead (tokens_of r ++ rest)) two.begins ∙ ahead_true two.one two.two two.others rest begins two.second

  ahead_q : (x : A) (read : List Loaded) (rest : List Token) → Q x read → Begin first_q false read → Ends seconds rest → ahead (tokens_of read ++ rest) ≡ false
  ahead_q x [] rest is begins ends = absurd (false≢true begins)
  ahead_q x (l ∷ []) rest is begins ends = elim (cases_Bool (is_of firsts l.token)) [
    | inl does ↦ rw (does, ends) refl
    | inr isnt ↦ rw isnt refl
  ]
  ahead_q x (l ∷ k ∷ ls) rest is begins ends = elim (cases_Bool (is_of firsts l.token)) [
    | inl does ↦ rw (does, never_q x l k ls is does) refl
    | inr isnt ↦ rw isnt refl
  ]

  full : (x : A) (read : List Loaded) (rest : List Token) → one_of P Q x read → Ends (more_p ++ (more_q ++ seconds)) rest → run (tokens_of read ++ rest) ≡ answered x (deep_part room read) rest
  full x read rest is ends =
      let outer = ends-append more_p (more_q ++ seconds) rest ends in
      let inner = ends-append more_q seconds rest outer.1 in
      elim is [
        | inl left ↦ ap (λ t. choose t (tokens_of read ++ rest)) (ahead_p x read rest left (second_p x read left)) ∙ a.full x read rest left outer.0
        | inr right ↦ ap (λ t. choose t (tokens_of read ++ rest)) (ahead_q x read rest right (b.begins x read right) inner.1) ∙ b.full x read rest right inner.0
      ]

  begin_p : (read : List Loaded) → Begin firsts false read → Begin first_q false read
  begin_p [] is = is
  begin_p (l ∷ ls) is = within l.token is

  begins : (x : A) (read : List Loaded) → one_of P Q x read → Begin first_q false read
  begins x read is = elim is [
    | inl left ↦ begin_p read (a.begins x read left)
    | inr right ↦ b.begins x read right
  ]

  pub ahead_laws : Laws room (one_of P Q) run first_q (more_p ++ (more_q ++ seconds)) false
  ahead_laws = record {
    sound = sound;
    full = full;
    stopped = stopped;
    deepened = deepened;
    begins = begins;
    starts = λ t is. starting_for two (b.starts t is);
    empty = λ is. absurd (false≢true is);
    sample = record { value = b.sample.value; read = b.sample.read; spelled = inr b.sample.spelled };
  }
