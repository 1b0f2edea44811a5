-- What holds of a reader and of the row that it reads.
use Rattle.std.proofs.Common.{ℕ, ◌≡◌, ◌<◌, nat_le, nat_eq, Bool, true, false, not, ◌&&◌, cond, List, [], ◌∷◌, ◌++◌, Option, Some, None, IsTrue, inl, inr, refl, sym, ap, ◌∙◌, append_assoc}
use Rattle.std.proofs.lemmas.List.{map-append}
use Rattle.std.proofs.lemmas.List.Folds.{list_any-append}
use Rattle.std.proofs.lemmas.Bool.{and_parts, or_parts, or_from, or_left, or_right, cases_Bool, eqb-true, not-true, true≢false}
use Rattle.std.specs.List.{list_any}
use Rattle.ob_lexer.specs.declared.token.Token.{Token}
use Rattle.ob_parser_spec.specs.Rows.{Row, Loaded}
use Rattle.ob_parser_spec.specs.Grammar.{tokens_of}
use Rattle.ob_parser_spec.specs.Readers.{Read, done, stop, deep, Reader, ◌>>=◌, number_of_kind, is_of, begin_with}

-- what spells the one spells the other
abbrev pub SpellsAsWell : {A : Type 0} → (A → Row) → (A → Row) → Type 0
SpellsAsWell {A} reads others = (x : A) (read : List Loaded) → reads x read → others x read

-- the first of these tokens
abbrev pub first_token : List Token → Option Token
first_token [] = None
first_token (t ∷ ts) = Some t

-- what is left from the first token on whose load passes the room
abbrev pub deep_part : ℕ → List Loaded → List Loaded
deep_part room [] = []
deep_part room (l ∷ ls) = cond (nat_le l.load room) (deep_part room ls) (l ∷ ls)

-- what is answered where these are read, of which those are left from the first too deep one on
abbrev pub answered : {A : Type 0} → A → List Loaded → List Token → Read A
answered x [] rest = done x rest
answered x (l ∷ ls) rest = deep (tokens_of (l ∷ ls) ++ rest)

-- tokens of a row begin with one of these kinds, or there are none
abbrev pub Begin : List ℕ → Bool → List Loaded → Type 0
Begin first null [] = IsTrue null
Begin first null (l ∷ ls) = IsTrue (is_of first l.token)

-- these tokens don't begin with what the row could go on with
abbrev pub Ends : List ℕ → List Token → Type 0
Ends more rest = begin_with more rest ≡ false

-- What has been read is spelled so, within the room; of what is left the first token alone has been looked at.
pub record Sound {A : Type 0} (room : ℕ) (reads : A → Row) (run : Reader A) (ts : List Token) (x : A) (rest : List Token) : Type 0 where
  pub read : List Loaded
  pub parts : ts ≡ tokens_of read ++ rest
  pub spelled : reads x read
  pub within : deep_part room read ≡ []
  pub local : (new : List Token) → first_token new ≡ first_token rest → run (tokens_of read ++ new) ≡ done x new

pub record Stopped {A : Type 0} (room : ℕ) (reads : A → Row) (run : Reader A) (ts rest : List Token) : Type 0 where
  pub value : A
  pub read : List Loaded
  pub others : List Loaded
  pub parts : ts ≡ tokens_of read ++ rest
  pub spelled : reads value (read ++ others)
  pub within : deep_part room read ≡ []
  pub local : (new : List Token) → first_token new ≡ first_token rest → run (tokens_of read ++ new) ≡ stop new

pub record Deepened {A : Type 0} (room : ℕ) (reads : A → Row) (run : Reader A) (ts rest : List Token) : Type 0 where
  pub value : A
  pub read : List Loaded
  pub top : Loaded
  pub others : List Loaded
  pub back : List Token
  pub parts : ts ≡ tokens_of read ++ rest
  pub here : rest ≡ top.token ∷ back
  pub spelled : reads value (read ++ top ∷ others)
  pub within : deep_part room read ≡ []
  pub passes : room < top.load
  pub local : (new : List Token) → first_token new ≡ first_token rest → run (tokens_of read ++ new) ≡ deep new

pub record Starting {A : Type 0} (reads : A → Row) (token : Token) : Type 0 where
  pub value : A
  pub top : Loaded
  pub others : List Loaded
  pub is : top.token ≡ token
  pub spelled : reads value (top ∷ others)

pub record Sample {A : Type 0} (reads : A → Row) : Type 0 where
  pub value : A
  pub read : List Loaded
  pub spelled : reads value read

pub record Laws {A : Type 0} (room : ℕ) (reads : A → Row) (run : Reader A) (first more : List ℕ) (null : Bool) : Type 0 where
  pub sound : (ts : List Token) (x : A) (rest : List Token) → run ts ≡ done x rest → Sound room reads run ts x rest
  pub full : (x : A) (read : List Loaded) (rest : List Token) → reads x read → Ends more rest → run (tokens_of read ++ rest) ≡ answered x (deep_part room read) rest
  pub stopped : (ts rest : List Token) → run ts ≡ stop rest → Stopped room reads run ts rest
  pub deepened : (ts rest : List Token) → run ts ≡ deep rest → Deepened room reads run ts rest
  pub begins : (x : A) (read : List Loaded) → reads x read → Begin first null read
  pub starts : (t : Token) → IsTrue (is_of first t) → Starting reads t
  pub empty : IsTrue null → (x : A) × reads x []
  pub sample : Sample reads

-- ---- what is said of one reader and its row, of others that answer and spell the same

-- two readers answer alike after what is read, where the first token that is left is this
abbrev pub AnswerAlike : {A : Type 0} → Reader A → Reader A → List Loaded → List Token → Type 0
AnswerAlike other run read rest = (new : List Token) → first_token new ≡ first_token rest → other (tokens_of read ++ new) ≡ run (tokens_of read ++ new)

module _ {A : Type 0} {room : ℕ} {reads others : A → Row} (gives : SpellsAsWell reads others) where
  module _ {run other : Reader A} {ts rest : List Token} where
    pub sound_for : {x : A} (s : Sound room reads run ts x rest) → AnswerAlike other run s.read rest → Sound room others other ts x rest
    sound_for {x} s same = record {
      read = s.read;
      parts = s.parts;
      spelled = gives x s.read s.spelled;
      within = s.within;
      local = λ new e. same new e ∙ s.local new e;
    }

    pub stopped_for : (s : Stopped room reads run ts rest) → AnswerAlike other run s.read rest → Stopped room others other ts rest
    stopped_for s same = record {
      value = s.value;
      read = s.read;
      others = s.others;
      parts = s.parts;
      spelled = gives s.value (s.read ++ s.others) s.spelled;
      within = s.within;
      local = λ new e. same new e ∙ s.local new e;
    }

    pub deepened_for : (s : Deepened room reads run ts rest) → AnswerAlike other run s.read rest → Deepened room others other ts rest
    deepened_for s same = record {
      value = s.value;
      read = s.read;
      top = s.top;
      others = s.others;
      back = s.back;
      parts = s.parts;
      here = s.here;
      spelled = gives s.value (s.read ++ s.top ∷ s.others) s.spelled;
      within = s.within;
      passes = s.passes;
      local = λ new e. same new e ∙ s.local new e;
    }

module _ {A : Type 0} {reads others : A → Row} (gives : SpellsAsWell reads others) where
  pub starting_for : {t : Token} → Starting reads t → Starting others t
  starting_for s = record { value = s.value; top = s.top; others = s.others; is = s.is; spelled = gives s.value (s.top ∷ s.others) s.spelled }

not_nil : {l : Loaded} {ls : List Loaded} → ¬ (l ∷ ls ≡ [])
not_nil e = cc

-- ---- tokens and loads of lists put together

pub tokens-append : (a b : List Loaded) (rest : List Token) → tokens_of (a ++ b) ++ rest ≡ tokens_of a ++ (tokens_of b ++ rest)
tokens-append a b rest = ap (λ t. t ++ rest) (map-append (λ l. l.token) a b) ∙ append_assoc (tokens_of a) (tokens_of b) rest

pub deep-none : (room : ℕ) (a b : List Loaded) → deep_part room a ≡ [] → deep_part room (a ++ b) ≡ deep_part room b
deep-none room [] b e = refl
deep-none room (l ∷ ls) b e = elim (cases_Bool (nat_le l.load room)) [
  | inl is ↦ rw is (deep-none room ls b (rw is at e))
  | inr isnt ↦ absurd (not_nil (rw isnt at e))
]

pub deep-some : (room : ℕ) (a b : List Loaded) (l : Loaded) (ls : List Loaded) → deep_part room a ≡ l ∷ ls → deep_part room (a ++ b) ≡ (l ∷ ls) ++ b
deep-some room [] b l ls e = absurd (not_nil (sym e))
deep-some room (k ∷ ks) b l ls e = elim (cases_Bool (nat_le k.load room)) [
  | inl is ↦ rw is (deep-some room ks b l ls (rw is at e))
  | inr isnt ↦ rw isnt (ap (λ t. t ++ b) (rw isnt at e))
]

-- ---- what is answered

pub answered-map : {A B : Type 0} (f : A → B) (x : A) (d : List Loaded) (rest : List Token) → (answered x d rest >>= (λ y r. done (f y) r)) ≡ answered (f x) d rest
answered-map f x [] rest = refl
answered-map f x (l ∷ ls) rest = refl

pub answered_not_stop : {A : Type 0} (x : A) (d : List Loaded) (rest left : List Token) → ¬ (answered x d rest ≡ stop left)
answered_not_stop x [] rest left e = cc
answered_not_stop x (l ∷ ls) rest left e = cc

-- ---- kinds of tokens

-- no kind is in both
abbrev pub disjoint : List ℕ → List ℕ → Bool
disjoint [] others = true
disjoint (k ∷ ks) others = not (list_any (nat_eq k) others) && disjoint ks others

of_neither : (n : ℕ) (ks others : List ℕ) → disjoint ks others ≡ true → list_any (nat_eq n) ks ≡ true → list_any (nat_eq n) others ≡ false
of_neither n [] others apart is = absurd (true≢false (sym is))
of_neither n (k ∷ ks) others apart is =
    let parts = and_parts (not (list_any (nat_eq k) others)) (disjoint ks others) apart in
    elim (cases_Bool (nat_eq n k)) [
      | inl same ↦ let e : n ≡ k = eqb-true n k same in rw e (not-true (list_any (nat_eq k) others) parts.0)
      | inr other ↦ of_neither n ks others parts.1 (rw other at is)
    ]

pub is_of-apart : (a b : List ℕ) (t : Token) → disjoint a b ≡ true → IsTrue (is_of a t) → is_of b t ≡ false
is_of-apart a b t apart is = of_neither (number_of_kind t.kind) a b apart is

pub of_first : (a b : List ℕ) (t : Token) → IsTrue (is_of a t) → IsTrue (is_of (a ++ b) t)
of_first a b t is = list_any-append (nat_eq (number_of_kind t.kind)) a b ∙ or_left (is_of a t) (is_of b t) is

pub of_second : (a b : List ℕ) (t : Token) → IsTrue (is_of b t) → IsTrue (is_of (a ++ b) t)
of_second a b t is = list_any-append (nat_eq (number_of_kind t.kind)) a b ∙ or_right (is_of a t) (is_of b t) is

pub ends-append : (a b : List ℕ) (ts : List Token) → Ends (a ++ b) ts → Ends a ts × Ends b ts
ends-append a b [] e = (refl, refl)
ends-append a b (t ∷ ts) e = or_parts (is_of a t) (is_of b t) (sym (list_any-append (nat_eq (number_of_kind t.kind)) a b) ∙ e)

pub ends-both : (a b : List ℕ) (ts : List Token) → Ends a ts → Ends b ts → Ends (a ++ b) ts
ends-both a b [] p q = refl
ends-both a b (t ∷ ts) p q = list_any-append (nat_eq (number_of_kind t.kind)) a b ∙ or_from (is_of a t) (is_of b t) p q

pub ends-twice : (a : List ℕ) (ts : List Token) → Ends a ts → Ends (a ++ a) ts
ends-twice a ts e = ends-both a a ts e e

pub ends-again : (a b : List ℕ) (ts : List Token) → Ends (a ++ b) ts → Ends ((a ++ b) ++ a) ts
ends-again a b ts e = ends-both (a ++ b) a ts e (ends-append a b ts e).0

-- ---- the cases of an answer

pub data Case {A : Type 0} (r : Read A) : Type 0 where
  is_done : (x : A) (rest : List Token) → r ≡ done x rest → Case r
  is_stop : (rest : List Token) → r ≡ stop rest → Case r
  is_deep : (rest : List Token) → r ≡ deep rest → Case r

pub case_of : {A : Type 0} (r : Read A) → Case r
case_of (done x rest) = is_done x rest refl
case_of (stop rest) = is_stop rest refl
case_of (deep rest) = is_deep rest refl
