-- The laws of a row of one token.
use Rattle.std.proofs.Common.{ℕ, ◌≡◌, false, cond, List, [], ◌∷◌, ◌++◌, Option, Some, None, IsTrue, refl, sym, ap, ◌∙◌, arith}
use Rattle.std.proofs.lemmas.Bool.{le-leb}
use Rattle.ob_base.specs.declared.fault.Span.{Span}
use Rattle.ob_lexer.specs.declared.token.Token.{Token}
use Rattle.ob_lexer.specs.declared.token.TokenKind.{TokenKind}
use Rattle.ob_parser_spec.specs.Rows.{Row, Loaded}
use Rattle.ob_parser_spec.specs.Grammar.{tokens_of}
use Rattle.ob_parser_spec.specs.Readers.{done, stop, deep, is_of, read_if, read_token}
use Rattle.ob_parser_spec.proofs.Laws.{first_token, deep_part, answered, Ends, Sound, Stopped, Deepened, Starting, Laws}

-- a token of this kind, at this place
abbrev pub token_of : TokenKind → Span → Token
token_of k span = record { kind = k; span = span }

-- some place
abbrev pub somewhere : Span
somewhere = record { start = 0; end = 0; line = 1; column = 1 }

-- a token with no load of its own
abbrev pub free : Token → Loaded
free t = record { token = t; load = 0 }

pub free_within : (room : ℕ) (t : Token) → deep_part room (free t ∷ []) ≡ []
free_within room t = ap (λ b. cond b [] (free t ∷ [])) (le-leb 0 room (omega arith))

-- one token, of which this is read
abbrev pub took : {A : Type 0} → (Token → Option A) → A → Row
took f x read = (t : Token) × (f t ≡ Some x) × (read ≡ free t ∷ [])

-- which tokens they are: those of these kinds, and this is one
pub record Takes {A : Type 0} (f : Token → Option A) (kinds : List ℕ) : Type 0 where
  pub of : (t : Token) → IsTrue (is_of kinds t) → (x : A) × (f t ≡ Some x)
  pub is : (t : Token) (x : A) → f t ≡ Some x → IsTrue (is_of kinds t)
  pub token : Token
  pub value : A
  pub one : f token ≡ Some value

module _ {A : Type 0} (room : ℕ) (f : Token → Option A) (kinds : List ℕ) (takes : Takes f kinds) where
  sound_some : (t : Token) (ts : List Token) (x : A) (rest : List Token) (o : Option A) → f t ≡ o → read_if o t ts ≡ done x rest → Sound room (took f) (read_token f) (t ∷ ts) x rest
  sound_some t ts x rest None e is = absurd cc
  sound_some t ts x rest (Some y) e is =
      let same : y ≡ x = cc in
      let left : ts ≡ rest = cc in
      let some : f t ≡ Some x = e ∙ ap Some same in
      record {
        read = free t ∷ [];
        parts = ap (λ l. t ∷ l) left;
        spelled = (t, some, refl);
        within = free_within room t;
        local = λ new first. ap (λ o. read_if o t new) some;
      }

  sound : (ts : List Token) (x : A) (rest : List Token) → read_token f ts ≡ done x rest → Sound room (took f) (read_token f) ts x rest
  sound [] x rest is = absurd cc
  sound (t ∷ ts) x rest is = sound_some t ts x rest (f t) refl is

  full : (x : A) (read : List Loaded) (rest : List Token) → took f x read → Ends [] rest → read_token f (tokens_of read ++ rest) ≡ answered x (deep_part room read) rest
  full x read rest is ends = rw (is.2, free_within room is.0) (ap (λ o. read_if o is.0 rest) is.1)

  stops : (t : Token) (ts : List Token) (new : List Token) → f t ≡ None → first_token new ≡ Some t → read_token f new ≡ stop new
  stops t ts [] e first = absurd cc
  stops t ts (u ∷ us) e first = let same : u ≡ t = cc in ap (λ o. read_if o u us) (ap f same ∙ e)

  ends_there : (new : List Token) → first_token new ≡ None → read_token f new ≡ stop new
  ends_there [] first = refl
  ends_there (u ∷ us) first = absurd cc

  stopped_none : (t : Token) (ts rest : List Token) (o : Option A) → f t ≡ o → read_if o t ts ≡ stop rest → Stopped room (took f) (read_token f) (t ∷ ts) rest
  stopped_none t ts rest (Some y) e is = absurd cc
  stopped_none t ts rest None e is =
      let same : t ∷ ts ≡ rest = cc in
      record {
        value = takes.value;
        read = [];
        others = free takes.token ∷ [];
        parts = same;
        spelled = (takes.token, takes.one, refl);
        within = refl;
        local = λ new first. stops t ts new e (first ∙ ap first_token (sym same));
      }

  stopped : (ts rest : List Token) → read_token f ts ≡ stop rest → Stopped room (took f) (read_token f) ts rest
  stopped [] rest is =
      let same : [] ≡ rest = cc in
      record {
        value = takes.value;
        read = [];
        others = free takes.token ∷ [];
        parts = same;
        spelled = (takes.token, takes.one, refl);
        within = refl;
        local = λ new first. ends_there new (first ∙ ap first_token (sym same));
      }
  stopped (t ∷ ts) rest is = stopped_none t ts rest (f t) refl is

  deepened_some : (t : Token) (ts rest : List Token) (o : Option A) → read_if o t ts ≡ deep rest → Deepened room (took f) (read_token f) (t ∷ ts) rest
  deepened_some t ts rest None is = absurd cc
  deepened_some t ts rest (Some y) is = absurd cc

  deepened : (ts rest : List Token) → read_token f ts ≡ deep rest → Deepened room (took f) (read_token f) ts rest
  deepened [] rest is = absurd cc
  deepened (t ∷ ts) rest is = deepened_some t ts rest (f t) is

  starts : (t : Token) → (x : A) × (f t ≡ Some x) → Starting (took f) t
  starts t x = record { value = x.0; top = free t; others = []; is = refl; spelled = (t, x.1, refl) }

  pub one_laws : Laws room (took f) (read_token f) kinds [] false
  one_laws = record {
    sound = sound;
    full = full;
    stopped = stopped;
    deepened = deepened;
    begins = λ x read is. rw is.2 (takes.is is.0 x is.1);
    starts = λ t is. starts t (takes.of t is);
    empty = λ is. absurd cc;
    sample = record { value = takes.value; read = free takes.token ∷ []; spelled = (takes.token, takes.one, refl) };
  }
