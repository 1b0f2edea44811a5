-- The laws of a row after a token that counts.
use Rattle.std.proofs.Common.{ℕ, ◌≡◌, ◌+◌, ◌-◌, ◌<◌, ◌≤◌, nat_le, Bool, false, cond, List, [], ◌∷◌, ◌++◌, map, Option, Some, None, inl, inr, refl, sym, ap, ◌∙◌, arith}
use Rattle.std.proofs.lemmas.List.{map-append}
use Rattle.std.proofs.lemmas.Bool.{cases_Bool, leb-true, leb-false, le-leb}
use Rattle.ob_lexer.specs.declared.token.Token.{Token}
use Rattle.ob_parser_spec.specs.Rows.{Row, Loaded, ◌⨟◌, raise, raised}
use Rattle.ob_parser_spec.specs.Grammar.{tokens_of}
use Rattle.ob_parser_spec.specs.Readers.{Read, done, stop, deep, Reader, ◌>>=◌, open_if, read_opened}
use Rattle.ob_parser_spec.proofs.Laws.{first_token, deep_part, answered, Begin, Ends, Sound, Stopped, Deepened, Starting, Sample, Laws, answered-map, Case, case_of, is_done, is_stop, is_deep}
use Rattle.ob_parser_spec.proofs.One.{Takes}

-- a token with this load
abbrev pub loaded_at : ℕ → Token → Loaded
loaded_at load t = record { token = t; load = load }

-- one token with this load, of which this is read
abbrev pub took_at : {A : Type 0} → (Token → Option A) → ℕ → A → Row
took_at f load x read = (t : Token) × (f t ≡ Some x) × (read ≡ loaded_at load t ∷ [])

-- that token, and a row under it
abbrev pub opened : {A B : Type 0} → (Token → Option A) → ℕ → (B → Row) → A × B → Row
opened f load reads pair = took_at f load pair.0 ⨟ raised load (reads pair.1)

-- ---- raised rows

pub raised_tokens : (load : ℕ) (ls : List Loaded) → tokens_of (map (raise load) ls) ≡ tokens_of ls
raised_tokens load [] = refl
raised_tokens load (l ∷ ls) = ap (λ ts. l.token ∷ ts) (raised_tokens load ls)

pub tokens-raise : (load : ℕ) (ls : List Loaded) (rest : List Token) → tokens_of (map (raise load) ls) ++ rest ≡ tokens_of ls ++ rest
tokens-raise load ls rest = ap (λ ts. ts ++ rest) (raised_tokens load ls)

more_than : (a b : ℕ) → b < a → nat_le a b ≡ false
more_than a b less = elim (cases_Bool (nat_le a b)) [
  | inl is ↦ let few : a ≤ b = leb-true a b is in absurd (omega (arith, few, less))
  | inr isnt ↦ isnt
]

raised_within : (load room n : ℕ) → load ≤ room → nat_le (load + n) room ≡ nat_le n (room - load)
raised_within load room n some = elim (cases_Bool (nat_le n (room - load))) [
  | inl is ↦
      let few : n ≤ room - load = leb-true n (room - load) is in
      le-leb (load + n) room (omega (arith, few, some)) ∙ sym is
  | inr isnt ↦
      let many : room - load < n = leb-false n (room - load) isnt in
      more_than (load + n) room (omega (arith, many, some)) ∙ sym isnt
]

pub deep-raise : (load room : ℕ) (ls : List Loaded) → load ≤ room → deep_part room (map (raise load) ls) ≡ map (raise load) (deep_part (room - load) ls)
deep-raise load room [] some = refl
deep-raise load room (l ∷ ls) some = elim (cases_Bool (nat_le l.load (room - load))) [
  | inl is ↦ rw (raised_within load room l.load some, is) (deep-raise load room ls some)
  | inr isnt ↦ rw (raised_within load room l.load some, isnt) refl
]

answered-raise : {A : Type 0} (x : A) (load : ℕ) (d : List Loaded) (rest : List Token) → answered x (map (raise load) d) rest ≡ answered x d rest
answered-raise x load [] rest = refl
answered-raise x load (l ∷ ls) rest = ap (λ ts. deep (l.token ∷ ts)) (tokens-raise load ls rest)

tokens-opened : (load : ℕ) (t : Token) (ls : List Loaded) (rest : List Token) → tokens_of (loaded_at load t ∷ [] ++ map (raise load) ls) ++ rest ≡ t ∷ (tokens_of ls ++ rest)
tokens-opened load t ls rest = ap (λ ts. t ∷ ts) (tokens-raise load ls rest)

within-opened : (load room : ℕ) (t : Token) (ls : List Loaded) → load ≤ room → deep_part (room - load) ls ≡ [] → deep_part room (loaded_at load t ∷ [] ++ map (raise load) ls) ≡ []
within-opened load room t ls some e = rw (le-leb load room some) (deep-raise load room ls some ∙ ap (map (raise load)) e)

-- ---- the laws

module _ {A B : Type 0} (f : Token → Option A) (load room : ℕ) (reads : B → Row) (p : ℕ → Reader B) (kinds first more : List ℕ) (null : Bool) (takes : Takes f kinds)
    (sample : Sample reads) (a : load ≤ room → Laws (room - load) reads (p (room - load)) first more null) where
  abbrev given : A → B → List Token → Read (A × B)
  given x y rest = done (x, y) rest

  abbrev inside : A → Token → List Token → Bool → Read (A × B)
  inside x t ts does = cond does (p (room - load) ts >>= given x) (deep (t ∷ ts))

  abbrev run : Reader (A × B)
  run = read_opened f load room p

  -- where there is room, the reader after the token is asked
  asks : (t : Token) (x : A) (ts : List Token) → f t ≡ Some x → load ≤ room → run (t ∷ ts) ≡ (p (room - load) ts >>= given x)
  asks t x ts is some = ap (λ o. open_if o load room p t ts) is ∙ ap (inside x t ts) (le-leb load room some)

  spelled_opened : (t : Token) (x : A) (y : B) (ls : List Loaded) → f t ≡ Some x → reads y ls → opened f load reads (x, y) (loaded_at load t ∷ [] ++ map (raise load) ls)
  spelled_opened t x y ls is spelled = (loaded_at load t ∷ [], map (raise load) ls, refl, (t, is, refl), (ls, refl, spelled))

  sound_inner : (t : Token) (x : A) (ts : List Token) (y : B) (rest : List Token) → f t ≡ Some x → load ≤ room → Sound (room - load) reads (p (room - load)) ts y rest →
      Sound room (opened f load reads) run (t ∷ ts) (x, y) rest
  sound_inner t x ts y rest is some s = record {
    read = loaded_at load t ∷ [] ++ map (raise load) s.read;
    parts = ap (λ l. t ∷ l) s.parts ∙ sym (tokens-opened load t s.read rest);
    spelled = spelled_opened t x y s.read is s.spelled;
    within = within-opened load room t s.read some s.within;
    local = λ new e. ap run (tokens-opened load t s.read new) ∙ asks t x (tokens_of s.read ++ new) is some ∙ ap (λ r. r >>= given x) (s.local new e);
  }

  stopped_inner : (t : Token) (x : A) (ts rest : List Token) → f t ≡ Some x → load ≤ room → Stopped (room - load) reads (p (room - load)) ts rest → Stopped room (opened f load reads) run (t ∷ ts) rest
  stopped_inner t x ts rest is some s = record {
    value = (x, s.value);
    read = loaded_at load t ∷ [] ++ map (raise load) s.read;
    others = map (raise load) s.others;
    parts = ap (λ l. t ∷ l) s.parts ∙ sym (tokens-opened load t s.read rest);
    spelled = rw (← map-append (raise load) s.read s.others) (spelled_opened t x s.value (s.read ++ s.others) is s.spelled);
    within = within-opened load room t s.read some s.within;
    local = λ new e. ap run (tokens-opened load t s.read new) ∙ asks t x (tokens_of s.read ++ new) is some ∙ ap (λ r. r >>= given x) (s.local new e);
  }

  deepened_inner : (t : Token) (x : A) (ts rest : List Token) → f t ≡ Some x → load ≤ room → Deepened (room - load) reads (p (room - load)) ts rest →
      Deepened room (opened f load reads) run (t ∷ ts) rest
  deepened_inner t x ts rest is some s =
      record {
        value = (x, s.value);
        read = loaded_at load t ∷ [] ++ map (raise load) s.read;
        top = raise load s.top;
        others = map (raise load) s.others;
        back = s.back;
        parts = ap (λ l. t ∷ l) s.parts ∙ sym (tokens-opened load t s.read rest);
        here = s.here;
        spelled = rw (← map-append (raise load) s.read (s.top ∷ s.others)) (spelled_opened t x s.value (s.read ++ s.top ∷ s.others) is s.spelled);
        within = within-opened load room t s.read some s.within;
        passes = omega (arith, s.passes, some);
        local = λ new e. ap run (tokens-opened load t s.read new) ∙ asks t x (tokens_of s.read ++ new) is some ∙ ap (λ r. r >>= given x) (s.local new e);
      }

  deep_at : (t : Token) (x : A) (new : List Token) → f t ≡ Some x → room < load → first_token new ≡ Some t → run new ≡ deep new
  deep_at t x [] is many e = absurd cc
  deep_at t x (u ∷ us) is many e =
      let same : u ≡ t = cc in
      let some : f u ≡ Some x = ap f same ∙ is in
      ap (λ o. open_if o load room p u us) some ∙ ap (inside x u us) (more_than load room many)

  deepened_here : (t : Token) (x : A) (ts : List Token) → f t ≡ Some x → room < load → Deepened room (opened f load reads) run (t ∷ ts) (t ∷ ts)
  deepened_here t x ts is many = record {
    value = (x, sample.value);
    read = [];
    top = loaded_at load t;
    others = map (raise load) sample.read;
    back = ts;
    parts = refl;
    here = refl;
    spelled = spelled_opened t x sample.value sample.read is sample.spelled;
    within = refl;
    passes = many;
    local = λ new e. deep_at t x new is many e;
  }

  stops : (t : Token) (new : List Token) → f t ≡ None → first_token new ≡ Some t → run new ≡ stop new
  stops t [] e first = absurd cc
  stops t (u ∷ us) e first = let same : u ≡ t = cc in ap (λ o. open_if o load room p u us) (ap f same ∙ e)

  ends_there : (new : List Token) → first_token new ≡ None → run new ≡ stop new
  ends_there [] first = refl
  ends_there (u ∷ us) first = absurd cc

  stopped_here : (ts : List Token) → ((new : List Token) → first_token new ≡ first_token ts → run new ≡ stop new) → Stopped room (opened f load reads) run ts ts
  stopped_here ts local = record {
    value = (takes.value, sample.value);
    read = [];
    others = loaded_at load takes.token ∷ [] ++ map (raise load) sample.read;
    parts = refl;
    spelled = spelled_opened takes.token takes.value sample.value sample.read takes.one sample.spelled;
    within = refl;
    local = local;
  }

  -- ---- the cases

  sound_in : (t : Token) (x : A) (ts : List Token) (pair : A × B) (rest : List Token) → f t ≡ Some x → load ≤ room → Case (p (room - load) ts) →
      (p (room - load) ts >>= given x) ≡ done pair rest → Sound room (opened f load reads) run (t ∷ ts) pair rest
  sound_in t x ts pair rest is some (is_done y left e) gives =
      let gives' : done (x, y) left ≡ done pair rest = rw e at gives in
      let same : (x, y) ≡ pair = cc in
      let end : left ≡ rest = cc in
      rw (← same, ← end) (sound_inner t x ts y left is some ((a some).sound ts y left e))
  sound_in t x ts pair rest is some (is_stop left e) gives = let gives' : stop left ≡ done pair rest = rw e at gives in absurd cc
  sound_in t x ts pair rest is some (is_deep left e) gives = let gives' : deep left ≡ done pair rest = rw e at gives in absurd cc

  stopped_in : (t : Token) (x : A) (ts rest : List Token) → f t ≡ Some x → load ≤ room → Case (p (room - load) ts) → (p (room - load) ts >>= given x) ≡ stop rest →
      Stopped room (opened f load reads) run (t ∷ ts) rest
  stopped_in t x ts rest is some (is_stop left e) gives =
      let gives' : stop left ≡ stop rest = rw e at gives in
      let end : left ≡ rest = cc in
      rw (← end) (stopped_inner t x ts left is some ((a some).stopped ts left e))
  stopped_in t x ts rest is some (is_done y left e) gives = let gives' : ◌≡◌ {A = Read (A × B)} (done (x, y) left) (stop rest) = rw e at gives in absurd cc
  stopped_in t x ts rest is some (is_deep left e) gives = let gives' : deep left ≡ stop rest = rw e at gives in absurd cc

  deepened_in : (t : Token) (x : A) (ts rest : List Token) → f t ≡ Some x → load ≤ room → Case (p (room - load) ts) → (p (room - load) ts >>= given x) ≡ deep rest →
      Deepened room (opened f load reads) run (t ∷ ts) rest
  deepened_in t x ts rest is some (is_deep left e) gives =
      let gives' : deep left ≡ deep rest = rw e at gives in
      let end : left ≡ rest = cc in
      rw (← end) (deepened_inner t x ts left is some ((a some).deepened ts left e))
  deepened_in t x ts rest is some (is_done y left e) gives = let gives' : ◌≡◌ {A = Read (A × B)} (done (x, y) left) (deep rest) = rw e at gives in absurd cc
  deepened_in t x ts rest is some (is_stop left e) gives = let gives' : stop left ≡ deep rest = rw e at gives in absurd cc

  sound_some : (t : Token) (ts : List Token) (pair : A × B) (rest : List Token) (o : Option A) → f t ≡ o → open_if o load room p t ts ≡ done pair rest →
      Sound room (opened f load reads) run (t ∷ ts) pair rest
  sound_some t ts pair rest None e is = absurd cc
  sound_some t ts pair rest (Some x) e is = elim (cases_Bool (nat_le load room)) [
    | inl does ↦ sound_in t x ts pair rest e (leb-true load room does) (case_of (p (room - load) ts)) (rw does at is)
    | inr fails ↦ let is' : deep (t ∷ ts) ≡ done pair rest = rw fails at is in absurd cc
  ]

  sound : (ts : List Token) (pair : A × B) (rest : List Token) → run ts ≡ done pair rest → Sound room (opened f load reads) run ts pair rest
  sound [] pair rest is = absurd cc
  sound (t ∷ ts) pair rest is = sound_some t ts pair rest (f t) refl is

  stopped_some : (t : Token) (ts rest : List Token) (o : Option A) → f t ≡ o → open_if o load room p t ts ≡ stop rest → Stopped room (opened f load reads) run (t ∷ ts) rest
  stopped_some t ts rest None e is =
      let end : t ∷ ts ≡ rest = cc in
      rw (← end) (stopped_here (t ∷ ts) (λ new first. stops t new e first))
  stopped_some t ts rest (Some x) e is = elim (cases_Bool (nat_le load room)) [
    | inl does ↦ stopped_in t x ts rest e (leb-true load room does) (case_of (p (room - load) ts)) (rw does at is)
    | inr fails ↦ let is' : deep (t ∷ ts) ≡ stop rest = rw fails at is in absurd cc
  ]

  stopped : (ts rest : List Token) → run ts ≡ stop rest → Stopped room (opened f load reads) run ts rest
  stopped [] rest is = let end : [] ≡ rest = cc in rw (← end) (stopped_here [] ends_there)
  stopped (t ∷ ts) rest is = stopped_some t ts rest (f t) refl is

  deepened_some : (t : Token) (ts rest : List Token) (o : Option A) → f t ≡ o → open_if o load room p t ts ≡ deep rest → Deepened room (opened f load reads) run (t ∷ ts) rest
  deepened_some t ts rest None e is = absurd cc
  deepened_some t ts rest (Some x) e is = elim (cases_Bool (nat_le load room)) [
    | inl does ↦ deepened_in t x ts rest e (leb-true load room does) (case_of (p (room - load) ts)) (rw does at is)
    | inr fails ↦
        let is' : deep (t ∷ ts) ≡ deep rest = rw fails at is in
        let end : t ∷ ts ≡ rest = cc in
        rw (← end) (deepened_here t x ts e (leb-false load room fails))
  ]

  deepened : (ts rest : List Token) → run ts ≡ deep rest → Deepened room (opened f load reads) run ts rest
  deepened [] rest is = absurd cc
  deepened (t ∷ ts) rest is = deepened_some t ts rest (f t) refl is

  full_in : (t : Token) (x : A) (y : B) (ls : List Loaded) (rest : List Token) → f t ≡ Some x → reads y ls → Ends more rest →
      run (t ∷ (tokens_of ls ++ rest)) ≡ answered (x, y) (deep_part room (loaded_at load t ∷ map (raise load) ls)) rest
  full_in t x y ls rest is spelled ends = elim (cases_Bool (nat_le load room)) [
    | inl does ↦
        let some : load ≤ room = leb-true load room does in
        let part : deep_part room (loaded_at load t ∷ map (raise load) ls) ≡ map (raise load) (deep_part (room - load) ls) = rw does (deep-raise load room ls some) in
        let inner = deep_part (room - load) ls in
        asks t x (tokens_of ls ++ rest) is some ∙ ap (λ r. r >>= given x) ((a some).full y ls rest spelled ends)
        ∙ answered-map (λ z. (x, z)) y inner rest ∙ sym (answered-raise (x, y) load inner rest) ∙ ap (λ d. answered (x, y) d rest) (sym part)
    | inr fails ↦
        let part : deep_part room (loaded_at load t ∷ map (raise load) ls) ≡ loaded_at load t ∷ map (raise load) ls = rw fails refl in
        ap (λ o. open_if o load room p t (tokens_of ls ++ rest)) is ∙ ap (inside x t (tokens_of ls ++ rest)) fails
        ∙ ap deep (ap (λ l. t ∷ l) (sym (tokens-raise load ls rest))) ∙ ap (λ d. answered (x, y) d rest) (sym part)
  ]

  full : (pair : A × B) (read : List Loaded) (rest : List Token) → opened f load reads pair read → Ends more rest → run (tokens_of read ++ rest) ≡ answered pair (deep_part room read) rest
  full pair read rest is ends =
      let t = is.3.0 in
      let ls = is.4.0 in
      let all : read ≡ loaded_at load t ∷ map (raise load) ls = is.2 ∙ ap (λ f. f ++ is.1) is.3.2 ∙ ap (λ b. loaded_at load t ∷ b) is.4.1 in
      rw all (ap run (ap (λ l. t ∷ l) (tokens-raise load ls rest)) ∙ full_in t pair.0 pair.1 ls rest is.3.1 is.4.2 ends)

  begins : (pair : A × B) (read : List Loaded) → opened f load reads pair read → Begin kinds false read
  begins pair read is =
      let all : read ≡ loaded_at load is.3.0 ∷ is.1 = is.2 ∙ ap (λ f. f ++ is.1) is.3.2 in
      rw all (takes.is is.3.0 pair.0 is.3.1)

  starts : (t : Token) → (x : A) × (f t ≡ Some x) → Starting (opened f load reads) t
  starts t x = record {
    value = (x.0, sample.value);
    top = loaded_at load t;
    others = map (raise load) sample.read;
    is = refl;
    spelled = spelled_opened t x.0 sample.value sample.read x.1 sample.spelled;
  }

  pub opened_laws : Laws room (opened f load reads) run kinds more false
  opened_laws = record {
    sound = sound;
    full = full;
    stopped = stopped;
    deepened = deepened;
    begins = begins;
    starts = λ t is. starts t (takes.of t is);
    empty = λ is. absurd cc;
    sample = record {
      value = (takes.value, sample.value);
      read = loaded_at load takes.token ∷ [] ++ map (raise load) sample.read;
      spelled = spelled_opened takes.token takes.value sample.value sample.read takes.one sample.spelled;
    };
  }
