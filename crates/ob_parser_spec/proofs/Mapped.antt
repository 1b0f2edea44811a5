-- The laws of something made of what a row reads.
use Rattle.std.proofs.Common.{ℕ, ◌≡◌, Bool, List, [], ◌∷◌, ◌++◌, sym, ap, ◌∙◌}
use Rattle.ob_lexer.specs.declared.token.Token.{Token}
use Rattle.ob_parser_spec.specs.Rows.{Row, Loaded}
use Rattle.ob_parser_spec.specs.Grammar.{tokens_of}
use Rattle.ob_parser_spec.specs.Readers.{Read, done, stop, deep, Reader, ◌>>=◌, read_as}
use Rattle.ob_parser_spec.proofs.Laws.{SpellsAsWell, deep_part, answered, Ends, Sound, Stopped, Deepened, Starting, Laws, answered-map, Case, case_of, is_done, is_stop, is_deep}

-- what is made is spelled as that of which it is made
pub record Makes {A B : Type 0} (f : A → B) (parts : A → Row) (reads : B → Row) : Type 0 where
  pub to : SpellsAsWell parts (λ x. reads (f x))
  pub from : (y : B) (read : List Loaded) → reads y read → (x : A) × (y ≡ f x) × parts x read

module _ {A B : Type 0} (room : ℕ) (f : A → B) (parts : A → Row) (reads : B → Row) (p : Reader A) (first more : List ℕ) (null : Bool) (makes : Makes f parts reads)
    (a : Laws room parts p first more null) where
  abbrev made : A → List Token → Read B
  made x rest = done (f x) rest

  sound : (ts : List Token) (y : B) (rest : List Token) → Case (p ts) → read_as f p ts ≡ done y rest → Sound room reads (read_as f p) ts y rest
  sound ts y rest (is_done x left e) is =
      let is' : done (f x) left ≡ done y rest = rw e at is in
      let same : f x ≡ y = cc in
      let end : left ≡ rest = cc in
      let s = a.sound ts x left e in
      rw (← same, ← end) (record {
        read = s.read;
        parts = s.parts;
        spelled = makes.to x s.read s.spelled;
        within = s.within;
        local = λ new e. ap (λ r. r >>= made) (s.local new e);
      })
  sound ts y rest (is_stop left e) is = let is' : stop left ≡ done y rest = rw e at is in absurd cc
  sound ts y rest (is_deep left e) is = let is' : deep left ≡ done y rest = rw e at is in absurd cc

  full : (y : B) (read : List Loaded) (rest : List Token) → (x : A) × (y ≡ f x) × parts x read → Ends more rest → read_as f p (tokens_of read ++ rest) ≡ answered y (deep_part room read) rest
  full y read rest of ends = ap (λ r. r >>= made) (a.full of.0 read rest of.2 ends) ∙ answered-map f of.0 (deep_part room read) rest ∙ ap (λ z. answered z (deep_part room read) rest) (sym of.1)

  stopped : (ts rest : List Token) → Case (p ts) → read_as f p ts ≡ stop rest → Stopped room reads (read_as f p) ts rest
  stopped ts rest (is_stop left e) is =
      let is' : stop left ≡ stop rest = rw e at is in
      let end : left ≡ rest = cc in
      let s = a.stopped ts left e in
      rw (← end) (record {
        value = f s.value;
        read = s.read;
        others = s.others;
        parts = s.parts;
        spelled = makes.to s.value (s.read ++ s.others) s.spelled;
        within = s.within;
        local = λ new e. ap (λ r. r >>= made) (s.local new e);
      })
  stopped ts rest (is_done x left e) is = let is' : done (f x) left ≡ stop rest = rw e at is in absurd cc
  stopped ts rest (is_deep left e) is = let is' : deep left ≡ stop rest = rw e at is in absurd cc

  deepened : (ts rest : List Token) → Case (p ts) → read_as f p ts ≡ deep rest → Deepened room reads (read_as f p) ts rest
  deepened ts rest (is_deep left e) is =
      let is' : deep left ≡ deep rest = rw e at is in
      let end : left ≡ rest = cc in
      let s = a.deepened ts left e in
      rw (← end) (record {
        value = f s.value;
        read = s.read;
        top = s.top;
        others = s.others;
        back = s.back;
        parts = s.parts;
        here = s.here;
        spelled = makes.to s.value (s.read ++ s.top ∷ s.others) s.spelled;
        within = s.within;
        passes = s.passes;
        local = λ new e. ap (λ r. r >>= made) (s.local new e);
      })
  deepened ts rest (is_done x left e) is = let is' : done (f x) left ≡ deep rest = rw e at is in absurd cc
  deepened ts rest (is_stop left e) is = let is' : stop left ≡ deep rest = rw e at is in absurd cc

  starts : (t : Token) → Starting parts t → Starting reads t
  starts t s = record { value = f s.value; top = s.top; others = s.others; is = s.is; spelled = makes.to s.value (s.top ∷ s.others) s.spelled }

  pub as_laws : Laws room reads (read_as f p) first more null
  as_laws = record {
    sound = λ ts y rest is. sound ts y rest (case_of (p ts)) is;
    full = λ y read rest is. full y read rest (makes.from y read is);
    stopped = λ ts rest is. stopped ts rest (case_of (p ts)) is;
    deepened = λ ts rest is. deepened ts rest (case_of (p ts)) is;
    begins = λ y read is. let of = makes.from y read is in a.begins of.0 read of.2;
    starts = λ t is. starts t (a.starts t is);
    empty = λ is. let x = a.empty is in (f x.0, makes.to x.0 [] x.1);
    sample = record { value = f a.sample.value; read = a.sample.read; spelled = makes.to a.sample.value a.sample.read a.sample.spelled };
  }
