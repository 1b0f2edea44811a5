-- The laws of a row that may be left out.
use Rattle.std.proofs.Common.{ℕ, ◌≡◌, true, false, List, [], ◌∷◌, ◌++◌, Option, Some, None, inl, inr, refl, sym, ap, subst, append-nil}
use Rattle.ob_lexer.specs.declared.token.Token.{Token}
use Rattle.ob_parser_spec.specs.Rows.{Row, Loaded, never, nothing, maybe}
use Rattle.ob_parser_spec.specs.Grammar.{tokens_of}
use Rattle.ob_parser_spec.specs.Readers.{done, Reader, read_as, read_maybe}
use Rattle.ob_parser_spec.proofs.Laws.{SpellsAsWell, deep_part, answered, Begin, Ends, Sound, Laws, disjoint}
use Rattle.ob_parser_spec.proofs.Mapped.{Makes, as_laws}
use Rattle.ob_parser_spec.proofs.Either.{same_laws, one_of, either_laws}

-- this value, spelled by nothing
abbrev pub is_value : {A : Type 0} → A → A → Row
is_value v x read = (x ≡ v) × nothing read

module _ {A : Type 0} (room : ℕ) (v : A) where
  given_sound : (ts : List Token) (x : A) (rest : List Token) → done v ts ≡ done x rest → Sound room (is_value v) (λ l. done v l) ts x rest
  given_sound ts x rest is =
      let same : v ≡ x = cc in
      let end : ts ≡ rest = cc in
      record { read = []; parts = end; spelled = (sym same, refl); within = refl; local = λ new e. ap (λ z. done z new) same }

  given_full : (x : A) (read : List Loaded) (rest : List Token) → is_value v x read → Ends [] rest → done v (tokens_of read ++ rest) ≡ answered x (deep_part room read) rest
  given_full x read rest is ends = rw is.1 (ap (λ z. done z rest) (sym is.0))

  given_begin : (read : List Loaded) → read ≡ [] → Begin [] true read
  given_begin [] e = refl
  given_begin (l ∷ ls) e = absurd cc

  pub given_laws : Laws room (is_value v) (λ ts. done v ts) [] [] true
  given_laws = record {
    sound = given_sound;
    full = given_full;
    stopped = λ ts rest is. absurd cc;
    deepened = λ ts rest is. absurd cc;
    begins = λ x read is. given_begin read is.1;
    starts = λ t is. absurd cc;
    empty = λ is. (v, (refl, refl));
    sample = record { value = v; read = []; spelled = (refl, refl) };
  }

-- what is there is spelled so
abbrev only_some : {A : Type 0} → (A → Row) → Option A → Row
only_some reads None = never
only_some reads (Some x) = reads x

module _ {A : Type 0} (room : ℕ) (reads : A → Row) (p : Reader A) (first more : List ℕ) (a : Laws room reads p first more false) (apart : disjoint [] first ≡ true) where
  some_from : (o : Option A) (read : List Loaded) → only_some reads o read → (x : A) × (o ≡ Some x) × reads x read
  some_from None read is = elim is [ ]
  some_from (Some x) read is = (x, refl, is)

  some_makes : Makes Some reads (only_some reads)
  some_makes = record { to = λ x read is. is; from = some_from }

  to : SpellsAsWell (one_of (only_some reads) (is_value None)) (maybe reads)
  to None read (inl is) = elim is [ ]
  to None read (inr is) = is.1
  to (Some x) read (inl is) = is
  to (Some x) read (inr is) = absurd cc

  from : SpellsAsWell (maybe reads) (one_of (only_some reads) (is_value None))
  from None read is = inr (refl, is)
  from (Some x) read is = inl is

  pub maybe_laws : Laws room (maybe reads) (read_maybe first p) first (more ++ first) true
  maybe_laws =
      let some = as_laws room Some reads (only_some reads) p first more false some_makes a in
      let either = either_laws room (only_some reads) (is_value None) (read_as Some p) (λ ts. done None ts) first more [] [] true some (given_laws room None) apart in
      let laws = same_laws room (one_of (only_some reads) (is_value None)) (maybe reads) (read_maybe first p) (first ++ []) ((more ++ []) ++ first) true to from either in
      let ended = subst (λ m. Laws room (maybe reads) (read_maybe first p) (first ++ []) (m ++ first) true) (append-nil more) laws in
      subst (λ f. Laws room (maybe reads) (read_maybe first p) f (more ++ first) true) (append-nil first) ended
