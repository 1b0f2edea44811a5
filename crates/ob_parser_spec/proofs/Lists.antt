-- The laws of a row after a token, under one that counts, or between two signs, and of rows with a sign between them.
use Rattle.std.proofs.Common.{ℕ, ◌≡◌, ◌-◌, ◌≤◌, Bool, true, false, List, [], ◌∷◌, ◌++◌, refl}
use Rattle.ob_base.specs.declared.fault.Span.{Span}
use Rattle.ob_lexer.specs.declared.token.TokenKind.{TokenKind}
use Rattle.ob_lexer.specs.declared.token.TokenKind.TheVariants as kind
use Rattle.ob_lexer.specs.declared.token.Word.{Word}
use Rattle.ob_lexer.specs.declared.token.Sign.{Sign}
use Rattle.ob_parser_spec.specs.Rows.{Row, ◌⨟◌, loaded, token, token_at, sign, raised, counted, each, parted}
use Rattle.ob_parser_spec.specs.Symbols.{a_word, a_sign}
use Rattle.ob_parser_spec.specs.Readers.{Reader, span_if, read_both, read_as, read_opened, put_before}
use Rattle.ob_parser_spec.specs.NameReaders.{on, second, read_item, read_parted, inner, read_counted}
use Rattle.ob_parser_spec.specs.StmtReaders.{read_sign, between}
use Rattle.ob_parser_spec.proofs.Laws.{SpellsAsWell, Sample, Laws, disjoint, ends-again}
use Rattle.ob_parser_spec.proofs.Both.{both}
use Rattle.ob_parser_spec.proofs.Mapped.{Makes}
use Rattle.ob_parser_spec.proofs.Opened.{opened_laws}
use Rattle.ob_parser_spec.proofs.Symbols.{takes_symbol}
use Rattle.ob_parser_spec.proofs.TokenRows.{grouped, ungrouped, sign_to, sign_from, word_to, word_from}
use Rattle.ob_parser_spec.proofs.RowLaws.{sign_at, at_word, sign_laws, after_laws, made, makes_laws, alike_laws, ends_laws}
use Rattle.ob_parser_spec.proofs.Each.{many_laws}

pub disjoint-nil : (ks : List ℕ) → disjoint ks [] ≡ true
disjoint-nil [] = refl
disjoint-nil (k ∷ ks) = disjoint-nil ks

-- ---- after a token, of which nothing is kept

abbrev pub after_token : {A : Type 0} → TokenKind → (A → Row) → A → Row
after_token k reads x = token k ⨟ reads x

after_token_makes : {A : Type 0} (k : TokenKind) (reads : A → Row) → Makes second (both (token_at k) reads) (after_token k reads)
after_token_makes k reads = record {
  to = λ parts read is. (is.0, is.1, is.2, (parts.0, is.3), is.4);
  from = λ x read is. ((is.3.0, x), refl, (is.0, is.1, is.2, is.3.1, is.4));
}

pub after_token_laws :
    {A : Type 0} {room : ℕ} {k : TokenKind} {q : Reader Span} {kinds : List ℕ} {reads : A → Row} {p : Reader A} {first more : List ℕ} →
    Laws room (token_at k) q kinds [] false → Laws room reads p first more false →
    Laws room (after_token k reads) (read_as second (read_both q p)) kinds more false
after_token_laws {k = k} {reads = reads} {first = first} t a = makes_laws (after_token_makes k reads) (after_laws t a (disjoint-nil first))

-- ---- between two signs that don't count

abbrev pub between_signs : {A : Type 0} → Sign → (A → Row) → Sign → A → Row
between_signs left reads right x = sign left ⨟ reads x ⨟ sign right

between_makes : {A : Type 0} (left : Sign) (reads : A → Row) (right : Sign) → Makes between (both (sign_at left) (both reads (sign_at right))) (between_signs left reads right)
between_makes left reads right = record {
  to = λ parts read is. (is.0, is.1, is.2, (parts.0, is.3), (is.4.0, is.4.1, is.4.2, is.4.3, (parts.1.1, is.4.4)));
  from = λ x read is. ((is.3.0, (x, is.4.4.0)), refl, (is.0, is.1, is.2, is.3.1, (is.4.0, is.4.1, is.4.2, is.4.3, is.4.4.1)));
}

pub between_laws :
    {A : Type 0} {room : ℕ} {reads : A → Row} {p : Reader A} {first more : List ℕ} {null : Bool} (left right : Sign) →
    Laws room reads p first more null → disjoint (on right) more ≡ true →
    Laws room (between_signs left reads right) (read_as between (read_both (read_sign left) (read_both p (read_sign right)))) (on left) [] false
between_laws {room = room} {reads = reads} {first = first} {null = true} left right a apart =
    let end = after_laws a (sign_laws room right) apart in
    makes_laws (between_makes left reads right) (after_laws (sign_laws room left) end (disjoint-nil (first ++ on right)))
between_laws {room = room} {reads = reads} {first = first} {null = false} left right a apart =
    let end = after_laws a (sign_laws room right) apart in
    makes_laws (between_makes left reads right) (after_laws (sign_laws room left) end (disjoint-nil first))

-- ---- under a token that counts

abbrev pub under : {A : Type 0} → TokenKind → (A → Row) → Span × A → Row
under k reads parts = loaded k parts.0 1 ⨟ raised 1 (reads parts.1)

module _ {A : Type 0} (room : ℕ) (reads : A → Row) (p : ℕ → Reader A) (first more : List ℕ) (null : Bool) (sample : Sample reads)
    (a : 1 ≤ room → Laws (room - 1) reads (p (room - 1)) first more null) where
  pub under_sign_laws : (s : Sign) → Laws room (under (kind.Sign s) reads) (read_opened (span_if (a_sign s)) 1 room p) (on s) more false
  under_sign_laws s =
      alike_laws (under (kind.Sign s) reads)
      (λ parts read is. (is.0, is.1, is.2, sign_to s 1 parts.0 is.0 is.3, is.4))
      (λ parts read is. (is.0, is.1, is.2, sign_from s 1 parts.0 is.0 is.3, is.4))
      (opened_laws (span_if (a_sign s)) 1 room reads p (on s) first more null (takes_symbol (kind.Sign s)) sample a)

  pub under_word_laws : (w : Word) → Laws room (under (kind.Word w) reads) (read_opened (span_if (a_word w)) 1 room p) (at_word w) more false
  under_word_laws w =
      alike_laws (under (kind.Word w) reads)
      (λ parts read is. (is.0, is.1, is.2, word_to w 1 parts.0 is.0 is.3, is.4))
      (λ parts read is. (is.0, is.1, is.2, word_from w 1 parts.0 is.0 is.3, is.4))
      (opened_laws (span_if (a_word w)) 1 room reads p (at_word w) first more null (takes_symbol (kind.Word w)) sample a)

-- ---- between two signs that count

abbrev pub in_signs : {A : Type 0} → Sign → (A → Row) → Sign → A → Row
in_signs left reads right x = counted left (reads x) right

counted_makes : {A : Type 0} (left : Sign) (reads : A → Row) (right : Sign) → Makes inner (both (under (kind.Sign left) reads) (sign_at right)) (in_signs left reads right)
counted_makes left reads right = record {
  to = λ parts read is. let g = grouped is in (g.0, g.1, g.2, (parts.0.0, g.3), (g.4.0, g.4.1, g.4.2, g.4.3, (parts.1, g.4.4)));
  from = λ x read is. (((is.3.0, x), is.4.4.0), refl, ungrouped (is.0, is.1, is.2, is.3.1, (is.4.0, is.4.1, is.4.2, is.4.3, is.4.4.1)));
}

module _ {A : Type 0} (left right : Sign) (room : ℕ) (reads : A → Row) (p : ℕ → Reader A) (first more : List ℕ) (null : Bool) (sample : Sample reads)
    (a : 1 ≤ room → Laws (room - 1) reads (p (room - 1)) first more null) (apart : disjoint (on right) more ≡ true) where
  pub counted_laws : Laws room (in_signs left reads right) (read_counted left room p right) (on left) [] false
  counted_laws = makes_laws (counted_makes left reads right) (after_laws (under_sign_laws room reads p first more null sample a left) (sign_laws room right) apart)

-- ---- with a sign between them

abbrev pub after_sign : {A : Type 0} → Sign → (A → Row) → A → Row
after_sign s = after_token (kind.Sign s)

module _ {A : Type 0} (s : Sign) (room : ℕ) (reads : A → Row) (p : Reader A) (first more : List ℕ)
    (a : Laws room reads p first more false) (apart : disjoint (on s) more ≡ true) where
  pub item_laws : Laws room (after_sign s reads) (read_item s p) (on s) more false
  item_laws = after_token_laws (sign_laws room s) a

  parted_from : SpellsAsWell (parted s reads) (made put_before (both reads (each (after_sign s reads))))
  parted_from [] read is = elim is [ ]
  parted_from (x ∷ xs) read is = ((x, xs), refl, is)

  parted_makes : Makes put_before (both reads (each (after_sign s reads))) (parted s reads)
  parted_makes = record { to = λ parts read is. is; from = parted_from }

  pub parted_laws : Laws room (parted s reads) (read_parted s p) first (more ++ on s) false
  parted_laws =
      let items = many_laws room (after_sign s reads) (read_item s p) (on s) more item_laws apart refl refl in
      ends_laws (ends-again more (on s)) (makes_laws parted_makes (after_laws a items apart))
