-- Rows that are read a part at a time: what they give, and why they end.
use Rattle.std.proofs.Common.{ℕ, ◌≡◌, ◌-◌, List, Option, Result, Ok, Err, IfOk, IfErr, ap, ◌∙◌}
use Rattle.std.specs.Borrow.{Bor}
use Rattle.ob_base.specs.declared.fault.Span.{Span}
use Rattle.ob_lexer.specs.declared.token.Token.{Token}
use Rattle.ob_lexer.specs.declared.token.Sign.{Sign}
use Rattle.ob_parser_spec.specs.Symbols.{a_sign}
use Rattle.ob_parser_spec.specs.Readers.{Read, done, Reader, ◌>>=◌, and_after, span_if, read_token, read_opened, put_before, read_many}
use Rattle.ob_parser_spec.specs.NameReaders.{on, second, read_item, read_parted, inner, read_counted}
use Rattle.ob_parser_expressions.specs.Answering.{Halts, Answers, read_open}
use Rattle.ob_parser_expressions.specs.Places.{first_span}
use Rattle.ob_parser_expressions.specs.declared.halt.Halt.{Halt}
use Rattle.ob_parser_expressions.proofs.Halts.{halts_bind}
use Rattle.ob_parser_expressions.proofs.CodeTokens.{opened_is}

-- ---- a part under a token that counts

module _ {A B : Type 0} (f : Token → Option A) (room : ℕ) (p : ℕ → Reader B) (ts mid : List Token) (x : A) (opens : read_open f 1 room ts ≡ done x mid) where
  opened_with : read_opened f 1 room p ts ≡ and_after (λ y. p (room - 1)) x mid
  opened_with = opened_is f 1 room p ts ∙ ap (λ r. r >>= and_after (λ y. p (room - 1))) opens

  pub opened_halts : (e : Halt) → Halts e (p (room - 1) mid) → Halts e (read_opened f 1 room p ts)
  opened_halts e is = rw opened_with (halts_bind e (p (room - 1) mid) (λ y rest. done (x, y) rest) is)

  pub opened_done : (y : B) (rest : List Token) → p (room - 1) mid ≡ done y rest → read_opened f 1 room p ts ≡ done (x, y) rest
  opened_done y rest is = opened_with ∙ ap (λ r. r >>= (λ z left. done (x, z) left)) is

pub not_opened : {A B : Type 0} (f : Token → Option A) (room : ℕ) (p : ℕ → Reader B) (ts : List Token) (e : Halt) → Halts e (read_open f 1 room ts) → Halts e (read_opened f 1 room p ts)
not_opened f room p ts e is = rw (opened_is f 1 room p ts) (halts_bind e (read_open f 1 room ts) (and_after (λ y. p (room - 1))) is)

-- ---- a part between two signs

module _ {A : Type 0} (left right : Sign) (room : ℕ) (p : ℕ → Reader A) (ts mid : List Token) (place : Span) (opens : read_open (span_if (a_sign left)) 1 room ts ≡ done place mid) where
  abbrev close : Read (Span × A) → Read ((Span × A) × Span)
  close r = r >>= and_after (λ y. read_token (span_if (a_sign right)))

  abbrev put : Read ((Span × A) × Span) → Read A
  put r = r >>= (λ parts rest. done (inner parts) rest)

  pub inside_halts : (e : Halt) → Halts e (p (room - 1) mid) → Halts e (read_counted left room p right ts)
  inside_halts e is =
      halts_bind e (close (read_opened (span_if (a_sign left)) 1 room p ts)) (λ parts rest. done (inner parts) rest)
      (halts_bind e (read_opened (span_if (a_sign left)) 1 room p ts) (and_after (λ y. read_token (span_if (a_sign right))))
      (opened_halts (span_if (a_sign left)) room p ts mid place opens e is))

  module _ (x : A) (after : List Token) (reads : p (room - 1) mid ≡ done x after) where
    counted_with : read_counted left room p right ts ≡ put (and_after (λ y. read_token (span_if (a_sign right))) (place, x) after)
    counted_with = ap (λ r. put (close r)) (opened_done (span_if (a_sign left)) room p ts mid place opens x after reads)

    pub end_halts : (e : Halt) → Halts e (read_token (span_if (a_sign right)) after) → Halts e (read_counted left room p right ts)
    end_halts e is =
        rw counted_with
        (halts_bind e (and_after (λ (y : Span × A). read_token (span_if (a_sign right))) (place, x) after) (λ parts rest. done (inner parts) rest)
        (halts_bind e (read_token (span_if (a_sign right)) after) (λ y rest. done ((place, x), y) rest) is))

    pub counted_done : (last : Span) (rest : List Token) → read_token (span_if (a_sign right)) after ≡ done last rest → read_counted left room p right ts ≡ done x rest
    counted_done last rest is = counted_with ∙ ap (λ r. put (r >>= (λ y after'. done ((place, x), y) after'))) is

  -- what `before` answers after it
  pub closed_answer : {T : Type 0} (view : T → A) (x : T) (after : List Token) → p (room - 1) mid ≡ done (view x) after → (r : Result (T × Bor (List Token)) Halt) → IfOk r (λ y. y.0 ≡ x) → IfOk r (λ y. read_token (span_if (a_sign right)) after ≡ done (first_span after) y.1.now) → IfErr r (λ e. Halts e (read_token (span_if (a_sign right)) after)) → Answers view r (read_counted left room p right ts)
  closed_answer view x after reads (Ok y) part ok err = rw part (counted_done (view x) after reads (first_span after) y.1.now ok)
  closed_answer view x after reads (Err e) part ok err = end_halts (view x) after reads e err

-- ---- a list

module _ {A : Type 0} (s : Sign) (p : Reader A) where
  pub parted_halts : (ts : List Token) (e : Halt) → Halts e (p ts) → Halts e (read_parted s p ts)
  parted_halts ts e is =
      halts_bind e (p ts >>= and_after (λ x. read_many (on s) (read_item s p))) (λ parts rest. done (put_before parts) rest)
      (halts_bind e (p ts) (and_after (λ x. read_many (on s) (read_item s p))) is)

  module _ (ts mid : List Token) (place : Span) (parts : read_token (span_if (a_sign s)) ts ≡ done place mid) where
    item_with : read_item s p ts ≡ (and_after (λ y. p) place mid >>= (λ pair rest. done (second pair) rest))
    item_with = ap (λ r. (r >>= and_after (λ y. p)) >>= (λ pair rest. done (second pair) rest)) parts

    pub item_halts : (e : Halt) → Halts e (p mid) → Halts e (read_item s p ts)
    item_halts e is =
        rw item_with
        (halts_bind e (and_after (λ (y : Span). p) place mid) (λ pair rest. done (second pair) rest)
        (halts_bind e (p mid) (λ y rest. done (place, y) rest) is))

    pub item_done : (x : A) (rest : List Token) → p mid ≡ done x rest → read_item s p ts ≡ done x rest
    item_done x rest is = item_with ∙ ap (λ r. (r >>= (λ y left. done (place, y) left)) >>= (λ pair left. done (second pair) left)) is
