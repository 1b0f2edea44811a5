-- Tests of the first token, and the place of what has been taken.
use Rattle.std.proofs.Common.{ℕ, nat_le, cond, inl, inr, Option, Some, None, ◌≡◌, ◌-◌, ◌≤◌, Bool, true, false, ◌||◌, List, [], ◌∷◌, length, get_or, refl, sym, ap, ◌∙◌, arith}
use Rattle.std.specs.List.{list_any}
use Rattle.std.proofs.lemmas.Bool.{cases_Bool, leb-false}
use Rattle.ob_base.specs.declared.fault.Span.{Span}
use Rattle.ob_lexer.specs.declared.token.Token.{Token}
use Rattle.ob_parser_spec.specs.Rows.{joined}
use Rattle.ob_parser_spec.specs.Symbols.{Symbol, number}
use Rattle.ob_parser_spec.specs.Readers.{Reader, ◌>>=◌, done, is_of, and_after, read_if, span_if, read_token, open_if, read_opened, last_span, span_of_tokens}
use Rattle.ob_parser_expressions.specs.Answering.{symbol_for, numbers, open_in, read_open, halted, deep_with, Halts}
use Rattle.ob_parser_expressions.specs.Places.{first_span}
use Rattle.ob_parser_expressions.specs.declared.tokens.Symbol.{Symbol as Wanted}
use Rattle.ob_parser_expressions.specs.declared.halt.Halt.{Halt}
use Rattle.ob_parser_expressions.specs.declared.halt.Halt.TheVariants as halt

-- one of several symbols, tested one by one
either : (a l m : Bool) → l ≡ m → ((a || false) || l) ≡ (a || m)
either true l m e = refl
either false l m e = e

pub one_of_them : (t : Token) (ws : List Wanted) → list_any (λ w. is_of (number (symbol_for w) ∷ []) t) ws ≡ is_of (numbers ws) t
one_of_them t [] = refl
one_of_them t (w ∷ ws) = either _ (list_any (λ w. is_of (number (symbol_for w) ∷ []) t) ws) (is_of (numbers ws) t) (one_of_them t ws)

-- the last of tokens
last_at : (t : Token) (ts : List Token) (d : Token) → last_span t ts ≡ (get_or (t ∷ ts) (length ts) d).span
last_at t [] d = refl
last_at t (u ∷ us) d = last_at u us d

pub first_to_last : (ts : List Token) (first last : Token) → 1 ≤ length ts → (d e : Token) → first ≡ get_or ts 0 d → last ≡ get_or ts (length ts - 1) e → joined first.span last.span ≡ span_of_tokens ts
first_to_last [] first last some d e f g = absurd (omega (arith, some))
first_to_last (t ∷ ts) first last some d e f g =
    let count : length (t ∷ ts) - 1 ≡ length ts = omega arith in
    ap (λ (x : Token). joined x.span last.span) f ∙ ap (λ (x : Token). joined t.span x.span) (g ∙ ap (λ n. get_or (t ∷ ts) n e) count) ∙ ap (joined t.span) (sym (last_at t ts e))

-- a token that opens a part, and the part after it
module _ {A B : Type 0} (more room : ℕ) (p : ℕ → Reader B) where
  opened_in : (x : Option A) (t : Token) (ts : List Token) → open_if x more room p t ts ≡ (open_in x more room t ts >>= and_after (λ y. p (room - more)))
  opened_in None t ts = refl
  opened_in (Some x) t ts = elim (cases_Bool (nat_le more room)) [
    | inl is ↦ rw is refl
    | inr isnt ↦ rw isnt refl
  ]

pub opened_is : {A B : Type 0} (f : Token → Option A) (more room : ℕ) (p : ℕ → Reader B) (ts : List Token) → read_opened f more room p ts ≡ (read_open f more room ts >>= and_after (λ x. p (room - more)))
opened_is f more room p [] = refl
opened_is f more room p (t ∷ ts) = opened_in more room p (f t) t ts

-- ---- a token that opens a part, by what one token is

module _ {A : Type 0} (room : ℕ) (t : Token) (ts : List Token) where
  halts_in : (o : Option A) (e : Halt) → Halts e (read_if o t ts) → Halts e (open_in o 1 room t ts)
  halts_in None e is = is
  halts_in (Some x) (halt.Expected left) is = absurd cc
  halts_in (Some x) (halt.TooDeep left) is = absurd cc
  halts_in (Some x) halt.Memory is = tt

  deep_in : (o : Option A) (x : A) (rest : List Token) → room ≡ 0 → read_if o t ts ≡ done x rest → halted (open_in o 1 room t ts) ≡ deep_with (length (t ∷ ts))
  deep_in None x rest none is = absurd cc
  deep_in (Some y) x rest none is = rw none refl

  open_there : (o : Option A) (x : A) (rest : List Token) → 1 ≤ room → read_if o t ts ≡ done x rest → open_in o 1 room t ts ≡ done x rest
  open_there None x rest some is = absurd cc
  open_there (Some y) x rest some is = elim (cases_Bool (nat_le 1 room)) [
    | inl fits ↦ rw fits is
    | inr wrong ↦ absurd (omega (arith, some, leb-false 1 room wrong))
  ]

-- why it isn't read
pub open_halts : {A : Type 0} (f : Token → Option A) (room : ℕ) (ts : List Token) (e : Halt) → Halts e (read_token f ts) → Halts e (read_open f 1 room ts)
open_halts f room [] e is = is
open_halts f room (t ∷ ts) e is = halts_in room t ts (f t) e is

-- there is no room
pub open_deep : {A : Type 0} (f : Token → Option A) (room : ℕ) (ts : List Token) (x : A) (rest : List Token) → room ≡ 0 → read_token f ts ≡ done x rest → halted (read_open f 1 room ts) ≡ deep_with (length ts)
open_deep f room [] x rest none is = absurd cc
open_deep f room (t ∷ ts) x rest none is = deep_in room t ts (f t) x rest none is

-- there is room
pub open_done : {A : Type 0} (f : Token → Option A) (room : ℕ) (ts : List Token) (x : A) (rest : List Token) → 1 ≤ room → read_token f ts ≡ done x rest → read_open f 1 room ts ≡ done x rest
open_done f room [] x rest some is = absurd cc
open_done f room (t ∷ ts) x rest some is = open_there room t ts (f t) x rest some is

-- ---- the place of a word or a sign is that of the first token

placed_in : (b : Bool) (t : Token) (ts : List Token) (x : Span) (rest : List Token) → read_if (cond b (Some t.span) None) t ts ≡ done x rest → read_if (cond b (Some t.span) None) t ts ≡ done t.span rest
placed_in true t ts x rest is = cc
placed_in false t ts x rest is = absurd cc

pub placed : (s : Symbol) (ts : List Token) (x : Span) (rest : List Token) → read_token (span_if s) ts ≡ done x rest → read_token (span_if s) ts ≡ done (first_span ts) rest
placed s [] x rest is = absurd cc
placed s (t ∷ ts) x rest is = placed_in (is_of (number s ∷ []) t) t ts x rest is
