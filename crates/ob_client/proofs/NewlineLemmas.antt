-- A newline after a printed text changes none of its tokens.
use Rattle.std.proofs.Common.{◌≡◌, ℕ, Bool, true, false, cond, ◌&&◌, List, [], ◌∷◌, ◌++◌, refl, sym, ap, ap₂, ◌∙◌, append_assoc}
use Rattle.json.specs.Token.{Token, begin_object, end_object, begin_array, end_array, key, string, number, boolean, null, bad}
use Rattle.json.specs.Word.{ends_word, word}
use Rattle.json.specs.Lex.{token, comma, colon, string_token, lex, between, fresh, punctuate, tokens}
use Rattle.json.specs.Print.{escape, quoted, token_text, begins, ends, print_from, print, IsPrintable, ArePrintable}
use Rattle.json.proofs.Printed.Strings.{content-escape, lex-escape}
use Rattle.json.proofs.Printed.Numbers.{lex-number, in_word-ended}
use Rattle.json.proofs.Printed.Tokens.{tokens-print}

-- the newline after a text
abbrev then_newline : List ℕ → List ℕ
then_newline text = text ++ 10 ∷ []

lexed_quoted : (s r : List ℕ) → lex between (quoted s ++ r) ≡ token (string s) ∷ lex between r
unfolding lex
lexed_quoted s r =
    ap (λ l. lex between (34 ∷ l)) (append_assoc (escape s) (34 ∷ []) r)
    ∙ ap₂ (λ o l. token (string_token o) ∷ l) (content-escape s r) (lex-escape s r)

-- what follows a token is lexed as it is without it
same_after : (t : Token) (r q : List ℕ) → IsPrintable t → (ends t ≡ true → ends_word r ≡ true) → (ends t ≡ true → ends_word q ≡ true)
    → lex between r ≡ lex between q → lex between (token_text t ++ r) ≡ lex between (token_text t ++ q)
unfolding lex word
same_after begin_object r q h re qe e = ap (λ l. token begin_object ∷ l) e
same_after end_object r q h re qe e = ap (λ l. token end_object ∷ l) e
same_after begin_array r q h re qe e = ap (λ l. token begin_array ∷ l) e
same_after end_array r q h re qe e = ap (λ l. token end_array ∷ l) e
same_after (key s) r q h re qe e =
    ap (lex between) (append_assoc (quoted s) (58 ∷ []) r) ∙ lexed_quoted s (58 ∷ r)
    ∙ ap (λ l. token (string s) ∷ colon ∷ l) e
    ∙ sym (ap (lex between) (append_assoc (quoted s) (58 ∷ []) q) ∙ lexed_quoted s (58 ∷ q))
same_after (string s) r q h re qe e = lexed_quoted s r ∙ ap (λ l. token (string s) ∷ l) e ∙ sym (lexed_quoted s q)
same_after (number s) r q h re qe e =
    lex-number s r h (re refl) ∙ ap (λ l. token (number s) ∷ l) e ∙ sym (lex-number s q h (qe refl))
same_after (boolean true) r q h re qe e =
    ap₂ (λ b l. token (cond b (boolean true) bad) ∷ l) (re refl ∙ sym (qe refl))
    (in_word-ended r (re refl) ∙ e ∙ sym (in_word-ended q (qe refl)))
same_after (boolean false) r q h re qe e =
    ap₂ (λ b l. token (cond b (boolean false) bad) ∷ l) (re refl ∙ sym (qe refl))
    (in_word-ended r (re refl) ∙ e ∙ sym (in_word-ended q (qe refl)))
same_after null r q h re qe e =
    ap₂ (λ b l. token (cond b null bad) ∷ l) (re refl ∙ sym (qe refl))
    (in_word-ended r (re refl) ∙ e ∙ sym (in_word-ended q (qe refl)))
same_after bad r q h re qe e = absurd h

-- after a value stands a comma, a closing bracket, the newline or nothing
value_ends : (ts : List Token) → (ends_word (print_from true ts) ≡ true) × (ends_word (then_newline (print_from true ts)) ≡ true)
unfolding print_from
value_ends [] = (refl, refl)
value_ends (begin_object ∷ ts) = (refl, refl)
value_ends (end_object ∷ ts) = (refl, refl)
value_ends (begin_array ∷ ts) = (refl, refl)
value_ends (end_array ∷ ts) = (refl, refl)
value_ends (key s ∷ ts) = (refl, refl)
value_ends (string s ∷ ts) = (refl, refl)
value_ends (number s ∷ ts) = (refl, refl)
value_ends (boolean b ∷ ts) = (refl, refl)
value_ends (null ∷ ts) = (refl, refl)
value_ends (bad ∷ ts) = (refl, refl)

same_separated : (b : Bool) (r q : List ℕ) → lex between r ≡ lex between q
    → lex between (cond b (44 ∷ []) [] ++ r) ≡ lex between (cond b (44 ∷ []) [] ++ q)
unfolding lex
same_separated true r q e = ap (λ l. comma ∷ l) e
same_separated false r q e = e

lexed_with_newline : (c : Bool) (ts : List Token) → ArePrintable ts → lex between (then_newline (print_from c ts)) ≡ lex between (print_from c ts)
unfolding lex print_from ArePrintable
lexed_with_newline c [] h = refl
lexed_with_newline c (t ∷ ts) h =
    let rest = print_from (ends t) ts in
    let comma_text = cond (c && begins t) (44 ∷ []) [] in
    ap (lex between) (append_assoc comma_text (token_text t ++ rest) (10 ∷ []) ∙ ap (λ l. comma_text ++ l) (append_assoc (token_text t) rest (10 ∷ [])))
    ∙ same_separated (c && begins t) _ _
    (same_after t (then_newline rest) rest h.0 (λ e. ap (λ b. ends_word (then_newline (print_from b ts))) e ∙ (value_ends ts).1)
    (λ e. ap (λ b. ends_word (print_from b ts)) e ∙ (value_ends ts).0) (lexed_with_newline (ends t) ts h.1))

pub tokens_with_newline : (ts : List Token) → ArePrintable ts → tokens (print ts ++ 10 ∷ []) ≡ ts
tokens_with_newline ts h = ap (punctuate fresh) (lexed_with_newline false ts h) ∙ tokens-print ts h
