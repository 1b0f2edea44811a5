use Rattle.std.proofs.Common.{◌≡◌, ◌-◌, ◌<◌, ℕ, List, ◌∷◌, length, take, drop, get_or, sym, ap, ◌∙◌, arith}
use Rattle.std.specs.List.{take_while}
use Rattle.std.proofs.lemmas.List.{at_drop_more, length-drop, take_all}
use Rattle.ob_base.specs.Names.{is_digit, is_letter_or_digit}
use Rattle.ob_lexer.specs.declared.bytes.Class.{Class}
use Rattle.ob_lexer.specs.Lexing.{class_of, word_step, number_step, slash_step, sign_step, step_in, first_step}
use Rattle.ob_lexer.proofs.step.step_of.Goals as goal

-- the class of the first byte says what is read
in_class : (text : List ℕ) (k : Class) → k ≡ class_of (get_or text 0 0) → first_step (get_or text 0 0) (drop 1 text) ≡ step_in k (get_or text 0 0) (drop 1 text)
in_class text k is = ap (λ j. step_in j (get_or text 0 0) (drop 1 text)) (sym is)

-- a text that isn't empty is its first byte and the rest
first_and_rest : (text : List ℕ) → 0 < length text → get_or text 0 0 ∷ drop 1 text ≡ text
first_and_rest text some = sym (at_drop_more (λ left. left) text 0 0 some)

rest_whole : (text : List ℕ) → take (length text - 1) (drop 1 text) ≡ drop 1 text
rest_whole text = take_all (length text - 1) (drop 1 text) (omega (arith, length-drop 1 text))

pub returns-in-Blank : goal.returns-in-Blank
returns-in-Blank c = sym (in_class c.args.text.now _ c.in-Blank.ensures)

pub returns-in-Letter : goal.returns-in-Letter
returns-in-Letter c =
    let word = ap (λ bytes. word_step (take_while is_letter_or_digit bytes)) (first_and_rest c.args.text.now c.requires.some) in
    rw (in_class c.args.text.now _ c.in-Letter.ensures ∙ word) (rw c.word_in.ensures at c.word_step.ensures)

pub returns-in-Digit : goal.returns-in-Digit
returns-in-Digit c =
    let digits = ap (λ bytes. number_step (take_while is_digit bytes)) (first_and_rest c.args.text.now c.requires.some) in
    c.number_step.ensures ∙ ap number_step c.digits_in.ensures ∙ sym (in_class c.args.text.now _ c.in-Digit.ensures ∙ digits)

pub returns-in-Quote : goal.returns-in-Quote
returns-in-Quote c = rw (in_class c.args.text.now _ c.in-Quote.ensures) (rw (rest_whole c.args.text.now) at c.string_step.ensures)

pub returns-in-Slash : goal.returns-in-Slash
returns-in-Slash c = c.slash_step.ensures ∙ ap slash_step (rest_whole c.args.text.now) ∙ sym (in_class c.args.text.now _ c.in-Slash.ensures)

pub returns-in-Other : goal.returns-in-Other
returns-in-Other c =
    c.sign_step.ensures ∙ ap (sign_step (get_or c.args.text.now 0 0)) (rest_whole c.args.text.now) ∙ sym (in_class c.args.text.now _ c.in-Other.ensures)
