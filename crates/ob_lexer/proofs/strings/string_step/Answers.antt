use Rattle.std.proofs.Common.{◌≡◌, ◌+◌, ◌<◌, ℕ, Bool, List, ◌∷◌, length, drop, get_or, refl, sym, ◌∙◌, arith}
use Rattle.std.proofs.lemmas.List.{at_drop_more, at_drop_all}
use Rattle.ob_base.specs.Faults.{open_string, bad_escape}
use Rattle.ob_lexer.specs.declared.strings.Heard.TheVariants as heard
use Rattle.ob_lexer.specs.declared.step.Step.{Step}
use Rattle.ob_lexer.specs.declared.step.Step.TheVariants.{Flaw}
use Rattle.ob_lexer.specs.Lexing.{heard_of, text_step, string_from}
use Rattle.ob_lexer.proofs.strings.string_step.Goals as goal

module _ (text content : List ℕ) (backslash : Bool) (taken : ℕ) (all : Step) (so_far : all ≡ string_from backslash content taken (drop taken text)) (within : taken < length text) where
  -- what is left begins with this byte
  at_byte : all ≡ string_from backslash content taken (get_or text taken 0 ∷ drop (taken + 1) text)
  at_byte = so_far ∙ at_drop_more (λ left. string_from backslash content taken left) text taken 0 within

  at_quote : heard.Quote ≡ heard_of backslash (get_or text taken 0) → all ≡ text_step content (taken + 2)
  at_quote heard = at_byte ∙ rw (sym heard, string_from) refl

  at_newline : heard.Newline ≡ heard_of backslash (get_or text taken 0) → all ≡ Flaw open_string 0 1
  at_newline heard = at_byte ∙ rw (sym heard, string_from) refl

  at_no_escape : heard.NoEscape ≡ heard_of backslash (get_or text taken 0) → all ≡ Flaw bad_escape taken 1
  at_no_escape heard = at_byte ∙ rw (sym heard, string_from) refl

pub returns-in-Quote : goal.returns-in-Quote
returns-in-Quote c =
    let is = at_quote _ _ _ _ _ c.loop-taken.invariant c.loop-taken-test.true c.in-Quote.ensures in
    rw is (rw c.deref.ensures.value at c.text_step.ensures)

pub returns-in-Newline : goal.returns-in-Newline
returns-in-Newline c =
    c.flaw-in-Newline.ensures ∙ sym (at_newline _ _ _ _ _ c.loop-taken.invariant c.loop-taken-test.true c.in-Newline.ensures)

pub returns-in-NoEscape : goal.returns-in-NoEscape
returns-in-NoEscape c = sym (at_no_escape _ _ _ _ _ c.loop-taken.invariant c.loop-taken-test.true c.in-NoEscape.ensures)

pub returns : goal.returns
returns c =
    c.flaw-2.ensures ∙ sym (c.loop-taken.invariant ∙ at_drop_all (λ left. string_from c.loop-taken.backslash c.loop-taken.content.items c.loop-taken.taken left) c.args.text.now c.loop-taken.taken (omega arith))
