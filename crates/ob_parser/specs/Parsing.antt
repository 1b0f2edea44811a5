-- What is answered where all tokens are to be one program.
use Rattle.std.specs.Prelude.{ℕ, ◌-◌, ◌≡◌, List, [], ◌∷◌, length, drop, Result, Ok, Err}
use Rattle.ob_base.specs.Faults.{expected, too_deep}
use Rattle.ob_base.specs.declared.fault.Span.{Span}
use Rattle.ob_lexer.specs.declared.token.Token.{Token}
use Rattle.ob_tree.specs.Members.{Contract}
use Rattle.ob_tree.specs.MembersView.{tree_of}
use Rattle.ob_tree.specs.declared.contract.Tree.{Tree}
use Rattle.ob_parser_spec.specs.Grammar.{fault_in}
use Rattle.ob_parser_spec.specs.Readers.{Read, done, stop, deep}
use Rattle.ob_parser_expressions.specs.Answering.{Halts}
use Rattle.ob_parser_expressions.specs.declared.halt.Halt.{Halt}
use Rattle.ob_parser_expressions.specs.declared.halt.Halt.TheVariants as halt
use Rattle.ob_base.specs.declared.text_error.TextError.{TextError}
use Rattle.ob_base.specs.declared.text_error.TextError.TheVariants.{Fault, Memory}

-- where nothing may be left after what is read
abbrev pub whole : {A : Type 0} → Read A → Read A
whole (done x []) = done x []
whole (done x (t ∷ ts)) = stop (t ∷ ts)
whole (stop rest) = stop rest
whole (deep rest) = deep rest

-- the tree of all the tokens, or why they have none
abbrev pub AnswersWhole : Result Tree Halt → Read (List Contract) → Type 0
AnswersWhole (Ok tree) read = whole read ≡ done (tree_of tree) []
AnswersWhole (Err e) read = Halts e (whole read)

-- the place of the first of these tokens, or the end after them all
abbrev pub span_or_end : List Token → Span → Span
span_or_end [] end = end
span_or_end (t ∷ ts) end = t.span

-- the same of so many last tokens
abbrev pub span_at : List Token → Span → ℕ → Span
span_at tokens end left = span_or_end (drop (length tokens - left) tokens) end

-- the fault where so many tokens are left
abbrev pub error_at : Halt → List Token → Span → TextError
error_at (halt.Expected left) tokens end = Fault (fault_in expected (span_at tokens end left))
error_at (halt.TooDeep left) tokens end = Fault (fault_in too_deep (span_at tokens end left))
error_at halt.Memory tokens end = Memory
