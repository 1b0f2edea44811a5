-- Statements without blocks.
use Rattle.std.specs.Prelude.{⊤, ℕ, [], Result, Ok}
use Rattle.ob_base.specs.declared.fault.Span.{Span}
use Rattle.ob_table.specs.Expressions.{Expression}
use Rattle.ob_table.specs.declared.seen.Seen.{Seen}
use Rattle.ob_table.specs.declared.seen.SeenAt.{SeenAt}
use Rattle.ob_table_spec.specs.WellFormed.{StaticFrame, kind_of_seen}
use Rattle.ob_silica.specs.Terms.{SilicaForm, SilicaTerms, unit_form, const_form, revert_form}
use Rattle.ob_silica.specs.declared.place.Constant.TheVariants.{Text}
use Rattle.ob_silica.specs.declared.place.Operand.{Operand}
use Rattle.ob_lower_spec.specs.Forms.{slot_operand, AroundExpression, locals_of, place_seen, set_place}
use Rattle.ob_lower_functions.specs.Progress.{Stop, ◌>>=◌, found, slots_from, with_term}
use Rattle.ob_lower_functions.specs.ExpressionCode.{value_code}
use Rattle.ob_lower_functions.specs.StatementCode.{BlockPosition, around_at, begun, named_code, past_statement}
use Rattle.ob_table.specs.Statements.{Statement, resolved_declare, resolved_assign, resolved_stage, resolved_change, resolved_discard, resolved_test, resolved_if, resolved_while, resolved_return, resolved_revert, resolved_disown, resolved_assert}

-- a statement in which no block stands
abbrev pub HasNoBlock : Statement → Type 0
HasNoBlock (resolved_test subject state branch other span) = ⊥
HasNoBlock (resolved_if condition branch other span) = ⊥
HasNoBlock (resolved_while condition body span) = ⊥
HasNoBlock (resolved_declare local name of value span) = ⊤
HasNoBlock (resolved_assign target value span) = ⊤
HasNoBlock (resolved_stage state given span) = ⊤
HasNoBlock (resolved_change state given span) = ⊤
HasNoBlock (resolved_discard value span) = ⊤
HasNoBlock (resolved_return value span) = ⊤
HasNoBlock (resolved_revert text span) = ⊤
HasNoBlock (resolved_disown subject span) = ⊤
HasNoBlock (resolved_assert subject perm span) = ⊤

-- a `revert` with an empty text, which takes this slot
abbrev pub empty_revert : ℕ → Span → SilicaTerms → SilicaTerms
empty_revert k span out =
    with_term (with_term (with_term out unit_form span) (const_form k (Text [])) span) (revert_form (slot_operand k span)) span

-- a statement of one form about a name
abbrev pub about_code : BlockPosition → SeenAt → (Operand → SilicaForm) → Span → SilicaTerms → Result (BlockPosition × SilicaTerms) Stop
about_code q subject form span out =
    named_code q subject >>= (λ o. past_statement q (with_term (with_term out unit_form span) (form o) span))

-- what sets the place of a name: a slot or a field
abbrev pub set_seen : AroundExpression → Seen → Operand → Result SilicaForm Stop
set_seen a seen from =
    found (kind_of_seen a.frame (locals_of a.variables) seen)
    >>= (λ kind. found (place_seen a.variables seen)
    >>= (λ place. Ok (set_place kind place from)))

-- the terms of a value whose temporaries aren't dropped, with the operand that represents it
abbrev pub alone_code : StaticFrame → Expression → Span → BlockPosition → SilicaTerms → Result (SilicaTerms × Operand) Stop
alone_code f e span q out =
    value_code (around_at f q span) e (begun (slots_from q.slots) span out) >>= (λ x. Ok (x.0.terms, x.1))
