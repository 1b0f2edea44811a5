-- The terms of statements, with one slot after the other (this project's own).
use Rattle.std.specs.Prelude.{ℕ, zero, suc, ◌+◌, List, [], ◌∷◌, ◌++◌, Option, Some, None, nat_le, Result, Ok, if◌then◌else◌}
use Rattle.ob_base.specs.declared.fault.Span.{Span}
use Rattle.ob_base.specs.declared.id.StateId.{StateId}
use Rattle.ob_table.specs.Expressions.{Expression}
use Rattle.ob_table.specs.Statements.{GivenField, Statement, resolved_declare, resolved_assign, resolved_stage, resolved_change, resolved_discard, resolved_test, resolved_if, resolved_while, resolved_return, resolved_revert, resolved_disown, resolved_assert, Block, resolved_block, Otherwise, no_otherwise, otherwise_block, Statements, no_statements, and_statement}
use Rattle.ob_table.specs.declared.seen.Kind.{Kind}
use Rattle.ob_table.specs.declared.seen.SeenAt.{SeenAt}
use Rattle.ob_table_spec.specs.WellFormed.{StaticFrame, kind_of_seen, one_ends_there}
use Rattle.ob_silica.specs.Terms.{const_form, unit_form, change_form, test_form, if_form, loop_form, assert_form, disown_form, return_form, revert_form, bad_row_form, SilicaTerms, no_terms, then_terms}
use Rattle.ob_silica.specs.declared.place.Constant.TheVariants.{Text}
use Rattle.ob_silica.specs.declared.place.Given.{Given}
use Rattle.ob_silica.specs.declared.place.Operand.{Operand}
use Rattle.ob_lower_spec.specs.Forms.{SlotVariable, AroundExpression, locals_of, place_seen, drops, refused_at, operand, slot_operand, given_from, set_slot, set_place, block_end, join_of}
use Rattle.ob_lower_functions.specs.Progress.{Stop, ◌>>=◌, found, Slots, slots_from, next_slot, Progress, with_term, ended}
use Rattle.ob_lower_functions.specs.ExpressionCode.{expression_code, value_code}

-- Positions.

-- What waits for a change of state: nothing; the fields of a row of staged statements, with the place of the first and
-- the slots with the temporaries; or nothing, since the row is refused.
pub data Waiting : Type 0 where
  none_waits : Waiting
  row_waits : Span → List Given → Slots → Waiting
  refused_waits : Waiting

-- A position in a block: the visible variables, the last declared first; how many slots `this` and they have; and what
-- waits for a change of state.
pub record BlockPosition : Type 0 where
  pub variables : List SlotVariable
  pub slots : ℕ
  pub waiting : Waiting

-- the position at which nothing waits
abbrev pub settled : BlockPosition → BlockPosition
settled q = record { variables = q.variables; slots = q.slots; waiting = none_waits }

-- the position after a staged statement
abbrev pub waits : BlockPosition → Waiting → BlockPosition
waits q waiting = record { variables = q.variables; slots = q.slots; waiting = waiting }

-- the position after a declaration
abbrev pub declared : BlockPosition → SlotVariable → BlockPosition
declared q v = record { variables = v ∷ q.variables; slots = v.slot + 1; waiting = none_waits }

-- what stands around the expressions of a statement
abbrev pub around_at : StaticFrame → BlockPosition → Span → AroundExpression
around_at f q span = record { frame = f; variables = q.variables; span = span }

-- where the expressions of a statement begin: after a unit of fuel
abbrev pub begun : Slots → Span → SilicaTerms → Progress
begun slots span out = record { terms = with_term out unit_form span; slots = slots }

-- Statements without blocks.

-- a declaration
abbrev pub declare_code : StaticFrame → ℕ → Span → Kind → Expression → Span → BlockPosition → SilicaTerms → Result (BlockPosition × SilicaTerms) Stop
declare_code f local name of e span q out =
    next_slot name (slots_from q.slots)
    >>= (λ s. value_code (around_at f q span) e (begun s.0 span out)
    >>= (λ x. Ok (declared q (record { local = local; kind = of; slot = s.1 }), ended span (set_slot of s.1 x.1) x.0)))

-- an assignment
abbrev pub assign_code : StaticFrame → SeenAt → Expression → Span → BlockPosition → SilicaTerms → Result SilicaTerms Stop
assign_code f target e span q out =
    value_code (around_at f q span) e (begun (slots_from q.slots) span out)
    >>= (λ x. found (kind_of_seen f (locals_of q.variables) target.of)
    >>= (λ kind. found (place_seen q.variables target.of)
    >>= (λ place. Ok (ended span (set_place kind place x.1) x.0))))

-- a staged statement of a row that isn't refused: the place of the first, and the fields and the slots before it
abbrev pub row_code : StaticFrame → Span → List Given → Slots → GivenField → BlockPosition → SilicaTerms → Result (BlockPosition × SilicaTerms) Stop
row_code f first before slots given q out =
    value_code (around_at f q first) given.value (begun slots first out)
    >>= (λ x. Ok (waits q (row_waits first (before ++ given_from given x.1 ∷ []) x.0.slots), x.0.terms))

-- the first staged statement of a row
abbrev pub first_code : StaticFrame → Option Span → GivenField → Span → BlockPosition → SilicaTerms → Result (BlockPosition × SilicaTerms) Stop
first_code f (Some at) given span q out = Ok (waits q refused_waits, with_term out bad_row_form at)
first_code f None given span q out = row_code f span [] (slots_from q.slots) given q out

-- a staged statement; of a refused row only the first has a term
abbrev pub stage_code : StaticFrame → Waiting → Option Span → GivenField → Span → BlockPosition → SilicaTerms → Result (BlockPosition × SilicaTerms) Stop
stage_code f none_waits refused given span q out = first_code f refused given span q out
stage_code f (row_waits first before slots) refused given span q out = row_code f first before slots given q out
stage_code f refused_waits refused given span q out = Ok (q, out)

-- given fields from left to right, after these
abbrev pub given_code : AroundExpression → List GivenField → List Given → Progress → Result (Progress × List Given) Stop
given_code a [] before p = Ok (p, before)
given_code a (g ∷ gs) before p =
    value_code a g.value p >>= (λ x. given_code a gs (before ++ given_from g x.1 ∷ []) x.0)

-- a change of state after such a row: its place is that of the row's first statement
abbrev pub change_after : StaticFrame → Span → List Given → Slots → StateId → List GivenField → BlockPosition → SilicaTerms → Result SilicaTerms Stop
change_after f first before slots state given q out =
    given_code (around_at f q first) given before (begun slots first out)
    >>= (λ x. Ok (ended first (change_form state x.1) x.0))

-- a change of state
abbrev pub change_code : StaticFrame → Waiting → StateId → List GivenField → Span → BlockPosition → SilicaTerms → Result SilicaTerms Stop
change_code f none_waits state given span q out = change_after f span [] (slots_from q.slots) state given q out
change_code f (row_waits first before slots) state given span q out = change_after f first before slots state given q out
change_code f refused_waits state given span q out = change_after f span [] (slots_from q.slots) state given q out

-- a call or a `new` whose value is let go
abbrev pub discard_code : StaticFrame → Expression → Span → BlockPosition → SilicaTerms → Result SilicaTerms Stop
discard_code f e span q out =
    expression_code (around_at f q span) e (begun (slots_from q.slots) span out)
    >>= (λ x. Ok (then_terms x.0.terms (drops x.0.slots.references span)))

-- the condition of an `if` or a `while`, whose temporaries end before it is used
abbrev pub condition_code : StaticFrame → Expression → Span → BlockPosition → SilicaTerms → Result (SilicaTerms × Operand) Stop
condition_code f e span q out =
    value_code (around_at f q span) e (begun (slots_from q.slots) span out)
    >>= (λ x. Ok (then_terms x.0.terms (drops x.0.slots.references span), x.1))

-- a `return` with a value or with none
abbrev pub return_code : StaticFrame → Option Expression → Span → BlockPosition → SilicaTerms → Result SilicaTerms Stop
return_code f None span q out = Ok (with_term (with_term out unit_form span) (return_form None) span)
return_code f (Some e) span q out =
    value_code (around_at f q span) e (begun (slots_from q.slots) span out)
    >>= (λ x. Ok (with_term x.0.terms (return_form (Some x.1)) span))

-- a `revert`; without a text it has an empty one
abbrev pub revert_code : StaticFrame → Option Expression → Span → BlockPosition → SilicaTerms → Result SilicaTerms Stop
revert_code f None span q out =
    next_slot span (slots_from q.slots)
    >>= (λ s. Ok (with_term (with_term (with_term out unit_form span) (const_form s.1 (Text [])) span)
    (revert_form (slot_operand s.1 span)) span))
revert_code f (Some e) span q out =
    value_code (around_at f q span) e (begun (slots_from q.slots) span out)
    >>= (λ x. Ok (with_term x.0.terms (revert_form x.1) span))

-- a name as an operand
abbrev pub named_code : BlockPosition → SeenAt → Result Operand Stop
named_code q seen = found (place_seen q.variables seen.of) >>= (λ place. Ok (operand place seen.span))

-- the position after a statement that declares and stages nothing
abbrev pub past_statement : BlockPosition → SilicaTerms → Result (BlockPosition × SilicaTerms) Stop
past_statement q out = Ok (settled q, out)

-- Blocks.

-- the slots from the first number up to the second, the last first
abbrev pub slots_between : ℕ → ℕ → List ℕ
slots_between low zero = []
slots_between low (suc n) = if nat_le low n then n ∷ slots_between low n else []

-- the slots of a block's own variables are dropped where its end is reached, the last declared first
abbrev pub closed : Statements → ℕ → ℕ → Span → SilicaTerms → SilicaTerms
closed statements low high end out =
    if one_ends_there statements then out else then_terms out (drops (slots_between low high) end)

abbrev mutual
  -- a statement with the statements after it: the position after it, and the terms
  pub statement_code : StaticFrame → Statement → Statements → BlockPosition → SilicaTerms → Result (BlockPosition × SilicaTerms) Stop
  statement_code f (resolved_declare local name of value span) rest q out = declare_code f local name of value span q out
  statement_code f (resolved_assign target value span) rest q out = assign_code f target value span q out >>= past_statement q
  statement_code f (resolved_stage state given span) rest q out =
      stage_code f q.waiting (refused_at state span rest) given span q out
  statement_code f (resolved_change state given span) rest q out =
      change_code f q.waiting state given span q out >>= past_statement q
  statement_code f (resolved_discard value span) rest q out = discard_code f value span q out >>= past_statement q
  statement_code f (resolved_test subject state branch other span) rest q out =
      named_code q subject
      >>= (λ o. block_code f branch (settled q)
      >>= (λ x. otherwise_code f other (settled q)
      >>= (λ y. past_statement q (with_term (with_term out unit_form span) (test_form o state x y (join_of branch other)) span))))
  statement_code f (resolved_if condition branch other span) rest q out =
      condition_code f condition span q out
      >>= (λ c. block_code f branch (settled q)
      >>= (λ x. otherwise_code f other (settled q)
      >>= (λ y. past_statement q (with_term c.0 (if_form c.1 x y (join_of branch other)) span))))
  statement_code f (resolved_while condition body span) rest q out =
      condition_code f condition span q no_terms
      >>= (λ c. block_code f body (settled q)
      >>= (λ x. past_statement q (with_term out (loop_form c.0 c.1 x (block_end body)) (block_end body))))
  statement_code f (resolved_return value span) rest q out = return_code f value span q out >>= past_statement q
  statement_code f (resolved_revert text span) rest q out = revert_code f text span q out >>= past_statement q
  statement_code f (resolved_disown subject span) rest q out =
      named_code q subject >>= (λ o. past_statement q (with_term (with_term out unit_form span) (disown_form o) span))
  statement_code f (resolved_assert subject perm span) rest q out =
      named_code q subject >>= (λ o. past_statement q (with_term (with_term out unit_form span) (assert_form o perm) span))

  -- statements
  pub statements_code : StaticFrame → Statements → BlockPosition → SilicaTerms → Result (BlockPosition × SilicaTerms) Stop
  statements_code f no_statements q out = Ok (q, out)
  statements_code f (and_statement s rest) q out =
      statement_code f s rest q out >>= (λ x. statements_code f rest x.0 x.1)

  -- a block: its terms
  pub block_code : StaticFrame → Block → BlockPosition → Result SilicaTerms Stop
  block_code f (resolved_block statements end) q =
      statements_code f statements (settled q) no_terms
      >>= (λ x. Ok (closed statements q.slots x.0.slots end x.1))

  -- the block after `else`; where there is none, there are no terms
  pub otherwise_code : StaticFrame → Otherwise → BlockPosition → Result SilicaTerms Stop
  otherwise_code f no_otherwise q = Ok no_terms
  otherwise_code f (otherwise_block block) q = block_code f block q
