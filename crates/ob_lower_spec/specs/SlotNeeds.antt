-- Where a body needs slots, and where it needs one more than there are (this project's own). `this`, the parameters, the
-- visible variables, the variable being declared and the temporaries that haven't ended have one each. A variable gets its
-- slot before its value is evaluated, and the parts of an expression get theirs before the whole.
use Rattle.std.specs.Prelude.{◌≡◌, ℕ, ◌+◌, Bool, false, List, [], ◌∷◌, ◌++◌, length, Option, Some, None, is_some, nat_le, if◌then◌else◌}
use Rattle.std.specs.Option.{option_map_or, option_and_then}
use Rattle.ob_base.specs.Limits.{most_slots}
use Rattle.ob_base.specs.Faults.{limit}
use Rattle.ob_base.specs.declared.fault.ProgramFault.{ProgramFault}
use Rattle.ob_base.specs.declared.fault.Span.{Span}
use Rattle.ob_table.specs.Expressions.{Expression, resolved_number, resolved_text, resolved_bool, resolved_seen, resolved_unary, resolved_binary, resolved_logical, resolved_call, resolved_new, Arguments, no_arguments, and_argument}
use Rattle.ob_table.specs.Statements.{GivenField, Statement, resolved_declare, resolved_assign, resolved_stage, resolved_change, resolved_discard, resolved_test, resolved_if, resolved_while, resolved_return, resolved_revert, resolved_disown, resolved_assert, Block, resolved_block, Otherwise, no_otherwise, otherwise_block, Statements, no_statements, and_statement, ResolvedBody}
use Rattle.ob_table.specs.Tables.{ClassTable, contract_at, signature_at}
use Rattle.ob_table.specs.declared.contract.Contract.{Contract}
use Rattle.ob_table.specs.declared.contract.Signature.{Signature}
use Rattle.ob_table.specs.declared.seen.Seen.{Seen}
use Rattle.ob_table_spec.specs.WellFormed.{StaticFrame, LocalKinds, kind_of_seen, kind_of_expression, is_reference, params_from, frame_of}
use Rattle.ob_lower_spec.specs.Forms.{refused_at}

-- a slot that is needed: how many are in use with it, and the span where it is needed
pub record SlotNeed : Type 0 where
  pub slots : ℕ
  pub span : Span

-- one slot beside n others
abbrev pub one_more : ℕ → Span → List SlotNeed
one_more n span = record { slots = n + 1; span = span } ∷ []

-- Expressions.

-- whether a name denotes a reference, which needs no temporary
abbrev pub names_reference : StaticFrame → LocalKinds → Seen → Bool
names_reference f ls seen = option_map_or is_reference (kind_of_seen f ls seen) false

-- whether an expression has a value
abbrev pub has_value : StaticFrame → LocalKinds → Expression → Bool
has_value f ls e = is_some (kind_of_expression f ls e)

abbrev mutual
  -- how many temporaries an expression makes
  pub temporaries : StaticFrame → LocalKinds → Expression → ℕ
  temporaries f ls (resolved_number value span) = 1
  temporaries f ls (resolved_text value span) = 1
  temporaries f ls (resolved_bool value span) = 1
  temporaries f ls (resolved_seen seen span) = if names_reference f ls seen.of then 0 else 1
  temporaries f ls (resolved_unary operator sign operand span) = temporaries f ls operand + 1
  temporaries f ls (resolved_logical operator sign left right span) = temporaries f ls left + temporaries f ls right
  temporaries f ls (resolved_binary operator sign left right span) =
      temporaries f ls left + temporaries f ls right + 1
  temporaries f ls (resolved_call receiver contract tx name args span) =
      temporaries_of_all f ls args
      + (if has_value f ls (resolved_call receiver contract tx name args span) then 1 else 0)
  temporaries f ls (resolved_new contract args span) = temporaries_of_all f ls args + 1

  -- how many arguments make
  pub temporaries_of_all : StaticFrame → LocalKinds → Arguments → ℕ
  temporaries_of_all f ls no_arguments = 0
  temporaries_of_all f ls (and_argument e es) = temporaries f ls e + temporaries_of_all f ls es

abbrev mutual
  -- the slots that an expression needs beside n others, in their order
  pub needs : StaticFrame → LocalKinds → ℕ → Expression → List SlotNeed
  needs f ls n (resolved_number value span) = one_more n span
  needs f ls n (resolved_text value span) = one_more n span
  needs f ls n (resolved_bool value span) = one_more n span
  needs f ls n (resolved_seen seen span) = if names_reference f ls seen.of then [] else one_more n span
  needs f ls n (resolved_unary operator sign operand span) =
      needs f ls n operand ++ one_more (n + temporaries f ls operand) span
  needs f ls n (resolved_logical operator sign left right span) =
      needs f ls n left ++ needs f ls (n + temporaries f ls left) right
  needs f ls n (resolved_binary operator sign left right span) =
      needs f ls n left ++ needs f ls (n + temporaries f ls left) right
      ++ one_more (n + (temporaries f ls left + temporaries f ls right)) span
  needs f ls n (resolved_call receiver contract tx name args span) =
      needs_of_all f ls n args
      ++ (if has_value f ls (resolved_call receiver contract tx name args span)
      then one_more (n + temporaries_of_all f ls args) span else [])
  needs f ls n (resolved_new contract args span) =
      needs_of_all f ls n args ++ one_more (n + temporaries_of_all f ls args) span

  -- the slots that arguments need
  pub needs_of_all : StaticFrame → LocalKinds → ℕ → Arguments → List SlotNeed
  needs_of_all f ls n no_arguments = []
  needs_of_all f ls n (and_argument e es) =
      needs f ls n e ++ needs_of_all f ls (n + temporaries f ls e) es

-- the slots that the values of given fields need
abbrev pub needs_of_given : StaticFrame → LocalKinds → ℕ → List GivenField → List SlotNeed
needs_of_given f ls n [] = []
needs_of_given f ls n (g ∷ gs) = needs f ls n g.value ++ needs_of_given f ls (n + temporaries f ls g.value) gs

-- Statements.

-- The staged statements before a statement: none; those of a row, which keep so many temporaries; or those of a row that is
-- refused, which need no slot.
pub data Staged : Type 0 where
  none_staged : Staged
  row_staged : ℕ → Staged
  row_refused : Staged

-- how many temporaries they keep
abbrev pub kept_staged : Staged → ℕ
kept_staged none_staged = 0
kept_staged (row_staged kept) = kept
kept_staged row_refused = 0

-- the staged statements with one more, for which `refused` says whether a row that it begins is refused
abbrev pub staged_with : Staged → Option Span → ℕ → Staged
staged_with none_staged None made = row_staged made
staged_with none_staged (Some at) made = row_refused
staged_with (row_staged kept) refused made = row_staged (kept + made)
staged_with row_refused refused made = row_refused

-- the slots that a staged statement needs: none in a row that is refused
abbrev pub needs_of_staged : StaticFrame → LocalKinds → ℕ → Staged → Expression → List SlotNeed
needs_of_staged f ls n row_refused value = []
needs_of_staged f ls n (row_staged made) value = needs f ls n value
needs_of_staged f ls n none_staged value = []

-- the variables that are visible after a statement, the last declared first
abbrev pub visible_after : LocalKinds → Statement → LocalKinds
visible_after ls (resolved_declare local name of value span) = (local, of) ∷ ls
visible_after ls s = ls

-- the slots in use after a statement: a variable keeps its slot
abbrev pub in_use_after : ℕ → Statement → ℕ
in_use_after n (resolved_declare local name of value span) = n + 1
in_use_after n s = n

-- the staged statements after a statement
abbrev pub staged_after : StaticFrame → LocalKinds → Staged → Statement → Statements → Staged
staged_after f ls row (resolved_stage state given span) rest =
    staged_with row (refused_at state span rest) (temporaries f ls given.value)
staged_after f ls row s rest = none_staged

-- the slots that a value needs, if there is one
abbrev pub needs_of_value : StaticFrame → LocalKinds → ℕ → Option Expression → List SlotNeed
needs_of_value f ls n None = []
needs_of_value f ls n (Some e) = needs f ls n e

-- the slots that the text of a `revert` needs; one without a text needs a slot for the empty one
abbrev pub needs_of_revert : StaticFrame → LocalKinds → ℕ → Option Expression → Span → List SlotNeed
needs_of_revert f ls n None span = one_more n span
needs_of_revert f ls n (Some e) span = needs f ls n e

abbrev mutual
  -- the slots that a statement needs, with n in use and with the staged statements before it and the statements after it
  pub needs_of_statement : StaticFrame → LocalKinds → ℕ → Staged → Statement → Statements → List SlotNeed
  needs_of_statement f ls n row (resolved_declare local name of value span) rest =
      one_more n name ++ needs f ls (n + 1) value
  needs_of_statement f ls n row (resolved_assign target value span) rest = needs f ls n value
  needs_of_statement f ls n row (resolved_stage state given span) rest =
      needs_of_staged f ls (n + kept_staged row) (staged_with row (refused_at state span rest) 0) given.value
  needs_of_statement f ls n row (resolved_change state given span) rest =
      needs_of_given f ls (n + kept_staged row) given
  needs_of_statement f ls n row (resolved_discard value span) rest = needs f ls n value
  needs_of_statement f ls n row (resolved_test subject state branch other span) rest =
      needs_of_block f ls n branch ++ needs_of_otherwise f ls n other
  needs_of_statement f ls n row (resolved_if condition branch other span) rest =
      needs f ls n condition ++ needs_of_block f ls n branch ++ needs_of_otherwise f ls n other
  needs_of_statement f ls n row (resolved_while condition body span) rest =
      needs f ls n condition ++ needs_of_block f ls n body
  needs_of_statement f ls n row (resolved_return value span) rest = needs_of_value f ls n value
  needs_of_statement f ls n row (resolved_revert text span) rest = needs_of_revert f ls n text span
  needs_of_statement f ls n row (resolved_disown subject span) rest = []
  needs_of_statement f ls n row (resolved_assert subject perm span) rest = []

  -- the slots that statements need
  pub needs_of_statements : StaticFrame → LocalKinds → ℕ → Staged → Statements → List SlotNeed
  needs_of_statements f ls n row no_statements = []
  needs_of_statements f ls n row (and_statement s rest) =
      needs_of_statement f ls n row s rest
      ++ needs_of_statements f (visible_after ls s) (in_use_after n s) (staged_after f ls row s rest) rest

  -- the slots that a block needs
  pub needs_of_block : StaticFrame → LocalKinds → ℕ → Block → List SlotNeed
  needs_of_block f ls n (resolved_block statements end) = needs_of_statements f ls n none_staged statements

  -- the slots that the block after `else` needs
  pub needs_of_otherwise : StaticFrame → LocalKinds → ℕ → Otherwise → List SlotNeed
  needs_of_otherwise f ls n no_otherwise = []
  needs_of_otherwise f ls n (otherwise_block block) = needs_of_block f ls n block

-- Bodies.

-- the slots that the statements of a body with this signature need beside those of `this` and the parameters
abbrev pub needs_of_body : ClassTable → Contract → Signature → ResolvedBody → List SlotNeed
needs_of_body table own s body =
    needs_of_statements (frame_of table body.contract own s) (params_from 1 s.params) (length s.params + 1) none_staged
    body.statements

-- the place of the first slot past the most, if there is one
abbrev pub first_past : List SlotNeed → Option Span
first_past [] = None
first_past (need ∷ rest) = if nat_le need.slots most_slots then first_past rest else Some need.span

-- where the body of a constructor or transaction needs more slots than a body may have, if it does
abbrev pub slots_run_out : ClassTable → ResolvedBody → Option Span
slots_run_out table body =
    option_and_then (λ own. option_and_then (λ s. first_past (needs_of_body table own s body))
    (signature_at own body.tx)) (contract_at table body.contract)

-- The fault of a body that needs more slots than it may have, at the place of the first one past these.
pub record IsSlotFault (table : ClassTable) (body : ResolvedBody) (fault : ProgramFault) : Type 0 where
  pub number : fault.number ≡ limit
  pub place : slots_run_out table body ≡ Some fault.span
