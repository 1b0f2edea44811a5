-- The statements of a body that plain data represents.
use Rattle.std.specs.Prelude.{◌≡◌, List, [], ◌∷◌, Option, Some, None, map, option_map}
use Rattle.std.specs.Coded.{Coded, coded_list, code_by}
use Rattle.std.proofs.Common.{ap, ◌∙◌, refl}
use Rattle.ob_table.specs.ExpressionsView.{expression_of}
use Rattle.ob_table.specs.ExpressionsBack.{expression_back, expression_of-back}
use Rattle.ob_table.specs.Statements.{GivenField, Statement, resolved_declare, resolved_assign, resolved_stage, resolved_change, resolved_discard, resolved_test, resolved_if, resolved_while, resolved_return, resolved_revert, resolved_disown, resolved_assert, Block, resolved_block, Otherwise, no_otherwise, otherwise_block, Statements, no_statements, and_statement, ResolvedBody}
use Rattle.ob_table.specs.StatementsView.{given_field_of, statement_of, statements_of, resolved_block_of, otherwise_of, resolved_body_of, statement_of-Declare, statement_of-Assign, statement_of-Stage, statement_of-Change, statement_of-Call, statement_of-Test, statement_of-If, statement_of-While, statement_of-Return, statement_of-Revert, statement_of-Disown, statement_of-Assert, resolved_block_of-fields}
use Rattle.ob_table.specs.declared.body.Body.{Body}
use Rattle.ob_table.specs.declared.stmt.ResolvedGiven.{ResolvedGiven}
use Rattle.ob_table.specs.declared.stmt.ResolvedBlock.{ResolvedBlock}
use Rattle.ob_table.specs.declared.stmt.ResolvedStmt.{ResolvedStmt, Declare, Assign, Stage, Change, Call, Test, If, While, Return, Revert, Disown, Assert}

-- a field and the value that it is given
abbrev pub given_field_back : GivenField → ResolvedGiven
given_field_back given = record { field = given.field; span = given.span; value = expression_back given.value }

abbrev mutual
  -- a statement
  pub statement_back : Statement → ResolvedStmt
  statement_back (resolved_declare local name of value span) = Declare local name of (expression_back value) span
  statement_back (resolved_assign target value span) = Assign target (expression_back value) span
  statement_back (resolved_stage state given span) = Stage state (given_field_back given) span
  statement_back (resolved_change state given span) = Change state (map given_field_back given) span
  statement_back (resolved_discard value span) = Call (expression_back value) span
  statement_back (resolved_test subject state then other span) = Test subject state (block_back then) (otherwise_back other) span
  statement_back (resolved_if condition then other span) = If (expression_back condition) (block_back then) (otherwise_back other) span
  statement_back (resolved_while condition body span) = While (expression_back condition) (block_back body) span
  statement_back (resolved_return value span) = Return (option_map expression_back value) span
  statement_back (resolved_revert text span) = Revert (option_map expression_back text) span
  statement_back (resolved_disown subject span) = Disown subject span
  statement_back (resolved_assert subject perm span) = Assert subject perm span

  -- a block
  pub block_back : Block → ResolvedBlock
  block_back (resolved_block statements end) = record { statements = statements_back statements; end = end }

  -- the block after `else`, if there is one
  pub otherwise_back : Otherwise → Option ResolvedBlock
  otherwise_back no_otherwise = None
  otherwise_back (otherwise_block block) = Some (block_back block)

  -- statements in their order
  pub statements_back : Statements → List ResolvedStmt
  statements_back no_statements = []
  statements_back (and_statement s ss) = statement_back s ∷ statements_back ss

-- a body
abbrev pub body_back : ResolvedBody → Body
body_back body = record { contract = body.contract; tx = body.tx; statements = statements_back body.statements; end = body.end }

-- there and back, through what may be missing
pub option_there : {A B : Type 0} (f : A → B) (g : B → A) → ((a : A) → g (f a) ≡ a) → (item : Option A) → option_map g (option_map f item) ≡ item
option_there f g back None = refl
option_there f g back (Some a) = ap Some (back a)

-- there and back, through a list
pub list_there : {A B : Type 0} (f : A → B) (g : B → A) → ((a : A) → g (f a) ≡ a) → (items : List A) → map g (map f items) ≡ items
list_there f g back [] = refl
list_there f g back (a ∷ items) = ap (λ x. x ∷ map g (map f items)) (back a) ∙ ap (λ xs. a ∷ xs) (list_there f g back items)

pub given_field_of-back : (given : GivenField) → given_field_of (given_field_back given) ≡ given
given_field_of-back given = ap (λ value. record { field = given.field; span = given.span; value = value }) (expression_of-back given.value)

mutual
  pub statement_of-back : (s : Statement) → statement_of (statement_back s) ≡ s
  statement_of-back (resolved_declare local name of value span) =
      statement_of-Declare local name of (expression_back value) span ∙ ap (λ e. resolved_declare local name of e span) (expression_of-back value)
  statement_of-back (resolved_assign target value span) =
      statement_of-Assign target (expression_back value) span ∙ ap (λ e. resolved_assign target e span) (expression_of-back value)
  statement_of-back (resolved_stage state given span) =
      statement_of-Stage state (given_field_back given) span ∙ ap (λ g. resolved_stage state g span) (given_field_of-back given)
  statement_of-back (resolved_change state given span) =
      statement_of-Change state (map given_field_back given) span ∙ ap (λ gs. resolved_change state gs span) (list_there given_field_back given_field_of given_field_of-back given)
  statement_of-back (resolved_discard value span) =
      statement_of-Call (expression_back value) span ∙ ap (λ e. resolved_discard e span) (expression_of-back value)
  statement_of-back (resolved_test subject state then other span) =
      statement_of-Test subject state (block_back then) (otherwise_back other) span
      ∙ ap (λ b. resolved_test subject state b (otherwise_of (otherwise_back other)) span) (block_of-back then)
      ∙ ap (λ o. resolved_test subject state then o span) (otherwise_of-back other)
  statement_of-back (resolved_if condition then other span) =
      statement_of-If (expression_back condition) (block_back then) (otherwise_back other) span
      ∙ ap (λ e. resolved_if e (resolved_block_of (block_back then)) (otherwise_of (otherwise_back other)) span) (expression_of-back condition)
      ∙ ap (λ b. resolved_if condition b (otherwise_of (otherwise_back other)) span) (block_of-back then)
      ∙ ap (λ o. resolved_if condition then o span) (otherwise_of-back other)
  statement_of-back (resolved_while condition body span) =
      statement_of-While (expression_back condition) (block_back body) span
      ∙ ap (λ e. resolved_while e (resolved_block_of (block_back body)) span) (expression_of-back condition)
      ∙ ap (λ b. resolved_while condition b span) (block_of-back body)
  statement_of-back (resolved_return value span) =
      statement_of-Return (option_map expression_back value) span ∙ ap (λ e. resolved_return e span) (option_there expression_back expression_of expression_of-back value)
  statement_of-back (resolved_revert text span) =
      statement_of-Revert (option_map expression_back text) span ∙ ap (λ e. resolved_revert e span) (option_there expression_back expression_of expression_of-back text)
  statement_of-back (resolved_disown subject span) = statement_of-Disown subject span
  statement_of-back (resolved_assert subject perm span) = statement_of-Assert subject perm span

  pub block_of-back : (block : Block) → resolved_block_of (block_back block) ≡ block
  block_of-back (resolved_block statements end) =
      resolved_block_of-fields (record { statements = statements_back statements; end = end }) ∙ ap (λ ss. resolved_block ss end) (statements_of-back statements)

  pub otherwise_of-back : (other : Otherwise) → otherwise_of (otherwise_back other) ≡ other
  otherwise_of-back no_otherwise = refl
  otherwise_of-back (otherwise_block block) = ap otherwise_block (block_of-back block)

  pub statements_of-back : (ss : Statements) → statements_of (statements_back ss) ≡ ss
  statements_of-back no_statements = refl
  statements_of-back (and_statement s ss) =
      ap (λ x. and_statement x (statements_of (statements_back ss))) (statement_of-back s) ∙ ap (λ xs. and_statement s xs) (statements_of-back ss)

pub resolved_body_of-back : (body : ResolvedBody) → resolved_body_of (body_back body) ≡ body
resolved_body_of-back body = ap (λ ss. record { contract = body.contract; tx = body.tx; statements = ss; end = body.end }) (statements_of-back body.statements)

-- plain statements are told apart as the statements that they represent are
abbrev pub statements_code : Coded ResolvedStmt → Coded Statements
statements_code code = code_by (List ResolvedStmt) (coded_list code) statements_back statements_of statements_of-back
