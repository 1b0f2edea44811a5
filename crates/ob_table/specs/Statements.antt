-- Statements and bodies with numbers in place of names, as plain data, with each part and place, in its order (the Obsidian
-- language documentation, "Statements").
use Rattle.std.specs.Prelude.{ℕ, Option, List, [], ◌∷◌}
use Rattle.ob_base.specs.declared.fault.Span.{Span}
use Rattle.ob_base.specs.declared.id.ContractId.{ContractId}
use Rattle.ob_base.specs.declared.id.FieldId.{FieldId}
use Rattle.ob_base.specs.declared.id.StateId.{StateId}
use Rattle.ob_base.specs.declared.id.TxId.{TxId}
use Rattle.ob_base.specs.declared.permission.Perm.{Perm}
use Rattle.ob_table.specs.Expressions.{Expression}
use Rattle.ob_table.specs.declared.seen.SeenAt.{SeenAt}
use Rattle.ob_table.specs.declared.seen.Kind.{Kind}

-- a field, the place of its name, and the value that a change of state gives it
pub record GivenField : Type 0 where
  pub field : FieldId
  pub span : Span
  pub value : Expression

mutual
  -- a statement; the last place is that of the whole
  pub data Statement : Type 0 where
    -- the variable's number, the place of its name, its type and its first value
    resolved_declare : ℕ → Span → Kind → Expression → Span → Statement
    resolved_assign : SeenAt → Expression → Span → Statement
    resolved_stage : StateId → GivenField → Span → Statement
    resolved_change : StateId → List GivenField → Span → Statement
    -- a call or a `new` whose value is let go
    resolved_discard : Expression → Span → Statement
    resolved_test : SeenAt → StateId → Block → Otherwise → Span → Statement
    resolved_if : Expression → Block → Otherwise → Span → Statement
    resolved_while : Expression → Block → Span → Statement
    resolved_return : Option Expression → Span → Statement
    resolved_revert : Option Expression → Span → Statement
    resolved_disown : SeenAt → Span → Statement
    resolved_assert : SeenAt → Perm → Span → Statement

  -- statements, and the place of the closing brace
  pub data Block : Type 0 where
    resolved_block : Statements → Span → Block

  -- the block after `else`, if there is one
  pub data Otherwise : Type 0 where
    no_otherwise : Otherwise
    otherwise_block : Block → Otherwise

  -- statements in their order
  pub data Statements : Type 0 where
    no_statements : Statements
    and_statement : Statement → Statements → Statements

-- the statements of a list
abbrev pub statements : List Statement → Statements
statements [] = no_statements
statements (s ∷ ss) = and_statement s (statements ss)

-- the body of a transaction or a constructor, with the place of its closing brace
pub record ResolvedBody : Type 0 where
  pub contract : ContractId
  pub tx : TxId
  pub statements : Statements
  pub end : Span
