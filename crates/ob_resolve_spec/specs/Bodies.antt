-- The bodies of a program with numbers in place of names (the Obsidian language documentation, "Statements" and
-- "Expressions").
use Rattle.std.specs.Prelude.{◌+◌, map, Option, Some, None, option_map}
use Rattle.std.specs.Option.{option_map_or}
use Rattle.ob_base.specs.declared.fault.Span.{Span}
use Rattle.ob_base.specs.declared.id.ContractId.{ContractId}
use Rattle.ob_tree.specs.Exprs.{Expr, number_expr, text_expr, bool_expr, name_expr, this_expr, unary_expr, binary_expr, call_expr, new_expr, Call, call_with, Exprs, no_exprs, and_expr}
use Rattle.ob_tree.specs.Stmts.{Stmt, declare_stmt, assign_stmt, stage_stmt, change_stmt, call_stmt, test_stmt, if_stmt, while_stmt, return_stmt, revert_stmt, disown_stmt, assert_stmt, Block, block_with, Else, no_else, else_with, Stmts, no_stmts, and_stmt}
use Rattle.ob_tree.specs.declared.name.NamePart.{NamePart}
use Rattle.ob_tree.specs.declared.name.Subject.{Subject}
use Rattle.ob_tree.specs.declared.name.Subject.TheVariants.{This as ThisSubject, Name as NameSubject}
use Rattle.ob_table.specs.Expressions.{Expression, resolved_number, resolved_text, resolved_bool, resolved_seen, resolved_unary, resolved_call, resolved_new, Arguments, no_arguments, and_argument}
use Rattle.ob_table.specs.Statements.{GivenField, Statement, resolved_declare, resolved_assign, resolved_stage, resolved_change, resolved_discard, resolved_test, resolved_if, resolved_while, resolved_return, resolved_revert, resolved_disown, resolved_assert, Block as ResolvedBlock, resolved_block, Otherwise, no_otherwise, otherwise_block, Statements, no_statements, and_statement}
use Rattle.ob_table.specs.declared.seen.Seen.{Seen}
use Rattle.ob_table.specs.declared.seen.Seen.TheVariants.{This, Local, Field}
use Rattle.ob_table.specs.declared.seen.SeenAt.{SeenAt}
use Rattle.ob_table.specs.declared.seen.Kind.{Kind}
use Rattle.ob_table.specs.declared.seen.Kind.TheVariants.{Int, Bool, Text, Reference}
use Rattle.ob_table_spec.specs.Names.{Name, number_of}
use Rattle.ob_resolve_spec.specs.Declarations.{part_of_named, number_of_contract, field_names}
use Rattle.ob_resolve_spec.specs.declared.kind.InferredKind.{InferredKind}
use Rattle.ob_resolve_spec.specs.declared.kind.InferredKind.TheVariants.{Int as an_int, Bool as a_bool, Text as a_text, Reference as a_reference, Nothing as nothing, Unknown as unknown}
use Rattle.ob_resolve_spec.specs.Kinds.{contract_of_kind, kind_of_local}
use Rattle.ob_resolve_spec.specs.Scopes.{AroundBody, Scope, variable_named, locals_in_block, past, after_stmt, kind_of_this, kind_of_subject}
use Rattle.ob_resolve_spec.specs.Operators.{unary_operator, resolved_between}
use Rattle.ob_resolve_spec.specs.Numbers.{contract_id, state_id, field_id, transaction_id, perm_on}

-- what a name denotes: a variable first, then a field
abbrev pub seen_name : AroundBody → Scope → Name → Seen
seen_name a s name =
    option_map_or (λ v. Local v.number) (variable_named s name)
    (option_map_or (λ n. Field (record { 0 = n })) (number_of name (field_names a.own)) This)

-- a name in a body, at its place
abbrev pub seen_at : AroundBody → Scope → NamePart → SeenAt
seen_at a s name = record { of = seen_name a s name.name; span = name.span }

-- `this`, or a name
abbrev pub seen_subject : AroundBody → Scope → Subject → SeenAt
seen_subject a s (ThisSubject span) = record { of = This; span = span }
seen_subject a s (NameSubject name) = seen_at a s name

-- the contract to which references of this kind refer
abbrev pub id_of_kind : InferredKind → ContractId
id_of_kind (a_reference n) = record { 0 = n }
id_of_kind kind = record { 0 = 0 }

-- the type of a local
abbrev pub resolved_local : InferredKind → Kind
resolved_local an_int = Int
resolved_local a_bool = Bool
resolved_local a_text = Text
resolved_local (a_reference n) = Reference (record { 0 = n })
resolved_local nothing = Int
resolved_local unknown = Int

-- a receiver; a call without one is a call on `this`
abbrev pub resolved_receiver : AroundBody → Scope → Option Subject → Option SeenAt
resolved_receiver a s None = None
resolved_receiver a s (Some (ThisSubject span)) = None
resolved_receiver a s (Some (NameSubject name)) = Some (seen_at a s name)

-- the kind of what is called
abbrev pub kind_of_receiver : AroundBody → Scope → Option Subject → InferredKind
kind_of_receiver a s receiver = option_map_or (kind_of_subject a s) receiver (kind_of_this a)

abbrev mutual
  -- an expression with numbers in place of names
  pub resolved_expr : AroundBody → Scope → Expr → Expression
  resolved_expr a s (number_expr value span) = resolved_number value span
  resolved_expr a s (text_expr value span) = resolved_text value span
  resolved_expr a s (bool_expr value span) = resolved_bool value span
  resolved_expr a s (name_expr name span) = resolved_seen (seen_at a s name) span
  resolved_expr a s (this_expr token span) = resolved_seen (record { of = This; span = token }) span
  resolved_expr a s (unary_expr operator sign operand span) =
      resolved_unary (unary_operator operator) sign (resolved_expr a s operand) span
  resolved_expr a s (binary_expr operator sign left right span) =
      resolved_between operator sign (resolved_expr a s left) (resolved_expr a s right) span
  resolved_expr a s (call_expr call span) = resolved_call_at a s call span
  resolved_expr a s (new_expr of args span) =
      resolved_new (contract_id (number_of_contract a.program (part_of_named of).name)) (resolved_args a s args) span

  -- a call with numbers in place of names, with the place of the whole
  pub resolved_call_at : AroundBody → Scope → Call → Span → Expression
  resolved_call_at a s (call_with receiver name args) span =
      resolved_call (resolved_receiver a s receiver) (id_of_kind (kind_of_receiver a s receiver))
      (transaction_id (contract_of_kind a.program (kind_of_receiver a s receiver)) name.name) name.span
      (resolved_args a s args) span

  -- arguments with numbers in place of names
  pub resolved_args : AroundBody → Scope → Exprs → Arguments
  resolved_args a s no_exprs = no_arguments
  resolved_args a s (and_expr e es) = and_argument (resolved_expr a s e) (resolved_args a s es)

-- a field and the value that it is given
abbrev pub resolved_given : AroundBody → Scope → NamePart → Expr → GivenField
resolved_given a s field value = record {
  field = field_id a.own field.name;
  span = field.span;
  value =
      resolved_expr a s value;
}

abbrev mutual
  -- a statement with numbers in place of names
  pub resolved_stmt : AroundBody → Scope → Stmt → Statement
  resolved_stmt a s (declare_stmt of name value span) =
      resolved_declare (s.count + 1) name.span (resolved_local (kind_of_local a.program of)) (resolved_expr a s value)
      span
  resolved_stmt a s (assign_stmt name value span) = resolved_assign (seen_at a s name) (resolved_expr a s value) span
  resolved_stmt a s (stage_stmt state field value span) =
      resolved_stage (state_id (Some a.own) state.name) (resolved_given a s field value) span
  resolved_stmt a s (change_stmt state given span) =
      resolved_change (state_id (Some a.own) state.name) (map (λ g. resolved_given a s g.field g.value) given) span
  resolved_stmt a s (call_stmt value span) = resolved_discard (resolved_expr a s value) span
  resolved_stmt a s (test_stmt subject state branch otherwise span) =
      resolved_test (seen_subject a s subject) (state_id (contract_of_kind a.program (kind_of_subject a s subject))
      state.name)
      (block_resolved a s branch) (else_resolved a (past s (locals_in_block branch)) otherwise) span
  resolved_stmt a s (if_stmt condition branch otherwise span) =
      resolved_if (resolved_expr a s condition) (block_resolved a s branch)
      (else_resolved a (past s (locals_in_block branch)) otherwise) span
  resolved_stmt a s (while_stmt condition body span) =
      resolved_while (resolved_expr a s condition) (block_resolved a s body) span
  resolved_stmt a s (return_stmt value span) = resolved_return (option_map (resolved_expr a s) value) span
  resolved_stmt a s (revert_stmt text span) = resolved_revert (option_map (resolved_expr a s) text) span
  resolved_stmt a s (disown_stmt name span) = resolved_disown (seen_at a s name) span
  resolved_stmt a s (assert_stmt subject perm span) =
      resolved_assert (seen_subject a s subject)
      (perm_on (contract_of_kind a.program (kind_of_subject a s subject)) perm) span

  -- a block with numbers in place of names
  pub block_resolved : AroundBody → Scope → Block → ResolvedBlock
  block_resolved a s (block_with statements end) = resolved_block (resolved_stmts a s statements) end

  -- what is after `else` with numbers in place of names
  pub else_resolved : AroundBody → Scope → Else → Otherwise
  else_resolved a s no_else = no_otherwise
  else_resolved a s (else_with block) = otherwise_block (block_resolved a s block)

  -- statements one after another with numbers in place of names
  pub resolved_stmts : AroundBody → Scope → Stmts → Statements
  resolved_stmts a s no_stmts = no_statements
  resolved_stmts a s (and_stmt x xs) = and_statement (resolved_stmt a s x) (resolved_stmts a (after_stmt a s x) xs)
