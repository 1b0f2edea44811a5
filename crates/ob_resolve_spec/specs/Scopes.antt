-- The variables of a body, and the kinds of expressions (the Obsidian language documentation, "Statements" and
-- "Expressions"; the numbers of variables are this project's own).
use Rattle.std.specs.Prelude.{ℕ, ◌+◌, true, false, List, [], ◌∷◌, ◌++◌, map, length, Option, Some, None, option_and_then, if◌then◌else◌}
use Rattle.std.specs.Option.{option_map_or}
use Rattle.ob_base.specs.declared.operator.Operator.{Operator}
use Rattle.ob_base.specs.declared.operator.Operator.TheVariants.{Add, Sub, Mul, Div, Rem, Not}
use Rattle.ob_tree.specs.Names.{Named}
use Rattle.ob_tree.specs.Exprs.{Expr, number_expr, text_expr, bool_expr, name_expr, this_expr, unary_expr, binary_expr, call_expr, new_expr, call_with}
use Rattle.ob_tree.specs.Stmts.{Stmt, declare_stmt, assign_stmt, stage_stmt, change_stmt, call_stmt, test_stmt, if_stmt, while_stmt, return_stmt, revert_stmt, disown_stmt, assert_stmt, Block, block_with, Else, no_else, else_with, Stmts, no_stmts, and_stmt}
use Rattle.ob_tree.specs.Members.{Contract, Formal}
use Rattle.ob_tree.specs.declared.name.Subject.{Subject}
use Rattle.ob_tree.specs.declared.name.Subject.TheVariants.{This, Name as NameSubject}
use Rattle.ob_resolve_spec.specs.declared.variable.ScopeVariable.{ScopeVariable}
use Rattle.ob_table_spec.specs.Names.{Name, first_named, in_order}
use Rattle.ob_resolve_spec.specs.Declarations.{Program, part_of_named, field_named, Param, params_of, Transaction, transaction_named, Constructor, constructor_of}
use Rattle.ob_resolve_spec.specs.declared.kind.InferredKind.{InferredKind}
use Rattle.ob_resolve_spec.specs.declared.kind.InferredKind.TheVariants.{Int as an_int, Bool as a_bool, Text as a_text, Unknown as unknown}
use Rattle.ob_resolve_spec.specs.Kinds.{contract_of_name, contract_of_kind, kind_of_name, kind_of_type, kind_of_local, kind_of_result}
use Rattle.ob_resolve_spec.specs.Visible.{Visible}

-- what stands around a body: the program, the contract, and the kind of the result
pub record AroundBody : Type 0 where
  pub program : Program
  pub own : Contract
  pub result : InferredKind

-- the variables that are visible, and how many the body has had so far
pub record Scope : Type 0 where
  pub variables : List ScopeVariable
  pub count : ℕ

-- the variable of this name
abbrev pub variable_named : Scope → Name → Option ScopeVariable
variable_named s name = first_named (λ v. v.name) name s.variables

-- the names that are visible in a body
abbrev pub visible_at : AroundBody → Scope → Visible
visible_at a s = record { program = a.program; own = a.own; variables = map (λ v. v.name) s.variables }

-- The variables of a body are numbered from 1: first the parameters beside `this`, then the locals as they are declared.

-- the variable of a parameter after these
abbrev pub param_variable : Program → List Param → Param → List ScopeVariable
param_variable program before p = record {
  name = p.name.name;
  of = kind_of_type program p.of;
  number =
      length before + 1;
  is_param = true;
} ∷ []

-- a body begins with its parameters
abbrev pub scope_of_params : Program → List Formal → Scope
scope_of_params program formals = record {
  variables = in_order (param_variable program) (params_of formals);
  count =
      length (params_of formals);
}

-- the scope with one more local
abbrev pub with_local : Scope → Name → InferredKind → Scope
with_local s name kind = record {
  variables = s.variables ++ record { name = name; of = kind; number = s.count + 1; is_param = false } ∷ [];
  count = s.count + 1;
}

abbrev mutual
  -- how many locals a statement declares
  pub locals_in : Stmt → ℕ
  locals_in (declare_stmt of name value span) = 1
  locals_in (assign_stmt name value span) = 0
  locals_in (stage_stmt state field value span) = 0
  locals_in (change_stmt state given span) = 0
  locals_in (call_stmt value span) = 0
  locals_in (test_stmt subject state branch otherwise span) = locals_in_block branch + locals_in_else otherwise
  locals_in (if_stmt condition branch otherwise span) = locals_in_block branch + locals_in_else otherwise
  locals_in (while_stmt condition body span) = locals_in_block body
  locals_in (return_stmt value span) = 0
  locals_in (revert_stmt text span) = 0
  locals_in (disown_stmt name span) = 0
  locals_in (assert_stmt subject perm span) = 0

  -- how many locals a block declares
  pub locals_in_block : Block → ℕ
  locals_in_block (block_with statements end) = locals_in_stmts statements

  -- how many locals are declared after `else`
  pub locals_in_else : Else → ℕ
  locals_in_else no_else = 0
  locals_in_else (else_with block) = locals_in_block block

  -- how many locals statements declare
  pub locals_in_stmts : Stmts → ℕ
  locals_in_stmts no_stmts = 0
  locals_in_stmts (and_stmt x xs) = locals_in x + locals_in_stmts xs

-- the scope after so many locals of a block: they aren't visible after it
abbrev pub past : Scope → ℕ → Scope
past s n = record s { count = s.count + n }

-- the scope after a statement
abbrev pub after_stmt : AroundBody → Scope → Stmt → Scope
after_stmt a s (declare_stmt of name value span) = with_local s name.name (kind_of_local a.program of)
after_stmt a s x = past s (locals_in x)

-- The kinds of expressions.

-- the kind of `this`: a reference to the contract around it
abbrev pub kind_of_this : AroundBody → InferredKind
kind_of_this a = kind_of_name a.program a.own.name

-- the kind of a contract's field
abbrev pub kind_of_field : Program → Contract → Name → InferredKind
kind_of_field program c name = option_map_or (λ f. kind_of_type program f.of) (field_named c name) unknown

-- the kind of a variable or a field
abbrev pub kind_of_variable : AroundBody → Scope → Name → InferredKind
kind_of_variable a s name = option_map_or (λ v. v.of) (variable_named s name) (kind_of_field a.program a.own name)

-- the kind of `this`, or of a name
abbrev pub kind_of_subject : AroundBody → Scope → Subject → InferredKind
kind_of_subject a s (This span) = kind_of_this a
kind_of_subject a s (NameSubject name) = kind_of_variable a s name.name

-- the transaction of this name, unless it is private
abbrev pub public_transaction : Name → Contract → Option Transaction
public_transaction name c = option_and_then (λ t. if t.private then None else Some t) (transaction_named c name)

-- the transaction that is called: of the contract itself, or of a receiver's
abbrev pub called_transaction : AroundBody → Scope → Option Subject → Name → Option Transaction
called_transaction a s None name = transaction_named a.own name
called_transaction a s (Some (This span)) name = transaction_named a.own name
called_transaction a s (Some (NameSubject receiver)) name =
    option_and_then (public_transaction name) (contract_of_kind a.program (kind_of_variable a s receiver.name))

-- the constructor after `new`
abbrev pub constructed : Program → Named → Option Constructor
constructed program of =
    option_and_then (λ c. if c.interface then None else Some (constructor_of c))
    (contract_of_name program (part_of_named of).name)

-- an operator with one operand: what it needs and gives
abbrev pub kind_of_unary : Operator → InferredKind
kind_of_unary Not = a_bool
kind_of_unary operator = an_int

-- what an operator with two operands gives
abbrev pub kind_of_binary : Operator → InferredKind
kind_of_binary Add = an_int
kind_of_binary Sub = an_int
kind_of_binary Mul = an_int
kind_of_binary Div = an_int
kind_of_binary Rem = an_int
kind_of_binary operator = a_bool

-- the kind of an expression's value
abbrev pub kind_of : AroundBody → Scope → Expr → InferredKind
kind_of a s (number_expr value span) = an_int
kind_of a s (text_expr value span) = a_text
kind_of a s (bool_expr value span) = a_bool
kind_of a s (name_expr name span) = kind_of_variable a s name.name
kind_of a s (this_expr token span) = kind_of_this a
kind_of a s (unary_expr operator sign operand span) = kind_of_unary operator
kind_of a s (binary_expr operator sign left right span) = kind_of_binary operator
kind_of a s (call_expr (call_with receiver name args) span) =
    option_map_or (λ t. kind_of_result a.program t.result) (called_transaction a s receiver name.name) unknown
kind_of a s (new_expr of args span) =
    option_map_or (λ constructor. kind_of_name a.program (part_of_named of).name) (constructed a.program of) unknown
