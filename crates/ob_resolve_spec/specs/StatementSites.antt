-- The sites of statements (the Obsidian language documentation, "Statements").
use Rattle.std.specs.Prelude.{Bool, false, ◌||◌, List, [], ◌∷◌, ◌++◌, map, Option, Some, None, option_map, if◌then◌else◌}
use Rattle.std.specs.Option.{option_map_or}
use Rattle.ob_base.specs.declared.fault.Span.{Span}
use Rattle.ob_tree.specs.Exprs.{Expr}
use Rattle.ob_tree.specs.Stmts.{GivenExpr, Stmt, declare_stmt, assign_stmt, stage_stmt, change_stmt, call_stmt, test_stmt, if_stmt, while_stmt, return_stmt, revert_stmt, disown_stmt, assert_stmt, Block, block_with, Else, no_else, else_with, Stmts, no_stmts, and_stmt}
use Rattle.ob_tree.specs.Members.{Contract}
use Rattle.ob_tree.specs.declared.name.NamePart.{NamePart}
use Rattle.ob_tree.specs.declared.name.Subject.{Subject}
use Rattle.ob_tree.specs.declared.name.Subject.TheVariants.{This, Name as NameSubject}
use Rattle.ob_table_spec.specs.Names.{Name, in_order}
use Rattle.ob_resolve_spec.specs.Declarations.{field_names}
use Rattle.ob_resolve_spec.specs.declared.kind.InferredKind.{InferredKind}
use Rattle.ob_resolve_spec.specs.declared.kind.InferredKind.TheVariants.{Bool as a_bool, Text as a_text, Unknown as unknown}
use Rattle.ob_resolve_spec.specs.Kinds.{contract_of_kind, kind_of_local}
use Rattle.ob_resolve_spec.specs.Visible.{a_variable}
use Rattle.ob_resolve_spec.specs.declared.variable.ScopeVariable.{ScopeVariable}
use Rattle.ob_resolve_spec.specs.Scopes.{AroundBody, Scope, variable_named, visible_at, locals_in_block, past, after_stmt, kind_of_field, kind_of_subject, kind_of}
use Rattle.ob_resolve_spec.specs.Reached.{ends, one_ends}
use Rattle.ob_resolve_spec.specs.Sites.{Site, declares_name, names_thing, names_state, names_field, returns_from_body, closes_body, follows_statement, assigns_variable}
use Rattle.ob_resolve_spec.specs.TypeSites.{perm_sites, local_sites}
use Rattle.ob_resolve_spec.specs.ExpressionSites.{reference_sites, expr_sites, value_sites}

-- the place of a statement
abbrev pub span_of_stmt : Stmt → Span
span_of_stmt (declare_stmt of name value span) = span
span_of_stmt (assign_stmt name value span) = span
span_of_stmt (stage_stmt state field value span) = span
span_of_stmt (change_stmt state given span) = span
span_of_stmt (call_stmt value span) = span
span_of_stmt (test_stmt subject state branch otherwise span) = span
span_of_stmt (if_stmt condition branch otherwise span) = span
span_of_stmt (while_stmt condition body span) = span
span_of_stmt (return_stmt value span) = span
span_of_stmt (revert_stmt text span) = span
span_of_stmt (disown_stmt name span) = span
span_of_stmt (assert_stmt subject perm span) = span

-- what is asked of the contract to which references of this kind refer
abbrev pub on_contract : AroundBody → InferredKind → (Contract → List Site) → List Site
on_contract a kind ask = option_map_or ask (contract_of_kind a.program kind) []

-- the subject of a test or an assertion; where it is no reference, that is told here
abbrev pub subject_sites : AroundBody → Scope → Subject → Span → List Site
subject_sites a s (This token) span = []
subject_sites a s (NameSubject name) span = reference_sites a s name span

-- the place of `this` or of a name
abbrev pub span_of_subject : Subject → Span
span_of_subject (This span) = span
span_of_subject (NameSubject name) = name.span

-- the kind of what is assigned, a local or a field; a parameter has a fault of its own
abbrev pub assigned : Option ScopeVariable → InferredKind → InferredKind
assigned None field = field
assigned (Some v) field = if v.is_param then unknown else v.of

-- the kind that is needed of what is assigned to a name
abbrev pub kind_of_target : AroundBody → Scope → Name → InferredKind
kind_of_target a s name = assigned (variable_named s name) (kind_of_field a.program a.own name)

-- a value for a field, after fields of these names in one list
abbrev pub given_sites : AroundBody → Scope → List Name → NamePart → Expr → List Site
given_sites a s before field value =
    declares_name before field ∷ names_field a.own field ∷ value_sites a s (kind_of_field a.program a.own field.name) value

-- the fields given with a change of state, after those of the row of staged statements before it
abbrev pub change_sites : AroundBody → Scope → List Name → List GivenExpr → List Site
change_sites a s row given =
    in_order (λ before g. given_sites a s (row ++ map (λ b. b.field.name) before) g.field g.value) given

-- the row of staged statements after a statement: the names of its fields
abbrev pub row_after : List Name → Stmt → List Name
row_after row (stage_stmt state field value span) = row ++ field.name ∷ []
row_after row x = []

-- what a return gives: nothing, or a value, of which the statement says what is needed
abbrev pub returned_sites : AroundBody → Scope → Option Expr → Span → List Site
returned_sites a s value span =
    returns_from_body a.program a.result (option_map (kind_of a s) value) span ∷ option_map_or (expr_sites a s) value []

abbrev mutual
  -- a statement after a row of staged ones for fields of these names
  pub stmt_sites : AroundBody → Scope → List Name → Stmt → List Site
  stmt_sites a s row (declare_stmt of name value span) =
      local_sites (visible_at a s) of
      ++ declares_name (map (λ v. v.name) s.variables ++ field_names a.own) name
      ∷ value_sites a s (kind_of_local a.program of) value
  stmt_sites a s row (assign_stmt name value span) =
      names_thing a_variable (visible_at a s) name
      ∷ assigns_variable (variable_named s name.name) name.span ∷ value_sites a s (kind_of_target a s name.name) value
  stmt_sites a s row (stage_stmt state field value span) = names_state a.own state ∷ given_sites a s row field value
  stmt_sites a s row (change_stmt state given span) = names_state a.own state ∷ change_sites a s row given
  stmt_sites a s row (call_stmt value span) = expr_sites a s value
  stmt_sites a s row (test_stmt subject state branch otherwise span) =
      subject_sites a s subject span
      ++ on_contract a (kind_of_subject a s subject) (λ c. names_state c state ∷ [])
      ++ block_sites a s branch ++ else_sites a (past s (locals_in_block branch)) otherwise
  stmt_sites a s row (if_stmt condition branch otherwise span) =
      value_sites a s a_bool condition ++ block_sites a s branch
      ++ else_sites a (past s (locals_in_block branch)) otherwise
  stmt_sites a s row (while_stmt condition body span) = value_sites a s a_bool condition ++ block_sites a s body
  stmt_sites a s row (return_stmt value span) = returned_sites a s value span
  stmt_sites a s row (revert_stmt text span) = option_map_or (value_sites a s a_text) text []
  stmt_sites a s row (disown_stmt name span) = reference_sites a s name name.span
  stmt_sites a s row (assert_stmt subject perm span) =
      subject_sites a s subject (span_of_subject subject)
      ++ on_contract a (kind_of_subject a s subject) (λ c. perm_sites c perm)

  -- what is asked of a block
  pub block_sites : AroundBody → Scope → Block → List Site
  block_sites a s (block_with statements end) = stmts_sites a s [] false statements

  -- what is asked of what is after `else`
  pub else_sites : AroundBody → Scope → Else → List Site
  else_sites a s no_else = []
  else_sites a s (else_with block) = block_sites a s block

  -- statements after such a row; whether one before them in their block ends there
  pub stmts_sites : AroundBody → Scope → List Name → Bool → Stmts → List Site
  stmts_sites a s row ended no_stmts = []
  stmts_sites a s row ended (and_stmt x xs) =
      follows_statement ended (span_of_stmt x)
      ∷ stmt_sites a s row x ++ stmts_sites a (after_stmt a s x) (row_after row x) (ended || ends x) xs

-- a body
abbrev pub body_sites : AroundBody → Scope → Block → List Site
body_sites a s (block_with statements end) =
    block_sites a s (block_with statements end) ++ closes_body a.result (one_ends statements) end ∷ []
