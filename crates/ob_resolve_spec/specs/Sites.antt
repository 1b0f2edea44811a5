-- The places of a program at which something is asked of it, with what is needed there and what is there (this project's
-- own).
use Rattle.std.specs.Prelude.{ℕ, Bool, Option, List}
use Rattle.ob_base.specs.declared.fault.Span.{Span}
use Rattle.ob_tree.specs.Names.{TypeExpr}
use Rattle.ob_tree.specs.Members.{Contract}
use Rattle.ob_tree.specs.declared.name.NamePart.{NamePart}
use Rattle.ob_tree.specs.declared.name.PermNode.{PermNode}
use Rattle.ob_table_spec.specs.Names.{Name}
use Rattle.ob_resolve_spec.specs.Declarations.{Program}
use Rattle.ob_resolve_spec.specs.Permissions.{WrittenPermission}
use Rattle.ob_resolve_spec.specs.declared.kind.InferredKind.{InferredKind}
use Rattle.ob_resolve_spec.specs.Visible.{NameNeed, Visible}
use Rattle.ob_resolve_spec.specs.declared.variable.ScopeVariable.{ScopeVariable}

-- a place, what is needed there, and what is there
pub data Site : Type 0 where
  -- a thing gets a name beside things of these names
  declares_name : List Name → NamePart → Site
  -- a thing stands after so many others, and there may be so many
  counts_against_limit : ℕ → ℕ → Span → Site
  -- a main contract stands after these
  is_main : List Contract → Span → Site
  -- a name stands where there is a need, with what is visible there
  names_thing : NameNeed → Visible → NamePart → Site
  -- a name denotes a state of the contract
  names_state : Contract → NamePart → Site
  -- a name denotes a field of the contract
  names_field : Contract → NamePart → Site
  -- a field inside a state has these states after `available in`
  is_inside_state : List NamePart → Span → Site
  -- a parameter of this type has this after `>>`
  has_exit : TypeExpr → Option PermNode → Span → Site
  -- `this` is a parameter of this type after so many others, of a constructor or not
  takes_this : ℕ → Bool → TypeExpr → Span → Site
  -- the type of `this`, in the contract of this name, has this name and kind
  types_this : Name → InferredKind → NamePart → Site
  -- a value of the first kind is needed, and one of the second is there
  has_kind : Program → InferredKind → InferredKind → Span → Site
  -- a reference is needed, and a value of this kind is there
  needs_reference : InferredKind → Span → Site
  -- an int, bool or string is needed, and a value of this kind is there
  needs_plain_value : InferredKind → Span → Site
  -- a body with a result of this kind, or without one, returns a value of this kind, or none
  returns_from_body : Program → InferredKind → Option InferredKind → Span → Site
  -- a field of the first kind is listed with a type of the second
  lists_field : InferredKind → InferredKind → Span → Site
  -- so many arguments stand where there are so many parameters
  passes_arguments : ℕ → ℕ → Span → Site
  -- what is held so at the start is held so at the end, if both are known
  leaves_permission : Option WrittenPermission → Option WrittenPermission → Span → Site
  -- a constructor gives this, if it is known
  gives_object : Option WrittenPermission → Span → Site
  -- a field of the first contract refers to the second with this permission
  holds_object : Contract → Contract → WrittenPermission → Span → Site
  -- the second contract implements the first, an interface
  implements_interface : Program → Contract → Contract → Span → Site
  -- a body with a result of this kind, or without one, has this closing brace; whether its end isn't reached
  closes_body : InferredKind → Bool → Span → Site
  -- a statement; whether one before it in its block ends there
  follows_statement : Bool → Span → Site
  -- the variable of the assigned name, if there is one
  assigns_variable : Option ScopeVariable → Span → Site

-- where a site is
abbrev pub span_at : Site → Span
span_at (declares_name taken name) = name.span
span_at (counts_against_limit before most span) = span
span_at (is_main before span) = span
span_at (names_thing need visible name) = name.span
span_at (names_state c name) = name.span
span_at (names_field c name) = name.span
span_at (is_inside_state available span) = span
span_at (has_exit of exit span) = span
span_at (takes_this before constructor of span) = span
span_at (types_this own kind name) = name.span
span_at (has_kind program wanted has span) = span
span_at (needs_reference kind span) = span
span_at (needs_plain_value kind span) = span
span_at (returns_from_body program result value span) = span
span_at (lists_field field written span) = span
span_at (passes_arguments args params span) = span
span_at (leaves_permission entry exit span) = span
span_at (gives_object perm span) = span
span_at (holds_object own of perm span) = span
span_at (implements_interface program interface own span) = span
span_at (closes_body result ended span) = span
span_at (follows_statement ended span) = span
span_at (assigns_variable variable span) = span
