-- Parameters that come into scope, one after another.
use Rattle.std.specs.Prelude.{◌+◌, true, [], ◌∷◌, ◌++◌}
use Rattle.ob_tree.specs.Names.{TypeExpr}
use Rattle.ob_tree.specs.Members.{Formal}
use Rattle.ob_tree.specs.declared.name.Subject.{Subject}
use Rattle.ob_tree.specs.declared.name.Subject.TheVariants.{This, Name as NameSubject}
use Rattle.ob_resolve_spec.specs.Declarations.{Program}
use Rattle.ob_resolve_spec.specs.Kinds.{kind_of_type}
use Rattle.ob_resolve_spec.specs.Scopes.{Scope}

-- the scope with one more parameter of this type, unless it is `this`
abbrev pub with_subject : Program → Scope → TypeExpr → Subject → Scope
with_subject program s of (This span) = s
with_subject program s of (NameSubject name) = record {
  variables =
      s.variables ++ record { name = name.name; of = kind_of_type program of; number = s.count + 1; is_param = true }
      ∷ [];
  count = s.count + 1;
}

-- the scope with one more parameter
abbrev pub with_param : Program → Scope → Formal → Scope
with_param program s formal = with_subject program s formal.of formal.name
