-- The sites of parts of a declaration that are looked at by themselves.
use Rattle.std.specs.Prelude.{ℕ, Bool, List, [], ◌∷◌, ◌++◌, map, Option, Some, None}
use Rattle.ob_tree.specs.Names.{Ref, ref_with}
use Rattle.ob_tree.specs.Members.{Field, Formal, Listed, Contract}
use Rattle.ob_tree.specs.MembersView.{contract_of}
use Rattle.ob_table_spec.specs.Names.{Name}
use Rattle.ob_resolve_spec.specs.Declarations.{Program, part_of_named, field_names}
use Rattle.ob_resolve_spec.specs.Kinds.{kind_of_ref}
use Rattle.ob_resolve_spec.specs.Visible.{Visible, visible_in}
use Rattle.ob_resolve_spec.specs.Sites.{Site, names_field, is_inside_state, types_this}
use Rattle.ob_resolve_spec.specs.TypeSites.{ref_sites}
use Rattle.ob_resolve_spec.specs.StatementSites.{span_of_subject}
use Rattle.ob_resolve_spec.specs.MemberSites.{field_sites, formal_type_sites, subject_param_sites, listed_type_site}
use Rattle.ob_resolve_scope.specs.Types.{program_of}
use Rattle.ob_resolve_scope.specs.Around.{Standing}

-- what is visible among the members of the contract around
abbrev pub visible_around : Standing → Visible
visible_around s = visible_in (program_of s.program) (contract_of s.own)

-- the names of the fields of the contract around, or none where nothing stands around
abbrev pub taken_around : Option Standing → List Name
taken_around None = []
taken_around (Some s) = field_names (contract_of s.own)

-- a field inside a state
abbrev pub inside_sites : Program → Contract → Field → List Site
inside_sites program own f = is_inside_state f.available f.name.span ∷ field_sites program own f

-- the name in the type of `this`
abbrev pub type_of_this_sites : Visible → Ref → List Site
type_of_this_sites v (ref_with of perm) =
    types_this v.own.name (kind_of_ref v.program (ref_with of perm)) (part_of_named of) ∷ []

-- a parameter after so many others, of a constructor or not
abbrev pub formal_sites_after : Visible → Bool → ℕ → Formal → List Site
formal_sites_after v constructor before f =
    formal_type_sites v f.of f.exit (span_of_subject f.name) ++ subject_param_sites v before constructor f.of f.name

-- a listed field: its type, and its name
abbrev pub listed_field_sites : Program → Contract → Listed → List Site
listed_field_sites program own l = ref_sites (visible_in program own) l.of l.exit ++ names_field own l.name ∷ []

-- the types with which fields are listed, beside the fields' own
abbrev pub listed_types_sites : Program → Contract → List Listed → List Site
listed_types_sites program own = map (λ l. listed_type_site program own l.name l.of)
