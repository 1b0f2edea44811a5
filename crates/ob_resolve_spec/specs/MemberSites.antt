-- The sites of members, contracts and programs (the Obsidian language documentation, "Contracts").
use Rattle.std.specs.Prelude.{ℕ, Bool, true, false, List, [], ◌∷◌, ◌++◌, map, flat_map, filter, length, Option, option_and_then}
use Rattle.std.specs.Option.{option_map_or}
use Rattle.ob_base.specs.Limits.{most_contracts, most_states, most_fields, most_transactions, most_params}
use Rattle.ob_base.specs.declared.fault.Span.{Span}
use Rattle.ob_tree.specs.Names.{Ref, ref_with, TypeExpr, ref_type}
use Rattle.ob_tree.specs.Stmts.{Block}
use Rattle.ob_tree.specs.Members.{Field, Formal, Listed, Member, state_member, field_member, constructor_member, transaction_member, Contract}
use Rattle.ob_tree.specs.declared.name.NamePart.{NamePart}
use Rattle.ob_tree.specs.declared.name.PermNode.{PermNode}
use Rattle.ob_tree.specs.declared.name.Subject.{Subject}
use Rattle.ob_tree.specs.declared.name.Subject.TheVariants.{This, Name as NameSubject}
use Rattle.ob_table_spec.specs.Names.{in_order, firsts}
use Rattle.ob_resolve_spec.specs.Declarations.{Program, contract_name, part_of_named, declared_contract, states_of, field_names, fields_of, params_of, transactions_of, constructors_of}
use Rattle.ob_resolve_spec.specs.Permissions.{known_permission}
use Rattle.ob_resolve_spec.specs.declared.kind.InferredKind.{InferredKind}
use Rattle.ob_resolve_spec.specs.declared.kind.InferredKind.TheVariants.{Nothing as nothing}
use Rattle.ob_resolve_spec.specs.Kinds.{contract_of_name, kind_of_ref, kind_of_result, interface_of}
use Rattle.ob_resolve_spec.specs.Visible.{an_interface, itself, Visible, visible_in}
use Rattle.ob_resolve_spec.specs.Scopes.{AroundBody, scope_of_params, kind_of_field}
use Rattle.ob_resolve_spec.specs.Sites.{Site, is_main, names_thing, names_state, names_field, is_inside_state, has_exit, takes_this, types_this, lists_field, gives_object, holds_object, implements_interface}
use Rattle.ob_resolve_spec.specs.TypeSites.{declared_sites, limit_sites, perm_sites, span_of_perm, ref_sites, type_sites, result_sites}
use Rattle.ob_resolve_spec.specs.StatementSites.{span_of_subject, body_sites}

-- Fields.

-- whose object a field of this type refers to, and how
abbrev pub holder_sites : Program → Contract → TypeExpr → Span → List Site
holder_sites program own (ref_type (ref_with of perm)) span =
    option_map_or (λ c. option_map_or (λ p. holds_object own c p span ∷ []) (known_permission c perm) [])
    (contract_of_name program (part_of_named of).name) []
holder_sites program own type span = []

-- a field: its type, and whom it owns
abbrev pub field_sites : Program → Contract → Field → List Site
field_sites program own f = type_sites (visible_in program own) f.of ++ holder_sites program own f.of f.name.span

-- Parameters.

-- `this` as a parameter
abbrev pub this_sites : Visible → ℕ → Bool → TypeExpr → Span → List Site
this_sites v before constructor (ref_type (ref_with of perm)) span =
    takes_this before constructor (ref_type (ref_with of perm)) span
    ∷ types_this v.own.name (kind_of_ref v.program (ref_with of perm)) (part_of_named of) ∷ []
this_sites v before constructor type span = takes_this before constructor type span ∷ []

-- a parameter by what it is called: `this` is asked for more
abbrev pub subject_param_sites : Visible → ℕ → Bool → TypeExpr → Subject → List Site
subject_param_sites v before constructor of (This span) = this_sites v before constructor of span
subject_param_sites v before constructor of (NameSubject name) = []

-- the type of a parameter, and what stands after `>>`
abbrev pub formal_type_sites : Visible → TypeExpr → Option PermNode → Span → List Site
formal_type_sites v (ref_type of) exit span = ref_sites v of exit
formal_type_sites v type exit span = has_exit type exit span ∷ []

-- one parameter after these, of a constructor or not
abbrev pub formal_sites : Visible → Bool → List Formal → Formal → List Site
formal_sites v constructor before f =
    formal_type_sites v f.of f.exit (span_of_subject f.name)
    ++ subject_param_sites v (length before) constructor f.of f.name

-- all of them; the names of fields are taken
abbrev pub formals_sites : Program → Contract → Bool → List Formal → List Site
formals_sites program own constructor formals =
    in_order (formal_sites (visible_in program own) constructor) formals
    ++ declared_sites (λ p. p.name) (field_names own) (params_of formals)
    ++ limit_sites (λ p. p.name) most_params (params_of formals)

-- Listed fields.

-- the type with which a field is listed, beside the field's own
abbrev pub listed_type_site : Program → Contract → NamePart → Ref → Site
listed_type_site program own field (ref_with of perm) =
    lists_field (kind_of_field program own field.name) (kind_of_ref program (ref_with of perm)) (part_of_named of).span

-- a second one of one name is looked at but for its type's fitting the field
abbrev pub listed_sites : Program → Contract → List Listed → List Site
listed_sites program own listed =
    flat_map (λ l. ref_sites (visible_in program own) l.of l.exit ++ names_field own l.name ∷ []) listed
    ++ declared_sites (λ l. l.name) [] listed
    ++ map (λ l. listed_type_site program own l.name l.of) (firsts (λ l. l.name.name) listed)

-- Members.

-- what stands around a body of this contract
abbrev pub around : Program → Contract → InferredKind → AroundBody
around program own result = record { program = program; own = own; result = result }

-- a body with these parameters
abbrev pub body_of_params_sites : Program → Contract → InferredKind → List Formal → Block → List Site
body_of_params_sites program own result params body =
    body_sites (around program own result) (scope_of_params program params) body

-- one member: what its names and types denote, and its body
abbrev pub member_sites : Program → Contract → Member → List Site
member_sites program own (state_member name fields span) =
    flat_map (λ f. is_inside_state f.available f.name.span ∷ field_sites program own f) fields
member_sites program own (field_member f) = map (names_state own) f.available ++ field_sites program own f
member_sites program own (constructor_member of perm params body span) =
    names_thing itself (visible_in program own) (part_of_named of)
    ∷ gives_object (known_permission own perm) (span_of_perm span perm)
    ∷ perm_sites own perm ++ formals_sites program own true params
    ++ body_of_params_sites program own nothing params body
member_sites program own (transaction_member private listed name params result body span) =
    listed_sites program own listed ++ formals_sites program own false params
    ++ result_sites (visible_in program own) result
    ++ option_map_or (body_of_params_sites program own (kind_of_result program result) params) body []

-- Contracts.

-- what a contract declares: states, fields, constructors and transactions
abbrev pub declaration_sites : Contract → List Site
declaration_sites own =
    declared_sites (λ s. s) [] (states_of own) ++ limit_sites (λ s. s) most_states (states_of own)
    ++ declared_sites (λ f. f.field.name) [] (fields_of own)
    ++ limit_sites (λ f. f.field.name) most_fields (fields_of own)
    ++ declared_sites (λ m. part_of_named m.of) [] (constructors_of own)
    ++ declared_sites (λ t. t.name) [] (transactions_of own)
    ++ limit_sites (λ t. t.name) most_transactions (transactions_of own)

-- the interface that a contract names, and what it asks of the contract
abbrev pub interface_sites : Program → Contract → List Site
interface_sites program own =
    option_map_or (λ named. names_thing an_interface (visible_in program own) (part_of_named named) ∷ []) own.implements []
    ++ option_map_or (λ interface. implements_interface program interface own own.span ∷ [])
    (option_and_then (declared_contract program) (interface_of program own)) []

-- a contract or an interface: what it declares, its interface, and each member
abbrev pub contract_sites : Program → Contract → List Site
contract_sites program own =
    declaration_sites own ++ interface_sites program own ++ flat_map (member_sites program own) own.members

-- the main contracts, one after another
abbrev pub main_sites : Program → List Site
main_sites program = in_order (λ before c. is_main before c.span ∷ []) (filter (λ c. c.main) program)

-- all sites of a program
abbrev pub sites_of : Program → List Site
sites_of program =
    declared_sites contract_name [] program ++ limit_sites contract_name most_contracts program ++ main_sites program
    ++ flat_map (contract_sites program) program
