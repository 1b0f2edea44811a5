use Rattle.std.proofs.Common.{◌≡◌, map, take}
use Rattle.std.specs.Prelude.{flat_map}
use Rattle.ob_tree.specs.MembersView.{contract_of, member_of}
use Rattle.ob_resolve_spec.specs.Declarations.{fields_of_member}
use Rattle.ob_resolve_spec.specs.TableOf.{field_in_table}
use Rattle.ob_resolve_scope.specs.Types.{program_of}
use Rattle.ob_resolve_table.proofs.fields.table_fields.Given as goal

abbrev pub invariant-loop-member : goal.invariant-loop-member
invariant-loop-member l =
    l.fields ≡ map (field_in_table (program_of l.around.program) (contract_of l.around.own))
    (flat_map fields_of_member (map member_of (take l.member-index l.members)))
