use Rattle.std.proofs.Common.{◌≡◌, map, flat_map, drop}
use Rattle.ob_tree.specs.MembersView.{field_of, contract_of}
use Rattle.ob_resolve_scope.specs.Types.{program_of}
use Rattle.ob_resolve_sites.specs.Noted.{noted}
use Rattle.ob_resolve_members.specs.Parts.{inside_sites}
use Rattle.ob_resolve_members.proofs.fields.walk_fields_inside.Given as goal

abbrev pub invariant-loop-field : goal.invariant-loop-field
invariant-loop-field l =
    let sites = flat_map (inside_sites (program_of l.around.program) (contract_of l.around.own)) in
    noted l.least (sites (map field_of (drop l.field-index l.fields))) ≡ noted l.fn.least (sites (map field_of l.fields))
