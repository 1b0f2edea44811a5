use Rattle.std.proofs.Common.{◌≡◌, map, flat_map, drop}
use Rattle.ob_tree.specs.MembersView.{listed_of, contract_of}
use Rattle.ob_resolve_scope.specs.Types.{program_of}
use Rattle.ob_resolve_sites.specs.Noted.{noted}
use Rattle.ob_resolve_members.specs.Parts.{listed_field_sites}
use Rattle.ob_resolve_members.proofs.listed.walk_listed_fields.Given as goal

abbrev pub invariant-loop-field : goal.invariant-loop-field
invariant-loop-field l =
    let sites = flat_map (listed_field_sites (program_of l.around.program) (contract_of l.around.own)) in
    noted l.least (sites (map listed_of (drop l.field-index l.listed))) ≡ noted l.fn.least (sites (map listed_of l.listed))
