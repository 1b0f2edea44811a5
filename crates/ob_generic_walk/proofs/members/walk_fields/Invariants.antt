use Rattle.std.proofs.Common.{◌≡◌, drop, map}
use Rattle.std.specs.List.{flat_map}
use Rattle.ob_tree.specs.MembersView.{field_of}
use Rattle.ob_generic_spec.specs.Uses.{types_in_field}
use Rattle.ob_generic_walk.specs.Seen.{met}
use Rattle.ob_generic_walk.proofs.members.walk_fields.Given as goal

abbrev pub invariant-loop-field : goal.invariant-loop-field
invariant-loop-field l =
    met l.around l.found (flat_map types_in_field (map field_of (drop l.field-index l.fields)))
    ≡ met l.around l.fn.found (flat_map types_in_field (map field_of l.fields))
