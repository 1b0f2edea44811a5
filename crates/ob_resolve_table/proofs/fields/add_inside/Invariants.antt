use Rattle.std.proofs.Common.{◌≡◌, ◌++◌, map, take}
use Rattle.ob_tree.specs.MembersView.{contract_of}
use Rattle.ob_resolve_scope.specs.Types.{program_of}
use Rattle.ob_resolve_table.specs.Parts.{field_in_state}
use Rattle.ob_resolve_table.proofs.fields.add_inside.Given as goal

abbrev pub invariant-loop-field : goal.invariant-loop-field
invariant-loop-field l =
    l.fields ≡ l.fn.fields ++ map (field_in_state (program_of l.around.program) (contract_of l.around.own) l.state.name)
    (take l.field-index l.inside)
