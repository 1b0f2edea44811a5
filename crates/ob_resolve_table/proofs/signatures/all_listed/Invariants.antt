use Rattle.std.proofs.Common.{◌≡◌, map, take}
use Rattle.ob_tree.specs.MembersView.{contract_of, listed_of}
use Rattle.ob_resolve_spec.specs.TableOf.{listed_in_table}
use Rattle.ob_resolve_scope.specs.Types.{program_of}
use Rattle.ob_resolve_table.proofs.signatures.all_listed.Given as goal

abbrev pub invariant-loop-one : goal.invariant-loop-one
invariant-loop-one l =
    l.made ≡ map (listed_in_table (program_of l.around.program) (contract_of l.around.own))
    (map listed_of (take l.one-index l.listed))
