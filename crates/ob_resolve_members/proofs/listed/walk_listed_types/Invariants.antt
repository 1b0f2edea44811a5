use Rattle.std.proofs.Common.{◌≡◌, map, take}
use Rattle.ob_tree.specs.MembersView.{listed_of, contract_of}
use Rattle.ob_table_spec.specs.Names.{firsts}
use Rattle.ob_resolve_scope.specs.Numbered.{numbered}
use Rattle.ob_resolve_scope.specs.Types.{program_of}
use Rattle.ob_resolve_sites.specs.Noted.{noted}
use Rattle.ob_resolve_members.specs.Parts.{listed_types_sites}
use Rattle.ob_resolve_members.proofs.ListedLemmas.{rest_of_types}
use Rattle.ob_resolve_members.proofs.listed.walk_listed_types.Given as goal

abbrev pub invariant-loop-index : goal.invariant-loop-index
invariant-loop-index l = record {
  seen : l.seen ≡ numbered (map (λ x. x.name.name) (take l.index l.listed));
  sites : noted l.least (rest_of_types (program_of l.around.program) (contract_of l.around.own) l.listed l.index) ≡ noted l.fn.least (listed_types_sites (program_of l.around.program) (contract_of l.around.own) (firsts (λ l. l.name.name) (map listed_of l.listed)));
}
