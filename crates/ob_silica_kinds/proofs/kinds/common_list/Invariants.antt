use Rattle.std.proofs.Common.{◌≡◌, ◌++◌, drop}
use Rattle.ob_silica_kinds.specs.Kinds.{kinds_of, common_list}
use Rattle.ob_silica_kinds.proofs.kinds.common_list.Given as goal

abbrev pub invariant-loop-kind : goal.invariant-loop-kind
invariant-loop-kind l = record {
  place : l.index ≡ l.kind-index;
  same : l.slots ++ common_list (drop l.kind-index l.first) (kinds_of l.second) l.index
      ≡ common_list l.first (kinds_of l.second) 0;
}
