use Rattle.std.proofs.Common.{◌≡◌, ◌++◌, map, length, take}
use Rattle.ob_resolve_scope.specs.Numbered.{numbered_from}
use Rattle.ob_resolve_scope.specs.Members.{kind_of_node}
use Rattle.ob_resolve_scope.specs.Types.{program_of}
use Rattle.ob_resolve_scope.proofs.declared.add_fields.Given as goal

abbrev pub invariant-loop-field : goal.invariant-loop-field
invariant-loop-field l = record {
  names : l.names ≡ numbered_from l.fn.names (length l.fn.kinds) (map (λ f. f.name.name) (take l.field-index l.fields));
  kinds : l.kinds ≡ l.fn.kinds ++ map (kind_of_node (program_of l.types)) (take l.field-index l.fields);
}
