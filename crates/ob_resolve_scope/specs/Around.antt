-- What stands around a body or a member, with the parts of the tree.
use Rattle.std.specs.Prelude.{List}
use Rattle.ob_tree.specs.MembersView.{contract_of}
use Rattle.ob_tree.specs.declared.contract.ContractNode.{ContractNode}
use Rattle.ob_resolve_spec.specs.Scopes.{AroundBody}
use Rattle.ob_resolve_spec.specs.declared.kind.InferredKind.{InferredKind}
use Rattle.ob_resolve_scope.specs.Types.{program_of}

-- the contracts of the program, the contract around, and the kind of the result
pub record Standing : Type 0 where
  pub program : List ContractNode
  pub own : ContractNode
  pub result : InferredKind

-- the same as plain data
abbrev pub around_of : Standing → AroundBody
around_of s = record { program = program_of s.program; own = contract_of s.own; result = s.result }
