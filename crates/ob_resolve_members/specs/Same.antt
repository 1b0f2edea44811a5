-- Types and parameters that are compared, in the parts of the tree.
use Rattle.std.specs.Prelude.{ℕ, List, map, drop, Option, None, slice_get}
use Rattle.ob_tree.specs.NamesView.{type_of}
use Rattle.ob_tree.specs.MembersView.{formal_of}
use Rattle.ob_tree.specs.declared.name.NamePart.{NamePart}
use Rattle.ob_tree.specs.declared.member.FormalNode.{FormalNode}
use Rattle.ob_tree.specs.declared.contract.ContractNode.{ContractNode}
use Rattle.ob_resolve_spec.specs.Declarations.{Param, params_of}
use Rattle.ob_resolve_spec.specs.declared.kind.InferredKind.{InferredKind}
use Rattle.ob_resolve_spec.specs.declared.kind.InferredKind.TheVariants.{Reference as a_reference}

-- the contract to which references of the first kind refer, where both are kinds of references
abbrev pub both_refer : List ContractNode → InferredKind → InferredKind → Option ContractNode
both_refer nodes (a_reference m) (a_reference n) = slice_get nodes m
both_refer nodes a b = None

-- a parameter with this name
abbrev pub param_of : FormalNode → NamePart → Param
param_of formal name = record { of = type_of formal.of; exit = formal.exit; name = name }

-- the parameters beside `this` from a place on
abbrev pub params_from : ℕ → List FormalNode → List Param
params_from i formals = params_of (map formal_of (drop i formals))
