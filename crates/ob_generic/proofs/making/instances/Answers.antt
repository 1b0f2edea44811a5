use Rattle.std.proofs.Common.{map, subst}
use Rattle.std.specs.Prelude.{IfOk, IfErr}
use Rattle.ob_base.specs.TextErrors.{OnFault}
use Rattle.ob_tree.specs.MembersView.{contract_of, tree_of}
use Rattle.ob_generic_spec.specs.TypeFaults.{IsFirstTypeFault}
use Rattle.ob_generic.specs.Instantiating.{HasInstanceTree}
use Rattle.ob_generic.proofs.making.instances.Goals as goal

pub returns-clause-tree : goal.returns-clause-tree
returns-clause-tree c =
    subst (λ nodes. IfOk c.instances_in.result (λ made. HasInstanceTree (map contract_of nodes) (tree_of made)))
    c.as_slice.ensures c.instances_in.ensures.tree

pub returns-clause-fault : goal.returns-clause-fault
returns-clause-fault c =
    subst (λ nodes. IfErr c.instances_in.result (λ e. OnFault e (IsFirstTypeFault (map contract_of nodes))))
    c.as_slice.ensures c.instances_in.ensures.fault
