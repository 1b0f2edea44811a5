use Rattle.std.proofs.Common.{refl}
use Rattle.std.proofs.lemmas.Result.{err_from_is_err_and, IfOk-weaker, IfErr-weaker}
use Rattle.ob_base.specs.TextErrors.{OnFault}
use Rattle.ob_tree.specs.MembersView.{tree_of}
use Rattle.ob_generic_spec.specs.TypeFaults.{IsFirstTypeFault}
use Rattle.ob_generic.specs.Instantiating.{HasInstanceTree}
use Rattle.ob_front.specs.Stages.{IsInstanceTreeOf, HasTableFault}
use Rattle.ob_front.proofs.StagesLaws.{told_of_tokens, told_of_text, told_of_types, made_is}
use Rattle.ob_front.proofs.stages.instance_tree.Goals as goal

pub returns-in_err-tree-clause-fault : goal.returns-in_err-tree-clause-fault
returns-in_err-tree-clause-fault c =
    let failed = err_from_is_err_and c.from_residual-in_err-tree.result c.from_residual-in_err-tree.ensures.1 in
    rw (failed.1, failed.2) (told_of_tokens _ _ _ _ c.in_ok-lexed.ensures.tokens refl c.in_err-tree.ensures.fault)

pub returns-in_err-lexed-clause-fault : goal.returns-in_err-lexed-clause-fault
returns-in_err-lexed-clause-fault c =
    let failed = err_from_is_err_and c.from_residual.result c.from_residual.ensures.1 in
    rw (failed.1, failed.2) (told_of_text _ _ c.in_err-lexed.ensures.fault)

pub returns-clause-tree : goal.returns-clause-tree
returns-clause-tree c =
    IfOk-weaker c.instances-made.result (λ made. HasInstanceTree (tree_of c.in_ok-tree.tree) (tree_of made))
    (λ made. IsInstanceTreeOf c.args.text.now (tree_of made))
    (λ made has. made_is _ _ _ _ (tree_of made) c.in_ok-lexed.ensures.tokens refl c.in_ok-tree.ensures.tree has)
    c.instances-made.ensures.tree

pub returns-clause-fault : goal.returns-clause-fault
returns-clause-fault c =
    IfErr-weaker c.instances-made.result (λ e. OnFault e (IsFirstTypeFault (tree_of c.in_ok-tree.tree)))
    (λ e. OnFault e (HasTableFault c.args.text.now))
    (λ cause has. told_of_types _ _ _ _ cause c.in_ok-lexed.ensures.tokens refl c.in_ok-tree.ensures.tree has)
    c.instances-made.ensures.fault
