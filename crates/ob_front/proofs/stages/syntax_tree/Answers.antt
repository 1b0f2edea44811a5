use Rattle.std.proofs.lemmas.Result.{err_from_is_err_and, IfOk-weaker, IfErr-weaker}
use Rattle.ob_base.specs.TextErrors.{OnFault}
use Rattle.ob_tree.specs.MembersView.{tree_of}
use Rattle.ob_parser_spec.specs.Grammar.{HasTree, HasSyntaxFault}
use Rattle.ob_front.specs.Stages.{IsTreeOf, HasTreeFault}
use Rattle.ob_front.proofs.StagesLaws.{no_tokens, no_tree, tree_is}
use Rattle.ob_front.proofs.stages.syntax_tree.Goals as goal

pub returns-in_err-lexed-clause-fault : goal.returns-in_err-lexed-clause-fault
returns-in_err-lexed-clause-fault c =
    let failed = err_from_is_err_and c.from_residual.result c.from_residual.ensures.1 in
    rw (failed.1, failed.2) (no_tokens _ _ c.in_err-lexed.ensures.fault)

pub returns-clause-tree : goal.returns-clause-tree
returns-clause-tree c =
    IfOk-weaker c.parse.result (λ tree. HasTree c.as_slice.result.now (tree_of tree)) (λ tree. IsTreeOf c.args.text.now (tree_of tree))
    (λ tree has. tree_is _ _ _ (tree_of tree) c.in_ok-lexed.ensures.tokens c.as_slice.ensures has)
    c.parse.ensures.tree

pub returns-clause-fault : goal.returns-clause-fault
returns-clause-fault c =
    IfErr-weaker c.parse.result (λ e. OnFault e (HasSyntaxFault c.as_slice.result.now c.in_ok-lexed.lexed.end))
    (λ e. OnFault e (HasTreeFault c.args.text.now))
    (λ cause has. no_tree _ _ _ cause c.in_ok-lexed.ensures.tokens c.as_slice.ensures has)
    c.parse.ensures.fault
