use Rattle.std.proofs.Common.{subst}
use Rattle.std.specs.Prelude.{IfOk, IfErr}
use Rattle.ob_base.specs.TextErrors.{OnFault}
use Rattle.ob_tree.specs.MembersView.{tree_of}
use Rattle.ob_parser_spec.specs.Grammar.{HasTree, HasSyntaxFault}
use Rattle.ob_front.proofs.stages.tree_of_tokens.Goals as goal

pub returns-clause-tree : goal.returns-clause-tree
returns-clause-tree c =
    subst (λ ts. IfOk c.parse-parsed.result (λ tree. HasTree ts (tree_of tree))) c.as_slice.ensures c.parse-parsed.ensures.tree

pub returns-clause-fault : goal.returns-clause-fault
returns-clause-fault c =
    subst (λ ts. IfErr c.parse-parsed.result (λ e. OnFault e (HasSyntaxFault ts c.args.lexed.end))) c.as_slice.ensures
    c.parse-parsed.ensures.fault
